-- What the line of a document that a script changes is bound to, and what is kept of it.
use Rattle.std.proofs.Common.{◌≡◌, ℕ, Bool, true, false, List, [], ◌∷◌, IfErr, IfOk, Option, Some, None, Result, Ok, Err, refl, sym, ap, ◌∙◌, subst, if◌then◌else◌, ◌&&◌}
use Rattle.std.specs.Prelude.{is_some}
use Rattle.std.specs.Str.{IsUtf8, is_utf8}
use Rattle.serde_json.specs.Data.{Data}
use Rattle.serde_json.specs.Find.{as_object}
use Rattle.serde_json.specs.Read.{read}
use Rattle.object_values.specs.declared.value.Value.{Value}
use Rattle.object_heap.specs.Fits.{Rules}
use Rattle.json_bridge.specs.Starts.{Start, Fault, syntax, number_outside, field, Answered, start_view}
use Rattle.json_bridge.specs.declared.error.BindErr.{BindErr}
use Rattle.json_bridge.specs.declared.error.BindErr.TheVariants as e
use Rattle.json_bridge.specs.declared.start.Bound.{Bound}
use Rattle.job_file.specs.Values.{has_whole_numbers}
use Rattle.search_ctx.specs.Laws as search
use Rattle.write_ctx.specs.Laws as write
use Rattle.write_ctx.specs.Laws.{LinesFit, LinesTyped}
use Rattle.write_ctx.specs.Keys.{is_line}
use Rattle.write_ctx.specs.Lines.{bound_document, bound_line, started}
use Rattle.write_ctx.specs.declared.keys.WriteKind.{WriteKind}
use Rattle.document_replies.specs.declared.context.BoundLine.{BoundLine}
use Rattle.document_replies.specs.ChangeLaws.{ChangesFit, ChangesTyped, StartHasMaps}
use Rattle.document_replies.specs.Changes.{Changes, change_start, ctx_in}
use Rattle.document_replies.specs.Jobs.{Binds}
use Rattle.document_replies.specs.LinesSeen.{KeepsCtx, only_bound}
use Rattle.document_replies.proofs.Starts.{answered_by}

-- the answer of binding is what a line is bound to
pub answered_change : (changes : Changes) (line : List ℕ) (result : Result Bound BindErr) → (IsUtf8 line → Answered result (bound_line changes.kind changes.params changes.room (read line)))
    → ((IsUtf8 line → ⊥) → Answered result (Err syntax)) → Answered result (change_start changes line)
answered_change changes line = answered_by (bound_line changes.kind changes.params changes.room (read line)) line

-- .. and its `ctx` is kept
pub ctx_kept : (bound : Bound) (result : Result (BoundLine Value) BindErr) (meaning : Result Start Fault) → IfOk result (λ (line : BoundLine Value). line.bound ≡ bound)
    → IfOk result (λ (line : BoundLine Value). line.kept ≡ ctx_in bound.args) → IfErr result (λ (error : BindErr). error ≡ e.NoMemory) → meaning ≡ Ok (start_view bound) → Binds KeepsCtx result meaning
ctx_kept bound (Ok line) meaning same kept error is =
    (is ∙ ap (λ (b : Bound). Ok (start_view b)) (sym same), kept ∙ ap (λ (b : Bound). ctx_in b.args) (sym same))
ctx_kept bound (Err error) meaning same kept none is = subst (λ (x : BindErr). Answered (Err x) meaning) (sym none) tt

-- what holds of the `ctx` that is kept holds of that of each start of which it is kept
pub kept_line : {X E : Type 0} (result : Result X E) (P : X → Value → Type 0) (kept : Value) → IfOk result (λ (x : X). P x kept)
    → IfOk result (λ (x : X). (from : Start) → KeepsCtx from kept → P x (ctx_in from.args))
kept_line (Ok x) P kept h = λ from is. subst (P x) is h
kept_line (Err error) P kept h = tt

-- a line that is bound without anything that is kept of it, where nothing is asked of that
pub bound_alone : {K L : Type 0} (keeps : Start → K → Type 0) (all : Start → L → Type 0) (found : Result (BoundLine K) BindErr) (result : Result (BoundLine L) BindErr) (meaning : Result Start Fault)
    → ((from : Start) (kept : L) → all from kept) → only_bound result ≡ only_bound found → Binds keeps found meaning → Binds all result meaning
bound_alone keeps all (Ok given) (Ok line) meaning any same is =
    let alike : given.bound ≡ line.bound = cc in
    (is.0 ∙ ap (λ (b : Bound). Ok (start_view b)) alike, any (start_view line.bound) line.kept)
bound_alone keeps all (Ok given) (Err error) meaning any same is = absurd cc
bound_alone keeps all (Err error) (Ok line) meaning any same is = absurd cc
bound_alone keeps all (Err error) (Err other) meaning any same is =
    let alike : error ≡ other = cc in
    subst (λ (x : BindErr). Answered (Err x) meaning) alike is

-- ---- what holds of each line that is read holds of each line

module _ (Holds : Result Start Fault → Type 0) (wrong : (fault : Fault) → Holds (Err fault)) where
  read_holds : (changes : Changes) → ((d : Data) → Holds (bound_document changes.kind changes.params changes.room d)) → (line : Option Data)
      → Holds (bound_line changes.kind changes.params changes.room line)
  read_holds changes h None = wrong syntax
  read_holds changes h (Some d) = h d

  pub change_holds : (changes : Changes) → ((d : Data) → Holds (bound_document changes.kind changes.params changes.room d)) → (line : List ℕ) → Holds (change_start changes line)
  change_holds changes h line = by (is_utf8 line) where
    by : (b : Bool) → Holds (if b then bound_line changes.kind changes.params changes.room (read line) else Err syntax)
    by true = read_holds changes h (read line)
    by false = wrong syntax

fits_too : (rules : Rules) (bound : Result Start Fault) → write.StartFits rules bound → search.StartFits rules bound
fits_too rules (Ok start) fits = fits
fits_too rules (Err fault) fits = tt

maps_too : (bound : Result Start Fault) → write.StartTyped bound → StartHasMaps bound
maps_too (Ok start) typed = typed
maps_too (Err fault) typed = tt

pub changes_all_fit : LinesFit → ChangesFit
changes_all_fit fit rules changes =
    change_holds (search.StartFits rules) (λ fault. tt) changes (λ d. fits_too rules (bound_document changes.kind changes.params changes.room d) (fit rules changes.kind changes.params changes.room d))

pub changes_all_typed : LinesTyped → ChangesTyped
changes_all_typed typed changes line object =
    change_holds StartHasMaps (λ fault. tt) changes
    (λ d. maps_too (bound_document changes.kind changes.params changes.room d) (typed changes.kind changes.params changes.room d object)) line

-- ---- arguments

-- the arguments of a start are the params and `ctx`
abbrev pub HasCtx : List Value → Type 0
HasCtx args = (params : Value) × (ctx : Value) × (args ≡ params ∷ ctx ∷ [])

abbrev pub StartHasCtx : Result Start Fault → Type 0
StartHasCtx (Ok start) = HasCtx start.args
StartHasCtx (Err fault) = Unit {0}

started_has : (kind : WriteKind) (params : Data) (room : ℕ) (line : Data) → StartHasCtx (Ok (started kind params room line))
started_has kind params room line = (_, _, refl)

document_has : (kind : WriteKind) (params : Data) (room : ℕ) (line : Data) → StartHasCtx (bound_document kind params room line)
document_has kind params room line = by (has_whole_numbers line && has_whole_numbers params) (is_line kind line) where
  by : (whole right : Bool) → StartHasCtx (if whole then (if right then Ok (started kind params room line) else Err field) else Err number_outside)
  by true true = started_has kind params room line
  by true false = tt
  by false right = tt

pub changes_have : (changes : Changes) (line : List ℕ) → StartHasCtx (change_start changes line)
changes_have changes = change_holds StartHasCtx (λ fault. tt) changes (document_has changes.kind changes.params changes.room)

pub changes_take : (changes : Changes) (line : List ℕ) (start : Start) → change_start changes line ≡ Ok start → HasCtx start.args
changes_take changes line start is = subst StartHasCtx is (changes_have changes line)
