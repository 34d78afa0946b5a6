-- What a run of a script leaves fits, where its start does.
use Rattle.std.proofs.Common.{◌≡◌, ℕ, List, [], ◌∷◌, Option, Some, None, refl, sym, subst}
use Rattle.std.specs.Prelude.{slice_get, length, unwrap_or}
use Rattle.pl_types.specs.declared.ty.Ty.{Ty, out-Ty}
use Rattle.pl_types.specs.declared.ty.Ty.TheOpen.{Ty-F}
use Rattle.object_values.specs.declared.object.Object.{Object}
use Rattle.object_values.specs.declared.object.Owner.TheVariants.{Script as script_text}
use Rattle.object_values.specs.declared.value.Value.{Value}
use Rattle.object_values.specs.declared.value.Value.TheVariants as v
use Rattle.object_heap.specs.Fits.{Rules, Fits, ValueFits, AllFit}
use Rattle.object_heap.specs.Store.{Store}
use Rattle.object_heap.specs.declared.outcome.End as left_end
use Rattle.object_heap.specs.declared.outcome.End.TheVariants as l
use Rattle.object_heap.specs.declared.outcome.Outcome.{Outcome}
use Rattle.pl_code.specs.declared.kinds.Slot.{Slot}
use Rattle.pl_code.specs.declared.kinds.Slot.TheVariants as slot
use Rattle.verified_machine.specs.ContainerCallsLaws.{StillThere}
use Rattle.compiled_outcome.specs.World.{World, Limits as run_limits, End, Result}
use Rattle.typing_soundness.specs.ProgramRules.{FitsProgram, rules_of}
use Rattle.typing_soundness.specs.Worlds.{EndFits, WorldFits, count_in}
use Rattle.typing_soundness.proofs.Effects.{beginnings_fit}
use Rattle.typing_soundness.proofs.RunFitValues.{MadeFits}
use Rattle.verified_machine.specs.code_meaning_declared.word.Word.{Word}
use Rattle.verified_machine.specs.code_meaning_declared.word.Word.TheVariants.{I, J, R}
use Rattle.verified_machine.specs.Words.{boxed}
use Rattle.verified_machine.specs.Moments.{WordFits, WordsFit, ResultFits}
use Rattle.verified_machine.proofs.Words.{unboxed_fits, boxed_fits, plain_fits}
use Rattle.verified_machine.proofs.Steps.{starts_fit_all}
use Rattle.codegen.specs.Programs.{fun_of}
use Rattle.codegen.specs.Tree.{Fun}
use Rattle.codegen.specs.Meaning.{Env, Out, Done, Thrown, Over, More, Flow, entry, returned}
use Rattle.codegen.specs.Operating.{in_box}
use Rattle.typing_soundness.specs.SourceFitOuts.{OutFits, FlowFits}
use Rattle.typing_soundness.proofs.SourceFitValues as source
use Rattle.typing_soundness.proofs.SourceFitMeanings.{meanings_fit}
use Rattle.typed_tree.specs.declared.program.Program.{Program}
use Rattle.verified_machine.specs.machine_declared.configuration.Limits.{Limits}
use Rattle.verified_machine.specs.machine_declared.configuration.RunEnd.{RunEnd}
use Rattle.verified_machine.specs.machine_declared.configuration.RunEnd.TheVariants as r
use Rattle.verified_machine.specs.machine_declared.activation.RunOutcome as run_outcome
use Rattle.verified_machine.specs.Activations.{Activation}
use Rattle.verified_machine.specs.Fitting as machine
use Rattle.verified_machine.specs.CodeRules.{FitsCode, rules_of_codes}
use Rattle.verified_machine.specs.Code.{codes_in}
use Rattle.script_engine.specs.declared.compiling.Script.{Script}
use Rattle.script_engine.specs.Codes.{functions_in, script_codes}
use Rattle.script_engine.specs.Ends.{beside, given_layer, end_of, end_with, end_in}
use Rattle.script_engine.specs.Fitting.{EndFits as LeftEndFits, LeavesFit, KeepsItsProgram}
use Rattle.script_engine.specs.Laws.{ProgramsFit}
use Rattle.script_engine.specs.Preludes.{empty_program}
use Rattle.script_engine.specs.Running.{word_in, words_in, params_of, value_by, value_of, end_left, end_seen, LeftOf, RunsAsItsProgram, world_at, world_left, begun}

-- ---- where it begins

word_fits : (n : ℕ) (kind : Slot) (value : Value) → ValueFits n value → WordFits n (word_in kind value)
word_fits n slot.R value f = f
word_fits n slot.I value f = unboxed_fits n value f
word_fits n slot.J value f = unboxed_fits n value f

words_fit : (n : ℕ) (kinds : List Slot) (values : List Value) → AllFit n values → WordsFit n (words_in kinds values)
words_fit n [] values f = tt
words_fit n (kind ∷ kinds) [] f = tt
words_fit n (kind ∷ kinds) (value ∷ values) f = (word_fits n kind value f.0, words_fit n kinds values f.1)

-- what a run leaves that keeps to the rules of its codes, where it stands, it leaves by the rules of the script's and the prelude's
pub began_leaves : (script : Script) (store : Store) (args : List Value) (limits : Limits) (a : Activation) (Left : Rules → Type 0) → a ≡ begun script store args limits
    → (machine.NowFits (rules_of_codes (codes_in a.executable)) store.objects a.now → Left (rules_of_codes (codes_in a.executable)))
    → FitsCode (functions_in (script_codes script)) store → AllFit (length store.objects) args → Left (rules_of_codes (functions_in (script_codes script)))
began_leaves script store args limits a Left is leaves f g =
    let params = params_of (slice_get script.executable.code.functions 0) in
    subst (λ (x : Activation). machine.NowFits (rules_of_codes (codes_in x.executable)) store.objects x.now → Left (rules_of_codes (codes_in x.executable))) is leaves
    (starts_fit_all (functions_in (script_codes script)) (words_in params args) (world_at store limits) f (words_fit (length store.objects) params args g))

-- ---- what it leaves

made_or_null : (n : ℕ) (value : Option Value) → MadeFits n value → ValueFits n (unwrap_or value v.Null)
made_or_null n None f = tt
made_or_null n (Some value) f = f

value_fits : (n : ℕ) (layer : Ty-F Ty) (word : Option Word) → ResultFits n word → ValueFits n (value_by layer word)
value_fits n layer None f = tt
value_fits n Ty-F.Void (Some word) f = plain_fits n word f
value_fits n Ty-F.Null (Some word) f = plain_fits n word f
value_fits n Ty-F.Def (Some word) f = plain_fits n word f
value_fits n (Ty-F.Prim p) (Some word) f = made_or_null n (boxed p word) (boxed_fits n p word)
value_fits n (Ty-F.Class class) (Some word) f = plain_fits n word f
value_fits n (Ty-F.Array elem) (Some word) f = plain_fits n word f

some_end : (a b : left_end.End) → Some a ≡ Some b → a ≡ b
some_end a b e = cc

left_with : (rules : Rules) (before : List Object) (heap : Store) (o : Outcome) (end : left_end.End) → o.heap ≡ heap → o.end ≡ end → Fits rules heap.objects → StillThere before heap.objects
    → LeftEndFits heap.objects end → LeavesFit rules before o
left_with rules before heap o end same is f t e = record {
  fits = subst (λ (s : Store). Fits rules s.objects) (sym same) f;
  there = subst (λ (s : Store). StillThere before s.objects) (sym same) t;
  end = subst (λ (s : Store). LeftEndFits s.objects o.end) (sym same) (subst (λ x. LeftEndFits heap.objects x) (sym is) e);
}

left_by_end : (of : Ty) (end : RunEnd) (heap : Store) (reached : List ℕ) (o : Outcome) → end_left of end ≡ Some o.end → o.heap ≡ heap
    → (rules : Rules) (before : List Object) → machine.EndFits rules before (record { store = heap; ticks = 0; reached = reached }) end → LeavesFit rules before o
left_by_end of (r.Result word) heap reached o is same rules before h =
    left_with rules before heap o (l.Value (value_of of word)) same (sym (some_end _ o.end is)) h.0.fits h.0.there (value_fits (length heap.objects) (out-Ty of) word h.1)
left_by_end of (r.Thrown id place) heap reached o is same rules before h = left_with rules before heap o (l.Thrown id place) same (sym (some_end _ o.end is)) h.0.fits h.0.there h.1
left_by_end of (r.Limit which place) heap reached o is same rules before h = left_with rules before heap o (l.Limit which place) same (sym (some_end _ o.end is)) h.fits h.there tt
left_by_end of r.Stuck heap reached o is same rules before h = absurd (cc)

pub left_from : (of : Ty) (ran : run_outcome.RunOutcome) (o : Outcome) → LeftOf of ran o → (rules : Rules) (before : List Object) → machine.LeavesFit rules before ran → LeavesFit rules before o
left_from of ran o is rules before h = left_by_end of ran.end ran.heap ran.reached o is.end is.heap rules before h

-- ---- its program

given_layer_fits : (n : ℕ) (layer : Ty-F Ty) (value : Value) → ValueFits n value → ValueFits n (given_layer layer value)
given_layer_fits n Ty-F.Void value f = tt
given_layer_fits n Ty-F.Null value f = f
given_layer_fits n Ty-F.Def value f = f
given_layer_fits n (Ty-F.Prim p) value f = either (in_box p value) (source.in_box_fits n p value) where
  either : (boxed : Option Value) → MadeFits n boxed → ValueFits n (unwrap_or boxed value)
  either None g = f
  either (Some boxed) g = g
given_layer_fits n (Ty-F.Class class) value f = f
given_layer_fits n (Ty-F.Array elem) value f = f

-- an end that fits, if it is one
abbrev EndsFit : Rules → List Object → Option (End Value) → Type 0
EndsFit rules before None = Unit {0}
EndsFit rules before (Some end) = EndFits ValueFits rules before end

ends_with : (rules : Rules) (before : List Object) (of : Ty) (value : Option Value) (w : World) → WorldFits rules before w → MadeFits (count_in w) value → EndsFit rules before (end_with of value w)
ends_with rules before of None w h f = tt
ends_with rules before of (Some value) w h f = (h, given_layer_fits (count_in w) (out-Ty of) value f)

ends_of : (rules : Rules) (before : List Object) (n : ℕ) (of : Ty) (o : Out Flow) → OutFits FlowFits rules before n o → EndsFit rules before (end_of of o)
ends_of rules before n of (Done flow s e) h = ends_with rules before of (returned of flow) s.world h.0.0 (source.returned_fits (count_in s.world) of flow h.2)
ends_of rules before n of (Thrown id place s e) h = (h.0.0, h.2)
ends_of rules before n of (Over limit place w) h = h
ends_of rules before n of More h = tt

ends_in : (p prelude : Program) (limits : run_limits) (bound : ℕ) (main : Fun) (e : Option Env) (w : World) → FitsProgram (beside p prelude) w.store → source.EntryFits (count_in w) e
    → EndsFit (rules_of (beside p prelude)) w.store.objects (end_in p prelude limits bound main e w)
ends_in p prelude limits bound main None w f g = tt
ends_in p prelude limits bound main (Some e) w f g =
    ends_of (rules_of (beside p prelude)) w.store.objects (count_in w) main.result _
    ((meanings_fit w.store.objects (beside p prelude) limits bound).stmts main.body (record { text = script_text; depth = 0 }) (record { world = w; turns = 0 }) e
    (beginnings_fit (rules_of (beside p prelude)) w f, g))

pub programs_fit : ProgramsFit
programs_fit p prelude limits args w end f g run =
    subst (EndsFit (rules_of (beside p prelude)) w.store.objects) run.is
    (ends_in p prelude limits run.bound (fun_of p.main) (entry (fun_of p.main).params args []) w f (source.entry_fits (count_in w) (fun_of p.main).params args [] g tt))

-- ---- its script, by the rules of its program

left_seen : (rules : Rules) (before : List Object) (o : Outcome) (left : ℕ) (end : left_end.End) → o.end ≡ end → EndFits ValueFits rules before (end_seen end (world_left o left)) → LeavesFit rules before o
left_seen rules before o left (l.Value value) is h = record { fits = h.0.fits; there = h.0.there; end = subst (LeftEndFits o.heap.objects) (sym is) h.1 }
left_seen rules before o left (l.Thrown id place) is h = record { fits = h.0.fits; there = h.0.there; end = subst (LeftEndFits o.heap.objects) (sym is) h.1 }
left_seen rules before o left (l.Limit which place) is h = record { fits = h.fits; there = h.there; end = subst (LeftEndFits o.heap.objects) (sym is) tt }

pub scripts_keep : (script : Script) (store : Store) (args : List Value) (limits : Limits) (o : Outcome) → RunsAsItsProgram script store args limits o → KeepsItsProgram script store args o
scripts_keep script store args limits o runs allow context p is have f g =
    let ran = runs allow context p is have in
    left_seen (rules_of (beside p empty_program)) store.objects o ran.left o.end refl
    (programs_fit p empty_program _ args (world_at store limits) (end_seen o.end (world_left o ran.left)) f g ran.ends)
