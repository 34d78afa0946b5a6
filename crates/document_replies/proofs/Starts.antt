-- What a line is bound to, as the code sees it and as it is defined.
use Rattle.std.proofs.Common.{◌≡◌, ℕ, Bool, true, false, List, Result, Ok, Err, refl, sym, subst, if◌then◌else◌}
use Rattle.std.proofs.lemmas.Str.{IsUtf8-from_is_utf8, is_utf8-from_IsUtf8}
use Rattle.std.specs.Str.{IsUtf8, is_utf8}
use Rattle.serde_json.specs.Read.{read}
use Rattle.json_bridge.specs.Starts.{Start, Fault, syntax, Answered}
use Rattle.search_ctx.specs.Lines.{bound_line}
use Rattle.json_bridge.specs.declared.start.Bound.{Bound}
use Rattle.json_bridge.specs.declared.error.BindErr.{BindErr}
use Rattle.document_replies.specs.Searches.{Documents, HasArguments, start_of}
use Rattle.document_replies.proofs.Arguments.{StartTakes, bound_takes, start_takes}

contradicts : {b : Bool} → b ≡ true → b ≡ false → ⊥
contradicts holds fails = cc

-- the answer to a line that may be no UTF-8
pub answered_by : (meaning : Result Start Fault) (line : List ℕ) (result : Result Bound BindErr) → (IsUtf8 line → Answered result meaning) → ((IsUtf8 line → ⊥) → Answered result (Err syntax))
    → Answered result (if is_utf8 line then meaning else Err syntax)
answered_by meaning line result text bytes = by (is_utf8 line) refl where
  Meaning : Bool → Type 0
  Meaning b = Answered result (if b then meaning else Err syntax)

  by : (b : Bool) → is_utf8 line ≡ b → Meaning (is_utf8 line)
  by true is = subst Meaning (sym is) (text (IsUtf8-from_is_utf8 line is))
  by false is = subst Meaning (sym is) (bytes (λ utf8. contradicts (is_utf8-from_IsUtf8 line utf8) is))

-- the answer of binding is what a line is bound to
pub answered_start : (documents : Documents) (line : List ℕ) (result : Result Bound BindErr)
    → (IsUtf8 line → Answered result (bound_line documents.kind documents.fields documents.params documents.room (read line))) → ((IsUtf8 line → ⊥) → Answered result (Err syntax))
    → Answered result (start_of documents line)
answered_start documents line = answered_by (bound_line documents.kind documents.fields documents.params documents.room (read line)) line

-- .. and has the arguments of its kind
pub documents_take : (documents : Documents) (line : List ℕ) (start : Start) → start_of documents line ≡ Ok start → HasArguments documents.kind start.args
documents_take documents line start is = start_takes documents.kind start (start_of documents line) (by (is_utf8 line)) is where
  by : (b : Bool) → StartTakes documents.kind (if b then bound_line documents.kind documents.fields documents.params documents.room (read line) else Err syntax)
  by true = bound_takes documents.kind documents.fields documents.params documents.room (read line)
  by false = tt
