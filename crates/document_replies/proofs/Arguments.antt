-- A line that is bound has the arguments of its kind.
use Rattle.std.proofs.Common.{◌≡◌, ℕ, ℤ, Bool, true, false, List, ◌∷◌, Option, Some, None, Result, Ok, Err, refl, ap, subst, if◌then◌else◌, ◌&&◌}
use Rattle.std.specs.Prelude.{option_map, option_and_then}
use Rattle.serde_json.specs.Data.{Data, Members}
use Rattle.serde_json.specs.Find.{as_object, get_member}
use Rattle.object_values.specs.declared.value.Value.{Value}
use Rattle.job_file.specs.declared.mapping.FieldKind.{FieldKind}
use Rattle.job_file.specs.Values.{has_whole_numbers}
use Rattle.search_ctx.specs.declared.values.FieldValues.{FieldValues}
use Rattle.search_ctx.specs.declared.line.SearchKind.{SearchKind}
use Rattle.search_ctx.specs.declared.line.SearchKind.TheVariants as k
use Rattle.search_ctx.specs.DocValues.{doc_of_members}
use Rattle.json_bridge.specs.Starts.{Start, Fault, number_outside, or_field}
use Rattle.search_ctx.specs.Lines.{Search, score_key, score_of, score_args, without, scored_search, search_in, search_of, started, bound_document, bound_line}
use Rattle.document_replies.specs.Searches.{HasArguments}

-- the score that a kind has
abbrev HasScore : SearchKind → Option ℤ → Type 0
HasScore k.Filter score = score ≡ None
HasScore k.Score score = (z : ℤ) × (score ≡ Some z)
HasScore k.Field score = score ≡ None

abbrev IsScored : SearchKind → Option Search → Type 0
IsScored kind None = Unit {0}
IsScored kind (Some wanted) = HasScore kind wanted.score

plain_scored : (fields : List (List ℕ × FieldKind)) (doc : Option (List FieldValues)) (kind : SearchKind) → HasScore kind None
    → IsScored kind (option_map (λ (d : List FieldValues). record { doc = d; score = None }) doc)
plain_scored fields None kind none = tt
plain_scored fields (Some doc) kind none = none

with_score : (doc : Option (List FieldValues)) (score : ℤ) → IsScored k.Score (option_map (λ (d : List FieldValues). record { doc = d; score = Some score }) doc)
with_score None score = tt
with_score (Some doc) score = (score, refl)

scored : (fields : List (List ℕ × FieldKind)) (ms : Members) (score : Option ℤ) → IsScored k.Score (option_and_then (scored_search fields ms) score)
scored fields ms None = tt
scored fields ms (Some score) = with_score (doc_of_members fields (without score_key ms)) score

in_scored : (kind : SearchKind) (fields : List (List ℕ × FieldKind)) (ms : Members) → IsScored kind (search_in kind fields ms)
in_scored k.Filter fields ms = plain_scored fields (doc_of_members fields ms) k.Filter refl
in_scored k.Score fields ms = scored fields ms (score_of (get_member score_key ms))
in_scored k.Field fields ms = plain_scored fields (doc_of_members fields ms) k.Field refl

search_scored : (kind : SearchKind) (fields : List (List ℕ × FieldKind)) (members : Option Members) → IsScored kind (option_and_then (search_in kind fields) members)
search_scored kind fields None = tt
search_scored kind fields (Some ms) = in_scored kind fields ms

args_of : (kind : SearchKind) (params doc : Value) (score : Option ℤ) → HasScore kind score → HasArguments kind (params ∷ doc ∷ score_args score)
args_of k.Filter params doc score none = (params, doc, ap (λ (s : Option ℤ). params ∷ doc ∷ score_args s) none)
args_of k.Score params doc score has = (params, doc, has.0, ap (λ (s : Option ℤ). params ∷ doc ∷ score_args s) has.1)
args_of k.Field params doc score none = (params, doc, ap (λ (s : Option ℤ). params ∷ doc ∷ score_args s) none)

-- the arguments of what a line is bound to
abbrev pub StartTakes : SearchKind → Result Start Fault → Type 0
StartTakes kind (Ok start) = HasArguments kind start.args
StartTakes kind (Err wrong) = Unit {0}

started_takes : (kind : SearchKind) (fields : List (List ℕ × FieldKind)) (params : Data) (room : ℕ) (wanted : Option Search) → IsScored kind wanted
    → StartTakes kind (or_field (option_map (started fields params room) wanted))
started_takes kind fields params room None is = tt
started_takes kind fields params room (Some wanted) is = args_of kind _ _ wanted.score is

document_takes : (kind : SearchKind) (fields : List (List ℕ × FieldKind)) (params : Data) (room : ℕ) (d : Data) → StartTakes kind (bound_document kind fields params room d)
document_takes kind fields params room d = by_case (has_whole_numbers d && has_whole_numbers params) where
  by_case : (b : Bool) → StartTakes kind (if b then or_field (option_map (started fields params room) (search_of kind fields d)) else Err number_outside)
  by_case true = started_takes kind fields params room (search_of kind fields d) (search_scored kind fields (as_object d))
  by_case false = tt

pub bound_takes : (kind : SearchKind) (fields : List (List ℕ × FieldKind)) (params : Data) (room : ℕ) (found : Option Data) → StartTakes kind (bound_line kind fields params room found)
bound_takes kind fields params room None = tt
bound_takes kind fields params room (Some d) = document_takes kind fields params room d

-- where it is bound
pub start_takes : (kind : SearchKind) (start : Start) (bound : Result Start Fault) → StartTakes kind bound → bound ≡ Ok start → HasArguments kind start.args
start_takes kind start bound takes is = subst (StartTakes kind) is takes
