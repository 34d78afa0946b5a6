-- What a line of input is bound to: the store and the arguments with which a run over it starts, or what is wrong with it.
use Rattle.std.specs.Prelude.{ℕ, ℤ, int_le, pos, true, ◌&&◌, List, [], ◌∷◌, Option, Some, None, Result, Err, codes, option_map, option_and_then, if◌then◌else◌}
use Rattle.std.specs.Str.{bytes_eq}
use Rattle.serde_json.specs.Data.{Data, Members, no_members, member}
use Rattle.serde_json.specs.Find.{as_i64, as_number, as_object, get_member}
use Rattle.object_values.specs.declared.value.Value.{Value}
use Rattle.object_values.specs.declared.value.Value.TheVariants as v
use Rattle.job_file.specs.declared.mapping.FieldKind.{FieldKind}
use Rattle.job_file.specs.Values.{has_whole_numbers}
use Rattle.json_bridge.specs.Binding.{Bound, bound}
use Rattle.json_bridge.specs.Starts.{Start, Fault, syntax, number_outside, or_field}
use Rattle.search_ctx.specs.declared.values.FieldValues.{FieldValues}
use Rattle.search_ctx.specs.declared.line.SearchKind.{SearchKind}
use Rattle.search_ctx.specs.declared.line.SearchKind.TheVariants as k
use Rattle.search_ctx.specs.declared.line.Search.{Search as FoundSearch}
use Rattle.search_ctx.specs.DocValues.{doc_of_members}
use Rattle.search_ctx.specs.Placing.{doc_placed}

-- ---- what a context takes of a document

-- the key of the score in a line of the context score
abbrev pub score_key : List ℕ
score_key = codes "_score"

-- a number from 0
abbrev pub from_zero : ℤ → Option ℤ
from_zero z = if int_le (pos 0) z then Some z else None

abbrev pub score_in : Data → Option ℤ
score_in d = option_and_then from_zero (option_and_then as_i64 (as_number d))

-- the score of a document: 1 where it says none
abbrev pub score_of : Option Data → Option ℤ
score_of None = Some (pos 1)
score_of (Some d) = score_in d

-- the members but those of this name
abbrev pub without : List ℕ → Members → Members
without name no_members = no_members
without name (member other d ms) = if bytes_eq other name then without name ms else member other d (without name ms)

-- the doc values of a document, and its score where the context has one
pub record Search : Type 0 where
  pub doc : List FieldValues
  pub score : Option ℤ

abbrev pub plain_search : List (List ℕ × FieldKind) → Members → Option Search
plain_search fields ms = option_map (λ doc. record { doc = doc; score = None }) (doc_of_members fields ms)

abbrev pub scored_search : List (List ℕ × FieldKind) → Members → ℤ → Option Search
scored_search fields ms score = option_map (λ doc. record { doc = doc; score = Some score }) (doc_of_members fields (without score_key ms))

abbrev pub search_in : SearchKind → List (List ℕ × FieldKind) → Members → Option Search
search_in k.Filter fields ms = plain_search fields ms
search_in k.Score fields ms = option_and_then (scored_search fields ms) (score_of (get_member score_key ms))
search_in k.Field fields ms = plain_search fields ms

-- a document is an object
abbrev pub search_of : SearchKind → List (List ℕ × FieldKind) → Data → Option Search
search_of kind fields d = option_and_then (search_in kind fields) (as_object d)

-- ---- lines

-- the argument that a score is
abbrev pub score_args : Option ℤ → List Value
score_args None = []
score_args (Some score) = v.Long score ∷ []

-- a store with its room, and the values of the context's variables
abbrev pub start_at : Bound → Value → Option ℤ → ℕ → Start
start_at doc params score room = record {
  store = record { objects = doc.objects; room = room };
  args = params ∷ doc.value ∷ score_args score;
}

-- `params` stands first in the store, and nothing may change it; then `doc`
abbrev pub start_after : Bound → List (List ℕ × FieldKind) → ℕ → Search → Start
start_after params fields room wanted = start_at (doc_placed params.objects fields wanted.doc) params.value wanted.score room

abbrev pub started : List (List ℕ × FieldKind) → Data → ℕ → Search → Start
started fields params room wanted = start_after (bound true [] params) fields room wanted

-- The start for a document, or what is wrong: a number of the document or of `params` that is none of 64 bits with a sign, and
-- then a rule of the context.
abbrev pub bound_document : SearchKind → List (List ℕ × FieldKind) → Data → ℕ → Data → Result Start Fault
bound_document kind fields params room d =
    if has_whole_numbers d && has_whole_numbers params
    then or_field (option_map (started fields params room) (search_of kind fields d))
    else Err number_outside

-- the same for what a line is read as, if it is read
abbrev pub bound_line : SearchKind → List (List ℕ × FieldKind) → Data → ℕ → Option Data → Result Start Fault
bound_line kind fields params room None = Err syntax
bound_line kind fields params room (Some d) = bound_document kind fields params room d

-- ---- answers

abbrev pub search_view : FoundSearch → Search
search_view wanted = record { doc = wanted.doc; score = wanted.score }
