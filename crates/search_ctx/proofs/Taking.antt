-- Values that are taken one after another, and fields that are put in order one after another.
use Rattle.std.proofs.Common.{◌≡◌, ℕ, zero, suc, ◌≤◌, List, [], ◌∷◌, ◌++◌, length, map, refl, ap, sym, ◌∙◌, arith, Option, Some, None, slice_get, option_and_then, ◌+◌, ◌<◌, drop, slice_index_or, add-one}
use Rattle.serde_json.specs.Data.{Data, item}
use Rattle.serde_json.specs.View.{view, items_view}
use Rattle.serde_json.specs.declared.value.Value.{Value as Json}
use Rattle.job_file.specs.declared.mapping.FieldKind.{FieldKind}
use Rattle.json_bridge.specs.Binding.{BoundMembers, with_next_member}
use Rattle.search_ctx.specs.declared.values.FieldValues.{FieldValues}
use Rattle.search_ctx.specs.DocValues.{all_taken, taken, ordered, ordered_in, ordered_at, found, found_items}
use Rattle.search_ctx.specs.Fields.{texts_of}
use Rattle.search_ctx.specs.Placing.{lists_placed, lists_under, values_placed}

onward : List (ℕ × Data) → Option (List FieldValues) → Option (List FieldValues)
onward more doc = option_and_then (λ next. all_taken next more) doc

taken_both : (doc : List FieldValues) (front behind : List (ℕ × Data)) → all_taken doc (front ++ behind) ≡ onward behind (all_taken doc front)
unfolding onward
taken_both doc [] behind = refl
taken_both doc (one ∷ front) behind = by_case (taken doc one.0 one.1) (λ next. taken_both next front behind) where
  by_case : (o : Option (List FieldValues)) → ((next : List FieldValues) → all_taken next (front ++ behind) ≡ onward behind (all_taken next front))
      → option_and_then (λ next. all_taken next (front ++ behind)) o ≡ onward behind (option_and_then (λ next. all_taken next front) o)
  by_case None h = refl
  by_case (Some next) h = h next

pub taken_on : (doc next : List FieldValues) (front behind : List (ℕ × Data)) → all_taken doc front ≡ Some next → all_taken doc (front ++ behind) ≡ all_taken next behind
unfolding onward
taken_on doc next front behind e = taken_both doc front behind ∙ ap (onward behind) e

pub taken_not : (doc : List FieldValues) (front behind : List (ℕ × Data)) → all_taken doc front ≡ None → all_taken doc (front ++ behind) ≡ None
unfolding onward
taken_not doc front behind e = taken_both doc front behind ∙ ap (onward behind) e

-- the fields, of which so many in front are in order
abbrev pub ordered_front : ℕ → List FieldValues → List FieldValues
ordered_front zero doc = doc
ordered_front (suc n) [] = []
ordered_front (suc n) (values ∷ doc) = ordered values ∷ ordered_front n doc

cons_ordered : (values : FieldValues) (doc : List FieldValues) (n : ℕ) (found : Option FieldValues)
    → ordered_in (values ∷ doc) (suc n) found ≡ values ∷ ordered_in doc n found
cons_ordered values doc n None = refl
cons_ordered values doc n (Some one) = refl

pub one_more : (n : ℕ) (doc : List FieldValues) → ordered_at (ordered_front n doc) n ≡ ordered_front (suc n) doc
one_more zero [] = refl
one_more zero (values ∷ doc) = refl
one_more (suc n) [] = refl
one_more (suc n) (values ∷ doc) =
    cons_ordered (ordered values) (ordered_front n doc) n (slice_get (ordered_front n doc) n) ∙ ap (λ rest. ordered values ∷ rest) (one_more n doc)

pub all_of_them : (n : ℕ) (doc : List FieldValues) → length doc ≤ n → ordered_front n doc ≡ map ordered doc
all_of_them zero [] h = refl
all_of_them (suc n) [] h = refl
all_of_them zero (values ∷ doc) h = absurd (omega arith)
all_of_them (suc n) (values ∷ doc) h = ap (λ rest. ordered values ∷ rest) (all_of_them n doc (omega arith))

-- what is left of the items of an array, from the next one on
items_left : (values : List Json) (at : ℕ) (one : Json) → at < length values → one ≡ slice_index_or values at one
    → items_view (drop at values) ≡ item (view one) (items_view (drop (suc at) values))
items_left [] at one h e = absurd (omega arith)
items_left (value ∷ values) zero one h e = ap (λ (first : Json). item (view first) (items_view values)) (sym e)
items_left (value ∷ values) (suc at) one h e = items_left values at one (omega arith) e

pub items_on : (doc next : List FieldValues) (fields : List (List ℕ × FieldKind)) (path : List ℕ) (place : Option ℕ) (values : List Json) (at : ℕ) (one : Json)
    → at < length values → one ≡ slice_index_or values at one → all_taken doc (found fields path place (view one)) ≡ Some next
    → all_taken doc (found_items fields path place (items_view (drop at values))) ≡ all_taken next (found_items fields path place (items_view (drop (at + 1) values)))
items_on doc next fields path place values at one h e t =
    rw (add-one, items_left values at one h e) (taken_on doc next (found fields path place (view one)) (found_items fields path place (items_view (drop (suc at) values))) t)

pub items_not : (doc : List FieldValues) (fields : List (List ℕ × FieldKind)) (path : List ℕ) (place : Option ℕ) (values : List Json) (at : ℕ) (one : Json)
    → at < length values → one ≡ slice_index_or values at one → all_taken doc (found fields path place (view one)) ≡ None
    → all_taken doc (found_items fields path place (items_view (drop at values))) ≡ None
items_not doc fields path place values at one h e t =
    rw (items_left values at one h e) (taken_not doc (found fields path place (view one)) (found_items fields path place (items_view (drop (suc at) values))) t)

-- where no names are left, no list is placed
none_left : (lists : BoundMembers) (doc : List FieldValues) → lists_under lists doc [] ≡ lists
none_left lists [] = refl
none_left lists (values ∷ doc) = refl

pub no_more_names : (lists : BoundMembers) (doc : List FieldValues) (at : ℕ) (texts : List (List ℕ)) → length texts ≤ at → lists_under lists doc (drop at texts) ≡ lists
no_more_names lists doc zero [] h = none_left lists doc
no_more_names lists doc (suc at) [] h = none_left lists doc
no_more_names lists doc zero (text ∷ texts) h = absurd (omega arith)
no_more_names lists doc (suc at) (text ∷ texts) h = no_more_names lists doc at texts (omega arith)

-- lists under the texts of the names of fields are those of the fields
pub lists_by_texts : (lists : BoundMembers) (doc : List FieldValues) (fields : List (List ℕ × FieldKind)) → lists_under lists doc (texts_of fields) ≡ lists_placed lists doc fields
lists_by_texts lists [] fields = refl
lists_by_texts lists (values ∷ doc) [] = refl
lists_by_texts lists (values ∷ doc) (field ∷ fields) = lists_by_texts (with_next_member lists field.0 (values_placed lists.objects values)) doc fields
