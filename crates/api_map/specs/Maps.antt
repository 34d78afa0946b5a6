-- The members of Map. What is frozen or guarded throws before all else, and then a key that is not simple.
use Rattle.std.specs.Prelude.{ℕ, nat_le, ℤ, pos, Bool, true, false, Option, Some, None, List, [], ◌∷◌, ◌++◌, codes, slice_get, if◌then◌else◌}
use Rattle.pl_units.specs.Utf16.{units}
use Rattle.object_values.specs.declared.object.Object.{Object}
use Rattle.object_values.specs.declared.object.Object.TheVariants as o
use Rattle.object_values.specs.declared.object.Guard.TheVariants as g
use Rattle.object_values.specs.declared.object.Part.{Part}
use Rattle.object_values.specs.declared.value.Value.{Value}
use Rattle.object_values.specs.declared.value.Value.TheVariants as v
use Rattle.object_values.specs.Pairs.{value_of}
use Rattle.object_heap.specs.Objects.{changed}
use Rattle.object_heap.specs.Parts.{guard_of, pairs_of, size_of}
use Rattle.value_walks.specs.declared.TheConstants.{VISITS}
use Rattle.value_walks.specs.Equality.{value_now}
use Rattle.value_walks.specs.Texts.{Text, Wrote, TooDeep, TooLarge, text_of}
use Rattle.container_outcomes.specs.declared.outcome.Raised.TheVariants as raised
use Rattle.container_outcomes.specs.declared.outcome.Outcome.{Outcome}
use Rattle.container_outcomes.specs.declared.outcome.Outcome.TheVariants.{Gives, New, Puts, CutsKey, DropsKey, Empties, Throws}
use Rattle.api_map.specs.Arguments.{map_at, with_key}
use Rattle.container_outcomes.specs.Choices.{with_one, with_two, with_three}
use Rattle.api_map.specs.Guards.{is_mapped, may_put}
use Rattle.container_outcomes.specs.Guards.{is_open}
use Rattle.container_outcomes.specs.Outcomes.{flag, has_key, too_deep, too_large, unsupported}
use Rattle.api_map.specs.Searching.{compared_with, first_from}
use Rattle.container_outcomes.specs.Comparing.{where_equal, where_found}

-- a count as an int, at most the greatest one
abbrev pub count_as_int : ℕ → ℤ
count_as_int n = if nat_le n 2147483647 then pos n else pos 2147483647

abbrev pub size_given : List Object → ℕ → Outcome
size_given objects id = Gives (v.Int (count_as_int (size_of objects id)))

abbrev pub is_none_left : ℕ → Bool
is_none_left n = nat_le n 0

abbrev pub emptiness_given : List Object → ℕ → Outcome
emptiness_given objects id = flag (is_none_left (size_of objects id))

-- A map or a set without its pairs, if it had any, which is one change. (What may be cleared is open.)
abbrev pub empty_map : ℕ → ℕ → ℕ → Outcome
empty_map id class changes = Empties id (o.Map class [] g.Open (changed changes))

abbrev pub empty_set : ℕ → ℕ → ℕ → Outcome
empty_set id class changes = Empties id (o.Set class [] g.Open (changed changes))

abbrev pub map_emptied : ℕ → ℕ → List (Value × Value) → ℕ → Outcome
map_emptied id class [] changes = Gives v.Null
map_emptied id class (pair ∷ pairs) changes = empty_map id class changes

abbrev pub set_emptied : ℕ → ℕ → List (Value × Value) → ℕ → Outcome
set_emptied id class [] changes = Gives v.Null
set_emptied id class (item ∷ items) changes = empty_set id class changes

abbrev pub emptied : ℕ → Option Object → Outcome
emptied id (Some (o.Map class pairs guard changes)) = map_emptied id class pairs changes
emptied id (Some (o.Set class items guard changes)) = set_emptied id class items changes
emptied id found = Gives v.Null

abbrev pub cleared : List Object → ℕ → Outcome
cleared objects id = if is_open (guard_of objects id) then emptied id (slice_get objects id) else unsupported

-- whether a key is there
abbrev pub key_found : List Object → ℕ → Value → Outcome
key_found objects id key = with_key key (flag (has_key objects id key))

-- whether a value is one of a map's
abbrev pub value_found : List Object → ℕ → Value → Outcome
value_found objects id value = where_found (first_from objects value 0 (pairs_of objects id)) (λ at. flag true) (flag false)

-- goes on with the text of a walk
abbrev pub followed_by : Text → (List ℕ → Outcome) → Outcome
followed_by (Wrote text visits) next = next text
followed_by TooDeep next = too_deep
followed_by TooLarge next = too_large

-- what a field of a document is, and where there is none of this name
unfoldable pub no_field : List ℕ → Outcome
no_field text = Throws raised.IllegalArgument (Some (units (codes "No field found for [") ++ text ++ units (codes "] in mapping")))

abbrev pub field_of : List Object → Value → Option Value → Outcome
field_of objects key None = followed_by (text_of objects key VISITS) no_field
field_of objects key (Some value) = Gives value

-- the value of a key, or null
abbrev pub value_given : List Object → ℕ → Value → Outcome
value_given objects map key =
    if is_mapped (guard_of objects map) then field_of objects key (value_of (pairs_of objects map) key) else with_key key (Gives (value_now objects map key))

-- the value of a key, or another value
abbrev pub this_or : Option Value → Value → Outcome
this_or None other = Gives other
this_or (Some value) other = Gives value

abbrev pub value_or_given : List Object → ℕ → Value → Value → Outcome
value_or_given objects map key other = with_key key (this_or (value_of (pairs_of objects map) key) other)

-- a value under a key; what the key had is given
abbrev pub put_under : List Object → ℕ → Value → Value → Outcome
put_under objects map key value = if may_put (guard_of objects map) key then with_key key (Puts map key value) else unsupported

-- the same where the key has no value, or has null
abbrev pub put_over : ℕ → Value → Value → Value → Outcome
put_over map key value v.Null = Puts map key value
put_over map key value before = Gives before

abbrev pub put_once : List Object → ℕ → Value → Value → Outcome
put_once objects map key value = if may_put (guard_of objects map) key then with_key key (put_over map key value (value_now objects map key)) else unsupported

-- the same where the key is there
abbrev pub put_present : List Object → ℕ → Value → Value → Outcome
put_present objects map key value = if has_key objects map key then Puts map key value else Gives v.Null

abbrev pub put_again : List Object → ℕ → Value → Value → Outcome
put_again objects map key value =
    if may_put (guard_of objects map) key then with_key key (put_present objects map key value) else unsupported

-- without a key; what it had is given
abbrev pub cut_key : List Object → ℕ → Value → Outcome
cut_key objects map key = if is_open (guard_of objects map) then with_key key (CutsKey map key) else unsupported

-- without a key that has this value
abbrev pub cut_found : List Object → ℕ → Value → Value → Outcome
cut_found objects map key value = where_equal (compared_with objects value (value_of (pairs_of objects map) key)) (DropsKey map key) (flag false)

abbrev pub cut_pair : List Object → ℕ → Value → Value → Outcome
cut_pair objects map key value =
    if is_open (guard_of objects map) then with_key key (cut_found objects map key value) else unsupported

-- a live view of a part
abbrev pub shown : Part → ℕ → Outcome
shown part map = New (o.View map part)

-- ---- the members, by their names

abbrev pub clear : List Object → List Value → Outcome
clear objects arguments = with_one (cleared objects) (map_at objects arguments 0)

abbrev pub contains_key : List Object → List Value → Outcome
contains_key objects arguments = with_two (key_found objects) (map_at objects arguments 0) (slice_get arguments 1)

abbrev pub contains_value : List Object → List Value → Outcome
contains_value objects arguments = with_two (value_found objects) (map_at objects arguments 0) (slice_get arguments 1)

abbrev pub view : Part → List Object → List Value → Outcome
view part objects arguments = with_one (shown part) (map_at objects arguments 0)

abbrev pub get : List Object → List Value → Outcome
get objects arguments = with_two (value_given objects) (map_at objects arguments 0) (slice_get arguments 1)

abbrev pub get_or_default : List Object → List Value → Outcome
get_or_default objects arguments = with_three (value_or_given objects) (map_at objects arguments 0) (slice_get arguments 1) (slice_get arguments 2)

abbrev pub is_empty : List Object → List Value → Outcome
is_empty objects arguments = with_one (emptiness_given objects) (map_at objects arguments 0)

abbrev pub put : List Object → List Value → Outcome
put objects arguments = with_three (put_under objects) (map_at objects arguments 0) (slice_get arguments 1) (slice_get arguments 2)

abbrev pub put_if_absent : List Object → List Value → Outcome
put_if_absent objects arguments = with_three (put_once objects) (map_at objects arguments 0) (slice_get arguments 1) (slice_get arguments 2)

abbrev pub replace : List Object → List Value → Outcome
replace objects arguments = with_three (put_again objects) (map_at objects arguments 0) (slice_get arguments 1) (slice_get arguments 2)

abbrev pub remove : List Object → List Value → Outcome
remove objects arguments = with_two (cut_key objects) (map_at objects arguments 0) (slice_get arguments 1)

abbrev pub remove_pair : List Object → List Value → Outcome
remove_pair objects arguments = with_three (cut_pair objects) (map_at objects arguments 0) (slice_get arguments 1) (slice_get arguments 2)

abbrev pub size : List Object → List Value → Outcome
size objects arguments = with_one (size_given objects) (map_at objects arguments 0)
