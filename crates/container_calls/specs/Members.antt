-- The members of lists, arrays, sets, views, maps, entries and iterators: whose function a member goes to, by its number and its
-- receiver. A member of Collection acts on a list by a function of lists, and on a set or a view by another.
use Rattle.std.specs.Prelude.{ℕ, ◌==◌, ◌&&◌, Bool, true, false, Option, Some, None, List, [], ◌∷◌, is_some, nat_le, nat_lt, slice_get, if◌then◌else◌}
use Rattle.object_values.specs.declared.object.Object.{Object}
use Rattle.object_values.specs.declared.object.Object.TheVariants as o
use Rattle.object_values.specs.declared.value.Value.{Value}
use Rattle.object_heap.specs.Effects.{Effect}
use Rattle.object_heap.specs.Store.{Store}
use Rattle.member_arguments.specs.Arguments.{object_at}
use Rattle.api_map.specs.Outcomes.{effect}
use Rattle.api_iter.specs.Members as iterables
use Rattle.api_list.specs.Members as lists
use Rattle.api_list.specs.Taking.{told_effect}
use Rattle.api_map.specs.Members as maps
use Rattle.container_calls.specs.declared.family.Family.{Family}
use Rattle.container_calls.specs.declared.family.Family.TheVariants.{Iterables, Lists, Maps}

-- whether the receiver is a list
abbrev pub is_list : Option Object → Bool
is_list (Some (o.List class items guard changes)) = true
is_list found = false

abbrev pub names_list : List Object → Option ℕ → Bool
names_list objects None = false
names_list objects (Some id) = is_list (slice_get objects id)

abbrev pub is_on_list : List Object → List Value → Bool
is_on_list objects arguments = names_list objects (object_at arguments 0)

-- of the members of Iterable, lists have asList, of whatever it is called on
abbrev pub of_iterables : ℕ → Family
of_iterables number = if number == 89 then Lists else Iterables

abbrev pub of_collections : Bool → Family
of_collections on_list = if on_list then Lists else Maps

-- Whose function it is. From 86 on stand the members of Iterable, from 97 on those of Collection, of which toArray is 107 and is a
-- function of lists for all, from 113 on those of List and ArrayList, from 125 on those of sets, maps and entries, from 166 on those
-- of Iterator, from 169 on those of Collections, and behind them that of ScriptDocValues
abbrev pub family_of : Bool → ℕ → Family
family_of on_list number =
    if nat_lt number 97 then of_iterables number
    else (if nat_lt number 107 then of_collections on_list
    else (if nat_lt number 125 then Lists
    else (if nat_lt number 166 then Maps
    else (if nat_lt number 169 then Iterables
    else (if nat_lt number 178 then Lists
    else Iterables)))))

-- whether lists have a member: addAll, 98 and 114, is one of those that make entries
abbrev pub list_has : ℕ → Bool
list_has number = if number == 98 then true else (if number == 114 then true else is_some (lists.numbered number))

abbrev pub has : Family → ℕ → Bool
has Iterables number = is_some (iterables.numbered number)
has Lists number = list_has number
has Maps number = is_some (maps.numbered number)

-- a member is built where each family has it whose function it may go to
unfoldable pub is_of_containers : ℕ → Bool
is_of_containers number = has (family_of true number) number && has (family_of false number) number

-- the numbers of these, from one to before another
abbrev pub within : ℕ → ℕ → ℕ → Bool
within from to number = nat_le from number && nat_lt number to

unfoldable pub container_ranges : List (ℕ × ℕ)
container_ranges =
    (86, 87) ∷ (89, 90) ∷ (96, 108) ∷ (113, 120) ∷ (121, 122) ∷ (123, 145) ∷ (159, 176)
    ∷ (177, 178) ∷ (225, 226) ∷ []

abbrev pub in_ranges : List (ℕ × ℕ) → ℕ → Bool
in_ranges [] number = false
in_ranges (range ∷ ranges) number = if within range.0 range.1 number then true else in_ranges ranges number

abbrev pub act_of : Family → Store → ℕ → List Value → Effect
act_of Iterables store number arguments = iterables.does_numbered store number arguments
act_of Lists store number arguments = told_effect store (lists.comes_to store.objects number arguments)
act_of Maps store number arguments = effect store (maps.does_numbered store.objects number arguments)

-- what comes of the call of a member
abbrev pub does_container : Store → ℕ → List Value → Effect
does_container store number arguments = act_of (family_of (is_on_list store.objects arguments) number) store number arguments
