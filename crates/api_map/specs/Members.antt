-- What each member comes to, and their numbers.
use Rattle.std.specs.Prelude.{ℕ, ◌-◌, nat_lt, Option, Some, None, List, [], ◌∷◌, slice_get, if◌then◌else◌}
use Rattle.object_values.specs.declared.object.Object.{Object}
use Rattle.object_values.specs.declared.object.Part.TheVariants as part
use Rattle.object_values.specs.declared.value.Value.{Value}
use Rattle.api_map.specs.declared.bulk.Bulk.TheVariants as bulk_is
use Rattle.api_map.specs.declared.making.MapClass.TheVariants as map
use Rattle.api_map.specs.declared.making.SetClass.TheVariants as set
use Rattle.api_map.specs.declared.member.Member.{Member}
use Rattle.api_map.specs.declared.member.Member.TheVariants as m
use Rattle.api_map.specs.declared.member.Telling.{Telling}
use Rattle.api_map.specs.declared.member.Telling.TheVariants as t
use Rattle.container_outcomes.specs.declared.outcome.Outcome.{Outcome}
use Rattle.api_map.specs.Bulk as bulk
use Rattle.api_map.specs.Collections as collections
use Rattle.api_map.specs.Entries as entries
use Rattle.api_map.specs.Making as making
use Rattle.api_map.specs.Maps as maps
use Rattle.container_outcomes.specs.Outcomes.{nothing}
use Rattle.api_map.specs.Whole as whole

-- what a member comes to that takes nothing out under a key
abbrev pub tells : List Object → Telling → List Value → Outcome
tells objects t.Add arguments = collections.add objects arguments
tells objects t.ClearCollection arguments = collections.clear objects arguments
tells objects t.Contains arguments = collections.contains objects arguments
tells objects t.IsEmptyCollection arguments = collections.is_empty objects arguments
tells objects t.SizeOfCollection arguments = collections.size objects arguments
tells objects (t.NewSet class) arguments = making.new_set class
tells objects t.Clear arguments = maps.clear objects arguments
tells objects t.ContainsKey arguments = maps.contains_key objects arguments
tells objects t.ContainsValue arguments = maps.contains_value objects arguments
tells objects (t.View part) arguments = maps.view part objects arguments
tells objects t.Get arguments = maps.get objects arguments
tells objects t.GetOrDefault arguments = maps.get_or_default objects arguments
tells objects t.IsEmpty arguments = maps.is_empty objects arguments
tells objects t.Put arguments = maps.put objects arguments
tells objects t.PutIfAbsent arguments = maps.put_if_absent objects arguments
tells objects t.Replace arguments = maps.replace objects arguments
tells objects t.Size arguments = maps.size objects arguments
tells objects (t.NewMap class) arguments = making.new_map class
tells objects t.AddAll arguments = whole.add_all objects arguments
tells objects t.ContainsAll arguments = bulk.contains_all objects arguments
tells objects (t.Sift by) arguments = bulk.sift_all by objects arguments
tells objects t.PutAll arguments = whole.put_all objects arguments
tells objects (t.NewSetOf class) arguments = whole.new_set_of class objects arguments
tells objects (t.NewMapOf class) arguments = whole.new_map_of class objects arguments
tells objects t.GetKey arguments = entries.get_key objects arguments
tells objects t.GetValue arguments = entries.get_value objects arguments
tells objects t.SetValue arguments = entries.set_value objects arguments

-- what a member comes to
abbrev pub does : List Object → Member → List Value → Outcome
does objects (m.Tells telling) arguments = tells objects telling arguments
does objects m.RemoveElement arguments = collections.remove objects arguments
does objects m.Remove arguments = maps.remove objects arguments
does objects m.RemovePair arguments = maps.remove_pair objects arguments

-- The members in the order of their numbers in the catalogue, with a gap for each that is not built: those of Collection from 97,
-- the constructors of sets and the members of Map from 125, and the constructors of maps and the members of Map.Entry from 159
unfoldable pub of_collections : List (Option Member)
of_collections =
    Some (m.Tells t.Add) ∷ Some (m.Tells t.AddAll) ∷ Some (m.Tells t.ClearCollection) ∷ Some (m.Tells t.Contains)
    ∷ Some (m.Tells t.ContainsAll) ∷ Some (m.Tells t.IsEmptyCollection) ∷ Some m.RemoveElement ∷ Some (m.Tells (t.Sift bulk_is.Remove)) ∷ Some (m.Tells (t.Sift bulk_is.Retain))
    ∷ Some (m.Tells t.SizeOfCollection)
    ∷ []

unfoldable pub of_maps : List (Option Member)
of_maps =
    Some (m.Tells (t.NewSet set.Hash)) ∷ Some (m.Tells (t.NewSetOf set.Hash))
    ∷ Some (m.Tells (t.NewSet set.LinkedHash)) ∷ Some (m.Tells (t.NewSetOf set.LinkedHash))
    ∷ Some (m.Tells t.Clear) ∷ Some (m.Tells t.ContainsKey) ∷ Some (m.Tells t.ContainsValue) ∷ Some (m.Tells (t.View part.Entries))
    ∷ Some (m.Tells t.Get) ∷ Some (m.Tells t.GetOrDefault) ∷ Some (m.Tells t.IsEmpty) ∷ Some (m.Tells (t.View part.Keys))
    ∷ Some (m.Tells t.Put) ∷ Some (m.Tells t.PutAll) ∷ Some (m.Tells t.PutIfAbsent) ∷ Some m.Remove ∷ Some m.RemovePair
    ∷ Some (m.Tells t.Replace) ∷ Some (m.Tells t.Size) ∷ Some (m.Tells (t.View part.Values))
    ∷ []

unfoldable pub of_entries : List (Option Member)
of_entries =
    Some (m.Tells (t.NewMap map.Hash)) ∷ Some (m.Tells (t.NewMapOf map.Hash))
    ∷ Some (m.Tells (t.NewMap map.LinkedHash)) ∷ Some (m.Tells (t.NewMapOf map.LinkedHash))
    ∷ Some (m.Tells t.GetKey) ∷ Some (m.Tells t.GetValue) ∷ Some (m.Tells t.SetValue)
    ∷ []

-- what stands at a place, if it is no gap
abbrev pub built_in : Option (Option Member) → Option Member
built_in None = None
built_in (Some built) = built

abbrev pub member_at : List (Option Member) → ℕ → Option Member
member_at members at = built_in (slice_get members at)

-- the member of a number, if it is one of these
unfoldable pub numbered : ℕ → Option Member
numbered number =
    if nat_lt number 97 then None
    else (if nat_lt number 125 then member_at of_collections (number - 97)
    else (if nat_lt number 159 then member_at of_maps (number - 125)
    else member_at of_entries (number - 159)))

abbrev pub does_found : List Object → Option Member → List Value → Outcome
does_found objects None arguments = nothing
does_found objects (Some member) arguments = does objects member arguments

-- what the member of a number comes to; any other number's is nothing
abbrev pub does_numbered : List Object → ℕ → List Value → Outcome
does_numbered objects number arguments = does_found objects (numbered number) arguments
