-- What each member comes to, and their numbers.
use Rattle.std.specs.Prelude.{ℕ, ◌-◌, ◌==◌, nat_lt, Option, Some, None, List, [], ◌∷◌, slice_get, if◌then◌else◌}
use Rattle.object_values.specs.declared.object.Object.{Object}
use Rattle.object_values.specs.declared.value.Value.{Value}
use Rattle.api_list.specs.declared.member.Member.{Member}
use Rattle.api_list.specs.declared.member.Member.TheVariants as m
use Rattle.container_outcomes.specs.declared.outcome.Outcome.{Outcome}
use Rattle.api_map.specs.declared.bulk.Bulk.TheVariants.{Remove, Retain}
use Rattle.api_list.specs.Bulk as bulk
use Rattle.api_list.specs.Lists as lists
use Rattle.api_list.specs.Making as making
use Rattle.api_list.specs.Ordered as ordered
use Rattle.api_sort.specs.declared.choosing.Extreme.TheVariants.{Greatest, Least}
use Rattle.api_list.specs.Taking as taking
use Rattle.api_list.specs.declared.told.Told.{Told}
use Rattle.api_list.specs.declared.told.Told.TheVariants.{Says}
use Rattle.container_outcomes.specs.Outcomes.{nothing}

-- what a member comes to
abbrev pub does : List Object → Member → List Value → Outcome
does objects m.Add arguments = lists.add objects arguments
does objects m.Clear arguments = lists.clear objects arguments
does objects m.Contains arguments = lists.contains objects arguments
does objects m.IsEmpty arguments = lists.is_empty objects arguments
does objects m.Remove arguments = lists.remove objects arguments
does objects m.Size arguments = lists.size objects arguments
does objects m.AddAt arguments = lists.add_at objects arguments
does objects m.Get arguments = lists.get objects arguments
does objects m.IndexOf arguments = lists.index_of objects arguments
does objects m.RemoveAt arguments = lists.remove_at objects arguments
does objects m.Set arguments = lists.set objects arguments
does objects m.ToArray arguments = taking.to_array objects arguments
does objects m.LastIndexOf arguments = lists.last_index_of objects arguments
does objects m.AsList arguments = taking.as_list objects arguments
does objects m.NewList arguments = making.new_list
does objects m.NewListOf arguments = taking.new_list_of objects arguments
does objects m.EmptyList arguments = making.empty_list
does objects m.EmptyMap arguments = making.empty_map
does objects m.Reverse arguments = lists.reverse_all objects arguments
does objects m.ContainsAll arguments = bulk.contains_all objects arguments
does objects m.RemoveAll arguments = bulk.sift_all Remove objects arguments
does objects m.RetainAll arguments = bulk.sift_all Retain objects arguments
does objects m.SingletonList arguments = making.singleton_list arguments
does objects m.Swap arguments = lists.swap objects arguments
does objects m.Max arguments = ordered.extreme Greatest objects arguments
does objects m.Min arguments = ordered.extreme Least objects arguments
does objects m.Sort arguments = ordered.sort objects arguments

-- The members in the order of their numbers in the catalogue, with a gap for each that is not built: those of Collection, List and
-- ArrayList from 97, and those of Collections from 169. Of Iterable's only asList is one, which is 89
unfoldable pub of_lists : List (Option Member)
of_lists =
    Some m.Add ∷ None ∷ Some m.Clear ∷ Some m.Contains ∷ Some m.ContainsAll ∷ Some m.IsEmpty ∷ Some m.Remove ∷ Some m.RemoveAll ∷ Some m.RetainAll ∷ Some m.Size
    ∷ Some m.ToArray ∷ None ∷ None ∷ None ∷ None ∷ None
    ∷ Some m.AddAt ∷ None ∷ Some m.Get ∷ Some m.Size ∷ Some m.IndexOf ∷ Some m.LastIndexOf ∷ Some m.RemoveAt ∷ None ∷ Some m.Set ∷ None
    ∷ Some m.NewList ∷ Some m.NewListOf
    ∷ []

unfoldable pub of_makers : List (Option Member)
of_makers = Some m.EmptyList ∷ Some m.EmptyMap ∷ Some m.Max ∷ Some m.Min ∷ Some m.Reverse ∷ Some m.SingletonList ∷ Some m.Sort ∷ None ∷ Some m.Swap ∷ []

-- what stands at a place, if it is no gap
abbrev pub built_in : Option (Option Member) → Option Member
built_in None = None
built_in (Some built) = built

abbrev pub member_at : List (Option Member) → ℕ → Option Member
member_at members at = built_in (slice_get members at)

-- the member of a number, if it is one of these
unfoldable pub numbered : ℕ → Option Member
numbered number =
    if number == 89 then Some m.AsList
    else (if nat_lt number 97 then None
    else (if nat_lt number 169 then member_at of_lists (number - 97)
    else member_at of_makers (number - 169)))

abbrev pub does_found : List Object → Option Member → List Value → Outcome
does_found objects None arguments = nothing
does_found objects (Some member) arguments = does objects member arguments

-- what the member of a number comes to; any other number's is nothing
abbrev pub does_numbered : List Object → ℕ → List Value → Outcome
does_numbered objects number arguments = does_found objects (numbered number) arguments

-- what comes of a number: addAll at the end and at a place, 98 and 114, may make entries; every other comes to an outcome
abbrev pub comes_to : List Object → ℕ → List Value → Told
comes_to objects number arguments =
    if number == 98 then taking.add_all objects arguments
    else (if number == 114 then taking.add_all_at objects arguments
    else Says (does_numbered objects number arguments))
