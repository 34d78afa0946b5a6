-- The members that take all that a collection or a map holds. What goes into a set or a map that is there is several changes: each new
-- key raises the change count by 1.
use Rattle.std.specs.Prelude.{ℕ, Option, List, [], if◌then◌else◌}
use Rattle.object_values.specs.declared.object.Guard.TheVariants as g
use Rattle.object_values.specs.declared.object.Object.{Object}
use Rattle.object_values.specs.declared.object.Object.TheVariants as o
use Rattle.object_values.specs.declared.value.Value.{Value}
use Rattle.object_heap.specs.Parts.{guard_of, pairs_of}
use Rattle.api_map.specs.declared.arguments.Keyed.{Keyed}
use Rattle.api_map.specs.declared.arguments.Keyed.TheVariants.{Set, View}
use Rattle.api_map.specs.declared.making.MapClass.{MapClass}
use Rattle.api_map.specs.declared.making.SetClass.{SetClass}
use Rattle.container_outcomes.specs.declared.outcome.Outcome.{Outcome}
use Rattle.container_outcomes.specs.declared.outcome.Outcome.TheVariants.{AddsAll, New, PutsAll}
use Rattle.api_map.specs.declared.sources.Source.{Source}
use Rattle.api_map.specs.Arguments.{keyed_at, map_at}
use Rattle.container_outcomes.specs.Choices.{with_one}
use Rattle.container_outcomes.specs.Guards.{is_open}
use Rattle.api_map.specs.Guards.{may_put_all, takes_puts}
use Rattle.api_map.specs.Making.{number_of_map, number_of_set}
use Rattle.container_outcomes.specs.Outcomes.{not_simple, unsupported}
use Rattle.api_map.specs.Sources.{are_keys, elements, source_at, with_keys}

-- the elements go into a set as keys, each once; the new ones go last in their order
abbrev pub added_from : List Object → ℕ → Source → Outcome
added_from objects id source = if are_keys objects source then AddsAll id (with_keys [] (elements objects source)) else not_simple

abbrev pub added_all : List Object → Option Source → Keyed → Outcome
added_all objects source (Set id) = if is_open (guard_of objects id) then with_one (added_from objects id) source else unsupported
added_all objects source (View map part) = unsupported

-- the pairs of a map go into another
abbrev pub put_from : List Object → ℕ → ℕ → Outcome
put_from objects id from = if may_put_all (guard_of objects id) (pairs_of objects from) then PutsAll id (pairs_of objects from) else unsupported

abbrev pub put_all_of : List Object → Option ℕ → ℕ → Outcome
put_all_of objects from id = if takes_puts (guard_of objects id) then with_one (put_from objects id) from else unsupported

-- a new set of the elements, and a new map of the pairs
abbrev pub set_made : SetClass → List Object → Source → Outcome
set_made class objects source = New (o.Set (number_of_set class) (with_keys [] (elements objects source)) g.Open 0)

abbrev pub set_of : SetClass → List Object → Source → Outcome
set_of class objects source = if are_keys objects source then set_made class objects source else not_simple

abbrev pub map_of : MapClass → List Object → ℕ → Outcome
map_of class objects from = New (o.Map (number_of_map class) (pairs_of objects from) g.Open 0)

-- ---- the members, by their names

abbrev pub add_all : List Object → List Value → Outcome
add_all objects arguments = with_one (added_all objects (source_at objects arguments 1)) (keyed_at objects arguments 0)

abbrev pub put_all : List Object → List Value → Outcome
put_all objects arguments = with_one (put_all_of objects (map_at objects arguments 1)) (map_at objects arguments 0)

abbrev pub new_set_of : SetClass → List Object → List Value → Outcome
new_set_of class objects arguments = with_one (set_of class objects) (source_at objects arguments 0)

abbrev pub new_map_of : MapClass → List Object → List Value → Outcome
new_map_of class objects arguments = with_one (map_of class objects) (map_at objects arguments 0)
