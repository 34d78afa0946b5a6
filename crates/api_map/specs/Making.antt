-- The constructors of maps and sets.
use Rattle.std.specs.Prelude.{ℕ, []}
use Rattle.object_values.specs.declared.object.Object.TheVariants as o
use Rattle.object_values.specs.declared.object.Guard.TheVariants as g
use Rattle.pl_types.specs.declared.classes.TheConstants.{HASH_MAP, HASH_SET, LINKED_HASH_MAP, LINKED_HASH_SET}
use Rattle.api_map.specs.declared.making.MapClass.{MapClass}
use Rattle.api_map.specs.declared.making.MapClass.TheVariants as map
use Rattle.api_map.specs.declared.making.SetClass.{SetClass}
use Rattle.api_map.specs.declared.making.SetClass.TheVariants as set
use Rattle.container_outcomes.specs.declared.outcome.Outcome.{Outcome}
use Rattle.container_outcomes.specs.declared.outcome.Outcome.TheVariants.{New}

abbrev pub number_of_map : MapClass → ℕ
number_of_map map.Hash = HASH_MAP
number_of_map map.LinkedHash = LINKED_HASH_MAP

abbrev pub number_of_set : SetClass → ℕ
number_of_set set.Hash = HASH_SET
number_of_set set.LinkedHash = LINKED_HASH_SET

abbrev pub new_map : MapClass → Outcome
new_map class = New (o.Map (number_of_map class) [] g.Open 0)

abbrev pub new_set : SetClass → Outcome
new_set class = New (o.Set (number_of_set class) [] g.Open 0)
