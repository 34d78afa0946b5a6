-- What makes lists: the constructor of a list without items, and the frozen ones. A frozen list or map is of the class that the
-- constructor makes.
use Rattle.std.specs.Prelude.{[], ◌∷◌, List, slice_get}
use Rattle.object_values.specs.declared.object.Object.TheVariants as o
use Rattle.object_values.specs.declared.object.Guard.TheVariants as g
use Rattle.object_values.specs.declared.value.Value.{Value}
use Rattle.pl_types.specs.declared.classes.TheConstants.{ARRAY_LIST, HASH_MAP}
use Rattle.container_outcomes.specs.declared.outcome.Outcome.{Outcome}
use Rattle.container_outcomes.specs.declared.outcome.Outcome.TheVariants.{New}
use Rattle.container_outcomes.specs.Choices.{with_one}

abbrev pub new_list : Outcome
new_list = New (o.List ARRAY_LIST [] g.Open 0)

abbrev pub empty_list : Outcome
empty_list = New (o.List ARRAY_LIST [] g.Frozen 0)

abbrev pub empty_map : Outcome
empty_map = New (o.Map HASH_MAP [] g.Frozen 0)

abbrev pub list_of_one : Value → Outcome
list_of_one item = New (o.List ARRAY_LIST (item ∷ []) g.Frozen 0)

abbrev pub singleton_list : List Value → Outcome
singleton_list arguments = with_one list_of_one (slice_get arguments 0)
