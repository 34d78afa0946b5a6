-- The members of Collections that need natural order.
use Rattle.std.specs.Prelude.{List}
use Rattle.object_values.specs.declared.object.Object.{Object}
use Rattle.object_values.specs.declared.value.Value.{Value}
use Rattle.container_values.specs.Elements.{collection_at}
use Rattle.container_outcomes.specs.declared.outcome.Outcome.{Outcome}
use Rattle.container_outcomes.specs.Choices.{with_one}
use Rattle.api_sort.specs.declared.choosing.Extreme.{Extreme}
use Rattle.api_sort.specs.Choosing.{extreme_of}
use Rattle.api_sort.specs.Sorting.{sorted}
use Rattle.api_list.specs.Arguments.{list_at}

abbrev pub sort : List Object → List Value → Outcome
sort objects arguments = with_one (sorted objects) (list_at objects arguments 0)

-- max, and min
abbrev pub extreme : Extreme → List Object → List Value → Outcome
extreme which objects arguments = with_one (extreme_of which objects) (collection_at objects arguments 0)
