-- Runs that only count their instructions, and what they leave.
use Rattle.std.specs.Prelude.{ℕ, pos, ◌==◌, [], None, nat_lt, if◌then◌else◌}
use Rattle.object_values.specs.declared.value.Value.{Value}
use Rattle.object_values.specs.declared.value.Value.TheVariants as v
use Rattle.object_heap.specs.Store.{Store}
use Rattle.object_heap.specs.declared.outcome.End.{End}
use Rattle.object_heap.specs.declared.outcome.End.TheVariants as end
use Rattle.object_heap.specs.declared.outcome.Outcome.{Outcome}
use Rattle.object_heap.specs.declared.outcome.Which.TheVariants as which
use Rattle.metric_ctx.specs.declared.phase.Phase.{Phase}
use Rattle.metric_ctx.specs.declared.phase.Phase.TheVariants as p

-- how many instructions each script has
abbrev pub instructions : Phase → ℕ
instructions p.Init = 3
instructions p.Map = 2
instructions p.Combine = 1

-- a count of objects as a value
abbrev pub count_value : ℕ → Value
count_value count = if nat_lt count 1000 then v.Int (pos count) else v.Null

-- `combine` gives how many objects there are; `map` fails over so many
abbrev pub end_over : ℕ → Phase → ℕ → End
end_over fails_at p.Init count = end.Value v.Null
end_over fails_at p.Map count = if count == fails_at then end.Limit which.Ticks None else end.Value v.Null
end_over fails_at p.Combine count = end.Value (count_value count)

abbrev pub outcome_of : ℕ → End → Store → Outcome
outcome_of steps e store = record { end = e; heap = store; ticks = 0; steps = steps; reached = [] }
