use Rattle.std.proofs.Common.{◌≡◌, drop, map}
use Rattle.serde_json.specs.View.{view}
use Rattle.metric_ctx.specs.States.{states_from}
use Rattle.metric_ctx.proofs.Giving.{prefixed}
use Rattle.metric_ctx.proofs.states.states_of.Given as goal

abbrev pub invariant-loop-number : goal.invariant-loop-number
invariant-loop-number l = states_from 0 l.outcomes ≡ prefixed (map view l.states.items) (states_from l.number (drop l.number l.outcomes))
