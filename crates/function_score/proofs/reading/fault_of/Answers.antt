use Rattle.std.proofs.Common.{rules, arith}
use Rattle.serde_json.specs.View.{view, members_view}
use Rattle.function_score.proofs.Listed.{no_object, with_known, with_unknown}
use Rattle.function_score.proofs.reading.fault_of.Goals as goal

pub returns-in_default : goal.returns-in_default
returns-in_default c = no_object (view c.args.function.now) (first_of (search rules, grind arith))

pub returns-in-Some-unknown_key : goal.returns-in-Some-unknown_key
returns-in-Some-unknown_key c = with_unknown (view c.args.function.now) (members_view c.in-Some.members.now.entries) c.in-Some-unknown_key.name.now c.in-Some.ensures c.in-Some-unknown_key.ensures

pub returns-in-None : goal.returns-in-None
returns-in-None c = with_known (view c.args.function.now) (members_view c.in-Some.members.now.entries) _ c.in-Some.ensures c.in-None.ensures c.known_fault.ensures
