use Rattle.std.proofs.Common.{◌≡◌}
use Rattle.serde_json.specs.View.{members_view}
use Rattle.job_file.specs.Values.{are_limits}
use Rattle.job_file.proofs.values.are_limits.Given as goal

abbrev pub invariant-loop-name : goal.invariant-loop-name
invariant-loop-name l = are_limits (members_view l.members.entries) ≡ are_limits (members_view l.name-iterator)
