use Rattle.std.proofs.Common.{◌≡◌}
use Rattle.serde_json.specs.View.{members_view}
use Rattle.update_lines.specs.Requests.{are_keys}
use Rattle.update_lines.proofs.request.are_keys.Given as goal

abbrev pub invariant-loop-name : goal.invariant-loop-name
invariant-loop-name l = are_keys (members_view l.members.entries) ≡ are_keys (members_view l.name-iterator)
