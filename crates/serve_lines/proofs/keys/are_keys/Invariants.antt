use Rattle.std.proofs.Common.{◌≡◌}
use Rattle.serde_json.specs.View.{members_view}
use Rattle.serve_lines.specs.Commands.{are_keys}
use Rattle.serve_lines.proofs.keys.are_keys.Given as goal

abbrev pub invariant-loop-name : goal.invariant-loop-name
invariant-loop-name l = are_keys l.fn.form (members_view l.members.entries) ≡ are_keys l.fn.form (members_view l.name-iterator)
