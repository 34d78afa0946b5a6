use Rattle.std.proofs.Common.{◌≡◌}
use Rattle.serde_json.specs.View.{members_view}
use Rattle.write_ctx.specs.Keys.{are_keys}
use Rattle.write_ctx.proofs.checking.are_keys.Given as goal

abbrev pub invariant-loop-name : goal.invariant-loop-name
invariant-loop-name l = are_keys l.fn.kind (members_view l.members.entries) ≡ are_keys l.fn.kind (members_view l.name-iterator)
