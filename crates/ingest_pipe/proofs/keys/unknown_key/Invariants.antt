-- The first unknown key is among the members that are left.
use Rattle.std.proofs.Common.{◌≡◌}
use Rattle.serde_json.specs.View.{members_view}
use Rattle.ingest_pipe.specs.Keys.{unknown_key}
use Rattle.ingest_pipe.proofs.keys.unknown_key.Given as goal

abbrev pub invariant-loop-name : goal.invariant-loop-name
invariant-loop-name l = unknown_key l.kind (members_view l.members.entries) ≡ unknown_key l.kind (members_view l.name-iterator)
