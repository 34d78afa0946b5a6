-- The first wrong key is among those that are left.
use Rattle.std.proofs.Common.{◌≡◌, drop}
use Rattle.serde_json.specs.View.{view}
use Rattle.ingest_pipe.specs.Forms.{first_wrong}
use Rattle.ingest_pipe.proofs.forms.first_wrong.Given as goal

abbrev pub invariant-loop-key : goal.invariant-loop-key
invariant-loop-key l = first_wrong l.kind l.keys (view l.processor) ≡ first_wrong l.kind (drop l.key-index l.keys) (view l.processor)
