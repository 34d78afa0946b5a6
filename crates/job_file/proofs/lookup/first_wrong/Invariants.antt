use Rattle.std.proofs.Common.{◌≡◌, drop, map}
use Rattle.serde_json.specs.View.{view}
use Rattle.job_file.specs.Jobs.{first, key_fault}
use Rattle.job_file.proofs.lookup.first_wrong.Given as goal

abbrev pub invariant-loop-key : goal.invariant-loop-key
invariant-loop-key l = first (map (key_fault l.fn.context (view l.file)) l.keys) ≡ first (map (key_fault l.fn.context (view l.file)) (drop l.key-index l.keys))
