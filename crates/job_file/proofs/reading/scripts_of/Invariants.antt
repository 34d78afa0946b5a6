use Rattle.std.proofs.Common.{◌≡◌, ◌++◌, drop, map}
use Rattle.serde_json.specs.View.{view}
use Rattle.job_file.specs.Answers.{scripts_view}
use Rattle.job_file.specs.Jobs.{text_at}
use Rattle.job_file.specs.Keys.{row_of}
use Rattle.job_file.proofs.reading.scripts_of.Given as goal

abbrev pub invariant-loop-key : goal.invariant-loop-key
invariant-loop-key l =
    scripts_view l.scripts.items ++ map (λ key. ((row_of key).name, text_at key (view l.file))) (drop l.key-index l.keys) ≡ map (λ key. ((row_of key).name, text_at key (view l.file))) l.keys
