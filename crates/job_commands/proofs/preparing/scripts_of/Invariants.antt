-- The scripts so far are those of the first texts, and the others are still to be compiled.
use Rattle.std.proofs.Common.{drop}
use Rattle.job_file.specs.Answers.{scripts_view}
use Rattle.job_loading.specs.Seen.{read_view}
use Rattle.job_commands.proofs.Compiled.{CompilesOn}
use Rattle.job_commands.proofs.preparing.scripts_of.Given as goal

abbrev pub invariant-loop-text : goal.invariant-loop-text
invariant-loop-text l = CompilesOn (read_view l.found) (scripts_view l.texts) (scripts_view (drop l.text-index l.texts)) l.scripts.items
