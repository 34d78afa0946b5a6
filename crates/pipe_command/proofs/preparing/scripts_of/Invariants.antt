-- The scripts so far are those of the first of the pipeline, and the others are still to be compiled.
use Rattle.std.proofs.Common.{drop}
use Rattle.pipe_command.proofs.Compiled.{PipesOn}
use Rattle.pipe_command.proofs.preparing.scripts_of.Given as goal

abbrev pub invariant-loop-script : goal.invariant-loop-script
invariant-loop-script l = PipesOn l.read l.scripts (drop l.script-index l.scripts) l.all.items
