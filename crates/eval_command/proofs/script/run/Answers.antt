-- The heap and the limits are those of the definition.
use Rattle.eval_command.proofs.Runs.{runs_as_eval, counts_as_eval}
use Rattle.eval_command.proofs.script.run.Goals as goal

pub run-requires-clause-args : goal.run-requires-clause-args
run-requires-clause-args c = rw (c.new-args.ensures.items) c.requires.takes

pub returns-clause-program : goal.returns-clause-program
returns-clause-program c = runs_as_eval c.args.script.now c.run.result (rw (c.new-heap.ensures, c.new-args.ensures.items) at c.run.ensures.program)

pub returns-clause-counts : goal.returns-clause-counts
returns-clause-counts c = counts_as_eval c.args.script.now c.run.result (rw (c.new-heap.ensures, c.new-args.ensures.items) at c.run.ensures.counts)
