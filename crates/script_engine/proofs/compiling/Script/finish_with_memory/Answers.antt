use Rattle.std.specs.List.{list_all}
use Rattle.std.proofs.Common.{ap, ◌∙◌}
use Rattle.script_engine.proofs.Fitting.{left_from}
use Rattle.script_engine.proofs.compiling.Script.finish_with_memory.Goals as goal

pub returns-clause-heap : goal.returns-clause-heap
returns-clause-heap c = λ before fits.
    left_from c.args.self.now.result c.in_ok-finished.finished.outcome c.outcome_left.result c.outcome_left.ensures _ before (c.in_ok-finished.ensures.heap before fits)

pub returns-clause-reaches : goal.returns-clause-reaches
returns-clause-reaches c = ap (list_all _) c.outcome_left.ensures.reached ∙ c.in_ok-finished.ensures.fitting.reached
