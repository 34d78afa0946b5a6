use Rattle.function_score.proofs.Steps.{SoFar}
use Rattle.function_score.proofs.scoring.value_of_functions.Given as goal

abbrev pub invariant-loop-number : goal.invariant-loop-number
invariant-loop-number g l = SoFar g.R.FunctionRunner.line g.R.FunctionRunner.asks l.mode l.number l.all l.fn.runner l.runner
