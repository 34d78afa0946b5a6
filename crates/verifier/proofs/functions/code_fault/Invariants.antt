use Rattle.std.proofs.Common.{drop}
use Rattle.verifier.specs.Words.{FunctionWords, LeastFunctions}
use Rattle.verifier.proofs.Counting.{Reached}
use Rattle.verifier.proofs.functions.code_fault.Given as goal

abbrev pub invariant-loop-function : goal.invariant-loop-function
invariant-loop-function l = Reached l.allow l.functions (drop l.function-index l.functions) l.first × FunctionWords l.allow l.functions l.function-index l.most × LeastFunctions l.allow l.functions l.function-index l.initial.most l.most
