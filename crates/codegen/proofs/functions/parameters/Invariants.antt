use Rattle.std.proofs.Common.{◌≡◌, length}
use Rattle.codegen.proofs.Whole.{Ahead}
use Rattle.codegen.proofs.functions.parameters.Given as goal

abbrev pub invariant-loop-param : goal.invariant-loop-param
invariant-loop-param l = record { ahead : Ahead l.all l.param-index l.fn.params l.params l.scope; height : length l.scope ≡ l.param-index }
