-- A script without variables takes no arguments.
use Rattle.std.proofs.Common.{[]}
use Rattle.std.proofs.lemmas.Result.{IfOk-weaker}
use Rattle.script_rows.proofs.running.Compiler.compiled.Goals as goal

pub returns-clause-takes : goal.returns-clause-takes
returns-clause-takes c = IfOk-weaker c.compile.result _ _ (λ script takes. takes [] tt) (rw (c.context-context.ensures) at c.compile.ensures.takes)
