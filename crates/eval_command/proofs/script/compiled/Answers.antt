-- The catalogue and the context are those of the definition.
use Rattle.std.proofs.Common.{[]}
use Rattle.std.proofs.lemmas.Result.{IfOk-weaker}
use Rattle.eval_command.proofs.script.compiled.Goals as goal

pub returns-clause-exact : goal.returns-clause-exact
returns-clause-exact c = rw (c.context-context.ensures, c.requires.full) at c.compile.ensures.exact

pub returns-clause-sound : goal.returns-clause-sound
returns-clause-sound c = rw c.requires.full at c.compile.ensures.sound

pub returns-clause-takes : goal.returns-clause-takes
returns-clause-takes c = IfOk-weaker c.compile.result _ _ (λ script takes. takes [] tt) (rw (c.context-context.ensures) at c.compile.ensures.takes)
