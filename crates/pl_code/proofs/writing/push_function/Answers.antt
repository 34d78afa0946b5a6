use Rattle.std.proofs.Common.{arith}
use Rattle.std.proofs.lemmas.Grind.{common_steps}
use Rattle.pl_code.proofs.Writings.{function_text}
use Rattle.pl_code.proofs.writing.push_function.Goals as goal

pub returns : goal.returns
returns c = rw (function_text c.args.number c.args.function.now) (grind (arith, common_steps))
