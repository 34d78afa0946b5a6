use Rattle.std.proofs.lemmas.Result.{IfOk-weaker}
use Rattle.compiler_relation.specs.Machine.{codes_of}
use Rattle.codegen.proofs.functions.generate.Goals as goal

pub returns-clause-ends : goal.returns-clause-ends
returns-clause-ends c = IfOk-weaker c.write.result _ _ (λ code d prelude also made. c.compiler_laws.ensures.programs c.args.program.now prelude (codes_of code.functions also) d made) c.write.ensures.code
