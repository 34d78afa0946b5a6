use Rattle.std.proofs.Common.{arith}
use Rattle.codegen.proofs.Listed.{class_named}
use Rattle.codegen.proofs.tries.trap.Goals as goal

pub returns-then-class-ge-CLASS_COUNT-clause-total : goal.returns-then-class-ge-CLASS_COUNT-clause-total
returns-then-class-ge-CLASS_COUNT-clause-total c = λ h. absurd (omega (arith, class_named c.args.class h, c.if-class-ge-CLASS_COUNT.true))
