use Rattle.std.proofs.Common.{None}
use Rattle.pl_types.specs.declared.classes.TheConstants.{NULL_POINTER_EXCEPTION}
use Rattle.container_ops.proofs.Sparing.{throws_spare}
use Rattle.container_ops.proofs.errors.on_null.Goals as goal

pub returns-clause-memory : goal.returns-clause-memory
returns-clause-memory c = throws_spare c.args.heap.now c.args.heap.now NULL_POINTER_EXCEPTION None c.throw.result
