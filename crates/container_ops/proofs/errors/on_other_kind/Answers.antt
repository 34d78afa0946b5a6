use Rattle.std.proofs.Common.{None}
use Rattle.pl_types.specs.declared.classes.TheConstants.{CLASS_CAST_EXCEPTION}
use Rattle.container_ops.proofs.Sparing.{throws_spare}
use Rattle.container_ops.proofs.errors.on_other_kind.Goals as goal

pub returns-clause-memory : goal.returns-clause-memory
returns-clause-memory c = throws_spare c.args.heap.now c.args.heap.now CLASS_CAST_EXCEPTION None c.throw.result
