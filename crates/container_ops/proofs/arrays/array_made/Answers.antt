use Rattle.object_heap.proofs.Keeping.{answers_fit}
use Rattle.container_ops.specs.Making.{array_made}
use Rattle.container_ops.proofs.Keeping.{array_made_fits}
use Rattle.container_ops.proofs.arrays.array_made.Goals as goal

pub returns-clause-keeps : goal.returns-clause-keeps
returns-clause-keeps c = λ rules f.
    answers_fit rules (array_made c.args.heap.now c.args.of.now c.args.sizes.now) c.args.heap.now c.made.new.heap c.made.result c.made.ensures f
    (array_made_fits rules c.args.heap.now c.args.of.now c.args.sizes.now f)
