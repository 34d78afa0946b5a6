use Rattle.object_heap.proofs.Keeping.{answers_fit}
use Rattle.container_ops.specs.Loops.{iterated}
use Rattle.container_ops.proofs.Keeping.{iterated_fits}
use Rattle.container_ops.proofs.looping.iterated.Goals as goal

pub returns-clause-keeps : goal.returns-clause-keeps
returns-clause-keeps c = λ rules f.
    answers_fit rules (iterated c.args.heap.now c.args.over.now) c.args.heap.now c.iterated_at.new.heap c.iterated_at.result c.iterated_at.ensures f (iterated_fits rules c.args.heap.now c.args.over.now f)
