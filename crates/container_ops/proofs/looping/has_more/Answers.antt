use Rattle.object_heap.proofs.Keeping.{answers_fit}
use Rattle.container_ops.specs.Loops.{has_more}
use Rattle.container_ops.proofs.Keeping.{has_more_fits}
use Rattle.container_ops.proofs.looping.has_more.Goals as goal

pub returns-clause-keeps : goal.returns-clause-keeps
returns-clause-keeps c = λ rules f.
    answers_fit rules (has_more c.args.heap.now c.args.iterator.now) c.args.heap.now c.has_more_at.new.heap c.has_more_at.result c.has_more_at.ensures.does f (has_more_fits rules c.args.heap.now c.args.iterator.now f)
