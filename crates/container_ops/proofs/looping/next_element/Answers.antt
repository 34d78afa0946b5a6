use Rattle.object_heap.proofs.Keeping.{answers_fit}
use Rattle.container_ops.specs.Loops.{next_element}
use Rattle.container_ops.proofs.Keeping.{next_element_fits}
use Rattle.container_ops.proofs.looping.next_element.Goals as goal

pub returns-clause-keeps : goal.returns-clause-keeps
returns-clause-keeps c = λ rules f.
    answers_fit rules (next_element c.args.heap.now c.args.iterator.now) c.args.heap.now c.next_element_at.new.heap c.next_element_at.result c.next_element_at.ensures.does f (next_element_fits rules c.args.heap.now c.args.iterator.now f)
