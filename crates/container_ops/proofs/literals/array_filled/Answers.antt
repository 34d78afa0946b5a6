use Rattle.object_heap.proofs.Keeping.{answers_fit}
use Rattle.container_ops.specs.Making.{array_filled}
use Rattle.container_ops.proofs.Keeping.{array_filled_fits}
use Rattle.container_ops.proofs.literals.array_filled.Goals as goal

pub returns-clause-does : goal.returns-clause-does
unfolding array_filled
returns-clause-does c = c.settle.ensures.does _ c.filled_told-told.ensures

pub returns-clause-keeps : goal.returns-clause-keeps
unfolding array_filled
returns-clause-keeps c = λ rules f h.
    answers_fit rules (array_filled c.args.heap.now c.args.elem.now c.args.items.now) c.args.heap.now c.settle.new.heap c.settle.result (c.settle.ensures.does _ c.filled_told-told.ensures) f
    (array_filled_fits rules c.args.heap.now c.args.elem.now c.args.items.now f h)
