use Rattle.object_heap.proofs.Keeping.{answers_fit}
use Rattle.container_ops.specs.Making.{list_made}
use Rattle.container_ops.proofs.Keeping.{list_made_fits}
use Rattle.container_ops.proofs.literals.list_made.Goals as goal

pub returns-clause-does : goal.returns-clause-does
unfolding list_made
returns-clause-does c = c.settle.ensures.does _ c.list_told-told.ensures

pub returns-clause-keeps : goal.returns-clause-keeps
unfolding list_made
returns-clause-keeps c = λ rules f h.
    answers_fit rules (list_made c.args.heap.now c.args.items.now) c.args.heap.now c.settle.new.heap c.settle.result (c.settle.ensures.does _ c.list_told-told.ensures) f
    (list_made_fits rules c.args.heap.now c.args.items.now f h)
