use Rattle.object_heap.proofs.Keeping.{answers_fit}
use Rattle.container_ops.specs.Making.{map_made}
use Rattle.container_ops.proofs.Keeping.{map_made_fits}
use Rattle.container_ops.proofs.literals.map_made.Goals as goal

pub returns-clause-does : goal.returns-clause-does
unfolding map_made
returns-clause-does c = c.settle.ensures.does _ c.map_told-told.ensures

pub returns-clause-keeps : goal.returns-clause-keeps
unfolding map_made
returns-clause-keeps c = λ rules f h.
    answers_fit rules (map_made c.args.heap.now c.args.parts.now) c.args.heap.now c.settle.new.heap c.settle.result (c.settle.ensures.does _ c.map_told-told.ensures) f
    (map_made_fits rules c.args.heap.now c.args.parts.now f h)
