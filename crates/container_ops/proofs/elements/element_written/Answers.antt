use Rattle.std.proofs.Common.{to_z-of_z}
use Rattle.object_heap.proofs.Keeping.{answers_fit}
use Rattle.container_ops.specs.Elements.{element_written}
use Rattle.container_ops.proofs.Keeping.{element_written_fits}
use Rattle.container_ops.proofs.elements.element_written.Goals as goal

pub returns-clause-keeps : goal.returns-clause-keeps
returns-clause-keeps c = λ rules f h.
    answers_fit rules (element_written c.args.heap.now c.args.of.now c.args.array.now c.args.at c.args.item) c.args.heap.now c.written.new.heap c.written.result
    (rw (to_z-of_z c.ranges.at) at c.written.ensures.does) f
    (element_written_fits rules c.args.heap.now c.args.of.now c.args.array.now c.args.at c.args.item f h)
