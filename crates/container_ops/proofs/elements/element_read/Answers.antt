use Rattle.std.proofs.Common.{to_z-of_z}
use Rattle.object_heap.proofs.Keeping.{answers_fit}
use Rattle.container_ops.specs.Elements.{element_read, read_at}
use Rattle.container_ops.proofs.Keeping.{element_read_fits}
use Rattle.container_ops.proofs.Sparing.{at_read, read_spares}
use Rattle.container_ops.proofs.elements.element_read.Goals as goal

pub returns-clause-does : goal.returns-clause-does
unfolding element_read
returns-clause-does c = c.settle.ensures.does _ (rw (to_z-of_z c.ranges.at) at c.read_at-told.ensures)

pub returns-clause-memory : goal.returns-clause-memory
unfolding element_read
returns-clause-memory c =
    let told = read_at c.args.heap.now.objects c.args.of.now c.args.array.now c.args.at in
    read_spares c.args.heap.now told c.settle.result (at_read c.args.heap.now.objects c.args.of.now c.args.array.now c.args.at) (c.settle.ensures.memory told (rw (to_z-of_z c.ranges.at) at c.read_at-told.ensures))

pub returns-clause-keeps : goal.returns-clause-keeps
unfolding element_read
returns-clause-keeps c = λ rules f.
    answers_fit rules (element_read c.args.heap.now c.args.of.now c.args.array.now c.args.at) c.args.heap.now c.settle.new.heap c.settle.result (c.settle.ensures.does _ (rw (to_z-of_z c.ranges.at) at c.read_at-told.ensures)) f
    (element_read_fits rules c.args.heap.now c.args.of.now c.args.array.now c.args.at f)
