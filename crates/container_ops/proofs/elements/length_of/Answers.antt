use Rattle.object_heap.proofs.Keeping.{answers_fit}
use Rattle.container_ops.specs.Elements.{length_of, length_told}
use Rattle.container_ops.proofs.Keeping.{length_of_fits}
use Rattle.container_ops.proofs.Sparing.{at_length, read_spares}
use Rattle.container_ops.proofs.elements.length_of.Goals as goal

pub returns-clause-does : goal.returns-clause-does
unfolding length_of
returns-clause-does c = c.settle.ensures.does _ c.length_at-told.ensures

pub returns-clause-memory : goal.returns-clause-memory
unfolding length_of
returns-clause-memory c =
    let told = length_told c.args.heap.now.objects c.args.value.now in
    read_spares c.args.heap.now told c.settle.result (at_length c.args.heap.now.objects c.args.value.now) (c.settle.ensures.memory told c.length_at-told.ensures)

pub returns-clause-keeps : goal.returns-clause-keeps
unfolding length_of
returns-clause-keeps c = λ rules f.
    answers_fit rules (length_of c.args.heap.now c.args.value.now) c.args.heap.now c.settle.new.heap c.settle.result (c.settle.ensures.does _ c.length_at-told.ensures) f
    (length_of_fits rules c.args.heap.now c.args.value.now f)
