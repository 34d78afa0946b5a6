use Rattle.std.proofs.Common.{Option, slice_get, sym, subst}
use Rattle.object_heap.specs.Effects.{Answers}
use Rattle.container_parts.specs.Iterators.{given}
use Rattle.container_parts.specs.declared.elements.Element.{Element}
use Rattle.container_values.specs.Elements.{values_of}
use Rattle.container_ops.specs.Types.{Spares}
use Rattle.container_ops.proofs.Landing.{copied_there, element_there, made_spares, none_copied}
use Rattle.container_ops.proofs.looping.give.Goals as goal

pub returns-in-Some-clause-does : goal.returns-in-Some-clause-does
returns-in-Some-clause-does c =
    let heap = c.args.heap.now in
    let there = copied_there (slice_get (values_of heap.objects c.args.over) c.args.it.cursor) c.in-Some.copy c.in-Some.ensures in
    subst (λ (found : Option Element). Answers (given heap c.args.id c.args.it found) heap c.give_copy.new.heap c.give_copy.result)
    (sym (element_there heap.objects c.args.over c.args.it.cursor there.0 there.1.0)) (c.give_copy.ensures.does there.0 there.1.1)

pub returns-in-Some-clause-memory : goal.returns-in-Some-clause-memory
returns-in-Some-clause-memory c =
    let heap = c.args.heap.now in
    let there = copied_there (slice_get (values_of heap.objects c.args.over) c.args.it.cursor) c.in-Some.copy c.in-Some.ensures in
    subst (λ (found : Option Element). Spares heap (given heap c.args.id c.args.it found) c.give_copy.result)
    (sym (element_there heap.objects c.args.over c.args.it.cursor there.0 there.1.0)) (c.give_copy.ensures.memory there.0 there.1.1)

pub returns-in-None-clause-memory : goal.returns-in-None-clause-memory
returns-in-None-clause-memory c =
    let heap = c.args.heap.now in
    made_spares heap c.args.id c.args.it c.args.over c.args.it.cursor c.give_made.result (none_copied (slice_get (values_of heap.objects c.args.over) c.args.it.cursor) c.in-None.ensures)
