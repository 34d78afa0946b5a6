use Rattle.std.proofs.Common.{to_z-of_z}
use Rattle.object_heap.specs.declared.answer.Answer.TheVariants as a
use Rattle.def_access.specs.Access.{cast_to}
use Rattle.def_access.proofs.CastLemmas.{cast_plain}
use Rattle.def_access.proofs.Coming.{put_stopped, put_value}
use Rattle.def_access.proofs.indexing.put_element.Goals as goal

pub returns-in-Value : goal.returns-in-Value
returns-in-Value c =
    put_value (cast_to c.args.heap.now.objects c.args.value.now c.args.elem.now) c.args.heap.now c.to_type.new.heap c.element_written.new.heap c.args.elem.now c.args.array.now c.args.at c.in-Value.cast
    c.element_written.result (cast_plain c.args.heap.now.objects c.args.value.now c.args.elem.now) c.in-Value.ensures.exact (rw (to_z-of_z c.ranges.at) at c.element_written.ensures.does)

pub returns-in-Thrown : goal.returns-in-Thrown
returns-in-Thrown c =
    put_stopped (cast_to c.args.heap.now.objects c.args.value.now c.args.elem.now) c.args.heap.now c.to_type.new.heap c.args.elem.now c.args.array.now c.args.at (a.Thrown c.in-Thrown.id)
    (cast_plain c.args.heap.now.objects c.args.value.now c.args.elem.now) tt c.in-Thrown.ensures.exact

pub returns-in-Room : goal.returns-in-Room
returns-in-Room c =
    put_stopped (cast_to c.args.heap.now.objects c.args.value.now c.args.elem.now) c.args.heap.now c.to_type.new.heap c.args.elem.now c.args.array.now c.args.at a.Room
    (cast_plain c.args.heap.now.objects c.args.value.now c.args.elem.now) tt c.in-Room.ensures.exact

pub returns-in-NoMemory : goal.returns-in-NoMemory
returns-in-NoMemory c =
    put_stopped (cast_to c.args.heap.now.objects c.args.value.now c.args.elem.now) c.args.heap.now c.to_type.new.heap c.args.elem.now c.args.array.now c.args.at a.NoMemory
    (cast_plain c.args.heap.now.objects c.args.value.now c.args.elem.now) tt c.in-NoMemory.ensures.exact
