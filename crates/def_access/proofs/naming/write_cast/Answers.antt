use Rattle.object_heap.specs.declared.answer.Answer.TheVariants as a
use Rattle.def_access.specs.Access.{cast_to}
use Rattle.def_access.proofs.CastLemmas.{cast_plain}
use Rattle.def_access.proofs.Coming.{property_stopped, property_value}
use Rattle.def_access.proofs.naming.write_cast.Goals as goal

pub returns-in-Value : goal.returns-in-Value
returns-in-Value c =
    property_value (cast_to c.args.heap.now.objects c.args.value.now c.args.of.now) c.args.heap.now c.to_type.new.heap c.args.number c.args.receiver.now c.in-Value.cast
    (cast_plain c.args.heap.now.objects c.args.value.now c.args.of.now) c.in-Value.ensures.exact

pub returns-in-Thrown : goal.returns-in-Thrown
returns-in-Thrown c =
    property_stopped (cast_to c.args.heap.now.objects c.args.value.now c.args.of.now) c.args.heap.now c.to_type.new.heap c.args.number c.args.receiver.now (a.Thrown c.in-Thrown.id)
    (cast_plain c.args.heap.now.objects c.args.value.now c.args.of.now) tt c.in-Thrown.ensures.exact

pub returns-in-Room : goal.returns-in-Room
returns-in-Room c =
    property_stopped (cast_to c.args.heap.now.objects c.args.value.now c.args.of.now) c.args.heap.now c.to_type.new.heap c.args.number c.args.receiver.now a.Room
    (cast_plain c.args.heap.now.objects c.args.value.now c.args.of.now) tt c.in-Room.ensures.exact

pub returns-in-NoMemory : goal.returns-in-NoMemory
returns-in-NoMemory c =
    property_stopped (cast_to c.args.heap.now.objects c.args.value.now c.args.of.now) c.args.heap.now c.to_type.new.heap c.args.number c.args.receiver.now a.NoMemory
    (cast_plain c.args.heap.now.objects c.args.value.now c.args.of.now) tt c.in-NoMemory.ensures.exact
