use Rattle.object_heap.specs.declared.answer.Answer.TheVariants as a
use Rattle.pl_types.specs.declared.primitive.Primitive.TheVariants as prim
use Rattle.pl_types.specs.declared.ty.Ty.TheVariants as t
use Rattle.def_access.specs.Access.{index_cast}
use Rattle.def_access.proofs.CastLemmas.{cast_plain, said_stopped, said_value}
use Rattle.def_access.proofs.casting.index_of.Goals as goal

pub returns-in-Value : goal.returns-in-Value
returns-in-Value c =
    said_value (index_cast c.args.heap.now.objects c.args.index.now) c.args.heap.now c.to_type.new.heap c.int_in.new.heap c.in-Value.value c.int_in.result
    (cast_plain c.args.heap.now.objects c.args.index.now (t.Prim prim.Int)) c.in-Value.ensures.exact c.int_in.ensures

pub returns-in-Thrown : goal.returns-in-Thrown
returns-in-Thrown c =
    said_stopped (index_cast c.args.heap.now.objects c.args.index.now) c.args.heap.now c.to_type.new.heap (a.Thrown c.in-Thrown.id)
    (cast_plain c.args.heap.now.objects c.args.index.now (t.Prim prim.Int)) tt c.in-Thrown.ensures.exact

pub returns-in-Room : goal.returns-in-Room
returns-in-Room c =
    said_stopped (index_cast c.args.heap.now.objects c.args.index.now) c.args.heap.now c.to_type.new.heap a.Room
    (cast_plain c.args.heap.now.objects c.args.index.now (t.Prim prim.Int)) tt c.in-Room.ensures.exact

pub returns-in-NoMemory : goal.returns-in-NoMemory
returns-in-NoMemory c =
    said_stopped (index_cast c.args.heap.now.objects c.args.index.now) c.args.heap.now c.to_type.new.heap a.NoMemory
    (cast_plain c.args.heap.now.objects c.args.index.now (t.Prim prim.Int)) tt c.in-NoMemory.ensures.exact
