use Rattle.std.proofs.Common.{Some, slice_get}
use Rattle.def_access.proofs.CastLemmas.{cast_none, cast_put}
use Rattle.def_access.proofs.casting.cast_at.Goals as goal

pub returns-in-Some : goal.returns-in-Some
returns-in-Some c =
    cast_put c.args.heap.now c.told_at.new.heap c.args.of.now c.args.values.now c.put_cast.new.values c.args.at (slice_get c.args.values.now c.args.at) c.in-Some.told c.put_cast.result
    c.in-Some.ensures c.put_cast.ensures

pub returns-in-None : goal.returns-in-None
returns-in-None c = cast_none c.args.heap.now c.told_at.new.heap c.args.of.now c.args.values.now c.args.at (slice_get c.args.values.now c.args.at) c.in-None.ensures
