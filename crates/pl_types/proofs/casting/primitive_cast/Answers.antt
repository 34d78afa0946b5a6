use Rattle.std.proofs.Common.{sym}
use Rattle.pl_types.proofs.Shapes.{prim_void_cast, prim_null_cast, prim_def_cast, prim_array_cast}
use Rattle.pl_types.proofs.casting.primitive_cast.Goals as goal

pub returns-in-Void : goal.returns-in-Void
returns-in-Void g c = rw c.in-Void.is (sym (prim_void_cast _ c.args.from c.args.explicit))

pub returns-in-Null : goal.returns-in-Null
returns-in-Null g c = rw c.in-Null.is (sym (prim_null_cast _ c.args.from c.args.explicit))

pub returns-in-Def : goal.returns-in-Def
returns-in-Def g c = rw c.in-Def.is (sym (prim_def_cast _ c.args.from c.args.explicit))

pub returns-in-Array : goal.returns-in-Array
returns-in-Array g c = rw c.in-Array.is (sym (prim_array_cast _ c.args.from _ c.args.explicit))
