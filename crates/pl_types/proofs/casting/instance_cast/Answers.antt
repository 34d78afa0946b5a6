use Rattle.std.proofs.Common.{sym}
use Rattle.pl_types.proofs.Shapes.{class_void_cast, class_null_cast, class_def_cast, class_array_cast}
use Rattle.pl_types.proofs.casting.instance_cast.Goals as goal

pub returns-in-Void : goal.returns-in-Void
returns-in-Void g c = rw c.in-Void.is (sym (class_void_cast _ c.args.from c.args.explicit))

pub returns-in-Null : goal.returns-in-Null
returns-in-Null g c = rw c.in-Null.is (sym (class_null_cast _ c.args.from c.args.explicit))

pub returns-in-Def : goal.returns-in-Def
returns-in-Def g c = rw c.in-Def.is (sym (class_def_cast _ c.args.from c.args.explicit))

pub returns-in-Array : goal.returns-in-Array
returns-in-Array g c = rw c.in-Array.is (sym (class_array_cast _ c.args.from _ c.args.explicit))
