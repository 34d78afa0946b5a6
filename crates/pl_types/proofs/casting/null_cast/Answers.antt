use Rattle.std.proofs.Common.{sym}
use Rattle.pl_types.proofs.Shapes.{null_void_cast, null_null_cast, null_def_cast, null_prim_cast, null_class_cast, null_array_cast}
use Rattle.pl_types.proofs.casting.null_cast.Goals as goal

pub returns-in-Void : goal.returns-in-Void
returns-in-Void c below w = rw c.in-Void.is (sym (null_void_cast below w))

pub returns-in-Null : goal.returns-in-Null
returns-in-Null c below w = rw c.in-Null.is (sym (null_null_cast below w))

pub returns-in-Def : goal.returns-in-Def
returns-in-Def c below w = rw c.in-Def.is (sym (null_def_cast below w))

pub returns-in-Prim : goal.returns-in-Prim
returns-in-Prim c below w = rw c.in-Prim.is (sym (null_prim_cast below _ w))

pub returns-in-Class : goal.returns-in-Class
returns-in-Class c below w = rw c.in-Class.is (sym (null_class_cast below _ w))

pub returns-in-Array : goal.returns-in-Array
returns-in-Array c below w = rw c.in-Array.is (sym (null_array_cast below _ w))
