use Rattle.std.proofs.Common.{Some, sym, ap, ◌∙◌}
use Rattle.pl_types.proofs.Shapes.{def_void_cast, def_null_cast, def_def_cast, def_prim_cast, def_class_cast, def_array_cast}
use Rattle.pl_types.proofs.casting.def_cast.Goals as goal

pub returns-in-Void : goal.returns-in-Void
returns-in-Void c below = rw c.in-Void.is (sym (def_void_cast below c.args.explicit))

pub returns-in-Null : goal.returns-in-Null
returns-in-Null c below = rw c.in-Null.is (sym (def_null_cast below c.args.explicit))

pub returns-in-Def : goal.returns-in-Def
returns-in-Def c below = rw c.in-Def.is (sym (def_def_cast below c.args.explicit))

pub returns-in-Prim : goal.returns-in-Prim
returns-in-Prim c below = rw c.in-Prim.is (ap Some c.found_later.ensures ∙ sym (def_prim_cast below _ c.args.explicit))

pub returns-in-Class : goal.returns-in-Class
returns-in-Class c below = rw c.in-Class.is (ap Some c.found_later-in-Class.ensures ∙ sym (def_class_cast below _ c.args.explicit))

pub returns-in-Array : goal.returns-in-Array
returns-in-Array c below = rw c.in-Array.is (ap Some c.found_later-in-Array.ensures ∙ sym (def_array_cast below _ c.args.explicit))
