use Rattle.pl_types.specs.declared.ty.Ty.{Ty}
use Rattle.std.proofs.Common.{Bool}
use Rattle.pl_types.specs.declared.conversion.Cast.TheVariants.{Keep}
use Rattle.pl_types.specs.Types.{same_types}
use Rattle.pl_types.specs.Casts.{only_if}
use Rattle.std.proofs.Common.{Bool, sym, ap, ◌∙◌}
use Rattle.pl_types.specs.declared.conversion.Cast.TheVariants.{Keep}
use Rattle.pl_types.specs.Casts.{only_if}
use Rattle.pl_types.proofs.Shapes.{array_void_cast, array_null_cast, array_def_cast, array_prim_cast, array_class_cast, array_array_cast}
use Rattle.pl_types.proofs.casting.array_cast.Goals as goal

pub returns-in-Void : goal.returns-in-Void
returns-in-Void c below w = rw c.in-Void.is (sym (array_void_cast below c.args.element.now w))

pub returns-in-Null : goal.returns-in-Null
returns-in-Null c below w = rw c.in-Null.is (sym (array_null_cast below c.args.element.now w))

pub returns-in-Def : goal.returns-in-Def
returns-in-Def c below w = rw c.in-Def.is (sym (array_def_cast below c.args.element.now w))

pub returns-in-Prim : goal.returns-in-Prim
returns-in-Prim c below w = rw c.in-Prim.is (sym (array_prim_cast below c.args.element.now _ w))

pub returns-in-Class : goal.returns-in-Class
returns-in-Class c below w = rw c.in-Class.is (c.only.ensures ∙ sym (array_class_cast below c.args.element.now _ w))

pub returns-in-Array : goal.returns-in-Array
returns-in-Array c below w = rw c.in-Array.is (c.only-in-Array.ensures ∙ ap (λ (t : Bool). only_if t Keep) (c.is.ensures.test ∙ ap (λ (t : Ty). same_types c.args.element.now t) c.get.ensures) ∙ sym (array_array_cast below c.args.element.now _ w))
