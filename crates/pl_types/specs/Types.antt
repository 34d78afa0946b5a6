-- Types, as plain data.
use Rattle.std.specs.Prelude.{Bool, true, false, ◌==◌}
use Rattle.pl_types.specs.declared.primitive.Primitive.{Primitive}
use Rattle.pl_types.specs.declared.primitive.Primitive.TheVariants.{Boolean, Byte, Short, Char, Int, Long}
use Rattle.pl_types.specs.declared.ty.Ty.{Ty, out-Ty}
use Rattle.pl_types.specs.declared.ty.Ty.TheOpen.{Ty-F}
use Rattle.pl_types.specs.declared.ty.Ty.TheFolds.{fold-Ty}

-- whether two primitives are one
abbrev pub same_primitives : Primitive → Primitive → Bool
same_primitives Boolean Boolean = true
same_primitives Byte Byte = true
same_primitives Short Short = true
same_primitives Char Char = true
same_primitives Int Int = true
same_primitives Long Long = true
same_primitives a b = false

-- Whether two types are one. The first is a layer of a type, with the test of its element.
abbrev pub same_layer : Ty-F (Ty → Bool) → Ty-F Ty → Bool
same_layer Ty-F.Void Ty-F.Void = true
same_layer Ty-F.Null Ty-F.Null = true
same_layer Ty-F.Def Ty-F.Def = true
same_layer (Ty-F.Prim p) (Ty-F.Prim q) = same_primitives p q
same_layer (Ty-F.Class c) (Ty-F.Class d) = c == d
same_layer (Ty-F.Array is) (Ty-F.Array u) = is u
same_layer a b = false

abbrev pub same_types : Ty → Ty → Bool
same_types = fold-Ty (Ty → Bool) (λ a b. same_layer a (out-Ty b))
