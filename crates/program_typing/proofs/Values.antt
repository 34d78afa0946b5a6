-- Values of their types.
use Rattle.std.proofs.Common.{◌≡◌, Bool, true, false, not, refl, sym, subst}
use Rattle.std.specs.Prelude.{ℕ, ℤ, pos}
use Rattle.std.specs.Ordering.{int_eq}
use Rattle.pl_types.specs.declared.primitive.Primitive.{Primitive}
use Rattle.pl_types.specs.declared.primitive.Primitive.TheVariants as prim
use Rattle.pl_types.specs.declared.ty.Ty.{Ty, out-Ty}
use Rattle.pl_types.specs.declared.ty.Ty.TheVariants as t
use Rattle.pl_types.specs.declared.ty.Ty.TheOpen.{Ty-F}
use Rattle.object_values.specs.declared.value.Value.{Value}
use Rattle.object_values.specs.declared.value.Value.TheVariants as v
use Rattle.arithmetic.specs.Operators.{truth}
use Rattle.number_ops.specs.Operators.{truth_in}
use Rattle.typed_tree.specs.declared.operation.Constant.{Constant}
use Rattle.typed_tree.specs.declared.operation.Constant.TheVariants as constant
use Rattle.source_meaning.specs.Operating.{value_of}
use Rattle.source_meaning.specs.Types.{default_of, default_of_layer}
use Rattle.program_typing.specs.Types.{HasPrimitive, HasLayer, Has, is_reference_layer, IsOf, string}

-- ---- values of primitive types

-- of a primitive type, and as that type asks
pub bare : (p : Primitive) (value : Value) → Has (t.Prim p) value → HasPrimitive p value
unfolding out-Ty denote.Hole.Carrier.out
bare p value h = h

pub dressed : (p : Primitive) (value : Value) → HasPrimitive p value → Has (t.Prim p) value
unfolding out-Ty denote.Hole.Carrier.out
dressed p value h = h

pub nothing_has : (value : Value) → Has t.Void value
unfolding out-Ty denote.Hole.Carrier.out
nothing_has value = tt

pub has_flag : (of : Ty) (a : Bool) → of ≡ t.Prim prim.Boolean → Has of (v.Bool a)
has_flag of a x = subst (λ of. Has of (v.Bool a)) (sym x) (dressed prim.Boolean (v.Bool a) (a, refl))

pub has_int : (of : Ty) (a : ℤ) → of ≡ t.Prim prim.Int → Has of (v.Int a)
has_int of a x = subst (λ of. Has of (v.Int a)) (sym x) (dressed prim.Int (v.Int a) (a, refl))

pub has_long : (of : Ty) (a : ℤ) → of ≡ t.Prim prim.Long → Has of (v.Long a)
has_long of a x = subst (λ of. Has of (v.Long a)) (sym x) (dressed prim.Long (v.Long a) (a, refl))

pub is_flag : (of : Ty) (value : Value) → of ≡ t.Prim prim.Boolean → Has of value → (a : Bool) × (value ≡ v.Bool a)
is_flag of value x h = bare prim.Boolean value (subst (λ of. Has of value) x h)

pub is_int : (of : Ty) (value : Value) → of ≡ t.Prim prim.Int → Has of value → (a : ℤ) × (value ≡ v.Int a)
is_int of value x h = bare prim.Int value (subst (λ of. Has of value) x h)

pub is_long : (of : Ty) (value : Value) → of ≡ t.Prim prim.Long → Has of value → (a : ℤ) × (value ≡ v.Long a)
is_long of value x h = bare prim.Long value (subst (λ of. Has of value) x h)

pub truth_has : (of : Ty) (c : Bool) → of ≡ t.Prim prim.Boolean → Has of (truth_in (truth c))
truth_has of true x = has_flag of (not (int_eq (pos 1) (pos 0))) x
truth_has of false x = has_flag of (not (int_eq (pos 0) (pos 0))) x

pub reference_has : (l : Ty-F Ty) (value : Value) → is_reference_layer l → HasLayer l value
reference_has Ty-F.Void value r = tt
reference_has Ty-F.Null value r = tt
reference_has Ty-F.Def value r = tt
reference_has (Ty-F.Prim p) value r = absurd r
reference_has (Ty-F.Class class) value r = tt
reference_has (Ty-F.Array of) value r = tt

pub constant_has : (c : Constant) (of : Ty) → IsOf c of → Has of (value_of c)
constant_has constant.Null of x = reference_has (out-Ty of) v.Null x
constant_has (constant.Boolean a) of x = has_flag of a x
constant_has (constant.Byte a) of x = subst (λ of. Has of (v.Byte a)) (sym x) (dressed prim.Byte (v.Byte a) (a, refl))
constant_has (constant.Short a) of x = subst (λ of. Has of (v.Short a)) (sym x) (dressed prim.Short (v.Short a) (a, refl))
constant_has (constant.Char a) of x = subst (λ of. Has of (v.Char a)) (sym x) (dressed prim.Char (v.Char a) (a, refl))
constant_has (constant.Int a) of x = has_int of a x
constant_has (constant.Long a) of x = has_long of a x

default_has_layer : (l : Ty-F Ty) → HasLayer l (default_of_layer l)
default_has_layer Ty-F.Void = tt
default_has_layer Ty-F.Null = tt
default_has_layer Ty-F.Def = tt
default_has_layer (Ty-F.Prim prim.Boolean) = (false, refl)
default_has_layer (Ty-F.Prim prim.Byte) = (pos 0, refl)
default_has_layer (Ty-F.Prim prim.Short) = (pos 0, refl)
default_has_layer (Ty-F.Prim prim.Char) = (0, refl)
default_has_layer (Ty-F.Prim prim.Int) = (pos 0, refl)
default_has_layer (Ty-F.Prim prim.Long) = (pos 0, refl)
default_has_layer (Ty-F.Class class) = tt
default_has_layer (Ty-F.Array of) = tt

pub default_has : (of : Ty) → Has of (default_of of)
default_has of = default_has_layer (out-Ty of)

-- of references nothing is asked
pub class_has : (class : ℕ) (value : Value) → Has (t.Class class) value
unfolding out-Ty denote.Hole.Carrier.out
class_has class value = tt

any_text : (value : Value) → Has string value
unfolding out-Ty denote.Hole.Carrier.out
any_text value = tt

pub text_has : (of : Ty) (value : Value) → of ≡ string → Has of value
text_has of value x = subst (λ of. Has of value) (sym x) (any_text value)
