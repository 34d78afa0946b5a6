-- The plans of operators fit their operands.
use Rattle.std.proofs.Common.{◌≡◌, Bool, true, false, [], ◌∷◌, Option, Some, None, refl, subst}
use Rattle.std.specs.Prelude.{option_map, if◌then◌else◌}
use Rattle.arithmetic.specs.declared.operator.Op.{Op}
use Rattle.arithmetic.specs.declared.operator.Op.TheVariants as op
use Rattle.pl_types.specs.declared.primitive.Primitive.{Primitive}
use Rattle.pl_types.specs.declared.primitive.Primitive.TheVariants as prim
use Rattle.pl_types.specs.declared.ty.Ty.{Ty, out-Ty}
use Rattle.pl_types.specs.declared.ty.Ty.TheOpen.{Ty-F}
use Rattle.pl_types.specs.declared.ty.Ty.TheVariants as t
use Rattle.pl_types.specs.Promotions.{promote_of}
use Rattle.pl_tree.specs.declared.operator.BinaryOperator.{BinaryOperator}
use Rattle.pl_tree.specs.declared.operator.BinaryOperator.TheVariants as b
use Rattle.typed_tree.specs.declared.operation.Operator.TheVariants as operator
use Rattle.typing_rules.specs.declared.rules.plans.Plan.{Plan}
use Rattle.typing_rules.specs.Rules.Operators.{primitive_layer, primitive_of, unboxed_layer, unboxed_of, is_equality, primitive_to, plan, on_numbers, shift_of, of_booleans, bits, equality, plan_of, plan_if, plan_between}
use Rattle.source_typing.specs.Types.{Takes}

pub record PlanFits (x : Plan) : Type 0 where
  pub does : Takes x.operator (t.Prim x.left ∷ t.Prim x.right ∷ []) (t.Prim x.result)

-- a number type that is promoted
abbrev pub IsWide : Primitive → Type 0
IsWide prim.Int = Unit {0}
IsWide prim.Long = Unit {0}
IsWide q = ⊥

abbrev pub IsWideIf : Option Primitive → Type 0
IsWideIf None = Unit {0}
IsWideIf (Some q) = IsWide q

pub promotes : (p q : Primitive) → IsWideIf (promote_of p q)
promotes prim.Boolean prim.Boolean = tt
promotes prim.Boolean prim.Byte = tt
promotes prim.Boolean prim.Short = tt
promotes prim.Boolean prim.Char = tt
promotes prim.Boolean prim.Int = tt
promotes prim.Boolean prim.Long = tt
promotes prim.Byte prim.Boolean = tt
promotes prim.Byte prim.Byte = tt
promotes prim.Byte prim.Short = tt
promotes prim.Byte prim.Char = tt
promotes prim.Byte prim.Int = tt
promotes prim.Byte prim.Long = tt
promotes prim.Short prim.Boolean = tt
promotes prim.Short prim.Byte = tt
promotes prim.Short prim.Short = tt
promotes prim.Short prim.Char = tt
promotes prim.Short prim.Int = tt
promotes prim.Short prim.Long = tt
promotes prim.Char prim.Boolean = tt
promotes prim.Char prim.Byte = tt
promotes prim.Char prim.Short = tt
promotes prim.Char prim.Char = tt
promotes prim.Char prim.Int = tt
promotes prim.Char prim.Long = tt
promotes prim.Int prim.Boolean = tt
promotes prim.Int prim.Byte = tt
promotes prim.Int prim.Short = tt
promotes prim.Int prim.Char = tt
promotes prim.Int prim.Int = tt
promotes prim.Int prim.Long = tt
promotes prim.Long prim.Boolean = tt
promotes prim.Long prim.Byte = tt
promotes prim.Long prim.Short = tt
promotes prim.Long prim.Char = tt
promotes prim.Long prim.Int = tt
promotes prim.Long prim.Long = tt

planned : (x : Plan) (y : Plan) → Some x ≡ Some y → PlanFits x → PlanFits y
planned x y e f = let same : x ≡ y = cc in subst PlanFits same f

module _ (o : Op) where
  arithmetic_fits : (w : Option Primitive) → IsWideIf w → PlanFits (plan (operator.Int o) prim.Int prim.Int prim.Int) → PlanFits (plan (operator.Long o) prim.Long prim.Long prim.Long)
      → (x : Plan) → option_map (λ q. plan (on_numbers q o) q q q) w ≡ Some x → PlanFits x
  arithmetic_fits None w i l x e = cc
  arithmetic_fits (Some prim.Int) w i l x e = planned _ x e i
  arithmetic_fits (Some prim.Long) w i l x e = planned _ x e l
  arithmetic_fits (Some prim.Boolean) w i l x e = absurd w
  arithmetic_fits (Some prim.Byte) w i l x e = absurd w
  arithmetic_fits (Some prim.Short) w i l x e = absurd w
  arithmetic_fits (Some prim.Char) w i l x e = absurd w

  comparison_fits : (w : Option Primitive) → IsWideIf w → PlanFits (plan (operator.Int o) prim.Int prim.Int prim.Boolean) → PlanFits (plan (operator.Long o) prim.Long prim.Long prim.Boolean)
      → (x : Plan) → option_map (λ q. plan (on_numbers q o) q q prim.Boolean) w ≡ Some x → PlanFits x
  comparison_fits None w i l x e = cc
  comparison_fits (Some prim.Int) w i l x e = planned _ x e i
  comparison_fits (Some prim.Long) w i l x e = planned _ x e l
  comparison_fits (Some prim.Boolean) w i l x e = absurd w
  comparison_fits (Some prim.Byte) w i l x e = absurd w
  comparison_fits (Some prim.Short) w i l x e = absurd w
  comparison_fits (Some prim.Char) w i l x e = absurd w

  shift_fits : (w v : Option Primitive) → IsWideIf w → PlanFits (plan (operator.Int o) prim.Int prim.Int prim.Int) → PlanFits (plan (operator.Long o) prim.Long prim.Int prim.Long)
      → (x : Plan) → shift_of o w v ≡ Some x → PlanFits x
  shift_fits None v w i l x e = cc
  shift_fits (Some q) None w i l x e = cc
  shift_fits (Some prim.Int) (Some r) w i l x e = planned _ x e i
  shift_fits (Some prim.Long) (Some r) w i l x e = planned _ x e l
  shift_fits (Some prim.Boolean) (Some r) w i l x e = absurd w
  shift_fits (Some prim.Byte) (Some r) w i l x e = absurd w
  shift_fits (Some prim.Short) (Some r) w i l x e = absurd w
  shift_fits (Some prim.Char) (Some r) w i l x e = absurd w

  -- what an arithmetic operator takes on its right is promoted
  pub arithmetic_right : (w : Option Primitive) → IsWideIf w → (x : Plan) → option_map (λ q. plan (on_numbers q o) q q q) w ≡ Some x → IsWide x.right
  arithmetic_right None w x e = cc
  arithmetic_right (Some q) w x e = let same : plan (on_numbers q o) q q q ≡ x = cc in subst (λ (x : Plan). IsWide x.right) same w

  bits_fit : PlanFits (of_booleans o) → PlanFits (plan (operator.Int o) prim.Int prim.Int prim.Int) → PlanFits (plan (operator.Long o) prim.Long prim.Long prim.Long)
      → (p q : Primitive) (x : Plan) → bits o p q ≡ Some x → PlanFits x
  bits_fit f i l prim.Boolean prim.Boolean x e = planned _ x e f
  bits_fit f i l prim.Boolean prim.Byte x e = arithmetic_fits (promote_of prim.Boolean prim.Byte) (promotes prim.Boolean prim.Byte) i l x e
  bits_fit f i l prim.Boolean prim.Short x e = arithmetic_fits (promote_of prim.Boolean prim.Short) (promotes prim.Boolean prim.Short) i l x e
  bits_fit f i l prim.Boolean prim.Char x e = arithmetic_fits (promote_of prim.Boolean prim.Char) (promotes prim.Boolean prim.Char) i l x e
  bits_fit f i l prim.Boolean prim.Int x e = arithmetic_fits (promote_of prim.Boolean prim.Int) (promotes prim.Boolean prim.Int) i l x e
  bits_fit f i l prim.Boolean prim.Long x e = arithmetic_fits (promote_of prim.Boolean prim.Long) (promotes prim.Boolean prim.Long) i l x e
  bits_fit f i l prim.Byte q x e = arithmetic_fits (promote_of prim.Byte q) (promotes prim.Byte q) i l x e
  bits_fit f i l prim.Short q x e = arithmetic_fits (promote_of prim.Short q) (promotes prim.Short q) i l x e
  bits_fit f i l prim.Char q x e = arithmetic_fits (promote_of prim.Char q) (promotes prim.Char q) i l x e
  bits_fit f i l prim.Int q x e = arithmetic_fits (promote_of prim.Int q) (promotes prim.Int q) i l x e
  bits_fit f i l prim.Long q x e = arithmetic_fits (promote_of prim.Long q) (promotes prim.Long q) i l x e

  equality_fits : PlanFits (of_booleans o) → PlanFits (plan (operator.Int o) prim.Int prim.Int prim.Boolean) → PlanFits (plan (operator.Long o) prim.Long prim.Long prim.Boolean)
      → (p q : Primitive) (x : Plan) → equality o p q ≡ Some x → PlanFits x
  equality_fits f i l prim.Boolean prim.Boolean x e = planned _ x e f
  equality_fits f i l prim.Boolean prim.Byte x e = comparison_fits (promote_of prim.Boolean prim.Byte) (promotes prim.Boolean prim.Byte) i l x e
  equality_fits f i l prim.Boolean prim.Short x e = comparison_fits (promote_of prim.Boolean prim.Short) (promotes prim.Boolean prim.Short) i l x e
  equality_fits f i l prim.Boolean prim.Char x e = comparison_fits (promote_of prim.Boolean prim.Char) (promotes prim.Boolean prim.Char) i l x e
  equality_fits f i l prim.Boolean prim.Int x e = comparison_fits (promote_of prim.Boolean prim.Int) (promotes prim.Boolean prim.Int) i l x e
  equality_fits f i l prim.Boolean prim.Long x e = comparison_fits (promote_of prim.Boolean prim.Long) (promotes prim.Boolean prim.Long) i l x e
  equality_fits f i l prim.Byte q x e = comparison_fits (promote_of prim.Byte q) (promotes prim.Byte q) i l x e
  equality_fits f i l prim.Short q x e = comparison_fits (promote_of prim.Short q) (promotes prim.Short q) i l x e
  equality_fits f i l prim.Char q x e = comparison_fits (promote_of prim.Char q) (promotes prim.Char q) i l x e
  equality_fits f i l prim.Int q x e = comparison_fits (promote_of prim.Int q) (promotes prim.Int q) i l x e
  equality_fits f i l prim.Long q x e = comparison_fits (promote_of prim.Long q) (promotes prim.Long q) i l x e

fits3 : (x : Plan) → Takes x.operator (t.Prim x.left ∷ t.Prim x.right ∷ []) (t.Prim x.result) → PlanFits x
fits3 x h = record { does = h }

-- the plan of an operator between primitives
plan_fits : (o : BinaryOperator) (p q : Primitive) (x : Plan) → plan_of o p q ≡ Some x → PlanFits x
plan_fits b.Multiply p q x e = arithmetic_fits op.Mul (promote_of p q) (promotes p q) (fits3 _ (refl, refl, refl)) (fits3 _ (refl, refl, refl)) x e
plan_fits b.Divide p q x e = arithmetic_fits op.Div (promote_of p q) (promotes p q) (fits3 _ (refl, refl, refl)) (fits3 _ (refl, refl, refl)) x e
plan_fits b.Remainder p q x e = arithmetic_fits op.Rem (promote_of p q) (promotes p q) (fits3 _ (refl, refl, refl)) (fits3 _ (refl, refl, refl)) x e
plan_fits b.Add p q x e = arithmetic_fits op.Add (promote_of p q) (promotes p q) (fits3 _ (refl, refl, refl)) (fits3 _ (refl, refl, refl)) x e
plan_fits b.Subtract p q x e = arithmetic_fits op.Sub (promote_of p q) (promotes p q) (fits3 _ (refl, refl, refl)) (fits3 _ (refl, refl, refl)) x e
plan_fits b.ShiftLeft p q x e = shift_fits op.Shl (promote_of p prim.Int) (promote_of q prim.Int) (promotes p prim.Int) (fits3 _ (refl, refl, refl)) (fits3 _ (refl, refl, refl)) x e
plan_fits b.ShiftRight p q x e = shift_fits op.Shr (promote_of p prim.Int) (promote_of q prim.Int) (promotes p prim.Int) (fits3 _ (refl, refl, refl)) (fits3 _ (refl, refl, refl)) x e
plan_fits b.ShiftRightUnsigned p q x e = shift_fits op.Ushr (promote_of p prim.Int) (promote_of q prim.Int) (promotes p prim.Int) (fits3 _ (refl, refl, refl)) (fits3 _ (refl, refl, refl)) x e
plan_fits b.Less p q x e = comparison_fits op.Lt (promote_of p q) (promotes p q) (fits3 _ (refl, refl, refl)) (fits3 _ (refl, refl, refl)) x e
plan_fits b.LessEqual p q x e = comparison_fits op.Le (promote_of p q) (promotes p q) (fits3 _ (refl, refl, refl)) (fits3 _ (refl, refl, refl)) x e
plan_fits b.Greater p q x e = comparison_fits op.Gt (promote_of p q) (promotes p q) (fits3 _ (refl, refl, refl)) (fits3 _ (refl, refl, refl)) x e
plan_fits b.GreaterEqual p q x e = comparison_fits op.Ge (promote_of p q) (promotes p q) (fits3 _ (refl, refl, refl)) (fits3 _ (refl, refl, refl)) x e
plan_fits b.Equal p q x e = equality_fits op.Eq (fits3 _ (refl, refl, refl)) (fits3 _ (refl, refl, refl)) (fits3 _ (refl, refl, refl)) p q x e
plan_fits b.NotEqual p q x e = equality_fits op.Ne (fits3 _ (refl, refl, refl)) (fits3 _ (refl, refl, refl)) (fits3 _ (refl, refl, refl)) p q x e
plan_fits b.Same p q x e = equality_fits op.Eq (fits3 _ (refl, refl, refl)) (fits3 _ (refl, refl, refl)) (fits3 _ (refl, refl, refl)) p q x e
plan_fits b.NotSame p q x e = equality_fits op.Ne (fits3 _ (refl, refl, refl)) (fits3 _ (refl, refl, refl)) (fits3 _ (refl, refl, refl)) p q x e
plan_fits b.And p q x e = bits_fit op.And (fits3 _ (refl, refl, refl)) (fits3 _ (refl, refl, refl)) (fits3 _ (refl, refl, refl)) p q x e
plan_fits b.Xor p q x e = bits_fit op.Xor (fits3 _ (refl, refl, refl)) (fits3 _ (refl, refl, refl)) (fits3 _ (refl, refl, refl)) p q x e
plan_fits b.Or p q x e = bits_fit op.Or (fits3 _ (refl, refl, refl)) (fits3 _ (refl, refl, refl)) (fits3 _ (refl, refl, refl)) p q x e
plan_fits b.AndAnd p q x e = cc
plan_fits b.OrOr p q x e = cc

planned_if : (o : BinaryOperator) (p q : Option Primitive) (x : Plan) → plan_if o p q ≡ Some x → PlanFits x
planned_if o None q x e = cc
planned_if o (Some p) None x e = cc
planned_if o (Some p) (Some q) x e = plan_fits o p q x e

pub plans_fit : (o : BinaryOperator) (p q : Ty) (x : Plan) → plan_between o p q ≡ Some x → PlanFits x
plans_fit o p q x e = planned_if o (primitive_to o p) (primitive_to o q) x e

right_if : (o : BinaryOperator) (p q : Option Primitive) (x : Plan) → ((p q : Primitive) → plan_of o p q ≡ Some x → IsWide x.right) → plan_if o p q ≡ Some x → IsWide x.right
right_if o None q x f e = cc
right_if o (Some p) None x f e = cc
right_if o (Some p) (Some q) x f e = f p q e

pub add_right : (p q : Ty) (x : Plan) → plan_between b.Add p q ≡ Some x → IsWide x.right
add_right p q x e = right_if b.Add (unboxed_of p) (unboxed_of q) x (λ p q e. arithmetic_right op.Add (promote_of p q) (promotes p q) x e) e

pub subtract_right : (p q : Ty) (x : Plan) → plan_between b.Subtract p q ≡ Some x → IsWide x.right
subtract_right p q x e = right_if b.Subtract (unboxed_of p) (unboxed_of q) x (λ p q e. arithmetic_right op.Sub (promote_of p q) (promotes p q) x e) e

-- a plan is there for primitive types and boxes alone
pub record IsUnboxed (of : Ty) : Type 0 where
  pub primitive : Primitive
  pub is : unboxed_of of ≡ Some primitive

primitive_unboxed : (l : Ty-F Ty) (p : Primitive) → primitive_layer l ≡ Some p → unboxed_layer l ≡ Some p
primitive_unboxed (Ty-F.Prim q) p e = e
primitive_unboxed Ty-F.Void p e = cc
primitive_unboxed Ty-F.Null p e = cc
primitive_unboxed Ty-F.Def p e = cc
primitive_unboxed (Ty-F.Class c) p e = cc
primitive_unboxed (Ty-F.Array u) p e = cc

unboxed_by : (test : Bool) (of : Ty) (p : Primitive) → (if test then primitive_of of else unboxed_of of) ≡ Some p → unboxed_of of ≡ Some p
unboxed_by true of p e = primitive_unboxed (out-Ty of) p e
unboxed_by false of p e = e

left_there : (o : BinaryOperator) (p q : Option Primitive) (x : Plan) → plan_if o p q ≡ Some x → (r : Primitive) × (p ≡ Some r)
left_there o None q x e = cc
left_there o (Some r) q x e = (r, refl)

pub left_unboxed : (o : BinaryOperator) (p q : Ty) (x : Plan) → plan_between o p q ≡ Some x → IsUnboxed p
left_unboxed o p q x e =
    let left = left_there o (primitive_to o p) (primitive_to o q) x e in
    record { primitive = left.0; is = unboxed_by (is_equality o) p left.0 left.1 }
