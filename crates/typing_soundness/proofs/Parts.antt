-- Expressions that rules give agree, where their parts do.
use Rattle.std.proofs.Common.{◌≡◌, ℕ, Bool, true, false, List, [], ◌∷◌, Option, Some, None, Ok, Err, refl, sym, ap, ◌∙◌, subst}
use Rattle.std.proofs.lemmas.Bool.{and_parts, or_parts}
use Rattle.std.specs.Prelude.{◌&&◌, ℤ, pos, neg_ℤ, nat_lt, nat_le, ◌^◌, if◌then◌else◌}
use Rattle.pl_types.specs.declared.primitive.Primitive.{Primitive}
use Rattle.pl_types.specs.declared.primitive.Primitive.TheVariants as prim
use Rattle.pl_types.specs.declared.ty.Ty.{Ty, out-Ty}
use Rattle.pl_types.specs.declared.ty.Ty.TheVariants as t
use Rattle.pl_types.specs.declared.ty.Ty.TheOpen.{Ty-F}
use Rattle.pl_types.specs.declared.conversion.Cast.{Cast}
use Rattle.pl_types.specs.declared.classes.TheConstants.{STRING}
use Rattle.pl_types.specs.Classes.{class_is_below}
use Rattle.pl_types.specs.Promotions.{promote_of}
use Rattle.pl_types.specs.Types.{same_types}
use Rattle.object_heap.proofs.TypeLemmas.{types_exact}
use Rattle.arithmetic.specs.declared.operator.Op.{Op}
use Rattle.arithmetic.specs.declared.operator.Op.TheVariants as op
use Rattle.pl_tree.specs.declared.operator.BinaryOperator.{BinaryOperator}
use Rattle.pl_tree.specs.declared.operator.BinaryOperator.TheVariants as b
use Rattle.pl_tree.specs.declared.operator.UnaryOperator.{UnaryOperator}
use Rattle.pl_tree.specs.declared.operator.UnaryOperator.TheVariants as u
use Rattle.pl_tree.specs.declared.operator.Constant.{Constant as TreeConstant}
use Rattle.pl_tree.specs.declared.operator.Constant.TheVariants as c
use Rattle.typed_tree.specs.declared.operation.Constant.{Constant}
use Rattle.typed_tree.specs.declared.operation.Constant.TheVariants as k
use Rattle.typed_tree.specs.declared.operation.Operation.TheVariants as o
use Rattle.typed_tree.specs.declared.operation.Operator.{Operator}
use Rattle.typed_tree.specs.declared.operation.Operator.TheVariants as operator
use Rattle.typed_tree.specs.declared.operation.Logical.{Logical}
use Rattle.typed_tree.specs.declared.typed.Node.{Node}
use Rattle.typed_tree.specs.declared.typed.Node.TheVariants as n
use Rattle.typed_tree.specs.declared.typed.Typed.{Typed, out-roll-Typed}
use Rattle.typing_rules.specs.declared.part.Form.{Form}
use Rattle.typing_rules.specs.declared.part.Form.TheVariants as f
use Rattle.typing_rules.specs.declared.part.Part.{Part}
use Rattle.typing_rules.specs.declared.rules.plans.Plan.{Plan}
use Rattle.typing_rules.specs.Outcomes.{Out, refuse, bind}
use Rattle.typing_rules.specs.Rules.Nodes.{boolean, typed, applied, type_in, type_of_part, part, plain, bracketed, is_void}
use Rattle.typing_rules.specs.Rules.Literals.{int_literal, long_literal, integer, negated_integer, constant, unescaped, unquoted, text}
use Rattle.typing_rules.specs.Rules.Digits.{is_long, magnitude, unmarked}
use Rattle.typing_rules.specs.Rules.Casts.{within, unit_of, standing_layer, standing, cast_by, cast_at, literal_or, cast_to, asked}
use Rattle.typing_rules.specs.Rules.Operators.{primitive_layer, primitive_of, unboxed_of, on_numbers, operand, Side, side_layer, side_of, joins, compares, identifies, only_if, is_dynamic, dynamic_if, dynamic_of, relation_of, relation_between, type_given, reference, related, strict, side, both_sides, logical, binary_of, promoted_if, promoted, is_def_side, on_def, alone, signed, plus_as, not_of, unary_of, common_if, common_layer, common, choice_as, choice_of, is_literal, is_primitive, needs_no_other, elvis_by, common_of, elvis_of, may_be_instance, has_instances_layer, instance_of}
use Rattle.typing_rules.specs.Rules.Types.{is_built_class}
use Rattle.source_typing.specs.Tree.{Expr, Literal, type_of}
use Rattle.source_typing.specs.Programs.{expr_of}
use Rattle.source_typing.specs.Types.{is_reference_layer, IsReference, string, IsOf, Takes, TakesTo, Casts}
use Rattle.source_typing.proofs.Containers.{as_node}
use Rattle.source_typing.specs.Agreeing.{Known as Script, Scope, ExprAgrees}
use Rattle.typing_soundness.proofs.Nodes.{constant_is, text_is, applied_is, logic_is, choice_is, elvis_is}
use Rattle.typing_soundness.proofs.Types.{IsBuilt, prim_by, prim_built, def_built, class_built, built_part, built_aim, built_named, part_layer, IsOfPart, null_part, prim_part, part_aim, IsAim, prim_aim, def_aim, def_reference, null_reference, class_reference}
use Rattle.typing_soundness.proofs.Casts.{part_casts, none_to_void}
use Rattle.typing_soundness.proofs.Plans.{PlanFits, IsWide, IsWideIf, promotes, plans_fit}

-- ---- what was given, where nothing was refused

pub record Passed {A B : Type 0} (o : Out A) (next : A → Out B) (y : B) : Type 0 where
  pub given : A
  pub first : o ≡ Ok given
  pub then' : next given ≡ Ok y

pub passed : {A B : Type 0} (o : Out A) (next : A → Out B) (y : B) → bind o next ≡ Ok y → Passed o next y
passed (Ok a) next y e = record { given = a; first = refl; then' = e }
passed (Err r) next y e = cc

abbrev pub accepted : {A : Type 0} → A → Out A
accepted x = Ok x

-- what is the one that is given
pub settled : {A : Type 0} (P : A → Type 0) (x y : A) → accepted x ≡ accepted y → P x → P y
settled P x y e p = let same : x ≡ y = cc in subst P same p

pub refused : {A : Type 0} (P : Type 0) (number at : ℕ) (y : A) → refuse number at ≡ Ok y → P
refused P number at y e = cc

type_is : (at : ℕ) (of : Ty) (node : Node) → type_in (typed at of node) ≡ of
type_is at of node = ap (λ x. x.of) (out-roll-Typed (record { at = at; of = of; node = node }))

-- ---- types that rules give

pub string_part : IsOfPart string
string_part = built_part string (class_built STRING refl)

-- what is done with two references
pub record Relates (r : Operator) : Type 0 where
  pub does : Takes r (t.Def ∷ t.Def ∷ []) (type_given r)
  pub of_part : IsOfPart (type_given r)

only_relates : (test : Bool) (r r' : Operator) → only_if test r ≡ Some r' → Relates r → Relates r'
only_relates true r r' e h = let same : r ≡ r' = cc in subst Relates same h
only_relates false r r' e h = cc

pub def_part : IsOfPart t.Def
def_part = built_part t.Def def_built

dynamic_relates : (test : Bool) (o' : Op) (r : Operator) → dynamic_if test (Some o') ≡ Some r → Relates (operator.Def o') → Relates r
dynamic_relates true o' r e h = let same : operator.Def o' ≡ r = cc in subst Relates same h
dynamic_relates false o' r e h = cc

no_dynamic : (test : Bool) (r : Operator) → dynamic_if test None ≡ Some r → Relates r
no_dynamic true r e = cc
no_dynamic false r e = cc

-- an operator whose sides have types that are found when the script runs
pub dynamics_fit : (operator : BinaryOperator) (x y : Side) (r : Operator) → dynamic_of operator x y ≡ Some r → Relates r
dynamics_fit b.Multiply x y r e = dynamic_relates (is_dynamic x y) op.Mul r e (record { does = ((def_reference, def_reference), refl); of_part = def_part })
dynamics_fit b.Divide x y r e = dynamic_relates (is_dynamic x y) op.Div r e (record { does = ((def_reference, def_reference), refl); of_part = def_part })
dynamics_fit b.Remainder x y r e = dynamic_relates (is_dynamic x y) op.Rem r e (record { does = ((def_reference, def_reference), refl); of_part = def_part })
dynamics_fit b.Add x y r e = dynamic_relates (is_dynamic x y) op.Add r e (record { does = ((def_reference, def_reference), refl); of_part = def_part })
dynamics_fit b.Subtract x y r e = dynamic_relates (is_dynamic x y) op.Sub r e (record { does = ((def_reference, def_reference), refl); of_part = def_part })
dynamics_fit b.ShiftLeft x y r e = dynamic_relates (is_dynamic x y) op.Shl r e (record { does = ((def_reference, def_reference), refl); of_part = def_part })
dynamics_fit b.ShiftRight x y r e = dynamic_relates (is_dynamic x y) op.Shr r e (record { does = ((def_reference, def_reference), refl); of_part = def_part })
dynamics_fit b.ShiftRightUnsigned x y r e = dynamic_relates (is_dynamic x y) op.Ushr r e (record { does = ((def_reference, def_reference), refl); of_part = def_part })
dynamics_fit b.And x y r e = dynamic_relates (is_dynamic x y) op.And r e (record { does = ((def_reference, def_reference), refl); of_part = def_part })
dynamics_fit b.Xor x y r e = dynamic_relates (is_dynamic x y) op.Xor r e (record { does = ((def_reference, def_reference), refl); of_part = def_part })
dynamics_fit b.Or x y r e = dynamic_relates (is_dynamic x y) op.Or r e (record { does = ((def_reference, def_reference), refl); of_part = def_part })
dynamics_fit b.Less x y r e = dynamic_relates (is_dynamic x y) op.Lt r e (record { does = ((def_reference, def_reference), refl); of_part = prim_part prim.Boolean })
dynamics_fit b.LessEqual x y r e = dynamic_relates (is_dynamic x y) op.Le r e (record { does = ((def_reference, def_reference), refl); of_part = prim_part prim.Boolean })
dynamics_fit b.Greater x y r e = dynamic_relates (is_dynamic x y) op.Gt r e (record { does = ((def_reference, def_reference), refl); of_part = prim_part prim.Boolean })
dynamics_fit b.GreaterEqual x y r e = dynamic_relates (is_dynamic x y) op.Ge r e (record { does = ((def_reference, def_reference), refl); of_part = prim_part prim.Boolean })
dynamics_fit operator x y r e = no_dynamic (is_dynamic x y) r e

joined_relates : (test : Bool) (other : Option Operator) (r : Operator) → (if test then Some operator.Concat else other) ≡ Some r → Relates operator.Concat → (other ≡ Some r → Relates r) → Relates r
joined_relates true other r e h k = let same : operator.Concat ≡ r = cc in subst Relates same h
joined_relates false other r e h k = k e

pub relations_fit : (operator : BinaryOperator) (x y : Side) (r : Operator) → relation_of operator x y ≡ Some r → Relates r
relations_fit b.Add x y r e =
    joined_relates (joins x y) (dynamic_of b.Add x y) r e (record { does = ((def_reference, def_reference), refl); of_part = string_part }) (dynamics_fit b.Add x y r)
relations_fit b.Equal x y r e =
    only_relates (compares x y) _ r e (record { does = ((def_reference, def_reference), refl); of_part = prim_part prim.Boolean })
relations_fit b.NotEqual x y r e =
    only_relates (compares x y) _ r e (record { does = ((def_reference, def_reference), refl); of_part = prim_part prim.Boolean })
relations_fit b.Same x y r e =
    only_relates (identifies x y) _ r e (record { does = ((def_reference, def_reference), refl); of_part = prim_part prim.Boolean })
relations_fit b.NotSame x y r e =
    only_relates (identifies x y) _ r e (record { does = ((def_reference, def_reference), refl); of_part = prim_part prim.Boolean })
relations_fit operator x y r e = dynamics_fit operator x y r e

common_if_built : (p : Option Primitive) → IsBuilt (common_if p)
common_if_built None = def_built
common_if_built (Some q) = prim_built q

common_class_built : (c d : ℕ) (b b' : Bool) → is_built_class c ≡ true → is_built_class d ≡ true
    → IsBuilt (if b then t.Class d else (if b' then t.Class c else t.Def))
common_class_built c d true b' hc hd = class_built d hd
common_class_built c d false true hc hd = class_built c hc
common_class_built c d false false hc hd = def_built

common_layer_built : (a b : Ty-F Ty) → part_layer a → part_layer b → IsBuilt (common_layer a b)
common_layer_built (Ty-F.Prim q) (Ty-F.Prim r) x y = common_if_built (promote_of q r)
common_layer_built (Ty-F.Class c) (Ty-F.Class d) x y = common_class_built c d (class_is_below c d) (class_is_below d c) x y
common_layer_built a b x y = def_built

common_built : (a b : Ty) → IsOfPart a → IsOfPart b → IsBuilt (common a b)
common_built a b x y = common_layer_built (out-Ty a) (out-Ty b) x.layer y.layer

common_part : (a b : Ty) → IsOfPart a → IsOfPart b → IsOfPart (common_of a b)
common_part a b x y = pick (same_types a b)
  where
    pick : (same : Bool) → IsOfPart (if same then a else common a b)
    pick true = x
    pick false = built_part (common a b) (common_built a b x y)

class_references : (c d : ℕ) (b b' : Bool) → IsReference (if b then t.Class d else (if b' then t.Class c else t.Def))
class_references c d true b' = class_reference d
class_references c d false true = class_reference c
class_references c d false false = def_reference

common_layer_reference : (a b : Ty-F Ty) → is_primitive (primitive_layer a) ≡ false → IsReference (common_layer a b)
common_layer_reference (Ty-F.Prim q) b e = cc
common_layer_reference (Ty-F.Class c) (Ty-F.Class d) e = class_references c d (class_is_below c d) (class_is_below d c)
common_layer_reference a b e = def_reference

reference_layer : (l : Ty-F Ty) → is_primitive (primitive_layer l) ≡ false → (l ≡ Ty-F.Void → ⊥) → is_reference_layer l
reference_layer Ty-F.Void e no' = no' refl
reference_layer Ty-F.Null e no' = tt
reference_layer Ty-F.Def e no' = tt
reference_layer (Ty-F.Prim q) e no' = cc
reference_layer (Ty-F.Class c) e no' = tt
reference_layer (Ty-F.Array u) e no' = tt

-- the common type of two sides is one of references, where the left one's is no primitive type and theirs is not void
common_reference : (a b : Ty) → is_primitive (primitive_of a) ≡ false → (out-Ty (common_of a b) ≡ Ty-F.Void → ⊥) → IsReference (common_of a b)
common_reference a b e no' = pick (same_types a b) no'
  where
    pick : (same : Bool) → (out-Ty (if same then a else common a b) ≡ Ty-F.Void → ⊥) → IsReference (if same then a else common a b)
    pick true no' = reference_layer (out-Ty a) e no'
    pick false no' = common_layer_reference (out-Ty a) (out-Ty b) e

instance_layer : (l : Ty-F Ty) → may_be_instance (side_layer l) ≡ true → is_reference_layer l
instance_layer Ty-F.Void e = cc
instance_layer Ty-F.Null e = tt
instance_layer Ty-F.Def e = tt
instance_layer (Ty-F.Prim q) e = cc
instance_layer (Ty-F.Class c) e = tt
instance_layer (Ty-F.Array u) e = tt

instance_reference : (of : Ty) → may_be_instance (side_of of) ≡ true → IsReference of
instance_reference of e = instance_layer (out-Ty of) e

module _ (funs : Script) (g : Scope) where
  pub record TypedIs (y : Typed) (of : Ty) : Type 0 where
    pub agrees : ExprAgrees funs g (expr_of y)
    pub is : type_of (expr_of y) ≡ of
    pub has : type_in y ≡ of

  pub record PartIs (x : Part) : Type 0 where
    pub typed : TypedIs x.typed (type_in x.typed)
    pub built : IsOfPart (type_in x.typed)

  -- a node, by what it is as a tree
  pub node_is : (at : ℕ) (of : Ty) (node : Node) (e : Expr) → expr_of (typed at of node) ≡ e → type_of e ≡ of → ExprAgrees funs g e → TypedIs (typed at of node) of
  node_is at of node e is of_is a = record { agrees = subst (ExprAgrees funs g) (sym is) a; is = ap type_of is ∙ of_is; has = type_is at of node }

  pub part_of : (at : ℕ) (form : Form) (y : Typed) (of : Ty) → IsOfPart of → TypedIs y of → PartIs (part at form y)
  part_of at form y of b x = record { typed = subst (TypedIs y) (sym x.has) x; built = subst IsOfPart (sym x.has) b }

  -- ---- literals

  pub constant_typed : (at : ℕ) (of : Ty) (v : Constant) → IsOf v of → TypedIs (typed at of (n.Constant v)) of
  constant_typed at of v a = node_is at of (n.Constant v) (Literal at of v) (constant_is at of v) refl a

  pub int_is : (at : ℕ) (value : ℤ) → PartIs (int_literal at value)
  int_is at value = part_of at (f.Number value) _ (t.Prim prim.Int) (prim_part prim.Int) (constant_typed at (t.Prim prim.Int) (k.Int value) refl)

  long_is : (at : ℕ) (value : ℤ) → PartIs (long_literal at value)
  long_is at value = part_of at f.Literal _ (t.Prim prim.Long) (prim_part prim.Long) (constant_typed at (t.Prim prim.Long) (k.Long value) refl)

  ok_if : (c : Bool) (number at : ℕ) (x y : Part) → (if c then Ok x else refuse number at) ≡ Ok y → PartIs x → PartIs y
  ok_if true number at x y e h = settled PartIs x y e h
  ok_if false number at x y e h = cc

  either : (c : Bool) (a o : Out Part) (y : Part) → (if c then a else o) ≡ Ok y → (a ≡ Ok y → PartIs y) → (o ≡ Ok y → PartIs y) → PartIs y
  either true a o y e p q = p e
  either false a o y e p q = q e

  pub integer_is : (at : ℕ) (spelling : List ℕ) (y : Part) → integer at spelling ≡ Ok y → PartIs y
  integer_is at spelling y e = either (is_long spelling) _ _ y e
      (λ e. ok_if (nat_lt (magnitude (unmarked spelling)) (2 ^ 63)) _ at _ y e (long_is at _))
      (λ e. ok_if (nat_lt (magnitude spelling) (2 ^ 31)) _ at _ y e (int_is at _))

  pub negated_is : (minus at : ℕ) (spelling : List ℕ) (y : Part) → negated_integer minus at spelling ≡ Ok y → PartIs y
  negated_is minus at spelling y e = either (is_long spelling) _ _ y e
      (λ e. ok_if (nat_le (magnitude (unmarked spelling)) (2 ^ 63)) _ at _ y e (long_is minus _))
      (λ e. ok_if (nat_le (magnitude spelling) (2 ^ 31)) _ at _ y e (int_is minus _))

  pub constant_part : (at : ℕ) (v : TreeConstant) (y : Part) → constant at v ≡ Ok y → PartIs y
  constant_part at c.True y e =
      settled PartIs _ y e (part_of at f.True _ boolean (prim_part prim.Boolean) (constant_typed at boolean (k.Boolean true) refl))
  constant_part at c.False y e =
      settled PartIs _ y e (part_of at f.Literal _ boolean (prim_part prim.Boolean) (constant_typed at boolean (k.Boolean false) refl))
  constant_part at c.Null y e = settled PartIs _ y e (part_of at f.Literal _ t.Null null_part (constant_typed at t.Null k.Null null_reference))

  pub text_part : (at : ℕ) (spelling : List ℕ) (y : Part) → text at spelling ≡ Ok y → PartIs y
  text_part at spelling y e =
      settled PartIs _ y e (part_of at f.Literal _ string string_part (node_is at string (n.Text (unescaped (unquoted spelling))) _ (text_is at string (unescaped (unquoted spelling))) refl refl))

  pub bracketed_is : (at : ℕ) (x : Part) → PartIs x → PartIs (bracketed at x)
  bracketed_is at x h = record { typed = h.typed; built = h.built }

  -- ---- casts

  cast_if : (same : Bool) (cast : Cast) (at : ℕ) (to : Ty) (x y : Typed) → (if same then accepted x else accepted (applied at to (o.Cast cast) (x ∷ []))) ≡ accepted y
      → (same ≡ true → type_in x ≡ to) → Casts cast (type_in x) to → TypedIs x (type_in x) → TypedIs y to
  cast_if true cast at to x y e same c h = settled (λ y. TypedIs y to) x y e (subst (TypedIs x) (same refl) h)
  cast_if false cast at to x y e same c h =
      settled (λ y. TypedIs y to) _ y e
      (node_is at to _ _ (applied_is at to (o.Cast cast) (x ∷ [])) refl ((h.agrees, tt), subst (λ from. Casts cast from to) (sym h.is) c))

  cast_given : (found : Option Cast) (broken at : ℕ) (to : Ty) (x y : Typed) → cast_by found broken at to x ≡ Ok y → ((cast : Cast) → found ≡ Some cast → Casts cast (type_in x) to)
      → TypedIs x (type_in x) → TypedIs y to
  cast_given None broken at to x y e c h = cc
  cast_given (Some cast) broken at to x y e c h = cast_if (same_types (type_in x) to) cast at to x y e (λ same. types_exact (type_in x) to same) (c cast refl) h

  -- an operand that is cast to a primitive type
  pub operand_is : (at : ℕ) (q : Primitive) (x : Part) (y : Typed) → operand at q x ≡ Ok y → PartIs x → TypedIs y (t.Prim q)
  operand_is at q x y e h =
      cast_given _ x.at at (t.Prim q) x.typed y e (λ cast found. part_casts (type_in x.typed) (t.Prim q) true cast (prim_aim q) found) h.typed

  as_if : (c : Bool) (v w : Constant) (of : Ty) → (if c then Some v else None) ≡ Some w → IsOf v of → IsOf w of
  as_if true v w of e a = let same : v ≡ w = cc in subst (λ w. IsOf w of) same a
  as_if false v w of e a = cc

  standing_is : (form : Form) (to : Ty) (l : Ty-F Ty) (v : Constant) → out-Ty to ≡ l → standing_layer form l ≡ Some v → IsOf v to
  standing_is (f.Number value) to (Ty-F.Prim prim.Byte) v is e =
      as_if (within (neg_ℤ (pos 128)) (pos 127) value) (k.Byte value) v to e (prim_by to prim.Byte is)
  standing_is (f.Number value) to (Ty-F.Prim prim.Short) v is e =
      as_if (within (neg_ℤ (pos 32768)) (pos 32767) value) (k.Short value) v to e (prim_by to prim.Short is)
  standing_is (f.Number value) to (Ty-F.Prim prim.Char) v is e =
      as_if (within (pos 0) (pos 65535) value) (k.Char (unit_of value)) v to e (prim_by to prim.Char is)
  standing_is (f.Number value) to (Ty-F.Prim prim.Boolean) v is e = cc
  standing_is (f.Number value) to (Ty-F.Prim prim.Int) v is e = cc
  standing_is (f.Number value) to (Ty-F.Prim prim.Long) v is e = cc
  standing_is (f.Number value) to Ty-F.Void v is e = cc
  standing_is (f.Number value) to Ty-F.Null v is e = cc
  standing_is (f.Number value) to Ty-F.Def v is e = cc
  standing_is (f.Number value) to (Ty-F.Class class) v is e = cc
  standing_is (f.Number value) to (Ty-F.Array element) v is e = cc
  standing_is f.True to l v is e = cc
  standing_is f.Literal to l v is e = cc
  standing_is f.Deed to l v is e = cc
  standing_is f.Other to l v is e = cc

  literal_given : (found : Option Constant) (at : ℕ) (to : Ty) (other : Out Typed) (y : Typed) → literal_or found at to other ≡ Ok y → ((v : Constant) → found ≡ Some v → IsOf v to)
      → (other ≡ Ok y → TypedIs y to) → TypedIs y to
  literal_given None at to other y e v h = h e
  literal_given (Some w) at to other y e v h = settled (λ y. TypedIs y to) _ y e (constant_typed at to w (v w refl))

  -- what is cast to a type where none is written
  pub cast_is : (to : Ty) (x : Part) (y : Typed) → IsAim to → cast_to to x ≡ Ok y → PartIs x → TypedIs y to
  cast_is to x y aim e h = literal_given (standing x.form to) x.at to _ y e (λ v found. standing_is x.form to (out-Ty to) v refl found)
      (λ e. cast_given _ x.at x.at to x.typed y e (λ cast found. part_casts (type_in x.typed) to false cast aim found) h.typed)

  void_standing : (form : Form) (l : Ty-F Ty) → l ≡ Ty-F.Void → standing_layer form l ≡ None
  void_standing (f.Number value) Ty-F.Void e = refl
  void_standing (f.Number value) l e = cc
  void_standing f.True l e = refl
  void_standing f.Literal l e = refl
  void_standing f.Deed l e = refl
  void_standing f.Other l e = refl

  void_given : (found : Option Cast) (broken at : ℕ) (to : Ty) (x y : Typed) → cast_by found broken at to x ≡ Ok y
      → ((cast : Cast) → found ≡ Some cast → ⊥) → ⊥
  void_given None broken at to x y e no' = cc
  void_given (Some cast) broken at to x y e no' = no' cast refl

  void_or : (found : Option Constant) (at : ℕ) (to : Ty) (other : Out Typed) (y : Typed) → found ≡ None → literal_or found at to other ≡ Ok y
      → other ≡ Ok y
  void_or None at to other y n e = e
  void_or (Some v) at to other y n e = cc

  -- nothing is cast to void
  no_void : (to : Ty) (x : Part) (y : Typed) → out-Ty to ≡ Ty-F.Void → cast_to to x ≡ Ok y → PartIs x → ⊥
  no_void to x y is e h =
      void_given _ x.at x.at to x.typed y (void_or (standing x.form to) x.at to _ y (void_standing x.form (out-Ty to) is) e)
      (λ cast found. none_to_void (type_in x.typed) to false cast is found)

  -- a cast that is written
  written_is : (at : ℕ) (to : Ty) (x : Part) (y : Typed) → IsAim to → cast_at at to x true ≡ Ok y → PartIs x → TypedIs y to
  written_is at to x y aim e h =
      cast_given _ x.at at to x.typed y e (λ cast found. part_casts (type_in x.typed) to true cast aim found) h.typed

  -- a cast that stands at a place, written or added
  pub cast_at_is : (at : ℕ) (to : Ty) (x : Part) (written : Bool) (y : Typed) → IsAim to → cast_at at to x written ≡ Ok y → PartIs x → TypedIs y to
  cast_at_is at to x written y aim e h =
      cast_given _ x.at at to x.typed y e (λ cast found. part_casts (type_in x.typed) to written cast aim found) h.typed

  pub asked_is : (at : ℕ) (to : Ty) (x y : Part) → IsBuilt to → asked at to x ≡ Ok y → PartIs x → PartIs y
  asked_is at to x y b e h =
      let p = passed (cast_at at to x true) _ y e in
      settled PartIs _ y p.then' (part_of at f.Other p.given to (built_part to b) (written_is at to x p.given (built_aim to b) p.first h))

  -- an operand as a reference
  pub reference_is : (x : Part) (y : Typed) → reference x ≡ Ok y → PartIs x → TypedIs y t.Def
  reference_is x y e h = written_is x.at t.Def x y def_aim e h

  -- ---- operators

  two_types : (P : List Ty → Type 0) (a b p q : Ty) → a ≡ p → b ≡ q → P (p ∷ q ∷ []) → P (a ∷ b ∷ [])
  two_types P a b p q x y h = subst (λ a. P (a ∷ b ∷ [])) (sym x) (subst (λ b. P (p ∷ b ∷ [])) (sym y) h)

  related_is : (found : Option Operator) (at : ℕ) (x y z : Part) → related found at x y ≡ Ok z
      → ((r : Operator) → found ≡ Some r → Relates r)
      → PartIs x → PartIs y → PartIs z
  related_is None at x y z e takes hx hy = cc
  related_is (Some relation) at x y z e takes hx hy =
      let a = passed (reference x) _ z e in
      let b = passed (reference y) _ z a.then' in
      let left = reference_is x a.given a.first hx in
      let right = reference_is y b.given b.first hy in
      settled PartIs _ z b.then' (part_of at f.Other _ (type_given relation) (takes relation refl).of_part
      (node_is at (type_given relation) _ _ (applied_is at (type_given relation) (o.Operator relation) (a.given ∷ b.given ∷ [])) refl (
        (left.agrees, (right.agrees, tt)),
        two_types (λ ofs. TakesTo relation ofs (type_given relation)) _ _ t.Def t.Def left.is right.is (as_node relation (t.Def ∷ t.Def ∷ []) (type_given relation) (takes relation refl).does),
      )))

  strict_is : (plan : Option Plan) (operator : BinaryOperator) (at : ℕ) (x y z : Part) → strict plan operator at x y ≡ Ok z
      → ((p : Plan) → plan ≡ Some p → PlanFits p)
      → PartIs x → PartIs y → PartIs z
  strict_is None operator at x y z e fits hx hy =
      related_is (relation_between operator (type_of_part x) (type_of_part y)) at x y z e (relations_fit operator (side_of (type_of_part x)) (side_of (type_of_part y))) hx hy
  strict_is (Some plan) operator at x y z e fits hx hy =
      let a = passed (operand x.at plan.left x) _ z e in
      let b = passed (operand y.at plan.right y) _ z a.then' in
      let left = operand_is x.at plan.left x a.given a.first hx in
      let right = operand_is y.at plan.right y b.given b.first hy in
      settled PartIs _ z b.then' (part_of at f.Other _ (t.Prim plan.result) (prim_part plan.result)
      (node_is at (t.Prim plan.result) _ _ (applied_is at (t.Prim plan.result) (o.Operator plan.operator) (a.given ∷ b.given ∷ [])) refl (
        (left.agrees, (right.agrees, tt)),
        two_types (λ ofs. TakesTo plan.operator ofs (t.Prim plan.result)) _ _ (t.Prim plan.left) (t.Prim plan.right) left.is right.is
            (as_node plan.operator (t.Prim plan.left ∷ t.Prim plan.right ∷ []) (t.Prim plan.result) (fits plan refl).does),
      )))

  side_if : (c : Bool) (number at : ℕ) (x : Part) (y : Typed) → (if c then refuse number at else cast_to boolean x) ≡ Ok y → PartIs x → TypedIs y boolean
  side_if true number at x y e h = cc
  side_if false number at x y e h = cast_is boolean x y (prim_aim prim.Boolean) e h

  side_is : (at : ℕ) (x : Part) (y : Typed) → side at x ≡ Ok y → PartIs x → TypedIs y boolean
  side_is at x y e h = side_if (is_void (type_of_part x)) _ at x y e h

  both_sides_is : (operator : Logical) (at : ℕ) (x y z : Part) → both_sides operator at x y ≡ Ok z → PartIs x → PartIs y → PartIs z
  both_sides_is operator at x y z e hx hy =
      let a = passed (side at x) _ z e in
      let b = passed (side at y) _ z a.then' in
      let left = side_is at x a.given a.first hx in
      let right = side_is at y b.given b.first hy in
      settled PartIs _ z b.then' (part_of at f.Other _ boolean (prim_part prim.Boolean)
      (node_is at boolean _ _ (logic_is at boolean operator a.given b.given) refl (left.agrees, right.agrees, left.is, right.is, refl)))

  logical_if : (c : Bool) (number : ℕ) (operator : Logical) (at : ℕ) (x y z : Part) → (if c then refuse number at else both_sides operator at x y) ≡ Ok z → PartIs x → PartIs y → PartIs z
  logical_if true number operator at x y z e hx hy = cc
  logical_if false number operator at x y z e hx hy = both_sides_is operator at x y z e hx hy

  logical_is : (operator : Logical) (at : ℕ) (x y z : Part) → logical operator at x y ≡ Ok z → PartIs x → PartIs y → PartIs z
  logical_is operator at x y z e hx hy = logical_if (is_void (type_of_part y)) _ operator at x y z e hx hy

  pub binary_is : (operator : BinaryOperator) (at : ℕ) (x y z : Part) → binary_of operator at x y ≡ Ok z → PartIs x → PartIs y → PartIs z
  binary_is b.Multiply at x y z e hx hy = strict_is _ b.Multiply at x y z e (plans_fit b.Multiply (type_of_part x) (type_of_part y)) hx hy
  binary_is b.Divide at x y z e hx hy = strict_is _ b.Divide at x y z e (plans_fit b.Divide (type_of_part x) (type_of_part y)) hx hy
  binary_is b.Remainder at x y z e hx hy = strict_is _ b.Remainder at x y z e (plans_fit b.Remainder (type_of_part x) (type_of_part y)) hx hy
  binary_is b.Add at x y z e hx hy = strict_is _ b.Add at x y z e (plans_fit b.Add (type_of_part x) (type_of_part y)) hx hy
  binary_is b.Subtract at x y z e hx hy = strict_is _ b.Subtract at x y z e (plans_fit b.Subtract (type_of_part x) (type_of_part y)) hx hy
  binary_is b.ShiftLeft at x y z e hx hy = strict_is _ b.ShiftLeft at x y z e (plans_fit b.ShiftLeft (type_of_part x) (type_of_part y)) hx hy
  binary_is b.ShiftRight at x y z e hx hy = strict_is _ b.ShiftRight at x y z e (plans_fit b.ShiftRight (type_of_part x) (type_of_part y)) hx hy
  binary_is b.ShiftRightUnsigned at x y z e hx hy =
      strict_is _ b.ShiftRightUnsigned at x y z e (plans_fit b.ShiftRightUnsigned (type_of_part x) (type_of_part y)) hx hy
  binary_is b.Less at x y z e hx hy = strict_is _ b.Less at x y z e (plans_fit b.Less (type_of_part x) (type_of_part y)) hx hy
  binary_is b.LessEqual at x y z e hx hy = strict_is _ b.LessEqual at x y z e (plans_fit b.LessEqual (type_of_part x) (type_of_part y)) hx hy
  binary_is b.Greater at x y z e hx hy = strict_is _ b.Greater at x y z e (plans_fit b.Greater (type_of_part x) (type_of_part y)) hx hy
  binary_is b.GreaterEqual at x y z e hx hy = strict_is _ b.GreaterEqual at x y z e (plans_fit b.GreaterEqual (type_of_part x) (type_of_part y)) hx hy
  binary_is b.Equal at x y z e hx hy = strict_is _ b.Equal at x y z e (plans_fit b.Equal (type_of_part x) (type_of_part y)) hx hy
  binary_is b.NotEqual at x y z e hx hy = strict_is _ b.NotEqual at x y z e (plans_fit b.NotEqual (type_of_part x) (type_of_part y)) hx hy
  binary_is b.Same at x y z e hx hy = strict_is _ b.Same at x y z e (plans_fit b.Same (type_of_part x) (type_of_part y)) hx hy
  binary_is b.NotSame at x y z e hx hy = strict_is _ b.NotSame at x y z e (plans_fit b.NotSame (type_of_part x) (type_of_part y)) hx hy
  binary_is b.And at x y z e hx hy = strict_is _ b.And at x y z e (plans_fit b.And (type_of_part x) (type_of_part y)) hx hy
  binary_is b.Xor at x y z e hx hy = strict_is _ b.Xor at x y z e (plans_fit b.Xor (type_of_part x) (type_of_part y)) hx hy
  binary_is b.Or at x y z e hx hy = strict_is _ b.Or at x y z e (plans_fit b.Or (type_of_part x) (type_of_part y)) hx hy
  binary_is b.AndAnd at x y z e hx hy = logical_is _ at x y z e hx hy
  binary_is b.OrOr at x y z e hx hy = logical_is _ at x y z e hx hy

  promoted_wide : (p : Option Primitive) → IsWideIf (promoted_if p)
  promoted_wide None = tt
  promoted_wide (Some q) = promotes q prim.Int

  one_type : (P : List Ty → Type 0) (a p : Ty) → a ≡ p → P (p ∷ []) → P (a ∷ [])
  one_type P a p x h = subst (λ a. P (a ∷ [])) (sym x) h

  negates : (q : Primitive) → IsWide q → Takes (on_numbers q op.Neg) (t.Prim q ∷ []) (t.Prim q)
  negates prim.Int w = (refl, refl)
  negates prim.Long w = (refl, refl)
  negates prim.Boolean w = absurd w
  negates prim.Byte w = absurd w
  negates prim.Short w = absurd w
  negates prim.Char w = absurd w

  complements : (q : Primitive) → IsWide q → Takes (on_numbers q op.Not) (t.Prim q ∷ []) (t.Prim q)
  complements prim.Int w = (refl, refl)
  complements prim.Long w = (refl, refl)
  complements prim.Boolean w = absurd w
  complements prim.Byte w = absurd w
  complements prim.Short w = absurd w
  complements prim.Char w = absurd w

  on_def_is : (o' : Op) (at : ℕ) (x y : Part) → on_def o' at x ≡ Ok y → TakesTo (operator.Def o') (t.Def ∷ []) t.Def → PartIs x → PartIs y
  on_def_is o' at x y e takes h =
      let a = passed (reference x) _ y e in
      let side = reference_is x a.given a.first h in
      settled PartIs _ y a.then' (part_of at f.Other _ t.Def def_part
      (node_is at t.Def _ _ (applied_is at t.Def (o.Operator (operator.Def o')) (a.given ∷ [])) refl
      ((side.agrees, tt), one_type (λ ofs. TakesTo (operator.Def o') ofs t.Def) _ t.Def side.is takes)))

  alone_if : (c : Bool) (number : ℕ) (o' : Op) (at : ℕ) (x y : Part) → (if c then on_def o' at x else refuse number at) ≡ Ok y → TakesTo (operator.Def o') (t.Def ∷ []) t.Def → PartIs x → PartIs y
  alone_if true number o' at x y e takes h = on_def_is o' at x y e takes h
  alone_if false number o' at x y e takes h = cc

  -- an operand that is no number
  alone_is : (o' : Op) (at : ℕ) (x y : Part) → alone o' at x ≡ Ok y → TakesTo (operator.Def o') (t.Def ∷ []) t.Def → PartIs x → PartIs y
  alone_is o' at x y e takes h = alone_if (is_def_side (side_of (type_of_part x))) _ o' at x y e takes h

  signed_is : (o' : Op) (p : Option Primitive) (at : ℕ) (x y : Part) → signed o' p at x ≡ Ok y → IsWideIf p → ((q : Primitive) → IsWide q → Takes (on_numbers q o') (t.Prim q ∷ []) (t.Prim q))
      → TakesTo (operator.Def o') (t.Def ∷ []) t.Def → PartIs x → PartIs y
  signed_is o' None at x y e w takes dynamic h = alone_is o' at x y e dynamic h
  signed_is o' (Some q) at x y e w takes dynamic h =
      let a = passed (operand x.at q x) _ y e in
      let side = operand_is x.at q x a.given a.first h in
      settled PartIs _ y a.then' (part_of at f.Other _ (t.Prim q) (prim_part q)
      (node_is at (t.Prim q) _ _ (applied_is at (t.Prim q) (o.Operator (on_numbers q o')) (a.given ∷ [])) refl
      ((side.agrees, tt), one_type (λ ofs. TakesTo (on_numbers q o') ofs (t.Prim q)) _ (t.Prim q) side.is (as_node (on_numbers q o') (t.Prim q ∷ []) (t.Prim q) (takes q w)))))

  plus_is : (p : Option Primitive) (at : ℕ) (x y : Part) → plus_as p at x ≡ Ok y → PartIs x → PartIs y
  plus_is None at x y e h = alone_is op.Pos at x y e (def_reference, refl) h
  plus_is (Some q) at x y e h =
      let a = passed (operand x.at q x) _ y e in
      settled PartIs _ y a.then' (part_of at f.Other a.given (t.Prim q) (prim_part q) (operand_is x.at q x a.given a.first h))

  not_is : (at : ℕ) (x y : Part) → not_of at x ≡ Ok y → PartIs x → PartIs y
  not_is at x y e h =
      let a = passed (side at x) _ y e in
      let flag = side_is at x a.given a.first h in
      settled PartIs _ y a.then' (part_of at f.Other _ boolean (prim_part prim.Boolean)
      (node_is at boolean _ _ (applied_is at boolean (o.Operator (operator.Boolean op.Not)) (a.given ∷ [])) refl
      ((flag.agrees, tt), one_type (λ ofs. Takes (operator.Boolean op.Not) ofs boolean) _ boolean flag.is (refl, refl))))

  pub unary_is : (operator : UnaryOperator) (at : ℕ) (x y : Part) → unary_of operator at x ≡ Ok y → PartIs x → PartIs y
  unary_is u.Plus at x y e h = plus_is (promoted x) at x y e h
  unary_is u.Minus at x y e h = signed_is op.Neg (promoted x) at x y e (promoted_wide (unboxed_of (type_of_part x))) negates (def_reference, refl) h
  unary_is u.Complement at x y e h = signed_is op.Not (promoted x) at x y e (promoted_wide (unboxed_of (type_of_part x))) complements (def_reference, refl) h
  unary_is u.Not at x y e h = not_is at x y e h

  -- ---- the conditional

  choice_node : (at : ℕ) (of : Ty) (z x y : Typed) → TypedIs z boolean → TypedIs x of → TypedIs y of → TypedIs (typed at of (n.Conditional z x y)) of
  choice_node at of z x y hz hx hy = node_is at of _ _ (choice_is at of z x y) refl (hz.agrees, hx.agrees, hy.agrees, hz.is, hx.is, hy.is)

  choice_by : (same : Bool) (at : ℕ) (z : Typed) (x y w : Part) → choice_as same at z x y ≡ Ok w → (same ≡ true → type_in x.typed ≡ type_in y.typed)
      → TypedIs z boolean → PartIs x → PartIs y → PartIs w
  choice_by true at z x y w e same hz hx hy =
      settled PartIs _ w e (part_of at f.Other _ (type_in x.typed) hx.built (choice_node at (type_in x.typed) z x.typed y.typed hz hx.typed (subst (TypedIs y.typed) (sym (same refl)) hy.typed)))
  choice_by false at z x y w e same hz hx hy =
      let to = common (type_of_part x) (type_of_part y) in
      let b = common_built (type_of_part x) (type_of_part y) hx.built hy.built in
      let left = passed (cast_to to x) _ w e in
      let right = passed (cast_to to y) _ w left.then' in
      settled PartIs _ w right.then' (part_of at f.Other _ to (built_part to b)
      (choice_node at to z left.given right.given hz (cast_is to x left.given (built_aim to b) left.first hx) (cast_is to y right.given (built_aim to b) right.first hy)))

  pub choice_part : (at : ℕ) (z x y w : Part) → choice_of at z x y ≡ Ok w → PartIs z → PartIs x → PartIs y → PartIs w
  choice_part at z x y w e hz hx hy =
      let a = passed (cast_to boolean z) _ w e in
      choice_by (same_types (type_of_part x) (type_of_part y)) at a.given x y w a.then' (λ same. types_exact (type_in x.typed) (type_in y.typed) same) (cast_is boolean z a.given (prim_aim prim.Boolean) a.first hz) hx hy

  -- ---- `?:`

  elvis_node : (at : ℕ) (of : Ty) (x y : Typed) → TypedIs x of → TypedIs y of → IsReference of → TypedIs (typed at of (n.Elvis x y)) of
  elvis_node at of x y hx hy r = node_is at of _ _ (elvis_is at of x y) refl (hx.agrees, hy.agrees, hx.is, hy.is, r)

  elvis_known : (needless : Bool) (at : ℕ) (of : Ty) (x y : Typed) (w : Part) → elvis_by needless at of x y ≡ Ok w → IsOfPart of
      → (needless ≡ false → IsReference of)
      → TypedIs x of → TypedIs y of → PartIs w
  elvis_known true at of x y w e b r hx hy = cc
  elvis_known false at of x y w e b r hx hy = settled PartIs _ w e (part_of at f.Other _ of b (elvis_node at of x y hx hy (r refl)))

  pub elvis_part : (at : ℕ) (x y w : Part) → elvis_of at x y ≡ Ok w → PartIs x → PartIs y → PartIs w
  elvis_part at x y w e hx hy =
      let to = common_of (type_of_part x) (type_of_part y) in
      let b = common_part (type_of_part x) (type_of_part y) hx.built hy.built in
      let left = passed (cast_to to x) _ w e in
      let right = passed (cast_to to y) _ w left.then' in
      elvis_known (needs_no_other x) at to left.given right.given w right.then' b
      (λ needs. common_reference (type_of_part x) (type_of_part y) (or_parts (is_literal x.form) _ needs).1 (λ is. no_void to x left.given is left.first hx))
      (cast_is to x left.given (part_aim to b) left.first hx) (cast_is to y right.given (part_aim to b) right.first hy)

  -- ---- `instanceof`

  instance_if : (c : Bool) (number at : ℕ) (of : Ty) (x : Typed) (y : Part)
      → (if c then accepted (plain at (applied at boolean (o.InstanceOf of) (x ∷ []))) else refuse number at) ≡ accepted y
      → (c ≡ true → IsReference (type_in x)) → IsBuilt of → TypedIs x (type_in x) → PartIs y
  instance_if false number at of x y e r b h = cc
  instance_if true number at of x y e r b h =
      settled PartIs _ y e (part_of at f.Other _ boolean (prim_part prim.Boolean)
      (node_is at boolean _ _ (applied_is at boolean (o.InstanceOf of) (x ∷ [])) refl ((h.agrees, tt), (subst IsReference (sym h.is) (r refl), built_named of b, refl))))

  pub instance_part : (at : ℕ) (x : Part) (of : Ty) (y : Part) → instance_of at x of ≡ Ok y → IsBuilt of → PartIs x → PartIs y
  instance_part at x of y e b h =
      instance_if (may_be_instance (side_of (type_of_part x)) && has_instances_layer (out-Ty of)) _ at of x.typed y e
      (λ c. instance_reference (type_of_part x) (and_parts (may_be_instance (side_of (type_of_part x))) _ c).0) b h.typed
