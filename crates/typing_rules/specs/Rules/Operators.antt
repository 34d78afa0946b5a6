-- Operators, the conditional, `?:` and `instanceof`.
use Rattle.std.specs.Prelude.{ℕ, ◌==◌, ◌&&◌, ◌||◌, not, Bool, true, false, [], ◌∷◌, Option, Some, None, Ok, option_map, if◌then◌else◌}
use Rattle.arithmetic.specs.declared.operator.Op.{Op}
use Rattle.arithmetic.specs.declared.operator.Op.TheVariants as op
use Rattle.pl_types.specs.declared.ty.Ty.{Ty, out-Ty}
use Rattle.pl_types.specs.declared.ty.Ty.TheVariants as t
use Rattle.pl_types.specs.declared.ty.Ty.TheOpen.{Ty-F}
use Rattle.pl_types.specs.declared.primitive.Primitive.{Primitive}
use Rattle.pl_types.specs.declared.primitive.Primitive.TheVariants as p
use Rattle.pl_types.specs.declared.rules.TheConstants.{BAD_OPERAND, BAD_NULLABLE}
use Rattle.pl_types.specs.declared.classes.TheConstants.{STRING, ITERABLE, MAP}
use Rattle.pl_types.specs.Casts.{unboxed}
use Rattle.pl_types.specs.Classes.{class_is_below}
use Rattle.pl_types.specs.Types.{same_types}
use Rattle.pl_types.specs.Promotions.{promote_of}
use Rattle.pl_tree.specs.declared.operator.BinaryOperator.{BinaryOperator}
use Rattle.pl_tree.specs.declared.operator.BinaryOperator.TheVariants as b
use Rattle.pl_tree.specs.declared.operator.UnaryOperator.{UnaryOperator}
use Rattle.pl_tree.specs.declared.operator.UnaryOperator.TheVariants as u
use Rattle.typed_tree.specs.declared.operation.Operator.{Operator}
use Rattle.typed_tree.specs.declared.operation.Operator.TheVariants as operator
use Rattle.typed_tree.specs.declared.operation.Operation.TheVariants as o
use Rattle.typed_tree.specs.declared.operation.Logical.{Logical}
use Rattle.typed_tree.specs.declared.operation.Logical.TheVariants as l
use Rattle.typed_tree.specs.declared.typed.Typed.{Typed}
use Rattle.typed_tree.specs.declared.typed.Node.TheVariants as n
use Rattle.typing_rules.specs.declared.part.Part.{Part}
use Rattle.typing_rules.specs.declared.part.Form.{Form}
use Rattle.typing_rules.specs.declared.part.Form.TheVariants as f
use Rattle.typing_rules.specs.declared.rules.plans.Plan.{Plan}
use Rattle.typing_rules.specs.Outcomes.{Out, refuse, bind}
use Rattle.typing_rules.specs.Rules.Nodes.{boolean, typed, applied, plain, type_of_part, is_void}
use Rattle.typing_rules.specs.Rules.Casts.{cast_at, cast_to}

abbrev pub primitive_layer : Ty-F Ty → Option Primitive
primitive_layer (Ty-F.Prim q) = Some q
primitive_layer _ = None

-- the primitive type that a type is
abbrev pub primitive_of : Ty → Option Primitive
primitive_of of = primitive_layer (out-Ty of)

abbrev pub unboxed_layer : Ty-F Ty → Option Primitive
unboxed_layer (Ty-F.Prim q) = Some q
unboxed_layer (Ty-F.Class c) = unboxed c
unboxed_layer _ = None

-- the primitive type that a type is, or whose box it is
abbrev pub unboxed_of : Ty → Option Primitive
unboxed_of of = unboxed_layer (out-Ty of)

-- an operator of numbers that are longs, or else ints
abbrev pub on_numbers : Primitive → Op → Operator
on_numbers p.Long op = operator.Long op
on_numbers q op = operator.Int op

-- What is done with two sides that are primitives to an operator: to which types they are cast, what then is done, and of which type that
-- is.
abbrev pub plan : Operator → Primitive → Primitive → Primitive → Plan
plan operator left right result = record { operator = operator; left = left; right = right; result = result }

-- Both sides are promoted.
abbrev pub arithmetic : Op → Primitive → Primitive → Option Plan
arithmetic op a b = option_map (λ q. plan (on_numbers q op) q q q) (promote_of a b)

abbrev pub comparison : Op → Primitive → Primitive → Option Plan
comparison op a b = option_map (λ q. plan (on_numbers q op) q q p.Boolean) (promote_of a b)

-- A shift promotes its left side alone, and its right side becomes an int.
abbrev pub shift_of : Op → Option Primitive → Option Primitive → Option Plan
shift_of op (Some q) (Some r) = Some (plan (on_numbers q op) q p.Int q)
shift_of op _ _ = None

abbrev pub shift : Op → Primitive → Primitive → Option Plan
shift op a b = shift_of op (promote_of a p.Int) (promote_of b p.Int)

abbrev pub of_booleans : Op → Plan
of_booleans op = plan (operator.Boolean op) p.Boolean p.Boolean p.Boolean

-- `&`, `|` and `^` also take two booleans
abbrev pub bits : Op → Primitive → Primitive → Option Plan
bits op p.Boolean p.Boolean = Some (of_booleans op)
bits op a b = arithmetic op a b

-- and so do `==` and `!=`
abbrev pub equality : Op → Primitive → Primitive → Option Plan
equality op p.Boolean p.Boolean = Some (of_booleans op)
equality op a b = comparison op a b

-- The table of the operators that take both sides; `===` between primitives is `==`.
abbrev pub plan_of : BinaryOperator → Primitive → Primitive → Option Plan
plan_of b.Multiply x y = arithmetic op.Mul x y
plan_of b.Divide x y = arithmetic op.Div x y
plan_of b.Remainder x y = arithmetic op.Rem x y
plan_of b.Add x y = arithmetic op.Add x y
plan_of b.Subtract x y = arithmetic op.Sub x y
plan_of b.ShiftLeft x y = shift op.Shl x y
plan_of b.ShiftRight x y = shift op.Shr x y
plan_of b.ShiftRightUnsigned x y = shift op.Ushr x y
plan_of b.Less x y = comparison op.Lt x y
plan_of b.LessEqual x y = comparison op.Le x y
plan_of b.Greater x y = comparison op.Gt x y
plan_of b.GreaterEqual x y = comparison op.Ge x y
plan_of b.Equal x y = equality op.Eq x y
plan_of b.NotEqual x y = equality op.Ne x y
plan_of b.Same x y = equality op.Eq x y
plan_of b.NotSame x y = equality op.Ne x y
plan_of b.And x y = bits op.And x y
plan_of b.Xor x y = bits op.Xor x y
plan_of b.Or x y = bits op.Or x y
plan_of b.AndAnd x y = None
plan_of b.OrOr x y = None

abbrev pub plan_if : BinaryOperator → Option Primitive → Option Primitive → Option Plan
plan_if operator (Some x) (Some y) = plan_of operator x y
plan_if operator _ _ = None

abbrev pub is_equality : BinaryOperator → Bool
is_equality b.Equal = true
is_equality b.NotEqual = true
is_equality b.Same = true
is_equality b.NotSame = true
is_equality operator = false

-- The primitive type that a side has to an operator: a box has that of what is in it, but is itself to `==`, `!=`, `===` and `!==`.
abbrev pub primitive_to : BinaryOperator → Ty → Option Primitive
primitive_to operator of = if is_equality operator then primitive_of of else unboxed_of of

-- void has no operator
abbrev pub plan_between : BinaryOperator → Ty → Ty → Option Plan
plan_between operator x y = plan_if operator (primitive_to operator x) (primitive_to operator y)

-- a side as an operator takes it, the cast standing at a place
abbrev pub operand : ℕ → Primitive → Part → Out Typed
operand at to x = cast_at at (t.Prim to) x true

-- ---- sides that are not both primitives to an operator

-- what a side is to an operator
pub data Side : Type 0 where
  OfVoid OfNull OfPrimitive OfDef OfText OfContainer OfOther : Side

-- the container types: Iterable, Map and the classes below them
abbrev pub is_container : ℕ → Bool
is_container c = class_is_below c ITERABLE || class_is_below c MAP

abbrev pub side_of_class : ℕ → Side
side_of_class c = if c == STRING then OfText else (if is_container c then OfContainer else OfOther)

abbrev pub side_layer : Ty-F Ty → Side
side_layer Ty-F.Void = OfVoid
side_layer Ty-F.Null = OfNull
side_layer Ty-F.Def = OfDef
side_layer (Ty-F.Prim q) = OfPrimitive
side_layer (Ty-F.Class c) = side_of_class c
side_layer (Ty-F.Array element) = OfContainer

abbrev pub side_of : Ty → Side
side_of of = side_layer (out-Ty of)

-- a text on one side and a value on the other are joined
abbrev pub joins : Side → Side → Bool
joins OfVoid y = false
joins x OfVoid = false
joins OfText y = true
joins x OfText = true
joins x y = false

-- `==` and `!=` take values that are not both of primitive types, but for a primitive against null
abbrev pub compares : Side → Side → Bool
compares OfVoid y = false
compares x OfVoid = false
compares OfPrimitive OfPrimitive = false
compares OfPrimitive OfNull = false
compares OfNull OfPrimitive = false
compares x y = true

-- `===` and `!==` take two containers, or null and what is no primitive
abbrev pub identifies : Side → Side → Bool
identifies OfNull OfNull = true
identifies OfNull OfDef = true
identifies OfNull OfText = true
identifies OfNull OfContainer = true
identifies OfNull OfOther = true
identifies OfDef OfNull = true
identifies OfText OfNull = true
identifies OfContainer OfNull = true
identifies OfOther OfNull = true
identifies OfContainer OfContainer = true
identifies x y = false

abbrev pub only_if : Bool → Operator → Option Operator
only_if test o = if test then Some o else None

-- one side is def, and the other no void
abbrev pub is_dynamic : Side → Side → Bool
is_dynamic OfVoid y = false
is_dynamic x OfVoid = false
is_dynamic OfDef y = true
is_dynamic x OfDef = true
is_dynamic x y = false

-- An operator whose sides have types that are found when the script runs. The equalities have operators of their own.
abbrev pub dynamic_op : BinaryOperator → Option Op
dynamic_op b.Multiply = Some op.Mul
dynamic_op b.Divide = Some op.Div
dynamic_op b.Remainder = Some op.Rem
dynamic_op b.Add = Some op.Add
dynamic_op b.Subtract = Some op.Sub
dynamic_op b.ShiftLeft = Some op.Shl
dynamic_op b.ShiftRight = Some op.Shr
dynamic_op b.ShiftRightUnsigned = Some op.Ushr
dynamic_op b.Less = Some op.Lt
dynamic_op b.LessEqual = Some op.Le
dynamic_op b.Greater = Some op.Gt
dynamic_op b.GreaterEqual = Some op.Ge
dynamic_op b.And = Some op.And
dynamic_op b.Xor = Some op.Xor
dynamic_op b.Or = Some op.Or
dynamic_op operator = None

abbrev pub dynamic_if : Bool → Option Op → Option Operator
dynamic_if true (Some op) = Some (operator.Def op)
dynamic_if test op = None

abbrev pub dynamic_of : BinaryOperator → Side → Side → Option Operator
dynamic_of operator x y = dynamic_if (is_dynamic x y) (dynamic_op operator)

abbrev pub dynamic_between : BinaryOperator → Ty → Ty → Option Operator
dynamic_between operator x y = dynamic_of operator (side_of x) (side_of y)

-- What is done with two sides that are not both primitives to an operator, as references.
abbrev pub relation_of : BinaryOperator → Side → Side → Option Operator
relation_of b.Add x y = if joins x y then Some operator.Concat else dynamic_of b.Add x y
relation_of b.Equal x y = only_if (compares x y) operator.Equal
relation_of b.NotEqual x y = only_if (compares x y) operator.NotEqual
relation_of b.Same x y = only_if (identifies x y) operator.Same
relation_of b.NotSame x y = only_if (identifies x y) operator.NotSame
relation_of operator x y = dynamic_of operator x y

abbrev pub relation_between : BinaryOperator → Ty → Ty → Option Operator
relation_between operator x y = relation_of operator (side_of x) (side_of y)

abbrev pub is_comparison : Op → Bool
is_comparison op.Lt = true
is_comparison op.Le = true
is_comparison op.Gt = true
is_comparison op.Ge = true
is_comparison op = false

-- the type of what an operator on references gives
abbrev pub type_given : Operator → Ty
type_given operator.Concat = t.Class STRING
type_given (operator.Def op) = if is_comparison op then boolean else t.Def
type_given o = boolean

-- a side as a reference
abbrev pub reference : Part → Out Typed
reference x = cast_at x.at t.Def x true

abbrev pub related : Option Operator → ℕ → Part → Part → Out Part
related None at x y = refuse BAD_OPERAND at
related (Some relation) at x y = bind (reference x) (λ x. bind (reference y) (λ y. Ok (plain at (applied at (type_given relation) (o.Operator relation) (x ∷ y ∷ [])))))

abbrev pub strict : Option Plan → BinaryOperator → ℕ → Part → Part → Out Part
strict None operator at x y = related (relation_between operator (type_of_part x) (type_of_part y)) at x y
strict (Some plan) operator at x y = bind (operand x.at plan.left x) (λ x. bind (operand y.at plan.right y) (λ y.
    Ok (plain at (applied at (t.Prim plan.result) (o.Operator plan.operator) (x ∷ y ∷ [])))))

-- a side of `&&`, `||` or `!`: void has no operator, and all else is cast
abbrev pub side : ℕ → Part → Out Typed
side at x = if is_void (type_of_part x) then refuse BAD_OPERAND at else cast_to boolean x

abbrev pub both_sides : Logical → ℕ → Part → Part → Out Part
both_sides operator at x y = bind (side at x) (λ x. bind (side at y) (λ y. Ok (plain at (typed at boolean (n.Logical operator x y)))))

-- a void side is refused before either side is cast, on the right too
abbrev pub logical : Logical → ℕ → Part → Part → Out Part
logical operator at x y = if is_void (type_of_part y) then refuse BAD_OPERAND at else both_sides operator at x y

abbrev pub binary_of : BinaryOperator → ℕ → Part → Part → Out Part
binary_of b.AndAnd at x y = logical l.And at x y
binary_of b.OrOr at x y = logical l.Or at x y
binary_of operator at x y = strict (plan_between operator (type_of_part x) (type_of_part y)) operator at x y

abbrev pub promoted_if : Option Primitive → Option Primitive
promoted_if None = None
promoted_if (Some q) = promote_of q p.Int

-- the type of a number, or of the one in a box, promoted
abbrev pub promoted : Part → Option Primitive
promoted x = promoted_if (unboxed_of (type_of_part x))

abbrev pub is_def_side : Side → Bool
is_def_side OfDef = true
is_def_side x = false

-- an operator on one operand that is no number: on def it is found when the script runs, and no other type has one
abbrev pub on_def : Op → ℕ → Part → Out Part
on_def op at x = bind (reference x) (λ y. Ok (plain at (applied at t.Def (o.Operator (operator.Def op)) (y ∷ []))))

abbrev pub alone : Op → ℕ → Part → Out Part
alone op at x = if is_def_side (side_of (type_of_part x)) then on_def op at x else refuse BAD_OPERAND at

abbrev pub signed : Op → Option Primitive → ℕ → Part → Out Part
signed op None at x = alone op at x
signed op (Some q) at x = bind (operand x.at q x) (λ x. Ok (plain at (applied at (t.Prim q) (o.Operator (on_numbers q op)) (x ∷ []))))

abbrev pub plus_as : Option Primitive → ℕ → Part → Out Part
plus_as None at x = alone op.Pos at x
plus_as (Some q) at x = bind (operand x.at q x) (λ x. Ok (plain at x))

abbrev pub not_of : ℕ → Part → Out Part
not_of at x = bind (side at x) (λ x. Ok (plain at (applied at boolean (o.Operator (operator.Boolean op.Not)) (x ∷ []))))

-- `+` only promotes a number
abbrev pub unary_of : UnaryOperator → ℕ → Part → Out Part
unary_of u.Plus at x = plus_as (promoted x) at x
unary_of u.Minus at x = signed op.Neg (promoted x) at x
unary_of u.Complement at x = signed op.Not (promoted x) at x
unary_of u.Not at x = not_of at x

abbrev pub common_if : Option Primitive → Ty
common_if None = t.Def
common_if (Some q) = t.Prim q

abbrev pub common_class : ℕ → ℕ → Ty
common_class c d = if class_is_below c d then t.Class d else (if class_is_below d c then t.Class c else t.Def)

abbrev pub common_layer : Ty-F Ty → Ty-F Ty → Ty
common_layer (Ty-F.Prim q) (Ty-F.Prim r) = common_if (promote_of q r)
common_layer (Ty-F.Class c) (Ty-F.Class d) = common_class c d
common_layer _ _ = t.Def

-- The common type of two that are not the same: of primitive types the promoted one, of classes the one that is above the other, or else
-- def. The type of null is no class.
abbrev pub common : Ty → Ty → Ty
common a b = common_layer (out-Ty a) (out-Ty b)

-- a conditional whose sides have different types
abbrev pub choice_to : ℕ → Ty → Typed → Part → Part → Out Part
choice_to at to z x y = bind (cast_to to x) (λ x. bind (cast_to to y) (λ y. Ok (plain at (typed at to (n.Conditional z x y)))))

abbrev pub choice_as : Bool → ℕ → Typed → Part → Part → Out Part
choice_as true at z x y = Ok (plain at (typed at (type_of_part x) (n.Conditional z x.typed y.typed)))
choice_as false at z x y = choice_to at (common (type_of_part x) (type_of_part y)) z x y

-- a conditional: sides of one type have it, void too
abbrev pub choice_of : ℕ → Part → Part → Part → Out Part
choice_of at z x y = bind (cast_to boolean z) (λ z. choice_as (same_types (type_of_part x) (type_of_part y)) at z x y)

-- ---- `?:`

abbrev pub is_literal : Form → Bool
is_literal (f.Number value) = true
is_literal f.True = true
is_literal f.Literal = true
is_literal _ = false

abbrev pub is_primitive : Option Primitive → Bool
is_primitive None = false
is_primitive (Some q) = true

-- a left side that is never null, or a literal
abbrev pub needs_no_other : Part → Bool
needs_no_other x = is_literal x.form || is_primitive (primitive_of (type_of_part x))

abbrev pub elvis_by : Bool → ℕ → Ty → Typed → Typed → Out Part
elvis_by true at to x y = refuse BAD_NULLABLE at
elvis_by false at to x y = Ok (plain at (typed at to (n.Elvis x y)))

abbrev pub elvis_to : ℕ → Ty → Part → Part → Out Part
elvis_to at to x y = bind (cast_to to x) (λ left. bind (cast_to to y) (λ right. elvis_by (needs_no_other x) at to left right))

abbrev pub common_of : Ty → Ty → Ty
common_of a b = if same_types a b then a else common a b

-- Both sides have the common type of the two; then the left one has to need another.
abbrev pub elvis_of : ℕ → Part → Part → Out Part
elvis_of at x y = elvis_to at (common_of (type_of_part x) (type_of_part y)) x y

-- ---- `instanceof`

abbrev pub may_be_instance : Side → Bool
may_be_instance OfVoid = false
may_be_instance OfPrimitive = false
may_be_instance x = true

abbrev pub has_instances_layer : Ty-F Ty → Bool
has_instances_layer (Ty-F.Class c) = true
has_instances_layer (Ty-F.Array element) = true
has_instances_layer _ = false

-- what stands left is no primitive, and what stands right a class or an array type
abbrev pub instance_of : ℕ → Part → Ty → Out Part
instance_of at x of =
    if may_be_instance (side_of (type_of_part x)) && has_instances_layer (out-Ty of)
    then Ok (plain at (applied at boolean (o.InstanceOf of) (x.typed ∷ [])))
    else refuse BAD_OPERAND at
