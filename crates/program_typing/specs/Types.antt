-- Which values are of a type, and between which types operators and casts go.
use Rattle.std.specs.Prelude.{◌≡◌, ℕ, ◌≤◌, nat_lt, ℤ, Bool, true, false, List, [], ◌∷◌, length, Option, Some, None}
use Rattle.pl_types.specs.declared.primitive.Primitive.{Primitive}
use Rattle.pl_types.specs.declared.primitive.Primitive.TheVariants as prim
use Rattle.pl_types.specs.declared.ty.Ty.{Ty, out-Ty}
use Rattle.pl_types.specs.declared.ty.Ty.TheVariants as t
use Rattle.pl_types.specs.declared.ty.Ty.TheOpen.{Ty-F}
use Rattle.pl_types.specs.declared.classes.TheConstants.{STRING, PRELUDE, ARRAY_LIST, HASH_MAP, ITERATOR}
use Rattle.pl_types.specs.declared.ty.Ty.TheFolds.{fold-Ty}
use Rattle.pl_types.specs.declared.conversion.Cast.{Cast}
use Rattle.pl_types.specs.declared.conversion.Cast.TheVariants as cast
use Rattle.pl_types.specs.Casts.{cast_of}
use Rattle.pl_types.specs.Classes.{class_is_below}
use Rattle.object_values.specs.declared.value.Value.{Value}
use Rattle.object_values.specs.declared.value.Value.TheVariants as v
use Rattle.arithmetic.specs.declared.operator.Op.{Op}
use Rattle.arithmetic.specs.declared.operator.Op.TheVariants as op
use Rattle.number_ops.specs.Operators.{is_unary}
use Rattle.source_meaning.specs.Types.{dimensions_of}
use Rattle.typed_tree.specs.declared.operation.Constant.{Constant}
use Rattle.typed_tree.specs.declared.operation.Constant.TheVariants as constant
use Rattle.typed_tree.specs.declared.operation.Operator.{Operator}
use Rattle.typed_tree.specs.declared.operation.Operator.TheVariants as operator

-- ---- values

abbrev pub HasPrimitive : Primitive → Value → Type 0
HasPrimitive prim.Boolean value = (flag : Bool) × (value ≡ v.Bool flag)
HasPrimitive prim.Byte value = (number : ℤ) × (value ≡ v.Byte number)
HasPrimitive prim.Short value = (number : ℤ) × (value ≡ v.Short number)
HasPrimitive prim.Char value = (unit : ℕ) × (value ≡ v.Char unit)
HasPrimitive prim.Int value = (number : ℤ) × (value ≡ v.Int number)
HasPrimitive prim.Long value = (number : ℤ) × (value ≡ v.Long number)

abbrev pub HasLayer : Ty-F Ty → Value → Type 0
HasLayer (Ty-F.Prim p) value = HasPrimitive p value
HasLayer other value = Unit {0}

-- A value is of a type. Of references nothing is asked: what looks into one says of every value what comes of it.
abbrev pub Has : Ty → Value → Type 0
Has of value = HasLayer (out-Ty of) value

abbrev pub HaveAll : List Ty → List Value → Type 0
HaveAll [] [] = Unit {0}
HaveAll (of ∷ ofs) (value ∷ values) = Has of value × HaveAll ofs values
HaveAll [] (value ∷ values) = ⊥
HaveAll (of ∷ ofs) [] = ⊥

abbrev pub is_reference_layer : Ty-F Ty → Type 0
is_reference_layer Ty-F.Void = ⊥
is_reference_layer (Ty-F.Prim p) = ⊥
is_reference_layer other = Unit {0}

-- neither void nor a primitive type
abbrev pub IsReference : Ty → Type 0
IsReference of = is_reference_layer (out-Ty of)

abbrev pub has_values_layer : Ty-F Ty → Type 0
has_values_layer Ty-F.Void = ⊥
has_values_layer other = Unit {0}

-- not void
abbrev pub HasValues : Ty → Type 0
HasValues of = has_values_layer (out-Ty of)

abbrev pub IsOf : Constant → Ty → Type 0
IsOf constant.Null of = IsReference of
IsOf (constant.Boolean flag) of = of ≡ t.Prim prim.Boolean
IsOf (constant.Byte number) of = of ≡ t.Prim prim.Byte
IsOf (constant.Short number) of = of ≡ t.Prim prim.Short
IsOf (constant.Char unit) of = of ≡ t.Prim prim.Char
IsOf (constant.Int number) of = of ≡ t.Prim prim.Int
IsOf (constant.Long number) of = of ≡ t.Prim prim.Long

-- ---- types that code may name

-- a type that code may name: def, a primitive type, a class that scripts may have, or an array of these
abbrev pub listed_layer : Ty-F Bool → Bool
listed_layer Ty-F.Void = false
listed_layer Ty-F.Null = false
listed_layer Ty-F.Def = true
listed_layer (Ty-F.Prim p) = true
listed_layer (Ty-F.Class class) = nat_lt class PRELUDE
listed_layer (Ty-F.Array element) = element

abbrev pub is_listed : Ty → Bool
is_listed = fold-Ty Bool listed_layer

pub record IsNamed (of : Ty) : Type 0 where
  pub listed : is_listed of ≡ true

-- ---- operators

abbrev pub Gives : Option Primitive → Ty → Type 0
Gives None of = ⊥
Gives (Some p) of = of ≡ t.Prim p

-- what an operator gives of one operand of a number type
abbrev pub of_one : Primitive → Op → Option Primitive
of_one p op.Neg = Some p
of_one p op.Not = Some p
of_one p o = None

-- and of two
abbrev pub of_two : Primitive → Op → Option Primitive
of_two p op.Neg = None
of_two p op.Not = None
of_two p op.Pos = None
of_two p op.Lt = Some prim.Boolean
of_two p op.Le = Some prim.Boolean
of_two p op.Gt = Some prim.Boolean
of_two p op.Ge = Some prim.Boolean
of_two p op.Eq = Some prim.Boolean
of_two p op.Ne = Some prim.Boolean
of_two p o = Some p

-- the right side of a shift is an int
abbrev pub right_side : Primitive → Op → Primitive
right_side p op.Shl = prim.Int
right_side p op.Shr = prim.Int
right_side p op.Ushr = prim.Int
right_side p o = p

abbrev pub of_one_flag : Op → Option Primitive
of_one_flag op.Not = Some prim.Boolean
of_one_flag o = None

abbrev pub of_two_flags : Op → Option Primitive
of_two_flags op.And = Some prim.Boolean
of_two_flags op.Or = Some prim.Boolean
of_two_flags op.Xor = Some prim.Boolean
of_two_flags op.Eq = Some prim.Boolean
of_two_flags op.Ne = Some prim.Boolean
of_two_flags o = None

abbrev pub TakesNumbers : Primitive → Op → List Ty → Ty → Type 0
TakesNumbers p o (a ∷ []) of = (a ≡ t.Prim p) × Gives (of_one p o) of
TakesNumbers p o (a ∷ b ∷ []) of = (a ≡ t.Prim p) × (b ≡ t.Prim (right_side p o)) × Gives (of_two p o) of
TakesNumbers p o others of = ⊥

abbrev pub TakesFlags : Op → List Ty → Ty → Type 0
TakesFlags o (a ∷ []) of = (a ≡ t.Prim prim.Boolean) × Gives (of_one_flag o) of
TakesFlags o (a ∷ b ∷ []) of = (a ≡ t.Prim prim.Boolean) × (b ≡ t.Prim prim.Boolean) × Gives (of_two_flags o) of
TakesFlags o others of = ⊥

-- two references
abbrev pub TakesReferences : List Ty → Type 0
TakesReferences (a ∷ b ∷ []) = IsReference a × IsReference b
TakesReferences others = ⊥

abbrev pub string : Ty
string = t.Class STRING

abbrev pub AreReferences : List Ty → Type 0
AreReferences [] = Unit {0}
AreReferences (of ∷ ofs) = IsReference of × AreReferences ofs

-- operands whose types are found when the script runs: one, or two
abbrev pub IsDefOf : Bool → List Ty → Type 0
IsDefOf true (a ∷ []) = IsReference a
IsDefOf false (a ∷ b ∷ []) = IsReference a × IsReference b
IsDefOf unary others = ⊥

-- what an operator gives of them, which is not `==` or `!=`
abbrev pub def_given : Op → Option Ty
def_given op.Eq = None
def_given op.Ne = None
def_given op.Lt = Some (t.Prim prim.Boolean)
def_given op.Le = Some (t.Prim prim.Boolean)
def_given op.Gt = Some (t.Prim prim.Boolean)
def_given op.Ge = Some (t.Prim prim.Boolean)
def_given o = Some t.Def

-- an operator takes operands of these types and gives a value of that one
abbrev pub Takes : Operator → List Ty → Ty → Type 0
Takes (operator.Int o) ofs of = TakesNumbers prim.Int o ofs of
Takes (operator.Long o) ofs of = TakesNumbers prim.Long o ofs of
Takes (operator.Boolean o) ofs of = TakesFlags o ofs of
Takes (operator.Def o) ofs of = IsDefOf (is_unary o) ofs × (def_given o ≡ Some of)
Takes operator.Equal ofs of = TakesReferences ofs × (of ≡ t.Prim prim.Boolean)
Takes operator.NotEqual ofs of = TakesReferences ofs × (of ≡ t.Prim prim.Boolean)
Takes operator.Same ofs of = TakesReferences ofs × (of ≡ t.Prim prim.Boolean)
Takes operator.NotSame ofs of = TakesReferences ofs × (of ≡ t.Prim prim.Boolean)
Takes operator.Concat ofs of = TakesReferences ofs × (of ≡ string)
Takes other ofs of = ⊥

-- ---- lists, maps, arrays and iterators: operators of a node of a type, which says what is made, and as what elements are read

-- keys and values by turns
abbrev pub ArePairs : List Ty → Type 0
ArePairs [] = Unit {0}
ArePairs (key ∷ []) = ⊥
ArePairs (key ∷ value ∷ more) = IsReference key × IsReference value × ArePairs more

abbrev pub AreAll : Ty → List Ty → Type 0
AreAll of [] = Unit {0}
AreAll of (part ∷ parts) = (part ≡ of) × AreAll of parts

-- the sizes of an array: a type that code may name has a `[]` for each of them, and there is one at least
abbrev pub TakesSizes : List Ty → Ty → Type 0
TakesSizes ofs of = AreAll (t.Prim prim.Int) ofs × (1 ≤ length ofs) × (length ofs ≤ dimensions_of of) × IsNamed of

-- an array's elements, which are all of its element type
abbrev pub Holds : List Ty → Ty → Type 0
Holds ofs of = (elem : Ty) × (of ≡ t.Array elem) × AreAll elem ofs × IsNamed elem

-- an element of an array, which is of a type
abbrev pub TakesElement : List Ty → Ty → Type 0
TakesElement (array ∷ at ∷ []) of = (array ≡ t.Array of) × (at ≡ t.Prim prim.Int) × IsNamed of
TakesElement others of = ⊥

abbrev pub TakesArray : List Ty → Type 0
TakesArray (array ∷ []) = (elem : Ty) × (array ≡ t.Array elem)
TakesArray others = ⊥

abbrev pub TakesReference : List Ty → Type 0
TakesReference (a ∷ []) = IsReference a
TakesReference others = ⊥

-- an operator of a node of this type takes operands of these types
abbrev pub TakesTo : Operator → List Ty → Ty → Type 0
TakesTo operator.List ofs of = AreReferences ofs × (of ≡ t.Class ARRAY_LIST)
TakesTo operator.Map ofs of = ArePairs ofs × (of ≡ t.Class HASH_MAP)
TakesTo operator.NewArray ofs of = TakesSizes ofs of
TakesTo operator.ArrayOf ofs of = Holds ofs of
TakesTo operator.Element ofs of = TakesElement ofs of
TakesTo operator.Length ofs of = TakesArray ofs × (of ≡ t.Prim prim.Int)
TakesTo operator.Iterate ofs of = TakesReference ofs × (of ≡ t.Class ITERATOR)
TakesTo operator.HasNext ofs of = TakesReference ofs × (of ≡ t.Prim prim.Boolean)
TakesTo operator.Next ofs of = TakesReference ofs × (of ≡ t.Def)
TakesTo other ofs of = Takes other ofs of

-- an element of an array is written where it is read, and what is written is of the element type
abbrev pub PutsElement : Operator → List Ty → Ty → Type 0
PutsElement operator.PutElement ofs of = TakesElement ofs of
PutsElement other ofs of = ⊥

-- ---- casts

-- numbers go to numbers, and a boolean stays one
abbrev pub Converts : Primitive → Primitive → Type 0
Converts prim.Boolean prim.Boolean = Unit {0}
Converts prim.Boolean to = ⊥
Converts from prim.Boolean = ⊥
Converts from to = Unit {0}

-- a cast between two types is the one that the table gives, written or added
pub record IsGiven (c : Cast) (from to : Ty) : Type 0 where
  pub written : Bool
  pub is : cast_of class_is_below from to written ≡ Some c

-- a value that a cast keeps: of one type, or a reference where the table keeps it
pub data Keeps (from to : Ty) : Type 0 where
  Same : from ≡ to → Keeps from to
  References : IsReference from → IsReference to → IsGiven cast.Keep from to → Keeps from to

-- A cast goes from this type to that one. What it keeps or puts in a box it does as the table says, so that the value is of the type that it
-- goes to.
abbrev pub Casts : Cast → Ty → Ty → Type 0
Casts cast.Keep from to = Keeps from to
Casts (cast.Number p q) from to = (from ≡ t.Prim p) × (to ≡ t.Prim q) × Converts p q
Casts (cast.Wrap p q) from to = (from ≡ t.Prim p) × IsReference to × Converts p q × IsGiven (cast.Wrap p q) from to
Casts (cast.Unwrap p q) from to = IsReference from × (to ≡ t.Prim q) × Converts p q
Casts cast.Implicit from to = IsReference from × IsNamed to
Casts cast.Explicit from to = IsReference from × IsNamed to
Casts cast.CharToText from to = (from ≡ t.Prim prim.Char) × (to ≡ string)
Casts cast.TextToChar from to = IsReference from × (to ≡ t.Prim prim.Char)
