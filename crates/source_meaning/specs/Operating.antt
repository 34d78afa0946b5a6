-- What operators and casts come to where the types of their operands are known before the script runs. Nothing, where an operand is not
-- of its type, which no typed program meets, or the operation is not built.
use Rattle.std.specs.Prelude.{ℕ, Bool, not, true, false, Option, Some, None, List, [], ◌∷◌, pos, ℤ, option_map, if◌then◌else◌}
use Rattle.std.specs.Int.{w8, w16, w32, w64}
use Rattle.pl_types.specs.declared.primitive.Primitive.{Primitive}
use Rattle.pl_types.specs.declared.primitive.Primitive.TheVariants as prim
use Rattle.pl_types.specs.declared.classes.TheConstants.{STRING}
use Rattle.pl_types.specs.declared.conversion.Cast.{Cast}
use Rattle.pl_types.specs.declared.conversion.Cast.TheVariants as cast
use Rattle.pl_types.specs.declared.ty.Ty.{Ty, out-Ty}
use Rattle.pl_types.specs.declared.ty.Ty.TheOpen.{Ty-F}
use Rattle.pl_types.specs.declared.ty.Ty.TheVariants as t
use Rattle.object_values.specs.declared.value.Value.{Value}
use Rattle.object_values.specs.declared.value.Value.TheVariants as v
use Rattle.object_heap.specs.Effects.{Effect}
use Rattle.object_heap.specs.Store.{Store}
use Rattle.arithmetic.specs.declared.operator.Op.{Op}
use Rattle.arithmetic.specs.declared.operator.Op.TheVariants as op
use Rattle.arithmetic.specs.declared.operator.Num.{Num}
use Rattle.arithmetic.specs.declared.operator.Num.TheVariants as n
use Rattle.arithmetic.specs.Arithmetic.{wrapped, low_bits}
use Rattle.arithmetic.specs.Operators.{of_type}
use Rattle.number_ops.specs.Operators.{of_result, and_flags, or_flags, xor_flags, concatenated}
use Rattle.number_ops.specs.declared.outcome.Outcome.{Outcome}
use Rattle.number_ops.specs.declared.outcome.Outcome.TheVariants as outcome
use Rattle.number_ops.specs.Casts.{cast_at_run_time}
use Rattle.number_ops.specs.Outcomes.{effect, zero_divisor}
use Rattle.number_ops.specs.Relations.{equal, is_same}
use Rattle.number_ops.specs.Operators.{operate, is_unary}
use Rattle.def_access.specs.Types.{element_of}
use Rattle.def_access.specs.Making.{list_made, map_made, array_filled, array_made}
use Rattle.def_access.specs.Elements.{element_read, element_written, length_of}
use Rattle.def_access.specs.Loops.{iterated, has_more, next_element}
use Rattle.typed_tree.specs.declared.operation.Constant.{Constant}
use Rattle.typed_tree.specs.declared.operation.Constant.TheVariants as constant
use Rattle.typed_tree.specs.declared.operation.Operator.{Operator}
use Rattle.typed_tree.specs.declared.operation.Operator.TheVariants as operator

abbrev pub value_of : Constant → Value
value_of constant.Null = v.Null
value_of (constant.Boolean flag) = v.Bool flag
value_of (constant.Byte number) = v.Byte number
value_of (constant.Short number) = v.Short number
value_of (constant.Char unit) = v.Char unit
value_of (constant.Int number) = v.Int number
value_of (constant.Long number) = v.Long number

-- ---- operands

-- a value as an operator's operand: an int, a long or a truth value
pub data Operand : Type 0 where
  AnInt : (number : ℤ) → Operand
  ALong : (number : ℤ) → Operand
  AFlag : (flag : Bool) → Operand
  NoOperand : Operand

abbrev pub operand_of : Value → Operand
operand_of (v.Int a) = AnInt a
operand_of (v.Long a) = ALong a
operand_of (v.Bool a) = AFlag a
operand_of v.Null = NoOperand
operand_of (v.Byte a) = NoOperand
operand_of (v.Short a) = NoOperand
operand_of (v.Char a) = NoOperand
operand_of (v.Str a) = NoOperand
operand_of (v.Ref a) = NoOperand

pub data Operands : Type 0 where
  OneInt : (a : ℤ) → Operands
  TwoInts : (a b : ℤ) → Operands
  OneLong : (a : ℤ) → Operands
  TwoLongs : (a b : ℤ) → Operands
  LongAndInt : (a b : ℤ) → Operands
  OneFlag : (a : Bool) → Operands
  TwoFlags : (a b : Bool) → Operands
  NoOperands : Operands

abbrev pub one_operand : Operand → Operands
one_operand (AnInt a) = OneInt a
one_operand (ALong a) = OneLong a
one_operand (AFlag a) = OneFlag a
one_operand NoOperand = NoOperands

abbrev pub two_operands : Operand → Operand → Operands
two_operands (AnInt a) (AnInt b) = TwoInts a b
two_operands (AnInt a) (ALong b) = NoOperands
two_operands (AnInt a) (AFlag b) = NoOperands
two_operands (AnInt a) NoOperand = NoOperands
two_operands (ALong a) (AnInt b) = LongAndInt a b
two_operands (ALong a) (ALong b) = TwoLongs a b
two_operands (ALong a) (AFlag b) = NoOperands
two_operands (ALong a) NoOperand = NoOperands
two_operands (AFlag a) (AnInt b) = NoOperands
two_operands (AFlag a) (ALong b) = NoOperands
two_operands (AFlag a) (AFlag b) = TwoFlags a b
two_operands (AFlag a) NoOperand = NoOperands
two_operands NoOperand b = NoOperands

abbrev pub operands_of : List Value → Operands
operands_of [] = NoOperands
operands_of (a ∷ []) = one_operand (operand_of a)
operands_of (a ∷ b ∷ []) = two_operands (operand_of a) (operand_of b)
operands_of (a ∷ b ∷ c ∷ others) = NoOperands

-- ---- numbers: what an operator gives, or a zero divisor; nothing where it does not take so many operands

abbrev pub of_one : Option Num → Op → Option (Option Num)
of_one given op.Neg = Some given
of_one given op.Not = Some given
of_one given o = None

abbrev pub of_two : Option Num → Op → Option (Option Num)
of_two given op.Neg = None
of_two given op.Not = None
of_two given op.Pos = None
of_two given o = Some given

abbrev pub of_ints : Op → Operands → Option (Option Num)
of_ints o (OneInt a) = of_one (of_type n.Int w32 o a a) o
of_ints o (TwoInts a b) = of_two (of_type n.Int w32 o a b) o
of_ints o others = None

-- the right side of a shift of a long is an int
abbrev pub of_shift : Option Num → Op → Option (Option Num)
of_shift given op.Shl = Some given
of_shift given op.Shr = Some given
of_shift given op.Ushr = Some given
of_shift given o = None

abbrev pub of_no_shift : Option Num → Op → Option (Option Num)
of_no_shift given op.Shl = None
of_no_shift given op.Shr = None
of_no_shift given op.Ushr = None
of_no_shift given o = of_two given o

abbrev pub of_longs : Op → Operands → Option (Option Num)
of_longs o (OneLong a) = of_one (of_type n.Long w64 o a a) o
of_longs o (TwoLongs a b) = of_no_shift (of_type n.Long w64 o a b) o
of_longs o (LongAndInt a b) = of_shift (of_type n.Long w64 o a b) o
of_longs o others = None

-- what an operator comes to: nothing, a value, or an effect on the store
pub data Operated : Type 0 where
  Meaningless : Operated
  Gives : (value : Value) → Operated
  Acts : (effect : Effect) → Operated

abbrev pub number_given : Op → Option Num → Store → Operated
number_given o None store = Acts (effect store zero_divisor)
number_given o (Some number) store = Gives (of_result o number)

abbrev pub number_operated : Op → Option (Option Num) → Store → Operated
number_operated o None store = Meaningless
number_operated o (Some given) store = number_given o given store

-- ---- truth values

abbrev pub of_two_flags : Op → Bool → Bool → Option Bool
of_two_flags op.And a b = Some (and_flags a b)
of_two_flags op.Or a b = Some (or_flags a b)
of_two_flags op.Xor a b = Some (xor_flags a b)
of_two_flags op.Eq a b = Some (not (xor_flags a b))
of_two_flags op.Ne a b = Some (xor_flags a b)
of_two_flags o a b = None

abbrev pub of_one_flag : Op → Bool → Option Bool
of_one_flag op.Not a = Some (not a)
of_one_flag o a = None

abbrev pub of_flags : Op → Operands → Option Bool
of_flags o (OneFlag a) = of_one_flag o a
of_flags o (TwoFlags a b) = of_two_flags o a b
of_flags o others = None

abbrev pub flag_operated : Option Bool → Operated
flag_operated None = Meaningless
flag_operated (Some flag) = Gives (v.Bool flag)

-- ---- references

-- what is the other way round; an exception stays one
abbrev pub negated : Outcome → Outcome
negated (outcome.Gives (v.Bool flag)) = outcome.Gives (v.Bool (not flag))
negated other = other

abbrev pub of_references : Operator → Value → Value → Store → Operated
of_references operator.Equal a b store = Acts (effect store (equal store.objects a b))
of_references operator.NotEqual a b store = Acts (effect store (negated (equal store.objects a b)))
of_references operator.Same a b store = Gives (v.Bool (is_same a b))
of_references operator.NotSame a b store = Gives (v.Bool (not (is_same a b)))
of_references operator.Concat a b store = Acts (effect store (concatenated store.objects a b))
of_references other a b store = Meaningless

abbrev pub reference_operated : Operator → List Value → Store → Operated
reference_operated o (a ∷ b ∷ []) store = of_references o a b store
reference_operated o others store = Meaningless

-- ---- operands of any types

-- an operator of one operand, or of two
abbrev pub of_any : Op → List Value → Store → Operated
of_any o (a ∷ []) store = if is_unary o then Acts (effect store (operate store.objects o a a)) else Meaningless
of_any o (a ∷ b ∷ []) store = if is_unary o then Meaningless else Acts (effect store (operate store.objects o a b))
of_any o values store = Meaningless

-- ---- values in boxes

-- A value of a primitive type in its box. (A box holds a number of its type.)
abbrev pub in_box : Primitive → Value → Option Value
in_box prim.Boolean (v.Bool flag) = Some (v.Bool flag)
in_box prim.Byte (v.Byte a) = Some (v.Byte (wrapped w8 a))
in_box prim.Short (v.Short a) = Some (v.Short (wrapped w16 a))
in_box prim.Char (v.Char unit) = Some (v.Char (low_bits 16 (pos unit)))
in_box prim.Int (v.Int a) = Some (v.Int a)
in_box prim.Long (v.Long a) = Some (v.Long a)
in_box p value = None

-- a value as a member takes it, or an array has it, of a type: a primitive goes in its box
abbrev pub passed_layer : Ty-F Ty → Value → Option Value
passed_layer (Ty-F.Prim p) value = in_box p value
passed_layer other value = Some value

abbrev pub passed : Ty → Value → Option Value
passed of value = passed_layer (out-Ty of) value

-- What a function of a type gives, as a value: what gives nothing gives null.
abbrev pub passed_result_layer : Ty-F Ty → Value → Option Value
passed_result_layer Ty-F.Void value = Some v.Null
passed_result_layer layer value = passed_layer layer value

abbrev pub passed_result : Ty → Value → Option Value
passed_result of value = passed_result_layer (out-Ty of) value

abbrev pub before : Option Value → Option (List Value) → Option (List Value)
before (Some value) (Some values) = Some (value ∷ values)
before value values = None

-- values of one type
abbrev pub passed_alike : Ty → List Value → Option (List Value)
passed_alike of [] = Some []
passed_alike of (value ∷ values) = before (passed of value) (passed_alike of values)

-- ---- lists, maps, arrays and iterators, by the type of the node

abbrev pub ints_of : List Value → Option (List ℤ)
ints_of [] = Some []
ints_of (v.Int a ∷ values) = option_map (λ others. a ∷ others) (ints_of values)
ints_of (value ∷ values) = None

abbrev pub made_of : Option (List ℤ) → Ty → Store → Operated
made_of None of store = Meaningless
made_of (Some sizes) of store = Acts (array_made store of sizes)

abbrev pub filled_of : Option (List Value) → Ty → Store → Operated
filled_of None elem store = Meaningless
filled_of (Some items) elem store = Acts (array_filled store elem items)

abbrev pub read_at : Ty → List Value → Store → Operated
read_at of (array ∷ v.Int at ∷ []) store = Acts (element_read store of array at)
read_at of values store = Meaningless

abbrev pub written_if : Ty → Value → ℤ → Option Value → Store → Operated
written_if of array at None store = Meaningless
written_if of array at (Some value) store = Acts (element_written store of array at value)

abbrev pub written_at : Ty → List Value → Store → Operated
written_at of (array ∷ v.Int at ∷ value ∷ []) store = written_if of array at (passed of value) store
written_at of values store = Meaningless

abbrev pub of_one_value : (Store → Value → Effect) → List Value → Store → Operated
of_one_value does (value ∷ []) store = Acts (does store value)
of_one_value does values store = Meaningless

-- ---- all operators

abbrev pub operates : Operator → List Value → Store → Operated
operates (operator.Int o) values store = number_operated o (of_ints o (operands_of values)) store
operates (operator.Long o) values store = number_operated o (of_longs o (operands_of values)) store
operates (operator.Boolean o) values store = flag_operated (of_flags o (operands_of values))
operates (operator.Def o) values store = of_any o values store
operates other values store = reference_operated other values store

-- an operator of a node of a type, which says what is made, and as what elements are read and written
abbrev pub operates_to : Operator → Ty → List Value → Store → Operated
operates_to operator.List of values store = Acts (list_made store values)
operates_to operator.Map of values store = Acts (map_made store values)
operates_to operator.NewArray of values store = made_of (ints_of values) of store
operates_to operator.ArrayOf of values store = filled_of (passed_alike (element_of of) values) (element_of of) store
operates_to operator.Element of values store = read_at of values store
operates_to operator.PutElement of values store = written_at of values store
operates_to operator.Length of values store = of_one_value length_of values store
operates_to operator.Iterate of values store = of_one_value iterated values store
operates_to operator.HasNext of values store = of_one_value has_more values store
operates_to operator.Next of values store = of_one_value next_element values store
operates_to other of values store = operates other values store

-- ---- casts between the number types (Java Language Specification, 5.1.2 and 5.1.3): what widens keeps its number, and what narrows its
-- low bits

abbrev pub from_int_to : Primitive → ℤ → Option Value
from_int_to prim.Boolean a = None
from_int_to prim.Byte a = Some (v.Byte (wrapped w8 a))
from_int_to prim.Short a = Some (v.Short (wrapped w16 a))
from_int_to prim.Char a = Some (v.Char (low_bits 16 a))
from_int_to prim.Int a = Some (v.Int a)
from_int_to prim.Long a = Some (v.Long a)

-- a long goes to what is narrower than int by way of int
abbrev pub from_long_to : Primitive → ℤ → Option Value
from_long_to prim.Boolean a = None
from_long_to prim.Long a = Some (v.Long a)
from_long_to p a = from_int_to p (wrapped w32 a)

-- a byte is a short as it is
abbrev pub from_byte_to : Primitive → ℤ → Option Value
from_byte_to prim.Byte a = Some (v.Byte a)
from_byte_to prim.Short a = Some (v.Short a)
from_byte_to p a = from_int_to p a

abbrev pub from_short_to : Primitive → ℤ → Option Value
from_short_to prim.Short a = Some (v.Short a)
from_short_to p a = from_int_to p a

abbrev pub from_char_to : Primitive → ℕ → Option Value
from_char_to prim.Char unit = Some (v.Char unit)
from_char_to p unit = from_int_to p (pos unit)

abbrev pub from_flag_to : Primitive → Bool → Option Value
from_flag_to prim.Boolean flag = Some (v.Bool flag)
from_flag_to p flag = None

abbrev pub number_cast : Primitive → Primitive → Value → Option Value
number_cast prim.Boolean to (v.Bool flag) = from_flag_to to flag
number_cast prim.Byte to (v.Byte a) = from_byte_to to a
number_cast prim.Short to (v.Short a) = from_short_to to a
number_cast prim.Char to (v.Char unit) = from_char_to to unit
number_cast prim.Int to (v.Int a) = from_int_to to a
number_cast prim.Long to (v.Long a) = from_long_to to a
number_cast from to value = None

abbrev pub box_if : Primitive → Option Value → Option Value
box_if p None = None
box_if p (Some value) = in_box p value

abbrev pub gives_if : Option Value → Operated
gives_if None = Meaningless
gives_if (Some value) = Gives value

-- a char in its box, cast to a text
abbrev pub text_if : Option Value → Store → Operated
text_if None store = Meaningless
text_if (Some value) store = Acts (effect store (cast_at_run_time store.objects value (t.Class STRING) true))

-- What is taken out of a box of a primitive type, as a value of another one; an exception stays one. (Nothing is made where a number is
-- taken out of its box.)
abbrev pub unwrapped : Primitive → Primitive → Outcome → Store → Operated
unwrapped p q (outcome.Gives value) store = gives_if (number_cast p q value)
unwrapped p q (outcome.Throws raised message) store = Acts (effect store (outcome.Throws raised message))
unwrapped p q other store = Meaningless

-- A cast to a type. Those of primitives are known before the script runs, and give a value at once. A box is taken for one of its type as
-- in a cast that is not written, so that null throws; then its number goes on as one that was in no box.
abbrev pub casts : Cast → Ty → Value → Store → Operated
casts cast.Keep to value store = Gives value
casts (cast.Number p q) to value store = gives_if (number_cast p q value)
casts (cast.Wrap p q) to value store = gives_if (box_if q (number_cast p q value))
casts (cast.Unwrap p q) to value store = unwrapped p q (cast_at_run_time store.objects value (t.Prim p) false) store
casts cast.Implicit to value store = Acts (effect store (cast_at_run_time store.objects value to false))
casts cast.Explicit to value store = Acts (effect store (cast_at_run_time store.objects value to true))
casts cast.CharToText to value store = text_if (in_box prim.Char value) store
casts cast.TextToChar to value store = Acts (effect store (cast_at_run_time store.objects value (t.Prim prim.Char) true))
