-- What lies on the operand stack and in locals: an I holds a boolean, byte, short, char or int, a J a long, and an R every other value.
use Rattle.std.specs.Prelude.{Bool, true, false, not, Option, Some, None, List, ◌∷◌, pos, ℤ, if◌then◌else◌}
use Rattle.std.specs.Int.{w8, w16, w32, w64}
use Rattle.std.specs.Ordering.{int_eq}
use Rattle.pl_types.specs.declared.primitive.Primitive.{Primitive}
use Rattle.pl_types.specs.declared.primitive.Primitive.TheVariants as prim
use Rattle.object_values.specs.declared.value.Value.{Value}
use Rattle.object_values.specs.declared.value.Value.TheVariants as v
use Rattle.arithmetic.specs.declared.operator.Op.{Op}
use Rattle.arithmetic.specs.declared.operator.Op.TheVariants as op
use Rattle.arithmetic.specs.declared.operator.Num.{Num}
use Rattle.arithmetic.specs.declared.operator.Num.TheVariants as n
use Rattle.arithmetic.specs.Arithmetic.{wrapped, low_bits}
use Rattle.arithmetic.specs.Operators.{of_type}
use Rattle.pl_code.specs.declared.kinds.ArithmeticOp.{ArithmeticOp}
use Rattle.pl_code.specs.declared.kinds.ArithmeticOp.TheVariants as code
use Rattle.pl_code.specs.declared.kinds.DynamicOp.{DynamicOp}
use Rattle.pl_code.specs.declared.kinds.DynamicOp.TheVariants as dynamic
use Rattle.pl_code.specs.declared.kinds.Width.{Width}
use Rattle.pl_code.specs.declared.kinds.Width.TheVariants as width
use Rattle.pl_code.specs.declared.kinds.Slot.{Slot}
use Rattle.pl_code.specs.declared.kinds.Slot.TheVariants as slot
use Rattle.code_meaning.specs.declared.word.Word.{Word}
use Rattle.code_meaning.specs.declared.word.Word.TheVariants.{I, J, R}

-- what locals begin with
abbrev pub start_of : Slot → Word
start_of slot.I = I (pos 0)
start_of slot.J = J (pos 0)
start_of slot.R = R v.Null

abbrev pub word_of : Num → Word
word_of (n.Int number) = I number
word_of (n.Long number) = J number

-- the operator of an instruction
abbrev pub op_of : ArithmeticOp → Op
op_of code.Add = op.Add
op_of code.Sub = op.Sub
op_of code.Mul = op.Mul
op_of code.Div = op.Div
op_of code.Rem = op.Rem
op_of code.And = op.And
op_of code.Or = op.Or
op_of code.Xor = op.Xor
op_of code.Neg = op.Neg
op_of code.Not = op.Not
op_of code.Shl = op.Shl
op_of code.Shr = op.Shr
op_of code.Ushr = op.Ushr
op_of code.Lt = op.Lt
op_of code.Le = op.Le
op_of code.Gt = op.Gt
op_of code.Ge = op.Ge
op_of code.Eq = op.Eq
op_of code.Ne = op.Ne

-- the operator of an instruction on values of any types
abbrev pub op_of_dynamic : DynamicOp → Op
op_of_dynamic dynamic.Add = op.Add
op_of_dynamic dynamic.Sub = op.Sub
op_of_dynamic dynamic.Mul = op.Mul
op_of_dynamic dynamic.Div = op.Div
op_of_dynamic dynamic.Rem = op.Rem
op_of_dynamic dynamic.And = op.And
op_of_dynamic dynamic.Or = op.Or
op_of_dynamic dynamic.Xor = op.Xor
op_of_dynamic dynamic.Neg = op.Neg
op_of_dynamic dynamic.Not = op.Not
op_of_dynamic dynamic.Pos = op.Pos
op_of_dynamic dynamic.Shl = op.Shl
op_of_dynamic dynamic.Shr = op.Shr
op_of_dynamic dynamic.Ushr = op.Ushr
op_of_dynamic dynamic.Lt = op.Lt
op_of_dynamic dynamic.Le = op.Le
op_of_dynamic dynamic.Gt = op.Gt
op_of_dynamic dynamic.Ge = op.Ge

-- A number, or none for a zero divisor, and the stack without the operands.
pub data Calculation : Type 0 where
  NoRow : Calculation
  Calculates : (given : Option Num) (stack : List Word) → Calculation

abbrev pub takes_one : ArithmeticOp → Bool
takes_one code.Neg = true
takes_one code.Not = true
takes_one o = false

abbrev pub is_shift : ArithmeticOp → Bool
is_shift code.Shl = true
is_shift code.Shr = true
is_shift code.Ushr = true
is_shift o = false

abbrev pub one_int : Op → List Word → Calculation
one_int o (I a ∷ stack) = Calculates (of_type n.Int w32 o a a) stack
one_int o stack = NoRow

abbrev pub two_ints : Op → List Word → Calculation
two_ints o (I b ∷ I a ∷ stack) = Calculates (of_type n.Int w32 o a b) stack
two_ints o stack = NoRow

abbrev pub ints_of : ArithmeticOp → List Word → Calculation
ints_of o stack = if takes_one o then one_int (op_of o) stack else two_ints (op_of o) stack

abbrev pub one_long : Op → List Word → Calculation
one_long o (J a ∷ stack) = Calculates (of_type n.Long w64 o a a) stack
one_long o stack = NoRow

-- the right operand of a shift is an int
abbrev pub long_and_int : Op → List Word → Calculation
long_and_int o (I b ∷ J a ∷ stack) = Calculates (of_type n.Long w64 o a b) stack
long_and_int o stack = NoRow

abbrev pub two_longs : Op → List Word → Calculation
two_longs o (J b ∷ J a ∷ stack) = Calculates (of_type n.Long w64 o a b) stack
two_longs o stack = NoRow

abbrev pub longs_of : ArithmeticOp → List Word → Calculation
longs_of o stack = if takes_one o then one_long (op_of o) stack else (if is_shift o then long_and_int (op_of o) stack else two_longs (op_of o) stack)

abbrev pub calculation : ArithmeticOp → Width → List Word → Calculation
calculation o width.Int stack = ints_of o stack
calculation o width.Long stack = longs_of o stack

-- ---- values and words

-- The value that a word stands for in a box of a primitive: of an int the low bits, and as a boolean whether it is not 0.
-- the value of a word that is of no primitive type
abbrev pub plain_value : Word → Value
plain_value (I a) = v.Int a
plain_value (J a) = v.Long a
plain_value (R value) = value

abbrev pub boxed_int : Primitive → ℤ → Option Value
boxed_int prim.Boolean a = Some (v.Bool (not (int_eq a (pos 0))))
boxed_int prim.Byte a = Some (v.Byte (wrapped w8 a))
boxed_int prim.Short a = Some (v.Short (wrapped w16 a))
boxed_int prim.Char a = Some (v.Char (low_bits 16 a))
boxed_int prim.Int a = Some (v.Int a)
boxed_int prim.Long a = None

abbrev pub boxed_long : Primitive → ℤ → Option Value
boxed_long prim.Long a = Some (v.Long a)
boxed_long p a = None

abbrev pub boxed : Primitive → Word → Option Value
boxed p (I a) = boxed_int p a
boxed p (J a) = boxed_long p a
boxed p (R value) = None

abbrev pub bit : Bool → ℤ
bit true = pos 1
bit false = pos 0

-- The word of a value that was taken out of a box.
abbrev pub unboxed : Value → Word
unboxed (v.Bool flag) = I (bit flag)
unboxed (v.Byte a) = I a
unboxed (v.Short a) = I a
unboxed (v.Char unit) = I (pos unit)
unboxed (v.Int a) = I a
unboxed (v.Long a) = J a
unboxed value = R value
