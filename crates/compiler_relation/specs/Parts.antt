-- The instructions of what is strict: constants, texts, operators, casts.
use Rattle.std.specs.Prelude.{ℕ, zero, suc, ◌-◌, ◌/◌, List, [], ◌∷◌, ◌++◌, Option, Some, None, pos, if◌then◌else◌}
use Rattle.pl_types.specs.declared.primitive.Primitive.{Primitive}
use Rattle.pl_types.specs.declared.primitive.Primitive.TheVariants as prim
use Rattle.pl_types.specs.declared.ty.Ty.{Ty, out-Ty}
use Rattle.pl_types.specs.declared.ty.Ty.TheOpen.{Ty-F}
use Rattle.pl_types.specs.declared.conversion.Cast.{Cast}
use Rattle.pl_types.specs.declared.conversion.Cast.TheVariants as cast
use Rattle.arithmetic.specs.declared.operator.Op.{Op}
use Rattle.arithmetic.specs.declared.operator.Op.TheVariants as op
use Rattle.pl_code.specs.declared.kinds.ArithmeticOp.TheVariants as a
use Rattle.pl_code.specs.declared.kinds.DynamicOp.TheVariants as dynamic
use Rattle.pl_code.specs.declared.kinds.Width.{Width}
use Rattle.pl_code.specs.declared.kinds.Width.TheVariants as width
use Rattle.pl_code.specs.declared.kinds.Plain.TheVariants as plain
use Rattle.pl_code.specs.declared.kinds.Numbered.TheVariants as numbered
use Rattle.pl_code.specs.declared.code.Instruction.{Instruction}
use Rattle.pl_code.specs.declared.code.Instruction.TheVariants as i
use Rattle.typed_tree.specs.declared.operation.Constant.{Constant}
use Rattle.typed_tree.specs.declared.operation.Constant.TheVariants as constant
use Rattle.typed_tree.specs.declared.operation.Operator.{Operator}
use Rattle.typed_tree.specs.declared.operation.Operator.TheVariants as operator
use Rattle.typed_tree.specs.declared.operation.Operation.{Operation}
use Rattle.typed_tree.specs.declared.operation.Operation.TheVariants as operation
use Rattle.typed_tree.specs.declared.operation.Gives.{Gives}
use Rattle.typed_tree.specs.declared.operation.Gives.TheVariants as gives
use Rattle.number_ops.specs.Operators.{compares}
use Rattle.source_meaning.specs.Types.{element_of}
use Rattle.code_meaning.specs.Words.{bit}
use Rattle.pl_types.specs.declared.classes.TheConstants.{STRING}
use Rattle.pl_types.specs.declared.ty.Ty.TheVariants as t
use Rattle.pl_types.specs.Texts.{full_text}
use Rattle.pl_code.specs.declared.kinds.Quoting.TheVariants as quoting
use Rattle.pl_code.specs.declared.kinds.Typed.TheVariants as typed
use Rattle.pl_code.specs.declared.kinds.Sized.TheVariants as sized
use Rattle.pl_code.specs.declared.kinds.Way.{Way}
use Rattle.pl_code.specs.declared.kinds.Way.TheVariants as way
use Rattle.compiler_relation.specs.Representation.{Representation, Unboxed, Boxed, Absent, representation_of}

abbrev pub text_code : List ℕ → Instruction
text_code text = i.Quoted quoting.Constant text

abbrev pub constant_code : Constant → Instruction
constant_code constant.Null = i.Plain plain.Null
constant_code (constant.Boolean flag) = i.Int (bit flag)
constant_code (constant.Byte number) = i.Int number
constant_code (constant.Short number) = i.Int number
constant_code (constant.Char unit) = i.Int (pos unit)
constant_code (constant.Int number) = i.Int number
constant_code (constant.Long number) = i.Long number

-- what a variable begins with that is declared without a value, and what a function gives that ends without a return
abbrev pub default_of_primitive : Primitive → Instruction
default_of_primitive prim.Long = i.Long (pos 0)
default_of_primitive p = i.Int (pos 0)

abbrev pub default_code_layer : Ty-F Ty → List Instruction
default_code_layer Ty-F.Void = []
default_code_layer (Ty-F.Prim p) = default_of_primitive p ∷ []
default_code_layer layer = i.Plain plain.Null ∷ []

abbrev pub default_code : Ty → List Instruction
default_code of = default_code_layer (out-Ty of)

-- ---- operators

abbrev pub arithmetic_code : Op → Width → List Instruction
arithmetic_code op.Add w = i.Arithmetic a.Add w ∷ []
arithmetic_code op.Sub w = i.Arithmetic a.Sub w ∷ []
arithmetic_code op.Mul w = i.Arithmetic a.Mul w ∷ []
arithmetic_code op.Div w = i.Arithmetic a.Div w ∷ []
arithmetic_code op.Rem w = i.Arithmetic a.Rem w ∷ []
arithmetic_code op.And w = i.Arithmetic a.And w ∷ []
arithmetic_code op.Or w = i.Arithmetic a.Or w ∷ []
arithmetic_code op.Xor w = i.Arithmetic a.Xor w ∷ []
arithmetic_code op.Shl w = i.Arithmetic a.Shl w ∷ []
arithmetic_code op.Shr w = i.Arithmetic a.Shr w ∷ []
arithmetic_code op.Ushr w = i.Arithmetic a.Ushr w ∷ []
arithmetic_code op.Neg w = i.Arithmetic a.Neg w ∷ []
arithmetic_code op.Not w = i.Arithmetic a.Not w ∷ []
arithmetic_code op.Pos w = []
arithmetic_code op.Lt w = i.Arithmetic a.Lt w ∷ []
arithmetic_code op.Le w = i.Arithmetic a.Le w ∷ []
arithmetic_code op.Gt w = i.Arithmetic a.Gt w ∷ []
arithmetic_code op.Ge w = i.Arithmetic a.Ge w ∷ []
arithmetic_code op.Eq w = i.Arithmetic a.Eq w ∷ []
arithmetic_code op.Ne w = i.Arithmetic a.Ne w ∷ []

-- a boolean is negated by a comparison with 0
abbrev pub boolean_code : Op → List Instruction
boolean_code op.And = i.Arithmetic a.And width.Int ∷ []
boolean_code op.Or = i.Arithmetic a.Or width.Int ∷ []
boolean_code op.Xor = i.Arithmetic a.Xor width.Int ∷ []
boolean_code op.Eq = i.Arithmetic a.Eq width.Int ∷ []
boolean_code op.Ne = i.Arithmetic a.Ne width.Int ∷ []
boolean_code op.Not = i.Int (pos 0) ∷ i.Arithmetic a.Eq width.Int ∷ []
boolean_code o = []

-- a truth value, the other way round
abbrev pub turned_round : List Instruction
turned_round = i.Int (pos 0) ∷ i.Arithmetic a.Eq width.Int ∷ []

-- of values whose types are found when the script runs; `==` and `!=` of them are those of references
abbrev pub dynamic_code : Op → List Instruction
dynamic_code op.Add = i.Dynamic dynamic.Add ∷ []
dynamic_code op.Sub = i.Dynamic dynamic.Sub ∷ []
dynamic_code op.Mul = i.Dynamic dynamic.Mul ∷ []
dynamic_code op.Div = i.Dynamic dynamic.Div ∷ []
dynamic_code op.Rem = i.Dynamic dynamic.Rem ∷ []
dynamic_code op.And = i.Dynamic dynamic.And ∷ []
dynamic_code op.Or = i.Dynamic dynamic.Or ∷ []
dynamic_code op.Xor = i.Dynamic dynamic.Xor ∷ []
dynamic_code op.Shl = i.Dynamic dynamic.Shl ∷ []
dynamic_code op.Shr = i.Dynamic dynamic.Shr ∷ []
dynamic_code op.Ushr = i.Dynamic dynamic.Ushr ∷ []
dynamic_code op.Neg = i.Dynamic dynamic.Neg ∷ []
dynamic_code op.Not = i.Dynamic dynamic.Not ∷ []
dynamic_code op.Pos = i.Dynamic dynamic.Pos ∷ []
dynamic_code op.Lt = i.Dynamic dynamic.Lt ∷ []
dynamic_code op.Le = i.Dynamic dynamic.Le ∷ []
dynamic_code op.Gt = i.Dynamic dynamic.Gt ∷ []
dynamic_code op.Ge = i.Dynamic dynamic.Ge ∷ []
dynamic_code op.Eq = []
dynamic_code op.Ne = []

-- an operator whose node's type says nothing more
abbrev pub operator_code : Operator → List Instruction
operator_code (operator.Int o) = arithmetic_code o width.Int
operator_code (operator.Long o) = arithmetic_code o width.Long
operator_code (operator.Boolean o) = boolean_code o
operator_code (operator.Def o) = dynamic_code o
operator_code operator.Equal = i.Plain plain.Equal ∷ []
operator_code operator.NotEqual = i.Plain plain.Equal ∷ turned_round
operator_code operator.Same = i.Plain plain.Same ∷ []
operator_code operator.NotSame = i.Plain plain.Same ∷ turned_round
operator_code operator.Concat = i.Plain plain.Concat ∷ []
operator_code operator.Length = i.Plain plain.ArrayLength ∷ []
operator_code operator.Iterate = i.Plain plain.Iter ∷ []
operator_code operator.HasNext = i.Plain plain.Has ∷ []
operator_code operator.Next = i.Plain plain.Next ∷ []
operator_code other = []

-- An operator of a node of a type, with so many parts. A map has half as many entries as its node has parts.
abbrev pub typed_code : Operator → Ty → ℕ → List Instruction
typed_code operator.List of n = i.Numbered numbered.List n ∷ []
typed_code operator.Map of n = i.Numbered numbered.Map (n / 2) ∷ []
typed_code operator.NewArray of n = i.Sized sized.Empty (full_text of) n ∷ []
typed_code operator.ArrayOf of n = i.Sized sized.Filled (full_text (element_of of)) n ∷ []
typed_code operator.Element of n = i.Typed typed.LoadElement (full_text of) ∷ []
typed_code operator.PutElement of n = i.Typed typed.StoreElement (full_text of) ∷ []
typed_code other of n = operator_code other

-- how the operands of an operator are represented, and how what it gives is, where no type of a node tells
abbrev pub operator_takes : Operator → Representation
operator_takes (operator.Int o) = Unboxed
operator_takes (operator.Long o) = Unboxed
operator_takes (operator.Boolean o) = Unboxed
operator_takes operator.NewArray = Unboxed
operator_takes other = Boxed

abbrev pub dynamic_gives : Op → Representation
dynamic_gives o = if compares o then Unboxed else Boxed

abbrev pub operator_gives : Operator → Representation
operator_gives (operator.Def o) = dynamic_gives o
operator_gives operator.Concat = Boxed
operator_gives operator.List = Boxed
operator_gives operator.Map = Boxed
operator_gives operator.NewArray = Boxed
operator_gives operator.ArrayOf = Boxed
operator_gives operator.Iterate = Boxed
operator_gives operator.Next = Boxed
operator_gives other = Unboxed

-- ---- casts

abbrev pub from_int_code : Primitive → List Instruction
from_int_code prim.Byte = i.Plain plain.IntToByte ∷ []
from_int_code prim.Short = i.Plain plain.IntToShort ∷ []
from_int_code prim.Char = i.Plain plain.IntToChar ∷ []
from_int_code prim.Long = i.Plain plain.IntToLong ∷ []
from_int_code p = []

abbrev pub from_long_code : Primitive → List Instruction
from_long_code prim.Boolean = []
from_long_code prim.Long = []
from_long_code p = i.Plain plain.LongToInt ∷ from_int_code p

abbrev pub from_byte_code : Primitive → List Instruction
from_byte_code prim.Byte = []
from_byte_code prim.Short = []
from_byte_code p = from_int_code p

abbrev pub from_short_code : Primitive → List Instruction
from_short_code prim.Short = []
from_short_code p = from_int_code p

abbrev pub from_char_code : Primitive → List Instruction
from_char_code prim.Char = []
from_char_code p = from_int_code p

abbrev pub number_code : Primitive → Primitive → List Instruction
number_code prim.Boolean to = []
number_code prim.Byte to = from_byte_code to
number_code prim.Short to = from_short_code to
number_code prim.Char to = from_char_code to
number_code prim.Int to = from_int_code to
number_code prim.Long to = from_long_code to

-- a cast that is done when the script runs: to a primitive type the value is taken out of its box
abbrev pub run_time_code_layer : Ty-F Ty → Ty → Way → List Instruction
run_time_code_layer (Ty-F.Prim p) to way = i.Unboxing p way ∷ []
run_time_code_layer other to way = i.Cast (full_text to) way ∷ []

abbrev pub run_time_code : Ty → Way → List Instruction
run_time_code to way = run_time_code_layer (out-Ty to) to way

-- a cast to a type
abbrev pub cast_code : Cast → Ty → List Instruction
cast_code (cast.Number p q) to = number_code p q
cast_code (cast.Wrap p q) to = number_code p q ++ i.Boxing q ∷ []
cast_code (cast.Unwrap p q) to = i.Unboxing p way.Implicit ∷ number_code p q
cast_code cast.Implicit to = run_time_code to way.Implicit
cast_code cast.Explicit to = run_time_code to way.Explicit
cast_code cast.CharToText to = i.Boxing prim.Char ∷ i.Cast (full_text (t.Class STRING)) way.Explicit ∷ []
cast_code cast.TextToChar to = i.Unboxing prim.Char way.Explicit ∷ []
cast_code other to = []

-- how what a cast takes is represented, and how what it gives to a type is; one that keeps the value leaves it as it is represented
abbrev pub cast_takes : Cast → Representation → Representation
cast_takes (cast.Number _ _) representation = Unboxed
cast_takes (cast.Wrap _ _) representation = Unboxed
cast_takes cast.CharToText representation = Unboxed
cast_takes (cast.Unwrap _ _) representation = Boxed
cast_takes cast.Implicit representation = Boxed
cast_takes cast.Explicit representation = Boxed
cast_takes cast.TextToChar representation = Boxed
cast_takes other representation = representation

abbrev pub run_time_representation : Ty-F Ty → Representation
run_time_representation (Ty-F.Prim p) = Unboxed
run_time_representation other = Boxed

abbrev pub cast_gives : Cast → Ty → Representation → Representation
cast_gives (cast.Number _ _) to representation = Unboxed
cast_gives (cast.Wrap _ _) to representation = Boxed
cast_gives cast.CharToText to representation = Boxed
cast_gives (cast.Unwrap _ _) to representation = Unboxed
cast_gives cast.Implicit to representation = run_time_representation (out-Ty to)
cast_gives cast.Explicit to representation = run_time_representation (out-Ty to)
cast_gives cast.TextToChar to representation = Unboxed
cast_gives other to representation = representation

-- ---- strict operations

-- A call of so many parts, a receiver and its arguments. That of a member leaves null where the member gives nothing.
abbrev pub member_code : Operation → ℕ → List Instruction
member_code (operation.Instance m) n = i.Invoke m.text ∷ []
member_code (operation.Static m) n = i.Invoke m.text ∷ []
member_code (operation.Constructor m) n = i.New m.text ∷ []
member_code (operation.Field m) n = i.Field m.text ∷ []
member_code (operation.DefCall name) n = i.DefCall name (n - 1) ∷ []
member_code (operation.DefName name) n = i.Quoted quoting.GetName name ∷ []
member_code other n = []

-- .. which is dropped
abbrev pub without_null : Representation → List Instruction
without_null Absent = i.Plain plain.Pop ∷ []
without_null representation = []

-- an operation that gives a value of a type, of so many parts
abbrev pub operation_code : Operation → Ty → ℕ → List Instruction
operation_code (operation.Operator o) of n = typed_code o of n
operation_code (operation.Cast c) of n = cast_code c of
operation_code (operation.InstanceOf is) of n = i.Typed typed.IsA (full_text is) ∷ []
operation_code (operation.Function k) of n = i.Numbered numbered.Call k ∷ []
operation_code (operation.Instance m) of n = i.Invoke m.text ∷ without_null (representation_of of)
operation_code (operation.Static m) of n = i.Invoke m.text ∷ without_null (representation_of of)
operation_code (operation.Constructor m) of n = i.New m.text ∷ without_null (representation_of of)
operation_code (operation.Field m) of n = i.Field m.text ∷ without_null (representation_of of)
operation_code (operation.DefCall name) of n = i.DefCall name (n - 1) ∷ []
operation_code (operation.DefName name) of n = i.Quoted quoting.GetName name ∷ []
operation_code operation.DefIndex of n = i.Plain plain.GetIndex ∷ []
operation_code other of n = []

-- what reads a place of so many parts, if anything does
abbrev pub read_code : Option Operation → Ty → ℕ → List Instruction
read_code None of n = []
read_code (Some read) of n = operation_code read of n

-- what writes a value of a type at a place; what it gives is dropped
abbrev pub write_code : Operation → Ty → List Instruction
write_code (operation.Operator operator.PutElement) of = i.Typed typed.StoreElement (full_text of) ∷ []
write_code (operation.Instance m) of = i.Invoke m.text ∷ i.Plain plain.Pop ∷ []
write_code (operation.PutDefName name) of = i.Quoted quoting.PutName name ∷ []
write_code operation.PutDefIndex of = i.Plain plain.PutIndex ∷ []
write_code other of = []

-- a value that is dropped
abbrev pub pops : Representation → List Instruction
pops Absent = []
pops representation = i.Plain plain.Pop ∷ []

-- a copy of the value on the top, below so many parts of a place
abbrev pub kept_under : ℕ → List Instruction
kept_under zero = i.Plain plain.Dup ∷ []
kept_under (suc zero) = i.Plain plain.DupX1 ∷ []
kept_under (suc (suc n)) = i.Plain plain.DupX2 ∷ []

-- copies of the parts of a place
abbrev pub copies : ℕ → List Instruction
copies zero = []
copies (suc zero) = i.Plain plain.Dup ∷ []
copies (suc (suc n)) = i.Plain plain.Dup2 ∷ []

-- a value that is kept below a change of it, or behind it, and below so many parts of its place
abbrev pub kept_before : ℕ → Gives → List Instruction
kept_before n gives.Old = kept_under n
kept_before n gives.New = []

abbrev pub kept_behind : ℕ → Gives → List Instruction
kept_behind n gives.Old = []
kept_behind n gives.New = kept_under n
