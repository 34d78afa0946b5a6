-- The words of lines.
use Rattle.std.specs.Prelude.{ℕ, Bool, true, false, List, Option, codes}
use Rattle.std.specs.List.{find}
use Rattle.std.specs.Str.{bytes_eq}
use Rattle.pl_types.specs.declared.primitive.Primitive.{Primitive}
use Rattle.pl_types.specs.declared.primitive.Primitive.TheVariants as primitive
use Rattle.pl_code.specs.declared.kinds.Plain.{Plain}
use Rattle.pl_code.specs.declared.kinds.Plain.TheVariants as plain
use Rattle.pl_code.specs.declared.kinds.ArithmeticOp.{ArithmeticOp}
use Rattle.pl_code.specs.declared.kinds.ArithmeticOp.TheVariants as arithmetic
use Rattle.pl_code.specs.declared.kinds.DynamicOp.{DynamicOp}
use Rattle.pl_code.specs.declared.kinds.DynamicOp.TheVariants as dynamic
use Rattle.pl_code.specs.declared.kinds.Numbered.{Numbered}
use Rattle.pl_code.specs.declared.kinds.Numbered.TheVariants as numbered
use Rattle.pl_code.specs.declared.kinds.Quoting.{Quoting}
use Rattle.pl_code.specs.declared.kinds.Quoting.TheVariants as quoting
use Rattle.pl_code.specs.declared.kinds.Typed.{Typed}
use Rattle.pl_code.specs.declared.kinds.Typed.TheVariants as typed
use Rattle.pl_code.specs.declared.kinds.Sized.{Sized}
use Rattle.pl_code.specs.declared.kinds.Sized.TheVariants as sized
use Rattle.pl_code.specs.declared.kinds.Width.TheVariants as width
use Rattle.pl_code.specs.declared.kinds.Way.{Way}
use Rattle.pl_code.specs.declared.kinds.Way.TheVariants as way
use Rattle.pl_code.specs.declared.kinds.Slot.{Slot}
use Rattle.pl_code.specs.declared.kinds.Slot.TheVariants as slot
use Rattle.pl_code.specs.declared.head.Head.{Head}
use Rattle.pl_code.specs.declared.head.Head.TheVariants as head
use Rattle.pl_code.specs.declared.head.TheConstants.{HEADS}

abbrev pub plain_word : Plain → List ℕ
plain_word plain.Null = codes "null"
plain_word plain.Pop = codes "pop"
plain_word plain.Dup = codes "dup"
plain_word plain.Dup2 = codes "dup2"
plain_word plain.DupX1 = codes "dupx1"
plain_word plain.DupX2 = codes "dupx2"
plain_word plain.IntToLong = codes "i2j"
plain_word plain.LongToInt = codes "j2i"
plain_word plain.IntToByte = codes "i2b"
plain_word plain.IntToShort = codes "i2s"
plain_word plain.IntToChar = codes "i2c"
plain_word plain.Concat = codes "concat"
plain_word plain.Same = codes "same"
plain_word plain.Equal = codes "equal"
plain_word plain.ArrayLength = codes "alen"
plain_word plain.GetIndex = codes "getidx"
plain_word plain.PutIndex = codes "putidx"
plain_word plain.Iter = codes "iter"
plain_word plain.Has = codes "has"
plain_word plain.Next = codes "next"
plain_word plain.Throw = codes "throw"
plain_word plain.Ret = codes "ret"

abbrev pub int_word : ArithmeticOp → List ℕ
int_word arithmetic.Add = codes "add.i"
int_word arithmetic.Sub = codes "sub.i"
int_word arithmetic.Mul = codes "mul.i"
int_word arithmetic.Div = codes "div.i"
int_word arithmetic.Rem = codes "rem.i"
int_word arithmetic.And = codes "and.i"
int_word arithmetic.Or = codes "or.i"
int_word arithmetic.Xor = codes "xor.i"
int_word arithmetic.Neg = codes "neg.i"
int_word arithmetic.Not = codes "not.i"
int_word arithmetic.Shl = codes "shl.i"
int_word arithmetic.Shr = codes "shr.i"
int_word arithmetic.Ushr = codes "ushr.i"
int_word arithmetic.Lt = codes "lt.i"
int_word arithmetic.Le = codes "le.i"
int_word arithmetic.Gt = codes "gt.i"
int_word arithmetic.Ge = codes "ge.i"
int_word arithmetic.Eq = codes "eq.i"
int_word arithmetic.Ne = codes "ne.i"

abbrev pub long_word : ArithmeticOp → List ℕ
long_word arithmetic.Add = codes "add.j"
long_word arithmetic.Sub = codes "sub.j"
long_word arithmetic.Mul = codes "mul.j"
long_word arithmetic.Div = codes "div.j"
long_word arithmetic.Rem = codes "rem.j"
long_word arithmetic.And = codes "and.j"
long_word arithmetic.Or = codes "or.j"
long_word arithmetic.Xor = codes "xor.j"
long_word arithmetic.Neg = codes "neg.j"
long_word arithmetic.Not = codes "not.j"
long_word arithmetic.Shl = codes "shl.j"
long_word arithmetic.Shr = codes "shr.j"
long_word arithmetic.Ushr = codes "ushr.j"
long_word arithmetic.Lt = codes "lt.j"
long_word arithmetic.Le = codes "le.j"
long_word arithmetic.Gt = codes "gt.j"
long_word arithmetic.Ge = codes "ge.j"
long_word arithmetic.Eq = codes "eq.j"
long_word arithmetic.Ne = codes "ne.j"

abbrev pub dynamic_word : DynamicOp → List ℕ
dynamic_word dynamic.Add = codes "def.add"
dynamic_word dynamic.Sub = codes "def.sub"
dynamic_word dynamic.Mul = codes "def.mul"
dynamic_word dynamic.Div = codes "def.div"
dynamic_word dynamic.Rem = codes "def.rem"
dynamic_word dynamic.And = codes "def.and"
dynamic_word dynamic.Or = codes "def.or"
dynamic_word dynamic.Xor = codes "def.xor"
dynamic_word dynamic.Neg = codes "def.neg"
dynamic_word dynamic.Not = codes "def.not"
dynamic_word dynamic.Pos = codes "def.pos"
dynamic_word dynamic.Shl = codes "def.shl"
dynamic_word dynamic.Shr = codes "def.shr"
dynamic_word dynamic.Ushr = codes "def.ushr"
dynamic_word dynamic.Lt = codes "def.lt"
dynamic_word dynamic.Le = codes "def.le"
dynamic_word dynamic.Gt = codes "def.gt"
dynamic_word dynamic.Ge = codes "def.ge"

abbrev pub quoting_word : Quoting → List ℕ
quoting_word quoting.Constant = codes "text"
quoting_word quoting.GetName = codes "getname"
quoting_word quoting.PutName = codes "putname"

abbrev pub numbered_word : Numbered → List ℕ
numbered_word numbered.Load = codes "load"
numbered_word numbered.Store = codes "store"
numbered_word numbered.Goto = codes "goto"
numbered_word numbered.IfZero = codes "ifz"
numbered_word numbered.IfNotZero = codes "ifnz"
numbered_word numbered.IfNull = codes "ifnull"
numbered_word numbered.Loop = codes "loop"
numbered_word numbered.List = codes "list"
numbered_word numbered.Map = codes "map"
numbered_word numbered.Call = codes "call"

abbrev pub typed_word : Typed → List ℕ
typed_word typed.IsA = codes "isa"
typed_word typed.LoadElement = codes "aload"
typed_word typed.StoreElement = codes "astore"

abbrev pub sized_word : Sized → List ℕ
sized_word sized.Filled = codes "array"
sized_word sized.Empty = codes "newarray"

-- the first word of a line
unfoldable pub head_word : Head → List ℕ
head_word (head.Plain plain) = plain_word plain
head_word (head.Arithmetic op width.Int) = int_word op
head_word (head.Arithmetic op width.Long) = long_word op
head_word (head.Dynamic op) = dynamic_word op
head_word (head.Quoted quoting) = quoting_word quoting
head_word (head.Numbered numbered) = numbered_word numbered
head_word (head.Typed typed) = typed_word typed
head_word (head.Sized sized) = sized_word sized
head_word head.Int = codes "i"
head_word head.Long = codes "j"
head_word head.Boxing = codes "box"
head_word head.Unboxing = codes "unbox"
head_word head.Cast = codes "cast"
head_word head.DefCall = codes "defcall"
head_word head.Invoke = codes "invoke"
head_word head.New = codes "new"
head_word head.Field = codes "field"
head_word head.Lambda = codes "lambda"
head_word head.Ref = codes "ref"
head_word head.NewRef = codes "newref"
head_word head.Fun = codes "fun"
head_word head.Trap = codes "trap"
head_word head.End = codes "end"

-- the head with this word
unfoldable pub head_of : List ℕ → Option Head
head_of s = find (λ h. bytes_eq (head_word h) s) HEADS

-- The other words.

abbrev pub way_word : Way → List ℕ
way_word way.Implicit = codes "imp"
way_word way.Explicit = codes "exp"

abbrev pub primitive_word : Primitive → List ℕ
primitive_word primitive.Boolean = codes "boolean"
primitive_word primitive.Byte = codes "byte"
primitive_word primitive.Short = codes "short"
primitive_word primitive.Char = codes "char"
primitive_word primitive.Int = codes "int"
primitive_word primitive.Long = codes "long"

abbrev pub slot_letter : Slot → ℕ
slot_letter slot.I = 73
slot_letter slot.J = 74
slot_letter slot.R = 82

abbrev pub loop_word : Bool → List ℕ
loop_word true = codes "loop"
loop_word false = codes "free"
