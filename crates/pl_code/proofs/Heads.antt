-- Each head is found by its word.
use Rattle.std.proofs.Common.{◌≡◌, Some, refl}
use Rattle.pl_code.specs.declared.head.Head.{Head}
use Rattle.pl_code.specs.declared.head.Head.TheVariants as head
use Rattle.pl_code.specs.declared.kinds.Plain.{Plain}
use Rattle.pl_code.specs.declared.kinds.Plain.TheVariants as plain
use Rattle.pl_code.specs.declared.kinds.ArithmeticOp.{ArithmeticOp}
use Rattle.pl_code.specs.declared.kinds.ArithmeticOp.TheVariants as arithmetic
use Rattle.pl_code.specs.declared.kinds.DynamicOp.{DynamicOp}
use Rattle.pl_code.specs.declared.kinds.DynamicOp.TheVariants as dynamic
use Rattle.pl_code.specs.declared.kinds.Numbered.{Numbered}
use Rattle.pl_code.specs.declared.kinds.Numbered.TheVariants as numbered
use Rattle.pl_code.specs.declared.kinds.Quoting.{Quoting}
use Rattle.pl_code.specs.declared.kinds.Quoting.TheVariants as quoting
use Rattle.pl_code.specs.declared.kinds.Typed.{Typed}
use Rattle.pl_code.specs.declared.kinds.Typed.TheVariants as typed
use Rattle.pl_code.specs.declared.kinds.Sized.{Sized}
use Rattle.pl_code.specs.declared.kinds.Sized.TheVariants as sized
use Rattle.pl_code.specs.declared.kinds.Width.TheVariants as width
use Rattle.pl_code.specs.Words.{head_word, head_of}
use Rattle.listing_parts.proofs.Parts.{IsPlain}

plain_back : (k : Plain) → head_of (head_word (head.Plain k)) ≡ Some (head.Plain k)
unfolding head_word head_of
plain_back plain.Null = refl
plain_back plain.Pop = refl
plain_back plain.Dup = refl
plain_back plain.Dup2 = refl
plain_back plain.DupX1 = refl
plain_back plain.DupX2 = refl
plain_back plain.IntToLong = refl
plain_back plain.LongToInt = refl
plain_back plain.IntToByte = refl
plain_back plain.IntToShort = refl
plain_back plain.IntToChar = refl
plain_back plain.Concat = refl
plain_back plain.Same = refl
plain_back plain.Equal = refl
plain_back plain.ArrayLength = refl
plain_back plain.GetIndex = refl
plain_back plain.PutIndex = refl
plain_back plain.Iter = refl
plain_back plain.Has = refl
plain_back plain.Next = refl
plain_back plain.Throw = refl
plain_back plain.Ret = refl

int_back : (k : ArithmeticOp) → head_of (head_word (head.Arithmetic k width.Int)) ≡ Some (head.Arithmetic k width.Int)
unfolding head_word head_of
int_back arithmetic.Add = refl
int_back arithmetic.Sub = refl
int_back arithmetic.Mul = refl
int_back arithmetic.Div = refl
int_back arithmetic.Rem = refl
int_back arithmetic.And = refl
int_back arithmetic.Or = refl
int_back arithmetic.Xor = refl
int_back arithmetic.Neg = refl
int_back arithmetic.Not = refl
int_back arithmetic.Shl = refl
int_back arithmetic.Shr = refl
int_back arithmetic.Ushr = refl
int_back arithmetic.Lt = refl
int_back arithmetic.Le = refl
int_back arithmetic.Gt = refl
int_back arithmetic.Ge = refl
int_back arithmetic.Eq = refl
int_back arithmetic.Ne = refl

long_back : (k : ArithmeticOp) → head_of (head_word (head.Arithmetic k width.Long)) ≡ Some (head.Arithmetic k width.Long)
unfolding head_word head_of
long_back arithmetic.Add = refl
long_back arithmetic.Sub = refl
long_back arithmetic.Mul = refl
long_back arithmetic.Div = refl
long_back arithmetic.Rem = refl
long_back arithmetic.And = refl
long_back arithmetic.Or = refl
long_back arithmetic.Xor = refl
long_back arithmetic.Neg = refl
long_back arithmetic.Not = refl
long_back arithmetic.Shl = refl
long_back arithmetic.Shr = refl
long_back arithmetic.Ushr = refl
long_back arithmetic.Lt = refl
long_back arithmetic.Le = refl
long_back arithmetic.Gt = refl
long_back arithmetic.Ge = refl
long_back arithmetic.Eq = refl
long_back arithmetic.Ne = refl

dynamic_back : (k : DynamicOp) → head_of (head_word (head.Dynamic k)) ≡ Some (head.Dynamic k)
unfolding head_word head_of
dynamic_back dynamic.Add = refl
dynamic_back dynamic.Sub = refl
dynamic_back dynamic.Mul = refl
dynamic_back dynamic.Div = refl
dynamic_back dynamic.Rem = refl
dynamic_back dynamic.And = refl
dynamic_back dynamic.Or = refl
dynamic_back dynamic.Xor = refl
dynamic_back dynamic.Neg = refl
dynamic_back dynamic.Not = refl
dynamic_back dynamic.Pos = refl
dynamic_back dynamic.Shl = refl
dynamic_back dynamic.Shr = refl
dynamic_back dynamic.Ushr = refl
dynamic_back dynamic.Lt = refl
dynamic_back dynamic.Le = refl
dynamic_back dynamic.Gt = refl
dynamic_back dynamic.Ge = refl

quoting_back : (k : Quoting) → head_of (head_word (head.Quoted k)) ≡ Some (head.Quoted k)
unfolding head_word head_of
quoting_back quoting.Constant = refl
quoting_back quoting.GetName = refl
quoting_back quoting.PutName = refl

numbered_back : (k : Numbered) → head_of (head_word (head.Numbered k)) ≡ Some (head.Numbered k)
unfolding head_word head_of
numbered_back numbered.Load = refl
numbered_back numbered.Store = refl
numbered_back numbered.Goto = refl
numbered_back numbered.IfZero = refl
numbered_back numbered.IfNotZero = refl
numbered_back numbered.IfNull = refl
numbered_back numbered.Loop = refl
numbered_back numbered.List = refl
numbered_back numbered.Map = refl
numbered_back numbered.Call = refl

typed_back : (k : Typed) → head_of (head_word (head.Typed k)) ≡ Some (head.Typed k)
unfolding head_word head_of
typed_back typed.IsA = refl
typed_back typed.LoadElement = refl
typed_back typed.StoreElement = refl

sized_back : (k : Sized) → head_of (head_word (head.Sized k)) ≡ Some (head.Sized k)
unfolding head_word head_of
sized_back sized.Filled = refl
sized_back sized.Empty = refl

plain_plain : (k : Plain) → IsPlain (head_word (head.Plain k))
unfolding head_word head_of
plain_plain plain.Null = refl
plain_plain plain.Pop = refl
plain_plain plain.Dup = refl
plain_plain plain.Dup2 = refl
plain_plain plain.DupX1 = refl
plain_plain plain.DupX2 = refl
plain_plain plain.IntToLong = refl
plain_plain plain.LongToInt = refl
plain_plain plain.IntToByte = refl
plain_plain plain.IntToShort = refl
plain_plain plain.IntToChar = refl
plain_plain plain.Concat = refl
plain_plain plain.Same = refl
plain_plain plain.Equal = refl
plain_plain plain.ArrayLength = refl
plain_plain plain.GetIndex = refl
plain_plain plain.PutIndex = refl
plain_plain plain.Iter = refl
plain_plain plain.Has = refl
plain_plain plain.Next = refl
plain_plain plain.Throw = refl
plain_plain plain.Ret = refl

int_plain : (k : ArithmeticOp) → IsPlain (head_word (head.Arithmetic k width.Int))
unfolding head_word head_of
int_plain arithmetic.Add = refl
int_plain arithmetic.Sub = refl
int_plain arithmetic.Mul = refl
int_plain arithmetic.Div = refl
int_plain arithmetic.Rem = refl
int_plain arithmetic.And = refl
int_plain arithmetic.Or = refl
int_plain arithmetic.Xor = refl
int_plain arithmetic.Neg = refl
int_plain arithmetic.Not = refl
int_plain arithmetic.Shl = refl
int_plain arithmetic.Shr = refl
int_plain arithmetic.Ushr = refl
int_plain arithmetic.Lt = refl
int_plain arithmetic.Le = refl
int_plain arithmetic.Gt = refl
int_plain arithmetic.Ge = refl
int_plain arithmetic.Eq = refl
int_plain arithmetic.Ne = refl

long_plain : (k : ArithmeticOp) → IsPlain (head_word (head.Arithmetic k width.Long))
unfolding head_word head_of
long_plain arithmetic.Add = refl
long_plain arithmetic.Sub = refl
long_plain arithmetic.Mul = refl
long_plain arithmetic.Div = refl
long_plain arithmetic.Rem = refl
long_plain arithmetic.And = refl
long_plain arithmetic.Or = refl
long_plain arithmetic.Xor = refl
long_plain arithmetic.Neg = refl
long_plain arithmetic.Not = refl
long_plain arithmetic.Shl = refl
long_plain arithmetic.Shr = refl
long_plain arithmetic.Ushr = refl
long_plain arithmetic.Lt = refl
long_plain arithmetic.Le = refl
long_plain arithmetic.Gt = refl
long_plain arithmetic.Ge = refl
long_plain arithmetic.Eq = refl
long_plain arithmetic.Ne = refl

dynamic_plain : (k : DynamicOp) → IsPlain (head_word (head.Dynamic k))
unfolding head_word head_of
dynamic_plain dynamic.Add = refl
dynamic_plain dynamic.Sub = refl
dynamic_plain dynamic.Mul = refl
dynamic_plain dynamic.Div = refl
dynamic_plain dynamic.Rem = refl
dynamic_plain dynamic.And = refl
dynamic_plain dynamic.Or = refl
dynamic_plain dynamic.Xor = refl
dynamic_plain dynamic.Neg = refl
dynamic_plain dynamic.Not = refl
dynamic_plain dynamic.Pos = refl
dynamic_plain dynamic.Shl = refl
dynamic_plain dynamic.Shr = refl
dynamic_plain dynamic.Ushr = refl
dynamic_plain dynamic.Lt = refl
dynamic_plain dynamic.Le = refl
dynamic_plain dynamic.Gt = refl
dynamic_plain dynamic.Ge = refl

quoting_plain : (k : Quoting) → IsPlain (head_word (head.Quoted k))
unfolding head_word head_of
quoting_plain quoting.Constant = refl
quoting_plain quoting.GetName = refl
quoting_plain quoting.PutName = refl

numbered_plain : (k : Numbered) → IsPlain (head_word (head.Numbered k))
unfolding head_word head_of
numbered_plain numbered.Load = refl
numbered_plain numbered.Store = refl
numbered_plain numbered.Goto = refl
numbered_plain numbered.IfZero = refl
numbered_plain numbered.IfNotZero = refl
numbered_plain numbered.IfNull = refl
numbered_plain numbered.Loop = refl
numbered_plain numbered.List = refl
numbered_plain numbered.Map = refl
numbered_plain numbered.Call = refl

typed_plain : (k : Typed) → IsPlain (head_word (head.Typed k))
unfolding head_word head_of
typed_plain typed.IsA = refl
typed_plain typed.LoadElement = refl
typed_plain typed.StoreElement = refl

sized_plain : (k : Sized) → IsPlain (head_word (head.Sized k))
unfolding head_word head_of
sized_plain sized.Filled = refl
sized_plain sized.Empty = refl

pub head_back : (h : Head) → head_of (head_word h) ≡ Some h
unfolding head_word head_of
head_back (head.Plain k) = plain_back k
head_back (head.Arithmetic k width.Int) = int_back k
head_back (head.Arithmetic k width.Long) = long_back k
head_back (head.Dynamic k) = dynamic_back k
head_back (head.Quoted k) = quoting_back k
head_back (head.Numbered k) = numbered_back k
head_back (head.Typed k) = typed_back k
head_back (head.Sized k) = sized_back k
head_back head.Int = refl
head_back head.Long = refl
head_back head.Boxing = refl
head_back head.Unboxing = refl
head_back head.Cast = refl
head_back head.DefCall = refl
head_back head.Invoke = refl
head_back head.New = refl
head_back head.Field = refl
head_back head.Lambda = refl
head_back head.Ref = refl
head_back head.NewRef = refl
head_back head.Fun = refl
head_back head.Trap = refl
head_back head.End = refl

pub head_plain : (h : Head) → IsPlain (head_word h)
unfolding head_word head_of
head_plain (head.Plain k) = plain_plain k
head_plain (head.Arithmetic k width.Int) = int_plain k
head_plain (head.Arithmetic k width.Long) = long_plain k
head_plain (head.Dynamic k) = dynamic_plain k
head_plain (head.Quoted k) = quoting_plain k
head_plain (head.Numbered k) = numbered_plain k
head_plain (head.Typed k) = typed_plain k
head_plain (head.Sized k) = sized_plain k
head_plain head.Int = refl
head_plain head.Long = refl
head_plain head.Boxing = refl
head_plain head.Unboxing = refl
head_plain head.Cast = refl
head_plain head.DefCall = refl
head_plain head.Invoke = refl
head_plain head.New = refl
head_plain head.Field = refl
head_plain head.Lambda = refl
head_plain head.Ref = refl
head_plain head.NewRef = refl
head_plain head.Fun = refl
head_plain head.Trap = refl
head_plain head.End = refl
