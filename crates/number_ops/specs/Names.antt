-- The names of values' classes and of operators, as messages have them, and the messages.
use Rattle.std.specs.Prelude.{ℕ, Option, Some, None, List, [], ◌++◌, codes, slice_get}
use Rattle.pl_types.specs.Classes.{short_name}
use Rattle.pl_types.specs.Texts.{short_text}
use Rattle.pl_types.specs.declared.classes.TheConstants.{BYTE, SHORT, INTEGER, LONG, CHARACTER, BOOLEAN, STRING}
use Rattle.pl_types.specs.declared.ty.Ty.{Ty}
use Rattle.object_values.specs.declared.object.Object.{Object}
use Rattle.object_values.specs.declared.value.Value.{Value}
use Rattle.object_values.specs.declared.value.Value.TheVariants as v
use Rattle.object_heap.specs.Fits.{class_of_kind}
use Rattle.object_heap.specs.Objects.{Kind, AnArray, kind_of}
use Rattle.object_heap.specs.Parts.{asked}
use Rattle.arithmetic.specs.declared.operator.Op.{Op}
use Rattle.arithmetic.specs.declared.operator.Op.TheVariants as op
use Rattle.number_ops.specs.declared.outcome.Raised.TheVariants.{ClassCast}
use Rattle.number_ops.specs.declared.outcome.Outcome.{Outcome}
use Rattle.number_ops.specs.Outcomes.{says}

-- the short name of a class; where there is none it is a function value's without an interface
abbrev pub name_of_class : Option ℕ → List ℕ
name_of_class None = codes "lambda"
name_of_class (Some class) = short_name class

-- of an array it is the type
abbrev pub array_name : Ty → List ℕ
array_name elem = short_text elem ++ codes "[]"

abbrev pub name_of_kind : Kind → List ℕ
name_of_kind (AnArray elem) = array_name elem
name_of_kind kind = name_of_class (class_of_kind kind)

abbrev pub name_of_object : Object → List ℕ
name_of_object object = name_of_kind (kind_of object)

abbrev pub name_of : List Object → Value → List ℕ
name_of objects v.Null = codes "null"
name_of objects (v.Bool flag) = short_name BOOLEAN
name_of objects (v.Byte number) = short_name BYTE
name_of objects (v.Short number) = short_name SHORT
name_of objects (v.Char unit) = short_name CHARACTER
name_of objects (v.Int number) = short_name INTEGER
name_of objects (v.Long number) = short_name LONG
name_of objects (v.Str text) = short_name STRING
name_of objects (v.Ref id) = asked name_of_object [] (slice_get objects id)

abbrev pub sign_of : Op → List ℕ
sign_of op.Add = codes "+"
sign_of op.Sub = codes "-"
sign_of op.Mul = codes "*"
sign_of op.Div = codes "/"
sign_of op.Rem = codes "%"
sign_of op.And = codes "&"
sign_of op.Or = codes "|"
sign_of op.Xor = codes "^"
sign_of op.Shl = codes "<<"
sign_of op.Shr = codes ">>"
sign_of op.Ushr = codes ">>>"
sign_of op.Neg = codes "-"
sign_of op.Not = codes "~"
sign_of op.Pos = codes "+"
sign_of op.Lt = codes "<"
sign_of op.Le = codes "<="
sign_of op.Gt = codes ">"
sign_of op.Ge = codes ">="
sign_of op.Eq = codes "=="
sign_of op.Ne = codes "!="

-- a value that does not go to a type
abbrev pub cast_message : List Object → Value → Ty → List ℕ
cast_message objects value to = codes "Cannot cast from [" ++ name_of objects value ++ codes "] to [" ++ short_text to ++ codes "]"

abbrev pub cannot_cast : List Object → Value → Ty → Outcome
cannot_cast objects value to = says ClassCast (cast_message objects value to)

-- operands that an operator does not take
abbrev pub one_message : List Object → Op → Value → List ℕ
one_message objects o a = codes "Cannot apply [" ++ sign_of o ++ codes "] to [" ++ name_of objects a ++ codes "]"

abbrev pub cannot_apply_to_one : List Object → Op → Value → Outcome
cannot_apply_to_one objects o a = says ClassCast (one_message objects o a)

abbrev pub apply_message : List Object → Op → Value → Value → List ℕ
apply_message objects o a b = one_message objects o a ++ codes " and [" ++ name_of objects b ++ codes "]"

abbrev pub cannot_apply : List Object → Op → Value → Value → Outcome
cannot_apply objects o a b = says ClassCast (apply_message objects o a b)

-- values that natural order does not compare
abbrev pub compare_message : List Object → Value → Value → List ℕ
compare_message objects a b = codes "Cannot compare [" ++ name_of objects a ++ codes "] and [" ++ name_of objects b ++ codes "]"

abbrev pub cannot_compare : List Object → Value → Value → Outcome
cannot_compare objects a b = says ClassCast (compare_message objects a b)
