-- Casts of values whose types are found at run time.
use Rattle.std.specs.Prelude.{ℕ, ◌==◌, Bool, true, Option, Some, None, List, [], ◌∷◌, if◌then◌else◌}
use Rattle.std.specs.Int.{w8, w16}
use Rattle.pl_types.specs.declared.classes.TheConstants.{STRING}
use Rattle.pl_types.specs.declared.primitive.Primitive.{Primitive}
use Rattle.pl_types.specs.declared.primitive.Primitive.TheVariants as prim
use Rattle.pl_types.specs.declared.ty.Ty.{Ty, out-Ty}
use Rattle.pl_types.specs.declared.ty.Ty.TheOpen.{Ty-F}
use Rattle.pl_types.specs.Casts.{reaches, unboxed}
use Rattle.object_values.specs.declared.object.Object.{Object}
use Rattle.object_values.specs.declared.value.Value.{Value}
use Rattle.object_values.specs.declared.value.Value.TheVariants as v
use Rattle.object_heap.specs.Fits.{value_is_of, value_is_array, kinds}
use Rattle.arithmetic.specs.declared.operator.Num.{Num}
use Rattle.arithmetic.specs.Arithmetic.{wrapped, low_bits}
use Rattle.arithmetic.specs.Operators.{as_int, as_long}
use Rattle.number_ops.specs.declared.outcome.Outcome.{Outcome}
use Rattle.number_ops.specs.declared.outcome.Outcome.TheVariants.{Gives, Makes}
use Rattle.number_ops.specs.declared.casts.Casted.{Casted}
use Rattle.number_ops.specs.declared.casts.Casted.TheVariants.{Kept, To, Text, Refused}
use Rattle.number_ops.specs.Outcomes.{null_error}
use Rattle.number_ops.specs.Names.{cannot_cast}
use Rattle.number_ops.specs.Operators.{number_in, is_null}

-- the primitive type of what is in a box
abbrev pub primitive_in : Value → Option Primitive
primitive_in (v.Bool flag) = Some prim.Boolean
primitive_in (v.Byte number) = Some prim.Byte
primitive_in (v.Short number) = Some prim.Short
primitive_in (v.Char unit) = Some prim.Char
primitive_in (v.Int number) = Some prim.Int
primitive_in (v.Long number) = Some prim.Long
primitive_in value = None

-- a number as a primitive's: it keeps the low bits
abbrev pub number_as : Primitive → Num → Value
number_as prim.Boolean number = v.Null
number_as prim.Byte number = v.Byte (wrapped w8 (as_int number))
number_as prim.Short number = v.Short (wrapped w16 (as_int number))
number_as prim.Char number = v.Char (low_bits 16 (as_int number))
number_as prim.Int number = v.Int (as_int number)
number_as prim.Long number = v.Long (as_long number)

-- what is in a box as a primitive's: a truth value stays
abbrev pub converted : Primitive → Option Num → Casted
converted p None = Kept
converted p (Some number) = To (number_as p number)

-- a text of one unit as a char
abbrev pub only_unit : List ℕ → Option ℕ
only_unit [] = None
only_unit (unit ∷ []) = Some unit
only_unit (unit ∷ next ∷ rest) = None

abbrev pub text_to_char : Primitive → Bool → Value → Option ℕ
text_to_char prim.Char true (v.Str text) = only_unit text
text_to_char p explicit value = None

abbrev pub char_given : Option ℕ → Casted
char_given None = Refused
char_given (Some unit) = To (v.Char unit)

-- To a primitive goes a box of its type, or of one that widens to it; in a cast that is written also any box of a number to a number,
-- which keeps the low bits, and to char a text of one unit
abbrev pub from_box : Primitive → Bool → Value → Option Primitive → Casted
from_box p explicit value None = char_given (text_to_char p explicit value)
from_box p explicit value (Some from) = if reaches from p explicit then converted p (number_in value) else Refused

abbrev pub to_primitive : Primitive → Bool → Value → Casted
to_primitive p explicit value = from_box p explicit value (primitive_in value)

-- a char as a text, in a cast that is written
abbrev pub char_to_text : Bool → Value → Option ℕ
char_to_text true (v.Char unit) = Some unit
char_to_text explicit value = None

abbrev pub text_given : Option ℕ → Casted
text_given None = Refused
text_given (Some unit) = Text unit

abbrev pub kept_if : Bool → Casted
kept_if is = if is then Kept else Refused

-- to a class goes a value of it; to String also a char, in a cast that is written
abbrev pub to_other_class : List Object → ℕ → Bool → Value → Casted
to_other_class objects class explicit value =
    if value_is_of (kinds objects) class value then Kept
    else (if class == STRING then text_given (char_to_text explicit value) else Refused)

-- to a box's class goes what goes to its primitive
abbrev pub to_class_of : List Object → ℕ → Bool → Value → Option Primitive → Casted
to_class_of objects class explicit value None = to_other_class objects class explicit value
to_class_of objects class explicit value (Some p) = to_primitive p explicit value

abbrev pub to_class : List Object → ℕ → Bool → Value → Casted
to_class objects class explicit value = to_class_of objects class explicit value (unboxed class)

-- To a type, by its outermost layer. Nothing goes to void and to the type of null
abbrev pub to_layer : List Object → Ty-F Ty → Bool → Value → Casted
to_layer objects Ty-F.Void explicit value = Refused
to_layer objects Ty-F.Null explicit value = Refused
to_layer objects Ty-F.Def explicit value = Kept
to_layer objects (Ty-F.Prim p) explicit value = to_primitive p explicit value
to_layer objects (Ty-F.Class class) explicit value = to_class objects class explicit value
to_layer objects (Ty-F.Array elem) explicit value = kept_if (value_is_array (kinds objects) elem value)

abbrev pub kept : Value → Outcome
kept value = Gives value

abbrev pub text_of_unit : ℕ → Outcome
text_of_unit unit = Makes (unit ∷ [])

abbrev pub given : List Object → Value → Ty → Casted → Outcome
given objects value to Kept = kept value
given objects value to (To made) = Gives made
given objects value to (Text unit) = text_of_unit unit
given objects value to Refused = cannot_cast objects value to

-- null goes to no primitive, and to everything else
abbrev pub of_null : Ty-F Ty → Outcome
of_null (Ty-F.Prim p) = null_error
of_null layer = Gives v.Null

-- what a cast to a type comes to, written in the script or not
abbrev pub cast_at_run_time : List Object → Value → Ty → Bool → Outcome
cast_at_run_time objects value to explicit =
    if is_null value then of_null (out-Ty to) else given objects value to (to_layer objects (out-Ty to) explicit value)
