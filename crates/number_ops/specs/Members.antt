-- What each member comes to, and their numbers.
use Rattle.std.specs.Prelude.{ℕ, Option, Some, None, List, [], ◌∷◌, slice_get}
use Rattle.pl_types.specs.declared.primitive.Primitive.TheVariants as prim
use Rattle.object_values.specs.declared.object.Object.{Object}
use Rattle.object_values.specs.declared.value.Value.{Value}
use Rattle.object_values.specs.declared.value.Value.TheVariants as v
use Rattle.number_ops.specs.declared.member.Member.{Member}
use Rattle.number_ops.specs.declared.member.Member.TheVariants as m
use Rattle.number_ops.specs.declared.numbers.Constant.TheVariants as constant
use Rattle.number_ops.specs.declared.numbers.OneInt.{OneInt}
use Rattle.number_ops.specs.declared.numbers.OneInt.TheVariants as int
use Rattle.number_ops.specs.declared.numbers.OneLong.{OneLong}
use Rattle.number_ops.specs.declared.numbers.OneLong.TheVariants as long
use Rattle.number_ops.specs.declared.numbers.Two.{Two}
use Rattle.number_ops.specs.declared.numbers.Two.TheVariants as two
use Rattle.number_ops.specs.declared.chars.OneChar.{OneChar}
use Rattle.number_ops.specs.declared.chars.OneChar.TheVariants as char
use Rattle.number_ops.specs.declared.outcome.Outcome.{Outcome}
use Rattle.number_ops.specs.declared.outcome.Outcome.TheVariants.{Gives}
use Rattle.number_ops.specs.Outcomes.{nothing, null_error}
use Rattle.member_arguments.specs.Arguments.{int_at, long_at, byte_at, char_at, flag_at}
use Rattle.number_ops.specs.Arguments.{with_one, with_two}
use Rattle.number_ops.specs.Operators.{number_in}
use Rattle.number_ops.specs.Casts.{number_as}
use Rattle.number_ops.specs.Numbers.{constant_of, of_int, of_long, of_ints, of_longs, unsigned_byte, parse_int_of, parse_long_of}
use Rattle.number_ops.specs.Chars.{of_char, parse_flag, flag_order}
use Rattle.number_ops.specs.Order.{compare, equals, to_text}
use Rattle.arithmetic.specs.declared.operator.Num.{Num}
use Rattle.pl_types.specs.declared.primitive.Primitive.{Primitive}

abbrev pub number_as_of : Primitive → Option Num → Outcome
number_as_of p None = null_error
number_as_of p (Some number) = Gives (number_as p number)

abbrev pub number_value : Primitive → Value → Outcome
number_value p value = number_as_of p (number_in value)

abbrev pub char_member : OneChar → ℕ → Outcome
char_member member unit = Gives (of_char member unit)

-- Each member with its arguments.
abbrev pub equals_of : List Object → List Value → Outcome
equals_of objects arguments = with_two (equals objects) (slice_get arguments 0) (slice_get arguments 1)

abbrev pub text_member : List Object → List Value → Outcome
text_member objects arguments = with_one (to_text objects) (slice_get arguments 0)

abbrev pub compare_of : List Object → List Value → Outcome
compare_of objects arguments = with_two (compare objects) (slice_get arguments 0) (slice_get arguments 1)

abbrev pub number_of : Primitive → List Value → Outcome
number_of p arguments = with_one (number_value p) (slice_get arguments 0)

abbrev pub byte_member : List Value → Outcome
byte_member arguments = with_one unsigned_byte (byte_at arguments 0)

abbrev pub int_member : OneInt → List Value → Outcome
int_member member arguments = with_one (of_int member) (int_at arguments 0)

abbrev pub ints_member : Two → List Value → Outcome
ints_member member arguments = with_two (of_ints member) (int_at arguments 0) (int_at arguments 1)

abbrev pub long_member : OneLong → List Value → Outcome
long_member member arguments = with_one (of_long member) (long_at arguments 0)

abbrev pub longs_member : Two → List Value → Outcome
longs_member member arguments = with_two (of_longs member) (long_at arguments 0) (long_at arguments 1)

abbrev pub parse_int_member : List Value → Outcome
parse_int_member arguments = with_one parse_int_of (slice_get arguments 0)

abbrev pub parse_long_member : List Value → Outcome
parse_long_member arguments = with_one parse_long_of (slice_get arguments 0)

abbrev pub chars_member : OneChar → List Value → Outcome
chars_member member arguments = with_one (char_member member) (char_at arguments 0)

abbrev pub flag_value : List Value → Outcome
flag_value arguments = with_one (λ flag. Gives (v.Bool flag)) (flag_at arguments 0)

abbrev pub flag_compare : List Value → Outcome
flag_compare arguments = with_two (λ a b. Gives (v.Int (flag_order a b))) (flag_at arguments 0) (flag_at arguments 1)

abbrev pub parse_flag_member : List Value → Outcome
parse_flag_member arguments = with_one (λ value. Gives (v.Bool (parse_flag value))) (slice_get arguments 0)

-- what a member comes to
abbrev pub does : List Object → Member → List Value → Outcome
does objects m.Equals arguments = equals_of objects arguments
does objects m.ToText arguments = text_member objects arguments
does objects m.CompareTo arguments = compare_of objects arguments
does objects (m.NumberAs p) arguments = number_of p arguments
does objects (m.Field field) arguments = Gives (constant_of field)
does objects m.UnsignedByte arguments = byte_member arguments
does objects (m.OfInt member) arguments = int_member member arguments
does objects (m.OfInts member) arguments = ints_member member arguments
does objects (m.OfLong member) arguments = long_member member arguments
does objects (m.OfLongs member) arguments = longs_member member arguments
does objects m.ParseInt arguments = parse_int_member arguments
does objects m.ParseLong arguments = parse_long_member arguments
does objects (m.OfChar member) arguments = chars_member member arguments
does objects m.BooleanValue arguments = flag_value arguments
does objects m.BooleanCompare arguments = flag_compare arguments
does objects m.ParseBoolean arguments = parse_flag_member arguments

-- the members in the order of their numbers in the catalogue, the first of which is 0; those of CharSequence, 3 and 4, are none of
-- these
unfoldable pub members : List (Option Member)
members =
    Some m.Equals ∷ Some m.ToText ∷ Some m.CompareTo ∷ None ∷ None
    ∷ Some (m.NumberAs prim.Byte) ∷ Some (m.NumberAs prim.Short) ∷ Some (m.NumberAs prim.Int) ∷ Some (m.NumberAs prim.Long)
    ∷ Some (m.Field constant.ByteMost) ∷ Some (m.Field constant.ByteLeast) ∷ Some m.UnsignedByte
    ∷ Some (m.Field constant.ShortMost) ∷ Some (m.Field constant.ShortLeast)
    ∷ Some (m.Field constant.IntMost) ∷ Some (m.Field constant.IntLeast)
    ∷ Some (m.OfInt int.BitCount) ∷ Some (m.OfInts two.Compare) ∷ Some (m.OfInts two.Max) ∷ Some (m.OfInts two.Min) ∷ Some m.ParseInt
    ∷ Some (m.OfInt int.Signum) ∷ Some (m.OfInt int.ToBinary) ∷ Some (m.OfInt int.ToHex) ∷ Some (m.OfInt int.ToText) ∷ Some (m.OfInt int.ValueOf)
    ∷ Some (m.Field constant.LongMost) ∷ Some (m.Field constant.LongLeast)
    ∷ Some (m.OfLong long.BitCount) ∷ Some (m.OfLongs two.Compare) ∷ Some (m.OfLongs two.Max) ∷ Some (m.OfLongs two.Min) ∷ Some m.ParseLong
    ∷ Some (m.OfLong long.Signum) ∷ Some (m.OfLong long.ToBinary) ∷ Some (m.OfLong long.ToHex) ∷ Some (m.OfLong long.ToText) ∷ Some (m.OfLong long.ValueOf)
    ∷ Some (m.Field constant.CharMost) ∷ Some (m.Field constant.CharLeast)
    ∷ Some (m.OfChar char.CharValue) ∷ Some (m.OfChar char.IsDigit) ∷ Some (m.OfChar char.IsLetter) ∷ Some (m.OfChar char.IsLetterOrDigit)
    ∷ Some (m.OfChar char.IsLowerCase) ∷ Some (m.OfChar char.IsUpperCase) ∷ Some (m.OfChar char.IsWhitespace)
    ∷ Some (m.OfChar char.ToLowerCase) ∷ Some (m.OfChar char.ToUpperCase)
    ∷ Some m.BooleanValue ∷ Some m.BooleanCompare ∷ Some m.ParseBoolean
    ∷ Some (m.OfLong long.Abs) ∷ Some (m.OfLongs two.FloorDiv) ∷ Some (m.OfLongs two.FloorMod) ∷ Some (m.OfLongs two.Max) ∷ Some (m.OfLongs two.Min)
    ∷ Some (m.OfLong long.ToIntExact)
    ∷ []

abbrev pub member_in : Option (Option Member) → Option Member
member_in None = None
member_in (Some member) = member

-- the member of a number, if it is one of these
unfoldable pub numbered : ℕ → Option Member
numbered number = member_in (slice_get members number)

abbrev pub does_found : List Object → Option Member → List Value → Outcome
does_found objects None arguments = nothing
does_found objects (Some member) arguments = does objects member arguments

-- what the member of a number comes to; any other number's is nothing
abbrev pub does_numbered : List Object → ℕ → List Value → Outcome
does_numbered objects number arguments = does_found objects (numbered number) arguments
