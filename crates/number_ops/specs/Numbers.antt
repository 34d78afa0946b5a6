-- The members of numbers and of Math.
use Rattle.std.specs.Prelude.{ℕ, ◌&&◌, Bool, false, not, Option, Some, None, codes, count_ones, ℤ, pos, negsuc, int_lt, int_le, if◌then◌else◌}
use Rattle.std.specs.Fmt.{digits, signed_decimal}
use Rattle.std.specs.Int.{w8, w32, w64, cast_unsigned}
use Rattle.std.specs.Ordering.{int_eq}
use Rattle.pl_units.specs.Utf16.{units}
use Rattle.pl_units.specs.WholeNumber.{int_of, long_of}
use Rattle.object_values.specs.declared.value.Value.{Value}
use Rattle.object_values.specs.declared.value.Value.TheVariants as v
use Rattle.arithmetic.specs.Arithmetic.{sum_of, difference_of, negation_of, quotient_of, remainder_of}
use Rattle.number_ops.specs.declared.numbers.Constant.{Constant}
use Rattle.number_ops.specs.declared.numbers.Constant.TheVariants as constant
use Rattle.number_ops.specs.declared.numbers.OneInt.{OneInt}
use Rattle.number_ops.specs.declared.numbers.OneInt.TheVariants as int
use Rattle.number_ops.specs.declared.numbers.OneLong.{OneLong}
use Rattle.number_ops.specs.declared.numbers.OneLong.TheVariants as long
use Rattle.number_ops.specs.declared.numbers.Two.{Two}
use Rattle.number_ops.specs.declared.numbers.Two.TheVariants as two
use Rattle.number_ops.specs.declared.outcome.Raised.TheVariants.{Arithmetic, NumberFormat}
use Rattle.number_ops.specs.declared.outcome.Outcome.{Outcome}
use Rattle.number_ops.specs.declared.outcome.Outcome.TheVariants.{Gives, Makes}
use Rattle.number_ops.specs.Outcomes.{says, zero_divisor}

-- the fields
abbrev pub constant_of : Constant → Value
constant_of constant.ByteMost = v.Byte (pos 127)
constant_of constant.ByteLeast = v.Byte (negsuc 127)
constant_of constant.ShortMost = v.Short (pos 32767)
constant_of constant.ShortLeast = v.Short (negsuc 32767)
constant_of constant.IntMost = v.Int (pos 2147483647)
constant_of constant.IntLeast = v.Int (negsuc 2147483647)
constant_of constant.LongMost = v.Long (pos 9223372036854775807)
constant_of constant.LongLeast = v.Long (negsuc 9223372036854775807)
constant_of constant.CharMost = v.Char 65535
constant_of constant.CharLeast = v.Char 0

-- -1, 0 or 1, as the first is less than the second, equal to it, or greater
abbrev pub comparison : ℤ → ℤ → ℤ
comparison a b = if int_lt a b then negsuc 0 else (if int_lt b a then pos 1 else pos 0)

abbrev pub greater : ℤ → ℤ → ℤ
greater a b = if int_lt a b then b else a

abbrev pub less : ℤ → ℤ → ℤ
less a b = if int_lt b a then b else a

abbrev pub count : ℕ → Outcome
count n = Gives (v.Int (pos n))

-- -1, 0 or 1, as a number is below 0, 0 or above
abbrev pub sign : ℤ → Outcome
sign a = if int_lt a (pos 0) then Gives (v.Int (negsuc 0)) else (if int_eq a (pos 0) then Gives (v.Int (pos 0)) else Gives (v.Int (pos 1)))

-- of one int: the bits that are set, the sign, the bits in base 2 and 16, the decimal text, and the number itself
abbrev pub of_int : OneInt → ℤ → Outcome
of_int int.BitCount a = count (count_ones (cast_unsigned w32 a))
of_int int.Signum a = sign a
of_int int.ToBinary a = Makes (units (digits 2 false (cast_unsigned w32 a)))
of_int int.ToHex a = Makes (units (digits 16 false (cast_unsigned w32 a)))
of_int int.ToText a = Makes (signed_decimal a)
of_int int.ValueOf a = Gives (v.Int a)

-- the same of one long, and besides its absolute value, which wraps, and the same number as an int
abbrev pub exact_int : ℤ → Outcome
exact_int a = if int_le (negsuc 2147483647) a && int_le a (pos 2147483647) then Gives (v.Int a) else says Arithmetic (codes "integer overflow")

abbrev pub absolute : ℤ → ℤ
absolute a = if int_lt a (pos 0) then negation_of w64 a else a

abbrev pub of_long : OneLong → ℤ → Outcome
of_long long.BitCount a = count (count_ones (cast_unsigned w64 a))
of_long long.Signum a = sign a
of_long long.ToBinary a = Makes (units (digits 2 false (cast_unsigned w64 a)))
of_long long.ToHex a = Makes (units (digits 16 false (cast_unsigned w64 a)))
of_long long.ToText a = Makes (signed_decimal a)
of_long long.ValueOf a = Gives (v.Long a)
of_long long.Abs a = Gives (v.Long (absolute a))
of_long long.ToIntExact a = exact_int a

-- whether a remainder has another sign than the divisor, so that the quotient that was cut towards zero is above the one that
-- is cut towards the negative
abbrev pub turns : ℤ → ℤ → Bool
turns rest b = if int_eq rest (pos 0) then false else (if int_lt rest (pos 0) then not (int_lt b (pos 0)) else int_lt b (pos 0))

-- the quotient that is cut towards the negative, and what it leaves, which has the sign of the divisor
abbrev pub floored : ℤ → Option ℤ → Option ℤ → Outcome
floored b (Some quotient) (Some rest) = Gives (v.Long (if turns rest b then difference_of w64 quotient (pos 1) else quotient))
floored b quotient rest = zero_divisor

abbrev pub floor_rest : ℤ → Option ℤ → Outcome
floor_rest b None = zero_divisor
floor_rest b (Some rest) = Gives (v.Long (if turns rest b then sum_of w64 rest b else rest))

abbrev pub of_ints : Two → ℤ → ℤ → Outcome
of_ints two.Compare a b = Gives (v.Int (comparison a b))
of_ints two.Max a b = Gives (v.Int (greater a b))
of_ints two.Min a b = Gives (v.Int (less a b))
of_ints two.FloorDiv a b = Gives v.Null
of_ints two.FloorMod a b = Gives v.Null

abbrev pub of_longs : Two → ℤ → ℤ → Outcome
of_longs two.Compare a b = Gives (v.Int (comparison a b))
of_longs two.Max a b = Gives (v.Long (greater a b))
of_longs two.Min a b = Gives (v.Long (less a b))
of_longs two.FloorDiv a b = floored b (quotient_of w64 a b) (remainder_of a b)
of_longs two.FloorMod a b = floor_rest b (remainder_of a b)

-- the number from 0 to 255 with the bits of a byte
abbrev pub unsigned_byte : ℤ → Outcome
unsigned_byte a = Gives (v.Int (pos (cast_unsigned w8 a)))

-- the number that a text writes
abbrev pub not_a_number : Outcome
not_a_number = says NumberFormat (codes "not a number")

abbrev pub int_parsed : Option ℤ → Outcome
int_parsed None = not_a_number
int_parsed (Some number) = Gives (v.Int number)

abbrev pub long_parsed : Option ℤ → Outcome
long_parsed None = not_a_number
long_parsed (Some number) = Gives (v.Long number)

abbrev pub parse_int_of : Value → Outcome
parse_int_of (v.Str text) = int_parsed (int_of text)
parse_int_of value = not_a_number

abbrev pub parse_long_of : Value → Outcome
parse_long_of (v.Str text) = long_parsed (long_of text)
parse_long_of value = not_a_number
