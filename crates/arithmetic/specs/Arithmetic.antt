-- The arithmetic of the types `int`, of 32 bits, and `long`, of 64, as the Java Language Specification gives it (sections 4.2.2, 5.1,
-- 15.15, 15.17 to 15.20 and 15.22). A value is a ℤ, and the width says how many bits the type has. Nothing overflows with an error:
-- what is out of range wraps around.
use Rattle.std.specs.Prelude.{ℕ, zero, suc, ◌/◌, ◌%◌, ◌^◌, Option, Some, None, ℤ, pos, negsuc, ◌+ℤ◌, ◌-ℤ◌, ◌*ℤ◌, neg_ℤ, int_div, int_rem, unsigned_abs}
use Rattle.std.specs.Int.{Width, w32, int_wrap, int_bit_and, int_bit_or, int_bit_xor, int_bit_not, int_shl, int_shr, int_rem_euclid, cast_signed, cast_unsigned}
use mir.Val.{bits}

-- the one number of so many bits that differs from z by a multiple of 2 to the number of bits
abbrev pub wrapped : Width → ℤ → ℤ
wrapped w z = int_wrap w z

abbrev pub sum_of : Width → ℤ → ℤ → ℤ
sum_of w a b = wrapped w (a +ℤ b)

abbrev pub difference_of : Width → ℤ → ℤ → ℤ
difference_of w a b = wrapped w (a -ℤ b)

abbrev pub product_of : Width → ℤ → ℤ → ℤ
product_of w a b = wrapped w (a *ℤ b)

abbrev pub negation_of : Width → ℤ → ℤ
negation_of w a = wrapped w (neg_ℤ a)

-- The quotient of two numbers, cut towards zero. Only the least number by -1 is out of range, and wraps to itself. None for a zero
-- divisor.
abbrev pub quotient_of : Width → ℤ → ℤ → Option ℤ
quotient_of w a (pos zero) = None
quotient_of w a (pos (suc d)) = Some (wrapped w (int_div a (pos (suc d))))
quotient_of w a (negsuc d) = Some (wrapped w (int_div a (negsuc d)))

-- What the quotient cut towards zero leaves, with the sign of the dividend. None for a zero divisor.
abbrev pub remainder_of : ℤ → ℤ → Option ℤ
remainder_of a (pos zero) = None
remainder_of a (pos (suc d)) = Some (int_rem a (pos (suc d)))
remainder_of a (negsuc d) = Some (int_rem a (negsuc d))

-- bit by bit of the two's complement
abbrev pub and_of : Width → ℤ → ℤ → ℤ
and_of = int_bit_and

abbrev pub or_of : Width → ℤ → ℤ → ℤ
or_of = int_bit_or

abbrev pub xor_of : Width → ℤ → ℤ → ℤ
xor_of = int_bit_xor

abbrev pub complement_of : Width → ℤ → ℤ
complement_of = int_bit_not

-- how far a shift goes: the low 5 bits of an int for an int, and the low 6 for a long
abbrev pub distance_of : Width → ℤ → ℕ
distance_of w by = cast_unsigned w32 by % bits w

abbrev pub left_shift_of : Width → ℤ → ℤ → ℤ
left_shift_of w a by = int_shl w a (distance_of w by)

-- with copies of the sign
abbrev pub right_shift_of : Width → ℤ → ℤ → ℤ
right_shift_of w a by = int_shr a (distance_of w by)

-- with zeros
abbrev pub unsigned_shift_of : Width → ℤ → ℤ → ℤ
unsigned_shift_of w a by = cast_signed w (cast_unsigned w a / 2 ^ distance_of w by)

-- the number from 0 to 2^k - 1 that differs from z by a multiple of 2^k
abbrev pub low_bits : ℕ → ℤ → ℕ
low_bits k z = unsigned_abs (int_rem_euclid z (pos (2 ^ k)))
