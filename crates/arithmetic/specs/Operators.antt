-- What operators give of numbers: by the type that their operands have once they are promoted.
use Rattle.std.specs.Prelude.{◌≡◌, Bool, true, false, not, Option, Some, None, Result, Ok, Err, ℤ, pos, int_lt, int_le, if◌then◌else◌}
use Rattle.std.specs.Int.{Width, w32, w64}
use Rattle.std.specs.Ordering.{int_eq}
use Rattle.arithmetic.specs.Arithmetic.{wrapped, sum_of, difference_of, product_of, quotient_of, remainder_of, negation_of, and_of, or_of, xor_of, complement_of, left_shift_of, right_shift_of, unsigned_shift_of}
use Rattle.arithmetic.specs.declared.operator.Op.{Op}
use Rattle.arithmetic.specs.declared.operator.Op.TheVariants as op
use Rattle.arithmetic.specs.declared.operator.Num.{Num}
use Rattle.arithmetic.specs.declared.operator.Num.TheVariants as n
use Rattle.arithmetic.specs.declared.operator.Zero.{Zero}

-- the int 1 where a comparison holds, and else 0
abbrev pub truth : Bool → Num
truth true = n.Int (pos 1)
truth false = n.Int (pos 0)

abbrev pub some_of : (ℤ → Num) → Option ℤ → Option Num
some_of number None = None
some_of number (Some value) = Some (number value)

-- an operator at one of the two types, of so many bits. The right operand of a shift is cast to int. None for a zero divisor
abbrev pub of_type : (ℤ → Num) → Width → Op → ℤ → ℤ → Option Num
of_type number w op.Add a b = Some (number (sum_of w a b))
of_type number w op.Sub a b = Some (number (difference_of w a b))
of_type number w op.Mul a b = Some (number (product_of w a b))
of_type number w op.Div a b = some_of number (quotient_of w a b)
of_type number w op.Rem a b = some_of number (remainder_of a b)
of_type number w op.And a b = Some (number (and_of w a b))
of_type number w op.Or a b = Some (number (or_of w a b))
of_type number w op.Xor a b = Some (number (xor_of w a b))
of_type number w op.Shl a b = Some (number (left_shift_of w a (wrapped w32 b)))
of_type number w op.Shr a b = Some (number (right_shift_of w a (wrapped w32 b)))
of_type number w op.Ushr a b = Some (number (unsigned_shift_of w a (wrapped w32 b)))
of_type number w op.Neg a b = Some (number (negation_of w a))
of_type number w op.Not a b = Some (number (complement_of w a))
of_type number w op.Pos a b = Some (number a)
of_type number w op.Lt a b = Some (truth (int_lt a b))
of_type number w op.Le a b = Some (truth (int_le a b))
of_type number w op.Gt a b = Some (truth (int_lt b a))
of_type number w op.Ge a b = Some (truth (int_le b a))
of_type number w op.Eq a b = Some (truth (int_eq a b))
of_type number w op.Ne a b = Some (truth (not (int_eq a b)))

-- shifts and operators of one operand: their left operand alone decides the type
abbrev pub takes_left : Op → Bool
takes_left op.Shl = true
takes_left op.Shr = true
takes_left op.Ushr = true
takes_left op.Neg = true
takes_left op.Not = true
takes_left op.Pos = true
takes_left _ = false

abbrev pub as_long : Num → ℤ
as_long (n.Int a) = a
as_long (n.Long a) = a

abbrev pub as_int : Num → ℤ
as_int (n.Int a) = a
as_int (n.Long a) = wrapped w32 a

abbrev pub by_left : Op → Num → Num → Option Num
by_left o (n.Int a) b = of_type n.Int w32 o a (as_int b)
by_left o (n.Long a) b = of_type n.Long w64 o a (as_long b)

-- the others are of the type int where both operands are, and else of the type long
abbrev pub by_both : Op → Num → Num → Option Num
by_both o (n.Int a) (n.Int b) = of_type n.Int w32 o a b
by_both o (n.Int a) (n.Long b) = of_type n.Long w64 o a b
by_both o (n.Long a) b = of_type n.Long w64 o a (as_long b)

-- what an operator gives of two numbers. None for a zero divisor
abbrev pub arith_of : Op → Num → Num → Option Num
arith_of o a b = if takes_left o then by_left o a b else by_both o a b

abbrev pub Gives : Option Num → Result Num Zero → Type 0
Gives given (Ok number) = given ≡ Some number
Gives given (Err zero) = given ≡ None
