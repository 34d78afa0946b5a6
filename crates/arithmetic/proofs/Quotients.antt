-- The quotient that the code computes is the quotient that wraps.
use Rattle.std.proofs.Common.{◌≡◌, ℕ, zero, suc, ◌/◌, ◌^◌, ◌≤◌, Some, refl, ap, ◌∙◌, arith, ℤ, pos, negsuc, neg_ℤ, to_z, of_z, FitsSigned}
use Rattle.std.proofs.Math.Nat.{div-le_self}
use Rattle.std.specs.Prelude.{int_div, unsigned_abs}
use Rattle.std.specs.Int.{Width, w8, w16, w32, w64, w128, int_wrap, int_wrapping_div}
use Rattle.std.proofs.lemmas.Int.{to_z-of_z}
use mir.Val.{hbits}
use Rattle.arithmetic.specs.Arithmetic.{wrapped, quotient_of}

-- a number that is no more than the least one in size is left as it is
bits_of : (w : Width) (z : ℤ) → unsigned_abs z ≤ 2 ^ hbits w → to_z w (of_z w z) ≡ int_wrap w z
unfolding int_wrap
bits_of w8 (pos n) h = ap (to_z w8) (omega arith)
bits_of w8 (negsuc n) h = ap (to_z w8) (omega arith)
bits_of w16 (pos n) h = ap (to_z w16) (omega arith)
bits_of w16 (negsuc n) h = ap (to_z w16) (omega arith)
bits_of w32 (pos n) h = ap (to_z w32) (omega arith)
bits_of w32 (negsuc n) h = ap (to_z w32) (omega arith)
bits_of w64 (pos n) h = ap (to_z w64) (omega arith)
bits_of w64 (negsuc n) h = ap (to_z w64) (omega arith)
bits_of w128 (pos n) h = ap (to_z w128) (omega arith)
bits_of w128 (negsuc n) h = ap (to_z w128) (omega arith)

abs-neg : (n : ℕ) → unsigned_abs (neg_ℤ (pos n)) ≡ n
abs-neg zero = refl
abs-neg (suc n) = refl

small_quot : (w : Width) (a d : ℤ) → FitsSigned w a → unsigned_abs (int_div a d) ≤ 2 ^ hbits w
small_quot w (pos a) (pos b) f = omega (arith, f.sfits, div-le_self a b)
small_quot w (pos a) (negsuc b) f = omega (arith, f.sfits, abs-neg (a / suc b), div-le_self a (suc b))
small_quot w (negsuc a) (pos b) f = omega (arith, f.sfits, abs-neg (suc a / b), div-le_self (suc a) b)
small_quot w (negsuc a) (negsuc b) f = omega (arith, f.sfits, div-le_self (suc a) (suc b))

pub quotient_is : (w : Width) (a d r : ℤ) → FitsSigned w a → FitsSigned w d → FitsSigned w r → (of_z w d ≡ 0 → ⊥) → r ≡ int_wrapping_div w (to_z w (of_z w a)) (to_z w (of_z w d)) → Some (to_z w (of_z w r)) ≡ quotient_of w a d
quotient_is w a d r fa fd fr n e = by_divisor d n (ap Some (to_z-of_z w r fr ∙ e ∙ (λ i. int_wrapping_div w (to_z-of_z w a fa i) (to_z-of_z w d fd i)) ∙ bits_of w _ (small_quot w a d fa)))
  where
    by_divisor : (d : ℤ) → (of_z w d ≡ 0 → ⊥) → Some (to_z w (of_z w r)) ≡ Some (wrapped w (int_div a d)) → Some (to_z w (of_z w r)) ≡ quotient_of w a d
    by_divisor (pos zero) n e = absurd (n refl)
    by_divisor (pos (suc d)) n e = e
    by_divisor (negsuc d) n e = e
