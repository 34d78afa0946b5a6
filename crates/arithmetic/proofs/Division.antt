-- The laws of the arithmetic of numbers.
use Rattle.std.proofs.Common.{◌≡◌, zero, suc, refl, sym, ap, ◌∙◌, arith, ℤ, pos, negsuc, ◌+ℤ◌, ◌*ℤ◌}
use Rattle.std.specs.Prelude.{int_div, int_rem, IfSome}
use Rattle.std.specs.Int.{Width}
use Rattle.std.proofs.lemmas.Int.{int_wrap_fits, SFits-int_wrap, int_wrap-add_left, int_wrap-mul_left, quot-rem}
use lib.Signed.{mag_rem}
use Rattle.arithmetic.specs.Arithmetic.{wrapped, sum_of, product_of, quotient_of, remainder_of}
use Rattle.arithmetic.specs.Laws.{InRange, Divides, StaysInRange, NoneAtZero}

joined : (w : Width) (a b : ℤ) → InRange w a → sum_of w (product_of w (wrapped w (int_div a b)) b) (int_rem a b) ≡ a
joined w a b f =
    ap (λ x. wrapped w (x +ℤ int_rem a b)) (int_wrap-mul_left w (int_div a b) b)
    ∙ int_wrap-add_left w (int_div a b *ℤ b) (int_rem a b)
    ∙ ap (wrapped w) (quot-rem a b)
    ∙ int_wrap_fits w a f

pub divides : Divides
divides w a (pos zero) q r f e k = cc
divides w a (pos (suc d)) q r f e k = let q' : wrapped w (int_div a (pos (suc d))) ≡ q = cc in let r' : int_rem a (pos (suc d)) ≡ r = cc in (λ i. sum_of w (product_of w (sym q' i) (pos (suc d))) (sym r' i)) ∙ joined w a (pos (suc d)) f
divides w a (negsuc d) q r f e k = let q' : wrapped w (int_div a (negsuc d)) ≡ q = cc in let r' : int_rem a (negsuc d) ≡ r = cc in (λ i. sum_of w (product_of w (sym q' i) (negsuc d)) (sym r' i)) ∙ joined w a (negsuc d) f

pub stays : StaysInRange
stays w a b f = (SFits-int_wrap w _, SFits-int_wrap w _, SFits-int_wrap w _, SFits-int_wrap w _, quotient b, remainder b)
  where
    quotient : (b : ℤ) → IfSome (quotient_of w a b) (InRange w)
    quotient (pos zero) = tt
    quotient (pos (suc d)) = SFits-int_wrap w _
    quotient (negsuc d) = SFits-int_wrap w _

    remainder : (b : ℤ) → IfSome (remainder_of a b) (InRange w)
    remainder (pos zero) = tt
    remainder (pos (suc d)) = record { sfits = omega (arith, f.sfits, mag_rem a (pos (suc d))) }
    remainder (negsuc d) = record { sfits = omega (arith, f.sfits, mag_rem a (negsuc d)) }

pub at_zero : NoneAtZero
at_zero w a (pos zero) = ((λ _. refl, λ _. refl), (λ _. refl, λ _. refl))
at_zero w a (pos (suc d)) = ((λ h. cc, λ h. cc), (λ h. cc, λ h. cc))
at_zero w a (negsuc d) = ((λ h. cc, λ h. cc), (λ h. cc, λ h. cc))
