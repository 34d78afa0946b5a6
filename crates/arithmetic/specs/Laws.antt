-- What holds of this arithmetic as a whole.
use Rattle.std.specs.Prelude.{◌≡◌, ◌↔◌, Some, IfSome, IsNone, FitsSigned, ℤ, pos}
use Rattle.std.specs.Int.{Width}
use Rattle.arithmetic.specs.Arithmetic.{sum_of, difference_of, product_of, negation_of, quotient_of, remainder_of}

-- the numbers of the type
abbrev pub InRange : Width → ℤ → Type 0
InRange w z = FitsSigned w z

-- Division loses nothing: the quotient times the divisor, and the remainder, give the dividend.
abbrev pub Divides : Type 0
Divides = (w : Width) (a b q r : ℤ) → InRange w a → quotient_of w a b ≡ Some q → remainder_of a b ≡ Some r → sum_of w (product_of w q b) r ≡ a

-- Every result is a number of the type again.
abbrev pub StaysInRange : Type 0
StaysInRange =
    (w : Width) (a b : ℤ) → InRange w a
    → InRange w (sum_of w a b) × InRange w (difference_of w a b) × InRange w (product_of w a b) × InRange w (negation_of w a)
    × IfSome (quotient_of w a b) (InRange w) × IfSome (remainder_of a b) (InRange w)

-- There is no quotient and no remainder exactly where the divisor is zero.
abbrev pub NoneAtZero : Type 0
NoneAtZero = (w : Width) (a b : ℤ) → (IsNone (quotient_of w a b) ↔ (b ≡ pos 0)) × (IsNone (remainder_of a b) ↔ (b ≡ pos 0))
