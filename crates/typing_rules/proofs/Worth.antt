-- Numbers in digits.
use Rattle.std.proofs.Common.{ℕ, suc, ◌+◌, ◌*◌, ◌≤◌, ◌<◌, List, [], ◌∷◌, length, get_or, drop, drop-cons, arith}
use Rattle.typing_rules.specs.Rules.Digits.{digit_of, value_after}

times-ge : (base n : ℕ) → 1 ≤ base → n ≤ base * n
times-ge base n h = grind arith

-- further digits make no number less
pub value_after-ge : (base n : ℕ) (digits : List ℕ) → 1 ≤ base → n ≤ value_after base n digits
value_after-ge base n [] h = omega arith
value_after-ge base n (digit ∷ digits) h = omega (arith, value_after-ge base (base * n + digit_of digit) digits h, times-ge base n h)

-- one more digit makes it no more than all of them do
pub value_after-next : (base n : ℕ) (digits : List ℕ) (i : ℕ) → 1 ≤ base → i < length digits → base * n + digit_of (get_or digits i 0) ≤ value_after base n (drop i digits)
value_after-next base n digits i h below = rw (drop-cons digits i 0) (value_after-ge base (base * n + digit_of (get_or digits i 0)) (drop (suc i) digits) h)
