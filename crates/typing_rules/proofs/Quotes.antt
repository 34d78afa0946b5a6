-- Texts between quotes.
use Rattle.std.proofs.Common.{◌≡◌, ◌≢◌, refl, ap, ◌∙◌, ℕ, ◌==◌, true, false, List, [], ◌∷◌, ◌++◌, Option, Some, None, Bor, MatchOption, arith}
use Rattle.std.proofs.lemmas.Bool.Decides.{nat_tests}
use Rattle.typing_rules.specs.Rules.Literals.{before_last, between}

same : (q : ℕ) → (q == q) ≡ true
same q = grind (arith, nat_tests)

other : (b q : ℕ) → b ≢ q → (b == q) ≡ false
other b q h = grind (arith, nat_tests)

before_quote : (q : ℕ) (text : List ℕ) → before_last q (text ++ q ∷ []) ≡ Some text
before_quote q [] = rw (same q) refl
before_quote q (b ∷ []) = rw (before_quote q []) refl
before_quote q (b ∷ c ∷ text) = rw (before_quote q (c ∷ text)) refl

before_none : (q : ℕ) (xs : List ℕ) → ((front : List ℕ) → xs ≢ front ++ q ∷ []) → before_last q xs ≡ None
before_none q [] h = refl
before_none q (b ∷ []) h = rw (other b q (λ e. h [] (ap (λ (n : ℕ). n ∷ []) e))) refl
before_none q (b ∷ c ∷ rest) h = rw (before_none q (c ∷ rest) (λ front e. h (b ∷ front) (ap (λ (xs : List ℕ). b ∷ xs) e))) refl

-- a quote at each end, or none at the end
pub between_opened : (q : ℕ) (xs opened : List ℕ) (r : Option (Bor (List ℕ))) → xs ≡ q ∷ opened
    → MatchOption r ((front : List ℕ) → opened ≢ front ++ q ∷ []) (λ text. opened ≡ text.now ++ q ∷ [])
    → MatchOption r (between q xs ≡ None) (λ text. between q xs ≡ Some text.now)
between_opened q xs opened None e h = ap (λ (ys : List ℕ). between q ys) e ∙ (rw (same q) (before_none q opened h))
between_opened q xs opened (Some text) e h = ap (λ (ys : List ℕ). between q ys) (e ∙ ap (λ (ys : List ℕ). q ∷ ys) h) ∙ (rw (same q) (before_quote q text.now))

-- none at the front
pub between_no_front : (q : ℕ) (xs : List ℕ) → ((rest : List ℕ) → xs ≢ q ∷ rest) → between q xs ≡ None
between_no_front q [] h = refl
between_no_front q (b ∷ rest) h = rw (other b q (λ e. h rest (ap (λ (n : ℕ). n ∷ rest) e))) refl
