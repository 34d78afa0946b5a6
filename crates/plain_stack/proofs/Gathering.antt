-- What is taken off a stack.
use Rattle.std.proofs.Common.{◌≡◌, refl, ap, ℕ, zero, suc, ◌-◌, ◌<◌, List, [], ◌∷◌, ◌++◌, reverse, Some, None, arith}
use Rattle.std.proofs.lemmas.List.{reverse-append}
use Rattle.plain_stack.specs.Stacks.{gathered}

pub gathered_more : {A : Type 0} (n : ℕ) (x : A) (xs others : List A) → 0 < n → gathered n (x ∷ xs) others ≡ gathered (n - 1) xs (x ∷ others)
gathered_more zero x xs others h = absurd (omega (arith, h))
gathered_more (suc n) x xs others h = let less : n ≡ suc n - 1 = omega arith in ap (λ (m : ℕ). gathered m xs (x ∷ others)) less

pub gathered_none : {A : Type 0} (n : ℕ) (others : List A) → 0 < n → gathered n [] others ≡ None
gathered_none zero others h = absurd (omega (arith, h))
gathered_none (suc n) others h = refl

pub gathered_end : {A : Type 0} (xs others : List A) → gathered 0 xs others ≡ Some (others, xs)
gathered_end xs others = refl

pub reverse_one : {A : Type 0} (xs : List A) (x : A) → reverse (xs ++ x ∷ []) ≡ x ∷ reverse xs
reverse_one xs x = reverse-append xs (x ∷ [])
