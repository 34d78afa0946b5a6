-- Where a difference is below 0.
use Rattle.std.proofs.Common.{◌≡◌, ℕ, suc, ◌==◌, nat_le, nat_lt, Bool, true, false, cond, List, [], ◌∷◌, length, ℤ, refl, ap, sym, ◌∙◌, arith, if◌then◌else◌, Ordering, Less, Equal, Greater, is_lt}
use Rattle.std.specs.Prelude.{int_lt, pos, negsuc, neg_ℤ, ◌-ℤ◌}
use Rattle.std.specs.Cmp.{both_ways}
use Rattle.std.specs.Cmp.Lexicographic.{slice_cmp}
use Rattle.std.specs.Ordering.{nat_cmp, ordering_then}
use Rattle.std.proofs.lemmas.Bool.Decides.{nat_tests}
use Rattle.std.proofs.lemmas.Int.{ints}
use Rattle.number_ops.specs.Order.{text_order}

pub difference_less : (a b : ℤ) → int_lt (a -ℤ b) (pos 0) ≡ int_lt a b
difference_less a b = both_ways (int_lt (a -ℤ b) (pos 0)) (int_lt a b) (λ h. grind (arith, ints)) (λ h. grind (arith, ints))

pub comparison_less : (s t : Bool) → int_lt (if s then negsuc 0 else (if t then pos 1 else pos 0)) (pos 0) ≡ is_lt (ordering_then (cond s Less (cond t Greater Equal)) Equal)
comparison_less true t = refl
comparison_less false true = refl
comparison_less false false = refl

pub ordering_less : (s t : Bool) → is_lt (ordering_then (cond s Less (cond t Greater Equal)) Equal) ≡ s
ordering_less true t = refl
ordering_less false true = refl
ordering_less false false = refl

shorter : (n : ℕ) (b : Bool) → int_lt (neg_ℤ (if b then pos (suc n) else pos 2147483647)) (pos 0) ≡ true
shorter n true = refl
shorter n false = refl

longer : (n : ℕ) (b : Bool) → int_lt (if b then pos (suc n) else pos 2147483647) (pos 0) ≡ false
longer n true = grind (arith, ints)
longer n false = refl

not_below : (x y : ℕ) → (x == y) ≡ true → nat_lt x y ≡ false
not_below x y e = grind (arith, nat_tests)

below_or : (s : Bool) (rest : Ordering) → s ≡ is_lt (ordering_then (cond s Less Greater) rest)
below_or true rest = refl
below_or false rest = refl

unit_less : (x y : ℕ) (same : Bool) (order : ℤ) (rest : Ordering) → (x == y) ≡ same → int_lt order (pos 0) ≡ is_lt rest
    → int_lt (if same then order else (pos x -ℤ pos y)) (pos 0) ≡ is_lt (ordering_then (cond (nat_lt x y) Less (cond same Equal Greater)) rest)
unit_less x y true order rest e h = h ∙ ap (λ (b : Bool). is_lt (ordering_then (cond b Less Equal) rest)) (sym (not_below x y e))
unit_less x y false order rest e h = difference_less (pos x) (pos y) ∙ below_or (nat_lt x y) rest

pub text_less : (a b : List ℕ) → int_lt (text_order a b) (pos 0) ≡ is_lt (slice_cmp nat_cmp a b)
text_less [] [] = refl
text_less [] (y ∷ ys) = shorter (length ys) (nat_le (suc (length ys)) 2147483647)
text_less (x ∷ xs) [] = longer (length xs) (nat_le (suc (length xs)) 2147483647)
text_less (x ∷ xs) (y ∷ ys) = unit_less x y (x == y) (text_order xs ys) (slice_cmp nat_cmp xs ys) refl (text_less xs ys)
