-- What a sort leaves is the values in order: two lists that rise and hold the same are one.
use Rattle.std.proofs.Common.{◌≡◌, ℕ, ◌+◌, Bool, true, false, cond, List, [], ◌∷◌, map, refl, sym, ap, ◌∙◌, arith, suc, subst, string_bytes, string_cmp, String, Global, Ordering, Less, Equal, Greater, nat_cmp}
use Rattle.std.specs.List.{AllByRecursion, dedup, dedup_from, slice_index_or}
use Rattle.std.specs.List.Sorted.{IsPermutation, IsSorted}
use Rattle.std.specs.Ordering.{ordering_reverse, is_lt, match_ordering, bool_cmp}
use Rattle.std.specs.Cmp.{IsTotalOrder}
use Rattle.std.specs.Cmp.Lexicographic.{slice_cmp}
use Rattle.std.specs.String.{string_cmp_total, string_eq}
use Rattle.std.specs.Str.{bytes_eq}
use Rattle.std.proofs.lemmas.Cmp.{nat_list_cmp_total}
use Rattle.std.proofs.lemmas.List.Recursion.{is_sum_by}
use Rattle.std.proofs.lemmas.List.Sorted.{sum_by-IsPermutation, IsPermutation-map, ranks_by}
use Rattle.std.proofs.lemmas.Map.Lookups.{CmpEqualImpliesEq, exact_bytes}
use Rattle.search_ctx.specs.Order.{in_place, in_order, once_in_order}

-- what a number of each comes to together
abbrev total : {X : Type 0} → (X → ℕ) → List X → ℕ
total f [] = 0
total f (x ∷ xs) = f x + total f xs

same_total : {X : Type 0} (f : X → ℕ) (xs ys : List X) → IsPermutation xs ys → total f ys ≡ total f xs
same_total f xs ys moved =
    is_sum_by (total f) f refl (λ x zs. refl) ys ∙ sum_by-IsPermutation f xs ys moved ∙ sym (is_sum_by (total f) f refl (λ x zs. refl) xs)

none_more : (b : Bool) (n : ℕ) → b ≡ false → n ≡ 0 → cond b 1 0 + n ≡ 0
none_more true n e h = cc
none_more false n e h = omega arith

counted_none : (b : Bool) (n : ℕ) → cond b 1 0 + n ≡ 0 → b ≡ false
counted_none true n e = absurd (omega arith)
counted_none false n e = refl

left_over : (a b m n : ℕ) → a ≡ b → a + m ≡ b + n → m ≡ n
left_over a b m n e h = omega arith

none_is_not_some : (n : ℕ) → 0 ≡ 1 + n → ⊥
none_is_not_some n e = omega arith

-- y is not below x
abbrev NotBelow : {X : Type 0} → (X → X → Ordering) → X → X → Type 0
NotBelow R x y = is_lt (R y x) ≡ false

-- none is below one before it
abbrev pub Rises : {X : Type 0} → (X → X → Ordering) → List X → Type 0
Rises R [] = Unit {0}
Rises R (x ∷ xs) = AllByRecursion (NotBelow R x) xs × Rises R xs

module _ {X : Type 0} (R : X → X → Ordering) (o : IsTotalOrder R) where
  chain : (x y z : X) → NotBelow R x y → NotBelow R y z → NotBelow R x z
  chain x y z h k = (ranks_by o (λ (a : X). a)).chain z y x k h

  all_on : (x y : X) → NotBelow R x y → (ys : List X) → AllByRecursion (NotBelow R y) ys → AllByRecursion (NotBelow R x) ys
  all_on x y h [] k = tt
  all_on x y h (z ∷ ys) k = (chain x y z h k.0, all_on x y h ys k.1)

  rises_if_sorted : (xs : List X) → IsSorted R xs → Rises R xs
  rises_if_sorted [] h = tt
  rises_if_sorted (x ∷ []) h = (tt, tt)
  rises_if_sorted (x ∷ y ∷ ys) h =
      let first : NotBelow R x y = h 0 x (omega arith) (omega arith) in
      let rest = rises_if_sorted (y ∷ ys) (λ k d a b.
      subst (λ (n : ℕ). is_lt (R (slice_index_or (x ∷ y ∷ ys) n d) (slice_index_or (y ∷ ys) k d)) ≡ false)
      {x = suc k + 1} {y = suc (k + 1)} (omega arith) (h (suc k) d (omega arith) (omega arith))) in
      ((first, all_on x y first ys rest.0), rest)

  reversed : (x y : X) (r : Ordering) → R x y ≡ r → R y x ≡ ordering_reverse r
  reversed x y r e = o.antisymm y x ∙ ap ordering_reverse e

  placed_all : (z x : X) (xs : List X) → NotBelow R z x → AllByRecursion (NotBelow R z) xs → AllByRecursion (NotBelow R z) (in_place R x xs)
  placed_all z x [] h k = (h, tt)
  placed_all z x (y ∷ ys) h k = by_case (R x y) (placed_all z x ys h k.1) where
    by_case : (r : Ordering) → AllByRecursion (NotBelow R z) (in_place R x ys)
        → AllByRecursion (NotBelow R z) (match_ordering r (x ∷ y ∷ ys) (x ∷ y ∷ ys) (y ∷ in_place R x ys))
    by_case Less more = (h, k)
    by_case Equal more = (h, k)
    by_case Greater more = (k.0, more)

  placed_rises : (x : X) (xs : List X) → Rises R xs → Rises R (in_place R x xs)
  placed_rises x [] h = (tt, tt)
  placed_rises x (y ∷ ys) h = by_case (R x y) refl (placed_rises x ys h.1) where
    here : NotBelow R x y → Rises R (x ∷ y ∷ ys)
    here n = ((n, all_on x y n ys h.0), h)

    by_case : (r : Ordering) → R x y ≡ r → Rises R (in_place R x ys)
        → Rises R (match_ordering r (x ∷ y ∷ ys) (x ∷ y ∷ ys) (y ∷ in_place R x ys))
    by_case Less e more = here (ap is_lt (reversed x y Less e))
    by_case Equal e more = here (ap is_lt (reversed x y Equal e))
    by_case Greater e more = (placed_all y x ys (ap is_lt e) h.0, more)

  order_rises : (xs : List X) → Rises R (in_order R xs)
  order_rises [] = tt
  order_rises (x ∷ xs) = placed_rises x (in_order R xs) (order_rises xs)

  sum_placed : (f : X → ℕ) (x : X) (xs : List X) → total f (in_place R x xs) ≡ f x + total f xs
  sum_placed f x [] = refl
  sum_placed f x (y ∷ ys) = by_case (R x y) (sum_placed f x ys) where
    by_case : (r : Ordering) → total f (in_place R x ys) ≡ f x + total f ys
        → total f (match_ordering r (x ∷ y ∷ ys) (x ∷ y ∷ ys) (y ∷ in_place R x ys)) ≡ f x + (f y + total f ys)
    by_case Less e = refl
    by_case Equal e = refl
    by_case Greater e = omega (arith, e)

  sum_order : (f : X → ℕ) (xs : List X) → total f (in_order R xs) ≡ total f xs
  sum_order f [] = refl
  sum_order f (x ∷ xs) = sum_placed f x (in_order R xs) ∙ ap (λ (n : ℕ). f x + n) (sum_order f xs)

  -- how many are below x
  abbrev count_below : X → List X → ℕ
  count_below x xs = total (λ (z : X). cond (is_lt (R z x)) 1 0) xs

  none_below : (x : X) (xs : List X) → AllByRecursion (NotBelow R x) xs → count_below x xs ≡ 0
  none_below x [] h = refl
  none_below x (y ∷ ys) h = none_more (is_lt (R y x)) (count_below x ys) h.0 (none_below x ys h.1)

  not_below_itself : (x : X) → NotBelow R x x
  not_below_itself x = by_case (R x x) (o.antisymm x x) where
    by_case : (r : Ordering) → r ≡ ordering_reverse r → is_lt r ≡ false
    by_case Less e = ap is_lt e
    by_case Equal e = refl
    by_case Greater e = refl

  first_not_below : (x y : X) (ys : List X) → count_below x (y ∷ ys) ≡ 0 → NotBelow R x y
  first_not_below x y ys h = counted_none (is_lt (R y x)) (count_below x ys) h

  tied : (x y : X) → NotBelow R x y → NotBelow R y x → R x y ≡ Equal
  tied x y h k = by_case (R x y) refl where
    by_case : (r : Ordering) → R x y ≡ r → r ≡ Equal
    by_case Less e = cc
    by_case Equal e = refl
    by_case Greater e = let back = reversed x y Greater e in cc

  same : CmpEqualImpliesEq R → (xs ys : List X) → Rises R xs → Rises R ys → ((f : X → ℕ) → total f xs ≡ total f ys) → xs ≡ ys
  same exact [] [] h k s = refl
  same exact [] (y ∷ ys) h k s = absurd (none_is_not_some (total (λ z. 1) ys) (s (λ z. 1)))
  same exact (x ∷ xs) [] h k s = absurd (none_is_not_some (total (λ z. 1) xs) (sym (s (λ z. 1))))
  same exact (x ∷ xs) (y ∷ ys) h k s =
      let above_x = first_not_below x y ys (sym (s (λ z. cond (is_lt (R z x)) 1 0)) ∙ none_below x (x ∷ xs) (not_below_itself x, h.0)) in
      let above_y = first_not_below y x xs (s (λ z. cond (is_lt (R z y)) 1 0) ∙ none_below y (y ∷ ys) (not_below_itself y, k.0)) in
      let e : x ≡ y = exact x y (tied x y above_x above_y) in
      let rest : xs ≡ ys = same exact xs ys h.1 k.1 (λ f. left_over (f x) (f y) (total f xs) (total f ys) (ap f e) (s f)) in
      ap (λ z. z ∷ xs) e ∙ ap (λ zs. y ∷ zs) rest

  rising_is : CmpEqualImpliesEq R → (xs ys : List X) → IsPermutation xs ys → Rises R ys → ys ≡ in_order R xs
  rising_is exact xs ys moved h = same exact ys (in_order R xs) h (order_rises xs) (λ f. same_total f xs ys moved ∙ sym (sum_order f xs))

  -- what a sort leaves
  pub sorted_is : CmpEqualImpliesEq R → (xs ys : List X) → IsPermutation xs ys → IsSorted R ys → ys ≡ in_order R xs
  sorted_is exact xs ys moved h = rising_is exact xs ys moved (rises_if_sorted ys h)

-- ---- texts

all_of_bytes : (x : String Global) (xs : List (String Global)) → AllByRecursion (NotBelow string_cmp x) xs
    → AllByRecursion (NotBelow (slice_cmp nat_cmp) (string_bytes x)) (map string_bytes xs)
all_of_bytes x [] h = tt
all_of_bytes x (y ∷ ys) h = (h.0, all_of_bytes x ys h.1)

bytes_rise : (xs : List (String Global)) → Rises string_cmp xs → Rises (slice_cmp nat_cmp) (map string_bytes xs)
bytes_rise [] h = tt
bytes_rise (x ∷ xs) h = (all_of_bytes x xs h.0, bytes_rise xs h.1)

once_from : (x : String Global) (xs : List (String Global)) → map string_bytes (dedup_from string_eq x xs) ≡ dedup_from bytes_eq (string_bytes x) (map string_bytes xs)
once_from x [] = refl
once_from x (y ∷ ys) = by_case (bytes_eq (string_bytes y) (string_bytes x)) (once_from x ys) (once_from y ys) where
  by_case : (b : Bool) → map string_bytes (dedup_from string_eq x ys) ≡ dedup_from bytes_eq (string_bytes x) (map string_bytes ys)
      → map string_bytes (dedup_from string_eq y ys) ≡ dedup_from bytes_eq (string_bytes y) (map string_bytes ys) → map string_bytes (cond b (dedup_from string_eq x ys) (x ∷ dedup_from string_eq y ys))
      ≡ cond b (dedup_from bytes_eq (string_bytes x) (map string_bytes ys)) (string_bytes x ∷ dedup_from bytes_eq (string_bytes y) (map string_bytes ys))
  by_case true kept next = kept
  by_case false kept next = ap (λ rest. string_bytes x ∷ rest) next

once : (xs : List (String Global)) → map string_bytes (dedup string_eq xs) ≡ dedup bytes_eq (map string_bytes xs)
once [] = refl
once (x ∷ xs) = once_from x xs

-- what a sort and then `dedup` leave
pub words_ordered : (xs ys zs : List (String Global)) → IsPermutation xs ys → IsSorted string_cmp ys → zs ≡ dedup string_eq ys
    → map string_bytes zs ≡ once_in_order (map string_bytes xs)
words_ordered xs ys zs moved h e =
    ap (map string_bytes) e ∙ once ys
    ∙ ap (dedup bytes_eq) (rising_is (slice_cmp nat_cmp) nat_list_cmp_total exact_bytes (map string_bytes xs) (map string_bytes ys)
    (IsPermutation-map string_bytes xs ys moved) (bytes_rise ys (rises_if_sorted string_cmp string_cmp_total ys h)))

-- ---- truth values

pub exact_flags : CmpEqualImpliesEq bool_cmp
exact_flags true true h = refl
exact_flags true false h = cc
exact_flags false true h = cc
exact_flags false false h = refl
