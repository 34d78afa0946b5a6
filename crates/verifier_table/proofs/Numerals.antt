-- Kinds by 31 and their numbers.
use Rattle.std.proofs.Common.{◌≡◌, ℕ, zero, suc, ◌+◌, ◌*◌, ◌%◌, ◌<◌, ◌≤◌, true, false, Bool, cond, List, [], ◌∷◌, length, take, drop, Option, Some, None, refl, sym, ap, ◌∙◌, subst, add-one, arith}
use Rattle.std.proofs.lemmas.Nat.{mod-mul-add}
use Rattle.pl_code.specs.declared.kinds.Slot.{Slot}
use Rattle.pl_code.specs.declared.kinds.Slot.TheVariants.{I, J, R}
use Rattle.instruction_types.specs.Effects.{same_slots, taken}
use Rattle.verifier_table.specs.Windows.{digit, numeral_of}
use Rattle.verifier_table.proofs.SameKinds.{slot_itself, one_slot}

-- ---- no two lists have one number

digit_some : (k : Slot) → 0 < digit k
digit_some I = omega arith
digit_some J = omega arith
digit_some R = omega arith

digit_small : (k : Slot) → digit k ≤ 3
digit_small I = omega arith
digit_small J = omega arith
digit_small R = omega arith

one_digit : (j k : Slot) → digit j ≡ digit k → j ≡ k
one_digit I I e = refl
one_digit I J e = absurd (omega (arith, e))
one_digit I R e = absurd (omega (arith, e))
one_digit J I e = absurd (omega (arith, e))
one_digit J J e = refl
one_digit J R e = absurd (omega (arith, e))
one_digit R I e = absurd (omega (arith, e))
one_digit R J e = absurd (omega (arith, e))
one_digit R R e = refl

rest_same : (a b x y : ℕ) → 0 < a → a ≤ 3 → 0 < b → b ≤ 3 → a + 4 * x ≡ b + 4 * y → x ≡ y
rest_same a b x y p q r s e = omega (arith, e)

pub one_numeral : (js ks : List Slot) → numeral_of js ≡ numeral_of ks → js ≡ ks
one_numeral [] [] e = refl
one_numeral [] (k ∷ ks) e = absurd (omega (arith, e, digit_some k))
one_numeral (j ∷ js) [] e = absurd (omega (arith, e, digit_some j))
one_numeral (j ∷ js) (k ∷ ks) e =
    let rest : numeral_of js ≡ numeral_of ks = rest_same (digit j) (digit k) (numeral_of js) (numeral_of ks) (digit_some j) (digit_small j) (digit_some k) (digit_small k) e in
    let first : digit j ≡ digit k = omega (arith, e, rest) in
    (λ i. one_digit j k first i ∷ one_numeral js ks rest i)

-- ---- the number of the first kinds of a list

-- 4^n times a number
abbrev scaled : ℕ → ℕ → ℕ
scaled zero x = x
scaled (suc n) x = 4 * scaled n x

below : (n : ℕ) (ks : List Slot) → numeral_of (take n ks) < scaled n 1
below zero ks = omega arith
below (suc n) [] = let r = below n [] in omega (arith, r)
below (suc n) (k ∷ ks) = let r = below n ks in omega (arith, r, digit_small k)

scaled_none : (n : ℕ) → scaled n 0 ≡ 0
scaled_none zero = refl
scaled_none (suc n) = let z = scaled_none n in omega (arith, z)

none_further : (n x : ℕ) → x ≡ 0 → 0 ≡ 0 + 4 * scaled n x
none_further n x e = let z : scaled n x ≡ 0 = ap (scaled n) e ∙ scaled_none n in omega (arith, z)

one_further : (n : ℕ) (ks : List Slot) → numeral_of (take (suc n) ks) ≡ numeral_of (take n ks) + scaled n (numeral_of (take 1 (drop n ks)))
one_further zero ks = omega arith
one_further (suc n) [] = none_further n _ refl
one_further (suc n) (k ∷ ks) = let r = one_further n ks in omega (arith, r)

scaled_30 : (x : ℕ) → scaled 30 x ≡ 1152921504606846976 * x
scaled_30 x = omega arith

first_30 : (ks : List Slot) → numeral_of (take 31 ks) % 1152921504606846976 ≡ numeral_of (take 30 ks)
first_30 ks =
    let x = numeral_of (take 1 (drop 30 ks)) in
    let whole : numeral_of (take 31 ks) ≡ numeral_of (take 30 ks) + scaled 30 x = one_further 30 ks in
    let few : numeral_of (take 30 ks) < scaled 30 1 = below 30 ks in
    let s : scaled 30 x ≡ 1152921504606846976 * x = scaled_30 x in
    let one : scaled 30 1 ≡ 1152921504606846976 * 1 = scaled_30 1 in
    let sum : numeral_of (take 31 ks) ≡ x * 1152921504606846976 + numeral_of (take 30 ks) = omega (arith, whole, s) in
    ap (λ n. n % 1152921504606846976) sum ∙ mod-mul-add x 1152921504606846976 (numeral_of (take 30 ks)) (omega (arith, few, one))

pub one_pushed : (kind : Slot) (ks : List Slot) (window : ℕ) → window ≡ numeral_of (take 31 ks) → 4 * (window % 1152921504606846976) + digit kind ≡ numeral_of (take 31 (kind ∷ ks))
one_pushed kind ks window e =
    let first : window % 1152921504606846976 ≡ numeral_of (take 30 ks) = ap (λ n. n % 1152921504606846976) e ∙ first_30 ks in
    let whole : numeral_of (take 31 (kind ∷ ks)) ≡ digit kind + 4 * numeral_of (take 30 ks) = refl in
    omega (arith, first, whole)

-- ---- what is taken

pub taken_front : (n : ℕ) (s : List Slot) → taken (take n s) s ≡ Some (drop n s)
taken_front zero s = refl
taken_front (suc n) [] = refl
taken_front (suc n) (x ∷ s) = ap (λ t. cond t (taken (take n s) s) None) (slot_itself x) ∙ taken_front n s

heads_first : (k x : Slot) (ks s t : List Slot) (same : Bool) → same_slots k x ≡ same → cond same (taken ks s) None ≡ Some t → (taken ks s ≡ Some t → take (length ks) s ≡ ks) → x ∷ take (length ks) s ≡ k ∷ ks
heads_first k x ks s t true e h ih = (λ i. sym (one_slot k x e) i ∷ ih h i)
heads_first k x ks s t false e h ih = cc

taken_are_first : (ks s t : List Slot) → taken ks s ≡ Some t → take (length ks) s ≡ ks
taken_are_first [] s t h = refl
taken_are_first (k ∷ ks) [] t h = cc
taken_are_first (k ∷ ks) (x ∷ s) t h = heads_first k x ks s t (same_slots k x) refl h (taken_are_first ks s t)

pub window_fits : (ks s : List Slot) → numeral_of (take 31 s) ≡ numeral_of ks → taken ks s ≡ Some (drop 31 s)
window_fits ks s e = ap (λ front. taken front s) (sym (one_numeral (take 31 s) ks e)) ∙ taken_front 31 s

pub window_differs : (ks s : List Slot) → length ks ≡ 31 → ¬ (numeral_of (take 31 s) ≡ numeral_of ks) → (left : Option (List Slot)) → taken ks s ≡ left → None ≡ left
window_differs ks s l n None e = refl
window_differs ks s l n (Some t) e = absurd (n (ap numeral_of (subst (λ m. take m s ≡ ks) l (taken_are_first ks s t e))))

-- ---- what lies below

one_dropped : {X : Type 0} (n : ℕ) (xs : List X) → drop (suc n) xs ≡ drop 1 (drop n xs)
one_dropped zero xs = refl
one_dropped (suc n) [] = refl
one_dropped (suc n) (x ∷ xs) = one_dropped n xs

pub one_lower : {X : Type 0} (n : ℕ) (xs : List X) → drop (n + 1) xs ≡ drop 1 (drop n xs)
one_lower n xs = ap (λ m. drop m xs) (add-one n) ∙ one_dropped n xs
