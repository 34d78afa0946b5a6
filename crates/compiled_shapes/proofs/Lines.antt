-- Kinds along lines: which lines have which, and where a part's lines end.
use Rattle.std.proofs.Common.{◌≡◌, ℕ, zero, suc, ◌+◌, ◌≤◌, List, [], ◌∷◌, ◌++◌, length, Some, refl, ◌∙◌, ap, arith, le_refl, subst}
use Rattle.std.specs.Prelude.{slice_get}
use Rattle.pl_code.specs.declared.kinds.Slot.{Slot}

-- ---- where kinds end

-- the line behind these kinds
abbrev pub end_kinds : ℕ → List (List Slot) → ℕ
end_kinds p [] = p
end_kinds p (k ∷ ks) = end_kinds (suc p) ks

pub record Ends (p : ℕ) (ks : List (List Slot)) (q : ℕ) : Type 0 where
  pub is : end_kinds p ks ≡ q

end_append : (p : ℕ) (xs ys : List (List Slot)) → end_kinds p (xs ++ ys) ≡ end_kinds (end_kinds p xs) ys
end_append p [] ys = refl
end_append p (x ∷ xs) ys = end_append (suc p) xs ys

pub joined : {p q r : ℕ} {xs ys : List (List Slot)} → Ends p xs q → Ends q ys r → Ends p (xs ++ ys) r
joined {p} {q} {r} {xs} {ys} a b = record { is = end_append p xs ys ∙ ap (λ q. end_kinds q ys) a.is ∙ b.is }

pub behind : {p r : ℕ} {ks : List (List Slot)} (k : List Slot) → Ends (suc p) ks r → Ends p (k ∷ ks) r
behind k a = record { is = a.is }

pub ended : {p : ℕ} → Ends p [] p
ended = record { is = refl }

end_grows : (p : ℕ) (ks : List (List Slot)) → p ≤ end_kinds p ks
end_grows p [] = le_refl p
end_grows p (k ∷ ks) = omega (arith, end_grows (suc p) ks)

pub grows : {p q : ℕ} {ks : List (List Slot)} → Ends p ks q → p ≤ q
grows {p} {q} {ks} a = omega (arith, end_grows p ks, a.is)

end_count : (p : ℕ) (ks : List (List Slot)) → end_kinds p ks ≡ p + length ks
end_count p [] = omega arith
end_count p (k ∷ ks) = let e = end_count (suc p) ks in omega (arith, e)

pub count : {q : ℕ} {ks : List (List Slot)} → Ends 0 ks q → length ks ≡ q
count {q} {ks} a = omega (arith, end_count 0 ks, a.is)

-- ---- which lines have them

pub record Has (shapes : List (List Slot)) (p : ℕ) (k : List Slot) : Type 0 where
  pub is : slice_get shapes p ≡ Some k

abbrev pub Each : List (List Slot) → ℕ → List (List Slot) → Type 0
Each shapes p [] = Unit {0}
Each shapes p (k ∷ ks) = Has shapes p k × Each shapes (suc p) ks

-- the lines from one on have these kinds
pub record Have (shapes : List (List Slot)) (p : ℕ) (ks : List (List Slot)) : Type 0 where
  pub each : Each shapes p ks

pub first : {shapes : List (List Slot)} {p : ℕ} {k : List Slot} {ks : List (List Slot)} → Have shapes p (k ∷ ks) → Has shapes p k
first h = h.each.0

pub rest : {shapes : List (List Slot)} {p : ℕ} {k : List Slot} {ks : List (List Slot)} → Have shapes p (k ∷ ks) → Have shapes (suc p) ks
rest h = record { each = h.each.1 }

cut_at : (shapes : List (List Slot)) (p : ℕ) (xs ys : List (List Slot)) → Each shapes p (xs ++ ys) → Each shapes p xs × Each shapes (end_kinds p xs) ys
cut_at shapes p [] ys h = (tt, h)
cut_at shapes p (x ∷ xs) ys h = let r = cut_at shapes (suc p) xs ys h.1 in ((h.0, r.0), r.1)

pub cut : {shapes : List (List Slot)} {p q : ℕ} {xs ys : List (List Slot)} → Ends p xs q → Have shapes p (xs ++ ys) → Have shapes p xs × Have shapes q ys
cut {shapes} {p} {q} {xs} {ys} a h =
    let r = cut_at shapes p xs ys h.each in
    (record { each = r.0 }, record { each = subst (λ q. Each shapes q ys) a.is r.1 })

-- a list has its own kinds
own : (shapes : List (List Slot)) (p : ℕ) (ks : List (List Slot)) → ((j : ℕ) → slice_get shapes (j + p) ≡ slice_get ks j) → Each shapes p ks
own shapes p [] same = tt
own shapes p (k ∷ ks) same =
    let zero_first : zero + p ≡ p = omega arith in
    let later : (j : ℕ) → j + suc p ≡ suc j + p = λ j. omega arith in
    (record { is = ap (slice_get shapes) (subst (λ n. n ≡ zero + p) zero_first refl) ∙ same 0 }, own shapes (suc p) ks (λ j. ap (slice_get shapes) (later j) ∙ same (suc j)))

pub whole : (shapes : List (List Slot)) → Have shapes 0 shapes
whole shapes = let e : (j : ℕ) → j + 0 ≡ j = λ j. omega arith in record { each = own shapes 0 shapes (λ j. ap (slice_get shapes) (e j)) }
