-- How texts stand to names, part by part.
use Rattle.std.proofs.Common.{◌≡◌, ℕ, ◌<◌, List, [], ◌∷◌, ◌++◌, length, take, drop, refl, sym, ap, ◌∙◌, arith}
use Rattle.std.specs.Cmp.Lexicographic.{slice_cmp}
use Rattle.std.specs.Ordering.{nat_cmp, ordering_then}
use Rattle.std.specs.declared.cmp.Ordering.{Ordering}
use Rattle.std.specs.declared.cmp.Ordering.TheVariants.{Less, Equal, Greater}
use Rattle.std.proofs.lemmas.List.{take-append-drop}

-- a text that is shorter than a prefix stands to the whole as to the prefix
pub cmp_shorter : (text prefix more : List ℕ) → length text < length prefix → slice_cmp nat_cmp text (prefix ++ more) ≡ slice_cmp nat_cmp text prefix
cmp_shorter [] [] more h = absurd (omega (arith, h))
cmp_shorter (x ∷ xs) [] more h = absurd (omega (arith, h))
cmp_shorter [] (p ∷ ps) more h = refl
cmp_shorter (x ∷ xs) (p ∷ ps) more h = let k : length xs < length ps = omega (arith, h) in ap (ordering_then (nat_cmp x p)) (cmp_shorter xs ps more k)

then_assoc : (a b c : Ordering) → ordering_then a (ordering_then b c) ≡ ordering_then (ordering_then a b) c
then_assoc Less b c = refl
then_assoc Equal b c = refl
then_assoc Greater b c = refl

-- two texts part by part
pub cmp_parts : (front back prefix more : List ℕ) → length front ≡ length prefix → slice_cmp nat_cmp (front ++ back) (prefix ++ more) ≡ ordering_then (slice_cmp nat_cmp front prefix) (slice_cmp nat_cmp back more)
cmp_parts [] back [] more h = refl
cmp_parts [] back (p ∷ ps) more h = absurd (omega (arith, h))
cmp_parts (x ∷ xs) back [] more h = absurd (omega (arith, h))
cmp_parts (x ∷ xs) back (p ∷ ps) more h =
    let k : length xs ≡ length ps = omega (arith, h) in
    ap (ordering_then (nat_cmp x p)) (cmp_parts xs back ps more k) ∙ then_assoc (nat_cmp x p) (slice_cmp nat_cmp xs ps) (slice_cmp nat_cmp back more)

pub cmp_split : (text front back prefix more : List ℕ) (n : ℕ) → front ≡ take n text → back ≡ drop n text → length front ≡ length prefix → ordering_then (slice_cmp nat_cmp front prefix) (slice_cmp nat_cmp back more) ≡ slice_cmp nat_cmp text (prefix ++ more)
cmp_split text front back prefix more n e f h =
    sym (cmp_parts front back prefix more h)
    ∙ ap (λ t. slice_cmp nat_cmp (t ++ back) (prefix ++ more)) e ∙ ap (λ t. slice_cmp nat_cmp (take n text ++ t) (prefix ++ more)) f
    ∙ ap (λ t. slice_cmp nat_cmp t (prefix ++ more)) (take-append-drop n text)
