-- Parts with a blank between them.
use Rattle.std.proofs.Common.{◌≡◌, ℕ, ◌+◌, true, false, not, List, [], ◌∷◌, ◌++◌, length, take, drop, get_or, Option, Some, None, refl, sym, subst, ap, ◌∙◌, arith}
use Rattle.std.specs.Prelude.{nat_lt, option_and_then}
use Rattle.std.specs.List.{list_all, position_or_len, before_first, after_first}
use Rattle.std.proofs.lemmas.Bool.{and_parts, ltb-true, eqb-true, lt-ltb, cond-true, cond-false, ne_eqb, false_from_ne_true}
use Rattle.std.proofs.lemmas.Option.{cond_some, option_and_then_some, same_Some}
use Rattle.std.proofs.lemmas.List.Sums.{split_at_first, passes_at_first}
use Rattle.std.proofs.lemmas.List.{length-append}
use Rattle.std.proofs.Math.Seq.{take-append_seam, drop-append-add}
use Rattle.listing_parts.specs.Split.{is_blank, is_plain, split_at_blank, both, spaced}
use Rattle.listing_parts.proofs.Forms.{IsForm}

-- each byte is one of ASCII that is printed
abbrev pub IsPlain : List ℕ → Type 0
IsPlain s = list_all is_plain s ≡ true

-- a plain text has no blank
plain_place : (a : List ℕ) → IsPlain a → position_or_len is_blank a ≡ length a
plain_place [] p = refl
plain_place (x ∷ xs) p =
    let parts = and_parts (is_plain x) (list_all is_plain xs) p in
    let low = ltb-true 32 x (and_parts (nat_lt 32 x) (nat_lt x 127) parts.0).0 in
    let other : is_blank x ≡ false = ne_eqb x 32 (λ e. omega arith) in
    cond-true _ _ _ (ap not other) ∙ omega (arith, plain_place xs parts.1)

pub split_none : (a : List ℕ) → IsPlain a → split_at_blank a ≡ None
unfolding split_at_blank
split_none a p = cond-false _ _ _ (false_from_ne_true _ (λ h. let below = ltb-true (position_or_len is_blank a) (length a) h in let e = plain_place a p in omega arith))

-- where the first part has no blank, the first blank ends it
blank_place : (a b : List ℕ) → IsPlain a → position_or_len is_blank (a ++ 32 ∷ b) ≡ length a
blank_place [] b p = refl
blank_place (x ∷ xs) b p =
    let parts = and_parts (is_plain x) (list_all is_plain xs) p in
    let low = ltb-true 32 x (and_parts (nat_lt 32 x) (nat_lt x 127) parts.0).0 in
    let other : is_blank x ≡ false = ne_eqb x 32 (λ e. omega arith) in
    cond-true _ _ _ (ap not other) ∙ omega (arith, blank_place xs b parts.1)

pub split_back : (a b : List ℕ) → IsPlain a → split_at_blank (a ++ 32 ∷ b) ≡ Some (a, b)
unfolding split_at_blank
split_back a b p =
    let place = blank_place a b p in
    let within : nat_lt (position_or_len is_blank (a ++ 32 ∷ b)) (length (a ++ 32 ∷ b)) ≡ true = lt-ltb _ _ (omega (arith, length-append a (32 ∷ b), place)) in
    let front : before_first is_blank (a ++ 32 ∷ b) ≡ a = ap (λ n. take n (a ++ 32 ∷ b)) place ∙ take-append_seam a (32 ∷ b) in
    let behind : after_first is_blank (a ++ 32 ∷ b) ≡ b = ap (λ n. drop (n + 1) (a ++ 32 ∷ b)) place ∙ drop-append-add a (32 ∷ b) 1 in
    cond-true _ _ _ within ∙ ap (λ x. Some (x, after_first is_blank (a ++ 32 ∷ b))) front ∙ ap (λ x. Some (a, x)) behind

pub split_sound : (s a b : List ℕ) → split_at_blank s ≡ Some (a, b) → a ++ 32 ∷ b ≡ s
unfolding split_at_blank
split_sound s a b h =
    let p = cond_some (nat_lt (position_or_len is_blank s) (length s)) (before_first is_blank s, after_first is_blank s) (a, b) h in
    let within = ltb-true (position_or_len is_blank s) (length s) p.0 in
    let whole = split_at_first is_blank s 0 within in
    let is : get_or s (position_or_len is_blank s) 0 ≡ 32 = eqb-true _ _ (passes_at_first is_blank s 0 within) in
    sym (whole ∙ ap (λ x. before_first is_blank s ++ x ∷ after_first is_blank s) is ∙ ap (λ q. q.0 ++ 32 ∷ q.1) p.1)

-- two parts are read back, and nothing else is
pub both_form : {A B : Type 0} {f : A → List ℕ} {g : B → List ℕ} {F : A → Type 0} {G : B → Type 0} {r : List ℕ → Option A} {q : List ℕ → Option B}
    → IsForm f F r → ((x : A) → F x → IsPlain (f x)) → IsForm g G q
    → IsForm (λ (p : A × B). spaced (f p.0) (g p.1)) (λ (p : A × B). F p.0 × G p.1) (both r q)
unfolding both
both_form {A} {B} {f} {g} {F} {G} {r} {q} first plain second = record {
  sound = λ s x h. option_and_then_some (λ (p : List ℕ × List ℕ). option_and_then (λ a. option_and_then (λ b. Some (a, b)) (q p.1)) (r p.0)) (split_at_blank s) x h
      (λ p e h1. option_and_then_some (λ a. option_and_then (λ b. Some (a, b)) (q p.1)) (r p.0) x h1
      (λ a e1 h2. option_and_then_some (λ b. Some (a, b)) (q p.1) x h2
      (λ b e2 h3.
      let one = first.sound p.0 a e1 in
      let two = second.sound p.1 b e2 in
      let same = same_Some (a, b) x h3 in (
        subst (λ (z : A × B). F z.0 × G z.1) same (one.0, two.0),
        ap (λ (z : A × B). spaced (f z.0) (g z.1)) (sym same) ∙ ap (λ t. t ++ 32 ∷ g b) one.1 ∙ ap (λ t. p.0 ++ 32 ∷ t) two.1 ∙ split_sound s p.0 p.1 e,
      ))));
  complete = λ x h.
      ap (option_and_then (λ (p : List ℕ × List ℕ). option_and_then (λ a. option_and_then (λ b. Some (a, b)) (q p.1)) (r p.0))) (split_back (f x.0) (g x.1) (plain x.0 h.0))
      ∙ ap (option_and_then (λ a. option_and_then (λ b. Some (a, b)) (q (g x.1)))) (first.complete x.0 h.0)
      ∙ ap (option_and_then (λ b. Some (x.0, b))) (second.complete x.1 h.1);
}
