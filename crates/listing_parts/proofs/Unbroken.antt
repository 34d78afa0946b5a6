-- The parts of a line are text, and have no newline.
use Rattle.std.proofs.Common.{◌≡◌, ℕ, ◌/◌, ◌%◌, ◌<◌, ◌≤◌, Bool, true, false, not, ◌&&◌, ◌||◌, List, [], ◌∷◌, ◌++◌, length, refl, sym, subst, ap, ◌∙◌, arith, inl, inr}
use Rattle.std.specs.Prelude.{nat_lt, ◌==◌}
use Rattle.std.specs.List.{list_all, flat_map}
use Rattle.std.specs.Str.{IsUtf8, IsAscii, chars, is_utf8}
use Rattle.std.proofs.Math.Utf8.{scalar, scalars}
use Rattle.std.proofs.lemmas.Bool.{and_parts, and_from, ltb-true, ltb-false, lt-ltb, cond_both, ne_eqb, cases_lt, eqb-true, or_cases}
use Rattle.std.proofs.lemmas.List.Folds.{list_all-append}
use Rattle.std.proofs.lemmas.List.Sums.{AllPass-from_list_all}
use Rattle.std.proofs.lemmas.List.{get_or_past}
use Rattle.std.proofs.lemmas.Str.{IsUtf8-append, IsUtf8-from_ascii, IsUtf8-encode, IsUtf8-from_is_utf8, IsUtf8-nil, scalars-chars, encode_ascii}
use Rattle.listing_parts.specs.Split.{is_plain, spaced}
use Rattle.listing_parts.specs.Quoted.{hex_digit, escaped, escaped_letter, quoted}
use Rattle.listing_parts.proofs.Parts.{IsPlain}
use Rattle.listing_parts.proofs.Clean.{all_weaker}
use Rattle.listing_parts.proofs.Escapes.{letter_kept, text_letters}

abbrev pub other_than_newline : ℕ → Bool
other_than_newline b = not (b == 10)

pub record IsUnbroken (s : List ℕ) : Type 0 where
  pub unbroken : list_all other_than_newline s ≡ true
  pub text : IsUtf8 s

ascii : (s : List ℕ) → list_all (λ b. nat_lt b 128) s ≡ true → IsAscii s
ascii s h i = elim (cases_lt i (length s)) [
  | inl within ↦ ltb-true _ 128 (AllPass-from_list_all (λ b. nat_lt b 128) s h i 0 within)
  | inr past ↦ (let e = get_or_past s i 0 past in omega arith)
]

other : (b : ℕ) → (b ≡ 10 → ⊥) → other_than_newline b ≡ true
other b n = ap not (ne_eqb b 10 n)

pub unbroken_plain : (s : List ℕ) → IsPlain s → IsUnbroken s
unbroken_plain s h = record {
  unbroken = all_weaker is_plain other_than_newline (λ b p. let low = ltb-true 32 b (and_parts (nat_lt 32 b) (nat_lt b 127) p).0 in other b (λ e. omega arith)) s h;
  text = IsUtf8-from_ascii s (ascii s (all_weaker is_plain (λ b. nat_lt b 128) (λ b p. let high = ltb-true b 127 (and_parts (nat_lt 32 b) (nat_lt b 127) p).1 in lt-ltb b 128 (omega arith)) s h));
}

pub unbroken-append : (a b : List ℕ) → IsUnbroken a → IsUnbroken b → IsUnbroken (a ++ b)
unbroken-append a b h k = record {
  unbroken = list_all-append other_than_newline a b ∙ and_from (list_all other_than_newline a) (list_all other_than_newline b) h.unbroken k.unbroken;
  text = IsUtf8-append a b h.text k.text;
}

-- a text that the check sees through
pub unbroken_ascii : (s : List ℕ) → list_all other_than_newline s ≡ true → list_all (λ b. nat_lt b 128) s ≡ true → IsUnbroken s
unbroken_ascii s h k = record { unbroken = h; text = IsUtf8-from_ascii s (ascii s k) }

pub unbroken_spaced : (a b : List ℕ) → IsUnbroken a → IsUnbroken b → IsUnbroken (spaced a b)
unbroken_spaced a b h k = unbroken-append a (32 ∷ b) h (unbroken-append (32 ∷ []) b (unbroken_ascii (32 ∷ []) refl refl) k)

digit_range : (n : ℕ) → n < 16 → (48 ≤ hex_digit n) × (hex_digit n < 128)
digit_range n l = cond_both (nat_lt n 10) _ _ (λ d. (48 ≤ d) × (d < 128)) (λ e. let below = ltb-true n 10 e in (omega arith, omega arith)) (λ _. (omega arith, omega arith))

-- what holds of `\`, of `x`, of the byte itself and of digits holds of its escape
escape_all : (p : ℕ → Bool) (b : ℕ) → p 92 ≡ true → p 120 ≡ true → ((n : ℕ) → n < 16 → p (hex_digit n) ≡ true) → (((b == 92) || (b == 34)) ≡ true → p b ≡ true) → (nat_lt b 32 ≡ false → p b ≡ true) → list_all p (escaped b) ≡ true
escape_all p b slash letter digit mark large =
    cond_both ((b == 92) || (b == 34)) _ _ (λ e. list_all p e ≡ true)
    (λ m. and_from (p 92) (p b && true) slash (and_from (p b) true (mark m) refl))
    (λ _. cond_both (nat_lt b 32) _ _ (λ e. list_all p e ≡ true)
    (λ small.
    let below = ltb-true b 32 small in
    and_from (p 92) _ slash (and_from (p 120) _ letter (and_from (p (hex_digit (b / 16))) _ (digit (b / 16) (omega arith)) (and_from (p (hex_digit (b % 16))) true (digit (b % 16) (omega arith)) refl))))
    (λ l. and_from (p b) true (large l) refl))

escaped_low : (b : ℕ) → b < 128 → list_all (λ x. nat_lt x 128) (escaped b) ≡ true
escaped_low b l = escape_all (λ x. nat_lt x 128) b refl refl (λ n h. lt-ltb _ 128 (digit_range n h).1) (λ _. lt-ltb b 128 l) (λ _. lt-ltb b 128 l)

escaped_unbroken : (b : ℕ) → list_all other_than_newline (escaped b) ≡ true
escaped_unbroken b = escape_all other_than_newline b refl refl
    (λ n h. let range = digit_range n h in other _ (λ e. omega arith))
    (λ mark. elim (or_cases (b == 92) (b == 34) mark) [
      | inl x ↦ (let is = eqb-true b 92 x in other b (λ e. omega arith))
      | inr x ↦ (let is = eqb-true b 34 x in other b (λ e. omega arith))
    ])
    (λ large. let above = ltb-false b 32 large in other b (λ e. omega arith))

all_unbroken : (t : List ℕ) → list_all other_than_newline (flat_map escaped t) ≡ true
all_unbroken [] = refl
all_unbroken (b ∷ bs) = list_all-append other_than_newline (escaped b) (flat_map escaped bs) ∙ and_from _ _ (escaped_unbroken b) (all_unbroken bs)

letter_text : (c : ℕ) → scalar c ≡ true → IsUtf8 (escaped_letter c)
letter_text c h = elim (cases_lt c 128) [
  | inl low ↦ (let one : escaped_letter c ≡ escaped c ++ [] = ap (flat_map escaped) (encode_ascii c low) in
      subst IsUtf8 (sym one) (IsUtf8-append (escaped c) [] (IsUtf8-from_ascii (escaped c) (ascii (escaped c) (escaped_low c low))) IsUtf8-nil))
  | inr high ↦ subst IsUtf8 (sym (letter_kept c (λ e. omega arith) (λ e. omega arith) (omega arith))) (IsUtf8-encode c h)
]

letters_text : (cs : List ℕ) → scalars cs ≡ true → IsUtf8 (flat_map escaped_letter cs)
letters_text [] h = IsUtf8-nil
letters_text (c ∷ cs) h =
    let parts = and_parts (scalar c) (scalars cs) h in
    IsUtf8-append (escaped_letter c) (flat_map escaped_letter cs) (letter_text c parts.0) (letters_text cs parts.1)

pub unbroken_quoted : (t : List ℕ) → is_utf8 t ≡ true → IsUnbroken (quoted t)
unfolding quoted
unbroken_quoted t h =
    let u = IsUtf8-from_is_utf8 t h in
    let inner : IsUnbroken (flat_map escaped t) = record {
      unbroken = all_unbroken t;
      text = subst IsUtf8 (text_letters t u) (letters_text (chars t) (scalars-chars t u));
    } in
    let quote : IsUnbroken (34 ∷ []) = unbroken_ascii (34 ∷ []) refl refl in
    unbroken-append (34 ∷ []) (flat_map escaped t ++ 34 ∷ []) quote (unbroken-append (flat_map escaped t) (34 ∷ []) inner quote)
