-- Letters in quotes.
use Rattle.std.proofs.Common.{◌≡◌, ℕ, ◌≤◌, List, [], ◌∷◌, ◌++◌, refl, sym, ap, ◌∙◌, arith, ltb, inl, inr}
use Rattle.std.specs.Prelude.{encode_utf8}
use Rattle.std.specs.List.{flat_map}
use Rattle.std.specs.Str.{IsUtf8, chars}
use Rattle.std.proofs.Math.Utf8.{encode, encodes}
use Rattle.std.proofs.lemmas.Bool.{cond_both, ltb-true, cases_lt}
use Rattle.std.proofs.lemmas.Bool.Decides.{nat_tests}
use Rattle.std.proofs.lemmas.Str.{encode_ascii, encodes-chars}
use Rattle.std.proofs.lemmas.List.Concat.{flat_map-append}
use Rattle.listing_parts.specs.Quoted.{escaped, escaped_letter}

abbrev pub AllHigh : List ℕ → Type 0
AllHigh [] = Unit {0}
AllHigh (b ∷ bs) = (128 ≤ b) × AllHigh bs

pub escaped_other : (b : ℕ) → (b ≡ 92 → ⊥) → (b ≡ 34 → ⊥) → 32 ≤ b → escaped b ≡ b ∷ []
escaped_other b n m l = grind (arith, nat_tests)

high_kept : (bs : List ℕ) → AllHigh bs → flat_map escaped bs ≡ bs
high_kept [] h = refl
high_kept (b ∷ bs) h =
    let high : 128 ≤ b = h.0 in
    ap (λ e. e ++ flat_map escaped bs) (escaped_other b (λ e. omega arith) (λ e. omega arith) (omega arith)) ∙ ap (λ t. b ∷ t) (high_kept bs h.1)

encode_high : (c : ℕ) → 128 ≤ c → AllHigh (encode c)
unfolding encode
encode_high c l =
    cond_both (ltb c 128) _ _ AllHigh (λ e. let below = ltb-true _ _ e in absurd (omega arith))
    (λ _. cond_both (ltb c 2048) _ _ AllHigh (λ _. (omega arith, (omega arith, tt)))
    (λ _. cond_both (ltb c 65536) _ _ AllHigh (λ _. (omega arith, (omega arith, (omega arith, tt))))
    (λ _. (omega arith, (omega arith, (omega arith, (omega arith, tt)))))))

-- a letter that has no escape stands as it is
pub letter_kept : (c : ℕ) → (c ≡ 92 → ⊥) → (c ≡ 34 → ⊥) → 32 ≤ c → escaped_letter c ≡ encode_utf8 c
letter_kept c n m l = elim (cases_lt c 128) [
  | inl low ↦ ap (flat_map escaped) (encode_ascii c low) ∙ ap (λ e. e ++ []) (escaped_other c n m l) ∙ sym (encode_ascii c low)
  | inr high ↦ high_kept (encode c) (encode_high c high)
]

pub letters : (cs : List ℕ) → flat_map escaped_letter cs ≡ flat_map escaped (encodes cs)
letters [] = refl
letters (c ∷ cs) = ap (λ t. escaped_letter c ++ t) (letters cs) ∙ sym (flat_map-append escaped (encode c) (encodes cs))

pub text_letters : (s : List ℕ) → IsUtf8 s → flat_map escaped_letter (chars s) ≡ flat_map escaped s
text_letters s u = letters (chars s) ∙ ap (flat_map escaped) (encodes-chars s u)
