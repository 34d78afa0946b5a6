-- Something leads a text, or nothing does.
use Rattle.std.proofs.Common.{◌≡◌, ℕ, zero, suc, ◌≤◌, List, ◌++◌, length, take, drop, Option, Some, None, sym, refl, ap, ◌∙◌, subst, arith, ⊎_elim, inl, inr, ◌⊎◌}
use Rattle.std.specs.Prelude.{IsSome}
use Rattle.std.proofs.lemmas.Bool.{false≢true}
use Rattle.std.proofs.lemmas.List.{length-append, take-append-drop, length-take-le}
use Rattle.std.proofs.str.Laws.{order}
use Rattle.pl_lexer.specs.Lexeme.{Lexeme}
use Rattle.pl_lexer.specs.Longest.{Leads, NothingLeads}
use Rattle.pl_lexer.proofs.Leading.{same_parts}

-- something that leads
pub record Led (f : List ℕ → List ℕ → Option Lexeme) (text : List ℕ) : Type 0 where
  pub front : List ℕ
  pub behind : List ℕ
  pub lexeme : Lexeme
  pub leads : Leads f text front behind lexeme

abbrev AtMost : (List ℕ → List ℕ → Option Lexeme) → List ℕ → ℕ → Type 0
AtMost f text n = (more left : List ℕ) → more ++ left ≡ text → IsSome (f more left) → length more ≤ n

-- the front of n bytes leads, if it spells something and no longer one does
led_here : (f : List ℕ → List ℕ → Option Lexeme) (text : List ℕ) (n : ℕ) (l : Lexeme) → n ≤ length text → AtMost f text n → f (take n text) (drop n text) ≡ Some l → Led f text
led_here f text n l within most spells = record {
  front = take n text;
  behind = drop n text;
  lexeme = l;
  leads = record { parts = take-append-drop n text; spells = spells; longest = λ more left e some. let bound = most more left e some in omega (arith, length-take-le n text within) };
}

-- a front of n bytes that spells nothing
none_here : (f : List ℕ → List ℕ → Option Lexeme) (text more left : List ℕ) (n : ℕ) → n ≤ length text → f (take n text) (drop n text) ≡ None → more ++ left ≡ text → length more ≡ n → IsSome (f more left) → ⊥
none_here f text more left n within none e long some =
    let same = same_parts more left (take n text) (drop n text) (e ∙ sym (take-append-drop n text)) (long ∙ sym (length-take-le n text within)) in
    let fronts = same.0 in
    let behinds = same.1 in
    let same_spell : f more left ≡ f (take n text) (drop n text) = cc in
    false≢true (subst IsSome (same_spell ∙ none) some)

lead_below : (f : List ℕ → List ℕ → Option Lexeme) (text : List ℕ) (n : ℕ) → n ≤ length text → AtMost f text n → Led f text ⊎ NothingLeads f text
lead_below f text zero within most = at_answer (f (take 0 text) (drop 0 text)) refl where
  at_answer : (o : Option Lexeme) → f (take 0 text) (drop 0 text) ≡ o → Led f text ⊎ NothingLeads f text
  at_answer (Some l) e = inl (led_here f text 0 l within most e)
  at_answer None e = inr (λ more left parts some. none_here f text more left 0 within e parts (omega (arith, most more left parts some)) some)
lead_below f text (suc n) within most = at_answer (f (take (suc n) text) (drop (suc n) text)) refl (lead_below f text n) where
  at_answer : (o : Option Lexeme) → f (take (suc n) text) (drop (suc n) text) ≡ o → (n ≤ length text → AtMost f text n → Led f text ⊎ NothingLeads f text) → Led f text ⊎ NothingLeads f text
  at_answer (Some l) e below = inl (led_here f text (suc n) l within most e)
  at_answer None e below = below (omega arith) (λ more left parts some. ⊎_elim (λ less. omega arith) (λ great. absurd (none_here f text more left (suc n) within e parts (omega (arith, most more left parts some)) some)) (order (length more) (suc n)))

-- something leads, or nothing does
pub leads_or_not : (f : List ℕ → List ℕ → Option Lexeme) (text : List ℕ) → Led f text ⊎ NothingLeads f text
leads_or_not f text = lead_below f text (length text) (omega arith) (λ more left e some. omega (arith, ap length e, length-append more left))
