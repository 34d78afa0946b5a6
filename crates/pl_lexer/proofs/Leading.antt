-- At most one lexeme leads a text.
use Rattle.std.proofs.Common.{◌≡◌, ℕ, ◌<◌, Bool, List, [], ◌∷◌, ◌++◌, length, take, drop, Option, Some, None, sym, refl, ap, ◌∙◌, arith, length-append}
use Rattle.std.proofs.lemmas.List.{take_at, drop_at}
use Rattle.pl_lexer.specs.Lexeme.{Lexeme}
use Rattle.pl_lexer.specs.Longest.{Leads, NothingLeads}
use Rattle.pl_lexer.proofs.Tested.{some_is}
use Rattle.pl_lexer.specs.Spelling.{spelling}
use Rattle.pl_lexer.specs.Tables.{sign_of}

-- two ways to cut a list at one place
pub same_parts : (a b c d : List ℕ) → a ++ b ≡ c ++ d → length a ≡ length c → (a ≡ c) × (b ≡ d)
same_parts a b c d same lengths = (
  sym (take_at a b (length c) lengths) ∙ ap (take (length c)) same ∙ take_at c d (length c) refl,
  sym (drop_at a b (length c) lengths) ∙ ap (drop (length c)) same ∙ drop_at c d (length c) refl,
)

-- two lexemes that lead one text are one
pub record SameLead (front behind front' behind' : List ℕ) (l l' : Lexeme) : Type 0 where
  pub fronts : front ≡ front'
  pub behinds : behind ≡ behind'
  pub lexemes : l ≡ l'

pub Leads-same : (f : List ℕ → List ℕ → Option Lexeme) (text front behind front' behind' : List ℕ) (l l' : Lexeme) → Leads f text front behind l → Leads f text front' behind' l' → SameLead front behind front' behind' l l'
Leads-same f text front behind front' behind' l l' a b =
    let low = a.longest front' behind' b.parts (some_is _ _ b.spells) in
    let high = b.longest front behind a.parts (some_is _ _ a.spells) in
    let lengths : length front ≡ length front' = omega arith in
    let same = same_parts front behind front' behind' (a.parts ∙ sym b.parts) lengths in
    let fronts = same.0 in
    let behinds = same.1 in
    let spell : f front behind ≡ f front' behind' = cc in
    let joined : Some l ≡ Some l' = sym a.spells ∙ spell ∙ b.spells in
    record { fronts = fronts; behinds = behinds; lexemes = cc }

-- where nothing leads, no lexeme does
pub nothing_and_leads : (f : List ℕ → List ℕ → Option Lexeme) (text front behind : List ℕ) (l : Lexeme) → NothingLeads f text → Leads f text front behind l → ⊥
nothing_and_leads f text front behind l nothing a = nothing front behind a.parts (some_is _ _ a.spells)

-- no bytes spell nothing
pub spelling-nil : (names : List ℕ → Option ℕ) (dot : Bool) (behind : List ℕ) → spelling names dot [] behind ≡ None
unfolding spelling sign_of
spelling-nil names dot behind = refl

pub Leads-some : (names : List ℕ → Option ℕ) (dot : Bool) (text front behind : List ℕ) (l : Lexeme) → Leads (spelling names dot) text front behind l → 0 < length front
Leads-some names dot text [] behind l a = let none = spelling-nil names dot behind in let some = a.spells in absurd (cc)
Leads-some names dot text (b ∷ bs) behind l a = omega arith

-- nothing leads the empty text
pub nil_not_led : (names : List ℕ → Option ℕ) (dot : Bool) (text front behind : List ℕ) (l : Lexeme) → text ≡ [] → Leads (spelling names dot) text front behind l → ⊥
nil_not_led names dot text front behind l empty a =
    omega (arith, ap length a.parts, length-append front behind, ap length empty, Leads-some names dot text front behind l a)
