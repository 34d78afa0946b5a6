-- What a phrase begins with.
use Rattle.std.proofs.Common.{◌≡◌, ℕ, zero, suc, Bool, true, false, List, [], ◌∷◌, ◌++◌, refl, ap, ◌∙◌}
use Rattle.pl_grammar.specs.declared.terminal.Terminal.{Terminal}
use Rattle.pl_grammar.specs.declared.level.Level.TheVariants as lv
use Rattle.pl_grammar.specs.declared.level.Looser.{Looser}
use Rattle.pl_grammar.specs.declared.level.Looser.TheVariants as lo
use Rattle.pl_grammar.specs.Lexeme.{Lexeme, same_terminal, matches, class_of}
use Rattle.pl_grammar.specs.Grammar.{Form, binary, operation, comma, TreeOf, Symbol, token, phrase, repeated, optional, Trees, Production, functions, joins, further, after_comma, symbols}
use Rattle.pl_grammar.specs.Firsts.{first}
use Rattle.pl_grammar.specs.Derives.{DerivesSymbols, Derives}
use Rattle.pl_grammar_plain.proofs.Tests.{every, implies, tested}

-- the tokens that a production begins with, where that is a token or a phrase
abbrev pub heads : List Symbol → Terminal → Bool
heads (token take w ∷ ss) terminal = matches w terminal
heads (phrase f ∷ ss) terminal = first f terminal
heads _ terminal = false

abbrev is_led : List Symbol → Bool
is_led (token take w ∷ ss) = true
is_led (phrase f ∷ ss) = true
is_led _ = false

pub led : {f : Form} (p : Production f) → is_led (symbols p) ≡ true
led functions = refl
led _ = refl

-- what a production begins with begins its form
join_begins : (l : Looser) → every (λ c. implies (heads (symbols (joins l)) c) (first (binary (lv.Looser l)) c)) ≡ true
join_begins lo.Sum = refl
join_begins _ = refl

further_begins : (l : Looser) → every (λ c. implies (heads (symbols (further l)) c) (first (operation (lv.Looser l)) c)) ≡ true
unfolding same_terminal
further_begins lo.Sum = refl
further_begins _ = refl

comma_begins : (g : Form) → every (λ c. implies (heads (symbols (after_comma g)) c) (first (comma g) c)) ≡ true
unfolding same_terminal
comma_begins g = refl

begins : {f : Form} (p : Production f) → every (λ c. implies (heads (symbols p) c) (first f c)) ≡ true
unfolding same_terminal
begins functions = refl
begins (joins l) = join_begins l
begins (further l) = further_begins l
begins (after_comma g) = comma_begins g
begins _ = refl

abbrev pub Leads : Form → List Lexeme → Type 0
Leads f x = (l : Lexeme) × (rest : List Lexeme) × (x ≡ l ∷ rest) × (first f (class_of l) ≡ true)

pub first_symbol : (D : (f : Form) → TreeOf f → List Lexeme → List Lexeme → Type 0) → ((f : Form) (v : TreeOf f) (x after : List Lexeme) → D f v x after → Leads f x)
    → (ss : List Symbol) (vs : Trees ss) (x after : List Lexeme) → is_led ss ≡ true → DerivesSymbols D ss vs x after
    → (l : Lexeme) × (rest : List Lexeme) × (x ≡ l ∷ rest) × (heads ss (class_of l) ≡ true)
first_symbol D lead [] vs x after e h = absurd cc
first_symbol D lead (token take w ∷ ss) vs x after e h =
    (h.3.0, h.1, h.2 ∙ ap (λ (u : List Lexeme). u ++ h.1) h.3.1, h.3.2)
first_symbol D lead (phrase f ∷ ss) vs x after e h =
    let a = lead f vs.0 h.0 (h.1 ++ after) h.3 in
    (a.0, a.1 ++ h.1, h.2 ∙ ap (λ (u : List Lexeme). u ++ h.1) a.2, a.3)
first_symbol D lead (repeated f ∷ ss) vs x after e h = absurd cc
first_symbol D lead (optional f ∷ ss) vs x after e h = absurd cc

pub leads : (n : ℕ) (f : Form) (v : TreeOf f) (x after : List Lexeme) → Derives n f v x after → Leads f x
leads zero f v x after h = absurd h
leads (suc n) f v x after h =
    let a = first_symbol (Derives n) (leads n) (symbols h.0) h.1 x after (led h.0) h.4 in
    (a.0, a.1, a.2, tested (heads (symbols h.0)) (first f) (class_of a.0) (begins h.0) a.3)
