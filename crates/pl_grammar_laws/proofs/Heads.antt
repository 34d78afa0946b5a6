-- The first token of what begins a phrase.
use Rattle.std.proofs.Common.{◌≡◌, ℕ, zero, suc, true, List, [], ◌∷◌, ◌++◌, sym, ap, subst, ◌∙◌, inl, inr}
use Rattle.pl_grammar.specs.declared.terminal.Terminal.{Terminal}
use Rattle.pl_grammar.specs.Lexeme.{Lexeme, matches, class_of, next}
use Rattle.pl_grammar.specs.Grammar.{Form, TreeOf, Symbol, token, phrase, repeated, optional, symbols}
use Rattle.pl_grammar.specs.Firsts.{first}
use Rattle.pl_grammar.specs.Derives.{Derives, BeginsSymbols, Begins}
use Rattle.pl_grammar_laws.proofs.Certificates.{heads, is_led, led, begun}
use Rattle.pl_grammar_laws.proofs.Sound.{Relation, Leads, leads}

pub begun_first : (D : Relation) (B : Form → List Lexeme → Type 0) → ((f : Form) (v : TreeOf f) (x after : List Lexeme) → D f v x after → Leads f x) → ((f : Form) (l : Lexeme) (y : List Lexeme) → B f (l ∷ y) → first f (class_of l) ≡ true)
    → (ss : List Symbol) (l : Lexeme) (y : List Lexeme) → is_led ss ≡ true → BeginsSymbols D B ss (l ∷ y) → heads ss (class_of l) ≡ true
begun_first D B lead head [] l y e h = absurd cc
begun_first D B lead head (token take w ∷ ss) l y e (inl h) = absurd (cc h)
begun_first D B lead head (token take w ∷ ss) l y e (inr h) =
    let is : class_of l ≡ class_of h.4.0 = ap next (h.3 ∙ ap (λ (u : List Lexeme). u ++ h.2) h.4.1) in
    subst (λ (q : Terminal). matches w q ≡ true) (sym is) h.4.2
begun_first D B lead head (phrase f ∷ ss) l y e (inl h) = head f l y h
begun_first D B lead head (phrase f ∷ ss) l y e (inr h) =
    let a = lead f h.0 h.1 h.2 h.4 in
    let is : class_of l ≡ class_of a.0 = ap next (h.3 ∙ ap (λ (u : List Lexeme). u ++ h.2) a.2) in
    subst (λ (q : Terminal). first f q ≡ true) (sym is) a.3
begun_first D B lead head (repeated f ∷ ss) l y e h = absurd cc
begun_first D B lead head (optional f ∷ ss) l y e h = absurd cc

pub form_first : (n : ℕ) (f : Form) (l : Lexeme) (y : List Lexeme) → Begins n f (l ∷ y) → first f (class_of l) ≡ true
form_first zero f l y h = absurd (cc h)
form_first (suc n) f l y (inl h) = absurd (cc h)
form_first (suc n) f l y (inr h) = begun h.0 (class_of l) (begun_first (Derives n) (Begins n) (leads n) (form_first n) (symbols h.0) l y (led h.0) h.2)
