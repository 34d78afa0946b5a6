-- What comes next where symbols are derived.
use Rattle.std.proofs.Common.{◌≡◌, ℕ, Bool, true, false, ◌&&◌, ◌||◌, List, [], ◌∷◌, ◌++◌, Some, None, refl, sym, ap, subst, ◌∙◌}
use Rattle.pl_grammar.specs.declared.terminal.Terminal.{Terminal}
use Rattle.pl_grammar.specs.declared.terminal.Terminal.TheVariants as t
use Rattle.pl_grammar.specs.Lexeme.{Lexeme, matches, next}
use Rattle.pl_grammar.specs.Grammar.{Form, last, separator, otherwise, size, Symbol, token, phrase, repeated, optional, SymbolTree, Trees}
use Rattle.pl_grammar.specs.Firsts.{first, absent}
use Rattle.pl_grammar.specs.Derives.{DerivesSymbol, DerivesSymbols, Derives}
use Rattle.pl_grammar_plain.proofs.Leads.{Leads, leads}
use Rattle.pl_grammar_plain.specs.Plain.{omits, ends}
use Rattle.pl_grammar_plain.proofs.Rows.{comes}
use Rattle.pl_grammar_plain.proofs.Tests.{both}

pub either_left : (a b : Bool) → a ≡ true → a || b ≡ true
either_left true b e = refl
either_left false b e = absurd cc

pub either_right : (a b : Bool) → b ≡ true → a || b ≡ true
either_right true b e = refl
either_right false b e = e

-- where no further phrase begins, repeated phrases may end
pub ends_of : (f : Form) (terminal : Terminal) → first f terminal ≡ false → ends f terminal ≡ true
ends_of size t.LeftBracket e = absurd cc
ends_of size _ e = refl
ends_of _ terminal e = refl

-- and a phrase may be left out
pub omits_of : (f : Form) (terminal : Terminal) → absent f terminal ≡ true → omits f terminal ≡ true
omits_of last terminal e = e
omits_of separator terminal e = e
omits_of otherwise t.Else e = absurd cc
omits_of otherwise _ e = refl
omits_of _ terminal e = refl

pub leads_next : (f : Form) (x y after : List Lexeme) → Leads f x → first f (next ((x ++ y) ++ after)) ≡ true
leads_next f x y after l = subst (λ (u : List Lexeme). first f (next ((u ++ y) ++ after)) ≡ true) (sym l.2) l.3

symbol_next : (n : ℕ) (s : Symbol) (ss : List Symbol) (v : SymbolTree s) (F : Terminal → Bool) (x y after : List Lexeme) → DerivesSymbol (Derives n) s v x (y ++ after) → comes ss F (next (y ++ after)) ≡ true → comes (s ∷ ss) F (next ((x ++ y) ++ after)) ≡ true
symbol_next n (token take w) ss v F x y after d e = subst (λ (u : List Lexeme). matches w (next ((u ++ y) ++ after)) ≡ true) (sym d.1) d.2
symbol_next n (phrase g) ss v F x y after d e = leads_next g x y after (leads n g v x (y ++ after) d)
symbol_next n (repeated g) ss [] F x y after d e =
    subst (λ (u : List Lexeme). comes (repeated g ∷ ss) F (next ((u ++ y) ++ after)) ≡ true) (sym d.0)
    (either_right (first g (next (y ++ after))) (ends g (next (y ++ after)) && comes ss F (next (y ++ after))) (both (ends g (next (y ++ after))) (comes ss F (next (y ++ after))) (ends_of g (next (y ++ after)) d.1) e))
symbol_next n (repeated g) ss (v ∷ vs) F x y after d e =
    let a = leads n g v d.0.0 (d.0.1 ++ (y ++ after)) d.0.3 in
    let front : Leads g x = (a.0, a.1 ++ d.0.1, d.0.2 ∙ ap (λ (u : List Lexeme). u ++ d.0.1) a.2, a.3) in
    either_left (first g (next ((x ++ y) ++ after))) (ends g (next ((x ++ y) ++ after)) && comes ss F (next ((x ++ y) ++ after))) (leads_next g x y after front)
symbol_next n (optional g) ss None F x y after d e =
    subst (λ (u : List Lexeme). comes (optional g ∷ ss) F (next ((u ++ y) ++ after)) ≡ true) (sym d.0)
    (either_right (first g (next (y ++ after))) (omits g (next (y ++ after)) && comes ss F (next (y ++ after))) (both (omits g (next (y ++ after))) (comes ss F (next (y ++ after))) (omits_of g (next (y ++ after)) d.1) e))
symbol_next n (optional g) ss (Some v) F x y after d e =
    either_left (first g (next ((x ++ y) ++ after))) (omits g (next ((x ++ y) ++ after)) && comes ss F (next ((x ++ y) ++ after))) (leads_next g x y after (leads n g v x (y ++ after) d))

pub comes_next : (n : ℕ) (ss : List Symbol) (F : Terminal → Bool) (vs : Trees ss) (x after : List Lexeme) → DerivesSymbols (Derives n) ss vs x after → F (next after) ≡ true → comes ss F (next (x ++ after)) ≡ true
comes_next n [] F vs x after d e = subst (λ (u : List Lexeme). F (next (u ++ after)) ≡ true) (sym d) e
comes_next n (s ∷ ss) F vs x after d e =
    subst (λ (u : List Lexeme). comes (s ∷ ss) F (next (u ++ after)) ≡ true) (sym d.2)
    (symbol_next n s ss vs.0 F d.0 d.1 after d.3 (comes_next n ss F vs.1 d.1 after d.4 e))
