-- With the conditions on the tokens ahead the same is derived.
use Rattle.std.proofs.Common.{◌≡◌, ℕ, zero, suc, Bool, true, not, ◌&&◌, ◌||◌, List, [], ◌∷◌, ◌++◌, Some, None, refl, sym, subst}
use Rattle.pl_tree.specs.declared.tree.Tree.{Tree}
use Rattle.pl_grammar.specs.declared.terminal.Terminal.{Terminal}
use Rattle.pl_grammar.specs.Lexeme.{Lexeme, next}
use Rattle.pl_grammar.specs.Grammar.{Form, top, comma, TreeOf, Symbol, token, phrase, repeated, optional, SymbolTree, Trees, Production, after_comma, symbols}
use Rattle.pl_grammar.specs.Firsts.{first, absent}
use Rattle.pl_grammar.specs.Derives.{Sequence, DerivesSymbol, DerivesSymbols, Derives}
use Rattle.pl_grammar.specs.Parses.{IsScript}
use Rattle.pl_grammar_plain.proofs.Leads.{leads}
use Rattle.pl_grammar_plain.specs.Plain.{omits, ends, PlainSymbol, PlainSymbols, Plain, IsPlain}
use Rattle.pl_grammar_plain.proofs.Follows.{follows}
use Rattle.pl_grammar_plain.proofs.Rows.{comes, is_followed, is_ended, is_sure, sure_followed, sure_ended, sure_rest, row}
use Rattle.pl_grammar_plain.proofs.Tests.{not_true, both, every, implies, tested}
use Rattle.pl_grammar_plain.proofs.Next.{either_left, either_right, ends_of, omits_of, leads_next, comes_next}
use Rattle.pl_grammar_plain.proofs.Allowed.{allows}

-- ---- what is plainly derived meets the conditions

module _ (n : ℕ) (into : (f : Form) (v : TreeOf f) (x after : List Lexeme) → follows f (next after) ≡ true → Plain n f v x after → Derives n f v x after) where
  -- phrases one after the other, before a token of which N holds, and what they begin with
  sequence_into : (f : Form) (N : Terminal → Bool) (vs : List (TreeOf f)) (x after : List Lexeme) → every (λ c. implies (first f c || (ends f c && N c)) (follows f c)) ≡ true → ends f (next after) && N (next after) ≡ true
      → Sequence (Plain n) f vs x after → Sequence (Derives n) f vs x after × (first f (next (x ++ after)) || (ends f (next (x ++ after)) && N (next (x ++ after))) ≡ true)
  sequence_into f N [] x after all e h =
      (h, subst (λ (u : List Lexeme). first f (next (u ++ after)) || (ends f (next (u ++ after)) && N (next (u ++ after))) ≡ true) (sym h) (either_right (first f (next after)) (ends f (next after) && N (next after)) e))
  sequence_into f N (v ∷ vs) x after all e h =
      let rest = sequence_into f N vs h.1 after all e h.4 in
      let one = into f v h.0 (h.1 ++ after) (tested (λ c. first f c || (ends f c && N c)) (follows f) (next (h.1 ++ after)) all rest.1) h.3 in
      let head : first f (next ((h.0 ++ h.1) ++ after)) ≡ true = leads_next f h.0 h.1 after (leads n f v h.0 (h.1 ++ after) one) in (
        (h.0, h.1, h.2, one, rest.0),
        either_left (first f (next (x ++ after))) (ends f (next (x ++ after)) && N (next (x ++ after))) (subst (λ (u : List Lexeme). first f (next (u ++ after)) ≡ true) (sym h.2) head),
      )

  symbol_into : (sy : Symbol) (N : Terminal → Bool) (v : SymbolTree sy) (x after : List Lexeme) → is_followed sy N ≡ true → is_ended sy N ≡ true → N (next after) ≡ true → PlainSymbol (Plain n) sy v x after → DerivesSymbol (Derives n) sy v x after
  symbol_into (token take w) N v x after a b e h = h
  symbol_into (phrase f) N v x after a b e h = into f v x after (tested N (follows f) (next after) a e) h
  symbol_into (repeated f) N vs x after a b e h =
      let ended : ends f (next after) && N (next after) ≡ true = both (ends f (next after)) (N (next after)) h.1 e in (
        (sequence_into f N vs x after a ended h.0).0,
        not_true (first f (next after)) (tested (λ c. ends f c && N c) (λ c. not (first f c)) (next after) b ended),
      )
  symbol_into (optional f) N None x after a b e h =
      (h.0, tested (λ c. omits f c && N c) (absent f) (next after) b (both (omits f (next after)) (N (next after)) h.1 e))
  symbol_into (optional f) N (Some v) x after a b e h = into f v x after (tested N (follows f) (next after) a e) h

  symbols_into : (ss : List Symbol) (F : Terminal → Bool) (vs : Trees ss) (x after : List Lexeme) → is_sure ss F ≡ true → F (next after) ≡ true → PlainSymbols (Plain n) ss vs x after → DerivesSymbols (Derives n) ss vs x after
  symbols_into [] F vs x after a e h = h
  symbols_into (sy ∷ ss) F vs x after a e h =
      let rest = symbols_into ss F vs.1 h.1 after (sure_rest sy ss F a) e h.4 in
      let behind = comes_next n ss F vs.1 h.1 after rest e in
      (h.0, h.1, h.2, symbol_into sy (comes ss F) vs.0 h.0 (h.1 ++ after) (sure_followed sy ss F a) (sure_ended sy ss F a) behind h.3, rest)

-- a comma and a phrase of the form, behind which comes what comes behind both
comma_into : (n : ℕ) → ((f : Form) (v : TreeOf f) (x after : List Lexeme) → follows f (next after) ≡ true → Plain n f v x after → Derives n f v x after)
    → (g : Form) (p : Production (comma g)) (vs : Trees (symbols p)) (x after : List Lexeme) → follows g (next after) ≡ true → PlainSymbols (Plain n) (symbols p) vs x after → DerivesSymbols (Derives n) (symbols p) vs x after
comma_into n into g (after_comma f) vs x after e h =
    let behind : follows f (next (h.4.1 ++ after)) ≡ true = subst (λ (u : List Lexeme). follows f (next (u ++ after)) ≡ true) (sym h.4.4) e in
    (h.0, h.1, h.2, h.3, (h.4.0, h.4.1, h.4.2, into f vs.1.0 h.4.0 (h.4.1 ++ after) behind h.4.3, h.4.4))

rule_into : (n : ℕ) → ((f : Form) (v : TreeOf f) (x after : List Lexeme) → follows f (next after) ≡ true → Plain n f v x after → Derives n f v x after)
    → (f : Form) (p : Production f) (vs : Trees (symbols p)) (x after : List Lexeme) → follows f (next after) ≡ true → PlainSymbols (Plain n) (symbols p) vs x after → DerivesSymbols (Derives n) (symbols p) vs x after
rule_into n into (comma g) p vs x after e h = comma_into n into g p vs x after e h
rule_into n into f p vs x after e h = symbols_into n into (symbols p) (follows f) vs x after (row p refl) e h

pub form_into : (n : ℕ) (f : Form) (v : TreeOf f) (x after : List Lexeme) → follows f (next after) ≡ true → Plain n f v x after → Derives n f v x after
form_into zero f v x after e h = absurd h
form_into (suc n) f v x after e h =
    let d = rule_into n (form_into n) f h.0 h.1 x after e h.3 in
    (h.0, h.1, h.2, allows n h.0 h.1 x after d e, d)

-- ---- and what meets them is plainly derived

module _ (n : ℕ) (out_of : (f : Form) (v : TreeOf f) (x after : List Lexeme) → Derives n f v x after → Plain n f v x after) where
  pub sequence_out : (f : Form) (vs : List (TreeOf f)) (x after : List Lexeme) → Sequence (Derives n) f vs x after → Sequence (Plain n) f vs x after
  sequence_out f [] x after h = h
  sequence_out f (v ∷ vs) x after h = (h.0, h.1, h.2, out_of f v h.0 (h.1 ++ after) h.3, sequence_out f vs h.1 after h.4)

  pub symbol_out : (sy : Symbol) (v : SymbolTree sy) (x after : List Lexeme) → DerivesSymbol (Derives n) sy v x after → PlainSymbol (Plain n) sy v x after
  symbol_out (token take w) v x after h = h
  symbol_out (phrase f) v x after h = out_of f v x after h
  symbol_out (repeated f) vs x after h = (sequence_out f vs x after h.0, ends_of f (next after) h.1)
  symbol_out (optional f) None x after h = (h.0, omits_of f (next after) h.1)
  symbol_out (optional f) (Some v) x after h = out_of f v x after h

  symbols_out : (ss : List Symbol) (vs : Trees ss) (x after : List Lexeme) → DerivesSymbols (Derives n) ss vs x after → PlainSymbols (Plain n) ss vs x after
  symbols_out [] vs x after h = h
  symbols_out (sy ∷ ss) vs x after h = (h.0, h.1, h.2, symbol_out sy vs.0 h.0 (h.1 ++ after) h.3, symbols_out ss vs.1 h.1 after h.4)

pub form_out : (n : ℕ) (f : Form) (v : TreeOf f) (x after : List Lexeme) → Derives n f v x after → Plain n f v x after
form_out zero f v x after h = absurd h
form_out (suc n) f v x after h = (h.0, h.1, h.2, symbols_out n (form_out n) (symbols h.0) h.1 x after h.4)

-- ---- scripts

pub plain_script : (ls : List Lexeme) (script : Tree) → IsPlain ls script → IsScript ls script
plain_script [] script h = h
plain_script (l ∷ ls) script h = (h.0, form_into h.0 top script (l ∷ ls) [] refl h.1)

pub script_plain : (ls : List Lexeme) (script : Tree) → IsScript ls script → IsPlain ls script
script_plain [] script h = h
script_plain (l ∷ ls) script h = (h.0, form_out h.0 top script (l ∷ ls) [] h.1)
