-- What begins a phrase goes on to one: what is there of it stays, and the shortest rest is put behind.
use Rattle.std.proofs.Common.{◌≡◌, ℕ, zero, suc, Bool, true, false, cond, List, [], ◌∷◌, ◌++◌, Some, None, refl, sym, ap, subst, ◌∙◌, append_assoc, inl, inr}
use Rattle.std.proofs.lemmas.List.{append-nil}
use Rattle.pl_grammar.specs.declared.terminal.Terminal.{Terminal}
use Rattle.pl_grammar.specs.Lexeme.{Lexeme, next}
use Rattle.pl_grammar.specs.Grammar.{Form, TreeOf, Symbol, token, phrase, repeated, optional, SymbolTree, Trees, symbols, built}
use Rattle.pl_grammar.specs.Derives.{Sequence, DerivesSymbol, Derives, BeginsSymbol, BeginsSymbols, Begins}
use Rattle.pl_grammar_plain.specs.Plain.{omits, ends, PlainSymbol, PlainSymbols, Plain}
use Rattle.pl_grammar_plain.proofs.Into.{form_out, symbol_out, sequence_out}
use Rattle.pl_grammar_plain.proofs.Texts.{is_asked, all_filled, filled, is_mild, fits, is_right, right_fits, right_behind, right_rest, IsMildFor, mild_behind, mild_ends, symbol_filled, symbols_filled, text_derived}
use Rattle.pl_grammar_plain.proofs.Rights.{shortest_text, is_used, used_enough, used_right}

same_either : (a b : Bool) → cond a b b ≡ true → b ≡ true
same_either true b e = e
same_either false b e = e

abbrev Relation : Type 1
Relation = (f : Form) → TreeOf f → List Lexeme → List Lexeme → Type 0

-- ---- what comes next is all that counts of what comes after

-- the next of two lists, of which the first is or is not empty
next_same : (x a b : List Lexeme) → next a ≡ next b → next (x ++ a) ≡ next (x ++ b)
next_same [] a b e = e
next_same (l ∷ x) a b e = refl

module _ (D E : Relation) (goes : (f : Form) (v : TreeOf f) (x a b : List Lexeme) → next a ≡ next b → D f v x a → E f v x b) where
  sequence_goes : (f : Form) (vs : List (TreeOf f)) (x a b : List Lexeme) → next a ≡ next b → Sequence D f vs x a → Sequence E f vs x b
  sequence_goes f [] x a b e h = h
  sequence_goes f (v ∷ vs) x a b e h = (h.0, h.1, h.2, goes f v h.0 (h.1 ++ a) (h.1 ++ b) (next_same h.1 a b e) h.3, sequence_goes f vs h.1 a b e h.4)

  symbol_goes : (s : Symbol) (v : SymbolTree s) (x a b : List Lexeme) → next a ≡ next b → PlainSymbol D s v x a → PlainSymbol E s v x b
  symbol_goes (token take w) v x a b e h = h
  symbol_goes (phrase f) v x a b e h = goes f v x a b e h
  symbol_goes (repeated f) vs x a b e h = (sequence_goes f vs x a b e h.0, subst (λ (c : Terminal). ends f c ≡ true) e h.1)
  symbol_goes (optional f) None x a b e h = (h.0, subst (λ (c : Terminal). omits f c ≡ true) e h.1)
  symbol_goes (optional f) (Some v) x a b e h = goes f v x a b e h

  symbols_go : (ss : List Symbol) (vs : Trees ss) (x a b : List Lexeme) → next a ≡ next b → PlainSymbols D ss vs x a → PlainSymbols E ss vs x b
  symbols_go [] vs x a b e h = h
  symbols_go (s ∷ ss) vs x a b e h =
      (h.0, h.1, h.2, symbol_goes s vs.0 h.0 (h.1 ++ a) (h.1 ++ b) (next_same h.1 a b e) h.3, symbols_go ss vs.1 h.1 a b e h.4)

-- the levels that are there for what begins within so many
abbrev pub up : ℕ → ℕ
up zero = 40
up (suc n) = suc (up n)

-- a phrase within more levels
lifted : (n : ℕ) (f : Form) (v : TreeOf f) (x a b : List Lexeme) → next a ≡ next b → Plain n f v x a → Plain (up n) f v x b
lifted zero f v x a b e h = absurd h
lifted (suc n) f v x a b e h = (h.0, h.1, h.2, symbols_go (Plain n) (Plain (up n)) (lifted n) (symbols h.0) h.1 x a b e h.3)

deeper : (n : ℕ) (f : Form) (v : TreeOf f) (x a b : List Lexeme) → next a ≡ next b → Plain n f v x a → Plain (suc n) f v x b
deeper zero f v x a b e h = absurd h
deeper (suc n) f v x a b e h = (h.0, h.1, h.2, symbols_go (Plain n) (Plain (suc n)) (deeper n) (symbols h.0) h.1 x a b e h.3)

shortest : (n : ℕ) (f : Form) (after : List Lexeme) → is_used f ≡ true → is_mild (next after) ≡ true → (v : TreeOf f) × Plain (up n) f v (shortest_text f) after
shortest zero f after e h = text_derived 40 f after (used_enough f e) h
shortest (suc n) f after e h =
    let one = shortest n f after e h in
    (one.0, deeper (up n) f one.0 (shortest_text f) after after refl one.1)

-- a form that may be left out is used
either_used : (f : Form) → fits is_used is_used (optional f) ≡ true → is_used f ≡ true
either_used f e = same_either (is_asked f) (is_used f) e

-- ---- lists that go on

abbrev pub Whole : Relation → (f : Form) → List Lexeme → List Lexeme → Type 0
Whole D f y after = (w : List Lexeme) × (v : TreeOf f) × D f v (y ++ w) after

abbrev WholeSymbol : Relation → (s : Symbol) → List Lexeme → List Lexeme → Type 0
WholeSymbol D s y after = (w : List Lexeme) × (v : SymbolTree s) × PlainSymbol D s v (y ++ w) after

abbrev WholeSymbols : Relation → (ss : List Symbol) → List Lexeme → List Lexeme → Type 0
WholeSymbols D ss y after = (w : List Lexeme) × (vs : Trees ss) × PlainSymbols D ss vs (y ++ w) after

abbrev WholeSequence : Relation → (f : Form) → List Lexeme → List Lexeme → Type 0
WholeSequence D f y after = (w : List Lexeme) × (vs : List (TreeOf f)) × Sequence D f vs (y ++ w) after

-- C derives what is there, D what it goes on to
module _ (C D : Relation) (keeps : (f : Form) (v : TreeOf f) (x a b : List Lexeme) → next a ≡ next b → C f v x a → D f v x b)
    (least : (f : Form) (after : List Lexeme) → is_used f ≡ true → is_mild (next after) ≡ true → (v : TreeOf f) × D f v (shortest_text f) after)
    (mended : (f : Form) (v : TreeOf f) (x after : List Lexeme) → is_used f ≡ true → is_mild (next after) ≡ true → C f v x [] → Whole D f x after) where
  -- nothing is there
  symbol_none : (s : Symbol) (x after : List Lexeme) → x ≡ [] → fits is_used is_used s ≡ true → IsMildFor s (next after) → WholeSymbol D s x after
  symbol_none s x after e i h =
      let one = symbol_filled D shortest_text is_used is_used least s after i h in
      (filled shortest_text s, one.0, subst (λ (u : List Lexeme). PlainSymbol D s one.0 (u ++ filled shortest_text s) after) (sym e) one.1)

  -- phrases, and behind them a phrase that goes on so; where nothing stands behind them, they are mended
  one_before : (f : Form) (v : TreeOf f) (x front rest after : List Lexeme) → is_used f ≡ true → is_mild (next after) ≡ true → x ≡ front ++ rest → C f v front rest → WholeSequence D f rest after → WholeSequence D f x after
  one_before f v x front [] after i e is one others =
      let last = mended f v front after i e one in
      let all : x ++ last.0 ≡ (front ++ last.0) ++ [] = ap (λ (u : List Lexeme). u ++ last.0) (is ∙ append-nil front) ∙ sym (append-nil (front ++ last.0)) in
      (last.0, last.1 ∷ [], (front ++ last.0, [], all, last.2, refl))
  one_before f v x front (l ∷ rest) after i e is one others =
      let all : x ++ others.0 ≡ front ++ ((l ∷ rest) ++ others.0) = ap (λ (u : List Lexeme). u ++ others.0) is ∙ append_assoc front (l ∷ rest) others.0 in
      (others.0, v ∷ others.1, (front, (l ∷ rest) ++ others.0, all, keeps f v front (l ∷ rest) (((l ∷ rest) ++ others.0) ++ after) refl one, others.2))

  sequence_whole : (f : Form) (vs : List (TreeOf f)) (x after : List Lexeme) → is_used f ≡ true → is_mild (next after) ≡ true → Sequence C f vs x [] → WholeSequence D f x after
  sequence_whole f [] x after i e h = ([], [], append-nil x ∙ h)
  sequence_whole f (v ∷ vs) x after i e h =
      one_before f v x h.0 h.1 after i e h.2 (subst (λ (u : List Lexeme). C f v h.0 u) (append-nil h.1) h.3) (sequence_whole f vs h.1 after i e h.4)

  -- phrases, and behind them the beginning of one that goes on
  sequence_begun : (f : Form) (vs : List (TreeOf f)) (x z y after : List Lexeme) → is_used f ≡ true → is_mild (next after) ≡ true → y ≡ x ++ z → Sequence C f vs x z → Whole D f z after → WholeSequence D f y after
  sequence_begun f [] x z y after i e is h last =
      let all : y ++ last.0 ≡ (z ++ last.0) ++ [] = ap (λ (u : List Lexeme). u ++ last.0) (is ∙ ap (λ (u : List Lexeme). u ++ z) h) ∙ sym (append-nil (z ++ last.0)) in
      (last.0, last.1 ∷ [], (z ++ last.0, [], all, last.2, refl))
  sequence_begun f (v ∷ vs) x z y after i e is h last =
      let all : y ≡ h.0 ++ (h.1 ++ z) = is ∙ ap (λ (u : List Lexeme). u ++ z) h.2 ∙ append_assoc h.0 h.1 z in
      one_before f v y h.0 (h.1 ++ z) after i e all h.3 (sequence_begun f vs h.1 z (h.1 ++ z) after i e refl h.4 last)

  ended : (f : Form) (y after : List Lexeme) → is_mild (next after) ≡ true → WholeSequence D f y after → WholeSymbol D (repeated f) y after
  ended f y after e h = (h.0, h.1, (h.2, mild_ends f (next after) e))

  -- a whole symbol behind which nothing is there
  symbol_mended : (s : Symbol) (v : SymbolTree s) (x after : List Lexeme) → fits is_used is_used s ≡ true → IsMildFor s (next after) → PlainSymbol C s v x [] → WholeSymbol D s x after
  symbol_mended (token take w) v x after i e h = ([], v, (h.0, append-nil x ∙ h.1, h.2, h.3))
  symbol_mended (phrase f) v x after i e h = mended f v x after i e h
  symbol_mended (repeated f) vs x after i e h = ended f x after e (sequence_whole f vs x after i e h.0)
  symbol_mended (optional f) None x after i e h = symbol_none (optional f) x after h.0 i e
  symbol_mended (optional f) (Some v) x after i e h =
      let one = mended f v x after (either_used f i) e h in
      (one.0, Some one.1, one.2)

  -- a symbol, and behind it others that go on so
  symbol_before : (s : Symbol) (ss : List Symbol) (v : SymbolTree s) (y x z after : List Lexeme) → is_right is_used is_used shortest_text (s ∷ ss) ≡ true → is_mild (next after) ≡ true → y ≡ x ++ z → PlainSymbol C s v x z → WholeSymbols D ss z after → WholeSymbols D (s ∷ ss) y after
  symbol_before s ss v y x [] after i e is one others =
      let rest = symbols_filled D shortest_text is_used is_used least ss after (right_rest is_used is_used shortest_text s ss i) e in
      let behind = mild_behind s (all_filled shortest_text ss) after (right_behind is_used is_used shortest_text s ss i) e in
      let last = symbol_mended s v x (all_filled shortest_text ss ++ after) (right_fits is_used is_used shortest_text s ss i) behind one in
      let all : y ++ (last.0 ++ all_filled shortest_text ss) ≡ (x ++ last.0) ++ all_filled shortest_text ss = ap (λ (u : List Lexeme). u ++ (last.0 ++ all_filled shortest_text ss)) (is ∙ append-nil x) ∙ sym (append_assoc x last.0 (all_filled shortest_text ss)) in
      (last.0 ++ all_filled shortest_text ss, (last.1, rest.0), (x ++ last.0, all_filled shortest_text ss, all, last.2, rest.1))
  symbol_before s ss v y x (l ∷ z) after i e is one others =
      let all : y ++ others.0 ≡ x ++ ((l ∷ z) ++ others.0) = ap (λ (u : List Lexeme). u ++ others.0) is ∙ append_assoc x (l ∷ z) others.0 in
      (others.0, (v, others.1), (x, (l ∷ z) ++ others.0, all, symbol_goes C D keeps s v x (l ∷ z) (((l ∷ z) ++ others.0) ++ after) refl one, others.2))

  pub symbols_whole : (ss : List Symbol) (vs : Trees ss) (y after : List Lexeme) → is_right is_used is_used shortest_text ss ≡ true → is_mild (next after) ≡ true → PlainSymbols C ss vs y [] → WholeSymbols D ss y after
  symbols_whole [] vs y after i e h = ([], tt, append-nil y ∙ h)
  symbols_whole (s ∷ ss) vs y after i e h =
      symbol_before s ss vs.0 y h.0 h.1 after i e h.2 (subst (λ (u : List Lexeme). PlainSymbol C s vs.0 h.0 u) (append-nil h.1) h.3)
      (symbols_whole ss vs.1 h.1 after (right_rest is_used is_used shortest_text s ss i) e h.4)

  module _ (G : Relation) (B : Form → List Lexeme → Type 0) (plainly : (f : Form) (v : TreeOf f) (x after : List Lexeme) → G f v x after → C f v x after)
      (plain_symbol : (s : Symbol) (v : SymbolTree s) (x after : List Lexeme) → DerivesSymbol G s v x after → PlainSymbol C s v x after)
      (plain_sequence : (f : Form) (vs : List (TreeOf f)) (x after : List Lexeme) → Sequence G f vs x after → Sequence C f vs x after)
      (begun : (f : Form) (y after : List Lexeme) → is_used f ≡ true → is_mild (next after) ≡ true → B f y → Whole D f y after) where
    symbol_begun : (s : Symbol) (y after : List Lexeme) → fits is_used is_used s ≡ true → IsMildFor s (next after) → BeginsSymbol G B s y → WholeSymbol D s y after
    symbol_begun (token take w) y after i e h = symbol_none (token take w) y after h i e
    symbol_begun (phrase f) y after i e h = begun f y after i e h
    symbol_begun (repeated f) y after i e h =
        ended f y after e (sequence_begun f h.0 h.1 h.2 y after i e h.3 (plain_sequence f h.0 h.1 h.2 h.4) (begun f h.2 after i e h.5))
    symbol_begun (optional f) y after i e h =
        let one = begun f y after (either_used f i) e h in
        (one.0, Some one.1, one.2)

    symbols_begun : (ss : List Symbol) (y after : List Lexeme) → is_right is_used is_used shortest_text ss ≡ true → is_mild (next after) ≡ true → BeginsSymbols G B ss y → WholeSymbols D ss y after
    symbols_begun [] y after i e h = ([], tt, append-nil y ∙ h)
    symbols_begun (s ∷ ss) y after i e (inl h) =
        let rest = symbols_filled D shortest_text is_used is_used least ss after (right_rest is_used is_used shortest_text s ss i) e in
        let behind = mild_behind s (all_filled shortest_text ss) after (right_behind is_used is_used shortest_text s ss i) e in
        let one = symbol_begun s y (all_filled shortest_text ss ++ after) (right_fits is_used is_used shortest_text s ss i) behind h in
        (one.0 ++ all_filled shortest_text ss, (one.1, rest.0), (y ++ one.0, all_filled shortest_text ss, sym (append_assoc y one.0 (all_filled shortest_text ss)), one.2, rest.1))
    symbols_begun (s ∷ ss) y after i e (inr h) =
        symbol_before s ss h.0 y h.1 h.2 after i e h.3 (plain_symbol s h.0 h.1 h.2 h.4)
        (symbols_begun ss h.2 after (right_rest is_used is_used shortest_text s ss i) e h.5)

-- ---- phrases

mended_form : (n : ℕ) (f : Form) (v : TreeOf f) (x after : List Lexeme) → is_used f ≡ true → is_mild (next after) ≡ true → Plain n f v x [] → Whole (Plain (up n)) f x after
mended_form zero f v x after i e h = absurd h
mended_form (suc n) f v x after i e h =
    let all = symbols_whole (Plain n) (Plain (up n)) (lifted n) (shortest n) (mended_form n) (symbols h.0) h.1 x after (used_right h.0 i) e h.3 in
    (all.0, built h.0 all.1, (h.0, all.1, refl, all.2))

none_form : (n : ℕ) (f : Form) (y after : List Lexeme) → is_used f ≡ true → is_mild (next after) ≡ true → y ≡ [] → Whole (Plain (up n)) f y after
none_form n f y after i e h =
    let one = shortest n f after i e in
    (shortest_text f, one.0, subst (λ (u : List Lexeme). Plain (up n) f one.0 (u ++ shortest_text f) after) (sym h) one.1)

pub begun_form : (n : ℕ) (f : Form) (y after : List Lexeme) → is_used f ≡ true → is_mild (next after) ≡ true → Begins n f y → Whole (Plain (up n)) f y after
begun_form zero f y after i e h = none_form zero f y after i e h
begun_form (suc n) f y after i e (inl h) = none_form (suc n) f y after i e h
begun_form (suc n) f y after i e (inr h) =
    let all = symbols_begun (Plain n) (Plain (up n)) (lifted n) (shortest n) (mended_form n) (Derives n) (Begins n) (form_out n) (symbol_out n (form_out n)) (sequence_out n (form_out n)) (begun_form n) (symbols h.0) y after (used_right h.0 i) e h.2 in
    (all.0, built h.0 all.1, (h.0, all.1, refl, all.2))
