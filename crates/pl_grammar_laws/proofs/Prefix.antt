-- What begins with a beginning, or with a part of a whole, begins a phrase.
use Rattle.std.proofs.Common.{◌≡◌, ℕ, zero, suc, true, List, [], ◌∷◌, ◌++◌, length, Some, None, refl, sym, ap, subst, ◌∙◌, append_assoc, arith, inl, inr, ◌⊎◌}
use Rattle.std.proofs.lemmas.List.{length-append}
use Rattle.pl_grammar.specs.Lexeme.{Lexeme, class_of}
use Rattle.pl_grammar.specs.Ahead.{seen}
use Rattle.pl_grammar.specs.Grammar.{Form, TreeOf, Symbol, token, phrase, repeated, optional, SymbolTree, Trees, symbols}
use Rattle.pl_grammar.specs.Firsts.{scan, fits}
use Rattle.pl_grammar.specs.Derives.{Sequence, DerivesSymbol, DerivesSymbols, Derives, BeginsSymbol, BeginsSymbols, Begins}
use Rattle.pl_grammar_laws.proofs.Cuts.{fits_cut}
use Rattle.pl_grammar_laws.proofs.Settled.{fits_of}
use Rattle.pl_grammar_laws.proofs.Sound.{Relation}
use Rattle.pl_grammar_laws.proofs.Stops.{Agrees, sequence_again, symbol_again, derives_again, bare}

abbrev cons : Lexeme → List Lexeme → List Lexeme
cons l ls = l ∷ ls

parts_are : (l k : Lexeme) (x y : List Lexeme) → cons l x ≡ cons k y → (l ≡ k) × (x ≡ y)
parts_are l k x y e = (cc, cc)

nothing : (x y : List Lexeme) → x ++ y ≡ [] → x ≡ []
nothing [] y e = refl
nothing (l ∷ x) y e = absurd (cc e)

-- two ways to cut a list: the first front reaches the second, or it ends inside it
abbrev pub Reached : List Lexeme → List Lexeme → List Lexeme → List Lexeme → Type 0
Reached x y a b = (m : List Lexeme) × (x ≡ a ++ m) × (b ≡ m ++ y)

abbrev pub Inside : List Lexeme → List Lexeme → Type 0
Inside x a = (l : Lexeme) × (m : List Lexeme) × (a ≡ x ++ l ∷ m)

pub split : (x y a b : List Lexeme) → x ++ y ≡ a ++ b → Reached x y a b ⊎ Inside x a
split x y [] b e = inl (x, refl, sym e)
split [] y (k ∷ a) b e = inr (k, a, refl)
split (l ∷ x) y (k ∷ a) b e =
    let s = parts_are l k (x ++ y) (a ++ b) e in
    elim (split x y a b s.1) [
      | inl r ↦ inl (r.0, cc (s.0, r.1), r.2)
      | inr r ↦ inr (r.0, r.1, cc (s.0, r.2))
    ]

front_of : (b m y : List Lexeme) → b ≡ m ++ y → Agrees b m
front_of b m y e = inl (y, e)

front_after : (b m y after : List Lexeme) → b ≡ m ++ y → Agrees (b ++ after) m
front_after b m y after e = front_of (b ++ after) m (y ++ after) (ap (λ (u : List Lexeme). u ++ after) e ∙ append_assoc m y after)

one_lexeme : (x : List Lexeme) (l k : Lexeme) (m : List Lexeme) → x ++ l ∷ m ≡ k ∷ [] → x ≡ []
one_lexeme [] l k m e = refl
one_lexeme (j ∷ x) l k m e = absurd (omega (arith, ap length e, length-append x (l ∷ m)))

module _ (D : Relation) (B : Form → List Lexeme → Type 0) (again : (f : Form) (v : TreeOf f) (x b c : List Lexeme) → Agrees b c → D f v x b → D f v x c) (none : (f : Form) → B f []) (within : (f : Form) (v : TreeOf f) (x y after : List Lexeme) → D f v (x ++ y) after → B f x) where
  sequence_prefix : (f : Form) (vs : List (TreeOf f)) (x y after : List Lexeme) → Sequence D f vs (x ++ y) after → BeginsSymbol D B (repeated f) x
  sequence_prefix f [] x y after h = ([], [], [], nothing x y h, refl, none f)
  sequence_prefix f (v ∷ vs) x y after h =
      elim (split x y h.0 h.1 h.2) [
        | inl r ↦
            let i = sequence_prefix f vs r.0 y after (subst (λ (u : List Lexeme). Sequence D f vs u after) r.2 h.4) in
            let agrees : Agrees (h.1 ++ after) (i.1 ++ i.2) = subst (λ (u : List Lexeme). Agrees (h.1 ++ after) u) i.3 (front_after h.1 r.0 y after r.2) in
            (v ∷ i.0, h.0 ++ i.1, i.2, r.1 ∙ ap (λ (u : List Lexeme). h.0 ++ u) i.3 ∙ sym (append_assoc h.0 i.1 i.2), (h.0, i.1, refl, again f v h.0 (h.1 ++ after) (i.1 ++ i.2) agrees h.3, i.4), i.5)
        | inr r ↦ ([], [], x, refl, refl, within f v x (r.0 ∷ r.1) (h.1 ++ after) (subst (λ (u : List Lexeme). D f v u (h.1 ++ after)) r.2 h.3))
      ]

  symbol_prefix : (s : Symbol) (v : SymbolTree s) (x : List Lexeme) (l : Lexeme) (m after : List Lexeme) → DerivesSymbol D s v (x ++ l ∷ m) after → BeginsSymbol D B s x
  symbol_prefix (token take terminal) v x l m after h = one_lexeme x l h.0 m h.1
  symbol_prefix (phrase f) v x l m after h = within f v x (l ∷ m) after h
  symbol_prefix (repeated f) v x l m after h = sequence_prefix f v x (l ∷ m) after h.0
  symbol_prefix (optional f) None x l m after h = subst (λ (u : List Lexeme). B f u) (sym (nothing x (l ∷ m) h.0)) (none f)
  symbol_prefix (optional f) (Some v) x l m after h = within f v x (l ∷ m) after h

  pub symbols_prefix : (ss : List Symbol) (vs : Trees ss) (x y after : List Lexeme) → DerivesSymbols D ss vs (x ++ y) after → BeginsSymbols D B ss x
  symbols_prefix [] vs x y after h = nothing x y h
  symbols_prefix (s ∷ ss) vs x y after h =
      elim (split x y h.0 h.1 h.2) [
        | inl r ↦
            inr (
              vs.0,
              h.0,
              r.0,
              r.1,
              symbol_again D again s vs.0 h.0 (h.1 ++ after) r.0 (front_after h.1 r.0 y after r.2) h.3,
              symbols_prefix ss vs.1 r.0 y after (subst (λ (u : List Lexeme). DerivesSymbols D ss vs.1 u after) r.2 h.4),
            )
        | inr r ↦ inl (symbol_prefix s vs.0 x r.0 r.1 (h.1 ++ after) (subst (λ (u : List Lexeme). DerivesSymbol D s vs.0 u (h.1 ++ after)) r.2 h.3))
      ]

  -- ---- and of what only begins
  begun_symbol : ((f : Form) (x y : List Lexeme) → B f (x ++ y) → B f x) → (s : Symbol) (x y : List Lexeme) → BeginsSymbol D B s (x ++ y) → BeginsSymbol D B s x
  begun_symbol shorter (token take terminal) x y h = nothing x y h
  begun_symbol shorter (phrase f) x y h = shorter f x y h
  begun_symbol shorter (repeated f) x y h =
      elim (split x y h.1 h.2 h.3) [
        | inl r ↦ (h.0, h.1, r.0, r.1, sequence_again D again f h.0 h.1 h.2 r.0 (front_of h.2 r.0 y r.2) h.4, shorter f r.0 y (subst (λ (u : List Lexeme). B f u) r.2 h.5))
        | inr r ↦ sequence_prefix f h.0 x (r.0 ∷ r.1) h.2 (subst (λ (u : List Lexeme). Sequence D f h.0 u h.2) r.2 h.4)
      ]
  begun_symbol shorter (optional f) x y h = shorter f x y h

  pub begun_symbols : ((f : Form) (x y : List Lexeme) → B f (x ++ y) → B f x) → (ss : List Symbol) (x y : List Lexeme) → BeginsSymbols D B ss (x ++ y) → BeginsSymbols D B ss x
  begun_symbols shorter [] x y h = nothing x y h
  begun_symbols shorter (s ∷ ss) x y (inl h) = inl (begun_symbol shorter s x y h)
  begun_symbols shorter (s ∷ ss) x y (inr h) =
      elim (split x y h.1 h.2 h.3) [
        | inl r ↦ inr (h.0, h.1, r.0, r.1, symbol_again D again s h.0 h.1 h.2 r.0 (front_of h.2 r.0 y r.2) h.4, begun_symbols shorter ss r.0 y (subst (λ (u : List Lexeme). BeginsSymbols D B ss u) r.2 h.5))
        | inr r ↦ inl (symbol_prefix s h.0 x r.0 r.1 h.2 (subst (λ (u : List Lexeme). DerivesSymbol D s h.0 u h.2) r.2 h.4))
      ]

pub form_prefix : (n : ℕ) (f : Form) (v : TreeOf f) (x y after : List Lexeme) → Derives n f v (x ++ y) after → Begins n f x
form_prefix zero f v x y after h = absurd h
form_prefix (suc n) f v [] y after h = inl refl
form_prefix (suc n) f v (l ∷ x) y after h =
    inr (
      h.0,
      fits_cut h.0 (class_of l) (scan f) (l ∷ x) (y ++ after) (subst (λ (u : List Lexeme). fits h.0 (class_of l) (seen (scan f) (l ∷ u)) ≡ true) (append_assoc x y after) (fits_of n h.0 h.1 (l ∷ (x ++ y)) after (class_of l) h.4 h.3)),
      symbols_prefix (Derives n) (Begins n) (derives_again n) (bare n) (form_prefix n) (symbols h.0) h.1 (l ∷ x) y after h.4,
    )

pub begins_prefix : (n : ℕ) (f : Form) (x y : List Lexeme) → Begins n f (x ++ y) → Begins n f x
begins_prefix zero f x y h = nothing x y h
begins_prefix (suc n) f [] y h = inl refl
begins_prefix (suc n) f (l ∷ x) y (inl h) = absurd (cc h)
begins_prefix (suc n) f (l ∷ x) y (inr h) =
    inr (h.0, fits_cut h.0 (class_of l) (scan f) (l ∷ x) y h.1, begun_symbols (Derives n) (Begins n) (derives_again n) (bare n) (form_prefix n) (begins_prefix n) (symbols h.0) (l ∷ x) y h.2)
