-- What the rows of the grammar say of lexemes: which they derive, and which they begin.
use Rattle.std.specs.Prelude.{◌≡◌, ℕ, zero, suc, true, false, List, [], ◌∷◌, ◌++◌, Some, None, ◌⊎◌}
use Rattle.pl_grammar.specs.Lexeme.{Lexeme, class_of, next, matches, taken}
use Rattle.pl_grammar.specs.Ahead.{seen}
use Rattle.pl_grammar.specs.Grammar.{Form, TreeOf, Symbol, token, phrase, repeated, optional, SymbolTree, Trees, Production, symbols, built}
use Rattle.pl_grammar.specs.Firsts.{first, absent, scan, allowed, fits}

-- D f v x after: the lexemes x are a phrase of the form f with the tree v, where the lexemes after come next
module _ (D : (f : Form) → TreeOf f → List Lexeme → List Lexeme → Type 0) where
  -- phrases one after the other
  abbrev pub Sequence : (f : Form) → List (TreeOf f) → List Lexeme → List Lexeme → Type 0
  Sequence f [] x after = x ≡ []
  Sequence f (v ∷ vs) x after = (front : List Lexeme) × (rest : List Lexeme) × (x ≡ front ++ rest) × D f v front (rest ++ after) × Sequence f vs rest after

  abbrev pub DerivesSymbol : (s : Symbol) → SymbolTree s → List Lexeme → List Lexeme → Type 0
  DerivesSymbol (token take terminal) v x after = (l : Lexeme) × (x ≡ l ∷ []) × (matches terminal (class_of l) ≡ true) × (v ≡ taken take l)
  DerivesSymbol (phrase f) v x after = D f v x after
  DerivesSymbol (repeated f) vs x after = Sequence f vs x after × (first f (next after) ≡ false)
  DerivesSymbol (optional f) None x after = (x ≡ []) × (absent f (next after) ≡ true)
  DerivesSymbol (optional f) (Some v) x after = D f v x after

  abbrev pub DerivesSymbols : (ss : List Symbol) → Trees ss → List Lexeme → List Lexeme → Type 0
  DerivesSymbols [] vs x after = x ≡ []
  DerivesSymbols (s ∷ ss) vs x after = (front : List Lexeme) × (rest : List Lexeme) × (x ≡ front ++ rest) × DerivesSymbol s vs.0 front (rest ++ after) × DerivesSymbols ss vs.1 rest after

-- by productions nested no deeper than the number
abbrev pub Derives : ℕ → (f : Form) → TreeOf f → List Lexeme → List Lexeme → Type 0
Derives zero f v x after = ⊥
Derives (suc n) f v x after = (p : Production f) × (vs : Trees (symbols p)) × (v ≡ built p vs) × (allowed p (next (x ++ after)) (seen (scan f) (x ++ after)) ≡ true) × DerivesSymbols (Derives n) (symbols p) vs x after

-- the lexemes begin a phrase: whole symbols of a production, and the beginning of its next symbol
module _ (D : (f : Form) → TreeOf f → List Lexeme → List Lexeme → Type 0) (B : Form → List Lexeme → Type 0) where
  abbrev pub BeginsSymbol : Symbol → List Lexeme → Type 0
  BeginsSymbol (token take terminal) y = y ≡ []
  BeginsSymbol (phrase f) y = B f y
  BeginsSymbol (repeated f) y = (vs : List (TreeOf f)) × (x : List Lexeme) × (z : List Lexeme) × (y ≡ x ++ z) × Sequence D f vs x z × B f z
  BeginsSymbol (optional f) y = B f y

  abbrev pub BeginsSymbols : List Symbol → List Lexeme → Type 0
  BeginsSymbols [] y = y ≡ []
  BeginsSymbols (s ∷ ss) y = BeginsSymbol s y ⊎ ((v : SymbolTree s) × (x : List Lexeme) × (z : List Lexeme) × (y ≡ x ++ z) × DerivesSymbol D s v x z × BeginsSymbols ss z)

abbrev pub Begins : ℕ → Form → List Lexeme → Type 0
Begins zero f y = y ≡ []
Begins (suc n) f y = (y ≡ []) ⊎ ((p : Production f) × (fits p (next y) (seen (scan f) y) ≡ true) × BeginsSymbols (Derives n) (Begins n) (symbols p) y)
