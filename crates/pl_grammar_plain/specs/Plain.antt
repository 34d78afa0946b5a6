-- What the rows of the grammar derive, with one case a row and the rules of choice of the language alone.
use Rattle.std.specs.Prelude.{◌≡◌, ℕ, zero, suc, Bool, true, false, List, [], ◌∷◌, ◌++◌, Some, None}
use Rattle.pl_tree.specs.declared.tree.Tree.{Tree}
use Rattle.pl_grammar.specs.declared.terminal.Terminal.{Terminal}
use Rattle.pl_grammar.specs.declared.terminal.Terminal.TheVariants as t
use Rattle.pl_grammar.specs.Lexeme.{Lexeme, class_of, next, matches, taken}
use Rattle.pl_grammar.specs.Grammar.{Form, top, last, separator, otherwise, size, TreeOf, Symbol, token, phrase, repeated, optional, SymbolTree, Trees, Production, symbols, built}
use Rattle.pl_grammar.specs.Derives.{Sequence}
use Rattle.pl_grammar.specs.Parses.{IsScript}

-- The token before which a phrase may be left out: of a `;` the end of the script, and in a block its `}`; and an `else`
-- belongs to the nearest `if`.
abbrev pub omits : Form → Terminal → Bool
omits last t.End = true
omits last _ = false
omits separator t.End = true
omits separator t.RightBrace = true
omits separator _ = false
omits otherwise t.Else = false
omits f terminal = true

-- the token before which repeated phrases may end: the sizes of a new array are all that stand behind one another
abbrev pub ends : Form → Terminal → Bool
ends size t.LeftBracket = false
ends f terminal = true

-- D f v x after: the lexemes x are a phrase of the form f with the tree v, where the lexemes after come next
module _ (D : (f : Form) → TreeOf f → List Lexeme → List Lexeme → Type 0) where
  abbrev pub PlainSymbol : (s : Symbol) → SymbolTree s → List Lexeme → List Lexeme → Type 0
  PlainSymbol (token take terminal) v x after = (l : Lexeme) × (x ≡ l ∷ []) × (matches terminal (class_of l) ≡ true) × (v ≡ taken take l)
  PlainSymbol (phrase f) v x after = D f v x after
  PlainSymbol (repeated f) vs x after = Sequence D f vs x after × (ends f (next after) ≡ true)
  PlainSymbol (optional f) None x after = (x ≡ []) × (omits f (next after) ≡ true)
  PlainSymbol (optional f) (Some v) x after = D f v x after

  abbrev pub PlainSymbols : (ss : List Symbol) → Trees ss → List Lexeme → List Lexeme → Type 0
  PlainSymbols [] vs x after = x ≡ []
  PlainSymbols (s ∷ ss) vs x after = (front : List Lexeme) × (rest : List Lexeme) × (x ≡ front ++ rest) × PlainSymbol s vs.0 front (rest ++ after) × PlainSymbols ss vs.1 rest after

-- by rows nested no deeper than the number
abbrev pub Plain : ℕ → (f : Form) → TreeOf f → List Lexeme → List Lexeme → Type 0
Plain zero f v x after = ⊥
Plain (suc n) f v x after = (p : Production f) × (vs : Trees (symbols p)) × (v ≡ built p vs) × PlainSymbols (Plain n) (symbols p) vs x after

-- the lexemes are this script
abbrev pub IsPlain : List Lexeme → Tree → Type 0
IsPlain [] script = script ≡ record { functions = []; statements = [] }
IsPlain (l ∷ ls) script = (n : ℕ) × Plain n top script (l ∷ ls) []

-- the conditions on the tokens ahead bar no script that the rows derive
abbrev pub NothingBarred : Type 0
NothingBarred = (ls : List Lexeme) (script : Tree) → IsPlain ls script → IsScript ls script

-- and what meets them is derived by the rows
abbrev pub NothingAdded : Type 0
NothingAdded = (ls : List Lexeme) (script : Tree) → IsScript ls script → IsPlain ls script
