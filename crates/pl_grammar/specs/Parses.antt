-- What the parser answers of the tokens of a text.
use Rattle.std.specs.Prelude.{◌≡◌, ℕ, List, [], ◌∷◌, ◌++◌, length, Option, Some, None, Result, Ok, Err}
use Rattle.pl_lexer.specs.declared.token.Token.{Token}
use Rattle.pl_types.specs.declared.refusal.Refusal.{Refusal}
use Rattle.pl_types.specs.declared.rules.TheConstants.{NESTING_DEEP, SYNTAX}
use Rattle.pl_tree.specs.declared.tree.Tree.{Tree}
use Rattle.pl_grammar.specs.Lexeme.{Lexeme, lexemes}
use Rattle.pl_nesting.specs.Nesting.{nesting_fault}
use Rattle.pl_grammar.specs.Grammar.{top}
use Rattle.pl_grammar.specs.Derives.{Derives, Begins}

-- the lexemes are this script
abbrev pub IsScript : List Lexeme → Tree → Type 0
IsScript [] script = script ≡ record { functions = []; statements = [] }
IsScript (l ∷ ls) script = (n : ℕ) × Derives n top script (l ∷ ls) []

-- the lexemes begin a script: each symbol of it that they reach is whole, but for the last
abbrev pub BeginsScript : List Lexeme → Type 0
BeginsScript ls = (n : ℕ) × Begins n top ls

-- where these lexemes begin, or the length of the text
abbrev pub place_of : ℕ → List Lexeme → ℕ
place_of size [] = size
place_of size (l ∷ ls) = l.token.start

-- The lexemes are no script, and the rest of them is what follows the longest front that begins one: each beginning of
-- the front begins a script, and the front with the lexeme after it begins none.
pub record StopsBefore (ls : List Lexeme) (rest : List Lexeme) : Type 0 where
  pub front : List Lexeme
  pub whole : ls ≡ front ++ rest
  pub begins : (x y : List Lexeme) → front ≡ x ++ y → BeginsScript x
  pub ends : (l : Lexeme) (more : List Lexeme) → rest ≡ l ∷ more → BeginsScript (front ++ l ∷ []) → ⊥
  pub no_script : (script : Tree) → IsScript ls script → ⊥

-- a refusal of brackets that nest too deep, and one for want of a script, at the place
abbrev pub deep_at : ℕ → Refusal
deep_at offset = record { number = NESTING_DEEP; offset = offset }

abbrev pub syntax_at : ℕ → Refusal
syntax_at offset = record { number = SYNTAX; offset = offset }

-- the first token that breaks the nesting rule comes before all else
abbrev pub Refused : List ℕ → List Token → Option ℕ → Refusal → Type 0
Refused text tokens (Some offset) refusal = refusal ≡ deep_at offset
Refused text tokens None refusal = (rest : List Lexeme) × StopsBefore (lexemes text tokens) rest × (refusal ≡ syntax_at (place_of (length text) rest))

-- the tokens of the text are a script with this tree, or are refused so
abbrev pub Parses : List ℕ → List Token → Result Tree Refusal → Type 0
Parses text tokens (Ok script) = (nesting_fault tokens ≡ None) × IsScript (lexemes text tokens) script
Parses text tokens (Err refusal) = Refused text tokens (nesting_fault tokens) refusal
