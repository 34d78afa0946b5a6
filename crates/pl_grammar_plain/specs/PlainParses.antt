-- What the tokens of a text are, by the rows of the grammar alone.
use Rattle.std.specs.Prelude.{◌≡◌, ℕ, List, [], ◌∷◌, ◌++◌, length, Option, Some, None, Result, Ok, Err, ◌↔◌}
use Rattle.pl_lexer.specs.declared.token.Token.{Token}
use Rattle.pl_types.specs.declared.refusal.Refusal.{Refusal}
use Rattle.pl_tree.specs.declared.tree.Tree.{Tree}
use Rattle.pl_nesting.specs.Nesting.{nesting_fault}
use Rattle.pl_grammar.specs.Lexeme.{Lexeme, lexemes}
use Rattle.pl_grammar.specs.Parses.{BeginsScript, Parses, deep_at, place_of, syntax_at}
use Rattle.pl_grammar_plain.specs.Plain.{IsPlain}

-- the lexemes begin a script: some that come behind them make one of them
abbrev pub BeginsPlain : List Lexeme → Type 0
BeginsPlain ls = (more : List Lexeme) × (script : Tree) × IsPlain (ls ++ more) script

-- The lexemes are no script, and the rest of them is what follows the longest front that begins one: with the lexeme after it
-- it begins none.
pub record StopsPlain (ls : List Lexeme) (rest : List Lexeme) : Type 0 where
  pub front : List Lexeme
  pub whole : ls ≡ front ++ rest
  pub begins : BeginsPlain front
  pub ends : (l : Lexeme) (more : List Lexeme) → rest ≡ l ∷ more → BeginsPlain (front ++ l ∷ []) → ⊥
  pub no_script : (script : Tree) → IsPlain ls script → ⊥

-- the first token that breaks the nesting rule comes before all else
abbrev pub RefusedPlain : List ℕ → List Token → Option ℕ → Refusal → Type 0
RefusedPlain text tokens (Some offset) refusal = refusal ≡ deep_at offset
RefusedPlain text tokens None refusal = (rest : List Lexeme) × StopsPlain (lexemes text tokens) rest × (refusal ≡ syntax_at (place_of (length text) rest))

-- the tokens of the text are a script with this tree, or are refused so
abbrev pub PlainParses : List ℕ → List Token → Result Tree Refusal → Type 0
PlainParses text tokens (Ok script) = (nesting_fault tokens ≡ None) × IsPlain (lexemes text tokens) script
PlainParses text tokens (Err refusal) = RefusedPlain text tokens (nesting_fault tokens) refusal

-- ---- laws

-- what begins a script by the conditions on the tokens ahead goes on to one by the rows, and what goes on to one begins it so
abbrev pub BeginningsGoOn : Type 0
BeginningsGoOn = (ls : List Lexeme) → BeginsScript ls ↔ BeginsPlain ls

-- so the conditions make no difference to what the tokens of a text are
abbrev pub SameReadings : Type 0
SameReadings = (text : List ℕ) (tokens : List Token) (reading : Result Tree Refusal) → Parses text tokens reading ↔ PlainParses text tokens reading

-- the tokens of a text have at most one reading
abbrev pub OneReading : Type 0
OneReading = (text : List ℕ) (tokens : List Token) (a b : Result Tree Refusal) → PlainParses text tokens a → PlainParses text tokens b → a ≡ b

-- and they have one: they are a script, or are refused
abbrev pub SomeReading : Type 0
SomeReading = (text : List ℕ) (tokens : List Token) → (reading : Result Tree Refusal) × PlainParses text tokens reading
