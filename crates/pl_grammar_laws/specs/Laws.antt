-- What holds of reading by the rows of the grammar.
use Rattle.std.specs.Prelude.{◌≡◌, ℕ, ◌+◌, ◌*◌, List, [], ◌++◌, length, Result, Ok, Err}
use Rattle.pl_lexer.specs.declared.token.Token.{Token}
use Rattle.pl_types.specs.declared.refusal.Refusal.{Refusal}
use Rattle.pl_tree.specs.declared.tree.Tree.{Tree}
use Rattle.pl_grammar.specs.declared.stop.Stop.TheVariants.{Unexpected, TooDeep}
use Rattle.pl_grammar.specs.Lexeme.{Lexeme}
use Rattle.pl_grammar.specs.Reading.{read_script}
use Rattle.pl_grammar.specs.Parses.{IsScript, BeginsScript, StopsBefore, Parses}

-- so many levels that no script needs more
abbrev pub levels_for : List Lexeme → ℕ
levels_for ls = 32 * length ls + 31

-- what is read is a script
abbrev pub Sound : Type 0
Sound = (levels : ℕ) (ls rest : List Lexeme) (script : Tree) → read_script levels ls ≡ Ok (script, rest) → IsScript ls script

-- a script is read, to its end
abbrev pub Complete : Type 0
Complete = (ls : List Lexeme) (script : Tree) → IsScript ls script → read_script (levels_for ls) ls ≡ Ok (script, [])

-- reading stops before the first lexeme with which no script goes on
abbrev pub Exact : Type 0
Exact = (levels : ℕ) (ls : List Lexeme) (left : ℕ) → read_script levels ls ≡ Err (Unexpected left) → (rest : List Lexeme) × StopsBefore ls rest × (length rest ≡ left)

-- what goes on to a script begins one
abbrev pub Begun : Type 0
Begun = (ls more : List Lexeme) (script : Tree) → IsScript (ls ++ more) script → BeginsScript ls

-- no script nests deeper than the levels that there are for it
abbrev pub Ends : Type 0
Ends = (ls : List Lexeme) → read_script (levels_for ls) ls ≡ Err TooDeep → ⊥

-- the tokens of a text have at most one reading
abbrev pub Unique : Type 0
Unique = (text : List ℕ) (tokens : List Token) (a b : Result Tree Refusal) → Parses text tokens a → Parses text tokens b → a ≡ b

-- the tokens of a text have a reading: they are a script, or are refused
abbrev pub Answered : Type 0
Answered = (text : List ℕ) (tokens : List Token) → (reading : Result Tree Refusal) × Parses text tokens reading
