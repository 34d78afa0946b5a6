-- What the frames of a reader stand for, and how many steps they take at most.
use Rattle.std.specs.Prelude.{◌≡◌, ◌≢◌, ℕ, zero, suc, ◌+◌, ◌-◌, ◌*◌, List, [], ◌∷◌, ◌++◌, drop, Option, Some, None, Result, Ok, Err}
use Rattle.pl_grammar.specs.declared.stop.Stop.{Stop}
use Rattle.pl_grammar.specs.declared.stop.Stop.TheVariants.{NoMemory}
use Rattle.pl_grammar.specs.Lexeme.{Lexeme}
use Rattle.pl_grammar.specs.Grammar.{Form, TreeOf, Symbol, SymbolTree, Trees, Production, symbols, built}
use Rattle.pl_grammar.specs.Reading.{Outcome, Reader, and_then, read_form, read_symbols, read_repeated}
use Rattle.parse_tables.specs.Names.{series_form, production_of}
use Rattle.parse_values.specs.declared.value.Value.{Value}
use Rattle.parse_values.specs.Values.{value_of, list_value, symbol_value, values_of}
use Rattle.parse_values.specs.Stack.{piled}
use Rattle.parse_driver.specs.declared.control.Frame.{Frame}
use Rattle.parse_driver.specs.declared.control.Frame.TheVariants as fr

-- what is on the stack in the end, and what is left of the lexemes, or where reading stops
abbrev pub Whole : Type 0
Whole = Outcome (List Value)

-- that a stack and lexemes come to an outcome
abbrev pub ComeTo : Type 1
ComeTo = List Value → List Lexeme → Whole → Type 0

-- these are the last symbols of a production whose first ones are on the stack, and its tree is waited for
pub record RestComesTo {form : Form} (wait : ComeTo) (p : Production form) (levels : ℕ) (rest : List Symbol) (stack : List Value) (ls : List Lexeme) (whole : Whole) : Type 0 where
  pub below : List Value
  pub all : Trees rest → Trees (symbols p)
  pub next : TreeOf form → Reader (List Value)
  pub piles : (trees : Trees rest) → piled (values_of rest trees) stack ≡ piled (values_of (symbols p) (all trees)) below
  pub waits : (tree : TreeOf form) (us : List Lexeme) → wait (value_of form tree ∷ below) us (next tree us)
  pub is : whole ≡ and_then (read_symbols (read_form levels) rest ls) (λ trees us. next (built p (all trees)) us)

-- phrases are on the stack and more of them may come; all of them are waited for
pub record MoreComesTo (wait : ComeTo) (form : Form) (turns levels : ℕ) (stack : List Value) (ls : List Lexeme) (whole : Whole) : Type 0 where
  pub below : List Value
  pub trees : List (TreeOf form)
  pub next : List (TreeOf form) → Reader (List Value)
  pub stands : stack ≡ list_value form trees ∷ below
  pub waits : (all : List (TreeOf form)) (us : List Lexeme) → wait (list_value form all ∷ below) us (next all us)
  pub is : whole ≡ and_then (read_repeated (read_form levels) turns form ls) (λ more us. next (trees ++ more) us)

-- the same, where one more is on the top
pub record JoinComesTo (wait : ComeTo) (form : Form) (turns levels : ℕ) (stack : List Value) (ls : List Lexeme) (whole : Whole) : Type 0 where
  pub below : List Value
  pub trees : List (TreeOf form)
  pub tree : TreeOf form
  pub next : List (TreeOf form) → Reader (List Value)
  pub stands : stack ≡ value_of form tree ∷ list_value form trees ∷ below
  pub waits : (all : List (TreeOf form)) (us : List Lexeme) → wait (list_value form all ∷ below) us (next all us)
  pub is : whole ≡ and_then (read_repeated (read_form levels) turns form ls) (λ more us. next (trees ++ tree ∷ more) us)

-- by these frames, a stack and lexemes come to an outcome
abbrev pub ComesTo : List Frame → List Value → List Lexeme → Whole → Type 0
ComesTo [] stack ls whole = whole ≡ Ok (stack, ls)
ComesTo (fr.Rest rule at levels ∷ frames) stack ls whole = RestComesTo (ComesTo frames) (production_of rule) levels (drop at (symbols (production_of rule))) stack ls whole
ComesTo (fr.More series turns levels ∷ frames) stack ls whole = MoreComesTo (ComesTo frames) (series_form series) turns levels stack ls whole
ComesTo (fr.Join series turns levels ∷ frames) stack ls whole = JoinComesTo (ComesTo frames) (series_form series) turns levels stack ls whole

-- the frames wait for the tree of a symbol
abbrev pub Wait : List Frame → (s : Symbol) → List Value → (SymbolTree s → Reader (List Value)) → Type 0
Wait frames s below next = (tree : SymbolTree s) (us : List Lexeme) → ComesTo frames (symbol_value s tree ∷ below) us (next tree us)

-- a step keeps the outcome, or tells where reading stops, unless memory fails
abbrev pub Keeps : {U : Type 0} → Whole → Result U Stop → List Frame → List Value → List Lexeme → Type 0
Keeps whole (Ok _) frames stack ls = ComesTo frames stack ls whole
Keeps whole (Err e) frames stack ls = e ≢ NoMemory → whole ≡ Err e

-- the innermost frame, if there is one
abbrev pub Pops : Option Frame → List Frame → List Frame → Type 0
Pops None old new = old ≡ []
Pops (Some frame) old new = old ≡ frame ∷ new

-- the steps of a symbol at most, by those of a phrase inside it, where there are so many lexemes
abbrev pub around : ℕ → ℕ → ℕ
around most inside = most * (inside + 3) + 2 * inside + 6

-- of a phrase
unfoldable pub phrase_steps : ℕ → ℕ → ℕ
phrase_steps most zero = 2
phrase_steps most (suc levels) = 6 * around most (phrase_steps most levels) + 2

-- of a symbol
abbrev pub symbol_steps : ℕ → ℕ → ℕ
symbol_steps most levels = around most (phrase_steps most levels)

-- of a frame. A rule has six symbols at most
abbrev pub frame_steps : ℕ → Frame → ℕ
frame_steps most (fr.Rest rule at levels) = (6 - at) * symbol_steps most levels + 1
frame_steps most (fr.More series turns levels) = turns * (phrase_steps most levels + 2) + 1
frame_steps most (fr.Join series turns levels) = turns * (phrase_steps most levels + 2) + 2

-- of all frames
abbrev pub steps : ℕ → List Frame → ℕ
steps most [] = 0
steps most (frame ∷ frames) = frame_steps most frame + steps most frames
