-- What leads a text: the longest spelling at its front.
use Rattle.std.specs.Prelude.{◌≡◌, ℕ, ◌≤◌, List, ◌++◌, length, take, drop, Option, Some, None, IsSome}
use Rattle.pl_lexer.specs.declared.found.Found.{Found}
use Rattle.pl_lexer.specs.declared.found.Found.TheVariants.{Nothing, Foreign, Blank, Leading}
use Rattle.pl_lexer.specs.Lexeme.{Lexeme, blank, token, foreign}

-- the bytes `front` of the text spell the lexeme, and no more of its bytes spell anything
pub record Leads (spelling : List ℕ → List ℕ → Option Lexeme) (text front behind : List ℕ) (lexeme : Lexeme) : Type 0 where
  pub parts : front ++ behind ≡ text
  pub spells : spelling front behind ≡ Some lexeme
  pub longest : (more left : List ℕ) → more ++ left ≡ text → IsSome (spelling more left) → length more ≤ length front

-- no bytes at the front of the text spell anything
abbrev pub NothingLeads : (List ℕ → List ℕ → Option Lexeme) → List ℕ → Type 0
NothingLeads spelling text = (more left : List ℕ) → more ++ left ≡ text → IsSome (spelling more left) → ⊥

-- the first n bytes of the text spell the lexeme, and no more of its bytes spell anything
pub record LeadsBy (spelling : List ℕ → List ℕ → Option Lexeme) (text : List ℕ) (n : ℕ) (lexeme : Lexeme) : Type 0 where
  pub within : n ≤ length text
  pub leads : Leads spelling text (take n text) (drop n text) lexeme

-- what leads a text has been found
abbrev pub Finds : (List ℕ → List ℕ → Option Lexeme) → List ℕ → Found → Type 0
Finds spelling text Nothing = NothingLeads spelling text
Finds spelling text Foreign = (front : List ℕ) × ((behind : List ℕ) × Leads spelling text front behind foreign)
Finds spelling text (Blank n) = LeadsBy spelling text n blank
Finds spelling text (Leading kind n) = LeadsBy spelling text n (token kind)

-- what has been found is what n bytes spell, if anything
abbrev pub Shows : Option Lexeme → ℕ → Found → Type 0
Shows spelled n Nothing = spelled ≡ None
Shows spelled n Foreign = spelled ≡ Some foreign
Shows spelled n (Blank m) = ⊥
Shows spelled n (Leading kind m) = (spelled ≡ Some (token kind)) × (m ≡ n)
