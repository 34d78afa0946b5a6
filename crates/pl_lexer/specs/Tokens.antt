-- What the tokens of a script are, and where it has none.
use Rattle.std.specs.Prelude.{◌≡◌, ◌≢◌, ℕ, ◌+◌, ◌<◌, ◌≤◌, Bool, false, List, [], ◌∷◌, length, Option, Some, None, Result, Ok, Err}
use Rattle.pl_types.specs.declared.refusal.Refusal.{Refusal}
use Rattle.pl_lexer.specs.declared.token.Token.{Token}
use Rattle.pl_lexer.specs.declared.token.Kind.{Kind}
use Rattle.pl_types.specs.declared.rules.TheConstants.{BAD_TOKEN, OUT_OF_PROFILE, TOO_LARGE}
use Rattle.pl_lexer.specs.Lexeme.{Lexeme, blank, token, foreign}
use Rattle.pl_lexer.specs.Longest.{Leads, NothingLeads}
use Rattle.pl_lexer.specs.Spelling.{spelling, is_dot}

-- the most bytes that a script has
abbrev pub most_bytes : ℕ
most_bytes = 65535

-- a part of a text: its bytes, and the kind of the token that they are, if they are no blank
pub record Part : Type 0 where
  pub bytes : List ℕ
  pub kind : Option Kind

abbrev pub lexeme_of : Option Kind → Lexeme
lexeme_of None = blank
lexeme_of (Some kind) = token kind

-- whether the last token is a dot, once a part is passed
abbrev pub dot_after : Bool → Option Kind → Bool
dot_after dot None = dot
dot_after dot (Some kind) = is_dot kind

-- the text is these parts in turn, each led by the longest spelling, and the rest. `dot` says whether a dot is the last token before it
abbrev pub Cuts : (List ℕ → Option ℕ) → Bool → List Part → List ℕ → List ℕ → Type 0
Cuts names dot [] text rest = text ≡ rest
Cuts names dot (part ∷ parts) text rest =
    (behind : List ℕ) × (Leads (spelling names dot) text part.bytes behind (lexeme_of part.kind) × Cuts names (dot_after dot part.kind) parts behind rest)

abbrev pub dot_after_all : Bool → List Part → Bool
dot_after_all dot [] = dot
dot_after_all dot (part ∷ parts) = dot_after_all (dot_after dot part.kind) parts

-- how many bytes the parts have
abbrev pub size_of : List Part → ℕ
size_of [] = 0
size_of (part ∷ parts) = length part.bytes + size_of parts

abbrev pub told : Option Kind → ℕ → ℕ → List Token → List Token
told None start end tokens = tokens
told (Some kind) start end tokens = record { kind = kind; start = start; end = end } ∷ tokens

-- the tokens of the parts, the first of which begins at this byte
abbrev pub tokens_of : ℕ → List Part → List Token
tokens_of at [] = []
tokens_of at (part ∷ parts) = told part.kind at (at + length part.bytes) (tokens_of (at + length part.bytes) parts)

-- these are the tokens of the text
pub record Tokenizes (text : List ℕ) (names : List ℕ → Option ℕ) (tokens : List Token) : Type 0 where
  pub small : length text ≤ most_bytes
  pub parts : List Part
  pub cuts : Cuts names false parts text []
  pub tokens_are : tokens ≡ tokens_of 0 parts

-- what is wrong at the front of what is left of a text: nothing leads it, or what leads it is out of the profile
pub data Wrong (spelling : List ℕ → List ℕ → Option Lexeme) (rest : List ℕ) (number : ℕ) : Type 0 where
  no_spelling : rest ≢ [] → NothingLeads spelling rest → number ≡ BAD_TOKEN → Wrong spelling rest number
  foreign_spelling : (front behind : List ℕ) → Leads spelling rest front behind foreign → number ≡ OUT_OF_PROFILE → Wrong spelling rest number

-- the text is cut from its front up to the first place where something is wrong
pub record Breaks (text : List ℕ) (names : List ℕ → Option ℕ) (refusal : Refusal) : Type 0 where
  pub small : length text ≤ most_bytes
  pub parts : List Part
  pub rest : List ℕ
  pub cuts : Cuts names false parts text rest
  pub wrong : Wrong (spelling names (dot_after_all false parts)) rest refusal.number
  pub place : refusal.offset ≡ size_of parts

-- the text has no tokens, for this reason
pub data LexFault (text : List ℕ) (names : List ℕ → Option ℕ) (refusal : Refusal) : Type 0 where
  too_large : most_bytes < length text → refusal ≡ record { number = TOO_LARGE; offset = most_bytes } → LexFault text names refusal
  breaks : Breaks text names refusal → LexFault text names refusal

-- the text has these tokens, or is refused so
abbrev pub Lexes : List ℕ → (List ℕ → Option ℕ) → Result (List Token) Refusal → Type 0
Lexes text names (Ok tokens) = Tokenizes text names tokens
Lexes text names (Err refusal) = LexFault text names refusal
