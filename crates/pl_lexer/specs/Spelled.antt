-- What the reader of tokens may rely on: they stand in the text, in order, and each is a spelling of its kind.
use Rattle.std.specs.Prelude.{ℕ, ◌-◌, ◌<◌, ◌≤◌, List, [], ◌∷◌, length, take, drop}
use Rattle.std.specs.Str.{IsCharBoundary}
use Rattle.pl_lexer.specs.declared.token.Token.{Token}
use Rattle.pl_lexer.specs.Spelling.{Spells}

-- the bytes of a token in its text
abbrev pub bytes_of : List ℕ → Token → List ℕ
bytes_of text token = take (token.end - token.start) (drop token.start text)

-- the token stands in the text, from byte `from` on, between characters, and its bytes are a spelling of its kind
pub record Stands (text : List ℕ) (from : ℕ) (token : Token) : Type 0 where
  pub after : from ≤ token.start
  pub some : token.start < token.end
  pub within : token.end ≤ length text
  pub starts : IsCharBoundary text token.start
  pub ends : IsCharBoundary text token.end
  pub spelled : Spells token.kind (bytes_of text token)

-- each token stands in the text, at or after the end of the one before
abbrev pub AreSpelled : List ℕ → ℕ → List Token → Type 0
AreSpelled text from [] = Unit {0}
AreSpelled text from (token ∷ tokens) = Stands text from token × AreSpelled text token.end tokens
