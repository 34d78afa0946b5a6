-- Texts in quotes, and comments.
use Rattle.std.specs.Prelude.{ℕ, Bool, false, ◌&&◌, ◌||◌, ◌==◌, if◌then◌else◌, List, [], ◌∷◌, Option, Some, None}
use Rattle.std.specs.List.{list_all}
use Rattle.pl_lexer.specs.declared.token.Kind.TheVariants.{Text}
use Rattle.pl_lexer.specs.Lexeme.{Lexeme, blank, token}
use Rattle.pl_lexer.specs.Bytes.{begins, is_nil, in_line}
use Rattle.pl_lexer.specs.Tables.{sign_of}

-- what a byte does to what is open: it goes on, it ends, or it is none that may stand there
pub data Next : Type 0 where
  on : Bool → Next
  end : Next
  wrong : Next

abbrev pub closes_by : Next → List ℕ → (Bool → Bool) → Bool
closes_by (on s) bs later = later s
closes_by end bs later = is_nil bs
closes_by wrong bs later = false

-- what is open, in a state, is closed by the last of the bytes, and by none before it
abbrev pub closes : (Bool → ℕ → Next) → Bool → List ℕ → Bool
closes next state [] = false
closes next state (b ∷ bs) = closes_by (next state b) bs (λ s. closes next s bs)

-- in a text: its quote ends it, and a backslash stands before a backslash or the quote. The state is whether a backslash stands before the byte
abbrev pub text_next : ℕ → Bool → ℕ → Next
text_next quote escaped b =
    if escaped then (if b == 92 || b == quote then on false else wrong)
    else (if b == quote then end else on (b == 92))

-- the text that bytes are which begin with a quote
abbrev pub text_of : List ℕ → Option Lexeme
text_of [] = None
text_of (quote ∷ bs) = if closes (text_next quote) false bs then Some (token Text) else None

-- in a comment that began with `/*`: `*/` ends it. The state is whether a `*` stands before the byte
abbrev pub comment_next : Bool → ℕ → Next
comment_next star b = if star && b == 47 then end else on (b == 42)

-- what bytes are that begin with a slash: a comment to the end of the line, a comment up to `*/`, or a sign.
-- A slash directly before `*` is no sign
abbrev pub slash_of : List ℕ → List ℕ → Option Lexeme
slash_of (slash ∷ b ∷ bs) behind =
    if b == 47 then (if list_all in_line bs then Some blank else None)
    else (if b == 42 then (if closes comment_next false bs then Some blank else None)
    else sign_of (slash ∷ b ∷ bs))
slash_of bytes behind = if begins (λ b. b == 42) behind then None else sign_of bytes
