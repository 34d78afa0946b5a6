-- Which bytes spell what.
use Rattle.std.specs.Prelude.{◌≡◌, ℕ, Bool, true, false, ◌==◌, if◌then◌else◌, List, [], ◌∷◌, Option, Some, None}
use Rattle.std.specs.Char.{is_ascii_digit}
use Rattle.pl_lexer.specs.declared.token.Kind.{Kind}
use Rattle.pl_lexer.specs.declared.token.Kind.TheVariants.{Name, DotName, DotInteger, Integer, Text, ClassName, Prim, Word, Sign}
use Rattle.pl_lexer.specs.declared.token.Sign.TheVariants as sign
use Rattle.pl_lexer.specs.Lexeme.{Lexeme, blank, token}
use Rattle.pl_lexer.specs.Bytes.{begins, is_blank, is_letter, is_quote}
use Rattle.pl_lexer.specs.Tables.{sign_of, reserved_of}
use Rattle.pl_lexer.specs.Numbers.{number_of, dot_number_of, is_integer, is_dot_integer}
use Rattle.pl_lexer.specs.Words.{word_of, dot_word_of, is_word, is_dotted}
use Rattle.pl_lexer.specs.Enclosed.{text_of, slash_of}

-- a blank is one byte
abbrev pub blank_of : List ℕ → Option Lexeme
blank_of (b ∷ []) = Some blank
blank_of _ = None

abbrev pub is_slash : ℕ → Bool
is_slash b = b == 47

-- what the bytes spell where `behind` follows them, by their first byte. `dot` says whether a dot is the last token before them
unfoldable pub spelling : (List ℕ → Option ℕ) → Bool → List ℕ → List ℕ → Option Lexeme
spelling names dot bytes behind =
    if begins is_ascii_digit bytes then (if dot then dot_number_of bytes else number_of bytes)
    else (if begins is_letter bytes then (if dot then dot_word_of bytes else word_of names bytes behind)
    else (if begins is_quote bytes then text_of bytes
    else (if begins is_blank bytes then blank_of bytes
    else (if begins is_slash bytes then slash_of bytes behind
    else sign_of bytes))))

-- the bytes are a spelling of the kind
abbrev pub Spells : Kind → List ℕ → Type 0
Spells Name bytes = (is_word bytes ≡ true) × (reserved_of bytes ≡ None)
Spells DotName bytes = is_word bytes ≡ true
Spells DotInteger bytes = is_dot_integer bytes ≡ true
Spells Integer bytes = is_integer bytes ≡ true
Spells Text bytes = (begins is_quote bytes ≡ true) × (text_of bytes ≡ Some (token Text))
Spells (ClassName class) bytes = is_dotted bytes ≡ true
Spells (Prim p) bytes = reserved_of bytes ≡ Some (token (Prim p))
Spells (Word w) bytes = reserved_of bytes ≡ Some (token (Word w))
Spells (Sign s) bytes = sign_of bytes ≡ Some (token (Sign s))

-- the token is `.` or `?.`, after which every word is a name
abbrev pub is_dot : Kind → Bool
is_dot (Sign sign.Dot) = true
is_dot (Sign sign.NullDot) = true
is_dot _ = false
