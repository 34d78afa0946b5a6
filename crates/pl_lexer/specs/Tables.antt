-- The spellings that are listed one by one: operators and brackets, and keywords.
use Rattle.std.specs.Prelude.{codes, ℕ, Bool, false, ◌||◌, if◌then◌else◌, List, [], ◌∷◌, Option, Some, None}
use Rattle.std.specs.Str.{bytes_eq}
use Rattle.pl_types.specs.declared.primitive.Primitive.{Primitive}
use Rattle.pl_types.specs.Texts.{primitive_of}
use Rattle.pl_lexer.specs.declared.token.Kind.TheVariants as kind
use Rattle.pl_lexer.specs.declared.token.Sign.{Sign}
use Rattle.pl_lexer.specs.declared.token.Sign.TheVariants as sign
use Rattle.pl_lexer.specs.declared.token.Word.{Word}
use Rattle.pl_lexer.specs.declared.token.Word.TheVariants as word
use Rattle.pl_lexer.specs.Lexeme.{Lexeme, token, foreign}

-- what a table has for a text
abbrev pub look_up : {X : Type 0} → List ℕ → List (List ℕ × X) → Option X
look_up bytes [] = None
look_up bytes ((text, x) ∷ rows) = if bytes_eq bytes text then Some x else look_up bytes rows

-- a list has the text
abbrev pub is_listed : List ℕ → List (List ℕ) → Bool
is_listed bytes [] = false
is_listed bytes (text ∷ texts) = bytes_eq bytes text || is_listed bytes texts

-- operators, brackets and separators
abbrev pub signs : List (List ℕ × Sign)
signs =
    (codes "(", sign.LeftParen) ∷ (codes ")", sign.RightParen) ∷ (codes "[", sign.LeftBracket) ∷ (codes "]", sign.RightBracket)
    ∷ (codes "{", sign.LeftBrace) ∷ (codes "}", sign.RightBrace) ∷ (codes ".", sign.Dot) ∷ (codes ",", sign.Comma)
    ∷ (codes ";", sign.Semicolon) ∷ (codes "?", sign.Question) ∷ (codes ":", sign.Colon) ∷ (codes "+", sign.Plus)
    ∷ (codes "-", sign.Minus) ∷ (codes "*", sign.Star) ∷ (codes "/", sign.Slash) ∷ (codes "%", sign.Percent)
    ∷ (codes "!", sign.Not) ∷ (codes "~", sign.Tilde) ∷ (codes "<", sign.Less) ∷ (codes ">", sign.Greater)
    ∷ (codes "&", sign.And) ∷ (codes "^", sign.Xor) ∷ (codes "|", sign.Or) ∷ (codes "=", sign.Assign)
    ∷ (codes "?.", sign.NullDot) ∷ (codes "?:", sign.Elvis) ∷ (codes "::", sign.ColonColon) ∷ (codes "->", sign.Arrow)
    ∷ (codes "++", sign.Increment) ∷ (codes "--", sign.Decrement) ∷ (codes "<<", sign.ShiftLeft) ∷ (codes ">>", sign.ShiftRight)
    ∷ (codes "<=", sign.LessEqual) ∷ (codes ">=", sign.GreaterEqual) ∷ (codes "==", sign.Equal) ∷ (codes "!=", sign.NotEqual)
    ∷ (codes "&&", sign.AndAnd) ∷ (codes "||", sign.OrOr) ∷ (codes "+=", sign.AddAssign) ∷ (codes "-=", sign.SubtractAssign)
    ∷ (codes "*=", sign.MultiplyAssign) ∷ (codes "/=", sign.DivideAssign) ∷ (codes "%=", sign.RemainderAssign) ∷ (codes "&=", sign.AndAssign)
    ∷ (codes "^=", sign.XorAssign) ∷ (codes "|=", sign.OrAssign) ∷ (codes ">>>", sign.ShiftRightUnsigned) ∷ (codes "===", sign.Same)
    ∷ (codes "!==", sign.NotSame) ∷ (codes "<<=", sign.ShiftLeftAssign) ∷ (codes ">>=", sign.ShiftRightAssign) ∷ (codes ">>>=", sign.ShiftRightUnsignedAssign) ∷ []

-- the operators on patterns, which the language leaves out
abbrev pub foreign_signs : List (List ℕ)
foreign_signs = codes "=~" ∷ codes "==~" ∷ []

-- the token of a sign
abbrev pub sign_token : Option Sign → Option Lexeme
sign_token (Some s) = Some (token (kind.Sign s))
sign_token None = None

-- the sign that the bytes are
unfoldable pub sign_of : List ℕ → Option Lexeme
sign_of bytes = if is_listed bytes foreign_signs then Some foreign else sign_token (look_up bytes signs)

abbrev pub statement_words : List (List ℕ × Word)
statement_words =
    (codes "if", word.If) ∷ (codes "else", word.Else) ∷ (codes "while", word.While) ∷ (codes "do", word.Do) ∷ (codes "for", word.For)
    ∷ (codes "in", word.In) ∷ (codes "continue", word.Continue) ∷ (codes "break", word.Break) ∷ (codes "return", word.Return) ∷ (codes "try", word.Try)
    ∷ (codes "catch", word.Catch) ∷ (codes "throw", word.Throw) ∷ []

abbrev pub expression_words : List (List ℕ × Word)
expression_words =
    (codes "new", word.New) ∷ (codes "this", word.This) ∷ (codes "instanceof", word.Instanceof) ∷ (codes "true", word.True) ∷ (codes "false", word.False)
    ∷ (codes "null", word.Null) ∷ (codes "def", word.Def) ∷ []

abbrev pub keyword_or : Option Word → Option Word → Option Word
keyword_or (Some w) other = Some w
keyword_or None other = other

abbrev pub keyword_of : List ℕ → Option Word
keyword_of bytes = keyword_or (look_up bytes statement_words) (look_up bytes expression_words)

-- the words that the language leaves out
abbrev pub foreign_words : List (List ℕ)
foreign_words = codes "float" ∷ codes "double" ∷ codes "finally" ∷ []

-- the token of a keyword, or else of a primitive type
abbrev pub word_token : Option Word → Option Primitive → Option Lexeme
word_token (Some w) p = Some (token (kind.Word w))
word_token None (Some p) = Some (token (kind.Prim p))
word_token None None = None

-- what the word is, if it is no name
unfoldable pub reserved_of : List ℕ → Option Lexeme
reserved_of bytes = if is_listed bytes foreign_words then Some foreign else word_token (keyword_of bytes) (primitive_of bytes)
