-- What the grammar reads: tokens with the bytes that spell them.
use Rattle.std.specs.Prelude.{ℕ, ◌≤◌, Bool, true, false, List, [], ◌∷◌, slice_range}
use Rattle.std.specs.Str.{IsCharBoundary}
use denote.Enum.Bare.{sameb}
use Rattle.pl_lexer.specs.declared.token.Token.{Token}
use Rattle.pl_lexer.specs.declared.token.Kind.{Kind}
use Rattle.pl_lexer.specs.declared.token.Kind.TheVariants as k
use Rattle.pl_lexer.specs.declared.token.Word.{Word}
use Rattle.pl_lexer.specs.declared.token.Word.TheVariants as w
use Rattle.pl_lexer.specs.declared.token.Sign.{Sign}
use Rattle.pl_lexer.specs.declared.token.Sign.TheVariants as g
use Rattle.pl_grammar.specs.contracts.terminal.Terminal.{the_type}
use Rattle.pl_grammar.specs.declared.terminal.Terminal.{Terminal}
use Rattle.pl_grammar.specs.declared.terminal.Terminal.TheVariants as t
use Rattle.pl_tree.specs.declared.tree.Spelled.{Spelled}

-- a token and its bytes
pub record Lexeme : Type 0 where
  pub token : Token
  pub spelling : List ℕ

abbrev pub lexeme : List ℕ → Token → Lexeme
lexeme text token = record { token = token; spelling = slice_range text token.start token.end }

abbrev pub lexemes : List ℕ → List Token → List Lexeme
lexemes text [] = []
lexemes text (token ∷ tokens) = lexeme text token ∷ lexemes text tokens

-- the token begins and ends in the text, between characters
abbrev pub LiesIn : List ℕ → Token → Type 0
LiesIn text token = (token.start ≤ token.end) × IsCharBoundary text token.start × IsCharBoundary text token.end

-- and so does each
abbrev pub AllLieIn : List ℕ → List Token → Type 0
AllLieIn text [] = Unit {0}
AllLieIn text (token ∷ tokens) = LiesIn text token × AllLieIn text tokens

-- the class of a keyword, of a sign, of a kind
abbrev pub terminal_of_word : Word → Terminal
terminal_of_word w.If = t.If
terminal_of_word w.Else = t.Else
terminal_of_word w.While = t.While
terminal_of_word w.Do = t.Do
terminal_of_word w.For = t.For
terminal_of_word w.In = t.In
terminal_of_word w.Return = t.Return
terminal_of_word w.New = t.New
terminal_of_word w.Try = t.Try
terminal_of_word w.Catch = t.Catch
terminal_of_word w.Throw = t.Throw
terminal_of_word w.This = t.This
terminal_of_word w.Instanceof = t.Instanceof
terminal_of_word w.Continue = t.Jump
terminal_of_word w.Break = t.Jump
terminal_of_word w.True = t.Constant
terminal_of_word w.False = t.Constant
terminal_of_word w.Null = t.Constant
terminal_of_word w.Def = t.Basic

abbrev pub terminal_of_sign : Sign → Terminal
terminal_of_sign g.LeftParen = t.LeftParen
terminal_of_sign g.RightParen = t.RightParen
terminal_of_sign g.LeftBracket = t.LeftBracket
terminal_of_sign g.RightBracket = t.RightBracket
terminal_of_sign g.LeftBrace = t.LeftBrace
terminal_of_sign g.RightBrace = t.RightBrace
terminal_of_sign g.Dot = t.Dot
terminal_of_sign g.NullDot = t.Dot
terminal_of_sign g.Comma = t.Comma
terminal_of_sign g.Semicolon = t.Semicolon
terminal_of_sign g.Question = t.Question
terminal_of_sign g.Colon = t.Colon
terminal_of_sign g.Elvis = t.Elvis
terminal_of_sign g.ColonColon = t.ColonColon
terminal_of_sign g.Arrow = t.Arrow
terminal_of_sign g.Plus = t.Additive
terminal_of_sign g.Minus = t.Additive
terminal_of_sign g.Star = t.Multiplicative
terminal_of_sign g.Slash = t.Multiplicative
terminal_of_sign g.Percent = t.Multiplicative
terminal_of_sign g.Increment = t.Step
terminal_of_sign g.Decrement = t.Step
terminal_of_sign g.Not = t.Negation
terminal_of_sign g.Tilde = t.Negation
terminal_of_sign g.ShiftLeft = t.Shift
terminal_of_sign g.ShiftRight = t.Shift
terminal_of_sign g.ShiftRightUnsigned = t.Shift
terminal_of_sign g.Less = t.Relational
terminal_of_sign g.LessEqual = t.Relational
terminal_of_sign g.Greater = t.Relational
terminal_of_sign g.GreaterEqual = t.Relational
terminal_of_sign g.Equal = t.Equality
terminal_of_sign g.NotEqual = t.Equality
terminal_of_sign g.Same = t.Equality
terminal_of_sign g.NotSame = t.Equality
terminal_of_sign g.And = t.And
terminal_of_sign g.Xor = t.Xor
terminal_of_sign g.Or = t.Or
terminal_of_sign g.AndAnd = t.AndAnd
terminal_of_sign g.OrOr = t.OrOr
terminal_of_sign g.Assign = t.Assign
terminal_of_sign _ = t.CompoundAssign

abbrev pub terminal_of : Kind → Terminal
terminal_of k.Name = t.Name
terminal_of k.DotName = t.DotName
terminal_of k.DotInteger = t.DotInteger
terminal_of k.Integer = t.Integer
terminal_of k.Text = t.Text
terminal_of (k.ClassName number) = t.Class
terminal_of (k.Prim primitive) = t.Basic
terminal_of (k.Word word) = terminal_of_word word
terminal_of (k.Sign sign) = terminal_of_sign sign

-- `==` on classes
unfoldable pub same_terminal : Terminal → Terminal → Bool
same_terminal = sameb the_type

abbrev pub is_known : Terminal → Bool
is_known t.Basic = true
is_known t.Class = true
is_known _ = false

abbrev pub is_word : Terminal → Bool
is_word t.Name = true
is_word t.DotName = true
is_word t.Basic = true
is_word t.If = true
is_word t.Else = true
is_word t.While = true
is_word t.Do = true
is_word t.For = true
is_word t.In = true
is_word t.Jump = true
is_word t.Return = true
is_word t.Try = true
is_word t.Catch = true
is_word t.Throw = true
is_word t.This = true
is_word t.Instanceof = true
is_word t.Constant = true
is_word _ = false

-- a token of the class is one of those that are asked for
abbrev pub matches : Terminal → Terminal → Bool
matches t.Known class = is_known class
matches t.AnyWord class = is_word class
matches wanted class = same_terminal class wanted

-- the class of the first token, which is End where there is none
abbrev pub class_of : Lexeme → Terminal
class_of lexeme = terminal_of lexeme.token.kind

abbrev pub next : List Lexeme → Terminal
next [] = t.End
next (lexeme ∷ lexemes) = class_of lexeme

-- what a tree keeps of a token: the token, or where it begins and how it is spelled
pub data Take : Type 0 where
  mark : Take
  text : Take

abbrev pub Taken : Take → Type 0
Taken mark = Token
Taken text = Spelled

abbrev pub taken : (take : Take) → Lexeme → Taken take
taken mark lexeme = lexeme.token
taken text lexeme = record { at = lexeme.token.start; spelling = lexeme.spelling }
