-- What bytes of a script can spell.
use Rattle.pl_lexer.specs.declared.token.Kind.{Kind}

pub data Lexeme : Type 0 where
  -- a blank or a comment, which makes no token
  blank : Lexeme
  token : Kind → Lexeme
  -- what the language has no use for, and refuses by name
  foreign : Lexeme
