-- Tokens that are spelled in a text lie in it.
use Rattle.std.proofs.Common.{ℕ, List, [], ◌∷◌, arith}
use Rattle.pl_lexer.specs.declared.token.Token.{Token}
use Rattle.pl_lexer.specs.Spelled.{AreSpelled}
use Rattle.pl_grammar.specs.Lexeme.{AllLieIn}

pub spelled_lie_in : (text : List ℕ) (from : ℕ) (tokens : List Token) → AreSpelled text from tokens → AllLieIn text tokens
spelled_lie_in text from [] h = tt
spelled_lie_in text from (token ∷ tokens) h = ((omega (arith, h.0.some), h.0.starts, h.0.ends), spelled_lie_in text token.end tokens h.1)
