-- Lists of lexemes, and the tokens that they are made of.
use Rattle.std.proofs.Common.{◌≡◌, ℕ, suc, List, [], ◌∷◌, length, refl, ap}
use Rattle.pl_lexer.specs.declared.token.Token.{Token}
use Rattle.pl_grammar.specs.Lexeme.{lexemes}

pub length_lexemes : (text : List ℕ) (tokens : List Token) → length (lexemes text tokens) ≡ length tokens
length_lexemes text [] = refl
length_lexemes text (t ∷ ts) = ap (λ (n : ℕ). suc n) (length_lexemes text ts)
