-- The last of the lexemes, and the tokens that they are made of.
use Rattle.std.proofs.Common.{◌≡◌, ℕ, ◌-◌, ◌<◌, List, [], ◌∷◌, ◌++◌, length, take, drop, slice_index_or, refl, ap, sym, ◌∙◌, arith}
use Rattle.std.proofs.lemmas.List.{length-append, take_rest}
use Rattle.pl_lexer.specs.declared.token.Token.{Token}
use Rattle.pl_grammar.specs.Lexeme.{Lexeme, lexeme, lexemes}
use Rattle.pl_grammar.specs.Parses.{place_of}
use Rattle.parse_driver.proofs.Lexemes.{length_lexemes}

abbrev cons : Lexeme → List Lexeme → List Lexeme
cons l ls = l ∷ ls

tails : (l m : Lexeme) (ls ms : List Lexeme) → cons l ls ≡ cons m ms → ls ≡ ms
tails l m ls ms e = cc

-- what follows a front is made of the tokens that follow as many
rest_is : (text : List ℕ) (tokens : List Token) (front rest : List Lexeme) → lexemes text tokens ≡ front ++ rest → rest ≡ lexemes text (drop (length front) tokens)
rest_is text tokens [] rest e = sym e
rest_is text [] (l ∷ front) rest e = absurd (cc e)
rest_is text (t ∷ tokens) (l ∷ front) rest e = rest_is text tokens front rest (tails (lexeme text t) l (lexemes text tokens) (front ++ rest) e)

first_place : (text : List ℕ) (tokens : List Token) (d : Token) (size : ℕ) → 0 < length tokens → (slice_index_or tokens 0 d).start ≡ place_of size (lexemes text tokens)
first_place text [] d size some = absurd (omega arith)
first_place text (t ∷ tokens) d size some = refl

-- where the first of the last tokens begins
pub place_of_rest : (text : List ℕ) (tokens : List Token) (front rest : List Lexeme) (d : Token) (size left : ℕ) → lexemes text tokens ≡ front ++ rest → length rest ≡ left → 0 < length (drop (length tokens - left) tokens)
    → (slice_index_or (take (length tokens - (length tokens - left)) (drop (length tokens - left) tokens)) 0 d).start ≡ place_of size rest
place_of_rest text tokens front rest d size left e n some =
    let count : length tokens - left ≡ length front = omega (arith, sym (length_lexemes text tokens) ∙ ap length e ∙ length-append front rest) in
    let same : rest ≡ lexemes text (drop (length tokens - left) tokens) = rest_is text tokens front rest e ∙ ap (λ (k : ℕ). lexemes text (drop k tokens)) (sym count) in
    rw (take_rest tokens (length tokens - left), same) (first_place text (drop (length tokens - left) tokens) d size some)
