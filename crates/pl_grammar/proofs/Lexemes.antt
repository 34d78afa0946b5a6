-- A loop over the tokens ahead.
use Rattle.std.proofs.Common.{◌≡◌, true, ℕ, ◌+◌, ◌<◌, List, [], ◌∷◌, ◌++◌, length, take, drop, slice_index_or, refl, ap, sym, ◌∙◌}
use Rattle.std.proofs.lemmas.List.{take_more, take-append-drop}
use Rattle.pl_lexer.specs.declared.token.Token.{Token}
use Rattle.pl_grammar.specs.declared.ahead.Seen.{Seen}
use Rattle.pl_grammar.specs.Ahead.{sees, seen, is_final}
use Rattle.pl_grammar.specs.Lexeme.{Lexeme, lexeme, lexemes, terminal_of}
use Rattle.pl_grammar.proofs.Scan.{seen_append, seen_more}

lexemes_append : (text : List ℕ) (a b : List Token) → lexemes text (a ++ b) ≡ lexemes text a ++ lexemes text b
lexemes_append text [] b = refl
lexemes_append text (t ∷ a) b = ap (λ (u : List Lexeme). lexeme text t ∷ u) (lexemes_append text a b)

pub look_more : (text : List ℕ) (from : Seen) (xs : List Token) (i : ℕ) (d : Token) → i < length xs → seen from (lexemes text (take (i + 1) xs)) ≡ sees (seen from (lexemes text (take i xs))) (terminal_of (slice_index_or xs i d).kind)
look_more text from xs i d lt =
    ap (λ (u : List Token). seen from (lexemes text u)) (take_more xs i d lt)
    ∙ ap (λ (u : List Lexeme). seen from u) (lexemes_append text (take i xs) (slice_index_or xs i d ∷ []))
    ∙ seen_append from (lexemes text (take i xs)) (lexeme text (slice_index_or xs i d) ∷ [])

pub look_end : (text : List ℕ) (from : Seen) (xs : List Token) (i : ℕ) → is_final (seen from (lexemes text (take i xs))) ≡ true → seen from (lexemes text (take i xs)) ≡ seen from (lexemes text xs)
look_end text from xs i e =
    sym (ap (λ (u : List Lexeme). seen from u) (ap (lexemes text) (sym (take-append-drop i xs)) ∙ lexemes_append text (take i xs) (drop i xs)) ∙ seen_more from (lexemes text (take i xs)) (lexemes text (drop i xs)) e)
