-- What may come next, row by row: what stands behind a phrase follows its form, and no token that begins one more phrase
-- stands where repeated phrases end, nor where a phrase is left out.
use Rattle.std.proofs.Common.{◌≡◌, Bool, true, false, not, ◌&&◌, ◌||◌, List, [], ◌∷◌, refl}
use Rattle.pl_grammar.specs.declared.terminal.Terminal.{Terminal}
use Rattle.pl_grammar.specs.declared.level.Level.TheVariants as lv
use Rattle.pl_grammar.specs.declared.level.Looser.{Looser}
use Rattle.pl_grammar.specs.declared.level.Looser.TheVariants as lo
use Rattle.pl_grammar.specs.Lexeme.{same_terminal, matches}
use Rattle.pl_grammar.specs.Grammar.{Form, binary, operation, comma, Symbol, token, phrase, repeated, optional, Production, symbols, functions, joins, further, after_comma}
use Rattle.pl_grammar.specs.Firsts.{first, absent}
use Rattle.pl_grammar_plain.specs.Plain.{omits, ends}
use Rattle.pl_grammar_plain.proofs.Tests.{clash, both_left, both_right, every, implies}
use Rattle.pl_grammar_plain.proofs.Follows.{follows}

-- what may come next where these symbols are to come, and F behind them
abbrev pub comes : List Symbol → (Terminal → Bool) → Terminal → Bool
comes [] F c = F c
comes (token take w ∷ ss) F c = matches w c
comes (phrase g ∷ ss) F c = first g c
comes (repeated g ∷ ss) F c = first g c || (ends g c && comes ss F c)
comes (optional g ∷ ss) F c = first g c || (omits g c && comes ss F c)

-- what follows the symbol follows its form
abbrev pub is_followed : Symbol → (Terminal → Bool) → Bool
is_followed (token take w) next = true
is_followed (phrase g) next = every (λ c. implies (next c) (follows g c))
is_followed (repeated g) next = every (λ c. implies (first g c || (ends g c && next c)) (follows g c))
is_followed (optional g) next = every (λ c. implies (next c) (follows g c))

-- and begins no further phrase of it
abbrev pub is_ended : Symbol → (Terminal → Bool) → Bool
is_ended (token take w) next = true
is_ended (phrase g) next = true
is_ended (repeated g) next = every (λ c. implies (ends g c && next c) (not (first g c)))
is_ended (optional g) next = every (λ c. implies (omits g c && next c) (absent g c))

abbrev pub is_sure : List Symbol → (Terminal → Bool) → Bool
is_sure [] F = true
is_sure (s ∷ ss) F = is_followed s (comes ss F) && (is_ended s (comes ss F) && is_sure ss F)

pub sure_followed : (s : Symbol) (ss : List Symbol) (F : Terminal → Bool) → is_sure (s ∷ ss) F ≡ true → is_followed s (comes ss F) ≡ true
sure_followed s ss F e = both_left (is_followed s (comes ss F)) (is_ended s (comes ss F) && is_sure ss F) e

pub sure_ended : (s : Symbol) (ss : List Symbol) (F : Terminal → Bool) → is_sure (s ∷ ss) F ≡ true → is_ended s (comes ss F) ≡ true
sure_ended s ss F e = both_left (is_ended s (comes ss F)) (is_sure ss F) (both_right (is_followed s (comes ss F)) (is_ended s (comes ss F) && is_sure ss F) e)

pub sure_rest : (s : Symbol) (ss : List Symbol) (F : Terminal → Bool) → is_sure (s ∷ ss) F ≡ true → is_sure ss F ≡ true
sure_rest s ss F e = both_right (is_ended s (comes ss F)) (is_sure ss F) (both_right (is_followed s (comes ss F)) (is_ended s (comes ss F) && is_sure ss F) e)

level_row : (l : Looser) → is_sure (symbols (joins l)) (follows (binary (lv.Looser l))) ≡ true
unfolding same_terminal
level_row lo.Sum = refl
level_row _ = refl

operation_row : (l : Looser) → is_sure (symbols (further l)) (follows (operation (lv.Looser l))) ≡ true
unfolding same_terminal
operation_row lo.Sum = refl
operation_row _ = refl

-- a comma and a phrase are the one row over an unknown form, which has no test
abbrev pub has_test : Form → Bool
has_test (comma g) = false
has_test _ = true

pub row : {f : Form} (p : Production f) → has_test f ≡ true → is_sure (symbols p) (follows f) ≡ true
unfolding same_terminal
row functions i = refl
row (joins l) i = level_row l
row (further l) i = operation_row l
row (after_comma g) i = absurd (clash i)
row _ i = refl
