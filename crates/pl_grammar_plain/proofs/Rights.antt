-- Behind each symbol of a row stands, where nothing of the rest is there, what a phrase may end before: a look at every row.
use Rattle.std.proofs.Common.{◌≡◌, Bool, true, false, ◌&&◌, List, refl}
use Rattle.pl_grammar.specs.declared.level.Looser.{Looser}
use Rattle.pl_grammar.specs.declared.level.Looser.TheVariants as lo
use Rattle.pl_grammar.specs.Lexeme.{Lexeme, same_terminal}
use Rattle.pl_grammar.specs.Grammar.{Form, top, comma, Production, functions, joins, further, after_comma, symbols}
use Rattle.pl_grammar_plain.proofs.Tests.{both, both_left, both_right}
use Rattle.pl_grammar_plain.proofs.Texts.{is_enough, is_right, text}

-- no form needs more levels than these
abbrev pub shortest_text : Form → List Lexeme
shortest_text f = text 40 f

-- a comma and a phrase stand for phrases that are no such pair themselves
abbrev has_no_comma : Form → Bool
has_no_comma (comma f) = false
has_no_comma f = true

abbrev is_ready : Form → Bool
is_ready (comma f) = has_no_comma f && is_enough 40 f
is_ready f = true

-- a form that stands in a row
abbrev pub is_used : Form → Bool
is_used f = is_ready f && is_enough 40 f

pub used_enough : (f : Form) → is_used f ≡ true → is_enough 40 f ≡ true
used_enough f e = both_right (is_ready f) (is_enough 40 f) e

ready : (f : Form) → has_no_comma f ≡ true → is_ready f ≡ true
ready (comma f) e = absurd cc
ready _ e = refl

level_right : (l : Looser) → is_right is_used is_used shortest_text (symbols (joins l)) ≡ true
unfolding same_terminal
level_right lo.Sum = refl
level_right _ = refl

operation_right : (l : Looser) → is_right is_used is_used shortest_text (symbols (further l)) ≡ true
unfolding same_terminal
operation_right lo.Sum = refl
operation_right _ = refl

comma_right : (g : Form) → is_ready (comma g) ≡ true → is_right is_used is_used shortest_text (symbols (after_comma g)) ≡ true
unfolding same_terminal
comma_right g e =
    let whole : is_used g ≡ true = both (is_ready g) (is_enough 40 g) (ready g (both_left (has_no_comma g) (is_enough 40 g) e)) (both_right (has_no_comma g) (is_enough 40 g) e) in
    both (is_used g) true whole refl

pub right : {f : Form} (p : Production f) → is_ready f ≡ true → is_right is_used is_used shortest_text (symbols p) ≡ true
unfolding same_terminal
right functions e = refl
right (joins l) e = level_right l
right (further l) e = operation_right l
right (after_comma g) e = comma_right g e
right _ e = refl

pub used_right : {f : Form} (p : Production f) → is_used f ≡ true → is_right is_used is_used shortest_text (symbols p) ≡ true
used_right {f} p e = right p (both_left (is_ready f) (is_enough 40 f) e)

pub top_used : is_used top ≡ true
unfolding same_terminal
top_used = refl
