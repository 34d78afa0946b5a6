-- What a look ahead allows, as fewer tokens come.
use Rattle.std.proofs.Common.{◌≡◌, true, List, [], ◌∷◌, ◌++◌, subst}
use Rattle.pl_grammar.specs.declared.terminal.Terminal.{Terminal}
use Rattle.pl_grammar.specs.Lexeme.{Lexeme, class_of}
use Rattle.pl_grammar.specs.declared.ahead.Seen.{Seen}
use Rattle.pl_grammar.specs.Ahead.{sees, seen}
use Rattle.pl_grammar.specs.Grammar.{Form, Production}
use Rattle.pl_grammar.specs.Firsts.{allowed, fits}
use Rattle.pl_grammar.proofs.Scan.{seen_append}
use Rattle.pl_grammar_laws.proofs.LookAhead.{allowed_back, fits_back}

allowed_before : {f : Form} (p : Production f) (terminal : Terminal) (from : Seen) (y : List Lexeme) → allowed p terminal (seen from y) ≡ true → allowed p terminal from ≡ true
allowed_before p terminal from [] e = e
allowed_before p terminal from (l ∷ y) e = allowed_back p terminal from (class_of l) (allowed_before p terminal (sees from (class_of l)) y e)

pub allowed_cut : {f : Form} (p : Production f) (terminal : Terminal) (from : Seen) (x y : List Lexeme) → allowed p terminal (seen from (x ++ y)) ≡ true → allowed p terminal (seen from x) ≡ true
allowed_cut p terminal from x y e = allowed_before p terminal (seen from x) y (subst (λ (q : Seen). allowed p terminal q ≡ true) (seen_append from x y) e)

fits_before : {f : Form} (p : Production f) (terminal : Terminal) (from : Seen) (y : List Lexeme) → fits p terminal (seen from y) ≡ true → fits p terminal from ≡ true
fits_before p terminal from [] e = e
fits_before p terminal from (l ∷ y) e = fits_back p terminal from (class_of l) (fits_before p terminal (sees from (class_of l)) y e)

pub fits_cut : {f : Form} (p : Production f) (terminal : Terminal) (from : Seen) (x y : List Lexeme) → fits p terminal (seen from (x ++ y)) ≡ true → fits p terminal (seen from x) ≡ true
fits_cut p terminal from x y e = fits_before p terminal (seen from x) y (subst (λ (q : Seen). fits p terminal q ≡ true) (seen_append from x y) e)
