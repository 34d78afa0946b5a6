-- Outcomes of reading.
use Rattle.std.proofs.Common.{◌≡◌, List, Ok, Err, refl}
use Rattle.pl_grammar.specs.declared.stop.Stop.{Stop}
use Rattle.pl_grammar.specs.Lexeme.{Lexeme}
use Rattle.pl_grammar.specs.Reading.{Outcome, Reader, and_then}

abbrev pub success : {A : Type 0} → A × List Lexeme → Outcome A
success p = Ok p

abbrev pub failure : {A : Type 0} → Stop → Outcome A
failure e = Err e

pub ok_is : {A : Type 0} (a b : A × List Lexeme) → success a ≡ success b → a ≡ b
ok_is a b e = cc

pub err_is : {A : Type 0} (d e : Stop) → failure {A = A} d ≡ failure e → d ≡ e
err_is d e h = cc

pub then_then : {A B C : Type 0} (o : Outcome A) (f : A → Reader B) (g : B → Reader C) → and_then (and_then o f) g ≡ and_then o (λ v us. and_then (f v us) g)
then_then (Ok x) f g = refl
then_then (Err e) f g = refl
