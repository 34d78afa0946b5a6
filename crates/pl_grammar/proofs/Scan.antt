-- What is seen of the tokens ahead, as more come.
use Rattle.std.proofs.Common.{◌≡◌, true, List, [], ◌∷◌, ◌++◌, refl, ap, ◌∙◌}
use Rattle.pl_grammar.specs.declared.terminal.Terminal.{Terminal}
use Rattle.pl_grammar.specs.Lexeme.{Lexeme, class_of}
use Rattle.pl_grammar.specs.declared.ahead.Seen.{Seen}
use Rattle.pl_grammar.specs.declared.ahead.Seen.TheVariants as s
use Rattle.pl_grammar.specs.Ahead.{sees, seen, is_final}

pub sees_final : (from : Seen) (terminal : Terminal) → is_final from ≡ true → sees from terminal ≡ from
sees_final s.Declared terminal e = refl
sees_final s.Function terminal e = refl
sees_final s.Each terminal e = refl
sees_final s.In terminal e = refl
sees_final s.Arrow terminal e = refl
sees_final s.Reference terminal e = refl
sees_final s.Array terminal e = refl
sees_final s.Listed terminal e = refl
sees_final s.Cast terminal e = refl
sees_final s.Other terminal e = refl
sees_final _ terminal e = absurd cc

pub seen_append : (from : Seen) (x y : List Lexeme) → seen from (x ++ y) ≡ seen (seen from x) y
seen_append from [] y = refl
seen_append from (l ∷ x) y = seen_append (sees from (class_of l)) x y

pub seen_final : (from : Seen) (x : List Lexeme) → is_final from ≡ true → seen from x ≡ from
seen_final from [] e = refl
seen_final from (l ∷ x) e = ap (λ (q : Seen). seen q x) (sees_final from (class_of l) e) ∙ seen_final from x e

-- what is told stays told
pub seen_more : (from : Seen) (x y : List Lexeme) → is_final (seen from x) ≡ true → seen from (x ++ y) ≡ seen from x
seen_more from x y e = seen_append from x y ∙ seen_final (seen from x) y e
