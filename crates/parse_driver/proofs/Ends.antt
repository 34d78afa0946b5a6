-- A script that is read, and what stands behind it.
use Rattle.std.proofs.Common.{◌≡◌, ℕ, ◌<◌, List, [], ◌∷◌, length, Ok, Err, refl, ap, arith}
use Rattle.pl_grammar.specs.declared.stop.Stop.{Stop}
use Rattle.pl_grammar.specs.declared.stop.Stop.TheVariants.{Unexpected}
use Rattle.pl_tree.specs.declared.tree.Tree.{Tree}
use Rattle.pl_grammar.specs.Lexeme.{Lexeme}
use Rattle.pl_grammar.specs.Grammar.{top}
use Rattle.pl_grammar.specs.Reading.{Outcome, and_then, at_end, read_form, read_script}

pub empty_read : (n : ℕ) (ls : List Lexeme) → length ls ≡ 0 → read_script n ls ≡ Ok (record { functions = []; statements = [] }, ls)
unfolding read_script
empty_read n [] e = refl
empty_read n (l ∷ ls) e = absurd (omega (arith, e))

pub whole_fails : (n : ℕ) (ls : List Lexeme) (e : Stop) → 0 < length ls → read_form n top ls ≡ Err e → read_script n ls ≡ Err e
unfolding read_script
whole_fails n [] e some stops = absurd (omega (arith, some))
whole_fails n (l ∷ ls) e some stops = ap (λ (o : Outcome Tree). and_then o at_end) stops

pub whole_more : (n : ℕ) (ls us : List Lexeme) (v : Tree) → 0 < length ls → 0 < length us → read_form n top ls ≡ Ok (v, us) → read_script n ls ≡ Err (Unexpected (length us))
unfolding read_script
whole_more n [] us v some more read = absurd (omega (arith, some))
whole_more n (l ∷ ls) [] v some more read = absurd (omega (arith, more))
whole_more n (l ∷ ls) (u ∷ us) v some more read = ap (λ (o : Outcome Tree). and_then o at_end) read

pub whole_read : (n : ℕ) (ls us : List Lexeme) (v : Tree) → 0 < length ls → length us ≡ 0 → read_form n top ls ≡ Ok (v, us) → read_script n ls ≡ Ok (v, us)
unfolding read_script
whole_read n [] us v some none read = absurd (omega (arith, some))
whole_read n (l ∷ ls) [] v some none read = ap (λ (o : Outcome Tree). and_then o at_end) read
whole_read n (l ∷ ls) (u ∷ us) v some none read = absurd (omega (arith, none))
