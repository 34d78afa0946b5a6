-- One step of reading a phrase.
use Rattle.std.proofs.Common.{◌≡◌, ℕ, suc, ◌-◌, ◌<◌, List, Err, ap, arith}
use Rattle.pl_grammar.specs.declared.stop.Stop.TheVariants.{TooDeep}
use Rattle.pl_grammar.specs.Lexeme.{Lexeme, next}
use Rattle.pl_grammar.specs.Ahead.{seen}
use Rattle.pl_grammar.specs.Grammar.{Form}
use Rattle.pl_grammar.specs.Firsts.{scan}
use Rattle.pl_grammar.specs.Reading.{choice, read_production, read_form}

pub no_level : (n : ℕ) (f : Form) (ls : List Lexeme) → n ≡ 0 → read_form n f ls ≡ Err TooDeep
unfolding read_form
no_level n f ls e = ap (λ (k : ℕ). read_form k f ls) e

pub step : (n : ℕ) (f : Form) (ls : List Lexeme) → 0 < n → read_form n f ls ≡ read_production (read_form (n - 1)) (choice f (next ls) (seen (scan f) ls)) ls
unfolding read_form
step n f ls below =
    let k : n ≡ suc (n - 1) = omega arith in
    ap (λ (k : ℕ). read_form k f ls) k
