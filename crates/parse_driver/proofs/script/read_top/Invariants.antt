use Rattle.std.proofs.Common.{◌≡◌, ◌-◌}
use Rattle.pl_grammar.specs.Grammar.{top}
use Rattle.pl_grammar.specs.Reading.{read_form}
use Rattle.parse_driver.proofs.Tops.{TopSoFar}
use Rattle.parse_driver.proofs.script.read_top.Given as goal

abbrev pub invariant-loop-used : goal.invariant-loop-used
invariant-loop-used g l = TopSoFar (read_form l.fn.levels top l.fn.tokens) (l.fn.levels - l.used) l.script l.tokens × (g.S.Actions.values l.stack ≡ g.S.Actions.values l.fn.stack)
