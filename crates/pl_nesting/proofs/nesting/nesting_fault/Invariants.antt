use Rattle.std.proofs.Common.{◌≡◌, ◌+◌, ◌≤◌, drop, sum}
use Rattle.pl_nesting.specs.Nesting as spec
use Rattle.pl_nesting.proofs.nesting.nesting_fault.Given as goal

abbrev pub invariant-loop-at : goal.invariant-loop-at
invariant-loop-at l = record {
  same : spec.nesting_fault l.fn.tokens ≡ spec.deep_from l.levels (drop l.at l.fn.tokens);
  small : l.levels.inner + sum l.levels.outer ≤ 1000;
}
