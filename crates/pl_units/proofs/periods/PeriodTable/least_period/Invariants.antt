-- The rows so far end too early.
use Rattle.std.proofs.Common.{ℕ, ◌<◌, get_or}
use Rattle.pl_units.proofs.periods.PeriodTable.least_period.Given as goal

abbrev pub invariant-loop-row : goal.invariant-loop-row
invariant-loop-row l = (early : ℕ) → early < l.row → get_or l.self.ends early 0 < l.matched
