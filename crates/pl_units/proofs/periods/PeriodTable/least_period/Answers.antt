use Rattle.std.proofs.Common.{arith}
use Rattle.pl_units.proofs.PeriodLemmas.{least_at_row, none_at_end, none_from_row}
use Rattle.pl_units.proofs.periods.PeriodTable.least_period.Goals as goal

pub returns-then-self-row-clause-none : goal.returns-then-self-row-clause-none
returns-then-self-row-clause-none c =
    none_from_row c.args.self.now c.loop-row.row c.args.matched c.requires c.loop-row-test.true c.loop-row.invariant (omega arith)

pub returns-then-matched-self-clause-found : goal.returns-then-matched-self-clause-found
returns-then-matched-self-clause-found c =
    least_at_row c.args.self.now c.loop-row.row c.args.matched c.requires c.loop-row-test.true c.loop-row.invariant (omega arith) c.if-matched-self.true

pub returns-clause-none : goal.returns-clause-none
returns-clause-none c = none_at_end c.args.self.now c.args.matched (λ early below. c.loop-row.invariant early (omega arith))
