use Rattle.pl_units.proofs.OrderLemmas.{less_is, equal_is, greater_is}
use Rattle.pl_units.proofs.text.UText.compare.Goals as goal

pub returns-clause-less : goal.returns-clause-less
returns-clause-less c = less_is c.args.self.now c.args.other.now c.cmp.result (rw (← c.units.ensures, ← c.units-2.ensures) c.cmp.ensures)

pub returns-clause-equal : goal.returns-clause-equal
returns-clause-equal c = equal_is c.args.self.now c.args.other.now c.cmp.result (rw (← c.units.ensures, ← c.units-2.ensures) c.cmp.ensures)

pub returns-clause-greater : goal.returns-clause-greater
returns-clause-greater c = greater_is c.args.self.now c.args.other.now c.cmp.result (rw (← c.units.ensures, ← c.units-2.ensures) c.cmp.ensures)
