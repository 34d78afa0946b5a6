use Rattle.std.proofs.Common.{◌∙◌}
use Rattle.object_values.proofs.Finding.{finds, cuts}
use Rattle.object_values.proofs.table.Table.cut.Goals as goal

pub returns-clause-before : goal.returns-clause-before
returns-clause-before c = rw (← c.self.view_is) (c.shift_remove.ensures.value ∙ finds c.self.inside.map.entries c.args.key.now)

pub returns-clause-rest : goal.returns-clause-rest
returns-clause-rest c = rw (← c.self.view_is) (c.shift_remove.ensures.entries ∙ cuts c.self.inside.map.entries c.args.key.now)
