use Rattle.std.proofs.Common.{◌∙◌}
use Rattle.object_values.proofs.Finding.{puts, finds}
use Rattle.object_values.proofs.table.Table.put.Goals as goal

pub returns-in-Ok-clause-before : goal.returns-in-Ok-clause-before
returns-in-Ok-clause-before c = rw (← c.self.view_is) (c.in-Ok.ensures.old ∙ finds c.self.inside.map.entries c.args.key)

pub returns-in-Ok-clause-ok : goal.returns-in-Ok-clause-ok
returns-in-Ok-clause-ok c = rw (← c.self.view_is) (c.in-Ok.ensures.entries ∙ puts c.self.inside.map.entries c.args.key c.args.value)
