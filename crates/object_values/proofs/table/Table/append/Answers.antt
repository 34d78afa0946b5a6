use Rattle.std.proofs.Common.{◌∙◌}
use Rattle.object_values.proofs.Finding.{puts_all}
use Rattle.object_values.proofs.table.Table.append.Goals as goal

pub returns-in-Ok-clause-ok : goal.returns-in-Ok-clause-ok
returns-in-Ok-clause-ok c = rw (← c.self.view_is, ← c.more.view_is) (c.in-Ok.ensures.entries ∙ puts_all c.self.inside.map.entries c.more.inside.map.entries)
