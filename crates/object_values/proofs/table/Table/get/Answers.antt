use Rattle.std.proofs.Common.{◌∙◌}
use Rattle.object_values.proofs.Finding.{finds}
use Rattle.object_values.proofs.table.Table.get.Goals as goal

pub returns : goal.returns
returns c = rw (← c.self.view_is) (c.get.ensures.value ∙ finds c.self.inside.map.entries c.args.key.now)
