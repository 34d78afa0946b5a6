use Rattle.std.proofs.Common.{is_some, ap, ◌∙◌}
use Rattle.object_values.proofs.Finding.{finds}
use Rattle.object_values.proofs.table.Table.has.Goals as goal

pub returns : goal.returns
returns c = rw (← c.self.view_is) (c.contains_key.ensures ∙ ap is_some (finds c.self.inside.map.entries c.args.key.now))
