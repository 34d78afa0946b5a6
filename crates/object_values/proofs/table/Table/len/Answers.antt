use Rattle.object_values.proofs.Finding.{distinct}
use Rattle.object_values.proofs.table.Table.len.Goals as goal

pub returns-clause-distinct : goal.returns-clause-distinct
returns-clause-distinct c = rw (← c.self.view_is) (distinct c.self.inside.map.entries c.as_slice.ensures.unique)
