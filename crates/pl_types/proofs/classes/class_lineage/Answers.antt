use Rattle.std.proofs.Common.{rules}
use Rattle.pl_types.specs.Classes.{class_table, class_row, parents_of, lineage_of}
use Rattle.pl_types.proofs.Tables.{lineage_at}
use Rattle.pl_types.proofs.classes.class_lineage.Goals as goal

pub returns : goal.returns
unfolding lineage_of parents_of class_row class_table
returns c = search (lineage_at, rules)
