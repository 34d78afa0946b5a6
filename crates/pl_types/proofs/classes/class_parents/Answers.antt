use Rattle.std.proofs.Common.{rules}
use Rattle.pl_types.specs.Classes.{class_table, class_row, parents_of}
use Rattle.pl_types.proofs.Tables.{parents_at}
use Rattle.pl_types.proofs.classes.class_parents.Goals as goal

pub returns : goal.returns
unfolding parents_of class_row class_table
returns c = search (parents_at, rules)
