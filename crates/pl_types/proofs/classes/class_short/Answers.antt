use Rattle.std.proofs.Common.{rules}
use Rattle.pl_types.specs.Classes.{class_table, class_row, short_name}
use Rattle.pl_types.proofs.Tables.{short_at}
use Rattle.pl_types.proofs.classes.class_short.Goals as goal

pub returns : goal.returns
unfolding short_name class_row class_table
returns c = search (short_at, rules)
