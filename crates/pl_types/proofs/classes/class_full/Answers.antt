use Rattle.std.proofs.Common.{rules}
use Rattle.pl_types.specs.Classes.{class_table, class_row, full_name}
use Rattle.pl_types.proofs.Tables.{full_at}
use Rattle.pl_types.proofs.classes.class_full.Goals as goal

pub returns : goal.returns
unfolding full_name class_row class_table
returns c = search (full_at, rules)
