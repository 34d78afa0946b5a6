use Rattle.std.proofs.Common.{rules}
use Rattle.pl_types.specs.Classes.{class_table, class_row, full_name}
use Rattle.pl_types.specs.Names.{numbers_of_length}
use Rattle.pl_types.proofs.Tables.{numbers_at}
use Rattle.pl_types.proofs.FullNames.{none_so_long}
use Rattle.pl_types.proofs.full_names.of_length.Goals as goal

pub returns-then-length-lt50 : goal.returns-then-length-lt50
unfolding full_name class_row class_table numbers_of_length
returns-then-length-lt50 c = search (numbers_at, rules)

pub returns-else-length-lt50 : goal.returns-else-length-lt50
returns-else-length-lt50 c = none_so_long c.args.length c.if-length-lt50.false
