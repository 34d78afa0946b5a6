use Rattle.std.proofs.Common.{rules}
use Rattle.pl_types.specs.Classes.{lineage_of, parents_of, class_row, class_table}
use Rattle.allowlist.specs.Allow.{iface_method_of}
use Rattle.allowlist.specs.Catalogue.{catalogue}
use Rattle.allowlist.proofs.Tables.{method_at}
use Rattle.allowlist.proofs.table.method_of_interface.Goals as goal

pub returns : goal.returns
unfolding iface_method_of lineage_of parents_of class_row class_table catalogue
returns c = search (method_at, rules)
