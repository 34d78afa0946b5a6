use Rattle.pl_types.proofs.FullNames.{found_by_length}
use Rattle.pl_types.proofs.full_names.class_of_full_bytes.Goals as goal

pub returns : goal.returns
returns c = found_by_length c.args.name.now c.of_length.result.now c.first_named.result c.of_length.ensures c.first_named.ensures
