use Rattle.pl_types.proofs.FullNames.{named_class, class_spelled}
use Rattle.pl_types.proofs.full_names.name_laws.Goals as goal

pub returns-clause-named : goal.returns-clause-named
returns-clause-named c = named_class

pub returns-clause-spelled : goal.returns-clause-spelled
returns-clause-spelled c = class_spelled
