use Rattle.pl_types.proofs.Lineages.{full-past}
use Rattle.pl_types.proofs.full_names.full_or_empty.Goals as goal

pub returns-else-class-lt-CLASS_COUNT : goal.returns-else-class-lt-CLASS_COUNT
returns-else-class-lt-CLASS_COUNT c = full-past c.args.class c.if-class-lt-CLASS_COUNT.false
