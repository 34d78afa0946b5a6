use Rattle.pl_types.proofs.Lineages.{short-past}
use Rattle.pl_types.proofs.full_names.short_or_empty.Goals as goal

pub returns-else-class-lt-CLASS_COUNT : goal.returns-else-class-lt-CLASS_COUNT
returns-else-class-lt-CLASS_COUNT c = short-past c.args.class c.if-class-lt-CLASS_COUNT.false
