use Rattle.pl_types.proofs.Lineages.{descends_iff, in_line, alone}
use Rattle.pl_types.proofs.classes.class_below.Goals as goal

pub returns-then-a-lt-CLASS_COUNT-clause-test : goal.returns-then-a-lt-CLASS_COUNT-clause-test
returns-then-a-lt-CLASS_COUNT-clause-test c =
    in_line c.contains.result c.args.a c.args.b c.class_lineage.result.now c.class_lineage.ensures c.contains.ensures.value

pub returns-else-a-lt-CLASS_COUNT-clause-test : goal.returns-else-a-lt-CLASS_COUNT-clause-test
returns-else-a-lt-CLASS_COUNT-clause-test c = alone c.args.a c.args.b c.if-a-lt-CLASS_COUNT.false

pub returns-then-a-lt-CLASS_COUNT-clause-descends : goal.returns-then-a-lt-CLASS_COUNT-clause-descends
returns-then-a-lt-CLASS_COUNT-clause-descends c =
    descends_iff c.contains.result c.args.a c.args.b (in_line c.contains.result c.args.a c.args.b c.class_lineage.result.now c.class_lineage.ensures c.contains.ensures.value)

pub returns-else-a-lt-CLASS_COUNT-clause-descends : goal.returns-else-a-lt-CLASS_COUNT-clause-descends
returns-else-a-lt-CLASS_COUNT-clause-descends c =
    descends_iff _ c.args.a c.args.b (alone c.args.a c.args.b c.if-a-lt-CLASS_COUNT.false)
