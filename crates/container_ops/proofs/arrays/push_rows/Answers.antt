use Rattle.std.proofs.Common.{◌++◌}
use Rattle.container_ops.specs.Making.{rows_of}
use Rattle.container_ops.proofs.Landing.{rows_pushed}
use Rattle.container_ops.proofs.arrays.push_rows.Goals as goal

pub rows-preserved : goal.rows-preserved
rows-preserved c =
    rows_pushed c.args.elem.now c.args.count c.rows.row c.args.size c.rows.number c.in-Some.next c.rows.all c.push_row.new.all
    (c.args.all.now ++ rows_of c.args.elem.now c.args.count c.args.size c.args.first) c.rows-test.true c.in_ok-push_row.ensures c.in-Some.ensures.1 c.rows.invariant
