use Rattle.std.proofs.Common.{sym}
use Rattle.machine_paths.proofs.Boxing.{operates}
use Rattle.machine_paths.proofs.value_rows.operated.Goals as goal

pub returns-in-Some-on_both : goal.returns-in-Some-on_both
returns-in-Some-on_both c =
    operates c.args.op c.args.a.now c.args.b.now c.in-Some.left c.in-Some-number_boxed.right c.in-Some-on_both.number c.result_of.result (sym c.in-Some.ensures) (sym c.in-Some-number_boxed.ensures)
    (sym c.in-Some-on_both.ensures) c.result_of.ensures
