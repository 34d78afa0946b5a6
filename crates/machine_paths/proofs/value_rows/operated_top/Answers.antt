use Rattle.std.proofs.Common.{Some, ap, sym, ◌∙◌}
use Rattle.std.specs.Option.{option_copied}
use Rattle.machine_paths.proofs.Boxing.{operates_or_none}
use Rattle.machine_paths.proofs.value_rows.operated_top.Goals as goal

pub returns-in-Some-R-lower : goal.returns-in-Some-R-lower
returns-in-Some-R-lower c =
    operates_or_none c.args.op c.args.frames.now.top.stack c.in-Some-R-lower.a c.in-Some-R.b c.operated.result
    (ap Some (sym c.in-Some-R.field-0-is) ∙ sym (ap option_copied c.in-Some-R.is) ∙ c.upper.ensures)
    (ap Some (sym c.in-Some-R-lower.field-0-is) ∙ sym (ap option_copied c.in-Some-R-lower.is) ∙ c.lower.ensures) c.operated.ensures
