use Rattle.line_run.proofs.Lists.{gives_whole}
use Rattle.line_run.proofs.Unbroken.{unbroken_front}
use Rattle.line_run.proofs.passing.next_line.Goals as goal

pub returns-in-Err-Fault-clause-none : goal.returns-in-Err-Fault-clause-none
returns-in-Err-Fault-clause-none g c =
    let breaks = rw c.in-Err-Fault.field-0-is at c.in-Err-Fault.ensures.read in (
      breaks,
      gives_whole _ _ _ _ c.in_ok-give_before.ensures.whole (c.in_ok-give_before.ensures.none (unbroken_front _ _ breaks.unbroken)),
    )

pub returns-in-Err-InputLong-clause-none : goal.returns-in-Err-InputLong-clause-none
returns-in-Err-InputLong-clause-none g c =
    let passes = rw c.in-Err-InputLong.field-0-is at c.in-Err-InputLong.ensures.read in (
      passes,
      gives_whole _ _ _ _ c.in_ok-give_before.ensures.whole (c.in_ok-give_before.ensures.none (unbroken_front _ _ passes.unbroken)),
    )
