use Rattle.std.proofs.Common.{inl, inr, refl}
use Rattle.line_run.proofs.Pass.{ended_so, unread}
use Rattle.line_run.proofs.passing.close.Goals as goal

pub returns-in-Ok-clause-closes : goal.returns-in-Ok-clause-closes
returns-in-Ok-clause-closes g c =
    let now = c.give_end.new.replies in
    inl (now, c.in-Ok.ensures.last, ended_so (record { status = c.status.result; steps = now.steps }) now.any_error now.steps c.status.ensures refl)

pub returns-clause-closes : goal.returns-clause-closes
returns-clause-closes g c = inr (c.in-Err.status, c.in-Err.ensures.not, refl)

pub returns-clause-reads : goal.returns-clause-reads
returns-clause-reads g c = unread c.in-Err.status c.in-Err.ensures.fault
