use Rattle.std.proofs.Common.{ap, ◌∙◌}
use Rattle.update_store.specs.Updates.{Ended, Run, begun}
use Rattle.update_store.proofs.task.begin.Goals as goal

pub returns-in_ok-copy-in-Some : goal.returns-in_ok-copy-in-Some
returns-in_ok-copy-in-Some c = ap Run c.in_ok-copy-in-Some.ensures ∙ ap begun c.in-Some.ensures

pub returns-in_ok-reply-in-None : goal.returns-in_ok-reply-in-None
returns-in_ok-reply-in-None c = ap Ended c.in_ok-reply-in-None.ensures ∙ ap begun c.in-None.ensures
