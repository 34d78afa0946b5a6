-- A script has one answer, and so one thing is told of it and of its codes.
use Rattle.eval_command.proofs.Delivered.{some_codes}
use Rattle.eval_command.proofs.Once.{refused_codes}
use Rattle.eval_command.proofs.Runs.{tells_end, tells_refusal}
use Rattle.eval_command.proofs.reply.answer_to.Goals as goal

pub returns-in-Ok : goal.returns-in-Ok
returns-in-Ok c = tells_end c.args.script.now c.in-Ok.ran c.reply_to.result c.in-Ok.ensures.exact c.in-Ok.ensures.codes c.reply_to.ensures

pub returns-in-Err-Refused : goal.returns-in-Err-Refused
returns-in-Err-Refused c =
    let means = rw c.in-Err-Refused.field-0-is at c.in-Err-Refused.ensures.exact in
    tells_refusal c.args.script.now c.in-Err-Refused.refusal some_codes c.answer_to_refused.result means
    (refused_codes c.script_laws.ensures.answered_once c.args.script.now c.in-Err-Refused.refusal some_codes means) c.answer_to_refused.ensures
