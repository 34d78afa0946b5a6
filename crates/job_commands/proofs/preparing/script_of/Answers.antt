-- The context is one, and the script is that of the text.
use Rattle.job_loading.specs.Seen.{read_view}
use Rattle.job_commands.proofs.Typed.{context_so}
use Rattle.job_commands.proofs.Compiled.{refused_so, script_so}
use Rattle.job_commands.proofs.preparing.script_of.Goals as goal

pub compile_beside-requires : goal.compile_beside-requires
compile_beside-requires c = record { context = context_so c.args.found.now.job.context c.args.key.now c.in_ok-context.context c.in_ok-context.ensures }

pub returns-in-Ok-clause-told : goal.returns-in-Ok-clause-told
returns-in-Ok-clause-told c =
    script_so (read_view c.args.found.now) c.args.key.now c.args.text.now c.in_ok-context.context c.in-Ok.script c.in_ok-context.ensures c.in-Ok.ensures.exact c.in-Ok.ensures.sound
    c.in-Ok.ensures.rows c.in-Ok.ensures.takes

pub returns-in-Err-Refused-clause-told : goal.returns-in-Err-Refused-clause-told
returns-in-Err-Refused-clause-told c =
    refused_so (read_view c.args.found.now) c.args.key.now c.args.text.now c.in_ok-context.context c.in-Err-Refused.wrong c.script_refused.result c.in_ok-context.ensures
    (rw c.in-Err-Refused.field-0-is at c.in-Err-Refused.ensures.exact) c.script_refused.ensures.told
