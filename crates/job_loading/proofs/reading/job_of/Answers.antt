-- The job that was read goes on, or the fault is told.
use Rattle.std.proofs.Common.{Ok, Err}
use Rattle.job_file.specs.Answers.{job_view}
use Rattle.job_loading.specs.Loading.{job_in_bytes}
use Rattle.job_loading.proofs.Answered.{job_answered, job_read, job_stops, distinct_read}
use Rattle.job_loading.proofs.reading.job_of.Goals as goal

pub returns-in-Ok-clause-told : goal.returns-in-Ok-clause-told
returns-in-Ok-clause-told c =
    job_read (job_in_bytes c.args.command c.args.bytes.now) (job_view c.in-Ok.job)
    (job_answered (Ok c.in-Ok.job) c.args.command c.args.bytes.now c.in-Ok.ensures.text c.in-Ok.ensures.bytes)

pub returns-in-Ok-clause-distinct : goal.returns-in-Ok-clause-distinct
returns-in-Ok-clause-distinct c =
    distinct_read c.job_fields_are_distinct.ensures c.in-Ok.job c.args.command c.args.bytes.now c.in-Ok.ensures.text c.in-Ok.ensures.bytes

pub returns-in-Err-clause-told : goal.returns-in-Err-clause-told
returns-in-Err-clause-told c =
    job_stops c.in-Err.error c.job_refused.result (job_in_bytes c.args.command c.args.bytes.now)
    (job_answered (Err c.in-Err.error) c.args.command c.args.bytes.now c.in-Err.ensures.text c.in-Err.ensures.bytes) c.job_refused.ensures.told
