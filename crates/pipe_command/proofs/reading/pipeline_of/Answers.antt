-- The pipeline that was read goes on, or its first wrong place is told.
use Rattle.std.proofs.Common.{◌≡◌, Err, string_bytes}
use Rattle.serde_json.specs.View.{view}
use Rattle.pipe_job.specs.Reading.{pipeline_of}
use Rattle.pipe_command.proofs.Finding.{pipeline_bad, pipeline_read}
use Rattle.pipe_command.proofs.reading.pipeline_of.Goals as goal

pub returns-in-Ok-clause-told : goal.returns-in-Ok-clause-told
returns-in-Ok-clause-told c = pipeline_read (pipeline_of (view c.args.value.now)) c.in-Ok.pipeline c.in-Ok.ensures

pub returns-in-Err-Bad-clause-told : goal.returns-in-Err-Bad-clause-told
returns-in-Err-Bad-clause-told c =
    let is : pipeline_of (view c.args.value.now) ≡ Err (string_bytes c.in-Err-Bad.path) = rw c.in-Err-Bad.field-0-is at c.in-Err-Bad.ensures in
    let at : pipeline_of (view c.args.value.now) ≡ Err c.as_str.result.now = cc in
    pipeline_bad (pipeline_of (view c.args.value.now)) c.as_str.result.now c.pipeline_refused.result at c.pipeline_refused.ensures.told
