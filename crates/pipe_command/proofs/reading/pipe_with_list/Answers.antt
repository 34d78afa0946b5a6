-- The job, its pipeline or its list is refused, or all is read.
use Rattle.std.proofs.Common.{Some}
use Rattle.std.proofs.lemmas.Result.{err_from_is_err_and}
use Rattle.job_file.specs.Answers.{job_view}
use Rattle.job_file.specs.declared.context.JobCommand.TheVariants as command
use Rattle.job_loading.specs.Loading.{job_in_bytes, job_told}
use Rattle.job_loading.proofs.Found.{one_found}
use Rattle.command_parts.proofs.Asking.{asks_none}
use Rattle.pipe_command.specs.Pipelines.{asked_behind_job}
use Rattle.pipe_command.proofs.Finding.{behind_so, job_missing, list_missing, pipe_found, pipeline_missing}
use Rattle.pipe_command.proofs.reading.pipe_with_list.Goals as goal

pub returns-in_err-job-clause-told : goal.returns-in_err-job-clause-told
returns-in_err-job-clause-told g c =
    let found = one_found (g.F.Files.content c.args.files.now) c.args.name.now (Some c.args.bytes.now) c.requires.shown in
    let exit = err_from_is_err_and c.from_residual.result c.from_residual.ensures.1 in (
      found.0,
      found.1,
      found.2,
      rw (exit.1, exit.2) (job_missing found.0 (job_told (job_in_bytes command.Pipe c.args.bytes.now)) c.in_err-job.field-0.0 c.in_err-job.ensures.told),
    )

pub returns-in_err-job-clause-asks : goal.returns-in_err-job-clause-asks
returns-in_err-job-clause-asks g c = asks_none (g.F.Files.asked c.args.files.now) (asked_behind_job c.args.name.now (job_told (job_in_bytes command.Pipe c.args.bytes.now)))

pub returns-in_err-pipeline-clause-told : goal.returns-in_err-pipeline-clause-told
returns-in_err-pipeline-clause-told g c =
    let found = one_found (g.F.Files.content c.args.files.now) c.args.name.now (Some c.args.bytes.now) c.requires.shown in
    let exit = err_from_is_err_and c.from_residual-in_err-pipeline.result c.from_residual-in_err-pipeline.ensures.1 in (
      found.0,
      found.1,
      found.2,
      rw (exit.1, exit.2)
          (pipeline_missing found.0 (job_told (job_in_bytes command.Pipe c.args.bytes.now)) (job_view c.in_ok-job.job) c.in_err-pipeline.field-0.0 c.in_ok-job.ensures.told c.in_err-pipeline.ensures.told),
    )

pub returns-in_err-pipeline-clause-asks : goal.returns-in_err-pipeline-clause-asks
returns-in_err-pipeline-clause-asks g c = asks_none (g.F.Files.asked c.args.files.now) (asked_behind_job c.args.name.now (job_told (job_in_bytes command.Pipe c.args.bytes.now)))

pub returns-in_err-allow-clause-told : goal.returns-in_err-allow-clause-told
returns-in_err-allow-clause-told g c =
    let told = c.in_err-allow.ensures.told in
    let exit = err_from_is_err_and c.from_residual-in_err-allow.result c.from_residual-in_err-allow.ensures.1 in (
      told.0,
      told.1,
      told.2,
      rw (exit.1, exit.2)
          (list_missing told.0 (job_told (job_in_bytes command.Pipe c.args.bytes.now)) (job_view c.in_ok-job.job) c.in_ok-pipeline.pipeline c.in_err-allow.field-0.0 c.in_ok-job.ensures.told
          c.in_ok-pipeline.ensures.told told.3),
    )

pub returns-in_err-allow-clause-asks : goal.returns-in_err-allow-clause-asks
returns-in_err-allow-clause-asks g c =
    behind_so (g.F.Files.asked c.args.files.now) (g.F.Files.asked c.list_for.new.files) c.args.name.now (job_told (job_in_bytes command.Pipe c.args.bytes.now)) (job_view c.in_ok-job.job)
    c.in_ok-pipeline.pipeline c.in_ok-job.ensures.told c.in_ok-pipeline.ensures.told c.in_err-allow.ensures.asks

pub returns-clause-told : goal.returns-clause-told
returns-clause-told g c =
    let told = c.in_ok-allow.ensures.told in (
      told.0,
      told.1,
      told.2,
      pipe_found told.0 (job_told (job_in_bytes command.Pipe c.args.bytes.now)) (job_view c.in_ok-job.job) c.in_ok-pipeline.pipeline c.in_ok-allow.allow c.in_ok-job.ensures.told
          c.in_ok-pipeline.ensures.told told.3,
    )

pub returns-clause-asks : goal.returns-clause-asks
returns-clause-asks g c =
    behind_so (g.F.Files.asked c.args.files.now) (g.F.Files.asked c.list_for.new.files) c.args.name.now (job_told (job_in_bytes command.Pipe c.args.bytes.now)) (job_view c.in_ok-job.job)
    c.in_ok-pipeline.pipeline c.in_ok-job.ensures.told c.in_ok-pipeline.ensures.told c.in_ok-allow.ensures.asks
