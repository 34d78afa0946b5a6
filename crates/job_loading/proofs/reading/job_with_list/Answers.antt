-- The job is refused.
use Rattle.std.proofs.Common.{Some}
use Rattle.std.proofs.lemmas.Result.{err_from_is_err_and}
use Rattle.job_file.specs.Answers.{job_view}
use Rattle.job_loading.specs.Asked.{asked_behind}
use Rattle.job_loading.specs.Loading.{job_in_bytes, job_told}
use Rattle.job_loading.proofs.Found.{one_found, job_missing}
use Rattle.job_loading.proofs.Asking.{behind_so}
use Rattle.command_parts.proofs.Asking.{asks_none}
use Rattle.job_loading.proofs.reading.job_with_list.Goals as goal

pub returns-in_err-job-clause-told : goal.returns-in_err-job-clause-told
returns-in_err-job-clause-told g c =
    let found = one_found (g.F.Files.content c.args.files.now) c.args.name.now (Some c.args.bytes.now) c.requires.shown in
    let exit = err_from_is_err_and c.from_residual.result c.from_residual.ensures.1 in (
      found.0,
      found.1,
      found.2,
      rw (exit.1, exit.2) (job_missing found.0 (job_told (job_in_bytes c.args.command c.args.bytes.now)) c.in_err-job.field-0.0 c.in_err-job.ensures.told),
    )

pub returns-in_err-job-clause-asks : goal.returns-in_err-job-clause-asks
returns-in_err-job-clause-asks g c = asks_none (g.F.Files.asked c.args.files.now) (asked_behind c.args.name.now (job_told (job_in_bytes c.args.command c.args.bytes.now)))

pub returns-in_err-allow-clause-asks : goal.returns-in_err-allow-clause-asks
returns-in_err-allow-clause-asks g c =
    behind_so (g.F.Files.asked c.args.files.now) (g.F.Files.asked c.list_for.new.files) c.args.name.now (job_told (job_in_bytes c.args.command c.args.bytes.now)) (job_view c.in_ok-job.job)
    c.in_ok-job.ensures.told c.in_err-allow.ensures.asks

pub returns-clause-asks : goal.returns-clause-asks
returns-clause-asks g c =
    behind_so (g.F.Files.asked c.args.files.now) (g.F.Files.asked c.list_for.new.files) c.args.name.now (job_told (job_in_bytes c.args.command c.args.bytes.now)) (job_view c.in_ok-job.job)
    c.in_ok-job.ensures.told c.in_ok-allow.ensures.asks
