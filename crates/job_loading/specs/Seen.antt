-- What the code reads as what is meant, and its errors as what is told.
use Rattle.std.specs.Prelude.{◌≡◌, IfSome}
use Rattle.allowlist.specs.declared.error.AllowErr.{AllowErr}
use Rattle.job_file.specs.Answers.{job_view}
use Rattle.job_file.specs.declared.error.JobErr.{JobErr}
use Rattle.job_replies.specs.Errors.{IsJobLine, IsListLine}
use Rattle.command_parts.specs.declared.status.Status.TheVariants as s
use Rattle.command_parts.specs.declared.stop.Stop.{Stop}
use Rattle.command_parts.specs.Stops.{stop_told}
use Rattle.command_parts.specs.Told.{uncounted}
use Rattle.job_loading.specs.declared.reading.ReadJob.{ReadJob}
use Rattle.job_loading.specs.Loading.{JobUnder}

abbrev pub read_view : ReadJob → JobUnder
read_view found = record { job = job_view found.job; allow = found.allow }

-- what is told is the refusal that an error is
abbrev pub RefusesJob : JobErr → Stop → Type 0
RefusesJob error stop = IfSome (stop_told stop) (λ told. (told ≡ uncounted s.Refused told.bytes) × IsJobLine error told.bytes)

abbrev pub RefusesList : AllowErr → Stop → Type 0
RefusesList error stop = IfSome (stop_told stop) (λ told. (told ≡ uncounted s.Refused told.bytes) × IsListLine error told.bytes)
