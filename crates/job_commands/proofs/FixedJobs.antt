-- The fixed job as the code prepares it.
use Rattle.std.proofs.Common.{◌≡◌, ap}
use Rattle.job_file.specs.declared.context.JobContext.TheVariants as c
use Rattle.job_loading.specs.Loading.{JobUnder}
use Rattle.job_loading.specs.Seen.{read_view}
use Rattle.job_loading.specs.declared.reading.ReadJob.{ReadJob}
use Rattle.job_commands.specs.FixedJob.{fixed_under}

-- its context is `field`
pub fixed_field : (found : ReadJob) → read_view found ≡ fixed_under → found.job.context ≡ c.Field
fixed_field found is = ap (λ (u : JobUnder). u.job.context) is
