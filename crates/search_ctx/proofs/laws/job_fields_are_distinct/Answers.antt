use Rattle.search_ctx.proofs.Reading.{job_distinct}
use Rattle.search_ctx.proofs.laws.job_fields_are_distinct.Goals as goal

pub returns : goal.returns
returns c command text job e = job_distinct command text job e
