use Rattle.search_ctx.proofs.ParamLemmas.{job_params}
use Rattle.search_ctx.proofs.laws.params_are_objects.Goals as goal

pub returns : goal.returns
returns c = job_params
