use Rattle.job_file.specs.Keys.{keys}
use Rattle.job_file.proofs.lookup.wrong_key.Goals as goal

pub returns : goal.returns
unfolding keys
returns c = c.first_wrong.ensures
