use Rattle.job_file.specs.Keys.{keys}
use Rattle.job_file.proofs.keys.is_key.Goals as goal

pub returns : goal.returns
unfolding keys
returns c = c.is_among.ensures
