use Rattle.api_iter.specs.Members.{numbered}
use Rattle.api_iter.proofs.Keeping.{found_fits}
use Rattle.api_iter.proofs.laws.members_keep_fit.Goals as goal

pub returns : goal.returns
returns c = λ rules store number arguments f h. found_fits rules store (numbered number) arguments f h
