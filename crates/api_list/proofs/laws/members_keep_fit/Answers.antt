use Rattle.api_list.specs.Members.{comes_to}
use Rattle.api_list.proofs.Keeping.{comes_fits}
use Rattle.api_list.proofs.KeepingTaken.{told_settled}
use Rattle.api_list.proofs.laws.members_keep_fit.Goals as goal

pub returns : goal.returns
returns c = λ rules store number arguments f h. told_settled rules store (comes_to store.objects number arguments) f (comes_fits rules store.objects number arguments f h)
