use Rattle.api_map.specs.Members.{does_numbered, numbered}
use Rattle.api_map.proofs.Keeping.{found_fits}
use Rattle.container_outcomes.proofs.Settling.{settled}
use Rattle.api_map.proofs.laws.members_keep_fit.Goals as goal

pub returns : goal.returns
returns c = λ rules store number arguments f h.
    settled rules store (does_numbered store.objects number arguments) f (found_fits rules store.objects (numbered number) arguments f h)
