use Rattle.container_parts.proofs.Keeping.{iterate_fits, next_fits, remove_fits}
use Rattle.container_parts.proofs.laws.iterators_keep_fit.Goals as goal

pub returns : goal.returns
returns c = record { next = next_fits; remove = remove_fits; iterate = iterate_fits }
