use Rattle.std.proofs.Common.{refl}
use Rattle.allowlist.specs.Catalogue.{catalogue}
use Rattle.allowlist.proofs.index.numbers.Goals as goal

pub returns : goal.returns
unfolding catalogue
returns c = record { within = refl; classes = refl; by_name = refl; whole = refl }
