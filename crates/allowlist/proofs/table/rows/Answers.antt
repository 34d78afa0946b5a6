use Rattle.std.proofs.Common.{refl}
use Rattle.allowlist.specs.Catalogue.{catalogue}
use Rattle.allowlist.proofs.table.rows.Goals as goal

pub returns : goal.returns
unfolding catalogue
returns c = refl
