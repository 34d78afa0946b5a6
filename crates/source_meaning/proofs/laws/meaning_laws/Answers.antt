use Rattle.source_meaning.proofs.Greater.{stays_above}
use Rattle.source_meaning.proofs.laws.meaning_laws.Goals as goal

pub returns : goal.returns
returns c = stays_above
