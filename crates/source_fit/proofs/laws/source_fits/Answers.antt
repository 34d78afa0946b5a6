use Rattle.source_fit.proofs.Mains.{mains_fit}
use Rattle.source_fit.proofs.Meanings.{meanings_fit}
use Rattle.source_fit.proofs.laws.source_fits.Goals as goal

pub returns-clause-meanings : goal.returns-clause-meanings
returns-clause-meanings c = meanings_fit

pub returns-clause-mains : goal.returns-clause-mains
returns-clause-mains c = mains_fit
