use Rattle.search_ctx.proofs.Fitting.{placing_fits}
use Rattle.search_ctx.proofs.laws.placing_keeps_fit.Goals as goal

pub returns : goal.returns
returns c = placing_fits
