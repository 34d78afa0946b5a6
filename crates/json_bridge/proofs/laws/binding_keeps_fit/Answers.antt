use Rattle.json_bridge.proofs.Fitting.{bound_fits}
use Rattle.json_bridge.proofs.laws.binding_keeps_fit.Goals as goal

pub returns : goal.returns
returns c rules frozen objects d f = let kept = bound_fits rules frozen objects d f in (kept.fits, kept.value)
