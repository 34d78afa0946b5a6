use Rattle.write_ctx.proofs.Fitting.{bound_lines_fit}
use Rattle.write_ctx.proofs.laws.lines_fit.Goals as goal

pub returns : goal.returns
returns c = bound_lines_fit c.binding_keeps_fit.ensures
