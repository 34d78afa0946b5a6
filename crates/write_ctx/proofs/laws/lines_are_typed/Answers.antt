use Rattle.write_ctx.proofs.Typing.{bound_lines_typed}
use Rattle.write_ctx.proofs.laws.lines_are_typed.Goals as goal

pub returns : goal.returns
returns c = bound_lines_typed
