use Rattle.write_ctx.proofs.Floats.{replies_have_none}
use Rattle.write_ctx.proofs.laws.replies_have_no_float.Goals as goal

pub returns : goal.returns
returns c = replies_have_none
