use Rattle.std.proofs.Common.{ap, ◌∙◌, lit<}
use Rattle.std.specs.Prelude.{option_map}
use Rattle.instruction_types.specs.Calls.{seen_called}
use Rattle.instruction_types.proofs.Dots.{not_called}
use Rattle.instruction_types.proofs.members.called.Goals as goal

pub returns-in_err-front : goal.returns-in_err-front
returns-in_err-front c = ap (option_map seen_called) c.from_residual.ensures ∙ not_called c.args.text.now (c.in_err-front.ensures.byte (lit< tt) (λ w o h. h))
