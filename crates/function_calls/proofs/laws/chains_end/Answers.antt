use Rattle.function_calls.proofs.Chains.{three_end}
use Rattle.function_calls.proofs.laws.chains_end.Goals as goal

pub returns : goal.returns
returns c = three_end
