use Rattle.function_calls.proofs.Aiming.{found_reference}
use Rattle.function_calls.proofs.aim.found_reference.Goals as goal

pub returns-clause-listed : goal.returns-clause-listed
returns-clause-listed c = found_reference c.args.allow.now c.reference_of.result c.reference_of.ensures.confined
