use Rattle.function_calls.proofs.Aiming.{found_constructor}
use Rattle.function_calls.proofs.aim.found_constructor.Goals as goal

pub returns-clause-listed : goal.returns-clause-listed
returns-clause-listed c = found_constructor c.args.allow.now c.args.class c.constructor_of.result c.constructor_of.ensures.confined
