use Rattle.function_calls.specs.Coming.{none_taken}
use Rattle.function_calls.proofs.naming.call_named.Goals as goal

pub returns-in-None : goal.returns-in-None
returns-in-None c = none_taken
