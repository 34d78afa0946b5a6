use Rattle.compiled_outcome.proofs.Outcome as outcome
use Rattle.compiled_outcome.proofs.laws.programs_end.Goals as goal

pub returns : goal.returns
returns c = record { ends = outcome.programs_end c.compiler_laws.ensures.trees }
