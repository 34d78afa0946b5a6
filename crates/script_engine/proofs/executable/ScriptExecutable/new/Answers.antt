use Rattle.std.proofs.Common.{◌∙◌}
use Rattle.script_engine.proofs.executable.ScriptExecutable.new.Goals as goal

pub invariant_of-result : goal.invariant_of-result
invariant_of-result c = c.in_ok-new.ensures.prelude ∙ c.text.ensures

pub returns-clause-same : goal.returns-clause-same
returns-clause-same c = c.in_ok-new.ensures.same

pub returns-clause-frames : goal.returns-clause-frames
returns-clause-frames c = c.in_ok-new.ensures.frames.0
