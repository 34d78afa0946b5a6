use Rattle.std.proofs.Common.{ap, ◌∙◌}
use Rattle.verified_machine.specs.Code.{TextCode}
use Rattle.script_engine.proofs.executable.ScriptExecutable.prelude_code.Goals as goal

pub returns : goal.returns
returns c = c.prelude_code.ensures ∙ ap (λ (t : TextCode). t.code) c.self.invariant
