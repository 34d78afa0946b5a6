use Rattle.std.proofs.Common.{ap, ◌∙◌}
use Rattle.script_engine.specs.Executables.{ScriptCode}
use Rattle.script_engine.proofs.executable.ScriptExecutable.code.Goals as goal

pub returns : goal.returns
returns c = c.code.ensures ∙ ap (λ (e : ScriptCode). e.code) c.self.view_is
