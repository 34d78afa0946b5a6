use Rattle.std.proofs.Common.{ap, ◌∙◌}
use Rattle.script_engine.specs.Executables.{ScriptCode}
use Rattle.script_engine.proofs.executable.ScriptExecutable.allow.Goals as goal

pub returns : goal.returns
returns c = c.allow.ensures ∙ ap (λ (e : ScriptCode). e.allow) c.self.view_is
