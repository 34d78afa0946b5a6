use Rattle.script_engine.proofs.Beside.{sees}
use Rattle.script_engine.proofs.executable.ScriptExecutable.verified.Goals as goal

pub returns : goal.returns
returns c = sees c.self.inside.executable c.args.self.now c.self.view_is c.self.invariant
