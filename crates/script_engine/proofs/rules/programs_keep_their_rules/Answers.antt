use Rattle.script_engine.proofs.Keeping.{programs_keep}
use Rattle.script_engine.proofs.rules.programs_keep_their_rules.Goals as goal

pub returns : goal.returns
returns c = programs_keep
