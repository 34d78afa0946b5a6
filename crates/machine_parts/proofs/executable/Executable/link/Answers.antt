use Rattle.machine_parts.proofs.Listed.{listed_at}
use Rattle.machine_parts.proofs.executable.Executable.link.Goals as goal

pub returns-clause-within : goal.returns-clause-within
returns-clause-within c = listed_at c.args.self.now c.args.frames.now.top _ c.named_at.ensures
