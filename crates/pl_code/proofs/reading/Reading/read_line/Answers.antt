use Rattle.std.proofs.Common.{sym}
use Rattle.pl_code.proofs.Steps.{no_text}
use Rattle.pl_code.proofs.reading.Reading.read_line.Goals as goal

pub returns-in_default : goal.returns-in_default
returns-in_default c = sym (no_text c.args.self.now c.args.line.now c.in_default.ensures.cases.0)
