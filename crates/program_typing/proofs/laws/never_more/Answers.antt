use Rattle.program_typing.proofs.Enough.{comes_to_an_end}
use Rattle.program_typing.proofs.laws.never_more.Goals as goal

pub returns : goal.returns
returns c = record { ends = comes_to_an_end }
