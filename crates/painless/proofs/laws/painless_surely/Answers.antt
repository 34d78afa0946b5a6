-- The counts of faults stand at 0.
use Rattle.command_parts.proofs.Ends.{never_risen}
use Rattle.painless.proofs.laws.painless_surely.Goals as goal

pub returns-clause-read : goal.returns-clause-read
returns-clause-read c = λ is. never_risen (c.painless.ensures.ends.read is)

pub returns-clause-write : goal.returns-clause-write
returns-clause-write c = λ is. never_risen (c.painless.ensures.ends.write is)

pub returns-clause-file : goal.returns-clause-file
returns-clause-file c = λ is. never_risen (c.painless.ensures.ends.file is)
