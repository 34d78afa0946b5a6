-- Each call is for a name fewer.
use Rattle.std.proofs.Common.{length}
use Rattle.pipe_fields.proofs.ways.+find.Given as goal

abbrev pub decreases-find : goal.decreases-find
decreases-find l = length l.names.now
