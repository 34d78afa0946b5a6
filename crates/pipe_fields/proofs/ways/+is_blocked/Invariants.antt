-- Each call is for a name fewer.
use Rattle.std.proofs.Common.{length}
use Rattle.pipe_fields.proofs.ways.+is_blocked.Given as goal

abbrev pub decreases-is_blocked : goal.decreases-is_blocked
decreases-is_blocked l = length l.names.now
