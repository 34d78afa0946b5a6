-- Each call is for a name fewer.
use Rattle.std.proofs.Common.{length}
use Rattle.pipe_fields.proofs.ways.+is_blocked_past.Given as goal

abbrev pub decreases-is_blocked_past : goal.decreases-is_blocked_past
decreases-is_blocked_past l = length l.target.now
