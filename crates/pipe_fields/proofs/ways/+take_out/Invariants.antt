-- Each call is for a name fewer.
use Rattle.std.proofs.Common.{length}
use Rattle.pipe_fields.proofs.ways.+take_out.Given as goal

abbrev pub decreases-take_out : goal.decreases-take_out
decreases-take_out l = length l.names.now
