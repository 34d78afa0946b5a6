-- Each call is for a name fewer.
use Rattle.std.proofs.Common.{length}
use Rattle.pipe_fields.proofs.ways.+put_in.Given as goal

abbrev pub decreases-put_in : goal.decreases-put_in
decreases-put_in l = length l.names.now
