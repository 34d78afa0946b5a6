-- What was read of a list and what is left to be read make the whole. A list for failures has a level less.
use Rattle.std.proofs.Common.{◌+◌, ◌*◌}
use Rattle.ingest_pipe.specs.Reading.{failures_at}
use Rattle.ingest_pipe.proofs.Chaining.{SoFar}
use Rattle.ingest_pipe.proofs.reading.+reading.Given as goal

abbrev pub decreases-read_failures_at : goal.decreases-read_failures_at
decreases-read_failures_at l = 8 * l.levels

abbrev pub decreases-read_failures : goal.decreases-read_failures
decreases-read_failures l = 8 * l.levels + 1

abbrev pub decreases-read_kind : goal.decreases-read_kind
decreases-read_kind l = 8 * l.levels + 2

abbrev pub decreases-read_processor : goal.decreases-read_processor
decreases-read_processor l = 8 * l.levels + 3

abbrev pub decreases-read_list : goal.decreases-read_list
decreases-read_list l = 8 * l.levels + 4

abbrev pub invariant-read_list-items : goal.invariant-read_list-items
invariant-read_list-items l = SoFar (failures_at l.levels) l.path l.items.items l.number l.all l.fn.met l.met
