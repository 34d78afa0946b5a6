-- What is left and the list behind it make the whole.
use Rattle.std.proofs.Common.{◌≡◌, length}
use Rattle.ingest_pipe.specs.declared.processors.Processors.TheVariants.{End}
use Rattle.ingest_pipe.specs.Reading.{chained}
use Rattle.ingest_pipe.proofs.reading.chained.Given as goal

abbrev pub invariant-left : goal.invariant-left
invariant-left l = chained l.fn.all End ≡ chained l.left l.rest

abbrev pub decreases-left : goal.decreases-left
decreases-left l = length l.left
