use Rattle.std.proofs.Common.{length}
use Rattle.pipe_fields.proofs.Names.{Cut}
use Rattle.pipe_fields.proofs.field.names_of.Given as goal

abbrev pub invariant-loop-name : goal.invariant-loop-name
invariant-loop-name l = Cut l.text l.names l.rest

abbrev pub decreases-loop-name : goal.decreases-loop-name
decreases-loop-name l = length l.rest
