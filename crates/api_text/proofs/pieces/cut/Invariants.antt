-- What is made of the pieces, and the pieces of what is left.
use Rattle.api_text.specs.Pieces as spec
use Rattle.api_text.proofs.Cutting.{Making}
use Rattle.api_text.proofs.pieces.cut.Given as goal

abbrev pub invariant-loop-left : goal.invariant-loop-left
invariant-loop-left l = Making l.room (spec.cut l.times l.token l.text) (spec.cut l._left l.token l.rest) l.items.items l.cost l.spare
