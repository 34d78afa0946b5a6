use Rattle.std.proofs.Common.{◌<◌, arith}
use Rattle.pl_units.proofs.search.find_by_place.Goals as goal

pub stands_at-requires : goal.stands_at-requires
stands_at-requires c = (c.place_count-place-end.ensures c.loop-place.place).0 c.loop-place-test.true

-- a place in the loop's range is one that the loop has passed
pub returns-clause-none : goal.returns-clause-none
returns-clause-none c =
    λ place after stands.
    let within : place < c.place_count-place-end.result = (c.place_count-place-end.ensures place).1 stands.0 in
    c.loop-place.invariant place after (omega arith) stands
