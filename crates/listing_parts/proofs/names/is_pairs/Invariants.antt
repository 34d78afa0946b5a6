use Rattle.std.proofs.Common.{◌≡◌, length}
use Rattle.listing_parts.specs.Names.{is_pairs}
use Rattle.listing_parts.proofs.names.is_pairs.Given as goal

abbrev pub invariant-loop-rest : goal.invariant-loop-rest
invariant-loop-rest l = is_pairs l.text ≡ is_pairs l.rest

abbrev pub decreases-loop-rest : goal.decreases-loop-rest
decreases-loop-rest l = length l.rest
