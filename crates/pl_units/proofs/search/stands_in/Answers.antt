use Rattle.std.proofs.Common.{arith}
use Rattle.std.proofs.lemmas.Bool.{false≢true}
use Rattle.pl_units.proofs.search.stands_in.Goals as goal

pub stands_at-requires : goal.stands_at-requires
stands_at-requires c = (c.place_count.ensures c.args.place).0 c.if-place-place_count.true

pub returns-else-place-place_count : goal.returns-else-place-place_count
returns-else-place-place_count c =
    (λ h. absurd (false≢true h), λ s. absurd (omega (arith, (c.place_count.ensures c.args.place).1 s.0)))
