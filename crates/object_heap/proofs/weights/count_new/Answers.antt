use Rattle.std.proofs.Common.{ap, arith}
use Rattle.std.proofs.lemmas.List.{drop_all}
use Rattle.object_heap.specs.Objects.{new_keys}
use Rattle.object_values.specs.Pairs.{key_at}
use Rattle.object_heap.proofs.Growth.{new_from, one_key}
use Rattle.object_heap.proofs.weights.count_new.Goals as goal

pub loop-at-preserved : goal.loop-at-preserved
loop-at-preserved c = (
  omega (arith, c.loop-at.invariant.0, new_from c.args.pairs.now c.args.more.now c.loop-at.at, c.new_at-count.ensures),
  omega (arith, c.loop-at.invariant.1, one_key c.args.pairs.now (key_at c.args.more.now c.loop-at.at), c.new_at-count.ensures),
)

pub returns-clause-count : goal.returns-clause-count
returns-clause-count c =
    omega (arith, c.loop-at.invariant.0, ap (new_keys c.args.pairs.now) (drop_all c.loop-at.at c.args.more.now (omega (arith, c.len-at-end.ensures.value))))
