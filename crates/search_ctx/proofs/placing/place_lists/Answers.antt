use Rattle.std.proofs.Common.{refl}
use Rattle.search_ctx.proofs.Taking.{no_more_names}
use Rattle.search_ctx.proofs.placing.place_lists.Goals as goal

pub returns-clause-pairs : goal.returns-clause-pairs
returns-clause-pairs c =
    rw (c.loop-name.invariant.0, no_more_names (record { pairs = c.loop-name.pairs; objects = c.loop-name.heap.objects }) c.loop-name.rest.now c.loop-name.name-index c.args.names.now c.loop-name-test.false) refl

pub returns-clause-store : goal.returns-clause-store
returns-clause-store c =
    rw (
      c.loop-name.invariant.0,
      no_more_names (record { pairs = c.loop-name.pairs; objects = c.loop-name.heap.objects }) c.loop-name.rest.now c.loop-name.name-index c.args.names.now c.loop-name-test.false,
      ← c.loop-name.invariant.1,
    ) refl
