use Rattle.std.proofs.Common.{◌≡◌, [], drop}
use Rattle.search_ctx.specs.Placing.{lists_under}
use Rattle.search_ctx.proofs.placing.place_lists.Given as goal

abbrev pub invariant-loop-name : goal.invariant-loop-name
invariant-loop-name l =
    (lists_under (record { pairs = []; objects = l.initial.heap.objects }) l.doc l.names
    ≡ lists_under (record { pairs = l.pairs; objects = l.heap.objects }) l.rest (drop l.name-index l.names))
    × (l.heap.room ≡ l.initial.heap.room)
