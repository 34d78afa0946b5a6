use Rattle.verifier.proofs.Passing.{next_item, no_item, catches_first, catches_one, catches_all}
use Rattle.verifier.proofs.pass.catch.Goals as goal

pub loop-trap-init : goal.loop-trap-init
loop-trap-init c = catches_first c.args.traps.now c.args.table.now

pub loop-trap-preserved : goal.loop-trap-preserved
loop-trap-preserved c =
    catches_one c.args.traps.now _ _ c.trap-item.result c.args.table.now c.loop-trap.table c.merge_into.new.table c.loop-trap.invariant
    (next_item c.args.traps.now c.loop-trap.trap-index c.trap-item.result c.trap-item.is c.loop-trap-test.true) c.merge_into.ensures

pub returns : goal.returns
returns c = catches_all c.args.traps.now _ c.args.table.now c.loop-trap.table c.loop-trap.invariant (no_item c.args.traps.now c.loop-trap.trap-index c.loop-trap-test.false)
