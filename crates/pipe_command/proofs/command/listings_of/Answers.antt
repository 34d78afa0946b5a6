use Rattle.std.proofs.Common.{ap, map, string_bytes, arith}
use Rattle.pipe_command.proofs.Ends.{lists_all, lists_first, lists_next}
use Rattle.pipe_command.proofs.command.listings_of.Goals as goal

pub loop-script-init : goal.loop-script-init
loop-script-init c = lists_first c.args.scripts.now (map string_bytes c.new-listings.result.items) (ap (map string_bytes) c.new-listings.ensures.items)

pub loop-script-preserved : goal.loop-script-preserved
loop-script-preserved c =
    lists_next c.args.scripts.now (map string_bytes c.loop-script.listings.items) (map string_bytes c.push_listings.new.listings.items) c.loop-script.script-index c.script-item.result
    (omega (arith, c.loop-script-test.true)) c.script-item.is c.loop-script.invariant c.in_ok-push_listings.ensures

pub returns : goal.returns
returns c = lists_all c.args.scripts.now (map string_bytes c.loop-script.listings.items) c.loop-script.script-index (omega (arith, c.loop-script-test.false)) c.loop-script.invariant
