use Rattle.std.proofs.Common.{map, string_bytes, arith}
use Rattle.job_commands.proofs.Listings.{lists_all, lists_next}
use Rattle.job_commands.proofs.codes.push_all.Goals as goal

pub returns : goal.returns
returns c =
    lists_all (map string_bytes c.args.listings.now.items) (map string_bytes c.loop-script.listings.items) c.args.scripts.now c.loop-script.script-index (omega (arith, c.loop-script-test.false))
    c.loop-script.invariant

pub loop-script-preserved : goal.loop-script-preserved
loop-script-preserved c =
    lists_next (map string_bytes c.args.listings.now.items) (map string_bytes c.loop-script.listings.items) (map string_bytes c.push_listings.new.listings.items) c.args.scripts.now
    c.loop-script.script-index c.script-item.result (omega (arith, c.loop-script-test.true)) c.script-item.is c.loop-script.invariant c.in_ok-push_listings.ensures
