use Rattle.std.proofs.Common.{string_bytes, arith}
use Rattle.job_commands.proofs.Listings.{texts_all, texts_next}
use Rattle.job_commands.proofs.codes.push_texts.Goals as goal

pub returns : goal.returns
returns c =
    texts_all (string_bytes c.args.text.now) (string_bytes c.loop-script.text) c.args.scripts.now c.loop-script.script-index (omega (arith, c.loop-script-test.false)) c.loop-script.invariant

pub loop-script-preserved : goal.loop-script-preserved
loop-script-preserved c =
    texts_next (string_bytes c.args.text.now) (string_bytes c.loop-script.text) (string_bytes c.push_text.new.text) c.args.scripts.now c.loop-script.script-index c.script-item.result
    (omega (arith, c.loop-script-test.true)) c.script-item.is c.loop-script.invariant c.in_ok-push_text.ensures
