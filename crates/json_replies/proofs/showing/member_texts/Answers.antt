use Rattle.std.proofs.Common.{map, arith}
use Rattle.serde_json.specs.View.{view}
use Rattle.json_replies.proofs.Shown.{text_added, texts_all}
use Rattle.json_replies.proofs.showing.member_texts.Goals as goal

pub returns : goal.returns
returns c = texts_all c.args.allow.now c.loop-number.texts.items c.args.reached.now c.loop-number.number-index (omega (arith, c.loop-number-test.false)) c.loop-number.invariant

pub loop-number-preserved : goal.loop-number-preserved
loop-number-preserved c =
    text_added c.args.allow.now (map view c.loop-number.texts.items) (map view c.push_text.new.texts.items) c.args.reached.now c.loop-number.number-index _ (omega (arith, c.loop-number-test.true)) c.loop-number.invariant
    c.in_ok-push_text.ensures
