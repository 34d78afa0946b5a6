use Rattle.std.proofs.Common.{◌∙◌}
use Rattle.verified_machine.proofs.Ready.{text_is_ready, text_is_under}
use Rattle.verified_machine.proofs.executable.VerifiedText.new.Goals as goal

pub invariant_of-result : goal.invariant_of-result
invariant_of-result c =
    text_is_ready c.in_ok-held.held.value c.args.verified c.into_parts-code.result.0 c.into_parts-code.result.1 c.frame_words-frame.result (c.in_ok-held.ensures.ok ∙ c.in_ok-linked.ensures)
    c.into_parts-code.ensures.code c.into_parts-code.ensures.allow c.into_parts-code.ensures.sound c.frame_words-frame.ensures.words c.requires

pub returns : goal.returns
returns c =
    text_is_under c.in_ok-held.held.value c.args.verified c.into_parts-code.result.0 c.into_parts-code.result.1 (c.in_ok-held.ensures.ok ∙ c.in_ok-linked.ensures)
    c.into_parts-code.ensures.code c.into_parts-code.ensures.allow
