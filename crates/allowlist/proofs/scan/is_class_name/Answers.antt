use Rattle.std.proofs.Common.{sym, ◌∙◌}
use Rattle.allowlist.proofs.Joining.{joins_on, joins_not, joins_end}
use Rattle.allowlist.proofs.scan.is_class_name.Goals as goal

pub returns-in_default : goal.returns-in_default
returns-in_default c = sym (c.loop-byte.invariant ∙ joins_not c.args.word.now c.loop-byte.byte-index c.loop-byte.begins c.loop-byte-test.true (sym c.joined_after.ensures ∙ c.in_default.is))

pub loop-byte-preserved : goal.loop-byte-preserved
loop-byte-preserved c = c.loop-byte.invariant ∙ joins_on c.args.word.now c.loop-byte.byte-index c.loop-byte.begins c.in-Some.next c.loop-byte-test.true (sym c.joined_after.ensures ∙ c.in-Some.is)

pub returns : goal.returns
returns c = sym (c.loop-byte.invariant ∙ joins_end c.args.word.now c.loop-byte.byte-index c.loop-byte.begins c.loop-byte-test.false)
