use Rattle.std.proofs.Common.{◌≤◌, sym, ◌∙◌, arith}
use Rattle.allowlist.specs.Seen.{seen_form}
use Rattle.allowlist.proofs.Tables.{length-catalogue}
use Rattle.allowlist.proofs.Members.{declared_begins, declared_no, declared_yes, declared_ends}
use Rattle.allowlist.proofs.reading.declared_member.Goals as goal

pub loop-number-init : goal.loop-number-init
loop-number-init c = declared_begins c.args.class (seen_form c.args.form.now)

pub returns-then-is_declared-clause-member : goal.returns-then-is_declared-clause-member
returns-then-is_declared-clause-member c = sym (c.loop-number.invariant ∙ declared_yes c.args.class (seen_form c.args.form.now) c.loop-number.number c.member_type.result.now c.member_type.ensures (sym c.is_declared.ensures ∙ c.if-is_declared.true))

pub loop-number-preserved : goal.loop-number-preserved
loop-number-preserved c = c.loop-number.invariant ∙ declared_no c.args.class (seen_form c.args.form.now) c.loop-number.number c.member_type.result.now c.member_type.ensures (sym c.is_declared.ensures ∙ c.if-is_declared.false)

pub returns-clause-member : goal.returns-clause-member
returns-clause-member c =
    let end : 228 ≤ c.loop-number.number = omega (arith, length-catalogue, c.member_count-number-end.ensures.whole, c.loop-number-test.false) in
    sym (c.loop-number.invariant ∙ declared_ends c.args.class (seen_form c.args.form.now) c.loop-number.number end)
