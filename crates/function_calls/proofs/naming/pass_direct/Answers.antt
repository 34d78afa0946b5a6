use Rattle.std.proofs.Common.{List, ap, ◌∙◌, subst}
use Rattle.allowlist.specs.declared.member.MemberType.{MemberType}
use Rattle.pl_types.specs.declared.ty.Ty.{Ty}
use Rattle.function_calls.specs.declared.called.Dues.TheVariants as due
use Rattle.function_calls.specs.declared.resolved.Resolved.TheVariants as said
use Rattle.function_calls.specs.Applying.{direct}
use Rattle.function_calls.specs.Coming.{ComesAs}
use Rattle.function_calls.specs.Passing.{passed_from}
use Rattle.function_calls.proofs.Coming.{direct_comes, direct_ends}
use Rattle.function_calls.proofs.naming.pass_direct.Goals as goal

pub returns-in-Some : goal.returns-in-Some
returns-in-Some c =
    let texts = c.args.texts.now in
    let allow = c.args.allow.now in
    let heap = c.args.heap.now in
    let values = c.args.values.now in
    let params = c.as_slice.ensures ∙ ap (λ (m : MemberType). m.params) c.member_at.ensures in
    subst (λ (ofs : List Ty). ComesAs texts allow heap (direct c.args.text c.args.called (passed_from texts allow ofs 1 heap values)) c.pass_from.new.heap c.pass_from.new.values (said.Acts c.in-Some.answer)) params
    (direct_ends texts allow heap c.pass_from.new.heap c.args.text c.args.called (passed_from texts allow c.as_slice.result.now 1 heap values) c.pass_from.new.values c.in-Some.answer c.in-Some.ensures)

pub returns-in-None : goal.returns-in-None
returns-in-None c =
    let texts = c.args.texts.now in
    let allow = c.args.allow.now in
    let heap = c.args.heap.now in
    let values = c.args.values.now in
    let params = c.as_slice.ensures ∙ ap (λ (m : MemberType). m.params) c.member_at.ensures in
    subst (λ (ofs : List Ty). ComesAs texts allow heap (direct c.args.text c.args.called (passed_from texts allow ofs 1 heap values)) c.pass_from.new.heap c.pass_from.new.values
    (said.Calls c.args.called c.args.text due.Nothing)) params
    (direct_comes texts allow heap c.pass_from.new.heap c.args.text c.args.called (passed_from texts allow c.as_slice.result.now 1 heap values) c.pass_from.new.values c.in-None.ensures)
