use Rattle.std.proofs.Common.{ap, sym, ◌∙◌, subst}
use Rattle.allowlist.specs.declared.member.MemberType.{MemberType}
use Rattle.def_access.specs.Access.{Access, casts_from}
use Rattle.def_access.specs.Coming.{ActsAs, CallsAs}
use Rattle.def_access.proofs.CastLemmas.{built_with, casts_act, casts_call}
use Rattle.def_access.proofs.calling.call_built.Goals as goal

pub returns-in-Some : goal.returns-in-Some
returns-in-Some c =
    let heap = c.args.heap.now in
    let params = c.as_slice.ensures ∙ ap (λ (m : MemberType). m.params) c.member_at.ensures in
    subst (λ (x : Access). ActsAs x heap c.cast_all.new.heap c.in-Some.answer)
    (built_with c.args.allow.now heap c.args.number c.args.values.now c.as_slice.result.now params (sym c.is_empty.ensures ∙ c.if-is_empty.false))
    (casts_act (casts_from heap.objects c.as_slice.result.now 1 c.args.values.now) heap c.cast_all.new.heap c.args.number c.cast_all.new.values c.in-Some.answer c.in-Some.ensures)

pub returns-in-None : goal.returns-in-None
returns-in-None c =
    let heap = c.args.heap.now in
    let params = c.as_slice.ensures ∙ ap (λ (m : MemberType). m.params) c.member_at.ensures in
    subst (λ (x : Access). CallsAs x heap c.cast_all.new.heap c.args.number c.cast_all.new.values)
    (built_with c.args.allow.now heap c.args.number c.args.values.now c.as_slice.result.now params (sym c.is_empty.ensures ∙ c.if-is_empty.false))
    (casts_call (casts_from heap.objects c.as_slice.result.now 1 c.args.values.now) heap c.cast_all.new.heap c.args.number c.cast_all.new.values c.in-None.ensures)
