use Rattle.codegen.proofs.Lighter.{parts_more}
use Rattle.std.proofs.Common.{Some, refl, sym, ap, ◌∙◌, arith}
use Rattle.std.proofs.lemmas.Result.{err_from_is_err_and}
use Rattle.source_meaning.specs.Programs.{program_of}
use Rattle.program_typing.specs.Agreeing.{known}
use Rattle.allowlist.specs.declared.member.MemberKind.TheVariants as kinds
use Rattle.typed_tree.specs.declared.operation.Operation.TheVariants as operation
use Rattle.codegen.specs.Worklist.{items_of}
use Rattle.codegen.proofs.Back.{with_label}
use Rattle.codegen.proofs.Called.{guarded_back, forms, receives, receiver_representation, others_lie, not_received, agrees_called}
use Rattle.codegen.proofs.Steps.{with_one, never}
use Rattle.codegen.proofs.members.guarded_member.Goals as goal

pub returns-clause-back : goal.returns-clause-back
returns-clause-back c =
    rw c.in_ok-push_two-2.ensures (rw c.in_ok-push_three.ensures (rw c.in_ok-push_two.ensures
    (with_label _ _ c.args.config.now _ c.fresh.new.self c.in_ok-end.ensures.labels
    (guarded_back _ (items_of c.args.worklist.now) c.args.config.now c.args.at c.args.of.now c.args.named.now c.args.parts.now c.get-receiver.result.now c.in_ok-member.member.now _ c.in_ok-end.end
    (sym c.in-Some.ensures.value ∙ ap (λ x. Some x) (sym c.get-receiver.ensures)) c.representation_of.ensures c.in_ok-member.ensures.found c.in_ok-not_unboxed.ensures c.in_ok-represented_as.ensures))))

pub returns-clause-sound : goal.returns-clause-sound
returns-clause-sound c = rw c.in_ok-push_two-2.ensures (rw c.in_ok-push_three.ensures (rw c.in_ok-push_two.ensures
    (with_one _ _ _ c.args.config.now c.fresh.new.self c.in_ok-end.end c.in_ok-end.ensures.label c.in_ok-end.ensures.labels
    (λ allow of s.
    let funs = known allow (program_of c.args.program.now) in
    let m = c.args.named.now in
    let x = c.get-receiver.result.now in
    let member = c.in_ok-member.member.now in
    let found = c.in_ok-member.ensures.found in
    let k = receives funs _ c.args.at c.args.of.now m c.args.parts.now x (sym c.in-Some.ensures.value ∙ ap (λ x. Some x) (sym c.get-receiver.ensures)) s.0 in
    (k.receiver, ((k.others, others_lie funs _ m x c.args.parts.now c.args.of.now k member found.named), (forms c.names_of_members.ensures.forms kinds.Instance m member found.named, s.1)))) refl)))

pub returns-in_default-clause-sound : goal.returns-in_default-clause-sound
returns-in_default-clause-sound c =
    never _ _ _ _ _ _ (λ allow of s. not_received (known allow (program_of c.args.program.now)) _ c.args.at c.args.of.now (operation.Instance c.args.named.now) c.args.parts.now (sym c.in_default.ensures.value) s.0)

pub returns-in_err-represented_as-clause-sound : goal.returns-in_err-represented_as-clause-sound
returns-in_err-represented_as-clause-sound c = never _ _ _ _ _ _
    (λ allow of s.
    let funs = known allow (program_of c.args.program.now) in
    let m = c.args.named.now in
    let x = c.get-receiver.result.now in
    let k = receives funs _ c.args.at c.args.of.now m c.args.parts.now x (sym c.in-Some.ensures.value ∙ ap (λ x. Some x) (sym c.get-receiver.ensures)) s.0 in
    c.in_err-represented_as.ensures (receiver_representation funs _ m x c.args.parts.now c.args.of.now k))

pub returns-in_err-not_unboxed-clause-sound : goal.returns-in_err-not_unboxed-clause-sound
returns-in_err-not_unboxed-clause-sound c = never _ _ _ _ _ _
    (λ allow of s.
    let funs = known allow (program_of c.args.program.now) in
    let k = receives funs _ c.args.at c.args.of.now c.args.named.now c.args.parts.now c.get-receiver.result.now (sym c.in-Some.ensures.value ∙ ap (λ x. Some x) (sym c.get-receiver.ensures)) s.0 in
    k.whole c.in_err-not_unboxed.ensures)

pub returns-in_err-member-clause-sound : goal.returns-in_err-member-clause-sound
returns-in_err-member-clause-sound c =
    let p = err_from_is_err_and c.from_residual-in_err-member.result c.from_residual-in_err-member.ensures.1 in
    rw p.1 (record {
      by = λ allow s.
          let funs = known allow (program_of c.args.program.now) in
          let m = c.args.named.now in
          let k = receives funs _ c.args.at c.args.of.now m c.args.parts.now c.get-receiver.result.now (sym c.in-Some.ensures.value ∙ ap (λ x. Some x) (sym c.get-receiver.ensures)) s.agree.0 in
          p.2 ∙ c.in_err-member.ensures.total k.agrees.member (agrees_called funs kinds.Instance m _ c.args.of.now k.agrees);
    })

pub returns-clause-falls : goal.returns-clause-falls
returns-clause-falls c = rw c.in_ok-push_two-2.ensures (rw c.in_ok-push_three.ensures (rw c.in_ok-push_two.ensures (omega (arith, parts_more 0 c.args.parts.now c.get-receiver.result.now (sym c.in-Some.ensures.value ∙ ap (λ x. Some x) (sym c.get-receiver.ensures))))))
