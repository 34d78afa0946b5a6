use Rattle.codegen.proofs.Lighter.{parts_more}
use Rattle.std.proofs.Common.{Some, refl, sym, ap, ◌∙◌, arith}
use Rattle.source_meaning.specs.Programs.{program_of}
use Rattle.program_typing.specs.Agreeing.{known}
use Rattle.codegen.specs.Worklist.{items_of}
use Rattle.codegen.proofs.Back.{with_label}
use Rattle.codegen.proofs.Called.{found_back, finds, finds_receiver, finds_others, finds_gives, finds_spells, not_received}
use Rattle.codegen.proofs.Steps.{with_one, never}
use Rattle.codegen.proofs.members.guarded_found.Goals as goal

pub returns-clause-back : goal.returns-clause-back
returns-clause-back c =
    rw c.in_ok-push_two-2.ensures (rw c.in_ok-push_two.ensures (rw c.in_ok-push_three.ensures
    (with_label _ _ c.args.config.now _ c.fresh.new.self c.in_ok-end.ensures.labels
    (found_back _ (items_of c.args.worklist.now) c.args.config.now c.args.at c.args.of.now c.args.does.now c.args.parts.now c.get-receiver.result.now _ c.in_ok-end.end _
    (sym c.in-Some.ensures.value ∙ ap (λ x. Some x) (sym c.get-receiver.ensures)) c.representation_of-2.ensures c.in_ok-is_found.ensures (c.in_ok-count.ensures ∙ c.len.ensures)
    (sym c.representation_of.ensures ∙ c.in_ok-alike.ensures) c.in_ok-represented_as.ensures))))

pub returns-clause-sound : goal.returns-clause-sound
returns-clause-sound c = λ found. rw c.in_ok-push_two-2.ensures (rw c.in_ok-push_two.ensures (rw c.in_ok-push_three.ensures
    (with_one _ _ _ c.args.config.now c.fresh.new.self c.in_ok-end.end c.in_ok-end.ensures.label c.in_ok-end.ensures.labels
    (λ allow of s.
    let funs = known allow (program_of c.args.program.now) in
    let does = c.args.does.now in
    let x = c.get-receiver.result.now in
    let k = finds funs _ c.args.at c.args.of.now does c.args.parts.now x (sym c.in-Some.ensures.value ∙ ap (λ x. Some x) (sym c.get-receiver.ensures)) s.0 in
    (k.receiver, ((k.others, finds_others funs _ does x c.args.parts.now c.args.of.now found k), (finds_spells funs _ does x c.args.parts.now c.args.of.now found k, s.1)))) refl)))

pub returns-in_err-is_found-clause-sound : goal.returns-in_err-is_found-clause-sound
returns-in_err-is_found-clause-sound c = λ found. absurd (c.in_err-is_found.ensures found)

pub returns-in_default-clause-sound : goal.returns-in_default-clause-sound
returns-in_default-clause-sound c = λ found.
    never _ _ _ _ _ _ (λ allow of s. not_received (known allow (program_of c.args.program.now)) _ c.args.at c.args.of.now c.args.does.now c.args.parts.now (sym c.in_default.ensures.value) s.0)

pub returns-in_err-represented_as-clause-sound : goal.returns-in_err-represented_as-clause-sound
returns-in_err-represented_as-clause-sound c = λ found. never _ _ _ _ _ _
    (λ allow of s.
    let funs = known allow (program_of c.args.program.now) in
    let x = c.get-receiver.result.now in
    let k = finds funs _ c.args.at c.args.of.now c.args.does.now c.args.parts.now x (sym c.in-Some.ensures.value ∙ ap (λ x. Some x) (sym c.get-receiver.ensures)) s.0 in
    c.in_err-represented_as.ensures (finds_receiver funs _ c.args.does.now x c.args.parts.now c.args.of.now found k))

pub returns-in_err-alike-clause-sound : goal.returns-in_err-alike-clause-sound
returns-in_err-alike-clause-sound c = λ found. never _ _ _ _ _ _
    (λ allow of s.
    let funs = known allow (program_of c.args.program.now) in
    let x = c.get-receiver.result.now in
    let k = finds funs _ c.args.at c.args.of.now c.args.does.now c.args.parts.now x (sym c.in-Some.ensures.value ∙ ap (λ x. Some x) (sym c.get-receiver.ensures)) s.0 in
    c.in_err-alike.ensures (c.representation_of.ensures ∙ finds_gives funs _ c.args.does.now x c.args.parts.now c.args.of.now found k))

pub returns-clause-falls : goal.returns-clause-falls
returns-clause-falls c = rw c.in_ok-push_two-2.ensures (rw c.in_ok-push_two.ensures (rw c.in_ok-push_three.ensures (omega (arith, parts_more 0 c.args.parts.now c.get-receiver.result.now (sym c.in-Some.ensures.value ∙ ap (λ x. Some x) (sym c.get-receiver.ensures))))))
