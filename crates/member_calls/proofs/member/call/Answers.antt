use Rattle.std.proofs.Common.{Option, Some, None, refl, sym, subst, ◌∙◌}
use Rattle.pl_types.specs.Host.{no_host}
use Rattle.object_heap.specs.Effects.{Effect}
use Rattle.object_heap.proofs.Keeping.{answers_fit}
use Rattle.number_ops.specs.Members.{does_numbered}
use Rattle.number_ops.specs.Outcomes.{effect}
use Rattle.api_text.specs.Outcomes as text_outcomes
use Rattle.member_calls.specs.Members.{given_by_host}
use Rattle.member_calls.specs.Answers.{AnswersIfBuilt}
use Rattle.member_calls.proofs.Doing.{does_of_numbers, does_of_texts, does_of_containers, does_of_host, does_of_others}
use Rattle.member_calls.proofs.Keeping.{number_fits, host_fits}
use Rattle.member_calls.proofs.Needing.{numbers_want, texts_want, containers_want, host_wants}
use Rattle.member_calls.proofs.member.call.Goals as goal

pub returns-then-is_of_numbers-clause-does : goal.returns-then-is_of_numbers-clause-does
returns-then-is_of_numbers-clause-does c =
    subst (λ (e : Option Effect). AnswersIfBuilt e c.args.heap.now c.call.new.heap (Some c.call.result))
    (sym (does_of_numbers no_host c.args.member c.args.args.now c.args.heap.now (sym c.is_of_numbers.ensures ∙ c.if-is_of_numbers.true))) c.call.ensures.exact

pub returns-then-is_of_numbers-clause-memory : goal.returns-then-is_of_numbers-clause-memory
returns-then-is_of_numbers-clause-memory c =
    numbers_want c.args.heap.now.objects c.args.member c.args.args.now c.call.result (sym c.is_of_numbers.ensures ∙ c.if-is_of_numbers.true) c.call.ensures.memory

pub returns-then-is_of_numbers-clause-keeps : goal.returns-then-is_of_numbers-clause-keeps
returns-then-is_of_numbers-clause-keeps c = λ rules f h.
    answers_fit rules (effect c.args.heap.now (does_numbered c.args.heap.now.objects c.args.member c.args.args.now)) c.args.heap.now c.call.new.heap c.call.result
    c.call.ensures.exact f (number_fits rules c.args.heap.now c.args.member c.args.args.now f)

pub returns-then-is_of_texts-clause-does : goal.returns-then-is_of_texts-clause-does
returns-then-is_of_texts-clause-does c =
    subst (λ (e : Option Effect). AnswersIfBuilt e c.args.heap.now c.call-then-is_of_texts.new.heap (Some c.call-then-is_of_texts.result))
    (sym (does_of_texts no_host c.args.member c.args.args.now c.args.heap.now (sym c.is_of_numbers.ensures ∙ c.if-is_of_numbers.false)
    (sym c.is_of_texts.ensures ∙ c.if-is_of_texts.true))) c.call-then-is_of_texts.ensures.does

pub returns-then-is_of_texts-clause-memory : goal.returns-then-is_of_texts-clause-memory
returns-then-is_of_texts-clause-memory c =
    texts_want c.args.heap.now.objects c.args.member c.args.args.now c.call-then-is_of_texts.result (sym c.is_of_texts.ensures ∙ c.if-is_of_texts.true)
    c.call-then-is_of_texts.ensures.memory

pub returns-then-is_of_containers-clause-does : goal.returns-then-is_of_containers-clause-does
returns-then-is_of_containers-clause-does c =
    subst (λ (e : Option Effect). AnswersIfBuilt e c.args.heap.now c.call-then-is_of_containers.new.heap (Some c.call-then-is_of_containers.result))
    (sym (does_of_containers no_host c.args.member c.args.args.now c.args.heap.now (sym c.is_of_numbers.ensures ∙ c.if-is_of_numbers.false)
    (sym c.is_of_texts.ensures ∙ c.if-is_of_texts.false) (sym c.is_of_containers.ensures ∙ c.if-is_of_containers.true))) c.call-then-is_of_containers.ensures.does

pub returns-then-is_of_containers-clause-memory : goal.returns-then-is_of_containers-clause-memory
returns-then-is_of_containers-clause-memory c =
    containers_want c.args.heap.now.objects c.args.member c.args.args.now c.call-then-is_of_containers.result (sym c.is_of_containers.ensures ∙ c.if-is_of_containers.true)
    c.call-then-is_of_containers.ensures.memory

pub returns-then-is_of_host-clause-does : goal.returns-then-is_of_host-clause-does
returns-then-is_of_host-clause-does c =
    subst (λ (e : Option Effect). AnswersIfBuilt e c.args.heap.now c.refuse.new.heap (Some c.refuse.result))
    (sym (does_of_host no_host c.args.member c.args.args.now c.args.heap.now (sym c.is_of_numbers.ensures ∙ c.if-is_of_numbers.false)
    (sym c.is_of_texts.ensures ∙ c.if-is_of_texts.false) (sym c.is_of_containers.ensures ∙ c.if-is_of_containers.false) (sym c.is_of_host.ensures ∙ c.if-is_of_host.true))) c.refuse.ensures

pub returns-then-is_of_host-clause-memory : goal.returns-then-is_of_host-clause-memory
returns-then-is_of_host-clause-memory c =
    host_wants c.args.heap.now.objects c.args.member c.args.args.now c.refuse.result (sym c.is_of_host.ensures ∙ c.if-is_of_host.true)

pub returns-then-is_of_host-clause-keeps : goal.returns-then-is_of_host-clause-keeps
returns-then-is_of_host-clause-keeps c = λ rules f h.
    answers_fit rules (text_outcomes.effect c.args.heap.now (given_by_host None)) c.args.heap.now c.refuse.new.heap c.refuse.result c.refuse.ensures f
    (host_fits rules c.args.heap.now None f)

pub returns-else-is_of_host-clause-does : goal.returns-else-is_of_host-clause-does
returns-else-is_of_host-clause-does c =
    subst (λ (e : Option Effect). AnswersIfBuilt e c.args.heap.now c.args.heap.now None)
    (sym (does_of_others no_host c.args.member c.args.args.now c.args.heap.now (sym c.is_of_numbers.ensures ∙ c.if-is_of_numbers.false)
    (sym c.is_of_texts.ensures ∙ c.if-is_of_texts.false) (sym c.is_of_containers.ensures ∙ c.if-is_of_containers.false) (sym c.is_of_host.ensures ∙ c.if-is_of_host.false))) refl
