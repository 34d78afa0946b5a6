use Rattle.object_heap.proofs.Keeping.{answers_fit}
use Rattle.api_list.specs.Members.{comes_to}
use Rattle.api_list.specs.Taking.{told_effect}
use Rattle.api_list.proofs.Keeping.{comes_fits}
use Rattle.api_list.proofs.KeepingTaken.{told_settled}
use Rattle.api_list.proofs.member.call.Goals as goal

pub returns-clause-does : goal.returns-clause-does
returns-clause-does c = c.settle.ensures.does _ c.comes_to-told.ensures

pub returns-clause-memory : goal.returns-clause-memory
returns-clause-memory c = c.settle.ensures.memory _ c.comes_to-told.ensures

pub returns-clause-keeps : goal.returns-clause-keeps
returns-clause-keeps c = λ rules f h.
    let told = comes_to c.args.heap.now.objects c.args.number c.args.args.now in
    answers_fit rules (told_effect c.args.heap.now told) c.args.heap.now c.settle.new.heap c.settle.result (c.settle.ensures.does told c.comes_to-told.ensures) f
    (told_settled rules c.args.heap.now told f (comes_fits rules c.args.heap.now.objects c.args.number c.args.args.now f h))
