use Rattle.std.proofs.Common.{subst, sym}
use Rattle.container_calls.specs.declared.family.Family.{Family}
use Rattle.container_calls.specs.Answers.{FamilyWants}
use Rattle.container_calls.proofs.Needing.{iterables_want, lists_want, maps_want}
use Rattle.container_calls.proofs.member.act_of.Goals as goal

pub returns-in-Iterables-clause-memory : goal.returns-in-Iterables-clause-memory
returns-in-Iterables-clause-memory c =
    subst (λ (f : Family). FamilyWants f c.args.heap.now.objects c.args.number c.args.args.now c.call.result) (sym c.in-Iterables.is)
    (iterables_want c.args.heap.now c.args.number c.args.args.now c.call.result c.call.ensures.memory)

pub returns-in-Lists-clause-memory : goal.returns-in-Lists-clause-memory
returns-in-Lists-clause-memory c =
    subst (λ (f : Family). FamilyWants f c.args.heap.now.objects c.args.number c.args.args.now c.call-in-Lists.result) (sym c.in-Lists.is)
    (lists_want c.args.heap.now.objects c.args.number c.args.args.now c.call-in-Lists.result c.call-in-Lists.ensures.memory)

pub returns-in-Maps-clause-memory : goal.returns-in-Maps-clause-memory
returns-in-Maps-clause-memory c =
    subst (λ (f : Family). FamilyWants f c.args.heap.now.objects c.args.number c.args.args.now c.call-in-Maps.result) (sym c.in-Maps.is)
    (maps_want c.args.heap.now.objects c.args.number c.args.args.now c.call-in-Maps.result c.call-in-Maps.ensures.memory)
