use Rattle.std.proofs.Common.{sym, subst}
use Rattle.def_access.specs.Answers.{NeedsMemory}
use Rattle.machine.proofs.members.pay_and_act.Goals as goal

pub returns-in-Ok-None-clause-memory : goal.returns-in-Ok-None-clause-memory
returns-in-Ok-None-clause-memory c = λ spares.
    c.act.ensures.memory
    (subst (λ h. NeedsMemory h.objects c.args.number c.args.run.now.values.items → ⊥) (sym c.pay_member.ensures.heap) spares)
