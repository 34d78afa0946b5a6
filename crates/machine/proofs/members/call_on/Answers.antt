use Rattle.std.proofs.Common.{ap, sym, subst}
use Rattle.code_meaning.specs.Machine.{on_received}
use Rattle.def_access.specs.Answers.{NeedsMemory}
use Rattle.machine.specs.Members.{receiving_of}
use Rattle.machine.specs.Sparing.{ReceivingSpares}
use Rattle.machine.specs.Seen.{with_stack, world_of, codes_in, limits_in}
use Rattle.machine.proofs.Calling.{as_well}
use Rattle.machine.proofs.members.call_on.Goals as goal

pub returns-in-OnNull-clause-exact : goal.returns-in-OnNull-clause-exact
returns-in-OnNull-clause-exact c = λ stack.
    as_well _ _ _ _
    (ap (λ r. on_received (codes_in c.args.executable.now) (limits_in c.args.executable.now c.args.limits.now) (receiving_of r c.args.run.now.values.items) c.args.number c.args.called.now (with_stack c.args.run.now.frames.top stack) c.args.run.now.frames.below (world_of c.args.run.now.world) c.args.run.now.frames.top.stack) c.in-OnNull.is)
    (c.on_null.ensures.exact stack)

pub returns-in-Receives-clause-memory : goal.returns-in-Receives-clause-memory
returns-in-Receives-clause-memory c = λ spares.
    let spares' = subst (λ r. ReceivingSpares c.args.called.now (receiving_of r c.args.run.now.values.items) c.args.number c.args.run.now.world.heap.objects) c.in-Receives.is spares in
    c.test_and_pay.ensures.memory spares'.0 spares'.1

pub returns-in-Reads-clause-memory : goal.returns-in-Reads-clause-memory
returns-in-Reads-clause-memory c = λ spares.
    c.act.ensures.memory
    (subst (λ vs. NeedsMemory c.args.run.now.world.heap.objects c.args.number vs → ⊥) (sym c.clear.ensures.items)
    (subst (λ r. ReceivingSpares c.args.called.now (receiving_of r c.args.run.now.values.items) c.args.number c.args.run.now.world.heap.objects) c.in-Reads.is spares))
