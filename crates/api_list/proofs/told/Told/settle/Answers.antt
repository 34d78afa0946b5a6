use Rattle.std.proofs.Common.{subst}
use Rattle.api_list.specs.declared.told.Told.{Told}
use Rattle.api_list.specs.Taking.{Comes}
use Rattle.api_list.proofs.Telling.{said_comes, said_wants}
use Rattle.api_list.proofs.told.Told.settle.Goals as goal

pub returns-in-Says-clause-does : goal.returns-in-Says-clause-does
returns-in-Says-clause-does c = λ told k.
    said_comes told c.in-Says.outcome c.args.heap.now c.settle.new.heap c.settle.result c.settle.ensures.does (subst (λ (self : Told). Comes told self) c.in-Says.is k)

pub returns-in-Says-clause-memory : goal.returns-in-Says-clause-memory
returns-in-Says-clause-memory c = λ told k. said_wants told c.in-Says.outcome c.settle.result c.settle.ensures.memory (subst (λ (self : Told). Comes told self) c.in-Says.is k)
