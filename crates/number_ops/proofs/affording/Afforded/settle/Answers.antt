use Rattle.number_ops.proofs.affording.Afforded.settle.Goals as goal

pub returns-in-Told-clause-exact : goal.returns-in-Told-clause-exact
returns-in-Told-clause-exact c = λ told h. c.settle.ensures.exact told (rw c.in-Told.is at h)

pub returns-in-Told-clause-memory : goal.returns-in-Told-clause-memory
returns-in-Told-clause-memory c = λ told h. c.settle.ensures.memory told (rw c.in-Told.is at h)
