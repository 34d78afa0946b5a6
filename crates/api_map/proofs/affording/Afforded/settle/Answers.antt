use Rattle.api_map.proofs.affording.Afforded.settle.Goals as goal

pub returns-in-Told-clause-does : goal.returns-in-Told-clause-does
returns-in-Told-clause-does c = λ told h. c.settle.ensures.does told (rw c.in-Told.is at h)

pub returns-in-Told-clause-memory : goal.returns-in-Told-clause-memory
returns-in-Told-clause-memory c = λ told h. c.settle.ensures.memory told (rw c.in-Told.is at h)
