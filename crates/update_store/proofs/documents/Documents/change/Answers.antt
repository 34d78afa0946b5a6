use Rattle.update_store.proofs.documents.Documents.change.Goals as goal

pub returns-in-Index-clause-ok : goal.returns-in-Index-clause-ok
returns-in-Index-clause-ok c = rw c.in-Index.is c.replace.ensures.ok

pub returns-in-Delete-clause-ok : goal.returns-in-Delete-clause-ok
returns-in-Delete-clause-ok c = rw c.in-Delete.is c.remove.ensures.ok
