use Rattle.std.proofs.Common.{Option, ap, ◌∙◌}
use Rattle.update_store.specs.Documents.{DocData, deleted_version, version_in}
use Rattle.update_store.proofs.documents.Documents.version_of.Goals as goal

pub returns-in-Some : goal.returns-in-Some
returns-in-Some c = ap (λ (o : Option DocData). version_in o (deleted_version c.args.id.now c.args.self.now.deleted)) c.in-Some.ensures

pub returns-in-None : goal.returns-in-None
returns-in-None c =
    c.deleted_version.ensures ∙ ap (λ d. deleted_version c.args.id.now d.deleted) c.self.view_is
    ∙ ap (λ (o : Option DocData). version_in o (deleted_version c.args.id.now c.args.self.now.deleted)) c.in-None.ensures
