use Rattle.std.proofs.Common.{ap, ◌∙◌}
use Rattle.update_store.specs.Documents.{versions_of}
use Rattle.update_store.proofs.PlaceLemmas.{version_entered}
use Rattle.update_store.proofs.documents.put_version.Goals as goal

pub returns-in-Ok-clause-ok : goal.returns-in-Ok-clause-ok
returns-in-Ok-clause-ok c = ap versions_of c.in-Ok.ensures.entries ∙ version_entered c.args.deleted.now.entries c.args.id c.args.version
