use Rattle.std.proofs.Common.{ap, ◌∙◌}
use Rattle.update_store.proofs.PlaceLemmas.{or_none, version_looked}
use Rattle.update_store.proofs.documents.deleted_version.Goals as goal

pub returns-in-Some : goal.returns-in-Some
returns-in-Some c = ap or_none c.in-Some.ensures.value ∙ version_looked c.args.id.now c.args.deleted.now.entries

pub returns-in-None : goal.returns-in-None
returns-in-None c = ap or_none c.in-None.ensures.value ∙ version_looked c.args.id.now c.args.deleted.now.entries
