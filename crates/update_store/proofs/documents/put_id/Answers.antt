use Rattle.std.proofs.Common.{not, ap, ◌∙◌, string_bytes}
use Rattle.update_store.proofs.PlaceLemmas.{any_by_bytes, ids_entered}
use Rattle.update_store.proofs.documents.put_id.Goals as goal

pub returns-in-Ok-clause-new : goal.returns-in-Ok-clause-new
returns-in-Ok-clause-new c = c.in-Ok.ensures.added ∙ ap not (any_by_bytes (string_bytes c.args.id) c.args.places.now.keys)

pub returns-in-Ok-clause-keys : goal.returns-in-Ok-clause-keys
returns-in-Ok-clause-keys c = ids_entered c.args.places.now.keys c.insert.new.self.keys c.args.id c.in-Ok.ensures.keys
