use Rattle.script_store.proofs.StoredLemmas.{stored_copied}
use Rattle.script_store.proofs.store.ScriptStore.get.Goals as goal

pub returns : goal.returns
returns g c = rw (← c.self.view_is) (stored_copied c.args.id.now c.self.inside.stored.entries c.get.result c.get.ensures.value)
