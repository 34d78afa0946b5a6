use Rattle.script_store.proofs.CommandLemmas.{unseen, keys_fit}
use Rattle.script_store.proofs.laws.cache_is_unseen.Goals as goal

pub returns-clause-unseen : goal.returns-clause-unseen
returns-clause-unseen g c compiler = unseen (g.C.Compiler.compiled compiler)

pub returns-clause-fit : goal.returns-clause-fit
returns-clause-fit g c compiler = keys_fit (g.C.Compiler.compiled compiler)
