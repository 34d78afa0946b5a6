use Rattle.script_store.specs.Script.{script_of}
use Rattle.std.specs.Map.{lookup}
use Rattle.script_store.proofs.SameScripts.{is_key, same_stored}
use Rattle.script_store.proofs.KeyLemmas.{peeked_there, mean_at, mean_peeked}
use Rattle.script_store.proofs.cache.ScriptCache.script.Goals as goal

pub returns-clause-there : goal.returns-clause-there
returns-clause-there g c =
    rw (← c.self.view_is) (peeked_there (is_key c.args.key.now) (script_of c.args.key.now) (same_stored c.args.key.now) c.self.inside.scripts.entries c.peek.result c.peek.ensures)

pub returns-clause-means : goal.returns-clause-means
returns-clause-means g c =
    let compiled = g.C.Compiler.compiled c.self.inside.compiler in
    rw (← c.self.view_is) (
    mean_peeked g.C.Compiler.means compiled (script_of c.args.key.now) c.peek.result (lookup (is_key c.args.key.now) c.self.inside.scripts.entries) c.peek.ensures
    (mean_at g.C.Compiler.means compiled (is_key c.args.key.now) (script_of c.args.key.now) (same_stored c.args.key.now) c.self.inside.scripts.entries c.self.invariant)
    )
