use Rattle.std.proofs.Common.{Option, sym, ap, ◌∙◌}
use Rattle.script_store.specs.Script.{Script, script_of}
use Rattle.script_store.specs.Cache.{is_ready}
use Rattle.script_store.specs.Store.{stored_of, script_under}
use Rattle.script_store.proofs.StoredLemmas.{stored_absent, stored_present, given_so}
use Rattle.script_store.proofs.store.ScriptStore.compiled_script.Goals as goal

pub returns-in_err-script-clause-there : goal.returns-in_err-script-clause-there
returns-in_err-script-clause-there g c =
    rw (c.from_residual.ensures, ← c.self.view_is) (
    sym (ap (λ (o : Option Script). is_ready o c.self.inside.cache.cache) (stored_absent c.args.id.now c.self.inside.stored.entries c.in_err-script.ensures.value))
    )

pub returns-clause-there : goal.returns-clause-there
returns-clause-there g c =
    let here = stored_present c.args.id.now c.self.inside.stored.entries c.in_ok-script.script.now c.in_ok-script.ensures.value in
    rw (← c.self.view_is) (c.script.ensures.there ∙ sym (ap (λ (o : Option Script). is_ready o c.self.inside.cache.cache) here))

pub returns-clause-means : goal.returns-clause-means
returns-clause-means g c =
    let here = stored_present c.args.id.now c.self.inside.stored.entries c.in_ok-script.script.now c.in_ok-script.ensures.value in
    rw (← c.self.view_is) (
    given_so g.C.Compiler.means (g.C.Compiler.compiled c.self.inside.cache.compiler) (script_under c.args.id.now (stored_of c.self.inside.stored.entries)) (script_of c.in_ok-script.script.now) c.script.result here
    c.script.ensures.means
    )
