use Rattle.std.proofs.Common.{is_some, Option, sym, ap, ◌∙◌}
use Rattle.script_store.specs.Script.{Script, script_of}
use Rattle.script_store.specs.Cache.{Cache, has_key, is_ready}
use Rattle.script_store.specs.Store.{stored_of, after_look}
use Rattle.script_store.proofs.KeyLemmas.{ready_after}
use Rattle.script_store.proofs.StoredLemmas.{state_of, stored_absent, stored_present, accepted_under, memory_alone}
use Rattle.script_store.proofs.store.ScriptStore.look_up.Goals as goal

pub returns-in_default-clause-found : goal.returns-in_default-clause-found
returns-in_default-clause-found g c =
    rw (← c.self.view_is) (sym (ap (λ (o : Option Script). is_some o) (stored_absent c.args.id.now c.self.inside.stored.entries c.in_default.ensures.value)))

pub returns-in_default-clause-ready : goal.returns-in_default-clause-ready
returns-in_default-clause-ready g c =
    rw (← c.self.view_is) (sym (ap (λ (o : Option Script). is_ready o c.self.inside.cache.cache) (stored_absent c.args.id.now c.self.inside.stored.entries c.in_default.ensures.value)))

pub returns-in_default-clause-next : goal.returns-in_default-clause-next
returns-in_default-clause-next g c =
    let old = state_of (stored_of c.self.inside.stored.entries) c.self.inside.cache.cache in
    rw (← c.self.view_is) (
    sym (ap (λ (o : Option Script). after_look (g.C.Compiler.compiled c.self.inside.cache.compiler) o old) (stored_absent c.args.id.now c.self.inside.stored.entries c.in_default.ensures.value))
    )

pub memory_alone-requires : goal.memory_alone-requires
memory_alone-requires g c =
    let compiled = g.C.Compiler.compiled c.self.inside.cache.compiler in
    let key = script_of c.in-Some.script.now in
    let here = stored_present c.args.id.now c.self.inside.stored.entries c.in-Some.script.now c.in-Some.ensures.value in
    memory_alone compiled key c.in-Err.fail (accepted_under compiled c.args.id.now (stored_of c.self.inside.stored.entries) key c.self.invariant here) c.in-Err.ensures.accepts

pub returns-clause-found : goal.returns-clause-found
returns-clause-found g c =
    rw (← c.self.view_is) (sym (ap (λ (o : Option Script). is_some o) (stored_present c.args.id.now c.self.inside.stored.entries c.in-Some.script.now c.in-Some.ensures.value)))

pub returns-clause-ready : goal.returns-clause-ready
returns-clause-ready g c =
    let key = script_of c.in-Some.script.now in
    let here = stored_present c.args.id.now c.self.inside.stored.entries c.in-Some.script.now c.in-Some.ensures.value in
    sym (
    ap (λ (o : Option Script). is_ready o c.look_up.new.self.cache) here
    ∙ ap (λ (k : Cache). has_key key k.keys) c.in_default-look_up.ensures.next
    ∙ ready_after key c.self.inside.cache.cache (g.C.Compiler.compiled c.self.inside.cache.compiler key) c.in_default-look_up.ensures.accepts
    )

pub returns-clause-next : goal.returns-clause-next
returns-clause-next g c =
    let old = state_of (stored_of c.self.inside.stored.entries) c.self.inside.cache.cache in
    let here = stored_present c.args.id.now c.self.inside.stored.entries c.in-Some.script.now c.in-Some.ensures.value in
    rw (← c.self.view_is) (
    ap (λ (k : Cache). state_of (stored_of c.self.inside.stored.entries) k) c.in_default-look_up.ensures.next
    ∙ sym (ap (λ (o : Option Script). after_look (g.C.Compiler.compiled c.self.inside.cache.compiler) o old) here)
    )
