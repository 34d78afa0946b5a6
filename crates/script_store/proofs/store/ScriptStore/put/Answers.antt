use Rattle.std.proofs.Common.{◌≡◌, Option, None, IsOk, subst, sym, ap, ◌∙◌}
use Rattle.pl_types.specs.declared.refusal.Refusal.{Refusal}
use Rattle.script_store.specs.Script.{Script, script}
use Rattle.script_store.specs.Cache.{Cache, fault_in, look_up}
use Rattle.script_store.specs.Store.{StoredScripts, AllAccepted, stored_of, with_script, with_accepted}
use Rattle.script_store.proofs.StoredLemmas.{state_of, stored_with, accepted_inserted, kept_accepted}
use Rattle.script_store.proofs.store.ScriptStore.put.Goals as goal

pub invariant_of-self-2 : goal.invariant_of-self-2
invariant_of-self-2 g c =
    let compiled = g.C.Compiler.compiled c.self.inside.cache.compiler in
    let key = script c.args.kind c.args.source.now in
    let old = stored_of c.self.inside.stored.entries in
    let made = stored_with c.args.id.now key c.self.inside.stored.entries c.in_ok-id.id c.in_ok-script.script c.insert.new.self.entries c.in_ok-insert.ensures.entries c.in_ok-id.ensures.ok c.in_ok-script.ensures in
    let accepted = subst (λ (s : Script). IsOk (compiled s)) c.in_ok-script.ensures c.in_ok-look_up.ensures.accepts in
    subst (λ (s : StoredScripts). AllAccepted (g.C.Compiler.compiled c.look_up.new.self.compiler) s) (sym made)
    (kept_accepted compiled (g.C.Compiler.compiled c.look_up.new.self.compiler) (with_script c.args.id.now key old) c.look_up.ensures.compiled
    (accepted_inserted compiled c.args.id.now key old c.self.invariant accepted))

pub returns-clause-next : goal.returns-clause-next
returns-clause-next g c =
    let compiled = g.C.Compiler.compiled c.self.inside.cache.compiler in
    let key = script c.args.kind c.args.source.now in
    let old = stored_of c.self.inside.stored.entries in
    let made = stored_with c.args.id.now key c.self.inside.stored.entries c.in_ok-id.id c.in_ok-script.script c.insert.new.self.entries c.in_ok-insert.ensures.entries c.in_ok-id.ensures.ok c.in_ok-script.ensures in
    let faultless = subst (λ (s : Script). fault_in (compiled s) s c.self.inside.cache.cache ≡ None) c.in_ok-script.ensures c.in_ok-look_up.ensures.faults in
    let looked = subst (λ (s : Script). c.look_up.new.self.cache ≡ look_up (compiled s) s c.self.inside.cache.cache) c.in_ok-script.ensures c.in_ok-look_up.ensures.next in
    rw (← c.self.view_is) (
    ap (λ (s : StoredScripts). state_of s c.look_up.new.self.cache) made
    ∙ ap (λ (k : Cache). state_of (with_script c.args.id.now key old) k) looked
    ∙ sym (ap (λ (f : Option Refusal). state_of (with_accepted f c.args.id.now key old) (look_up (compiled key) key c.self.inside.cache.cache)) faultless)
    )
