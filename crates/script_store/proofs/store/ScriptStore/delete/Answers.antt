use Rattle.std.proofs.Common.{Option, is_some, ap, sym, subst, ◌∙◌}
use Rattle.script_store.specs.declared.stored.Stored.{Stored}
use Rattle.script_store.specs.Store.{StoredScripts, State, AllAccepted, stored_of}
use Rattle.script_store.proofs.StoredLemmas.{stored_found-some, stored_without, accepted_removed}
use Rattle.script_store.proofs.store.ScriptStore.delete.Goals as goal

pub invariant_of-self : goal.invariant_of-self
invariant_of-self g c =
    let compiled = g.C.Compiler.compiled c.self.inside.cache.compiler in
    subst (λ (s : StoredScripts). AllAccepted compiled s) (sym (stored_without c.args.id.now c.self.inside.stored.entries c.remove.new.self.entries c.remove.ensures.entries))
    (accepted_removed compiled c.args.id.now (stored_of c.self.inside.stored.entries) c.self.invariant)

pub returns-clause-found : goal.returns-clause-found
returns-clause-found g c =
    rw (← c.self.view_is) (c.is_some.ensures ∙ ap (λ (o : Option Stored). is_some o) c.remove.ensures.value ∙ stored_found-some c.args.id.now c.self.inside.stored.entries)

pub returns-clause-next : goal.returns-clause-next
returns-clause-next g c =
    let made : StoredScripts → State = λ s. record { stored = s; cache = c.self.inside.cache.cache } in
    rw (← c.self.view_is) (ap made (stored_without c.args.id.now c.self.inside.stored.entries c.remove.new.self.entries c.remove.ensures.entries))
