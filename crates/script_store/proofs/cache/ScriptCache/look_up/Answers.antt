use Rattle.std.proofs.Common.{◌≡◌, ℕ, true, false, List, Err, IsOkAnd, subst}
use Rattle.script_store.specs.Script.{script, script_of}
use Rattle.script_store.specs.Compiling.{Compiles, Faults, WithMemory}
use Rattle.script_store.specs.Cache.{Cached, cache_of, fault_in, look_up}
use Rattle.script_store.proofs.SameScripts.{is_key, same_stored, same_copy}
use Rattle.script_store.proofs.KeyLemmas.{has_so, mean_mid, mean_same, mean_new, kept_mean, there_is_ok, no_fault, fault_refused, next_hit, next_miss, next_refused}
use Rattle.script_store.proofs.cache.ScriptCache.look_up.Goals as goal

pub invariant_of-self : goal.invariant_of-self
invariant_of-self g c =
    mean_mid g.C.Compiler.means (g.C.Compiler.compiled c.self.inside.compiler) (is_key c.args.key.now) c.self.inside.scripts c.promote.new.self c.promote.ensures.entries c.self.invariant

pub returns-then-promote-clause-accepts : goal.returns-then-promote-clause-accepts
returns-then-promote-clause-accepts g c =
    let key = script_of c.args.key.now in
    let in_keys = has_so (is_key c.args.key.now) key (same_stored c.args.key.now) c.self.inside.scripts.entries c.promote.result true c.promote.ensures.value c.if-promote.true in
    rw (← c.self.view_is) (there_is_ok g.C.Compiler.means (g.C.Compiler.compiled c.self.inside.compiler) key c.self.inside.scripts.entries c.self.invariant in_keys)

pub returns-then-promote-clause-faults : goal.returns-then-promote-clause-faults
returns-then-promote-clause-faults g c =
    let key = script_of c.args.key.now in
    let in_keys = has_so (is_key c.args.key.now) key (same_stored c.args.key.now) c.self.inside.scripts.entries c.promote.result true c.promote.ensures.value c.if-promote.true in
    rw (← c.self.view_is) (no_fault (g.C.Compiler.compiled c.self.inside.compiler key) key (cache_of c.self.inside.scripts c.self.inside.hits c.self.inside.misses (g.C.Compiler.calls c.self.inside.compiler)) in_keys)

pub returns-then-promote-clause-next : goal.returns-then-promote-clause-next
returns-then-promote-clause-next g c =
    let key = script_of c.args.key.now in
    let in_keys = has_so (is_key c.args.key.now) key (same_stored c.args.key.now) c.self.inside.scripts.entries c.promote.result true c.promote.ensures.value c.if-promote.true in
    rw (← c.self.view_is) (
    next_hit (g.C.Compiler.compiled c.self.inside.compiler key) key (is_key c.args.key.now) (same_stored c.args.key.now) c.self.inside.scripts c.self.inside.hits c.self.inside.misses (g.C.Compiler.calls c.self.inside.compiler)
    c.promote.new.self c.saturating_add-self-inside.result in_keys c.promote.ensures.entries c.saturating_add-self-inside.ensures
    )

pub invariant_of-self-in-Err : goal.invariant_of-self-in-Err
invariant_of-self-in-Err g c =
    kept_mean g.C.Compiler.means (g.C.Compiler.compiled c.self.inside.compiler) (g.C.Compiler.compiled c.compile.new.self) c.promote.new.self.entries c.compile.ensures.compiled
    (mean_mid g.C.Compiler.means (g.C.Compiler.compiled c.self.inside.compiler) (is_key c.args.key.now) c.self.inside.scripts c.promote.new.self c.promote.ensures.entries c.self.invariant)

pub returns-in-Err-clause-faults : goal.returns-in-Err-clause-faults
returns-in-Err-clause-faults g c =
    let key = script_of c.args.key.now in
    let not_in = has_so (is_key c.args.key.now) key (same_stored c.args.key.now) c.self.inside.scripts.entries c.promote.result false c.promote.ensures.value c.if-promote.false in
    let compiled = g.C.Compiler.compiled c.self.inside.compiler in
    let says = subst (λ (s : List ℕ). Compiles g.C.Compiler.means (compiled (script c.args.key.now.kind s)) (Err c.in-Err.fail)) c.as_str.ensures.value c.in-Err.ensures.answers in
    subst (λ (v : Cached g.row.C.Denot). Faults {T = Unit {0}} (fault_in (g.C.Compiler.compiled v.compiler key) key v.cache) (Err c.in-Err.fail)) c.self.view_is (
    fault_refused (compiled key) key g.C.Compiler.means (cache_of c.self.inside.scripts c.self.inside.hits c.self.inside.misses (g.C.Compiler.calls c.self.inside.compiler)) c.in-Err.fail not_in says
    )

pub returns-in-Err-clause-next : goal.returns-in-Err-clause-next
returns-in-Err-clause-next g c =
    let key = script_of c.args.key.now in
    let not_in = has_so (is_key c.args.key.now) key (same_stored c.args.key.now) c.self.inside.scripts.entries c.promote.result false c.promote.ensures.value c.if-promote.false in
    let compiled = g.C.Compiler.compiled c.self.inside.compiler in
    let says = subst (λ (s : List ℕ). Compiles g.C.Compiler.means (compiled (script c.args.key.now.kind s)) (Err c.in-Err.fail)) c.as_str.ensures.value c.in-Err.ensures.answers in
    subst (λ (v : Cached g.row.C.Denot). WithMemory {T = Unit {0}} (Err c.in-Err.fail) (cache_of c.promote.new.self c.self.inside.hits c.saturating_add-self-inside-2.result (g.C.Compiler.calls c.compile.new.self) ≡ look_up (g.C.Compiler.compiled v.compiler key) key v.cache)) c.self.view_is (
    next_refused (compiled key) key (is_key c.args.key.now) (same_stored c.args.key.now) c.self.inside.scripts c.self.inside.hits c.self.inside.misses (g.C.Compiler.calls c.self.inside.compiler)
    g.C.Compiler.means c.promote.new.self c.saturating_add-self-inside-2.result (g.C.Compiler.calls c.compile.new.self) c.in-Err.fail not_in c.promote.ensures.entries c.saturating_add-self-inside-2.ensures c.compile.ensures.calls says
    )

pub invariant_of-self-in_err-key : goal.invariant_of-self-in_err-key
invariant_of-self-in_err-key g c =
    kept_mean g.C.Compiler.means (g.C.Compiler.compiled c.self.inside.compiler) (g.C.Compiler.compiled c.compile.new.self) c.promote.new.self.entries c.compile.ensures.compiled
    (mean_mid g.C.Compiler.means (g.C.Compiler.compiled c.self.inside.compiler) (is_key c.args.key.now) c.self.inside.scripts c.promote.new.self c.promote.ensures.entries c.self.invariant)

pub invariant_of-self-in_err-put : goal.invariant_of-self-in_err-put
invariant_of-self-in_err-put g c =
    kept_mean g.C.Compiler.means (g.C.Compiler.compiled c.self.inside.compiler) (g.C.Compiler.compiled c.compile.new.self) c.put.new.self.entries c.compile.ensures.compiled
    (mean_same g.C.Compiler.means (g.C.Compiler.compiled c.self.inside.compiler) c.promote.new.self c.put.new.self c.in_err-put.ensures.err
    (mean_mid g.C.Compiler.means (g.C.Compiler.compiled c.self.inside.compiler) (is_key c.args.key.now) c.self.inside.scripts c.promote.new.self c.promote.ensures.entries c.self.invariant))

pub invariant_of-self-2 : goal.invariant_of-self-2
invariant_of-self-2 g c =
    let key = script_of c.args.key.now in
    let not_in = has_so (is_key c.args.key.now) key (same_stored c.args.key.now) c.self.inside.scripts.entries c.promote.result false c.promote.ensures.value c.if-promote.false in
    let compiled = g.C.Compiler.compiled c.self.inside.compiler in
    let here = subst (λ (s : List ℕ). IsOkAnd (compiled (script c.args.key.now.kind s)) (g.C.Compiler.means c.in-Ok.script)) c.as_str.ensures.value c.in-Ok.ensures.answers in
    kept_mean g.C.Compiler.means compiled (g.C.Compiler.compiled c.compile.new.self) c.put.new.self.entries c.compile.ensures.compiled
    (mean_new g.C.Compiler.means compiled (is_key c.args.key.now) is_key c.in_ok-key.key key (same_stored c.args.key.now) (same_copy c.in_ok-key.key key c.in_ok-key.ensures)
    c.self.inside.scripts c.promote.new.self c.put.new.self c.in-Ok.script not_in c.promote.ensures.entries c.in_ok-put.ensures.entries c.in_ok-key.ensures here c.self.invariant)

pub returns-clause-next : goal.returns-clause-next
returns-clause-next g c =
    let key = script_of c.args.key.now in
    let not_in = has_so (is_key c.args.key.now) key (same_stored c.args.key.now) c.self.inside.scripts.entries c.promote.result false c.promote.ensures.value c.if-promote.false in
    let compiled = g.C.Compiler.compiled c.self.inside.compiler in
    let here = subst (λ (s : List ℕ). IsOkAnd (compiled (script c.args.key.now.kind s)) (g.C.Compiler.means c.in-Ok.script)) c.as_str.ensures.value c.in-Ok.ensures.answers in
    rw (← c.self.view_is) (
    next_miss (compiled key) key (is_key c.args.key.now) (same_stored c.args.key.now) c.self.inside.scripts c.self.inside.hits c.self.inside.misses (g.C.Compiler.calls c.self.inside.compiler)
    is_key c.in_ok-key.key (same_copy c.in_ok-key.key key c.in_ok-key.ensures) c.promote.new.self c.put.new.self c.in-Ok.script c.saturating_add-self-inside-2.result (g.C.Compiler.calls c.compile.new.self) (g.C.Compiler.means c.in-Ok.script)
    not_in c.promote.ensures.entries c.in_ok-put.ensures.entries c.in_ok-key.ensures c.saturating_add-self-inside-2.ensures c.compile.ensures.calls here
    )
