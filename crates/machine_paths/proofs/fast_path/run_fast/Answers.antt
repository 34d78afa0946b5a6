use Rattle.std.proofs.Common.{◌≡◌, ℕ, List, Some, sym, ap, subst, ◌∙◌, arith, slice_get}
use Rattle.object_heap.specs.Store.{Store}
use Rattle.run_state.specs.World.{Limits}
use Rattle.code_meaning.specs.Machine.{Goes, code_in, function_of, step}
use Rattle.machine_paths.specs.Fast.{Leads, placed}
use Rattle.machine_parts.specs.Code.{codes_in}
use Rattle.machine_paths.proofs.Quick.{same_function}
use Rattle.machine_paths.proofs.Moving.{counts_still, kept_room, not_taken, stays_in, went_here, went_elsewhere}
use Rattle.machine_paths.proofs.Leading.{steps_on}
use Rattle.machine_paths.proofs.fast_path.run_fast.Goals.{in-Here, in-Elsewhere+in-Some}
use Rattle.machine_paths.proofs.fast_path.run_fast.Goals as goal

pub returns-in-None-clause-exact : goal.returns-in-None-clause-exact
returns-in-None-clause-exact c = λ limits store reached loops depth.
    steps_on (codes_in c.args.executable.now) limits c.instructions.taken (placed c.args.frames store c.args.ticks reached) (placed c.instructions.frames store c.instructions.ticks reached)
    (placed c.fast_step.new.frames store c.fast_step.new.ticks reached) (c.instructions.invariant.leads limits store reached loops depth)
    (went_elsewhere _ _ _ _ c.in-Elsewhere.is (c.fast_step.ensures.exact limits store reached loops depth))

pub returns-in-Not-clause-exact : goal.returns-in-Not-clause-exact
returns-in-Not-clause-exact c = λ limits store reached loops depth.
    subst (λ d. Leads (codes_in c.args.executable.now) limits c.instructions.taken (placed c.args.frames store c.args.ticks reached) d)
    (sym (not_taken _ _ _ _ c.in-Not.is (c.fast_step.ensures.exact limits store reached loops depth)))
    (c.instructions.invariant.leads limits store reached loops depth)

pub instructions-preserved : goal.instructions-preserved
instructions-preserved c =
    let codes = codes_in c.args.executable.now in
    let old = c.instructions.frames in
    let new = c.fast_step.new.frames in
    let went : (limits : Limits) (store : Store) (reached : List ℕ) → limits.loop ≡ c.args.loops → limits.depth ≡ c.args.depth
    → step codes limits (placed old store c.instructions.ticks reached) ≡ Goes (placed new store c.fast_step.new.ticks reached) =
    elim c.match-fast_step.branch [
      | in-Here w ↦ λ limits store reached loops depth. went_here _ _ _ _ w.in-Here.is (c.fast_step.ensures.exact limits store reached loops depth)
      | in-Elsewhere+in-Some w ↦ λ limits store reached loops depth. went_elsewhere _ _ _ _ w.in-Elsewhere.is (c.fast_step.ensures.exact limits store reached loops depth)
    ] in
    let found : function_of codes new.top ≡ Some c.match-fast_step.function.now =
    elim c.match-fast_step.branch [
      | in-Here w ↦
          let same = stays_in old.top new.top _ w.in-Here.is c.fast_step.ensures.same in
          let here : function_of codes new.top ≡ Some c.instructions.function.now = same_function codes old.top new.top _ same.0 same.1 c.instructions.invariant.found in
          cc (here, w.function-is)
      | in-Elsewhere+in-Some w ↦
          let there = ap (slice_get (code_in codes new.top.text)) (sym w.fun.ensures) ∙ sym w.in-Some.ensures in
          cc (there, w.function-is)
    ] in
    record {
      leads = λ limits store reached loops depth.
          steps_on codes limits c.instructions.taken (placed c.args.frames store c.args.ticks reached) (placed old store c.instructions.ticks reached) (placed new store c.fast_step.new.ticks reached)
          (c.instructions.invariant.leads limits store reached loops depth) (went limits store reached loops depth);
      keeps = kept_room c.args.frames old new c.instructions.invariant.keeps c.fast_step.ensures.room;
      counts = counts_still codes c.args.loops c.args.depth old new c.instructions.ticks c.fast_step.new.ticks c.instructions.invariant.counts went;
      found = found;
    }

pub returns-clause-exact : goal.returns-clause-exact
returns-clause-exact c = λ limits store reached loops depth.
    let same : c.instructions.taken ≡ c.args.count = omega arith in
    subst (λ (n : ℕ). Leads (codes_in c.args.executable.now) limits n (placed c.args.frames store c.args.ticks reached) (placed c.instructions.frames store c.instructions.ticks reached)) same
    (c.instructions.invariant.leads limits store reached loops depth)
