use Rattle.std.proofs.Common.{refl, sym, subst}
use Rattle.run_state.specs.World.{World}
use Rattle.code_meaning.specs.Machine.{act}
use Rattle.machine_paths.specs.Fast.{StaysIn, Takes, placed}
use Rattle.machine_paths.proofs.Moving.{stayed, takes_stays}
use Rattle.machine_paths.proofs.value_path.stay_value.Goals as goal

pub returns-clause-exact : goal.returns-clause-exact
returns-clause-exact c = λ codes limits store reached found loops.
    let w : World = record { store = store; ticks = c.args.ticks.now; reached = reached } in
    subst (Takes (act codes limits c.args.instruction.now c.args.frames.now.top c.args.frames.now.below w) (placed c.args.frames.now store c.args.ticks.now reached) (placed c.value.new.frames store c.value.new.ticks reached)) (sym c.stays.ensures)
    (takes_stays _ _ _ _ (c.value.ensures.exact codes limits store reached c.args.function.now found refl loops))

pub returns-clause-same : goal.returns-clause-same
returns-clause-same c = subst (StaysIn c.args.frames.now.top c.value.new.frames.top) (sym c.stays.ensures) (stayed c.args.frames.now.top c.value.new.frames.top c.value.result c.value.ensures.keeps.0 c.value.ensures.keeps.1)
