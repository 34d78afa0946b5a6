use Rattle.std.proofs.Common.{ap}
use Rattle.run_state.specs.World.{World}
use Rattle.code_meaning.specs.Machine.{act}
use Rattle.machine_paths.proofs.Quick.{as_does}
use Rattle.machine_paths.proofs.fast_path.fast.Goals as goal

pub returns-in-Numbered-clause-exact : goal.returns-in-Numbered-clause-exact
returns-in-Numbered-clause-exact c = λ codes limits store reached function found limited loops.
    let w : World = record { store = store; ticks = c.args.ticks.now; reached = reached } in
    as_does _ _ _ _ _ (ap (λ i. act codes limits i c.args.frames.now.top c.args.frames.now.below w) c.in-Numbered.is)
    (c.fast_numbered.ensures.exact codes limits store reached function found limited loops)

pub returns-in-Arithmetic-clause-exact : goal.returns-in-Arithmetic-clause-exact
returns-in-Arithmetic-clause-exact c = λ codes limits store reached function found limited loops.
    let w : World = record { store = store; ticks = c.args.ticks.now; reached = reached } in
    as_does _ _ _ _ _ (ap (λ i. act codes limits i c.args.frames.now.top c.args.frames.now.below w) c.in-Arithmetic.is)
    (c.fast_arithmetic.ensures.exact codes limits w)

pub returns-in-Plain-clause-exact : goal.returns-in-Plain-clause-exact
returns-in-Plain-clause-exact c = λ codes limits store reached function found limited loops.
    let w : World = record { store = store; ticks = c.args.ticks.now; reached = reached } in
    as_does _ _ _ _ _ (ap (λ i. act codes limits i c.args.frames.now.top c.args.frames.now.below w) c.in-Plain.is) (c.fast_plain.ensures.exact codes limits w)
