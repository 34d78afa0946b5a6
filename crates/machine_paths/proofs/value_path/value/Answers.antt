use Rattle.std.proofs.Common.{◌∷◌, ℕ, ap, sym, ◌∙◌}
use Rattle.run_state.specs.World.{World}
use Rattle.code_meaning.specs.declared.word.Word.TheVariants.{R}
use Rattle.code_meaning.specs.Words.{boxed}
use Rattle.code_meaning.specs.Machine.{act, is_written, on_top, on_value, to_line}
use Rattle.machine_paths.proofs.Quick.{as_does}
use Rattle.machine_paths.proofs.value_path.value.Goals as goal

pub returns-in-Numbered-clause-exact : goal.returns-in-Numbered-clause-exact
returns-in-Numbered-clause-exact c = λ codes limits store reached function found limited loops.
    let w : World = record { store = store; ticks = c.args.ticks.now; reached = reached } in
    as_does _ _ _ _ _ (ap (λ i. act codes limits i c.args.frames.now.top c.args.frames.now.below w) c.in-Numbered.is)
    (c.value_numbered.ensures.exact codes limits store reached function found limited loops)

pub returns-in-Arithmetic-clause-exact : goal.returns-in-Arithmetic-clause-exact
returns-in-Arithmetic-clause-exact c = λ codes limits store reached function found limited loops.
    let w : World = record { store = store; ticks = c.args.ticks.now; reached = reached } in
    as_does _ _ _ _ _ (ap (λ i. act codes limits i c.args.frames.now.top c.args.frames.now.below w) c.in-Arithmetic.is)
    (c.calculate.ensures.exact codes limits w)

pub returns-in-Plain-clause-exact : goal.returns-in-Plain-clause-exact
returns-in-Plain-clause-exact c = λ codes limits store reached function found limited loops.
    let w : World = record { store = store; ticks = c.args.ticks.now; reached = reached } in
    as_does _ _ _ _ _ (ap (λ i. act codes limits i c.args.frames.now.top c.args.frames.now.below w) c.in-Plain.is) (c.value_plain.ensures.exact codes limits w)

pub returns-in-Boxing-clause-exact : goal.returns-in-Boxing-clause-exact
returns-in-Boxing-clause-exact c = λ codes limits store reached function found limited loops.
    let f = c.args.frames.now.top in
    let below = c.args.frames.now.below in
    let w : World = record { store = store; ticks = c.args.ticks.now; reached = reached } in
    as_does _ _ _ _ _
    (ap (λ i. act codes limits i f below w) c.in-Boxing.is
    ∙ ap (λ (n : ℕ). on_top f.stack (λ word stack. on_value (boxed c.in-Boxing.primitive word) (λ value. to_line f below w n (R value ∷ stack)))) (sym c.requires.next))
    (c.box_top.ensures.exact w)

pub returns-in-Unboxing-clause-exact : goal.returns-in-Unboxing-clause-exact
returns-in-Unboxing-clause-exact c = λ codes limits store reached function found limited loops.
    let w : World = record { store = store; ticks = c.args.ticks.now; reached = reached } in
    as_does _ _ _ _ _ (ap (λ i. act codes limits i c.args.frames.now.top c.args.frames.now.below w) c.in-Unboxing.is)
    (c.unbox_top.ensures.exact codes limits w (is_written c.in-Unboxing.field-1))

pub returns-in-Dynamic-clause-exact : goal.returns-in-Dynamic-clause-exact
returns-in-Dynamic-clause-exact c = λ codes limits store reached function found limited loops.
    let w : World = record { store = store; ticks = c.args.ticks.now; reached = reached } in
    as_does _ _ _ _ _ (ap (λ i. act codes limits i c.args.frames.now.top c.args.frames.now.below w) c.in-Dynamic.is)
    (c.operate_top.ensures.exact codes limits w)
