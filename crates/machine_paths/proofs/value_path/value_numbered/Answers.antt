use Rattle.std.proofs.Common.{◌∷◌, ℕ, suc, Bool, Option, ap, sym, ◌∙◌}
use Rattle.std.specs.Prelude.{slice_get, slice_set}
use Rattle.pl_code.specs.declared.code.FunCode.{FunCode}
use Rattle.run_state.specs.World.{World, take_turn}
use Rattle.code_meaning.specs.Machine.{Goes, numbered_act, on_int, on_local, on_loops, on_top, on_turn, to_line, unless_zero}
use Rattle.machine_paths.proofs.Quick.{as_does}
use Rattle.machine_paths.proofs.value_path.value_numbered.Goals as goal

pub returns-in-Load-clause-exact : goal.returns-in-Load-clause-exact
returns-in-Load-clause-exact c = λ codes limits store reached function found limited loops.
    let f = c.args.frames.now.top in
    let below = c.args.frames.now.below in
    let w : World = record { store = store; ticks = c.args.ticks.now; reached = reached } in
    as_does _ _ _ _ _
    (ap (λ kind. numbered_act codes limits kind c.args.number f below w) c.in-Load.is
    ∙ ap (λ (n : ℕ). on_local (slice_get f.locals c.args.number) (λ word. to_line f below w n (word ∷ f.stack))) (sym c.requires.next))
    (c.load_word.ensures.exact w)

pub returns-in-Store-clause-exact : goal.returns-in-Store-clause-exact
returns-in-Store-clause-exact c = λ codes limits store reached function found limited loops.
    let f = c.args.frames.now.top in
    let below = c.args.frames.now.below in
    let w : World = record { store = store; ticks = c.args.ticks.now; reached = reached } in
    as_does _ _ _ _ _
    (ap (λ kind. numbered_act codes limits kind c.args.number f below w) c.in-Store.is
    ∙ ap (λ (n : ℕ). on_top f.stack (λ word stack. Goes (record { top = record { text = f.text; fun = f.fun; line = n; locals = slice_set f.locals c.args.number word; stack = stack; turns = f.turns; due = f.due }; below = below; world = w }))) (sym c.requires.next))
    (c.store_word.ensures.exact w)

pub returns-in-IfZero-clause-exact : goal.returns-in-IfZero-clause-exact
returns-in-IfZero-clause-exact c = λ codes limits store reached function found limited loops.
    let f = c.args.frames.now.top in
    let below = c.args.frames.now.below in
    let w : World = record { store = store; ticks = c.args.ticks.now; reached = reached } in
    as_does _ _ _ _ _
    (ap (λ kind. numbered_act codes limits kind c.args.number f below w) c.in-IfZero.is
    ∙ ap (λ (n : ℕ). on_top f.stack (λ word stack. on_int word (λ a. unless_zero a (to_line f below w n stack) (to_line f below w c.args.number stack)))) (sym c.requires.next))
    (c.jump.ensures.exact w)

pub returns-in-IfNotZero-clause-exact : goal.returns-in-IfNotZero-clause-exact
returns-in-IfNotZero-clause-exact c = λ codes limits store reached function found limited loops.
    let f = c.args.frames.now.top in
    let below = c.args.frames.now.below in
    let w : World = record { store = store; ticks = c.args.ticks.now; reached = reached } in
    as_does _ _ _ _ _
    (ap (λ kind. numbered_act codes limits kind c.args.number f below w) c.in-IfNotZero.is
    ∙ ap (λ (n : ℕ). on_top f.stack (λ word stack. on_int word (λ a. unless_zero a (to_line f below w c.args.number stack) (to_line f below w n stack)))) (sym c.requires.next))
    (c.jump-in-IfNotZero.ensures.exact w)

pub returns-in-Loop-clause-exact : goal.returns-in-Loop-clause-exact
returns-in-Loop-clause-exact c = λ codes limits store reached function found limited loops.
    let f = c.args.frames.now.top in
    let below = c.args.frames.now.below in
    let w : World = record { store = store; ticks = c.args.ticks.now; reached = reached } in
    let row = λ (counts : Bool) (n : ℕ). on_top f.stack (λ word stack. on_int word (λ a.
    unless_zero a (on_turn codes limits (take_turn limits counts f.turns w) c.args.number f below w stack) (to_line f below w n stack))) in
    as_does _ _ _ _ _
    (ap (λ kind. numbered_act codes limits kind c.args.number f below w) c.in-Loop.is
    ∙ ap (λ (o : Option FunCode). on_loops codes limits o (λ counts. row counts (suc f.line))) found
    ∙ ap (λ counts. row counts (suc f.line)) limited
    ∙ ap (row c.args.limited) (sym c.requires.next))
    (c.repeat.ensures.exact codes limits store reached loops)
