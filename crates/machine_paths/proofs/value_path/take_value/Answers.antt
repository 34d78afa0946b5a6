use Rattle.std.proofs.Common.{Option, ap, sym, subst, ◌∙◌, slice_get}
use Rattle.run_state.specs.World.{World}
use Rattle.pl_code.specs.declared.kinds.Plain.TheVariants as plain
use Rattle.code_meaning.specs.Machine.{act, code_in, numbered_act, on_call, plain_act}
use Rattle.machine_paths.specs.Fast.{StaysIn, Takes, placed}
use Rattle.machine_parts.specs.Code.{codes_in}
use Rattle.pl_code.specs.declared.code.FunCode.{FunCode}
use Rattle.machine_parts.specs.Links.{lines_in}
use Rattle.machine_paths.proofs.Boxing.{constant_so}
use Rattle.machine_paths.proofs.Moving.{as_takes, stayed, takes_moves, takes_stays}
use Rattle.machine_paths.proofs.value_path.take_value.Goals as goal

pub returns-in-Call-clause-exact : goal.returns-in-Call-clause-exact
returns-in-Call-clause-exact c = λ limits store reached loops depth.
    let codes = codes_in c.args.executable.now in
    let f = c.args.frames.now.top in
    let below = c.args.frames.now.below in
    let w : World = record { store = store; ticks = c.args.ticks.now; reached = reached } in
    let k = c.in-Numbered.number in
    as_takes _ _ _ _ _ (ap (λ i. act codes limits i f below w) c.in-Numbered.is ∙ ap (λ kind. numbered_act codes limits kind k f below w) c.in-Call.is)
    (subst (Takes (on_call codes limits (slice_get (code_in codes f.text) k) k f below w) (placed c.args.frames.now store c.args.ticks.now reached) (placed c.call.new.frames store c.call.new.ticks reached)) (sym c.moves.ensures)
    (takes_moves _ _ _ _ (c.call.ensures.exact limits store reached depth)))

pub returns-in-Ret-clause-exact : goal.returns-in-Ret-clause-exact
returns-in-Ret-clause-exact c = λ limits store reached loops depth.
    let codes = codes_in c.args.executable.now in
    let f = c.args.frames.now.top in
    let below = c.args.frames.now.below in
    let w : World = record { store = store; ticks = c.args.ticks.now; reached = reached } in
    as_takes _ _ _ _ _ (ap (λ i. act codes limits i f below w) c.in-Plain.is ∙ ap (λ kind. plain_act codes limits kind f below w) c.in-Ret.is)
    (subst (Takes (plain_act codes limits plain.Ret f below w) (placed c.args.frames.now store c.args.ticks.now reached) (placed c.give_back_word.new.frames store c.args.ticks.now reached)) (sym c.moves-in-Ret.ensures)
    (takes_moves _ _ _ _ (c.give_back_word.ensures.exact codes limits w c.requires.found)))

pub returns-in-Constant-clause-exact : goal.returns-in-Constant-clause-exact
returns-in-Constant-clause-exact c = λ limits store reached loops depth.
    let codes = codes_in c.args.executable.now in
    let f = c.args.frames.now.top in
    let below = c.args.frames.now.below in
    let w : World = record { store = store; ticks = c.args.ticks.now; reached = reached } in
    subst (Takes (act codes limits c.args.instruction.now f below w) (placed c.args.frames.now store c.args.ticks.now reached) (placed c.put_constant.new.frames store c.args.ticks.now reached)) (sym c.stays.ensures)
    (takes_stays _ _ _ _
    (constant_so c.args.executable.now f c.args.instruction.now c.in-Quoted.kind _ (ap (λ (o : Option FunCode). slice_get (lines_in o) f.line) c.requires.found ∙ sym c.requires.there) c.in-Quoted.is c.in-Constant.is
    codes limits below w c.args.next c.requires.next _ _ _ (c.put_constant.ensures.exact w)))

pub returns-in-Constant-clause-same : goal.returns-in-Constant-clause-same
returns-in-Constant-clause-same c =
    subst (StaysIn c.args.frames.now.top c.put_constant.new.frames.top) (sym c.stays.ensures)
    (stayed c.args.frames.now.top c.put_constant.new.frames.top c.put_constant.result c.put_constant.ensures.keeps.0 c.put_constant.ensures.keeps.1)

pub returns-clause-exact : goal.returns-clause-exact
returns-clause-exact c = λ limits store reached loops depth. c.stay_value.ensures.exact (codes_in c.args.executable.now) limits store reached c.requires.found loops
