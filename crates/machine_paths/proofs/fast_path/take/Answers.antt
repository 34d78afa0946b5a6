use Rattle.std.proofs.Common.{ap, sym, subst, ◌∙◌, slice_get}
use Rattle.run_state.specs.World.{World}
use Rattle.pl_code.specs.declared.kinds.Plain.TheVariants as plain
use Rattle.code_meaning.specs.Machine.{act, code_in, numbered_act, on_call, plain_act}
use Rattle.machine_paths.specs.Fast.{Takes, placed}
use Rattle.machine_parts.specs.Code.{codes_in}
use Rattle.machine_paths.proofs.Moving.{as_takes, takes_moves}
use Rattle.machine_paths.proofs.fast_path.take.Goals as goal

pub returns-in-Call-clause-exact : goal.returns-in-Call-clause-exact
returns-in-Call-clause-exact c = λ limits store reached loops depth.
    let codes = codes_in c.args.executable.now in
    let f = c.args.frames.now.top in
    let below = c.args.frames.now.below in
    let w : World = record { store = store; ticks = c.args.ticks.now; reached = reached } in
    let k = c.in-Numbered.number in
    as_takes _ _ _ _ _ (ap (λ i. act codes limits i f below w) c.in-Numbered.is ∙ ap (λ kind. numbered_act codes limits kind k f below w) c.in-Call.is)
    (subst (Takes (on_call codes limits (slice_get (code_in codes f.text) k) k f below w) (placed c.args.frames.now store c.args.ticks.now reached) (placed c.call.new.frames store c.call.new.ticks reached)) (sym c.moves.ensures)
    (takes_moves _ _ _ _ (c.call.ensures.exact limits store reached depth)))

pub returns-in-Ret-clause-exact : goal.returns-in-Ret-clause-exact
returns-in-Ret-clause-exact c = λ limits store reached loops depth.
    let codes = codes_in c.args.executable.now in
    let f = c.args.frames.now.top in
    let below = c.args.frames.now.below in
    let w : World = record { store = store; ticks = c.args.ticks.now; reached = reached } in
    as_takes _ _ _ _ _ (ap (λ i. act codes limits i f below w) c.in-Plain.is ∙ ap (λ kind. plain_act codes limits kind f below w) c.in-Ret.is)
    (subst (Takes (plain_act codes limits plain.Ret f below w) (placed c.args.frames.now store c.args.ticks.now reached) (placed c.give_back.new.frames store c.args.ticks.now reached)) (sym c.moves-in-Ret.ensures)
    (takes_moves _ _ _ _ (c.give_back.ensures.exact codes limits w c.requires.found)))

pub returns-in_default-kind : goal.returns-in_default-kind
returns-in_default-kind c = record {
  exact = λ limits store reached loops depth. c.stay.ensures.exact (codes_in c.args.executable.now) limits store reached c.requires.found loops;
  same = c.stay.ensures.same;
  room = c.stay.ensures.room;
}

pub returns-in_default-kind-2 : goal.returns-in_default-kind-2
returns-in_default-kind-2 c = record {
  exact = λ limits store reached loops depth. c.stay-in_default-kind-2.ensures.exact (codes_in c.args.executable.now) limits store reached c.requires.found loops;
  same = c.stay-in_default-kind-2.ensures.same;
  room = c.stay-in_default-kind-2.ensures.room;
}

pub returns-in_default : goal.returns-in_default
returns-in_default c = record {
  exact = λ limits store reached loops depth. c.stay-in_default.ensures.exact (codes_in c.args.executable.now) limits store reached c.requires.found loops;
  same = c.stay-in_default.ensures.same;
  room = c.stay-in_default.ensures.room;
}
