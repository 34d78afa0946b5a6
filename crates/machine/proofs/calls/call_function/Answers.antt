use Rattle.std.proofs.Common.{[], ◌≤◌, length, ap, sym, rules, ◌∙◌}
use Rattle.run_state.specs.World.{Counted, enter}
use Rattle.code_meaning.specs.Machine.{take_words, on_words, on_enter}
use Rattle.machine.specs.Seen.{limit_of, world_of, codes_in, ground_in, limits_in}
use Rattle.machine.proofs.Calling.{as_well, limited}
use Rattle.machine.proofs.calls.call_function.Goals as goal

pub returns-in-Some-clause-exact : goal.returns-in-Some-clause-exact
returns-in-Some-clause-exact c =
    let few : length c.args.function.now.params ≤ length c.args.run.now.frames.top.stack = search rules in
    limited (codes_in c.args.executable.now) (limits_in c.args.executable.now c.args.limits.now) (length c.args.function.now.params) c.args.number c.args.function.now c.args.run.now.frames.top c.args.run.now.frames.below (world_of c.args.run.now.world)
    (world_of c.count_call.new.world) _ (limit_of c.in-Some.which) few (ap (λ depth. enter (limits_in c.args.executable.now c.args.limits.now) depth (world_of c.args.run.now.world)) (sym c.depth.ensures) ∙ c.in-Some.ensures.exact (ground_in c.args.executable.now))

pub returns-in-None-clause-exact : goal.returns-in-None-clause-exact
returns-in-None-clause-exact c =
    as_well _ _ _ _
    (ap (λ (counted : Counted). on_words (take_words (length c.args.function.now.params) c.args.run.now.frames.top.stack [])
    (λ args stack. on_enter (codes_in c.args.executable.now) (limits_in c.args.executable.now c.args.limits.now) counted c.args.run.now.frames.top.text c.args.number c.args.function.now [] c.args.run.now.frames.top c.args.run.now.frames.below (world_of c.args.run.now.world) args stack))
    (ap (λ depth. enter (limits_in c.args.executable.now c.args.limits.now) depth (world_of c.args.run.now.world)) (sym c.depth.ensures) ∙ c.in-None.ensures.exact (ground_in c.args.executable.now)))
    c.push_frame.ensures.exact
