use Rattle.std.proofs.Common.{ap}
use Rattle.machine.specs.Rows.{asked}
use Rattle.machine.proofs.Calling.{as_well}
use Rattle.machine.specs.Seen.{with_stack, world_of, codes_in, limits_in}
use Rattle.machine.proofs.container_rows.ask_value.Goals as goal

pub returns-in-Length-clause-exact : goal.returns-in-Length-clause-exact
returns-in-Length-clause-exact c = λ stack.
    as_well _ _ _ _
    (ap (λ kind. asked (codes_in c.args.executable.now) (limits_in c.args.executable.now c.args.limits.now) kind c.args.value.now (with_stack c.args.run.now.frames.top stack) c.args.run.now.frames.below (world_of c.args.run.now.world) c.args.run.now.frames.top.stack) c.in-Length.is)
    (c.answered.ensures.exact _ _ stack c.length_of-answer.ensures.does)

pub returns-in-Iterate-clause-exact : goal.returns-in-Iterate-clause-exact
returns-in-Iterate-clause-exact c = λ stack.
    as_well _ _ _ _
    (ap (λ kind. asked (codes_in c.args.executable.now) (limits_in c.args.executable.now c.args.limits.now) kind c.args.value.now (with_stack c.args.run.now.frames.top stack) c.args.run.now.frames.below (world_of c.args.run.now.world) c.args.run.now.frames.top.stack) c.in-Iterate.is)
    (c.answered_whole.ensures.exact _ _ stack c.iterated-answer.ensures.does)

pub returns-in-HasMore-clause-exact : goal.returns-in-HasMore-clause-exact
returns-in-HasMore-clause-exact c = λ stack.
    as_well _ _ _ _
    (ap (λ kind. asked (codes_in c.args.executable.now) (limits_in c.args.executable.now c.args.limits.now) kind c.args.value.now (with_stack c.args.run.now.frames.top stack) c.args.run.now.frames.below (world_of c.args.run.now.world) c.args.run.now.frames.top.stack) c.in-HasMore.is)
    (c.answered-in-HasMore.ensures.exact _ _ stack c.has_more-answer.ensures.does)

pub returns-in-Next-clause-exact : goal.returns-in-Next-clause-exact
returns-in-Next-clause-exact c = λ stack.
    as_well _ _ _ _
    (ap (λ kind. asked (codes_in c.args.executable.now) (limits_in c.args.executable.now c.args.limits.now) kind c.args.value.now (with_stack c.args.run.now.frames.top stack) c.args.run.now.frames.below (world_of c.args.run.now.world) c.args.run.now.frames.top.stack) c.in-Next.is)
    (c.answered_whole-in-Next.ensures.exact _ _ stack c.next_element-answer.ensures.does)
