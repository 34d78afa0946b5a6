use Rattle.std.proofs.Common.{ap, subst, ◌∙◌, rules}
use Rattle.run_state.specs.World.{not_told}
use Rattle.code_meaning.specs.Machine.{unwind}
use Rattle.machine_parts.specs.Frames.{Leaves}
use Rattle.machine.specs.Seen.{codes_in, world_of}
use Rattle.machine.proofs.Calling.{as_well}
use Rattle.machine.proofs.Landing.{goes_on_here, goes_on_below}
use Rattle.machine.proofs.throwing.unwind.Goals as goal

pub returns-in-Some-clause-exact : goal.returns-in-Some-clause-exact
returns-in-Some-clause-exact c =
    as_well _ _ _ _
    (goes_on_here (codes_in c.args.executable.now) c.frames.run.frames.top c.frames.run.frames.below c.args.id not_told (world_of c.frames.run.world) _ c.frames.invariant.0 c.in-Some.line c.in-Some.ensures)
    (c.land.ensures.exact (unwind (codes_in c.args.executable.now) c.frames.run.frames.below c.args.id not_told (world_of c.frames.run.world)))

pub frames-preserved : goal.frames-preserved
frames-preserved c = (
  goes_on_below (codes_in c.args.executable.now) c.frames.run.frames.top c.frames.run.frames.below c.args.id not_told (world_of c.frames.run.world) _ c.frames.invariant.0 c.in-None.ensures
      ∙ ap (λ fs. unwind (codes_in c.args.executable.now) fs c.args.id not_told (world_of c.frames.run.world))
      (subst (Leaves c.frames.run.frames.top c.frames.run.frames.below c.leave.new.self.top c.leave.new.self.below) c.if-not-leave.false c.leave.ensures.frames),
  search rules,
  search rules,
  search rules,
)

pub returns-then-not-leave-clause-exact : goal.returns-then-not-leave-clause-exact
returns-then-not-leave-clause-exact c =
    goes_on_below (codes_in c.args.executable.now) c.frames.run.frames.top c.frames.run.frames.below c.args.id not_told (world_of c.frames.run.world) _ c.frames.invariant.0 c.in-None.ensures
    ∙ ap (λ fs. unwind (codes_in c.args.executable.now) fs c.args.id not_told (world_of c.frames.run.world))
    (subst (Leaves c.frames.run.frames.top c.frames.run.frames.below c.leave.new.self.top c.leave.new.self.below) c.if-not-leave.true c.leave.ensures.frames).0
