use Rattle.std.proofs.Common.{ap, sym}
use Rattle.run_state.specs.World.{acts_in}
use Rattle.def_access.specs.Elements.{element_written}
use Rattle.code_meaning.specs.Machine.{on_done, on_value}
use Rattle.code_meaning.specs.Members.{taken}
use Rattle.machine.specs.Rows.{on_place}
use Rattle.machine.proofs.Calling.{as_well}
use Rattle.machine.proofs.Rows.{from_top}
use Rattle.machine.specs.Seen.{with_stack, world_of, codes_in, limits_in}
use Rattle.machine.proofs.container_rows.store_element.Goals as goal

pub returns-in-Some-taken-clause-exact : goal.returns-in-Some-taken-clause-exact
returns-in-Some-taken-clause-exact c =
    from_top c.args.run.now.frames c.pop.new.self c.in-Some.word c.in-Some.ensures.stack c.pop.ensures.top c.pop.ensures.below
    (λ third f below more. on_value (taken c.args.of.now third) (λ value. on_place more (λ at array stack. on_done (codes_in c.args.executable.now) (limits_in c.args.executable.now c.args.limits.now) (acts_in (world_of c.args.run.now.world) (element_written c.args.run.now.world.heap c.args.of.now array at value)) f below (world_of c.args.run.now.world) stack))) _ _
    (as_well _ _ _ _
    (ap (λ o. on_value o (λ value. on_place c.pop.new.self.top.stack (λ at array stack. on_done (codes_in c.args.executable.now) (limits_in c.args.executable.now c.args.limits.now) (acts_in (world_of c.args.run.now.world) (element_written c.args.run.now.world.heap c.args.of.now array at value)) (with_stack c.pop.new.self.top c.args.run.now.frames.top.stack) c.pop.new.self.below (world_of c.args.run.now.world) stack))) (sym c.in-Some-taken.ensures))
    (c.store_value.ensures.exact c.args.run.now.frames.top.stack))
