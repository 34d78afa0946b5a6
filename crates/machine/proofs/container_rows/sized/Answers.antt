use Rattle.std.proofs.Common.{ap}
use Rattle.run_state.specs.World.{acts_in}
use Rattle.def_access.specs.Making.{array_filled, array_made}
use Rattle.code_meaning.specs.declared.word.Word.TheVariants.{R}
use Rattle.code_meaning.specs.Machine.{on_ints, on_outcome, on_values, sized_act}
use Rattle.code_meaning.specs.Members.{ints_in, taken_alike}
use Rattle.machine.proofs.Calling.{as_well}
use Rattle.machine.proofs.Taking.{from_words}
use Rattle.machine.specs.Seen.{world_of, codes_in, limits_in}
use Rattle.machine.proofs.container_rows.sized.Goals as goal

pub returns-in-Filled-clause-exact : goal.returns-in-Filled-clause-exact
returns-in-Filled-clause-exact c =
    as_well _ _ _ _
    (ap (λ kind. sized_act (codes_in c.args.executable.now) (limits_in c.args.executable.now c.args.limits.now) kind c.args.of.now c.args.count c.args.run.now.frames.top c.args.run.now.frames.below (world_of c.args.run.now.world)) c.in-Filled.is)
    (from_words c.args.count c.args.run.now.frames c.parts_off.new.frames c.parts_off.new.taken.items (rw c.in-Ok-true.field-0-test at c.in-Ok-true.ensures.words) c.in-Ok-true.ensures.top c.in-Ok-true.ensures.below
    (λ words f below stack. on_values (taken_alike c.args.of.now words) (λ items. on_outcome (codes_in c.args.executable.now) (limits_in c.args.executable.now c.args.limits.now) (acts_in (world_of c.args.run.now.world) (array_filled c.args.run.now.world.heap c.args.of.now items)) R f below (world_of c.args.run.now.world) stack)) _ _
    (c.fill_words.ensures.exact c.args.run.now.frames.top.stack))

pub returns-in-Empty-clause-exact : goal.returns-in-Empty-clause-exact
returns-in-Empty-clause-exact c =
    as_well _ _ _ _
    (ap (λ kind. sized_act (codes_in c.args.executable.now) (limits_in c.args.executable.now c.args.limits.now) kind c.args.of.now c.args.count c.args.run.now.frames.top c.args.run.now.frames.below (world_of c.args.run.now.world)) c.in-Empty.is)
    (from_words c.args.count c.args.run.now.frames c.parts_off.new.frames c.parts_off.new.taken.items (rw c.in-Ok-true.field-0-test at c.in-Ok-true.ensures.words) c.in-Ok-true.ensures.top c.in-Ok-true.ensures.below
    (λ words f below stack. on_ints (ints_in words) (λ items. on_outcome (codes_in c.args.executable.now) (limits_in c.args.executable.now c.args.limits.now) (acts_in (world_of c.args.run.now.world) (array_made c.args.run.now.world.heap c.args.of.now items)) R f below (world_of c.args.run.now.world) stack)) _ _
    (c.make_words.ensures.exact c.args.run.now.frames.top.stack))
