use Rattle.std.proofs.Common.{refl, sym, ap, ◌∙◌, subst}
use Rattle.object_heap.specs.Effects.{Answers}
use Rattle.run_state.specs.World.{Limited, Room, not_told, with_store}
use Rattle.code_meaning.specs.declared.word.Word.TheVariants.{R}
use Rattle.code_meaning.specs.Machine.{Ends}
use Rattle.machine.specs.Seen.{with_stack, world_of, codes_in, limits_in}
use Rattle.machine.proofs.Answering.{gave, threw, filled}
use Rattle.machine.proofs.Calling.{as_well}
use Rattle.machine.proofs.throwing.answered_whole.Goals as goal

pub returns-in-Value-clause-exact : goal.returns-in-Value-clause-exact
returns-in-Value-clause-exact c = λ effect old stack h.
    as_well _ _ _ _
    (gave (codes_in c.args.executable.now) (limits_in c.args.executable.now c.args.limits.now) R (with_stack c.args.run.now.frames.top stack) c.args.run.now.frames.below (with_store (world_of c.args.run.now.world) old) c.args.run.now.frames.top.stack effect
    (with_store (world_of c.args.run.now.world) old) c.in-Value.value c.args.run.now.world.heap (R c.in-Value.value) (subst (Answers effect old c.args.run.now.world.heap) c.in-Value.is h) refl)
    c.push.ensures.exact

pub returns-in-Thrown-clause-exact : goal.returns-in-Thrown-clause-exact
returns-in-Thrown-clause-exact c = λ effect old stack h.
    as_well _ _ _ _
    (threw (codes_in c.args.executable.now) (limits_in c.args.executable.now c.args.limits.now) R (with_stack c.args.run.now.frames.top stack) c.args.run.now.frames.below (with_store (world_of c.args.run.now.world) old) c.args.run.now.frames.top.stack effect
    (with_store (world_of c.args.run.now.world) old) c.in-Thrown.id c.args.run.now.world.heap (subst (Answers effect old c.args.run.now.world.heap) c.in-Thrown.is h))
    c.unwind.ensures.exact

pub returns-in-Room-clause-exact : goal.returns-in-Room-clause-exact
returns-in-Room-clause-exact c = λ effect old stack h.
    let answers = subst (Answers effect old c.args.run.now.world.heap) c.in-Room.is h in
    filled (codes_in c.args.executable.now) (limits_in c.args.executable.now c.args.limits.now) R (with_stack c.args.run.now.frames.top stack) c.args.run.now.frames.below (with_store (world_of c.args.run.now.world) old) c.args.run.now.frames.top.stack effect
    (with_store (world_of c.args.run.now.world) old) answers.0
    ∙ ap (λ store. Ends (Limited Room not_told (with_store (world_of c.args.run.now.world) store))) (sym answers.1)
