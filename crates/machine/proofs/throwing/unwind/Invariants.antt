use Rattle.std.proofs.Common.{◌≡◌, ◌≤◌, ◌∷◌}
use Rattle.run_state.specs.World.{not_told}
use Rattle.code_meaning.specs.Machine.{depth_of, unwind}
use Rattle.machine.specs.Seen.{codes_in, room_of, world_of}
use Rattle.machine.proofs.throwing.unwind.Given as goal

-- what comes of the frames that are left is what came of all
abbrev pub invariant-frames : goal.invariant-frames
invariant-frames l =
    (unwind (codes_in l.fn.executable) (l.initial.run.frames.top ∷ l.initial.run.frames.below) l.id not_told (world_of l.initial.run.world)
    ≡ unwind (codes_in l.fn.executable) (l.run.frames.top ∷ l.run.frames.below) l.id not_told (world_of l.run.world))
    × (l.run.frames.count ≤ l.initial.run.frames.count) × (room_of l.run ≡ room_of l.initial.run)
    × (l.run.world.heap ≡ l.initial.run.world.heap)

abbrev pub decreases-frames : goal.decreases-frames
decreases-frames l = depth_of l.run.frames.below
