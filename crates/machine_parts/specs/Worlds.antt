-- What a run changes, as the world of which the meaning of code speaks.
use Rattle.run_state.specs.World.{World}
use Rattle.machine_parts.specs.declared.world.World as held

abbrev pub world_of : held.World → World
world_of w = record { store = w.heap; ticks = w.ticks; reached = w.reached.numbers }
