-- What a run that began with some objects leaves of them, where its start fits.
use Rattle.std.specs.Prelude.{List, Option, Some, None}
use Rattle.object_values.specs.declared.object.Object.{Object}
use Rattle.object_heap.specs.Fits.{Rules, ThrownFits}
use Rattle.run_state.specs.World.{World}
use Rattle.machine_paths.specs.Worlds.{WorldFits, count_in}
use Rattle.code_meaning.specs.Machine.{Next}
use Rattle.machine_paths.specs.Moments.{ResultFits, NextFits}
use Rattle.machine.specs.declared.activation.RunOutcome.{RunOutcome}
use Rattle.machine.specs.declared.configuration.RunEnd.{RunEnd}
use Rattle.machine.specs.declared.configuration.RunEnd.TheVariants as end

-- a moment of the run; nothing after want of memory
abbrev pub NowFits : Rules → List Object → Option Next → Type 0
NowFits rules before None = Unit {0}
NowFits rules before (Some next) = NextFits rules before next

-- the world that is left, however many ticks are left in it
abbrev pub world_left : RunOutcome → World
world_left o = record { store = o.heap; ticks = 0; reached = o.reached }

-- Its objects fit, those of the start are still there, each of its kind and of its class, and the end is a word or an exception of it.
-- Of a run that is stuck nothing is said.
abbrev pub EndFits : Rules → List Object → World → RunEnd → Type 0
EndFits rules before w (end.Result result) = WorldFits rules before w × ResultFits (count_in w) result
EndFits rules before w (end.Thrown id place) = WorldFits rules before w × ThrownFits w.store.objects id
EndFits rules before w (end.Limit limit place) = WorldFits rules before w
EndFits rules before w end.Stuck = Unit {0}

abbrev pub LeavesFit : Rules → List Object → RunOutcome → Type 0
LeavesFit rules before o = EndFits rules before (world_left o) o.end
