-- The machine's parts as the configurations of which the meaning of code speaks.
use Rattle.std.specs.Prelude.{◌≡◌, ℤ, Bool, true, false, List, ◌∷◌, Option, Some, None}
use Rattle.object_heap.specs.declared.outcome.Which.{Which}
use Rattle.object_heap.specs.declared.outcome.Which.TheVariants as which
use Rattle.run_state.specs.World.{World, Limit, Loop, Depth, Ticks, Room, Ground, Limits, limits_over, Result, Uncaught, Limited}
use Rattle.code_meaning.specs.declared.word.Word.{Word}
use Rattle.code_meaning.specs.declared.word.Word.TheVariants.{I, J}
use Rattle.code_meaning.specs.Machine.{Config, Next, Goes, Ends, Stuck}
pub use Rattle.machine_parts.specs.Code.{Executable, codes_in, ground_in, text_of}
pub use Rattle.machine_parts.specs.Frames.{with_stack}
pub use Rattle.machine_parts.specs.Worlds.{world_of}
use Rattle.machine_parts.specs.Rooms as rooms
use Rattle.machine.specs.declared.configuration.Limits as held_limits
use Rattle.machine.specs.declared.configuration.Configuration.{Configuration}
use Rattle.machine.specs.declared.configuration.RunEnd as held_end
use Rattle.machine.specs.declared.configuration.RunEnd.TheVariants as end
use Rattle.machine.specs.declared.configuration.Step.{Step}
use Rattle.machine.specs.declared.configuration.Step.TheVariants as step

abbrev pub configuration_of : Configuration → Config
configuration_of c = record { top = c.frames.top; below = c.frames.below; world = world_of c.world }

-- what memory there is for it
abbrev pub room_of : Configuration → rooms.Room
room_of c = record { words = c.frames.words; frames = c.frames.depth; taken = c.words.room; values = c.values.room; reached = c.world.reached.room }

-- what a run is bound by and stands on
abbrev pub limits_of : held_limits.Limits → Ground → Limits
limits_of l g = limits_over l.loops l.depth g

-- the same of a run of what is ready to run
abbrev pub limits_in : Executable → held_limits.Limits → Limits
limits_in e l = limits_of l (ground_in e)

abbrev pub limit_of : Which → Limit
limit_of which.Loop = Loop
limit_of which.Depth = Depth
limit_of which.Ticks = Ticks
limit_of which.Room = Room

-- a run that has ended in a world
abbrev pub ended : held_end.RunEnd → World → Next
ended (end.Result word) w = Ends (Result word w)
ended (end.Thrown id place) w = Ends (Uncaught id place w)
ended (end.Limit limit place) w = Ends (Limited (limit_of limit) place w)
ended end.Stuck w = Stuck

abbrev pub goes : Step → Bool
goes step.Goes = true
goes step.Ends = false
goes step.Stuck = false
goes step.NoMemory = false

-- how a run has ended, if it has: as its configuration tells, or stuck
abbrev pub end_in : Step → held_end.RunEnd → Option held_end.RunEnd
end_in step.Goes told = None
end_in step.Ends told = Some told
end_in step.Stuck told = Some end.Stuck
end_in step.NoMemory told = None

-- the word that a run gives, if it gives one
abbrev pub given_word : held_end.RunEnd → Option Word
given_word (end.Result word) = word
given_word other = None

-- what comes of a step is what the machine says, unless there was no memory
abbrev pub Comes : Next → Step → Configuration → Type 0
Comes next step.Goes c = next ≡ Goes (configuration_of c)
Comes next step.Ends c = next ≡ ended c.end (world_of c.world)
Comes next step.Stuck c = next ≡ Stuck
Comes next step.NoMemory c = Unit {0}

-- ---- what lies on the top of a stack

abbrev pub int_of : List Word → Option ℤ
int_of (I a ∷ stack) = Some a
int_of stack = None

abbrev pub long_of : List Word → Option ℤ
long_of (J a ∷ stack) = Some a
long_of stack = None
