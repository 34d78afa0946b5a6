-- Operations on the heap that take no memory.
use Rattle.object_heap.specs.declared.answer.Answer.{Answer}
use Rattle.object_heap.specs.declared.answer.Answer.TheVariants as a
use Rattle.def_access.specs.Types.{MakesNothing, Spares}
use Rattle.number_ops.specs.declared.outcome.Outcome.{Outcome}
use Rattle.number_ops.specs.Outcomes.{NeedsMemory, WantsMemory}
use Rattle.std.proofs.Common.{◌≡◌}
use Rattle.object_heap.specs.Effects.{Effect, Answers}
use Rattle.object_heap.specs.Store.{Store}
use Rattle.machine.specs.Memory.{HasMemory, IsAnswered, OnlyToMake}
use Rattle.machine.specs.declared.configuration.Step.{Step}
use Rattle.machine.specs.declared.configuration.Step.TheVariants as step

pub is_answered : (told : Outcome) (answer : Answer) → WantsMemory told answer → (NeedsMemory told → ⊥) → IsAnswered answer
is_answered told (a.Value value) h none = tt
is_answered told (a.Thrown id) h none = tt
is_answered told a.Room h none = tt
is_answered told a.NoMemory h none = none h

pub is_spared : (store : Store) (effect : Effect) (answer : Answer) → Spares store effect answer → MakesNothing store effect → IsAnswered answer
is_spared store effect (a.Value value) h none = tt
is_spared store effect (a.Thrown id) h none = tt
is_spared store effect a.Room h none = tt
is_spared store effect a.NoMemory h none = h none

has_memory : (old new : Store) (said : Step) → HasMemory said → OnlyToMake old new said
has_memory old new step.Goes h = tt
has_memory old new step.Ends h = tt
has_memory old new step.Stuck h = tt
has_memory old new step.NoMemory h = absurd h

pub nothing_made : (old new : Store) (said : Step) → new ≡ old → OnlyToMake old new said
nothing_made old new step.Goes e = tt
nothing_made old new step.Ends e = tt
nothing_made old new step.Stuck e = tt
nothing_made old new step.NoMemory e = e

-- what was made goes on, and what was not leaves all as it was
pub only_to_make : (effect : Effect) (old new : Store) (answer : Answer) (said : Step) → Answers effect old new answer → (IsAnswered answer → HasMemory said) → OnlyToMake old new said
only_to_make effect old new (a.Value value) said h goes = has_memory old new said (goes tt)
only_to_make effect old new (a.Thrown id) said h goes = has_memory old new said (goes tt)
only_to_make effect old new a.Room said h goes = has_memory old new said (goes tt)
only_to_make effect old new a.NoMemory said h goes = nothing_made old new said h
