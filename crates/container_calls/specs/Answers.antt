-- What a call answers.
use Rattle.std.specs.Prelude.{ℕ, List}
use Rattle.object_values.specs.declared.object.Object.{Object}
use Rattle.object_values.specs.declared.value.Value.{Value}
use Rattle.object_heap.specs.declared.answer.Answer.{Answer}
use Rattle.object_heap.specs.declared.answer.Answer.TheVariants as a
use Rattle.api_map.specs.Outcomes as container_outcomes
use Rattle.api_iter.specs.Members as iterables
use Rattle.api_list.specs.Members as lists
use Rattle.api_list.specs.Taking.{ToldWants}
use Rattle.api_map.specs.Members as maps
use Rattle.container_calls.specs.declared.family.Family.{Family}
use Rattle.container_calls.specs.declared.family.Family.TheVariants.{Iterables, Lists, Maps}
use Rattle.container_calls.specs.Members.{family_of, is_on_list}

-- A member takes memory where its function may want it; what it comes to does not go by the room that is left, but for that there is
-- none
abbrev pub FamilyNeeds : Family → List Object → ℕ → List Value → Type 0
FamilyNeeds Iterables objects number arguments = iterables.WantsMemory (iterables.numbered number) (iterables.does_numbered (record { objects = objects; room = 0 }) number arguments) a.NoMemory
FamilyNeeds Lists objects number arguments = ToldWants (lists.comes_to objects number arguments) a.NoMemory
FamilyNeeds Maps objects number arguments = container_outcomes.NeedsMemory (maps.does_numbered objects number arguments)

abbrev pub NeedsMemory : List Object → ℕ → List Value → Type 0
NeedsMemory objects number arguments = FamilyNeeds (family_of (is_on_list objects arguments) number) objects number arguments

-- a call answers want of memory only there
abbrev pub FamilyWants : Family → List Object → ℕ → List Value → Answer → Type 0
FamilyWants family objects number arguments a.NoMemory = FamilyNeeds family objects number arguments
FamilyWants family objects number arguments answer = Unit {0}

abbrev pub WantsMemory : List Object → ℕ → List Value → Answer → Type 0
WantsMemory objects number arguments answer = FamilyWants (family_of (is_on_list objects arguments) number) objects number arguments answer
