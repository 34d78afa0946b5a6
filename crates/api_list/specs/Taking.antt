-- The members that take all elements of a collection: into a new list, a new array, or a list that is there. The entries that a view
-- shows are made for it, and stand behind the objects that there were.
use Rattle.std.specs.Prelude.{◌≡◌, ℕ, ℤ, ◌-◌, ◌==◌, nat_lt, Bool, true, false, Option, Some, None, List, ◌++◌, length, take, drop, if◌then◌else◌}
use Rattle.pl_types.specs.declared.classes.TheConstants.{ARRAY_LIST}
use Rattle.pl_types.specs.declared.ty.Ty.TheVariants.{Def}
use Rattle.object_values.specs.declared.object.Guard.TheVariants as g
use Rattle.object_values.specs.declared.object.Object.{Object}
use Rattle.object_values.specs.declared.object.Object.TheVariants as o
use Rattle.object_values.specs.declared.value.Value.{Value}
use Rattle.object_values.specs.declared.value.Value.TheVariants as v
use Rattle.object_heap.specs.declared.answer.Answer.{Answer}
use Rattle.object_heap.specs.Effects.{Effect, Gives, gives_paid}
use Rattle.object_heap.specs.Objects.{changed_by, renewed_by}
use Rattle.object_heap.specs.Parts.{guard_of, items_of, open_at}
use Rattle.object_heap.specs.Store.{Store, weight, with_change}
use Rattle.member_arguments.specs.Arguments.{int_at}
use Rattle.container_parts.specs.declared.containers.Container.{Container}
use Rattle.container_parts.specs.declared.containers.Container.TheVariants as c
use Rattle.container_values.specs.Elements.{collection_at, entries_of, entry_keys_of, entry_references, taken}
use Rattle.container_outcomes.specs.declared.outcome.Outcome.{Outcome}
use Rattle.container_outcomes.specs.declared.outcome.Outcome.TheVariants as outcome
use Rattle.container_outcomes.specs.Choices.{with_one}
use Rattle.container_outcomes.specs.Guards.{is_open}
use Rattle.container_outcomes.specs.Outcomes.{Tells, WantsMemory, effect, index_error, null_error, unsupported}
use Rattle.api_list.specs.declared.told.Told.{Told}
use Rattle.api_list.specs.declared.told.Told.TheVariants.{Says, Enters}
use Rattle.api_list.specs.Arguments.{list_at}
use Rattle.api_list.specs.Lists.{place_into}

-- ---- new lists and arrays

abbrev pub list_taken : List Object → Container → Outcome
list_taken objects container = outcome.Makes (entries_of objects container) (o.List ARRAY_LIST (taken objects container) g.Open 0)

-- an array whose elements are of any type
abbrev pub array_taken : List Object → Container → Outcome
array_taken objects container = outcome.Makes (entries_of objects container) (o.Array Def (taken objects container))

-- a list is given itself
abbrev pub as_list_of : List Object → Container → Outcome
as_list_of objects (c.Items id) = outcome.Gives (v.Ref id)
as_list_of objects (c.Array id) = list_taken objects (c.Array id)
as_list_of objects (c.Keys id) = list_taken objects (c.Keys id)
as_list_of objects (c.Shown map part) = list_taken objects (c.Shown map part)

-- ---- addAll

-- a list with items inserted from a place on, each of which is a change
abbrev pub grown : ℕ → List Value → Option Object → Option Object
grown at more (Some (o.List class items guard changes)) = Some (o.List class (take at items ++ more ++ drop at items) g.Open (changed_by changes (length more)))
grown at more found = None

-- a list renewed, where there is room for what it grows by
abbrev pub renewed_freely : Store → ℕ → Object → Store
renewed_freely store list object = record {
  objects = with_change store.objects list (renewed_by object);
  room = store.room - (weight (with_change store.objects list (renewed_by object)) - weight store.objects);
}

-- Entries are made, and then a list takes the place of the one that there is: all is paid together
abbrev pub entered_as : Store → ℕ → Container → Option Object → Effect
entered_as store list container None = Gives (v.Bool false) store
entered_as store list container (Some object) = gives_paid store (with_change (store.objects ++ entries_of store.objects container) list (renewed_by object)) (v.Bool true)

abbrev pub entered : Store → ℕ → ℕ → Container → Effect
entered store list at container = entered_as store list container (grown at (entry_references store.objects container) (open_at store.objects list))

-- what a member comes to: an outcome, or entries that are made and go into a list
abbrev pub told_effect : Store → Told → Effect
told_effect store (Says told) = effect store told
told_effect store (Enters list at container) = entered store list at container

-- What the code says of it, and when it may want memory
abbrev pub SaysThat : Told → Outcome → Type 0
SaysThat (Says told) said = Tells told said
SaysThat (Enters list at container) said = ⊥

abbrev pub Comes : Told → Told → Type 0
Comes told (Says said) = SaysThat told said
Comes told (Enters list at container) = told ≡ Enters list at container

abbrev pub ToldWants : Told → Answer → Type 0
ToldWants (Says told) answer = WantsMemory told answer
ToldWants (Enters list at container) answer = Unit {0}

abbrev pub has_any : List Value → Bool
has_any values = nat_lt 0 (length values)

-- the value is whether there were any
abbrev pub all_added : List Object → ℕ → ℕ → Container → Told
all_added objects list at container =
    if length (entry_keys_of objects container) == 0
    then Says (outcome.Extends list at (taken objects container) (v.Bool (has_any (taken objects container))))
    else Enters list at container

-- a frozen list is refused before any other test, and a place before null
abbrev pub told_open : List Object → ℕ → Told → Told
told_open objects list told = if is_open (guard_of objects list) then told else Says unsupported

abbrev pub added_from : List Object → ℕ → Option Container → ℕ → Told
added_from objects list None at = Says null_error
added_from objects list (Some container) at = all_added objects list at container

abbrev pub told_place : ℕ → ℤ → Option ℕ → (ℕ → Told) → Told
told_place count at None next = Says (index_error at count)
told_place count at (Some place) next = next place

abbrev pub end_added : List Object → Option Container → ℕ → Told
end_added objects source list = told_open objects list (added_from objects list source (length (items_of objects list)))

abbrev pub place_added : List Object → Option Container → ℕ → ℤ → Told
place_added objects source list at = told_open objects list (told_place (length (items_of objects list)) at (place_into (length (items_of objects list)) at) (added_from objects list source))

abbrev pub told_one : {A : Type 0} → (A → Told) → Option A → Told
told_one f None = Says null_error
told_one f (Some a) = f a

abbrev pub told_two : {A B : Type 0} → (A → B → Told) → Option A → Option B → Told
told_two f None b = Says null_error
told_two f (Some a) None = Says null_error
told_two f (Some a) (Some b) = f a b

-- ---- the members, by their names

abbrev pub new_list_of : List Object → List Value → Outcome
new_list_of objects arguments = with_one (list_taken objects) (collection_at objects arguments 0)

abbrev pub to_array : List Object → List Value → Outcome
to_array objects arguments = with_one (array_taken objects) (collection_at objects arguments 0)

abbrev pub as_list : List Object → List Value → Outcome
as_list objects arguments = with_one (as_list_of objects) (collection_at objects arguments 0)

abbrev pub add_all : List Object → List Value → Told
add_all objects arguments = told_one (end_added objects (collection_at objects arguments 1)) (list_at objects arguments 0)

abbrev pub add_all_at : List Object → List Value → Told
add_all_at objects arguments = told_two (place_added objects (collection_at objects arguments 2)) (list_at objects arguments 0) (int_at arguments 1)
