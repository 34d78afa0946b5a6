-- Lists in natural order.
use Rattle.std.specs.Prelude.{ℕ, Bool, Option, Some, List, [], ◌∷◌, slice_get, if◌then◌else◌}
use Rattle.object_values.specs.declared.object.Guard.TheVariants as g
use Rattle.object_values.specs.declared.object.Object.{Object}
use Rattle.object_values.specs.declared.object.Object.TheVariants as o
use Rattle.object_values.specs.declared.value.Value.TheVariants as v
use Rattle.object_heap.specs.Parts.{items_of}
use Rattle.container_outcomes.specs.declared.outcome.Outcome.{Outcome}
use Rattle.container_outcomes.specs.declared.outcome.Outcome.TheVariants.{Becomes, Gives}
use Rattle.container_outcomes.specs.Guards.{where_open}
use Rattle.api_sort.specs.Ordering.{before, or_refused, refusal}

-- an element in front of the first that does not come before it, and so in front of those that are equal to it
abbrev pub inserted : {A : Type 0} → (A → A → Bool) → A → List A → List A
inserted before new [] = new ∷ []
inserted before new (value ∷ values) = if before value new then value ∷ inserted before new values else new ∷ value ∷ values

-- the elements in order, and those that are equal in the order in which they stand
abbrev pub sorted_by : {A : Type 0} → (A → A → Bool) → List A → List A
sorted_by before [] = []
sorted_by before (value ∷ values) = inserted before value (sorted_by before values)

-- a list with its items in order, which is no change of the count
abbrev pub list_sorted : ℕ → Option Object → Outcome
list_sorted id (Some (o.List class items guard changes)) = Becomes id (o.List class (sorted_by before items) g.Open changes) v.Null
list_sorted id found = Gives v.Null

-- a frozen list is refused before its items are tested
abbrev pub sorted : List Object → ℕ → Outcome
sorted objects list = where_open objects list (or_refused (refusal objects (items_of objects list)) (list_sorted list (slice_get objects list)))
