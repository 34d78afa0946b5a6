-- The parts of objects. What an object does not have is empty or nothing, so each question has an answer.
use Rattle.std.specs.Prelude.{◌≡◌, ℕ, Bool, true, false, Option, Some, None, List, [], ◌∷◌, length, slice_get, if◌then◌else◌}
use Rattle.pl_types.specs.declared.ty.Ty.{Ty}
use Rattle.object_values.specs.declared.value.Value.{Value}
use Rattle.object_values.specs.declared.object.Object.{Object}
use Rattle.object_values.specs.declared.object.Object.TheVariants as o
use Rattle.object_values.specs.declared.object.Guard.{Guard}
use Rattle.object_values.specs.declared.object.Guard.TheVariants as g
use Rattle.object_values.specs.declared.object.Target.{Target}

-- the items of a list or an array
abbrev pub object_items : Object → List Value
object_items (o.List class items guard changes) = items
object_items (o.Array elem items) = items
object_items object = []

-- the items of a list alone
abbrev pub list_items : Object → List Value
list_items (o.List class items guard changes) = items
list_items object = []

-- the pairs of a map, or of a set, whose values are null
abbrev pub object_map : Object → Option (List (Value × Value))
object_map (o.Map class pairs guard changes) = Some pairs
object_map (o.Set class items guard changes) = Some items
object_map object = None

abbrev pub pairs_in : Option (List (Value × Value)) → List (Value × Value)
pairs_in None = []
pairs_in (Some pairs) = pairs

abbrev pub object_pairs : Object → List (Value × Value)
object_pairs object = pairs_in (object_map object)

-- how many elements a list, an array, a map or a set has
abbrev pub object_size : Object → ℕ
object_size (o.List class items guard changes) = length items
object_size (o.Map class pairs guard changes) = length pairs
object_size (o.Set class items guard changes) = length items
object_size (o.Array elem items) = length items
object_size object = 0

-- the class of a list, a map, a set or an exception
abbrev pub object_class : Object → Option ℕ
object_class (o.List class items guard changes) = Some class
object_class (o.Map class pairs guard changes) = Some class
object_class (o.Set class items guard changes) = Some class
object_class (o.Exc class message) = Some class
object_class object = None

-- what may change a list, a map or a set
abbrev pub object_guard : Object → Option Guard
object_guard (o.List class items guard changes) = Some guard
object_guard (o.Map class pairs guard changes) = Some guard
object_guard (o.Set class items guard changes) = Some guard
object_guard object = None

-- nothing may change what this guards
abbrev pub is_closed : Option Guard → Bool
is_closed None = false
is_closed (Some g.Open) = false
is_closed (Some g.Frozen) = true
is_closed (Some (g.Keys keys)) = false
is_closed (Some g.Mapped) = true

abbrev pub is_frozen : Object → Bool
is_frozen object = is_closed (object_guard object)

-- nothing may change any of these
abbrev pub AreFrozen : List Object → Type 0
AreFrozen [] = Unit {0}
AreFrozen (object ∷ objects) = (is_frozen object ≡ true) × AreFrozen objects

-- the change count of a list, a map or a set
abbrev pub object_changes : Object → ℕ
object_changes (o.List class items guard changes) = changes
object_changes (o.Map class pairs guard changes) = changes
object_changes (o.Set class items guard changes) = changes
object_changes object = 0

-- the units of a builder
abbrev pub object_units : Object → List ℕ
object_units (o.Builder units) = units
object_units object = []

-- the type of the elements of an array
abbrev pub object_elem : Object → Option Ty
object_elem (o.Array elem items) = Some elem
object_elem object = None

-- the message of an exception
abbrev pub object_message : Object → Option (List ℕ)
object_message (o.Exc class message) = message
object_message object = None

-- the interface of a function value
abbrev pub object_iface : Object → Option ℕ
object_iface (o.Fun iface target captures) = iface
object_iface object = None

-- what a function value calls, and what it has captured
abbrev pub object_target : Object → Option Target
object_target (o.Fun iface target captures) = Some target
object_target object = None

abbrev pub object_captures : Object → List Value
object_captures (o.Fun iface target captures) = captures
object_captures object = []

-- the answer to a question about an object that may be there
abbrev pub asked : {A : Type 0} → (Object → A) → A → Option Object → A
asked question none None = none
asked question none (Some object) = question object

abbrev pub items_of : List Object → ℕ → List Value
items_of objects id = asked object_items [] (slice_get objects id)

abbrev pub list_items_of : List Object → ℕ → List Value
list_items_of objects id = asked list_items [] (slice_get objects id)

abbrev pub map_of : List Object → ℕ → Option (List (Value × Value))
map_of objects id = asked object_map None (slice_get objects id)

abbrev pub pairs_of : List Object → ℕ → List (Value × Value)
pairs_of objects id = asked object_pairs [] (slice_get objects id)

abbrev pub size_of : List Object → ℕ → ℕ
size_of objects id = asked object_size 0 (slice_get objects id)

abbrev pub class_of : List Object → ℕ → Option ℕ
class_of objects id = asked object_class None (slice_get objects id)

abbrev pub guard_of : List Object → ℕ → Option Guard
guard_of objects id = asked object_guard None (slice_get objects id)

abbrev pub frozen_of : List Object → ℕ → Bool
frozen_of objects id = asked is_frozen false (slice_get objects id)

abbrev pub changes_of : List Object → ℕ → ℕ
changes_of objects id = asked object_changes 0 (slice_get objects id)

abbrev pub units_of : List Object → ℕ → List ℕ
units_of objects id = asked object_units [] (slice_get objects id)

abbrev pub elem_of : List Object → ℕ → Option Ty
elem_of objects id = asked object_elem None (slice_get objects id)

abbrev pub message_of : List Object → ℕ → Option (List ℕ)
message_of objects id = asked object_message None (slice_get objects id)

abbrev pub iface_of : List Object → ℕ → Option ℕ
iface_of objects id = asked object_iface None (slice_get objects id)

abbrev pub target_of : List Object → ℕ → Option Target
target_of objects id = asked object_target None (slice_get objects id)

abbrev pub captures_of : List Object → ℕ → List Value
captures_of objects id = asked object_captures [] (slice_get objects id)

-- the object of this number, if it is not frozen
abbrev pub open_at : List Object → ℕ → Option Object
open_at objects id = if frozen_of objects id then None else slice_get objects id

-- what may be taken out or written over: nothing of what is frozen
abbrev pub open_items_of : List Object → ℕ → List Value
open_items_of objects id = if frozen_of objects id then [] else items_of objects id

abbrev pub open_list_items_of : List Object → ℕ → List Value
open_list_items_of objects id = if frozen_of objects id then [] else list_items_of objects id

abbrev pub open_pairs_of : List Object → ℕ → List (Value × Value)
open_pairs_of objects id = if frozen_of objects id then [] else pairs_of objects id
