-- What a JSON value means in a heap: the value that it is bound to, and the objects that come to the heap for it.
use Rattle.std.specs.Prelude.{◌≡◌, ℕ, ℤ, pos, negsuc, int_le, ◌&&◌, Bool, true, false, Option, Some, None, List, [], ◌∷◌, ◌++◌, length, if◌then◌else◌}
use Rattle.pl_types.specs.declared.classes.TheConstants.{ARRAY_LIST, HASH_MAP}
use Rattle.pl_units.specs.Utf16.{units}
use Rattle.serde_json.specs.Data.{Num, Data, null, boolean, number, string, array, object, Items, no_items, item, Members, no_members, member}
use Rattle.serde_json.specs.Find.{as_i64}
use Rattle.object_values.specs.declared.value.Value.{Value}
use Rattle.object_values.specs.declared.value.Value.TheVariants as v
use Rattle.object_values.specs.declared.object.Object.{Object}
use Rattle.object_values.specs.declared.object.Object.TheVariants as o
use Rattle.object_values.specs.declared.object.Guard.{Guard}
use Rattle.object_values.specs.declared.object.Guard.TheVariants as g
use Rattle.object_values.specs.Pairs.{with_pair}
use Rattle.object_heap.specs.Store.{Store}

-- a value, and the objects of the heap
pub record Bound : Type 0 where
  pub value : Value
  pub objects : List Object

-- the values of the first items of an array, and the objects of the heap after them
pub record BoundItems : Type 0 where
  pub values : List Value
  pub objects : List Object

-- the pairs of the first members of an object, and the objects of the heap after them
pub record BoundMembers : Type 0 where
  pub pairs : List (Value × Value)
  pub objects : List Object

-- what may change what is bound
abbrev pub guard_of : Bool → Guard
guard_of true = g.Frozen
guard_of false = g.Open

-- a whole number is an Integer where it fits 32 bits, and else a Long
abbrev pub whole_value : ℤ → Value
whole_value z = if int_le (negsuc 2147483647) z && int_le z (pos 2147483647) then v.Int z else v.Long z

-- null stands for a number that is not bound
abbrev pub value_of_whole : Option ℤ → Value
value_of_whole None = v.Null
value_of_whole (Some z) = whole_value z

abbrev pub bound_number : Num → Value
bound_number n = value_of_whole (as_i64 n)

-- a new object stands last in the heap, and its number is the count of those before it
abbrev pub placed : List Object → Object → Bound
placed objects next = record { value = v.Ref (length objects); objects = objects ++ next ∷ [] }

-- a list and a map stand after what they hold, and no change of them is counted yet
abbrev pub list_placed : Bool → BoundItems → Bound
list_placed frozen items = placed items.objects (o.List ARRAY_LIST items.values (guard_of frozen) 0)

abbrev pub map_placed : Bool → BoundMembers → Bound
map_placed frozen members = placed members.objects (o.Map HASH_MAP members.pairs (guard_of frozen) 0)

abbrev pub with_next_item : BoundItems → Bound → BoundItems
with_next_item items next = record { values = items.values ++ next.value ∷ []; objects = next.objects }

-- a name is a text, and its value goes under it
abbrev pub with_next_member : BoundMembers → List ℕ → Bound → BoundMembers
with_next_member members name next = record { pairs = with_pair members.pairs (v.Str (units name)) next.value; objects = next.objects }

-- what a JSON value is bound to in a heap with these objects; items and members are bound from the first to the last, and
-- the members of an object stand in byte order of their names
abbrev mutual
  pub bound : Bool → List Object → Data → Bound
  bound frozen objects null = record { value = v.Null; objects = objects }
  bound frozen objects (boolean b) = record { value = v.Bool b; objects = objects }
  bound frozen objects (number n) = record { value = bound_number n; objects = objects }
  bound frozen objects (string s) = record { value = v.Str (units s); objects = objects }
  bound frozen objects (array ds) = list_placed frozen (bound_items frozen (record { values = []; objects = objects }) ds)
  bound frozen objects (object ms) = map_placed frozen (bound_members frozen (record { pairs = []; objects = objects }) ms)

  pub bound_items : Bool → BoundItems → Items → BoundItems
  bound_items frozen items no_items = items
  bound_items frozen items (item d ds) = bound_items frozen (with_next_item items (bound frozen items.objects d)) ds

  pub bound_members : Bool → BoundMembers → Members → BoundMembers
  bound_members frozen members no_members = members
  bound_members frozen members (member name d ms) = bound_members frozen (with_next_member members name (bound frozen members.objects d)) ms

abbrev pub bound_array : Bool → List Object → Items → Bound
bound_array frozen objects ds = bound frozen objects (array ds)

abbrev pub bound_object : Bool → List Object → Members → Bound
bound_object frozen objects ms = bound frozen objects (object ms)

-- the objects that were there come first, and the room is what it was
pub record Grown (old new : Store) : Type 0 where
  pub more : List Object
  pub objects : new.objects ≡ old.objects ++ more
  pub room : new.room ≡ old.room
