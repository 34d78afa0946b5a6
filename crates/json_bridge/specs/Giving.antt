-- The JSON form of a value of a heap: a walk from the front, parents before what they hold, which ends at its first fault.
use Rattle.std.specs.Prelude.{◌≡◌, ℕ, zero, suc, ◌&&◌, Bool, true, false, not, Option, Some, None, Result, Ok, Err, List, [], ◌∷◌, ◌++◌, is_some, slice_get, if◌then◌else◌}
use Rattle.std.specs.Str.{bytes_eq}
use Rattle.pl_units.specs.Utf16.{bytes}
use Rattle.serde_json.specs.Data.{Data, null, boolean, number, string, array, object, Members, no_members, put}
use Rattle.serde_json.specs.Find.{get_member, of_integer}
use Rattle.serde_json.specs.View.{items_of}
use Rattle.object_values.specs.declared.value.Value.{Value}
use Rattle.object_values.specs.declared.value.Value.TheVariants as v
use Rattle.object_values.specs.declared.object.Object.{Object}
use Rattle.object_values.specs.declared.object.Object.TheVariants as o
use Rattle.object_values.specs.declared.object.Part.{Part}
use Rattle.object_values.specs.declared.object.Part.TheVariants as part
use Rattle.object_heap.specs.Parts.{map_of, pairs_in}
use Rattle.json_bridge.specs.declared.error.GiveErr.{GiveErr}
use Rattle.json_bridge.specs.declared.error.GiveErr.TheVariants as e

-- why a value has no JSON form: a map has a key that is no text, or two keys of one UTF-8 form; a node stands deeper than 100, the
-- value itself being at depth 1; there are more than 1,000,000 nodes, keys of maps being none; a node has no form
pub data Fault : Type 0 where
  Key : Fault
  Depth : Fault
  Size : Fault
  Kind : Fault

-- what a walk makes, and how many nodes it may still meet; or the fault at which it ends
pub data Walk (A : Type 0) : Type 0 where
  Makes : (made : A) (nodes : ℕ) → Walk A
  Ends : (fault : Fault) → Walk A

-- goes on with what was made
abbrev pub follow : {A B : Type 0} → Walk A → (A → ℕ → Walk B) → Walk B
follow (Makes made nodes) further = further made nodes
follow (Ends fault) further = Ends fault

-- a node is a value, or an entry that a view shows, which is no value
pub data Node : Type 0 where
  AValue : (value : Value) → Node
  AnEntry : Node

-- ---- items

-- the forms of items, behind those that are made
abbrev pub items_given : {A : Type 0} → (A → ℕ → Walk Data) → List Data → List A → ℕ → Walk (List Data)
items_given give made [] nodes = Makes made nodes
items_given give made (item ∷ items) nodes = follow (give item nodes) (λ d rest. items_given give (made ++ d ∷ []) items rest)

abbrev pub array_given : {A : Type 0} → (A → ℕ → Walk Data) → List A → ℕ → Walk Data
array_given give items nodes = follow (items_given give [] items nodes) (λ ds. Makes (array (items_of ds)))

-- what is shown of a pair of a key and a value: of a set and a view of keys the key, of a view of values the value, and of a view of
-- entries an entry
abbrev pub shown_of : Part → Value × Value → Node
shown_of part.Keys pair = AValue pair.0
shown_of part.Values pair = AValue pair.1
shown_of part.Entries pair = AnEntry

-- ---- members

-- the UTF-8 form of a key; what is no text has none
abbrev pub name_of : Value → List ℕ
name_of (v.Str text) = bytes text
name_of key = []

abbrev pub is_among : List ℕ → List (List ℕ) → Bool
is_among name [] = false
is_among name (other ∷ others) = if bytes_eq name other then true else is_among name others

-- whether a key is a text, and its UTF-8 form none of these
abbrev pub is_new_name : List (List ℕ) → Value → Bool
is_new_name names (v.Str text) = not (is_among (bytes text) names)
is_new_name names key = false

-- whether each key is a text, and its UTF-8 form none of these and of no key before it
abbrev pub are_new_names : List (List ℕ) → List (Value × Value) → Bool
are_new_names names [] = true
are_new_names names (pair ∷ pairs) = is_new_name names pair.0 && are_new_names (name_of pair.0 ∷ names) pairs

-- the forms of the values, in the order of the pairs, each put under its name into the members that are made
abbrev pub members_given : (Value → ℕ → Walk Data) → Members → List (Value × Value) → ℕ → Walk Members
members_given give made [] nodes = Makes made nodes
members_given give made (pair ∷ pairs) nodes = follow (give pair.1 nodes) (λ d rest. members_given give (put (name_of pair.0) d made) pairs rest)

abbrev pub object_given : (Value → ℕ → Walk Data) → List (Value × Value) → ℕ → Walk Data
object_given give pairs nodes = follow (members_given give no_members pairs nodes) (λ ms. Makes (object ms))

-- all keys are tried before the first value
abbrev pub map_given : (Value → ℕ → Walk Data) → List (Value × Value) → ℕ → Walk Data
map_given give pairs nodes = if are_new_names [] pairs then object_given give pairs nodes else Ends Key

-- ---- values

-- a whole number is a number; a char and a text are strings of UTF-8, with U+FFFD for an unpaired surrogate
abbrev pub plain_given : Value → ℕ → Walk Data
plain_given v.Null nodes = Makes null nodes
plain_given (v.Bool flag) nodes = Makes (boolean flag) nodes
plain_given (v.Byte a) nodes = Makes (number (of_integer a)) nodes
plain_given (v.Short a) nodes = Makes (number (of_integer a)) nodes
plain_given (v.Char unit) nodes = Makes (string (bytes (unit ∷ []))) nodes
plain_given (v.Int a) nodes = Makes (number (of_integer a)) nodes
plain_given (v.Long a) nodes = Makes (number (of_integer a)) nodes
plain_given (v.Str text) nodes = Makes (string (bytes text)) nodes
plain_given (v.Ref id) nodes = Ends Kind

-- lists, arrays, sets and views are arrays, and maps objects; an entry, an iterator, a builder, a function value and an exception
-- have no form
abbrev pub held_given : (Node → ℕ → Walk Data) → List Object → Object → ℕ → Walk Data
held_given give objects (o.List class items guard changes) nodes = array_given (λ value. give (AValue value)) items nodes
held_given give objects (o.Map class pairs guard changes) nodes = map_given (λ value. give (AValue value)) pairs nodes
held_given give objects (o.Set class items guard changes) nodes = array_given (λ pair. give (shown_of part.Keys pair)) items nodes
held_given give objects (o.Array elem items) nodes = array_given (λ value. give (AValue value)) items nodes
held_given give objects (o.View map part) nodes = array_given (λ pair. give (shown_of part pair)) (pairs_in (map_of objects map)) nodes
held_given give objects other nodes = Ends Kind

-- an object that is not there has no form
abbrev pub found_given : (Node → ℕ → Walk Data) → List Object → Option Object → ℕ → Walk Data
found_given give objects None nodes = Ends Kind
found_given give objects (Some held) nodes = held_given give objects held nodes

abbrev pub value_given : (Node → ℕ → Walk Data) → List Object → Value → ℕ → Walk Data
value_given give objects (v.Ref id) nodes = found_given give objects (slice_get objects id) nodes
value_given give objects value nodes = plain_given value nodes

abbrev pub node_given : (Node → ℕ → Walk Data) → List Object → Node → ℕ → Walk Data
node_given give objects (AValue value) nodes = value_given give objects value nodes
node_given give objects AnEntry nodes = Ends Kind

abbrev pub with_node : (ℕ → Walk Data) → ℕ → Walk Data
with_node further zero = Ends Size
with_node further (suc nodes) = further nodes

-- a node at so many levels, with so many nodes from here on: its depth comes before the count of nodes, and this before its kind
abbrev pub node_at : ℕ → List Object → Node → ℕ → Walk Data
node_at zero objects node nodes = Ends Depth
node_at (suc levels) objects node nodes = with_node (node_given (node_at levels objects) objects node) nodes

abbrev pub answer_of : Walk Data → Result Data Fault
answer_of (Makes d nodes) = Ok d
answer_of (Ends fault) = Err fault

-- the JSON form of a value over these objects, or its first fault: at most 100 levels, and 1,000,000 nodes
unfoldable pub given_of : List Object → Value → Result Data Fault
given_of objects value = answer_of (node_at 100 objects (AValue value) 1000000)

-- ---- what the code answers

-- an error tells the fault at which a walk ends; want of memory tells nothing
abbrev pub TellsEnd : {A : Type 0} → Walk A → GiveErr → Type 0
TellsEnd walk e.Key = walk ≡ Ends Key
TellsEnd walk e.Depth = walk ≡ Ends Depth
TellsEnd walk e.Size = walk ≡ Ends Size
TellsEnd walk e.Kind = walk ≡ Ends Kind
TellsEnd walk e.NoMemory = Unit {0}

-- an error tells the fault of a value; want of memory tells nothing
abbrev pub TellsFault : Result Data Fault → GiveErr → Type 0
TellsFault given e.Key = given ≡ Err Key
TellsFault given e.Depth = given ≡ Err Depth
TellsFault given e.Size = given ≡ Err Size
TellsFault given e.Kind = given ≡ Err Kind
TellsFault given e.NoMemory = Unit {0}

-- whether the names of these members are those
abbrev pub HasNames : Members → List (List ℕ) → Type 0
HasNames ms names = (name : List ℕ) → is_some (get_member name ms) ≡ is_among name names
