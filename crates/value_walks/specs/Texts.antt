-- The text of a value: a walk over the values that it writes, at most so many levels deep and with so many visits.
use Rattle.std.specs.Prelude.{◌≡◌, ℕ, zero, suc, ◌<◌, ◌≤◌, Bool, true, false, Option, Some, None, Result, Ok, Err, List, [], ◌∷◌, ◌++◌, codes, length, slice_get}
use Rattle.std.specs.Fmt.{signed_decimal}
use Rattle.pl_units.specs.Utf16.{units}
use Rattle.pl_types.specs.Classes.{full_name, short_name}
use Rattle.pl_types.specs.declared.classes.TheConstants.{ITERATOR}
use Rattle.object_values.specs.declared.object.Object.{Object}
use Rattle.object_values.specs.declared.object.Object.TheVariants as o
use Rattle.object_values.specs.declared.object.Part.{Part}
use Rattle.object_values.specs.declared.object.Part.TheVariants as part
use Rattle.object_values.specs.declared.value.Value.{Value}
use Rattle.object_values.specs.declared.value.Value.TheVariants as v
use Rattle.object_heap.specs.Parts.{map_of, pairs_in}
use Rattle.value_walks.specs.Equality.{value_now}
use Rattle.value_walks.specs.declared.error.TextErr.{TextErr}
use Rattle.value_walks.specs.declared.error.TextErr.TheVariants.{Deep, Large, NoMemory}
use Rattle.value_walks.specs.declared.keyed.Shown.{Shown}
use Rattle.value_walks.specs.declared.keyed.Shown.TheVariants.{Keys, Values, Entries, Pairs}
use Rattle.value_walks.specs.declared.outputs.Output.{Output}
use Rattle.value_walks.specs.Outputs.{put}

-- a text, with the visits that are left; or why the walk stopped
pub data Text : Type 0 where
  Wrote : (text : List ℕ) (visits : ℕ) → Text
  TooDeep : Text
  TooLarge : Text

-- what a walk visits: a value, or an entry of a view, which is no value
pub data Node : Type 0 where
  AValue : (value : Value) → Node
  AnEntry : (key value : Value) → Node

-- a text before what a walk writes
abbrev pub before : List ℕ → Text → Text
before text (Wrote more visits) = Wrote (text ++ more) visits
before text TooDeep = TooDeep
before text TooLarge = TooLarge

-- goes on behind a text, with the visits that are left
abbrev pub follow : Text → (ℕ → Text) → Text
follow (Wrote text visits) further = before text (further visits)
follow TooDeep further = TooDeep
follow TooLarge further = TooLarge

-- how far a walk came: what its text made of an output, with the visits that are left; or why it stopped
pub data Progress : Type 0 where
  Came : (output : Output) (visits : ℕ) → Progress
  EndedDeep : Progress
  EndedLarge : Progress

-- a walk whose text is written
abbrev pub written : Output → Text → Progress
written output (Wrote text visits) = Came (put output text) visits
written output TooDeep = EndedDeep
written output TooLarge = EndedLarge

-- what the code says of a walk whose text it wrote
abbrev pub Writes : Text → Output → Output → Result ℕ TextErr → Type 0
Writes walk old new (Ok visits) = written old walk ≡ Came new visits
Writes walk old new (Err Deep) = walk ≡ TooDeep
Writes walk old new (Err Large) = walk ≡ TooLarge
Writes walk old new (Err NoMemory) = Unit {0}

-- what the code says of a walk whose text it gives
abbrev pub Gives : Text → Result (List ℕ) TextErr → Type 0
Gives walk (Ok text) = (visits : ℕ) × (walk ≡ Wrote text visits)
Gives walk (Err Deep) = walk ≡ TooDeep
Gives walk (Err Large) = walk ≡ TooLarge
Gives walk (Err NoMemory) = Unit {0}

-- a walk that does not stop, and writes more units than so many
abbrev pub IsLonger : ℕ → Text → Type 0
IsLonger room (Wrote text visits) = room < length text
IsLonger room TooDeep = ⊥
IsLonger room TooLarge = ⊥

-- What the code says of a walk whose text it gives, if there is room for it. That it stops is told first
abbrev pub GivesWithin : ℕ → Text → Result (Option (List ℕ)) TextErr → Type 0
GivesWithin room walk (Ok (Some text)) = (visits : ℕ) × (walk ≡ Wrote text visits) × (length text ≤ room)
GivesWithin room walk (Ok None) = IsLonger room walk
GivesWithin room walk (Err Deep) = walk ≡ TooDeep
GivesWithin room walk (Err Large) = walk ≡ TooLarge
GivesWithin room walk (Err NoMemory) = Unit {0}

-- what stands before the item at a place
abbrev pub separator : ℕ → List ℕ
separator zero = []
separator (suc at) = codes ", "

-- further items, each behind a comma
abbrev pub more_text : {A : Type 0} → (A → ℕ → Text) → List A → ℕ → Text
more_text text [] visits = Wrote [] visits
more_text text (item ∷ items) visits = before (codes ", ") (follow (text item visits) (more_text text items))

abbrev pub items_text : {A : Type 0} → (A → ℕ → Text) → List A → ℕ → Text
items_text text [] visits = Wrote [] visits
items_text text (item ∷ items) visits = follow (text item visits) (more_text text items)

-- a text between an opening and a closing unit
abbrev pub enclosed : List ℕ → (ℕ → Text) → List ℕ → ℕ → Text
enclosed opening text closing visits = before opening (follow (text visits) (Wrote closing))

abbrev pub pair_text : (Node → ℕ → Text) → Value → Value → ℕ → Text
pair_text text key value visits = follow (text (AValue key) visits) (λ rest. before (codes "=") (text (AValue value) rest))

-- what is shown of the pair of a key and a value: of a set or a view of keys the key, of a view of values the value, of a view of
-- entries an entry, and of a map both
abbrev pub shown_text : (Node → ℕ → Text) → Shown → Value × Value → ℕ → Text
shown_text text Keys pair visits = text (AValue pair.0) visits
shown_text text Values pair visits = text (AValue pair.1) visits
shown_text text Entries pair visits = text (AnEntry pair.0 pair.1) visits
shown_text text Pairs pair visits = pair_text text pair.0 pair.1 visits

abbrev pub shown_of : Part → Shown
shown_of part.Keys = Keys
shown_of part.Values = Values
shown_of part.Entries = Entries

abbrev pub list_text : (Node → ℕ → Text) → List Value → ℕ → Text
list_text text items visits = enclosed (codes "[") (items_text (λ value. text (AValue value)) items) (codes "]") visits

abbrev pub opening : Shown → List ℕ
opening Pairs = codes "{"
opening shown = codes "["

abbrev pub closing : Shown → List ℕ
closing Pairs = codes "}"
closing shown = codes "]"

abbrev pub keyed_text : (Node → ℕ → Text) → Shown → List (Value × Value) → ℕ → Text
keyed_text text shown pairs visits = enclosed (opening shown) (items_text (shown_text text shown) pairs) (closing shown) visits

abbrev pub interface_text : Option ℕ → List ℕ
interface_text None = codes "lambda"
interface_text (Some class) = units (short_name class)

abbrev pub message_text : Option (List ℕ) → List ℕ
message_text None = []
message_text (Some message) = codes ": " ++ message

abbrev pub exception_text : ℕ → Option (List ℕ) → List ℕ
exception_text class message = units (full_name class) ++ message_text message

-- an object that shows no other value
abbrev pub name_text : Object → ℕ → Text
name_text (o.Iter over cursor seen last) visits = Wrote (units (short_name ITERATOR)) visits
name_text (o.Builder units) visits = Wrote units visits
name_text (o.Fun iface target captures) visits = Wrote (interface_text iface) visits
name_text (o.Exc class message) visits = Wrote (exception_text class message) visits
name_text object visits = Wrote [] visits

abbrev pub object_text : (Node → ℕ → Text) → List Object → Object → ℕ → Text
object_text text objects (o.List class items guard changes) visits = list_text text items visits
object_text text objects (o.Map class pairs guard changes) visits = keyed_text text Pairs pairs visits
object_text text objects (o.Set class items guard changes) visits = keyed_text text Keys items visits
object_text text objects (o.Array elem items) visits = list_text text items visits
object_text text objects (o.View map part) visits = keyed_text text (shown_of part) (pairs_in (map_of objects map)) visits
object_text text objects (o.Entry map key) visits = pair_text text key (value_now objects map key) visits
object_text text objects object visits = name_text object visits

-- an object that is not there has no text
abbrev pub found_text : (Node → ℕ → Text) → List Object → Option Object → ℕ → Text
found_text text objects None visits = Wrote [] visits
found_text text objects (Some object) visits = object_text text objects object visits

abbrev pub flag_text : Bool → List ℕ
flag_text true = codes "true"
flag_text false = codes "false"

-- a value that is no object
abbrev pub plain_text : Value → ℕ → Text
plain_text v.Null visits = Wrote (codes "null") visits
plain_text (v.Bool flag) visits = Wrote (flag_text flag) visits
plain_text (v.Byte number) visits = Wrote (signed_decimal number) visits
plain_text (v.Short number) visits = Wrote (signed_decimal number) visits
plain_text (v.Char unit) visits = Wrote (unit ∷ []) visits
plain_text (v.Int number) visits = Wrote (signed_decimal number) visits
plain_text (v.Long number) visits = Wrote (signed_decimal number) visits
plain_text (v.Str units) visits = Wrote units visits
plain_text (v.Ref id) visits = Wrote [] visits

abbrev pub value_text : (Node → ℕ → Text) → List Object → Value → ℕ → Text
value_text text objects (v.Ref id) visits = found_text text objects (slice_get objects id) visits
value_text text objects value visits = plain_text value visits

abbrev pub node_text : (Node → ℕ → Text) → List Object → Node → ℕ → Text
node_text text objects (AValue value) visits = value_text text objects value visits
node_text text objects (AnEntry key value) visits = pair_text text key value visits

abbrev pub with_visit : (ℕ → Text) → ℕ → Text
with_visit further zero = TooLarge
with_visit further (suc visits) = further visits

-- a visit below the last level is Deep, before one that is above the budget is Large
abbrev pub node_at : ℕ → List Object → Node → ℕ → Text
node_at zero objects node visits = TooDeep
node_at (suc levels) objects node visits = with_visit (node_text (node_at levels objects) objects node) visits

-- the text of a value: at most 100 levels, and so many visits
unfoldable pub text_of : List Object → Value → ℕ → Text
text_of objects value visits = node_at 100 objects (AValue value) visits

-- the text of an entry of a view, which is no value: of its key, and of the value that this has now
unfoldable pub entry_text_of : List Object → Value → Value → ℕ → Text
entry_text_of objects key value visits = node_at 100 objects (AnEntry key value) visits
