-- Objects: what each weighs, what one operation makes of one, and which may replace which.
use Rattle.std.specs.Prelude.{Bool, true, false, ℕ, suc, ◌==◌, ◌+◌, ◌-◌, ◌*◌, ◌%◌, ◌^◌, ◌&&◌, nat_le, nat_lt, if◌then◌else◌, Option, Some, None, List, [], ◌∷◌, length, ◌++◌, slice_get, slice_set, insert, remove, take, drop}
use Rattle.pl_types.specs.declared.ty.Ty.{Ty}
use Rattle.pl_types.specs.Types.{same_types}
use Rattle.object_values.specs.declared.value.Value.{Value}
use Rattle.object_values.specs.declared.value.Value.TheVariants as v
use Rattle.object_values.specs.declared.object.Object.{Object}
use Rattle.object_values.specs.declared.object.Object.TheVariants as o
use Rattle.object_values.specs.declared.object.Owner.TheVariants.{Script}
use Rattle.object_values.specs.declared.object.Part.{Part}
use Rattle.object_values.specs.declared.object.Part.TheVariants.{Keys, Values, Entries}
use Rattle.object_values.specs.declared.object.Target.{Target}
use Rattle.object_values.specs.declared.object.Target.TheVariants as t
use Rattle.object_values.specs.Pairs.{value_of, with_pair, with_pairs, without_key}

-- the units of the message of an exception
abbrev pub message_units : Option (List ℕ) → ℕ
message_units None = 0
message_units (Some text) = length text

-- 1 and the elements
unfoldable pub weight_of : Object → ℕ
weight_of (o.List class items guard changes) = suc (length items)
weight_of (o.Map class pairs guard changes) = suc (2 * length pairs)
weight_of (o.Set class items guard changes) = suc (length items)
weight_of (o.Array elem items) = suc (length items)
weight_of (o.View map part) = 1
weight_of (o.Entry map key) = 3
weight_of (o.Iter over cursor seen last) = 1
weight_of (o.Builder units) = suc (length units)
weight_of (o.Fun iface target captures) = suc (length captures)
weight_of (o.Exc class message) = suc (message_units message)

-- a change count after one more change
abbrev pub changed : ℕ → ℕ
changed n = (n + 1) % 2 ^ 64

-- a change count after so many more changes
abbrev pub changed_by : ℕ → ℕ → ℕ
changed_by changes count = (changes + count) % 2 ^ 64

-- with an item written, in a list or an array that has the place
abbrev pub with_item : ℕ → Value → Object → Object
with_item at value (o.List class items guard changes) = o.List class (slice_set items at value) guard changes
with_item at value (o.Array elem items) = o.Array elem (slice_set items at value)
with_item at value object = object

-- with an item inserted, in a list that has the place
abbrev pub with_inserted : ℕ → Value → Object → Object
with_inserted at value (o.List class items guard changes) =
    if nat_le at (length items) then o.List class (insert items at value) guard (changed changes) else o.List class items guard changes
with_inserted at value object = object

-- with items inserted in their order, in a list that has the place; each of them is a change
abbrev pub with_all_inserted : ℕ → List Value → Object → Object
with_all_inserted at more (o.List class items guard changes) =
    if nat_le at (length items) then o.List class (take at items ++ more ++ drop at items) guard (changed_by changes (length more)) else o.List class items guard changes
with_all_inserted at more object = object

-- with an item taken out, of a list that has the place
abbrev pub with_removed : ℕ → Object → Object
with_removed at (o.List class items guard changes) =
    if nat_lt at (length items) then o.List class (remove items at) guard (changed changes) else o.List class items guard changes
with_removed at object = object

-- a change count after a put under a key that had this, and after the removal of such a key
abbrev pub put_counted : Option Value → ℕ → ℕ
put_counted None changes = changed changes
put_counted (Some before) changes = changes

abbrev pub cut_counted : Option Value → ℕ → ℕ
cut_counted None changes = changes
cut_counted (Some before) changes = changed changes

-- with a value put under a key of a map, or a key put into a set, whose values are null
abbrev pub with_put : Value → Value → Object → Object
with_put key value (o.Map class pairs guard changes) = o.Map class (with_pair pairs key value) guard (put_counted (value_of pairs key) changes)
with_put key value (o.Set class items guard changes) = o.Set class (with_pair items key v.Null) guard (put_counted (value_of items key) changes)
with_put key value object = object

-- with pairs put into a map or a set in their order; each key that is new is a change
abbrev pub with_all_put : List (Value × Value) → Object → Object
with_all_put more (o.Map class pairs guard changes) = o.Map class (with_pairs pairs more) guard (changed_by changes (length (with_pairs pairs more) - length pairs))
with_all_put more (o.Set class items guard changes) = o.Set class (with_pairs items more) guard (changed_by changes (length (with_pairs items more) - length items))
with_all_put more object = object

-- with a key taken out of a map or a set
abbrev pub with_key_cut : Value → Object → Object
with_key_cut key (o.Map class pairs guard changes) = o.Map class (without_key pairs key) guard (cut_counted (value_of pairs key) changes)
with_key_cut key (o.Set class items guard changes) = o.Set class (without_key items key) guard (cut_counted (value_of items key) changes)
with_key_cut key object = object

-- with the pair at a place taken out of a map or a set
abbrev pub pair_counted : Option (Value × Value) → ℕ → ℕ
pair_counted None changes = changes
pair_counted (Some pair) changes = changed changes

abbrev pub with_pair_cut : ℕ → Object → Object
with_pair_cut at (o.Map class pairs guard changes) = o.Map class (remove pairs at) guard (pair_counted (slice_get pairs at) changes)
with_pair_cut at (o.Set class items guard changes) = o.Set class (remove items at) guard (pair_counted (slice_get items at) changes)
with_pair_cut at object = object

-- with units written at the end of a builder
abbrev pub with_units : List ℕ → Object → Object
with_units more (o.Builder units) = o.Builder (units ++ more)
with_units more object = object

-- whether units have places from one up to another
abbrev pub has_run : ℕ → ℕ → List ℕ → Bool
has_run from to units = nat_le from to && nat_le to (length units)

-- with units in the place of those from one place up to another, in a builder that has the places
abbrev pub spliced : ℕ → ℕ → List ℕ → List ℕ → List ℕ
spliced from to more units = if has_run from to units then take from units ++ more ++ drop to units else units

abbrev pub with_spliced : ℕ → ℕ → List ℕ → Object → Object
with_spliced from to more (o.Builder units) = o.Builder (spliced from to more units)
with_spliced from to more object = object

-- how much an insertion of one item and of several, a put and units, at the end and in the place of others, add to the weight
abbrev pub insert_growth : ℕ → Object → ℕ
insert_growth at (o.List class items guard changes) = if nat_le at (length items) then 1 else 0
insert_growth at object = 0

abbrev pub insert_all_growth : ℕ → ℕ → Object → ℕ
insert_all_growth at count (o.List class items guard changes) = if nat_le at (length items) then count else 0
insert_all_growth at count object = 0

abbrev pub units_growth : ℕ → Object → ℕ
units_growth count (o.Builder units) = count
units_growth count object = 0

abbrev pub splice_growth : ℕ → ℕ → ℕ → Object → ℕ
splice_growth from to count (o.Builder units) = if has_run from to units then count - (to - from) else 0
splice_growth from to count object = 0

abbrev pub new_growth : Option Value → ℕ → ℕ
new_growth None growth = growth
new_growth (Some before) growth = 0

abbrev pub put_growth : Value → Object → ℕ
put_growth key (o.Map class pairs guard changes) = new_growth (value_of pairs key) 2
put_growth key (o.Set class items guard changes) = new_growth (value_of items key) 1
put_growth key object = 0

-- 1 for a key that is new
abbrev pub new_key : List (Value × Value) → Option Value → ℕ
new_key pairs None = 0
new_key pairs (Some key) = new_growth (value_of pairs key) 1

-- how many keys of these pairs are new, where no two of them are one
abbrev pub new_keys : List (Value × Value) → List (Value × Value) → ℕ
new_keys pairs [] = 0
new_keys pairs (pair ∷ more) = new_growth (value_of pairs pair.0) 1 + new_keys pairs more

-- how much pairs with distinct keys add to the weight
abbrev pub put_all_growth : List (Value × Value) → Object → ℕ
put_all_growth more (o.Map class pairs guard changes) = 2 * new_keys pairs more
put_all_growth more (o.Set class items guard changes) = new_keys items more
put_all_growth more object = 0

-- What an object is, whatever it holds
pub data Kind : Type 0 where
  AList : (class : ℕ) → Kind
  AMap : (class : ℕ) → Kind
  ASet : (class : ℕ) → Kind
  AnArray : (elem : Ty) → Kind
  AView : (part : Part) → Kind
  AnEntry : Kind
  AnIterator : Kind
  ABuilder : Kind
  AFunction : (iface : Option ℕ) → Kind
  AnException : (class : ℕ) → Kind

abbrev pub kind_of : Object → Kind
kind_of (o.List class items guard changes) = AList class
kind_of (o.Map class pairs guard changes) = AMap class
kind_of (o.Set class items guard changes) = ASet class
kind_of (o.Array elem items) = AnArray elem
kind_of (o.View map part) = AView part
kind_of (o.Entry map key) = AnEntry
kind_of (o.Iter over cursor seen last) = AnIterator
kind_of (o.Builder units) = ABuilder
kind_of (o.Fun iface target captures) = AFunction iface
kind_of (o.Exc class message) = AnException class

abbrev pub same_part : Part → Part → Bool
same_part Keys Keys = true
same_part Values Values = true
same_part Entries Entries = true
same_part a b = false

-- a function value that has no interface may take one
abbrev pub may_take : Option ℕ → Option ℕ → Bool
may_take None after = true
may_take (Some iface) None = false
may_take (Some iface) (Some after) = iface == after

-- whether an object of this kind may be replaced by one of that: its class, type, part or interface stays
abbrev pub may_become : Kind → Kind → Bool
may_become (AList class) (AList after) = class == after
may_become (AMap class) (AMap after) = class == after
may_become (ASet class) (ASet after) = class == after
may_become (AnArray elem) (AnArray after) = same_types elem after
may_become (AView part) (AView after) = same_part part after
may_become AnEntry AnEntry = true
may_become AnIterator AnIterator = true
may_become ABuilder ABuilder = true
may_become (AFunction iface) (AFunction after) = may_take iface after
may_become (AnException class) (AnException after) = class == after
may_become kind after = false

-- an object that may replace another does
abbrev pub renewed_by : Object → Object → Object
renewed_by after object = if may_become (kind_of object) (kind_of after) then after else object

-- the weight that a renewal adds, if it does
abbrev pub renewal_growth : Object → Object → ℕ
renewal_growth after object = if may_become (kind_of object) (kind_of after) then weight_of after - weight_of object else 0

-- a lambda of a script that has ended is gone
abbrev pub retired_target : Target → Target
retired_target (t.Lambda Script number) = t.Gone
retired_target target = target

abbrev pub retired : Object → Object
retired (o.Fun iface target captures) = o.Fun iface (retired_target target) captures
retired object = object
