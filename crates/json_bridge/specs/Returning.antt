-- A JSON value that is bound and given back: what it comes to, and which values come back so.
use Rattle.std.specs.Prelude.{◌≡◌, ◌≤◌, ℕ, zero, suc, ◌+◌, ℤ, Bool, false, Some, Ok, List, [], ◌∷◌}
use Rattle.std.specs.Str.{IsUtf8}
use Rattle.serde_json.specs.Data.{Num, Data, null, boolean, number, string, array, object, Items, no_items, item, Members, no_members, member, put}
use Rattle.serde_json.specs.Find.{as_i64, of_integer}
use Rattle.serde_json.specs.View.{items_of}
use Rattle.object_values.specs.declared.object.Object.{Object}
use Rattle.json_bridge.specs.Binding.{bound}
use Rattle.json_bridge.specs.Giving.{is_among, given_of}

-- a value with the members of each object in byte order of their names
abbrev mutual
  pub in_order : Data → Data
  in_order null = null
  in_order (boolean b) = boolean b
  in_order (number n) = number n
  in_order (string s) = string s
  in_order (array ds) = array (items_of (items_in_order ds))
  in_order (object ms) = object (members_in_order no_members ms)

  pub items_in_order : Items → List Data
  items_in_order no_items = []
  items_in_order (item d ds) = in_order d ∷ items_in_order ds

  pub members_in_order : Members → Members → Members
  members_in_order made no_members = made
  members_in_order made (member name d ms) = members_in_order (put name (in_order d) made) ms

-- a whole number of 64 bits with a sign
abbrev pub IsWhole : Num → Type 0
IsWhole n = (z : ℤ) × (as_i64 n ≡ Some z) × (of_integer z ≡ n)

-- a value as it is read: its texts and names are UTF-8, its numbers are whole, and in no object a name stands twice
abbrev mutual
  pub IsRead : Data → Type 0
  IsRead null = Unit {0}
  IsRead (boolean b) = Unit {0}
  IsRead (number n) = IsWhole n
  IsRead (string s) = IsUtf8 s
  IsRead (array ds) = ItemsAreRead ds
  IsRead (object ms) = MembersAreRead [] ms

  pub ItemsAreRead : Items → Type 0
  ItemsAreRead no_items = Unit {0}
  ItemsAreRead (item d ds) = IsRead d × ItemsAreRead ds

  -- behind members of these names
  pub MembersAreRead : List (List ℕ) → Members → Type 0
  MembersAreRead names no_members = Unit {0}
  MembersAreRead names (member name d ms) = IsUtf8 name × (is_among name names ≡ false) × IsRead d × MembersAreRead (name ∷ names) ms

-- a value of at most so many levels: one that holds nothing has one
abbrev mutual
  pub StandsIn : ℕ → Data → Type 0
  StandsIn zero d = ⊥
  StandsIn (suc levels) null = Unit {0}
  StandsIn (suc levels) (boolean b) = Unit {0}
  StandsIn (suc levels) (number n) = Unit {0}
  StandsIn (suc levels) (string s) = Unit {0}
  StandsIn (suc levels) (array ds) = ItemsStandIn levels ds
  StandsIn (suc levels) (object ms) = MembersStandIn levels ms

  pub ItemsStandIn : ℕ → Items → Type 0
  ItemsStandIn levels no_items = Unit {0}
  ItemsStandIn levels (item d ds) = StandsIn levels d × ItemsStandIn levels ds

  pub MembersStandIn : ℕ → Members → Type 0
  MembersStandIn levels no_members = Unit {0}
  MembersStandIn levels (member name d ms) = StandsIn levels d × MembersStandIn levels ms

-- how many values there are: a value and all that it holds
abbrev mutual
  pub count_of : Data → ℕ
  count_of null = 1
  count_of (boolean b) = 1
  count_of (number n) = 1
  count_of (string s) = 1
  count_of (array ds) = 1 + items_count ds
  count_of (object ms) = 1 + members_count ms

  pub items_count : Items → ℕ
  items_count no_items = 0
  items_count (item d ds) = count_of d + items_count ds

  pub members_count : Members → ℕ
  members_count no_members = 0
  members_count (member name d ms) = count_of d + members_count ms

-- what was bound is given back with its members in order, where there are at most 100 levels and 1,000,000 values
abbrev pub GivesBack : Type 0
GivesBack = (frozen : Bool) (objects : List Object) (d : Data) → IsRead d → StandsIn 100 d → count_of d ≤ 1000000
    → given_of (bound frozen objects d).objects (bound frozen objects d).value ≡ Ok (in_order d)
