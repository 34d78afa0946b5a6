-- Ways of names through a JSON value: what stands at one, and the value with something put there or taken out. A way goes
-- through objects alone; an array, a text or null is no part of it.
use Rattle.std.specs.Prelude.{ℕ, ◌+◌, Bool, false, ◌||◌, not, List, [], ◌∷◌, Option, None, length, is_some, unwrap_or, option_and_then, nat_lt, if◌then◌else◌}
use Rattle.std.specs.Str.{bytes_eq}
use Rattle.serde_json.specs.Data.{Data, object, Members, no_members, member, put, depth}
use Rattle.serde_json.specs.Find.{get, as_object}

abbrev pub members_of : Data → Members
members_of d = unwrap_or (as_object d) no_members

-- what stands at the end of a way
abbrev pub find : List (List ℕ) → Data → Option Data
find [] d = None
find (name ∷ []) d = get name d
find (name ∷ next ∷ names) d = option_and_then (find (next ∷ names)) (get name d)

-- what stands at a name, or the object that is made there
abbrev pub below : List ℕ → Data → Data
below name d = unwrap_or (get name d) (object no_members)

-- whether the way to a place meets a value that is no object; what stands at the place itself does not matter
abbrev pub is_blocked : List (List ℕ) → Data → Bool
is_blocked [] d = false
is_blocked (name ∷ names) d = not (is_some (as_object d)) || is_blocked names (below name d)

-- with a value at the end of a way, and objects made on the way
abbrev pub put_at : List (List ℕ) → Data → Data → Data
put_at [] v d = v
put_at (name ∷ names) v d = object (put name (put_at names v (below name d)) (members_of d))

-- the members but those of a name, of which an object has at most one
abbrev pub without_member : List ℕ → Members → Members
without_member name no_members = no_members
without_member name (member other d ms) = if bytes_eq name other then without_member name ms else member other d (without_member name ms)

-- without what stands at the end of a way
abbrev pub without : List (List ℕ) → Data → Data
without [] d = d
without (name ∷ []) d = object (without_member name (members_of d))
without (name ∷ next ∷ names) d = object (put name (without (next ∷ names) (below name d)) (members_of d))

-- Whether a value would stand too deep at the end of a way. The outermost object is at depth 1, so the object that is to
-- hold the value is as deep as the way is long, and at 120 what holds others ends. The objects that are made on the way
-- are no deeper than that object, and a way has at most 100 names.
abbrev pub is_too_deep : List (List ℕ) → Data → Bool
is_too_deep names v = nat_lt 120 (length names + depth v)
