-- What may be put into a map. Into what is frozen nothing may be, and neither into the map of a document's fields; into a map with
-- guarded keys values may be put under these keys alone.
use Rattle.std.specs.Prelude.{ℕ, Bool, true, false, Option, Some, None, List, [], ◌∷◌, if◌then◌else◌}
use Rattle.std.specs.Str.{bytes_eq}
use Rattle.object_values.specs.declared.object.Guard.{Guard}
use Rattle.object_values.specs.declared.object.Guard.TheVariants as g
use Rattle.object_values.specs.declared.value.Value.{Value}
use Rattle.object_values.specs.declared.value.Value.TheVariants as v

-- whether a text is one of these
abbrev pub is_listed : List (List ℕ) → List ℕ → Bool
is_listed [] text = false
is_listed (key ∷ keys) text = if bytes_eq text key then true else is_listed keys text

-- a key that is no text is none of them
abbrev pub lists : List (List ℕ) → Value → Bool
lists keys (v.Str text) = is_listed keys text
lists keys key = false

-- whether a value may be put under a key
abbrev pub may_put : Option Guard → Value → Bool
may_put None key = true
may_put (Some g.Open) key = true
may_put (Some g.Frozen) key = false
may_put (Some (g.Keys keys)) key = lists keys key
may_put (Some g.Mapped) key = false

-- whether values may be put under all of these keys
abbrev pub may_put_all : Option Guard → List (Value × Value) → Bool
may_put_all guard [] = true
may_put_all guard (pair ∷ pairs) = if may_put guard pair.0 then may_put_all guard pairs else false

-- whether anything may be put at all
abbrev pub takes_puts : Option Guard → Bool
takes_puts None = true
takes_puts (Some g.Open) = true
takes_puts (Some g.Frozen) = false
takes_puts (Some (g.Keys keys)) = true
takes_puts (Some g.Mapped) = false

-- whether only fields that are there may be asked for
abbrev pub is_mapped : Option Guard → Bool
is_mapped None = false
is_mapped (Some g.Open) = false
is_mapped (Some g.Frozen) = false
is_mapped (Some (g.Keys keys)) = false
is_mapped (Some g.Mapped) = true
