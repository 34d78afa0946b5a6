-- Which texts name a field of a document, and which names a field joins.
use Rattle.std.specs.Prelude.{ℕ, ◌==◌, Bool, true, false, ◌&&◌, ◌||◌, not, List, [], ◌∷◌, Option, Some, None, option_map, codes, length, nat_le, if◌then◌else◌}
use Rattle.std.specs.List.{slice_split}
use Rattle.std.specs.Str.{bytes_eq}
use Rattle.pipe_fields.specs.declared.field.Field.{Field}
use Rattle.pipe_fields.specs.declared.field.Place.{Place}
use Rattle.pipe_fields.specs.declared.field.Place.TheVariants as place

abbrev pub is_dot : ℕ → Bool
is_dot b = b == 46

-- the names that dots join in a text, of which there is one more than there are dots
abbrev pub names_of : List ℕ → List (List ℕ)
names_of text = slice_split is_dot text

abbrev pub none_empty : List (List ℕ) → Bool
none_empty [] = true
none_empty (name ∷ names) = not (bytes_eq name []) && none_empty names

-- whether a name is that of a document's index or its id, which stand beside its source
abbrev pub is_beside : List ℕ → Bool
is_beside name = bytes_eq name (codes "_index") || bytes_eq name (codes "_id")

abbrev pub begins_beside : List (List ℕ) → Bool
begins_beside [] = false
begins_beside (name ∷ names) = is_beside name

-- the names of a field of the source: at most 100, none empty, and the first one not that of the index or the id
abbrev pub are_names : List (List ℕ) → Bool
are_names names = nat_le (length names) 100 && none_empty names && not (begins_beside names)

-- the field of the source that a text names
unfoldable pub field_of : List ℕ → Option Field
field_of text = if are_names (names_of text) then Some (record { text = text; names = names_of text }) else None

-- the place that a text names: the index, the id or a field of the source
abbrev pub place_of : List ℕ → Option Place
place_of text =
    if bytes_eq text (codes "_index") then Some place.Index
    else (if bytes_eq text (codes "_id") then Some place.Id else option_map place.Source (field_of text))
