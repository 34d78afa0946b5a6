-- The fields that a script sees of a document: their names and kinds, and at which place a name stands among them.
use Rattle.std.specs.Prelude.{◌≡◌, ◌≤◌, ℕ, length, ◌||◌, Bool, false, List, [], ◌∷◌, Option, map, nat_eq, if◌then◌else◌}
use Rattle.std.specs.List.{position, starts_with, AllByRecursion}
use Rattle.std.specs.Str.{bytes_eq}
use Rattle.pl_units.specs.Utf16.{units}
use Rattle.job_file.specs.declared.mapping.FieldKind.{FieldKind}

-- with a kind under a name: a name that is there keeps its place, and a new one goes last
abbrev pub with_field : List (List ℕ × FieldKind) → List ℕ → FieldKind → List (List ℕ × FieldKind)
with_field [] name kind = (name, kind) ∷ []
with_field (field ∷ fields) name kind = if bytes_eq name field.0 then (field.0, kind) ∷ fields else field ∷ with_field fields name kind

-- each of these fields in turn goes to those that are there
abbrev pub with_fields : List (List ℕ × FieldKind) → List (List ℕ × FieldKind) → List (List ℕ × FieldKind)
with_fields fields [] = fields
with_fields fields (field ∷ more) = with_fields (with_field fields field.0 field.1) more

-- the place of the field of this name, if there is one
abbrev pub place_of : List ℕ → List (List ℕ × FieldKind) → Option ℕ
place_of name fields = position (bytes_eq name) (map (λ (field : List ℕ × FieldKind). field.0) fields)

-- the names of the fields as texts of scripts
abbrev pub texts_of : List (List ℕ × FieldKind) → List (List ℕ)
texts_of fields = map (λ (field : List ℕ × FieldKind). units field.0) fields

-- whether the name of some field begins with this text
abbrev pub begins_some : List ℕ → List (List ℕ × FieldKind) → Bool
begins_some front [] = false
begins_some front (field ∷ fields) = starts_with nat_eq field.0 front || begins_some front fields

-- no name has more bytes than so many
abbrev pub NoneLonger : ℕ → List (List ℕ × FieldKind) → Type 0
NoneLonger most fields = AllByRecursion (λ (field : List ℕ × FieldKind). length field.0 ≤ most) fields

-- no field has this name
abbrev pub IsNewName : List ℕ → List (List ℕ × FieldKind) → Type 0
IsNewName name fields = AllByRecursion (λ (field : List ℕ × FieldKind). bytes_eq name field.0 ≡ false) fields

-- no name stands twice
abbrev pub HasDistinctNames : List (List ℕ × FieldKind) → Type 0
HasDistinctNames [] = Unit {0}
HasDistinctNames (field ∷ fields) = AllByRecursion (λ (other : List ℕ × FieldKind). bytes_eq other.0 field.0 ≡ false) fields × HasDistinctNames fields
