-- A mapping: which fields of a document a script sees, and of which kind each is.
use Rattle.std.specs.Prelude.{ℕ, ◌+◌, Bool, ◌||◌, List, [], ◌∷◌, Option, Some, None, codes, is_some, not, unwrap_or, nat_lt, option_and_then, if◌then◌else◌}
use Rattle.std.specs.Ordering.{nat_cmp, match_ordering}
use Rattle.std.specs.Cmp.Lexicographic.{slice_cmp}
use Rattle.std.specs.Str.{bytes_eq}
use Rattle.serde_json.specs.Data.{Data, Members, no_members, member}
use Rattle.serde_json.specs.Find.{as_str, as_object}
use Rattle.job_file.specs.declared.mapping.FieldKind.{FieldKind}
use Rattle.job_file.specs.declared.mapping.FieldKind.TheVariants as f
use Rattle.job_file.specs.Contexts.{named}

-- ---- names in an object

-- the members of an object
abbrev pub members_of : Data → Members
members_of d = unwrap_or (as_object d) no_members

-- the names of the members that pass a test of name and value
abbrev pub names_where : (List ℕ → Data → Bool) → Members → List (List ℕ)
names_where test no_members = []
names_where test (member name d ms) = if test name d then name ∷ names_where test ms else names_where test ms

abbrev pub lesser : List ℕ → Option (List ℕ) → List ℕ
lesser name None = name
lesser name (Some other) = match_ordering (slice_cmp nat_cmp name other) name name other

-- the least name by bytes
abbrev pub least : List (List ℕ) → Option (List ℕ)
least [] = None
least (name ∷ names) = Some (lesser name (least names))

abbrev pub members_len : Members → ℕ
members_len no_members = 0
members_len (member name d ms) = members_len ms + 1

-- ---- mappings

abbrev pub kind_names : List (List ℕ × FieldKind)
kind_names = (codes "long", f.Long) ∷ (codes "keyword", f.Keyword) ∷ (codes "boolean", f.Boolean) ∷ []

abbrev pub kind_of : Data → Option FieldKind
kind_of d = option_and_then (λ name. named name kind_names) (as_str d)

-- A field is bad where its name is empty or its kind is none of the three.
abbrev pub is_bad : List ℕ → Data → Bool
is_bad name d = bytes_eq name [] || not (is_some (kind_of d))

-- The field for which a mapping is refused: the least bad one, or the empty name where there are more than 1,000.
abbrev pub bad_field : Members → Option (List ℕ)
bad_field ms = if nat_lt 1000 (members_len ms) then Some [] else least (names_where is_bad ms)

abbrev pub add_field : List ℕ → Option FieldKind → List (List ℕ × FieldKind) → List (List ℕ × FieldKind)
add_field name None rest = rest
add_field name (Some kind) rest = (name, kind) ∷ rest

-- the fields with their kinds, in the order of the names
abbrev pub fields_of : Members → List (List ℕ × FieldKind)
fields_of no_members = []
fields_of (member name d ms) = add_field name (kind_of d) (fields_of ms)
