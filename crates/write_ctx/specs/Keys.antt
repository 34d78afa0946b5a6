-- The keys of a line: one row a key.
use Rattle.std.specs.Prelude.{ℕ, Bool, true, ◌&&◌, ◌||◌, List, [], ◌∷◌, Option, Some, None, codes, is_some, not, unwrap_or}
use Rattle.std.specs.Str.{bytes_eq}
use Rattle.std.specs.List.{list_any, list_all}
use Rattle.serde_json.specs.Data.{Data, null, number, string, unsigned, Members, no_members, member}
use Rattle.serde_json.specs.Find.{as_null, as_number, as_object, as_str, get}
use Rattle.job_file.specs.Jobs.{is_required}
use Rattle.job_file.specs.Keys.{Default, required, given, default_data}
use Rattle.job_file.specs.Values.{if_present}
use Rattle.write_ctx.specs.declared.keys.WriteKind.{WriteKind}
use Rattle.write_ctx.specs.declared.keys.WriteKind.TheVariants as kind
use Rattle.write_ctx.specs.declared.keys.LineKey.{LineKey}
use Rattle.write_ctx.specs.declared.keys.LineKey.TheVariants as key
use Rattle.write_ctx.specs.declared.keys.LineType.{LineType}
use Rattle.write_ctx.specs.declared.keys.LineType.TheVariants as t

-- ---- the table

abbrev pub name_of : LineKey → List ℕ
name_of key.Id = codes "_id"
name_of key.Index = codes "_index"
name_of key.Now = codes "_now"
name_of key.Routing = codes "_routing"
name_of key.Source = codes "_source"
name_of key.Version = codes "_version"

-- what the value of a key has to be, and what stands for it in a line that lacks it
pub record Row : Type 0 where
  pub type_ : LineType
  pub default : Default

abbrev pub row : LineType → Default → Row
row type_ default = record { type_ = type_; default = default }

-- an update says which document it changes; one that is to be indexed need not have an id
abbrev pub id_default : WriteKind → Default
id_default kind.Update = required
id_default kind.Ingest = given (string [])
id_default kind.Test = given (string [])

abbrev pub source_type : WriteKind → LineType
source_type kind.Update = t.Object
source_type kind.Ingest = t.Fields
source_type kind.Test = t.Fields

abbrev pub row_of : WriteKind → LineKey → Row
row_of kind key.Id = row t.Text (id_default kind)
row_of kind key.Index = row t.Text (given (string (codes "docs")))
row_of kind key.Now = row t.Number (given (number (unsigned 0)))
row_of kind key.Routing = row t.TextOrNull (given null)
row_of kind key.Source = row (source_type kind) required
row_of kind key.Version = row t.Number (given (number (unsigned 1)))

-- the keys of a kind, in byte order
abbrev pub keys_of : WriteKind → List LineKey
keys_of kind.Update = key.Id ∷ key.Index ∷ key.Now ∷ key.Routing ∷ key.Source ∷ key.Version ∷ []
keys_of kind.Ingest = key.Id ∷ key.Index ∷ key.Source ∷ []
keys_of kind.Test = key.Id ∷ key.Index ∷ key.Source ∷ []

-- ---- what the table says

abbrev pub has : List ℕ → Data → Bool
has name d = is_some (get name d)

-- the fields of a document, among which its id and its index do not stand
abbrev pub are_fields : Data → Bool
are_fields d = is_some (as_object d) && not (has (codes "_id") d) && not (has (codes "_index") d)

abbrev pub is_of_type : LineType → Data → Bool
is_of_type t.Text d = is_some (as_str d)
is_of_type t.TextOrNull d = is_some (as_str d) || is_some (as_null d)
is_of_type t.Number d = is_some (as_number d)
is_of_type t.Object d = is_some (as_object d)
is_of_type t.Fields d = are_fields d

abbrev pub is_right_value : Row → Option Data → Bool
is_right_value row None = not (is_required row.default)
is_right_value row (Some d) = is_of_type row.type_ d

-- whether a key has a value of its type, or need not be there
abbrev pub is_right : WriteKind → Data → LineKey → Bool
is_right kind line key = is_right_value (row_of kind key) (get (name_of key) line)

-- whether a name is a key of a kind
abbrev pub is_key : WriteKind → List ℕ → Bool
is_key kind name = list_any (λ key. bytes_eq name (name_of key)) (keys_of kind)

abbrev pub are_keys : WriteKind → Members → Bool
are_keys kind no_members = true
are_keys kind (member name d ms) = is_key kind name && are_keys kind ms

-- a line is an object that has no other key, and each key with a value of its type, or need not have it
abbrev pub is_line : WriteKind → Data → Bool
is_line kind line = if_present (are_keys kind) (as_object line) && list_all (is_right kind line) (keys_of kind)

-- the value at a key, or its default
abbrev pub value_at : WriteKind → Data → LineKey → Data
value_at kind line key = unwrap_or (get (name_of key) line) (default_data (row_of kind key).default)
