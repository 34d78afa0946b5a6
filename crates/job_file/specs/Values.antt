-- Which values have the type of a key.
use Rattle.std.specs.Prelude.{ℕ, Bool, true, false, ◌&&◌, List, [], ◌∷◌, Option, Some, None, codes, is_some}
use Rattle.std.specs.Str.{bytes_eq}
use Rattle.std.specs.List.{list_any}
use Rattle.serde_json.specs.Data.{Data, null, boolean, number, string, array, object, Items, no_items, item, Members, no_members, member}
use Rattle.serde_json.specs.Find.{as_bool, as_str, as_array, as_object, as_i64}
use Rattle.job_file.specs.declared.keys.ValueType.{ValueType}
use Rattle.job_file.specs.declared.keys.ValueType.TheVariants as t
use Rattle.job_file.specs.Limits.{inside, row_of_limit, whole_of}

-- Every number is a whole one of 64 bits with a sign. One with a fraction or an exponent is none, and neither is `-0`.
abbrev mutual
  pub has_whole_numbers : Data → Bool
  has_whole_numbers null = true
  has_whole_numbers (boolean b) = true
  has_whole_numbers (number n) = is_some (as_i64 n)
  has_whole_numbers (string s) = true
  has_whole_numbers (array ds) = items_have_whole_numbers ds
  has_whole_numbers (object ms) = members_have_whole_numbers ms

  pub items_have_whole_numbers : Items → Bool
  items_have_whole_numbers no_items = true
  items_have_whole_numbers (item d ds) = has_whole_numbers d && items_have_whole_numbers ds

  pub members_have_whole_numbers : Members → Bool
  members_have_whole_numbers no_members = true
  members_have_whole_numbers (member name d ms) = has_whole_numbers d && members_have_whole_numbers ms

abbrev pub is_whole : Data → Bool
is_whole d = is_some (whole_of d)

abbrev pub are_whole : Items → Bool
are_whole no_items = true
are_whole (item d ds) = is_whole d && are_whole ds

-- whether a name is that of a limit inside `limits`
abbrev pub names_limit : List ℕ → Bool
names_limit name = list_any (λ limit. bytes_eq name (row_of_limit limit).name) inside

abbrev pub are_limits : Members → Bool
are_limits no_members = true
are_limits (member name d ms) = names_limit name && is_whole d && are_limits ms

abbrev pub if_present : {A : Type 0} → (A → Bool) → Option A → Bool
if_present test None = false
if_present test (Some x) = test x

-- an object whose numbers are whole
abbrev pub is_document : Data → Bool
is_document d = if_present members_have_whole_numbers (as_object d)

-- each member is such an object
abbrev pub are_documents : Members → Bool
are_documents no_members = true
are_documents (member name d ms) = is_document d && are_documents ms

abbrev pub score_modes : List (List ℕ)
score_modes = codes "multiply" ∷ codes "sum" ∷ codes "first" ∷ codes "max" ∷ codes "min" ∷ []

abbrev pub boost_modes : List (List ℕ)
boost_modes = codes "multiply" ∷ codes "replace" ∷ codes "sum" ∷ codes "max" ∷ codes "min" ∷ []

abbrev pub is_mode : List (List ℕ) → Data → Bool
is_mode modes d = if_present (λ name. list_any (bytes_eq name) modes) (as_str d)

abbrev pub is_of_type : ValueType → Data → Bool
is_of_type t.Text d = is_some (as_str d)
is_of_type t.Object d = is_some (as_object d)
is_of_type t.Parameters d = if_present members_have_whole_numbers (as_object d)
is_of_type t.Limits d = if_present are_limits (as_object d)
is_of_type t.Number d = is_whole d
is_of_type t.Numbers d = if_present are_whole (as_array d)
is_of_type t.Truth d = is_some (as_bool d)
is_of_type t.Documents d = if_present are_documents (as_object d)
is_of_type t.Values d = is_some (as_array d)
is_of_type t.ScoreMode d = is_mode score_modes d
is_of_type t.BoostMode d = is_mode boost_modes d
