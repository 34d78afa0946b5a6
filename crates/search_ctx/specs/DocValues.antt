-- The doc values of a document: what each field of a mapping takes of it.
use Rattle.std.specs.Prelude.{ℕ, ◌++◌, Bool, true, false, ◌||◌, List, [], ◌∷◌, Option, Some, None, map, codes, is_some, slice_get, slice_set, option_map, option_and_then, ℤ, if◌then◌else◌}
use Rattle.std.specs.Fmt.{signed_decimal}
use Rattle.std.specs.Ordering.{int_cmp, bool_cmp}
use Rattle.std.specs.Str.{bytes_eq}
use Rattle.pl_units.specs.Utf16.{units}
use Rattle.pl_units.specs.WholeNumber.{long_of as long_of_text}
use Rattle.serde_json.specs.Data.{Data, null, boolean, number, string, array, object, Items, no_items, item, Members, no_members, member}
use Rattle.serde_json.specs.Find.{as_i64, as_object}
use Rattle.job_file.specs.declared.mapping.FieldKind.{FieldKind}
use Rattle.job_file.specs.declared.mapping.FieldKind.TheVariants as kind
use Rattle.search_ctx.specs.declared.values.FieldValues.{FieldValues}
use Rattle.search_ctx.specs.declared.values.FieldValues.TheVariants as f
use Rattle.search_ctx.specs.Fields.{place_of}
use Rattle.search_ctx.specs.Order.{in_order, once_in_order}

-- ---- what a field of each kind takes

-- a whole number of 64 bits with a sign, or a text that writes one
abbrev pub long_of : Data → Option ℤ
long_of null = None
long_of (boolean b) = None
long_of (number n) = as_i64 n
long_of (string s) = long_of_text (units s)
long_of (array ds) = None
long_of (object ms) = None

-- a text, or the text of such a number or of a truth value
abbrev pub truth_text : Bool → List ℕ
truth_text true = codes "true"
truth_text false = codes "false"

abbrev pub keyword_of : Data → Option (List ℕ)
keyword_of null = None
keyword_of (boolean b) = Some (truth_text b)
keyword_of (number n) = option_map signed_decimal (as_i64 n)
keyword_of (string s) = Some s
keyword_of (array ds) = None
keyword_of (object ms) = None

-- a truth value, or its text; the empty text is false
abbrev pub truth_of_text : List ℕ → Option Bool
truth_of_text s = if bytes_eq s (codes "true") then Some true
    else (if bytes_eq s (codes "false") || bytes_eq s [] then Some false else None)

abbrev pub truth_of : Data → Option Bool
truth_of null = None
truth_of (boolean b) = Some b
truth_of (number n) = None
truth_of (string s) = truth_of_text s
truth_of (array ds) = None
truth_of (object ms) = None

abbrev pub no_values : FieldKind → FieldValues
no_values kind.Long = f.Longs []
no_values kind.Keyword = f.Keywords []
no_values kind.Boolean = f.Booleans []

-- the values of a field and one more, where the field takes it
abbrev pub with_value : FieldValues → Data → Option FieldValues
with_value (f.Longs longs) d = option_map (λ long. f.Longs (longs ++ long ∷ [])) (long_of d)
with_value (f.Keywords words) d = option_map (λ word. f.Keywords (words ++ word ∷ [])) (keyword_of d)
with_value (f.Booleans flags) d = option_map (λ flag. f.Booleans (flags ++ flag ∷ [])) (truth_of d)

-- longs and truth values in rising order, keywords in the order of their bytes and each once
abbrev pub ordered : FieldValues → FieldValues
ordered (f.Longs longs) = f.Longs (in_order int_cmp longs)
ordered (f.Keywords words) = f.Keywords (once_in_order words)
ordered (f.Booleans flags) = f.Booleans (in_order bool_cmp flags)

-- the fields with those at a place in order
abbrev pub ordered_in : List FieldValues → ℕ → Option FieldValues → List FieldValues
ordered_in doc place None = doc
ordered_in doc place (Some values) = slice_set doc place (ordered values)

abbrev pub ordered_at : List FieldValues → ℕ → List FieldValues
ordered_at doc place = ordered_in doc place (slice_get doc place)

-- ---- what stands at the fields of a document

-- a value at the place of a field, if there is such a field
abbrev pub at_place : Option ℕ → Data → List (ℕ × Data)
at_place None d = []
at_place (Some place) d = (place, d) ∷ []

-- What stands in a value whose name is this path, each with the place of its field: null is nothing, and of an array each
-- item has the path of the array. An object that has a field of its own stands there itself; any other one has the names of
-- its members behind its path and a dot. The place is that of the path.
abbrev mutual
  pub found : List (List ℕ × FieldKind) → List ℕ → Option ℕ → Data → List (ℕ × Data)
  found fields path place null = []
  found fields path place (boolean b) = at_place place (boolean b)
  found fields path place (number n) = at_place place (number n)
  found fields path place (string s) = at_place place (string s)
  found fields path place (array ds) = found_items fields path place ds
  found fields path place (object ms) = if is_some place then at_place place (object ms) else found_members fields (path ++ codes ".") ms

  pub found_items : List (List ℕ × FieldKind) → List ℕ → Option ℕ → Items → List (ℕ × Data)
  found_items fields path place no_items = []
  found_items fields path place (item d ds) = found fields path place d ++ found_items fields path place ds

  pub found_members : List (List ℕ × FieldKind) → List ℕ → Members → List (ℕ × Data)
  found_members fields front no_members = []
  found_members fields front (member name d ms) =
      found fields (front ++ name) (place_of (front ++ name) fields) d ++ found_members fields front ms

-- ---- the values of each field

-- one value goes to the field at its place
abbrev pub taken_by : List FieldValues → ℕ → Data → Option FieldValues → Option (List FieldValues)
taken_by doc place d None = Some doc
taken_by doc place d (Some values) = option_map (slice_set doc place) (with_value values d)

abbrev pub taken : List FieldValues → ℕ → Data → Option (List FieldValues)
taken doc place d = taken_by doc place d (slice_get doc place)

-- each value in turn; none where a field does not take its value
abbrev pub all_taken : List FieldValues → List (ℕ × Data) → Option (List FieldValues)
all_taken doc [] = Some doc
all_taken doc (next ∷ rest) = option_and_then (λ more. all_taken more rest) (taken doc next.0 next.1)

-- no values yet, for each field
abbrev pub empty_doc : List (List ℕ × FieldKind) → List FieldValues
empty_doc fields = map (λ (field : List ℕ × FieldKind). no_values field.1) fields

-- The doc values of these members, for each field in turn. There are none where a value stands at a field that does not take
-- it.
abbrev pub doc_of_members : List (List ℕ × FieldKind) → Members → Option (List FieldValues)
doc_of_members fields ms = option_map (map ordered) (all_taken (empty_doc fields) (found_members fields [] ms))

-- the doc values of a line, which is an object
abbrev pub doc_of : List (List ℕ × FieldKind) → Data → Option (List FieldValues)
doc_of fields d = option_and_then (doc_of_members fields) (as_object d)
