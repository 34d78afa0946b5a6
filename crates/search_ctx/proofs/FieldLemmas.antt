-- Fields in a hash table: what an insertion gives, and where a name is found.
use Rattle.std.proofs.Common.{◌≡◌, ℕ, ◌+◌, ◌<◌, ◌≤◌, ◌&&◌, arith, nat_eq, Bool, true, false, cond, not, List, [], ◌∷◌, map, length, refl, ap, ◌∙◌, string_bytes, String, Global, nat_lt, Some, None, suc, ◌++◌, append_assoc, append-nil, sym}
use Rattle.std.specs.List.{position, prefix_len, starts_with, AllByRecursion}
use Rattle.std.specs.Map.{keys_of}
use Rattle.std.specs.Prelude.{if◌then◌else◌}
use Rattle.std.specs.Str.{bytes_eq}
use Rattle.std.specs.String.{string_eq}
use Rattle.indexmap.specs.IndexMap.{insert_entry}
use Rattle.job_file.specs.declared.mapping.FieldKind.{FieldKind}
use Rattle.job_file.specs.Answers.{fields_view}
use Rattle.search_ctx.specs.Fields.{NoneLonger, begins_some, with_field, with_fields, place_of, IsNewName, HasDistinctNames}
use Rattle.search_ctx.specs.Laws.{FieldsStay}

pub field_inserted : (es : List (String Global × FieldKind)) (name : String Global) (kind : FieldKind)
    → fields_view (insert_entry string_eq es name kind) ≡ with_field (fields_view es) (string_bytes name) kind
field_inserted [] name kind = refl
field_inserted (e ∷ es) name kind = by_case (bytes_eq (string_bytes name) (string_bytes e.0)) (field_inserted es name kind) where
  by_case : (b : Bool) → fields_view (insert_entry string_eq es name kind) ≡ with_field (fields_view es) (string_bytes name) kind
      → fields_view (if b then (e.0, kind) ∷ es else e ∷ insert_entry string_eq es name kind)
      ≡ (if b then (string_bytes e.0, kind) ∷ fields_view es else (string_bytes e.0, e.1) ∷ with_field (fields_view es) (string_bytes name) kind)
  by_case true h = refl
  by_case false h = ap (λ rest. (string_bytes e.0, e.1) ∷ rest) h

-- the names of fields by their bytes
abbrev bytes_of : List (String Global) → List (List ℕ)
bytes_of names = map string_bytes names

prefix_by_bytes : (test : List ℕ → Bool) (names : List (String Global)) → prefix_len (λ name. test (string_bytes name)) names ≡ prefix_len test (bytes_of names)
prefix_by_bytes test [] = refl
prefix_by_bytes test (name ∷ names) = ap (λ (n : ℕ). cond (test (string_bytes name)) (1 + n) 0) (prefix_by_bytes test names)

length_by_bytes : (names : List (String Global)) → length names ≡ length (bytes_of names)
length_by_bytes [] = refl
length_by_bytes (name ∷ names) = ap (λ (n : ℕ). suc n) (length_by_bytes names)

names_of_fields : (es : List (String Global × FieldKind)) → bytes_of (keys_of es) ≡ map (λ (field : List ℕ × FieldKind). field.0) (fields_view es)
names_of_fields [] = refl
names_of_fields (e ∷ es) = ap (λ rest. string_bytes e.0 ∷ rest) (names_of_fields es)

found_at : (m n count total : ℕ) → m ≡ n → count ≡ total → cond (nat_lt m count) (Some m) None ≡ cond (nat_lt n total) (Some n) None
found_at m n count total e f = cc

pub place_found : (name : List ℕ) (es : List (String Global × FieldKind)) → position (λ key. bytes_eq name (string_bytes key)) (keys_of es) ≡ place_of name (fields_view es)
place_found name es =
    found_at _ _ _ _ (prefix_by_bytes (λ other. not (bytes_eq name other)) (keys_of es)) (length_by_bytes (keys_of es))
    ∙ ap (position (bytes_eq name)) (names_of_fields es)

-- ---- names that are new

new_last : (done : List (List ℕ × FieldKind)) (name : List ℕ) (kind : FieldKind) → IsNewName name done → with_field done name kind ≡ done ++ (name, kind) ∷ []
new_last [] name kind h = refl
new_last (field ∷ done) name kind h = rw h.0 (ap (λ rest. field ∷ rest) (new_last done name kind h.1))

-- no field of the one list has the name of one of the other
abbrev AllNew : List (List ℕ × FieldKind) → List (List ℕ × FieldKind) → Type 0
AllNew done fields = AllByRecursion (λ (field : List ℕ × FieldKind). IsNewName field.0 done) fields

new_behind : (name : List ℕ) (done : List (List ℕ × FieldKind)) (field : List ℕ × FieldKind) → IsNewName name done → bytes_eq name field.0 ≡ false
    → IsNewName name (done ++ field ∷ [])
new_behind name [] field h e = (e, tt)
new_behind name (one ∷ done) field h e = (h.0, new_behind name done field h.1 e)

all_new_behind : (done : List (List ℕ × FieldKind)) (field : List ℕ × FieldKind) (fields : List (List ℕ × FieldKind)) → AllNew done fields
    → AllByRecursion (λ (other : List ℕ × FieldKind). bytes_eq other.0 field.0 ≡ false) fields → AllNew (done ++ field ∷ []) fields
all_new_behind done field [] h e = tt
all_new_behind done field (other ∷ fields) h e = (new_behind other.0 done field h.0 e.0, all_new_behind done field fields h.1 e.1)

all_last : (done fields : List (List ℕ × FieldKind)) → AllNew done fields → HasDistinctNames fields → with_fields done fields ≡ done ++ fields
all_last done [] h d = sym (append-nil done)
all_last done (field ∷ fields) h d =
    ap (λ front. with_fields front fields) (new_last done field.0 field.1 h.0)
    ∙ all_last (done ++ field ∷ []) fields (all_new_behind done field fields h.1 d.0) d.1 ∙ append_assoc done (field ∷ []) fields

none_there : (fields : List (List ℕ × FieldKind)) → AllNew [] fields
none_there [] = tt
none_there (field ∷ fields) = (tt, none_there fields)

pub fields_same : FieldsStay
fields_same fields d = all_last [] fields (none_there fields) d

-- ---- names that are shorter

begins_none : (name front : List ℕ) → length name < length front → starts_with nat_eq name front ≡ false
begins_none name [] h = absurd (omega arith)
begins_none [] (f ∷ front) h = refl
begins_none (x ∷ name) (f ∷ front) h = by_case (nat_eq f x) (begins_none name front (omega arith)) where
  by_case : (b : Bool) → starts_with nat_eq name front ≡ false → (b && starts_with nat_eq name front) ≡ false
  by_case true e = e
  by_case false e = refl

-- no name begins with a text that is longer than the longest
pub none_begins : (most : ℕ) (front : List ℕ) (fields : List (List ℕ × FieldKind)) → NoneLonger most fields → most < length front → begins_some front fields ≡ false
none_begins most front [] h less = refl
none_begins most front (field ∷ fields) h less =
    let here : length field.0 ≤ most = h.0 in rw (begins_none field.0 front (omega (arith, here, less)), none_begins most front fields h.1 less) refl
