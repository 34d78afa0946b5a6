-- Objects that are passed over: where no field's name begins with the path of an object, nothing in it is taken.
use Rattle.std.proofs.Common.{◌≡◌, ℕ, suc, ◌+◌, Bool, true, false, ◌||◌, ◌&&◌, not, Some, None, List, [], ◌∷◌, ◌++◌, map, length, refl, ap, ◌∙◌, codes, nat_lt, nat_eq, arith}
use Rattle.std.proofs.lemmas.Bool.{le-ltb}
use Rattle.std.specs.List.{prefix_len, starts_with}
use Rattle.std.specs.Str.{bytes_eq}
use Rattle.serde_json.specs.Data.{Data, null, boolean, number, string, array, object, Items, no_items, item, Members, no_members, member}
use Rattle.job_file.specs.declared.mapping.FieldKind.{FieldKind}
use Rattle.search_ctx.specs.declared.values.FieldValues.{FieldValues}
use Rattle.search_ctx.specs.DocValues.{all_taken, found, found_items, found_members}
use Rattle.search_ctx.specs.Fields.{begins_some, place_of}

neither : (a b : Bool) → (a || b) ≡ false → (a ≡ false) × (b ≡ false)
neither true b h = absurd (cc)
neither false b h = (refl, h)

-- what does not begin with a text does not begin with a longer one, nor is it one
longer_differs : (name front more : List ℕ) → starts_with nat_eq name front ≡ false → starts_with nat_eq name (front ++ more) ≡ false
longer_differs name [] more h = absurd (cc)
longer_differs [] (f ∷ front) more h = refl
longer_differs (x ∷ name) (f ∷ front) more h = by_case (nat_eq f x) h (longer_differs name front more) where
  by_case : (b : Bool) → (b && starts_with nat_eq name front) ≡ false → (starts_with nat_eq name front ≡ false → starts_with nat_eq name (front ++ more) ≡ false)
      → (b && starts_with nat_eq name (front ++ more)) ≡ false
  by_case true h k = k h
  by_case false h k = refl

is_another : (name front more : List ℕ) → starts_with nat_eq name front ≡ false → bytes_eq (front ++ more) name ≡ false
is_another name [] more h = absurd (cc)
is_another [] (f ∷ front) more h = refl
is_another (x ∷ name) (f ∷ front) more h = by_case (nat_eq f x) h (is_another name front more) where
  by_case : (b : Bool) → (b && starts_with nat_eq name front) ≡ false → (starts_with nat_eq name front ≡ false → bytes_eq (front ++ more) name ≡ false)
      → (b && bytes_eq (front ++ more) name) ≡ false
  by_case true h k = k h
  by_case false h k = refl

abbrev names : List (List ℕ × FieldKind) → List (List ℕ)
names fields = map (λ (field : List ℕ × FieldKind). field.0) fields

none_longer : (front more : List ℕ) (fields : List (List ℕ × FieldKind)) → begins_some front fields ≡ false → begins_some (front ++ more) fields ≡ false
none_longer front more [] h = refl
none_longer front more (field ∷ fields) h =
    let parts = neither (starts_with nat_eq field.0 front) (begins_some front fields) h in
    rw (longer_differs field.0 front more parts.0) (none_longer front more fields parts.1)

one_more : (n : ℕ) → 1 + n ≡ suc n
one_more n = omega arith

all_others : (front more : List ℕ) (fields : List (List ℕ × FieldKind)) → begins_some front fields ≡ false
    → prefix_len (λ name. not (bytes_eq (front ++ more) name)) (names fields) ≡ length (names fields)
all_others front more [] h = refl
all_others front more (field ∷ fields) h =
    let parts = neither (starts_with nat_eq field.0 front) (begins_some front fields) h in
    rw (is_another field.0 front more parts.0) (ap (λ (n : ℕ). 1 + n) (all_others front more fields parts.1) ∙ one_more _)

not_below : (n : ℕ) → nat_lt n n ≡ false
not_below n = le-ltb n n (omega arith)

no_place : (front more : List ℕ) (fields : List (List ℕ × FieldKind)) → begins_some front fields ≡ false → place_of (front ++ more) fields ≡ None
no_place front more fields h = rw (all_others front more fields h, not_below (length (names fields))) refl

mutual
  nothing_in : (fields : List (List ℕ × FieldKind)) (path : List ℕ) (d : Data) → begins_some path fields ≡ false → found fields path None d ≡ []
  nothing_in fields path null h = refl
  nothing_in fields path (boolean b) h = refl
  nothing_in fields path (number n) h = refl
  nothing_in fields path (string s) h = refl
  nothing_in fields path (array ds) h = nothing_in_items fields path ds h
  nothing_in fields path (object ms) h = nothing_in_members fields (path ++ codes ".") ms (none_longer path (codes ".") fields h)

  nothing_in_items : (fields : List (List ℕ × FieldKind)) (path : List ℕ) (ds : Items) → begins_some path fields ≡ false → found_items fields path None ds ≡ []
  nothing_in_items fields path no_items h = refl
  nothing_in_items fields path (item d ds) h = rw (nothing_in fields path d h) (nothing_in_items fields path ds h)

  nothing_in_members : (fields : List (List ℕ × FieldKind)) (front : List ℕ) (ms : Members) → begins_some front fields ≡ false → found_members fields front ms ≡ []
  nothing_in_members fields front no_members h = refl
  nothing_in_members fields front (member name d ms) h =
      rw (no_place front name fields h, nothing_in fields (front ++ name) d (none_longer front name fields h)) (nothing_in_members fields front ms h)

pub none_taken : (doc : List FieldValues) (fields : List (List ℕ × FieldKind)) (path : List ℕ) (ms : Members) → begins_some path fields ≡ false
    → all_taken doc (found_members fields (path ++ codes ".") ms) ≡ Some doc
none_taken doc fields path ms h = rw (nothing_in_members fields (path ++ codes ".") ms (none_longer path (codes ".") fields h)) refl
