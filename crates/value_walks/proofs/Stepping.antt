-- Steps of walks over lists.
use Rattle.std.proofs.Common.{◌≡◌, ◌≢◌, ℕ, zero, suc, ◌+◌, ◌-◌, ◌<◌, ◌∙◌, Option, Some, List, ◌∷◌, length, drop, get_or, slice_get, refl, ap, Bool, true, false, is_some, if◌then◌else◌, arith, add-one, drop-cons}
use Rattle.std.proofs.lemmas.Bool.Decides.{nat_tests}
use Rattle.std.proofs.lemmas.Option.{slice_get_within, get_or_from_slice_get}
use Rattle.object_values.specs.declared.object.Object.{Object}
use Rattle.object_values.specs.declared.value.Value.{Value}
use Rattle.object_values.specs.declared.value.Value.TheVariants as v
use Rattle.object_values.specs.Pairs.{value_of}
use Rattle.value_walks.specs.declared.equality.Walked.{Walked}
use Rattle.value_walks.specs.Equality.{EntriesCompareAsObjects, contents_equal, equal_at, equal_entries_of, equal_of, has_keys, pairs_equal, found_equal, and_then, with_visit}

-- from a place on there is the item at the place, and what is behind it
pub got : {A : Type 0} → (xs : List A) (at : ℕ) (x : A) → slice_get xs at ≡ Some x → drop at xs ≡ x ∷ drop (at + 1) xs
got xs at x h =
    let within : at < length xs = slice_get_within xs at x h in
    let item : get_or xs at x ≡ x = get_or_from_slice_get xs at x x h in
    rw (add-one, drop-cons xs at x within, item) refl

pub visit_refs : (levels visits : ℕ) (objects : List Object) (x y : ℕ) → 0 < levels → 0 < visits → x ≢ y
    → equal_at levels objects (v.Ref x) (v.Ref y) visits
    ≡ contents_equal (equal_at (levels - 1) objects) objects (slice_get objects x) (slice_get objects y) (visits - 1)
visit_refs zero visits objects x y h k d = absurd (omega arith)
visit_refs (suc levels) zero objects x y h k d = absurd (omega arith)
visit_refs (suc levels) (suc visits) objects x y h k d =
    let l : suc levels - 1 ≡ levels = omega arith in
    let n : suc visits - 1 ≡ visits = omega arith in
    rw (l, n) (grind (arith, nat_tests))

pub one_visit : (further : ℕ → Walked) (visits : ℕ) → visits ≢ 0 → with_visit further visits ≡ further (visits - 1)
one_visit further zero h = absurd (h refl)
one_visit further (suc visits) h =
    let n : suc visits - 1 ≡ visits = omega arith in
    rw n refl

-- two entries that are objects
pub entries_compare_as_objects : EntriesCompareAsObjects
unfolding equal_of equal_entries_of
entries_compare_as_objects objects x y map key other_map other_key zero d h k = refl
entries_compare_as_objects objects x y map key other_map other_key (suc visits) d h k =
    let n : suc visits - 1 ≡ visits = omega arith in
    visit_refs 100 (suc visits) objects x y (omega arith) (omega arith) d ∙ rw (h, k, n) refl

-- one key more, and one pair more
pub key_step : (pairs other : List (Value × Value)) (at : ℕ) (pair : Value × Value) → slice_get pairs at ≡ Some pair
    → has_keys (drop at pairs) other ≡ (if is_some (value_of other pair.0) then has_keys (drop (at + 1) pairs) other else false)
key_step pairs other at pair h = ap (λ (rest : List (Value × Value)). has_keys rest other) (got pairs at pair h)

pub pair_step : (equal : Value → Value → ℕ → Walked) (left right : List (Value × Value)) (at : ℕ) (pair : Value × Value) (visits : ℕ) → slice_get left at ≡ Some pair
    → pairs_equal equal (drop at left) right visits ≡ and_then (found_equal equal pair.1 (value_of right pair.0) visits) (pairs_equal equal (drop (at + 1) left) right)
pair_step equal left right at pair visits h = ap (λ (rest : List (Value × Value)). pairs_equal equal rest right visits) (got left at pair h)

pub absent : (found : Option Value) (more : Bool) → is_some found ≡ false → (if is_some found then more else false) ≡ false
absent found more h = rw h refl

pub present : (found : Option Value) (more : Bool) → is_some found ≡ true → (if is_some found then more else false) ≡ more
present found more h = rw h refl
