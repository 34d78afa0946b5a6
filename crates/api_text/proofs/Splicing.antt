-- A builder that is changed in place.
use Rattle.std.proofs.Common.{◌≡◌, ℕ, ℤ, ◌+◌, ◌-◌, ◌≤◌, true, false, Option, Some, None, List, [], ◌++◌, length, take, drop, slice_get, slice_set, refl, ap, sym, ◌∙◌, arith, append-nil, if◌then◌else◌}
use Rattle.std.specs.Prelude.{replicate, pos, negsuc}
use lib.IntN.{nat_abs}
use lib.Signed.{lt_z}
use Rattle.std.proofs.lemmas.Bool.Decides.{nat_tests}
use Rattle.std.proofs.lemmas.List.{take_all, drop_all}
use Rattle.object_values.specs.declared.object.Object.{Object}
use Rattle.object_values.specs.declared.object.Object.TheVariants as o
use Rattle.object_values.specs.declared.value.Value.TheVariants as v
use Rattle.object_heap.specs.Objects.{spliced, with_spliced, renewed_by}
use Rattle.object_heap.specs.Parts.{asked, frozen_of, object_units, units_of}
use Rattle.object_heap.specs.Store.{changed_at, with_change}
use Rattle.api_text.specs.declared.outcome.Outcome.TheVariants.{Becomes}
use Rattle.api_text.specs.Builders.{deleted_there, set_there, set_to, units_resized, with_run}
use Rattle.api_text.specs.Sequences.{index_error}

run_there : (from to : ℕ) (more units : List ℕ) → from ≤ to → to ≤ length units → take from units ++ more ++ drop to units ≡ spliced from to more units
run_there from to more units h g = grind (arith, nat_tests)

object_spliced : (from to : ℕ) (more : List ℕ) (object : Object) → from ≤ to → to ≤ length (object_units object)
    → renewed_by (o.Builder (take from (object_units object) ++ more ++ drop to (object_units object))) object ≡ with_spliced from to more object
object_spliced from to more (o.Builder units) h g = ap o.Builder (run_there from to more units h g)
object_spliced from to more object h g = refl

found_spliced : (objects : List Object) (id from to : ℕ) (more : List ℕ) (found : Option Object) → from ≤ to → to ≤ length (asked object_units [] found)
    → changed_at objects id (renewed_by (o.Builder (take from (asked object_units [] found) ++ more ++ drop to (asked object_units [] found)))) found ≡ changed_at objects id (with_spliced from to more) found
found_spliced objects id from to more None h g = refl
found_spliced objects id from to more (Some object) h g = ap (slice_set objects id) (object_spliced from to more object h g)

-- a builder that becomes what it is with a run in the place of another is changed there
pub spliced_is : (objects : List Object) (id from to : ℕ) (more : List ℕ) → from ≤ to → to ≤ length (units_of objects id)
    → with_change objects id (renewed_by (o.Builder (take from (units_of objects id) ++ more ++ drop to (units_of objects id)))) ≡ with_change objects id (with_spliced from to more)
spliced_is objects id from to more h g = ap (λ (after : List Object). if frozen_of objects id then objects else after) (found_spliced objects id from to more (slice_get objects id) h g)

-- a unit that goes
pub deleted_is : (builder : ℕ) (units : List ℕ) (place : ℕ) → with_run builder units place (place + 1) [] (v.Ref builder) ≡ deleted_there builder units place
deleted_is builder units place = ap (λ (front : List ℕ). Becomes builder (front ++ drop (place + 1) units) (v.Ref builder)) (append-nil (take place units))

-- a length that is not more
shorter : (units : List ℕ) (count before : ℕ) → before ≡ length units → count ≤ before → take count units ++ [] ++ drop before units ≡ units_resized count units
shorter units count before e h =
    let none : count - length units ≡ 0 = omega arith in
    ap (λ (front : List ℕ). front ++ drop before units) (append-nil (take count units))
    ∙ ap (λ (rest : List ℕ). take count units ++ rest) (drop_all before units (omega arith) ∙ sym (ap (λ (n : ℕ). replicate n 0) none))

pub shortened_is : (builder : ℕ) (units : List ℕ) (count before : ℕ) → before ≡ length units → count ≤ before → with_run builder units count before [] v.Null ≡ set_there builder units count
shortened_is builder units count before e h = ap (λ (after : List ℕ). Becomes builder after v.Null) (shorter units count before e h)

-- a length that is not less
longer : (units : List ℕ) (count before : ℕ) → before ≡ length units → before ≤ count → take before units ++ replicate (count - before) 0 ++ drop before units ≡ units_resized count units
longer units count before e h =
    ap (λ (rest : List ℕ). take before units ++ replicate (count - before) 0 ++ rest) (drop_all before units (omega arith))
    ∙ (append-nil (take before units ++ replicate (count - before) 0)
    ∙ (ap (λ (front : List ℕ). front ++ replicate (count - before) 0) (take_all before units (omega arith) ∙ sym (take_all count units (omega arith)))
    ∙ ap (λ (n : ℕ). take count units ++ replicate (count - n) 0) e))

pub lengthened_is : (builder : ℕ) (units : List ℕ) (count before : ℕ) → before ≡ length units → before ≤ count
    → with_run builder units before before (replicate (count - before) 0) v.Null ≡ set_there builder units count
lengthened_is builder units count before e h = ap (λ (after : List ℕ). Becomes builder after v.Null) (longer units count before e h)

-- a length below 0, and one that is not
pub below_zero : (builder : ℕ) (units : List ℕ) (count : ℤ) → lt_z count (pos 0) ≡ true → set_to builder units count ≡ index_error count (length units)
below_zero builder units (pos count) h = absurd (grind (arith, nat_tests))
below_zero builder units (negsuc n) h = refl

pub not_below_zero : (builder : ℕ) (units : List ℕ) (count : ℤ) → lt_z count (pos 0) ≡ false → set_there builder units (nat_abs count) ≡ set_to builder units count
not_below_zero builder units (pos count) h = refl
not_below_zero builder units (negsuc n) h = cc
