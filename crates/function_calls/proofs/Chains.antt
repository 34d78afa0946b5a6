-- A chain of references to interfaces' methods has one argument less at each step.
use Rattle.std.proofs.Common.{◌≡◌, ℕ, zero, suc, ◌≤◌, Bool, true, false, Option, Some, None, List, [], ◌∷◌, length, refl, ap, subst, slice_get, arith}
use Rattle.std.specs.Prelude.{◌==◌, ◌+◌, drop, option_map}
use Rattle.pl_types.specs.declared.ty.Ty.{Ty, out-Ty}
use Rattle.pl_types.specs.declared.ty.Ty.TheOpen.{Ty-F}
use Rattle.allowlist.specs.Allow.{AllowList, member_of}
use Rattle.object_values.specs.declared.object.Object.{Object}
use Rattle.object_values.specs.declared.object.Object.TheVariants as o
use Rattle.object_values.specs.declared.object.Owner.{Owner}
use Rattle.object_values.specs.declared.object.Target.{Target}
use Rattle.object_values.specs.declared.object.Target.TheVariants as t
use Rattle.object_values.specs.declared.value.Value.{Value}
use Rattle.object_values.specs.declared.value.Value.TheVariants as v
use Rattle.object_heap.specs.Effects.{Effect}
use Rattle.object_heap.specs.Store.{Store}
use Rattle.def_resolve.specs.declared.function.Reference.{Reference}
use Rattle.def_resolve.specs.declared.function.Reference.TheVariants as reference
use Rattle.def_resolve.specs.Functions.{constructor_of, instance_behind, reference_of, static_in, static_or}
use Rattle.def_resolve.specs.Resolution.{instance_member}
use Rattle.function_calls.specs.declared.aim.Aim.{Aim}
use Rattle.function_calls.specs.declared.aim.Aim.TheVariants as aim
use Rattle.function_calls.specs.declared.aim.Doing.{Doing}
use Rattle.function_calls.specs.declared.aim.Doing.TheVariants as does
use Rattle.function_calls.specs.declared.texts.Texts.{Texts}
use Rattle.function_calls.specs.Applying.{Applied, Lands, Moves, Stage, Stops, after_casts, aimed_unless, applied_within, captured_by, done, done_unless, goes_on, lacks_receiver, landed, refusal, stage}
use Rattle.function_calls.specs.Laws.{ChainsEnd}
use Rattle.function_calls.specs.Passing.{Passed, All, Ended, passed_twice}
use Rattle.function_calls.specs.Targets as targets
use Rattle.function_calls.specs.Targets.{aim_of, doing_of, is_count, own_types, parameters_in}
use Rattle.function_calls.proofs.Along.{Along, twice_along}
use Rattle.function_calls.proofs.Counting.{Anything, Counts, counts_kept}

-- ---- a receiver is an argument

abbrev ReferenceFar : ℕ → Option Reference → Type 0
ReferenceFar count None = Unit {0}
ReferenceFar count (Some (reference.Static number)) = Unit {0}
ReferenceFar count (Some (reference.Instance number)) = 1 ≤ count

mapped_far : (others : ℕ) (found : Option ℕ) → ReferenceFar (suc others) (option_map reference.Instance found)
mapped_far others None = tt
mapped_far others (Some number) = omega arith

behind_far : (allow : AllowList) (class : ℕ) (name : List ℕ) (count : ℕ) → ReferenceFar count (instance_behind allow class name count)
behind_far allow class name zero = tt
behind_far allow class name (suc others) = mapped_far others (instance_member allow class name others)

either_far : (count : ℕ) (found : Option ℕ) (behind : Option Reference) → ReferenceFar count behind → ReferenceFar count (static_or found behind)
either_far count None behind h = h
either_far count (Some number) behind h = tt

reference_far : (allow : AllowList) (class : ℕ) (name : List ℕ) (count : ℕ) → ReferenceFar count (reference_of allow class name count)
unfolding reference_of
reference_far allow class name count = either_far count (static_in allow (member_of allow class name count)) (instance_behind allow class name count) (behind_far allow class name count)

-- what may call its receiver has an argument
abbrev MayMove : ℕ → Aim → Type 0
MayMove count (aim.Static number does.Receiver) = ⊥
MayMove count (aim.Instance class number doing) = 1 ≤ count
MayMove count other = Unit {0}

lambda_may : (count : ℕ) (owner : Owner) (number : ℕ) (test : Bool) → MayMove count (targets.lambda_aim owner number test)
lambda_may count owner number true = tt
lambda_may count owner number false = tt

static_may : (count number : ℕ) (doing : Option Doing) → MayMove count (targets.static_aim number doing)
static_may count number None = tt
static_may count number (Some does.Itself) = tt
static_may count number (Some (does.Prelude function)) = tt
static_may count number (Some does.Receiver) = tt

instance_may : (count class number : ℕ) (doing : Option Doing) → 1 ≤ count → MayMove count (targets.instance_aim class number doing)
instance_may count class number None h = tt
instance_may count class number (Some doing) h = h

reference_may : (texts : Texts) (allow : AllowList) (class count : ℕ) (found : Option Reference) → ReferenceFar count found → MayMove count (targets.reference_aim texts allow class count found)
reference_may texts allow class count None h = tt
reference_may texts allow class count (Some (reference.Static number)) h = static_may count number (doing_of texts allow count number)
reference_may texts allow class count (Some (reference.Instance number)) h = instance_may count class number (doing_of texts allow count number) h

constructor_may : (texts : Texts) (allow : AllowList) (count : ℕ) (found : Option ℕ) → MayMove count (targets.constructor_aim texts allow count found)
constructor_may texts allow count None = tt
constructor_may texts allow count (Some number) = static_may count number (doing_of texts allow count number)

array_may : (count : ℕ) (made : Ty) (test : Bool) → MayMove count (targets.array_aim made test)
array_may count made true = tt
array_may count made false = tt

made_may : (texts : Texts) (allow : AllowList) (count : ℕ) (made : Ty) (layer : Ty-F Ty) → MayMove count (targets.made_aim texts allow count made layer)
made_may texts allow count made (Ty-F.Class class) = constructor_may texts allow count (constructor_of allow class count)
made_may texts allow count made (Ty-F.Array elem) = array_may count made (count == 1)
made_may texts allow count made Ty-F.Void = tt
made_may texts allow count made Ty-F.Null = tt
made_may texts allow count made Ty-F.Def = tt
made_may texts allow count made (Ty-F.Prim p) = tt

target_may : (texts : Texts) (allow : AllowList) (captured count : ℕ) (target : Target) → MayMove count (targets.target_aim texts allow captured count target)
target_may texts allow captured count (t.Lambda owner number) = lambda_may count owner number (is_count (parameters_in texts owner number) (captured + count))
target_may texts allow captured count (t.Member class name) = reference_may texts allow class count (reference_of allow class name count) (reference_far allow class name count)
target_may texts allow captured count (t.New made) = made_may texts allow count made (out-Ty made)
target_may texts allow captured count t.Gone = tt

object_may : (texts : Texts) (allow : AllowList) (count : ℕ) (found : Option Object) → MayMove count (targets.object_aim texts allow count found)
object_may texts allow count None = tt
object_may texts allow count (Some (o.Fun (Some iface) target captures)) = target_may texts allow (length captures) count target
object_may texts allow count (Some (o.Fun None target captures)) = tt
object_may texts allow count (Some object) = tt

aim_may : (texts : Texts) (allow : AllowList) (objects : List Object) (values : List Value) → MayMove (length (drop 1 values)) (aim_of texts allow objects values)
unfolding aim_of
aim_may texts allow objects [] = tt
aim_may texts allow objects (v.Null ∷ arguments) = tt
aim_may texts allow objects (v.Ref id ∷ arguments) = object_may texts allow (length arguments) (slice_get objects id)
aim_may texts allow objects (value ∷ arguments) = tt

-- ---- one function value

-- what moves on has as many values as there were arguments, and one at least
abbrev StageMoves : ℕ → Stage → Type 0
StageMoves count (Moves method store values) = (length values ≡ count) × (1 ≤ count)
StageMoves count (Lands what store values) = Unit {0}
StageMoves count (Stops store told) = Unit {0}

static_moves : (count number : ℕ) (store : Store) (values : List Value) (doing : Doing) → MayMove count (aim.Static number doing) → StageMoves count (done number store values doing)
static_moves count number store values does.Itself h = tt
static_moves count number store values (does.Prelude function) h = tt
static_moves count number store values does.Receiver h = absurd h

instance_moves : (count number : ℕ) (store : Store) (values : List Value) (doing : Doing) (lacks : Bool) → 1 ≤ count → length (drop 1 values) ≡ count
    → StageMoves count (done_unless lacks number store values doing)
instance_moves count number store values doing true h e = tt
instance_moves count number store values does.Itself false h e = tt
instance_moves count number store values (does.Prelude function) false h e = tt
instance_moves count number store values does.Receiver false h e = (e, h)

landed_moves : (count captured : ℕ) (of : Aim) (store : Store) (values : List Value) → MayMove count of → Counts count captured store values → StageMoves count (landed of store values)
landed_moves count captured (aim.Lambda owner number) store values h e = tt
landed_moves count captured (aim.Static number doing) store values h e = static_moves count number store values doing h
landed_moves count captured (aim.Instance class number doing) store values h e = instance_moves count number store values doing (lacks_receiver values) h e.0
landed_moves count captured (aim.Array made) store values h e = tt
landed_moves count captured other store values h e = tt

cast_moves : (count captured : ℕ) (of : Aim) (p : Passed) → MayMove count of → Along (Counts count captured) Anything p → StageMoves count (after_casts of p)
cast_moves count captured of (All store values) h a = landed_moves count captured of store values h a
cast_moves count captured of (Ended store told) h a = tt

aimed_moves : (texts : Texts) (allow : AllowList) (first : List Ty) (store : Store) (values : List Value) (of : Aim) (refused : Option Effect) → MayMove (length (drop 1 values)) of
    → StageMoves (length (drop 1 values)) (aimed_unless refused texts allow first store values of)
aimed_moves texts allow first store values of (Some told) h = tt
aimed_moves texts allow first store values of None h =
    cast_moves (length (drop 1 values)) (length (captured_by store.objects values)) of (passed_twice texts allow first (own_types allow of) store values) h
    (twice_along texts allow (Counts (length (drop 1 values)) (length (captured_by store.objects values))) Anything (counts_kept texts allow (length (drop 1 values)) (length (captured_by store.objects values)))
    first (own_types allow of) store values (refl, refl))

stage_moves : (texts : Texts) (allow : AllowList) (first : List Ty) (store : Store) (values : List Value) → StageMoves (length (drop 1 values)) (stage texts allow first store values)
unfolding stage
stage_moves texts allow first store values =
    aimed_moves texts allow first store values (aim_of texts allow store.objects values) (refusal store (aim_of texts allow store.objects values)) (aim_may texts allow store.objects values)

-- ---- chains

goes_same : (of : Stage) (dues : List ℕ) (f g : ℕ → Store → List Value → Applied)
    → ((method : ℕ) (now : Store) (given : List Value) → of ≡ Moves method now given → f method now given ≡ g method now given) → goes_on of dues f ≡ goes_on of dues g
goes_same (Lands what store values) dues f g h = refl
goes_same (Moves method store values) dues f g h = h method store values refl
goes_same (Stops store told) dues f g h = refl

behind_length : (values : List Value) (most : ℕ) → length values ≤ suc most → length (drop 1 values) ≤ most
behind_length [] most h = omega arith
behind_length (value ∷ values) most h = omega arith

moved : (texts : Texts) (allow : AllowList) (first : List Ty) (store : Store) (values : List Value) (method : ℕ) (now : Store) (given : List Value) → stage texts allow first store values ≡ Moves method now given
    → (length given ≡ length (drop 1 values)) × (1 ≤ length (drop 1 values))
moved texts allow first store values method now given e = subst (StageMoves (length (drop 1 values))) e (stage_moves texts allow first store values)

one_ends : (more : ℕ) (texts : Texts) (allow : AllowList) (dues : List ℕ) (first : List Ty) (store : Store) (values : List Value) → length values ≤ 1
    → applied_within (suc more) texts allow dues first store values ≡ applied_within 1 texts allow dues first store values
one_ends more texts allow dues first store values h =
    goes_same (stage texts allow first store values) dues (λ method now given. applied_within more texts allow (method ∷ dues) [] now given)
    (λ method now given. applied_within 0 texts allow (method ∷ dues) [] now given)
    (λ method now given e.
    let m = moved texts allow first store values method now given e in
    let none = behind_length values 0 h in
    absurd (few (length (drop 1 values)) m.1 none))
  where
    few : (n : ℕ) → 1 ≤ n → n ≤ 0 → ⊥
    few n a b = omega arith

two_end : (more : ℕ) (texts : Texts) (allow : AllowList) (dues : List ℕ) (first : List Ty) (store : Store) (values : List Value) → length values ≤ 2
    → applied_within (suc (suc more)) texts allow dues first store values ≡ applied_within 2 texts allow dues first store values
two_end more texts allow dues first store values h =
    goes_same (stage texts allow first store values) dues (λ method now given. applied_within (suc more) texts allow (method ∷ dues) [] now given)
    (λ method now given. applied_within 1 texts allow (method ∷ dues) [] now given)
    (λ method now given e.
    let m = moved texts allow first store values method now given e in
    let few : length given ≤ 1 = omega (arith, m.0, behind_length values 1 h) in
    one_ends more texts allow (method ∷ dues) [] now given few)

pub three_end : ChainsEnd
three_end more texts allow dues first store values h =
    goes_same (stage texts allow first store values) dues (λ method now given. applied_within (suc (suc more)) texts allow (method ∷ dues) [] now given)
    (λ method now given. applied_within 2 texts allow (method ∷ dues) [] now given)
    (λ method now given e.
    let m = moved texts allow first store values method now given e in
    let few : length given ≤ 2 = omega (arith, m.0, behind_length values 2 h) in
    two_end more texts allow (method ∷ dues) [] now given few)
