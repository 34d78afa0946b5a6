-- Lambdas that are gone, object by object.
use Rattle.std.proofs.Common.{◌≡◌, ℕ, zero, suc, ◌≤◌, Bool, true, false, Option, List, [], ◌∷◌, ◌++◌, length, map, Result, Ok, Err, OnOk, OnErr, refl, ap, sym, subst, ◌∙◌, arith, slice_get, if◌then◌else◌}
use Rattle.object_values.specs.declared.object.Object.{Object}
use Rattle.object_values.specs.declared.object.Object.TheVariants as o
use Rattle.object_values.specs.declared.object.Owner.TheVariants.{Script, Prelude}
use Rattle.object_values.specs.declared.object.Target.{Target}
use Rattle.object_values.specs.declared.object.Target.TheVariants as t
use Rattle.object_values.specs.declared.value.Value.{Value}
use Rattle.object_heap.specs.Fronts.{AreRetired, is_function}
use Rattle.object_heap.specs.Objects.{Kind, AFunction, kind_of, may_become, renewed_by, retired, retired_target}
use Rattle.object_heap.specs.Store.{changed_one}
use Rattle.object_heap.proofs.Growth.{cons_changed}

-- the objects, of which so many in front are retired
abbrev pub retired_front : ℕ → List Object → List Object
retired_front zero objects = objects
retired_front (suc n) [] = []
retired_front (suc n) (x ∷ objects) = retired x ∷ retired_front n objects

pub one_more : (n : ℕ) (objects : List Object) → changed_one (retired_front n objects) n retired ≡ retired_front (suc n) objects
one_more zero [] = refl
one_more zero (x ∷ objects) = refl
one_more (suc n) [] = refl
one_more (suc n) (x ∷ objects) =
    cons_changed (retired x) (retired_front n objects) n retired (slice_get (retired_front n objects) n) ∙ ap (λ rest. retired x ∷ rest) (one_more n objects)

pub all_of_them : (n : ℕ) (objects : List Object) → length objects ≤ n → retired_front n objects ≡ map retired objects
all_of_them zero [] h = refl
all_of_them (suc n) [] h = refl
all_of_them zero (x ∷ objects) h = absurd (omega arith)
all_of_them (suc n) (x ∷ objects) h = ap (λ rest. retired x ∷ rest) (all_of_them n objects (omega arith))

-- ---- objects of which the first are retired already

pub front_same : (n : ℕ) (objects : List Object) → AreRetired n objects → objects ≡ retired_front n objects
front_same zero objects r = refl
front_same (suc n) [] r = refl
front_same (suc n) (x ∷ objects) r = ap (λ (y : Object). y ∷ objects) (sym r.0) ∙ ap (λ (rest : List Object). retired x ∷ rest) (front_same n objects r.1)

target_twice : (target : Target) → retired_target (retired_target target) ≡ retired_target target
target_twice (t.Lambda Script number) = refl
target_twice (t.Lambda Prelude number) = refl
target_twice target = refl

retired_twice : (object : Object) → retired (retired object) ≡ retired object
retired_twice (o.Fun iface target captures) = ap (λ (after : Target). o.Fun iface after captures) (target_twice target)
retired_twice object = refl

pub all_retired : (objects : List Object) → AreRetired (length (map retired objects)) (map retired objects)
all_retired [] = tt
all_retired (x ∷ objects) = (retired_twice x, all_retired objects)

pub retired_more : (n : ℕ) (objects more : List Object) → AreRetired n objects → AreRetired n (objects ++ more)
retired_more zero objects more r = tt
retired_more (suc n) [] more r = absurd r
retired_more (suc n) (x ∷ objects) more r = (r.0, retired_more n objects more r.1)

changed_retired : (n : ℕ) (objects : List Object) (id : ℕ) (change : Object → Object) → ((object : Object) → retired object ≡ object → retired (change object) ≡ change object)
    → AreRetired n objects → AreRetired n (changed_one objects id change)
changed_retired zero objects id change h r = tt
changed_retired (suc n) [] id change h r = absurd r
changed_retired (suc n) (x ∷ objects) zero change h r = (h x r.0, r.1)
changed_retired (suc n) (x ∷ objects) (suc id) change h r = rw (cons_changed x objects id change (slice_get objects id)) (r.0, changed_retired n objects id change h r.1)

-- what is no function value is retired
fun_alone : (kind : Kind) (iface : Option ℕ) → is_function kind ≡ false → may_become kind (AFunction iface) ≡ true → ⊥
fun_alone (AFunction own) iface p h = absurd (cc)
fun_alone kind iface p h = absurd (cc)

other_retired : (kind : Kind) (after : Object) → is_function kind ≡ false → may_become kind (kind_of after) ≡ true → retired after ≡ after
other_retired kind (o.Fun iface target captures) p h = absurd (fun_alone kind iface p h)
other_retired kind after p h = refl

-- a change that keeps the kind, and a function value as it is
change_retired : (change : Object → Object) → ((object : Object) → may_become (kind_of object) (kind_of (change object)) ≡ true)
    → ((iface : Option ℕ) (target : Target) (captures : List Value) → change (o.Fun iface target captures) ≡ o.Fun iface target captures)
    → (object : Object) → retired object ≡ object → retired (change object) ≡ change object
change_retired change kind fun (o.Fun iface target captures) h = ap retired (fun iface target captures) ∙ (h ∙ sym (fun iface target captures))
change_retired change kind fun object h = other_retired (kind_of object) (change object) refl (kind object)

pub kept_retired : (n : ℕ) (objects : List Object) (id : ℕ) (change : Object → Object) → ((object : Object) → may_become (kind_of object) (kind_of (change object)) ≡ true)
    → ((iface : Option ℕ) (target : Target) (captures : List Value) → change (o.Fun iface target captures) ≡ o.Fun iface target captures)
    → AreRetired n objects → AreRetired n (changed_one objects id change)
kept_retired n objects id change kind fun r = changed_retired n objects id change (change_retired change kind fun) r

-- ---- an object in the place of another

renewed_retired : (after : Object) → retired after ≡ after → (object : Object) → retired object ≡ object → retired (renewed_by after object) ≡ renewed_by after object
renewed_retired after p object h =
    elim (may_become (kind_of object) (kind_of after)) as (λ b. retired (if b then after else object) ≡ (if b then after else object)) [ true ↦ p | false ↦ h ]

pub renewal_retired : (n : ℕ) (objects : List Object) (id : ℕ) (after : Object) → retired after ≡ after → AreRetired n objects → AreRetired n (changed_one objects id (renewed_by after))
renewal_retired n objects id after p r = changed_retired n objects id (renewed_by after) (renewed_retired after p) r

-- those before it stay
pub before_retired : (n : ℕ) (objects : List Object) (id : ℕ) (change : Object → Object) → n ≤ id → AreRetired n objects → AreRetired n (changed_one objects id change)
before_retired zero objects id change l r = tt
before_retired (suc n) [] id change l r = absurd r
before_retired (suc n) (x ∷ objects) zero change l r = absurd (omega arith)
before_retired (suc n) (x ∷ objects) (suc id) change l r = rw (cons_changed x objects id change (slice_get objects id)) (r.0, before_retired n objects id change (omega arith) r.1)

pub fewer_retired : (m n : ℕ) (objects : List Object) → m ≤ n → AreRetired n objects → AreRetired m objects
fewer_retired zero n objects l r = tt
fewer_retired (suc m) zero objects l r = absurd (omega arith)
fewer_retired (suc m) (suc n) [] l r = absurd r
fewer_retired (suc m) (suc n) (x ∷ objects) l r = (r.0, fewer_retired m n objects (omega arith) r.1)

pub replaced_retired : (n m : ℕ) (objects : List Object) (id : ℕ) (after : Object) → m ≤ n → (is_function (kind_of after) ≡ true → m ≤ id)
    → AreRetired n objects → AreRetired m (changed_one objects id (renewed_by after))
replaced_retired n m objects id (o.Fun iface target captures) l h r = before_retired m objects id (renewed_by (o.Fun iface target captures)) (h refl) (fewer_retired m n objects l r)
replaced_retired n m objects id after l h r = renewal_retired m objects id after refl (fewer_retired m n objects l r)

-- objects that may have come behind others
pub came_behind : {X E : Type 0} (r : Result X E) (n : ℕ) (new old more : List Object) → OnOk r (new ≡ old ++ more) → OnErr r (new ≡ old) → AreRetired n old → AreRetired n new
came_behind (Ok x) n new old more ok err r = subst (AreRetired n) (sym ok) (retired_more n old more r)
came_behind (Err x) n new old more ok err r = subst (AreRetired n) (sym err) r
