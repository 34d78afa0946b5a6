-- What is true of kinds of objects stays true as objects are added and replaced.
use Rattle.std.proofs.Common.{◌≡◌, ℕ, zero, suc, ◌≤◌, ◌==◌, ◌&&◌, ◌||◌, Bool, true, false, Option, Some, None, List, [], ◌∷◌, ◌++◌, length, refl, subst, arith, slice_get, if◌then◌else◌}
use Rattle.std.proofs.lemmas.Bool.{eqb-true}
use Rattle.std.proofs.lemmas.Cmp.{nat_eq_equiv}
use Rattle.pl_types.specs.declared.classes.TheConstants.{OBJECT}
use Rattle.pl_types.specs.declared.ty.Ty.{Ty, out-Ty}
use Rattle.pl_types.specs.declared.ty.Ty.TheOpen.{Ty-F}
use Rattle.object_values.specs.declared.value.Value.{Value}
use Rattle.object_values.specs.declared.value.Value.TheVariants as v
use Rattle.object_values.specs.declared.object.Part.{Part}
use Rattle.object_values.specs.declared.object.Part.TheVariants.{Keys, Values, Entries}
use Rattle.object_values.specs.declared.object.Target.{Target}
use Rattle.object_values.specs.declared.object.Target.TheVariants as t
use Rattle.object_heap.specs.Fits.{passes, is_map, can_iterate, class_is_of, kind_is_of, value_is_of, is_array_of, value_is_array, has_layer, has_type, have_types, Typed, layer_asked, is_element, Rules, Lambda, Captures, Takes, arity_fits, lambda_fits, target_fits}
use Rattle.object_heap.specs.Objects.{Kind, AList, AMap, ASet, AnArray, AView, AnEntry, AnIterator, ABuilder, AFunction, AnException, same_part, may_take, may_become}
use Rattle.object_heap.proofs.TypeLemmas.{types_exact, types_refl}

parts_exact : (p q : Part) → same_part p q ≡ true → p ≡ q
parts_exact Keys Keys h = refl
parts_exact Values Values h = refl
parts_exact Entries Entries h = refl
parts_exact p q h = cc

parts_refl : (p : Part) → same_part p p ≡ true
parts_refl Keys = refl
parts_refl Values = refl
parts_refl Entries = refl

take_refl : (iface : Option ℕ) → may_take iface iface ≡ true
take_refl None = refl
take_refl (Some iface) = nat_eq_equiv.refl iface

pub becomes_refl : (kind : Kind) → may_become kind kind ≡ true
becomes_refl (AList class) = nat_eq_equiv.refl class
becomes_refl (AMap class) = nat_eq_equiv.refl class
becomes_refl (ASet class) = nat_eq_equiv.refl class
becomes_refl (AnArray elem) = types_refl elem
becomes_refl (AView part) = parts_refl part
becomes_refl AnEntry = refl
becomes_refl AnIterator = refl
becomes_refl ABuilder = refl
becomes_refl (AFunction iface) = take_refl iface
becomes_refl (AnException class) = nat_eq_equiv.refl class

function_carried : (P : Kind → Type 0) → ((iface : Option ℕ) → P (AFunction None) → P (AFunction iface)) → (iface after : Option ℕ)
    → may_take iface after ≡ true → P (AFunction iface) → P (AFunction after)
function_carried P f None after h p = f after p
function_carried P f (Some iface) None h p = cc
function_carried P f (Some iface) (Some after) h p = subst (λ (c : ℕ). P (AFunction (Some c))) (eqb-true iface after h) p

-- what is true of a kind is true of what may replace it, if taking an interface keeps it
pub carried : (P : Kind → Type 0) → ((iface : Option ℕ) → P (AFunction None) → P (AFunction iface)) → (kind after : Kind)
    → may_become kind after ≡ true → P kind → P after
carried P f (AList class) (AList after) h p = subst (λ (c : ℕ). P (AList c)) (eqb-true class after h) p
carried P f (AMap class) (AMap after) h p = subst (λ (c : ℕ). P (AMap c)) (eqb-true class after h) p
carried P f (ASet class) (ASet after) h p = subst (λ (c : ℕ). P (ASet c)) (eqb-true class after h) p
carried P f (AnArray elem) (AnArray after) h p = subst (λ (c : Ty). P (AnArray c)) (types_exact elem after h) p
carried P f (AView part) (AView after) h p = subst (λ (c : Part). P (AView c)) (parts_exact part after h) p
carried P f AnEntry AnEntry h p = p
carried P f AnIterator AnIterator h p = p
carried P f ABuilder ABuilder h p = p
carried P f (AFunction iface) (AFunction after) h p = function_carried P f iface after h p
carried P f (AnException class) (AnException after) h p = subst (λ (c : ℕ). P (AnException c)) (eqb-true class after h) p
carried P f kind after h p = cc

-- each object is still there, or one that may replace it, and there may be more
abbrev pub Follows : List Kind → List Kind → Type 0
Follows [] more = Unit {0}
Follows (kind ∷ ks) [] = ⊥
Follows (kind ∷ ks) (after ∷ more) = (may_become kind after ≡ true) × Follows ks more

pub follows_refl : (ks : List Kind) → Follows ks ks
follows_refl [] = tt
follows_refl (kind ∷ ks) = (becomes_refl kind, follows_refl ks)

pub follows_more : (ks more : List Kind) → Follows ks (ks ++ more)
follows_more [] more = tt
follows_more (kind ∷ ks) more = (becomes_refl kind, follows_more ks more)

pub follows_length : (ks more : List Kind) → Follows ks more → length ks ≤ length more
follows_length [] more f = omega arith
follows_length (kind ∷ ks) [] f = absurd f
follows_length (kind ∷ ks) (after ∷ more) f = omega (arith, follows_length ks more f.1)

-- a test that goes on passing
abbrev pub IsKept : (Kind → Bool) → Type 0
IsKept test = (kind after : Kind) → may_become kind after ≡ true → test kind ≡ true → test after ≡ true

pub still_passes : (test : Kind → Bool) → IsKept test → (ks more : List Kind) → Follows ks more → (id : ℕ)
    → passes test (slice_get ks id) ≡ true → passes test (slice_get more id) ≡ true
still_passes test kept [] more f id h = cc
still_passes test kept (kind ∷ ks) [] f id h = absurd f
still_passes test kept (kind ∷ ks) (after ∷ more) f zero h = kept kind after f.0 h
still_passes test kept (kind ∷ ks) (after ∷ more) f (suc id) h = still_passes test kept ks more f.1 id h

pub is_map_kept : IsKept is_map
is_map_kept = carried (λ k. is_map k ≡ true) (λ iface h. h)

pub can_iterate_kept : IsKept can_iterate
can_iterate_kept = carried (λ k. can_iterate k ≡ true) (λ iface h. h)

or_left : (a b : Bool) → (a || false) ≡ true → (a || b) ≡ true
or_left true b h = refl
or_left false b h = cc

kind_is_of_kept : (wanted : ℕ) → IsKept (kind_is_of wanted)
kind_is_of_kept wanted = carried (λ k. kind_is_of wanted k ≡ true) (λ iface h. or_left (wanted == OBJECT) (class_is_of wanted iface) h)

is_array_of_kept : (ty : Ty) → IsKept (is_array_of ty)
is_array_of_kept ty = carried (λ k. is_array_of ty k ≡ true) (λ iface h. h)

value_is_of_more : (ks more : List Kind) → Follows ks more → (wanted : ℕ) (value : Value) → value_is_of ks wanted value ≡ true → value_is_of more wanted value ≡ true
value_is_of_more ks more f wanted (v.Ref id) h = still_passes (kind_is_of wanted) (kind_is_of_kept wanted) ks more f id h
value_is_of_more ks more f wanted value h = h

value_is_array_more : (ks more : List Kind) → Follows ks more → (ty : Ty) (value : Value) → value_is_array ks ty value ≡ true → value_is_array more ty value ≡ true
value_is_array_more ks more f ty (v.Ref id) h = still_passes (is_array_of ty) (is_array_of_kept ty) ks more f id h
value_is_array_more ks more f ty value h = h

has_layer_more : (ks more : List Kind) → Follows ks more → (layer : Ty-F Ty) (value : Value) → has_layer ks layer value ≡ true → has_layer more layer value ≡ true
has_layer_more ks more f (Ty-F.Class class) value h = value_is_of_more ks more f class value h
has_layer_more ks more f (Ty-F.Array elem) value h = value_is_array_more ks more f elem value h
has_layer_more ks more f layer value h = h

both : (a b : Bool) → (a && b) ≡ true → (a ≡ true) × (b ≡ true)
both true b h = (refl, h)
both false b h = cc

and_true : (a b : Bool) → a ≡ true → b ≡ true → (a && b) ≡ true
and_true true b h g = g
and_true false b h g = cc

have_types_more : (ks more : List Kind) → Follows ks more → (types : List Ty) (values : List Value) → have_types ks types values ≡ true → have_types more types values ≡ true
have_types_more ks more f [] [] h = h
have_types_more ks more f [] (value ∷ values) h = h
have_types_more ks more f (ty ∷ types) [] h = h
have_types_more ks more f (ty ∷ types) (value ∷ values) h =
    let parts = both (has_type ks ty value) (have_types ks types values) h in
    and_true (has_type more ty value) (have_types more types values) (has_layer_more ks more f (out-Ty ty) value parts.0) (have_types_more ks more f types values parts.1)

asked_more : (asked before after : Bool) → (before ≡ true → after ≡ true) → (if asked then before else true) ≡ true → (if asked then after else true) ≡ true
asked_more true before after f h = f h
asked_more false before after f h = refl

pub is_element_more : (ks more : List Kind) → Follows ks more → (typed : Typed) (elem : Ty) (value : Value) → is_element typed ks elem value ≡ true → is_element typed more elem value ≡ true
is_element_more ks more f typed elem value h =
    asked_more (layer_asked typed (out-Ty elem)) (has_type ks elem value) (has_type more elem value) (has_layer_more ks more f (out-Ty elem) value) h

lambda_more : (ks more : List Kind) → Follows ks more → (iface : Option ℕ) (captures : List Value) (lambda : Option Lambda)
    → lambda_fits ks iface captures lambda ≡ true → lambda_fits more iface captures lambda ≡ true
lambda_more ks more f iface captures None h = h
lambda_more ks more f iface captures (Some (Captures captured further)) h =
    let parts = both (have_types ks captured captures) (arity_fits iface further) h in
    and_true (have_types more captured captures) (arity_fits iface further) (have_types_more ks more f captured captures parts.0) parts.1
lambda_more ks more f iface captures (Some (Takes parameters)) h = h

pub target_more : (rules : Rules) (ks more : List Kind) → Follows ks more → (iface : Option ℕ) (captures : List Value) (target : Target)
    → target_fits rules ks iface captures target ≡ true → target_fits rules more iface captures target ≡ true
target_more rules ks more f iface captures (t.Lambda owner number) h = lambda_more ks more f iface captures (rules.lambda owner number) h
target_more rules ks more f iface captures target h = h
