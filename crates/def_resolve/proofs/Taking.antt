-- Values are of their classes, and function values that take an interface fit the store.
use Rattle.std.proofs.Common.{◌≡◌, ℕ, zero, suc, ◌+◌, ◌-◌, true, ◌||◌, leb, List, [], ◌∷◌, Option, Some, None, length, refl, sym, ap, ◌∙◌, arith}
use Rattle.std.specs.Prelude.{slice_get, option_map, ◌==◌, is_some}
use Rattle.std.proofs.Math.Bool.{or-true}
use Rattle.std.proofs.lemmas.Bool.{and_parts, and_from, eq-eqb, eqb-true, false≢true}
use Rattle.pl_types.specs.Classes.{class_is_below}
use Rattle.pl_types.specs.declared.classes.TheConstants.{OBJECT}
use Rattle.pl_types.specs.declared.ty.Ty.{Ty}
use Rattle.allowlist.specs.Allow.{AllowList, iface_method_of}
use Rattle.allowlist.specs.Index.{member_at}
use Rattle.object_values.specs.declared.object.Object.{Object}
use Rattle.object_values.specs.declared.object.Object.TheVariants as o
use Rattle.object_values.specs.declared.object.Target.{Target}
use Rattle.object_values.specs.declared.object.Target.TheVariants as t
use Rattle.object_values.specs.declared.value.Value.{Value}
use Rattle.object_values.specs.declared.value.Value.TheVariants as v
use Rattle.object_heap.specs.Fits.{Captures, Lambda, ObjectFits, Rules, Takes, arity_fits, arity_of, class_is_of, class_of_kind, have_types, has_type, is_arity, kind_is_of, kinds, lambda_fits, passes, value_is_of}
use Rattle.object_heap.specs.Fits as heap
use Rattle.object_heap.specs.Objects.{Kind, kind_of}
use Rattle.object_heap.specs.Parts.{asked}
use Rattle.def_resolve.specs.Functions.{fits, method_fits, target_fits}
use Rattle.def_resolve.specs.Laws.{AreParameters, parameters_of}
use Rattle.def_resolve.specs.Resolution.{class_of, class_of_object}
use Rattle.def_resolve.proofs.Tables.{method_arity}

-- ---- values are of their classes

kind_at : (objects : List Object) (id : ℕ) → slice_get (kinds objects) id ≡ option_map kind_of (slice_get objects id)
kind_at [] id = refl
kind_at (object ∷ objects) zero = refl
kind_at (object ∷ objects) (suc id) = kind_at objects id

kind_is : (class above : ℕ) (kind : Kind) → class_of_kind kind ≡ Some class → class_is_below class above ≡ true → kind_is_of above kind ≡ true
kind_is class above kind e h = ap (λ c. (above == OBJECT) || class_is_of above c) e ∙ ap (λ t. (above == OBJECT) || t) h ∙ or-true (above == OBJECT)

object_is : (found : Option Object) (class above : ℕ) → asked class_of_object None found ≡ Some class → class_is_below class above ≡ true → passes (kind_is_of above) (option_map kind_of found) ≡ true
object_is None class above e h = cc
object_is (Some object) class above e h = kind_is class above (kind_of object) e h

below_is : (known class above : ℕ) → Some known ≡ Some class → class_is_below class above ≡ true → class_is_below known above ≡ true
below_is known class above e h = let s : known ≡ class = cc in ap (λ c. class_is_below c above) s ∙ h

pub of_its_class : (objects : List Object) (value : Value) (class above : ℕ) → class_of objects value ≡ Some class → class_is_below class above ≡ true → value_is_of (kinds objects) above value ≡ true
of_its_class objects v.Null class above e h = cc
of_its_class objects (v.Ref id) class above e h = ap (passes (kind_is_of above)) (kind_at objects id) ∙ object_is (slice_get objects id) class above e h
of_its_class objects (v.Bool flag) class above e h = below_is _ class above e h
of_its_class objects (v.Byte number) class above e h = below_is _ class above e h
of_its_class objects (v.Short number) class above e h = below_is _ class above e h
of_its_class objects (v.Char unit) class above e h = below_is _ class above e h
of_its_class objects (v.Int number) class above e h = below_is _ class above e h
of_its_class objects (v.Long number) class above e h = below_is _ class above e h
of_its_class objects (v.Str text) class above e h = below_is _ class above e h

-- ---- function values that take an interface

types_length : (ks : List Kind) (types : List Ty) (values : List Value) → have_types ks types values ≡ true → length types ≡ length values
types_length ks [] [] h = refl
types_length ks [] (value ∷ values) h = absurd (false≢true h)
types_length ks (ty ∷ types) [] h = absurd (false≢true h)
types_length ks (ty ∷ types) (value ∷ values) h = ap suc (types_length ks types values (and_parts (has_type ks ty value) (have_types ks types values) h).1)

arity_is : (iface arity : ℕ) → arity_of iface ≡ Some arity → (further : ℕ) → further ≡ arity → arity_fits (Some iface) further ≡ true
arity_is iface arity known further e = ap (λ a. is_arity a further) known ∙ eq-eqb arity further (sym e)

lambda_takes : (ks : List Kind) (captures : List Value) (lambda : Lambda) (iface arity : ℕ) → arity_of iface ≡ Some arity → parameters_of lambda ≡ length captures + arity
    → lambda_fits ks None captures (Some lambda) ≡ true → lambda_fits ks (Some iface) captures (Some lambda) ≡ true
lambda_takes ks captures (Captures captured further) iface arity known e h =
    let p = and_parts (have_types ks captured captures) true h in
    let l = types_length ks captured captures p.0 in
    and_from (have_types ks captured captures) (arity_fits (Some iface) further) p.0 (arity_is iface arity known further (omega arith))
lambda_takes ks captures (Takes parameters) iface arity known e h =
    let p = and_parts (leb (length captures) parameters) true h in
    and_from (leb (length captures) parameters) (arity_fits (Some iface) (parameters - length captures)) p.0 (arity_is iface arity known (parameters - length captures) (omega arith))

known_takes : (ks : List Kind) (captures : List Value) (lambda : Option Lambda) (iface arity params : ℕ) → arity_of iface ≡ Some arity → option_map parameters_of lambda ≡ Some params → params ≡ length captures + arity
    → lambda_fits ks None captures lambda ≡ true → lambda_fits ks (Some iface) captures lambda ≡ true
known_takes ks captures None iface arity params known e p h = absurd (false≢true h)
known_takes ks captures (Some lambda) iface arity params known e p h =
    let s : parameters_of lambda ≡ params = cc in
    lambda_takes ks captures lambda iface arity known (s ∙ p) h

target_takes : (allow : AllowList) (rules : Rules) (ks : List Kind) (target : Target) (captures : List Value) (params iface arity : ℕ) → arity_of iface ≡ Some arity → AreParameters rules target params
    → target_fits allow (length captures) params arity target ≡ true → heap.target_fits rules ks None captures target ≡ true → heap.target_fits rules ks (Some iface) captures target ≡ true
target_takes allow rules ks (t.Lambda owner number) captures params iface arity known e h f =
    known_takes ks captures (rules.lambda owner number) iface arity params known e (eqb-true params (length captures + arity) h) f
target_takes allow rules ks (t.Member class name) captures params iface arity known e h f = f
target_takes allow rules ks (t.New made) captures params iface arity known e h f = f
target_takes allow rules ks t.Gone captures params iface arity known e h f = f

method_is : (allow : AllowList) (target : Target) (captures : List Value) (params : ℕ) (method : Option ℕ) → method_fits allow (o.Fun None target captures) params method ≡ true
    → (number : ℕ) × (method ≡ Some number) × (target_fits allow (length captures) params (length (member_at number).params) target ≡ true)
method_is allow target captures params None h = absurd (false≢true h)
method_is allow target captures params (Some number) h = (number, refl, h)

pub takes_interface : (allow : AllowList) (rules : Rules) (ks : List Kind) (target : Target) (captures : List Value) (params iface : ℕ)
    → AreParameters rules target params → fits allow (o.Fun None target captures) params iface ≡ true
    → ObjectFits rules ks (o.Fun None target captures) → ObjectFits rules ks (o.Fun (Some iface) target captures)
takes_interface allow rules ks target captures params iface e h f =
    let m = method_is allow target captures params (iface_method_of iface) h in
    let known = (method_arity iface m.0 m.1).0 in
    (ap is_some known, target_takes allow rules ks target captures params iface (length (member_at m.0).params) known e m.2 f.1, f.2)
