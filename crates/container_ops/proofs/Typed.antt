-- Types of arrays and of their elements.
use Rattle.std.proofs.Common.{◌≡◌, ℕ, suc, ◌<◌, ◌≤◌, Bool, true, Some, List, refl, ap, sym, ◌∙◌, subst, arith, slice_get}
use Rattle.pl_types.specs.declared.primitive.Primitive.{Primitive}
use Rattle.pl_types.specs.declared.primitive.Primitive.TheVariants as prim
use Rattle.pl_types.specs.declared.ty.Ty.{Ty}
use Rattle.pl_types.specs.declared.ty.Ty.TheVariants as t
use Rattle.pl_types.specs.declared.ty.Ty.TheOpen.{Ty-F}
use Rattle.pl_types.specs.declared.ty.Ty.TheViews.{out-Ty, outs-Array, roll-Ty, roll-out-Ty}
use Rattle.pl_types.specs.declared.ty.Ty.TheFolds.{fold-roll-Ty, map-Ty}
use Rattle.object_values.specs.declared.value.Value.TheVariants as v
use Rattle.object_heap.specs.Fits.{Typed, ValueFits, has_layer, has_type, is_element, is_primitive, is_type, layer_is_type}
use Rattle.object_heap.specs.Objects.{Kind, AnArray}
use Rattle.object_heap.proofs.TypeLemmas.{types_refl}
use Rattle.container_ops.specs.Types.{base_layer, default_of, default_of_layer, default_of_primitive, dimensions_layer, dimensions_of, element_layer, element_of}
use Rattle.container_ops.proofs.Told.{typed_is_element}

-- what a type is, by its outermost layer
pub is_type-out : (of : Ty) → is_type of ≡ layer_is_type (map-Ty Ty Bool is_type (out-Ty of))
unfolding is_type
is_type-out of = ap is_type (sym (roll-out-Ty of)) ∙ fold-roll-Ty Bool layer_is_type (out-Ty of)

pub dimensions-out : (of : Ty) → dimensions_of of ≡ dimensions_layer (map-Ty Ty ℕ dimensions_of (out-Ty of))
dimensions-out of = ap dimensions_of (sym (roll-out-Ty of)) ∙ fold-roll-Ty ℕ dimensions_layer (out-Ty of)

-- the elements of a type of values are of one, and have one `[]` less
layer_element : (of : Ty) (layer : Ty-F Ty) → is_type of ≡ true → layer_is_type (map-Ty Ty Bool is_type layer) ≡ true → is_type (element_layer of layer) ≡ true
layer_element of (Ty-F.Array elem) h k = k
layer_element of layer h k = h

pub element_is_type : (of : Ty) → is_type of ≡ true → is_type (element_of of) ≡ true
element_is_type of h = layer_element of (out-Ty of) h (sym (is_type-out of) ∙ h)

layer_dimensions : (of : Ty) (layer : Ty-F Ty) → dimensions_layer (map-Ty Ty ℕ dimensions_of layer) ≤ suc (dimensions_of (element_layer of layer))
layer_dimensions of (Ty-F.Array elem) = omega arith
layer_dimensions of Ty-F.Void = omega arith
layer_dimensions of Ty-F.Null = omega arith
layer_dimensions of Ty-F.Def = omega arith
layer_dimensions of (Ty-F.Prim p) = omega arith
layer_dimensions of (Ty-F.Class class) = omega arith

pub element_dimensions : (of : Ty) → dimensions_of of ≤ suc (dimensions_of (element_of of))
element_dimensions of = subst (λ (n : ℕ). n ≤ suc (dimensions_of (element_of of))) (sym (dimensions-out of)) (layer_dimensions of (out-Ty of))

-- a reference to an array of its elements is of an array type
layer_typed : (ks : List Kind) (of : Ty) (layer : Ty-F Ty) (id : ℕ) → 0 < dimensions_layer (map-Ty Ty ℕ dimensions_of layer) → slice_get ks id ≡ Some (AnArray (element_layer of layer)) → has_layer ks layer (v.Ref id) ≡ true
layer_typed ks of (Ty-F.Array elem) id h e = rw e (types_refl elem)
layer_typed ks of Ty-F.Void id h e = absurd (omega arith)
layer_typed ks of Ty-F.Null id h e = absurd (omega arith)
layer_typed ks of Ty-F.Def id h e = refl
layer_typed ks of (Ty-F.Prim p) id h e = absurd (omega arith)
layer_typed ks of (Ty-F.Class class) id h e = absurd (omega arith)

pub reference_typed : (ks : List Kind) (of : Ty) (id : ℕ) → 0 < dimensions_of of → slice_get ks id ≡ Some (AnArray (element_of of)) → has_type ks of (v.Ref id) ≡ true
reference_typed ks of id h e = layer_typed ks of (out-Ty of) id (subst (λ (n : ℕ). 0 < n) (dimensions-out of) h) e

-- what elements begin with is of their type
primitive_default : (p : Primitive) → is_primitive p (default_of_primitive p) ≡ true
primitive_default prim.Boolean = refl
primitive_default prim.Byte = refl
primitive_default prim.Short = refl
primitive_default prim.Char = refl
primitive_default prim.Int = refl
primitive_default prim.Long = refl

layer_default : (ks : List Kind) (layer : Ty-F Ty) → layer_is_type (map-Ty Ty Bool is_type layer) ≡ true → has_layer ks layer (default_of_layer layer) ≡ true
layer_default ks (Ty-F.Prim p) h = primitive_default p
layer_default ks (Ty-F.Array elem) h = refl
layer_default ks Ty-F.Void h = cc
layer_default ks Ty-F.Null h = cc
layer_default ks Ty-F.Def h = refl
layer_default ks (Ty-F.Class class) h = refl

pub default_typed : (typed : Typed) (ks : List Kind) (of : Ty) → is_type of ≡ true → is_element typed ks of (default_of of) ≡ true
default_typed typed ks of h = typed_is_element typed ks of (default_of of) (layer_default ks (out-Ty of) (sym (is_type-out of) ∙ h))

fits_primitive : (n : ℕ) (p : Primitive) → ValueFits n (default_of_primitive p)
fits_primitive n prim.Boolean = tt
fits_primitive n prim.Byte = tt
fits_primitive n prim.Short = tt
fits_primitive n prim.Char = tt
fits_primitive n prim.Int = tt
fits_primitive n prim.Long = tt

fits_layer : (n : ℕ) (layer : Ty-F Ty) → ValueFits n (default_of_layer layer)
fits_layer n (Ty-F.Prim p) = fits_primitive n p
fits_layer n layer = tt

pub default_fits : (n : ℕ) (of : Ty) → ValueFits n (default_of of)
default_fits n of = fits_layer n (out-Ty of)

-- ---- a type looked at from the outside in

abbrev IsBase : Ty-F Ty → Type 0
IsBase (Ty-F.Array elem) = ⊥
IsBase layer = Unit {0}

pub base_type : (layer : Ty-F Ty) → IsBase layer → layer_is_type (map-Ty Ty Bool is_type layer) ≡ base_layer layer
base_type Ty-F.Void h = refl
base_type Ty-F.Null h = refl
base_type Ty-F.Def h = refl
base_type (Ty-F.Prim p) h = refl
base_type (Ty-F.Class class) h = refl
base_type (Ty-F.Array elem) h = absurd h

pub inner_is_type : (of elem : Ty) → of ≡ t.Array elem → is_type of ≡ is_type elem
inner_is_type of elem e = ap is_type e ∙ (is_type-out (t.Array elem) ∙ ap (λ (l : Ty-F Ty). layer_is_type (map-Ty Ty Bool is_type l)) (outs-Array elem))

array_of : (of elem : Ty) → out-Ty of ≡ Ty-F.Array elem → of ≡ t.Array elem
array_of of elem e = sym (roll-out-Ty of) ∙ (ap roll-Ty (e ∙ sym (outs-Array elem)) ∙ roll-out-Ty (t.Array elem))

base_if : (of : Ty) (layer : Ty-F Ty) → out-Ty of ≡ layer → ((elem : Ty) → of ≡ t.Array elem → ⊥) → IsBase layer
base_if of (Ty-F.Array elem) e h = h elem (array_of of elem e)
base_if of Ty-F.Void e h = tt
base_if of Ty-F.Null e h = tt
base_if of Ty-F.Def e h = tt
base_if of (Ty-F.Prim p) e h = tt
base_if of (Ty-F.Class class) e h = tt

pub base_is : (of : Ty) → ((elem : Ty) → of ≡ t.Array elem → ⊥) → is_type of ≡ base_layer (out-Ty of)
base_is of h = is_type-out of ∙ base_type (out-Ty of) (base_if of (out-Ty of) refl h)
