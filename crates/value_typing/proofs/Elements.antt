-- An element of an array is of the element type.
use Rattle.std.proofs.Common.{◌≡◌, ℕ, zero, suc, true, List, [], ◌∷◌, Some, refl, subst, slice_get}
use Rattle.std.specs.Prelude.{Bool, false, if◌then◌else◌}
use Rattle.pl_types.specs.declared.ty.Ty.{Ty, out-Ty}
use Rattle.pl_types.specs.declared.ty.Ty.TheOpen.{Ty-F}
use Rattle.pl_types.specs.declared.ty.Ty.TheViews.{outs-Array}
use Rattle.object_values.specs.declared.object.Object.{Object}
use Rattle.object_values.specs.declared.object.Object.TheVariants as o
use Rattle.object_values.specs.declared.value.Value.{Value}
use Rattle.object_values.specs.declared.value.Value.TheVariants as v
use Rattle.object_heap.specs.Fits.{kinds, passes, is_array_of, has_layer, Rules, Typed, layer_asked, is_element, AreElements, ObjectFits, ObjectsFit}
use Rattle.object_heap.specs.Objects.{Kind, kind_of}
use Rattle.object_heap.specs.Parts.{object_items, items_of}
use Rattle.object_heap.proofs.TypeLemmas.{types_exact}
use Rattle.value_typing.specs.Typing.{is_typed_layer}
use Rattle.value_typing.specs.Laws.{ElementsAreTyped}

element_at : (typed : Typed) (ks : List Kind) (elem : Ty) (items : List Value) (at : ℕ) (value : Value) → AreElements typed ks elem items → slice_get items at ≡ Some value
    → is_element typed ks elem value ≡ true
element_at typed ks elem [] at value f e = cc
element_at typed ks elem (item ∷ items) zero value f e = let same : item ≡ value = cc in subst (λ value. is_element typed ks elem value ≡ true) same f.0
element_at typed ks elem (item ∷ items) (suc at) value f e = element_at typed ks elem items at value f.1 e

own_element : (rules : Rules) (ks : List Kind) (elem : Ty) (object : Object) (at : ℕ) (value : Value) → ObjectFits rules ks object → is_array_of elem (kind_of object) ≡ true
    → slice_get (object_items object) at ≡ Some value → is_element rules.typed ks elem value ≡ true
own_element rules ks elem (o.Array own items) at value f h e =
    subst (λ elem. is_element rules.typed ks elem value ≡ true) (types_exact own elem h) (element_at rules.typed ks own items at value f.2 e)
own_element rules ks elem object at value f h e = cc

element_there : (rules : Rules) (ks : List Kind) (elem : Ty) (objects : List Object) (id at : ℕ) (value : Value) → ObjectsFit rules ks objects
    → passes (is_array_of elem) (slice_get (kinds objects) id) ≡ true → slice_get (items_of objects id) at ≡ Some value → is_element rules.typed ks elem value ≡ true
element_there rules ks elem [] id at value f h e = cc
element_there rules ks elem (object ∷ objects) zero at value f h e = own_element rules ks elem object at value f.0 h e
element_there rules ks elem (object ∷ objects) (suc id) at value f h e = element_there rules ks elem objects id at value f.1 h e

asked_is : (b : Bool) → b ≡ true → (x : Bool) → (if b then x else true) ≡ true → x ≡ true
asked_is true a x h = h
asked_is false a x h = cc

layer_typed : (ks : List Kind) (l : Ty-F Ty) (value : Value) → has_layer ks l value ≡ true → is_typed_layer ks l value ≡ true
layer_typed ks Ty-F.Void value h = refl
layer_typed ks Ty-F.Null value h = cc
layer_typed ks Ty-F.Def value h = h
layer_typed ks (Ty-F.Prim p) value h = h
layer_typed ks (Ty-F.Class class) value h = h
layer_typed ks (Ty-F.Array elem) value h = h

pub elements_are_typed : ElementsAreTyped
elements_are_typed rules objects id at elem value f asked h e =
    let array = subst (λ (l : Ty-F Ty). is_typed_layer (kinds objects) l (v.Ref id) ≡ true) (outs-Array elem) h in
    layer_typed (kinds objects) (out-Ty elem) value
    (asked_is (layer_asked rules.typed (out-Ty elem)) asked (has_layer (kinds objects) (out-Ty elem) value)
    (element_there rules (kinds objects) elem objects id at value f.each array e))
