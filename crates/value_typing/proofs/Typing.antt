-- Values stay of their types, and a value of a class is of each class above it.
use Rattle.std.proofs.Common.{◌≡◌, ℕ, ◌==◌, ◌||◌, Bool, true, false, Option, Some, None, List, [], ◌∷◌, refl, sym, ap, ◌∙◌, subst, slice_get}
use Rattle.std.proofs.lemmas.Bool.{and_parts, and_from, eqb-true}
use Rattle.pl_types.specs.declared.classes.TheConstants.{OBJECT, BYTE, SHORT, INTEGER, LONG, CHARACTER, BOOLEAN, STRING}
use Rattle.pl_types.specs.declared.ty.Ty.{Ty, out-Ty}
use Rattle.pl_types.specs.declared.ty.Ty.TheOpen.{Ty-F}
use Rattle.pl_types.specs.Classes.{class_is_below, lineage_of, parents_of, class_row, class_table, itself}
use Rattle.pl_types.proofs.Lineages.{complete, descends_from, descends_on}
use Rattle.object_values.specs.declared.value.Value.{Value}
use Rattle.object_values.specs.declared.value.Value.TheVariants as v
use Rattle.object_heap.specs.Fits.{kinds, passes, class_is_of, class_of_kind, kind_is_of, value_is_of, has_layer, Every}
use Rattle.object_heap.specs.Objects.{Kind}
use Rattle.object_heap.proofs.KindLemmas.{Follows, is_element_more}
use Rattle.container_calls.proofs.There.{follows}
use Rattle.value_typing.specs.Typing.{is_typed_layer, is_typed, are_typed}
use Rattle.value_typing.specs.Laws.{TypesStay, AllTypesStay, ClassesWiden, takes_null_layer, NullIsTyped}

-- ---- as objects are added and interfaces are taken

layer_stays : (ks more : List Kind) → Follows ks more → (of : Ty) (value : Value) (l : Ty-F Ty) → out-Ty of ≡ l → is_typed_layer ks l value ≡ true → is_typed_layer more l value ≡ true
layer_stays ks more f of value Ty-F.Void e h = refl
layer_stays ks more f of value Ty-F.Null e h = h
layer_stays ks more f of value Ty-F.Def e h = refl
layer_stays ks more f of value (Ty-F.Prim p) e h = h
layer_stays ks more f of value (Ty-F.Class class) e h =
    ap (λ l. has_layer more l value) (sym e) ∙ is_element_more ks more f Every of value (ap (λ l. has_layer ks l value) e ∙ h)
layer_stays ks more f of value (Ty-F.Array elem) e h =
    ap (λ l. has_layer more l value) (sym e) ∙ is_element_more ks more f Every of value (ap (λ l. has_layer ks l value) e ∙ h)

pub types_stay : TypesStay
types_stay before after of value there h = layer_stays (kinds before) (kinds after) (follows (kinds before) (kinds after) there) of value (out-Ty of) refl h

pub all_types_stay : AllTypesStay
all_types_stay before after [] [] there h = refl
all_types_stay before after [] (value ∷ values) there h = cc
all_types_stay before after (of ∷ ofs) [] there h = cc
all_types_stay before after (of ∷ ofs) (value ∷ values) there h =
    let both = and_parts (is_typed before of value) (are_typed before ofs values) h in
    and_from (is_typed after of value) (are_typed after ofs values) (types_stay before after of value there both.0) (all_types_stay before after ofs values there both.1)

-- ---- to a class above

on_below : (a b c : ℕ) → class_is_below a b ≡ true → class_is_below b c ≡ true → class_is_below a c ≡ true
on_below a b c x y = complete (descends_on (descends_from a b x) (descends_from b c y))

pub below_itself : (class : ℕ) → class_is_below class class ≡ true
below_itself class = complete itself

-- nothing stands above Object
top_alone : (above : ℕ) → class_is_below OBJECT above ≡ true → OBJECT ≡ above
unfolding class_is_below lineage_of parents_of class_row class_table
top_alone above h = eqb-true OBJECT above (alone (OBJECT == above) h)
  where
    alone : (b : Bool) → (b || false) ≡ true → b ≡ true
    alone true h = refl
    alone false h = cc

kind_widens : (class above : ℕ) (kind : Kind) → class_is_below class above ≡ true → kind_is_of class kind ≡ true → kind_is_of above kind ≡ true
kind_widens class above kind x h = either (class == OBJECT) refl h
  where
    of_class : (o : Option ℕ) → class_is_of class o ≡ true → class_is_of above o ≡ true
    of_class None h = cc
    of_class (Some own) h = on_below own class above h x

    right : (a b : Bool) → b ≡ true → (a || b) ≡ true
    right true b h = refl
    right false b h = h

    left : (a b : Bool) → a ≡ true → (a || b) ≡ true
    left true b h = refl
    left false b h = cc

    either : (b : Bool) → (class == OBJECT) ≡ b → (b || class_is_of class (class_of_kind kind)) ≡ true → kind_is_of above kind ≡ true
    either true e h =
        let top : OBJECT ≡ above = top_alone above (ap (λ c. class_is_below c above) (sym (eqb-true class OBJECT e)) ∙ x) in
        subst (λ (c : ℕ). kind_is_of c kind ≡ true) top refl
    either false e h = right (above == OBJECT) (class_is_of above (class_of_kind kind)) (of_class (class_of_kind kind) h)

passing : (class above : ℕ) (o : Option Kind) → class_is_below class above ≡ true → passes (kind_is_of class) o ≡ true → passes (kind_is_of above) o ≡ true
passing class above None x h = cc
passing class above (Some kind) x h = kind_widens class above kind x h

pub value_widens : (ks : List Kind) (class above : ℕ) (value : Value) → class_is_below class above ≡ true → value_is_of ks class value ≡ true → value_is_of ks above value ≡ true
value_widens ks class above v.Null x h = refl
value_widens ks class above (v.Bool a) x h = on_below BOOLEAN class above h x
value_widens ks class above (v.Byte a) x h = on_below BYTE class above h x
value_widens ks class above (v.Short a) x h = on_below SHORT class above h x
value_widens ks class above (v.Char a) x h = on_below CHARACTER class above h x
value_widens ks class above (v.Int a) x h = on_below INTEGER class above h x
value_widens ks class above (v.Long a) x h = on_below LONG class above h x
value_widens ks class above (v.Str a) x h = on_below STRING class above h x
value_widens ks class above (v.Ref id) x h = passing class above (slice_get ks id) x h

pub classes_widen : ClassesWiden
unfolding out-Ty denote.Hole.Carrier.out
classes_widen objects class above value x h = value_widens (kinds objects) class above value x h

-- ---- null

null_layer : (ks : List Kind) (l : Ty-F Ty) → takes_null_layer l ≡ true → is_typed_layer ks l v.Null ≡ true
null_layer ks Ty-F.Void h = refl
null_layer ks Ty-F.Null h = refl
null_layer ks Ty-F.Def h = refl
null_layer ks (Ty-F.Prim p) h = cc
null_layer ks (Ty-F.Class class) h = refl
null_layer ks (Ty-F.Array elem) h = refl

pub null_is_typed : NullIsTyped
null_is_typed objects of h = null_layer (kinds objects) (out-Ty of) h
