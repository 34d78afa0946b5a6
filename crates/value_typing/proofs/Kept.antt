-- What the table of casts keeps is of the type that it is cast to, and what it puts in a box too: row by row.
use Rattle.std.proofs.Common.{◌≡◌, ℕ, ◌==◌, ◌||◌, ◌&&◌, Bool, true, false, not, Option, Some, None, List, [], ◌∷◌, refl, sym, subst, slice_get}
use Rattle.std.specs.Prelude.{if◌then◌else◌}
use Rattle.std.proofs.lemmas.Bool.{and_parts, eqb-true}
use Rattle.pl_types.specs.declared.classes.TheConstants.{OBJECT, NUMBER, STRING}
use Rattle.pl_types.specs.declared.conversion.Cast.{Cast}
use Rattle.pl_types.specs.declared.conversion.Cast.TheVariants as cast
use Rattle.pl_types.specs.declared.primitive.Primitive.{Primitive}
use Rattle.pl_types.specs.declared.primitive.Primitive.TheVariants as prim
use Rattle.pl_types.specs.declared.ty.Ty.{Ty, out-Ty}
use Rattle.pl_types.specs.declared.ty.Ty.TheOpen.{Ty-F}
use Rattle.pl_types.specs.Casts.{box_of, unboxed, widens, keeps, narrows, Row, only_if, to_itself, null_to, widening, narrowing, wrapped_as, boxing, boxing_narrowed, is_plain, boxing_to_parent, boxing_to_def, unwrapped_as, unboxing, unboxing_narrowed, to_parent, to_child, to_def, from_def, array_to_object, object_to_primitive, char_to_text, text_to_char, cast_rows, holds, given_by, first_of_two, cast_from, cast_between, cast_of}
use Rattle.pl_types.specs.Classes.{class_is_below}
use Rattle.pl_types.specs.Types.{same_primitives, same_types}
use Rattle.pl_types.proofs.Shapes.{unboxed_is}
use Rattle.object_values.specs.declared.value.Value.{Value}
use Rattle.object_values.specs.declared.value.Value.TheVariants as v
use Rattle.object_heap.specs.Fits.{kinds, passes, kind_is_of, is_array_of, is_primitive, value_is_of, value_is_array}
use Rattle.object_heap.specs.Objects.{Kind}
use Rattle.object_heap.proofs.TypeLemmas.{types_exact}
use Rattle.number_ops.specs.Operators.{is_null}
use Rattle.value_typing.specs.Typing.{is_typed_layer}
use Rattle.value_typing.specs.Laws.{KeptIsTyped, BoxedIsTyped}
use Rattle.value_typing.proofs.Typing.{value_widens}
use Rattle.value_typing.proofs.Casts.{boxed_is}

-- what a cast between two types makes of values, where it is known before they are looked at
abbrev Suits : List Kind → Cast → Ty-F Ty → Ty-F Ty → Type 0
Suits ks cast.Keep from to = (value : Value) → is_typed_layer ks from value ≡ true → is_typed_layer ks to value ≡ true
Suits ks (cast.Wrap p q) from to = (value : Value) → is_primitive q value ≡ true → is_typed_layer ks to value ≡ true
Suits ks other from to = Unit {0}

abbrev SuitsIf : List Kind → Option Cast → Ty-F Ty → Ty-F Ty → Type 0
SuitsIf ks None from to = Unit {0}
SuitsIf ks (Some c) from to = Suits ks c from to

infixr 5 ◌&◌
◌&◌ : {A B : Type 0} → A → B → A × B
a & b = (a, b)

primitives_exact : (p q : Primitive) → same_primitives p q ≡ true → p ≡ q
primitives_exact prim.Boolean prim.Boolean h = refl
primitives_exact prim.Byte prim.Byte h = refl
primitives_exact prim.Short prim.Short h = refl
primitives_exact prim.Char prim.Char h = refl
primitives_exact prim.Int prim.Int h = refl
primitives_exact prim.Long prim.Long h = refl
primitives_exact p q h = cc

null_of_class : (ks : List Kind) (class : ℕ) (value : Value) → is_null value ≡ true → value_is_of ks class value ≡ true
null_of_class ks class v.Null h = refl
null_of_class ks class value h = cc

null_of_array : (ks : List Kind) (elem : Ty) (value : Value) → is_null value ≡ true → value_is_array ks elem value ≡ true
null_of_array ks elem v.Null h = refl
null_of_array ks elem value h = cc

array_there : (elem : Ty) (o : Option Kind) → passes (is_array_of elem) o ≡ true → passes (kind_is_of OBJECT) o ≡ true
array_there elem None h = cc
array_there elem (Some kind) h = refl

array_is_object : (ks : List Kind) (elem : Ty) (value : Value) → value_is_array ks elem value ≡ true → value_is_of ks OBJECT value ≡ true
array_is_object ks elem v.Null h = refl
array_is_object ks elem (v.Ref id) h = array_there elem (slice_get ks id) h
array_is_object ks elem value h = cc

module _ (ks : List Kind) where
  only_suits : (test : Bool) (c : Cast) (from to : Ty-F Ty) → (test ≡ true → Suits ks c from to) → SuitsIf ks (only_if test c) from to
  only_suits true c from to h = h refl
  only_suits false c from to h = tt

  -- ---- row by row

  itself_suits : (from to : Ty-F Ty) → SuitsIf ks (to_itself from to) from to
  itself_suits Ty-F.Null Ty-F.Null = λ value h. h
  itself_suits Ty-F.Def Ty-F.Def = λ value h. refl
  itself_suits (Ty-F.Prim p) (Ty-F.Prim q) =
      only_suits (same_primitives p q) cast.Keep (Ty-F.Prim p) (Ty-F.Prim q) (λ e value h. subst (λ (r : Primitive). is_primitive r value ≡ true) (primitives_exact p q e) h)
  itself_suits (Ty-F.Class a) (Ty-F.Class b) =
      only_suits (a == b) cast.Keep (Ty-F.Class a) (Ty-F.Class b) (λ e value h. subst (λ (c : ℕ). value_is_of ks c value ≡ true) (eqb-true a b e) h)
  itself_suits (Ty-F.Array a) (Ty-F.Array b) =
      only_suits (same_types a b) cast.Keep (Ty-F.Array a) (Ty-F.Array b) (λ e value h. subst (λ (t : Ty). value_is_array ks t value ≡ true) (types_exact a b e) h)
  itself_suits from to = tt

  null_suits : (from to : Ty-F Ty) → SuitsIf ks (null_to from to) from to
  null_suits Ty-F.Null Ty-F.Def = λ value h. refl
  null_suits Ty-F.Null (Ty-F.Class class) = λ value h. null_of_class ks class value h
  null_suits Ty-F.Null (Ty-F.Array elem) = λ value h. null_of_array ks elem value h
  null_suits from to = tt

  widening_suits : (from to : Ty-F Ty) → SuitsIf ks (widening from to) from to
  widening_suits (Ty-F.Prim p) (Ty-F.Prim q) = only_suits (widens p q) (cast.Number p q) (Ty-F.Prim p) (Ty-F.Prim q) (λ e. tt)
  widening_suits from to = tt

  narrowing_suits : (from to : Ty-F Ty) → SuitsIf ks (narrowing from to) from to
  narrowing_suits (Ty-F.Prim p) (Ty-F.Prim q) = only_suits (narrows p q) (cast.Number p q) (Ty-F.Prim p) (Ty-F.Prim q) (λ e. tt)
  narrowing_suits from to = tt

  wrapped_suits : (test : Primitive → Primitive → Bool) (p : Primitive) (class : ℕ) (o : Option Primitive) → unboxed class ≡ o
      → SuitsIf ks (wrapped_as test p o) (Ty-F.Prim p) (Ty-F.Class class)
  wrapped_suits test p class None e = tt
  wrapped_suits test p class (Some q) e =
      only_suits (test p q) (cast.Wrap p q) (Ty-F.Prim p) (Ty-F.Class class)
      (λ _ value h. subst (λ (c : ℕ). value_is_of ks c value ≡ true) (sym (unboxed_is class q e)) (boxed_is ks q value h))

  boxing_suits : (from to : Ty-F Ty) → SuitsIf ks (boxing from to) from to
  boxing_suits (Ty-F.Prim p) (Ty-F.Class class) = wrapped_suits keeps p class (unboxed class) refl
  boxing_suits from to = tt

  boxing_narrowed_suits : (from to : Ty-F Ty) → SuitsIf ks (boxing_narrowed from to) from to
  boxing_narrowed_suits (Ty-F.Prim p) (Ty-F.Class class) = wrapped_suits narrows p class (unboxed class) refl
  boxing_narrowed_suits from to = tt

  boxing_to_parent_suits : (from to : Ty-F Ty) → SuitsIf ks (boxing_to_parent class_is_below from to) from to
  boxing_to_parent_suits (Ty-F.Prim p) (Ty-F.Class class) =
      only_suits (is_plain (unboxed class) (class == STRING) && class_is_below (box_of p) class) (cast.Wrap p p) (Ty-F.Prim p) (Ty-F.Class class)
      (λ e value h. value_widens ks (box_of p) class value (and_parts (is_plain (unboxed class) (class == STRING)) (class_is_below (box_of p) class) e).1 (boxed_is ks p value h))
  boxing_to_parent_suits from to = tt

  boxing_to_def_suits : (from to : Ty-F Ty) → SuitsIf ks (boxing_to_def from to) from to
  boxing_to_def_suits (Ty-F.Prim p) Ty-F.Def = λ value h. refl
  boxing_to_def_suits from to = tt

  unwrapped_suits : (test : Primitive → Primitive → Bool) (o : Option Primitive) (q : Primitive) (from to : Ty-F Ty) → SuitsIf ks (unwrapped_as test o q) from to
  unwrapped_suits test None q from to = tt
  unwrapped_suits test (Some p) q from to = only_suits (test p q) (cast.Unwrap p q) from to (λ e. tt)

  unboxing_suits : (from to : Ty-F Ty) → SuitsIf ks (unboxing from to) from to
  unboxing_suits (Ty-F.Class class) (Ty-F.Prim q) = unwrapped_suits keeps (unboxed class) q (Ty-F.Class class) (Ty-F.Prim q)
  unboxing_suits from to = tt

  unboxing_narrowed_suits : (from to : Ty-F Ty) → SuitsIf ks (unboxing_narrowed from to) from to
  unboxing_narrowed_suits (Ty-F.Class class) (Ty-F.Prim q) = unwrapped_suits narrows (unboxed class) q (Ty-F.Class class) (Ty-F.Prim q)
  unboxing_narrowed_suits from to = tt

  to_parent_suits : (from to : Ty-F Ty) → SuitsIf ks (to_parent class_is_below from to) from to
  to_parent_suits (Ty-F.Class a) (Ty-F.Class b) = only_suits (class_is_below a b) cast.Keep (Ty-F.Class a) (Ty-F.Class b) (λ e value h. value_widens ks a b value e h)
  to_parent_suits from to = tt

  to_child_suits : (from to : Ty-F Ty) → SuitsIf ks (to_child class_is_below from to) from to
  to_child_suits (Ty-F.Class a) (Ty-F.Class b) =
      only_suits (class_is_below b a && not (class_is_below a b) && not (a == b)) cast.Explicit (Ty-F.Class a) (Ty-F.Class b) (λ e. tt)
  to_child_suits from to = tt

  to_def_suits : (from to : Ty-F Ty) → SuitsIf ks (to_def from to) from to
  to_def_suits (Ty-F.Class class) Ty-F.Def = λ value h. refl
  to_def_suits (Ty-F.Array elem) Ty-F.Def = λ value h. refl
  to_def_suits from to = tt

  from_def_added : (from to : Ty-F Ty) → SuitsIf ks (from_def cast.Implicit from to) from to
  from_def_added Ty-F.Def (Ty-F.Prim q) = tt
  from_def_added Ty-F.Def (Ty-F.Class class) = tt
  from_def_added Ty-F.Def (Ty-F.Array elem) = tt
  from_def_added from to = tt

  from_def_written : (from to : Ty-F Ty) → SuitsIf ks (from_def cast.Explicit from to) from to
  from_def_written Ty-F.Def (Ty-F.Prim q) = tt
  from_def_written Ty-F.Def (Ty-F.Class class) = tt
  from_def_written Ty-F.Def (Ty-F.Array elem) = tt
  from_def_written from to = tt

  array_suits : (from to : Ty-F Ty) → SuitsIf ks (array_to_object from to) from to
  array_suits (Ty-F.Array elem) (Ty-F.Class class) =
      only_suits (class == OBJECT) cast.Keep (Ty-F.Array elem) (Ty-F.Class class)
      (λ e value h. subst (λ (c : ℕ). value_is_of ks c value ≡ true) (sym (eqb-true class OBJECT e)) (array_is_object ks elem value h))
  array_suits from to = tt

  object_suits : (from to : Ty-F Ty) → SuitsIf ks (object_to_primitive from to) from to
  object_suits (Ty-F.Class class) (Ty-F.Prim q) = only_suits (class == OBJECT || class == NUMBER) cast.Explicit (Ty-F.Class class) (Ty-F.Prim q) (λ e. tt)
  object_suits from to = tt

  char_suits : (from to : Ty-F Ty) → SuitsIf ks (char_to_text from to) from to
  char_suits (Ty-F.Prim p) (Ty-F.Class class) =
      only_suits (class == STRING && same_primitives p prim.Char) cast.CharToText (Ty-F.Prim p) (Ty-F.Class class) (λ e. tt)
  char_suits from to = tt

  text_suits : (from to : Ty-F Ty) → SuitsIf ks (text_to_char from to) from to
  text_suits (Ty-F.Class class) (Ty-F.Prim q) =
      only_suits (class == STRING && same_primitives q prim.Char) cast.TextToChar (Ty-F.Class class) (Ty-F.Prim q) (λ e. tt)
  text_suits from to = tt

  -- ---- the table

  module _ (from to : Ty-F Ty) where
    abbrev RowsSuit : List Row → Type 0
    RowsSuit [] = Unit {0}
    RowsSuit (r ∷ rs) = SuitsIf ks (r.cast class_is_below from to) from to × RowsSuit rs

    rows_suit : RowsSuit cast_rows
    rows_suit =
        itself_suits from to &
        null_suits from to &
        widening_suits from to &
        narrowing_suits from to &
        boxing_suits from to &
        boxing_narrowed_suits from to &
        boxing_to_parent_suits from to &
        boxing_to_def_suits from to &
        unboxing_suits from to &
        unboxing_narrowed_suits from to &
        to_parent_suits from to &
        to_child_suits from to &
        to_def_suits from to &
        from_def_added from to &
        from_def_written from to &
        array_suits from to &
        object_suits from to &
        char_suits from to &
        text_suits from to &
        tt

    where_held : (held : Bool) (o : Option Cast) → SuitsIf ks o from to → SuitsIf ks (if held then o else None) from to
    where_held true o h = h
    where_held false o h = tt

    either_suits : (a b : Option Cast) → SuitsIf ks a from to → SuitsIf ks b from to → SuitsIf ks (first_of_two a b) from to
    either_suits None b x y = y
    either_suits (Some c) b x y = x

    from_rows : (rs : List Row) (written : Bool) → RowsSuit rs → SuitsIf ks (cast_from rs class_is_below from to written) from to
    from_rows [] written h = tt
    from_rows (r ∷ rs) written h =
        either_suits (given_by r class_is_below from to written) (cast_from rs class_is_below from to written)
        (where_held (holds r.when written) (r.cast class_is_below from to) h.0) (from_rows rs written h.1)

found_suits : (ks : List Kind) (o : Option Cast) (c : Cast) (from to : Ty-F Ty) → o ≡ Some c → SuitsIf ks o from to → Suits ks c from to
found_suits ks None c from to e h = cc
found_suits ks (Some x) c from to e h = let same : x ≡ c = cc in subst (λ (c : Cast). Suits ks c from to) same h

suits : (ks : List Kind) (from to : Ty) (written : Bool) (c : Cast) → cast_of class_is_below from to written ≡ Some c → Suits ks c (out-Ty from) (out-Ty to)
unfolding cast_of cast_between
suits ks from to written c e = found_suits ks _ c (out-Ty from) (out-Ty to) e (from_rows ks (out-Ty from) (out-Ty to) cast_rows written (rows_suit ks (out-Ty from) (out-Ty to)))

pub kept_is_typed : KeptIsTyped
kept_is_typed objects from to written value e h = suits (kinds objects) from to written cast.Keep e value h

pub boxed_is_typed : BoxedIsTyped
boxed_is_typed objects from to written p q value e h = suits (kinds objects) from to written (cast.Wrap p q) e value h
