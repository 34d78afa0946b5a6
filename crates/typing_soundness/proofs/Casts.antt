-- The casts that typing takes from the table go between the types that they should: each row of the table by itself.
use Rattle.std.proofs.Common.{◌≡◌, ℕ, Bool, true, false, ◌&&◌, ◌||◌, not, List, [], ◌∷◌, Option, Some, None, refl, sym, ap, ◌∙◌, subst, eqb-true, ◌⊎◌, inl, inr}
use Rattle.std.specs.Prelude.{◌==◌, if◌then◌else◌}
use Rattle.std.proofs.lemmas.Bool.{and_parts, or_cases}
use Rattle.pl_types.specs.declared.primitive.Primitive.{Primitive}
use Rattle.pl_types.specs.declared.primitive.Primitive.TheVariants as prim
use Rattle.pl_types.specs.declared.ty.Ty.{Ty, out-Ty}
use Rattle.pl_types.specs.declared.ty.Ty.TheVariants as t
use Rattle.pl_types.specs.declared.ty.Ty.TheOpen.{Ty-F}
use Rattle.pl_types.specs.declared.conversion.Cast.{Cast}
use Rattle.pl_types.specs.declared.conversion.Cast.TheVariants as cast
use Rattle.pl_types.specs.declared.classes.TheConstants.{STRING, OBJECT, NUMBER}
use Rattle.pl_types.specs.Classes.{class_is_below}
use Rattle.pl_types.specs.Types.{same_primitives, same_types}
use Rattle.pl_types.specs.Casts.{box_of, unboxed, is_number, widens, keeps, narrows, Row, only_if, to_itself, null_to, widening, narrowing, wrapped_as, boxing, boxing_narrowed, is_plain, reaches, boxing_to_parent, boxing_to_def, unwrapped_as, unboxing, unboxing_narrowed, to_parent, to_child, to_def, from_def, array_to_object, object_to_primitive, char_to_text, text_to_char, cast_rows, holds, given_by, first_of_two, cast_from, cast_between, cast_of}
use Rattle.pl_types.proofs.Shapes.{unboxing_box}
use Rattle.typing_rules.specs.Rules.Operators.{unboxed_layer, unboxed_of}
use Rattle.source_typing.specs.Types.{is_reference_layer, IsNamed, IsGiven, Converts, Keeps, Same as SameTypes, References as BothReferences, Casts}
use Rattle.source_typing.specs.Agreeing.{IsKnownBefore}
use Rattle.typing_soundness.proofs.Types.{prim_by, class_by, def_layer, aim_layer, IsAim}

-- ---- numbers

primitives_exact : (p q : Primitive) → same_primitives p q ≡ true → p ≡ q
primitives_exact prim.Boolean prim.Boolean h = refl
primitives_exact prim.Byte prim.Byte h = refl
primitives_exact prim.Short prim.Short h = refl
primitives_exact prim.Char prim.Char h = refl
primitives_exact prim.Int prim.Int h = refl
primitives_exact prim.Long prim.Long h = refl
primitives_exact p q h = cc

converts_itself : (p : Primitive) → Converts p p
converts_itself prim.Boolean = tt
converts_itself prim.Byte = tt
converts_itself prim.Short = tt
converts_itself prim.Char = tt
converts_itself prim.Int = tt
converts_itself prim.Long = tt

widening_converts : (p q : Primitive) → widens p q ≡ true → Converts p q
widening_converts prim.Byte prim.Short h = tt
widening_converts prim.Byte prim.Int h = tt
widening_converts prim.Byte prim.Long h = tt
widening_converts prim.Short prim.Int h = tt
widening_converts prim.Short prim.Long h = tt
widening_converts prim.Char prim.Int h = tt
widening_converts prim.Char prim.Long h = tt
widening_converts prim.Int prim.Long h = tt
widening_converts p q h = cc

keeping_converts : (p q : Primitive) → keeps p q ≡ true → Converts p q
keeping_converts p q h = pick (or_cases (same_primitives p q) (widens p q) h)
  where
    pick : (same_primitives p q ≡ true) ⊎ (widens p q ≡ true) → Converts p q
    pick (inl same) = subst (Converts p) (primitives_exact p q same) (converts_itself p)
    pick (inr wider) = widening_converts p q wider

numbers_convert : (p q : Primitive) → is_number p ≡ true → is_number q ≡ true → Converts p q
numbers_convert prim.Boolean q h i = cc
numbers_convert p prim.Boolean h i = cc
numbers_convert p q h i = tt

narrowing_converts : (p q : Primitive) → narrows p q ≡ true → Converts p q
narrowing_converts p q h =
    let first = and_parts (is_number p && is_number q) (not (keeps p q)) h in
    let both = and_parts (is_number p) (is_number q) first.0 in
    numbers_convert p q both.0 both.1

-- ---- what a cast goes between, by the layers of both types

-- a type at which a value is looked for
abbrev IsSought : Ty-F Ty → Type 0
IsSought Ty-F.Void = ⊥
IsSought Ty-F.Null = ⊥
IsSought Ty-F.Def = ⊥
IsSought (Ty-F.Prim p) = Unit {0}
IsSought (Ty-F.Class c) = Unit {0}
IsSought (Ty-F.Array u) = Unit {0}

data KeepsLayer (from to : Ty-F Ty) : Type 0 where
  Same : (p : Primitive) → from ≡ Ty-F.Prim p → to ≡ Ty-F.Prim p → KeepsLayer from to
  References : is_reference_layer from → is_reference_layer to → KeepsLayer from to

abbrev Fits : Cast → Ty-F Ty → Ty-F Ty → Type 0
Fits cast.Keep from to = KeepsLayer from to
Fits (cast.Number p q) from to = (from ≡ Ty-F.Prim p) × (to ≡ Ty-F.Prim q) × Converts p q
Fits (cast.Wrap p q) from to = (from ≡ Ty-F.Prim p) × is_reference_layer to × Converts p q
Fits (cast.Unwrap p q) from to = is_reference_layer from × (to ≡ Ty-F.Prim q) × Converts p q
Fits cast.Implicit from to = is_reference_layer from × IsSought to
Fits cast.Explicit from to = is_reference_layer from × IsSought to
Fits cast.CharToText from to = (from ≡ Ty-F.Prim prim.Char) × (to ≡ Ty-F.Class STRING)
Fits cast.TextToChar from to = is_reference_layer from × (to ≡ Ty-F.Prim prim.Char)

abbrev FitsIf : Option Cast → Ty-F Ty → Ty-F Ty → Type 0
FitsIf None from to = Unit {0}
FitsIf (Some c) from to = Fits c from to

only_fits : (test : Bool) (c : Cast) (from to : Ty-F Ty) → (test ≡ true → Fits c from to) → FitsIf (only_if test c) from to
only_fits true c from to h = h refl
only_fits false c from to h = tt

infixr 5 ◌&◌
◌&◌ : {A B : Type 0} → A → B → A × B
a & b = (a, b)

-- ---- row by row

itself_fits : (from to : Ty-F Ty) → FitsIf (to_itself from to) from to
itself_fits Ty-F.Null Ty-F.Null = References tt tt
itself_fits Ty-F.Def Ty-F.Def = References tt tt
itself_fits (Ty-F.Prim p) (Ty-F.Prim q) =
    only_fits (same_primitives p q) cast.Keep _ _ (λ e. Same p refl (ap Ty-F.Prim (sym (primitives_exact p q e))))
itself_fits (Ty-F.Class a) (Ty-F.Class b) = only_fits (a == b) cast.Keep _ _ (λ e. References tt tt)
itself_fits (Ty-F.Array a) (Ty-F.Array b) = only_fits (same_types a b) cast.Keep _ _ (λ e. References tt tt)
itself_fits from to = tt

null_fits : (from to : Ty-F Ty) → FitsIf (null_to from to) from to
null_fits Ty-F.Null Ty-F.Def = References tt tt
null_fits Ty-F.Null (Ty-F.Class class) = References tt tt
null_fits Ty-F.Null (Ty-F.Array element) = References tt tt
null_fits from to = tt

widening_fits : (from to : Ty-F Ty) → FitsIf (widening from to) from to
widening_fits (Ty-F.Prim p) (Ty-F.Prim q) = only_fits (widens p q) (cast.Number p q) _ _ (λ e. (refl, refl, widening_converts p q e))
widening_fits from to = tt

narrowing_fits : (from to : Ty-F Ty) → FitsIf (narrowing from to) from to
narrowing_fits (Ty-F.Prim p) (Ty-F.Prim q) = only_fits (narrows p q) (cast.Number p q) _ _ (λ e. (refl, refl, narrowing_converts p q e))
narrowing_fits from to = tt

wrapped_fits : (test : Primitive → Primitive → Bool) (p : Primitive) (o : Option Primitive) (class : ℕ)
    → ((q : Primitive) → test p q ≡ true → Converts p q)
    → FitsIf (wrapped_as test p o) (Ty-F.Prim p) (Ty-F.Class class)
wrapped_fits test p None class h = tt
wrapped_fits test p (Some q) class h = only_fits (test p q) (cast.Wrap p q) _ _ (λ e. (refl, tt, h q e))

boxing_fits : (from to : Ty-F Ty) → FitsIf (boxing from to) from to
boxing_fits (Ty-F.Prim p) (Ty-F.Class class) = wrapped_fits keeps p (unboxed class) class (keeping_converts p)
boxing_fits from to = tt

boxing_narrowed_fits : (from to : Ty-F Ty) → FitsIf (boxing_narrowed from to) from to
boxing_narrowed_fits (Ty-F.Prim p) (Ty-F.Class class) = wrapped_fits narrows p (unboxed class) class (narrowing_converts p)
boxing_narrowed_fits from to = tt

boxing_to_def_fits : (from to : Ty-F Ty) → FitsIf (boxing_to_def from to) from to
boxing_to_def_fits (Ty-F.Prim p) Ty-F.Def = (refl, tt, converts_itself p)
boxing_to_def_fits from to = tt

unwrapped_fits : (test : Primitive → Primitive → Bool) (o : Option Primitive) (q : Primitive) (class : ℕ)
    → ((p : Primitive) → test p q ≡ true → Converts p q)
    → FitsIf (unwrapped_as test o q) (Ty-F.Class class) (Ty-F.Prim q)
unwrapped_fits test None q class h = tt
unwrapped_fits test (Some p) q class h = only_fits (test p q) (cast.Unwrap p q) _ _ (λ e. (tt, refl, h p e))

unboxing_fits : (from to : Ty-F Ty) → FitsIf (unboxing from to) from to
unboxing_fits (Ty-F.Class class) (Ty-F.Prim q) = unwrapped_fits keeps (unboxed class) q class (λ p. keeping_converts p q)
unboxing_fits from to = tt

unboxing_narrowed_fits : (from to : Ty-F Ty) → FitsIf (unboxing_narrowed from to) from to
unboxing_narrowed_fits (Ty-F.Class class) (Ty-F.Prim q) = unwrapped_fits narrows (unboxed class) q class (λ p. narrowing_converts p q)
unboxing_narrowed_fits from to = tt

to_def_fits : (from to : Ty-F Ty) → FitsIf (to_def from to) from to
to_def_fits (Ty-F.Class class) Ty-F.Def = References tt tt
to_def_fits (Ty-F.Array element) Ty-F.Def = References tt tt
to_def_fits from to = tt

from_def_added : (from to : Ty-F Ty) → FitsIf (from_def cast.Implicit from to) from to
from_def_added Ty-F.Def (Ty-F.Prim q) = (tt, tt)
from_def_added Ty-F.Def (Ty-F.Class class) = (tt, tt)
from_def_added Ty-F.Def (Ty-F.Array element) = (tt, tt)
from_def_added from to = tt

from_def_written : (from to : Ty-F Ty) → FitsIf (from_def cast.Explicit from to) from to
from_def_written Ty-F.Def (Ty-F.Prim q) = (tt, tt)
from_def_written Ty-F.Def (Ty-F.Class class) = (tt, tt)
from_def_written Ty-F.Def (Ty-F.Array element) = (tt, tt)
from_def_written from to = tt

array_fits : (from to : Ty-F Ty) → FitsIf (array_to_object from to) from to
array_fits (Ty-F.Array element) (Ty-F.Class class) = only_fits (class == OBJECT) cast.Keep _ _ (λ e. References tt tt)
array_fits from to = tt

object_fits : (from to : Ty-F Ty) → FitsIf (object_to_primitive from to) from to
object_fits (Ty-F.Class class) (Ty-F.Prim q) = only_fits (class == OBJECT || class == NUMBER) cast.Explicit _ _ (λ e. (tt, tt))
object_fits from to = tt

char_fits : (from to : Ty-F Ty) → FitsIf (char_to_text from to) from to
char_fits (Ty-F.Prim p) (Ty-F.Class class) = only_fits (class == STRING && same_primitives p prim.Char) cast.CharToText _ _ (λ e.
    let both = and_parts (class == STRING) (same_primitives p prim.Char) e in
    (ap Ty-F.Prim (primitives_exact p prim.Char both.1), ap Ty-F.Class (eqb-true class STRING both.0)))
char_fits from to = tt

text_fits : (from to : Ty-F Ty) → FitsIf (text_to_char from to) from to
text_fits (Ty-F.Class class) (Ty-F.Prim q) = only_fits (class == STRING && same_primitives q prim.Char) cast.TextToChar _ _ (λ e.
    (tt, ap Ty-F.Prim (primitives_exact q prim.Char (and_parts (class == STRING) (same_primitives q prim.Char) e).1)))
text_fits from to = tt

module _ (below : ℕ → ℕ → Bool) where
  boxing_to_parent_fits : (from to : Ty-F Ty) → FitsIf (boxing_to_parent below from to) from to
  boxing_to_parent_fits (Ty-F.Prim p) (Ty-F.Class class) =
      only_fits (is_plain (unboxed class) (class == STRING) && below (box_of p) class) (cast.Wrap p p) _ _ (λ e. (refl, tt, converts_itself p))
  boxing_to_parent_fits from to = tt

  to_parent_fits : (from to : Ty-F Ty) → FitsIf (to_parent below from to) from to
  to_parent_fits (Ty-F.Class a) (Ty-F.Class b) = only_fits (below a b) cast.Keep _ _ (λ e. References tt tt)
  to_parent_fits from to = tt

  to_child_fits : (from to : Ty-F Ty) → FitsIf (to_child below from to) from to
  to_child_fits (Ty-F.Class a) (Ty-F.Class b) = only_fits (below b a && not (below a b) && not (a == b)) cast.Explicit _ _ (λ e. (tt, tt))
  to_child_fits from to = tt

  -- ---- the table

  module _ (from to : Ty-F Ty) where
    abbrev RowFits : Row → Type 0
    RowFits r = FitsIf (r.cast below from to) from to

    abbrev RowsFit : List Row → Type 0
    RowsFit [] = Unit {0}
    RowsFit (r ∷ rs) = RowFits r × RowsFit rs

    rows_fit : RowsFit cast_rows
    rows_fit =
        itself_fits from to &
        null_fits from to &
        widening_fits from to &
        narrowing_fits from to &
        boxing_fits from to &
        boxing_narrowed_fits from to &
        boxing_to_parent_fits from to &
        boxing_to_def_fits from to &
        unboxing_fits from to &
        unboxing_narrowed_fits from to &
        to_parent_fits from to &
        to_child_fits from to &
        to_def_fits from to &
        from_def_added from to &
        from_def_written from to &
        array_fits from to &
        object_fits from to &
        char_fits from to &
        text_fits from to &
        tt

    where_held : (held : Bool) (o : Option Cast) → FitsIf o from to → FitsIf (if held then o else None) from to
    where_held true o h = h
    where_held false o h = tt

    either_fits : (a b : Option Cast) → FitsIf a from to → FitsIf b from to → FitsIf (first_of_two a b) from to
    either_fits None b x y = y
    either_fits (Some c) b x y = x

    from_rows : (rs : List Row) (written : Bool) → RowsFit rs → FitsIf (cast_from rs below from to written) from to
    from_rows [] written h = tt
    from_rows (r ∷ rs) written h =
        either_fits (given_by r below from to written) (cast_from rs below from to written) (where_held (holds r.when written) (r.cast below from to) h.0) (from_rows rs written h.1)

found_fits : (o : Option Cast) (c : Cast) (from to : Ty-F Ty) → o ≡ Some c → FitsIf o from to → Fits c from to
found_fits None c from to e h = cc
found_fits (Some x) c from to e h = let same : x ≡ c = cc in subst (λ c. Fits c from to) same h

fitting : (from to : Ty) (written : Bool) (c : Cast) → cast_of class_is_below from to written ≡ Some c → Fits c (out-Ty from) (out-Ty to)
unfolding cast_of cast_between
fitting from to written c e =
    found_fits _ c (out-Ty from) (out-Ty to) e (from_rows class_is_below (out-Ty from) (out-Ty to) cast_rows written (rows_fit class_is_below (out-Ty from) (out-Ty to)))

-- ---- the same of types

kept : (from to : Ty) → KeepsLayer (out-Ty from) (out-Ty to) → IsGiven cast.Keep from to → Keeps from to
kept from to (Same p a b) given = SameTypes (prim_by from p a ∙ sym (prim_by to p b))
kept from to (References a b) given = BothReferences a b given

named_by : (to : Ty) (l : Ty-F Ty) → IsSought l → aim_layer l to → IsNamed to
named_by to Ty-F.Void s h = absurd s
named_by to Ty-F.Null s h = absurd s
named_by to Ty-F.Def s h = absurd s
named_by to (Ty-F.Prim p) s h = h
named_by to (Ty-F.Class c) s h = h
named_by to (Ty-F.Array u) s h = h

fits_casts : (c : Cast) (from to : Ty) → IsAim to → Fits c (out-Ty from) (out-Ty to) → IsGiven c from to → Casts c from to
fits_casts cast.Keep from to h f given = kept from to f given
fits_casts (cast.Number p q) from to h f given = (prim_by from p f.0, prim_by to q f.1, f.2)
fits_casts (cast.Wrap p q) from to h f given = (prim_by from p f.0, f.1, f.2, given)
fits_casts (cast.Unwrap p q) from to h f given = (f.0, prim_by to q f.1, f.2)
fits_casts cast.Implicit from to h f given = (f.0, named_by to (out-Ty to) f.1 h.layer)
fits_casts cast.Explicit from to h f given = (f.0, named_by to (out-Ty to) f.1 h.layer)
fits_casts cast.CharToText from to h f given = (prim_by from prim.Char f.0, class_by to STRING f.1)
fits_casts cast.TextToChar from to h f given = (f.0, prim_by to prim.Char f.1)

-- a cast of a part, written or added
pub part_casts : (from to : Ty) (written : Bool) (c : Cast) → IsAim to → cast_of class_is_below from to written ≡ Some c
    → Casts c from to
part_casts from to written c aim e = fits_casts c from to aim (fitting from to written c e) (record { written = written; is = e })

-- nothing goes to void
to_void : (c : Cast) (from : Ty-F Ty) → Fits c from Ty-F.Void → ⊥
to_void cast.Keep from (Same p a b) = cc
to_void cast.Keep from (References a b) = b
to_void (cast.Number p q) from f = let same = f.1 in cc
to_void (cast.Wrap p q) from f = f.1
to_void (cast.Unwrap p q) from f = let same = f.1 in cc
to_void cast.Implicit from f = f.1
to_void cast.Explicit from f = f.1
to_void cast.CharToText from f = let same = f.1 in cc
to_void cast.TextToChar from f = let same = f.1 in cc

pub none_to_void : (from to : Ty) (written : Bool) (c : Cast) → out-Ty to ≡ Ty-F.Void
    → cast_of class_is_below from to written ≡ Some c → ⊥
none_to_void from to written c is e = to_void c (out-Ty from) (subst (Fits c (out-Ty from)) is (fitting from to written c e))

-- a cast of a primitive type, and one to def, does not ask for a type when the script runs
prim_known : (c : Cast) (p : Primitive) (to : Ty-F Ty) → Fits c (Ty-F.Prim p) to → IsKnownBefore c
prim_known cast.Keep p to f = tt
prim_known (cast.Number a b) p to f = tt
prim_known (cast.Wrap a b) p to f = tt
prim_known (cast.Unwrap a b) p to f = tt
prim_known cast.Implicit p to f = f.0
prim_known cast.Explicit p to f = f.0
prim_known cast.CharToText p to f = tt
prim_known cast.TextToChar p to f = tt

def_known : (c : Cast) (from : Ty-F Ty) → Fits c from Ty-F.Def → IsKnownBefore c
def_known cast.Keep from f = tt
def_known (cast.Number a b) from f = tt
def_known (cast.Wrap a b) from f = tt
def_known (cast.Unwrap a b) from f = tt
def_known cast.Implicit from f = f.1
def_known cast.Explicit from f = f.1
def_known cast.CharToText from f = tt
def_known cast.TextToChar from f = tt

known_unwrapped : (test : Bool) (p q : Primitive) (c : Cast) → only_if test (cast.Unwrap p q) ≡ Some c → IsKnownBefore c
known_unwrapped true p q c e = let same : cast.Unwrap p q ≡ c = cc in subst IsKnownBefore same tt
known_unwrapped false p q c e = cc

-- nor does one of a primitive type, or of a box, to a primitive type
pub known_from_unboxed : (from : Ty) (p q : Primitive) (written : Bool) (c : Cast) → unboxed_of from ≡ Some p → cast_of class_is_below from (t.Prim q) written ≡ Some c → IsKnownBefore c
known_from_unboxed from p q written c is e = by_layer (out-Ty from) refl is
  where
    by_layer : (l : Ty-F Ty) → out-Ty from ≡ l → unboxed_layer l ≡ Some p → IsKnownBefore c
    by_layer (Ty-F.Prim r) at is = prim_known c r (out-Ty (t.Prim q)) (subst (λ from. Fits c from (out-Ty (t.Prim q))) at (fitting from (t.Prim q) written c e))
    by_layer (Ty-F.Class class) at is =
        known_unwrapped (reaches p q written) p q c
        (unboxing_box class_is_below p q class written (only_if (reaches p q written) (cast.Unwrap p q)) is refl ∙ (ap (λ from. cast_of class_is_below from (t.Prim q) written) (sym (class_by from class at)) ∙ e))
    by_layer Ty-F.Void at is = cc
    by_layer Ty-F.Null at is = cc
    by_layer Ty-F.Def at is = cc
    by_layer (Ty-F.Array u) at is = cc

pub known_to_def : (from : Ty) (written : Bool) (c : Cast) → cast_of class_is_below from t.Def written ≡ Some c → IsKnownBefore c
known_to_def from written c e = def_known c (out-Ty from) (subst (Fits c (out-Ty from)) def_layer (fitting from t.Def written c e))
