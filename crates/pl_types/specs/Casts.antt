-- The casts between types.
use Rattle.std.specs.List.{AllByRecursion}
use Rattle.std.specs.Prelude.{◌≡◌, ℕ, Bool, true, false, not, ◌&&◌, ◌||◌, ◌==◌, if◌then◌else◌, List, [], ◌∷◌, Option, Some, None}
use Rattle.pl_types.specs.declared.classes.TheConstants.{OBJECT, NUMBER, STRING, BYTE, SHORT, INTEGER, LONG, CHARACTER, BOOLEAN}
use Rattle.pl_types.specs.declared.primitive.Primitive.{Primitive}
use Rattle.pl_types.specs.declared.primitive.Primitive.TheVariants as prim
use Rattle.pl_types.specs.declared.ty.Ty.{Ty, out-Ty}
use Rattle.pl_types.specs.declared.ty.Ty.TheOpen.{Ty-F}
use Rattle.pl_types.specs.declared.conversion.Cast.{Cast}
use Rattle.pl_types.specs.declared.conversion.Cast.TheVariants.{Keep, Number, Wrap, Unwrap, Implicit, Explicit, CharToText, TextToChar}
use Rattle.pl_types.specs.Types.{same_primitives, same_types}

-- the class of a primitive's box
abbrev pub box_of : Primitive → ℕ
box_of prim.Boolean = BOOLEAN
box_of prim.Byte = BYTE
box_of prim.Short = SHORT
box_of prim.Char = CHARACTER
box_of prim.Int = INTEGER
box_of prim.Long = LONG

-- the primitive whose box a class is, if it is one
abbrev pub unboxed : ℕ → Option Primitive
unboxed class =
    if class == BOOLEAN then Some prim.Boolean
    else (if class == BYTE then Some prim.Byte
    else (if class == SHORT then Some prim.Short
    else (if class == CHARACTER then Some prim.Char
    else (if class == INTEGER then Some prim.Int
    else (if class == LONG then Some prim.Long
    else None)))))

abbrev pub is_number : Primitive → Bool
is_number prim.Boolean = false
is_number p = true

-- the widening conversions (Java Language Specification, 5.1.2)
abbrev pub widens : Primitive → Primitive → Bool
widens prim.Byte prim.Short = true
widens prim.Byte prim.Int = true
widens prim.Byte prim.Long = true
widens prim.Short prim.Int = true
widens prim.Short prim.Long = true
widens prim.Char prim.Int = true
widens prim.Char prim.Long = true
widens prim.Int prim.Long = true
widens p q = false

-- a type to itself, or to one that it widens to
abbrev pub keeps : Primitive → Primitive → Bool
keeps p q = same_primitives p q || widens p q

-- a number to another, where that may lose bits
abbrev pub narrows : Primitive → Primitive → Bool
narrows p q = is_number p && is_number q && not (keeps p q)

-- A primitive to another or to its box, in a cast that is written or in one that is not.
abbrev pub reaches : Primitive → Primitive → Bool → Bool
reaches p q written = keeps p q || (written && narrows p q)

-- Where a row of the table holds: for every cast, for one that typing adds, or for one that is written.
pub data When : Type 0 where
  Always : When
  Added : When
  Written : When

-- A row: where it holds, and from which type to which it gives which cast. The test of classes says whether one is
-- another or below it. A type is given by its outermost layer.
pub record Row : Type 0 where
  pub when : When
  pub cast : (ℕ → ℕ → Bool) → Ty-F Ty → Ty-F Ty → Option Cast

abbrev pub only_if : Bool → Cast → Option Cast
only_if test cast = if test then Some cast else None

-- every type but void to itself
abbrev pub to_itself : Ty-F Ty → Ty-F Ty → Option Cast
to_itself Ty-F.Null Ty-F.Null = Some Keep
to_itself Ty-F.Def Ty-F.Def = Some Keep
to_itself (Ty-F.Prim p) (Ty-F.Prim q) = only_if (same_primitives p q) Keep
to_itself (Ty-F.Class a) (Ty-F.Class b) = only_if (a == b) Keep
to_itself (Ty-F.Array t) (Ty-F.Array u) = only_if (same_types t u) Keep
to_itself from to = None

-- null to every type that is no primitive
abbrev pub null_to : Ty-F Ty → Ty-F Ty → Option Cast
null_to Ty-F.Null Ty-F.Def = Some Keep
null_to Ty-F.Null (Ty-F.Class class) = Some Keep
null_to Ty-F.Null (Ty-F.Array element) = Some Keep
null_to from to = None

-- a number to a wider one
abbrev pub widening : Ty-F Ty → Ty-F Ty → Option Cast
widening (Ty-F.Prim p) (Ty-F.Prim q) = only_if (widens p q) (Number p q)
widening from to = None

-- a number to any other
abbrev pub narrowing : Ty-F Ty → Ty-F Ty → Option Cast
narrowing (Ty-F.Prim p) (Ty-F.Prim q) = only_if (narrows p q) (Number p q)
narrowing from to = None

-- what a primitive and the primitive of a class, if it is a box, give
abbrev pub wrapped_as : (Primitive → Primitive → Bool) → Primitive → Option Primitive → Option Cast
wrapped_as test p None = None
wrapped_as test p (Some q) = only_if (test p q) (Wrap p q)

-- a primitive to its box, and to that of a type which it widens to
abbrev pub boxing : Ty-F Ty → Ty-F Ty → Option Cast
boxing (Ty-F.Prim p) (Ty-F.Class class) = wrapped_as keeps p (unboxed class)
boxing from to = None

-- a number to any other box of a number
abbrev pub boxing_narrowed : Ty-F Ty → Ty-F Ty → Option Cast
boxing_narrowed (Ty-F.Prim p) (Ty-F.Class class) = wrapped_as narrows p (unboxed class)
boxing_narrowed from to = None

-- whether a class is neither a box nor String, by the primitive that it is a box of and whether it is String
abbrev pub is_plain : Option Primitive → Bool → Bool
is_plain None text = not text
is_plain (Some p) text = false

-- a primitive to what stands above its box
abbrev pub boxing_to_parent : (ℕ → ℕ → Bool) → Ty-F Ty → Ty-F Ty → Option Cast
boxing_to_parent below (Ty-F.Prim p) (Ty-F.Class class) = only_if (is_plain (unboxed class) (class == STRING) && below (box_of p) class) (Wrap p p)
boxing_to_parent below from to = None

-- a primitive to def
abbrev pub boxing_to_def : Ty-F Ty → Ty-F Ty → Option Cast
boxing_to_def (Ty-F.Prim p) Ty-F.Def = Some (Wrap p p)
boxing_to_def from to = None

abbrev pub unwrapped_as : (Primitive → Primitive → Bool) → Option Primitive → Primitive → Option Cast
unwrapped_as test None q = None
unwrapped_as test (Some p) q = only_if (test p q) (Unwrap p q)

-- a box to its primitive, and to what that widens to
abbrev pub unboxing : Ty-F Ty → Ty-F Ty → Option Cast
unboxing (Ty-F.Class class) (Ty-F.Prim q) = unwrapped_as keeps (unboxed class) q
unboxing from to = None

-- a box of a number to any other number
abbrev pub unboxing_narrowed : Ty-F Ty → Ty-F Ty → Option Cast
unboxing_narrowed (Ty-F.Class class) (Ty-F.Prim q) = unwrapped_as narrows (unboxed class) q
unboxing_narrowed from to = None

-- a class to one above it
abbrev pub to_parent : (ℕ → ℕ → Bool) → Ty-F Ty → Ty-F Ty → Option Cast
to_parent below (Ty-F.Class a) (Ty-F.Class b) = only_if (below a b) Keep
to_parent below from to = None

-- a class to one below it
abbrev pub to_child : (ℕ → ℕ → Bool) → Ty-F Ty → Ty-F Ty → Option Cast
to_child below (Ty-F.Class a) (Ty-F.Class b) = only_if (below b a && not (below a b) && not (a == b)) Explicit
to_child below from to = None

-- a class or an array to def
abbrev pub to_def : Ty-F Ty → Ty-F Ty → Option Cast
to_def (Ty-F.Class class) Ty-F.Def = Some Keep
to_def (Ty-F.Array element) Ty-F.Def = Some Keep
to_def from to = None

-- def to a primitive, a class or an array, which is found when the script runs
abbrev pub from_def : Cast → Ty-F Ty → Ty-F Ty → Option Cast
from_def cast Ty-F.Def (Ty-F.Prim q) = Some cast
from_def cast Ty-F.Def (Ty-F.Class class) = Some cast
from_def cast Ty-F.Def (Ty-F.Array element) = Some cast
from_def cast from to = None

-- an array to Object
abbrev pub array_to_object : Ty-F Ty → Ty-F Ty → Option Cast
array_to_object (Ty-F.Array element) (Ty-F.Class class) = only_if (class == OBJECT) Keep
array_to_object from to = None

-- Object and Number to a primitive, as def goes
abbrev pub object_to_primitive : Ty-F Ty → Ty-F Ty → Option Cast
object_to_primitive (Ty-F.Class class) (Ty-F.Prim q) = only_if (class == OBJECT || class == NUMBER) Explicit
object_to_primitive from to = None

-- char to String
abbrev pub char_to_text : Ty-F Ty → Ty-F Ty → Option Cast
char_to_text (Ty-F.Prim p) (Ty-F.Class class) = only_if (class == STRING && same_primitives p prim.Char) CharToText
char_to_text from to = None

-- String to char
abbrev pub text_to_char : Ty-F Ty → Ty-F Ty → Option Cast
text_to_char (Ty-F.Class class) (Ty-F.Prim q) = only_if (class == STRING && same_primitives q prim.Char) TextToChar
text_to_char from to = None

abbrev pub row : When → (Ty-F Ty → Ty-F Ty → Option Cast) → Row
row when cast = record { when = when; cast = λ below from to. cast from to }

abbrev pub row_by : When → ((ℕ → ℕ → Bool) → Ty-F Ty → Ty-F Ty → Option Cast) → Row
row_by when cast = record { when = when; cast = cast }

-- The table. No two rows give different casts of the same types at the same place, so their order says nothing.
abbrev pub cast_rows : List Row
cast_rows =
    row Always to_itself
    ∷ row Always null_to
    ∷ row Always widening
    ∷ row Written narrowing
    ∷ row Always boxing
    ∷ row Written boxing_narrowed
    ∷ row_by Always boxing_to_parent
    ∷ row Always boxing_to_def
    ∷ row Always unboxing
    ∷ row Written unboxing_narrowed
    ∷ row_by Always to_parent
    ∷ row_by Written to_child
    ∷ row Always to_def
    ∷ row Added (from_def Implicit)
    ∷ row Written (from_def Explicit)
    ∷ row Always array_to_object
    ∷ row Written object_to_primitive
    ∷ row Written char_to_text
    ∷ row Written text_to_char
    ∷ []

-- whether a row holds for a cast that is written, or for one that is not
abbrev pub holds : When → Bool → Bool
holds Always written = true
holds Added written = not written
holds Written written = written

-- what a row gives
abbrev pub given_by : Row → (ℕ → ℕ → Bool) → Ty-F Ty → Ty-F Ty → Bool → Option Cast
given_by row below from to written = if holds row.when written then row.cast below from to else None

abbrev pub first_of_two : Option Cast → Option Cast → Option Cast
first_of_two None b = b
first_of_two (Some cast) b = Some cast

-- what the first row that gives a cast gives
abbrev pub cast_from : List Row → (ℕ → ℕ → Bool) → Ty-F Ty → Ty-F Ty → Bool → Option Cast
cast_from [] below from to written = None
cast_from (r ∷ rows) below from to written = first_of_two (given_by r below from to written) (cast_from rows below from to written)

unfoldable pub cast_between : (ℕ → ℕ → Bool) → Ty-F Ty → Ty-F Ty → Bool → Option Cast
cast_between = cast_from cast_rows

-- The cast from one type to another: what a row gives, or none where no row gives one.
unfoldable pub cast_of : (ℕ → ℕ → Bool) → Ty → Ty → Bool → Option Cast
cast_of below from to written = cast_between below (out-Ty from) (out-Ty to) written

-- what one row gives, if it gives anything, is the cast
abbrev pub Agrees : Option Cast → Option Cast → Type 0
Agrees None cast = Unit {0}
Agrees (Some given) cast = cast ≡ Some given

-- Each row of the table gives the cast or nothing, so no two rows give different casts.
abbrev pub RowsAgree : (ℕ → ℕ → Bool) → Ty → Ty → Bool → Type 0
RowsAgree below from to written = AllByRecursion (λ r. Agrees (given_by r below (out-Ty from) (out-Ty to) written) (cast_of below from to written)) cast_rows

-- no row of the table gives a cast
abbrev pub NoRowGives : (ℕ → ℕ → Bool) → Ty → Ty → Bool → Type 0
NoRowGives below from to written = AllByRecursion (λ r. given_by r below (out-Ty from) (out-Ty to) written ≡ None) cast_rows
