-- What the table of casts gives between types of each shape.
use Rattle.std.proofs.Common.{◌≡◌, ℕ, Bool, true, false, not, ◌&&◌, ◌||◌, cond, eqb, Option, Some, None, refl, sym, ap, ◌∙◌, ◌⊎◌, inl, inr}
use Rattle.std.proofs.lemmas.Bool.{eqb-true, eq-eqb, ne_eqb}
use Rattle.pl_types.specs.declared.primitive.Primitive.{Primitive}
use Rattle.pl_types.specs.declared.primitive.Primitive.TheVariants as prim
use Rattle.pl_types.specs.declared.ty.Ty.{Ty, out-Ty}
use Rattle.pl_types.specs.declared.ty.Ty.TheOpen.{Ty-F}
use Rattle.pl_types.specs.declared.ty.Ty.TheViews.{outs-Void, outs-Null, outs-Def, outs-Prim, outs-Class, outs-Array}
use Rattle.pl_types.specs.declared.ty.Ty.TheVariants.{Void, Null, Def, Prim, Class, Array}
use Rattle.pl_types.specs.declared.conversion.Cast.{Cast}
use Rattle.pl_types.specs.declared.conversion.Cast.TheVariants.{Keep, Number, Wrap, Unwrap, Implicit, Explicit, CharToText, TextToChar}
use Rattle.pl_types.specs.Types.{same_primitives, same_types}
use Rattle.pl_types.specs.Casts.{cast_of, cast_between, only_if, first_of_two, keeps, widens, narrows, reaches, unboxed, box_of, is_plain, wrapped_as, unwrapped_as}

from_void : (below : ℕ → ℕ → Bool) (to : Ty-F Ty) (w : Bool) → cast_between below Ty-F.Void to w ≡ None
unfolding cast_between
from_void below to true = refl
from_void below to false = refl

null_void : (below : ℕ → ℕ → Bool) (w : Bool) → cast_between below Ty-F.Null Ty-F.Void w ≡ None
unfolding cast_between
null_void below true = refl
null_void below false = refl

null_null : (below : ℕ → ℕ → Bool) (w : Bool) → cast_between below Ty-F.Null Ty-F.Null w ≡ Some Keep
unfolding cast_between
null_null below true = refl
null_null below false = refl

null_def : (below : ℕ → ℕ → Bool) (w : Bool) → cast_between below Ty-F.Null Ty-F.Def w ≡ Some Keep
unfolding cast_between
null_def below true = refl
null_def below false = refl

null_prim : (below : ℕ → ℕ → Bool) (q : Primitive) (w : Bool) → cast_between below Ty-F.Null (Ty-F.Prim q) w ≡ None
unfolding cast_between
null_prim below q true = refl
null_prim below q false = refl

null_class : (below : ℕ → ℕ → Bool) (c : ℕ) (w : Bool) → cast_between below Ty-F.Null (Ty-F.Class c) w ≡ Some Keep
unfolding cast_between
null_class below c true = refl
null_class below c false = refl

null_array : (below : ℕ → ℕ → Bool) (t : Ty) (w : Bool) → cast_between below Ty-F.Null (Ty-F.Array t) w ≡ Some Keep
unfolding cast_between
null_array below t true = refl
null_array below t false = refl

def_void : (below : ℕ → ℕ → Bool) (w : Bool) → cast_between below Ty-F.Def Ty-F.Void w ≡ None
unfolding cast_between
def_void below true = refl
def_void below false = refl

def_null : (below : ℕ → ℕ → Bool) (w : Bool) → cast_between below Ty-F.Def Ty-F.Null w ≡ None
unfolding cast_between
def_null below true = refl
def_null below false = refl

def_def : (below : ℕ → ℕ → Bool) (w : Bool) → cast_between below Ty-F.Def Ty-F.Def w ≡ Some Keep
unfolding cast_between
def_def below true = refl
def_def below false = refl

def_prim : (below : ℕ → ℕ → Bool) (q : Primitive) (w : Bool) → cast_between below Ty-F.Def (Ty-F.Prim q) w ≡ Some (cond w Explicit Implicit)
unfolding cast_between
def_prim below q true = refl
def_prim below q false = refl

def_class : (below : ℕ → ℕ → Bool) (c : ℕ) (w : Bool) → cast_between below Ty-F.Def (Ty-F.Class c) w ≡ Some (cond w Explicit Implicit)
unfolding cast_between
def_class below c true = refl
def_class below c false = refl

def_array : (below : ℕ → ℕ → Bool) (t : Ty) (w : Bool) → cast_between below Ty-F.Def (Ty-F.Array t) w ≡ Some (cond w Explicit Implicit)
unfolding cast_between
def_array below t true = refl
def_array below t false = refl

prim_void : (below : ℕ → ℕ → Bool) (p : Primitive) (w : Bool) → cast_between below (Ty-F.Prim p) Ty-F.Void w ≡ None
unfolding cast_between
prim_void below p true = refl
prim_void below p false = refl

prim_null : (below : ℕ → ℕ → Bool) (p : Primitive) (w : Bool) → cast_between below (Ty-F.Prim p) Ty-F.Null w ≡ None
unfolding cast_between
prim_null below p true = refl
prim_null below p false = refl

prim_def : (below : ℕ → ℕ → Bool) (p : Primitive) (w : Bool) → cast_between below (Ty-F.Prim p) Ty-F.Def w ≡ Some (Wrap p p)
unfolding cast_between
prim_def below p true = refl
prim_def below p false = refl

prim_array : (below : ℕ → ℕ → Bool) (p : Primitive) (t : Ty) (w : Bool) → cast_between below (Ty-F.Prim p) (Ty-F.Array t) w ≡ None
unfolding cast_between
prim_array below p t true = refl
prim_array below p t false = refl

class_void : (below : ℕ → ℕ → Bool) (a : ℕ) (w : Bool) → cast_between below (Ty-F.Class a) Ty-F.Void w ≡ None
unfolding cast_between
class_void below a true = refl
class_void below a false = refl

class_null : (below : ℕ → ℕ → Bool) (a : ℕ) (w : Bool) → cast_between below (Ty-F.Class a) Ty-F.Null w ≡ None
unfolding cast_between
class_null below a true = refl
class_null below a false = refl

class_def : (below : ℕ → ℕ → Bool) (a : ℕ) (w : Bool) → cast_between below (Ty-F.Class a) Ty-F.Def w ≡ Some Keep
unfolding cast_between
class_def below a true = refl
class_def below a false = refl

class_array : (below : ℕ → ℕ → Bool) (a : ℕ) (t : Ty) (w : Bool) → cast_between below (Ty-F.Class a) (Ty-F.Array t) w ≡ None
unfolding cast_between
class_array below a t true = refl
class_array below a t false = refl

-- one choice in the table's last place, and two of one cast
last : (b : Bool) (x : Cast) → first_of_two (only_if b x) None ≡ only_if b x
last true x = refl
last false x = refl

either_one : (a b : Bool) (x : Cast) → first_of_two (only_if a x) (only_if b x) ≡ only_if (a || b) x
either_one true b x = refl
either_one false b x = refl

or_none : (b : Bool) → b ≡ (b || false)
or_none true = refl
or_none false = refl

wide : (a b : Bool) (x : Cast) → first_of_two (only_if a x) (first_of_two (only_if b x) None) ≡ only_if (a || b) x
wide a b x = ap (first_of_two (only_if a x)) (last b x) ∙ either_one a b x

alone_or : (a : Bool) (x : Cast) → first_of_two (only_if a x) None ≡ only_if (a || false) x
alone_or a x = last a x ∙ ap (λ b. only_if b x) (or_none a)

array_void : (below : ℕ → ℕ → Bool) (t : Ty) (w : Bool) → cast_between below (Ty-F.Array t) Ty-F.Void w ≡ None
unfolding cast_between
array_void below t true = refl
array_void below t false = refl

array_null : (below : ℕ → ℕ → Bool) (t : Ty) (w : Bool) → cast_between below (Ty-F.Array t) Ty-F.Null w ≡ None
unfolding cast_between
array_null below t true = refl
array_null below t false = refl

array_def : (below : ℕ → ℕ → Bool) (t : Ty) (w : Bool) → cast_between below (Ty-F.Array t) Ty-F.Def w ≡ Some Keep
unfolding cast_between
array_def below t true = refl
array_def below t false = refl

array_prim : (below : ℕ → ℕ → Bool) (t : Ty) (q : Primitive) (w : Bool) → cast_between below (Ty-F.Array t) (Ty-F.Prim q) w ≡ None
unfolding cast_between
array_prim below t q true = refl
array_prim below t q false = refl

array_class : (below : ℕ → ℕ → Bool) (t : Ty) (c : ℕ) (w : Bool) → cast_between below (Ty-F.Array t) (Ty-F.Class c) w ≡ only_if (eqb c 0) Keep
unfolding cast_between
array_class below t c true = last (eqb c 0) Keep
array_class below t c false = last (eqb c 0) Keep

array_array : (below : ℕ → ℕ → Bool) (t u : Ty) (w : Bool) → cast_between below (Ty-F.Array t) (Ty-F.Array u) w ≡ only_if (same_types t u) Keep
unfolding cast_between
array_array below t u true = last (same_types t u) Keep
array_array below t u false = last (same_types t u) Keep

class_class : (below : ℕ → ℕ → Bool) (a b : ℕ) (w : Bool) → cast_between below (Ty-F.Class a) (Ty-F.Class b) w ≡ first_of_two (only_if (eqb a b) Keep) (first_of_two (only_if (below a b) Keep) (only_if (w && (below b a && not (below a b) && not (eqb a b))) Explicit))
unfolding cast_between
class_class below a b true = ap (λ o. first_of_two (only_if (eqb a b) Keep) (first_of_two (only_if (below a b) Keep) o)) (last (below b a && not (below a b) && not (eqb a b)) Explicit)
class_class below a b false = refl

prim_prim : (below : ℕ → ℕ → Bool) (p q : Primitive) (w : Bool) → cast_between below (Ty-F.Prim p) (Ty-F.Prim q) w ≡ first_of_two (only_if (same_primitives p q) Keep) (only_if (widens p q || (w && narrows p q)) (Number p q))
unfolding cast_between
prim_prim below p q true = ap (first_of_two (only_if (same_primitives p q) Keep)) (wide (widens p q) (narrows p q) (Number p q))
prim_prim below p q false = ap (first_of_two (only_if (same_primitives p q) Keep)) (alone_or (widens p q) (Number p q))

-- a box is what its primitive says
boxed : (below : ℕ → ℕ → Bool) (p q : Primitive) (w : Bool) → cast_between below (Ty-F.Prim p) (Ty-F.Class (box_of q)) w ≡ only_if (reaches p q w) (Wrap p q)
unfolding cast_between
boxed below p prim.Boolean true = wide (keeps p prim.Boolean) (narrows p prim.Boolean) (Wrap p prim.Boolean)
boxed below p prim.Boolean false = alone_or (keeps p prim.Boolean) (Wrap p prim.Boolean)
boxed below p prim.Byte true = wide (keeps p prim.Byte) (narrows p prim.Byte) (Wrap p prim.Byte)
boxed below p prim.Byte false = alone_or (keeps p prim.Byte) (Wrap p prim.Byte)
boxed below p prim.Short true = wide (keeps p prim.Short) (narrows p prim.Short) (Wrap p prim.Short)
boxed below p prim.Short false = alone_or (keeps p prim.Short) (Wrap p prim.Short)
boxed below p prim.Char true = wide (keeps p prim.Char) (narrows p prim.Char) (Wrap p prim.Char)
boxed below p prim.Char false = alone_or (keeps p prim.Char) (Wrap p prim.Char)
boxed below p prim.Int true = wide (keeps p prim.Int) (narrows p prim.Int) (Wrap p prim.Int)
boxed below p prim.Int false = alone_or (keeps p prim.Int) (Wrap p prim.Int)
boxed below p prim.Long true = wide (keeps p prim.Long) (narrows p prim.Long) (Wrap p prim.Long)
boxed below p prim.Long false = alone_or (keeps p prim.Long) (Wrap p prim.Long)

unboxed_to : (below : ℕ → ℕ → Bool) (p q : Primitive) (w : Bool) → cast_between below (Ty-F.Class (box_of p)) (Ty-F.Prim q) w ≡ only_if (reaches p q w) (Unwrap p q)
unfolding cast_between
unboxed_to below prim.Boolean q true = wide (keeps prim.Boolean q) (narrows prim.Boolean q) (Unwrap prim.Boolean q)
unboxed_to below prim.Boolean q false = alone_or (keeps prim.Boolean q) (Unwrap prim.Boolean q)
unboxed_to below prim.Byte q true = wide (keeps prim.Byte q) (narrows prim.Byte q) (Unwrap prim.Byte q)
unboxed_to below prim.Byte q false = alone_or (keeps prim.Byte q) (Unwrap prim.Byte q)
unboxed_to below prim.Short q true = wide (keeps prim.Short q) (narrows prim.Short q) (Unwrap prim.Short q)
unboxed_to below prim.Short q false = alone_or (keeps prim.Short q) (Unwrap prim.Short q)
unboxed_to below prim.Char q true = wide (keeps prim.Char q) (narrows prim.Char q) (Unwrap prim.Char q)
unboxed_to below prim.Char q false = alone_or (keeps prim.Char q) (Unwrap prim.Char q)
unboxed_to below prim.Int q true = wide (keeps prim.Int q) (narrows prim.Int q) (Unwrap prim.Int q)
unboxed_to below prim.Int q false = alone_or (keeps prim.Int q) (Unwrap prim.Int q)
unboxed_to below prim.Long q true = wide (keeps prim.Long q) (narrows prim.Long q) (Unwrap prim.Long q)
unboxed_to below prim.Long q false = alone_or (keeps prim.Long q) (Unwrap prim.Long q)

-- char to String and back
prim_string : (below : ℕ → ℕ → Bool) (p : Primitive) (w : Bool) → cast_between below (Ty-F.Prim p) (Ty-F.Class 11) w ≡ only_if (w && same_primitives p prim.Char) CharToText
unfolding cast_between
prim_string below p true = last (same_primitives p prim.Char) CharToText
prim_string below p false = refl

string_prim : (below : ℕ → ℕ → Bool) (q : Primitive) (w : Bool) → cast_between below (Ty-F.Class 11) (Ty-F.Prim q) w ≡ only_if (w && same_primitives q prim.Char) TextToChar
unfolding cast_between
string_prim below q true = last (same_primitives q prim.Char) TextToChar
string_prim below q false = refl

object_prim : (below : ℕ → ℕ → Bool) (q : Primitive) (w : Bool) → cast_between below (Ty-F.Class 0) (Ty-F.Prim q) w ≡ only_if w Explicit
unfolding cast_between
object_prim below q true = refl
object_prim below q false = refl

number_prim : (below : ℕ → ℕ → Bool) (q : Primitive) (w : Bool) → cast_between below (Ty-F.Class 3) (Ty-F.Prim q) w ≡ only_if w Explicit
unfolding cast_between
number_prim below q true = refl
number_prim below q false = refl

lift : (below : ℕ → ℕ → Bool) (from to : Ty) (f t : Ty-F Ty) (w : Bool) (r : Option Cast) → out-Ty from ≡ f → out-Ty to ≡ t → cast_between below f t w ≡ r → cast_of below from to w ≡ r
unfolding cast_of
lift below from to f t w r ef et e = ap (λ x. cast_between below x (out-Ty to) w) ef ∙ ap (λ x. cast_between below f x w) et ∙ e

pub null_void_cast : (below : ℕ → ℕ → Bool) (w : Bool) → cast_of below Null Void w ≡ None
null_void_cast below w = lift below Null Void Ty-F.Null Ty-F.Void w _ outs-Null outs-Void (null_void below w)

pub null_null_cast : (below : ℕ → ℕ → Bool) (w : Bool) → cast_of below Null Null w ≡ Some Keep
null_null_cast below w = lift below Null Null Ty-F.Null Ty-F.Null w _ outs-Null outs-Null (null_null below w)

pub null_def_cast : (below : ℕ → ℕ → Bool) (w : Bool) → cast_of below Null Def w ≡ Some Keep
null_def_cast below w = lift below Null Def Ty-F.Null Ty-F.Def w _ outs-Null outs-Def (null_def below w)

pub null_prim_cast : (below : ℕ → ℕ → Bool) (q : Primitive) (w : Bool) → cast_of below Null (Prim q) w ≡ None
null_prim_cast below q w = lift below Null (Prim q) Ty-F.Null (Ty-F.Prim q) w _ outs-Null (outs-Prim q) (null_prim below q w)

pub null_class_cast : (below : ℕ → ℕ → Bool) (c : ℕ) (w : Bool) → cast_of below Null (Class c) w ≡ Some Keep
null_class_cast below c w = lift below Null (Class c) Ty-F.Null (Ty-F.Class c) w _ outs-Null (outs-Class c) (null_class below c w)

pub null_array_cast : (below : ℕ → ℕ → Bool) (t : Ty) (w : Bool) → cast_of below Null (Array t) w ≡ Some Keep
null_array_cast below t w = lift below Null (Array t) Ty-F.Null (Ty-F.Array t) w _ outs-Null (outs-Array t) (null_array below t w)

pub def_void_cast : (below : ℕ → ℕ → Bool) (w : Bool) → cast_of below Def Void w ≡ None
def_void_cast below w = lift below Def Void Ty-F.Def Ty-F.Void w _ outs-Def outs-Void (def_void below w)

pub def_null_cast : (below : ℕ → ℕ → Bool) (w : Bool) → cast_of below Def Null w ≡ None
def_null_cast below w = lift below Def Null Ty-F.Def Ty-F.Null w _ outs-Def outs-Null (def_null below w)

pub def_def_cast : (below : ℕ → ℕ → Bool) (w : Bool) → cast_of below Def Def w ≡ Some Keep
def_def_cast below w = lift below Def Def Ty-F.Def Ty-F.Def w _ outs-Def outs-Def (def_def below w)

pub def_prim_cast : (below : ℕ → ℕ → Bool) (q : Primitive) (w : Bool) → cast_of below Def (Prim q) w ≡ Some (cond w Explicit Implicit)
def_prim_cast below q w = lift below Def (Prim q) Ty-F.Def (Ty-F.Prim q) w _ outs-Def (outs-Prim q) (def_prim below q w)

pub def_class_cast : (below : ℕ → ℕ → Bool) (c : ℕ) (w : Bool) → cast_of below Def (Class c) w ≡ Some (cond w Explicit Implicit)
def_class_cast below c w = lift below Def (Class c) Ty-F.Def (Ty-F.Class c) w _ outs-Def (outs-Class c) (def_class below c w)

pub def_array_cast : (below : ℕ → ℕ → Bool) (t : Ty) (w : Bool) → cast_of below Def (Array t) w ≡ Some (cond w Explicit Implicit)
def_array_cast below t w = lift below Def (Array t) Ty-F.Def (Ty-F.Array t) w _ outs-Def (outs-Array t) (def_array below t w)

pub prim_void_cast : (below : ℕ → ℕ → Bool) (p : Primitive) (w : Bool) → cast_of below (Prim p) Void w ≡ None
prim_void_cast below p w = lift below (Prim p) Void (Ty-F.Prim p) Ty-F.Void w _ (outs-Prim p) outs-Void (prim_void below p w)

pub prim_null_cast : (below : ℕ → ℕ → Bool) (p : Primitive) (w : Bool) → cast_of below (Prim p) Null w ≡ None
prim_null_cast below p w = lift below (Prim p) Null (Ty-F.Prim p) Ty-F.Null w _ (outs-Prim p) outs-Null (prim_null below p w)

pub prim_def_cast : (below : ℕ → ℕ → Bool) (p : Primitive) (w : Bool) → cast_of below (Prim p) Def w ≡ Some (Wrap p p)
prim_def_cast below p w = lift below (Prim p) Def (Ty-F.Prim p) Ty-F.Def w _ (outs-Prim p) outs-Def (prim_def below p w)

pub prim_array_cast : (below : ℕ → ℕ → Bool) (p : Primitive) (t : Ty) (w : Bool) → cast_of below (Prim p) (Array t) w ≡ None
prim_array_cast below p t w = lift below (Prim p) (Array t) (Ty-F.Prim p) (Ty-F.Array t) w _ (outs-Prim p) (outs-Array t) (prim_array below p t w)

pub class_void_cast : (below : ℕ → ℕ → Bool) (a : ℕ) (w : Bool) → cast_of below (Class a) Void w ≡ None
class_void_cast below a w = lift below (Class a) Void (Ty-F.Class a) Ty-F.Void w _ (outs-Class a) outs-Void (class_void below a w)

pub class_null_cast : (below : ℕ → ℕ → Bool) (a : ℕ) (w : Bool) → cast_of below (Class a) Null w ≡ None
class_null_cast below a w = lift below (Class a) Null (Ty-F.Class a) Ty-F.Null w _ (outs-Class a) outs-Null (class_null below a w)

pub class_def_cast : (below : ℕ → ℕ → Bool) (a : ℕ) (w : Bool) → cast_of below (Class a) Def w ≡ Some Keep
class_def_cast below a w = lift below (Class a) Def (Ty-F.Class a) Ty-F.Def w _ (outs-Class a) outs-Def (class_def below a w)

pub class_array_cast : (below : ℕ → ℕ → Bool) (a : ℕ) (t : Ty) (w : Bool) → cast_of below (Class a) (Array t) w ≡ None
class_array_cast below a t w = lift below (Class a) (Array t) (Ty-F.Class a) (Ty-F.Array t) w _ (outs-Class a) (outs-Array t) (class_array below a t w)

pub array_void_cast : (below : ℕ → ℕ → Bool) (t : Ty) (w : Bool) → cast_of below (Array t) Void w ≡ None
array_void_cast below t w = lift below (Array t) Void (Ty-F.Array t) Ty-F.Void w _ (outs-Array t) outs-Void (array_void below t w)

pub array_null_cast : (below : ℕ → ℕ → Bool) (t : Ty) (w : Bool) → cast_of below (Array t) Null w ≡ None
array_null_cast below t w = lift below (Array t) Null (Ty-F.Array t) Ty-F.Null w _ (outs-Array t) outs-Null (array_null below t w)

pub array_def_cast : (below : ℕ → ℕ → Bool) (t : Ty) (w : Bool) → cast_of below (Array t) Def w ≡ Some Keep
array_def_cast below t w = lift below (Array t) Def (Ty-F.Array t) Ty-F.Def w _ (outs-Array t) outs-Def (array_def below t w)

pub array_prim_cast : (below : ℕ → ℕ → Bool) (t : Ty) (q : Primitive) (w : Bool) → cast_of below (Array t) (Prim q) w ≡ None
array_prim_cast below t q w = lift below (Array t) (Prim q) (Ty-F.Array t) (Ty-F.Prim q) w _ (outs-Array t) (outs-Prim q) (array_prim below t q w)

pub array_class_cast : (below : ℕ → ℕ → Bool) (t : Ty) (c : ℕ) (w : Bool) → cast_of below (Array t) (Class c) w ≡ only_if (eqb c 0) Keep
array_class_cast below t c w = lift below (Array t) (Class c) (Ty-F.Array t) (Ty-F.Class c) w _ (outs-Array t) (outs-Class c) (array_class below t c w)

pub array_array_cast : (below : ℕ → ℕ → Bool) (t u : Ty) (w : Bool) → cast_of below (Array t) (Array u) w ≡ only_if (same_types t u) Keep
array_array_cast below t u w = lift below (Array t) (Array u) (Ty-F.Array t) (Ty-F.Array u) w _ (outs-Array t) (outs-Array u) (array_array below t u w)

pub class_class_cast : (below : ℕ → ℕ → Bool) (a b : ℕ) (w : Bool) → cast_of below (Class a) (Class b) w ≡ first_of_two (only_if (eqb a b) Keep) (first_of_two (only_if (below a b) Keep) (only_if (w && (below b a && not (below a b) && not (eqb a b))) Explicit))
class_class_cast below a b w = lift below (Class a) (Class b) (Ty-F.Class a) (Ty-F.Class b) w _ (outs-Class a) (outs-Class b) (class_class below a b w)

pub prim_prim_cast : (below : ℕ → ℕ → Bool) (p q : Primitive) (w : Bool) → cast_of below (Prim p) (Prim q) w ≡ first_of_two (only_if (same_primitives p q) Keep) (only_if (widens p q || (w && narrows p q)) (Number p q))
prim_prim_cast below p q w = lift below (Prim p) (Prim q) (Ty-F.Prim p) (Ty-F.Prim q) w _ (outs-Prim p) (outs-Prim q) (prim_prim below p q w)

pub boxed_cast : (below : ℕ → ℕ → Bool) (p q : Primitive) (w : Bool) → cast_of below (Prim p) (Class (box_of q)) w ≡ only_if (reaches p q w) (Wrap p q)
boxed_cast below p q w = lift below (Prim p) (Class (box_of q)) (Ty-F.Prim p) (Ty-F.Class (box_of q)) w _ (outs-Prim p) (outs-Class (box_of q)) (boxed below p q w)

pub unboxed_to_cast : (below : ℕ → ℕ → Bool) (p q : Primitive) (w : Bool) → cast_of below (Class (box_of p)) (Prim q) w ≡ only_if (reaches p q w) (Unwrap p q)
unboxed_to_cast below p q w = lift below (Class (box_of p)) (Prim q) (Ty-F.Class (box_of p)) (Ty-F.Prim q) w _ (outs-Class (box_of p)) (outs-Prim q) (unboxed_to below p q w)

pub prim_string_cast : (below : ℕ → ℕ → Bool) (p : Primitive) (w : Bool) → cast_of below (Prim p) (Class 11) w ≡ only_if (w && same_primitives p prim.Char) CharToText
prim_string_cast below p w = lift below (Prim p) (Class 11) (Ty-F.Prim p) (Ty-F.Class 11) w _ (outs-Prim p) (outs-Class 11) (prim_string below p w)

pub string_prim_cast : (below : ℕ → ℕ → Bool) (q : Primitive) (w : Bool) → cast_of below (Class 11) (Prim q) w ≡ only_if (w && same_primitives q prim.Char) TextToChar
string_prim_cast below q w = lift below (Class 11) (Prim q) (Ty-F.Class 11) (Ty-F.Prim q) w _ (outs-Class 11) (outs-Prim q) (string_prim below q w)

pub object_prim_cast : (below : ℕ → ℕ → Bool) (q : Primitive) (w : Bool) → cast_of below (Class 0) (Prim q) w ≡ only_if w Explicit
object_prim_cast below q w = lift below (Class 0) (Prim q) (Ty-F.Class 0) (Ty-F.Prim q) w _ (outs-Class 0) (outs-Prim q) (object_prim below q w)

pub number_prim_cast : (below : ℕ → ℕ → Bool) (q : Primitive) (w : Bool) → cast_of below (Class 3) (Prim q) w ≡ only_if w Explicit
number_prim_cast below q w = lift below (Class 3) (Prim q) (Ty-F.Class 3) (Ty-F.Prim q) w _ (outs-Class 3) (outs-Prim q) (number_prim below q w)

pub from_void_cast : (below : ℕ → ℕ → Bool) (to : Ty) (w : Bool) → cast_of below Void to w ≡ None
from_void_cast below to w = lift below Void to Ty-F.Void (out-Ty to) w None outs-Void refl (from_void below (out-Ty to) w)

-- Primitives.

number_test : (a b n : Bool) (x : Cast) → first_of_two (only_if a Keep) (only_if (b || n) x) ≡ first_of_two (only_if a Keep) (only_if (a || b || n) x)
number_test true b n x = refl
number_test false b n x = refl

pub number_same : (below : ℕ → ℕ → Bool) (p q : Primitive) (w : Bool) → same_primitives p q ≡ true → Some Keep ≡ cast_of below (Prim p) (Prim q) w
number_same below p q w h = sym (prim_prim_cast below p q w ∙ ap (λ t. first_of_two (only_if t Keep) (only_if (widens p q || (w && narrows p q)) (Number p q))) h)

pub number_other : (below : ℕ → ℕ → Bool) (p q : Primitive) (w : Bool) (r : Option Cast) → same_primitives p q ≡ false → r ≡ only_if (reaches p q w) (Number p q) → r ≡ cast_of below (Prim p) (Prim q) w
number_other below p q w r h e = e
    ∙ sym (ap (λ t. first_of_two (only_if t Keep) (only_if (reaches p q w) (Number p q))) h)
    ∙ sym (prim_prim_cast below p q w ∙ number_test (same_primitives p q) (widens p q) (w && narrows p q) (Number p q))

-- The class of a box is that of its primitive.

chosen : (t : Bool) (x y z : Option Primitive) → cond t x y ≡ z → ((t ≡ true) × (x ≡ z)) ⊎ (y ≡ z)
chosen true x y z h = inl (refl, h)
chosen false x y z h = inr h

same_some : (p q : Primitive) → Some p ≡ Some q → p ≡ q
same_some p q h = cc

of_box : (c : ℕ) (p q : Primitive) → eqb c (box_of p) ≡ true → Some p ≡ Some q → c ≡ box_of q
of_box c p q t h = eqb-true c (box_of p) t ∙ ap box_of (same_some p q h)

pub unboxed_is : (c : ℕ) (q : Primitive) → unboxed c ≡ Some q → c ≡ box_of q
unboxed_is c q h =
    elim (chosen (eqb c 9) (Some prim.Boolean) _ (Some q) h) [
      | inl e ↦ of_box c prim.Boolean q e.0 e.1
      | inr h ↦ elim (chosen (eqb c 4) (Some prim.Byte) _ (Some q) h) [
        | inl e ↦ of_box c prim.Byte q e.0 e.1
        | inr h ↦ elim (chosen (eqb c 5) (Some prim.Short) _ (Some q) h) [
          | inl e ↦ of_box c prim.Short q e.0 e.1
          | inr h ↦ elim (chosen (eqb c 8) (Some prim.Char) _ (Some q) h) [
            | inl e ↦ of_box c prim.Char q e.0 e.1
            | inr h ↦ elim (chosen (eqb c 6) (Some prim.Int) _ (Some q) h) [
              | inl e ↦ of_box c prim.Int q e.0 e.1
              | inr h ↦ elim (chosen (eqb c 7) (Some prim.Long) None (Some q) h) [
                | inl e ↦ of_box c prim.Long q e.0 e.1
                | inr h ↦ cc
              ]
            ]
          ]
        ]
      ]
    ]

pub boxing_box : (below : ℕ → ℕ → Bool) (p q : Primitive) (c : ℕ) (w : Bool) (r : Option Cast) → unboxed c ≡ Some q → r ≡ only_if (reaches p q w) (Wrap p q) → r ≡ cast_of below (Prim p) (Class c) w
boxing_box below p q c w r h e = e ∙ sym (ap (λ d. cast_of below (Prim p) (Class d) w) (unboxed_is c q h) ∙ boxed_cast below p q w)

pub boxing_text : (below : ℕ → ℕ → Bool) (p : Primitive) (c : ℕ) (w : Bool) (r : Option Cast) → c ≡ 11 → r ≡ only_if (w && same_primitives p prim.Char) CharToText → r ≡ cast_of below (Prim p) (Class c) w
boxing_text below p c w r h e = e ∙ sym (ap (λ d. cast_of below (Prim p) (Class d) w) h ∙ prim_string_cast below p w)

-- what the rows say of a primitive and a class, by what is asked of the class
abbrev box_rows : Primitive → Bool → Bool → Option Primitive → Bool → Option Cast
box_rows p b true o t = first_of_two (wrapped_as keeps p o) (first_of_two (wrapped_as narrows p o) (first_of_two (only_if (is_plain o t && b) (Wrap p p)) (first_of_two (only_if (t && same_primitives p prim.Char) CharToText) None)))
box_rows p b false o t = first_of_two (wrapped_as keeps p o) (first_of_two (only_if (is_plain o t && b) (Wrap p p)) None)

box_rows_are : (below : ℕ → ℕ → Bool) (p : Primitive) (c : ℕ) (w : Bool) → cast_between below (Ty-F.Prim p) (Ty-F.Class c) w ≡ box_rows p (below (box_of p) c) w (unboxed c) (eqb c 11)
unfolding cast_between
box_rows_are below p c true = refl
box_rows_are below p c false = refl

plain_rows : (p : Primitive) (b w : Bool) → box_rows p b w None false ≡ only_if b (Wrap p p)
plain_rows p b true = last b (Wrap p p)
plain_rows p b false = last b (Wrap p p)

pub boxing_parent : (below : ℕ → ℕ → Bool) (p : Primitive) (c : ℕ) (w : Bool) (r : Option Cast) → unboxed c ≡ None → (c ≡ 11 → ⊥) → r ≡ only_if (below (box_of p) c) (Wrap p p) → r ≡ cast_of below (Prim p) (Class c) w
boxing_parent below p c w r none other e = e ∙ sym (lift below (Prim p) (Class c) (Ty-F.Prim p) (Ty-F.Class c) w _ (outs-Prim p) (outs-Class c)
    (box_rows_are below p c w ∙ ap (λ o. box_rows p (below (box_of p) c) w o (eqb c 11)) none ∙ ap (λ t. box_rows p (below (box_of p) c) w None t) (ne_eqb c 11 other) ∙ plain_rows p (below (box_of p) c) w))

-- A class to a primitive.

pub unboxing_box : (below : ℕ → ℕ → Bool) (p q : Primitive) (c : ℕ) (w : Bool) (r : Option Cast) → unboxed c ≡ Some p → r ≡ only_if (reaches p q w) (Unwrap p q) → r ≡ cast_of below (Class c) (Prim q) w
unboxing_box below p q c w r h e = e ∙ sym (ap (λ d. cast_of below (Class d) (Prim q) w) (unboxed_is c p h) ∙ unboxed_to_cast below p q w)

pub unboxing_object : (below : ℕ → ℕ → Bool) (q : Primitive) (c : ℕ) (w : Bool) (r : Option Cast) → c ≡ 0 → r ≡ only_if w Explicit → r ≡ cast_of below (Class c) (Prim q) w
unboxing_object below q c w r h e = e ∙ sym (ap (λ d. cast_of below (Class d) (Prim q) w) h ∙ object_prim_cast below q w)

pub unboxing_number : (below : ℕ → ℕ → Bool) (q : Primitive) (c : ℕ) (w : Bool) (r : Option Cast) → c ≡ 3 → r ≡ only_if w Explicit → r ≡ cast_of below (Class c) (Prim q) w
unboxing_number below q c w r h e = e ∙ sym (ap (λ d. cast_of below (Class d) (Prim q) w) h ∙ number_prim_cast below q w)

pub unboxing_text : (below : ℕ → ℕ → Bool) (q : Primitive) (c : ℕ) (w : Bool) (r : Option Cast) → c ≡ 11 → r ≡ only_if (w && same_primitives q prim.Char) TextToChar → r ≡ cast_of below (Class c) (Prim q) w
unboxing_text below q c w r h e = e ∙ sym (ap (λ d. cast_of below (Class d) (Prim q) w) h ∙ string_prim_cast below q w)

abbrev unbox_rows : Primitive → Bool → Option Primitive → Bool → Bool → Bool → Option Cast
unbox_rows q true o z n t = first_of_two (unwrapped_as keeps o q) (first_of_two (unwrapped_as narrows o q) (first_of_two (only_if (z || n) Explicit) (first_of_two (only_if (t && same_primitives q prim.Char) TextToChar) None)))
unbox_rows q false o z n t = first_of_two (unwrapped_as keeps o q) None

unbox_rows_are : (below : ℕ → ℕ → Bool) (q : Primitive) (c : ℕ) (w : Bool) → cast_between below (Ty-F.Class c) (Ty-F.Prim q) w ≡ unbox_rows q w (unboxed c) (eqb c 0) (eqb c 3) (eqb c 11)
unfolding cast_between
unbox_rows_are below q c true = refl
unbox_rows_are below q c false = refl

no_rows : (q : Primitive) (w : Bool) → unbox_rows q w None false false false ≡ None
no_rows q true = refl
no_rows q false = refl

pub unboxing_other : (below : ℕ → ℕ → Bool) (q : Primitive) (c : ℕ) (w : Bool) → unboxed c ≡ None → (c ≡ 0 → ⊥) → (c ≡ 3 → ⊥) → (c ≡ 11 → ⊥) → None ≡ cast_of below (Class c) (Prim q) w
unboxing_other below q c w none z n t = sym (lift below (Class c) (Prim q) (Ty-F.Class c) (Ty-F.Prim q) w _ (outs-Class c) (outs-Prim q)
    (unbox_rows_are below q c w ∙ ap (λ o. unbox_rows q w o (eqb c 0) (eqb c 3) (eqb c 11)) none ∙ ap (λ a. unbox_rows q w None a (eqb c 3) (eqb c 11)) (ne_eqb c 0 z) ∙ ap (λ a. unbox_rows q w None false a (eqb c 11)) (ne_eqb c 3 n) ∙ ap (λ a. unbox_rows q w None false false a) (ne_eqb c 11 t) ∙ no_rows q w))

-- Two classes.

abbrev class_rows : Bool → Bool → Bool → Bool → Option Cast
class_rows w same up down = first_of_two (only_if same Keep) (first_of_two (only_if up Keep) (only_if (w && (down && not up && not same)) Explicit))

pub class_same : (below : ℕ → ℕ → Bool) (a b : ℕ) (w : Bool) → a ≡ b → Some Keep ≡ cast_of below (Class a) (Class b) w
class_same below a b w h = sym (class_class_cast below a b w ∙ ap (λ t. class_rows w t (below a b) (below b a)) (eq-eqb a b h))

up_rows : (w same down : Bool) → class_rows w same true down ≡ Some Keep
up_rows w true down = refl
up_rows w false down = refl

pub class_up : (below : ℕ → ℕ → Bool) (a b : ℕ) (w : Bool) → below a b ≡ true → Some Keep ≡ cast_of below (Class a) (Class b) w
class_up below a b w h = sym (class_class_cast below a b w ∙ ap (λ t. class_rows w (eqb a b) t (below b a)) h ∙ up_rows w (eqb a b) (below b a))

down_rows : (w down : Bool) → class_rows w false false down ≡ only_if (w && down) Explicit
down_rows true true = refl
down_rows true false = refl
down_rows false down = refl

pub class_down : (below : ℕ → ℕ → Bool) (a b : ℕ) (w : Bool) (r : Option Cast) → (a ≡ b → ⊥) → below a b ≡ false → r ≡ only_if (w && below b a) Explicit → r ≡ cast_of below (Class a) (Class b) w
class_down below a b w r other up e = e ∙ sym (class_class_cast below a b w ∙ ap (λ t. class_rows w t (below a b) (below b a)) (ne_eqb a b other) ∙ ap (λ t. class_rows w false t (below b a)) up ∙ down_rows w (below b a))

to_void : (below : ℕ → ℕ → Bool) (f : Ty-F Ty) (w : Bool) → cast_between below f Ty-F.Void w ≡ None
unfolding cast_between
to_void below Ty-F.Void true = refl
to_void below Ty-F.Void false = refl
to_void below Ty-F.Null true = refl
to_void below Ty-F.Null false = refl
to_void below Ty-F.Def true = refl
to_void below Ty-F.Def false = refl
to_void below (Ty-F.Prim p) true = refl
to_void below (Ty-F.Prim p) false = refl
to_void below (Ty-F.Class a) true = refl
to_void below (Ty-F.Class a) false = refl
to_void below (Ty-F.Array v) true = refl
to_void below (Ty-F.Array v) false = refl

pub to_void_cast : (below : ℕ → ℕ → Bool) (from : Ty) (w : Bool) → cast_of below from Void w ≡ None
to_void_cast below from w = lift below from Void (out-Ty from) Ty-F.Void w None refl outs-Void (to_void below (out-Ty from) w)
