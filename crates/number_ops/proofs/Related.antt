-- What `==`, casts to primitives and `throw` come to.
use Rattle.std.proofs.Common.{◌≡◌, ℕ, Bool, true, false, List, ◌++◌, [], ◌∷◌, length, Option, Some, None, refl, slice_get, subst}
use Rattle.pl_types.specs.declared.primitive.Primitive.{Primitive}
use Rattle.pl_types.specs.declared.primitive.Primitive.TheVariants as prim
use Rattle.pl_types.specs.declared.ty.Ty.{Ty, out-Ty}
use Rattle.pl_types.specs.declared.ty.Ty.TheVariants as ty
use Rattle.object_values.specs.declared.object.Object.{Object}
use Rattle.object_values.specs.declared.object.Object.TheVariants as o
use Rattle.object_values.specs.declared.value.Value.{Value}
use Rattle.object_values.specs.declared.value.Value.TheVariants as v
use Rattle.object_heap.specs.Effects.{Effect, Gives, Throws, NoRoom, after_paying}
use Rattle.object_heap.specs.Fits.{is_primitive}
use Rattle.object_heap.specs.Store.{Store, paid}
use Rattle.arithmetic.specs.declared.operator.Num.{Num}
use Rattle.value_walks.specs.declared.TheConstants.{VISITS}
use Rattle.value_walks.specs.declared.equality.Walked.{Walked}
use Rattle.value_walks.specs.declared.equality.Walked.TheVariants.{On, Deep, Large}
use Rattle.value_walks.specs.Equality.{equal_of}
use Rattle.number_ops.specs.declared.outcome.Outcome.{Outcome}
use Rattle.number_ops.specs.declared.outcome.Outcome.TheVariants as outcome
use Rattle.number_ops.specs.declared.outcome.Raised.{Raised}
use Rattle.number_ops.specs.declared.outcome.Raised.TheVariants.{ClassCast, NullPointer}
use Rattle.number_ops.specs.declared.casts.Casted.{Casted}
use Rattle.number_ops.specs.declared.casts.Casted.TheVariants.{Kept, To, Text, Refused}
use Rattle.number_ops.specs.Casts.{cast_at_run_time, to_primitive, given, from_box, text_to_char, char_given}
use Rattle.number_ops.specs.Operators.{number_in}
use Rattle.number_ops.specs.Order.{found_of}
use Rattle.number_ops.specs.Outcomes.{effect, says, class_raised}
use Rattle.number_ops.specs.Relations.{equal, equal_if, thrown, thrown_if, EqualityGivesFlags, EqualityMakesNothing, CastsGivePrimitives, CastsToPrimitivesMakeNothing, ThrowsAlone}

-- An outcome gives what passes a test, or throws.
abbrev pub Only : (Value → Type 0) → Outcome → Type 0
Only test (outcome.Gives value) = test value
Only test (outcome.Makes text) = ⊥
Only test (outcome.Throws raised message) = Unit {0}
Only test outcome.NoMemory = ⊥

given_only : (test : Value → Type 0) (told : Outcome) (value : Value) → Only test told → told ≡ outcome.Gives value → test value
given_only test (outcome.Gives found) value h e = let same : found ≡ value = cc in subst test same h
given_only test (outcome.Makes text) value h e = absurd h
given_only test (outcome.Throws raised message) value h e = absurd (cc)
given_only test outcome.NoMemory value h e = absurd h

makes_none : (test : Value → Type 0) (told : Outcome) (text : List ℕ) → Only test told → told ≡ outcome.Makes text → ⊥
makes_none test (outcome.Gives value) text h e = absurd (cc)
makes_none test (outcome.Makes made) text h e = absurd h
makes_none test (outcome.Throws raised message) text h e = absurd (cc)
makes_none test outcome.NoMemory text h e = absurd h

-- ---- `==`

abbrev IsFlag : Value → Type 0
IsFlag value = (flag : Bool) × (value ≡ v.Bool flag)

found_flag : (walk : Walked) → Only IsFlag (found_of walk)
unfolding says
found_flag (On same visits) = (same, refl)
found_flag Deep = tt
found_flag Large = tt

equal_flag : (objects : List Object) (a b : Value) (x y : Option Num) → Only IsFlag (equal_if objects a b x y)
equal_flag objects a b (Some x) (Some y) = (_, refl)
equal_flag objects a b (Some x) None = found_flag (equal_of objects a b VISITS)
equal_flag objects a b None y = found_flag (equal_of objects a b VISITS)

flag_of : (objects : List Object) (a b : Value) → Only IsFlag (equal objects a b)
unfolding equal
flag_of objects a b = equal_flag objects a b (number_in a) (number_in b)

pub equality_gives_flags : EqualityGivesFlags
equality_gives_flags objects a b value e = given_only IsFlag (equal objects a b) value (flag_of objects a b) e

pub equality_makes_nothing : EqualityMakesNothing
equality_makes_nothing objects a b text e = makes_none IsFlag (equal objects a b) text (flag_of objects a b) e

-- ---- casts to primitives

abbrev pub Is : Primitive → Value → Type 0
Is p value = is_primitive p value ≡ true

-- a cast that is not refused gives a value of the type; nothing is made a text
abbrev CastIs : Primitive → Value → Casted → Type 0
CastIs p value Kept = Is p value
CastIs p value (To made) = Is p made
CastIs p value (Text unit) = ⊥
CastIs p value Refused = Unit {0}

given_is : (p : Primitive) (objects : List Object) (value : Value) (to : Ty) (c : Casted) → CastIs p value c → Only (Is p) (given objects value to c)
unfolding says
given_is p objects value to Kept is = is
given_is p objects value to (To made) is = is
given_is p objects value to (Text unit) is = absurd is
given_is p objects value to Refused is = tt

-- .. of what is in no box: a text of one unit goes to char

char_is : (value : Value) (o : Option ℕ) → CastIs prim.Char value (char_given o)
char_is value None = tt
char_is value (Some unit) = refl

no_box : (p : Primitive) (explicit : Bool) (value : Value) → CastIs p value (from_box p explicit value None)
no_box prim.Boolean explicit value = tt
no_box prim.Byte explicit value = tt
no_box prim.Short explicit value = tt
no_box prim.Int explicit value = tt
no_box prim.Long explicit value = tt
no_box prim.Char explicit value = char_is value (text_to_char prim.Char explicit value)

-- .. of what is in a box

from_flag : (p : Primitive) (explicit a : Bool) → CastIs p (v.Bool a) (to_primitive p explicit (v.Bool a))
from_flag prim.Boolean explicit a = refl
from_flag prim.Byte true a = tt
from_flag prim.Byte false a = tt
from_flag prim.Short true a = tt
from_flag prim.Short false a = tt
from_flag prim.Char true a = tt
from_flag prim.Char false a = tt
from_flag prim.Int true a = tt
from_flag prim.Int false a = tt
from_flag prim.Long true a = tt
from_flag prim.Long false a = tt

abbrev Box : Value → Type 0
Box value = (p : Primitive) (explicit : Bool) → CastIs p value (to_primitive p explicit value)

from_byte : (a : _) → Box (v.Byte a)
from_byte a prim.Boolean true = tt
from_byte a prim.Boolean false = tt
from_byte a prim.Byte explicit = refl
from_byte a prim.Short explicit = refl
from_byte a prim.Char true = refl
from_byte a prim.Char false = tt
from_byte a prim.Int explicit = refl
from_byte a prim.Long explicit = refl

from_short : (a : _) → Box (v.Short a)
from_short a prim.Boolean true = tt
from_short a prim.Boolean false = tt
from_short a prim.Byte true = refl
from_short a prim.Byte false = tt
from_short a prim.Short explicit = refl
from_short a prim.Char true = refl
from_short a prim.Char false = tt
from_short a prim.Int explicit = refl
from_short a prim.Long explicit = refl

from_char : (a : _) → Box (v.Char a)
from_char a prim.Boolean true = tt
from_char a prim.Boolean false = tt
from_char a prim.Byte true = refl
from_char a prim.Byte false = tt
from_char a prim.Short true = refl
from_char a prim.Short false = tt
from_char a prim.Char explicit = refl
from_char a prim.Int explicit = refl
from_char a prim.Long explicit = refl

from_int : (a : _) → Box (v.Int a)
from_int a prim.Boolean true = tt
from_int a prim.Boolean false = tt
from_int a prim.Byte true = refl
from_int a prim.Byte false = tt
from_int a prim.Short true = refl
from_int a prim.Short false = tt
from_int a prim.Char true = refl
from_int a prim.Char false = tt
from_int a prim.Int explicit = refl
from_int a prim.Long explicit = refl

from_long : (a : _) → Box (v.Long a)
from_long a prim.Boolean true = tt
from_long a prim.Boolean false = tt
from_long a prim.Byte true = refl
from_long a prim.Byte false = tt
from_long a prim.Short true = refl
from_long a prim.Short false = tt
from_long a prim.Char true = refl
from_long a prim.Char false = tt
from_long a prim.Int true = refl
from_long a prim.Int false = tt
from_long a prim.Long explicit = refl

-- .. the cast

pub cast_is : (p : Primitive) (objects : List Object) (value : Value) (explicit : Bool) → Only (Is p) (cast_at_run_time objects value (ty.Prim p) explicit)
unfolding out-Ty denote.Hole.Carrier.out
cast_is p objects v.Null explicit = tt
cast_is p objects (v.Bool a) explicit = given_is p objects (v.Bool a) (ty.Prim p) (to_primitive p explicit (v.Bool a)) (from_flag p explicit a)
cast_is p objects (v.Byte a) explicit = given_is p objects (v.Byte a) (ty.Prim p) (to_primitive p explicit (v.Byte a)) (from_byte a p explicit)
cast_is p objects (v.Short a) explicit = given_is p objects (v.Short a) (ty.Prim p) (to_primitive p explicit (v.Short a)) (from_short a p explicit)
cast_is p objects (v.Char a) explicit = given_is p objects (v.Char a) (ty.Prim p) (to_primitive p explicit (v.Char a)) (from_char a p explicit)
cast_is p objects (v.Int a) explicit = given_is p objects (v.Int a) (ty.Prim p) (to_primitive p explicit (v.Int a)) (from_int a p explicit)
cast_is p objects (v.Long a) explicit = given_is p objects (v.Long a) (ty.Prim p) (to_primitive p explicit (v.Long a)) (from_long a p explicit)
cast_is p objects value explicit = given_is p objects value (ty.Prim p) (to_primitive p explicit value) (no_box p explicit value)

pub casts_give_primitives : CastsGivePrimitives
casts_give_primitives objects value given to explicit e = given_only (Is to) (cast_at_run_time objects value (ty.Prim to) explicit) given (cast_is to objects value explicit) e

pub casts_make_nothing : CastsToPrimitivesMakeNothing
casts_make_nothing objects value to explicit text e = makes_none (Is to) (cast_at_run_time objects value (ty.Prim to) explicit) text (cast_is to objects value explicit) e

-- ---- `throw`

abbrev Nothing : Effect → Type 0
Nothing (Gives value store) = ⊥
Nothing (Throws id store) = Unit {0}
Nothing NoRoom = Unit {0}

paid_nothing : (store : Option Store) (next : Store → Effect) → ((store : Store) → Nothing (next store)) → Nothing (after_paying store next)
paid_nothing None next h = tt
paid_nothing (Some store) next h = h store

thrown_nothing : (store : Store) (raised : Raised) (message : Option (List ℕ)) → Nothing (effect store (outcome.Throws raised message))
thrown_nothing store raised message =
    paid_nothing (paid store (store.objects ++ o.Exc (class_raised raised) message ∷ []) 0) (λ paid. Throws (length store.objects) paid) (λ paid. tt)

object_nothing : (store : Store) (id : ℕ) (object : Option Object) → Nothing (thrown_if store id object)
object_nothing store id (Some (o.Exc class message)) = tt
object_nothing store id other = thrown_nothing store ClassCast None

value_nothing : (store : Store) (value : Value) → Nothing (thrown store value)
unfolding thrown
value_nothing store v.Null = thrown_nothing store NullPointer None
value_nothing store (v.Ref id) = object_nothing store id (slice_get store.objects id)
value_nothing store value = thrown_nothing store ClassCast None

gave : (effect : Effect) (value : Value) (left : Store) → Nothing effect → effect ≡ Gives value left → ⊥
gave (Gives found store) value left h e = absurd h
gave (Throws id store) value left h e = absurd (cc)
gave NoRoom value left h e = absurd (cc)

pub throws_alone : ThrowsAlone
throws_alone store left value given e = gave (thrown store value) given left (value_nothing store value) e
