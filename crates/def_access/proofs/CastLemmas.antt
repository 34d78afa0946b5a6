-- What casts that are not written come to: a value that is there, or an exception.
use Rattle.std.proofs.Common.{◌≡◌, ℕ, ℤ, ◌==◌, Bool, true, false, Option, Some, None, List, [], ◌∷◌, ◌++◌, length, Result, Ok, Err, refl, sym, ap, ◌∙◌, subst, slice_get, slice_set, if◌then◌else◌}
use Rattle.pl_types.specs.declared.classes.TheConstants.{STRING}
use Rattle.pl_types.specs.declared.primitive.Primitive.{Primitive}
use Rattle.pl_types.specs.declared.primitive.Primitive.TheVariants as prim
use Rattle.pl_types.specs.declared.ty.Ty.{Ty, out-Ty}
use Rattle.pl_types.specs.declared.ty.Ty.TheOpen.{Ty-F}
use Rattle.pl_types.specs.Casts.{reaches, unboxed}
use Rattle.allowlist.specs.Allow.{AllowList}
use Rattle.allowlist.specs.Index.{member_in}
use Rattle.arithmetic.specs.declared.operator.Num.{Num}
use Rattle.object_values.specs.declared.object.Object.{Object}
use Rattle.object_values.specs.declared.object.Object.TheVariants as o
use Rattle.object_values.specs.declared.value.Value.{Value}
use Rattle.object_values.specs.declared.value.Value.TheVariants as v
use Rattle.object_heap.specs.declared.answer.Answer.{Answer}
use Rattle.object_heap.specs.declared.answer.Answer.TheVariants as a
use Rattle.object_heap.specs.Effects as e
use Rattle.object_heap.specs.Fits.{is_primitive, kinds, value_is_array, value_is_of}
use Rattle.object_heap.specs.Store.{Store, paid}
use Rattle.number_ops.specs.declared.outcome.Outcome.{Outcome}
use Rattle.number_ops.specs.declared.outcome.Outcome.TheVariants as outcome
use Rattle.number_ops.specs.declared.outcome.Raised.{Raised}
use Rattle.number_ops.specs.declared.casts.Casted.{Casted}
use Rattle.number_ops.specs.declared.casts.Casted.TheVariants as casted
use Rattle.number_ops.specs.Casts as casts
use Rattle.number_ops.specs.Names.{cannot_cast}
use Rattle.number_ops.specs.Operators.{is_null, number_in}
use Rattle.number_ops.specs.Outcomes.{class_raised, effect, says}
use Rattle.container_ops.specs.Types.{on_other_kind}
use Rattle.def_access.specs.Access as access
use Rattle.def_access.specs.Access.{Access, Calls, Acts, All, Casts, Ended}
use Rattle.def_access.specs.Coming as coming

-- ---- a cast that is not written makes no text

abbrev pub IsPlain : Outcome → Type 0
IsPlain (outcome.Gives value) = Unit {0}
IsPlain (outcome.Throws raised message) = Unit {0}
IsPlain told = ⊥

abbrev MakesNoText : Casted → Type 0
MakesNoText (casted.Text unit) = ⊥
MakesNoText cast = Unit {0}

if_no_text : (test : Bool) (x y : Casted) → MakesNoText x → MakesNoText y → MakesNoText (if test then x else y)
if_no_text true x y h k = h
if_no_text false x y h k = k

char_no_text : (unit : Option ℕ) → MakesNoText (casts.char_given unit)
char_no_text None = tt
char_no_text (Some unit) = tt

converted_no_text : (p : Primitive) (number : Option Num) → MakesNoText (casts.converted p number)
converted_no_text p None = tt
converted_no_text p (Some number) = tt

box_no_text : (p : Primitive) (value : Value) (from : Option Primitive) → MakesNoText (casts.from_box p false value from)
box_no_text p value None = char_no_text (casts.text_to_char p false value)
box_no_text p value (Some from) = if_no_text (reaches from p false) (casts.converted p (number_in value)) casted.Refused (converted_no_text p (number_in value)) tt

unit_no_text : (unit : Option ℕ) → unit ≡ None → MakesNoText (casts.text_given unit)
unit_no_text None e = tt
unit_no_text (Some unit) e = cc

no_char : (value : Value) → casts.char_to_text false value ≡ None
no_char v.Null = refl
no_char (v.Bool flag) = refl
no_char (v.Byte number) = refl
no_char (v.Short number) = refl
no_char (v.Char unit) = refl
no_char (v.Int number) = refl
no_char (v.Long number) = refl
no_char (v.Str text) = refl
no_char (v.Ref id) = refl

other_no_text : (objects : List Object) (class : ℕ) (value : Value) → MakesNoText (casts.to_other_class objects class false value)
other_no_text objects class value =
    if_no_text (value_is_of (kinds objects) class value) casted.Kept _ tt
    (if_no_text (class == STRING) (casts.text_given (casts.char_to_text false value)) casted.Refused (unit_no_text (casts.char_to_text false value) (no_char value)) tt)

class_no_text : (objects : List Object) (class : ℕ) (value : Value) (to : Option Primitive) → MakesNoText (casts.to_class_of objects class false value to)
class_no_text objects class value None = other_no_text objects class value
class_no_text objects class value (Some p) = box_no_text p value (casts.primitive_in value)

layer_no_text : (objects : List Object) (layer : Ty-F Ty) (value : Value) → MakesNoText (casts.to_layer objects layer false value)
layer_no_text objects Ty-F.Void value = tt
layer_no_text objects Ty-F.Null value = tt
layer_no_text objects Ty-F.Def value = tt
layer_no_text objects (Ty-F.Prim p) value = box_no_text p value (casts.primitive_in value)
layer_no_text objects (Ty-F.Class class) value = class_no_text objects class value (unboxed class)
layer_no_text objects (Ty-F.Array elem) value = if_no_text (value_is_array (kinds objects) elem value) casted.Kept casted.Refused tt tt

refused_plain : (objects : List Object) (value : Value) (to : Ty) → IsPlain (cannot_cast objects value to)
unfolding says
refused_plain objects value to = tt

given_plain : (objects : List Object) (value : Value) (to : Ty) (cast : Casted) → MakesNoText cast → IsPlain (casts.given objects value to cast)
given_plain objects value to casted.Kept h = tt
given_plain objects value to (casted.To made) h = tt
given_plain objects value to (casted.Text unit) h = absurd h
given_plain objects value to casted.Refused h = refused_plain objects value to

null_plain : (layer : Ty-F Ty) → IsPlain (casts.of_null layer)
null_plain Ty-F.Void = tt
null_plain Ty-F.Null = tt
null_plain Ty-F.Def = tt
null_plain (Ty-F.Prim p) = tt
null_plain (Ty-F.Class class) = tt
null_plain (Ty-F.Array elem) = tt

if_plain : (test : Bool) (x y : Outcome) → IsPlain x → IsPlain y → IsPlain (if test then x else y)
if_plain true x y h k = h
if_plain false x y h k = k

pub cast_plain : (objects : List Object) (value : Value) (to : Ty) → IsPlain (access.cast_to objects value to)
cast_plain objects value to =
    if_plain (is_null value) (casts.of_null (out-Ty to)) (casts.given objects value to (casts.to_layer objects (out-Ty to) false value)) (null_plain (out-Ty to))
    (given_plain objects value to (casts.to_layer objects (out-Ty to) false value) (layer_no_text objects (out-Ty to) value))

-- ---- what is answered of one

paid_throws : (old : Store) (id : ℕ) (found : Option Store) (value : Value) (new : Store) → e.after_paying found (λ paid. e.Throws id paid) ≡ e.Gives value new → ⊥
paid_throws old id None value new h = cc
paid_throws old id (Some left) value new h = cc

throws_no_value : (old : Store) (class : ℕ) (message : Option (List ℕ)) (value : Value) (new : Store) → e.throws old class message ≡ e.Gives value new → ⊥
throws_no_value old class message value new h = paid_throws old (length old.objects) (paid old (old.objects ++ o.Exc class message ∷ []) 0) value new h

-- a value that is answered is the cast one, and nothing is changed
pub told_value : (told : Outcome) (old new : Store) (value : Value) → IsPlain told → effect old told ≡ e.Gives value new → (told ≡ outcome.Gives value) × (new ≡ old)
told_value (outcome.Gives given) old new value p h = (cc, cc)
told_value (outcome.Throws raised message) old new value p h = absurd (throws_no_value old (class_raised raised) message value new h)
told_value told old new value p h = absurd p

-- there may be no memory for every access
pub no_memory : (of : Access) (old new : Store) → new ≡ old → coming.ActsAs of old new a.NoMemory
no_memory (Calls number arguments) old new h = h
no_memory (Acts effect) old new h = h

-- an answer that is no value
abbrev pub IsStopped : Answer → Type 0
IsStopped (a.Value value) = ⊥
IsStopped answer = Unit {0}

-- ---- indexes

int_given : (value : Value) (old new : Store) (next : ℤ → Access) (answer : Answer) → coming.int_of value ≡ None → e.Answers (on_other_kind old) old new answer
    → coming.ActsAs (access.index_given old value next) old new answer
int_given (v.Int at) old new next answer h k = cc
int_given v.Null old new next answer h k = k
int_given (v.Bool flag) old new next answer h k = k
int_given (v.Byte number) old new next answer h k = k
int_given (v.Short number) old new next answer h k = k
int_given (v.Char unit) old new next answer h k = k
int_given (v.Long number) old new next answer h k = k
int_given (v.Str text) old new next answer h k = k
int_given (v.Ref id) old new next answer h k = k

int_is : (value : Value) (at : ℤ) → coming.int_of value ≡ Some at → value ≡ v.Int at
int_is (v.Int number) at h = let same : number ≡ at = cc in ap v.Int same
int_is v.Null at h = cc
int_is (v.Bool flag) at h = cc
int_is (v.Byte number) at h = cc
int_is (v.Short number) at h = cc
int_is (v.Char unit) at h = cc
int_is (v.Long number) at h = cc
int_is (v.Str text) at h = cc
int_is (v.Ref id) at h = cc

said_int : (value : Value) (old new : Store) (result : Result ℤ Answer) → coming.IntIn value old new result → coming.IndexSaid (outcome.Gives value) old new result
said_int value old new (Ok at) h = (ap outcome.Gives (int_is value at h.0), h.1)
said_int value old new (Err answer) h = λ next. int_given value old new next answer h.0 h.1

pub said_value : (told : Outcome) (old mid new : Store) (value : Value) (result : Result ℤ Answer) → IsPlain told → effect old told ≡ e.Gives value mid → coming.IntIn value mid new result
    → coming.IndexSaid told old new result
said_value told old mid new value result p h k =
    let both = told_value told old mid value p h in
    subst (λ (x : Outcome). coming.IndexSaid x old new result) (sym both.0)
    (said_int value old new result (subst (λ (s : Store). coming.IntIn value s new result) both.1 k))

pub said_stopped : (told : Outcome) (old new : Store) (answer : Answer) → IsPlain told → IsStopped answer → e.Answers (effect old told) old new answer → coming.EndsIndex told old new answer
said_stopped (outcome.Gives given) old new (a.Value value) p s h = absurd s
said_stopped (outcome.Gives given) old new (a.Thrown id) p s h = cc
said_stopped (outcome.Gives given) old new a.Room p s h = cc
said_stopped (outcome.Gives given) old new a.NoMemory p s h = λ next. no_memory (access.index_given old given next) old new h
said_stopped (outcome.Throws raised message) old new answer p s h = λ next. h
said_stopped told old new answer p s h = absurd p

-- ---- arguments

-- a cast that gives no value ends them all
kept_cast : (told : Outcome) (old mid : Store) (values now : List Value) (at : ℕ) (cast : Value) → IsPlain told → effect old told ≡ e.Gives cast mid → now ≡ slice_set values at cast
    → coming.CastsAs (access.after_cast told (λ value. All (slice_set values at value))) old mid now None
kept_cast told old mid values now at cast p h k =
    let both = told_value told old mid cast p h in
    subst (λ (x : Outcome). coming.CastsAs (access.after_cast x (λ value. All (slice_set values at value))) old mid now None) (sym both.0) (sym k, both.1)

stopped_cast : (told : Outcome) (old mid : Store) (next : Value → Casts) (now : List Value) (answer : Answer) → IsPlain told → IsStopped answer → e.Answers (effect old told) old mid answer
    → ((value : Value) → mid ≡ old → coming.CastsAs (next value) old mid now (Some a.NoMemory)) → coming.CastsAs (access.after_cast told next) old mid now (Some answer)
stopped_cast (outcome.Gives value) old mid next now (a.Value other) p s h k = absurd s
stopped_cast (outcome.Gives value) old mid next now (a.Thrown id) p s h k = cc
stopped_cast (outcome.Gives value) old mid next now a.Room p s h k = cc
stopped_cast (outcome.Gives value) old mid next now a.NoMemory p s h k = k value h
stopped_cast (outcome.Throws raised message) old mid next now answer p s h k = h
stopped_cast told old mid next now answer p s h k = absurd p

abbrev Cast : Store → Ty → List Value → ℕ → Option Value → Casts
Cast old of values at found = access.cast_there old.objects of values at found All

same_answer : (told : Outcome) (old mid : Store) (values now : List Value) (at : ℕ) (answer said : Answer) → IsPlain told → IsStopped answer → e.Answers (effect old told) old mid answer → said ≡ answer
    → coming.CastsAs (access.after_cast told (λ value. All (slice_set values at value))) old mid now (Some said)
same_answer told old mid values now at answer said p s h k =
    subst (λ (x : Answer). coming.CastsAs (access.after_cast told (λ value. All (slice_set values at value))) old mid now (Some x)) (sym k)
    (stopped_cast told old mid (λ value. All (slice_set values at value)) now answer p s h (λ value e. e))

pub cast_put : (old mid : Store) (of : Ty) (values now : List Value) (at : ℕ) (found : Option Value) (told : Answer) (result : Option Answer) → coming.ToldAt old mid of found (Some told)
    → coming.Puts values at told now result → coming.CastsAs (Cast old of values at found) old mid now result
cast_put old mid of values now at None told result h k = absurd h
cast_put old mid of values now at (Some value) (a.Value cast) None h k = kept_cast (access.cast_to old.objects value of) old mid values now at cast (cast_plain old.objects value of) h k
cast_put old mid of values now at (Some value) (a.Value cast) (Some answer) h k = absurd k
cast_put old mid of values now at (Some value) (a.Thrown id) None h k = absurd k
cast_put old mid of values now at (Some value) (a.Thrown id) (Some answer) h k = same_answer (access.cast_to old.objects value of) old mid values now at (a.Thrown id) answer (cast_plain old.objects value of) tt h k
cast_put old mid of values now at (Some value) a.Room None h k = absurd k
cast_put old mid of values now at (Some value) a.Room (Some answer) h k = same_answer (access.cast_to old.objects value of) old mid values now at a.Room answer (cast_plain old.objects value of) tt h k
cast_put old mid of values now at (Some value) a.NoMemory None h k = absurd k
cast_put old mid of values now at (Some value) a.NoMemory (Some answer) h k = same_answer (access.cast_to old.objects value of) old mid values now at a.NoMemory answer (cast_plain old.objects value of) tt h k

pub cast_none : (old mid : Store) (of : Ty) (values : List Value) (at : ℕ) (found : Option Value) → coming.ToldAt old mid of found None → coming.CastsAs (Cast old of values at found) old mid values None
cast_none old mid of values at None h = (refl, h)
cast_none old mid of values at (Some value) h = absurd h

-- a step of the casts goes on with what it leaves
after_next : (told : Outcome) (old mid : Store) (values now : List Value) (at : ℕ) (next : List Value → Casts) → coming.CastsAs (access.after_cast told (λ value. All (slice_set values at value))) old mid now None
    → access.after_cast told (λ value. next (slice_set values at value)) ≡ next now
after_next (outcome.Gives value) old mid values now at next h = ap next h.0
after_next (outcome.Makes text) old mid values now at next h = absurd h
after_next (outcome.Throws raised message) old mid values now at next h = absurd h
after_next outcome.NoMemory old mid values now at next h = absurd h

after_store : (told : Outcome) (old mid : Store) (values now : List Value) (at : ℕ) → coming.CastsAs (access.after_cast told (λ value. All (slice_set values at value))) old mid now None → mid ≡ old
after_store (outcome.Gives value) old mid values now at h = h.1
after_store (outcome.Makes text) old mid values now at h = absurd h
after_store (outcome.Throws raised message) old mid values now at h = absurd h
after_store outcome.NoMemory old mid values now at h = absurd h

pub step_on : (old mid : Store) (of : Ty) (values now : List Value) (at : ℕ) (found : Option Value) (next : List Value → Casts) → coming.CastsAs (Cast old of values at found) old mid now None
    → (access.cast_there old.objects of values at found next ≡ next now) × (mid ≡ old)
step_on old mid of values now at None next h = (ap next h.0, h.1)
step_on old mid of values now at (Some value) next h =
    (after_next (access.cast_to old.objects value of) old mid values now at next h, after_store (access.cast_to old.objects value of) old mid values now at h)

no_memory_casts : (casts : Casts) (old mid : Store) (now : List Value) → mid ≡ old → coming.CastsAs casts old mid now (Some a.NoMemory)
no_memory_casts (All values) old mid now h = h
no_memory_casts (Ended told) old mid now h = h

after_ends : (told : Outcome) (old mid : Store) (values now : List Value) (at : ℕ) (next : List Value → Casts) (answer : Answer) → coming.CastsAs (access.after_cast told (λ value. All (slice_set values at value))) old mid now (Some answer)
    → coming.CastsAs (access.after_cast told (λ value. next (slice_set values at value))) old mid now (Some answer)
after_ends (outcome.Gives value) old mid values now at next (a.Value other) h = absurd h
after_ends (outcome.Gives value) old mid values now at next (a.Thrown id) h = absurd h
after_ends (outcome.Gives value) old mid values now at next a.Room h = absurd h
after_ends (outcome.Gives value) old mid values now at next a.NoMemory h = no_memory_casts (next (slice_set values at value)) old mid now h
after_ends (outcome.Makes text) old mid values now at next answer h = h
after_ends (outcome.Throws raised message) old mid values now at next answer h = h
after_ends outcome.NoMemory old mid values now at next answer h = h

pub step_ends : (old mid : Store) (of : Ty) (values now : List Value) (at : ℕ) (found : Option Value) (next : List Value → Casts) (answer : Answer) → coming.CastsAs (Cast old of values at found) old mid now (Some answer)
    → coming.CastsAs (access.cast_there old.objects of values at found next) old mid now (Some answer)
step_ends old mid of values now at None next (a.Value other) h = absurd h
step_ends old mid of values now at None next (a.Thrown id) h = absurd h
step_ends old mid of values now at None next a.Room h = absurd h
step_ends old mid of values now at None next a.NoMemory h = no_memory_casts (next values) old mid now h
step_ends old mid of values now at (Some value) next answer h = after_ends (access.cast_to old.objects value of) old mid values now at next answer h

-- ---- calls

pub casts_call : (casts : Casts) (old new : Store) (number : ℕ) (now : List Value) → coming.CastsAs casts old new now None → coming.CallsAs (access.calls_with old number casts) old new number now
casts_call (All values) old new number now h = (refl, h.0, h.1)
casts_call (Ended told) old new number now h = absurd h

pub casts_act : (casts : Casts) (old new : Store) (number : ℕ) (now : List Value) (answer : Answer) → coming.CastsAs casts old new now (Some answer) → coming.ActsAs (access.calls_with old number casts) old new answer
casts_act (All values) old new number now (a.Value value) h = absurd h
casts_act (All values) old new number now (a.Thrown id) h = absurd h
casts_act (All values) old new number now a.Room h = absurd h
casts_act (All values) old new number now a.NoMemory h = h
casts_act (Ended told) old new number now answer h = h

pub built_is : (allow : AllowList) (store : Store) (number : ℕ) (values : List Value) → (length values == 0) ≡ false → coming.built_on allow store number values ≡ access.calls_with store number (access.casts_from store.objects (member_in allow number).params 1 values)
built_is allow store number [] h = cc
built_is allow store number (receiver ∷ arguments) h = refl

-- a member's parameters, as they are found
pub built_with : (allow : AllowList) (store : Store) (number : ℕ) (values : List Value) (params : List Ty) → params ≡ (member_in allow number).params → (length values == 0) ≡ false
    → access.calls_with store number (access.casts_from store.objects params 1 values) ≡ coming.built_on allow store number values
built_with allow store number values params p h =
    ap (λ (ofs : List Ty). access.calls_with store number (access.casts_from store.objects ofs 1 values)) p ∙ sym (built_is allow store number values h)
