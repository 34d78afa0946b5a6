-- What operations give whose operands' types are found at run time is of the type that it should be.
use Rattle.std.proofs.Common.{◌≡◌, ℕ, Bool, true, false, not, List, [], ◌∷◌, ◌++◌, length, Option, Some, None, refl, sym, subst}
use Rattle.std.specs.Prelude.{codes, if◌then◌else◌}
use Rattle.std.specs.Ordering.{int_eq}
use Rattle.pl_types.specs.declared.classes.TheConstants.{CLASS_CAST_EXCEPTION, NULL_POINTER_EXCEPTION}
use Rattle.pl_types.specs.declared.primitive.Primitive.{Primitive}
use Rattle.pl_types.specs.declared.primitive.Primitive.TheVariants as prim
use Rattle.pl_types.specs.declared.ty.Ty.{Ty, out-Ty}
use Rattle.pl_types.specs.declared.ty.Ty.TheVariants as t
use Rattle.pl_types.specs.declared.ty.Ty.TheOpen.{Ty-F}
use Rattle.pl_types.specs.Casts.{reaches}
use Rattle.object_values.specs.Utf16.{units}
use Rattle.object_values.specs.declared.object.Object.{Object}
use Rattle.object_values.specs.declared.object.Object.TheVariants as o
use Rattle.object_values.specs.declared.value.Value.{Value}
use Rattle.object_values.specs.declared.value.Value.TheVariants as v
use Rattle.object_heap.specs.Effects.{Effect, Gives as Gives_value, Throws, NoRoom, after_paying, throws}
use Rattle.object_heap.specs.Store.{Store, paid}
use Rattle.value_walks.specs.declared.TheConstants.{VISITS}
use Rattle.value_walks.specs.declared.equality.Walked.{Walked}
use Rattle.value_walks.specs.declared.equality.Walked.TheVariants.{On, Deep, Large}
use Rattle.value_walks.specs.Equality.{equal_of}
use Rattle.arithmetic.specs.declared.operator.Num.{Num}
use Rattle.arithmetic.specs.Operators.{as_long}
use Rattle.number_ops.specs.declared.outcome.Outcome.{Outcome}
use Rattle.number_ops.specs.declared.outcome.Outcome.TheVariants as outcome
use Rattle.number_ops.specs.declared.outcome.Raised.{Raised}
use Rattle.number_ops.specs.declared.casts.Casted.TheVariants.{To, Refused}
use Rattle.number_ops.specs.Casts.{number_as, only_unit, char_given, to_primitive, to_layer, given, of_null, cast_at_run_time}
use Rattle.number_ops.specs.Names.{cannot_cast}
use Rattle.number_ops.specs.Operators.{number_in, is_null}
use Rattle.number_ops.specs.Order.{found_of}
use Rattle.number_ops.specs.Outcomes.{effect, class_raised, says, null_error, zero_divisor}
use Rattle.number_ops.specs.Relations.{equal, equal_if}
use Rattle.source_meaning.specs.Calls.{wrong_class}
use Rattle.source_meaning.specs.Operating.{Operated, Meaningless, Gives as Gives_it, Acts, negated}
use Rattle.program_typing.specs.Types.{HasPrimitive, HasLayer, Has, string}
use Rattle.program_typing.proofs.Values.{has_flag, text_has}

-- what an effect gives is of a type, which is given by its outermost layer
abbrev pub LayerHas : Ty-F Ty → Effect → Type 0
LayerHas l (Gives_value value store) = HasLayer l value
LayerHas l (Throws id store) = Unit {0}
LayerHas l NoRoom = Unit {0}

abbrev pub EffectHas : Ty → Effect → Type 0
EffectHas of x = LayerHas (out-Ty of) x

abbrev pub OperatedHas : Ty → Operated → Type 0
OperatedHas of Meaningless = ⊥
OperatedHas of (Gives_it value) = Has of value
OperatedHas of (Acts effect) = EffectHas of effect

pays : (l : Ty-F Ty) (o : Option Store) (next : Store → Effect) → ((store : Store) → LayerHas l (next store)) → LayerHas l (after_paying o next)
pays l None next h = tt
pays l (Some store) next h = h store

pub thrown_has : (l : Ty-F Ty) (store : Store) (class : ℕ) (message : Option (List ℕ)) → LayerHas l (throws store class message)
thrown_has l store class message = pays l (paid store (store.objects ++ o.Exc class message ∷ []) 0) (λ paid. Throws (length store.objects) paid) (λ paid. tt)

says_has : (l : Ty-F Ty) (store : Store) (raised : Raised) (message : List ℕ) → LayerHas l (effect store (says raised message))
unfolding says
says_has l store raised message = thrown_has l store (class_raised raised) (Some (units message))

pub null_throws : (of : Ty) (store : Store) → EffectHas of (effect store null_error)
null_throws of store = thrown_has (out-Ty of) store NULL_POINTER_EXCEPTION None

pub wrong_throws : (of : Ty) (store : Store) → EffectHas of (effect store wrong_class)
wrong_throws of store = thrown_has (out-Ty of) store CLASS_CAST_EXCEPTION None

pub divides : (of : Ty) (store : Store) → EffectHas of (effect store zero_divisor)
divides of store = says_has (out-Ty of) store _ (codes "/ by zero")

-- where every value is of a type
pub made : (l : Ty-F Ty) (x : Effect) → ((value : Value) → HasLayer l value) → LayerHas l x
made l (Gives_value value store) h = h value
made l (Throws id store) h = tt
made l NoRoom h = tt

pub made_has : (of : Ty) (x : Effect) → of ≡ string → EffectHas of x
made_has of x is = made (out-Ty of) x (λ value. text_has of value is)

-- what acts on the store and may give any value
abbrev pub IsActs : Operated → Type 0
IsActs (Acts x) = Unit {0}
IsActs other = ⊥

pub text_acts : (o : Operated) → IsActs o → OperatedHas string o
text_acts Meaningless h = absurd h
text_acts (Gives_it value) h = absurd h
text_acts (Acts x) h = made_has string x refl

-- ---- equality

walked_has : (of : Ty) (store : Store) (w : Walked) → of ≡ t.Prim prim.Boolean → EffectHas of (effect store (found_of w))
walked_has of store (On is visits) x = has_flag of is x
walked_has of store Deep x = says_has (out-Ty of) store _ (codes "value nested too deeply")
walked_has of store Large x = says_has (out-Ty of) store _ (codes "value too large to walk")

says_not : (of : Ty) (store : Store) (raised : Raised) (message : List ℕ) → EffectHas of (effect store (negated (says raised message)))
unfolding says
says_not of store raised message = thrown_has (out-Ty of) store (class_raised raised) (Some (units message))

walked_not : (of : Ty) (store : Store) (w : Walked) → of ≡ t.Prim prim.Boolean → EffectHas of (effect store (negated (found_of w)))
walked_not of store (On is visits) x = has_flag of (not is) x
walked_not of store Deep x = says_not of store _ (codes "value nested too deeply")
walked_not of store Large x = says_not of store _ (codes "value too large to walk")

pub equal_has : (of : Ty) (store : Store) (a b : Value) → of ≡ t.Prim prim.Boolean → EffectHas of (effect store (equal store.objects a b))
unfolding equal
equal_has of store a b x = either (number_in a) (number_in b)
  where
    either : (m n : Option Num) → EffectHas of (effect store (equal_if store.objects a b m n))
    either (Some m) (Some n) = has_flag of (int_eq (as_long m) (as_long n)) x
    either (Some m) None = walked_has of store (equal_of store.objects a b VISITS) x
    either None n = walked_has of store (equal_of store.objects a b VISITS) x

pub unequal_has : (of : Ty) (store : Store) (a b : Value) → of ≡ t.Prim prim.Boolean → EffectHas of (effect store (negated (equal store.objects a b)))
unfolding equal
unequal_has of store a b x = either (number_in a) (number_in b)
  where
    either : (m n : Option Num) → EffectHas of (effect store (negated (equal_if store.objects a b m n)))
    either (Some m) (Some n) = has_flag of (not (int_eq (as_long m) (as_long n))) x
    either (Some m) None = walked_not of store (equal_of store.objects a b VISITS) x
    either None n = walked_not of store (equal_of store.objects a b VISITS) x

-- ---- casts at run time

-- what goes to a primitive type comes to a value of it, or is thrown
abbrev pub OutcomeHas : Primitive → Outcome → Type 0
OutcomeHas p (outcome.Gives value) = HasPrimitive p value
OutcomeHas p (outcome.Throws raised message) = Unit {0}
OutcomeHas p other = ⊥

pub outcome_has : (p : Primitive) (store : Store) (o : Outcome) → OutcomeHas p o → LayerHas (Ty-F.Prim p) (effect store o)
outcome_has p store (outcome.Gives value) h = h
outcome_has p store (outcome.Makes text) h = absurd h
outcome_has p store (outcome.Throws raised message) h = thrown_has (Ty-F.Prim p) store (class_raised raised) message
outcome_has p store outcome.NoMemory h = absurd h

-- what is thrown is of every type
pub throws_has : (of : Ty) (store : Store) (raised : Raised) (message : Option (List ℕ)) → EffectHas of (effect store (outcome.Throws raised message))
throws_has of store raised message = thrown_has (out-Ty of) store (class_raised raised) message

refused_has : (p : Primitive) (objects : List Object) (value : Value) (to : Ty) → OutcomeHas p (cannot_cast objects value to)
unfolding says
refused_has p objects value to = tt

-- a box's number goes to no boolean, and to each other primitive
abbrev IsNumber : Primitive → Type 0
IsNumber prim.Boolean = ⊥
IsNumber other = Unit {0}

no_boolean : (from : Primitive) (explicit : Bool) → IsNumber from → reaches from prim.Boolean explicit ≡ false
no_boolean prim.Boolean explicit h = absurd h
no_boolean prim.Byte true h = refl
no_boolean prim.Byte false h = refl
no_boolean prim.Short true h = refl
no_boolean prim.Short false h = refl
no_boolean prim.Char true h = refl
no_boolean prim.Char false h = refl
no_boolean prim.Int true h = refl
no_boolean prim.Int false h = refl
no_boolean prim.Long true h = refl
no_boolean prim.Long false h = refl

number_has : (p from : Primitive) (explicit : Bool) (number : Num) (objects : List Object) (value : Value) (to : Ty) → IsNumber from
    → OutcomeHas p (given objects value to (if reaches from p explicit then To (number_as p number) else Refused))
number_has p from explicit number objects value to h = by p
  where
    either : (p : Primitive) → HasPrimitive p (number_as p number) → (c : Bool) → OutcomeHas p (given objects value to (if c then To (number_as p number) else Refused))
    either p has true = has
    either p has false = refused_has p objects value to

    by : (p : Primitive) → OutcomeHas p (given objects value to (if reaches from p explicit then To (number_as p number) else Refused))
    by prim.Boolean =
        subst (λ c. OutcomeHas prim.Boolean (given objects value to (if c then To (number_as prim.Boolean number) else Refused)))
        (sym (no_boolean from explicit h)) (refused_has prim.Boolean objects value to)
    by prim.Byte = either prim.Byte (_, refl) (reaches from prim.Byte explicit)
    by prim.Short = either prim.Short (_, refl) (reaches from prim.Short explicit)
    by prim.Char = either prim.Char (_, refl) (reaches from prim.Char explicit)
    by prim.Int = either prim.Int (_, refl) (reaches from prim.Int explicit)
    by prim.Long = either prim.Long (_, refl) (reaches from prim.Long explicit)

-- a truth value goes to boolean alone
truth_stays : (p : Primitive) (explicit : Bool) (flag : Bool) (objects : List Object) (to : Ty)
    → OutcomeHas p (given objects (v.Bool flag) to (to_primitive p explicit (v.Bool flag)))
truth_stays prim.Boolean explicit flag objects to = (flag, refl)
truth_stays prim.Byte true flag objects to = refused_has prim.Byte objects (v.Bool flag) to
truth_stays prim.Byte false flag objects to = refused_has prim.Byte objects (v.Bool flag) to
truth_stays prim.Short true flag objects to = refused_has prim.Short objects (v.Bool flag) to
truth_stays prim.Short false flag objects to = refused_has prim.Short objects (v.Bool flag) to
truth_stays prim.Char true flag objects to = refused_has prim.Char objects (v.Bool flag) to
truth_stays prim.Char false flag objects to = refused_has prim.Char objects (v.Bool flag) to
truth_stays prim.Int true flag objects to = refused_has prim.Int objects (v.Bool flag) to
truth_stays prim.Int false flag objects to = refused_has prim.Int objects (v.Bool flag) to
truth_stays prim.Long true flag objects to = refused_has prim.Long objects (v.Bool flag) to
truth_stays prim.Long false flag objects to = refused_has prim.Long objects (v.Bool flag) to

-- a text goes to char alone, where it has one unit
text_goes : (p : Primitive) (explicit : Bool) (text : List ℕ) (objects : List Object) (to : Ty)
    → OutcomeHas p (given objects (v.Str text) to (to_primitive p explicit (v.Str text)))
text_goes prim.Char true text objects to = either text
  where
    either : (units : List ℕ) → OutcomeHas prim.Char (given objects (v.Str text) to (char_given (only_unit units)))
    either [] = refused_has prim.Char objects (v.Str text) to
    either (unit ∷ []) = (unit, refl)
    either (unit ∷ other ∷ rest) = refused_has prim.Char objects (v.Str text) to
text_goes prim.Char false text objects to = refused_has prim.Char objects (v.Str text) to
text_goes prim.Boolean explicit text objects to = refused_has prim.Boolean objects (v.Str text) to
text_goes prim.Byte explicit text objects to = refused_has prim.Byte objects (v.Str text) to
text_goes prim.Short explicit text objects to = refused_has prim.Short objects (v.Str text) to
text_goes prim.Int explicit text objects to = refused_has prim.Int objects (v.Str text) to
text_goes prim.Long explicit text objects to = refused_has prim.Long objects (v.Str text) to

-- and an object to none
reference_refused : (p : Primitive) (explicit : Bool) (id : ℕ) (objects : List Object) (to : Ty)
    → OutcomeHas p (given objects (v.Ref id) to (to_primitive p explicit (v.Ref id)))
reference_refused prim.Char true id objects to = refused_has prim.Char objects (v.Ref id) to
reference_refused prim.Char false id objects to = refused_has prim.Char objects (v.Ref id) to
reference_refused prim.Boolean explicit id objects to = refused_has prim.Boolean objects (v.Ref id) to
reference_refused prim.Byte explicit id objects to = refused_has prim.Byte objects (v.Ref id) to
reference_refused prim.Short explicit id objects to = refused_has prim.Short objects (v.Ref id) to
reference_refused prim.Int explicit id objects to = refused_has prim.Int objects (v.Ref id) to
reference_refused prim.Long explicit id objects to = refused_has prim.Long objects (v.Ref id) to

-- what a cast to a type comes to, by the type's outermost layer
abbrev cast_to_layer : List Object → Value → Ty → Ty-F Ty → Bool → Outcome
cast_to_layer objects value to l explicit = if is_null value then of_null l else given objects value to (to_layer objects l explicit value)

to_primitive_has : (p : Primitive) (to : Ty) (objects : List Object) (value : Value) (explicit : Bool) → OutcomeHas p (cast_to_layer objects value to (Ty-F.Prim p) explicit)
to_primitive_has p to objects v.Null explicit = tt
to_primitive_has p to objects (v.Bool flag) explicit = truth_stays p explicit flag objects to
to_primitive_has p to objects (v.Byte a) explicit = number_has p prim.Byte explicit _ objects (v.Byte a) to tt
to_primitive_has p to objects (v.Short a) explicit = number_has p prim.Short explicit _ objects (v.Short a) to tt
to_primitive_has p to objects (v.Char a) explicit = number_has p prim.Char explicit _ objects (v.Char a) to tt
to_primitive_has p to objects (v.Int a) explicit = number_has p prim.Int explicit _ objects (v.Int a) to tt
to_primitive_has p to objects (v.Long a) explicit = number_has p prim.Long explicit _ objects (v.Long a) to tt
to_primitive_has p to objects (v.Str text) explicit = text_goes p explicit text objects to
to_primitive_has p to objects (v.Ref id) explicit = reference_refused p explicit id objects to

-- A cast at run time to a primitive type comes to a value of it, or is thrown.
pub primitive_has : (p : Primitive) (objects : List Object) (value : Value) (explicit : Bool) → OutcomeHas p (cast_at_run_time objects value (t.Prim p) explicit)
unfolding out-Ty denote.Hole.Carrier.out
primitive_has p objects value explicit = to_primitive_has p (t.Prim p) objects value explicit

layer_has : (l : Ty-F Ty) (to : Ty) (store : Store) (value : Value) (explicit : Bool) → LayerHas l (effect store (cast_to_layer store.objects value to l explicit))
layer_has Ty-F.Void to store value explicit = made Ty-F.Void _ (λ value. tt)
layer_has Ty-F.Null to store value explicit = made Ty-F.Null _ (λ value. tt)
layer_has Ty-F.Def to store value explicit = made Ty-F.Def _ (λ value. tt)
layer_has (Ty-F.Prim p) to store value explicit = outcome_has p store _ (to_primitive_has p to store.objects value explicit)
layer_has (Ty-F.Class class) to store value explicit = made (Ty-F.Class class) _ (λ value. tt)
layer_has (Ty-F.Array of) to store value explicit = made (Ty-F.Array of) _ (λ value. tt)

-- A cast at run time gives a value of its type, or throws.
pub cast_has : (to : Ty) (store : Store) (value : Value) (explicit : Bool) → EffectHas to (effect store (cast_at_run_time store.objects value to explicit))
cast_has to store value explicit = layer_has (out-Ty to) to store value explicit
