-- What members come to, before it is paid, and what that does to the store.
use Rattle.std.specs.Prelude.{◌≡◌, ℕ, Some, None, List, [], ◌∷◌, ◌++◌, length, codes}
use Rattle.pl_units.specs.Utf16.{units}
use Rattle.pl_types.specs.declared.classes.TheConstants.{STRING, EXCEPTION, RUNTIME_EXCEPTION, ARITHMETIC_EXCEPTION, CLASS_CAST_EXCEPTION, CONCURRENT_MODIFICATION_EXCEPTION, ILLEGAL_ARGUMENT_EXCEPTION, ILLEGAL_STATE_EXCEPTION, INDEX_OUT_OF_BOUNDS_EXCEPTION, NEGATIVE_ARRAY_SIZE_EXCEPTION, NO_SUCH_ELEMENT_EXCEPTION, NULL_POINTER_EXCEPTION, UNSUPPORTED_OPERATION_EXCEPTION, NUMBER_FORMAT_EXCEPTION, ARRAY_INDEX_OUT_OF_BOUNDS_EXCEPTION, STRING_INDEX_OUT_OF_BOUNDS_EXCEPTION}
use Rattle.pl_types.specs.declared.primitive.Primitive.TheVariants as prim
use Rattle.pl_types.specs.declared.ty.Ty.TheVariants as ty
use Rattle.object_values.specs.declared.object.Object.{Object}
use Rattle.object_values.specs.declared.object.Object.TheVariants as o
use Rattle.object_values.specs.declared.value.Value.TheVariants as v
use Rattle.object_heap.specs.declared.answer.Answer.{Answer}
use Rattle.object_heap.specs.declared.answer.Answer.TheVariants as a
use Rattle.object_heap.specs.Effects.{Effect, Gives, NoRoom, after_paying, gives_paid, gives_text, throws}
use Rattle.object_heap.specs.Objects.{with_units, renewed_by}
use Rattle.object_heap.specs.Store.{Store, paid, with_change}
use Rattle.value_walks.specs.Texts.{Text, Wrote, TooDeep, TooLarge}
use Rattle.api_text.specs.declared.outcome.ExceptionClass.{ExceptionClass}
use Rattle.api_text.specs.declared.outcome.ExceptionClass.TheVariants as class
use Rattle.api_text.specs.declared.outcome.Outcome.{Outcome}
use Rattle.api_text.specs.declared.outcome.Outcome.TheVariants as outcome

-- the number of a class of exceptions
abbrev pub number_of : ExceptionClass → ℕ
number_of class.Exception = EXCEPTION
number_of class.Runtime = RUNTIME_EXCEPTION
number_of class.Arithmetic = ARITHMETIC_EXCEPTION
number_of class.ClassCast = CLASS_CAST_EXCEPTION
number_of class.ConcurrentModification = CONCURRENT_MODIFICATION_EXCEPTION
number_of class.IllegalArgument = ILLEGAL_ARGUMENT_EXCEPTION
number_of class.IllegalState = ILLEGAL_STATE_EXCEPTION
number_of class.IndexOutOfBounds = INDEX_OUT_OF_BOUNDS_EXCEPTION
number_of class.NegativeArraySize = NEGATIVE_ARRAY_SIZE_EXCEPTION
number_of class.NoSuchElement = NO_SUCH_ELEMENT_EXCEPTION
number_of class.NullPointer = NULL_POINTER_EXCEPTION
number_of class.UnsupportedOperation = UNSUPPORTED_OPERATION_EXCEPTION
number_of class.NumberFormat = NUMBER_FORMAT_EXCEPTION
number_of class.ArrayIndexOutOfBounds = ARRAY_INDEX_OUT_OF_BOUNDS_EXCEPTION
number_of class.StringIndexOutOfBounds = STRING_INDEX_OUT_OF_BOUNDS_EXCEPTION

-- adds an object, and makes texts for it that cost so much
abbrev pub gives_new : Store → Object → ℕ → Effect
gives_new store object made = after_paying (paid store (store.objects ++ object ∷ []) made) (λ paid. Gives (v.Ref (length store.objects)) paid)

-- The effect of an outcome. A value is free. A text costs its units and 1. A new object costs its weight, and an array of texts
-- that are made also each text. A builder that changes costs what it grows by. An exception is a new object. (A member comes to
-- no more than these: that there is no room, or no memory, is what a call says of them.)
abbrev pub effect : Store → Outcome → Effect
effect store (outcome.Gives value) = Gives value store
effect store (outcome.Makes text) = gives_text store text
effect store (outcome.NewBuilder units) = gives_new store (o.Builder units) 0
effect store (outcome.NewException class message) = gives_new store (o.Exc (number_of class) message) 0
effect store (outcome.Chars items) = gives_new store (o.Array (ty.Prim prim.Char) items) 0
effect store (outcome.Texts items made) = gives_new store (o.Array (ty.Class STRING) items) made
effect store (outcome.Extends builder more) = gives_paid store (with_change store.objects builder (with_units more)) (v.Ref builder)
effect store (outcome.Becomes builder units value) = gives_paid store (with_change store.objects builder (renewed_by (o.Builder units))) value
effect store (outcome.Throws class message) = throws store (number_of class) message
effect store outcome.NoRoom = NoRoom
effect store outcome.NoMemory = Gives v.Null store

-- a value that is given is there already: nothing is made for it
abbrev pub NeedsMemory : Outcome → Type 0
NeedsMemory (outcome.Gives value) = ⊥
NeedsMemory told = Unit {0}

-- What a function of a member says is the outcome. It may say that there is no room where that is the effect of the outcome, and
-- that there is no memory where something is made
abbrev pub Tells : Store → Outcome → Outcome → Type 0
Tells store told outcome.NoMemory = NeedsMemory told
Tells store told outcome.NoRoom = effect store told ≡ NoRoom
Tells store told (outcome.Gives value) = told ≡ outcome.Gives value
Tells store told (outcome.Makes text) = told ≡ outcome.Makes text
Tells store told (outcome.NewBuilder units) = told ≡ outcome.NewBuilder units
Tells store told (outcome.NewException class message) = told ≡ outcome.NewException class message
Tells store told (outcome.Chars items) = told ≡ outcome.Chars items
Tells store told (outcome.Texts items made) = told ≡ outcome.Texts items made
Tells store told (outcome.Extends builder more) = told ≡ outcome.Extends builder more
Tells store told (outcome.Becomes builder units value) = told ≡ outcome.Becomes builder units value
Tells store told (outcome.Throws class message) = told ≡ outcome.Throws class message

-- a call answers want of memory only where something is made
abbrev pub WantsMemory : Outcome → Answer → Type 0
WantsMemory told a.NoMemory = NeedsMemory told
WantsMemory told answer = Unit {0}

-- of a number that is no member's
abbrev pub nothing : Outcome
nothing = outcome.Gives v.Null

-- an exception with a message, given by its bytes
unfoldable pub says : ExceptionClass → List ℕ → Outcome
says class message = outcome.Throws class (Some (units message))

abbrev pub null_error : Outcome
null_error = outcome.Throws class.NullPointer None

abbrev pub too_deep : Outcome
too_deep = says class.IllegalState (codes "value nested too deeply")

abbrev pub too_large : Outcome
too_large = says class.IllegalState (codes "value too large to walk")

-- goes on with the text of a walk
abbrev pub followed_by : Text → (List ℕ → Outcome) → Outcome
followed_by (Wrote text visits) next = next text
followed_by TooDeep next = too_deep
followed_by TooLarge next = too_large
