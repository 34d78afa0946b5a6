-- What operators, casts and members come to, before it is paid.
use Rattle.std.specs.Prelude.{◌≡◌, ℕ, Bool, true, false, Some, None, List, codes}
use Rattle.pl_units.specs.Utf16.{units}
use Rattle.pl_types.specs.declared.classes.TheConstants.{ARITHMETIC_EXCEPTION, CLASS_CAST_EXCEPTION, ILLEGAL_STATE_EXCEPTION, NULL_POINTER_EXCEPTION, NUMBER_FORMAT_EXCEPTION}
use Rattle.object_values.specs.declared.value.Value.{Value}
use Rattle.object_values.specs.declared.value.Value.TheVariants as v
use Rattle.object_heap.specs.declared.answer.Answer.{Answer}
use Rattle.object_heap.specs.declared.answer.Answer.TheVariants as a
use Rattle.object_heap.specs.Effects.{Effect, Gives, NoRoom, gives_text, throws}
use Rattle.object_heap.specs.Store.{Store}
use Rattle.number_ops.specs.declared.affording.Afforded.{Afforded}
use Rattle.number_ops.specs.declared.affording.Afforded.TheVariants as afforded
use Rattle.number_ops.specs.declared.outcome.Raised.{Raised}
use Rattle.number_ops.specs.declared.outcome.Raised.TheVariants.{Arithmetic, ClassCast, IllegalState, NullPointer, NumberFormat}
use Rattle.number_ops.specs.declared.outcome.Outcome.{Outcome}
use Rattle.number_ops.specs.declared.outcome.Outcome.TheVariants as outcome

-- the class of an exception
abbrev pub class_raised : Raised → ℕ
class_raised Arithmetic = ARITHMETIC_EXCEPTION
class_raised ClassCast = CLASS_CAST_EXCEPTION
class_raised IllegalState = ILLEGAL_STATE_EXCEPTION
class_raised NullPointer = NULL_POINTER_EXCEPTION
class_raised NumberFormat = NUMBER_FORMAT_EXCEPTION

-- The effect of an outcome: a value is free, a text is made and paid, and an exception is a new object. (Want of memory is no
-- outcome that a definition gives.)
abbrev pub effect : Store → Outcome → Effect
effect store (outcome.Gives value) = Gives value store
effect store (outcome.Makes text) = gives_text store text
effect store (outcome.Throws raised message) = throws store (class_raised raised) message
effect store outcome.NoMemory = Gives v.Null store

abbrev pub is_text : Value → Bool
is_text (v.Str text) = true
is_text value = false

-- a value that is given is there already, and nothing is made for it; a text is copied
abbrev pub NeedsMemory : Outcome → Type 0
NeedsMemory (outcome.Gives value) = is_text value ≡ true
NeedsMemory told = Unit {0}

-- What a function says is the outcome. It may say that there is no memory where something is made or copied
abbrev pub Tells : Outcome → Outcome → Type 0
Tells told outcome.NoMemory = NeedsMemory told
Tells told (outcome.Gives value) = told ≡ outcome.Gives value
Tells told (outcome.Makes text) = told ≡ outcome.Makes text
Tells told (outcome.Throws raised message) = told ≡ outcome.Throws raised message

-- What a function says is the outcome, where a text is made only if there is room for it: it may say that there is none where that is
-- the effect of the outcome
abbrev pub Affords : Store → Outcome → Afforded → Type 0
Affords store told (afforded.Told outcome) = Tells told outcome
Affords store told afforded.NoRoom = effect store told ≡ NoRoom

-- a call answers want of memory only where something is made or copied
abbrev pub WantsMemory : Outcome → Answer → Type 0
WantsMemory told a.NoMemory = NeedsMemory told
WantsMemory told answer = Unit {0}

-- there was memory for what a call answers
abbrev pub IsAnswered : Answer → Type 0
IsAnswered a.NoMemory = ⊥
IsAnswered answer = Unit {0}

-- of a number that is no member's
abbrev pub nothing : Outcome
nothing = outcome.Gives v.Null

-- an exception with a message, given by its bytes
unfoldable pub says : Raised → List ℕ → Outcome
says raised message = outcome.Throws raised (Some (units message))

abbrev pub null_error : Outcome
null_error = outcome.Throws NullPointer None

abbrev pub zero_divisor : Outcome
zero_divisor = says Arithmetic (codes "/ by zero")

abbrev pub too_deep : Outcome
too_deep = says IllegalState (codes "value nested too deeply")

abbrev pub too_large : Outcome
too_large = says IllegalState (codes "value too large to walk")
