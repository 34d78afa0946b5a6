-- What operations on references give: texts and casts a reference, equality a truth value, and `throw` nothing.
use Rattle.std.proofs.Common.{◌≡◌, ℕ, true, List, ◌++◌, [], ◌∷◌, length, Option, Some, None, refl}
use Rattle.std.proofs.lemmas.Bool.{false≢true}
use Rattle.std.specs.Prelude.{codes, is_some, slice_get}
use Rattle.object_values.specs.Utf16.{units}
use Rattle.pl_types.specs.declared.classes.TheConstants.{CLASS_CAST_EXCEPTION, ILLEGAL_STATE_EXCEPTION, NULL_POINTER_EXCEPTION}
use Rattle.pl_types.specs.declared.ty.Ty.{Ty}
use Rattle.object_values.specs.declared.object.Object.{Object}
use Rattle.object_values.specs.declared.object.Object.TheVariants as o
use Rattle.object_values.specs.declared.value.Value.{Value}
use Rattle.object_values.specs.declared.value.Value.TheVariants as v
use Rattle.number_ops.specs.Effects.{Effect, Gives, Throws, NoRoom, after_paying, throws}
use Rattle.number_ops.specs.Store.{Store, paid}
use Rattle.number_ops.specs.value_walks_declared.TheConstants.{VISITS}
use Rattle.number_ops.specs.value_walks_declared.equality.Walked.{Walked}
use Rattle.number_ops.specs.value_walks_declared.equality.Walked.TheVariants.{On, Deep, Large}
use Rattle.number_ops.specs.Equality.{equal_of}
use Rattle.arithmetic.specs.declared.operator.Num.{Num}
use Rattle.number_ops.specs.Operators.{number_in}
use Rattle.number_ops.specs.Order.{found_of}
use Rattle.number_ops.specs.Outcomes.{effect, says}
use Rattle.number_ops.specs.Relations.{equal, equal_if, thrown, thrown_if}
use Rattle.pl_code.specs.declared.kinds.Slot.TheVariants as slot
use Rattle.code_meaning.specs.declared.word.Word.TheVariants.{R}
use Rattle.code_meaning.specs.Words.{unboxed}
use Rattle.code_meaning.specs.Machine.{Next, on_type, if_null}
use Rattle.verifier_soundness.proofs.Casts.{EffectIs, throws_is}

-- what lies whole is a reference
pub whole_is : (e : Effect) → EffectIs R slot.R e
whole_is (Gives value store) = refl
whole_is (Throws id store) = tt
whole_is NoRoom = tt

-- ---- equality

found_is : (store : Store) (o : Walked) → EffectIs unboxed slot.I (effect store (found_of o))
unfolding says
found_is store (On equal visits) = refl
found_is store Deep = throws_is unboxed slot.I store ILLEGAL_STATE_EXCEPTION (Some (units (codes "value nested too deeply")))
found_is store Large = throws_is unboxed slot.I store ILLEGAL_STATE_EXCEPTION (Some (units (codes "value too large to walk")))

equal_if_is : (store : Store) (a b : Value) (x y : Option Num) → EffectIs unboxed slot.I (effect store (equal_if store.objects a b x y))
equal_if_is store a b (Some x) (Some y) = refl
equal_if_is store a b (Some x) None = found_is store (equal_of store.objects a b VISITS)
equal_if_is store a b None y = found_is store (equal_of store.objects a b VISITS)

pub equal_is : (store : Store) (a b : Value) → EffectIs unboxed slot.I (effect store (equal store.objects a b))
unfolding equal
equal_is store a b = equal_if_is store a b (number_in a) (number_in b)

-- ---- throw

abbrev pub GivesNothing : Effect → Type 0
GivesNothing (Gives value store) = ⊥
GivesNothing (Throws id store) = Unit {0}
GivesNothing NoRoom = Unit {0}

paid_throws : (o : Option Store) (next : Store → Effect) → ((store : Store) → GivesNothing (next store)) → GivesNothing (after_paying o next)
paid_throws None next h = tt
paid_throws (Some store) next h = h store

new_thrown : (store : Store) (class : ℕ) (message : Option (List ℕ)) → GivesNothing (throws store class message)
new_thrown store class message = paid_throws (paid store (store.objects ++ o.Exc class message ∷ []) 0) (λ paid. Throws (length store.objects) paid) (λ paid. tt)

no_exception_thrown : (store : Store) → GivesNothing (throws store CLASS_CAST_EXCEPTION None)
no_exception_thrown store = new_thrown store CLASS_CAST_EXCEPTION None

object_thrown : (store : Store) (id : ℕ) (object : Option Object) → GivesNothing (thrown_if store id object)
object_thrown store id None = no_exception_thrown store
object_thrown store id (Some (o.List class items guard changes)) = no_exception_thrown store
object_thrown store id (Some (o.Map class pairs guard changes)) = no_exception_thrown store
object_thrown store id (Some (o.Set class items guard changes)) = no_exception_thrown store
object_thrown store id (Some (o.Array of items)) = no_exception_thrown store
object_thrown store id (Some (o.View map part)) = no_exception_thrown store
object_thrown store id (Some (o.Entry map key)) = no_exception_thrown store
object_thrown store id (Some (o.Iter over cursor seen last)) = no_exception_thrown store
object_thrown store id (Some (o.Builder text)) = no_exception_thrown store
object_thrown store id (Some (o.Fun interface target captures)) = no_exception_thrown store
object_thrown store id (Some (o.Exc class message)) = tt

pub thrown_is : (store : Store) (value : Value) → GivesNothing (thrown store value)
unfolding thrown
thrown_is store v.Null = new_thrown store NULL_POINTER_EXCEPTION None
thrown_is store (v.Bool flag) = no_exception_thrown store
thrown_is store (v.Byte number) = no_exception_thrown store
thrown_is store (v.Short number) = no_exception_thrown store
thrown_is store (v.Char unit) = no_exception_thrown store
thrown_is store (v.Int number) = no_exception_thrown store
thrown_is store (v.Long number) = no_exception_thrown store
thrown_is store (v.Str text) = no_exception_thrown store
thrown_is store (v.Ref id) = object_thrown store id (slice_get store.objects id)

-- ---- null, and types

pub by_null : (P : Next → Type 0) (value : Value) (first second : Next) → P first → P second → P (if_null value first second)
by_null P v.Null first second p q = p
by_null P (v.Bool flag) first second p q = q
by_null P (v.Byte number) first second p q = q
by_null P (v.Short number) first second p q = q
by_null P (v.Char unit) first second p q = q
by_null P (v.Int number) first second p q = q
by_null P (v.Long number) first second p q = q
by_null P (v.Str text) first second p q = q
by_null P (v.Ref id) first second p q = q

-- a text that is a type's is read as it
pub type_is : (P : Next → Type 0) (o : Option Ty) (next : Ty → Next) → is_some o ≡ true → ((of : Ty) → P (next of)) → P (on_type o next)
type_is P None next e h = absurd (false≢true e)
type_is P (Some of) next e h = h of

pub type_read : (P : Next → Type 0) (o : Option Ty) (next : Ty → Next) → is_some o ≡ true → ((of : Ty) → o ≡ Some of → P (next of)) → P (on_type o next)
type_read P None next e h = absurd (false≢true e)
type_read P (Some of) next e h = h of refl
