-- Casts at run time to a primitive give a value whose word is of that primitive's kind.
use Rattle.std.proofs.Common.{◌≡◌, ℕ, Bool, true, List, ◌++◌, [], ◌∷◌, length, Option, Some, None, refl}
use Rattle.std.specs.Prelude.{codes}
use Rattle.object_values.specs.Utf16.{units}
use Rattle.pl_types.specs.declared.classes.TheConstants.{ARITHMETIC_EXCEPTION}
use Rattle.pl_types.specs.declared.primitive.Primitive.{Primitive}
use Rattle.pl_types.specs.declared.primitive.Primitive.TheVariants as prim
use Rattle.pl_types.specs.declared.ty.Ty.TheVariants as ty
use Rattle.object_values.specs.declared.value.Value.{Value}
use Rattle.object_values.specs.declared.value.Value.TheVariants as v
use Rattle.object_values.specs.declared.object.Object.TheVariants as o
use Rattle.number_ops.specs.Fits.{is_primitive}
use Rattle.number_ops.specs.Effects.{Effect, Gives, Throws, NoRoom, after_paying, throws}
use Rattle.number_ops.specs.Store.{Store, paid}
use Rattle.pl_code.specs.declared.kinds.Slot.{Slot}
use Rattle.number_ops.specs.Outcomes.{effect, zero_divisor, says, class_raised}
use Rattle.number_ops.specs.declared.outcome.Outcome.{Outcome}
use Rattle.number_ops.specs.declared.outcome.Outcome.TheVariants as outcome
use Rattle.number_ops.specs.Casts.{cast_at_run_time}
use Rattle.number_ops.proofs.Related as related
use Rattle.instruction_types.specs.Types.{kind_of_primitive}
use Rattle.code_meaning.specs.declared.word.Word.{Word}
use Rattle.code_meaning.specs.Words.{unboxed}
use Rattle.verifier_soundness.specs.Fits.{kind_of}

-- what an effect gives stands in a word of a kind
abbrev pub EffectIs : (Value → Word) → Slot → Effect → Type 0
EffectIs word k (Gives value store) = kind_of (word value) ≡ k
EffectIs word k (Throws id store) = Unit {0}
EffectIs word k NoRoom = Unit {0}

pays : (word : Value → Word) (k : Slot) (o : Option Store) (next : Store → Effect) → ((store : Store) → EffectIs word k (next store)) → EffectIs word k (after_paying o next)
pays word k None next h = tt
pays word k (Some store) next h = h store

pub throws_is : (word : Value → Word) (k : Slot) (store : Store) (class : ℕ) (message : Option (List ℕ)) → EffectIs word k (throws store class message)
throws_is word k store class message = pays word k (paid store (store.objects ++ o.Exc class message ∷ []) 0) (λ paid. Throws (length store.objects) paid) (λ paid. tt)

pub divisor_is : (word : Value → Word) (k : Slot) (store : Store) → EffectIs word k (effect store zero_divisor)
unfolding says
divisor_is word k store = throws_is word k store ARITHMETIC_EXCEPTION (Some (units (codes "/ by zero")))

-- a value of a primitive type stands in a word of the type's kind
of_primitive : (p : Primitive) (value : Value) → is_primitive p value ≡ true → kind_of (unboxed value) ≡ kind_of_primitive p
of_primitive prim.Boolean (v.Bool flag) is = refl
of_primitive prim.Byte (v.Byte number) is = refl
of_primitive prim.Short (v.Short number) is = refl
of_primitive prim.Char (v.Char unit) is = refl
of_primitive prim.Int (v.Int number) is = refl
of_primitive prim.Long (v.Long number) is = refl
of_primitive p value is = absurd (cc)

of_outcome : (p : Primitive) (store : Store) (told : Outcome) → related.Only (related.Is p) told → EffectIs unboxed (kind_of_primitive p) (effect store told)
of_outcome p store (outcome.Gives value) is = of_primitive p value is
of_outcome p store (outcome.Makes text) is = absurd is
of_outcome p store (outcome.Throws raised message) is = throws_is unboxed (kind_of_primitive p) store (class_raised raised) message
of_outcome p store outcome.NoMemory is = absurd is

pub cast_is : (p : Primitive) (store : Store) (value : Value) (explicit : Bool) → EffectIs unboxed (kind_of_primitive p) (effect store (cast_at_run_time store.objects value (ty.Prim p) explicit))
cast_is p store value explicit = of_outcome p store (cast_at_run_time store.objects value (ty.Prim p) explicit) (related.cast_is p store.objects value explicit)
