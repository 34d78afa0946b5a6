-- What is said to come of an operator or a cast gives a value of its type.
use Rattle.std.proofs.Common.{◌≡◌, ℕ, true, Option, Some, None, List, ◌∷◌, [], ◌++◌, length}
use Rattle.std.specs.Prelude.{◌+◌}
use Rattle.pl_types.specs.declared.ty.Ty.{Ty, out-Ty}
use Rattle.pl_types.specs.declared.ty.Ty.TheOpen.{Ty-F}
use Rattle.object_values.specs.declared.object.Object.TheVariants as o
use Rattle.object_values.specs.declared.value.Value.{Value}
use Rattle.object_values.specs.declared.value.Value.TheVariants as v
use Rattle.object_heap.specs.Effects.{Effect, Gives, Throws, NoRoom, after_paying, throws}
use Rattle.object_heap.specs.Fits.{kinds, Rules, ThrownFits, EffectFits}
use Rattle.object_heap.specs.Objects.{Kind}
use Rattle.object_heap.specs.Store.{Store, paid}
use Rattle.number_ops.specs.declared.outcome.Outcome.{Outcome as Told}
use Rattle.number_ops.specs.declared.outcome.Outcome.TheVariants as told
use Rattle.number_ops.specs.Outcomes.{effect, class_raised}
use Rattle.run_fit.specs.World.{World, acts_in}
use Rattle.value_typing.specs.Typing.{is_typed_layer, OutcomeTyped, EffectIsOf, ActIsOf}

-- what an effect gives is of a type, which is given by its outermost layer
abbrev pub EffectTyped : Ty-F Ty → Effect → Type 0
EffectTyped l (Gives value store) = is_typed_layer (kinds store.objects) l value ≡ true
EffectTyped l (Throws id store) = Unit {0}
EffectTyped l NoRoom = Unit {0}

pub in_world : (of : Ty) (w : World) (e : Effect) → EffectTyped (out-Ty of) e → OutcomeTyped of (acts_in w e)
unfolding acts_in
in_world of w (Gives value store) h = h
in_world of w (Throws id store) h = tt
in_world of w NoRoom h = tt

pub after_pay : (l : Ty-F Ty) (o : Option Store) (next : Store → Effect) → ((store : Store) → EffectTyped l (next store)) → EffectTyped l (after_paying o next)
after_pay l None next h = tt
after_pay l (Some store) next h = h store

pub thrown_typed : (l : Ty-F Ty) (store : Store) (class : ℕ) (message : Option (List ℕ)) → EffectTyped l (throws store class message)
thrown_typed l store class message = after_pay l (paid store (store.objects ++ o.Exc class message ∷ []) 0) (λ paid. Throws (length store.objects) paid) (λ paid. tt)

-- a value and a text of these types; want of memory is said by no definition
abbrev pub ToldTyped : List Kind → Ty-F Ty → Told → Type 0
ToldTyped ks l (told.Gives value) = is_typed_layer ks l value ≡ true
ToldTyped ks l (told.Makes text) = (others : List Kind) → is_typed_layer others l (v.Str text) ≡ true
ToldTyped ks l (told.Throws raised message) = Unit {0}
ToldTyped ks l told.NoMemory = ⊥

pub settled : (l : Ty-F Ty) (store : Store) (x : Told) → ToldTyped (kinds store.objects) l x → EffectTyped l (effect store x)
settled l store (told.Gives value) h = h
settled l store (told.Makes text) h = after_pay l (paid store store.objects (length text + 1)) (λ paid. Gives (v.Str text) paid) (λ paid. h (kinds paid.objects))
settled l store (told.Throws raised message) h = thrown_typed l store (class_raised raised) message
settled l store told.NoMemory h = absurd h

-- ---- what members do

-- what is thrown is an exception that is there
abbrev pub ThrowsThere : Effect → Type 0
ThrowsThere (Gives value store) = Unit {0}
ThrowsThere (Throws id store) = ThrownFits store.objects id
ThrowsThere NoRoom = Unit {0}

pub thrown_there : (rules : Rules) (e : Effect) → EffectFits rules e → ThrowsThere e
thrown_there rules (Gives value store) f = tt
thrown_there rules (Throws id store) f = f.1
thrown_there rules NoRoom f = tt

-- what is paid and gives a value throws nothing
pub paid_there : (o : Option Store) (value : Value) → ThrowsThere (after_paying o (λ paid. Gives value paid))
paid_there None value = tt
paid_there (Some store) value = tt

abbrev pub ActTyped : Ty-F Ty → Option Effect → Type 0
ActTyped l None = Unit {0}
ActTyped l (Some e) = EffectTyped l e

abbrev pub ActThrows : Option Effect → Type 0
ActThrows None = Unit {0}
ActThrows (Some e) = ThrowsThere e

effect_is : (of : Ty) (e : Effect) → EffectTyped (out-Ty of) e → ThrowsThere e → EffectIsOf of e
effect_is of (Gives value store) h t = h
effect_is of (Throws id store) h t = t
effect_is of NoRoom h t = tt

pub act_is : (of : Ty) (o : Option Effect) → ActTyped (out-Ty of) o → ActThrows o → ActIsOf of o
act_is of None h t = tt
act_is of (Some e) h t = effect_is of e h t
