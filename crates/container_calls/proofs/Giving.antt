-- What effects give.
use Rattle.std.proofs.Common.{◌-◌, ℕ, nat_le, true, false, Option, Some, None, List, [], ◌∷◌, ◌++◌, length, refl, if◌then◌else◌}
use Rattle.pl_types.specs.declared.primitive.Primitive.{Primitive}
use Rattle.allowlist.specs.declared.member.MemberType.{MemberType}
use Rattle.object_values.specs.declared.object.Object.{Object}
use Rattle.object_values.specs.declared.object.Object.TheVariants as o
use Rattle.object_heap.specs.Effects.{Effect, after_paying}
use Rattle.object_heap.specs.Effects as e
use Rattle.object_heap.specs.Store.{Store, charge, paid}
use Rattle.container_calls.specs.Types.{primitive_of, EffectGives}

pub paid_gives : (wanted : Option Primitive) (store : Store) (objects : List Object) (made : ℕ) (next : Store → Effect)
    → ((room : ℕ) → EffectGives wanted (next (record { objects = objects; room = room }))) → EffectGives wanted (after_paying (paid store objects made) next)
unfolding paid
paid_gives wanted store objects made next h =
    elim (nat_le (charge store objects made) store.room) as (λ b. EffectGives wanted (after_paying (if b then Some (record { objects = objects; room = store.room - charge store objects made }) else None) next))
    [ true ↦ h (store.room - charge store objects made) | false ↦ tt ]

pub throw_gives : (wanted : Option Primitive) (store : Store) (class : ℕ) (message : Option (List ℕ)) → EffectGives wanted (e.throws store class message)
throw_gives wanted store class message = paid_gives wanted store (store.objects ++ o.Exc class message ∷ []) 0 (λ paid. e.Throws (length store.objects) paid) (λ room. tt)

pub anything : (effect : Effect) → EffectGives None effect
anything (e.Gives value store) = refl
anything (e.Throws id store) = tt
anything e.NoRoom = tt

abbrev pub given_in : MemberType → Option Primitive
given_in member = primitive_of member.result
