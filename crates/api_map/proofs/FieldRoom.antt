-- Messages for which there is no room.
use Rattle.std.proofs.Common.{◌≡◌, ℕ, ◌+◌, ◌<◌, List, [], ◌∷◌, ◌++◌, Some, length, codes, refl, arith, length-append}
use Rattle.pl_units.specs.Utf16.{units}
use Rattle.object_values.specs.declared.object.Object.TheVariants as o
use Rattle.object_heap.specs.Effects.{NoRoom, throws}
use Rattle.object_heap.specs.Objects.{weight_of}
use Rattle.object_heap.specs.Store.{Store}
use Rattle.object_heap.proofs.Growth.{add_grows}
use Rattle.object_heap.proofs.Paying.{paid_not}
use Rattle.value_walks.specs.Texts.{Text, Wrote, TooDeep, TooLarge, IsLonger}
use Rattle.container_outcomes.specs.Outcomes.{effect}
use Rattle.api_map.specs.Maps.{followed_by, no_field}

-- an exception costs the units of its message and 1
no_room_to_throw : (store : Store) (class : ℕ) (message : List ℕ) → store.room < length message → throws store class (Some message) ≡ NoRoom
unfolding weight_of
no_room_to_throw store class message h =
    rw (paid_not store (store.objects ++ o.Exc class (Some message) ∷ []) (weight_of (o.Exc class (Some message))) (add_grows store.objects (o.Exc class (Some message))) (omega arith)) refl

-- a message is no shorter than a text in it
within : (before text behind : List ℕ) (room : ℕ) → room < length text → room < length (before ++ text ++ behind)
within before text behind room h = omega (arith, length-append (before ++ text) behind, length-append before text)

pub no_room_for_field : (store : Store) (walk : Text) → IsLonger store.room walk → effect store (followed_by walk no_field) ≡ NoRoom
unfolding no_field
no_room_for_field store (Wrote text visits) h =
    no_room_to_throw store _ (units (codes "No field found for [") ++ text ++ units (codes "] in mapping")) (within (units (codes "No field found for [")) text (units (codes "] in mapping")) store.room h)
no_room_for_field store TooDeep h = absurd h
no_room_for_field store TooLarge h = absurd h
