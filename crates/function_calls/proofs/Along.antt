-- What each argument keeps that is passed, all keep.
use Rattle.std.proofs.Common.{◌≡◌, ℕ, suc, Option, Some, None, List, [], ◌∷◌, refl, slice_get, slice_set}
use Rattle.pl_types.specs.declared.ty.Ty.{Ty}
use Rattle.allowlist.specs.Allow.{AllowList}
use Rattle.object_values.specs.declared.value.Value.{Value}
use Rattle.object_heap.specs.Effects.{Effect, Gives, Throws, NoRoom}
use Rattle.object_heap.specs.Store.{Store}
use Rattle.function_calls.specs.declared.texts.Texts.{Texts}
use Rattle.function_calls.specs.Passing.{Passed, All, Ended, after_meeting, after_passing, meets, passed_from, passed_there, passed_twice}

-- What comes of a value that meets a parameter keeps what holds of a store and its values, or ends as it is to end.
abbrev pub Meeting : (Store → List Value → Type 0) → (Store → Effect → Type 0) → Store → List Value → ℕ → Effect → Type 0
Meeting P E store values at (Gives cast now) = P now (slice_set values (suc at) cast)
Meeting P E store values at (Throws id now) = E store (Throws id now)
Meeting P E store values at NoRoom = E store NoRoom

pub record Keeps (texts : Texts) (allow : AllowList) (P : Store → List Value → Type 0) (E : Store → Effect → Type 0) : Type 0 where
  pub each : (store : Store) (values : List Value) (at : ℕ) (of : Ty) (value : Value) → P store values → slice_get values (suc at) ≡ Some value → Meeting P E store values at (meets texts allow store of value)

abbrev pub Along : (Store → List Value → Type 0) → (Store → Effect → Type 0) → Passed → Type 0
Along P E (All store values) = P store values
Along P E (Ended store told) = E store told

met_along : (P : Store → List Value → Type 0) (E : Store → Effect → Type 0) (store : Store) (values : List Value) (at : ℕ) (told : Effect) (next : Store → List Value → Passed) → Meeting P E store values at told
    → ((now : Store) (given : List Value) → P now given → Along P E (next now given)) → Along P E (after_meeting store told (λ now cast. next now (slice_set values (suc at) cast)))
met_along P E store values at (Gives cast now) next h k = k now (slice_set values (suc at) cast) h
met_along P E store values at (Throws id now) next h k = h
met_along P E store values at NoRoom next h k = h

there_along : (texts : Texts) (allow : AllowList) (P : Store → List Value → Type 0) (E : Store → Effect → Type 0) → Keeps texts allow P E → (store : Store) (of : Ty) (values : List Value) (at : ℕ) (found : Option Value)
    (next : Store → List Value → Passed) → slice_get values (suc at) ≡ found → P store values → ((now : Store) (given : List Value) → P now given → Along P E (next now given))
    → Along P E (passed_there texts allow store of values (suc at) found next)
there_along texts allow P E keeps store of values at None next e p k = k store values p
there_along texts allow P E keeps store of values at (Some value) next e p k = met_along P E store values at (meets texts allow store of value) next (keeps.each store values at of value p e) k

pub from_along : (texts : Texts) (allow : AllowList) (P : Store → List Value → Type 0) (E : Store → Effect → Type 0) → Keeps texts allow P E → (ofs : List Ty) (at : ℕ) (store : Store) (values : List Value) → P store values
    → Along P E (passed_from texts allow ofs (suc at) store values)
from_along texts allow P E keeps [] at store values p = p
from_along texts allow P E keeps (of ∷ ofs) at store values p =
    there_along texts allow P E keeps store of values at (slice_get values (suc at)) (λ now cast. passed_from texts allow ofs (suc (suc at)) now cast) refl p
    (λ now given q. from_along texts allow P E keeps ofs (suc at) now given q)

passing_along : (P : Store → List Value → Type 0) (E : Store → Effect → Type 0) (p : Passed) (next : Store → List Value → Passed) → Along P E p
    → ((now : Store) (given : List Value) → P now given → Along P E (next now given)) → Along P E (after_passing p next)
passing_along P E (All store values) next h k = k store values h
passing_along P E (Ended store told) next h k = h

pub twice_along : (texts : Texts) (allow : AllowList) (P : Store → List Value → Type 0) (E : Store → Effect → Type 0) → Keeps texts allow P E → (first own : List Ty) (store : Store) (values : List Value) → P store values
    → Along P E (passed_twice texts allow first own store values)
twice_along texts allow P E keeps first own store values p =
    passing_along P E (passed_from texts allow first 1 store values) (λ now given. passed_from texts allow own 1 now given) (from_along texts allow P E keeps first 0 store values p)
    (λ now given q. from_along texts allow P E keeps own 0 now given q)
