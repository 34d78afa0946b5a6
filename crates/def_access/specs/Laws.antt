-- What holds of accesses whose receiver's class is found when they run.
use Rattle.std.specs.Prelude.{◌≡◌, ℕ, true, List, [], ◌∷◌, length}
use Rattle.allowlist.specs.Allow.{AllowList, flag}
use Rattle.object_values.specs.declared.value.Value.{Value}
use Rattle.object_heap.specs.Fits.{Rules, Fits, ValueFits, AllFit, EffectFits}
use Rattle.object_heap.specs.Store.{Store}
use Rattle.container_ops.specs.ContainerCallsLaws.{EffectLeaves}
use Rattle.member_calls.specs.Members.{is_built}
use Rattle.def_access.specs.Access.{Access, Calls, Acts, index_read, index_written, name_read, name_written, method_called}

-- a member that is called is one that the list allows, and is built
abbrev pub IsConfined : AllowList → Access → Type 0
IsConfined allow (Calls number arguments) = (flag allow.members number ≡ true) × (is_built number ≡ true)
IsConfined allow (Acts effect) = Unit {0}

-- Nothing but what the list allows is called.
pub record AccessesAreConfined : Type 0 where
  pub index_read : (allow : AllowList) (store : Store) (receiver index : Value) → IsConfined allow (index_read allow store receiver index)
  pub index_written : (allow : AllowList) (store : Store) (receiver index value : Value) → IsConfined allow (index_written allow store receiver index value)
  pub name_read : (allow : AllowList) (store : Store) (receiver : Value) (name : List ℕ) → IsConfined allow (name_read allow store receiver name)
  pub name_written : (allow : AllowList) (store : Store) (receiver : Value) (name : List ℕ) (value : Value) → IsConfined allow (name_written allow store receiver name value)
  pub method_called : (allow : AllowList) (store : Store) (receiver : Value) (name : List ℕ) (arguments : List Value) → IsConfined allow (method_called allow store receiver name arguments)

-- the arguments of a call are there, and what is done leaves a store that fits
abbrev pub AccessFits : Rules → Store → Access → Type 0
AccessFits rules store (Calls number arguments) = AllFit (length store.objects) arguments
AccessFits rules store (Acts effect) = EffectFits rules effect

-- Where a store fits, so does what comes of an access.
pub record AccessesFit : Type 0 where
  pub index_read : (rules : Rules) (allow : AllowList) (store : Store) (receiver index : Value) → Fits rules store.objects → AllFit (length store.objects) (receiver ∷ index ∷ [])
      → AccessFits rules store (index_read allow store receiver index)
  pub index_written : (rules : Rules) (allow : AllowList) (store : Store) (receiver index value : Value) → Fits rules store.objects
      → AllFit (length store.objects) (receiver ∷ index ∷ value ∷ []) → AccessFits rules store (index_written allow store receiver index value)
  pub name_read : (rules : Rules) (allow : AllowList) (store : Store) (receiver : Value) (name : List ℕ) → Fits rules store.objects → ValueFits (length store.objects) receiver
      → AccessFits rules store (name_read allow store receiver name)
  pub name_written : (rules : Rules) (allow : AllowList) (store : Store) (receiver : Value) (name : List ℕ) (value : Value) → Fits rules store.objects
      → AllFit (length store.objects) (receiver ∷ value ∷ []) → AccessFits rules store (name_written allow store receiver name value)
  pub method_called : (rules : Rules) (allow : AllowList) (store : Store) (receiver : Value) (name : List ℕ) (arguments : List Value) → Fits rules store.objects
      → AllFit (length store.objects) (receiver ∷ arguments) → AccessFits rules store (method_called allow store receiver name arguments)

-- each object is there afterwards, of the same kind, and there may be more
abbrev pub AccessLeaves : Store → Access → Type 0
AccessLeaves store (Calls number arguments) = Unit {0}
AccessLeaves store (Acts effect) = EffectLeaves store.objects effect

pub record AccessesLeave : Type 0 where
  pub index_read : (allow : AllowList) (store : Store) (receiver index : Value) → AccessLeaves store (index_read allow store receiver index)
  pub index_written : (allow : AllowList) (store : Store) (receiver index value : Value) → AccessLeaves store (index_written allow store receiver index value)
  pub name_read : (allow : AllowList) (store : Store) (receiver : Value) (name : List ℕ) → AccessLeaves store (name_read allow store receiver name)
  pub name_written : (allow : AllowList) (store : Store) (receiver : Value) (name : List ℕ) (value : Value) → AccessLeaves store (name_written allow store receiver name value)
  pub method_called : (allow : AllowList) (store : Store) (receiver : Value) (name : List ℕ) (arguments : List Value) → AccessLeaves store (method_called allow store receiver name arguments)
