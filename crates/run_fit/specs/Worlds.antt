-- What a run keeps of the store. It is said of a run that began with some objects, by the rules of a program or of a code.
use Rattle.std.specs.Prelude.{◌≤◌, ℕ, List, length}
use Rattle.object_values.specs.declared.object.Object.{Object}
use Rattle.object_values.specs.declared.value.Value.{Value}
use Rattle.object_heap.specs.Fits.{Rules, Fits, ValueFits, ThrownFits}
use Rattle.def_access.specs.ContainerCallsLaws.{StillThere}
use Rattle.run_state.specs.World.{World, Outcome, Given, Raised, Full, End, Result, Uncaught, Limited}

-- a world of the run: its objects fit, and those of the start are still there, each of its kind and of its class, or with an interface that it
-- has taken
pub record WorldFits (rules : Rules) (before : List Object) (w : World) : Type 0 where
  pub fits : Fits rules w.store.objects
  pub there : StillThere before w.store.objects

abbrev pub count_in : World → ℕ
count_in w = length w.store.objects

-- What an operation comes to in a world of so many objects: a world of the run in which none of them is gone, and a value or an
-- exception of it.
abbrev pub OutcomeFits : Rules → List Object → ℕ → Outcome Value → Type 0
OutcomeFits rules before count (Given value w) = WorldFits rules before w × (count ≤ count_in w) × ValueFits (count_in w) value
OutcomeFits rules before count (Raised id w) = WorldFits rules before w × (count ≤ count_in w) × ThrownFits w.store.objects id
OutcomeFits rules before count Full = Unit {0}

-- How the run ends: in a world of it, and with a result or an exception of that world.
abbrev pub EndFits : {A : Type 0} → (ℕ → A → Type 0) → Rules → List Object → End A → Type 0
EndFits good rules before (Result result w) = WorldFits rules before w × good (count_in w) result
EndFits good rules before (Uncaught id place w) = WorldFits rules before w × ThrownFits w.store.objects id
EndFits good rules before (Limited limit place w) = WorldFits rules before w
