-- When a moment of the meaning of a program fits. It is said of a run that began with some objects, by the rules of a program or of a
-- code.
use Rattle.std.specs.Prelude.{◌≤◌, ℕ, List, [], ◌∷◌}
use Rattle.object_values.specs.declared.object.Object.{Object}
use Rattle.object_heap.specs.Fits.{Rules, ValueFits, ThrownFits}
use Rattle.run_fit.specs.Worlds.{WorldFits, count_in}
use Rattle.source_meaning.specs.Meaning.{State, Env, Out, Done, Thrown, Over, More, Flow, Normal, Broke, Continued, Returned}

abbrev pub EnvFits : ℕ → Env → Type 0
EnvFits count [] = Unit {0}
EnvFits count (b ∷ e) = ValueFits count b.value × EnvFits count e

-- where an expression or a statement begins
abbrev pub StateFits : Rules → List Object → State → Env → Type 0
StateFits rules before s e = WorldFits rules before s.world × EnvFits (count_in s.world) e

abbrev pub FlowFits : ℕ → Flow → Type 0
FlowFits count Normal = Unit {0}
FlowFits count Broke = Unit {0}
FlowFits count Continued = Unit {0}
FlowFits count (Returned value) = ValueFits count value

-- What it comes to, where so many objects were there: none of them is gone, and a value or an exception of the world behind it.
abbrev pub OutFits : {A : Type 0} → (ℕ → A → Type 0) → Rules → List Object → ℕ → Out A → Type 0
OutFits good rules before count (Done a s e) = StateFits rules before s e × (count ≤ count_in s.world) × good (count_in s.world) a
OutFits good rules before count (Thrown id place s e) = StateFits rules before s e × (count ≤ count_in s.world) × ThrownFits s.world.store.objects id
OutFits good rules before count (Over limit place w) = WorldFits rules before w
OutFits good rules before count More = Unit {0}
