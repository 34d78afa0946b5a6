-- The scripts of a shard: what a run of one takes, how many instructions it has, and what it leaves.
use Rattle.std.specs.Prelude.{◌≡◌, ◌<◌, ℕ, List, [], ◌∷◌, Option}
use Rattle.object_values.specs.declared.value.Value.{Value}
use Rattle.object_values.specs.declared.value.Value.TheVariants as v
use Rattle.object_heap.specs.Store.{Store}
use Rattle.object_heap.specs.declared.outcome.Outcome.{Outcome}
use Rattle.task_core.specs.Turns.{IsTurn}
use Rattle.metric_ctx.specs.declared.phase.Phase.{Phase}
use Rattle.metric_ctx.specs.declared.phase.Phase.TheVariants as p
use Rattle.metric_ctx.specs.declared.scripts.Advance.{Advance}
use Rattle.metric_ctx.specs.declared.scripts.Advance.TheVariants as a

-- what runs come to: how many instructions they have, and what the last one leaves; nothing where one does not end
pub record Came : Type 0 where
  pub count : ℕ
  pub left : Option Outcome

-- what the run of each script comes to, by where it begins
abbrev pub Comes : Type 0
Comes = Phase → Store → List Value → Came

-- the same by the meanings of the scripts of the code
abbrev pub comes_by : {X R : Type 0} → (X → Phase → Store → List Value → R) → (R → ℕ) → (R → Option Outcome) → X → Comes
comes_by begun rest ending scripts phase store args = record { count = rest (begun scripts phase store args); left = ending (begun scripts phase store args) }

-- ---- arguments

-- the first object of a shard is its state
abbrev pub state_place : ℕ
state_place = 0

-- the state and the params, by the number of the object that the params are
abbrev pub arguments : ℕ → List Value
arguments params = v.Ref state_place ∷ v.Ref params ∷ []

-- and a document
abbrev pub map_arguments : ℕ → Value → List Value
map_arguments params doc = v.Ref state_place ∷ v.Ref params ∷ doc ∷ []

abbrev pub AreTwo : List Value → Type 0
AreTwo args = (state params : ℕ) × (args ≡ v.Ref state ∷ v.Ref params ∷ [])

abbrev pub AreThree : List Value → Type 0
AreThree args = (state params doc : ℕ) × (args ≡ v.Ref state ∷ v.Ref params ∷ v.Ref doc ∷ [])

-- each variable of a script is an object: `state`, `params`, and in `map` also `doc`
abbrev pub AreArguments : Phase → List Value → Type 0
AreArguments p.Init args = AreTwo args
AreArguments p.Map args = AreThree args
AreArguments p.Combine args = AreTwo args

-- ---- turns of one run

-- A turn of a run says whether more is left, and with the last instruction how many it took. Want of memory is free.
abbrev pub Advances : {R : Type 0} → (R → ℕ) → (R → Option Outcome) → ℕ → R → R → Advance → Type 0
Advances rest ending q old new a.More = IsTurn rest ending q old new × (0 < rest new)
Advances rest ending q old new (a.Done taken) = IsTurn rest ending q old new × (rest new ≡ 0) × (taken ≡ rest old)
Advances rest ending q old new a.NoMemory = Unit {0}
