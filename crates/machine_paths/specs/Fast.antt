-- The fast path: instructions on numbers, one after the other.
use Rattle.std.specs.Prelude.{◌≡◌, ◌+◌, ℕ, Bool, true, false, List}
use Rattle.object_heap.specs.Store.{Store}
use Rattle.run_state.specs.World.{World, Limits}
use Rattle.code_meaning.specs.Machine.{Codes, Config, Frame, Goes, Next, after}
use Rattle.machine_parts.specs.Frames.{Laid}
use Rattle.machine_paths.specs.Steps.{steps_taken}
use Rattle.machine_paths.specs.declared.fast_calls.Taken.{Taken}
use Rattle.machine_paths.specs.declared.fast_calls.Taken.TheVariants as taken

-- frames in a world with so many ticks
abbrev pub placed : Laid → Store → ℕ → List ℕ → Config
placed s store ticks reached = record { top = s.top; below = s.below; world = record { store = store; ticks = ticks; reached = reached } }

abbrev pub in_world : Laid → World → Config
in_world s w = record { top = s.top; below = s.below; world = w }

-- what an instruction does was done, or nothing was changed
abbrev pub Does : Next → Config → Config → Bool → Type 0
Does next old new true = next ≡ Goes new
Does next old new false = new ≡ old

-- an instruction that was done stays in its function, or goes to another
abbrev pub stays : Bool → Taken
stays true = taken.Here
stays false = taken.Not

abbrev pub moves : Bool → Taken
moves true = taken.Elsewhere
moves false = taken.Not

-- what an instruction does was done, or nothing was changed
abbrev pub Takes : Next → Config → Config → Taken → Type 0
Takes next old new taken.Here = next ≡ Goes new
Takes next old new taken.Elsewhere = next ≡ Goes new
Takes next old new taken.Not = new ≡ old

-- where it stays in its function, the newest frame runs that one
abbrev pub StaysIn : Frame → Frame → Taken → Type 0
StaysIn old new taken.Here = (new.text ≡ old.text) × (new.fun ≡ old.fun)
StaysIn old new taken.Elsewhere = Unit {0}
StaysIn old new taken.Not = Unit {0}

-- there is memory for as much as before
abbrev pub KeepsRoom : Laid → Laid → Type 0
KeepsRoom old new = (new.words ≡ old.words) × (new.depth ≡ old.depth)

-- the newest frame runs the same function, and there is memory for as much as before
abbrev pub Keeps : Laid → Laid → Type 0
Keeps old new = (new.top.text ≡ old.top.text) × (new.top.fun ≡ old.top.fun) × (new.words ≡ old.words) × (new.depth ≡ old.depth)

-- the same, and it has had as many turns as before
abbrev pub KeepsTurns : Laid → Laid → Type 0
KeepsTurns old new = Keeps old new × (new.top.turns ≡ old.top.turns)

-- so many steps lead from the one configuration to the other
pub record Leads (codes : Codes) (limits : Limits) (k : ℕ) (from c : Config) : Type 0 where
  pub leads : (m : ℕ) → after codes limits (k + m) (Goes from) ≡ after codes limits m (Goes c)
  pub taken : (m : ℕ) → steps_taken codes limits (k + m) (Goes from) ≡ k + steps_taken codes limits m (Goes c)
