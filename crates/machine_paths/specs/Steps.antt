-- How many steps are taken, and that what they count is within 64 bits.
use Rattle.std.specs.Prelude.{◌<◌, ◌+◌, ◌^◌, ℕ, zero, suc, List, [], ◌∷◌}
use Rattle.run_state.specs.World.{Limits}
use Rattle.code_meaning.specs.Machine.{Next, Goes, Ends, Stuck, step, Codes, Frame, Config}

module _ (codes : Codes) (limits : Limits) where
  -- how many of so many steps are taken: none behind the end
  abbrev pub steps_taken : ℕ → Next → ℕ
  steps_taken zero n = 0
  steps_taken (suc k) (Goes c) = suc (steps_taken k (step codes limits c))
  steps_taken (suc k) (Ends r) = 0
  steps_taken (suc k) Stuck = 0

-- the turns of each frame and the ticks that are left are within 64 bits together
abbrev pub TurnsFit : ℕ → List Frame → Type 0
TurnsFit ticks [] = Unit {0}
TurnsFit ticks (f ∷ fs) = (f.turns + ticks < 2 ^ 64) × TurnsFit ticks fs

abbrev pub CountsFit : Config → Type 0
CountsFit c = TurnsFit c.world.ticks (c.top ∷ c.below)
