-- How many instructions a run of verified code takes at most.
use Rattle.std.specs.Prelude.{◌≡◌, ℕ, ◌+◌, ◌*◌, max, List, [], ◌∷◌, Option, length}
use Rattle.pl_code.specs.declared.code.FunCode.{FunCode}
use Rattle.run_state.specs.World.{Limits, End}
use Rattle.code_meaning.specs.declared.word.Word.{Word}
use Rattle.code_meaning.specs.Machine.{Codes, Next, Ends, after}
use Rattle.verifier_soundness.specs.Fits.{FitsEnd}

-- the lines of the longest function
abbrev pub longest : List FunCode → ℕ
longest [] = 0
longest (f ∷ fs) = max (length f.lines) (longest fs)

-- .. of either text
abbrev pub longest_in : Codes → ℕ
longest_in codes = max (longest codes.script) (longest codes.prelude)

-- Between two ticks no frame goes back, so that each of the frames that the limit of depth allows takes each of its lines at most once.
abbrev pub most_steps : Codes → Limits → ℕ → ℕ
most_steps codes limits ticks = (ticks + 1) * (limits.depth + 1) * longest_in codes

-- It has ended after so many steps, in an end that fits.
pub record EndsWithin (codes : Codes) (limits : Limits) (steps : ℕ) (from : Next) : Type 0 where
  pub end : End (Option Word)
  pub ends : after codes limits steps from ≡ Ends end
  pub fits : FitsEnd codes limits end
