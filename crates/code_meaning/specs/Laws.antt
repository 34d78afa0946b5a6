-- What holds of all runs.
use Rattle.std.specs.Prelude.{◌≡◌, ℕ, ◌+◌}
use Rattle.run_state.specs.World.{Limits, End}
use Rattle.code_meaning.specs.declared.word.Word.{Word}
use Rattle.code_meaning.specs.Machine.{Codes, Next, Ends, after}
use Rattle.std.specs.Prelude.{Option}

-- Some steps and then others are their sum: a run may stop between any two instructions and go on.
abbrev pub RunsOn : Type 0
RunsOn = (codes : Codes) (limits : Limits) (first second : ℕ) (from : Next) → after codes limits (first + second) from ≡ after codes limits second (after codes limits first from)

-- An end is reached once: with more steps it is the same.
abbrev pub EndsOnce : Type 0
EndsOnce =
    (codes : Codes) (limits : Limits) (first second : ℕ) (from : Next) (end other : End (Option Word))
    → after codes limits first from ≡ Ends end → after codes limits second from ≡ Ends other → end ≡ other
