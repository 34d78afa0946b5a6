-- What holds of all activations.
use Rattle.std.specs.Prelude.{◌≡◌, ℕ, ◌+◌, ◌≤◌, List, Option, Some}
use Rattle.run_state.specs.World.{End}
use Rattle.code_meaning.specs.declared.word.Word.{Word}
use Rattle.code_meaning.specs.Machine.{Next, Ends, after}
use Rattle.object_values.specs.declared.object.Object.{Object}
use Rattle.machine_paths.specs.CodeRules.{rules_of_codes}
use Rattle.machine.specs.Fitting.{NowFits}
use Rattle.machine.specs.Seen.{limits_in, codes_in}
use Rattle.machine.specs.Activations.{Activation, later}

-- Turns add up: how the instructions are cut into turns makes no difference.
abbrev pub TurnsAdd : Type 0
TurnsAdd = (a : Activation) (first second : ℕ) → later (first + second) a ≡ later second (later first a)

-- Where code ends after some steps, so many instructions or more bring an activation to that end.
abbrev pub ComesToItsEnd : Type 0
ComesToItsEnd =
    (a : Activation) (from : Next) (steps q : ℕ) (end : End (Option Word))
    → a.now ≡ Some from → after (codes_in a.executable) (limits_in a.executable a.limits) steps from ≡ Ends end → steps ≤ q → (later q a).now ≡ Some (Ends end)

-- Turns keep the fit of the heap and of the words, by the rules of the code that is run.
abbrev pub TurnsFit : Type 0
TurnsFit = (before : List Object) (q : ℕ) (a : Activation) → NowFits (rules_of_codes (codes_in a.executable)) before a.now → NowFits (rules_of_codes (codes_in a.executable)) before (later q a).now
