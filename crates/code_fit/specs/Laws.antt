-- A run of codes fits by their own rules, from its start to its end.
use Rattle.std.specs.Prelude.{ℕ, List}
use Rattle.object_values.specs.declared.object.Object.{Object}
use Rattle.run_state.specs.World.{World, Limits}
use Rattle.run_fit.specs.Worlds.{count_in}
use Rattle.code_meaning.specs.declared.word.Word.{Word}
use Rattle.code_meaning.specs.Machine.{Codes, Config, Next, start, step, after}
use Rattle.code_fit.specs.Moments.{WordsFit, ConfigFits, NextFits}
use Rattle.code_fit.specs.CodeRules.{FitsCode, rules_of_codes}

abbrev pub StartsFit : Type 0
StartsFit = (codes : Codes) (words : List Word) (w : World) → FitsCode codes w.store → WordsFit (count_in w) words → NextFits (rules_of_codes codes) w.store.objects (start codes words w)

abbrev pub StepsFit : Type 0
StepsFit = (before : List Object) (codes : Codes) (limits : Limits) (c : Config) → ConfigFits (rules_of_codes codes) before c → NextFits (rules_of_codes codes) before (step codes limits c)

abbrev pub RunsFit : Type 0
RunsFit = (before : List Object) (codes : Codes) (limits : Limits) (steps : ℕ) (n : Next) → NextFits (rules_of_codes codes) before n → NextFits (rules_of_codes codes) before (after codes limits steps n)

-- So a run of codes from a store that fits them is at each moment in one that does.
abbrev pub CodesFit : Type 0
CodesFit = (codes : Codes) (limits : Limits) (words : List Word) (w : World) (steps : ℕ) → FitsCode codes w.store → WordsFit (count_in w) words
    → NextFits (rules_of_codes codes) w.store.objects (after codes limits steps (start codes words w))
