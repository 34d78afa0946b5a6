-- Pairs in three parts.
use Rattle.std.specs.Prelude.{◌<◌, ◌^◌, List, ◌++◌, length, reverse}
use Rattle.object_values.specs.declared.value.Value.{Value}
use Rattle.object_values.specs.Pairs.{HasDistinctKeys}

-- the pairs before a gap, those behind it, which are given in reverse, and those that came since
abbrev pub joined : List (Value × Value) → List (Value × Value) → List (Value × Value) → List (Value × Value)
joined before behind tail = (before ++ reverse behind) ++ tail

-- what the parts keep: no two keys are one, and a number of 63 bits counts the pairs
pub record AreCounted (pairs : List (Value × Value)) : Type 0 where
  pub distinct : HasDistinctKeys pairs
  pub fits : length pairs < 2 ^ 63
