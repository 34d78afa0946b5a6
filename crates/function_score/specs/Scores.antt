-- How scores are combined. They are numbers with no bound; each product and each sum is the exact one or, if that is
-- less, the greatest number of 64 bits with a sign.
use Rattle.std.specs.Prelude.{ℕ, ◌+◌, ◌*◌, ◌-◌, ◌^◌, min, max, ℤ, pos, ◌≤ℤ◌, List, [], ◌∷◌, Option, Some, None}
use Rattle.function_score.specs.declared.modes.ScoreMode.{ScoreMode}
use Rattle.function_score.specs.declared.modes.ScoreMode.TheVariants as score
use Rattle.function_score.specs.declared.modes.BoostMode.{BoostMode}
use Rattle.function_score.specs.declared.modes.BoostMode.TheVariants as boost

-- no value is below 0
abbrev pub AreScores : List ℤ → Type 0
AreScores [] = Unit {0}
AreScores (value ∷ values) = (pos 0 ≤ℤ value) × AreScores values

abbrev pub saturated : ℕ → ℕ
saturated n = min n (2 ^ 63 - 1)

-- a value times a weight
abbrev pub weighed : ℕ → ℕ → ℕ
weighed value weight = saturated (value * weight)

-- two values made one
abbrev pub joined : ScoreMode → ℕ → ℕ → ℕ
joined score.Multiply left right = saturated (left * right)
joined score.Sum left right = saturated (left + right)
joined score.First left right = left
joined score.Max left right = max left right
joined score.Min left right = min left right

-- a value joined to those before it, if there are any
abbrev pub joined_behind : ScoreMode → Option ℕ → ℕ → ℕ
joined_behind mode None value = value
joined_behind mode (Some all) value = joined mode all value

-- the value of one more function, if it matches
abbrev pub joined_on : ScoreMode → Option ℕ → Option ℕ → Option ℕ
joined_on mode all None = all
joined_on mode all (Some value) = Some (joined_behind mode all value)

-- values joined from the left to a first one
abbrev pub joined_to : ScoreMode → ℕ → List ℕ → ℕ
joined_to mode value [] = value
joined_to mode value (next ∷ values) = joined_to mode (joined mode value next) values

-- values joined from the left, and 1 where there are none
abbrev pub combined : ScoreMode → List ℕ → ℕ
combined mode [] = 1
combined mode (value ∷ values) = joined_to mode value values

-- the score of a line and the value of its functions made one
abbrev pub boosted : BoostMode → ℕ → ℕ → ℕ
boosted boost.Multiply score value = saturated (score * value)
boosted boost.Replace score value = value
boosted boost.Sum score value = saturated (score + value)
boosted boost.Max score value = max score value
boosted boost.Min score value = min score value
