-- What arrays weigh that are made with their sizes.
use Rattle.std.specs.Prelude.{ℕ, suc, ◌+◌, ◌*◌, List, [], ◌∷◌}

-- so many arrays of the first size, and all that they hold: each array weighs one more than its size
abbrev pub cost_of : ℕ → List ℕ → ℕ
cost_of count [] = 0
cost_of count (size ∷ sizes) = count * suc size + cost_of (count * size) sizes
