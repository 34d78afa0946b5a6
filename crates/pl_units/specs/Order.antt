-- The order of texts by their units.
use Rattle.std.specs.Prelude.{ℕ, ◌<◌, List, ◌∷◌, ◌++◌}

-- The first text comes before the second: it is the second's beginning and shorter, or at the first place where they
-- differ it has the smaller unit.
pub data ComesBefore : List ℕ → List ℕ → Type 0 where
  shorter : (text : List ℕ) (unit : ℕ) (rest : List ℕ) → ComesBefore text (text ++ unit ∷ rest)
  smaller : (common : List ℕ) (unit other : ℕ) (rest other_rest : List ℕ) → unit < other
      → ComesBefore (common ++ unit ∷ rest) (common ++ other ∷ other_rest)
