-- Which names files are asked for.
use Rattle.std.specs.Prelude.{◌≡◌, ℕ, List, ◌++◌}

-- Some front of these names was asked for, behind those that were asked for before, and no other name.
pub record AsksFront (old new names : List (List ℕ)) : Type 0 where
  pub front : List (List ℕ)
  pub behind : List (List ℕ)
  pub parts : front ++ behind ≡ names
  pub asked : new ≡ old ++ front
