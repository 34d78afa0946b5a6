-- What is appended where the rest may be missing.
use Rattle.std.specs.Prelude.{◌≡◌, ℕ, List, ◌++◌, Option}
use Rattle.std.specs.Io.KnownBytes.{Appends}

-- Some front of the bytes was appended, and nothing else.
pub record AppendsFront (old new : Option (List ℕ)) (bytes : List ℕ) : Type 0 where
  pub front : List ℕ
  pub behind : List ℕ
  pub parts : front ++ behind ≡ bytes
  pub appended : Appends old new front
