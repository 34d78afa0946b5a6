-- Paths of places in a pipeline, as `pipeline.3.set.field`, and what reading has answered.
use Rattle.std.specs.Prelude.{◌≡◌, ℕ, ◌++◌, List, Option, Some, None, Result, Ok, Err, codes, decimal, string_bytes, ⊤}
use Rattle.ingest_pipe.specs.declared.error.PipeErr.{PipeErr}
use Rattle.ingest_pipe.specs.declared.error.PipeErr.TheVariants as e

-- the path of a pipeline
abbrev pub whole_path : List ℕ
whole_path = codes "pipeline"

-- the path of what has a name at a path
abbrev pub below : List ℕ → List ℕ → List ℕ
below path name = path ++ codes "." ++ name

-- the path of what has a number in the list of a path
abbrev pub numbered : List ℕ → ℕ → List ℕ
numbered path number = path ++ codes "." ++ decimal number

-- An error tells this path. Want of memory is free.
abbrev pub IsBadAt : List ℕ → PipeErr → Type 0
IsBadAt path (e.Bad told) = path ≡ string_bytes told
IsBadAt path e.NoMemory = Unit {0}

-- What was read is what is meant, or the error tells the path of what is wrong. Want of memory is free.
abbrev pub IsGiven : {X : Type 0} → Result X (List ℕ) → Result X PipeErr → Type 0
IsGiven meaning (Ok x) = meaning ≡ Ok x
IsGiven meaning (Err (e.Bad told)) = meaning ≡ Err (string_bytes told)
IsGiven meaning (Err e.NoMemory) = Unit {0}

-- nothing is wrong, or the key of this name is
abbrev pub no_fault : List ℕ → Option (List ℕ) → Result ⊤ (List ℕ)
no_fault path None = Ok tt
no_fault path (Some name) = Err (below path name)
