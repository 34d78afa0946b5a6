-- Why bytes were not written, and what was.
use Rattle.std.specs.Prelude.{◌≡◌, ◌⊎◌, ℕ, List, Option}
use Rattle.std.specs.Io.KnownBytes.{Appends}
use Rattle.outer_io.specs.Front.{AppendsFront}
use Rattle.command_parts.specs.declared.status.Status.{Status}
use Rattle.command_parts.specs.declared.status.Status.TheVariants as s
use Rattle.command_parts.specs.Told.{Told}

-- the sink failed, or memory ran out
abbrev pub IsWriteFault : Status → Type 0
IsWriteFault status = (status ≡ s.WriteFault) ⊎ (status ≡ s.NoMemory)

-- All that is told was written, and the run ends as is told; or a front of it was, where the sink failed or memory ran out.
abbrev pub Writes : Told → Status → Option (List ℕ) → Option (List ℕ) → Type 0
Writes told status old new = ((status ≡ told.status) × Appends old new told.bytes) ⊎ (IsWriteFault status × AppendsFront old new told.bytes)
