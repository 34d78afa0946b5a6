-- A run that ends before there is anything to tell of it.
use Rattle.std.specs.Prelude.{ℕ, List, [], Option}
use Rattle.std.specs.Io.KnownBytes.{Appends}
use Rattle.command_parts.specs.declared.status.Status.{Status}
use Rattle.command_parts.specs.declared.status.Status.TheVariants as s

-- Memory ran out, or a file could not be read, and nothing was written.
abbrev pub EndsBefore : Status → Option (List ℕ) → Option (List ℕ) → Type 0
EndsBefore s.NoMemory old new = Appends old new []
EndsBefore s.FileFault old new = Appends old new []
EndsBefore other old new = ⊥
