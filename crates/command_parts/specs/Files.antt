-- What a file comes to where a command wants one.
use Rattle.std.specs.Prelude.{ℕ, List, Option, Some, None, Result, Ok, Err, length, nat_le, if◌then◌else◌}
use Rattle.command_parts.specs.declared.status.Status.TheVariants as s
use Rattle.command_parts.specs.Told.{Told, silent, file_limit}

-- the bytes of a file; where there is none, or one that is too long, nothing is told but the status
abbrev pub file_told : Option (List ℕ) → Result (List ℕ) Told
file_told None = Err (silent s.FileAbsent)
file_told (Some bytes) = if nat_le (length bytes) file_limit then Ok bytes else Err (silent s.FileLong)
