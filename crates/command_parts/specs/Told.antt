-- What a command is to write, and how it is to end.
use Rattle.std.specs.Prelude.{ℕ, List, []}
use Rattle.command_parts.specs.declared.status.Status.{Status}

-- How a run ends, and the bytes that it writes; then what its report has: the listings of the codes that ran, and how many instructions
-- they ran in all.
pub record Told : Type 0 where
  pub status : Status
  pub bytes : List ℕ
  pub listings : List (List ℕ)
  pub steps : ℕ

-- what is told where no script was run, or not to the end of the input
abbrev pub uncounted : Status → List ℕ → Told
uncounted status bytes = record { status = status; bytes = bytes; listings = []; steps = 0 }

-- the end with nothing written
abbrev pub silent : Status → Told
silent status = uncounted status []

-- the most bytes that a file may have
abbrev pub file_limit : ℕ
file_limit = 1048576
