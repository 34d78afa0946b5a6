-- What `check` is to write, and how it is to end.
use Rattle.std.specs.Prelude.{◌≡◌, ℕ, List, Option, Result, Ok, Err}
use Rattle.job_file.specs.declared.context.JobCommand.TheVariants as command
use Rattle.job_loading.specs.Replies.{line_of}
use Rattle.job_loading.specs.Refusals.{accepted}
use Rattle.command_parts.specs.declared.status.Status.TheVariants as s
use Rattle.command_parts.specs.Told.{Told, uncounted}
use Rattle.job_commands.specs.Scripts.{Prepared, PreparesJob}

-- a job that is accepted
abbrev pub accepts_told : Told
accepts_told = uncounted s.Done (line_of accepted)

abbrev pub told_of_check : Result Prepared Told → Told
told_of_check (Ok p) = accepts_told
told_of_check (Err told) = told

-- what is told of a job's file
abbrev pub TellsCheck : (List ℕ → Option (List ℕ)) → List ℕ → Told → Type 0
TellsCheck content name told = (answer : Result Prepared Told) × PreparesJob command.Check content name answer × (told ≡ told_of_check answer)
