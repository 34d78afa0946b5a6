-- Which files a job asks for, by their names and in their order: its own, and then its allowlist.
use Rattle.std.specs.Prelude.{ℕ, List, [], ◌∷◌, Option, Some, None, Result, Ok, Err, if◌then◌else◌}
use Rattle.std.specs.Str.{bytes_eq}
use Rattle.job_file.specs.declared.context.JobCommand.{JobCommand}
use Rattle.job_file.specs.Jobs.{JobData}
use Rattle.command_parts.specs.Files.{file_told}
use Rattle.command_parts.specs.Told.{Told}
use Rattle.job_loading.specs.Loading.{job_in_file}

-- the allowlist, where a job names one; a job that names its own file does not ask for it again
abbrev pub list_asked : List ℕ → Option (List ℕ) → List (List ℕ)
list_asked name None = []
list_asked name (Some allow) = if bytes_eq allow name then [] else allow ∷ []

-- .. of a job that is read; where there is none, nothing is known of an allowlist
abbrev pub asked_behind : List ℕ → Result JobData Told → List (List ℕ)
asked_behind name (Ok job) = list_asked name job.allow
asked_behind name (Err told) = []

-- the job's file, and what its job asks for behind it
abbrev pub job_asked : JobCommand → List ℕ → (List ℕ → Option (List ℕ)) → List (List ℕ)
job_asked with name content = name ∷ asked_behind name (job_in_file with (file_told (content name)))
