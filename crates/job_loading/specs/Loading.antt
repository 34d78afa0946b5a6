-- A job and its allowlist, from the content of the files, or what is told where there is none.
use Rattle.std.specs.Prelude.{ℕ, List, Option, Some, None, Result, Ok, Err, if◌then◌else◌}
use Rattle.std.specs.Str.{is_utf8}
use Rattle.serde_json.specs.Data.{Data}
use Rattle.serde_json.specs.Read.{read}
use Rattle.allowlist.specs.Allow.{AllowList, full_list}
use Rattle.allowlist.specs.Files as list
use Rattle.job_file.specs.declared.context.JobCommand.{JobCommand}
use Rattle.job_file.specs.Jobs.{JobData, Fault, syntax, job_of_read, object_of}
use Rattle.json_replies.specs.Replies.{line_of}
use Rattle.job_replies.specs.Refusals.{job_refusal, list_refusal}
use Rattle.command_parts.specs.declared.status.Status.TheVariants as s
use Rattle.command_parts.specs.Files.{file_told}
use Rattle.command_parts.specs.Told.{Told, uncounted}

-- a job, and the list of what its scripts may use
pub record JobUnder : Type 0 where
  pub job : JobData
  pub allow : AllowList

-- something is refused
abbrev pub refusal : Data → Told
refusal d = uncounted s.Refused (line_of d)

-- ---- the job's file

abbrev pub job_in_bytes : JobCommand → List ℕ → Result JobData Fault
job_in_bytes with bytes = if is_utf8 bytes then job_of_read with (object_of (read bytes)) else Err syntax

-- the job, or the refusal of the first thing that is wrong with it
abbrev pub job_told : Result JobData Fault → Result JobData Told
job_told (Ok job) = Ok job
job_told (Err fault) = Err (refusal (job_refusal fault))

-- the job of a file for a command
abbrev pub job_in_file : JobCommand → Result (List ℕ) Told → Result JobData Told
job_in_file with (Ok bytes) = job_told (job_in_bytes with bytes)
job_in_file with (Err told) = Err told

-- ---- its allowlist

abbrev pub list_told : Result AllowList list.Fault → Result AllowList Told
list_told (Ok allow) = Ok allow
list_told (Err fault) = Err (refusal (list_refusal fault))

abbrev pub list_in_file : Result (List ℕ) Told → Result AllowList Told
list_in_file (Ok bytes) = list_told (list.allowlist_of bytes)
list_in_file (Err told) = Err told

-- a job that names no file has the full catalogue
abbrev pub list_named : (List ℕ → Option (List ℕ)) → Option (List ℕ) → Result AllowList Told
list_named content None = Ok full_list
list_named content (Some name) = list_in_file (file_told (content name))

-- ---- both

abbrev pub under : JobData → Result AllowList Told → Result JobUnder Told
under job (Ok allow) = Ok (record { job = job; allow = allow })
under job (Err told) = Err told

abbrev pub with_list : (List ℕ → Option (List ℕ)) → Result JobData Told → Result JobUnder Told
with_list content (Ok job) = under job (list_named content job.allow)
with_list content (Err told) = Err told

-- the job in the file of a name, with its list, or what is told: the job's own file comes first
abbrev pub job_under : JobCommand → (List ℕ → Option (List ℕ)) → List ℕ → Result JobUnder Told
job_under with content name = with_list content (job_in_file with (file_told (content name)))
