-- Errors of the code as what is wrong.
use Rattle.std.specs.Prelude.{◌≡◌, ℕ, List, string_bytes}
use Rattle.allowlist.specs.Files as list
use Rattle.allowlist.specs.declared.error.AllowErr.{AllowErr}
use Rattle.allowlist.specs.declared.error.AllowErr.TheVariants as a
use Rattle.job_file.specs.Jobs as job
use Rattle.job_file.specs.declared.error.JobErr.{JobErr}
use Rattle.job_file.specs.declared.error.JobErr.TheVariants as j
use Rattle.json_replies.specs.Replies.{line_of}
use Rattle.job_replies.specs.Refusals.{job_refusal, list_refusal}

-- a line is the refusal that an error is; want of memory is none
abbrev pub IsJobLine : JobErr → List ℕ → Type 0
IsJobLine j.Syntax line = line ≡ line_of (job_refusal job.syntax)
IsJobLine (j.Field key) line = line ≡ line_of (job_refusal (job.field (string_bytes key)))
IsJobLine (j.Range key) line = line ≡ line_of (job_refusal (job.range (string_bytes key)))
IsJobLine (j.Mapping field) line = line ≡ line_of (job_refusal (job.mapping (string_bytes field)))
IsJobLine j.NoMemory line = ⊥

abbrev pub IsListLine : AllowErr → List ℕ → Type 0
IsListLine (a.Syntax at) line = line ≡ line_of (list_refusal (list.Syntax at))
IsListLine (a.Unknown at) line = line ≡ line_of (list_refusal (list.Unknown at))
IsListLine a.NoMemory line = ⊥
