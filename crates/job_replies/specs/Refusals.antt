-- Lines about jobs: what is wrong with a job or with its allowlist, and what is wrong with a line of the input.
use Rattle.std.specs.Prelude.{ℕ, Bool, true, List, codes, if◌then◌else◌}
use Rattle.serde_json.specs.Data.{Data, boolean, number, string, object, unsigned, member, no_members, Members}
use Rattle.pl_types.specs.declared.refusal.Refusal.{Refusal}
use Rattle.allowlist.specs.Files as list
use Rattle.job_file.specs.Jobs as job
use Rattle.job_replies.specs.declared.line_fault.LineFault.{LineFault}
use Rattle.job_replies.specs.declared.line_fault.LineFault.TheVariants as line
use Rattle.json_replies.specs.Replies.{only, kind_reply, name_of, refusal_of}

-- the name and the number of a refusal
abbrev pub named : List ℕ → ℕ → Members
named name rule = member (codes "name") (string name) (member (codes "number") (number (unsigned rule)) no_members)

abbrev pub refused : Members → Data
refused members = only (codes "refused") (object members)

-- a key or a field of a job is refused
abbrev pub refused_field : List ℕ → List ℕ → ℕ → Data
refused_field field name rule = refused (member (codes "field") (string field) (named name rule))

-- what is wrong with a job
abbrev pub job_refusal : job.Fault → Data
job_refusal job.syntax = refused (named (codes "JobSyntax") 21)
job_refusal (job.field key) = refused_field key (codes "JobField") 22
job_refusal (job.range key) = refused_field key (codes "LimitRange") 25
job_refusal (job.mapping field) = refused_field field (codes "MappingBad") 26

-- a line of an allowlist file is refused
abbrev pub refused_line : ℕ → List ℕ → ℕ → Data
refused_line at name rule = refused (member (codes "line") (number (unsigned at)) (named name rule))

-- what is wrong with an allowlist
abbrev pub list_refusal : list.Fault → Data
list_refusal (list.Syntax at) = refused_line at (codes "AllowSyntax") 23
list_refusal (list.Unknown at) = refused_line at (codes "AllowUnknown") 24

-- a script is refused that is told by its key
abbrev pub named_refusal : List ℕ → Refusal → Data
named_refusal key wrong =
    refused (member (codes "name") (string (name_of wrong.number)) (member (codes "number") (number (unsigned wrong.number)) (member (codes "offset") (number (unsigned wrong.offset))
    (member (codes "script") (string key) no_members))))

-- a script of a job is refused, where the scripts of its context are told by their keys or not
abbrev pub script_refusal : Bool → List ℕ → Refusal → Data
script_refusal by_key key wrong = if by_key then named_refusal key wrong else refusal_of wrong

-- what is wrong with a line
abbrev pub line_kind : LineFault → List ℕ
line_kind line.Long = codes "line-long"
line_kind line.Syntax = codes "line-syntax"
line_kind line.Number = codes "line-number"
line_kind line.Field = codes "line-field"
line_kind line.Limit = codes "line-limit"

abbrev pub line_error : LineFault → Data
line_error fault = kind_reply (line_kind fault)

-- a job is accepted
abbrev pub accepted : Data
accepted = only (codes "ok") (boolean true)
