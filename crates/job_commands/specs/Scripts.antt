-- A job that is read, with the programs of its scripts, or what is told where one is refused.
use Rattle.std.specs.Prelude.{◌≡◌, ℕ, List, [], ◌∷◌, Result, Ok, Err, Option, codes}
use Rattle.pl_types.specs.declared.refusal.Refusal.{Refusal}
use Rattle.typed_tree.specs.declared.program.Program.{Program}
use Rattle.script_engine.specs.Programs.{IsProgramOf}
use Rattle.job_file.specs.declared.context.JobCommand.{JobCommand}
use Rattle.job_file.specs.Jobs.{field}
use Rattle.job_loading.specs.Refusals.{job_refusal, script_refusal}
use Rattle.command_parts.specs.Told.{Told}
use Rattle.job_loading.specs.Loading.{JobUnder, refusal, job_under}
use Rattle.job_commands.specs.Contexts.{row_of, types_of}

-- a script of a job, with its program
pub record JobProgram : Type 0 where
  pub key : List ℕ
  pub program : Program

-- the scripts of a job, in the order in which they are compiled
pub record JobPrograms : Type 0 where
  pub first : JobProgram
  pub more : List JobProgram

pub record Prepared : Type 0 where
  pub under : JobUnder
  pub programs : JobPrograms

-- a script of a job that is refused
pub record RefusedScript : Type 0 where
  pub key : List ℕ
  pub refusal : Refusal

-- ---- the walk over the scripts

-- with a program in front, where the others have theirs
abbrev pub with_first : JobProgram → Result (List JobProgram) RefusedScript → Result (List JobProgram) RefusedScript
with_first program (Ok programs) = Ok (program ∷ programs)
with_first program (Err wrong) = Err wrong

-- what comes of a script under a key and of those behind it
abbrev pub BehindScript : List ℕ → Result Program Refusal → (Result (List JobProgram) RefusedScript → Type 0) → Result (List JobProgram) RefusedScript → Type 0
BehindScript key (Ok program) Rest answer =
    (rest : Result (List JobProgram) RefusedScript) × Rest rest × (answer ≡ with_first (record { key = key; program = program }) rest)
BehindScript key (Err wrong) Rest answer = answer ≡ Err (record { key = key; refusal = wrong })

-- The programs of scripts, each in the context's types for its key and under the job's list; or the first script that is refused.
abbrev pub ArePrograms : JobUnder → List (List ℕ × List ℕ) → Result (List JobProgram) RefusedScript → Type 0
ArePrograms under [] answer = answer ≡ Ok []
ArePrograms under (script ∷ scripts) answer =
    (reading : Result Program Refusal) × IsProgramOf under.allow (types_of under.job.context script.0) script.1 reading
    × BehindScript script.0 reading (λ rest. ArePrograms under scripts rest) answer

-- ---- jobs

-- a script of the job is refused
abbrev pub script_told : JobUnder → RefusedScript → Told
script_told under wrong = refusal (script_refusal (row_of under.job.context).by_key wrong.key wrong.refusal)

-- a job without scripts, which none is that is read, would be refused
abbrev pub no_scripts : Told
no_scripts = refusal (job_refusal (field (codes "script")))

abbrev pub prepared : JobUnder → Result (List JobProgram) RefusedScript → Result Prepared Told
prepared under (Ok []) = Err no_scripts
prepared under (Ok (first ∷ more)) = Ok (record { under = under; programs = record { first = first; more = more } })
prepared under (Err wrong) = Err (script_told under wrong)

-- the job with the programs of its scripts
abbrev pub Prepares : JobUnder → Result Prepared Told → Type 0
Prepares under answer =
    (found : Result (List JobProgram) RefusedScript) × ArePrograms under under.job.scripts found × (answer ≡ prepared under found)

abbrev pub PreparesRead : Result JobUnder Told → Result Prepared Told → Type 0
PreparesRead (Ok under) answer = Prepares under answer
PreparesRead (Err told) answer = answer ≡ Err told

-- the job in the file of a name, for a command: its own file comes first, then its allowlist, then its scripts
abbrev pub PreparesJob : JobCommand → (List ℕ → Option (List ℕ)) → List ℕ → Result Prepared Told → Type 0
PreparesJob with content name = PreparesRead (job_under with content name)
