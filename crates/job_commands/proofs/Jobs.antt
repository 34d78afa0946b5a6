-- A job is prepared in one way, and its scripts have codes.
use Rattle.std.proofs.Common.{◌≡◌, ℕ, ◌⊎◌, inl, inr, List, [], ◌∷◌, map, Option, IfSome, Result, Ok, Err, refl, sym, ap, ◌∙◌, subst, string_bytes}
use Rattle.pl_types.specs.declared.refusal.Refusal.{Refusal}
use Rattle.typed_tree.specs.declared.program.Program.{Program}
use Rattle.script_engine.specs.Codes.{ScriptCodes, script_codes}
use Rattle.script_engine.specs.Laws.{TextsAreAnswered, TextsAreAnsweredOnce, CodesAreListed, PreludeIsListed}
use Rattle.script_engine.specs.Programs.{IsProgramOf}
use Rattle.script_engine.specs.declared.compiling.Script.{Script}
use Rattle.job_file.specs.declared.context.JobCommand.{JobCommand}
use Rattle.command_parts.specs.declared.status.Status.{Status}
use Rattle.command_parts.specs.declared.status.Status.TheVariants as s
use Rattle.command_parts.specs.Before.{EndsBefore}
use Rattle.command_parts.specs.declared.stop.Stop.{Stop}
use Rattle.command_parts.specs.declared.stop.Stop.TheVariants as stop
use Rattle.command_parts.specs.Ending.{EndsSo}
use Rattle.command_parts.specs.Stops.{stop_told}
use Rattle.command_parts.specs.Told.{Told, silent, uncounted}
use Rattle.command_parts.proofs.Delivering.{nothing}
use Rattle.job_loading.specs.Loading.{JobUnder, job_under}
use Rattle.job_loading.specs.Seen.{read_view}
use Rattle.job_commands.specs.Contexts.{types_of}
use Rattle.job_commands.specs.FixedJob.{fixed_under}
use Rattle.job_commands.specs.Generated.{AreFixedCodes}
use Rattle.job_commands.specs.Listing.{AreCodesBy, AreCodesIn, AreEachCodes}
use Rattle.job_commands.specs.Preparing.{AreJobScripts, AreScriptsFor, codes_of, with_programs}
use Rattle.job_commands.specs.Scripts.{ArePrograms, BehindScript, JobProgram, JobPrograms, Prepared, Prepares, PreparesJob, PreparesRead, RefusedScript, prepared, with_first}
use Rattle.job_commands.specs.declared.preparing.PreparedJob.{PreparedJob}

-- ---- the walk over the scripts

module _ (texts : TextsAreAnsweredOnce) (under : JobUnder) where
  behind_once : (key : List ℕ) (reading : Result Program Refusal) (Rest : Result (List JobProgram) RefusedScript → Type 0)
      → ((a b : Result (List JobProgram) RefusedScript) → Rest a → Rest b → a ≡ b) → (a b : Result (List JobProgram) RefusedScript) → BehindScript key reading Rest a → BehindScript key reading Rest b
      → a ≡ b
  behind_once key (Ok program) Rest once a b (r, is, at) (q, goes, to) = at ∙ ap (with_first (record { key = key; program = program })) (once r q is goes) ∙ sym to
  behind_once key (Err wrong) Rest once a b h k = h ∙ sym k

  pub programs_once : (scripts : List (List ℕ × List ℕ)) (a b : Result (List JobProgram) RefusedScript) → ArePrograms under scripts a → ArePrograms under scripts b → a ≡ b
  programs_once [] a b h k = h ∙ sym k
  programs_once (script ∷ scripts) a b (r, is, h) (q, goes, k) =
      behind_once script.0 q (λ rest. ArePrograms under scripts rest) (programs_once scripts) a b
      (subst (λ (x : Result Program Refusal). BehindScript script.0 x (λ rest. ArePrograms under scripts rest) a)
      (texts under.allow (types_of under.job.context script.0) script.1 r q is goes) h) k

module _ (texts : TextsAreAnswered) (under : JobUnder) where
  behind_some : (key : List ℕ) (reading : Result Program Refusal) (Rest : Result (List JobProgram) RefusedScript → Type 0) → (rest : Result (List JobProgram) RefusedScript) × Rest rest
      → (answer : Result (List JobProgram) RefusedScript) × BehindScript key reading Rest answer
  behind_some key (Ok program) Rest rest = (with_first (record { key = key; program = program }) rest.0, (rest.0, rest.1, refl))
  behind_some key (Err wrong) Rest rest = (Err (record { key = key; refusal = wrong }), refl)

  pub programs_some : (scripts : List (List ℕ × List ℕ)) → (answer : Result (List JobProgram) RefusedScript) × ArePrograms under scripts answer
  programs_some [] = (Ok [], refl)
  programs_some (script ∷ scripts) =
      let r = texts under.allow (types_of under.job.context script.0) script.1 in
      let b = behind_some script.0 r.0 (λ rest. ArePrograms under scripts rest) (programs_some scripts) in
      (b.0, (r.0, r.1, b.1))

-- the first of the programs is that of some text
module _ (under : JobUnder) where
  abbrev ReadsFirst : Result (List JobProgram) RefusedScript → Type 0
  ReadsFirst (Ok []) = Unit {0}
  ReadsFirst (Ok (first ∷ more)) = (text : List ℕ) × IsProgramOf under.allow (types_of under.job.context first.key) text (Ok first.program)
  ReadsFirst (Err wrong) = Unit {0}

  first_with : (program : JobProgram) (rest : Result (List JobProgram) RefusedScript) → (text : List ℕ) × IsProgramOf under.allow (types_of under.job.context program.key) text (Ok program.program)
      → ReadsFirst (with_first program rest)
  first_with program (Ok programs) is = is
  first_with program (Err wrong) is = tt

  first_behind : (key text : List ℕ) (reading : Result Program Refusal) (Rest : Result (List JobProgram) RefusedScript → Type 0) (answer : Result (List JobProgram) RefusedScript)
      → IsProgramOf under.allow (types_of under.job.context key) text reading → BehindScript key reading Rest answer → ReadsFirst answer
  first_behind key text (Ok program) Rest answer is (rest, goes, at) = subst ReadsFirst (sym at) (first_with (record { key = key; program = program }) rest (text, is))
  first_behind key text (Err wrong) Rest answer is at = subst ReadsFirst (sym at) tt

  first_read : (scripts : List (List ℕ × List ℕ)) (answer : Result (List JobProgram) RefusedScript) → ArePrograms under scripts answer → ReadsFirst answer
  first_read [] answer at = subst ReadsFirst (sym at) tt
  first_read (script ∷ scripts) answer (reading, is, h) = first_behind script.0 script.1 reading (λ rest. ArePrograms under scripts rest) answer is h

-- each of the programs is that of a text
abbrev pub AreRead : JobUnder → List JobProgram → Type 0
AreRead under [] = Unit {0}
AreRead under (program ∷ programs) = ((text : List ℕ) × IsProgramOf under.allow (types_of under.job.context program.key) text (Ok program.program)) × AreRead under programs

abbrev ReadSo : JobUnder → Result (List JobProgram) RefusedScript → Type 0
ReadSo under (Ok programs) = AreRead under programs
ReadSo under (Err wrong) = Unit {0}

with_read : (under : JobUnder) (program : JobProgram) (rest : Result (List JobProgram) RefusedScript) → ((text : List ℕ) × IsProgramOf under.allow (types_of under.job.context program.key) text (Ok program.program))
    → ReadSo under rest → ReadSo under (with_first program rest)
with_read under program (Ok programs) is are = (is, are)
with_read under program (Err wrong) is are = tt

behind_read : (under : JobUnder) (key text : List ℕ) (reading : Result Program Refusal) (Rest : Result (List JobProgram) RefusedScript → Type 0)
    → ((rest : Result (List JobProgram) RefusedScript) → Rest rest → ReadSo under rest) → (found : Result (List JobProgram) RefusedScript)
    → IsProgramOf under.allow (types_of under.job.context key) text reading → BehindScript key reading Rest found → ReadSo under found
behind_read under key text (Ok program) Rest more found is (rest, goes, at) =
    subst (ReadSo under) (sym at) (with_read under (record { key = key; program = program }) rest (text, is) (more rest goes))
behind_read under key text (Err wrong) Rest more found is at = subst (ReadSo under) (sym at) tt

pub programs_read : (under : JobUnder) (texts : List (List ℕ × List ℕ)) (found : Result (List JobProgram) RefusedScript) → ArePrograms under texts found → ReadSo under found
programs_read under [] found at = subst (ReadSo under) (sym at) tt
programs_read under (text ∷ texts) found (reading, is, h) =
    behind_read under text.0 text.1 reading (λ rest. ArePrograms under texts rest) (programs_read under texts) found is h

-- ---- the job

module _ (texts : TextsAreAnsweredOnce) where
  pub prepares_once : (under : JobUnder) (a b : Result Prepared Told) → Prepares under a → Prepares under b → a ≡ b
  prepares_once under a b (r, is, at) (q, goes, to) = at ∙ ap (prepared under) (programs_once texts under under.job.scripts r q is goes) ∙ sym to

  read_once : (read : Result JobUnder Told) (a b : Result Prepared Told) → PreparesRead read a → PreparesRead read b → a ≡ b
  read_once (Ok under) a b h k = prepares_once under a b h k
  read_once (Err told) a b h k = h ∙ sym k

  pub job_once : (with : JobCommand) (content : List ℕ → Option (List ℕ)) (name : List ℕ) (a b : Result Prepared Told) → PreparesJob with content name a → PreparesJob with content name b → a ≡ b
  job_once with content name = read_once (job_under with content name)

module _ (texts : TextsAreAnswered) where
  pub prepares_some : (under : JobUnder) → (answer : Result Prepared Told) × Prepares under answer
  prepares_some under = let r = programs_some texts under under.job.scripts in (prepared under r.0, (r.0, r.1, refl))

  read_some : (read : Result JobUnder Told) → (answer : Result Prepared Told) × PreparesRead read answer
  read_some (Ok under) = prepares_some under
  read_some (Err told) = (Err told, refl)

  pub job_some : (with : JobCommand) (content : List ℕ → Option (List ℕ)) (name : List ℕ) → (answer : Result Prepared Told) × PreparesJob with content name answer
  job_some with content name = read_some (job_under with content name)

-- the program of the first script of a job that is prepared is that of a text
abbrev pub HasProgram : Prepared → Type 0
HasProgram p = (text : List ℕ) × IsProgramOf p.under.allow (types_of p.under.job.context p.programs.first.key) text (Ok p.programs.first.program)

program_by : (under : JobUnder) (p : Prepared) (found : Result (List JobProgram) RefusedScript) → ReadsFirst under found → Ok p ≡ prepared under found → HasProgram p
program_by under p (Ok []) is at = absurd cc
program_by under p (Ok (first ∷ more)) is at =
    let same : p ≡ record { under = under; programs = record { first = first; more = more } } = cc in
    subst HasProgram (sym same) is
program_by under p (Err wrong) is at = absurd cc

pub prepares_program : (under : JobUnder) (p : Prepared) → Prepares under (Ok p) → HasProgram p
prepares_program under p (found, is, at) = program_by under p found (first_read under under.job.scripts found is) at

pub program_read : (read : Result JobUnder Told) (p : Prepared) → PreparesRead read (Ok p) → HasProgram p
program_read (Ok under) p h = prepares_program under p h
program_read (Err told) p h = absurd cc

-- ---- its codes

module _ (listed : CodesAreListed) (prelude : PreludeIsListed) where
  each_codes : (under : JobUnder) (programs : List JobProgram) (scripts : List Script) → AreScriptsFor under programs scripts → AreEachCodes under programs (map script_codes scripts)
  each_codes under [] [] are = tt
  each_codes under (program ∷ programs) (script ∷ scripts) (is, are) = (
    record {
      script = listed under.allow (types_of under.job.context program.key) program.program script is.of is.sound;
      prelude = prelude under.allow program.program script.executable.code;
    },
    each_codes under programs scripts are,
  )
  each_codes under [] (script ∷ scripts) are = absurd are
  each_codes under (program ∷ programs) [] are = absurd are

  -- those of its scripts
  pub job_codes : (job : PreparedJob) (programs : JobPrograms) → AreJobScripts job programs → AreCodesBy (Ok (with_programs job programs)) (codes_of job.scripts)
  job_codes job programs scripts = each_codes (read_view job.found) (programs.first ∷ programs.more) (job.scripts.first ∷ job.scripts.more.items) scripts

-- a run that ended before there were codes wrote nothing
before_codes : (status : Status) (old new : Option (List ℕ)) (t : Status) → EndsBefore t old old → status ≡ t → new ≡ old → EndsBefore status old new
before_codes status old new t before is same =
    subst (λ (n : Option (List ℕ)). EndsBefore status old n) (sym same) (subst (λ (x : Status). EndsBefore x old old) (sym is) before)

module _ (texts : TextsAreAnsweredOnce) (with : JobCommand) (content : List ℕ → Option (List ℕ)) (name : List ℕ) where
  pub prepared_codes : CodesAreListed → PreludeIsListed → (job : PreparedJob) (programs : JobPrograms) → PreparesJob with content name (Ok (with_programs job programs)) → AreJobScripts job programs
      → AreCodesIn with content name (codes_of job.scripts)
  prepared_codes listed prelude job programs is scripts = λ answer goes.
      subst (λ (r : Result Prepared Told). AreCodesBy r (codes_of job.scripts)) (job_once texts with content name (Ok (with_programs job programs)) answer is goes)
      (job_codes listed prelude job programs scripts)

  -- any, where it is refused
  pub refused_codes : (told : Told) → PreparesJob with content name (Err told) → (codes : List ScriptCodes) → AreCodesIn with content name codes
  refused_codes told is codes = λ answer goes. subst (λ (r : Result Prepared Told). AreCodesBy r codes) (job_once texts with content name (Err told) answer is goes) tt

  pub stop_codes : (codes : List ScriptCodes) (end : Stop) (status : Status) (old new : Option (List ℕ)) → IfSome (stop_told end) (λ told. PreparesJob with content name (Err told))
      → EndsSo end status old new → AreCodesIn with content name codes ⊎ EndsBefore status old new
  stop_codes codes (stop.Refused line) status old new is ends = inl (refused_codes (uncounted s.Refused (string_bytes line)) is codes)
  stop_codes codes stop.FileAbsent status old new is ends = inl (refused_codes (silent s.FileAbsent) is codes)
  stop_codes codes stop.FileLong status old new is ends = inl (refused_codes (silent s.FileLong) is codes)
  stop_codes codes stop.FileFault status old new is (ends, same) = inr (before_codes status old new s.FileFault (nothing old) ends same)
  stop_codes codes stop.NoMemory status old new is (ends, same) = inr (before_codes status old new s.NoMemory (nothing old) ends same)

-- ---- those of the fixed job

module _ (texts : TextsAreAnsweredOnce) where
  pub fixed_codes : CodesAreListed → PreludeIsListed → (job : PreparedJob) (programs : JobPrograms) → Prepares fixed_under (Ok (with_programs job programs)) → AreJobScripts job programs
      → AreFixedCodes (codes_of job.scripts)
  fixed_codes listed prelude job programs is scripts = λ answer goes.
      subst (λ (r : Result Prepared Told). AreCodesBy r (codes_of job.scripts)) (prepares_once texts fixed_under (Ok (with_programs job programs)) answer is goes)
      (job_codes listed prelude job programs scripts)

  -- any, where it were refused
  fixed_refused_codes : (told : Told) → Prepares fixed_under (Err told) → (codes : List ScriptCodes) → AreFixedCodes codes
  fixed_refused_codes told is codes = λ answer goes. subst (λ (r : Result Prepared Told). AreCodesBy r codes) (prepares_once texts fixed_under (Err told) answer is goes) tt

  pub fixed_stop_codes : (codes : List ScriptCodes) (end : Stop) (status : Status) (old new : Option (List ℕ)) → IfSome (stop_told end) (λ told. Prepares fixed_under (Err told))
      → EndsSo end status old new → AreFixedCodes codes ⊎ EndsBefore status old new
  fixed_stop_codes codes (stop.Refused line) status old new is ends = inl (fixed_refused_codes (uncounted s.Refused (string_bytes line)) is codes)
  fixed_stop_codes codes stop.FileAbsent status old new is ends = inl (fixed_refused_codes (silent s.FileAbsent) is codes)
  fixed_stop_codes codes stop.FileLong status old new is ends = inl (fixed_refused_codes (silent s.FileLong) is codes)
  fixed_stop_codes codes stop.FileFault status old new is (ends, same) = inr (before_codes status old new s.FileFault (nothing old) ends same)
  fixed_stop_codes codes stop.NoMemory status old new is (ends, same) = inr (before_codes status old new s.NoMemory (nothing old) ends same)
