-- What the code prepares is what is told.
use Rattle.std.proofs.Common.{◌≡◌, ℕ, ◌+◌, ◌<◌, ◌≤◌, List, [], ◌∷◌, ◌++◌, Option, Some, None, IfOk, IfSome, Result, Ok, Err, String, Global, drop, get_or, length, refl, sym, ap, subst, string_bytes, arith}
use Rattle.std.proofs.lemmas.List.{drop_all}
use Rattle.object_values.specs.declared.value.Value.{Value}
use Rattle.object_heap.specs.Store.{Store}
use Rattle.object_heap.specs.declared.outcome.Outcome.{Outcome}
use Rattle.pl_types.specs.declared.refusal.Refusal.{Refusal}
use Rattle.script_engine.specs.typing_rules_declared.header.ContextTypes.{ContextTypes}
use Rattle.script_engine.specs.declared.compiling.Script.{Script}
use Rattle.script_engine.specs.Seen.{limits_of}
use Rattle.script_engine.specs.Codes.{Counts, script_codes}
use Rattle.script_engine.specs.Compiling.{Compiles, IsScriptOf}
use Rattle.script_engine.specs.Faults.{shape_fault}
use Rattle.script_engine.specs.Programs.{IsProgramOf}
use Rattle.script_engine.specs.Rows.{HaveRows}
use Rattle.script_engine.specs.Running.{RunsAsItsProgram, TakesTyped, world_at, world_left}
use Rattle.document_replies.specs.Jobs.{ended_of}
use Rattle.job_file.specs.Answers.{fields_view, scripts_view}
use Rattle.job_file.specs.declared.context.JobCommand.{JobCommand}
use Rattle.search_ctx.specs.Fields.{HasDistinctNames}
use Rattle.command_parts.specs.declared.stop.Stop.{Stop}
use Rattle.command_parts.specs.Stops.{stop_told, ComesSo}
use Rattle.command_parts.specs.Told.{Told}
use Rattle.job_loading.specs.declared.reading.ReadJob.{ReadJob}
use Rattle.job_loading.specs.Loading.{JobUnder, job_under}
use Rattle.job_loading.specs.Seen.{read_view}
use Rattle.job_commands.specs.Preparing.{AreScriptsFor, CompilesJob, CompilesScript, EndsAsItsProgram, HaveScripts, IsReady, IsScriptFor, PreparesSo, RefusesScripts}
use Rattle.job_commands.specs.Contexts.{types_of}
use Rattle.job_commands.specs.Scripts.{ArePrograms, JobProgram, Prepares, PreparesJob, PreparesRead, RefusedScript, no_scripts, prepared, script_told, with_first}
use Rattle.job_commands.specs.declared.preparing.JobScripts.{JobScripts}
use Rattle.job_commands.specs.declared.preparing.PreparedJob.{PreparedJob}
use Rattle.job_commands.specs.declared.script.LimitedScript.{LimitedScript}
use Rattle.job_commands.proofs.Listings.{next_item}

pub if_some : (found : Option Told) (P Q : Told → Type 0) → ((told : Told) → P told → Q told) → IfSome found P → IfSome found Q
if_some None P Q to h = tt
if_some (Some told) P Q to h = to told h

-- ---- one script

-- what is told where the script of a text is refused, and where one of some is
abbrev pub IsRefused : JobUnder → List ℕ → List ℕ → Told → Type 0
IsRefused under key text told =
    (wrong : Refusal) × IsProgramOf under.allow (types_of under.job.context key) text (Err wrong) × (told ≡ script_told under (record { key = key; refusal = wrong }))

abbrev pub AreRefused : JobUnder → List (List ℕ × List ℕ) → Told → Type 0
AreRefused under texts told = (wrong : RefusedScript) × ArePrograms under texts (Err wrong) × (told ≡ script_told under wrong)

abbrev IsNotPrepared : JobUnder → List (List ℕ × List ℕ) → Told → Type 0
IsNotPrepared under texts told = (answer : Result (List JobProgram) RefusedScript) × ArePrograms under texts answer × (prepared under answer ≡ Err told)

-- the script is refused
pub refused_so : (under : JobUnder) (key text : List ℕ) (context : ContextTypes) (wrong : Refusal) (stop : Stop) → context ≡ types_of under.job.context key
    → IsProgramOf under.allow context text (Err wrong) → IfSome (stop_told stop) (λ told. told ≡ script_told under (record { key = key; refusal = wrong }))
    → CompilesScript under key text (Err stop)
refused_so under key text context wrong stop in_it is h =
    if_some (stop_told stop) (λ told. told ≡ script_told under (record { key = key; refusal = wrong })) (IsRefused under key text)
    (λ told at. (wrong, subst (λ (k : ContextTypes). IsProgramOf under.allow k text (Err wrong)) in_it is, at)) h

-- the script of a text in a context, where this is the context's for the key
pub script_so : (under : JobUnder) (key text : List ℕ) (context : ContextTypes) (script : Script) → context ≡ types_of under.job.context key
    → Compiles under.allow context (IsProgramOf under.allow context text) (Ok script) → shape_fault under.allow script.executable.code ≡ None
    → HaveRows script.executable.allow script.executable.code.functions → TakesTyped context script → CompilesScript under key text (Ok script)
script_so under key text context script in_it (p, is, of) sound rows takes = (
  p,
  subst (λ (k : ContextTypes). IsProgramOf under.allow k text (Ok p)) in_it is,
  record {
    of = subst (λ (k : ContextTypes). IsScriptOf under.allow k p script) in_it of;
    sound = sound;
    rows = rows;
    takes = subst (λ (k : ContextTypes). TakesTyped k script) in_it takes;
  },
)

-- ---- some scripts

-- what programs and what comes behind them are together
abbrev pub behind_all : List JobProgram → Result (List JobProgram) RefusedScript → Result (List JobProgram) RefusedScript
behind_all [] rest = rest
behind_all (program ∷ programs) rest = with_first program (behind_all programs rest)

pub one_more : (programs : List JobProgram) (program : JobProgram) (rest : Result (List JobProgram) RefusedScript)
    → behind_all (programs ++ program ∷ []) rest ≡ behind_all programs (with_first program rest)
one_more [] program rest = refl
one_more (first ∷ programs) program rest = ap (with_first first) (one_more programs program rest)

pub behind_none : (programs : List JobProgram) → behind_all programs (Ok []) ≡ Ok programs
behind_none [] = refl
behind_none (first ∷ programs) = ap (with_first first) (behind_none programs)

pub behind_wrong : (programs : List JobProgram) (wrong : RefusedScript) → behind_all programs (Err wrong) ≡ Err wrong
behind_wrong [] wrong = refl
behind_wrong (first ∷ programs) wrong = ap (with_first first) (behind_wrong programs wrong)

scripts_append : (under : JobUnder) (programs : List JobProgram) (scripts : List Script) (program : JobProgram) (script : Script) → AreScriptsFor under programs scripts
    → IsScriptFor under program script → AreScriptsFor under (programs ++ program ∷ []) (scripts ++ script ∷ [])
scripts_append under [] [] program script are is = (is, tt)
scripts_append under (first ∷ programs) (one ∷ scripts) program script are is = (are.0, scripts_append under programs scripts program script are.1 is)
scripts_append under [] (one ∷ scripts) program script are is = absurd are
scripts_append under (first ∷ programs) [] program script are is = absurd are

-- The scripts so far are those of programs, and whatever the texts that are left come to, all texts come to with these in front.
pub record CompilesOn (under : JobUnder) (all left : List (List ℕ × List ℕ)) (scripts : List Script) : Type 0 where
  pub programs : List JobProgram
  pub are : AreScriptsFor under programs scripts
  pub onward : (rest : Result (List JobProgram) RefusedScript) → ArePrograms under left rest → ArePrograms under all (behind_all programs rest)

pub compiles_first : (under : JobUnder) (texts : List (List ℕ × List ℕ)) (scripts : List Script) → scripts ≡ [] → CompilesOn under texts texts scripts
compiles_first under texts scripts none =
    subst (CompilesOn under texts texts) (sym none) (record { programs = []; are = tt; onward = λ rest are. are })

module _ (under : JobUnder) (texts : List (String Global × String Global)) (at : ℕ) (text : String Global × String Global) (within : at < length texts) (item : text ≡ get_or texts at text)
    (scripts : List Script) (on : CompilesOn under (scripts_view texts) (scripts_view (drop at texts)) scripts) where
  abbrev behind : List (List ℕ × List ℕ)
  behind = scripts_view (drop (at + 1) texts)

  -- whatever the text and those behind it come to
  onward_from : (answer : Result (List JobProgram) RefusedScript) → ArePrograms under ((string_bytes text.0, string_bytes text.1) ∷ behind) answer
      → ArePrograms under (scripts_view texts) (behind_all on.programs answer)
  onward_from answer are =
      on.onward answer (subst (λ (l : List (String Global × String Global)). ArePrograms under (scripts_view l) answer) (sym (next_item texts at text within item)) are)

  pub compiles_next : (script : Script) (after : List Script) → CompilesScript under (string_bytes text.0) (string_bytes text.1) (Ok script) → after ≡ scripts ++ script ∷ []
      → CompilesOn under (scripts_view texts) behind after
  compiles_next script after (p, is, of) added =
      let program : JobProgram = record { key = string_bytes text.0; program = p } in
      subst (CompilesOn under (scripts_view texts) behind) (sym added) (record {
        programs = on.programs ++ program ∷ [];
        are = scripts_append under on.programs scripts program script on.are of;
        onward = λ rest are.
            subst (ArePrograms under (scripts_view texts)) (sym (one_more on.programs program rest)) (onward_from (with_first program rest) (Ok p, is, (rest, are, refl)));
      })

  pub compiles_not : (stop : Stop) → CompilesScript under (string_bytes text.0) (string_bytes text.1) (Err stop) → RefusesScripts under (scripts_view texts) stop
  compiles_not stop h = if_some (stop_told stop) (IsRefused under (string_bytes text.0) (string_bytes text.1)) (AreRefused under (scripts_view texts)) from_one h where
    from_one : (told : Told) → IsRefused under (string_bytes text.0) (string_bytes text.1) told → AreRefused under (scripts_view texts) told
    from_one told (wrong, is, at) =
        let refused : RefusedScript = record { key = string_bytes text.0; refusal = wrong } in
        (refused, subst (ArePrograms under (scripts_view texts)) (behind_wrong on.programs refused) (onward_from (Err refused) (Err wrong, is, refl)), at)

pub compiles_all : (under : JobUnder) (texts : List (String Global × String Global)) (at : ℕ) (scripts : List Script) → length texts ≤ at
    → CompilesOn under (scripts_view texts) (scripts_view (drop at texts)) scripts → HaveScripts under (scripts_view texts) scripts
compiles_all under texts at scripts past on =
    let none : ArePrograms under (scripts_view (drop at texts)) (Ok []) =
    subst (λ (l : List (String Global × String Global)). ArePrograms under (scripts_view l) (Ok [])) (sym (drop_all at texts past)) refl in
    (on.programs, subst (ArePrograms under (scripts_view texts)) (behind_none on.programs) (on.onward (Ok []) none), on.are)

-- ---- those of a job

module _ (under : JobUnder) (key text : List ℕ) (rest : List (List ℕ × List ℕ)) where
  pub scripts_so : (first : Script) (scripts : JobScripts) → scripts.first ≡ first → CompilesScript under key text (Ok first) → HaveScripts under rest scripts.more.items
      → CompilesJob under ((key, text) ∷ rest) (Ok scripts)
  scripts_so first scripts same (p, is, of) (programs, are, more) =
      let program : JobProgram = record { key = key; program = p } in
      (program, programs, (Ok p, is, (Ok programs, are, refl)), subst (IsScriptFor under program) (sym same) of, more)

  pub first_not : (stop : Stop) → CompilesScript under key text (Err stop) → CompilesJob under ((key, text) ∷ rest) (Err stop)
  first_not stop h = if_some (stop_told stop) (IsRefused under key text) (IsNotPrepared under ((key, text) ∷ rest)) from_one h where
    from_one : (told : Told) → IsRefused under key text told → IsNotPrepared under ((key, text) ∷ rest) told
    from_one told (wrong, is, at) = (Err (record { key = key; refusal = wrong }), (Err wrong, is, refl), ap Err (sym at))

  pub more_not : (first : Script) (stop : Stop) → CompilesScript under key text (Ok first) → RefusesScripts under rest stop → CompilesJob under ((key, text) ∷ rest) (Err stop)
  more_not first stop (p, is, of) h = if_some (stop_told stop) (AreRefused under rest) (IsNotPrepared under ((key, text) ∷ rest)) from_more h where
    from_more : (told : Told) → AreRefused under rest told → IsNotPrepared under ((key, text) ∷ rest) told
    from_more told (wrong, are, at) = (Err wrong, (Ok p, is, (Err wrong, are, refl)), ap Err (sym at))

no_items : {A : Type 0} (xs : List A) → length xs ≡ 0 → xs ≡ []
no_items [] none = refl
no_items (x ∷ xs) none = absurd (omega (arith, none))

-- a job without scripts
pub none_not : (under : JobUnder) (texts : List (String Global × String Global)) (stop : Stop) → length texts ≡ 0 → IfSome (stop_told stop) (λ told. told ≡ no_scripts)
    → CompilesJob under (scripts_view texts) (Err stop)
none_not under texts stop none h =
    subst (λ (l : List (String Global × String Global)). CompilesJob under (scripts_view l) (Err stop)) (sym (no_items texts none))
    (if_some (stop_told stop) (λ told. told ≡ no_scripts) (IsNotPrepared under []) (λ told at. (Ok [], refl, ap Err (sym at))) h)

-- where the texts are these
pub job_of_texts : (under : JobUnder) (texts : List (String Global × String Global)) (first : String Global × String Global) (rest : List (String Global × String Global))
    (result : Result JobScripts Stop) → texts ≡ first ∷ rest → CompilesJob under ((string_bytes first.0, string_bytes first.1) ∷ scripts_view rest) result
    → CompilesJob under (scripts_view texts) result
job_of_texts under texts first rest result same h = subst (λ (l : List (String Global × String Global)). CompilesJob under (scripts_view l) result) (sym same) h

-- the job has these scripts
pub found_so : (found : ReadJob) (scripts : JobScripts) → CompilesJob (read_view found) (scripts_view found.job.scripts.items) (Ok scripts)
    → PreparesSo (Prepares (read_view found)) (Ok (record { found = found; scripts = scripts }))
found_so found scripts (first, more, are, is, others) = (record { first = first; more = more }, (Ok (first ∷ more), are, refl), (is, others))

-- .. the first of which is one of some program
pub found_ready : (found : ReadJob) (scripts : JobScripts) → CompilesJob (read_view found) (scripts_view found.job.scripts.items) (Ok scripts)
    → IsReady (record { found = found; scripts = scripts })
found_ready found scripts (first, more, are, is, others) = (first, is)

-- .. or it is told why it has none
pub found_not : (found : ReadJob) (stop : Stop) → CompilesJob (read_view found) (scripts_view found.job.scripts.items) (Err stop)
    → PreparesSo (Prepares (read_view found)) (Err stop)
found_not found stop h =
    if_some (stop_told stop) (IsNotPrepared (read_view found) (scripts_view found.job.scripts.items)) (λ told. Prepares (read_view found) (Err told)) from_answer h where
      from_answer : (told : Told) → IsNotPrepared (read_view found) (scripts_view found.job.scripts.items) told → Prepares (read_view found) (Err told)
      from_answer told (answer, are, at) = (answer, are, sym at)

-- ---- the job in a file

-- the job is not read
pub job_stops : (with : JobCommand) (content : List ℕ → Option (List ℕ)) (name : List ℕ) (stop : Stop) → ComesSo read_view (Err stop) (job_under with content name)
    → IfSome (stop_told stop) (λ told. PreparesJob with content name (Err told))
job_stops with content name stop h =
    if_some (stop_told stop) (λ told. job_under with content name ≡ Err told) (λ told. PreparesJob with content name (Err told))
    (λ told is. subst (λ (r : Result JobUnder Told). PreparesRead r (Err told)) (sym is) refl) h

-- the job is read, and has a script or is told why not
pub found_prepares : (with : JobCommand) (content : List ℕ → Option (List ℕ)) (name : List ℕ) (found : ReadJob) (result : Result PreparedJob Stop) → job_under with content name ≡ Ok (read_view found)
    → PreparesSo (Prepares (read_view found)) result → PreparesSo (PreparesJob with content name) result
found_prepares with content name found result is h = subst (λ (r : Result JobUnder Told). PreparesSo (PreparesRead r) result) (sym is) h

-- .. and no field stands twice in its mapping
pub distinct_so : (found : ReadJob) (result : Result PreparedJob Stop) → IfOk result (λ job. job.found ≡ found) → HasDistinctNames (fields_view found.job.mapping.fields.items)
    → IfOk result (λ job. HasDistinctNames (fields_view job.found.job.mapping.fields.items))
distinct_so found (Ok job) same distinct = subst (λ (f : ReadJob). HasDistinctNames (fields_view f.job.mapping.fields.items)) (sym same) distinct
distinct_so found (Err stop) same distinct = tt

-- a run of the code is that of each program of which the script is
pub ran_so : (s : LimitedScript) (store : Store) (args : List Value) (o : Outcome) → RunsAsItsProgram s.script store args s.limits o
    → Counts (script_codes s.script) (limits_of s.limits s.script.executable.allow) args (world_at store s.limits) o.steps → EndsAsItsProgram s store args (ended_of o)
ran_so s store args o runs counts = record {
  leaves = λ allow context p is has. let out = runs allow context p is has in (world_left o out.left, out.ends, refl, refl);
  counts = counts;
}
