-- What the code prepares as what is meant.
use Rattle.std.specs.Prelude.{◌≡◌, ℕ, List, [], ◌∷◌, map, None, Result, Ok, Err, IfSome}
use Rattle.object_heap.specs.Store.{Store}
use Rattle.object_values.specs.declared.value.Value.{Value}
use Rattle.script_engine.specs.World.{World}
use Rattle.job_loading.specs.Allow.{AllowList}
use Rattle.pl_types.specs.declared.refusal.Refusal.{Refusal}
use Rattle.typed_tree.specs.declared.program.Program.{Program}
use Rattle.script_engine.specs.typing_rules_declared.header.ContextTypes.{ContextTypes}
use Rattle.script_engine.specs.SourceMeaningPrograms.{variable_of}
use Rattle.script_engine.specs.Types.{HaveAll}
use Rattle.script_engine.specs.Agreeing.{types_in}
use Rattle.script_engine.specs.Seen.{limits_of}
use Rattle.script_engine.specs.Rows.{HaveRows}
use Rattle.script_engine.specs.declared.compiling.Script.{Script}
use Rattle.script_engine.specs.Codes.{Counts, ScriptCodes, empty_program, script_codes}
use Rattle.script_engine.specs.Compiling.{IsScriptOf}
use Rattle.script_engine.specs.Ends.{RunsTo}
use Rattle.script_engine.specs.Faults.{shape_fault}
use Rattle.script_engine.specs.Programs.{IsProgramOf}
use Rattle.script_engine.specs.Running.{TakesArguments, TakesTyped, end_seen, world_at}
use Rattle.command_parts.specs.Stops.{stop_told}
use Rattle.command_parts.specs.Told.{Told}
use Rattle.command_parts.specs.declared.stop.Stop.{Stop}
use Rattle.document_replies.specs.Replies.{Ended}
use Rattle.job_loading.specs.Loading.{JobUnder}
use Rattle.job_loading.specs.Seen.{read_view}
use Rattle.job_commands.specs.Contexts.{types_of}
use Rattle.job_commands.specs.Scripts.{ArePrograms, JobProgram, JobPrograms, Prepared, RefusedScript, prepared, script_told}
use Rattle.job_commands.specs.declared.preparing.JobScripts.{JobScripts}
use Rattle.job_commands.specs.declared.preparing.PreparedJob.{PreparedJob}
use Rattle.job_commands.specs.declared.script.LimitedScript.{LimitedScript}

-- a script of a program of a job: it stands for it, the verifier finds no fault in its code, and it can be run on all arguments of the types
-- of its context's variables
pub record IsScriptFor (under : JobUnder) (program : JobProgram) (script : Script) : Type 0 where
  pub of : IsScriptOf under.allow (types_of under.job.context program.key) program.program script
  pub sound : shape_fault under.allow script.executable.code ≡ None
  pub rows : HaveRows script.executable.allow script.executable.code.functions
  pub takes : TakesTyped (types_of under.job.context program.key) script

-- the script of each program, in order
abbrev pub AreScriptsFor : JobUnder → List JobProgram → List Script → Type 0
AreScriptsFor under [] [] = Unit {0}
AreScriptsFor under (program ∷ programs) (script ∷ scripts) = IsScriptFor under program script × AreScriptsFor under programs scripts
AreScriptsFor under [] (script ∷ scripts) = ⊥
AreScriptsFor under (program ∷ programs) [] = ⊥

-- the script of the program under a key, or what is told
abbrev pub CompilesScript : JobUnder → List ℕ → List ℕ → Result Script Stop → Type 0
CompilesScript under key text (Ok script) =
    (program : Program) × IsProgramOf under.allow (types_of under.job.context key) text (Ok program) × IsScriptFor under (record { key = key; program = program }) script
CompilesScript under key text (Err stop) =
    IfSome (stop_told stop) (λ told. (wrong : Refusal) × IsProgramOf under.allow (types_of under.job.context key) text (Err wrong)
    × (told ≡ script_told under (record { key = key; refusal = wrong })))

-- the scripts of the programs of some texts
abbrev pub HaveScripts : JobUnder → List (List ℕ × List ℕ) → List Script → Type 0
HaveScripts under texts scripts = (programs : List JobProgram) × ArePrograms under texts (Ok programs) × AreScriptsFor under programs scripts

-- .. or what is told of the first that is refused
abbrev pub RefusesScripts : JobUnder → List (List ℕ × List ℕ) → Stop → Type 0
RefusesScripts under texts stop = IfSome (stop_told stop) (λ told. (wrong : RefusedScript) × ArePrograms under texts (Err wrong) × (told ≡ script_told under wrong))

-- the scripts of the code for the scripts of a job, or what is told
abbrev pub CompilesJob : JobUnder → List (List ℕ × List ℕ) → Result JobScripts Stop → Type 0
CompilesJob under texts (Ok scripts) =
    (first : JobProgram) × (more : List JobProgram) × ArePrograms under texts (Ok (first ∷ more)) × IsScriptFor under first scripts.first × AreScriptsFor under more scripts.more.items
CompilesJob under texts (Err stop) =
    IfSome (stop_told stop) (λ told. (answer : Result (List JobProgram) RefusedScript) × ArePrograms under texts answer × (prepared under answer ≡ Err told))

-- a job of the code with programs
abbrev pub with_programs : PreparedJob → JobPrograms → Prepared
with_programs job programs = record { under = read_view job.found; programs = programs }

-- its scripts are those of the programs
abbrev pub AreJobScripts : PreparedJob → JobPrograms → Type 0
AreJobScripts job programs = AreScriptsFor (read_view job.found) (programs.first ∷ programs.more) (job.scripts.first ∷ job.scripts.more.items)

-- the job is prepared with the programs of which it has the scripts, or something is told
abbrev pub PreparesSo : (Result Prepared Told → Type 0) → Result PreparedJob Stop → Type 0
PreparesSo prepares (Ok job) = (programs : JobPrograms) × prepares (Ok (with_programs job programs)) × AreJobScripts job programs
PreparesSo prepares (Err stop) = IfSome (stop_told stop) (λ told. prepares (Err told))

-- its first script is one of some program
abbrev pub IsReady : PreparedJob → Type 0
IsReady job = (program : JobProgram) × IsScriptFor (read_view job.found) program job.scripts.first

-- a script that can be run on these arguments
abbrev pub TakesThem : LimitedScript → List Value → Type 0
TakesThem s args = HaveRows s.script.executable.allow s.script.executable.code.functions × TakesArguments s.script args

-- the codes of the scripts of a job, and those of the prelude
abbrev pub codes_of : JobScripts → List ScriptCodes
codes_of scripts = script_codes scripts.first ∷ map script_codes scripts.more.items

-- what a run leaves is what that of each program leaves of which the script is
abbrev pub LeavesAsItsProgram : LimitedScript → Store → List Value → Ended → Type 0
LeavesAsItsProgram s store args ran =
    (allow : AllowList) (context : ContextTypes) (p : Program) → IsScriptOf allow context p s.script → HaveAll (types_in (map variable_of context.variables)) args
    → (w : World) × RunsTo p empty_program (limits_of s.limits allow) args (world_at store s.limits) (end_seen ran.end w) × (ran.objects ≡ w.store.objects) × (ran.reached ≡ w.reached)

-- .. and as many instructions of the script's code are counted, beside the prelude's
pub record EndsAsItsProgram (s : LimitedScript) (store : Store) (args : List Value) (ran : Ended) : Type 0 where
  pub leaves : LeavesAsItsProgram s store args ran
  pub counts : Counts (script_codes s.script) (limits_of s.limits s.script.executable.allow) args (world_at store s.limits) ran.steps
