-- Which codes a job may have, and what `list` is to write.
use Rattle.std.specs.Prelude.{◌≡◌, ℕ, List, [], ◌∷◌, ◌++◌, Bool, Option, Result, Ok, Err, if◌then◌else◌}
use Rattle.script_engine.specs.Listing.{written}
use Rattle.script_engine.specs.Codes.{IsListed, IsPreludeListed, ScriptCodes, empty_program}
use Rattle.job_file.specs.declared.context.JobCommand.{JobCommand}
use Rattle.job_file.specs.declared.context.JobCommand.TheVariants as command
use Rattle.command_parts.specs.declared.status.Status.TheVariants as s
use Rattle.command_parts.specs.Told.{Told, uncounted}
use Rattle.job_loading.specs.Loading.{JobUnder}
use Rattle.job_commands.specs.Contexts.{types_of}
use Rattle.job_commands.specs.Scripts.{JobProgram, Prepared, PreparesJob}

-- the listings of the codes of scripts, two for each: its own and the prelude's
abbrev pub listings_of : List ScriptCodes → List (List ℕ)
listings_of [] = []
listings_of (codes ∷ more) = written codes.script ∷ written codes.prelude ∷ listings_of more

-- codes of a script of a job
pub record AreScriptCodes (under : JobUnder) (of : JobProgram) (codes : ScriptCodes) : Type 0 where
  pub script : IsListed under.allow (types_of under.job.context of.key) of.program empty_program codes
  pub prelude : IsPreludeListed under.allow of.program empty_program codes

-- each script has its codes, in order
abbrev pub AreEachCodes : JobUnder → List JobProgram → List ScriptCodes → Type 0
AreEachCodes under [] [] = Unit {0}
AreEachCodes under (script ∷ scripts) (codes ∷ more) = AreScriptCodes under script codes × AreEachCodes under scripts more
AreEachCodes under [] (codes ∷ more) = ⊥
AreEachCodes under (script ∷ scripts) [] = ⊥

-- codes of the scripts of a job that is prepared; one that is refused has none
abbrev pub AreCodesOf : Prepared → List ScriptCodes → Type 0
AreCodesOf p codes = AreEachCodes p.under (p.programs.first ∷ p.programs.more) codes

abbrev pub AreCodesBy : Result Prepared Told → List ScriptCodes → Type 0
AreCodesBy (Ok p) codes = AreCodesOf p codes
AreCodesBy (Err told) codes = Unit {0}

-- codes of the job in the file of a name, for a command
abbrev pub AreCodesIn : JobCommand → (List ℕ → Option (List ℕ)) → List ℕ → List ScriptCodes → Type 0
AreCodesIn with content name codes = (answer : Result Prepared Told) → PreparesJob with content name answer → AreCodesBy answer codes

-- ---- the command `list`

-- the listings of the scripts' codes, one behind the other
abbrev pub scripts_text : List ScriptCodes → List ℕ
scripts_text [] = []
scripts_text (codes ∷ more) = written codes.script ++ scripts_text more

-- that of the prelude's code with which the first script runs
abbrev pub prelude_text : List ScriptCodes → List ℕ
prelude_text [] = []
prelude_text (codes ∷ more) = written codes.prelude

-- the listings of the scripts, or of the prelude where the job asks for it
abbrev pub listing_told : Bool → List ScriptCodes → Told
listing_told prelude codes = uncounted s.Done (if prelude then prelude_text codes else scripts_text codes)

abbrev pub told_of_list : Result Prepared Told → List ScriptCodes → Told
told_of_list (Ok p) codes = listing_told p.under.job.prelude codes
told_of_list (Err told) codes = told

-- what is told of a job's file and of the codes of its scripts
abbrev pub TellsList : (List ℕ → Option (List ℕ)) → List ScriptCodes → List ℕ → Told → Type 0
TellsList content codes name told = (answer : Result Prepared Told) × PreparesJob command.List content name answer × (told ≡ told_of_list answer codes)
