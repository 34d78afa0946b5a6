-- What is told of each command that runs jobs.
use Rattle.std.specs.Prelude.{ℕ, List, []}
use Rattle.script_engine.specs.Codes.{ScriptCodes}
use Rattle.job_file.specs.declared.context.JobCommand.TheVariants as command
use Rattle.command_parts.specs.Ends.{Telling, NoCodes, reads_nothing}
use Rattle.job_loading.specs.Asked.{job_asked}
use Rattle.job_commands.specs.Checking.{TellsCheck}
use Rattle.job_commands.specs.Generated.{AreFixedCodes, TellsGen}
use Rattle.job_commands.specs.Listing.{AreCodesIn, TellsList}
use Rattle.job_commands.specs.Running.{TellsRun, TellsRunTaken, RunsPast}

-- of a job's file, which is asked for first, and then its allowlist; nothing is shown of codes
abbrev pub check_telling : List ℕ → Telling
check_telling name = reads_nothing {Codes = NoCodes} (λ content codes. Unit {0}) (λ content codes told. TellsCheck content name told) (job_asked command.Check name)

abbrev pub list_telling : List ℕ → Telling
list_telling name =
    reads_nothing {Codes = List ScriptCodes} (λ content codes. AreCodesIn command.List content name codes) (λ content codes told. TellsList content codes name told) (job_asked command.List name)

abbrev pub run_telling : List ℕ → Telling
run_telling name = record {
  Codes = List ScriptCodes;
  are = λ content codes. AreCodesIn command.Run content name codes;
  tells = λ content codes input told. TellsRun content codes name input told;
  taken = λ content codes front told. TellsRunTaken content codes name front told;
  past = λ content front. RunsPast content name front;
  asks = job_asked command.Run name;
  reads = Unit {0};
  misused = ⊥;
}

-- of so many documents; no file is asked for
abbrev pub gen_telling : ℕ → Telling
gen_telling count = reads_nothing {Codes = List ScriptCodes} (λ content codes. AreFixedCodes codes) (λ content codes told. TellsGen codes count told) (λ content. [])
