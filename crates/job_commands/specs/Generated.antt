-- What `gen` is to write, and how it is to end.
use Rattle.std.specs.Prelude.{◌≡◌, ℕ, List, Result, Ok, Err}
use Rattle.script_engine.specs.Codes.{ScriptCodes}
use Rattle.job_loading.specs.Replies.{line_of}
use Rattle.command_parts.specs.declared.status.Status.TheVariants as s
use Rattle.command_parts.specs.Told.{Told}
use Rattle.job_commands.specs.Listing.{AreCodesBy, listings_of}
use Rattle.job_commands.specs.Scripts.{Prepared, Prepares}
use Rattle.job_commands.specs.declared.answer.Answer.{Answer}
use Rattle.job_commands.specs.declared.tally.Tally.{Tally}
use Rattle.job_commands.specs.Answers.{AreAnswers, IsAnswerOf}
use Rattle.job_commands.specs.FixedJob.{fixed_under}
use Rattle.job_commands.specs.Generator.{numbers_behind}
use Rattle.job_commands.specs.Summaries.{nothing_counted, summary, tallied}

-- codes of the fixed job's script
abbrev pub AreFixedCodes : List ScriptCodes → Type 0
AreFixedCodes codes = (answer : Result Prepared Told) → Prepares fixed_under answer → AreCodesBy answer codes

-- the summary of so many documents, and the report
abbrev pub summary_told : List ScriptCodes → ℕ → Tally → Told
summary_told codes count t = record { status = s.Done; bytes = line_of (summary count t); listings = listings_of codes; steps = t.steps }

-- these are the counts of the answers to so many documents
abbrev pub IsTally : (ℕ → Answer → Type 0) → ℕ → Tally → Type 0
IsTally Is count t = (answers : List Answer) × AreAnswers Is (numbers_behind count 0) answers × (t ≡ tallied nothing_counted answers)

-- the fixed job's script is accepted, or it would be told why not
abbrev pub TellsFixed : Result Prepared Told → List ScriptCodes → ℕ → Told → Type 0
TellsFixed (Ok p) codes count told = (t : Tally) × IsTally (IsAnswerOf p codes) count t × (told ≡ summary_told codes count t)
TellsFixed (Err wrong) codes count told = told ≡ wrong

-- what is told of so many documents and of the codes of the fixed job's script
abbrev pub TellsGen : List ScriptCodes → ℕ → Told → Type 0
TellsGen codes count told = (answer : Result Prepared Told) × Prepares fixed_under answer × TellsFixed answer codes count told
