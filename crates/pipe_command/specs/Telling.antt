-- What `pipe` is to write over an input, and how it is to end: a job that is read, and then a reply for each line of the input, which is what
-- the pipeline makes of the line's document by what its scripts mean.
use Rattle.std.specs.Prelude.{◌≡◌, ℕ, ◌+◌, List, [], Option, Result, Ok, Err, length}
use Rattle.outer_io.specs.Lines.{InputLine}
use Rattle.job_commands.specs.Codes.{ScriptCodes}
use Rattle.command_parts.specs.Ends.{Telling}
use Rattle.command_parts.specs.Told.{Told}
use Rattle.document_replies.specs.LineRunReplies.{Front, Reply, Talk, stateless, TellsInput, TellsTaken}
use Rattle.pipe_job.specs.PipeDocuments.{DocData}
use Rattle.pipe_job.specs.Replies.{Answer, meaning_of, reply_to}
use Rattle.job_commands.specs.Listing.{AreEachCodes, listings_of}
use Rattle.pipe_command.specs.Answering.{AllAnswer}
use Rattle.pipe_command.specs.Pipelines.{Piped, PipesJob, pipe_asked}

-- ---- codes

abbrev pub AreCodesBy : Result Piped Told → List ScriptCodes → Type 0
AreCodesBy (Ok p) codes = AreEachCodes p.of.under p.programs codes
AreCodesBy (Err told) codes = Unit {0}

abbrev pub AreCodesIn : (List ℕ → Option (List ℕ)) → List ℕ → List ScriptCodes → Type 0
AreCodesIn content name codes = (answer : Result Piped Told) → PipesJob content name answer → AreCodesBy answer codes

-- ---- lines

-- each line has the reply of the pipeline, by what the scripts answer
abbrev pub talk_of : Piped → (ℕ → DocData → Answer) → Talk
talk_of p answers = stateless (λ (line : InputLine) (reply : Reply). reply ≡ reply_to (meaning_of answers) p.of.pipeline.processors line)

-- nothing stands before the replies; the listings of all scripts are for the report
abbrev pub front_of : List ScriptCodes → Front
front_of codes = record { bytes = []; listings = listings_of codes }

-- ---- the input

abbrev pub TellsPiped : Result Piped Told → List ScriptCodes → List ℕ → Told → Type 0
TellsPiped (Ok p) codes input told =
    (answers : ℕ → DocData → Answer) × AllAnswer p codes answers × TellsInput (talk_of p answers) (front_of codes) p.of.under.job.limits.input input told
TellsPiped (Err wrong) codes input told = told ≡ wrong

-- what is told of a job's file, of an input, and of the codes of the job's scripts
abbrev pub TellsPipe : (List ℕ → Option (List ℕ)) → List ScriptCodes → List ℕ → List ℕ → Told → Type 0
TellsPipe content codes name input told = (answer : Result Piped Told) × PipesJob content name answer × TellsPiped answer codes input told

-- what is told of the bytes that were taken of the input before it failed
abbrev pub TellsPipeTaken : (List ℕ → Option (List ℕ)) → List ScriptCodes → List ℕ → List ℕ → Told → Type 0
TellsPipeTaken content codes name taken told =
    (p : Piped) × PipesJob content name (Ok p) × (answers : ℕ → DocData → Answer) × AllAnswer p codes answers
    × TellsTaken (talk_of p answers) (front_of codes) p.of.under.job.limits.input taken told

-- as many bytes were taken of the input as the job allows, and one more
abbrev pub PipesPast : (List ℕ → Option (List ℕ)) → List ℕ → List ℕ → Type 0
PipesPast content name front = (p : Piped) × PipesJob content name (Ok p) × (length front ≡ p.of.under.job.limits.input + 1)

abbrev pub pipe_telling : List ℕ → Telling
pipe_telling name = record {
  Codes = List ScriptCodes;
  are = λ content codes. AreCodesIn content name codes;
  tells = λ content codes input told. TellsPipe content codes name input told;
  taken = λ content codes front told. TellsPipeTaken content codes name front told;
  past = λ content front. PipesPast content name front;
  asks = pipe_asked name;
  reads = Unit {0};
  misused = ⊥;
}
