-- What `run` is to write over an input, and how it is to end: a job that is read, and then a reply for each line of the input, which
-- depends on the job and the line alone.
use Rattle.std.specs.Prelude.{◌≡◌, ℕ, ◌+◌, ◌++◌, ◌||◌, Bool, List, [], ◌∷◌, Option, Some, None, Result, Ok, Err, codes, length, if◌then◌else◌}
use Rattle.object_values.specs.declared.object.Object.{Object}
use Rattle.object_heap.specs.Store.{Store}
use Rattle.object_values.specs.declared.value.Value.{Value}
use Rattle.object_heap.specs.declared.outcome.End.{End}
use Rattle.object_heap.specs.declared.outcome.End.TheVariants as e
use Rattle.object_heap.specs.declared.outcome.Which.{Which}
use Rattle.object_heap.specs.declared.outcome.Which.TheVariants as which
use Rattle.script_engine.specs.World.{World, Limits, limits_for, Limit, Loop, Depth, Ticks, Room, End as Ended, Result as Gives, Uncaught, Limited}
use Rattle.outer_io.specs.Lines.{InputLine}
use Rattle.script_engine.specs.Codes.{Counts, ScriptCodes, empty_program}
use Rattle.script_engine.specs.Ends.{RunsTo}
use Rattle.job_file.specs.declared.context.JobCommand.TheVariants as command
use Rattle.job_file.specs.Jobs.{JobData, field}
use Rattle.document_replies.specs.Starts.{Start}
use Rattle.job_loading.specs.Listings.{prelude_listing_of, script_listing_of}
use Rattle.job_loading.specs.Refusals.{job_refusal}
use Rattle.job_loading.specs.Replies.{line_of}
use Rattle.command_parts.specs.Told.{Told}
use Rattle.document_replies.specs.LineRunReplies.{Reply, Front, stateless, TellsInput, TellsTaken}
use Rattle.document_replies.specs.Replies.{Context, Ended as Ran, IsReply}
use Rattle.job_loading.specs.Loading.{refusal}
use Rattle.job_commands.specs.Contexts.{context_in, row_of}
use Rattle.job_commands.specs.Listing.{listings_of}
use Rattle.job_commands.specs.Scripts.{Prepared, PreparesJob}

-- ---- runs of the job's first script

abbrev pub limits_in : Prepared → Limits
limits_in p = limits_for p.under.job.limits.loops p.under.job.limits.depth p.under.allow

-- each run begins with all its ticks, and no member was reached
abbrev pub world_in : Prepared → Store → World
world_in p store = record { store = store; ticks = p.under.job.limits.ticks; reached = [] }

abbrev pub which_of : Limit → Which
which_of Loop = which.Loop
which_of Depth = which.Depth
which_of Ticks = which.Ticks
which_of Room = which.Room

-- an end of a run without the world that it leaves
abbrev pub end_of : Ended Value → End
end_of (Gives value w) = e.Value value
end_of (Uncaught id place w) = e.Thrown id place
end_of (Limited limit place w) = e.Limit (which_of limit) place

-- the objects of that world
abbrev pub objects_of : Ended Value → List Object
objects_of (Gives value w) = w.store.objects
objects_of (Uncaught id place w) = w.store.objects
objects_of (Limited limit place w) = w.store.objects

-- the members that were called
abbrev pub reached_of : Ended Value → List ℕ
reached_of (Gives value w) = w.reached
reached_of (Uncaught id place w) = w.reached
reached_of (Limited limit place w) = w.reached

-- What a run of the first script leaves: that of the program's meaning beside the prelude's, which is the empty one, behind so many
-- instructions of the two codes.
pub record EndsBeside (p : Prepared) (codes : ScriptCodes) (start : Start) (ran : Ran) : Type 0 where
  pub ended : Ended Value
  pub runs : RunsTo p.programs.first.program empty_program (limits_in p) start.args (world_in p start.store) ended
  pub counts : Counts codes (limits_in p) start.args (world_in p start.store) ran.steps
  pub end : ran.end ≡ end_of ended
  pub objects : ran.objects ≡ objects_of ended
  pub reached : ran.reached ≡ reached_of ended

-- .. where the codes of the job's scripts are these
abbrev pub EndsOver : Prepared → List ScriptCodes → Start → Ran → Type 0
EndsOver p [] start ran = ⊥
EndsOver p (codes ∷ more) start ran = EndsBeside p codes start ran

-- ---- lines

-- the reply to a line
abbrev pub IsReplyOf : Context → Prepared → List ScriptCodes → InputLine → Reply → Type 0
IsReplyOf context p codes = IsReply p.under.allow context (EndsOver p codes)

-- with the lines of the listings of scripts behind some bytes: two listings stand for each script, of which the first is its own
abbrev pub with_listings : Bool → List ℕ → List (List ℕ) → List (List ℕ × List ℕ) → List ℕ
with_listings by_key front [] scripts = front
with_listings by_key front (own ∷ []) scripts = front
with_listings by_key front (own ∷ prelude ∷ listings) [] = front
with_listings by_key front (own ∷ prelude ∷ listings) (script ∷ scripts) =
    with_listings by_key (front ++ line_of (script_listing_of by_key script.0 own)) listings scripts

-- the line of the prelude's listing, of the prelude with which the first script runs
abbrev pub prelude_line : List (List ℕ) → List ℕ
prelude_line [] = []
prelude_line (own ∷ []) = []
prelude_line (own ∷ prelude ∷ listings) = line_of (prelude_listing_of prelude)

-- what stands before the replies: the listings of the scripts, where a job asks for them or for steps, and with steps that of the prelude
abbrev pub front_with : JobData → List (List ℕ) → List ℕ
front_with job listings =
    (if job.listing || job.steps then with_listings (row_of job.context).by_key [] listings job.scripts else []) ++ (if job.steps then prelude_line listings else [])

abbrev pub front_bytes : JobData → List ScriptCodes → List ℕ
front_bytes job codes = front_with job (listings_of codes)

-- .. and the listings of all for the report
abbrev pub front_of : Prepared → List ScriptCodes → Front
front_of p codes = record { bytes = front_bytes p.under.job codes; listings = listings_of codes }

-- ---- the input

-- a job of a context without lines, which none is that is read, would be refused
abbrev pub no_documents : Told
no_documents = refusal (job_refusal (field (codes "context")))

abbrev pub TellsOver : Option Context → Prepared → List ScriptCodes → List ℕ → Told → Type 0
TellsOver (Some context) p codes input told = TellsInput (stateless (IsReplyOf context p codes)) (front_of p codes) p.under.job.limits.input input told
TellsOver None p codes input told = told ≡ no_documents

abbrev pub TellsPrepared : Result Prepared Told → List ScriptCodes → List ℕ → Told → Type 0
TellsPrepared (Ok p) codes input told = TellsOver (context_in p.under.job) p codes input told
TellsPrepared (Err wrong) codes input told = told ≡ wrong

-- what is told of a job's file, of an input, and of the codes of the job's scripts
abbrev pub TellsRun : (List ℕ → Option (List ℕ)) → List ScriptCodes → List ℕ → List ℕ → Told → Type 0
TellsRun content codes name input told = (answer : Result Prepared Told) × PreparesJob command.Run content name answer × TellsPrepared answer codes input told

-- what is told of the bytes that were taken of the input before it failed
abbrev pub TellsRunTaken : (List ℕ → Option (List ℕ)) → List ScriptCodes → List ℕ → List ℕ → Told → Type 0
TellsRunTaken content codes name taken told =
    (p : Prepared) × PreparesJob command.Run content name (Ok p) × (context : Context) × (context_in p.under.job ≡ Some context)
    × TellsTaken (stateless (IsReplyOf context p codes)) (front_of p codes) p.under.job.limits.input taken told

-- as many bytes were taken of the input as the job allows, and one more
abbrev pub RunsPast : (List ℕ → Option (List ℕ)) → List ℕ → List ℕ → Type 0
RunsPast content name front = (p : Prepared) × PreparesJob command.Run content name (Ok p) × (length front ≡ p.under.job.limits.input + 1)
