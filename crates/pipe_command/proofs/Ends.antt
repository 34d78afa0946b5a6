-- By which statuses a run ends, and which codes a job has.
use Rattle.std.proofs.Common.{◌≡◌, ◌≢◌, ℕ, ◌⊎◌, inl, inr, List, [], ◌∷◌, ◌++◌, ◌+◌, ◌<◌, ◌≤◌, Option, IfSome, Result, Ok, Err, drop, get_or, length, append-nil, append_assoc, refl, sym, ap, ◌∙◌, subst, string_bytes}
use Rattle.std.proofs.lemmas.List.{drop_all}
use Rattle.std.specs.Io.KnownBytes.{IsAtEnd}
use Rattle.job_commands.specs.Codes.{ScriptCodes, script_codes}
use Rattle.job_commands.specs.Laws.{TextsAreAnsweredOnce, CodesAreListed, PreludeIsListed}
use Rattle.command_parts.specs.declared.report.Report.{Report}
use Rattle.command_parts.specs.declared.status.Status.{Status}
use Rattle.command_parts.specs.declared.status.Status.TheVariants as s
use Rattle.command_parts.specs.declared.stop.Stop.{Stop}
use Rattle.command_parts.specs.declared.stop.Stop.TheVariants as stop
use Rattle.command_parts.specs.Before.{EndsBefore}
use Rattle.command_parts.specs.Ending.{EndsSo}
use Rattle.command_parts.specs.Ends.{LeavesInput}
use Rattle.command_parts.specs.Reports.{IsQuiet}
use Rattle.command_parts.specs.Stops.{stop_told}
use Rattle.command_parts.specs.Told.{Told, silent, uncounted}
use Rattle.command_parts.proofs.Delivering.{nothing}
use Rattle.document_replies.specs.Passing.{Passes, PassesBy}
use Rattle.document_replies.specs.LineRunReplies.{Front, Reply, stateless}
use Rattle.document_replies.specs.Replies.{Ended}
use Rattle.document_replies.specs.line_run_declared.ran.Ran.{Ran}
use Rattle.job_loading.specs.Seen.{read_view}
use Rattle.object_heap.specs.Store.{Store}
use Rattle.object_values.specs.declared.value.Value.{Value}
use Rattle.outer_io.specs.Lines.{InputLine}
use Rattle.pipe_job.specs.Code.{Mean, TakeAll}
use Rattle.pipe_job.specs.Replies.{reply_to}
use Rattle.pipe_job.specs.Running.{Meaning}
use Rattle.pipe_job.specs.declared.job.PipeJob.{PipeJob}
use Rattle.pipe_job.specs.ingest_pipe_declared.processors.Pipeline.{Pipeline}
use Rattle.job_commands.specs.Preparing.{EndsAsItsProgram, TakesThem}
use Rattle.pipe_job.specs.declared.answers.PipedScript.{PipedScript}
use Rattle.pipe_job.specs.ingest_pipe_declared.scripts.PipeScript.{PipeScript}
use Rattle.job_commands.specs.Contexts.{types_of}
use Rattle.job_commands.specs.Documents.{ListsBy, ran_by}
use Rattle.job_commands.specs.Listing.{AreEachCodes, listings_of}
use Rattle.job_commands.specs.Scripts.{JobProgram}
use Rattle.job_commands.specs.declared.script.LimitedScript.{LimitedScript}
use Rattle.job_commands.proofs.Listings.{next_item}
use Rattle.job_commands.proofs.RunEnds.{passes_nothing, passes_report}
use Rattle.job_commands.proofs.Statuses.{passes_leave, passes_with, quiet_lists}
use Rattle.pipe_command.specs.Pipelines.{Piped, PipesJob}
use Rattle.pipe_command.specs.Preparing.{AreJobScripts, ArePiped, EndsPiped, GivesReplies, IsReady, codes_of, with_programs}
use Rattle.pipe_command.specs.Telling.{AreCodesBy, AreCodesIn, front_of}
use Rattle.pipe_command.specs.declared.preparing.PreparedPipe.{PreparedPipe}
use Rattle.pipe_command.specs.declared.reading.ReadPipe.{ReadPipe}
use Rattle.pipe_command.proofs.Telling.{job_once}

-- ---- codes

module _ (listed : CodesAreListed) (prelude : PreludeIsListed) where
  each_codes : (read : ReadPipe) (scripts : List PipeScript) (programs : List JobProgram) (xs : List (PipedScript LimitedScript)) → ArePiped read scripts programs xs
      → AreEachCodes (read_view read.found) programs (codes_of xs)
  each_codes read [] [] [] are = tt
  each_codes read [] [] (x ∷ xs) are = absurd are
  each_codes read [] (program ∷ programs) xs are = absurd are
  each_codes read (script ∷ scripts) [] xs are = absurd are
  each_codes read (script ∷ scripts) (program ∷ programs) [] are = absurd are
  each_codes read (script ∷ scripts) (program ∷ programs) (x ∷ xs) are = (
    record {
      script = listed (read_view read.found).allow (types_of read.found.job.context program.key) program.program x.script.script are.0.stands.of are.0.stands.sound;
      prelude = prelude (read_view read.found).allow program.program x.script.script.executable.code;
    },
    each_codes read scripts programs xs are.1,
  )

  pub prepared_codes : TextsAreAnsweredOnce → (content : List ℕ → Option (List ℕ)) (name : List ℕ) (job : PreparedPipe) (programs : List JobProgram) → PipesJob content name (Ok (with_programs job programs))
      → AreJobScripts job programs → AreCodesIn content name (codes_of job.scripts.items)
  prepared_codes texts content name job programs is scripts = λ answer goes.
      subst (λ (r : Result Piped Told). AreCodesBy r (codes_of job.scripts.items)) (job_once texts content name (Ok (with_programs job programs)) answer is goes)
      (each_codes job.read job.read.pipeline.scripts programs job.scripts.items scripts)

before_codes : (status : Status) (old new : Option (List ℕ)) (t : Status) → EndsBefore t old old → status ≡ t → new ≡ old → EndsBefore status old new
before_codes status old new t before is same =
    subst (λ (n : Option (List ℕ)). EndsBefore status old n) (sym same) (subst (λ (x : Status). EndsBefore x old old) (sym is) before)

module _ (texts : TextsAreAnsweredOnce) (content : List ℕ → Option (List ℕ)) (name : List ℕ) where
  refused_codes : (told : Told) → PipesJob content name (Err told) → (codes : List ScriptCodes) → AreCodesIn content name codes
  refused_codes told is codes = λ answer goes. subst (λ (r : Result Piped Told). AreCodesBy r codes) (job_once texts content name (Err told) answer is goes) tt

  pub stop_codes : (codes : List ScriptCodes) (end : Stop) (status : Status) (old new : Option (List ℕ)) → IfSome (stop_told end) (λ told. PipesJob content name (Err told))
      → EndsSo end status old new → AreCodesIn content name codes ⊎ EndsBefore status old new
  stop_codes codes (stop.Refused line) status old new is ends = inl (refused_codes (uncounted s.Refused (string_bytes line)) is codes)
  stop_codes codes stop.FileAbsent status old new is ends = inl (refused_codes (silent s.FileAbsent) is codes)
  stop_codes codes stop.FileLong status old new is ends = inl (refused_codes (silent s.FileLong) is codes)
  stop_codes codes stop.FileFault status old new is (ends, same) = inr (before_codes status old new s.FileFault (nothing old) ends same)
  stop_codes codes stop.NoMemory status old new is (ends, same) = inr (before_codes status old new s.NoMemory (nothing old) ends same)

-- ---- listings

abbrev pub ListsOn : List (PipedScript LimitedScript) → List (PipedScript LimitedScript) → List (List ℕ) → Type 0
ListsOn all left now = now ++ listings_of (codes_of left) ≡ listings_of (codes_of all)

pub lists_first : (all : List (PipedScript LimitedScript)) (now : List (List ℕ)) → now ≡ [] → ListsOn all all now
lists_first all now none = ap (λ (l : List (List ℕ)). l ++ listings_of (codes_of all)) none

pub lists_next : (all : List (PipedScript LimitedScript)) (now after : List (List ℕ)) (at : ℕ) (x : PipedScript LimitedScript) → at < length all → x ≡ get_or all at x → ListsOn all (drop at all) now
    → after ≡ now ++ listings_of (script_codes x.script.script ∷ []) → ListsOn all (drop (at + 1) all) after
lists_next all now after at x within item is added =
    let rest = listings_of (codes_of (drop (at + 1) all)) in
    ap (λ (l : List (List ℕ)). l ++ rest) added
    ∙ (append_assoc now (listings_of (script_codes x.script.script ∷ [])) rest
    ∙ (ap (λ (l : List (PipedScript LimitedScript)). now ++ listings_of (codes_of l)) (sym (next_item all at x within item)) ∙ is))

pub lists_all : (all : List (PipedScript LimitedScript)) (now : List (List ℕ)) (at : ℕ) → length all ≤ at → ListsOn all (drop at all) now → now ≡ listings_of (codes_of all)
lists_all all now at past is =
    sym (append-nil now) ∙ (ap (λ (l : List (PipedScript LimitedScript)). now ++ listings_of (codes_of l)) (sym (drop_all at all past)) ∙ is)

-- ---- statuses

quiet_listed : (status : Status) (listings : List (List ℕ)) (r : Report) → status ≢ s.Done → status ≢ s.SomeErrors → ListsBy status listings r → IsQuiet r
quiet_listed s.Done listings r done errors h = absurd (done refl)
quiet_listed s.SomeErrors listings r done errors h = absurd (errors refl)
quiet_listed s.Refused listings r done errors h = h
quiet_listed s.ReadFault listings r done errors h = h
quiet_listed s.WriteFault listings r done errors h = h
quiet_listed s.NoMemory listings r done errors h = h
quiet_listed s.InputLong listings r done errors h = h
quiet_listed s.Usage listings r done errors h = h
quiet_listed s.FileFault listings r done errors h = h
quiet_listed s.FileAbsent listings r done errors h = h
quiet_listed s.FileLong listings r done errors h = h

no_done : s.NoMemory ≡ s.Done → ⊥
no_done is = cc

no_errors : s.NoMemory ≡ s.SomeErrors → ⊥
no_errors is = cc

-- want of memory before the first line
pub ends_nothing : (job : PreparedPipe) (r : Report) (left old : Option (List ℕ)) → r.status ≡ s.NoMemory → IsQuiet r → EndsPiped job r left left old old
ends_nothing job r left old at quiet = (
  quiet_lists (listings_of (codes_of job.scripts.items)) r (λ is. no_done (sym at ∙ is)) (λ is. no_errors (sym at ∙ is)) quiet,
  passes_nothing (stateless (GivesReplies job)) (front_of (codes_of job.scripts.items)) job.read.found.job.limits.input (ran_by r) left old at,
)

module _ (job : PreparedPipe) (r : Report) (left left' old new : Option (List ℕ)) (h : EndsPiped job r left left' old new) where
  ended_with : (status : Status) → r.status ≡ status → PassesBy status (stateless (GivesReplies job)) (front_of (codes_of job.scripts.items)) job.read.found.job.limits.input (ran_by r) left left' old new
  ended_with status is = passes_with (stateless (GivesReplies job)) (front_of (codes_of job.scripts.items)) job.read.found.job.limits.input (ran_by r) left left' old new status is h.1

  pub piped_usage : r.status ≢ s.Usage
  piped_usage is = ended_with s.Usage is

  pub piped_file : r.status ≢ s.FileFault
  piped_file is = ended_with s.FileFault is

  pub piped_leaves : LeavesInput r.status → ⊥
  piped_leaves leaves = passes_leave (stateless (GivesReplies job)) (front_of (codes_of job.scripts.items)) job.read.found.job.limits.input (ran_by r) left left' old new h.1 leaves

  -- with status 0 or 1 the input was read to its end
  pub piped_ended : (r.status ≡ s.Done) ⊎ (r.status ≡ s.SomeErrors) → IsAtEnd left'
  piped_ended (inl is) = (ended_with s.Done is).1
  piped_ended (inr is) = (ended_with s.SomeErrors is).1

  -- with every other the report is quiet
  pub piped_quiet : r.status ≢ s.Done → r.status ≢ s.SomeErrors → IsQuiet r
  piped_quiet done errors = quiet_listed r.status (listings_of (codes_of job.scripts.items)) r done errors h.0

-- ---- what replies to the lines

module _ (job : PreparedPipe) (d : PipeJob LimitedScript) (pipeline : d.pipeline ≡ job.read.pipeline) (scripts : d.scripts.items ≡ job.scripts.items) (room : d.room ≡ job.read.found.job.limits.room) where
  pub takes_so : IsReady job → TakeAll (λ (s : LimitedScript) (args : List Value). TakesThem s args) d.scripts.items d.room
  takes_so ready =
      subst (λ (n : ℕ). TakeAll (λ (s : LimitedScript) (args : List Value). TakesThem s args) d.scripts.items n) (sym room)
      (subst (λ (xs : List (PipedScript LimitedScript)). TakeAll (λ (s : LimitedScript) (args : List Value). TakesThem s args) xs job.read.found.job.limits.room) (sym scripts) ready)

  -- what it gives
  abbrev pub Gives : Pipeline → List (PipedScript LimitedScript) → ℕ → InputLine → Reply → Type 0
  Gives piped xs n line reply =
      (m : Meaning) → Mean (λ (s : LimitedScript) (store : Store) (args : List Value) (ran : Ended). EndsAsItsProgram s store args ran) xs n m → reply ≡ reply_to m piped.processors line

  pub job_passes : (ran : Ran) (r : Report) (left left' old new : Option (List ℕ)) → ran_by r ≡ ran
      → ((before : Front) → before.bytes ≡ [] → Passes (stateless (Gives d.pipeline d.scripts.items d.room)) before job.read.found.job.limits.input ran left left' old new)
      → Passes (stateless (GivesReplies job)) (front_of (codes_of job.scripts.items)) job.read.found.job.limits.input (ran_by r) left left' old new
  job_passes ran r left left' old new same passes =
      let front = front_of (codes_of job.scripts.items) in
      let limit = job.read.found.job.limits.input in
      passes_report (stateless (GivesReplies job)) front limit ran r left left' old new same
      (subst (λ (n : ℕ). Passes (stateless (Gives job.read.pipeline job.scripts.items n)) front limit ran left left' old new) room
      (subst (λ (xs : List (PipedScript LimitedScript)). Passes (stateless (Gives job.read.pipeline xs d.room)) front limit ran left left' old new) scripts
      (subst (λ (piped : Pipeline). Passes (stateless (Gives piped d.scripts.items d.room)) front limit ran left left' old new) pipeline (passes front refl))))
