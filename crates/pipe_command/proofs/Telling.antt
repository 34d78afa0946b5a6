-- One thing is told of a job over an input, and what is delivered of it.
use Rattle.std.proofs.Common.{◌≡◌, ◌⊎◌, ℕ, inl, inr, List, [], Option, Result, Ok, Err, refl, sym, ap, ◌∙◌, subst}
use Rattle.outer_io.specs.Front.{AppendsFront}
use Rattle.outer_io.specs.Lines.{InputLine}
use Rattle.job_commands.specs.Codes.{ScriptCodes}
use Rattle.job_commands.specs.Laws.{TextsAreAnswered, TextsAreAnsweredOnce, ProgramsEnd, ProgramsEndOnce, CodesCountOnce, ListedCodesCount}
use Rattle.job_file.specs.declared.context.JobContext.TheVariants as c
use Rattle.command_parts.specs.declared.report.Report.{Report}
use Rattle.command_parts.specs.declared.status.Status.{Status}
use Rattle.command_parts.specs.declared.status.Status.TheVariants as s
use Rattle.command_parts.specs.DeliversOver.{DeliversOver}
use Rattle.command_parts.specs.Reports.{texts_of as report_texts, ReportsBy, Reports}
use Rattle.command_parts.specs.Told.{Told}
use Rattle.document_replies.specs.Passing.{PassesAll, PassesEnd, PassesFront, PassesBy, listings_by}
use Rattle.document_replies.specs.LineRunReplies.{Talk, Front, Reply, bytes_behind, stateless, TellsInput, TellsTaken}
use Rattle.document_replies.proofs.Talks.{Follows, IsOnce, stateless_follows, stateless_once, stateless_total, input_follow, taken_follow, are_follow, input_once, input_some, tells_front}
use Rattle.pipe_job.specs.PipeDocuments.{DocData}
use Rattle.pipe_job.specs.Replies.{Answer, meaning_of, reply_to}
use Rattle.job_commands.specs.Documents.{ListsBy, ran_by}
use Rattle.job_commands.specs.Listing.{AreEachCodes, listings_of}
use Rattle.job_commands.specs.Scripts.{ArePrograms, JobProgram, RefusedScript}
use Rattle.job_commands.proofs.Jobs.{AreRead, programs_once, programs_read, programs_some}
use Rattle.pipe_command.specs.Answering.{AllAnswer}
use Rattle.pipe_command.specs.Pipelines.{PipeUnder, Piped, Pipes, PipesJob, PipesRead, pipe_under, piped_with, texts_of}
use Rattle.pipe_command.specs.Preparing.{AreJobScripts, EndsPiped, GivesReplies, codes_of, with_programs}
use Rattle.pipe_command.specs.Telling.{AreCodesBy, AreCodesIn, PipesPast, TellsPipe, TellsPipeTaken, TellsPiped, front_of, talk_of}
use Rattle.pipe_command.specs.declared.preparing.PreparedPipe.{PreparedPipe}
use Rattle.pipe_command.proofs.Answers.{answer_some, answers_once, code_means}
use Rattle.pipe_command.proofs.Finding.{under_pipe}

-- ---- a job is prepared in one way

module _ (texts : TextsAreAnsweredOnce) where
  pipes_once : (u : PipeUnder) (a b : Result Piped Told) → Pipes u a → Pipes u b → a ≡ b
  pipes_once u a b (r, is, at) (q, goes, to) = at ∙ ap (piped_with u) (programs_once texts u.under (texts_of u.pipeline.scripts) r q is goes) ∙ sym to

  read_once : (read : Result PipeUnder Told) (a b : Result Piped Told) → PipesRead read a → PipesRead read b → a ≡ b
  read_once (Ok u) a b h k = pipes_once u a b h k
  read_once (Err told) a b h k = h ∙ sym k

  pub job_once : (content : List ℕ → Option (List ℕ)) (name : List ℕ) (a b : Result Piped Told) → PipesJob content name a → PipesJob content name b → a ≡ b
  job_once content name = read_once (pipe_under content name)

module _ (texts : TextsAreAnswered) where
  read_some : (read : Result PipeUnder Told) → (answer : Result Piped Told) × PipesRead read answer
  read_some (Ok u) = let r = programs_some texts u.under (texts_of u.pipeline.scripts) in (piped_with u r.0, (r.0, r.1, refl))
  read_some (Err told) = (Err told, refl)

  pub job_some : (content : List ℕ → Option (List ℕ)) (name : List ℕ) → (answer : Result Piped Told) × PipesJob content name answer
  job_some content name = read_some (pipe_under content name)

-- what is known of a job that is prepared: it is one of a pipeline, and its programs are those of texts
pub record IsKnown (p : Piped) : Type 0 where
  pub pipe : p.of.under.job.context ≡ c.Pipe
  pub read : AreRead p.of.under p.programs

known_by : (u : PipeUnder) → u.under.job.context ≡ c.Pipe → (p : Piped) (found : Result (List JobProgram) RefusedScript) → ArePrograms u.under (texts_of u.pipeline.scripts) found → Ok p ≡ piped_with u found → IsKnown p
known_by u pipe p (Ok programs) are at =
    let same : p ≡ record { of = u; programs = programs } = cc in
    subst IsKnown (sym same) (record { pipe = pipe; read = programs_read u.under (texts_of u.pipeline.scripts) (Ok programs) are })
known_by u pipe p (Err wrong) are at = absurd cc

known_read : (read : Result PipeUnder Told) → ((u : PipeUnder) → read ≡ Ok u → u.under.job.context ≡ c.Pipe) → (p : Piped) → PipesRead read (Ok p) → IsKnown p
known_read (Ok u) pipe p (found, are, at) = known_by u (pipe u refl) p found are at
known_read (Err told) pipe p h = absurd cc

pub job_known : (content : List ℕ → Option (List ℕ)) (name : List ℕ) (p : Piped) → PipesJob content name (Ok p) → IsKnown p
job_known content name = known_read (pipe_under content name) (under_pipe content name)

-- ---- the input

-- each line has one reply
pub talk_once : (p : Piped) (answers : ℕ → DocData → Answer) → IsOnce (talk_of p answers)
talk_once p answers = stateless_once (λ (line : InputLine) (reply : Reply). reply ≡ reply_to (meaning_of answers) p.of.pipeline.processors line) (λ line a b h k. h ∙ sym k)

module _ (ends : ProgramsEndOnce) (counts : CodesCountOnce) where
  piped_once : (answer : Result Piped Told) (codes : List ScriptCodes) (input : List ℕ) (a b : Told) → TellsPiped answer codes input a → TellsPiped answer codes input b → a ≡ b
  piped_once (Err wrong) codes input a b h k = h ∙ sym k
  piped_once (Ok p) codes input a b (answers, all, h) (others, each, k) =
      let same : answers ≡ others = answers_once ends counts p codes answers others all each in
      input_once (talk_of p others) (talk_once p others) (front_of codes) p.of.under.job.limits.input input a b
      (subst (λ (f : ℕ → DocData → Answer). TellsInput (talk_of p f) (front_of codes) p.of.under.job.limits.input input a) same h) k

  pub pipe_once : TextsAreAnsweredOnce → (content : List ℕ → Option (List ℕ)) (codes : List ScriptCodes) (name input : List ℕ) (a b : Told) → TellsPipe content codes name input a
      → TellsPipe content codes name input b → a ≡ b
  pipe_once texts content codes name input a b (p, is, h) (q, goes, k) =
      piped_once q codes input a b (subst (λ (r : Result Piped Told). TellsPiped r codes input a) (job_once texts content name p q is goes) h) k

module _ (ends : ProgramsEnd) (counted : ListedCodesCount) (codes : List ScriptCodes) where
  pub some_answers : (p : Piped) → IsKnown p → AreEachCodes p.of.under p.programs codes → (answers : ℕ → DocData → Answer) × AllAnswer p codes answers
  some_answers p known are = (
    (λ place doc. (answer_some ends counted p.of.under known.pipe p.of.pipeline.scripts p.programs codes known.read are place doc).0),
    λ place doc. (answer_some ends counted p.of.under known.pipe p.of.pipeline.scripts p.programs codes known.read are place doc).1,
  )

  piped_some : (answer : Result Piped Told) → ((p : Piped) → answer ≡ Ok p → IsKnown p) → AreCodesBy answer codes → (input : List ℕ) → (told : Told) × TellsPiped answer codes input told
  piped_some (Err wrong) known are input = (wrong, refl)
  piped_some (Ok p) known are input =
      let one = some_answers p (known p refl) are in
      let told =
      input_some (talk_of p one.0) (stateless_total (λ (line : InputLine) (reply : Reply). reply ≡ reply_to (meaning_of one.0) p.of.pipeline.processors line) (λ line. (reply_to (meaning_of one.0) p.of.pipeline.processors line, refl)))
      (front_of codes) p.of.under.job.limits.input input in
      (told.0, (one.0, one.1, told.1))

  pub pipe_some : TextsAreAnswered → (content : List ℕ → Option (List ℕ)) (name input : List ℕ) → AreCodesIn content name codes → (told : Told) × TellsPipe content codes name input told
  pipe_some texts content name input are =
      let p = job_some texts content name in
      let t = piped_some p.0 (λ one is. job_known content name one (subst (PipesJob content name) is p.1)) (are p.0 p.1) input in
      (t.0, (p.0, p.1, t.1))

-- ---- what is delivered of a job that is prepared

abbrev pub PipeReports : (List ℕ → Option (List ℕ)) → List ScriptCodes → List ℕ → Report → List ℕ → Told → Type 0
PipeReports content codes name r input told = TellsPipe content codes name input told × Reports told r

abbrev pub PipeDelivers : (List ℕ → Option (List ℕ)) → List ScriptCodes → List ℕ → Report → Status → Option (List ℕ) → Option (List ℕ) → Option (List ℕ) → Option (List ℕ) → Type 0
PipeDelivers content codes name r = DeliversOver (PipeReports content codes name r) (TellsPipeTaken content codes name) (PipesPast content name)

module _ (texts : TextsAreAnsweredOnce) (ends : ProgramsEndOnce) (counts : CodesCountOnce) (some_texts : TextsAreAnswered) (some_ends : ProgramsEnd) (counted : ListedCodesCount)
    (content : List ℕ → Option (List ℕ)) (name : List ℕ) (job : PreparedPipe) (programs : List JobProgram) (is : PipesJob content name (Ok (with_programs job programs)))
    (scripts : AreJobScripts job programs) (are : AreCodesIn content name (codes_of job.scripts.items)) (r : Report) where
  abbrev codes : List ScriptCodes
  codes = codes_of job.scripts.items

  abbrev p : Piped
  p = with_programs job programs

  abbrev front : Front
  front = front_of codes

  abbrev limit : ℕ
  limit = job.read.found.job.limits.input

  abbrev Code : Talk
  Code = stateless (GivesReplies job)

  one : (answers : ℕ → DocData → Answer) × AllAnswer p codes answers
  one = some_answers some_ends counted codes p (job_known content name p is) (are (Ok p) is)

  abbrev Means : Talk
  Means = talk_of p one.0

  -- the code's replies are those of the meaning
  all_mean : Follows Code Means
  all_mean =
      stateless_follows (GivesReplies job) (λ (line : InputLine) (reply : Reply). reply ≡ reply_to (meaning_of one.0) p.of.pipeline.processors line)
      (λ line reply gives. gives (meaning_of one.0) (code_means ends counts job.read (job_known content name p is).pipe programs job.scripts.items scripts one.0 one.1))

  tells_all : (input : List ℕ) (told : Told) → TellsInput Code front limit input told → TellsPipe content codes name input told
  tells_all input told h = (Ok p, is, (one.0, one.1, input_follow Code Means all_mean front limit input told h))

  tells_taken : (taken : List ℕ) (told : Told) → TellsTaken Code front limit taken told → TellsPipeTaken content codes name taken told
  tells_taken taken told h = (p, is, one.0, one.1, taken_follow Code Means all_mean front limit taken told h)

  -- the one thing that is told of an input is that of the job
  tells_here : (input : List ℕ) (told : Told) → TellsPipe content codes name input told → TellsInput Means front limit input told
  tells_here input told (answer, goes, h) =
      let here : TellsPiped (Ok p) codes input told = subst (λ (x : Result Piped Told). TellsPiped x codes input told) (job_once texts content name answer (Ok p) goes is) h in
      subst (λ (f : ℕ → DocData → Answer). TellsInput (talk_of p f) front limit input told) (answers_once ends counts p codes here.0 one.0 here.1 one.1) here.2

  -- what stands behind the last line is the same
  ended_too : (left old new : Option (List ℕ)) (passes : PassesFront Code front limit left old new)
      → AppendsFront old new (bytes_behind front passes.replies) ⊎ PassesEnd Code front limit passes.input passes.lines passes.behind passes.replies old new
      → AppendsFront old new (bytes_behind front passes.replies) ⊎ PassesEnd Means front limit passes.input passes.lines passes.behind passes.replies old new
  ended_too left old new passes (inl h) = inl h
  ended_too left old new passes (inr e) = inr (record { within = e.within; all = e.all; last = e.last; ends = all_mean.ends passes.lines e.last e.ends; appended = e.appended })

  abbrev front_too : (left old new : Option (List ℕ)) → PassesFront Code front limit left old new → PassesFront Means front limit left old new
  front_too left old new passes = record {
    input = passes.input;
    is = passes.is;
    lines = passes.lines;
    behind = passes.behind;
    parts = passes.parts;
    replies = passes.replies;
    are = are_follow Code Means all_mean [] passes.lines passes.replies passes.are;
    appended = ended_too left old new passes passes.appended;
  }

  -- whatever is told begins with the replies to the first lines
  tells_begun : (left old new : Option (List ℕ)) (passes : PassesFront Code front limit left old new) (told : Told) → TellsPipe content codes name passes.input told → AppendsFront old new told.bytes
  tells_begun left old new passes told h =
      tells_front Means (talk_once p one.0) front limit left old new (front_too left old new passes) told (tells_here passes.input told h)

  -- a run that came to the end of its input has the told report
  all_reports : (left old new : Option (List ℕ)) (h : PassesAll Code front limit (ran_by r) left old new) → report_texts r ≡ listings_by r.status front
      → (report_texts r ≡ h.told.listings) × (r.steps ≡ h.told.steps)
  all_reports left old new h listed = (listed ∙ sym h.listings, sym h.steps)

  passes_deliver : (status : Status) (left left' old new : Option (List ℕ)) → r.status ≡ status → ListsBy status (listings_of codes) r
      → PassesBy status Code front limit (ran_by r) left left' old new → PipeDelivers content codes name r status left left' old new
  passes_deliver s.Done left left' old new at lists (h, end) = (
    h.input,
    h.is,
    h.told,
    (
      tells_all h.input h.told h.tells,
      subst (λ (t : Status). ReportsBy t h.told r) (sym at) (all_reports left old new h (lists ∙ sym (ap (λ (t : Status). listings_by t front) at))),
    ),
    h.ends ∙ at,
    h.appended,
  )
  passes_deliver s.SomeErrors left left' old new at lists (h, end) = (
    h.input,
    h.is,
    h.told,
    (
      tells_all h.input h.told h.tells,
      subst (λ (t : Status). ReportsBy t h.told r) (sym at) (all_reports left old new h (lists ∙ sym (ap (λ (t : Status). listings_by t front) at))),
    ),
    h.ends ∙ at,
    h.appended,
  )
  passes_deliver s.InputLong left left' old new at quiet (h, more) = (
    (
      h.input,
      h.is,
      h.told,
      (tells_all h.input h.told h.tells, subst (λ (t : Status). ReportsBy t h.told r) (sym at) quiet),
      h.ends ∙ at,
      h.appended,
    ),
    (more.front, more.consumed, (p, is, more.past)),
  )
  passes_deliver s.ReadFault left left' old new at quiet h = (h.taken, h.consumed, h.told, tells_taken h.taken h.told h.tells, h.appended)
  passes_deliver s.WriteFault left left' old new at quiet h =
      let t = pipe_some some_ends counted codes some_texts content name h.input are in
      (h.input, h.is, t.0, (t.1, subst (λ (x : Status). ReportsBy x t.0 r) (sym at) quiet), tells_begun left old new h t.0 t.1)
  passes_deliver s.NoMemory left left' old new at quiet h = (h.input, h.is, λ told k. tells_begun left old new h told k.0)
  passes_deliver s.Refused left left' old new at quiet h = absurd h
  passes_deliver s.Usage left left' old new at quiet h = absurd h
  passes_deliver s.FileFault left left' old new at quiet h = absurd h
  passes_deliver s.FileAbsent left left' old new at quiet h = absurd h
  passes_deliver s.FileLong left left' old new at quiet h = absurd h

  pub prepared_delivers : (left left' old new : Option (List ℕ)) → EndsPiped job r left left' old new → PipeDelivers content codes name r r.status left left' old new
  prepared_delivers left left' old new (lists, passes) = passes_deliver r.status left left' old new refl lists passes
