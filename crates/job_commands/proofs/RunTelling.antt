-- One thing is told of a run over an input, and what is delivered of it.
use Rattle.std.proofs.Common.{◌≡◌, ℕ, ◌⊎◌, inl, inr, List, [], Option, Some, None, Result, Ok, Err, refl, sym, ap, ◌∙◌, subst}
use Rattle.outer_io.specs.Front.{AppendsFront}
use Rattle.script_engine.specs.Codes.{ScriptCodes}
use Rattle.script_engine.specs.Laws.{TextsAreAnswered, TextsAreAnsweredOnce, ProgramsEnd, ProgramsEndOnce, CodesCountOnce, ListedCodesCount}
use Rattle.job_file.specs.Answers.{job_view}
use Rattle.job_file.specs.declared.context.JobCommand.TheVariants as command
use Rattle.command_parts.specs.declared.report.Report.{Report}
use Rattle.command_parts.specs.declared.status.Status.{Status}
use Rattle.command_parts.specs.declared.status.Status.TheVariants as s
use Rattle.command_parts.specs.DeliversOver.{DeliversOver}
use Rattle.command_parts.specs.Reports.{texts_of, IsQuiet, ReportsBy, Reports}
use Rattle.command_parts.specs.Told.{Told}
use Rattle.command_parts.specs.Writing.{Writes}
use Rattle.command_parts.proofs.Delivering.{writes_deliver}
use Rattle.command_parts.proofs.Reporting.{uncounted_reports}
use Rattle.document_replies.specs.Passing.{PassesAll, PassesEnd, PassesFront, PassesBy, listings_by}
use Rattle.document_replies.specs.LineRunReplies.{Talk, stateless, bytes_behind, TellsInput, TellsTaken}
use Rattle.document_replies.specs.Replies.{Context}
use Rattle.document_replies.proofs.Talks.{Follows, stateless_follows, stateless_once, stateless_total, input_follow, taken_follow, are_follow, input_once, input_some, tells_front}
use Rattle.job_loading.specs.Loading.{JobUnder, job_under}
use Rattle.job_commands.specs.Contexts.{context_in}
use Rattle.job_commands.specs.Documents.{GivesReplies, front_for, ran_by, ListsBy, EndsBy, EndsPrepared}
use Rattle.job_commands.specs.Listing.{AreCodesOf, AreCodesBy, AreCodesIn, listings_of}
use Rattle.job_commands.specs.Preparing.{AreJobScripts, with_programs, codes_of}
use Rattle.job_commands.specs.Running.{IsReplyOf, front_of, no_documents, TellsOver, TellsPrepared, TellsRun, TellsRunTaken, RunsPast}
use Rattle.job_commands.specs.Scripts.{JobPrograms, Prepared, PreparesRead, PreparesJob}
use Rattle.job_commands.specs.declared.preparing.PreparedJob.{PreparedJob}
use Rattle.job_commands.proofs.Jobs.{HasProgram, job_once, job_some, program_read}
use Rattle.job_commands.proofs.Replies.{gives_reply, reply_once, reply_some}

-- ---- the input

module _ (ends : ProgramsEndOnce) (counts : CodesCountOnce) where
  over_once : (context : Option Context) (p : Prepared) (codes : List ScriptCodes) (input : List ℕ) (a b : Told) → TellsOver context p codes input a → TellsOver context p codes input b → a ≡ b
  over_once None p codes input a b h k = h ∙ sym k
  over_once (Some context) p codes input a b h k =
      input_once (stateless (IsReplyOf context p codes)) (stateless_once (IsReplyOf context p codes) (reply_once ends counts p codes context)) (front_of p codes) p.under.job.limits.input input a b h k

  prepared_once : (answer : Result Prepared Told) (codes : List ScriptCodes) (input : List ℕ) (a b : Told) → TellsPrepared answer codes input a → TellsPrepared answer codes input b → a ≡ b
  prepared_once (Ok p) codes input a b h k = over_once (context_in p.under.job) p codes input a b h k
  prepared_once (Err wrong) codes input a b h k = h ∙ sym k

  pub run_once : TextsAreAnsweredOnce → (content : List ℕ → Option (List ℕ)) (codes : List ScriptCodes) (name input : List ℕ) (a b : Told) → TellsRun content codes name input a
      → TellsRun content codes name input b → a ≡ b
  run_once texts content codes name input a b (p, is, h) (q, goes, k) =
      prepared_once q codes input a b (subst (λ (r : Result Prepared Told). TellsPrepared r codes input a) (job_once texts command.Run content name p q is goes) h) k

module _ (ends : ProgramsEnd) (counted : ListedCodesCount) (codes : List ScriptCodes) where
  over_some : (context : Option Context) (p : Prepared) → context_in p.under.job ≡ context → HasProgram p → AreCodesOf p codes
      → (input : List ℕ) → (told : Told) × TellsOver context p codes input told
  over_some None p of is are input = (no_documents, refl)
  over_some (Some context) p of is are input =
      input_some (stateless (IsReplyOf context p codes)) (stateless_total (IsReplyOf context p codes) (reply_some ends counted context p codes of is are)) (front_of p codes) p.under.job.limits.input input

  prepared_some : (read : Result JobUnder Told) (answer : Result Prepared Told) → PreparesRead read answer → AreCodesBy answer codes → (input : List ℕ)
      → (told : Told) × TellsPrepared answer codes input told
  prepared_some read (Ok p) h are input = over_some (context_in p.under.job) p refl (program_read read p h) are input
  prepared_some read (Err wrong) h are input = (wrong, refl)

  pub run_some : TextsAreAnswered → (content : List ℕ → Option (List ℕ)) (name input : List ℕ) → AreCodesIn command.Run content name codes → (told : Told) × TellsRun content codes name input told
  run_some texts content name input are =
      let p = job_some texts command.Run content name in
      let t = prepared_some (job_under command.Run content name) p.0 p.1 (are p.0 p.1) input in
      (t.0, (p.0, p.1, t.1))

-- ---- what is delivered of a job that is prepared

-- what is told of a run, and its report
abbrev pub RunReports : (List ℕ → Option (List ℕ)) → List ScriptCodes → List ℕ → Report → List ℕ → Told → Type 0
RunReports content codes name r input told = TellsRun content codes name input told × Reports told r

-- what is delivered of it
abbrev pub RunDelivers : (List ℕ → Option (List ℕ)) → List ScriptCodes → List ℕ → Report → Status → Option (List ℕ) → Option (List ℕ) → Option (List ℕ) → Option (List ℕ) → Type 0
RunDelivers content codes name r = DeliversOver (RunReports content codes name r) (TellsRunTaken content codes name) (RunsPast content name)

module _ (texts : TextsAreAnsweredOnce) (ends : ProgramsEndOnce) (counts : CodesCountOnce) (some_texts : TextsAreAnswered) (some_ends : ProgramsEnd) (counted : ListedCodesCount)
    (content : List ℕ → Option (List ℕ)) (name : List ℕ) (job : PreparedJob) (programs : JobPrograms) (is : PreparesJob command.Run content name (Ok (with_programs job programs)))
    (scripts : AreJobScripts job programs) (are : AreCodesIn command.Run content name (codes_of job.scripts)) (r : Report) where
  abbrev codes : List ScriptCodes
  codes = codes_of job.scripts

  -- the one thing that is told of an input is that of the job
  tells_here : (context : Option Context) (input : List ℕ) (told : Told) → context_in (job_view job.found.job) ≡ context → TellsRun content codes name input told
      → TellsOver context (with_programs job programs) codes input told
  tells_here context input told of (answer, goes, h) =
      subst (λ (k : Option Context). TellsOver k (with_programs job programs) codes input told) of
      (subst (λ (r : Result Prepared Told). TellsPrepared r codes input told) (job_once texts command.Run content name answer (Ok (with_programs job programs)) goes is) h)

  tells_run : (context : Option Context) (input : List ℕ) (told : Told) → context_in (job_view job.found.job) ≡ context → TellsOver context (with_programs job programs) codes input told
      → TellsRun content codes name input told
  tells_run context input told of h =
      (Ok (with_programs job programs), is, subst (λ (k : Option Context). TellsOver k (with_programs job programs) codes input told) (sym of) h)

  module _ (context : Context) (of : context_in (job_view job.found.job) ≡ Some context) where
    abbrev limit : ℕ
    limit = job.found.job.limits.input

    abbrev Gives : Talk
    Gives = stateless (GivesReplies context job)

    abbrev Means : Talk
    Means = stateless (IsReplyOf context (with_programs job programs) codes)

    all_mean : Follows Gives Means
    all_mean = stateless_follows (GivesReplies context job) (IsReplyOf context (with_programs job programs) codes) (gives_reply job programs context scripts of)

    tells_all : (input : List ℕ) (told : Told) → TellsInput Gives (front_for job) limit input told → TellsRun content codes name input told
    tells_all input told h = tells_run (Some context) input told of (input_follow Gives Means all_mean (front_for job) limit input told h)

    tells_taken : (taken : List ℕ) (told : Told) → TellsTaken Gives (front_for job) limit taken told → TellsRunTaken content codes name taken told
    tells_taken taken told h = (with_programs job programs, is, context, of, taken_follow Gives Means all_mean (front_for job) limit taken told h)

    ended_too : (left old new : Option (List ℕ)) (passes : PassesFront Gives (front_for job) limit left old new)
        → AppendsFront old new (bytes_behind (front_for job) passes.replies) ⊎ PassesEnd Gives (front_for job) limit passes.input passes.lines passes.behind passes.replies old new
        → AppendsFront old new (bytes_behind (front_for job) passes.replies) ⊎ PassesEnd Means (front_for job) limit passes.input passes.lines passes.behind passes.replies old new
    ended_too left old new passes (inl h) = inl h
    ended_too left old new passes (inr e) = inr (record { within = e.within; all = e.all; last = e.last; ends = e.ends; appended = e.appended })

    abbrev front_too : (left old new : Option (List ℕ)) → PassesFront Gives (front_for job) limit left old new → PassesFront Means (front_for job) limit left old new
    front_too left old new passes = record {
      input = passes.input;
      is = passes.is;
      lines = passes.lines;
      behind = passes.behind;
      parts = passes.parts;
      replies = passes.replies;
      are = are_follow Gives Means all_mean [] passes.lines passes.replies passes.are;
      appended = ended_too left old new passes passes.appended;
    }

    -- whatever is told begins with the front and the replies to the first lines
    tells_begun : (left old new : Option (List ℕ)) (passes : PassesFront Gives (front_for job) limit left old new) (told : Told) → TellsRun content codes name passes.input told
        → AppendsFront old new told.bytes
    tells_begun left old new passes told h =
        tells_front Means (stateless_once (IsReplyOf context (with_programs job programs) codes) (reply_once ends counts (with_programs job programs) codes context)) (front_for job) limit left old new
        (front_too left old new passes) told (tells_here (Some context) passes.input told of h)

    -- a run that came to the end of its input has the told report
    all_reports : (left old new : Option (List ℕ)) (h : PassesAll Gives (front_for job) limit (ran_by r) left old new) → texts_of r ≡ listings_by r.status (front_for job)
        → (texts_of r ≡ h.told.listings) × (r.steps ≡ h.told.steps)
    all_reports left old new h texts = (texts ∙ sym h.listings, sym h.steps)

    passes_deliver : (status : Status) (left left' old new : Option (List ℕ)) → r.status ≡ status → ListsBy status (listings_of codes) r
        → PassesBy status Gives (front_for job) limit (ran_by r) left left' old new → RunDelivers content codes name r status left left' old new
    passes_deliver s.Done left left' old new at lists (h, end) = (
      h.input,
      h.is,
      h.told,
      (
        tells_all h.input h.told h.tells,
        subst (λ (t : Status). ReportsBy t h.told r) (sym at) (all_reports left old new h (lists ∙ sym (ap (λ (t : Status). listings_by t (front_for job)) at))),
      ),
      h.ends ∙ at,
      h.appended,
    )
    passes_deliver s.SomeErrors left left' old new at lists (h, end) = (
      h.input,
      h.is,
      h.told,
      (
        tells_all h.input h.told h.tells,
        subst (λ (t : Status). ReportsBy t h.told r) (sym at) (all_reports left old new h (lists ∙ sym (ap (λ (t : Status). listings_by t (front_for job)) at))),
      ),
      h.ends ∙ at,
      h.appended,
    )
    passes_deliver s.InputLong left left' old new at quiet (h, more) = (
      (
        h.input,
        h.is,
        h.told,
        (tells_all h.input h.told h.tells, subst (λ (t : Status). ReportsBy t h.told r) (sym at) quiet),
        h.ends ∙ at,
        h.appended,
      ),
      (more.front, more.consumed, (with_programs job programs, is, more.past)),
    )
    passes_deliver s.ReadFault left left' old new at quiet h = (h.taken, h.consumed, h.told, tells_taken h.taken h.told h.tells, h.appended)
    passes_deliver s.WriteFault left left' old new at quiet h =
        let t = run_some some_ends counted codes some_texts content name h.input are in
        (h.input, h.is, t.0, (t.1, subst (λ (x : Status). ReportsBy x t.0 r) (sym at) quiet), tells_begun left old new h t.0 t.1)
    passes_deliver s.NoMemory left left' old new at quiet h = (h.input, h.is, λ told k. tells_begun left old new h told k.0)
    passes_deliver s.Refused left left' old new at quiet h = absurd h
    passes_deliver s.Usage left left' old new at quiet h = absurd h
    passes_deliver s.FileFault left left' old new at quiet h = absurd h
    passes_deliver s.FileAbsent left left' old new at quiet h = absurd h
    passes_deliver s.FileLong left left' old new at quiet h = absurd h

  -- no documents
  none_deliver : (left left' old new : Option (List ℕ)) → context_in (job_view job.found.job) ≡ None → IsQuiet r → Writes no_documents r.status old new
      → RunDelivers content codes name r r.status left left' old new
  none_deliver left left' old new of quiet =
      writes_deliver (RunReports content codes name r) (TellsRunTaken content codes name) (RunsPast content name) no_documents
      (λ input. (tells_run None input no_documents of refl, uncounted_reports no_documents r quiet refl refl)) left left' old new (λ input other k. sym (tells_here None input other of k.0)) r.status tt

  by_context : (context : Option Context) → context_in (job_view job.found.job) ≡ context → (left left' old new : Option (List ℕ)) → EndsBy context job r left left' old new
      → RunDelivers content codes name r r.status left left' old new
  by_context (Some context) of left left' old new (lists, passes) = passes_deliver context of r.status left left' old new refl lists passes
  by_context None of left left' old new (quiet, h) = none_deliver left left' old new of quiet h

  pub prepared_delivers : (left left' old new : Option (List ℕ)) → EndsPrepared job r left left' old new → RunDelivers content codes name r r.status left left' old new
  prepared_delivers = by_context (context_in (job_view job.found.job)) refl
