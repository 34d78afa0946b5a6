-- By which statuses a run over an input ends.
use Rattle.std.proofs.Common.{◌≡◌, ◌≢◌, ℕ, List, Option, Some, None, inl, inr, ◌⊎◌, refl, sym, subst}
use Rattle.std.specs.Io.KnownBytes.{IsAtEnd}
use Rattle.job_file.specs.Answers.{job_view}
use Rattle.command_parts.specs.declared.report.Report.{Report}
use Rattle.command_parts.specs.declared.status.Status.{Status}
use Rattle.command_parts.specs.declared.status.Status.TheVariants as s
use Rattle.command_parts.specs.Ends.{LeavesInput}
use Rattle.command_parts.specs.Reports.{IsQuiet}
use Rattle.command_parts.specs.Writing.{Writes}
use Rattle.command_parts.proofs.Statuses.{IsStopped, stopped_ended}
use Rattle.document_replies.specs.line_run_declared.ran.Ran.{Ran}
use Rattle.document_replies.specs.Passing.{Passes, PassesBy}
use Rattle.document_replies.specs.LineRunReplies.{Front, Talk, stateless}
use Rattle.document_replies.specs.Replies.{Context}
use Rattle.job_commands.specs.Contexts.{context_in}
use Rattle.job_commands.specs.Documents.{EndsBy, EndsPrepared, GivesReplies, Lists, ListsBy, front_for, ran_by}
use Rattle.job_commands.specs.Listing.{listings_of}
use Rattle.job_commands.specs.Preparing.{codes_of}
use Rattle.job_commands.specs.Running.{no_documents}
use Rattle.job_commands.specs.declared.preparing.PreparedJob.{PreparedJob}

-- ---- reports

quiet_listed : (status : Status) (listings : List (List ℕ)) (r : Report) → status ≢ s.Done → status ≢ s.SomeErrors → ListsBy status listings r → IsQuiet r
quiet_listed s.Done listings r done errors h = absurd (done refl)
quiet_listed s.SomeErrors listings r done errors h = absurd (errors refl)
quiet_listed s.Refused listings r done errors h = h
quiet_listed s.ReadFault listings r done errors h = h
quiet_listed s.WriteFault listings r done errors h = h
quiet_listed s.NoMemory listings r done errors h = h
quiet_listed s.InputLong listings r done errors h = h
quiet_listed s.Usage listings r done errors h = h
quiet_listed s.FileFault listings r done errors h = h
quiet_listed s.FileAbsent listings r done errors h = h
quiet_listed s.FileLong listings r done errors h = h

lists_quiet : (listings : List (List ℕ)) (r : Report) → r.status ≢ s.Done → r.status ≢ s.SomeErrors → Lists listings r → IsQuiet r
lists_quiet listings r = quiet_listed r.status listings r

listed_quiet : (status : Status) (listings : List (List ℕ)) (r : Report) → status ≢ s.Done → status ≢ s.SomeErrors → IsQuiet r → ListsBy status listings r
listed_quiet s.Done listings r done errors h = absurd (done refl)
listed_quiet s.SomeErrors listings r done errors h = absurd (errors refl)
listed_quiet s.Refused listings r done errors h = h
listed_quiet s.ReadFault listings r done errors h = h
listed_quiet s.WriteFault listings r done errors h = h
listed_quiet s.NoMemory listings r done errors h = h
listed_quiet s.InputLong listings r done errors h = h
listed_quiet s.Usage listings r done errors h = h
listed_quiet s.FileFault listings r done errors h = h
listed_quiet s.FileAbsent listings r done errors h = h
listed_quiet s.FileLong listings r done errors h = h

-- a quiet report lists nothing
pub quiet_lists : (listings : List (List ℕ)) (r : Report) → r.status ≢ s.Done → r.status ≢ s.SomeErrors → IsQuiet r → Lists listings r
quiet_lists listings r = listed_quiet r.status listings r

-- ---- those of a run over an input

module _ (talk : Talk) (front : Front) (limit : ℕ) (ran : Ran) (left left' old new : Option (List ℕ)) where
  leaves_by : (status : Status) → PassesBy status talk front limit ran left left' old new → LeavesInput status → ⊥
  leaves_by s.Done h k = k
  leaves_by s.SomeErrors h k = k
  leaves_by s.Refused h k = h
  leaves_by s.ReadFault h k = k
  leaves_by s.WriteFault h k = k
  leaves_by s.NoMemory h k = k
  leaves_by s.InputLong h k = k
  leaves_by s.Usage h k = h
  leaves_by s.FileFault h k = h
  leaves_by s.FileAbsent h k = h
  leaves_by s.FileLong h k = h

  pub passes_leave : Passes talk front limit ran left left' old new → LeavesInput ran.status → ⊥
  passes_leave = leaves_by ran.status

  -- with a status
  pub passes_with : (status : Status) → ran.status ≡ status → Passes talk front limit ran left left' old new → PassesBy status talk front limit ran left left' old new
  passes_with status is h = subst (λ (t : Status). PassesBy t talk front limit ran left left' old new) is h

  pub passes_file : Passes talk front limit ran left left' old new → ran.status ≢ s.FileFault
  passes_file h is = passes_with s.FileFault is h

-- .. or where there are no documents
none_stopped : (status : Status) (old new : Option (List ℕ)) → Writes no_documents status old new → IsStopped status
none_stopped status old new (inl (is, appended)) = subst IsStopped (sym is) tt
none_stopped status old new (inr (inl is, front)) = subst IsStopped (sym is) tt
none_stopped status old new (inr (inr is, front)) = subst IsStopped (sym is) tt

module _ (job : PreparedJob) (r : Report) (left left' old new : Option (List ℕ)) where
  no_usage : (context : Option Context) → r.status ≡ s.Usage → EndsBy context job r left left' old new → ⊥
  no_usage (Some context) is (lists, h) =
      passes_with (stateless (GivesReplies context job)) (front_for job) job.found.job.limits.input (ran_by r) left left' old new s.Usage is h
  no_usage None is (quiet, h) = subst IsStopped is (none_stopped r.status old new h)

  pub prepared_usage : EndsPrepared job r left left' old new → r.status ≢ s.Usage
  prepared_usage h is = no_usage (context_in (job_view job.found.job)) is h

  ended_by : (context : Option Context) → EndsBy context job r left left' old new → (r.status ≡ s.Done) ⊎ (r.status ≡ s.SomeErrors) → IsAtEnd left'
  ended_by (Some context) (lists, h) (inl is) =
      (passes_with (stateless (GivesReplies context job)) (front_for job) job.found.job.limits.input (ran_by r) left left' old new s.Done is h).1
  ended_by (Some context) (lists, h) (inr is) =
      (passes_with (stateless (GivesReplies context job)) (front_for job) job.found.job.limits.input (ran_by r) left left' old new s.SomeErrors is h).1
  ended_by None (quiet, h) done = stopped_ended r.status left' (none_stopped r.status old new h) done

  -- with status 0 or 1 the input was read to its end
  pub prepared_ended : EndsPrepared job r left left' old new → (r.status ≡ s.Done) ⊎ (r.status ≡ s.SomeErrors) → IsAtEnd left'
  prepared_ended = ended_by (context_in (job_view job.found.job))

  quiet_by : (context : Option Context) → EndsBy context job r left left' old new → r.status ≢ s.Done → r.status ≢ s.SomeErrors → IsQuiet r
  quiet_by (Some context) (lists, h) done errors = lists_quiet (listings_of (codes_of job.scripts)) r done errors lists
  quiet_by None (quiet, h) done errors = quiet

  -- with every other the report is quiet
  pub prepared_quiet : EndsPrepared job r left left' old new → r.status ≢ s.Done → r.status ≢ s.SomeErrors → IsQuiet r
  prepared_quiet h = quiet_by (context_in (job_view job.found.job)) h
