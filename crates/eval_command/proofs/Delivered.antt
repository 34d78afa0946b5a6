-- What a run leaves in its sink.
use Rattle.std.proofs.Common.{◌≡◌, ◌≢◌, ℕ, ◌<◌, ◌≤◌, ◌⊎◌, inl, inr, List, length, replicate, Option, None, Some, IfSome, Bool, true, false, Result, Ok, Err, refl, sym, ap, subst, suc, arith, string_bytes}
use Rattle.std.proofs.lemmas.List.{length-replicate}
use Rattle.std.specs.Io.KnownBytes.{Appends}
use Rattle.outer_io.specs.Front.{AppendsFront}
use Rattle.pl_types.specs.declared.refusal.Refusal.{Refusal}
use Rattle.object_values.specs.declared.value.Value.{Value}
use Rattle.run_state.specs.World.{End}
use Rattle.json_replies.specs.Replies.{is_error}
use Rattle.script_engine.specs.Codes.{ScriptCodes, prelude_code}
use Rattle.command_parts.specs.declared.report.Report.{Report}
use Rattle.command_parts.specs.declared.status.Status.{Status}
use Rattle.command_parts.specs.declared.status.Status.TheVariants as s
use Rattle.command_parts.specs.Before.{EndsBefore}
use Rattle.command_parts.specs.DeliversOver.{DeliversUnread}
use Rattle.command_parts.specs.Reports.{texts_of, IsQuiet, ReportsBy, Reports}
use Rattle.command_parts.specs.Told.{Told, silent, file_limit}
use Rattle.command_parts.proofs.Delivering.{nothing, IsAnswered, whole_delivers, failed_delivers, cut_delivers, none_delivers, absent_delivers, long_delivers, delivers_same}
use Rattle.eval_command.specs.declared.reply.Answer.{Answer}
use Rattle.eval_command.specs.Answers.{told_by}
use Rattle.eval_command.specs.Codes.{AreCodesOf, AreCodesIn}
use Rattle.eval_command.specs.Evaluation.{reply_to, status_of, TellsEnd, TellsScript, TellsFile}

-- Files may tell no content; then there is some content that shows an answer.

-- the file of a name holds what was found
pub shown : (known : Option (List ℕ → Option (List ℕ))) (name : List ℕ) (found : Option (List ℕ)) → IfSome known (λ k. k name ≡ found)
    → (content : List ℕ → Option (List ℕ)) × IfSome known (λ k. k ≡ content) × (content name ≡ found)
shown None name found h = (λ _. found, tt, refl)
shown (Some k) name found h = (k, refl, h)

long_list : (n : ℕ) → (bytes : List ℕ) × (n < length bytes)
long_list n = (replicate (suc n) 0, rw length-replicate (omega arith))

-- the file of a name is too long
pub shown_long : (known : Option (List ℕ → Option (List ℕ))) (name : List ℕ) → IfSome known (λ k. (bytes : List ℕ) × (k name ≡ Some bytes) × (file_limit < length bytes))
    → (content : List ℕ → Option (List ℕ)) × IfSome known (λ k. k ≡ content) × ((bytes : List ℕ) × (content name ≡ Some bytes) × (file_limit < length bytes))
shown_long None name h = let long = long_list file_limit in (λ _. Some long.0, tt, (long.0, refl, long.1))
shown_long (Some k) name h = (k, refl, h)

-- ---- answers

ends_answered : (error : Bool) → IsAnswered (status_of error)
ends_answered true = tt
ends_answered false = tt

told_answered : (codes : ScriptCodes) (answer : Result (End Value) Refusal) (told : Told) → TellsEnd codes answer told → IsAnswered told.status
told_answered codes (Ok end) told (steps, counts, is) = subst (λ (t : Told). IsAnswered t.status) (sym is) (ends_answered (is_error (reply_to end)))
told_answered codes (Err refusal) told is = subst (λ (t : Told). IsAnswered t.status) (sym is) tt

pub answered : (codes : ScriptCodes) (script : List ℕ) (told : Told) → TellsScript codes script told → IsAnswered told.status
answered codes script told (answer, means, h) = told_answered codes answer told h

end_reports : (told : Told) (r : Report) (error : Bool) → r.status ≡ status_of error → texts_of r ≡ told.listings → r.steps ≡ told.steps → Reports told r
end_reports told r true is texts steps = subst (λ (t : Status). ReportsBy t told r) (sym is) (texts, steps)
end_reports told r false is texts steps = subst (λ (t : Status). ReportsBy t told r) (sym is) (texts, steps)

told_reports : (codes : ScriptCodes) (answer : Result (End Value) Refusal) (a : Answer) → TellsEnd codes answer (told_by a) → Reports (told_by a) a.report
told_reports codes (Ok end) a (steps, counts, is) = end_reports (told_by a) a.report (is_error (reply_to end)) (ap (λ (t : Told). t.status) is) refl refl
told_reports codes (Err refusal) a is =
    let status : a.report.status ≡ s.Refused = ap (λ (t : Told). t.status) is in
    subst (λ (t : Status). ReportsBy t (told_by a) a.report) (sym status) (ap (λ (t : Told). t.listings) is, ap (λ (t : Told). t.steps) is)

-- the report of an answer is that of what it tells
pub reports : (codes : ScriptCodes) (script : List ℕ) (a : Answer) → TellsScript codes script (told_by a) → Reports (told_by a) a.report
reports codes script a (answer, means, h) = told_reports codes answer a h

quiet_by : (status : Status) (told : Told) (r : Report) → status ≢ s.Done → status ≢ s.SomeErrors → ReportsBy status told r → IsQuiet r
quiet_by s.Done told r done errors h = absurd (done refl)
quiet_by s.SomeErrors told r done errors h = absurd (errors refl)
quiet_by s.Refused told r done errors h = h
quiet_by s.ReadFault told r done errors h = h
quiet_by s.WriteFault told r done errors h = h
quiet_by s.NoMemory told r done errors h = h
quiet_by s.InputLong told r done errors h = h
quiet_by s.Usage told r done errors h = h
quiet_by s.FileFault told r done errors h = h
quiet_by s.FileAbsent told r done errors h = h
quiet_by s.FileLong told r done errors h = h

pub reports_quiet : (codes : ScriptCodes) (script : List ℕ) (a : Answer) → TellsScript codes script (told_by a) → a.report.status ≢ s.Done → a.report.status ≢ s.SomeErrors → IsQuiet a.report
reports_quiet codes script a h done errors = quiet_by a.report.status (told_by a) a.report done errors (reports codes script a h)

-- ---- what is written of them

-- what tells nothing of an input that is not read
abbrev Never : List ℕ → Told → Type 0
Never front told = ⊥

abbrev NeverPast : List ℕ → Type 0
NeverPast front = ⊥

-- codes where there are none
pub some_codes : ScriptCodes
some_codes = record { script = prelude_code; prelude = prelude_code }

-- what a script's report has
abbrev pub ScriptReports : ScriptCodes → List ℕ → Report → Told → Type 0
ScriptReports codes script r told = TellsScript codes script told × Reports told r

-- the codes of which a script's report tells, and what is delivered
abbrev pub ScriptDelivers : List ℕ → Report → Option (List ℕ) → Option (List ℕ) → Type 0
ScriptDelivers script r old new =
    (codes : ScriptCodes) × (AreCodesOf script codes ⊎ EndsBefore r.status old new) × DeliversUnread (λ told. TellsScript codes script told × Reports told r) r.status old new

-- memory ran out before there was an answer
pub no_answer : (script : List ℕ) (r : Report) (old : Option (List ℕ)) → r.status ≡ s.NoMemory → ScriptDelivers script r old old
no_answer script r old is = (
  some_codes,
  inr (subst (λ (t : Status). EndsBefore t old old) (sym is) (nothing old)),
  subst (λ (t : Status). DeliversUnread (ScriptReports some_codes script r) t old old) (sym is)
      (none_delivers (λ input. ScriptReports some_codes script r) Never NeverPast None None old),
)

module _ (codes : ScriptCodes) (script : List ℕ) (a : Answer) (old new : Option (List ℕ)) (are : AreCodesOf script codes) (tells : TellsScript codes script (told_by a)) where
  -- it was written whole
  pub answer_whole : Appends old new (string_bytes a.line) → ScriptDelivers script a.report old new
  answer_whole appended = (
    codes,
    inl are,
    whole_delivers (λ input. ScriptReports codes script a.report) Never NeverPast (told_by a) (λ input. (tells, reports codes script a tells)) None None old new a.report.status
        (answered codes script (told_by a) tells) refl appended,
  )

  -- the sink failed
  pub answer_failed : (r : Report) → r.status ≡ s.WriteFault → IsQuiet r → AppendsFront old new (string_bytes a.line) → ScriptDelivers script r old new
  answer_failed r is quiet front = (
    codes,
    inl are,
    subst (λ (t : Status). DeliversUnread (ScriptReports codes script r) t old new) (sym is)
        (failed_delivers (λ input. ScriptReports codes script r) Never NeverPast (told_by a) (λ input. (tells, subst (λ (t : Status). ReportsBy t (told_by a) r) (sym is) quiet)) None None old new front),
  )

  -- memory ran out
  pub answer_cut : (r : Report) → r.status ≡ s.NoMemory → IsQuiet r → ((x y : Told) → TellsScript codes script x → TellsScript codes script y → x ≡ y) → AppendsFront old new (string_bytes a.line)
      → ScriptDelivers script r old new
  answer_cut r is quiet once front = (
    codes,
    inl are,
    subst (λ (t : Status). DeliversUnread (ScriptReports codes script r) t old new) (sym is)
        (cut_delivers (λ input. ScriptReports codes script r) Never NeverPast (told_by a) (λ input. (tells, subst (λ (t : Status). ReportsBy t (told_by a) r) (sym is) quiet)) None None old new
        (λ input told h. once (told_by a) told tells h.0) front),
  )

-- ---- files

abbrev pub FileReports : ScriptCodes → Option (List ℕ) → Report → Told → Type 0
FileReports codes found r told = TellsFile codes found told × Reports told r

abbrev pub FileDelivers : Option (List ℕ) → Report → Option (List ℕ) → Option (List ℕ) → Type 0
FileDelivers found r old new =
    (codes : ScriptCodes) × (AreCodesIn found codes ⊎ EndsBefore r.status old new) × DeliversUnread (λ told. TellsFile codes found told × Reports told r) r.status old new

-- the file is short enough, and its script is told of
pub delivers_script : (found : Option (List ℕ)) (script : List ℕ) (r : Report) (old new : Option (List ℕ)) → found ≡ Some script → length script ≤ file_limit
    → ScriptDelivers script r old new → FileDelivers found r old new
delivers_script found script r old new is short (codes, are, h) = (
  codes,
  in_file are,
  subst (λ (f : Option (List ℕ)). DeliversUnread (FileReports codes f r) r.status old new) (sym is)
      (delivers_same (λ input. ScriptReports codes script r) (λ input. FileReports codes (Some script) r) Never NeverPast (λ input told k. (inr (short, k.0), k.1)) (λ input told k. (back told k.0, k.1))
      None None old new r.status h),
) where
  back : (told : Told) → TellsFile codes (Some script) told → TellsScript codes script told
  back told (inl (long, k)) = absurd (omega arith)
  back told (inr (small, k)) = k

  in_file : AreCodesOf script codes ⊎ EndsBefore r.status old new → AreCodesIn found codes ⊎ EndsBefore r.status old new
  in_file (inl are) = inl (subst (λ (f : Option (List ℕ)). AreCodesIn f codes) (sym is) (λ within. are))
  in_file (inr before) = inr before

-- nothing is told of a file that is not there
pub absent_told : (found : Option (List ℕ)) (r : Report) (old : Option (List ℕ)) → found ≡ None → r.status ≡ s.FileAbsent → IsQuiet r → FileDelivers found r old old
absent_told found r old none is quiet = (
  some_codes,
  inl (subst (λ (f : Option (List ℕ)). AreCodesIn f some_codes) (sym none) tt),
  subst (λ (t : Status). DeliversUnread (FileReports some_codes found r) t old old) (sym is)
      (absent_delivers (λ input. FileReports some_codes found r) Never NeverPast None None old (λ input. (
        subst (λ (f : Option (List ℕ)). TellsFile some_codes f (silent s.FileAbsent)) (sym none) refl,
        subst (λ (t : Status). ReportsBy t (silent s.FileAbsent) r) (sym is) quiet,
      ))),
)

-- .. nor of one that is too long
pub long_told : (found : Option (List ℕ)) (bytes : List ℕ) (r : Report) (old : Option (List ℕ)) → found ≡ Some bytes → file_limit < length bytes → r.status ≡ s.FileLong → IsQuiet r
    → FileDelivers found r old old
long_told found bytes r old some long is quiet = (
  some_codes,
  inl (subst (λ (f : Option (List ℕ)). AreCodesIn f some_codes) (sym some) (λ within. absurd (omega arith))),
  subst (λ (t : Status). DeliversUnread (FileReports some_codes found r) t old old) (sym is)
      (long_delivers (λ input. FileReports some_codes found r) Never NeverPast None None old (λ input. (
        subst (λ (f : Option (List ℕ)). TellsFile some_codes f (silent s.FileLong)) (sym some) (inl (long, refl)),
        subst (λ (t : Status). ReportsBy t (silent s.FileLong) r) (sym is) quiet,
      ))),
)

-- the files failed, or memory, before anything was read
pub file_failed : (found : Option (List ℕ)) (r : Report) (old : Option (List ℕ)) → r.status ≡ s.FileFault → FileDelivers found r old old
file_failed found r old is = (
  some_codes,
  inr (subst (λ (t : Status). EndsBefore t old old) (sym is) (nothing old)),
  subst (λ (t : Status). DeliversUnread (FileReports some_codes found r) t old old) (sym is) (nothing old),
)

pub file_unread : (found : Option (List ℕ)) (r : Report) (old : Option (List ℕ)) → r.status ≡ s.NoMemory → FileDelivers found r old old
file_unread found r old is = (
  some_codes,
  inr (subst (λ (t : Status). EndsBefore t old old) (sym is) (nothing old)),
  subst (λ (t : Status). DeliversUnread (FileReports some_codes found r) t old old) (sym is) (none_delivers (λ input. FileReports some_codes found r) Never NeverPast None None old),
)
