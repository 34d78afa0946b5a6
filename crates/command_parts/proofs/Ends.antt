-- How commands end.
use Rattle.std.proofs.Common.{◌≡◌, ◌≢◌, ℕ, List, [], Option, None, IfSome, ◌⊎◌, inl, inr, refl, sym, ◌∙◌, subst, arith, string_bytes}
use Rattle.outer_io.specs.Faults.{next_count}
use Rattle.command_parts.specs.declared.report.Report.{Report}
use Rattle.command_parts.specs.declared.status.Status.{Status}
use Rattle.command_parts.specs.declared.status.Status.TheVariants as s
use Rattle.command_parts.specs.declared.stop.Stop.{Stop}
use Rattle.command_parts.specs.declared.stop.Stop.TheVariants as stop
use Rattle.command_parts.specs.Asking.{AsksBy}
use Rattle.command_parts.specs.Before.{EndsBefore}
use Rattle.command_parts.specs.DeliversOver.{DeliversOver}
use Rattle.command_parts.specs.Ending.{EndsSo}
use Rattle.command_parts.specs.Ends.{Content, Telling, reads_nothing, Outside, IsDelivered, EndsAsTold}
use Rattle.command_parts.specs.Reports.{IsQuiet, Reports}
use Rattle.command_parts.specs.Stops.{stop_told}
use Rattle.command_parts.specs.Told.{Told, silent, uncounted}
use Rattle.command_parts.specs.Writing.{IsWriteFault, Writes}
use Rattle.command_parts.proofs.Asking.{asks_always, asks_none}
use Rattle.command_parts.proofs.Delivering.{IsAnswered, some_content, some_input, stop_delivers, writes_deliver}
use Rattle.command_parts.proofs.Reporting.{uncounted_reports}
use Rattle.command_parts.proofs.Statuses.{stopped, fault_stopped, stopped_fault, stopped_ended, IsStopped, IsAccepted, accepts}

-- ---- what is delivered

-- nothing is counted where a command ends before its work
stop_reported : (tells : List ℕ → Told → Type 0) (end : Stop) (r : Report) → IsQuiet r → IfSome (stop_told end) (λ told. (input : List ℕ) → tells input told)
    → IfSome (stop_told end) (λ told. (input : List ℕ) → tells input told × Reports told r)
stop_reported tells (stop.Refused line) r quiet is = λ input. (is input, uncounted_reports (uncounted s.Refused (string_bytes line)) r quiet refl refl)
stop_reported tells stop.FileAbsent r quiet is = λ input. (is input, uncounted_reports (silent s.FileAbsent) r quiet refl refl)
stop_reported tells stop.FileLong r quiet is = λ input. (is input, uncounted_reports (silent s.FileLong) r quiet refl refl)
stop_reported tells stop.FileFault r quiet is = tt
stop_reported tells stop.NoMemory r quiet is = tt

-- one thing is told of this content and these codes, whatever the input is
module _ (of : Telling) (before after : Outside) (r : Report) (status : Status) (at : r.status ≡ status) (content : Content) (shown : IfSome before.content (λ known. known ≡ content)) (codes : of.Codes)
    (are : of.are content codes ⊎ EndsBefore r.status before.held after.held)
    (once : (input : List ℕ) (a b : Told) → of.tells content codes input a → of.tells content codes input b → a ≡ b) where
  abbrev pub Reported : List ℕ → Told → Type 0
  Reported input told = of.tells content codes input told × Reports told r

  abbrev pub Over : Status → Type 0
  Over t = DeliversOver Reported (of.taken content codes) (of.past content) t before.left after.left before.held after.held

  -- a stop tells it
  pub stop_is_delivered : (end : Stop) → IsQuiet r → IfSome (stop_told end) (λ told. (input : List ℕ) → of.tells content codes input told) → EndsSo end status before.held after.held
      → IsDelivered of before after r
  stop_is_delivered end quiet is ends = (
    content,
    shown,
    codes,
    are,
    subst Over (sym at)
        (stop_delivers Reported (of.taken content codes) (of.past content) (λ input a b h k. once input a b h.0 k.0) before.left after.left before.held after.held end status
        (stop_reported (of.tells content codes) end r quiet is) ends),
  )

  -- it was written
  pub told_is_delivered : (told : Told) → IsAnswered told.status → ((input : List ℕ) → of.tells content codes input told) → Reports told r → Writes told status before.held after.held
      → IsDelivered of before after r
  told_is_delivered told can is reports writes = (
    content,
    shown,
    codes,
    are,
    subst Over (sym at)
        (writes_deliver Reported (of.taken content codes) (of.past content) told (λ input. (is input, reports)) before.left after.left before.held after.held
        (λ input other k. once input told other (is input) k.0) status can writes),
  )

-- ---- a command that ends by a stop

module _ (of : Telling) (before after : Outside) (stays : Type 0) (r : Report) (end : Stop) (status : Status) (at : r.status ≡ status) (quiet : IsQuiet r)
    (ends : EndsSo end status before.held after.held) where
  is_stopped : IsStopped r.status
  is_stopped = subst IsStopped (sym at) (stopped end status before.held after.held ends)

  pub ends_stopped : IsDelivered of before after r → (of.misused → ⊥) → (status ≡ s.WriteFault → after.write_faults ≡ next_count before.write_faults)
      → (status ≢ s.WriteFault → after.write_faults ≡ before.write_faults) → (end ≡ stop.FileFault → after.file_faults ≡ next_count before.file_faults)
      → (end ≢ stop.FileFault → after.file_faults ≡ before.file_faults) → after.read_faults ≡ before.read_faults → stays → after.content ≡ before.content
      → AsksBy before.content before.asked after.asked of.asks → EndsAsTold of before after stays r
  ends_stopped told used write written file filed read same contents asked = record {
    told = told;
    usage = (λ is. absurd (subst IsStopped is is_stopped), λ misused. absurd (used misused));
    read = λ is. absurd (subst IsStopped is is_stopped);
    write = λ is. write (sym at ∙ is);
    file = λ is. file (stopped_fault end status before.held after.held ends (sym at ∙ is));
    well_read = λ not. read;
    written = λ not. written (λ is. not (at ∙ is));
    filed = λ not. filed (λ is. not (at ∙ fault_stopped end status before.held after.held ends is));
    ended = λ reads done. stopped_ended r.status after.left is_stopped done;
    untouched = λ leaves. same;
    contents = contents;
    asked = asked;
    quiet = λ done errors. quiet;
  }

-- ---- a command that reads nothing, and has something to tell that is no refusal

-- by what was written
pub writes_end : (told : Told) (r : Report) (status : Status) (old new : Option (List ℕ)) → r.status ≡ status → told.status ≡ s.Done → Writes told status old new
    → (r.status ≡ s.Done) ⊎ IsWriteFault r.status
writes_end told r status old new at done (inl (is, appended)) = inl (at ∙ is ∙ done)
writes_end told r status old new at done (inr (fault, front)) = inr (subst IsWriteFault (sym at) fault)

pub ends_accepted : (of : Telling) (before after : Outside) (stays : Type 0) (r : Report) → (of.reads → ⊥) → (of.misused → ⊥) → IsDelivered of before after r
    → (r.status ≡ s.Done) ⊎ IsWriteFault r.status → (r.status ≡ s.WriteFault → after.write_faults ≡ next_count before.write_faults)
    → (r.status ≢ s.WriteFault → after.write_faults ≡ before.write_faults) → after.file_faults ≡ before.file_faults → after.read_faults ≡ before.read_faults → stays
    → after.content ≡ before.content → AsksBy before.content before.asked after.asked of.asks → (r.status ≢ s.Done → IsQuiet r) → EndsAsTold of before after stays r
ends_accepted of before after stays r unread used told ends write written filed read same contents asked quiet =
    let is : IsAccepted r.status = accepts r.status ends in
    record {
      told = told;
      usage = (λ at. absurd (subst IsAccepted at is), λ misused. absurd (used misused));
      read = λ at. absurd (subst IsAccepted at is);
      write = write;
      file = λ at. absurd (subst IsAccepted at is);
      well_read = λ not. read;
      written = written;
      filed = λ not. filed;
      ended = λ reads. absurd (unread reads);
      untouched = λ leaves. same;
      contents = contents;
      asked = asked;
      quiet = λ done errors. quiet done;
    }

-- ---- a command that reads nothing, beside an input

module _ (tells : List ℕ → Told → Type 0) (left old new : Option (List ℕ)) (same : (a b : List ℕ) (told : Told) → tells a told → tells b told) where
  -- what is told does not hang on the input
  unread_delivers : (status : Status) → DeliversOver tells (λ front told. ⊥) (λ front. ⊥) status None None old new → DeliversOver tells (λ front told. ⊥) (λ front. ⊥) status left left old new
  unread_delivers s.Done (input, is, told, h, at, appended) = let i = some_input left in (i.0, i.1, told, same input i.0 told h, at, appended)
  unread_delivers s.SomeErrors (input, is, told, h, at, appended) = let i = some_input left in (i.0, i.1, told, same input i.0 told h, at, appended)
  unread_delivers s.Refused (input, is, told, h, at, appended) = let i = some_input left in (i.0, i.1, told, same input i.0 told h, at, appended)
  unread_delivers s.Usage (input, is, told, h, at, appended) = let i = some_input left in (i.0, i.1, told, same input i.0 told h, at, appended)
  unread_delivers s.FileAbsent (input, is, told, h, at, appended) = let i = some_input left in (i.0, i.1, told, same input i.0 told h, at, appended)
  unread_delivers s.FileLong (input, is, told, h, at, appended) = let i = some_input left in (i.0, i.1, told, same input i.0 told h, at, appended)
  unread_delivers s.InputLong (whole, (front, consumed, past)) = absurd past
  unread_delivers s.ReadFault (front, consumed, told, never, appended) = absurd never
  unread_delivers s.WriteFault (input, is, told, h, front) = let i = some_input left in (i.0, i.1, told, same input i.0 told h, front)
  unread_delivers s.NoMemory (input, is, h) = let i = some_input left in (i.0, i.1, λ told k. h told (same i.0 input told k))
  unread_delivers s.FileFault h = h

-- no input fails that is not there
unread_fault : (tells : List ℕ → Told → Type 0) (status : Status) (left left' old new : Option (List ℕ)) → DeliversOver tells (λ front told. ⊥) (λ front. ⊥) status left left' old new → status ≢ s.ReadFault
unread_fault tells status left left' old new h is = none (subst (λ (t : Status). DeliversOver tells (λ front told. ⊥) (λ front. ⊥) t left left' old new) is h) where
  none : DeliversOver tells (λ front told. ⊥) (λ front. ⊥) s.ReadFault left left' old new → ⊥
  none (front, consumed, told, never, appended) = never

-- the outside with an input that was not read
abbrev pub with_input : Outside → Option (List ℕ) → ℕ → Outside
with_input o left faults = record {
  content = o.content;
  asked = o.asked;
  file_faults = o.file_faults;
  left = left;
  read_faults = faults;
  held = o.held;
  write_faults = o.write_faults;
}

pub ends_unread : {Codes : Type 0} (are : Content → Codes → Type 0) (tells : Content → Codes → Told → Type 0) (asks : Content → List (List ℕ)) (before after : Outside) (r : Report)
    (left : Option (List ℕ)) (faults : ℕ) (stays : Type 0) → before.left ≡ None → after.left ≡ None → stays → EndsAsTold (reads_nothing {Codes = Codes} are tells asks) before after (Unit {0}) r
    → EndsAsTold (reads_nothing {Codes = Codes} are tells asks) (with_input before left faults) (with_input after left faults) stays r
ends_unread are tells asks before after r left faults stays none none' same h =
    let t = h.told in
    let Over : Content → List ℕ → Told → Type 0 = λ content input told. tells content t.2 told × Reports told r in
    let here : DeliversOver (Over t.0) (λ front told. ⊥) (λ front. ⊥) r.status None None before.held after.held =
    subst (λ (l : Option (List ℕ)). DeliversOver (Over t.0) (λ front told. ⊥) (λ front. ⊥) r.status l None before.held after.held) none
    (subst (λ (l : Option (List ℕ)). DeliversOver (Over t.0) (λ front told. ⊥) (λ front. ⊥) r.status before.left l before.held after.held) none' t.4) in
    record {
      told = (t.0, t.1, t.2, t.3, unread_delivers (Over t.0) left before.held after.held (λ a b told k. k) r.status here);
      usage = h.usage;
      read = λ is. absurd (unread_fault (Over t.0) r.status None None before.held after.held here is);
      write = h.write;
      file = h.file;
      well_read = λ not. refl;
      written = h.written;
      filed = h.filed;
      ended = λ reads. absurd reads;
      untouched = λ leaves. same;
      contents = h.contents;
      asked = h.asked;
      quiet = h.quiet;
    }

-- ---- a command that has no files, beside some

-- a count that stands at 0 has not risen
pub never_risen : 0 ≡ next_count 0 → ⊥
never_risen risen =
    let now : next_count 0 ≡ 1 = refl in
    let never : 0 ≡ 1 = risen ∙ now in
    absurd (omega (arith, never))

-- the outside with files that were asked for nothing
abbrev pub with_files : Outside → Option Content → List (List ℕ) → ℕ → Outside
with_files o content asked faults = record {
  content = content;
  asked = asked;
  file_faults = faults;
  left = o.left;
  read_faults = o.read_faults;
  held = o.held;
  write_faults = o.write_faults;
}

pub ends_unasked : {Codes : Type 0} (are : Codes → Type 0) (tells : Codes → Told → Type 0) (before after : Outside) (stays : Type 0) (r : Report) (content : Option Content)
    (asked : List (List ℕ)) (faults : ℕ) → before.file_faults ≡ 0 → after.file_faults ≡ 0
    → EndsAsTold (reads_nothing {Codes = Codes} (λ (c : Content) codes. are codes) (λ (c : Content) codes told. tells codes told) (λ (c : Content). [])) before after stays r
    → EndsAsTold (reads_nothing {Codes = Codes} (λ (c : Content) codes. are codes) (λ (c : Content) codes told. tells codes told) (λ (c : Content). [])) (with_files before content asked faults) (with_files after content asked faults) stays r
ends_unasked are tells before after stays r content asked faults first last h =
    let t = h.told in
    let some = some_content content in
    record {
      told = (some.0, some.1, t.2, t.3, t.4);
      usage = h.usage;
      read = h.read;
      write = h.write;
      file = λ is. absurd (never_risen (subst (λ (n : ℕ). n ≡ next_count 0) last (subst (λ (n : ℕ). after.file_faults ≡ next_count n) first (h.file is))));
      well_read = h.well_read;
      written = h.written;
      filed = λ not. refl;
      ended = h.ended;
      untouched = h.untouched;
      contents = refl;
      asked = asks_always content asked asked (λ c. []) (λ c. asks_none asked []);
      quiet = h.quiet;
    }
