-- How a command ends: as is told of it.
use Rattle.std.specs.Prelude.{◌≡◌, ◌≢◌, ◌↔◌, ◌⊎◌, ℕ, List, [], Option, None, IfSome}
use Rattle.std.specs.Io.KnownBytes.{IsAtEnd}
use Rattle.outer_io.specs.Faults.{next_count}
use Rattle.command_parts.specs.declared.report.Report.{Report}
use Rattle.command_parts.specs.declared.status.Status.{Status}
use Rattle.command_parts.specs.declared.status.Status.TheVariants as s
use Rattle.command_parts.specs.Asking.{AsksBy}
use Rattle.command_parts.specs.Before.{EndsBefore}
use Rattle.command_parts.specs.DeliversOver.{DeliversOver}
use Rattle.command_parts.specs.Reports.{IsQuiet, Reports}
use Rattle.command_parts.specs.Told.{Told}

-- what the files hold, by their names
abbrev pub Content : Type 0
Content = List ℕ → Option (List ℕ)

-- ---- what a command is told of

-- What is told of a command, over what the files hold, the codes that run, and the bytes of the input.
pub record Telling : Type 1 where
  -- the kind of codes that its scripts have
  pub Codes : Type 0
  -- these are codes of its scripts
  pub are : Content → Codes → Type 0
  -- this is told
  pub tells : Content → Codes → List ℕ → Told → Type 0
  -- .. and this of the bytes that were taken of the input before it failed
  pub taken : Content → Codes → List ℕ → Told → Type 0
  -- so many bytes are taken of an input that is too long
  pub past : Content → List ℕ → Type 0
  -- the names of the files that it asks for, in their order
  pub asks : Content → List (List ℕ)
  -- it reads the input
  pub reads : Type 0
  -- it is no command
  pub misused : Type 0

-- a command that shows nothing of codes
abbrev pub NoCodes : Type 0
NoCodes = Unit {0}

-- a command that reads no input
abbrev pub reads_nothing : {Codes : Type 0} → (Content → Codes → Type 0) → (Content → Codes → Told → Type 0) → (Content → List (List ℕ)) → Telling
reads_nothing {Codes = Codes} are tells asks = record {
  Codes = Codes;
  are = are;
  tells = λ content codes input told. tells content codes told;
  taken = λ content codes front told. ⊥;
  past = λ content front. ⊥;
  asks = asks;
  reads = ⊥;
  misused = ⊥;
}

-- ---- the outside

-- What is seen of the outside at a time: of the files, of the input and of the sink. What there is none of, as a command that reads nothing
-- has no input, tells nothing and never fails.
pub record Outside : Type 0 where
  -- what the files hold, where they tell it
  pub content : Option Content
  -- the names that they were asked for
  pub asked : List (List ℕ)
  -- how often they failed
  pub file_faults : ℕ
  -- the bytes of the input that are left, where it tells them
  pub left : Option (List ℕ)
  -- how often it failed
  pub read_faults : ℕ
  -- the bytes that the sink holds, where it tells them
  pub held : Option (List ℕ)
  -- how often it failed
  pub write_faults : ℕ

-- the outside of a command that reads no input
abbrev pub of_files : Option Content → List (List ℕ) → ℕ → Option (List ℕ) → ℕ → Outside
of_files content asked file_faults held write_faults =
    record { content = content; asked = asked; file_faults = file_faults; left = None; read_faults = 0; held = held; write_faults = write_faults }

-- .. and that of one that has no files either
abbrev pub of_sink : Option (List ℕ) → ℕ → Outside
of_sink held write_faults = of_files None [] 0 held write_faults

-- where there is no input, nothing of it has changed
abbrev pub NoInput : Type 0
NoInput = Unit {0}

-- ---- the end

-- There are codes of which this is told, and by the status what is told, or a front of it, was written, and the report is the told one; or
-- it ended before there were any codes, by want of memory or a fault of the files, and nothing was written.
abbrev pub IsDelivered : Telling → Outside → Outside → Report → Type 0
IsDelivered of before after r =
    (content : Content) × IfSome before.content (λ known. known ≡ content) × (codes : of.Codes) × (of.are content codes ⊎ EndsBefore r.status before.held after.held)
    × DeliversOver (λ input told. of.tells content codes input told × Reports told r) (of.taken content codes) (of.past content) r.status before.left after.left before.held after.held

-- with these statuses the input was not read
abbrev pub LeavesInput : Status → Type 0
LeavesInput s.Refused = Unit {0}
LeavesInput s.Usage = Unit {0}
LeavesInput s.FileFault = Unit {0}
LeavesInput s.FileAbsent = Unit {0}
LeavesInput s.FileLong = Unit {0}
LeavesInput other = ⊥

-- How a command ends: what is told of it is delivered, and what becomes of the outside besides. `stays` says that the input is as it was.
pub record EndsAsTold (of : Telling) (before after : Outside) (stays : Type 0) (r : Report) : Type 0 where
  -- There are codes of the scripts such that the sink holds what is told over the files' content, these codes and the input, and the report
  -- has the told status, listings and number of instructions. Where the run ended before there was a code, by want of memory or a fault of
  -- the files, nothing was written.
  pub told : IsDelivered of before after r
  -- The words are not a command and its one word.
  pub usage : (r.status ≡ s.Usage) ↔ of.misused
  -- A fault of the input, the sink or the files was counted, and only one: the call that failed was the last.
  pub read : r.status ≡ s.ReadFault → after.read_faults ≡ next_count before.read_faults
  pub write : r.status ≡ s.WriteFault → after.write_faults ≡ next_count before.write_faults
  pub file : r.status ≡ s.FileFault → after.file_faults ≡ next_count before.file_faults
  -- With every other status none was counted: no call failed.
  pub well_read : r.status ≢ s.ReadFault → after.read_faults ≡ before.read_faults
  pub written : r.status ≢ s.WriteFault → after.write_faults ≡ before.write_faults
  pub filed : r.status ≢ s.FileFault → after.file_faults ≡ before.file_faults
  -- With status 0 or 1 of a command that reads the input it was read to its end.
  pub ended : of.reads → (r.status ≡ s.Done) ⊎ (r.status ≡ s.SomeErrors) → IsAtEnd after.left
  -- Every other command, a refusal, and a file that is absent, too long or fails, leave the input as it was.
  pub untouched : (of.reads → LeavesInput r.status) → stays
  -- No command changes a file.
  pub contents : after.content ≡ before.content
  -- The names of files that were asked for are a front of those that the command asks for.
  pub asked : AsksBy before.content before.asked after.asked of.asks
  -- With every status but 0 and 1 there is no listing, and nothing is counted.
  pub quiet : r.status ≢ s.Done → r.status ≢ s.SomeErrors → IsQuiet r
