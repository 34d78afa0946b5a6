-- What single calls of a run over lines do.
use Rattle.std.specs.Prelude.{◌≡◌, ℕ, ◌+◌, ◌-◌, ◌^◌, ◌<◌, min, ◌||◌, Bool, List, [], ◌++◌, length, Option, Ok, Err, ◌⊎◌}
use Rattle.std.specs.Io.KnownBytes.{Appends}
use Rattle.outer_io.specs.Front.{AppendsFront}
use Rattle.outer_io.specs.Reading.{Intake, Reads}
use Rattle.outer_io.specs.declared.lines.Line.{Line}
use Rattle.outer_io.specs.declared.lines.Line.TheVariants.{Whole, Long, End}
use Rattle.outer_io.specs.declared.lines.ReadErr.TheVariants as e
use Rattle.command_parts.specs.declared.status.Status.{Status}
use Rattle.command_parts.specs.declared.status.Status.TheVariants as s
use Rattle.line_run.specs.declared.ran.Ran.{Ran}
use Rattle.line_run.specs.declared.replies.Replies.{Replies}
use Rattle.line_run.specs.Replies.{Reply, status_of}

-- the replies that are held were given to the sink up to what is held now
pub record Gives (old new : Option (List ℕ)) (before now : List ℕ) : Type 0 where
  pub given : List ℕ
  pub parts : given ++ now ≡ before
  pub appended : Appends old new given

-- Such a reply was put behind those that are held.
pub record Adds (Is : Reply → Type 0) (before now : Replies) : Type 0 where
  pub reply : Reply
  pub is : Is reply
  pub bytes : now.bytes.items ≡ before.bytes.items ++ reply.bytes
  pub error : now.any_error ≡ (before.any_error || reply.error)
  pub steps : now.steps ≡ min (before.steps + reply.steps) (2 ^ 64 - 1)

-- so many bytes of replies are not held longer
abbrev pub many : ℕ
many = 65536

-- A line was read. Before the end no reply is held.
abbrev pub HoldsNone : Line → List ℕ → Type 0
HoldsNone (Whole bytes) held = Unit {0}
HoldsNone Long held = Unit {0}
HoldsNone End held = held ≡ []

-- The next line was read, after the replies were given where that could take more of the source.
pub record ReadsNext (old new : Intake) (left left' held held' : Option (List ℕ)) (before now : Replies) (line : Line) : Type 0 where
  pub reads : Reads old new left left' (Ok line)
  pub gives : Gives held held' before.bytes.items now.bytes.items
  pub none : HoldsNone line now.bytes.items
  pub error : now.any_error ≡ before.any_error
  pub steps : now.steps ≡ before.steps

-- .. or there is no line: all replies were given before the source was asked, or a front of them was
abbrev pub ReadsNot : Intake → Intake → Option (List ℕ) → Option (List ℕ) → Option (List ℕ) → Option (List ℕ) → Replies → Status → Type 0
ReadsNot old new left left' held held' before s.ReadFault = Reads old new left left' (Err e.Fault) × Appends held held' before.bytes.items
ReadsNot old new left left' held held' before s.InputLong = Reads old new left left' (Err e.InputLong) × Appends held held' before.bytes.items
ReadsNot old new left left' held held' before s.WriteFault = AppendsFront held held' before.bytes.items
ReadsNot old new left left' held held' before s.NoMemory = AppendsFront held held' before.bytes.items
ReadsNot old new left left' held held' before other = ⊥

-- Such a reply was put behind the others, which were then given where they are many: fewer bytes than so many are held behind it.
pub record Answers (Is : Reply → Type 0) (held held' : Option (List ℕ)) (before now : Replies) : Type 0 where
  pub between : Replies
  pub adds : Adds Is before between
  pub given : Gives held held' between.bytes.items now.bytes.items
  pub few : length now.bytes.items < many
  pub error : now.any_error ≡ between.any_error
  pub steps : now.steps ≡ between.steps

-- .. or the run ends: by want of memory before the reply was there, or where the replies were given
abbrev pub AnswersNot : (Reply → Type 0) → Option (List ℕ) → Option (List ℕ) → Replies → Status → Type 0
AnswersNot Is held held' before s.WriteFault = (between : Replies) × Adds Is before between × AppendsFront held held' between.bytes.items
AnswersNot Is held held' before s.NoMemory =
    Appends held held' [] ⊎ ((between : Replies) × Adds Is before between × AppendsFront held held' between.bytes.items)
AnswersNot Is held held' before other = ⊥

-- Such a reply was put behind the others, and all were given.
pub record GivesLast (Is : Reply → Type 0) (held held' : Option (List ℕ)) (before now : Replies) : Type 0 where
  pub between : Replies
  pub adds : Adds Is before between
  pub given : Gives held held' between.bytes.items now.bytes.items
  pub none : now.bytes.items ≡ []
  pub error : now.any_error ≡ between.any_error
  pub steps : now.steps ≡ between.steps

-- how a run ends over all of its input
abbrev pub ended_by : Bool → ℕ → Ran
ended_by error steps = record { status = status_of error; steps = steps }

-- .. and one that does not come to its end
abbrev pub cut_short : Status → Ran
cut_short status = record { status = status; steps = 0 }

-- Such a reply stands behind all others, which were given, and the run ends as they say; or it could not be made or given.
abbrev pub Closes : (Reply → Type 0) → Option (List ℕ) → Option (List ℕ) → Replies → Ran → Type 0
Closes Is held held' before ran =
    ((now : Replies) × GivesLast Is held held' before now × (ran ≡ ended_by now.any_error now.steps))
    ⊎ ((status : Status) × AnswersNot Is held held' before status × (ran ≡ cut_short status))
