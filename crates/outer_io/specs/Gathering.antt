-- How a line is put together of pieces.
use Rattle.std.specs.Prelude.{◌≡◌, ℕ, ◌+◌, ◌<◌, ◌≤◌, Bool, true, false, List, [], ◌∷◌, ◌++◌, length, take, drop, Option, Some, None, Result, Ok, Err, Vec}
use Rattle.std.specs.declared.alloc.Global.{Global}
use Rattle.std.specs.declared.alloc.AllocError.{AllocError}
use Rattle.std.specs.Io.KnownBytes.{Consumes, IsAtEnd}
use Rattle.outer_io.specs.Lines.{newline, longest, IsUnbroken}
use Rattle.outer_io.specs.Reading.{Intake, Takes}
use Rattle.outer_io.specs.declared.intake.Gathered.{Gathered}
use Rattle.outer_io.specs.declared.intake.Gathered.TheVariants.{Ended, Open}
use Rattle.outer_io.specs.declared.lines.Line.{Line}
use Rattle.outer_io.specs.declared.lines.Line.TheVariants.{Whole, Long, End}
use Rattle.outer_io.specs.declared.lines.ReadErr.{ReadErr}
use Rattle.outer_io.specs.declared.lines.ReadErr.TheVariants.{Fault, InputLong, NoMemory}

-- This is the line so far, which is kept while it has not too many bytes.
abbrev pub Holds : Option (Vec ℕ Global) → List ℕ → Type 0
Holds (Some bytes) line = (bytes.items ≡ line) × (length line ≤ longest)
Holds None line = longest < length line

-- The first newline stands at this place.
pub record BreaksAt (bytes : List ℕ) (place : ℕ) : Type 0 where
  pub within : place < length bytes
  pub unbroken : IsUnbroken (take place bytes)
  pub parts : bytes ≡ take place bytes ++ newline ∷ drop (place + 1) bytes

-- Nothing was taken.
pub record IsSameTake (old new : Intake) : Type 0 where
  pub limit : new.limit ≡ old.limit
  pub taken : new.taken ≡ old.taken
  pub ended : new.ended ≡ old.ended

-- The bytes up to a newline stand behind the line, and the newline is given out too.
pub record GathersEnded (old new : Intake) (before : List ℕ) (line : Option (Vec ℕ Global)) : Type 0 where
  pub front : List ℕ
  pub parts : old.pending ≡ front ++ newline ∷ new.pending
  pub unbroken : IsUnbroken front
  pub holds : Holds line (before ++ front)
  pub same : IsSameTake old new

-- All bytes stand behind the line, and none was a newline.
pub record GathersOpen (old new : Intake) (before : List ℕ) (line : Option (Vec ℕ Global)) : Type 0 where
  pub unbroken : IsUnbroken old.pending
  pub none : new.pending ≡ []
  pub holds : Holds line (before ++ old.pending)
  pub same : IsSameTake old new

abbrev pub Gathers : Intake → Intake → List ℕ → Result Gathered AllocError → Type 0
Gathers old new before (Ok (Ended line)) = GathersEnded old new before line
Gathers old new before (Ok (Open line)) = GathersOpen old new before line
Gathers old new before (Err error) = IsSameTake old new

-- A further piece was taken.
pub record RefillsMore (old new : Intake) (left left' : Option (List ℕ)) : Type 0 where
  pub takes : Takes old new left left' new.pending
  pub some : 0 < length new.pending
  pub going : new.ended ≡ false

-- There was none, which is kept in mind.
pub record RefillsNone (old new : Intake) (left left' : Option (List ℕ)) : Type 0 where
  pub takes : Takes old new left left' []
  pub none : new.pending ≡ []
  pub ended : new.ended ≡ true
  pub at_end : IsAtEnd left'

-- As many bytes were taken as may be, and one more followed.
pub record RefillsPast (old new : Intake) (left left' : Option (List ℕ)) : Type 0 where
  pub next : ℕ
  pub consumed : Consumes left left' (next ∷ [])
  pub reached : old.taken ≡ old.limit

abbrev pub Refills : Intake → Intake → Option (List ℕ) → Option (List ℕ) → Result Bool ReadErr → Type 0
Refills old new left left' (Ok true) = RefillsMore old new left left'
Refills old new left left' (Ok false) = RefillsNone old new left left'
Refills old new left left' (Err Fault) = Takes old new left left' []
Refills old new left left' (Err InputLong) = RefillsPast old new left left'
Refills old new left left' (Err NoMemory) = ⊥

-- A line that ended at a newline, as it is given.
abbrev pub Gives : Line → List ℕ → Type 0
Gives (Whole bytes) line = (bytes.items ≡ line) × (length line ≤ longest)
Gives Long line = longest < length line
Gives End line = ⊥

-- The same of the last line, which is one only where it has a byte.
abbrev pub GivesLast : Line → List ℕ → Type 0
GivesLast (Whole bytes) line = (bytes.items ≡ line) × (length line ≤ longest) × (0 < length line)
GivesLast Long line = longest < length line
GivesLast End line = line ≡ []
