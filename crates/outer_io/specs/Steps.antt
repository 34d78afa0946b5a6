-- What one step of a reader says of lines: those of what was taken and not given out yet and of what the source has left.
use Rattle.std.specs.Prelude.{◌≡◌, ℕ, ◌+◌, ◌<◌, ◌≤◌, true, false, List, [], ◌∷◌, ◌++◌, length, Option, Result, Ok, Err}
use Rattle.std.specs.Io.KnownBytes.{Consumes, IsAtEnd}
use Rattle.outer_io.specs.Lines.{longest, lines_of, ended_of}
use Rattle.outer_io.specs.Reading.{Intake}
use Rattle.outer_io.specs.declared.lines.Line.{Line}
use Rattle.outer_io.specs.declared.lines.Line.TheVariants.{Whole, Long, End}
use Rattle.outer_io.specs.declared.lines.ReadErr.{ReadErr}
use Rattle.outer_io.specs.declared.lines.ReadErr.TheVariants.{Fault, InputLong, NoMemory}

-- A source that was seen to have no more has none left.
abbrev pub IsSettled : Intake → Option (List ℕ) → Type 0
IsSettled intake left = intake.ended ≡ true → IsAtEnd left

-- This line was given: whatever the source goes on with, the lines of what was held and of that are this line, and behind it those of
-- what is held now. Where the source was seen to have no more, it goes on with nothing.
pub record GivesLine (old new : Intake) (left left' : Option (List ℕ)) (line : List ℕ) : Type 0 where
  pub more : List ℕ
  pub consumed : Consumes left left' more
  pub whole : (rest : List ℕ) → (new.ended ≡ true → rest ≡ []) → lines_of (old.pending ++ (more ++ rest)) ≡ line ∷ lines_of (new.pending ++ rest)
  pub ended : (rest : List ℕ) → new.ended ≡ false → ended_of (old.pending ++ (more ++ rest)) ≡ line ∷ ended_of (new.pending ++ rest)
  pub settled : IsSettled new left'

-- No byte was left: there is no line.
pub record GivesEnd (old new : Intake) (left left' : Option (List ℕ)) : Type 0 where
  pub consumed : Consumes left left' []
  pub none : lines_of old.pending ≡ []
  pub nothing : lines_of new.pending ≡ []
  pub at_end : IsAtEnd left'

-- The source failed: no line that was taken whole is left.
pub record GivesFault (old : Intake) (left left' : Option (List ℕ)) : Type 0 where
  pub more : List ℕ
  pub consumed : Consumes left left' more
  pub none : ended_of (old.pending ++ more) ≡ []

-- As many bytes were taken as may be, and one more followed: no line that was taken whole is left.
pub record GivesLimit (old : Intake) (left left' : Option (List ℕ)) : Type 0 where
  pub more : List ℕ
  pub next : ℕ
  pub consumed : Consumes left left' (more ++ next ∷ [])
  pub reached : old.taken + length more ≡ old.limit
  pub none : ended_of (old.pending ++ more) ≡ []

-- What the answer of a reader says of the lines. Where memory was wanting, nothing.
abbrev pub Steps : Intake → Intake → Option (List ℕ) → Option (List ℕ) → Result Line ReadErr → Type 0
Steps old new left left' (Ok (Whole bytes)) = GivesLine old new left left' bytes.items × (length bytes.items ≤ longest)
Steps old new left left' (Ok Long) = (line : List ℕ) × GivesLine old new left left' line × (longest < length line)
Steps old new left left' (Ok End) = GivesEnd old new left left'
Steps old new left left' (Err Fault) = GivesFault old left left'
Steps old new left left' (Err InputLong) = GivesLimit old left left'
Steps old new left left' (Err NoMemory) = Unit {0}

-- The same where the source tells its bytes: the lines of what is held and of what is left, before and after.
abbrev pub TellsSteps : Intake → Intake → List ℕ → List ℕ → Result Line ReadErr → Type 0
TellsSteps old new left left' (Ok (Whole bytes)) = lines_of (old.pending ++ left) ≡ bytes.items ∷ lines_of (new.pending ++ left')
TellsSteps old new left left' (Ok Long) =
    (line : List ℕ) × (lines_of (old.pending ++ left) ≡ line ∷ lines_of (new.pending ++ left')) × (longest < length line)
TellsSteps old new left left' (Ok End) = (lines_of (old.pending ++ left) ≡ []) × (lines_of (new.pending ++ left') ≡ [])
TellsSteps old new left left' (Err Fault) = (more : List ℕ) × (left ≡ more ++ left') × (ended_of (old.pending ++ more) ≡ [])
TellsSteps old new left left' (Err InputLong) =
    (more : List ℕ) × (next : ℕ) × (left ≡ more ++ next ∷ left') × (ended_of (old.pending ++ more) ≡ [])
TellsSteps old new left left' (Err NoMemory) = Unit {0}
