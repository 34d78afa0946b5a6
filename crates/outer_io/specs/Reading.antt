-- What reading a line does to a reader and to its source.
use Rattle.std.specs.Prelude.{◌≡◌, ℕ, ◌+◌, ◌<◌, ◌≤◌, Bool, true, false, ◌⊎◌, List, [], ◌∷◌, ◌++◌, length, Option, Result, Ok, Err}
use Rattle.std.specs.Io.KnownBytes.{Consumes, IsAtEnd}
use Rattle.outer_io.specs.Lines.{newline, longest, IsUnbroken}
use Rattle.outer_io.specs.declared.lines.Line.{Line}
use Rattle.outer_io.specs.declared.lines.Line.TheVariants.{Whole, Long, End}
use Rattle.outer_io.specs.declared.lines.ReadErr.{ReadErr}
use Rattle.outer_io.specs.declared.lines.ReadErr.TheVariants.{Fault, InputLong, NoMemory}

-- What was taken from a source: how many bytes may be, how many were, those of them that were not given out
-- yet, and whether the source was seen to have no more.
pub record Intake : Type 0 where
  pub limit : ℕ
  pub taken : ℕ
  pub pending : List ℕ
  pub ended : Bool

-- A reader: what it took, and whether a call answered with an error.
pub record Reader : Type 0 where
  pub intake : Intake
  pub failed : Bool

-- These bytes were taken from the source.
pub record Takes (old new : Intake) (left left' : Option (List ℕ)) (bytes : List ℕ) : Type 0 where
  pub consumed : Consumes left left' bytes
  pub counted : new.taken ≡ old.taken + length bytes
  pub limited : new.limit ≡ old.limit

-- The bytes go on behind the line with a newline, and with what is not given out yet.
pub record EndsByNewline (new : Intake) (bytes line : List ℕ) : Type 0 where
  pub parts : bytes ≡ line ++ newline ∷ new.pending
  pub going : new.ended ≡ false

-- The bytes are the line, which has a byte, and the source has no more.
pub record EndsBySource (new : Intake) (left' : Option (List ℕ)) (bytes line : List ℕ) : Type 0 where
  pub same : bytes ≡ line
  pub some : 0 < length line
  pub none : new.pending ≡ []
  pub ended : new.ended ≡ true
  pub at_end : IsAtEnd left'

-- This line was read: it is the front of what was taken before and now.
pub record ReadsLine (old new : Intake) (left left' : Option (List ℕ)) (line : List ℕ) : Type 0 where
  pub more : List ℕ
  pub takes : Takes old new left left' more
  pub going : old.ended ≡ false
  pub unbroken : IsUnbroken line
  pub ends : EndsByNewline new (old.pending ++ more) line ⊎ EndsBySource new left' (old.pending ++ more) line

-- There was no byte any more. A source that was seen to have no more is not asked again.
pub record ReadsEnd (old new : Intake) (left left' : Option (List ℕ)) : Type 0 where
  pub takes : Takes old new left left' []
  pub nothing : old.pending ≡ []
  pub none : new.pending ≡ []
  pub ended : new.ended ≡ true
  pub at_end : old.ended ≡ false → IsAtEnd left'
  pub untouched : old.ended ≡ true → left' ≡ left

-- The source failed, and what was taken and not given out has no newline.
pub record Breaks (old new : Intake) (left left' : Option (List ℕ)) : Type 0 where
  pub more : List ℕ
  pub takes : Takes old new left left' more
  pub going : old.ended ≡ false
  pub unbroken : IsUnbroken (old.pending ++ more)

-- As many bytes were taken as may be, one more followed, and what was taken and not given out has no newline.
pub record Passes (old new : Intake) (left left' : Option (List ℕ)) : Type 0 where
  pub more : List ℕ
  pub next : ℕ
  pub consumed : Consumes left left' (more ++ next ∷ [])
  pub reached : old.taken + length more ≡ old.limit
  pub going : old.ended ≡ false
  pub unbroken : IsUnbroken (old.pending ++ more)

-- Memory was wanting.
pub record Wants (old new : Intake) (left left' : Option (List ℕ)) : Type 0 where
  pub more : List ℕ
  pub takes : Takes old new left left' more
  pub going : old.ended ≡ false

-- What the answer of a reader says of the reader and its source, before and after.
abbrev pub Reads : Intake → Intake → Option (List ℕ) → Option (List ℕ) → Result Line ReadErr → Type 0
Reads old new left left' (Ok (Whole bytes)) = ReadsLine old new left left' bytes.items × (length bytes.items ≤ longest)
Reads old new left left' (Ok Long) = (line : List ℕ) × ReadsLine old new left left' line × (longest < length line)
Reads old new left left' (Ok End) = ReadsEnd old new left left'
Reads old new left left' (Err Fault) = Breaks old new left left'
Reads old new left left' (Err InputLong) = Passes old new left left'
Reads old new left left' (Err NoMemory) = Wants old new left left'
