-- What reading a source to its end gives.
use Rattle.std.specs.Prelude.{◌≡◌, ℕ, ◌≤◌, List, [], ◌∷◌, ◌++◌, length, map, Option, Result, Ok, Err}
use Rattle.std.specs.Io.KnownBytes.{Consumes, IsAtEnd}
use Rattle.outer_io.specs.Lines.{InputLine, Within, Beyond, Nothing, lines_of, ended_of, input_line}
use Rattle.outer_io.specs.declared.lines.Line.{Line}
use Rattle.outer_io.specs.declared.lines.Line.TheVariants.{Whole, Long, End}
use Rattle.outer_io.specs.declared.lines.ReadErr.{ReadErr}
use Rattle.outer_io.specs.declared.lines.ReadErr.TheVariants.{Fault, InputLong, NoMemory}

-- What a line that was given shows.
abbrev pub line_shown : Line → InputLine
line_shown (Whole bytes) = Within bytes.items
line_shown Long = Beyond
line_shown End = Nothing

abbrev pub shown : List Line → List InputLine
shown = map line_shown

-- The source was read to its end: the lines of its bytes were given.
pub record ReadsAll (limit : ℕ) (left left' : Option (List ℕ)) (given : List InputLine) : Type 0 where
  pub front : List ℕ
  pub consumed : Consumes left left' front
  pub within : length front ≤ limit
  pub at_end : IsAtEnd left'
  pub lines : given ≡ map input_line (lines_of front)

-- The source failed behind these bytes: the lines whose newline is among them were given.
pub record ReadsFront (limit : ℕ) (left left' : Option (List ℕ)) (given : List InputLine) : Type 0 where
  pub front : List ℕ
  pub consumed : Consumes left left' front
  pub within : length front ≤ limit
  pub lines : given ≡ map input_line (ended_of front)

-- As many bytes were taken as may be, and one more followed: the lines whose newline is among them were given.
pub record ReadsLimit (limit : ℕ) (left left' : Option (List ℕ)) (given : List InputLine) : Type 0 where
  pub front : List ℕ
  pub next : ℕ
  pub consumed : Consumes left left' (front ++ next ∷ [])
  pub reached : length front ≡ limit
  pub lines : given ≡ map input_line (ended_of front)

-- Memory was wanting: some front of the lines whose newline was taken was given.
pub record ReadsSome (left left' : Option (List ℕ)) (given : List InputLine) : Type 0 where
  pub front : List ℕ
  pub behind : List InputLine
  pub consumed : Consumes left left' front
  pub lines : given ++ behind ≡ map input_line (ended_of front)

-- What was given, by the answer.
abbrev pub ReadsLines : {T : Type 0} → ℕ → Option (List ℕ) → Option (List ℕ) → List InputLine → Result T ReadErr → Type 0
ReadsLines limit left left' given (Ok done) = ReadsAll limit left left' given
ReadsLines limit left left' given (Err Fault) = ReadsFront limit left left' given
ReadsLines limit left left' given (Err InputLong) = ReadsLimit limit left left' given
ReadsLines limit left left' given (Err NoMemory) = ReadsSome left left' given

-- The lines grew by what was given.
pub record GivesLines {T : Type 0} (limit : ℕ) (left left' : Option (List ℕ)) (old new : List InputLine) (result : Result T ReadErr) : Type 0 where
  pub given : List InputLine
  pub grown : new ≡ old ++ given
  pub reads : ReadsLines limit left left' given result
