-- The lines of a list of bytes.
use Rattle.std.specs.Prelude.{◌≢◌, ℕ, ◌==◌, nat_le, List, [], ◌∷◌, length, All, if◌then◌else◌}

-- The byte at which a line ends, which is no part of it.
abbrev pub newline : ℕ
newline = 10

-- How many bytes a line has at most where it is given.
abbrev pub longest : ℕ
longest = 1048576

-- A byte that is not a newline, before some lines.
abbrev pub before_lines : ℕ → List (List ℕ) → List (List ℕ)
before_lines byte [] = (byte ∷ []) ∷ []
before_lines byte (line ∷ lines) = (byte ∷ line) ∷ lines

-- The lines of some bytes. The last one ends where the bytes do, if a byte follows the last newline.
abbrev pub lines_of : List ℕ → List (List ℕ)
lines_of [] = []
lines_of (byte ∷ bytes) = if byte == newline then [] ∷ lines_of bytes else before_lines byte (lines_of bytes)

-- A byte that is not a newline, before lines that end at a newline.
abbrev pub before_ended : ℕ → List (List ℕ) → List (List ℕ)
before_ended byte [] = []
before_ended byte (line ∷ lines) = (byte ∷ line) ∷ lines

-- The lines of some bytes that end at a newline.
abbrev pub ended_of : List ℕ → List (List ℕ)
ended_of [] = []
ended_of (byte ∷ bytes) = if byte == newline then [] ∷ ended_of bytes else before_ended byte (ended_of bytes)

-- No byte is a newline.
abbrev pub IsUnbroken : List ℕ → Type 0
IsUnbroken bytes = All (λ byte. byte ≢ newline) bytes

-- What a line shows of the bytes that it comes from: them, that they are too many, or that there was none.
pub data InputLine : Type 0 where
  Within : List ℕ → InputLine
  Beyond : InputLine
  Nothing : InputLine

-- A line as it is given.
abbrev pub input_line : List ℕ → InputLine
input_line line = if nat_le (length line) longest then Within line else Beyond
