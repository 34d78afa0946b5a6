-- What an answer on a file says of the file's content.
use Rattle.std.specs.Prelude.{◌≡◌, ℕ, ◌<◌, ◌≤◌, List, length, Option, None, Some, Result, Ok, Err}
use Rattle.outer_io.specs.declared.files.Found.{Found}
use Rattle.outer_io.specs.declared.files.Found.TheVariants.{Bytes, Absent, Long}

-- The bytes that were found are at most as many as the limit says.
abbrev pub IsWithin : {E : Type 0} → ℕ → Result Found E → Type 0
IsWithin limit (Ok (Bytes bytes)) = length bytes.items ≤ limit
IsWithin limit (Ok Absent) = Unit {0}
IsWithin limit (Ok Long) = Unit {0}
IsWithin limit (Err error) = Unit {0}

-- An answer shows a file's content, which is none where there is no such file.
abbrev pub Shows : {E : Type 0} → Option (List ℕ) → ℕ → Result Found E → Type 0
Shows content limit (Ok (Bytes bytes)) = content ≡ Some bytes.items
Shows content limit (Ok Absent) = content ≡ None
Shows content limit (Ok Long) = (bytes : List ℕ) × (content ≡ Some bytes) × (limit < length bytes)
Shows content limit (Err error) = Unit {0}
