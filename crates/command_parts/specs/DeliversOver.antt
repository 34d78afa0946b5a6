-- What a run that may read the input leaves in its sink, by the status with which it ends. What is told depends on the bytes of the
-- input; what is told of bytes that were taken before a fault depends on them, and so does how many are taken where there are too many.
use Rattle.std.specs.Prelude.{◌≡◌, ℕ, List, [], Option, None, IfSome}
use Rattle.std.specs.Io.KnownBytes.{Consumes, Appends}
use Rattle.outer_io.specs.Front.{AppendsFront}
use Rattle.command_parts.specs.declared.status.Status.{Status}
use Rattle.command_parts.specs.declared.status.Status.TheVariants as s
use Rattle.command_parts.specs.Told.{Told}

-- these are the bytes of the input, where it tells them
abbrev pub IsInput : Option (List ℕ) → List ℕ → Type 0
IsInput left input = IfSome left (λ known. known ≡ input)

-- all that is told was appended, and the run ended as is told
abbrev pub IsWholeOver : (List ℕ → Told → Type 0) → Status → Option (List ℕ) → Option (List ℕ) → Option (List ℕ) → Type 0
IsWholeOver tells status left old new = (input : List ℕ) × IsInput left input × (told : Told) × tells input told × (told.status ≡ status) × Appends old new told.bytes

abbrev pub DeliversOver : (List ℕ → Told → Type 0) → (List ℕ → Told → Type 0) → (List ℕ → Type 0) → Status → Option (List ℕ) → Option (List ℕ) → Option (List ℕ) → Option (List ℕ) → Type 0
DeliversOver tells taken past s.Done left left' old new = IsWholeOver tells s.Done left old new
DeliversOver tells taken past s.SomeErrors left left' old new = IsWholeOver tells s.SomeErrors left old new
DeliversOver tells taken past s.Refused left left' old new = IsWholeOver tells s.Refused left old new
DeliversOver tells taken past s.Usage left left' old new = IsWholeOver tells s.Usage left old new
DeliversOver tells taken past s.FileAbsent left left' old new = IsWholeOver tells s.FileAbsent left old new
DeliversOver tells taken past s.FileLong left left' old new = IsWholeOver tells s.FileLong left old new
-- .. and these bytes were taken
DeliversOver tells taken past s.InputLong left left' old new = IsWholeOver tells s.InputLong left old new × ((front : List ℕ) × Consumes left left' front × past front)
-- all that is told of the bytes that were taken was appended
DeliversOver tells taken past s.ReadFault left left' old new =
    (front : List ℕ) × Consumes left left' front × (told : Told) × taken front told × Appends old new told.bytes
-- a front of what is told was appended
DeliversOver tells taken past s.WriteFault left left' old new = (input : List ℕ) × IsInput left input × (told : Told) × tells input told × AppendsFront old new told.bytes
-- a front of whatever is told was appended
DeliversOver tells taken past s.NoMemory left left' old new = (input : List ℕ) × IsInput left input × ((told : Told) → tells input told → AppendsFront old new told.bytes)
-- the files are read before anything is written
DeliversOver tells taken past s.FileFault left left' old new = Appends old new []

-- what a run leaves that reads no input, so that what is told depends on none
abbrev pub DeliversUnread : (Told → Type 0) → Status → Option (List ℕ) → Option (List ℕ) → Type 0
DeliversUnread tells status old new = DeliversOver (λ input told. tells told) (λ front told. ⊥) (λ front. ⊥) status None None old new
