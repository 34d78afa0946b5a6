-- A context whose reply needs its start: a line is bound to its first byte, and the reply to a run is the number that it started with,
-- whatever the run leaves.
use Rattle.std.specs.Prelude.{◌≡◌, ℕ, pos, List, [], ◌∷◌, Result, Ok}
use Rattle.serde_json.specs.Data.{Data, number, unsigned}
use Rattle.object_values.specs.declared.value.Value.{Value}
use Rattle.object_values.specs.declared.value.Value.TheVariants as v
use Rattle.document_replies.specs.Replies.{Ended}
use Rattle.document_replies.specs.Starts.{Fault, Start}

abbrev pub first_byte : List ℕ → ℕ
first_byte [] = 0
first_byte (byte ∷ bytes) = byte

abbrev pub byte_start : List ℕ → Result Start Fault
byte_start line = Ok (record { store = record { objects = []; room = 0 }; args = v.Long (pos (first_byte line)) ∷ [] })

-- the number that a run started with
abbrev pub byte_in : List Value → ℕ
byte_in (v.Long (pos byte) ∷ args) = byte
byte_in other = 0

abbrev pub byte_reply : Start → Ended → Data
byte_reply start ran = number (unsigned (byte_in start.args))

-- it is what is kept
abbrev pub KeepsByte : Start → ℕ → Type 0
KeepsByte start byte = start.args ≡ v.Long (pos byte) ∷ []
