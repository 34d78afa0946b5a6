-- Arguments of members. The receiver is the first. One that is missing or of another kind is none.
use Rattle.std.specs.Prelude.{ℕ, Bool, Option, Some, None, List, ℤ, slice_get}
use Rattle.object_values.specs.declared.object.Object.{Object}
use Rattle.object_values.specs.declared.value.Value.{Value}
use Rattle.object_values.specs.declared.value.Value.TheVariants as v
use Rattle.object_heap.specs.Parts.{units_of}

abbrev pub int_in : Option Value → Option ℤ
int_in None = None
int_in (Some (v.Int number)) = Some number
int_in (Some value) = None

abbrev pub long_in : Option Value → Option ℤ
long_in None = None
long_in (Some (v.Long number)) = Some number
long_in (Some value) = None

abbrev pub byte_in : Option Value → Option ℤ
byte_in None = None
byte_in (Some (v.Byte number)) = Some number
byte_in (Some value) = None

abbrev pub char_in : Option Value → Option ℕ
char_in None = None
char_in (Some (v.Char unit)) = Some unit
char_in (Some value) = None

abbrev pub flag_in : Option Value → Option Bool
flag_in None = None
flag_in (Some (v.Bool flag)) = Some flag
flag_in (Some value) = None

abbrev pub text_in : Option Value → Option (List ℕ)
text_in None = None
text_in (Some (v.Str text)) = Some text
text_in (Some value) = None

abbrev pub object_in : Option Value → Option ℕ
object_in None = None
object_in (Some (v.Ref id)) = Some id
object_in (Some value) = None

-- the units of a text or a builder
abbrev pub sequence_in : List Object → Option Value → Option (List ℕ)
sequence_in objects None = None
sequence_in objects (Some (v.Str text)) = Some text
sequence_in objects (Some (v.Ref id)) = Some (units_of objects id)
sequence_in objects (Some value) = None

abbrev pub int_at : List Value → ℕ → Option ℤ
int_at arguments at = int_in (slice_get arguments at)

abbrev pub long_at : List Value → ℕ → Option ℤ
long_at arguments at = long_in (slice_get arguments at)

abbrev pub byte_at : List Value → ℕ → Option ℤ
byte_at arguments at = byte_in (slice_get arguments at)

abbrev pub char_at : List Value → ℕ → Option ℕ
char_at arguments at = char_in (slice_get arguments at)

abbrev pub flag_at : List Value → ℕ → Option Bool
flag_at arguments at = flag_in (slice_get arguments at)

abbrev pub text_at : List Value → ℕ → Option (List ℕ)
text_at arguments at = text_in (slice_get arguments at)

abbrev pub object_at : List Value → ℕ → Option ℕ
object_at arguments at = object_in (slice_get arguments at)

abbrev pub sequence_at : List Object → List Value → ℕ → Option (List ℕ)
sequence_at objects arguments at = sequence_in objects (slice_get arguments at)
