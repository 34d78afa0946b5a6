-- Units by their places, and the members of CharSequence.
use Rattle.std.specs.Prelude.{ℕ, ◌&&◌, nat_le, nat_lt, Option, Some, None, List, ◌++◌, length, codes, ℤ, pos, negsuc, slice_get, if◌then◌else◌}
use Rattle.std.specs.Fmt.{decimal, signed_decimal}
use Rattle.object_values.specs.declared.object.Object.{Object}
use Rattle.object_values.specs.declared.value.Value.{Value}
use Rattle.object_values.specs.declared.value.Value.TheVariants as v
use Rattle.api_text.specs.declared.outcome.ExceptionClass.TheVariants.{StringIndexOutOfBounds}
use Rattle.api_text.specs.declared.outcome.Outcome.{Outcome}
use Rattle.api_text.specs.declared.outcome.Outcome.TheVariants.{Gives}
use Rattle.member_arguments.specs.Arguments.{int_at, sequence_at}
use Rattle.api_text.specs.Arguments.{with_one, with_two}
use Rattle.api_text.specs.Outcomes.{says}

-- a count of units as an int, at most the greatest one
abbrev pub count_as_int : ℕ → ℤ
count_as_int n = if nat_le n 2147483647 then pos n else pos 2147483647

-- a place from one up to another
abbrev pub place_within : ℕ → ℕ → ℤ → Option ℕ
place_within least most (pos at) = if nat_le least at && nat_le at most then Some at else None
place_within least most (negsuc n) = None

-- a place that is out of range
abbrev pub index_message : ℤ → ℕ → List ℕ
index_message at count = codes "Index " ++ signed_decimal at ++ codes " out of bounds for length " ++ decimal count

abbrev pub index_error : ℤ → ℕ → Outcome
index_error at count = says StringIndexOutOfBounds (index_message at count)

-- a place at which there is a unit
abbrev pub place_before : ℕ → ℤ → Option ℕ
place_before count (pos at) = if nat_lt at count then Some at else None
place_before count (negsuc n) = None

-- the unit at a place
abbrev pub unit_in : List ℕ → ℤ → Option ℕ
unit_in text (pos at) = slice_get text at
unit_in text (negsuc n) = None

abbrev pub unit_given : List ℕ → ℤ → Option ℕ → Outcome
unit_given text at None = index_error at (length text)
unit_given text at (Some unit) = Gives (v.Char unit)

abbrev pub char_of : List ℕ → ℤ → Outcome
char_of text at = unit_given text at (unit_in text at)

abbrev pub length_of : List ℕ → Outcome
length_of text = Gives (v.Int (count_as_int (length text)))

-- charAt: the unit at a place
abbrev pub char_at : List Object → List Value → Outcome
char_at objects arguments = with_two char_of (sequence_at objects arguments 0) (int_at arguments 1)

-- length: how many units there are
abbrev pub sequence_length : List Object → List Value → Outcome
sequence_length objects arguments = with_one length_of (sequence_at objects arguments 0)
