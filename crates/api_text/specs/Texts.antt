-- The members of String that make nothing.
use Rattle.std.specs.Prelude.{ℕ, ◌+◌, ◌-◌, ◌==◌, ◌&&◌, nat_le, Bool, true, false, Option, Some, None, List, [], ◌∷◌, length, ℤ, pos, negsuc, is_some, if◌then◌else◌}
use Rattle.pl_units.specs.Places.{first_place, last_place, stands_at}
use Rattle.object_values.specs.declared.object.Object.{Object}
use Rattle.object_values.specs.declared.value.Value.{Value}
use Rattle.object_values.specs.declared.value.Value.TheVariants as v
use Rattle.api_text.specs.declared.outcome.Outcome.{Outcome}
use Rattle.api_text.specs.declared.outcome.Outcome.TheVariants.{Gives}
use Rattle.member_arguments.specs.Arguments.{int_at, text_at, sequence_at}
use Rattle.api_text.specs.Arguments.{with_one, with_two, with_three}
use Rattle.api_text.specs.Sequences.{count_as_int}

abbrev pub flag : Bool → Outcome
flag is = Gives (v.Bool is)

-- a place as an int; -1 where there is none
abbrev pub place_as_int : Option ℕ → ℤ
place_as_int None = negsuc 0
place_as_int (Some place) = count_as_int place

abbrev pub place_given : Option ℕ → Outcome
place_given place = Gives (v.Int (place_as_int place))

-- where a search begins: a negative place counts as 0, and one past the end as the end
abbrev pub start_of : ℕ → ℤ → ℕ
start_of count (pos at) = if nat_le at count then at else count
start_of count (negsuc n) = 0

abbrev pub place_of : List ℕ → List ℕ → Outcome
place_of text part = place_given (first_place text part 0)

abbrev pub place_from : List ℕ → List ℕ → ℤ → Outcome
place_from text part start = place_given (first_place text part (start_of (length text) start))

abbrev pub last_place_of : List ℕ → List ℕ → Outcome
last_place_of text part = place_given (last_place text part)

abbrev pub contains_of : List ℕ → List ℕ → Outcome
contains_of text part = flag (is_some (first_place text part 0))

abbrev pub starts_of : List ℕ → List ℕ → Outcome
starts_of text part = flag (stands_at text part 0)

-- a part stands at no negative place
abbrev pub stands_from : List ℕ → List ℕ → ℤ → Bool
stands_from text part (pos at) = stands_at text part at
stands_from text part (negsuc n) = false

abbrev pub starts_at_of : List ℕ → List ℕ → ℤ → Outcome
starts_at_of text part at = flag (stands_from text part at)

abbrev pub ends_of : List ℕ → List ℕ → Outcome
ends_of text part = flag (stands_at text part (length text - length part))

abbrev pub has_none : List ℕ → Bool
has_none [] = true
has_none (unit ∷ text) = false

abbrev pub empty_of : List ℕ → Outcome
empty_of text = flag (has_none text)

-- an ASCII letter in lower and in upper case; other units stay
abbrev pub to_lower : ℕ → ℕ
to_lower unit = if nat_le 65 unit && nat_le unit 90 then unit + 32 else unit

abbrev pub to_upper : ℕ → ℕ
to_upper unit = if nat_le 97 unit && nat_le unit 122 then unit - 32 else unit

-- whether texts are one but for the case of ASCII letters
abbrev pub same_but_case : List ℕ → List ℕ → Bool
same_but_case [] [] = true
same_but_case [] (next ∷ other) = false
same_but_case (unit ∷ text) [] = false
same_but_case (unit ∷ text) (next ∷ other) = if to_lower unit == to_lower next then same_but_case text other else false

-- null is like no text
abbrev pub same_text : List ℕ → Option (List ℕ) → Outcome
same_text text None = flag false
same_text text (Some other) = flag (same_but_case text other)

-- contains: whether a sequence stands in the text
abbrev pub contains : List Object → List Value → Outcome
contains objects arguments = with_two contains_of (text_at arguments 0) (sequence_at objects arguments 1)

-- endsWith, startsWith: whether a text stands at the end, at the beginning, or at a place
abbrev pub ends_with : List Object → List Value → Outcome
ends_with objects arguments = with_two ends_of (text_at arguments 0) (text_at arguments 1)

abbrev pub starts_with : List Object → List Value → Outcome
starts_with objects arguments = with_two starts_of (text_at arguments 0) (text_at arguments 1)

abbrev pub starts_with_at : List Object → List Value → Outcome
starts_with_at objects arguments = with_three starts_at_of (text_at arguments 0) (text_at arguments 1) (int_at arguments 2)

-- equalsIgnoreCase
abbrev pub equals_ignore_case : List Object → List Value → Outcome
equals_ignore_case objects arguments = with_one (λ text. same_text text (text_at arguments 1)) (text_at arguments 0)

-- indexOf, lastIndexOf: the first place of a text, the first from a place on, and the last
abbrev pub index_of : List Object → List Value → Outcome
index_of objects arguments = with_two place_of (text_at arguments 0) (text_at arguments 1)

abbrev pub index_of_from : List Object → List Value → Outcome
index_of_from objects arguments = with_three place_from (text_at arguments 0) (text_at arguments 1) (int_at arguments 2)

abbrev pub last_index_of : List Object → List Value → Outcome
last_index_of objects arguments = with_two last_place_of (text_at arguments 0) (text_at arguments 1)

-- isEmpty: whether there is no unit
abbrev pub is_empty : List Object → List Value → Outcome
is_empty objects arguments = with_one empty_of (text_at arguments 0)
