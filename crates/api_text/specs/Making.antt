-- The members of String that make texts and arrays.
use Rattle.std.specs.Prelude.{ℕ, ◌+◌, ◌-◌, nat_le, Option, Some, None, List, [], ◌∷◌, ◌++◌, length, take, drop, map, reverse, ℤ, pos, if◌then◌else◌, slice_get}
use Rattle.object_values.specs.declared.object.Object.{Object}
use Rattle.object_values.specs.declared.value.Value.{Value}
use Rattle.object_values.specs.declared.value.Value.TheVariants as v
use Rattle.value_walks.specs.declared.TheConstants.{VISITS}
use Rattle.value_walks.specs.Texts.{text_of}
use Rattle.api_text.specs.declared.outcome.Outcome.{Outcome}
use Rattle.api_text.specs.declared.outcome.Outcome.TheVariants.{Makes, Chars, Texts}
use Rattle.member_arguments.specs.Arguments.{int_at, text_at, sequence_at}
use Rattle.api_text.specs.Arguments.{with_one, with_two, with_three}
use Rattle.api_text.specs.Outcomes.{followed_by}
use Rattle.api_text.specs.Pieces.{pieces, replaced}
use Rattle.api_text.specs.Sequences.{index_error, place_within}
use Rattle.api_text.specs.Texts.{to_lower, to_upper}

-- From one place up to another, each tested in its turn: the first has to be from 0 to the end, and the second from the first to
-- the end
abbrev pub cut_to : List ℕ → ℕ → ℤ → Option ℕ → Outcome
cut_to text start stop None = index_error stop (length text)
cut_to text start stop (Some end) = Makes (take (end - start) (drop start text))

abbrev pub cut_from : List ℕ → ℤ → ℤ → Option ℕ → Outcome
cut_from text start stop None = index_error start (length text)
cut_from text start stop (Some first) = cut_to text first stop (place_within first (length text) stop)

abbrev pub part_between : List ℕ → ℤ → ℤ → Outcome
part_between text start stop = cut_from text start stop (place_within 0 (length text) start)

-- from a place up to the end
abbrev pub rest_from : List ℕ → ℤ → Option ℕ → Outcome
rest_from text start None = index_error start (length text)
rest_from text start (Some first) = Makes (drop first text)

abbrev pub part_from : List ℕ → ℤ → Outcome
part_from text start = rest_from text start (place_within 0 (length text) start)

-- without the units up to 32 in front
abbrev pub trimmed_in_front : List ℕ → List ℕ
trimmed_in_front [] = []
trimmed_in_front (unit ∷ text) = if nat_le unit 32 then trimmed_in_front text else unit ∷ text

-- without those at the end
abbrev pub trimmed_behind : List ℕ → List ℕ
trimmed_behind text = reverse (trimmed_in_front (reverse text))

abbrev pub trimmed : List ℕ → Outcome
trimmed text = Makes (trimmed_behind (trimmed_in_front text))

abbrev pub lowered : List ℕ → Outcome
lowered text = Makes (map to_lower text)

abbrev pub raised : List ℕ → Outcome
raised text = Makes (map to_upper text)

abbrev pub both : List ℕ → List ℕ → Outcome
both text other = Makes (text ++ other)

abbrev pub with_replaced : List ℕ → List ℕ → List ℕ → Outcome
with_replaced text target by = Makes (replaced text target by)

-- an array of the units
abbrev pub chars_of : List ℕ → Outcome
chars_of text = Chars (map v.Char text)

-- what texts cost that are made: each its units and 1
abbrev pub cost_of : List (List ℕ) → ℕ
cost_of [] = 0
cost_of (text ∷ texts) = (length text + 1) + cost_of texts

-- an array of texts that are made
abbrev pub array_of : List (List ℕ) → Outcome
array_of texts = Texts (map v.Str texts) (cost_of texts)

-- the pieces between the occurrences of a token; null cuts nothing
abbrev pub split : List ℕ → Option (List ℕ) → ℤ → Outcome
split text None limit = array_of (text ∷ [])
split text (Some token) limit = array_of (pieces text token limit)

-- the text of a value
abbrev pub to_text : List Object → Value → Outcome
to_text objects value = followed_by (text_of objects value VISITS) Makes

-- valueOf
abbrev pub value_of : List Object → List Value → Outcome
value_of objects arguments = with_one (to_text objects) (slice_get arguments 0)

-- concat: a text behind this one
abbrev pub concat : List Object → List Value → Outcome
concat objects arguments = with_two both (text_at arguments 0) (text_at arguments 1)

-- replace: every occurrence of a sequence by another
abbrev pub replace : List Object → List Value → Outcome
replace objects arguments = with_three with_replaced (text_at arguments 0) (sequence_at objects arguments 1) (sequence_at objects arguments 2)

-- splitOnToken: into any number of pieces, and into at most so many
abbrev pub split_on_token : List Object → List Value → Outcome
split_on_token objects arguments = with_one (λ text. split text (text_at arguments 1) (pos 0)) (text_at arguments 0)

abbrev pub split_on_token_limited : List Object → List Value → Outcome
split_on_token_limited objects arguments = with_two (λ text limit. split text (text_at arguments 1) limit) (text_at arguments 0) (int_at arguments 2)

-- substring
abbrev pub substring_from : List Object → List Value → Outcome
substring_from objects arguments = with_two part_from (text_at arguments 0) (int_at arguments 1)

abbrev pub substring : List Object → List Value → Outcome
substring objects arguments = with_three part_between (text_at arguments 0) (int_at arguments 1) (int_at arguments 2)

-- toCharArray
abbrev pub to_char_array : List Object → List Value → Outcome
to_char_array objects arguments = with_one chars_of (text_at arguments 0)

-- toLowerCase, toUpperCase, of ASCII letters
abbrev pub to_lower_case : List Object → List Value → Outcome
to_lower_case objects arguments = with_one lowered (text_at arguments 0)

abbrev pub to_upper_case : List Object → List Value → Outcome
to_upper_case objects arguments = with_one raised (text_at arguments 0)

-- trim: without the units up to 32 at both ends
abbrev pub trim : List Object → List Value → Outcome
trim objects arguments = with_one trimmed (text_at arguments 0)
