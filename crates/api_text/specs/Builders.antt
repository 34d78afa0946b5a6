-- The members of StringBuilder. Those that change a builder give it, but for setLength.
use Rattle.std.specs.Prelude.{ℕ, ◌+◌, ◌-◌, Bool, true, false, Option, Some, None, List, [], ◌++◌, length, take, drop, ℤ, pos, negsuc, replicate, slice_get}
use Rattle.object_values.specs.declared.object.Object.{Object}
use Rattle.object_values.specs.declared.object.Object.TheVariants as o
use Rattle.object_values.specs.declared.value.Value.{Value}
use Rattle.object_values.specs.declared.value.Value.TheVariants as v
use Rattle.object_heap.specs.Parts.{units_of}
use Rattle.value_walks.specs.declared.TheConstants.{VISITS}
use Rattle.value_walks.specs.Texts.{text_of}
use Rattle.api_text.specs.declared.outcome.Outcome.{Outcome}
use Rattle.api_text.specs.declared.outcome.Outcome.TheVariants.{NewBuilder, Extends, Becomes}
use Rattle.member_arguments.specs.Arguments.{int_at, text_at, object_at, sequence_at}
use Rattle.api_text.specs.Arguments.{with_one, with_two, with_three}
use Rattle.api_text.specs.Outcomes.{followed_by}
use Rattle.api_text.specs.Sequences.{index_error, place_before, place_within}
use Rattle.api_text.specs.Texts.{place_of}

-- whether there is a builder
abbrev pub is_builder : Option Object → Bool
is_builder (Some (o.Builder units)) = true
is_builder found = false

-- the text of a value at the end
abbrev pub appended : List Object → ℕ → Value → Outcome
appended objects builder value = followed_by (text_of objects value VISITS) (Extends builder)

-- units in the place of those from one place up to another
abbrev pub with_run : ℕ → List ℕ → ℕ → ℕ → List ℕ → Value → Outcome
with_run builder units from to more value = Becomes builder (take from units ++ more ++ drop to units) value

-- a text at a place from 0 to the end
abbrev pub put_there : ℕ → List ℕ → List ℕ → ℕ → Outcome
put_there builder units text place = Becomes builder (take place units ++ text ++ drop place units) (v.Ref builder)

abbrev pub put_in : ℕ → List ℕ → ℤ → List ℕ → Option ℕ → Outcome
put_in builder units at text None = index_error at (length units)
put_in builder units at text (Some place) = put_there builder units text place

abbrev pub put_at : ℕ → List ℕ → ℤ → List ℕ → Outcome
put_at builder units at text = put_in builder units at text (place_within 0 (length units) at)

-- the text of a value at a place: the text is made before the place is tested
abbrev pub inserted : List Object → ℕ → ℤ → Value → Outcome
inserted objects builder at value = followed_by (text_of objects value VISITS) (put_at builder (units_of objects builder) at)

-- without the unit at a place
abbrev pub deleted_there : ℕ → List ℕ → ℕ → Outcome
deleted_there builder units place = Becomes builder (take place units ++ drop (place + 1) units) (v.Ref builder)

abbrev pub deleted_in : ℕ → List ℕ → ℤ → Option ℕ → Outcome
deleted_in builder units at None = index_error at (length units)
deleted_in builder units at (Some place) = deleted_there builder units place

abbrev pub deleted : List Object → ℕ → ℤ → Outcome
deleted objects builder at = deleted_in builder (units_of objects builder) at (place_before (length (units_of objects builder)) at)

-- cut, or filled with unit 0, to a length
abbrev pub units_resized : ℕ → List ℕ → List ℕ
units_resized count units = take count units ++ replicate (count - length units) 0

abbrev pub set_there : ℕ → List ℕ → ℕ → Outcome
set_there builder units count = Becomes builder (units_resized count units) v.Null

-- a length is not negative
abbrev pub set_to : ℕ → List ℕ → ℤ → Outcome
set_to builder units (pos count) = set_there builder units count
set_to builder units (negsuc n) = index_error (negsuc n) (length units)

abbrev pub resized : List Object → ℕ → ℤ → Outcome
resized objects builder count = set_to builder (units_of objects builder) count

abbrev pub copied : List ℕ → Outcome
copied units = NewBuilder units

-- the constructors: of no units, and of those of a sequence
abbrev pub new_builder : List Object → List Value → Outcome
new_builder objects arguments = NewBuilder []

abbrev pub new_builder_of : List Object → List Value → Outcome
new_builder_of objects arguments = with_one copied (sequence_at objects arguments 0)

-- append: the text of a value at the end
abbrev pub append : List Object → List Value → Outcome
append objects arguments = with_two (appended objects) (object_at arguments 0) (slice_get arguments 1)

-- deleteCharAt
abbrev pub delete_char_at : List Object → List Value → Outcome
delete_char_at objects arguments = with_two (deleted objects) (object_at arguments 0) (int_at arguments 1)

-- indexOf: the first place of a text
abbrev pub builder_index_of : List Object → List Value → Outcome
builder_index_of objects arguments = with_two place_of (sequence_at objects arguments 0) (text_at arguments 1)

-- insert: the text of a value at a place
abbrev pub insert : List Object → List Value → Outcome
insert objects arguments = with_three (inserted objects) (object_at arguments 0) (int_at arguments 1) (slice_get arguments 2)

-- setLength
abbrev pub set_length : List Object → List Value → Outcome
set_length objects arguments = with_two (resized objects) (object_at arguments 0) (int_at arguments 1)
