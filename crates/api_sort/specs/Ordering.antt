-- Natural order among the values of a list: which of two comes first, and which values have no such order.
use Rattle.std.specs.Prelude.{nat_lt, Bool, true, false, Option, Some, None, List, [], ◌∷◌, ℤ, pos, length, drop, is_some, slice_get, if◌then◌else◌}
use Rattle.std.specs.Prelude.{int_lt}
use Rattle.object_values.specs.declared.object.Object.{Object}
use Rattle.object_values.specs.declared.value.Value.{Value}
use Rattle.number_ops.specs.Names.{compare_message}
use Rattle.number_ops.specs.Operators.{is_null}
use Rattle.number_ops.specs.Order.{natural}
use Rattle.container_outcomes.specs.declared.outcome.Outcome.{Outcome}
use Rattle.container_outcomes.specs.declared.outcome.Raised.TheVariants as raised
use Rattle.container_outcomes.specs.Outcomes.{Tells, null_error, says}

-- a value comes before another where natural order gives less than 0
abbrev pub is_less : Option ℤ → Bool
is_less None = false
is_less (Some difference) = int_lt difference (pos 0)

abbrev pub before : Value → Value → Bool
before a b = is_less (natural a b)

-- the first value that natural order does not compare with this one
abbrev pub first_other : Value → List Value → Option Value
first_other first [] = None
first_other first (value ∷ values) = if is_some (natural first value) then first_other first values else Some value

abbrev pub has_null : List Value → Bool
has_null [] = false
has_null (value ∷ values) = if is_null value then true else has_null values

-- values of which natural order does not compare one with the other
abbrev pub cannot_compare : List Object → Value → Value → Outcome
cannot_compare objects a b = says raised.ClassCast (compare_message objects a b)

abbrev pub other_refused : List Object → Value → Option Value → Option Outcome
other_refused objects first None = None
other_refused objects first (Some other) = Some (cannot_compare objects first other)

abbrev pub others_refused : List Object → List Value → Option Value → Option Outcome
others_refused objects values None = None
others_refused objects values (Some first) = other_refused objects first (first_other first (drop 1 values))

-- What is thrown where two values or more have no natural order: a null among them is an error, whatever the others are; and else
-- the first is named, and the first behind it that it is not compared with
abbrev pub refusal : List Object → List Value → Option Outcome
refusal objects values =
    if nat_lt (length values) 2 then None
    else (if has_null values then Some null_error
    else others_refused objects values (slice_get values 0))

abbrev pub or_refused : Option Outcome → Outcome → Outcome
or_refused None told = told
or_refused (Some refused) told = refused

-- what the code says of it
abbrev pub Refuses : Option Outcome → Option Outcome → Type 0
Refuses None None = Unit {0}
Refuses None (Some said) = ⊥
Refuses (Some told) None = ⊥
Refuses (Some told) (Some said) = Tells told said
