-- An order of all values which among values of one class is natural order.
use Rattle.std.specs.Prelude.{ℕ, Bool, true, false, List, [], ℤ, pos}
use Rattle.std.specs.Cmp.Lexicographic.{slice_cmp}
use Rattle.std.specs.declared.cmp.Ordering.{Ordering}
use Rattle.std.specs.Ordering.{int_cmp, is_lt, nat_cmp, ordering_then}
use Rattle.object_values.specs.declared.value.Value.{Value}
use Rattle.object_values.specs.declared.value.Value.TheVariants as v

-- the number of a number, a char and a truth value
abbrev pub number_of_flag : Bool → ℤ
number_of_flag false = pos 0
number_of_flag true = pos 1

abbrev pub number_in : Value → ℤ
number_in (v.Bool flag) = number_of_flag flag
number_in (v.Byte number) = number
number_in (v.Short number) = number
number_in (v.Char unit) = pos unit
number_in (v.Int number) = number
number_in (v.Long number) = number
number_in value = pos 0

-- the units of a text
abbrev pub units_in : Value → List ℕ
units_in (v.Str text) = text
units_in value = []

abbrev pub key_order : Value → Value → Ordering
key_order a b = ordering_then (int_cmp (number_in a) (number_in b)) (slice_cmp nat_cmp (units_in a) (units_in b))

abbrev pub key_before : Value → Value → Bool
key_before a b = is_lt (key_order a b)
