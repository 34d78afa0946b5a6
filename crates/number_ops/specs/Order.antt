-- Natural order, and the members of Object and Comparable.
use Rattle.std.specs.Prelude.{ℕ, ◌==◌, nat_le, Bool, true, false, Option, Some, None, List, [], ◌∷◌, length, ℤ, pos, neg_ℤ, ◌-ℤ◌, if◌then◌else◌}
use Rattle.object_values.specs.declared.object.Object.{Object}
use Rattle.object_values.specs.declared.value.Value.{Value}
use Rattle.object_values.specs.declared.value.Value.TheVariants as v
use Rattle.value_walks.specs.declared.TheConstants.{VISITS}
use Rattle.value_walks.specs.declared.equality.Walked.{Walked}
use Rattle.value_walks.specs.declared.equality.Walked.TheVariants.{On, Deep, Large}
use Rattle.value_walks.specs.Equality.{equal_of}
use Rattle.value_walks.specs.Texts.{text_of}
use Rattle.number_ops.specs.declared.outcome.Outcome.{Outcome}
use Rattle.number_ops.specs.declared.outcome.Outcome.TheVariants.{Gives, Makes}
use Rattle.number_ops.specs.Outcomes.{null_error, too_deep, too_large}
use Rattle.number_ops.specs.Names.{cannot_compare}
use Rattle.number_ops.specs.Operators.{is_null, followed_by}
use Rattle.number_ops.specs.Numbers.{comparison}
use Rattle.number_ops.specs.Chars.{flag_order}

-- a length as an int, at most the greatest one
abbrev pub length_as_int : ℕ → ℤ
length_as_int n = if nat_le n 2147483647 then pos n else pos 2147483647

-- whether two texts differ at a place, by the units there, or one of them ends there
abbrev pub differs : Option ℕ → Option ℕ → Bool
differs None next = true
differs (Some unit) None = true
differs (Some unit) (Some next) = if unit == next then false else true

-- what they differ by there, by the units, if any, and the lengths from there on
abbrev pub difference : Option ℕ → Option ℕ → ℕ → ℕ → ℤ
difference None next rest other = neg_ℤ (length_as_int other)
difference (Some unit) None rest other = length_as_int rest
difference (Some unit) (Some next) rest other = pos unit -ℤ pos next

-- the difference of the first units that differ, and else of the lengths
abbrev pub text_order : List ℕ → List ℕ → ℤ
text_order [] other = neg_ℤ (length_as_int (length other))
text_order (unit ∷ text) [] = length_as_int (length (unit ∷ text))
text_order (unit ∷ text) (next ∷ other) = if unit == next then text_order text other else pos unit -ℤ pos next

-- Values of one class: ints, longs and truth values give -1, 0 or 1, and bytes, shorts, chars and texts a difference
abbrev pub int_order : ℤ → Value → Option ℤ
int_order a (v.Int b) = Some (comparison a b)
int_order a value = None

abbrev pub long_order : ℤ → Value → Option ℤ
long_order a (v.Long b) = Some (comparison a b)
long_order a value = None

abbrev pub truth_order : Bool → Value → Option ℤ
truth_order a (v.Bool b) = Some (flag_order a b)
truth_order a value = None

abbrev pub byte_order : ℤ → Value → Option ℤ
byte_order a (v.Byte b) = Some (a -ℤ b)
byte_order a value = None

abbrev pub short_order : ℤ → Value → Option ℤ
short_order a (v.Short b) = Some (a -ℤ b)
short_order a value = None

abbrev pub char_order : ℕ → Value → Option ℤ
char_order a (v.Char b) = Some (pos a -ℤ pos b)
char_order a value = None

abbrev pub order_of_text : List ℕ → Value → Option ℤ
order_of_text a (v.Str b) = Some (text_order a b)
order_of_text a value = None

-- none of values that are not of one such class
abbrev pub natural : Value → Value → Option ℤ
natural (v.Int a) b = int_order a b
natural (v.Long a) b = long_order a b
natural (v.Bool a) b = truth_order a b
natural (v.Byte a) b = byte_order a b
natural (v.Short a) b = short_order a b
natural (v.Char a) b = char_order a b
natural (v.Str a) b = order_of_text a b
natural v.Null b = None
natural (v.Ref id) b = None

abbrev pub ordered : List Object → Value → Value → Option ℤ → Outcome
ordered objects a b (Some order) = Gives (v.Int order)
ordered objects a b None = if is_null a then null_error else (if is_null b then null_error else cannot_compare objects a b)

-- natural order: null is an error, and so are values that are not of one class of those that it compares
abbrev pub compare : List Object → Value → Value → Outcome
compare objects a b = ordered objects a b (natural a b)

abbrev pub found_of : Walked → Outcome
found_of (On equal visits) = Gives (v.Bool equal)
found_of Deep = too_deep
found_of Large = too_large

-- deep equality
abbrev pub equals : List Object → Value → Value → Outcome
equals objects a b = found_of (equal_of objects a b VISITS)

-- the text of a value
abbrev pub to_text : List Object → Value → Outcome
to_text objects value = followed_by (text_of objects value VISITS) Makes
