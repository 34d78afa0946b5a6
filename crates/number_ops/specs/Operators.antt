-- Operators on values whose types are found at run time.
use Rattle.std.specs.Prelude.{ℕ, ◌||◌, Bool, true, false, not, Option, Some, None, List, ◌++◌, pos, if◌then◌else◌}
use Rattle.std.specs.Ordering.{int_eq}
use Rattle.pl_types.specs.declared.ty.Ty.{Ty}
use Rattle.object_values.specs.declared.object.Object.{Object}
use Rattle.object_values.specs.declared.value.Value.{Value}
use Rattle.object_values.specs.declared.value.Value.TheVariants as v
use Rattle.object_heap.specs.Fits.{class_is_of, class_of_kind, kind_is_of, is_array_of}
use Rattle.object_heap.specs.Objects.{kind_of}
use Rattle.arithmetic.specs.declared.operator.Op.{Op}
use Rattle.arithmetic.specs.declared.operator.Op.TheVariants as op
use Rattle.arithmetic.specs.declared.operator.Num.{Num}
use Rattle.arithmetic.specs.declared.operator.Num.TheVariants as n
use Rattle.arithmetic.specs.Operators.{arith_of}
use Rattle.value_walks.specs.declared.TheConstants.{VISITS}
use Rattle.value_walks.specs.Texts.{Text, Wrote, TooDeep, TooLarge, follow, text_of}
use Rattle.number_ops.specs.declared.outcome.Outcome.{Outcome}
use Rattle.number_ops.specs.declared.outcome.Outcome.TheVariants.{Gives, Makes}
use Rattle.number_ops.specs.Outcomes.{is_text, null_error, zero_divisor, too_deep, too_large}
use Rattle.number_ops.specs.Names.{cannot_apply, cannot_apply_to_one}

-- The number in a box, as an operator takes it: bytes, shorts and chars become ints
abbrev pub number_in : Value → Option Num
number_in (v.Byte number) = Some (n.Int number)
number_in (v.Short number) = Some (n.Int number)
number_in (v.Char unit) = Some (n.Int (pos unit))
number_in (v.Int number) = Some (n.Int number)
number_in (v.Long number) = Some (n.Long number)
number_in value = None

abbrev pub is_null : Value → Bool
is_null v.Null = true
is_null value = false

-- an object is of a class or below it, if it has one
abbrev pub has_class : ℕ → Object → Bool
has_class wanted object = class_is_of wanted (class_of_kind (kind_of object))

abbrev pub object_is_of : ℕ → Object → Bool
object_is_of wanted object = kind_is_of wanted (kind_of object)

abbrev pub object_is_array : Ty → Object → Bool
object_is_array elem object = is_array_of elem (kind_of object)

abbrev pub boxed : Num → Value
boxed (n.Int number) = v.Int number
boxed (n.Long number) = v.Long number

-- the truth value that a comparison's number stands for: whether it is not 0
abbrev pub truth_in : Num → Value
truth_in (n.Int number) = v.Bool (not (int_eq number (pos 0)))
truth_in (n.Long number) = v.Bool (not (int_eq number (pos 0)))

-- comparisons give truth values
abbrev pub compares : Op → Bool
compares op.Lt = true
compares op.Le = true
compares op.Gt = true
compares op.Ge = true
compares op.Eq = true
compares op.Ne = true
compares o = false

abbrev pub is_unary : Op → Bool
is_unary op.Neg = true
is_unary op.Not = true
is_unary op.Pos = true
is_unary o = false

abbrev pub of_result : Op → Num → Value
of_result o number = if compares o then truth_in number else boxed number

abbrev pub calculated : Op → Option Num → Outcome
calculated o None = zero_divisor
calculated o (Some number) = Gives (of_result o number)

-- of two truth values: none where the operator takes none
abbrev pub and_flags : Bool → Bool → Bool
and_flags true b = b
and_flags false b = false

abbrev pub or_flags : Bool → Bool → Bool
or_flags true b = true
or_flags false b = b

abbrev pub xor_flags : Bool → Bool → Bool
xor_flags true b = not b
xor_flags false b = b

abbrev pub of_flags : Op → Bool → Bool → Option Bool
of_flags op.And a b = Some (and_flags a b)
of_flags op.Or a b = Some (or_flags a b)
of_flags op.Xor a b = Some (xor_flags a b)
of_flags o a b = None

-- an operand that an operator does not take: null, and then a wrong kind
abbrev pub refused : List Object → Op → Value → Value → Outcome
refused objects o a b = if is_null a || is_null b then null_error else cannot_apply objects o a b

abbrev pub flags_given : List Object → Op → Value → Value → Option Bool → Outcome
flags_given objects o a b None = refused objects o a b
flags_given objects o a b (Some flag) = Gives (v.Bool flag)

-- of operands that are two truth values
abbrev pub with_flag : Op → Bool → Value → Option Bool
with_flag o a (v.Bool b) = of_flags o a b
with_flag o a value = None

abbrev pub flags_of : Op → Value → Value → Option Bool
flags_of o (v.Bool a) b = with_flag o a b
flags_of o value b = None

-- operands that are not both numbers
abbrev pub of_others : List Object → Op → Value → Value → Outcome
of_others objects o a b = flags_given objects o a b (flags_of o a b)

abbrev pub of_numbers : List Object → Op → Value → Value → Option Num → Option Num → Outcome
of_numbers objects o a b (Some left) (Some right) = calculated o (arith_of o left right)
of_numbers objects o a b (Some left) None = of_others objects o a b
of_numbers objects o a b None right = of_others objects o a b

-- the text of a walk
abbrev pub followed_by : Text → (List ℕ → Outcome) → Outcome
followed_by (Wrote text visits) next = next text
followed_by TooDeep next = too_deep
followed_by TooLarge next = too_large

-- a text and then that of a value
abbrev pub after : List ℕ → List Object → Value → Outcome
after text objects value = followed_by (text_of objects value VISITS) (λ more. Makes (text ++ more))

-- the text of one value and then that of another, as one walk. Each has a budget of visits of its own
abbrev pub both_texts : List Object → Value → Value → Text
both_texts objects a b = follow (text_of objects a VISITS) (λ rest. text_of objects b VISITS)

-- the text of one value and then that of another
abbrev pub concatenated : List Object → Value → Value → Outcome
concatenated objects a b = followed_by (text_of objects a VISITS) (λ text. after text objects b)

abbrev pub binary : List Object → Op → Value → Value → Outcome
binary objects o a b = of_numbers objects o a b (number_in a) (number_in b)

-- `+` concatenates where one side is a text
abbrev pub sum : List Object → Value → Value → Outcome
sum objects a b = if is_text a || is_text b then concatenated objects a b else binary objects op.Add a b

-- with one operand
abbrev pub unary_of : List Object → Op → Value → Option Num → Outcome
unary_of objects o a None = if is_null a then null_error else cannot_apply_to_one objects o a
unary_of objects o a (Some number) = calculated o (arith_of o number number)

abbrev pub is_sum : Op → Bool
is_sum op.Add = true
is_sum o = false

-- what an operator comes to whose operands have any types; of an operator of one operand the second is not looked at
abbrev pub operate : List Object → Op → Value → Value → Outcome
operate objects o a b =
    if is_sum o then sum objects a b else (if is_unary o then unary_of objects o a (number_in a) else binary objects o a b)
