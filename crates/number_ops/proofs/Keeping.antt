-- What operators, casts and members come to fits the store.
use Rattle.std.proofs.Common.{◌≡◌, ℕ, ◌+◌, ◌||◌, ◌==◌, Bool, true, false, Option, Some, None, List, length, ℤ, refl, slice_get, if◌then◌else◌}
use Rattle.std.specs.Prelude.{pos, negsuc, int_lt, int_le, ◌&&◌, codes}
use Rattle.std.specs.Ordering.{int_eq}
use Rattle.pl_types.specs.declared.classes.TheConstants.{EXCEPTION, STRING}
use Rattle.pl_types.specs.Classes.{class_is_below, lineage_of, parents_of, class_row, class_table}
use Rattle.pl_types.specs.declared.primitive.Primitive.{Primitive}
use Rattle.pl_types.specs.declared.primitive.Primitive.TheVariants as prim
use Rattle.pl_types.specs.declared.ty.Ty.{Ty, out-Ty}
use Rattle.pl_types.specs.declared.ty.Ty.TheOpen.{Ty-F}
use Rattle.pl_types.specs.Casts.{reaches, unboxed}
use Rattle.object_values.specs.declared.object.Object.{Object}
use Rattle.object_values.specs.declared.value.Value.{Value}
use Rattle.object_values.specs.declared.value.Value.TheVariants as v
use Rattle.object_heap.specs.Effects as e
use Rattle.object_heap.specs.Fits.{Rules, Fits, ValueFits, EffectFits, value_is_of, value_is_array, kinds}
use Rattle.object_heap.specs.Store.{Store}
use Rattle.object_heap.proofs.Keeping.{after_fits, throws_fits}
use Rattle.value_walks.specs.declared.equality.Walked.{Walked}
use Rattle.value_walks.specs.declared.equality.Walked.TheVariants.{On, Deep, Large}
use Rattle.value_walks.specs.Equality.{equal_of}
use Rattle.value_walks.specs.Texts.{Text, Wrote, TooDeep, TooLarge, text_of}
use Rattle.value_walks.specs.declared.TheConstants.{VISITS}
use Rattle.arithmetic.specs.declared.operator.Op.{Op}
use Rattle.arithmetic.specs.declared.operator.Op.TheVariants as op
use Rattle.arithmetic.specs.declared.operator.Num.{Num}
use Rattle.arithmetic.specs.declared.operator.Num.TheVariants as n
use Rattle.arithmetic.specs.Operators.{arith_of}
use Rattle.number_ops.specs.declared.outcome.Raised.{Raised}
use Rattle.number_ops.specs.declared.outcome.Raised.TheVariants.{Arithmetic, ClassCast, IllegalState, NullPointer, NumberFormat}
use Rattle.number_ops.specs.declared.outcome.Outcome.{Outcome}
use Rattle.number_ops.specs.declared.outcome.Outcome.TheVariants.{Gives, Makes, Throws, NoMemory}
use Rattle.number_ops.specs.declared.casts.Casted.{Casted}
use Rattle.number_ops.specs.declared.casts.Casted.TheVariants as casted
use Rattle.number_ops.specs.declared.numbers.Constant.{Constant}
use Rattle.number_ops.specs.declared.numbers.Constant.TheVariants as constant
use Rattle.number_ops.specs.declared.numbers.OneInt.{OneInt}
use Rattle.number_ops.specs.declared.numbers.OneInt.TheVariants as int
use Rattle.number_ops.specs.declared.numbers.OneLong.{OneLong}
use Rattle.number_ops.specs.declared.numbers.OneLong.TheVariants as long
use Rattle.number_ops.specs.declared.numbers.Two.{Two}
use Rattle.number_ops.specs.declared.numbers.Two.TheVariants as two
use Rattle.number_ops.specs.declared.chars.OneChar.{OneChar}
use Rattle.number_ops.specs.declared.chars.OneChar.TheVariants as char
use Rattle.number_ops.specs.declared.member.Member.{Member}
use Rattle.number_ops.specs.declared.member.Member.TheVariants as m
use Rattle.member_arguments.specs.Arguments.{int_at, long_at, byte_at, char_at, flag_at}
use Rattle.number_ops.specs.Arguments.{with_one, with_two}
use Rattle.number_ops.specs.Casts as casts
use Rattle.number_ops.specs.Chars as chars
use Rattle.number_ops.specs.Members as members
use Rattle.number_ops.specs.Numbers as numbers
use Rattle.number_ops.specs.Operators as operators
use Rattle.number_ops.specs.Order as order
use Rattle.number_ops.specs.Outcomes.{class_raised, effect, is_text, says}

-- a value that is given is there
abbrev pub OutcomeFits : ℕ → Outcome → Type 0
OutcomeFits count (Gives value) = ValueFits count value
OutcomeFits count (Makes text) = Unit {0}
OutcomeFits count (Throws raised message) = Unit {0}
OutcomeFits count NoMemory = Unit {0}

raised_is : (raised : Raised) → class_is_below (class_raised raised) EXCEPTION ≡ true
unfolding class_is_below lineage_of parents_of class_row class_table
raised_is Arithmetic = refl
raised_is ClassCast = refl
raised_is IllegalState = refl
raised_is NullPointer = refl
raised_is NumberFormat = refl

pub settled : (rules : Rules) (store : Store) (outcome : Outcome) → Fits rules store.objects → OutcomeFits (length store.objects) outcome → EffectFits rules (effect store outcome)
settled rules store (Gives value) f h = (f, h)
settled rules store (Makes text) f h = after_fits rules store store.objects (length text + 1) (λ paid. e.Gives (v.Str text) paid) (λ room. (f, tt))
settled rules store (Throws raised message) f h = throws_fits rules store (class_raised raised) message f (raised_is raised)
settled rules store NoMemory f h = (f, tt)

says_fits : (count : ℕ) (raised : Raised) (message : List ℕ) → OutcomeFits count (says raised message)
unfolding says
says_fits count raised message = tt

chosen : (count : ℕ) (test : Bool) (x y : Outcome) → OutcomeFits count x → OutcomeFits count y → OutcomeFits count (if test then x else y)
chosen count true x y h k = h
chosen count false x y h k = k

chosen_value : (count : ℕ) (test : Bool) (x y : Value) → ValueFits count x → ValueFits count y → ValueFits count (if test then x else y)
chosen_value count true x y h k = h
chosen_value count false x y h k = k

truth_fits : (count : ℕ) (number : Num) → ValueFits count (operators.truth_in number)
truth_fits count (n.Int number) = tt
truth_fits count (n.Long number) = tt

boxed_fits : (count : ℕ) (number : Num) → ValueFits count (operators.boxed number)
boxed_fits count (n.Int number) = tt
boxed_fits count (n.Long number) = tt

calculated_fits : (count : ℕ) (o : Op) (number : Option Num) → OutcomeFits count (operators.calculated o number)
calculated_fits count o None = says_fits count Arithmetic (codes "/ by zero")
calculated_fits count o (Some number) = chosen_value count (operators.compares o) (operators.truth_in number) (operators.boxed number) (truth_fits count number) (boxed_fits count number)

refused_fits : (count : ℕ) (objects : List Object) (o : Op) (a b : Value) → OutcomeFits count (operators.refused objects o a b)
refused_fits count objects o a b = chosen count (operators.is_null a || operators.is_null b) _ _ tt (says_fits count ClassCast _)

flags_fit : (count : ℕ) (objects : List Object) (o : Op) (a b : Value) (flag : Option Bool) → OutcomeFits count (operators.flags_given objects o a b flag)
flags_fit count objects o a b None = refused_fits count objects o a b
flags_fit count objects o a b (Some flag) = tt

numbers_fit : (count : ℕ) (objects : List Object) (o : Op) (a b : Value) (left right : Option Num) → OutcomeFits count (operators.of_numbers objects o a b left right)
numbers_fit count objects o a b (Some left) (Some right) = calculated_fits count o (arith_of o left right)
numbers_fit count objects o a b (Some left) None = flags_fit count objects o a b (operators.flags_of o a b)
numbers_fit count objects o a b None right = flags_fit count objects o a b (operators.flags_of o a b)

binary_fits : (count : ℕ) (objects : List Object) (o : Op) (a b : Value) → OutcomeFits count (operators.binary objects o a b)
binary_fits count objects o a b = numbers_fit count objects o a b (operators.number_in a) (operators.number_in b)

followed_fits : (count : ℕ) (walk : Text) (next : List ℕ → Outcome) → ((text : List ℕ) → OutcomeFits count (next text)) → OutcomeFits count (operators.followed_by walk next)
followed_fits count (Wrote text visits) next h = h text
followed_fits count TooDeep next h = says_fits count IllegalState _
followed_fits count TooLarge next h = says_fits count IllegalState _

pub concatenated_fits : (count : ℕ) (objects : List Object) (a b : Value) → OutcomeFits count (operators.concatenated objects a b)
concatenated_fits count objects a b =
    followed_fits count (text_of objects a VISITS) (λ text. operators.after text objects b) (λ text. followed_fits count (text_of objects b VISITS) _ (λ more. tt))

unary_fits : (count : ℕ) (objects : List Object) (o : Op) (a : Value) (number : Option Num) → OutcomeFits count (operators.unary_of objects o a number)
unary_fits count objects o a None = chosen count (operators.is_null a) _ _ tt (says_fits count ClassCast _)
unary_fits count objects o a (Some number) = calculated_fits count o (arith_of o number number)

pub operate_fits : (count : ℕ) (objects : List Object) (o : Op) (a b : Value) → OutcomeFits count (operators.operate objects o a b)
operate_fits count objects o a b =
    chosen count (operators.is_sum o) _ _
    (chosen count (is_text a || is_text b) _ _ (concatenated_fits count objects a b) (binary_fits count objects op.Add a b))
    (chosen count (operators.is_unary o) _ _ (unary_fits count objects o a (operators.number_in a)) (binary_fits count objects o a b))

-- casts
abbrev pub CastedFits : ℕ → Casted → Type 0
CastedFits count casted.Kept = Unit {0}
CastedFits count (casted.To value) = ValueFits count value
CastedFits count (casted.Text unit) = Unit {0}
CastedFits count casted.Refused = Unit {0}

chosen_cast : (count : ℕ) (test : Bool) (x y : Casted) → CastedFits count x → CastedFits count y → CastedFits count (if test then x else y)
chosen_cast count true x y h k = h
chosen_cast count false x y h k = k

number_as_fits : (count : ℕ) (p : Primitive) (number : Num) → ValueFits count (casts.number_as p number)
number_as_fits count prim.Boolean number = tt
number_as_fits count prim.Byte number = tt
number_as_fits count prim.Short number = tt
number_as_fits count prim.Char number = tt
number_as_fits count prim.Int number = tt
number_as_fits count prim.Long number = tt

converted_fits : (count : ℕ) (p : Primitive) (number : Option Num) → CastedFits count (casts.converted p number)
converted_fits count p None = tt
converted_fits count p (Some number) = number_as_fits count p number

char_fits : (count : ℕ) (unit : Option ℕ) → CastedFits count (casts.char_given unit)
char_fits count None = tt
char_fits count (Some unit) = tt

text_fits : (count : ℕ) (unit : Option ℕ) → CastedFits count (casts.text_given unit)
text_fits count None = tt
text_fits count (Some unit) = tt

box_fits : (count : ℕ) (p : Primitive) (explicit : Bool) (value : Value) (source : Option Primitive) → CastedFits count (casts.from_box p explicit value source)
box_fits count p explicit value None = char_fits count (casts.text_to_char p explicit value)
box_fits count p explicit value (Some source) = chosen_cast count (reaches source p explicit) _ _ (converted_fits count p (operators.number_in value)) tt

class_fits : (count : ℕ) (objects : List Object) (class : ℕ) (explicit : Bool) (value : Value) (p : Option Primitive) → CastedFits count (casts.to_class_of objects class explicit value p)
class_fits count objects class explicit value None =
    chosen_cast count (value_is_of (kinds objects) class value) _ _ tt (chosen_cast count (class == STRING) _ _ (text_fits count (casts.char_to_text explicit value)) tt)
class_fits count objects class explicit value (Some p) = box_fits count p explicit value (casts.primitive_in value)

layer_fits : (count : ℕ) (objects : List Object) (layer : Ty-F Ty) (explicit : Bool) (value : Value) → CastedFits count (casts.to_layer objects layer explicit value)
layer_fits count objects Ty-F.Void explicit value = tt
layer_fits count objects Ty-F.Null explicit value = tt
layer_fits count objects Ty-F.Def explicit value = tt
layer_fits count objects (Ty-F.Prim p) explicit value = box_fits count p explicit value (casts.primitive_in value)
layer_fits count objects (Ty-F.Class class) explicit value = class_fits count objects class explicit value (unboxed class)
layer_fits count objects (Ty-F.Array elem) explicit value = chosen_cast count (value_is_array (kinds objects) elem value) _ _ tt tt

given_fits : (count : ℕ) (objects : List Object) (value : Value) (to : Ty) (made : Casted) → ValueFits count value → CastedFits count made → OutcomeFits count (casts.given objects value to made)
given_fits count objects value to casted.Kept h k = h
given_fits count objects value to (casted.To made) h k = k
given_fits count objects value to (casted.Text unit) h k = tt
given_fits count objects value to casted.Refused h k = says_fits count ClassCast _

null_fits : (count : ℕ) (layer : Ty-F Ty) → OutcomeFits count (casts.of_null layer)
null_fits count (Ty-F.Prim p) = tt
null_fits count layer = tt

pub cast_fits : (count : ℕ) (objects : List Object) (value : Value) (to : Ty) (explicit : Bool) → ValueFits count value → OutcomeFits count (casts.cast_at_run_time objects value to explicit)
cast_fits count objects value to explicit h =
    chosen count (operators.is_null value) _ _ (null_fits count (out-Ty to))
    (given_fits count objects value to (casts.to_layer objects (out-Ty to) explicit value) h (layer_fits count objects (out-Ty to) explicit value))

-- members
one_fits : {A : Type 0} → (count : ℕ) (f : A → Outcome) (a : Option A) → ((x : A) → OutcomeFits count (f x)) → OutcomeFits count (with_one f a)
one_fits count f None h = tt
one_fits count f (Some a) h = h a

two_fit : {A : Type 0} → (count : ℕ) (f : A → A → Outcome) (a b : Option A) → ((x y : A) → OutcomeFits count (f x y)) → OutcomeFits count (with_two f a b)
two_fit count f None b h = tt
two_fit count f (Some a) None h = tt
two_fit count f (Some a) (Some b) h = h a b

found_fits : (count : ℕ) (walk : Walked) → OutcomeFits count (order.found_of walk)
found_fits count (On equal visits) = tt
found_fits count Deep = says_fits count IllegalState _
found_fits count Large = says_fits count IllegalState _

ordered_fits : (count : ℕ) (objects : List Object) (a b : Value) (found : Option ℤ) → OutcomeFits count (order.ordered objects a b found)
ordered_fits count objects a b (Some found) = tt
ordered_fits count objects a b None = chosen count (operators.is_null a) _ _ tt (chosen count (operators.is_null b) _ _ tt (says_fits count ClassCast _))

number_fits : (count : ℕ) (p : Primitive) (number : Option Num) → OutcomeFits count (members.number_as_of p number)
number_fits count p None = tt
number_fits count p (Some number) = number_as_fits count p number

constant_fits : (count : ℕ) (field : Constant) → ValueFits count (numbers.constant_of field)
constant_fits count constant.ByteMost = tt
constant_fits count constant.ByteLeast = tt
constant_fits count constant.ShortMost = tt
constant_fits count constant.ShortLeast = tt
constant_fits count constant.IntMost = tt
constant_fits count constant.IntLeast = tt
constant_fits count constant.LongMost = tt
constant_fits count constant.LongLeast = tt
constant_fits count constant.CharMost = tt
constant_fits count constant.CharLeast = tt

sign_fits : (count : ℕ) (a : ℤ) → OutcomeFits count (numbers.sign a)
sign_fits count a = chosen count (int_lt a (pos 0)) _ _ tt (chosen count (int_eq a (pos 0)) _ _ tt tt)

int_fits : (count : ℕ) (member : OneInt) (a : ℤ) → OutcomeFits count (numbers.of_int member a)
int_fits count int.BitCount a = tt
int_fits count int.Signum a = sign_fits count a
int_fits count int.ToBinary a = tt
int_fits count int.ToHex a = tt
int_fits count int.ToText a = tt
int_fits count int.ValueOf a = tt

long_fits : (count : ℕ) (member : OneLong) (a : ℤ) → OutcomeFits count (numbers.of_long member a)
long_fits count long.BitCount a = tt
long_fits count long.Signum a = sign_fits count a
long_fits count long.ToBinary a = tt
long_fits count long.ToHex a = tt
long_fits count long.ToText a = tt
long_fits count long.ValueOf a = tt
long_fits count long.Abs a = tt
long_fits count long.ToIntExact a = chosen count (int_le (negsuc 2147483647) a && int_le a (pos 2147483647)) _ _ tt (says_fits count Arithmetic _)

ints_fit : (count : ℕ) (member : Two) (a b : ℤ) → OutcomeFits count (numbers.of_ints member a b)
ints_fit count two.Compare a b = tt
ints_fit count two.Max a b = tt
ints_fit count two.Min a b = tt
ints_fit count two.FloorDiv a b = tt
ints_fit count two.FloorMod a b = tt

floored_fits : (count : ℕ) (b : ℤ) (quotient rest : Option ℤ) → OutcomeFits count (numbers.floored b quotient rest)
floored_fits count b (Some quotient) (Some rest) = tt
floored_fits count b (Some quotient) None = says_fits count Arithmetic _
floored_fits count b None rest = says_fits count Arithmetic _

rest_fits : (count : ℕ) (b : ℤ) (rest : Option ℤ) → OutcomeFits count (numbers.floor_rest b rest)
rest_fits count b (Some rest) = tt
rest_fits count b None = says_fits count Arithmetic _

longs_fit : (count : ℕ) (member : Two) (a b : ℤ) → OutcomeFits count (numbers.of_longs member a b)
longs_fit count two.Compare a b = tt
longs_fit count two.Max a b = tt
longs_fit count two.Min a b = tt
longs_fit count two.FloorDiv a b = floored_fits count b _ _
longs_fit count two.FloorMod a b = rest_fits count b _

int_parsed_fits : (count : ℕ) (number : Option ℤ) → OutcomeFits count (numbers.int_parsed number)
int_parsed_fits count None = says_fits count NumberFormat _
int_parsed_fits count (Some number) = tt

long_parsed_fits : (count : ℕ) (number : Option ℤ) → OutcomeFits count (numbers.long_parsed number)
long_parsed_fits count None = says_fits count NumberFormat _
long_parsed_fits count (Some number) = tt

parse_int_fits : (count : ℕ) (value : Value) → OutcomeFits count (numbers.parse_int_of value)
parse_int_fits count (v.Str text) = int_parsed_fits count _
parse_int_fits count value = says_fits count NumberFormat _

parse_long_fits : (count : ℕ) (value : Value) → OutcomeFits count (numbers.parse_long_of value)
parse_long_fits count (v.Str text) = long_parsed_fits count _
parse_long_fits count value = says_fits count NumberFormat _

char_member_fits : (count : ℕ) (member : OneChar) (unit : ℕ) → ValueFits count (chars.of_char member unit)
char_member_fits count char.CharValue unit = tt
char_member_fits count char.IsDigit unit = tt
char_member_fits count char.IsLetter unit = tt
char_member_fits count char.IsLetterOrDigit unit = tt
char_member_fits count char.IsLowerCase unit = tt
char_member_fits count char.IsUpperCase unit = tt
char_member_fits count char.IsWhitespace unit = tt
char_member_fits count char.ToLowerCase unit = tt
char_member_fits count char.ToUpperCase unit = tt

does_fits : (count : ℕ) (objects : List Object) (member : Member) (arguments : List Value) → OutcomeFits count (members.does objects member arguments)
does_fits count objects m.Equals arguments =
    two_fit {A = Value} count (order.equals objects) (slice_get arguments 0) (slice_get arguments 1) (λ a b. found_fits count (equal_of objects a b VISITS))
does_fits count objects m.ToText arguments =
    one_fits {A = Value} count (order.to_text objects) (slice_get arguments 0) (λ value. followed_fits count (text_of objects value VISITS) Makes (λ text. tt))
does_fits count objects m.CompareTo arguments =
    two_fit {A = Value} count (order.compare objects) (slice_get arguments 0) (slice_get arguments 1) (λ a b. ordered_fits count objects a b (order.natural a b))
does_fits count objects (m.NumberAs p) arguments =
    one_fits {A = Value} count (members.number_value p) (slice_get arguments 0) (λ value. number_fits count p (operators.number_in value))
does_fits count objects (m.Field field) arguments = constant_fits count field
does_fits count objects m.UnsignedByte arguments = one_fits {A = ℤ} count numbers.unsigned_byte (byte_at arguments 0) (λ a. tt)
does_fits count objects (m.OfInt member) arguments = one_fits {A = ℤ} count (numbers.of_int member) (int_at arguments 0) (int_fits count member)
does_fits count objects (m.OfInts member) arguments = two_fit {A = ℤ} count (numbers.of_ints member) (int_at arguments 0) (int_at arguments 1) (ints_fit count member)
does_fits count objects (m.OfLong member) arguments = one_fits {A = ℤ} count (numbers.of_long member) (long_at arguments 0) (long_fits count member)
does_fits count objects (m.OfLongs member) arguments = two_fit {A = ℤ} count (numbers.of_longs member) (long_at arguments 0) (long_at arguments 1) (longs_fit count member)
does_fits count objects m.ParseInt arguments = one_fits {A = Value} count numbers.parse_int_of (slice_get arguments 0) (parse_int_fits count)
does_fits count objects m.ParseLong arguments = one_fits {A = Value} count numbers.parse_long_of (slice_get arguments 0) (parse_long_fits count)
does_fits count objects (m.OfChar member) arguments = one_fits {A = ℕ} count (members.char_member member) (char_at arguments 0) (char_member_fits count member)
does_fits count objects m.BooleanValue arguments = one_fits {A = Bool} count (λ flag. Gives (v.Bool flag)) (flag_at arguments 0) (λ flag. tt)
does_fits count objects m.BooleanCompare arguments =
    two_fit {A = Bool} count (λ a b. Gives (v.Int (chars.flag_order a b))) (flag_at arguments 0) (flag_at arguments 1) (λ a b. tt)
does_fits count objects m.ParseBoolean arguments = one_fits {A = Value} count (λ value. Gives (v.Bool (chars.parse_flag value))) (slice_get arguments 0) (λ value. tt)

pub numbered_fits : (count : ℕ) (objects : List Object) (found : Option Member) (arguments : List Value) → OutcomeFits count (members.does_found objects found arguments)
numbered_fits count objects None arguments = tt
numbered_fits count objects (Some member) arguments = does_fits count objects member arguments
