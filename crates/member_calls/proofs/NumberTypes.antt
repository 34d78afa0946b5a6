-- What members give is of their types.
use Rattle.std.proofs.Common.{◌≡◌, ℕ, ◌&&◌, Bool, true, false, ℤ, Option, Some, None, List, refl, slice_get, if◌then◌else◌}
use Rattle.std.specs.Prelude.{pos, negsuc, int_lt, int_le}
use Rattle.std.specs.Ordering.{int_eq}
use Rattle.pl_types.specs.declared.primitive.Primitive.{Primitive}
use Rattle.pl_types.specs.declared.primitive.Primitive.TheVariants as prim
use Rattle.object_values.specs.declared.object.Object.{Object}
use Rattle.object_values.specs.declared.value.Value.{Value}
use Rattle.object_values.specs.declared.value.Value.TheVariants as v
use Rattle.api_text.specs.value_walks_declared.equality.Walked.{Walked}
use Rattle.api_text.specs.value_walks_declared.equality.Walked.TheVariants.{On, Deep, Large}
use Rattle.api_text.specs.Equality.{equal_of}
use Rattle.number_ops.specs.Texts.{Text, Wrote, TooDeep, TooLarge, text_of}
use Rattle.api_text.specs.value_walks_declared.TheConstants.{VISITS}
use Rattle.arithmetic.specs.declared.operator.Num.{Num}
use Rattle.number_ops.specs.declared.numbers.Constant.{Constant}
use Rattle.number_ops.specs.declared.numbers.Constant.TheVariants as constant
use Rattle.number_ops.specs.declared.numbers.OneInt.{OneInt}
use Rattle.number_ops.specs.declared.numbers.OneInt.TheVariants as int
use Rattle.number_ops.specs.declared.numbers.OneLong.{OneLong}
use Rattle.number_ops.specs.declared.numbers.OneLong.TheVariants as long
use Rattle.number_ops.specs.declared.numbers.Two.{Two}
use Rattle.number_ops.specs.declared.numbers.Two.TheVariants as two
use Rattle.number_ops.specs.declared.chars.OneChar.{OneChar}
use Rattle.number_ops.specs.declared.chars.OneChar.TheVariants as char
use Rattle.number_ops.specs.declared.member.Member.{Member as NumberMember}
use Rattle.number_ops.specs.declared.member.Member.TheVariants as m
use Rattle.number_ops.specs.declared.outcome.Raised.{Raised}
use Rattle.number_ops.specs.declared.outcome.Raised.TheVariants.{Arithmetic, ClassCast, IllegalState, NumberFormat}
use Rattle.number_ops.specs.declared.outcome.Outcome.{Outcome as NumberOutcome}
use Rattle.number_ops.specs.declared.outcome.Outcome.TheVariants as outcome
use Rattle.container_calls.specs.Arguments.{int_at, long_at, byte_at, char_at, flag_at}
use Rattle.number_ops.specs.Arguments.{with_one, with_two}
use Rattle.number_ops.specs.Casts.{number_as}
use Rattle.number_ops.specs.Chars as chars
use Rattle.number_ops.specs.Members as numbers
use Rattle.number_ops.specs.Numbers as values
use Rattle.number_ops.specs.Operators as operators
use Rattle.number_ops.specs.Order as order
use Rattle.number_ops.specs.Outcomes as number_outcomes
use Rattle.container_calls.specs.Types.{suits}

-- ---- outcomes of numbers

abbrev pub NumberGives : Option Primitive → NumberOutcome → Type 0
NumberGives wanted (outcome.Gives value) = suits wanted value ≡ true
NumberGives wanted (outcome.Makes text) = suits wanted (v.Str text) ≡ true
NumberGives wanted (outcome.Throws raised message) = Unit {0}
NumberGives wanted outcome.NoMemory = suits wanted v.Null ≡ true

says_gives : (wanted : Option Primitive) (raised : Raised) (message : List ℕ) → NumberGives wanted (number_outcomes.says raised message)
unfolding number_outcomes.says
says_gives wanted raised message = tt

chosen : (wanted : Option Primitive) (test : Bool) (a b : NumberOutcome) → NumberGives wanted a → NumberGives wanted b → NumberGives wanted (if test then a else b)
chosen wanted true a b h g = h
chosen wanted false a b h g = g

-- ---- arguments, which throw where they are of another kind

one_gives : {A : Type 0} → (wanted : Option Primitive) (f : A → NumberOutcome) (found : Option A) → ((a : A) → NumberGives wanted (f a)) → NumberGives wanted (with_one f found)
one_gives wanted f None h = tt
one_gives wanted f (Some a) h = h a

two_give : {A : Type 0} → (wanted : Option Primitive) (f : A → A → NumberOutcome) (first second : Option A) → ((a b : A) → NumberGives wanted (f a b)) → NumberGives wanted (with_two f first second)
two_give wanted f None second h = tt
two_give wanted f (Some a) None h = tt
two_give wanted f (Some a) (Some b) h = h a b

-- ---- what each gives

abbrev pub int_given : OneInt → Option Primitive
int_given int.BitCount = Some prim.Int
int_given int.Signum = Some prim.Int
int_given other = None

abbrev pub long_given : OneLong → Option Primitive
long_given long.BitCount = Some prim.Int
long_given long.Signum = Some prim.Int
long_given long.ToIntExact = Some prim.Int
long_given long.Abs = Some prim.Long
long_given other = None

abbrev pub ints_given : Two → Option Primitive
ints_given two.Compare = Some prim.Int
ints_given two.Max = Some prim.Int
ints_given two.Min = Some prim.Int
ints_given other = None

abbrev pub longs_given : Two → Option Primitive
longs_given two.Compare = Some prim.Int
longs_given other = Some prim.Long

abbrev pub char_given : OneChar → Option Primitive
char_given char.CharValue = Some prim.Char
char_given char.ToLowerCase = Some prim.Char
char_given char.ToUpperCase = Some prim.Char
char_given other = Some prim.Boolean

abbrev pub field_given : Constant → Option Primitive
field_given constant.ByteMost = Some prim.Byte
field_given constant.ByteLeast = Some prim.Byte
field_given constant.ShortMost = Some prim.Short
field_given constant.ShortLeast = Some prim.Short
field_given constant.IntMost = Some prim.Int
field_given constant.IntLeast = Some prim.Int
field_given constant.LongMost = Some prim.Long
field_given constant.LongLeast = Some prim.Long
field_given constant.CharMost = Some prim.Char
field_given constant.CharLeast = Some prim.Char

abbrev pub number_given : Primitive → Option Primitive
number_given prim.Boolean = None
number_given other = Some other

abbrev pub given_of : NumberMember → Option Primitive
given_of m.Equals = Some prim.Boolean
given_of m.ToText = None
given_of m.CompareTo = Some prim.Int
given_of (m.NumberAs p) = number_given p
given_of (m.Field field) = field_given field
given_of m.UnsignedByte = Some prim.Int
given_of (m.OfInt member) = int_given member
given_of (m.OfInts member) = ints_given member
given_of (m.OfLong member) = long_given member
given_of (m.OfLongs member) = longs_given member
given_of m.ParseInt = Some prim.Int
given_of m.ParseLong = Some prim.Long
given_of (m.OfChar member) = char_given member
given_of m.BooleanValue = Some prim.Boolean
given_of m.BooleanCompare = Some prim.Int
given_of m.ParseBoolean = Some prim.Boolean

-- ---- that it gives it

found_gives : (walk : Walked) → NumberGives (Some prim.Boolean) (order.found_of walk)
found_gives (On equal visits) = refl
found_gives Deep = says_gives (Some prim.Boolean) IllegalState _
found_gives Large = says_gives (Some prim.Boolean) IllegalState _

text_gives : (text : Text) → NumberGives None (operators.followed_by text outcome.Makes)
text_gives (Wrote text visits) = refl
text_gives TooDeep = says_gives None IllegalState _
text_gives TooLarge = says_gives None IllegalState _

ordered_gives : (objects : List Object) (a b : Value) (found : Option ℤ) → NumberGives (Some prim.Int) (order.ordered objects a b found)
ordered_gives objects a b (Some found) = refl
ordered_gives objects a b None = chosen (Some prim.Int) (operators.is_null a) _ _ tt (chosen (Some prim.Int) (operators.is_null b) _ _ tt (says_gives (Some prim.Int) ClassCast _))

as_gives : (p : Primitive) (number : Num) → suits (number_given p) (number_as p number) ≡ true
as_gives prim.Boolean number = refl
as_gives prim.Byte number = refl
as_gives prim.Short number = refl
as_gives prim.Char number = refl
as_gives prim.Int number = refl
as_gives prim.Long number = refl

number_gives : (p : Primitive) (number : Option Num) → NumberGives (number_given p) (numbers.number_as_of p number)
number_gives p None = tt
number_gives p (Some number) = as_gives p number

field_gives : (field : Constant) → suits (field_given field) (values.constant_of field) ≡ true
field_gives constant.ByteMost = refl
field_gives constant.ByteLeast = refl
field_gives constant.ShortMost = refl
field_gives constant.ShortLeast = refl
field_gives constant.IntMost = refl
field_gives constant.IntLeast = refl
field_gives constant.LongMost = refl
field_gives constant.LongLeast = refl
field_gives constant.CharMost = refl
field_gives constant.CharLeast = refl

sign_gives : (a : ℤ) → NumberGives (Some prim.Int) (values.sign a)
sign_gives a = chosen (Some prim.Int) (int_lt a (pos 0)) _ _ refl (chosen (Some prim.Int) (int_eq a (pos 0)) _ _ refl refl)

int_gives : (member : OneInt) (a : ℤ) → NumberGives (int_given member) (values.of_int member a)
int_gives int.BitCount a = refl
int_gives int.Signum a = sign_gives a
int_gives int.ToBinary a = refl
int_gives int.ToHex a = refl
int_gives int.ToText a = refl
int_gives int.ValueOf a = refl

long_gives : (member : OneLong) (a : ℤ) → NumberGives (long_given member) (values.of_long member a)
long_gives long.BitCount a = refl
long_gives long.Signum a = sign_gives a
long_gives long.ToBinary a = refl
long_gives long.ToHex a = refl
long_gives long.ToText a = refl
long_gives long.ValueOf a = refl
long_gives long.Abs a = refl
long_gives long.ToIntExact a = chosen (Some prim.Int) (int_le (negsuc 2147483647) a && int_le a (pos 2147483647)) _ _ refl (says_gives (Some prim.Int) Arithmetic _)

ints_give : (member : Two) (a b : ℤ) → NumberGives (ints_given member) (values.of_ints member a b)
ints_give two.Compare a b = refl
ints_give two.Max a b = refl
ints_give two.Min a b = refl
ints_give two.FloorDiv a b = refl
ints_give two.FloorMod a b = refl

floored_gives : (b : ℤ) (quotient rest : Option ℤ) → NumberGives (Some prim.Long) (values.floored b quotient rest)
floored_gives b (Some quotient) (Some rest) = refl
floored_gives b (Some quotient) None = says_gives (Some prim.Long) Arithmetic _
floored_gives b None rest = says_gives (Some prim.Long) Arithmetic _

rest_gives : (b : ℤ) (rest : Option ℤ) → NumberGives (Some prim.Long) (values.floor_rest b rest)
rest_gives b (Some rest) = refl
rest_gives b None = says_gives (Some prim.Long) Arithmetic _

longs_give : (member : Two) (a b : ℤ) → NumberGives (longs_given member) (values.of_longs member a b)
longs_give two.Compare a b = refl
longs_give two.Max a b = refl
longs_give two.Min a b = refl
longs_give two.FloorDiv a b = floored_gives b _ _
longs_give two.FloorMod a b = rest_gives b _

int_parsed_gives : (number : Option ℤ) → NumberGives (Some prim.Int) (values.int_parsed number)
int_parsed_gives None = says_gives (Some prim.Int) NumberFormat _
int_parsed_gives (Some number) = refl

long_parsed_gives : (number : Option ℤ) → NumberGives (Some prim.Long) (values.long_parsed number)
long_parsed_gives None = says_gives (Some prim.Long) NumberFormat _
long_parsed_gives (Some number) = refl

parse_int_gives : (value : Value) → NumberGives (Some prim.Int) (values.parse_int_of value)
parse_int_gives (v.Str text) = int_parsed_gives _
parse_int_gives value = says_gives (Some prim.Int) NumberFormat _

parse_long_gives : (value : Value) → NumberGives (Some prim.Long) (values.parse_long_of value)
parse_long_gives (v.Str text) = long_parsed_gives _
parse_long_gives value = says_gives (Some prim.Long) NumberFormat _

char_gives : (member : OneChar) (unit : ℕ) → suits (char_given member) (chars.of_char member unit) ≡ true
char_gives char.CharValue unit = refl
char_gives char.IsDigit unit = refl
char_gives char.IsLetter unit = refl
char_gives char.IsLetterOrDigit unit = refl
char_gives char.IsLowerCase unit = refl
char_gives char.IsUpperCase unit = refl
char_gives char.IsWhitespace unit = refl
char_gives char.ToLowerCase unit = refl
char_gives char.ToUpperCase unit = refl

pub does_gives : (objects : List Object) (member : NumberMember) (arguments : List Value) → NumberGives (given_of member) (numbers.does objects member arguments)
does_gives objects m.Equals arguments = two_give {A = Value} (Some prim.Boolean) (order.equals objects) (slice_get arguments 0) (slice_get arguments 1) (λ a b. found_gives (equal_of objects a b VISITS))
does_gives objects m.ToText arguments = one_gives {A = Value} None (order.to_text objects) (slice_get arguments 0) (λ value. text_gives (text_of objects value VISITS))
does_gives objects m.CompareTo arguments =
    two_give {A = Value} (Some prim.Int) (order.compare objects) (slice_get arguments 0) (slice_get arguments 1) (λ a b. ordered_gives objects a b (order.natural a b))
does_gives objects (m.NumberAs p) arguments = one_gives {A = Value} (number_given p) (numbers.number_value p) (slice_get arguments 0) (λ value. number_gives p (operators.number_in value))
does_gives objects (m.Field field) arguments = field_gives field
does_gives objects m.UnsignedByte arguments = one_gives {A = ℤ} (Some prim.Int) values.unsigned_byte (byte_at arguments 0) (λ a. refl)
does_gives objects (m.OfInt member) arguments = one_gives {A = ℤ} (int_given member) (values.of_int member) (int_at arguments 0) (int_gives member)
does_gives objects (m.OfInts member) arguments = two_give {A = ℤ} (ints_given member) (values.of_ints member) (int_at arguments 0) (int_at arguments 1) (ints_give member)
does_gives objects (m.OfLong member) arguments = one_gives {A = ℤ} (long_given member) (values.of_long member) (long_at arguments 0) (long_gives member)
does_gives objects (m.OfLongs member) arguments = two_give {A = ℤ} (longs_given member) (values.of_longs member) (long_at arguments 0) (long_at arguments 1) (longs_give member)
does_gives objects m.ParseInt arguments = one_gives {A = Value} (Some prim.Int) values.parse_int_of (slice_get arguments 0) parse_int_gives
does_gives objects m.ParseLong arguments = one_gives {A = Value} (Some prim.Long) values.parse_long_of (slice_get arguments 0) parse_long_gives
does_gives objects (m.OfChar member) arguments = one_gives {A = ℕ} (char_given member) (numbers.char_member member) (char_at arguments 0) (char_gives member)
does_gives objects m.BooleanValue arguments = one_gives {A = Bool} (Some prim.Boolean) (λ flag. outcome.Gives (v.Bool flag)) (flag_at arguments 0) (λ flag. refl)
does_gives objects m.BooleanCompare arguments =
    two_give {A = Bool} (Some prim.Int) (λ a b. outcome.Gives (v.Int (chars.flag_order a b))) (flag_at arguments 0) (flag_at arguments 1) (λ a b. refl)
does_gives objects m.ParseBoolean arguments = one_gives {A = Value} (Some prim.Boolean) (λ value. outcome.Gives (v.Bool (chars.parse_flag value))) (slice_get arguments 0) (λ value. refl)
