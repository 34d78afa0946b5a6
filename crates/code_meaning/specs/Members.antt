-- The words of a member's call, as the member takes them, and the word of what it gives.
use Rattle.std.specs.Prelude.{ℕ, ℤ, suc, length, Option, Some, None, List, [], ◌∷◌}
use Rattle.pl_types.specs.declared.ty.Ty.{Ty, out-Ty}
use Rattle.pl_types.specs.declared.ty.Ty.TheOpen.{Ty-F}
use Rattle.allowlist.specs.declared.member.MemberKind.{MemberKind}
use Rattle.allowlist.specs.declared.member.MemberKind.TheVariants as kind
use Rattle.allowlist.specs.declared.member.MemberType.{MemberType}
use Rattle.object_values.specs.declared.value.Value.{Value}
use Rattle.object_values.specs.declared.value.Value.TheVariants as v
use Rattle.code_meaning.specs.declared.word.Word.{Word}
use Rattle.code_meaning.specs.declared.word.Word.TheVariants.{I, R}
use Rattle.code_meaning.specs.Words.{boxed, unboxed}

abbrev pub reference_in : Word → Option Value
reference_in (R value) = Some value
reference_in word = None

-- an argument of a type: a number goes in the box of its primitive
abbrev pub taken_layer : Ty-F Ty → Word → Option Value
taken_layer (Ty-F.Prim p) word = boxed p word
taken_layer other word = reference_in word

abbrev pub taken : Ty → Word → Option Value
taken of word = taken_layer (out-Ty of) word

-- What a function of a type gives, as a value: what gives no word gives null.
abbrev pub taken_result_layer : Ty-F Ty → Option Word → Option Value
taken_result_layer Ty-F.Void None = Some v.Null
taken_result_layer Ty-F.Void (Some word) = None
taken_result_layer layer None = None
taken_result_layer layer (Some word) = taken_layer layer word

abbrev pub taken_result : Ty → Option Word → Option Value
taken_result of result = taken_result_layer (out-Ty of) result

abbrev pub before : Option Value → Option (List Value) → Option (List Value)
before (Some value) (Some values) = Some (value ∷ values)
before value values = None

abbrev pub taken_all : List Ty → List Word → Option (List Value)
taken_all [] [] = Some []
taken_all (of ∷ ofs) (word ∷ words) = before (taken of word) (taken_all ofs words)
taken_all ofs words = None

-- words that are all references
abbrev pub references_in : List Word → Option (List Value)
references_in [] = Some []
references_in (word ∷ words) = before (reference_in word) (references_in words)

-- words of one type
abbrev pub taken_alike : Ty → List Word → Option (List Value)
taken_alike of [] = Some []
taken_alike of (word ∷ words) = before (taken of word) (taken_alike of words)

-- words that are all ints
abbrev pub int_before : Word → Option (List ℤ) → Option (List ℤ)
int_before (I a) (Some others) = Some (a ∷ others)
int_before word others = None

abbrev pub ints_in : List Word → Option (List ℤ)
ints_in [] = Some []
ints_in (word ∷ words) = int_before word (ints_in words)

-- What a member is called with: words that do not fit, a receiver that is null, what it takes, or, of a field, nothing.
pub data Receiving : Type 0 where
  Unfit : Receiving
  OnNull : Receiving
  Receives : (arguments : List Value) → Receiving
  Reads : Receiving

abbrev pub receives : Option (List Value) → Receiving
receives None = Unfit
receives (Some arguments) = Receives arguments

-- the receiver lies below the arguments
abbrev pub receives_on : Option Value → Option (List Value) → Receiving
receives_on (Some v.Null) (Some arguments) = OnNull
receives_on (Some receiver) (Some arguments) = Receives (receiver ∷ arguments)
receives_on receiver arguments = Unfit

abbrev pub received_by : MemberKind → List Ty → List Word → Receiving
received_by kind.Instance params (word ∷ words) = receives_on (reference_in word) (taken_all params words)
received_by kind.Instance params [] = Unfit
received_by kind.Static params words = receives (taken_all params words)
received_by kind.Constructor params words = receives (taken_all params words)
received_by kind.Field params [] = Reads
received_by kind.Field params (word ∷ words) = Unfit

abbrev pub received : MemberType → List Word → Receiving
received m words = received_by m.kind m.params words

-- how many words a call takes
abbrev pub count_by : MemberKind → List Ty → ℕ
count_by kind.Instance params = suc (length params)
count_by kind.Static params = length params
count_by kind.Constructor params = length params
count_by kind.Field params = 0

abbrev pub count_of : MemberType → ℕ
count_of m = count_by m.kind m.params

-- what a member gives: a primitive as a number, and everything else, null of one that gives nothing too, as it is
abbrev pub given_layer : Ty-F Ty → Value → Word
given_layer (Ty-F.Prim p) value = unboxed value
given_layer other value = R value

abbrev pub given_as : Ty → Value → Word
given_as of value = given_layer (out-Ty of) value
