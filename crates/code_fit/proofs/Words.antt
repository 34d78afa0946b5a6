-- Words that fit: they go on fitting as objects are added, and so do copies of them and the values that are made of them.
use Rattle.std.proofs.Common.{ℕ, zero, suc, ℤ, ◌≤◌, List, [], ◌∷◌, ◌++◌, Option, Some, None}
use Rattle.std.specs.Prelude.{map, slice_get, slice_set}
use Rattle.pl_types.specs.declared.primitive.Primitive.{Primitive}
use Rattle.pl_types.specs.declared.ty.Ty.{Ty, out-Ty}
use Rattle.pl_types.specs.declared.ty.Ty.TheOpen.{Ty-F}
use Rattle.allowlist.specs.declared.member.MemberKind.{MemberKind}
use Rattle.allowlist.specs.declared.member.MemberKind.TheVariants as kind
use Rattle.allowlist.specs.declared.member.MemberType.{MemberType}
use Rattle.object_values.specs.declared.value.Value.{Value}
use Rattle.object_values.specs.declared.value.Value.TheVariants as v
use Rattle.object_heap.specs.Fits.{ValueFits, AllFit}
use Rattle.arithmetic.specs.declared.operator.Num.{Num}
use Rattle.arithmetic.specs.declared.operator.Num.TheVariants as num
use Rattle.pl_code.specs.declared.kinds.Plain.TheVariants as plain
use Rattle.pl_code.specs.declared.kinds.Slot.{Slot}
use Rattle.pl_code.specs.declared.kinds.Slot.TheVariants as slot
use Rattle.code_meaning.specs.declared.word.Word.{Word}
use Rattle.code_meaning.specs.declared.word.Word.TheVariants.{I, J, R}
use Rattle.code_meaning.specs.Machine.{Frame, take_words, copied}
use Rattle.code_meaning.specs.Members.{Receiving, Unfit, OnNull, Receives, Reads, reference_in, references_in, taken, taken_alike, taken_layer, taken_result_layer, taken_result, taken_all, before, receives, receives_on, received_by, received, given_layer, given_as}
use Rattle.code_meaning.specs.Words.{start_of, word_of, boxed, boxed_int, boxed_long, unboxed, plain_value}
use Rattle.run_fit.proofs.Values.{value_grows, MadeFits, AllMadeFit, by_primitive}
use Rattle.code_fit.specs.Moments.{WordFits, WordsFit, FramesFit, ResultFits}

-- ---- more objects

pub word_grows : (n m : ℕ) → n ≤ m → (word : Word) → WordFits n word → WordFits m word
word_grows n m h (I a) f = tt
word_grows n m h (J a) f = tt
word_grows n m h (R value) f = value_grows n m h value f

pub words_grow : (n m : ℕ) → n ≤ m → (words : List Word) → WordsFit n words → WordsFit m words
words_grow n m h [] f = tt
words_grow n m h (word ∷ words) f = (word_grows n m h word f.0, words_grow n m h words f.1)

pub frames_grow : (n m : ℕ) → n ≤ m → (fs : List Frame) → FramesFit n fs → FramesFit m fs
frames_grow n m h [] f = tt
frames_grow n m h (x ∷ fs) f = ((words_grow n m h x.locals f.0.0, words_grow n m h x.stack f.0.1), frames_grow n m h fs f.1)

-- ---- lists of words

pub words_join : (n : ℕ) (xs ys : List Word) → WordsFit n xs → WordsFit n ys → WordsFit n (xs ++ ys)
words_join n [] ys f g = g
words_join n (x ∷ xs) ys f g = (f.0, words_join n xs ys f.1 g)

start_fits : (n : ℕ) (kind : Slot) → WordFits n (start_of kind)
start_fits n slot.I = tt
start_fits n slot.J = tt
start_fits n slot.R = tt

pub starts_fit : (n : ℕ) (kinds : List Slot) → WordsFit n (map start_of kinds)
starts_fit n [] = tt
starts_fit n (x ∷ xs) = (start_fits n x, starts_fit n xs)

pub words_set : (n : ℕ) (xs : List Word) (k : ℕ) (word : Word) → WordsFit n xs → WordFits n word → WordsFit n (slice_set xs k word)
words_set n [] k word f g = tt
words_set n (x ∷ xs) zero word f g = (g, f.1)
words_set n (x ∷ xs) (suc k) word f g = (f.0, words_set n xs k word f.1 g)

abbrev pub FoundFits : ℕ → Option Word → Type 0
FoundFits n None = Unit {0}
FoundFits n (Some word) = WordFits n word

pub word_at : (n : ℕ) (xs : List Word) (k : ℕ) → WordsFit n xs → FoundFits n (slice_get xs k)
word_at n [] k f = tt
word_at n (x ∷ xs) zero f = f.0
word_at n (x ∷ xs) (suc k) f = word_at n xs k f.1

abbrev pub CopiedFit : ℕ → Option (List Word) → Type 0
CopiedFit n None = Unit {0}
CopiedFit n (Some stack) = WordsFit n stack

pub pop_fits : (n : ℕ) (stack : List Word) → WordsFit n stack → CopiedFit n (copied plain.Pop stack)
pop_fits n [] f = tt
pop_fits n (z ∷ stack) f = f.1

pub dup_fits : (n : ℕ) (stack : List Word) → WordsFit n stack → CopiedFit n (copied plain.Dup stack)
dup_fits n [] f = tt
dup_fits n (z ∷ stack) f = (f.0, f)

pub dup2_fits : (n : ℕ) (stack : List Word) → WordsFit n stack → CopiedFit n (copied plain.Dup2 stack)
dup2_fits n [] f = tt
dup2_fits n (z ∷ []) f = tt
dup2_fits n (z ∷ y ∷ stack) f = (f.0, (f.1.0, f))

pub dupx1_fits : (n : ℕ) (stack : List Word) → WordsFit n stack → CopiedFit n (copied plain.DupX1 stack)
dupx1_fits n [] f = tt
dupx1_fits n (z ∷ []) f = tt
dupx1_fits n (z ∷ y ∷ stack) f = (f.0, (f.1.0, (f.0, f.1.1)))

pub dupx2_fits : (n : ℕ) (stack : List Word) → WordsFit n stack → CopiedFit n (copied plain.DupX2 stack)
dupx2_fits n [] f = tt
dupx2_fits n (z ∷ []) f = tt
dupx2_fits n (z ∷ y ∷ []) f = tt
dupx2_fits n (z ∷ y ∷ x ∷ stack) f = (f.0, (f.1.0, (f.1.1.0, (f.0, f.1.1.1))))

abbrev pub TakenFit : ℕ → Option (List Word × List Word) → Type 0
TakenFit n None = Unit {0}
TakenFit n (Some p) = WordsFit n p.0 × WordsFit n p.1

pub take_fits : (n k : ℕ) (stack taken : List Word) → WordsFit n stack → WordsFit n taken → TakenFit n (take_words k stack taken)
take_fits n zero stack taken f g = (g, f)
take_fits n (suc k) [] taken f g = tt
take_fits n (suc k) (word ∷ stack) taken f g = take_fits n k stack (word ∷ taken) f.1 (f.0, g)

-- ---- values and words

pub unboxed_fits : (n : ℕ) (value : Value) → ValueFits n value → WordFits n (unboxed value)
unboxed_fits n v.Null f = tt
unboxed_fits n (v.Bool a) f = tt
unboxed_fits n (v.Byte a) f = tt
unboxed_fits n (v.Short a) f = tt
unboxed_fits n (v.Char a) f = tt
unboxed_fits n (v.Int a) f = tt
unboxed_fits n (v.Long a) f = tt
unboxed_fits n (v.Str a) f = tt
unboxed_fits n (v.Ref id) f = f

pub number_fits : (n : ℕ) (number : Num) → WordFits n (word_of number)
number_fits n (num.Int a) = tt
number_fits n (num.Long a) = tt

given_layer_fits : (n : ℕ) (layer : Ty-F Ty) (value : Value) → ValueFits n value → WordFits n (given_layer layer value)
given_layer_fits n Ty-F.Void value f = f
given_layer_fits n Ty-F.Null value f = f
given_layer_fits n Ty-F.Def value f = f
given_layer_fits n (Ty-F.Prim p) value f = unboxed_fits n value f
given_layer_fits n (Ty-F.Class class) value f = f
given_layer_fits n (Ty-F.Array elem) value f = f

pub given_fits : (of : Ty) (n : ℕ) (value : Value) → ValueFits n value → WordFits n (given_as of value)
given_fits of n value f = given_layer_fits n (out-Ty of) value f

int_boxed_fits : (n : ℕ) (p : Primitive) (a : ℤ) → MadeFits n (boxed_int p a)
int_boxed_fits n p a = by_primitive (λ p. MadeFits n (boxed_int p a)) tt tt tt tt tt tt p

long_boxed_fits : (n : ℕ) (p : Primitive) (a : ℤ) → MadeFits n (boxed_long p a)
long_boxed_fits n p a = by_primitive (λ p. MadeFits n (boxed_long p a)) tt tt tt tt tt tt p

pub boxed_fits : (n : ℕ) (p : Primitive) (word : Word) → MadeFits n (boxed p word)
boxed_fits n p (I a) = int_boxed_fits n p a
boxed_fits n p (J a) = long_boxed_fits n p a
boxed_fits n p (R value) = tt

pub plain_fits : (n : ℕ) (word : Word) → WordFits n word → ValueFits n (plain_value word)
plain_fits n (I a) f = tt
plain_fits n (J a) f = tt
plain_fits n (R value) f = f

-- ---- what a member is called with

reference_fits : (n : ℕ) (word : Word) → WordFits n word → MadeFits n (reference_in word)
reference_fits n (I a) f = tt
reference_fits n (J a) f = tt
reference_fits n (R value) f = f

taken_layer_fits : (n : ℕ) (layer : Ty-F Ty) (word : Word) → WordFits n word → MadeFits n (taken_layer layer word)
taken_layer_fits n Ty-F.Void word f = reference_fits n word f
taken_layer_fits n Ty-F.Null word f = reference_fits n word f
taken_layer_fits n Ty-F.Def word f = reference_fits n word f
taken_layer_fits n (Ty-F.Prim p) word f = boxed_fits n p word
taken_layer_fits n (Ty-F.Class class) word f = reference_fits n word f
taken_layer_fits n (Ty-F.Array elem) word f = reference_fits n word f

before_fits : (n : ℕ) (value : Option Value) (values : Option (List Value)) → MadeFits n value → AllMadeFit n values → AllMadeFit n (before value values)
before_fits n None None f g = tt
before_fits n None (Some values) f g = tt
before_fits n (Some value) None f g = tt
before_fits n (Some value) (Some values) f g = (f, g)

taken_all_fits : (n : ℕ) (ofs : List Ty) (words : List Word) → WordsFit n words → AllMadeFit n (taken_all ofs words)
taken_all_fits n [] [] f = tt
taken_all_fits n [] (word ∷ words) f = tt
taken_all_fits n (of ∷ ofs) [] f = tt
taken_all_fits n (of ∷ ofs) (word ∷ words) f = before_fits n _ _ (taken_layer_fits n (out-Ty of) word f.0) (taken_all_fits n ofs words f.1)

pub taken_fits : (n : ℕ) (of : Ty) (word : Word) → WordFits n word → MadeFits n (taken of word)
taken_fits n of word f = taken_layer_fits n (out-Ty of) word f

result_layer_fits : (n : ℕ) (layer : Ty-F Ty) (result : Option Word) → ResultFits n result → MadeFits n (taken_result_layer layer result)
result_layer_fits n Ty-F.Void None f = tt
result_layer_fits n Ty-F.Void (Some word) f = tt
result_layer_fits n Ty-F.Null None f = tt
result_layer_fits n Ty-F.Null (Some word) f = reference_fits n word f
result_layer_fits n Ty-F.Def None f = tt
result_layer_fits n Ty-F.Def (Some word) f = reference_fits n word f
result_layer_fits n (Ty-F.Prim p) None f = tt
result_layer_fits n (Ty-F.Prim p) (Some word) f = boxed_fits n p word
result_layer_fits n (Ty-F.Class class) None f = tt
result_layer_fits n (Ty-F.Class class) (Some word) f = reference_fits n word f
result_layer_fits n (Ty-F.Array elem) None f = tt
result_layer_fits n (Ty-F.Array elem) (Some word) f = reference_fits n word f

pub taken_result_fits : (n : ℕ) (of : Ty) (result : Option Word) → ResultFits n result → MadeFits n (taken_result of result)
taken_result_fits n of result f = result_layer_fits n (out-Ty of) result f

pub references_fit : (n : ℕ) (words : List Word) → WordsFit n words → AllMadeFit n (references_in words)
references_fit n [] f = tt
references_fit n (word ∷ words) f = before_fits n _ _ (reference_fits n word f.0) (references_fit n words f.1)

pub alike_fit : (n : ℕ) (of : Ty) (words : List Word) → WordsFit n words → AllMadeFit n (taken_alike of words)
alike_fit n of [] f = tt
alike_fit n of (word ∷ words) f = before_fits n _ _ (taken_layer_fits n (out-Ty of) word f.0) (alike_fit n of words f.1)

abbrev pub ReceivingFits : ℕ → Receiving → Type 0
ReceivingFits n Unfit = Unit {0}
ReceivingFits n OnNull = Unit {0}
ReceivingFits n (Receives arguments) = AllFit n arguments
ReceivingFits n Reads = Unit {0}

receives_fits : (n : ℕ) (arguments : Option (List Value)) → AllMadeFit n arguments → ReceivingFits n (receives arguments)
receives_fits n None f = tt
receives_fits n (Some arguments) f = f

receives_on_fits : (n : ℕ) (receiver : Option Value) (arguments : Option (List Value)) → MadeFits n receiver → AllMadeFit n arguments → ReceivingFits n (receives_on receiver arguments)
receives_on_fits n None None f g = tt
receives_on_fits n None (Some arguments) f g = tt
receives_on_fits n (Some v.Null) None f g = tt
receives_on_fits n (Some v.Null) (Some arguments) f g = tt
receives_on_fits n (Some (v.Bool a)) None f g = tt
receives_on_fits n (Some (v.Bool a)) (Some arguments) f g = (f, g)
receives_on_fits n (Some (v.Byte a)) None f g = tt
receives_on_fits n (Some (v.Byte a)) (Some arguments) f g = (f, g)
receives_on_fits n (Some (v.Short a)) None f g = tt
receives_on_fits n (Some (v.Short a)) (Some arguments) f g = (f, g)
receives_on_fits n (Some (v.Char a)) None f g = tt
receives_on_fits n (Some (v.Char a)) (Some arguments) f g = (f, g)
receives_on_fits n (Some (v.Int a)) None f g = tt
receives_on_fits n (Some (v.Int a)) (Some arguments) f g = (f, g)
receives_on_fits n (Some (v.Long a)) None f g = tt
receives_on_fits n (Some (v.Long a)) (Some arguments) f g = (f, g)
receives_on_fits n (Some (v.Str a)) None f g = tt
receives_on_fits n (Some (v.Str a)) (Some arguments) f g = (f, g)
receives_on_fits n (Some (v.Ref a)) None f g = tt
receives_on_fits n (Some (v.Ref a)) (Some arguments) f g = (f, g)

received_by_fits : (n : ℕ) (k : MemberKind) (params : List Ty) (words : List Word) → WordsFit n words → ReceivingFits n (received_by k params words)
received_by_fits n kind.Instance params [] f = tt
received_by_fits n kind.Instance params (word ∷ words) f = receives_on_fits n _ _ (reference_fits n word f.0) (taken_all_fits n params words f.1)
received_by_fits n kind.Static params words f = receives_fits n _ (taken_all_fits n params words f)
received_by_fits n kind.Constructor params words f = receives_fits n _ (taken_all_fits n params words f)
received_by_fits n kind.Field params [] f = tt
received_by_fits n kind.Field params (word ∷ words) f = tt

pub received_fits : (n : ℕ) (m : MemberType) (words : List Word) → WordsFit n words → ReceivingFits n (received m words)
received_fits n m words f = received_by_fits n m.kind m.params words f
