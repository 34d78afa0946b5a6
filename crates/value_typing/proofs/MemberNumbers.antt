-- What members of numbers give is of their types, where that is a reference.
use Rattle.std.proofs.Common.{◌≡◌, ℕ, true, ℤ, Option, Some, None, List, subst}
use Rattle.pl_types.specs.declared.classes.TheConstants.{INTEGER, LONG}
use Rattle.pl_types.specs.declared.ty.Ty.{Ty, out-Ty}
use Rattle.pl_types.specs.declared.ty.Ty.TheVariants as ty
use Rattle.pl_types.specs.declared.ty.Ty.TheOpen.{Ty-F}
use Rattle.object_values.specs.declared.object.Object.{Object}
use Rattle.object_values.specs.declared.value.Value.{Value}
use Rattle.object_values.specs.declared.value.Value.TheVariants as v
use Rattle.object_heap.specs.Fits.{kinds, Rules, Fits}
use Rattle.object_heap.specs.Objects.{Kind}
use Rattle.object_heap.specs.Effects.{throws}
use Rattle.object_heap.specs.Store.{Store, paid}
use Rattle.value_walks.specs.Texts.{text_of}
use Rattle.value_walks.specs.declared.TheConstants.{VISITS}
use Rattle.number_ops.specs.declared.member.Member.{Member}
use Rattle.number_ops.specs.declared.member.Member.TheVariants as number
use Rattle.number_ops.specs.declared.numbers.OneInt.{OneInt}
use Rattle.number_ops.specs.declared.numbers.OneInt.TheVariants as int
use Rattle.number_ops.specs.declared.numbers.OneLong.{OneLong}
use Rattle.number_ops.specs.declared.numbers.OneLong.TheVariants as long
use Rattle.number_ops.specs.declared.outcome.Outcome.{Outcome as Told}
use Rattle.number_ops.specs.declared.outcome.Outcome.TheVariants as told
use Rattle.container_calls.specs.Arguments.{int_at, long_at}
use Rattle.number_ops.specs.Arguments.{with_one}
use Rattle.number_ops.specs.Members as numbers
use Rattle.number_ops.specs.Numbers.{of_int, of_long}
use Rattle.number_ops.specs.Order.{to_text}
use Rattle.number_ops.specs.Outcomes.{effect, class_raised}
use Rattle.number_ops.proofs.Keeping.{settled as settled_fits}
use Rattle.std.specs.Prelude.{slice_get, length, ◌+◌}
use Rattle.value_typing.specs.Typing.{is_typed_layer}
use Rattle.value_typing.proofs.Typing.{below_itself}
use Rattle.value_typing.proofs.Casts.{string_layer, follows}
use Rattle.value_typing.proofs.Effects.{EffectTyped, ToldTyped, settled, ThrowsThere, thrown_there, paid_there}
use Rattle.value_typing.proofs.MemberTables.{string, int_reference, long_reference, number_reference, number_row}

-- ---- what each comes to

-- where the argument is missing it throws
one_told : {A : Type 0} → (ks : List Kind) (l : Ty-F Ty) (f : A → Told) (o : Option A) → ((a : A) → ToldTyped ks l (f a)) → ToldTyped ks l (with_one f o)
one_told ks l f None h = tt
one_told ks l f (Some a) h = h a

text_told : (ks : List Kind) (text : List ℕ) → ToldTyped ks (out-Ty string) (told.Makes text)
text_told ks text others = string_layer others text

-- what makes a text
abbrev IsText : Told → Type 0
IsText (told.Makes text) = Unit {0}
IsText other = ⊥

made : (ks : List Kind) (x : Told) → IsText x → ToldTyped ks (out-Ty string) x
made ks (told.Gives value) h = absurd h
made ks (told.Makes text) h = text_told ks text
made ks (told.Throws raised message) h = absurd h
made ks told.NoMemory h = absurd h

integer_layer : (ks : List Kind) (a : ℤ) → is_typed_layer ks (out-Ty (ty.Class INTEGER)) (v.Int a) ≡ true
unfolding out-Ty denote.Hole.Carrier.out
integer_layer ks a = below_itself INTEGER

long_layer : (ks : List Kind) (a : ℤ) → is_typed_layer ks (out-Ty (ty.Class LONG)) (v.Long a) ≡ true
unfolding out-Ty denote.Hole.Carrier.out
long_layer ks a = below_itself LONG

-- a type is the one that a row has
in_row : (ks : List Kind) (a b : Ty) (x : Told) → Some a ≡ Some b → ToldTyped ks (out-Ty a) x → ToldTyped ks (out-Ty b) x
in_row ks a b x e h = let same : a ≡ b = cc in subst (λ (of : Ty). ToldTyped ks (out-Ty of) x) same h

int_told : (ks : List Kind) (member : OneInt) (of : Ty) (a : ℤ) → int_reference member ≡ Some of → ToldTyped ks (out-Ty of) (of_int member a)
int_told ks int.ToBinary of a e = in_row ks string of (of_int int.ToBinary a) e (made ks (of_int int.ToBinary a) tt)
int_told ks int.ToHex of a e = in_row ks string of (of_int int.ToHex a) e (made ks (of_int int.ToHex a) tt)
int_told ks int.ToText of a e = in_row ks string of (of_int int.ToText a) e (made ks (of_int int.ToText a) tt)
int_told ks int.ValueOf of a e = in_row ks (ty.Class INTEGER) of (told.Gives (v.Int a)) e (integer_layer ks a)
int_told ks int.BitCount of a e = cc
int_told ks int.Signum of a e = cc

long_told : (ks : List Kind) (member : OneLong) (of : Ty) (a : ℤ) → long_reference member ≡ Some of → ToldTyped ks (out-Ty of) (of_long member a)
long_told ks long.ToBinary of a e = in_row ks string of (of_long long.ToBinary a) e (made ks (of_long long.ToBinary a) tt)
long_told ks long.ToHex of a e = in_row ks string of (of_long long.ToHex a) e (made ks (of_long long.ToHex a) tt)
long_told ks long.ToText of a e = in_row ks string of (of_long long.ToText a) e (made ks (of_long long.ToText a) tt)
long_told ks long.ValueOf of a e = in_row ks (ty.Class LONG) of (told.Gives (v.Long a)) e (long_layer ks a)
long_told ks long.BitCount of a e = cc
long_told ks long.Signum of a e = cc
long_told ks long.Abs of a e = cc
long_told ks long.ToIntExact of a e = cc

to_text_told : (objects : List Object) (value : Value) → ToldTyped (kinds objects) (out-Ty string) (to_text objects value)
to_text_told objects value = follows (kinds objects) (text_of objects value VISITS) told.Makes (λ text. text_told (kinds objects) text)

number_told : (objects : List Object) (member : Member) (of : Ty) (arguments : List Value) → number_reference member ≡ Some of
    → ToldTyped (kinds objects) (out-Ty of) (numbers.does objects member arguments)
number_told objects number.ToText of arguments e =
    in_row (kinds objects) string of (numbers.does objects number.ToText arguments) e
    (one_told {A = Value} (kinds objects) (out-Ty string) (to_text objects) (slice_get arguments 0) (λ value. to_text_told objects value))
number_told objects (number.OfInt member) of arguments e =
    one_told {A = ℤ} (kinds objects) (out-Ty of) (of_int member) (int_at arguments 0) (λ a. int_told (kinds objects) member of a e)
number_told objects (number.OfLong member) of arguments e =
    one_told {A = ℤ} (kinds objects) (out-Ty of) (of_long member) (long_at arguments 0) (λ a. long_told (kinds objects) member of a e)
number_told objects other of arguments e = cc

pub number_found_typed : (store : Store) (found : Option Member) (of : Ty) (arguments : List Value) → number_row found ≡ Some of
    → EffectTyped (out-Ty of) (effect store (numbers.does_found store.objects found arguments))
number_found_typed store None of arguments e = cc
number_found_typed store (Some member) of arguments e = settled (out-Ty of) store (numbers.does store.objects member arguments) (number_told store.objects member of arguments e)

-- ---- what is thrown

pub number_throws : (rules : Rules) (store : Store) (x : Told) → Fits rules store.objects → ThrowsThere (effect store x)
number_throws rules store (told.Gives value) f = tt
number_throws rules store (told.Makes text) f = paid_there (paid store store.objects (length text + 1)) (v.Str text)
number_throws rules store (told.Throws raised message) f =
    thrown_there rules (throws store (class_raised raised) message) (settled_fits rules store (told.Throws raised message) f tt)
number_throws rules store told.NoMemory f = tt
