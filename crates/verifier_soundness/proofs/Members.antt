-- Members: which a list allows, that words of their kinds fit them, and of which kind the word of their result is.
use Rattle.std.proofs.Common.{◌≡◌, ℕ, suc, ◌==◌, Bool, true, false, ◌&&◌, List, [], ◌∷◌, ◌++◌, map, length, reverse, Option, Some, None, refl, sym, ap, ◌∙◌, subst, append-nil}
use Rattle.std.specs.Prelude.{slice_get, option_and_then, option_map, if◌then◌else◌}
use Rattle.std.specs.List.{list_all}
use Rattle.std.proofs.lemmas.Bool.{false≢true, and_parts}
use Rattle.std.proofs.lemmas.List.{length-reverse, reverse-reverse, reverse-append}
use Rattle.pl_types.specs.declared.primitive.Primitive.{Primitive}
use Rattle.pl_types.specs.declared.primitive.Primitive.TheVariants as prim
use Rattle.pl_types.specs.declared.ty.Ty.{Ty, out-Ty}
use Rattle.pl_types.specs.declared.ty.Ty.TheOpen.{Ty-F}
use Rattle.pl_types.specs.Names.{class_of_full}
use Rattle.object_values.specs.declared.value.Value.{Value}
use Rattle.object_values.specs.declared.value.Value.TheVariants as v
use Rattle.number_ops.specs.Effects.{Effect, Gives, Throws, NoRoom}
use Rattle.number_ops.specs.Fits.{is_primitive}
use Rattle.allowlist.specs.declared.member.MemberKind.{MemberKind}
use Rattle.allowlist.specs.declared.member.MemberKind.TheVariants as kind
use Rattle.allowlist.specs.declared.member.MemberType.{MemberType}
use Rattle.allowlist.specs.Allow.{AllowList, flag, member_of}
use Rattle.allowlist.specs.Catalogue.{catalogue}
use Rattle.allowlist.specs.Index.{member_in}
use Rattle.allowlist.proofs.Unique.{found_is_allowed}
use Rattle.pl_code.specs.declared.kinds.Slot.{Slot}
use Rattle.pl_code.specs.declared.kinds.Slot.TheVariants as slot
use Rattle.instruction_types.specs.Members.{owner_part, name_part, called_part, arity_part, is_sought, own_sought, own_named, member_named, method_of, constructor_of, field_of, has_receiver, argument_kinds}
use Rattle.instruction_types.specs.Types.{kind_of_primitive, kind_of_layer, kind_of_type}
use Rattle.member_calls.specs.ContainerCallsTypes.{suits, primitive_in, primitive_of, EffectGives}
use Rattle.code_meaning.specs.declared.word.Word.{Word}
use Rattle.code_meaning.specs.declared.word.Word.TheVariants.{I, J, R}
use Rattle.code_meaning.specs.Words.{boxed, unboxed}
use Rattle.code_meaning.specs.Members.{reference_in, taken_layer, taken, taken_result_layer, taken_result, before, taken_alike, taken_all, Receiving, Unfit, receives, receives_on, received_by, count_by, given_layer, given_as}
use Rattle.verifier_soundness.specs.Fits.{kind_of, kinds_of, given_kind_layer, given_kind}
use Rattle.verifier_soundness.proofs.Words.{AreAll}
use Rattle.verifier_soundness.proofs.Casts.{EffectIs}
use Rattle.verifier_soundness.proofs.Testing.{each_of}

-- ---- what a list allows

abbrev pub is_called_kind : MemberKind → Bool
is_called_kind kind.Static = true
is_called_kind kind.Instance = true
is_called_kind k = false

abbrev pub is_made_kind : MemberKind → Bool
is_made_kind kind.Constructor = true
is_made_kind k = false

abbrev pub is_read_kind : MemberKind → Bool
is_read_kind kind.Field = true
is_read_kind k = false

-- A member of a sort that the list allows.
pub record Found (allow : AllowList) (sort : MemberKind → Bool) (number : ℕ) : Type 0 where
  pub allowed : flag allow.members number ≡ true
  pub looked_for : sort (member_in allow number).kind ≡ true

-- a sort is what is looked for, kind by kind
abbrev Agrees : (MemberKind → Bool) → (MemberKind → Bool) → Type 0
Agrees sort other = (sort kind.Static ≡ other kind.Static) × (sort kind.Instance ≡ other kind.Instance) × (sort kind.Constructor ≡ other kind.Constructor) × (sort kind.Field ≡ other kind.Field)

same_sort : (sort other : MemberKind → Bool) → Agrees sort other → (k : MemberKind) → sort k ≡ other k
same_sort sort other h kind.Static = h.0
same_sort sort other h kind.Instance = h.1
same_sort sort other h kind.Constructor = h.2
same_sort sort other h kind.Field = h.3

own_is : (allow : AllowList) (s : _) (class n number : ℕ) → own_sought allow s class n ≡ Some number → (n ≡ number) × (is_sought s (member_in allow number).kind ≡ true)
own_is allow s class n number e = by_test (((member_in allow n).owner == class) && is_sought s (member_in allow n).kind) refl e
  where
    by_test : (b : Bool) → (((member_in allow n).owner == class) && is_sought s (member_in allow n).kind) ≡ b → (if b then Some n else None) ≡ Some number
        → (n ≡ number) × (is_sought s (member_in allow number).kind ≡ true)
    by_test true q e =
        let same : n ≡ number = cc in
        (same, subst (λ n. is_sought s (member_in allow n).kind ≡ true) same (and_parts ((member_in allow n).owner == class) (is_sought s (member_in allow n).kind) q).1)
    by_test false q e = cc

own_found : (allow : AllowList) (s : _) (sort : MemberKind → Bool) (name : List ℕ) (arity class number : ℕ) → Agrees (is_sought s) sort → own_named allow s name arity class ≡ Some number → Found allow sort number
unfolding own_named
own_found allow s sort name arity class number so e = by_member (member_of allow class name arity) refl e
  where
    by_member : (o : Option ℕ) → member_of allow class name arity ≡ o → option_and_then (own_sought allow s class) o ≡ Some number → Found allow sort number
    by_member None q e = cc
    by_member (Some n) q e =
        let x = own_is allow s class n number e in
        record {
          allowed = subst (λ n. flag allow.members n ≡ true) x.0 (found_is_allowed allow class name arity n q).0;
          looked_for = sym (same_sort (is_sought s) sort so (member_in allow number).kind) ∙ x.1;
        }

named_found : (allow : AllowList) (s : _) (sort : MemberKind → Bool) (class name : List ℕ) (arity number : ℕ) → Agrees (is_sought s) sort → member_named allow s class name arity ≡ Some number → Found allow sort number
unfolding member_named
named_found allow s sort class name arity number so e = by_class (class_of_full class) e
  where
    by_class : (o : Option ℕ) → option_and_then (own_named allow s name arity) o ≡ Some number → Found allow sort number
    by_class None e = cc
    by_class (Some owner) e = own_found allow s sort name arity owner number so e

called_found : (allow : AllowList) (s : _) (sort : MemberKind → Bool) (class name : List ℕ) (number : ℕ) (arity : Option ℕ) → Agrees (is_sought s) sort → option_and_then (member_named allow s class name) arity ≡ Some number
    → Found allow sort number
called_found allow s sort class name number None so e = cc
called_found allow s sort class name number (Some arity) so e = named_found allow s sort class name arity number so e

pub method_found : (allow : AllowList) (text : List ℕ) (number : ℕ) → method_of allow text ≡ Some number → Found allow is_called_kind number
unfolding method_of
method_found allow text number e = called_found allow _ is_called_kind (owner_part (called_part text)) (name_part (called_part text)) number (arity_part text) (refl, refl, refl, refl) e

pub constructor_found : (allow : AllowList) (text : List ℕ) (number : ℕ) → constructor_of allow text ≡ Some number → Found allow is_made_kind number
unfolding constructor_of
constructor_found allow text number e = called_found allow _ is_made_kind (called_part text) [] number (arity_part text) (refl, refl, refl, refl) e

pub field_found : (allow : AllowList) (text : List ℕ) (number : ℕ) → field_of allow text ≡ Some number → Found allow is_read_kind number
unfolding field_of
field_found allow text number e = named_found allow _ is_read_kind (owner_part text) (name_part text) 0 number (refl, refl, refl, refl) e

-- ---- the catalogue: what a constructor gives is a reference, and a field takes nothing

abbrev is_reference_layer : Ty-F Ty → Bool
is_reference_layer (Ty-F.Prim p) = false
is_reference_layer other = true

abbrev pub is_shaped_by : MemberKind → List Ty → Ty → Bool
is_shaped_by kind.Constructor params result = is_reference_layer (out-Ty result)
is_shaped_by kind.Field [] result = true
is_shaped_by kind.Field (param ∷ params) result = false
is_shaped_by kind.Static params result = true
is_shaped_by kind.Instance params result = true

abbrev is_shaped : MemberType → Bool
is_shaped m = is_shaped_by m.kind m.params m.result

all_shaped : list_all is_shaped catalogue ≡ true
unfolding catalogue out-Ty denote.Hole.Carrier.out
all_shaped = refl

pub catalogue_shaped : (number : ℕ) (m : MemberType) → slice_get catalogue number ≡ Some m → is_shaped_by m.kind m.params m.result ≡ true
catalogue_shaped number m h = each_of is_shaped catalogue all_shaped number m h

reference_kind : (layer : Ty-F Ty) → is_reference_layer layer ≡ true → kind_of_layer layer ≡ slot.R
reference_kind Ty-F.Void h = refl
reference_kind Ty-F.Null h = refl
reference_kind Ty-F.Def h = refl
reference_kind (Ty-F.Prim p) h = absurd (false≢true h)
reference_kind (Ty-F.Class class) h = refl
reference_kind (Ty-F.Array elem) h = refl

pub made_is : (k : MemberKind) (params : List Ty) (result : Ty) → is_made_kind k ≡ true → is_shaped_by k params result ≡ true → kind_of_type result ≡ slot.R
unfolding kind_of_type
made_is kind.Constructor params result looked shaped = reference_kind (out-Ty result) shaped
made_is kind.Static params result looked shaped = absurd (false≢true looked)
made_is kind.Instance params result looked shaped = absurd (false≢true looked)
made_is kind.Field params result looked shaped = absurd (false≢true looked)

-- ---- what a call takes

abbrev pub takes_by : MemberKind → List Ty → List Slot
takes_by kind.Instance params = argument_kinds params ++ slot.R ∷ []
takes_by kind.Static params = argument_kinds params
takes_by kind.Constructor params = argument_kinds params
takes_by kind.Field params = []

pub method_takes : (k : MemberKind) (params : List Ty) → is_called_kind k ≡ true → argument_kinds params ++ (if has_receiver k then slot.R ∷ [] else []) ≡ takes_by k params
method_takes kind.Instance params looked = refl
method_takes kind.Static params looked = append-nil (argument_kinds params)
method_takes kind.Constructor params looked = absurd (false≢true looked)
method_takes kind.Field params looked = absurd (false≢true looked)

pub constructor_takes : (k : MemberKind) (params : List Ty) → is_made_kind k ≡ true → argument_kinds params ≡ takes_by k params
constructor_takes kind.Constructor params looked = refl
constructor_takes kind.Static params looked = absurd (false≢true looked)
constructor_takes kind.Instance params looked = absurd (false≢true looked)
constructor_takes kind.Field params looked = absurd (false≢true looked)

pub field_takes : (k : MemberKind) (params : List Ty) → is_read_kind k ≡ true → [] ≡ takes_by k params
field_takes kind.Field params looked = refl
field_takes kind.Static params looked = absurd (false≢true looked)
field_takes kind.Instance params looked = absurd (false≢true looked)
field_takes kind.Constructor params looked = absurd (false≢true looked)

-- the same, the deepest first
abbrev given_by_kind : MemberKind → List Ty → List Slot
given_by_kind kind.Instance params = slot.R ∷ map kind_of_type params
given_by_kind kind.Static params = map kind_of_type params
given_by_kind kind.Constructor params = map kind_of_type params
given_by_kind kind.Field params = []

turned_arguments : (params : List Ty) → reverse (argument_kinds params) ≡ map kind_of_type params
unfolding argument_kinds
turned_arguments params = reverse-reverse (map kind_of_type params)

turned_kinds : (k : MemberKind) (params : List Ty) → reverse (takes_by k params) ≡ given_by_kind k params
turned_kinds kind.Instance params = reverse-append (argument_kinds params) (slot.R ∷ []) ∙ ap (λ ks. slot.R ∷ ks) (turned_arguments params)
turned_kinds kind.Static params = turned_arguments params
turned_kinds kind.Constructor params = turned_arguments params
turned_kinds kind.Field params = refl

as_many_types : (params : List Ty) → length (map kind_of_type params) ≡ length params
as_many_types [] = refl
as_many_types (param ∷ params) = ap suc (as_many_types params)

many_given : (k : MemberKind) (params : List Ty) → length (given_by_kind k params) ≡ count_by k params
many_given kind.Instance params = ap suc (as_many_types params)
many_given kind.Static params = as_many_types params
many_given kind.Constructor params = as_many_types params
many_given kind.Field params = refl

pub takes_many : (k : MemberKind) (params : List Ty) → count_by k params ≡ length (takes_by k params)
takes_many k params = sym (many_given k params) ∙ ap length (sym (turned_kinds k params)) ∙ length-reverse (takes_by k params)

-- ---- that arguments are taken

abbrev pub IsThere : {A : Type 0} → Option A → Type 0
IsThere None = ⊥
IsThere (Some a) = Unit {0}

pub there_is : {A : Type 0} (o : Option A) → IsThere o → (a : A) × (o ≡ Some a)
there_is None h = absurd h
there_is (Some a) h = (a, refl)

-- what fits the member, or a receiver that is null
abbrev pub IsReceived : Receiving → Type 0
IsReceived Unfit = ⊥
IsReceived other = Unit {0}

boxed_there : (p : Primitive) (word : Word) → kind_of word ≡ kind_of_primitive p → IsThere (boxed p word)
boxed_there prim.Boolean (I a) k = tt
boxed_there prim.Boolean (J a) k = cc
boxed_there prim.Boolean (R value) k = cc
boxed_there prim.Byte (I a) k = tt
boxed_there prim.Byte (J a) k = cc
boxed_there prim.Byte (R value) k = cc
boxed_there prim.Short (I a) k = tt
boxed_there prim.Short (J a) k = cc
boxed_there prim.Short (R value) k = cc
boxed_there prim.Char (I a) k = tt
boxed_there prim.Char (J a) k = cc
boxed_there prim.Char (R value) k = cc
boxed_there prim.Int (I a) k = tt
boxed_there prim.Int (J a) k = cc
boxed_there prim.Int (R value) k = cc
boxed_there prim.Long (I a) k = cc
boxed_there prim.Long (J a) k = tt
boxed_there prim.Long (R value) k = cc

reference_there : (word : Word) → kind_of word ≡ slot.R → IsThere (reference_in word)
reference_there (I a) k = cc
reference_there (J a) k = cc
reference_there (R value) k = tt

layer_there : (layer : Ty-F Ty) (word : Word) → kind_of word ≡ kind_of_layer layer → IsThere (taken_layer layer word)
layer_there Ty-F.Void word k = reference_there word k
layer_there Ty-F.Null word k = reference_there word k
layer_there Ty-F.Def word k = reference_there word k
layer_there (Ty-F.Prim p) word k = boxed_there p word k
layer_there (Ty-F.Class class) word k = reference_there word k
layer_there (Ty-F.Array elem) word k = reference_there word k

pub one_there : (of : Ty) (word : Word) → kind_of word ≡ kind_of_type of → IsThere (taken of word)
unfolding kind_of_type
one_there of word k = layer_there (out-Ty of) word k

-- what a function of a type gives may be cast from that type
some_kind : (k j : Slot) → Some k ≡ Some j → k ≡ j
some_kind k j e = cc

layer_given : (layer : Ty-F Ty) (result : Option Word) → option_map kind_of result ≡ given_kind_layer layer → IsThere (taken_result_layer layer result)
layer_given Ty-F.Void None e = tt
layer_given Ty-F.Void (Some word) e = cc
layer_given Ty-F.Null None e = cc
layer_given Ty-F.Null (Some word) e = layer_there Ty-F.Null word (some_kind (kind_of word) slot.R e)
layer_given Ty-F.Def None e = cc
layer_given Ty-F.Def (Some word) e = layer_there Ty-F.Def word (some_kind (kind_of word) slot.R e)
layer_given (Ty-F.Prim p) None e = cc
layer_given (Ty-F.Prim p) (Some word) e = layer_there (Ty-F.Prim p) word (some_kind (kind_of word) (kind_of_primitive p) e)
layer_given (Ty-F.Class class) None e = cc
layer_given (Ty-F.Class class) (Some word) e = layer_there (Ty-F.Class class) word (some_kind (kind_of word) slot.R e)
layer_given (Ty-F.Array elem) None e = cc
layer_given (Ty-F.Array elem) (Some word) e = layer_there (Ty-F.Array elem) word (some_kind (kind_of word) slot.R e)

pub result_there : (of : Ty) (result : Option Word) → option_map kind_of result ≡ given_kind of → IsThere (taken_result of result)
result_there of result e = layer_given (out-Ty of) result e

both_there : (o : Option Value) (os : Option (List Value)) → IsThere o → IsThere os → IsThere (before o os)
both_there None os h more = absurd h
both_there (Some value) None h more = absurd more
both_there (Some value) (Some values) h more = tt

pub alike_there : (of : Ty) (words : List Word) → AreAll (kind_of_type of) words → IsThere (taken_alike of words)
alike_there of [] h = tt
alike_there of (word ∷ words) h = both_there (taken of word) (taken_alike of words) (one_there of word h.0) (alike_there of words h.1)

first_is : (k j : Slot) (ks js : List Slot) → k ∷ ks ≡ j ∷ js → k ≡ j
first_is k j ks js e = cc

others_are : (k j : Slot) (ks js : List Slot) → k ∷ ks ≡ j ∷ js → ks ≡ js
others_are k j ks js e = cc

all_there : (ofs : List Ty) (words : List Word) → kinds_of words ≡ map kind_of_type ofs → IsThere (taken_all ofs words)
all_there [] [] k = tt
all_there [] (word ∷ words) k = cc
all_there (of ∷ ofs) [] k = cc
all_there (of ∷ ofs) (word ∷ words) k =
    both_there (taken of word) (taken_all ofs words) (one_there of word (first_is (kind_of word) (kind_of_type of) (kinds_of words) (map kind_of_type ofs) k))
    (all_there ofs words (others_are (kind_of word) (kind_of_type of) (kinds_of words) (map kind_of_type ofs) k))

received_all : (os : Option (List Value)) → IsThere os → IsReceived (receives os)
received_all None h = absurd h
received_all (Some arguments) h = tt

on_receiver : (word : Word) (os : Option (List Value)) → kind_of word ≡ slot.R → IsThere os → IsReceived (receives_on (reference_in word) os)
on_receiver (I a) os k h = cc
on_receiver (J a) os k h = cc
on_receiver (R value) None k h = absurd h
on_receiver (R v.Null) (Some arguments) k h = tt
on_receiver (R (v.Bool flag)) (Some arguments) k h = tt
on_receiver (R (v.Byte a)) (Some arguments) k h = tt
on_receiver (R (v.Short a)) (Some arguments) k h = tt
on_receiver (R (v.Char unit)) (Some arguments) k h = tt
on_receiver (R (v.Int a)) (Some arguments) k h = tt
on_receiver (R (v.Long a)) (Some arguments) k h = tt
on_receiver (R (v.Str text)) (Some arguments) k h = tt
on_receiver (R (v.Ref id)) (Some arguments) k h = tt

by_kind : (k : MemberKind) (params : List Ty) (words : List Word) → kinds_of words ≡ given_by_kind k params → IsReceived (received_by k params words)
by_kind kind.Instance params [] e = cc
by_kind kind.Instance params (word ∷ words) e =
    on_receiver word (taken_all params words) (first_is (kind_of word) slot.R (kinds_of words) (map kind_of_type params) e)
    (all_there params words (others_are (kind_of word) slot.R (kinds_of words) (map kind_of_type params) e))
by_kind kind.Static params words e = received_all (taken_all params words) (all_there params words e)
by_kind kind.Constructor params words e = received_all (taken_all params words) (all_there params words e)
by_kind kind.Field params [] e = tt
by_kind kind.Field params (word ∷ words) e = cc

-- words of the kinds that a member takes fit it
pub is_received : (k : MemberKind) (params : List Ty) (words : List Word) → kinds_of words ≡ reverse (takes_by k params) → IsReceived (received_by k params words)
is_received k params words e = by_kind k params words (e ∙ turned_kinds k params)

-- ---- what is given

pub unboxed_is : (p : Primitive) (value : Value) → is_primitive p value ≡ true → kind_of (unboxed value) ≡ kind_of_primitive p
unboxed_is prim.Boolean v.Null h = absurd (false≢true h)
unboxed_is prim.Boolean (v.Bool flag) h = refl
unboxed_is prim.Boolean (v.Byte a) h = absurd (false≢true h)
unboxed_is prim.Boolean (v.Short a) h = absurd (false≢true h)
unboxed_is prim.Boolean (v.Char unit) h = absurd (false≢true h)
unboxed_is prim.Boolean (v.Int a) h = absurd (false≢true h)
unboxed_is prim.Boolean (v.Long a) h = absurd (false≢true h)
unboxed_is prim.Boolean (v.Str text) h = absurd (false≢true h)
unboxed_is prim.Boolean (v.Ref id) h = absurd (false≢true h)
unboxed_is prim.Byte v.Null h = absurd (false≢true h)
unboxed_is prim.Byte (v.Bool flag) h = absurd (false≢true h)
unboxed_is prim.Byte (v.Byte a) h = refl
unboxed_is prim.Byte (v.Short a) h = absurd (false≢true h)
unboxed_is prim.Byte (v.Char unit) h = absurd (false≢true h)
unboxed_is prim.Byte (v.Int a) h = absurd (false≢true h)
unboxed_is prim.Byte (v.Long a) h = absurd (false≢true h)
unboxed_is prim.Byte (v.Str text) h = absurd (false≢true h)
unboxed_is prim.Byte (v.Ref id) h = absurd (false≢true h)
unboxed_is prim.Short v.Null h = absurd (false≢true h)
unboxed_is prim.Short (v.Bool flag) h = absurd (false≢true h)
unboxed_is prim.Short (v.Byte a) h = absurd (false≢true h)
unboxed_is prim.Short (v.Short a) h = refl
unboxed_is prim.Short (v.Char unit) h = absurd (false≢true h)
unboxed_is prim.Short (v.Int a) h = absurd (false≢true h)
unboxed_is prim.Short (v.Long a) h = absurd (false≢true h)
unboxed_is prim.Short (v.Str text) h = absurd (false≢true h)
unboxed_is prim.Short (v.Ref id) h = absurd (false≢true h)
unboxed_is prim.Char v.Null h = absurd (false≢true h)
unboxed_is prim.Char (v.Bool flag) h = absurd (false≢true h)
unboxed_is prim.Char (v.Byte a) h = absurd (false≢true h)
unboxed_is prim.Char (v.Short a) h = absurd (false≢true h)
unboxed_is prim.Char (v.Char unit) h = refl
unboxed_is prim.Char (v.Int a) h = absurd (false≢true h)
unboxed_is prim.Char (v.Long a) h = absurd (false≢true h)
unboxed_is prim.Char (v.Str text) h = absurd (false≢true h)
unboxed_is prim.Char (v.Ref id) h = absurd (false≢true h)
unboxed_is prim.Int v.Null h = absurd (false≢true h)
unboxed_is prim.Int (v.Bool flag) h = absurd (false≢true h)
unboxed_is prim.Int (v.Byte a) h = absurd (false≢true h)
unboxed_is prim.Int (v.Short a) h = absurd (false≢true h)
unboxed_is prim.Int (v.Char unit) h = absurd (false≢true h)
unboxed_is prim.Int (v.Int a) h = refl
unboxed_is prim.Int (v.Long a) h = absurd (false≢true h)
unboxed_is prim.Int (v.Str text) h = absurd (false≢true h)
unboxed_is prim.Int (v.Ref id) h = absurd (false≢true h)
unboxed_is prim.Long v.Null h = absurd (false≢true h)
unboxed_is prim.Long (v.Bool flag) h = absurd (false≢true h)
unboxed_is prim.Long (v.Byte a) h = absurd (false≢true h)
unboxed_is prim.Long (v.Short a) h = absurd (false≢true h)
unboxed_is prim.Long (v.Char unit) h = absurd (false≢true h)
unboxed_is prim.Long (v.Int a) h = absurd (false≢true h)
unboxed_is prim.Long (v.Long a) h = refl
unboxed_is prim.Long (v.Str text) h = absurd (false≢true h)
unboxed_is prim.Long (v.Ref id) h = absurd (false≢true h)

layer_gives : (layer : Ty-F Ty) (value : Value) → suits (primitive_in layer) value ≡ true → kind_of (given_layer layer value) ≡ kind_of_layer layer
layer_gives Ty-F.Void value h = refl
layer_gives Ty-F.Null value h = refl
layer_gives Ty-F.Def value h = refl
layer_gives (Ty-F.Prim p) value h = unboxed_is p value h
layer_gives (Ty-F.Class class) value h = refl
layer_gives (Ty-F.Array elem) value h = refl

-- what a member gives stands in a word of its result's kind
pub gives_so : (result : Ty) (e : Effect) → EffectGives (primitive_of result) e → EffectIs (given_as result) (kind_of_type result) e
unfolding kind_of_type
gives_so result (Gives value store) h = layer_gives (out-Ty result) value h
gives_so result (Throws id store) h = tt
gives_so result NoRoom h = tt
