-- Calls of members: something is sent to a member, and what comes of it is of the member's type.
use Rattle.std.proofs.Common.{◌≡◌, ℕ, zero, suc, Bool, true, false, List, [], ◌∷◌, Option, Some, None, is_some, refl, sym, ◌∙◌, subst, slice_get, if◌then◌else◌}
use Rattle.std.specs.List.{list_all}
use Rattle.std.proofs.lemmas.Bool.{and_parts, or_left}
use Rattle.pl_types.specs.Host.{HostMeaning}
use Rattle.pl_types.specs.declared.primitive.Primitive.{Primitive}
use Rattle.pl_types.specs.declared.primitive.Primitive.TheVariants as prim
use Rattle.pl_types.specs.declared.ty.Ty.{Ty, out-Ty}
use Rattle.pl_types.specs.declared.ty.Ty.TheOpen.{Ty-F}
use Rattle.pl_types.specs.declared.ty.Ty.TheVariants as t
use Rattle.allowlist.specs.declared.member.MemberKind.{MemberKind}
use Rattle.allowlist.specs.declared.member.MemberKind.TheVariants as kind
use Rattle.allowlist.specs.declared.member.MemberType.{MemberType}
use Rattle.allowlist.specs.Catalogue.{catalogue}
use Rattle.object_values.specs.declared.value.Value.{Value}
use Rattle.object_values.specs.declared.value.Value.TheVariants as v
use Rattle.object_heap.specs.Effects.{Effect, Gives as Gives_value, Throws, NoRoom}
use Rattle.object_heap.specs.Fits.{is_primitive}
use Rattle.object_heap.specs.Store.{Store}
use Rattle.number_ops.specs.Operators.{is_null}
use Rattle.source_meaning.specs.MemberCallsMembers.{is_built, does}
use Rattle.source_meaning.specs.ContainerCallsTypes.{primitive_in, primitive_of, EffectGives}
use Rattle.source_meaning.specs.MemberCallsTypes.{ActGives}
use Rattle.source_meaning.proofs.Doing.{built_act}
use Rattle.source_meaning.proofs.Types.{act_gives}
use Rattle.source_meaning.specs.Operating.{in_box, passed_result_layer}
use Rattle.source_meaning.specs.Members.{passed_layer, passed, before, passed_all, Sending, Unsent, OnNull, Sends, sends, sends_to, sent_by, sent}
use Rattle.program_typing.specs.Types.{HasPrimitive, HasLayer, HaveAll}
use Rattle.program_typing.specs.Agreeing.{is_primitive_layer, TakesTypes}
use Rattle.program_typing.proofs.Defs.{def_effect}
use Rattle.program_typing.proofs.Effects.{LayerHas, EffectHas, made}

-- ---- arguments

abbrev pub IsThere : {A : Type 0} → Option A → Type 0
IsThere None = ⊥
IsThere (Some a) = Unit {0}

box_there : (p : Primitive) (value : Value) → HasPrimitive p value → IsThere (in_box p value)
box_there prim.Boolean value h = subst (λ value. IsThere (in_box prim.Boolean value)) (sym h.1) tt
box_there prim.Byte value h = subst (λ value. IsThere (in_box prim.Byte value)) (sym h.1) tt
box_there prim.Short value h = subst (λ value. IsThere (in_box prim.Short value)) (sym h.1) tt
box_there prim.Char value h = subst (λ value. IsThere (in_box prim.Char value)) (sym h.1) tt
box_there prim.Int value h = subst (λ value. IsThere (in_box prim.Int value)) (sym h.1) tt
box_there prim.Long value h = subst (λ value. IsThere (in_box prim.Long value)) (sym h.1) tt

pub passed_there : (l : Ty-F Ty) (value : Value) → HasLayer l value → IsThere (passed_layer l value)
passed_there Ty-F.Void value h = tt
passed_there Ty-F.Null value h = tt
passed_there Ty-F.Def value h = tt
passed_there (Ty-F.Prim p) value h = box_there p value h
passed_there (Ty-F.Class class) value h = tt
passed_there (Ty-F.Array of) value h = tt

-- what was given is of a type
abbrev pub GivenHas : Ty-F Ty → Option Value → Type 0
GivenHas l None = ⊥
GivenHas l (Some value) = HasLayer l value

box_has : (p : Primitive) (value : Value) → HasPrimitive p value → GivenHas (Ty-F.Prim p) (in_box p value)
box_has prim.Boolean value h = subst (λ value. GivenHas (Ty-F.Prim prim.Boolean) (in_box prim.Boolean value)) (sym h.1) (h.0, refl)
box_has prim.Byte value h = subst (λ value. GivenHas (Ty-F.Prim prim.Byte) (in_box prim.Byte value)) (sym h.1) (_, refl)
box_has prim.Short value h = subst (λ value. GivenHas (Ty-F.Prim prim.Short) (in_box prim.Short value)) (sym h.1) (_, refl)
box_has prim.Char value h = subst (λ value. GivenHas (Ty-F.Prim prim.Char) (in_box prim.Char value)) (sym h.1) (_, refl)
box_has prim.Int value h = subst (λ value. GivenHas (Ty-F.Prim prim.Int) (in_box prim.Int value)) (sym h.1) (h.0, refl)
box_has prim.Long value h = subst (λ value. GivenHas (Ty-F.Prim prim.Long) (in_box prim.Long value)) (sym h.1) (h.0, refl)

-- what a function gives, as casts take it
pub result_has : (l : Ty-F Ty) (value : Value) → HasLayer l value → GivenHas l (passed_result_layer l value)
result_has Ty-F.Void value h = tt
result_has Ty-F.Null value h = tt
result_has Ty-F.Def value h = tt
result_has (Ty-F.Prim p) value h = box_has p value h
result_has (Ty-F.Class class) value h = tt
result_has (Ty-F.Array of) value h = tt

pub both_there : (first : Option Value) (rest : Option (List Value)) → IsThere first → IsThere rest → IsThere (before first rest)
both_there None rest x y = absurd x
both_there (Some value) None x y = absurd y
both_there (Some value) (Some values) x y = tt

all_there : (ofs : List Ty) (values : List Value) → HaveAll ofs values → IsThere (passed_all ofs values)
all_there [] [] h = tt
all_there [] (value ∷ values) h = absurd h
all_there (of ∷ ofs) [] h = absurd h
all_there (of ∷ ofs) (value ∷ values) h = both_there (passed of value) (passed_all ofs values) (passed_there (out-Ty of) value h.0) (all_there ofs values h.1)

-- ---- what is sent

-- something is sent, or the receiver is null
abbrev pub IsSent : Sending → Type 0
IsSent Unsent = ⊥
IsSent other = Unit {0}

sends_there : (o : Option (List Value)) → IsThere o → IsSent (sends o)
sends_there None x = absurd x
sends_there (Some arguments) x = tt

sends_to_there : (receiver : Value) (o : Option (List Value)) → IsThere o → IsSent (sends_to receiver o)
sends_to_there receiver None x = absurd x
sends_to_there receiver (Some arguments) x = either (is_null receiver)
  where
    either : (c : Bool) → IsSent (if c then OnNull else Sends (receiver ∷ arguments))
    either true = tt
    either false = tt

-- a field has no parameters
abbrev is_bare : MemberKind → List Ty → Bool
is_bare kind.Field (of ∷ ofs) = false
is_bare other ofs = true

kind_sent : (sort : MemberKind) (params ofs : List Ty) (values : List Value) → is_bare sort params ≡ true → TakesTypes sort params ofs → HaveAll ofs values → IsSent (sent_by sort params values)
kind_sent kind.Instance params [] values bare x h = absurd x
kind_sent kind.Instance params (of ∷ ofs) [] bare x h = absurd h
kind_sent kind.Instance params (of ∷ ofs) (receiver ∷ values) bare x h =
    sends_to_there receiver (passed_all params values) (all_there params values (subst (λ ofs. HaveAll ofs values) x.1 h.1))
kind_sent kind.Static params ofs values bare x h = sends_there (passed_all params values) (all_there params values (subst (λ ofs. HaveAll ofs values) x h))
kind_sent kind.Constructor params ofs values bare x h = sends_there (passed_all params values) (all_there params values (subst (λ ofs. HaveAll ofs values) x h))
kind_sent kind.Field [] ofs [] bare x h = tt
kind_sent kind.Field [] ofs (value ∷ values) bare x h = absurd (subst (λ ofs. HaveAll ofs (value ∷ values)) x h)
kind_sent kind.Field (of ∷ params) ofs values bare x h = cc

bare_fields : list_all (λ m. is_bare m.kind m.params) catalogue ≡ true
unfolding catalogue
bare_fields = refl

test_at : (test : MemberType → Bool) (ms : List MemberType) (i : ℕ) (m : MemberType) → list_all test ms ≡ true → slice_get ms i ≡ Some m → test m ≡ true
test_at test [] i m h is = cc
test_at test (x ∷ xs) zero m h is = let same : x ≡ m = cc in subst (λ m. test m ≡ true) same (and_parts (test x) (list_all test xs) h).0
test_at test (x ∷ xs) (suc i) m h is = test_at test xs i m (and_parts (test x) (list_all test xs) h).1 is

-- On values of the types that a member takes something is sent to it.
pub is_sent : (number : ℕ) (member : MemberType) (sort : MemberKind) (ofs : List Ty) (values : List Value) → slice_get catalogue number ≡ Some member → member.kind ≡ sort
    → TakesTypes sort member.params ofs → HaveAll ofs values → IsSent (sent member values)
is_sent number member sort ofs values is sorted x h =
    let bare = test_at (λ m. is_bare m.kind m.params) catalogue number member bare_fields is in
    kind_sent member.kind member.params ofs values bare (subst (λ sort. TakesTypes sort member.params ofs) (sym sorted) x) h

-- ---- what comes of it

pub of_primitive : (p : Primitive) (value : Value) → is_primitive p value ≡ true → HasPrimitive p value
of_primitive prim.Boolean v.Null h = cc
of_primitive prim.Boolean (v.Bool a) h = (a, refl)
of_primitive prim.Boolean (v.Byte a) h = cc
of_primitive prim.Boolean (v.Short a) h = cc
of_primitive prim.Boolean (v.Char a) h = cc
of_primitive prim.Boolean (v.Int a) h = cc
of_primitive prim.Boolean (v.Long a) h = cc
of_primitive prim.Boolean (v.Str a) h = cc
of_primitive prim.Boolean (v.Ref a) h = cc
of_primitive prim.Byte v.Null h = cc
of_primitive prim.Byte (v.Bool a) h = cc
of_primitive prim.Byte (v.Byte a) h = (a, refl)
of_primitive prim.Byte (v.Short a) h = cc
of_primitive prim.Byte (v.Char a) h = cc
of_primitive prim.Byte (v.Int a) h = cc
of_primitive prim.Byte (v.Long a) h = cc
of_primitive prim.Byte (v.Str a) h = cc
of_primitive prim.Byte (v.Ref a) h = cc
of_primitive prim.Short v.Null h = cc
of_primitive prim.Short (v.Bool a) h = cc
of_primitive prim.Short (v.Byte a) h = cc
of_primitive prim.Short (v.Short a) h = (a, refl)
of_primitive prim.Short (v.Char a) h = cc
of_primitive prim.Short (v.Int a) h = cc
of_primitive prim.Short (v.Long a) h = cc
of_primitive prim.Short (v.Str a) h = cc
of_primitive prim.Short (v.Ref a) h = cc
of_primitive prim.Char v.Null h = cc
of_primitive prim.Char (v.Bool a) h = cc
of_primitive prim.Char (v.Byte a) h = cc
of_primitive prim.Char (v.Short a) h = cc
of_primitive prim.Char (v.Char a) h = (a, refl)
of_primitive prim.Char (v.Int a) h = cc
of_primitive prim.Char (v.Long a) h = cc
of_primitive prim.Char (v.Str a) h = cc
of_primitive prim.Char (v.Ref a) h = cc
of_primitive prim.Int v.Null h = cc
of_primitive prim.Int (v.Bool a) h = cc
of_primitive prim.Int (v.Byte a) h = cc
of_primitive prim.Int (v.Short a) h = cc
of_primitive prim.Int (v.Char a) h = cc
of_primitive prim.Int (v.Int a) h = (a, refl)
of_primitive prim.Int (v.Long a) h = cc
of_primitive prim.Int (v.Str a) h = cc
of_primitive prim.Int (v.Ref a) h = cc
of_primitive prim.Long v.Null h = cc
of_primitive prim.Long (v.Bool a) h = cc
of_primitive prim.Long (v.Byte a) h = cc
of_primitive prim.Long (v.Short a) h = cc
of_primitive prim.Long (v.Char a) h = cc
of_primitive prim.Long (v.Int a) h = cc
of_primitive prim.Long (v.Long a) h = (a, refl)
of_primitive prim.Long (v.Str a) h = cc
of_primitive prim.Long (v.Ref a) h = cc

layer_given : (l : Ty-F Ty) (x : Effect) → EffectGives (primitive_in l) x → LayerHas l x
layer_given Ty-F.Void x h = made Ty-F.Void x (λ value. tt)
layer_given Ty-F.Null x h = made Ty-F.Null x (λ value. tt)
layer_given Ty-F.Def x h = made Ty-F.Def x (λ value. tt)
layer_given (Ty-F.Prim p) (Gives_value value store) h = of_primitive p value h
layer_given (Ty-F.Prim p) (Throws id store) h = tt
layer_given (Ty-F.Prim p) NoRoom h = tt
layer_given (Ty-F.Class class) x h = made (Ty-F.Class class) x (λ value. tt)
layer_given (Ty-F.Array of) x h = made (Ty-F.Array of) x (λ value. tt)

-- an effect that is there, and what it gives is of a type
pub record Comes (of : Ty) (o : Option Effect) : Type 0 where
  pub effect : Effect
  pub is : o ≡ Some effect
  pub has : EffectHas of effect

comes : (of : Ty) (o : Option Effect) → is_some o ≡ true → ActGives (primitive_of of) o → Comes of o
comes of None is x = cc
comes of (Some effect) is x = record { effect = effect; is = refl; has = layer_given (out-Ty of) effect x }

-- A member that is built does something, and what it gives is of its type.
pub member_comes : (host : HostMeaning) (number : ℕ) (member : MemberType) (arguments : List Value) (store : Store) → slice_get catalogue number ≡ Some member → is_built number ≡ true
    → Comes member.result (does host number arguments store)
member_comes host number member arguments store is built =
    comes member.result (does host number arguments store) (built_act host number arguments store ∙ or_left _ _ built) (act_gives host number member arguments store is)

def_comes_of : (o : Option Effect) → is_some o ≡ true → Comes t.Def o
def_comes_of None is = cc
def_comes_of (Some effect) is = record { effect = effect; is = refl; has = def_effect t.Def effect refl }

-- and what any member gives is of type def
pub def_comes : (host : HostMeaning) (number : ℕ) (arguments : List Value) (store : Store) → is_built number ≡ true → Comes t.Def (does host number arguments store)
def_comes host number arguments store built = def_comes_of (does host number arguments store) (built_act host number arguments store ∙ or_left _ _ built)

-- null is of each type that is no primitive
pub null_has : (l : Ty-F Ty) → is_primitive_layer l ≡ false → HasLayer l v.Null
null_has Ty-F.Void h = tt
null_has Ty-F.Null h = tt
null_has Ty-F.Def h = tt
null_has (Ty-F.Prim p) h = cc
null_has (Ty-F.Class class) h = tt
null_has (Ty-F.Array of) h = tt
