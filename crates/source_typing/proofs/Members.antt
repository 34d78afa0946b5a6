-- What is sent to a member is of the types that it takes, and what comes of it is of its type.
use Rattle.std.proofs.Common.{◌≡◌, ℕ, Bool, true, false, not, List, [], ◌∷◌, length, Option, Some, None, refl, sym, ap, subst, if◌then◌else◌}
use Rattle.std.proofs.lemmas.Bool.{and_from}
use Rattle.pl_types.specs.Host.{HostMeaning}
use Rattle.pl_types.specs.declared.primitive.Primitive.{Primitive}
use Rattle.pl_types.specs.declared.primitive.Primitive.TheVariants as prim
use Rattle.pl_types.specs.declared.ty.Ty.{Ty, out-Ty}
use Rattle.pl_types.specs.declared.ty.Ty.TheVariants as t
use Rattle.pl_types.specs.declared.ty.Ty.TheOpen.{Ty-F}
use Rattle.allowlist.specs.declared.member.MemberKind.{MemberKind}
use Rattle.allowlist.specs.declared.member.MemberKind.TheVariants as kind
use Rattle.allowlist.specs.Index.{member_at}
use Rattle.object_values.specs.declared.object.Object.{Object}
use Rattle.object_values.specs.declared.value.Value.{Value}
use Rattle.object_values.specs.declared.value.Value.TheVariants as v
use Rattle.object_heap.specs.Effects.{Effect, Gives, Throws, NoRoom}
use Rattle.object_heap.specs.Fits.{kinds, Rules, Fits, ValueFits, AllFit, is_primitive}
use Rattle.number_ops.specs.Operators.{is_null}
use Rattle.value_typing.specs.Members.{is_built, does}
use Rattle.run_state.specs.World.{World, acts_in}
use Rattle.value_typing.specs.RunFitLaws.{DoneFits}
use Rattle.value_typing.specs.Worlds.{count_in}
use Rattle.source_fit.proofs.Effects.{beginnings_fit, members_fit}
use Rattle.source_fit.specs.Operating.{in_box}
use Rattle.source_fit.specs.Operating.{passed_result_layer, passed_result}
use Rattle.source_fit.specs.Members.{Sending, Unsent, OnNull, Sends, Reads, passed_layer, passed, before as joined, passed_all, sends, sends_to, sent_by}
use Rattle.program_typing.specs.Agreeing.{TakesTypes, ReceiverIsOf}
use Rattle.value_typing.specs.Typing.{is_typed_layer, is_typed, takes_typed_by, OutcomeTyped, EffectIsOf, ActIsOf}
use Rattle.value_typing.proofs.Kept.{kept_is_typed}
use Rattle.value_typing.proofs.Members.{members_keep_types}
use Rattle.source_typing.specs.Outs.{IsTyped, AreTyped}
use Rattle.source_typing.proofs.Values.{all_there, all_are, MadeTyped}
use Rattle.source_typing.proofs.Operations.{MadeOf, box_made, OutcomeIs, outcome_is, def_typed}

-- ---- arguments

abbrev AllMadeTyped : List Object → List Ty → Option (List Value) → Type 0
AllMadeTyped objects ofs None = Unit {0}
AllMadeTyped objects ofs (Some values) = AreTyped objects ofs values

no_reference : (p : Primitive) (id : ℕ) → is_primitive p (v.Ref id) ≡ false
no_reference prim.Boolean id = refl
no_reference prim.Byte id = refl
no_reference prim.Short id = refl
no_reference prim.Char id = refl
no_reference prim.Int id = refl
no_reference prim.Long id = refl

never : (b : Bool) → b ≡ false → b ≡ true → ⊥
never true x y = cc
never false x y = cc

primitive_there : (n : ℕ) (p : Primitive) (value : Value) → is_primitive p value ≡ true → ValueFits n value
primitive_there n p v.Null h = tt
primitive_there n p (v.Bool a) h = tt
primitive_there n p (v.Byte a) h = tt
primitive_there n p (v.Short a) h = tt
primitive_there n p (v.Char a) h = tt
primitive_there n p (v.Int a) h = tt
primitive_there n p (v.Long a) h = tt
primitive_there n p (v.Str a) h = tt
primitive_there n p (v.Ref id) h = absurd (never (is_primitive p (v.Ref id)) (no_reference p id) h)

of_layer : (objects : List Object) (of : Ty) (l : Ty-F Ty) (value : Value) → out-Ty of ≡ l → is_typed_layer (kinds objects) l value ≡ true → is_typed objects of value ≡ true
of_layer objects of l value e h = subst (λ (l : Ty-F Ty). is_typed_layer (kinds objects) l value ≡ true) (sym e) h

boxed_typed : (objects : List Object) (of : Ty) (p : Primitive) (o : Option Value) → out-Ty of ≡ Ty-F.Prim p → MadeOf p o → MadeTyped objects of o
boxed_typed objects of p None e h = tt
boxed_typed objects of p (Some value) e h = record { there = primitive_there (length objects) p value h; is = of_layer objects of (Ty-F.Prim p) value e h }

passed_typed : (objects : List Object) (of : Ty) (value : Value) (l : Ty-F Ty) → out-Ty of ≡ l → IsTyped objects of value → MadeTyped objects of (passed_layer l value)
passed_typed objects of value Ty-F.Void e h = h
passed_typed objects of value Ty-F.Null e h = h
passed_typed objects of value Ty-F.Def e h = h
passed_typed objects of value (Ty-F.Prim p) e h = boxed_typed objects of p (in_box p value) e (box_made p value)
passed_typed objects of value (Ty-F.Class class) e h = h
passed_typed objects of value (Ty-F.Array elem) e h = h

result_typed_layer : (objects : List Object) (of : Ty) (value : Value) (l : Ty-F Ty) → out-Ty of ≡ l → IsTyped objects of value → MadeTyped objects of (passed_result_layer l value)
result_typed_layer objects of value Ty-F.Void e h = record { there = tt; is = of_layer objects of Ty-F.Void v.Null e refl }
result_typed_layer objects of value Ty-F.Null e h = h
result_typed_layer objects of value Ty-F.Def e h = h
result_typed_layer objects of value (Ty-F.Prim p) e h = passed_typed objects of value (Ty-F.Prim p) e h
result_typed_layer objects of value (Ty-F.Class class) e h = h
result_typed_layer objects of value (Ty-F.Array elem) e h = h

-- what a function gives, as casts take it
pub result_typed : (objects : List Object) (of : Ty) (value : Value) → IsTyped objects of value → MadeTyped objects of (passed_result of value)
result_typed objects of value h = result_typed_layer objects of value (out-Ty of) refl h

joined_typed : (objects : List Object) (of : Ty) (ofs : List Ty) (value : Option Value) (values : Option (List Value)) → MadeTyped objects of value → AllMadeTyped objects ofs values
    → AllMadeTyped objects (of ∷ ofs) (joined value values)
joined_typed objects of ofs None None h g = tt
joined_typed objects of ofs None (Some values) h g = tt
joined_typed objects of ofs (Some value) None h g = tt
joined_typed objects of ofs (Some value) (Some values) h g = (h, g)

all_passed : (objects : List Object) (ofs : List Ty) (values : List Value) → AreTyped objects ofs values → AllMadeTyped objects ofs (passed_all ofs values)
all_passed objects [] [] h = tt
all_passed objects [] (value ∷ values) h = absurd h
all_passed objects (of ∷ ofs) [] h = absurd h
all_passed objects (of ∷ ofs) (value ∷ values) h =
    joined_typed objects of ofs (passed of value) (passed_all ofs values) (passed_typed objects of value (out-Ty of) refl h.0) (all_passed objects ofs values h.1)

-- ---- what is sent

-- what a member is called with is there, and of the types that it takes
pub record Taken (objects : List Object) (sort : MemberKind) (owner : ℕ) (params : List Ty) (values : List Value) : Type 0 where
  pub there : AllFit (length objects) values
  pub takes : takes_typed_by sort owner objects params values ≡ true

abbrev pub SendingTyped : List Object → MemberKind → ℕ → List Ty → Sending → Type 0
SendingTyped objects sort owner params Unsent = Unit {0}
SendingTyped objects sort owner params OnNull = Unit {0}
SendingTyped objects sort owner params (Sends arguments) = Taken objects sort owner params arguments
SendingTyped objects sort owner params Reads = Taken objects sort owner params []

sends_to_typed : (objects : List Object) (owner : ℕ) (params : List Ty) (receiver : Value) (o : Option (List Value)) → ValueFits (length objects) receiver
    → is_typed objects (t.Class owner) receiver ≡ true → AllMadeTyped objects params o → SendingTyped objects kind.Instance owner params (sends_to receiver o)
sends_to_typed objects owner params receiver None there is h = tt
sends_to_typed objects owner params receiver (Some arguments) there is h = either (is_null receiver) refl
  where
    either : (b : Bool) → is_null receiver ≡ b → SendingTyped objects kind.Instance owner params (if b then OnNull else Sends (receiver ∷ arguments))
    either true e = tt
    either false e = record {
      there = (there, all_there objects params arguments h);
      takes = and_from _ _ (ap not e) (and_from _ _ is (all_are objects params arguments h));
    }

static_typed : (objects : List Object) (owner : ℕ) (params : List Ty) (o : Option (List Value)) → AllMadeTyped objects params o → SendingTyped objects kind.Static owner params (sends o)
static_typed objects owner params None h = tt
static_typed objects owner params (Some arguments) h = record { there = all_there objects params arguments h; takes = all_are objects params arguments h }

constructor_typed : (objects : List Object) (owner : ℕ) (params : List Ty) (o : Option (List Value)) → AllMadeTyped objects params o → SendingTyped objects kind.Constructor owner params (sends o)
constructor_typed objects owner params None h = tt
constructor_typed objects owner params (Some arguments) h = record { there = all_there objects params arguments h; takes = all_are objects params arguments h }

pub sent_typed : (objects : List Object) (sort : MemberKind) (owner : ℕ) (params ofs : List Ty) (values : List Value) → TakesTypes sort params ofs → ReceiverIsOf sort owner ofs
    → AreTyped objects ofs values → SendingTyped objects sort owner params (sent_by sort params values)
sent_typed objects kind.Instance owner params [] values x g h = absurd x
sent_typed objects kind.Instance owner params (of ∷ ofs) [] x g h = absurd h
sent_typed objects kind.Instance owner params (of ∷ ofs) (receiver ∷ values) x g h =
    sends_to_typed objects owner params receiver (passed_all params values) h.0.there (kept_is_typed objects of (t.Class owner) g.written receiver g.is h.0.is)
    (all_passed objects params values (subst (λ ofs. AreTyped objects ofs values) x.1 h.1))
sent_typed objects kind.Static owner params ofs values x g h =
    static_typed objects owner params (passed_all params values) (all_passed objects params values (subst (λ ofs. AreTyped objects ofs values) x h))
sent_typed objects kind.Constructor owner params ofs values x g h =
    constructor_typed objects owner params (passed_all params values) (all_passed objects params values (subst (λ ofs. AreTyped objects ofs values) x h))
sent_typed objects kind.Field owner params ofs [] x g h =
    let none : AreTyped objects params [] = subst (λ ofs. AreTyped objects ofs []) x h in
    record { there = tt; takes = all_are objects params [] none }
sent_typed objects kind.Field owner params ofs (value ∷ values) x g h = tt

-- ---- what comes of it

effect_types : (of : Ty) (w : World) (e : Effect) → EffectIsOf of e → OutcomeTyped of (acts_in w e)
unfolding acts_in
effect_types of w (Gives value store) h = h
effect_types of w (Throws id store) h = tt
effect_types of w NoRoom h = tt

-- what comes of a member, if anything
abbrev pub DoneIs : Rules → List Object → Ty → World → Option Effect → Type 0
DoneIs rules start of w None = Unit {0}
DoneIs rules start of w (Some e) = OutcomeIs rules start of (acts_in w e)

done_is : (rules : Rules) (start : List Object) (of : Ty) (w : World) (o : Option Effect) → DoneFits rules start w o → ActIsOf of o → DoneIs rules start of w o
done_is rules start of w None f h = tt
done_is rules start of w (Some e) f h = outcome_is rules start (count_in w) of (acts_in w e) f (effect_types of w e h)

-- whatever it is, it is of type def
pub found_is : (rules : Rules) (start : List Object) (w : World) (o : Option Effect) → DoneFits rules start w o → DoneIs rules start t.Def w o
found_is rules start w None f = tt
found_is rules start w (Some e) f = outcome_is rules start (count_in w) t.Def (acts_in w e) f (def_typed (acts_in w e))

pub member_is : (rules : Rules) (w : World) (host : HostMeaning) (number : ℕ) (values : List Value) → Fits rules w.store.objects → is_built number ≡ true
    → Taken w.store.objects (member_at number).kind (member_at number).owner (member_at number).params values
    → DoneIs rules w.store.objects (member_at number).result w (does host number values w.store)
member_is rules w host number values f built h =
    done_is rules w.store.objects (member_at number).result w (does host number values w.store)
    (members_fit rules w.store.objects w host number values (beginnings_fit rules w f) h.there)
    (members_keep_types rules host number values w.store f built h.takes)
