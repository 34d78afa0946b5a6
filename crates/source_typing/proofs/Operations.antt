-- What operators and casts come to is of its type in the store that they leave.
use Rattle.std.proofs.Common.{◌≡◌, ℕ, ℤ, Bool, true, false, List, [], ◌∷◌, Option, Some, None, refl, sym, ap, ◌∙◌, subst}
use Rattle.std.specs.Prelude.{if◌then◌else◌}
use Rattle.std.proofs.lemmas.Bool.{and_parts}
use Rattle.pl_types.specs.declared.classes.TheConstants.{STRING}
use Rattle.pl_types.specs.declared.conversion.Cast.{Cast}
use Rattle.pl_types.specs.declared.conversion.Cast.TheVariants as cast
use Rattle.pl_types.specs.declared.primitive.Primitive.{Primitive}
use Rattle.pl_types.specs.declared.primitive.Primitive.TheVariants as prim
use Rattle.pl_types.specs.declared.ty.Ty.{Ty, out-Ty}
use Rattle.pl_types.specs.declared.ty.Ty.TheVariants as t
use Rattle.pl_types.specs.declared.ty.Ty.TheOpen.{Ty-F}
use Rattle.object_values.specs.declared.object.Object.{Object}
use Rattle.object_values.specs.declared.value.Value.{Value}
use Rattle.object_values.specs.declared.value.Value.TheVariants as v
use Rattle.object_heap.specs.Effects.{Effect, Gives as Gives_value, Throws, NoRoom}
use Rattle.object_heap.specs.Fits.{kinds, Rules, Fits, ValueFits, ThrownFits, Typed, Every, layer_asked, is_primitive}
use Rattle.object_heap.specs.Objects.{Kind}
use Rattle.object_heap.specs.Store.{Store}
use Rattle.value_typing.specs.Types.{element_of}
use Rattle.value_typing.specs.Making.{list_made, map_made, array_filled}
use Rattle.value_typing.specs.Elements.{length_of}
use Rattle.value_typing.specs.Loops.{iterated, has_more, next_element}
use Rattle.typed_tree.specs.declared.operation.Operator.{Operator}
use Rattle.typed_tree.specs.declared.operation.Operator.TheVariants as operator
use Rattle.arithmetic.specs.declared.operator.Op.{Op}
use Rattle.arithmetic.specs.declared.operator.Op.TheVariants as op
use Rattle.number_ops.specs.declared.outcome.Outcome.{Outcome as Told}
use Rattle.number_ops.specs.declared.outcome.Outcome.TheVariants as told
use Rattle.number_ops.specs.Casts.{cast_at_run_time}
use Rattle.number_ops.specs.Operators.{compares, is_unary, operate}
use Rattle.number_ops.specs.Outcomes.{effect, null_error}
use Rattle.run_state.specs.World.{World, Outcome, Given, Raised, Full, acts_in}
use Rattle.value_typing.specs.Worlds.{WorldFits, count_in, OutcomeFits}
use Rattle.source_fit.proofs.Effects.{beginnings_fit, outcomes_fit, casts_fit as run_time_fits}
use Rattle.value_typing.proofs.Values.{by_primitive}
use Rattle.source_fit.specs.Operating.{Operated, Meaningless, Gives, Acts, operates, operates_to, reference_operated, of_any, passed_alike, ints_of, made_of, filled_of, read_at, of_one_value, from_int_to, from_long_to, from_byte_to, from_short_to, from_char_to, from_flag_to, number_cast, in_box, box_if, gives_if, unwrapped, text_if, casts}
use Rattle.source_fit.proofs.Values.{OperatedFits, operates_fit, operates_to_fit, cast_fits}
use Rattle.program_typing.specs.Types.{HasPrimitive, HasLayer, HaveAll, Gives as GivesType, of_one, of_two, of_one_flag, of_two_flags, TakesNumbers, TakesFlags, def_given, Takes, TakesElement, TakesTo, IsGiven, Keeps, Same, References, Casts, string}
use Rattle.program_typing.specs.Agreeing.{IsKnownBefore}
use Rattle.program_typing.proofs.Containers.{element_is, takes_to_fit}
use Rattle.program_typing.proofs.Effects.{EffectHas, OperatedHas}
use Rattle.program_typing.proofs.Operations.{takes_fit, casts_fit}
use Rattle.program_typing.proofs.Values.{bare}
use Rattle.value_typing.specs.Typing.{is_typed_layer, is_typed, are_typed, OutcomeTyped}
use Rattle.value_typing.proofs.Casts.{casts_give_types, texts_give_types}
use Rattle.value_typing.proofs.Containers.{containers_give_types}
use Rattle.value_typing.proofs.Effects.{in_world, settled}
use Rattle.value_typing.proofs.Kept.{kept_is_typed, boxed_is_typed}
use Rattle.value_typing.proofs.Operators.{comparisons_give_flags}
use Rattle.source_typing.specs.Outs.{IsTyped, AreTyped, OperatedTyped}
use Rattle.source_typing.specs.Laws.{OperatorsGiveTypes, NodesGiveTypes, CastsGiveStaticTypes}
use Rattle.source_typing.proofs.Values.{all_there, all_are, primitive_typed, of_primitive}

-- ---- outcomes

-- what an operation comes to fits, and is of a type
abbrev pub OutcomeIs : Rules → List Object → Ty → Outcome Value → Type 0
OutcomeIs rules start of (Given value w) = WorldFits rules start w × IsTyped w.store.objects of value
OutcomeIs rules start of (Raised id w) = WorldFits rules start w × ThrownFits w.store.objects id
OutcomeIs rules start of Full = Unit {0}

pub outcome_is : (rules : Rules) (start : List Object) (count : ℕ) (of : Ty) (o : Outcome Value) → OutcomeFits rules start count o → OutcomeTyped of o → OutcomeIs rules start of o
outcome_is rules start count of (Given value w) f h = (f.0, record { there = f.2; is = h })
outcome_is rules start count of (Raised id w) f h = (f.0, f.2)
outcome_is rules start count of Full f h = tt

-- ---- primitives

has_primitive : (p : Primitive) (value : Value) → is_primitive p value ≡ true → HasPrimitive p value
has_primitive prim.Boolean (v.Bool a) h = (a, refl)
has_primitive prim.Boolean value h = cc
has_primitive prim.Byte (v.Byte a) h = (a, refl)
has_primitive prim.Byte value h = cc
has_primitive prim.Short (v.Short a) h = (a, refl)
has_primitive prim.Short value h = cc
has_primitive prim.Char (v.Char a) h = (a, refl)
has_primitive prim.Char value h = cc
has_primitive prim.Int (v.Int a) h = (a, refl)
has_primitive prim.Int value h = cc
has_primitive prim.Long (v.Long a) h = (a, refl)
has_primitive prim.Long value h = cc

primitive_has : (p : Primitive) (value : Value) → HasPrimitive p value → is_primitive p value ≡ true
primitive_has prim.Boolean value h = subst (λ value. is_primitive prim.Boolean value ≡ true) (sym h.1) refl
primitive_has prim.Byte value h = subst (λ value. is_primitive prim.Byte value ≡ true) (sym h.1) refl
primitive_has prim.Short value h = subst (λ value. is_primitive prim.Short value ≡ true) (sym h.1) refl
primitive_has prim.Char value h = subst (λ value. is_primitive prim.Char value ≡ true) (sym h.1) refl
primitive_has prim.Int value h = subst (λ value. is_primitive prim.Int value ≡ true) (sym h.1) refl
primitive_has prim.Long value h = subst (λ value. is_primitive prim.Long value ≡ true) (sym h.1) refl

layer_has : (ks : List Kind) (l : Ty-F Ty) (value : Value) → is_typed_layer ks l value ≡ true → HasLayer l value
layer_has ks Ty-F.Void value h = tt
layer_has ks Ty-F.Null value h = tt
layer_has ks Ty-F.Def value h = tt
layer_has ks (Ty-F.Prim p) value h = has_primitive p value h
layer_has ks (Ty-F.Class class) value h = tt
layer_has ks (Ty-F.Array elem) value h = tt

pub all_have : (objects : List Object) (ofs : List Ty) (values : List Value) → are_typed objects ofs values ≡ true → HaveAll ofs values
all_have objects [] [] h = tt
all_have objects [] (value ∷ values) h = cc
all_have objects (of ∷ ofs) [] h = cc
all_have objects (of ∷ ofs) (value ∷ values) h =
    let both = and_parts (is_typed objects of value) (are_typed objects ofs values) h in
    (layer_has (kinds objects) (out-Ty of) value both.0, all_have objects ofs values both.1)

-- what may have been made is of a primitive type
abbrev pub MadeOf : Primitive → Option Value → Type 0
MadeOf p None = Unit {0}
MadeOf p (Some value) = is_primitive p value ≡ true

pub box_made : (p : Primitive) (value : Value) → MadeOf p (in_box p value)
box_made prim.Boolean (v.Bool a) = refl
box_made prim.Byte (v.Byte a) = refl
box_made prim.Short (v.Short a) = refl
box_made prim.Char (v.Char a) = refl
box_made prim.Int (v.Int a) = refl
box_made prim.Long (v.Long a) = refl
box_made p value = tt

int_made : (p : Primitive) (a : ℤ) → MadeOf p (from_int_to p a)
int_made p a = by_primitive (λ p. MadeOf p (from_int_to p a)) tt refl refl refl refl refl p

long_made : (p : Primitive) (a : ℤ) → MadeOf p (from_long_to p a)
long_made p a = by_primitive (λ p. MadeOf p (from_long_to p a)) tt refl refl refl refl refl p

byte_made : (p : Primitive) (a : ℤ) → MadeOf p (from_byte_to p a)
byte_made p a = by_primitive (λ p. MadeOf p (from_byte_to p a)) tt refl refl refl refl refl p

short_made : (p : Primitive) (a : ℤ) → MadeOf p (from_short_to p a)
short_made p a = by_primitive (λ p. MadeOf p (from_short_to p a)) tt refl refl refl refl refl p

char_made : (p : Primitive) (unit : ℕ) → MadeOf p (from_char_to p unit)
char_made p unit = by_primitive (λ p. MadeOf p (from_char_to p unit)) tt refl refl refl refl refl p

flag_made : (p : Primitive) (flag : Bool) → MadeOf p (from_flag_to p flag)
flag_made p flag = by_primitive (λ p. MadeOf p (from_flag_to p flag)) refl tt tt tt tt tt p

cast_made : (p q : Primitive) (value : Value) → MadeOf q (number_cast p q value)
cast_made prim.Boolean q (v.Bool flag) = flag_made q flag
cast_made prim.Byte q (v.Byte a) = byte_made q a
cast_made prim.Short q (v.Short a) = short_made q a
cast_made prim.Char q (v.Char unit) = char_made q unit
cast_made prim.Int q (v.Int a) = int_made q a
cast_made prim.Long q (v.Long a) = long_made q a
cast_made p q value = tt

boxed_made : (q : Primitive) (o : Option Value) → MadeOf q (box_if q o)
boxed_made q None = tt
boxed_made q (Some value) = box_made q value

-- ---- which types operators give

gives_primitive : (o : Option Primitive) (of : Ty) → GivesType o of → (p : Primitive) × (of ≡ t.Prim p)
gives_primitive None of h = absurd h
gives_primitive (Some p) of h = (p, h)

numbers_give : (p : Primitive) (o : Op) (ofs : List Ty) (of : Ty) → TakesNumbers p o ofs of → (q : Primitive) × (of ≡ t.Prim q)
numbers_give p o [] of h = absurd h
numbers_give p o (a ∷ []) of h = gives_primitive (of_one p o) of h.1
numbers_give p o (a ∷ b ∷ []) of h = gives_primitive (of_two p o) of h.2
numbers_give p o (a ∷ b ∷ c ∷ ofs) of h = absurd h

flags_give : (o : Op) (ofs : List Ty) (of : Ty) → TakesFlags o ofs of → (q : Primitive) × (of ≡ t.Prim q)
flags_give o [] of h = absurd h
flags_give o (a ∷ []) of h = gives_primitive (of_one_flag o) of h.1
flags_give o (a ∷ b ∷ []) of h = gives_primitive (of_two_flags o) of h.2
flags_give o (a ∷ b ∷ c ∷ ofs) of h = absurd h

pub def_typed : (o : Outcome Value) → OutcomeTyped t.Def o
unfolding out-Ty denote.Hole.Carrier.out
def_typed (Given value w) = refl
def_typed (Raised id w) = tt
def_typed Full = tt

module _ (w : World) where
  -- where it comes to a value, one of a type
  abbrev Types : Ty → Operated → Type 0
  Types of Meaningless = Unit {0}
  Types of (Gives value) = is_typed w.store.objects of value ≡ true
  Types of (Acts e) = OutcomeTyped of (acts_in w e)

  -- ---- operators

  effect_types : (p : Primitive) (e : Effect) → EffectHas (t.Prim p) e → OutcomeTyped (t.Prim p) (acts_in w e)
  unfolding acts_in
  effect_types p (Gives_value value store) h = primitive_typed store.objects p value (primitive_has p value (bare p value h))
  effect_types p (Throws id store) h = tt
  effect_types p NoRoom h = tt

  primitive_types : (p : Primitive) (x : Operated) → OperatedHas (t.Prim p) x → Types (t.Prim p) x
  primitive_types p Meaningless h = absurd h
  primitive_types p (Gives value) h = primitive_typed w.store.objects p value (primitive_has p value (bare p value h))
  primitive_types p (Acts e) h = effect_types p e h

  same_types : (of : Ty) (x : Operated) → (p : Primitive) × (of ≡ t.Prim p) → OperatedHas of x → Types of x
  same_types of x p h = subst (λ of. Types of x) (sym p.1) (primitive_types p.0 x (subst (λ of. OperatedHas of x) p.1 h))

  texts_types : (values : List Value) → Types string (reference_operated operator.Concat values w.store)
  texts_types [] = tt
  texts_types (a ∷ []) = tt
  texts_types (a ∷ b ∷ []) = texts_give_types w a b
  texts_types (a ∷ b ∷ c ∷ values) = tt

  -- operands whose types are found when the script runs
  def_types : (of : Ty) (o : Outcome Value) → t.Def ≡ of → OutcomeTyped of o
  def_types of o is = subst (λ (of : Ty). OutcomeTyped of o) is (def_typed o)

  flag_types : (of : Ty) (o : Op) (a b : Value) → compares o ≡ true → t.Prim prim.Boolean ≡ of → OutcomeTyped of (acts_in w (effect w.store (operate w.store.objects o a b)))
  flag_types of o a b c is = subst (λ (of : Ty). OutcomeTyped of (acts_in w (effect w.store (operate w.store.objects o a b)))) is (comparisons_give_flags w o a b c)

  given_types : (o : Op) (of : Ty) (a b : Value) → def_given o ≡ Some of → OutcomeTyped of (acts_in w (effect w.store (operate w.store.objects o a b)))
  given_types op.Lt of a b g = flag_types of op.Lt a b refl cc
  given_types op.Le of a b g = flag_types of op.Le a b refl cc
  given_types op.Gt of a b g = flag_types of op.Gt a b refl cc
  given_types op.Ge of a b g = flag_types of op.Ge a b refl cc
  given_types op.Eq of a b g = cc
  given_types op.Ne of a b g = cc
  given_types other of a b g = def_types of _ cc

  any_types : (o : Op) (of : Ty) (values : List Value) → def_given o ≡ Some of → Types of (of_any o values w.store)
  any_types o of [] g = tt
  any_types o of (a ∷ []) g = either (is_unary o)
    where
      either : (unary : Bool) → Types of (if unary then Acts (effect w.store (operate w.store.objects o a a)) else Meaningless)
      either true = given_types o of a a g
      either false = tt
  any_types o of (a ∷ b ∷ []) g = either (is_unary o)
    where
      either : (unary : Bool) → Types of (if unary then Meaningless else Acts (effect w.store (operate w.store.objects o a b)))
      either true = tt
      either false = given_types o of a b g
  any_types o of (a ∷ b ∷ c ∷ values) g = tt

  operator_types : (o : Operator) (ofs : List Ty) (of : Ty) (values : List Value) → Takes o ofs of → are_typed w.store.objects ofs values ≡ true → Types of (operates o values w.store)
  operator_types (operator.Int o) ofs of values x h =
      same_types of _ (numbers_give prim.Int o ofs of x) (takes_fit (operator.Int o) ofs of values w.store x (all_have w.store.objects ofs values h))
  operator_types (operator.Long o) ofs of values x h =
      same_types of _ (numbers_give prim.Long o ofs of x) (takes_fit (operator.Long o) ofs of values w.store x (all_have w.store.objects ofs values h))
  operator_types (operator.Boolean o) ofs of values x h =
      same_types of _ (flags_give o ofs of x) (takes_fit (operator.Boolean o) ofs of values w.store x (all_have w.store.objects ofs values h))
  operator_types (operator.Def o) ofs of values x h = any_types o of values x.1
  operator_types operator.Equal ofs of values x h = same_types of _ (prim.Boolean, x.1) (takes_fit operator.Equal ofs of values w.store x (all_have w.store.objects ofs values h))
  operator_types operator.NotEqual ofs of values x h = same_types of _ (prim.Boolean, x.1) (takes_fit operator.NotEqual ofs of values w.store x (all_have w.store.objects ofs values h))
  operator_types operator.Same ofs of values x h = same_types of _ (prim.Boolean, x.1) (takes_fit operator.Same ofs of values w.store x (all_have w.store.objects ofs values h))
  operator_types operator.NotSame ofs of values x h = same_types of _ (prim.Boolean, x.1) (takes_fit operator.NotSame ofs of values w.store x (all_have w.store.objects ofs values h))
  operator_types operator.Concat ofs of values x h = subst (λ of. Types of (reference_operated operator.Concat values w.store)) (sym x.1) (texts_types values)
  operator_types operator.List ofs of values x h = absurd x
  operator_types operator.Map ofs of values x h = absurd x
  operator_types operator.NewArray ofs of values x h = absurd x
  operator_types operator.ArrayOf ofs of values x h = absurd x
  operator_types operator.Element ofs of values x h = absurd x
  operator_types operator.PutElement ofs of values x h = absurd x
  operator_types operator.Length ofs of values x h = absurd x
  operator_types operator.Iterate ofs of values x h = absurd x
  operator_types operator.HasNext ofs of values x h = absurd x
  operator_types operator.Next ofs of values x h = absurd x

  -- ---- lists, maps, arrays and iterators

  made_types : (of : Ty) (sizes : Option (List ℤ)) → Types of (made_of sizes of w.store)
  made_types of None = tt
  made_types of (Some sizes) = containers_give_types.arrays w of sizes

  filled_types : (of elem : Ty) (items : Option (List Value)) → of ≡ t.Array elem → Types of (filled_of items (element_of of) w.store)
  filled_types of elem None is = tt
  filled_types of elem (Some items) is =
      let own : t.Array (element_of of) ≡ of = ap t.Array (ap element_of is ∙ element_is elem) ∙ sym is in
      subst (λ (given : Ty). OutcomeTyped given (acts_in w (array_filled w.store (element_of of) items))) own (containers_give_types.filled w (element_of of) items)

  one_types : (does : Store → Value → Effect) (of : Ty) (values : List Value) → ((value : Value) → OutcomeTyped of (acts_in w (does w.store value))) → Types of (of_one_value does values w.store)
  one_types does of [] k = tt
  one_types does of (value ∷ []) k = k value
  one_types does of (value ∷ other ∷ values) k = tt

  module _ (rules : Rules) (f : Fits rules w.store.objects) (every : rules.typed ≡ Every) where
    element_types : (ofs : List Ty) (of : Ty) (values : List Value) → TakesElement ofs of → are_typed w.store.objects ofs values ≡ true → Types of (read_at of values w.store)
    element_types [] of values x h = absurd x
    element_types (a ∷ []) of values x h = absurd x
    element_types (a ∷ b ∷ []) of (array ∷ v.Int at ∷ []) x h =
        let typed = (and_parts (is_typed w.store.objects a array) (are_typed w.store.objects (b ∷ []) (v.Int at ∷ [])) h).0 in
        containers_give_types.elements rules w of array at f (subst (λ (typed : Typed). layer_asked typed (out-Ty of) ≡ true) (sym every) refl)
        (subst (λ (a : Ty). is_typed w.store.objects a array ≡ true) x.0 typed)
    element_types (a ∷ b ∷ []) of values x h = tt
    element_types (a ∷ b ∷ c ∷ ofs) of values x h = absurd x

    node_types : (o : Operator) (ofs : List Ty) (of : Ty) (values : List Value) → TakesTo o ofs of → are_typed w.store.objects ofs values ≡ true → Types of (operates_to o of values w.store)
    node_types operator.List ofs of values x h = subst (λ (of : Ty). OutcomeTyped of (acts_in w (list_made w.store values))) (sym x.1) (containers_give_types.lists w values)
    node_types operator.Map ofs of values x h = subst (λ (of : Ty). OutcomeTyped of (acts_in w (map_made w.store values))) (sym x.1) (containers_give_types.maps w values)
    node_types operator.NewArray ofs of values x h = made_types of (ints_of values)
    node_types operator.ArrayOf ofs of values x h = filled_types of x.0 (passed_alike (element_of of) values) x.1
    node_types operator.Element ofs of values x h = element_types ofs of values x h
    node_types operator.PutElement ofs of values x h = absurd x
    node_types operator.Length ofs of values x h =
        one_types length_of of values (λ value. subst (λ (of : Ty). OutcomeTyped of (acts_in w (length_of w.store value))) (sym x.1) (containers_give_types.lengths w value))
    node_types operator.Iterate ofs of values x h =
        one_types iterated of values (λ value. subst (λ (of : Ty). OutcomeTyped of (acts_in w (iterated w.store value))) (sym x.1) (containers_give_types.iterators w value))
    node_types operator.HasNext ofs of values x h =
        one_types has_more of values (λ value. subst (λ (of : Ty). OutcomeTyped of (acts_in w (has_more w.store value))) (sym x.1) (containers_give_types.more w value))
    node_types operator.Next ofs of values x h = one_types next_element of values (λ value. def_types of (acts_in w (next_element w.store value)) (sym x.1))
    node_types (operator.Int o) ofs of values x h = operator_types (operator.Int o) ofs of values x h
    node_types (operator.Long o) ofs of values x h = operator_types (operator.Long o) ofs of values x h
    node_types (operator.Boolean o) ofs of values x h = operator_types (operator.Boolean o) ofs of values x h
    node_types (operator.Def o) ofs of values x h = operator_types (operator.Def o) ofs of values x h
    node_types operator.Equal ofs of values x h = operator_types operator.Equal ofs of values x h
    node_types operator.NotEqual ofs of values x h = operator_types operator.NotEqual ofs of values x h
    node_types operator.Same ofs of values x h = operator_types operator.Same ofs of values x h
    node_types operator.NotSame ofs of values x h = operator_types operator.NotSame ofs of values x h
    node_types operator.Concat ofs of values x h = operator_types operator.Concat ofs of values x h

  -- ---- casts

  number_types : (of : Ty) (q : Primitive) (o : Option Value) → of ≡ t.Prim q → MadeOf q o → Types of (gives_if o)
  number_types of q None e h = tt
  number_types of q (Some value) e h = of_primitive w.store.objects of q value e h

  box_types : (from to : Ty) (p q : Primitive) (o : Option Value) → IsGiven (cast.Wrap p q) from to → MadeOf q o → Types to (gives_if o)
  box_types from to p q None g h = tt
  box_types from to p q (Some value) g h = boxed_is_typed w.store.objects from to g.written p q value g.is h

  unwrapped_types : (to : Ty) (p q : Primitive) (o : Told) → to ≡ t.Prim q → Types to (unwrapped p q o w.store)
  unwrapped_types to p q (told.Gives value) e = number_types to q (number_cast p q value) e (cast_made p q value)
  unwrapped_types to p q (told.Makes text) e = tt
  unwrapped_types to p q (told.Throws raised message) e =
      in_world to w (effect w.store (told.Throws raised message)) (settled (out-Ty to) w.store (told.Throws raised message) tt)
  unwrapped_types to p q told.NoMemory e = tt

  text_types : (o : Option Value) → Types string (text_if o w.store)
  text_types None = tt
  text_types (Some value) = casts_give_types w value (t.Class STRING) true

  kept_types : (from to : Ty) (value : Value) → Keeps from to → is_typed w.store.objects from value ≡ true → is_typed w.store.objects to value ≡ true
  kept_types from to value (Same e) h = subst (λ of. is_typed w.store.objects of value ≡ true) e h
  kept_types from to value (References r s given) h = kept_is_typed w.store.objects from to given.written value given.is h

  cast_types : (c : Cast) (from to : Ty) (value : Value) → Casts c from to → is_typed w.store.objects from value ≡ true → Types to (casts c to value w.store)
  cast_types cast.Keep from to value x h = kept_types from to value x h
  cast_types (cast.Number p q) from to value x h = number_types to q (number_cast p q value) x.1 (cast_made p q value)
  cast_types (cast.Wrap p q) from to value x h = box_types from to p q (box_if q (number_cast p q value)) x.3 (boxed_made q (number_cast p q value))
  cast_types (cast.Unwrap p q) from to value x h = unwrapped_types to p q (cast_at_run_time w.store.objects value (t.Prim p) false) x.1
  cast_types cast.Implicit from to value x h = casts_give_types w value to false
  cast_types cast.Explicit from to value x h = casts_give_types w value to true
  cast_types cast.CharToText from to value x h = subst (λ of. Types of (text_if (in_box prim.Char value) w.store)) (sym x.1) (text_types (in_box prim.Char value))
  cast_types cast.TextToChar from to value x h =
      subst (λ of. Types of (casts cast.TextToChar to value w.store)) (sym x.1) (casts_give_types w value (t.Prim prim.Char) true)

  -- the first cast of a compound assignment asks for no type
  begin_types : (c : Cast) (from to : Ty) (value : Value) → IsKnownBefore c → Casts c from to → is_typed w.store.objects from value ≡ true → Types to (casts c from value w.store)
  begin_types cast.Keep from to value k x h = cast_types cast.Keep from to value x h
  begin_types (cast.Number p q) from to value k x h = cast_types (cast.Number p q) from to value x h
  begin_types (cast.Wrap p q) from to value k x h = cast_types (cast.Wrap p q) from to value x h
  begin_types (cast.Unwrap p q) from to value k x h = cast_types (cast.Unwrap p q) from to value x h
  begin_types cast.Implicit from to value k x h = absurd k
  begin_types cast.Explicit from to value k x h = absurd k
  begin_types cast.CharToText from to value k x h = cast_types cast.CharToText from to value x h
  begin_types cast.TextToChar from to value k x h = cast_types cast.TextToChar from to value x h

  -- ---- both, and that they come to something

  comes_to : (of : Ty) (x : Operated) → OperatedHas of x → Types of x → OperatedTyped w of x
  comes_to of Meaningless h x = h
  comes_to of (Gives value) h x = x
  comes_to of (Acts e) h x = x

pub operators_give_types : OperatorsGiveTypes
operators_give_types w o ofs of values x h =
    comes_to w of (operates o values w.store) (takes_fit o ofs of values w.store x (all_have w.store.objects ofs values h)) (operator_types w o ofs of values x h)

pub nodes_give_types : NodesGiveTypes
nodes_give_types rules w o ofs of values every f x h =
    comes_to w of (operates_to o of values w.store) (takes_to_fit o ofs of values w.store x (all_have w.store.objects ofs values h)) (node_types w rules f every o ofs of values x h)

pub casts_give_static_types : CastsGiveStaticTypes
casts_give_static_types w c from to value x h =
    comes_to w to (casts c to value w.store) (casts_fit c from to value w.store x (layer_has (kinds w.store.objects) (out-Ty from) value h)) (cast_types w c from to value x h)

-- ---- in a store that fits

module _ (rules : Rules) (w : World) (f : Fits rules w.store.objects) where
  -- what an operator or a cast comes to, from a world that fits
  abbrev pub OperatedIs : Ty → Operated → Type 0
  OperatedIs of Meaningless = Unit {0}
  OperatedIs of (Gives value) = IsTyped w.store.objects of value
  OperatedIs of (Acts e) = OutcomeIs rules w.store.objects of (acts_in w e)

  abbrev here : WorldFits rules w.store.objects w
  here = beginnings_fit rules w f

  operated_is : (of : Ty) (x : Operated) → OperatedFits rules w.store.objects w here x → Types w of x → OperatedIs of x
  operated_is of Meaningless g h = tt
  operated_is of (Gives value) g h = record { there = g; is = h }
  operated_is of (Acts e) g h = outcome_is rules w.store.objects (count_in w) of (acts_in w e) g h

  -- a receiver that is null
  pub null_is : (of : Ty) → OutcomeIs rules w.store.objects of (acts_in w (effect w.store null_error))
  null_is of =
      outcome_is rules w.store.objects (count_in w) of (acts_in w (effect w.store null_error)) (outcomes_fit rules w.store.objects w null_error here tt)
      (in_world of w (effect w.store null_error) (settled (out-Ty of) w.store null_error tt))

  -- a cast at run time
  pub cast_is : (value : Value) (to : Ty) (explicit : Bool) → ValueFits (count_in w) value → OutcomeIs rules w.store.objects to (acts_in w (effect w.store (cast_at_run_time w.store.objects value to explicit)))
  cast_is value to explicit h =
      outcome_is rules w.store.objects (count_in w) to (acts_in w (effect w.store (cast_at_run_time w.store.objects value to explicit))) (run_time_fits rules w.store.objects w value to explicit here h)
      (casts_give_types w value to explicit)

  pub operates_is : (o : Operator) (ofs : List Ty) (of : Ty) (values : List Value) → Takes o ofs of → AreTyped w.store.objects ofs values → OperatedIs of (operates o values w.store)
  operates_is o ofs of values x h = operated_is of (operates o values w.store) (operates_fit rules w.store.objects w here o values) (operator_types w o ofs of values x (all_are w.store.objects ofs values h))

  -- what an operator of a node of a type comes to
  pub node_is : (o : Operator) (ofs : List Ty) (of : Ty) (values : List Value) → rules.typed ≡ Every → TakesTo o ofs of → AreTyped w.store.objects ofs values → OperatedIs of (operates_to o of values w.store)
  node_is o ofs of values every x h =
      operated_is of (operates_to o of values w.store) (operates_to_fit rules w.store.objects w here o of values (all_there w.store.objects ofs values h))
      (node_types w rules f every o ofs of values x (all_are w.store.objects ofs values h))

  pub casts_is : (c : Cast) (from to : Ty) (value : Value) → Casts c from to → IsTyped w.store.objects from value → OperatedIs to (casts c to value w.store)
  casts_is c from to value x h = operated_is to (casts c to value w.store) (cast_fits rules w.store.objects w here c to value h.there) (cast_types w c from to value x h.is)

  pub begins_is : (c : Cast) (from to : Ty) (value : Value) → IsKnownBefore c → Casts c from to → IsTyped w.store.objects from value → OperatedIs to (casts c from value w.store)
  begins_is c from to value k x h = operated_is to (casts c from value w.store) (cast_fits rules w.store.objects w here c from value h.there) (begin_types w c from to value k x h.is)
