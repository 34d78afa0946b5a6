-- A cast at run time gives a value of its type, and a concatenation a text.
use Rattle.std.proofs.Common.{◌≡◌, ℕ, ◌==◌, Bool, true, false, Option, Some, None, List, [], ◌∷◌, ◌++◌, refl, sym, subst, if◌then◌else◌}
use Rattle.std.proofs.lemmas.Bool.{eqb-true}
use Rattle.pl_types.specs.declared.classes.TheConstants.{BYTE, SHORT, INTEGER, LONG, CHARACTER, BOOLEAN, STRING}
use Rattle.pl_types.specs.declared.primitive.Primitive.{Primitive}
use Rattle.pl_types.specs.declared.primitive.Primitive.TheVariants as prim
use Rattle.pl_types.specs.declared.ty.Ty.{Ty, out-Ty}
use Rattle.pl_types.specs.declared.ty.Ty.TheVariants as ty
use Rattle.pl_types.specs.declared.ty.Ty.TheOpen.{Ty-F}
use Rattle.pl_types.specs.Casts.{reaches, unboxed, box_of}
use Rattle.pl_types.proofs.Shapes.{unboxed_is}
use Rattle.object_values.specs.declared.object.Object.{Object}
use Rattle.object_values.specs.declared.value.Value.{Value}
use Rattle.object_values.specs.declared.value.Value.TheVariants as v
use Rattle.object_heap.specs.Fits.{kinds, is_primitive, value_is_of, value_is_array}
use Rattle.object_heap.specs.Objects.{Kind}
use Rattle.value_walks.specs.declared.TheConstants.{VISITS}
use Rattle.value_walks.specs.Texts.{Text, Wrote, TooDeep, TooLarge, text_of}
use Rattle.number_ops.specs.arithmetic_declared.operator.Num.{Num}
use Rattle.number_ops.specs.declared.casts.Casted.{Casted}
use Rattle.number_ops.specs.declared.casts.Casted.TheVariants.{Kept, To, Text as A_text, Refused}
use Rattle.number_ops.specs.declared.outcome.Raised.{Raised}
use Rattle.number_ops.specs.declared.outcome.Outcome.{Outcome as Told}
use Rattle.number_ops.specs.declared.outcome.Outcome.TheVariants as told
use Rattle.number_ops.specs.Casts.{number_as, only_unit, char_given, to_primitive, char_to_text, text_given, kept_if, to_other_class, to_class_of, to_layer, given, of_null, cast_at_run_time}
use Rattle.number_ops.specs.Names.{cast_message}
use Rattle.number_ops.specs.Operators.{is_null, followed_by, after, concatenated}
use Rattle.number_ops.specs.Outcomes.{effect, says}
use Rattle.value_typing.specs.Typing.{is_typed_layer}
use Rattle.value_typing.specs.Laws.{CastsGiveTypes, TextsGiveTypes}
use Rattle.value_typing.proofs.Typing.{below_itself}
use Rattle.value_typing.proofs.Effects.{in_world, ToldTyped, settled}

pub says_typed : (ks : List Kind) (l : Ty-F Ty) (raised : Raised) (message : List ℕ) → ToldTyped ks l (says raised message)
unfolding says
says_typed ks l raised message = tt

-- what a cast of a value comes to is of a type
abbrev CastedTyped : List Kind → Ty-F Ty → Value → Casted → Type 0
CastedTyped ks l value Kept = is_typed_layer ks l value ≡ true
CastedTyped ks l value (To made) = is_typed_layer ks l made ≡ true
CastedTyped ks l value (A_text unit) = (others : List Kind) → is_typed_layer others l (v.Str (unit ∷ [])) ≡ true
CastedTyped ks l value Refused = Unit {0}

given_typed : (objects : List Object) (l : Ty-F Ty) (value : Value) (to : Ty) (c : Casted) → CastedTyped (kinds objects) l value c → ToldTyped (kinds objects) l (given objects value to c)
given_typed objects l value to Kept h = h
given_typed objects l value to (To made) h = h
given_typed objects l value to (A_text unit) h = h
given_typed objects l value to Refused h = says_typed (kinds objects) l _ (cast_message objects value to)

-- ---- to a primitive

-- a number's box goes to no boolean, and to each other primitive
abbrev IsNumber : Primitive → Type 0
IsNumber prim.Boolean = ⊥
IsNumber other = Unit {0}

no_boolean : (from : Primitive) (explicit : Bool) → IsNumber from → reaches from prim.Boolean explicit ≡ false
no_boolean prim.Boolean explicit h = absurd h
no_boolean prim.Byte true h = refl
no_boolean prim.Byte false h = refl
no_boolean prim.Short true h = refl
no_boolean prim.Short false h = refl
no_boolean prim.Char true h = refl
no_boolean prim.Char false h = refl
no_boolean prim.Int true h = refl
no_boolean prim.Int false h = refl
no_boolean prim.Long true h = refl
no_boolean prim.Long false h = refl

number_goes : (ks : List Kind) (p from : Primitive) (explicit : Bool) (number : Num) (value : Value) → IsNumber from
    → CastedTyped ks (Ty-F.Prim p) value (if reaches from p explicit then To (number_as p number) else Refused)
number_goes ks p from explicit number value h = by p
  where
    either : (p : Primitive) → is_primitive p (number_as p number) ≡ true → (c : Bool) → CastedTyped ks (Ty-F.Prim p) value (if c then To (number_as p number) else Refused)
    either p has true = has
    either p has false = tt

    by : (p : Primitive) → CastedTyped ks (Ty-F.Prim p) value (if reaches from p explicit then To (number_as p number) else Refused)
    by prim.Boolean =
        subst (λ c. CastedTyped ks (Ty-F.Prim prim.Boolean) value (if c then To (number_as prim.Boolean number) else Refused)) (sym (no_boolean from explicit h)) tt
    by prim.Byte = either prim.Byte refl (reaches from prim.Byte explicit)
    by prim.Short = either prim.Short refl (reaches from prim.Short explicit)
    by prim.Char = either prim.Char refl (reaches from prim.Char explicit)
    by prim.Int = either prim.Int refl (reaches from prim.Int explicit)
    by prim.Long = either prim.Long refl (reaches from prim.Long explicit)

truth_goes : (ks : List Kind) (p : Primitive) (explicit flag : Bool) → CastedTyped ks (Ty-F.Prim p) (v.Bool flag) (to_primitive p explicit (v.Bool flag))
truth_goes ks prim.Boolean explicit flag = refl
truth_goes ks prim.Byte true flag = tt
truth_goes ks prim.Byte false flag = tt
truth_goes ks prim.Short true flag = tt
truth_goes ks prim.Short false flag = tt
truth_goes ks prim.Char true flag = tt
truth_goes ks prim.Char false flag = tt
truth_goes ks prim.Int true flag = tt
truth_goes ks prim.Int false flag = tt
truth_goes ks prim.Long true flag = tt
truth_goes ks prim.Long false flag = tt

unit_goes : (ks : List Kind) (value : Value) (o : Option ℕ) → CastedTyped ks (Ty-F.Prim prim.Char) value (char_given o)
unit_goes ks value None = tt
unit_goes ks value (Some unit) = refl

text_goes : (ks : List Kind) (p : Primitive) (explicit : Bool) (text : List ℕ) → CastedTyped ks (Ty-F.Prim p) (v.Str text) (to_primitive p explicit (v.Str text))
text_goes ks prim.Char true text = unit_goes ks (v.Str text) (only_unit text)
text_goes ks prim.Char false text = tt
text_goes ks prim.Boolean explicit text = tt
text_goes ks prim.Byte explicit text = tt
text_goes ks prim.Short explicit text = tt
text_goes ks prim.Int explicit text = tt
text_goes ks prim.Long explicit text = tt

reference_goes : (ks : List Kind) (p : Primitive) (explicit : Bool) (id : ℕ) → CastedTyped ks (Ty-F.Prim p) (v.Ref id) (to_primitive p explicit (v.Ref id))
reference_goes ks prim.Char true id = tt
reference_goes ks prim.Char false id = tt
reference_goes ks prim.Boolean explicit id = tt
reference_goes ks prim.Byte explicit id = tt
reference_goes ks prim.Short explicit id = tt
reference_goes ks prim.Int explicit id = tt
reference_goes ks prim.Long explicit id = tt

null_goes : (ks : List Kind) (p : Primitive) (explicit : Bool) → CastedTyped ks (Ty-F.Prim p) v.Null (to_primitive p explicit v.Null)
null_goes ks prim.Char true = tt
null_goes ks prim.Char false = tt
null_goes ks prim.Boolean explicit = tt
null_goes ks prim.Byte explicit = tt
null_goes ks prim.Short explicit = tt
null_goes ks prim.Int explicit = tt
null_goes ks prim.Long explicit = tt

primitive_typed : (ks : List Kind) (p : Primitive) (explicit : Bool) (value : Value) → CastedTyped ks (Ty-F.Prim p) value (to_primitive p explicit value)
primitive_typed ks p explicit v.Null = null_goes ks p explicit
primitive_typed ks p explicit (v.Bool flag) = truth_goes ks p explicit flag
primitive_typed ks p explicit (v.Byte a) = number_goes ks p prim.Byte explicit _ (v.Byte a) tt
primitive_typed ks p explicit (v.Short a) = number_goes ks p prim.Short explicit _ (v.Short a) tt
primitive_typed ks p explicit (v.Char a) = number_goes ks p prim.Char explicit _ (v.Char a) tt
primitive_typed ks p explicit (v.Int a) = number_goes ks p prim.Int explicit _ (v.Int a) tt
primitive_typed ks p explicit (v.Long a) = number_goes ks p prim.Long explicit _ (v.Long a) tt
primitive_typed ks p explicit (v.Str text) = text_goes ks p explicit text
primitive_typed ks p explicit (v.Ref id) = reference_goes ks p explicit id

-- ---- to a class

-- what is of a primitive type is of its box's class
pub boxed_is : (ks : List Kind) (p : Primitive) (value : Value) → is_primitive p value ≡ true → value_is_of ks (box_of p) value ≡ true
boxed_is ks prim.Boolean (v.Bool a) h = below_itself BOOLEAN
boxed_is ks prim.Boolean value h = cc
boxed_is ks prim.Byte (v.Byte a) h = below_itself BYTE
boxed_is ks prim.Byte value h = cc
boxed_is ks prim.Short (v.Short a) h = below_itself SHORT
boxed_is ks prim.Short value h = cc
boxed_is ks prim.Char (v.Char a) h = below_itself CHARACTER
boxed_is ks prim.Char value h = cc
boxed_is ks prim.Int (v.Int a) h = below_itself INTEGER
boxed_is ks prim.Int value h = cc
boxed_is ks prim.Long (v.Long a) h = below_itself LONG
boxed_is ks prim.Long value h = cc

no_text : (p : Primitive) (text : List ℕ) → is_primitive p (v.Str text) ≡ false
no_text prim.Boolean text = refl
no_text prim.Byte text = refl
no_text prim.Short text = refl
no_text prim.Char text = refl
no_text prim.Int text = refl
no_text prim.Long text = refl

never : (b : Bool) → b ≡ false → b ≡ true → ⊥
never true x y = cc
never false x y = cc

in_its_box : (ks : List Kind) (p : Primitive) (value : Value) (c : Casted) → CastedTyped ks (Ty-F.Prim p) value c → CastedTyped ks (Ty-F.Class (box_of p)) value c
in_its_box ks p value Kept h = boxed_is ks p value h
in_its_box ks p value (To made) h = boxed_is ks p made h
in_its_box ks p value (A_text unit) h = absurd (never (is_primitive p (v.Str (unit ∷ []))) (no_text p (unit ∷ [])) (h ks))
in_its_box ks p value Refused h = tt

text_is : (text : List ℕ) (class : ℕ) → (class == STRING) ≡ true → (ks : List Kind) → value_is_of ks class (v.Str text) ≡ true
text_is text class e ks = subst (λ (c : ℕ). value_is_of ks c (v.Str text) ≡ true) (sym (eqb-true class STRING e)) (below_itself STRING)

other_class : (objects : List Object) (class : ℕ) (explicit : Bool) (value : Value) → CastedTyped (kinds objects) (Ty-F.Class class) value (to_other_class objects class explicit value)
other_class objects class explicit value = kept (value_is_of (kinds objects) class value) refl
  where
    unit : (class == STRING) ≡ true → (o : Option ℕ) → CastedTyped (kinds objects) (Ty-F.Class class) value (text_given o)
    unit e None = tt
    unit e (Some u) = text_is (u ∷ []) class e

    text : (b : Bool) → (class == STRING) ≡ b → CastedTyped (kinds objects) (Ty-F.Class class) value (if b then text_given (char_to_text explicit value) else Refused)
    text true e = unit e (char_to_text explicit value)
    text false e = tt

    kept : (b : Bool) → value_is_of (kinds objects) class value ≡ b
        → CastedTyped (kinds objects) (Ty-F.Class class) value (if b then Kept else (if class == STRING then text_given (char_to_text explicit value) else Refused))
    kept true e = e
    kept false e = text (class == STRING) refl

class_typed : (objects : List Object) (class : ℕ) (explicit : Bool) (value : Value) (o : Option Primitive) → unboxed class ≡ o
    → CastedTyped (kinds objects) (Ty-F.Class class) value (to_class_of objects class explicit value o)
class_typed objects class explicit value None e = other_class objects class explicit value
class_typed objects class explicit value (Some p) e =
    subst (λ (c : ℕ). CastedTyped (kinds objects) (Ty-F.Class c) value (to_primitive p explicit value)) (sym (unboxed_is class p e))
    (in_its_box (kinds objects) p value (to_primitive p explicit value) (primitive_typed (kinds objects) p explicit value))

array_typed : (ks : List Kind) (elem : Ty) (value : Value) (b : Bool) → value_is_array ks elem value ≡ b → CastedTyped ks (Ty-F.Array elem) value (kept_if b)
array_typed ks elem value true e = e
array_typed ks elem value false e = tt

-- ---- to any type

layer_typed : (objects : List Object) (l : Ty-F Ty) (explicit : Bool) (value : Value) → CastedTyped (kinds objects) l value (to_layer objects l explicit value)
layer_typed objects Ty-F.Void explicit value = tt
layer_typed objects Ty-F.Null explicit value = tt
layer_typed objects Ty-F.Def explicit value = refl
layer_typed objects (Ty-F.Prim p) explicit value = primitive_typed (kinds objects) p explicit value
layer_typed objects (Ty-F.Class class) explicit value = class_typed objects class explicit value (unboxed class) refl
layer_typed objects (Ty-F.Array elem) explicit value = array_typed (kinds objects) elem value (value_is_array (kinds objects) elem value) refl

null_typed : (ks : List Kind) (l : Ty-F Ty) → ToldTyped ks l (of_null l)
null_typed ks Ty-F.Void = refl
null_typed ks Ty-F.Null = refl
null_typed ks Ty-F.Def = refl
null_typed ks (Ty-F.Prim p) = tt
null_typed ks (Ty-F.Class class) = refl
null_typed ks (Ty-F.Array elem) = refl

cast_told : (objects : List Object) (value : Value) (to : Ty) (explicit : Bool) → ToldTyped (kinds objects) (out-Ty to) (cast_at_run_time objects value to explicit)
cast_told objects value to explicit = either (is_null value)
  where
    either : (b : Bool) → ToldTyped (kinds objects) (out-Ty to) (if b then of_null (out-Ty to) else given objects value to (to_layer objects (out-Ty to) explicit value))
    either true = null_typed (kinds objects) (out-Ty to)
    either false = given_typed objects (out-Ty to) value to (to_layer objects (out-Ty to) explicit value) (layer_typed objects (out-Ty to) explicit value)

pub casts_give_types : CastsGiveTypes
casts_give_types w value to explicit =
    in_world to w (effect w.store (cast_at_run_time w.store.objects value to explicit))
    (settled (out-Ty to) w.store (cast_at_run_time w.store.objects value to explicit) (cast_told w.store.objects value to explicit))

-- ---- texts

pub string_layer : (ks : List Kind) (text : List ℕ) → is_typed_layer ks (out-Ty (ty.Class STRING)) (v.Str text) ≡ true
unfolding out-Ty denote.Hole.Carrier.out
string_layer ks text = below_itself STRING

pub follows : (ks : List Kind) (x : Text) (next : List ℕ → Told) → ((text : List ℕ) → ToldTyped ks (out-Ty (ty.Class STRING)) (next text)) → ToldTyped ks (out-Ty (ty.Class STRING)) (followed_by x next)
unfolding says
follows ks (Wrote text visits) next h = h text
follows ks TooDeep next h = tt
follows ks TooLarge next h = tt

pub texts_give_types : TextsGiveTypes
texts_give_types w a b =
    let ks = kinds w.store.objects in
    in_world (ty.Class STRING) w (effect w.store (concatenated w.store.objects a b))
    (settled (out-Ty (ty.Class STRING)) w.store (concatenated w.store.objects a b)
    (follows ks (text_of w.store.objects a VISITS) (λ text. after text w.store.objects b)
    (λ text. follows ks (text_of w.store.objects b VISITS) (λ more. told.Makes (text ++ more)) (λ more others. string_layer others (text ++ more)))))
