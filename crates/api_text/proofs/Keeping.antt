-- What members come to fits the store.
use Rattle.std.proofs.Common.{◌≡◌, ℕ, zero, suc, ◌+◌, ◌<◌, Bool, true, Option, Some, None, List, [], ◌∷◌, ◌++◌, length, ℤ, refl, ap, sym, ◌∙◌, subst, arith, length-append, slice_get, if◌then◌else◌}
use Rattle.std.specs.Prelude.{map, pos, negsuc}
use Rattle.std.proofs.Math.ListN.{length-set}
use Rattle.pl_types.specs.declared.classes.TheConstants.{EXCEPTION, STRING}
use Rattle.pl_types.specs.Classes.{class_is_below, lineage_of, parents_of, class_row, class_table}
use Rattle.pl_types.specs.declared.primitive.Primitive.TheVariants as prim
use Rattle.pl_types.specs.declared.ty.Ty.{Ty, out-Ty}
use Rattle.pl_types.specs.declared.ty.Ty.TheOpen.{Ty-F}
use Rattle.pl_types.specs.declared.ty.Ty.TheViews.{outs-Prim, outs-Class}
use Rattle.pl_types.specs.declared.ty.Ty.TheFolds.{fold-roll-Ty}
use Rattle.pl_types.specs.declared.ty.Ty.TheVariants.{rolls-Prim, rolls-Class}
use Rattle.pl_types.specs.declared.ty.Ty.TheVariants as ty
use Rattle.object_values.specs.declared.object.Object.{Object}
use Rattle.object_values.specs.declared.object.Object.TheVariants as o
use Rattle.object_values.specs.declared.value.Value.{Value}
use Rattle.object_values.specs.declared.value.Value.TheVariants as v
use Rattle.object_heap.specs.Effects as e
use Rattle.object_heap.specs.Fits.{Typed, Every, Primitives, Rules, Fits, ValueFits, AllFit, AreElements, ObjectFits, EffectFits, has_layer, is_element, is_type, kinds, layer_asked, layer_is_type}
use Rattle.object_heap.specs.Objects.{Kind, with_units, renewed_by}
use Rattle.object_heap.specs.Store.{Store, changed_at, with_change}
use Rattle.object_heap.proofs.Fitting.{added_fits, append_fits, renew_fits}
use Rattle.object_heap.proofs.Fronting.{whether}
use Rattle.object_heap.proofs.Keeping.{after_fits, throws_fits}
use Rattle.value_walks.specs.Texts.{Node, Text, Wrote, TooDeep, TooLarge}
use Rattle.api_text.specs.declared.outcome.ExceptionClass.{ExceptionClass}
use Rattle.api_text.specs.declared.outcome.ExceptionClass.TheVariants as class
use Rattle.api_text.specs.declared.outcome.Outcome.{Outcome}
use Rattle.api_text.specs.declared.outcome.Outcome.TheVariants as outcome
use Rattle.member_arguments.specs.Arguments.{object_at, object_in}
use Rattle.api_text.specs.Arguments.{with_one, with_two, with_three}
use Rattle.api_text.specs.Builders as builders
use Rattle.api_text.specs.Exceptions as exceptions
use Rattle.api_text.specs.Joining as joining
use Rattle.api_text.specs.Making as making
use Rattle.api_text.specs.Pieces.{pieces}
use Rattle.api_text.specs.Outcomes.{effect, followed_by, gives_new, number_of, says}
use Rattle.api_text.specs.Sequences as sequences
use Rattle.api_text.specs.Texts as texts

-- a value that is given, a builder that changes and the elements of an array are there, and have their types
abbrev pub OutcomeFits : Rules → List Object → Outcome → Type 0
OutcomeFits rules objects (outcome.Gives value) = ValueFits (length objects) value
OutcomeFits rules objects (outcome.Chars items) = AllFit (length (kinds objects)) items × AreElements rules.typed (kinds objects) (ty.Prim prim.Char) items
OutcomeFits rules objects (outcome.Texts items made) = AllFit (length (kinds objects)) items × AreElements rules.typed (kinds objects) (ty.Class STRING) items
OutcomeFits rules objects (outcome.Extends builder more) = builder < length objects
OutcomeFits rules objects (outcome.Becomes builder units value) = ValueFits (length objects) value
OutcomeFits rules objects told = Unit {0}

class_is : (c : ExceptionClass) → class_is_below (number_of c) EXCEPTION ≡ true
unfolding class_is_below lineage_of parents_of class_row class_table
class_is class.Exception = refl
class_is class.Runtime = refl
class_is class.Arithmetic = refl
class_is class.ClassCast = refl
class_is class.ConcurrentModification = refl
class_is class.IllegalArgument = refl
class_is class.IllegalState = refl
class_is class.IndexOutOfBounds = refl
class_is class.NegativeArraySize = refl
class_is class.NoSuchElement = refl
class_is class.NullPointer = refl
class_is class.UnsupportedOperation = refl
class_is class.NumberFormat = refl
class_is class.ArrayIndexOutOfBounds = refl
class_is class.StringIndexOutOfBounds = refl

new_fits : (rules : Rules) (store : Store) (object : Object) (made : ℕ) → Fits rules store.objects → ObjectFits rules (kinds store.objects) object → EffectFits rules (gives_new store object made)
new_fits rules store object made f h =
    after_fits rules store (store.objects ++ object ∷ []) made (λ paid. e.Gives (v.Ref (length store.objects)) paid) (λ room. (added_fits rules store.objects object f h, omega (arith, length-append store.objects (object ∷ []))))

length_changed : (objects : List Object) (id : ℕ) (change : Object → Object) (found : Option Object) → length (changed_at objects id change found) ≡ length objects
length_changed objects id change None = refl
length_changed objects id change (Some object) = length-set objects id (change object)

still_fits : (objects : List Object) (id : ℕ) (change : Object → Object) (value : Value) → ValueFits (length objects) value → ValueFits (length (with_change objects id change)) value
still_fits objects id change value h =
    whether objects id change (λ (after : List Object). ValueFits (length after) value) h (subst (λ (n : ℕ). ValueFits n value) (sym (length_changed objects id change (slice_get objects id))) h)

chars_is : is_type (ty.Prim prim.Char) ≡ true
unfolding is_type
chars_is = ap is_type (sym (rolls-Prim prim.Char)) ∙ fold-roll-Ty Bool layer_is_type (Ty-F.Prim prim.Char)

texts_is : is_type (ty.Class STRING) ≡ true
unfolding is_type
texts_is = ap is_type (sym (rolls-Class STRING)) ∙ fold-roll-Ty Bool layer_is_type (Ty-F.Class STRING)

pub settled : (rules : Rules) (store : Store) (told : Outcome) → Fits rules store.objects → OutcomeFits rules store.objects told → EffectFits rules (effect store told)
settled rules store (outcome.Gives value) f h = (f, h)
settled rules store (outcome.Makes text) f h = after_fits rules store store.objects (length text + 1) (λ paid. e.Gives (v.Str text) paid) (λ room. (f, tt))
settled rules store (outcome.NewBuilder units) f h = new_fits rules store (o.Builder units) 0 f tt
settled rules store (outcome.NewException class message) f h = new_fits rules store (o.Exc (number_of class) message) 0 f (class_is class)
settled rules store (outcome.Chars items) f h = new_fits rules store (o.Array (ty.Prim prim.Char) items) 0 f (chars_is, h.0, h.1)
settled rules store (outcome.Texts items made) f h = new_fits rules store (o.Array (ty.Class STRING) items) made f (texts_is, h.0, h.1)
settled rules store (outcome.Extends builder more) f h =
    after_fits rules store (with_change store.objects builder (with_units more)) 0 (λ paid. e.Gives (v.Ref builder) paid)
    (λ room. (append_fits rules store.objects builder more f, still_fits store.objects builder (with_units more) (v.Ref builder) h))
settled rules store (outcome.Becomes builder units value) f h =
    after_fits rules store (with_change store.objects builder (renewed_by (o.Builder units))) 0 (λ paid. e.Gives value paid)
    (λ room. (renew_fits rules store.objects builder (o.Builder units) f tt, still_fits store.objects builder (renewed_by (o.Builder units)) value h))
settled rules store (outcome.Throws class message) f h = throws_fits rules store (number_of class) message f (class_is class)
settled rules store outcome.NoRoom f h = tt
settled rules store outcome.NoMemory f h = (f, tt)

says_fits : (rules : Rules) (objects : List Object) (class : ExceptionClass) (message : List ℕ) → OutcomeFits rules objects (says class message)
unfolding says
says_fits rules objects class message = tt

pub one_fits : {A : Type 0} → (rules : Rules) (objects : List Object) (f : A → Outcome) (a : Option A) → ((x : A) → a ≡ Some x → OutcomeFits rules objects (f x)) → OutcomeFits rules objects (with_one f a)
one_fits rules objects f None h = tt
one_fits rules objects f (Some x) h = h x refl

pub two_fit : {A B : Type 0} → (rules : Rules) (objects : List Object) (f : A → B → Outcome) (a : Option A) (b : Option B) → ((x : A) (y : B) → a ≡ Some x → OutcomeFits rules objects (f x y))
    → OutcomeFits rules objects (with_two f a b)
two_fit rules objects f None b h = tt
two_fit rules objects f (Some x) None h = tt
two_fit rules objects f (Some x) (Some y) h = h x y refl

pub three_fit : {A B C : Type 0} → (rules : Rules) (objects : List Object) (f : A → B → C → Outcome) (a : Option A) (b : Option B) (c : Option C)
    → ((x : A) (y : B) (z : C) → a ≡ Some x → OutcomeFits rules objects (f x y z)) → OutcomeFits rules objects (with_three f a b c)
three_fit rules objects f None b c h = tt
three_fit rules objects f (Some x) None c h = tt
three_fit rules objects f (Some x) (Some y) None h = tt
three_fit rules objects f (Some x) (Some y) (Some z) h = h x y z refl

pub followed_fits : (rules : Rules) (objects : List Object) (walk : Text) (next : List ℕ → Outcome) → ((text : List ℕ) → OutcomeFits rules objects (next text)) → OutcomeFits rules objects (followed_by walk next)
followed_fits rules objects (Wrote text visits) next h = h text
followed_fits rules objects TooDeep next h = says_fits rules objects class.IllegalState _
followed_fits rules objects TooLarge next h = says_fits rules objects class.IllegalState _

-- an argument is there
found_there : (n : ℕ) (found : Option Value) (id : ℕ) → object_in found ≡ Some id → ((value : Value) → found ≡ Some value → ValueFits n value) → id < n
found_there n None id e h = cc
found_there n (Some (v.Ref other)) id e h = let same : other ≡ id = cc in subst (λ (k : ℕ). k < n) same (h (v.Ref other) refl)
found_there n (Some value) id e h = cc

value_there : (n : ℕ) (values : List Value) (at : ℕ) (value : Value) → AllFit n values → slice_get values at ≡ Some value → ValueFits n value
value_there n [] at value f e = cc
value_there n (x ∷ values) zero value f e = let same : x ≡ value = cc in subst (ValueFits n) same f.0
value_there n (x ∷ values) (suc at) value f e = value_there n values at value f.1 e

pub object_there : (n : ℕ) (arguments : List Value) (id : ℕ) → AllFit n arguments → object_at arguments 0 ≡ Some id → id < n
object_there n arguments id f e = found_there n (slice_get arguments 0) id e (λ value. value_there n arguments 0 value f)

-- sequences and texts
pub unit_fits : (rules : Rules) (objects : List Object) (text : List ℕ) (at : ℤ) (unit : Option ℕ) → OutcomeFits rules objects (sequences.unit_given text at unit)
unit_fits rules objects text at None = says_fits rules objects class.StringIndexOutOfBounds _
unit_fits rules objects text at (Some unit) = tt

pub same_fits : (rules : Rules) (objects : List Object) (text : List ℕ) (other : Option (List ℕ)) → OutcomeFits rules objects (texts.same_text text other)
same_fits rules objects text None = tt
same_fits rules objects text (Some other) = tt

-- what is made
cut_to_fits : (rules : Rules) (objects : List Object) (text : List ℕ) (start : ℕ) (stop : ℤ) (end : Option ℕ) → OutcomeFits rules objects (making.cut_to text start stop end)
cut_to_fits rules objects text start stop None = says_fits rules objects class.StringIndexOutOfBounds _
cut_to_fits rules objects text start stop (Some end) = tt

pub cut_from_fits : (rules : Rules) (objects : List Object) (text : List ℕ) (start stop : ℤ) (first : Option ℕ) → OutcomeFits rules objects (making.cut_from text start stop first)
cut_from_fits rules objects text start stop None = says_fits rules objects class.StringIndexOutOfBounds _
cut_from_fits rules objects text start stop (Some first) = cut_to_fits rules objects text first stop (sequences.place_within first (length text) stop)

pub rest_fits : (rules : Rules) (objects : List Object) (text : List ℕ) (start : ℤ) (first : Option ℕ) → OutcomeFits rules objects (making.rest_from text start first)
rest_fits rules objects text start None = says_fits rules objects class.StringIndexOutOfBounds _
rest_fits rules objects text start (Some first) = tt

-- an element, by the outermost layer of its type
of_layer : (typed : Typed) (ks : List Kind) (elem : Ty) (layer : Ty-F Ty) (value : Value) → out-Ty elem ≡ layer → (if layer_asked typed layer then has_layer ks layer value else true) ≡ true
    → is_element typed ks elem value ≡ true
of_layer typed ks elem layer value e h = subst (λ (found : Ty-F Ty). (if layer_asked typed found then has_layer ks found value else true) ≡ true) (sym e) h

char_is : (typed : Typed) (ks : List Kind) (unit : ℕ) → is_element typed ks (ty.Prim prim.Char) (v.Char unit) ≡ true
char_is typed ks unit = of_layer typed ks (ty.Prim prim.Char) (Ty-F.Prim prim.Char) (v.Char unit) (outs-Prim prim.Char) (at typed)
  where
    at : (typed : Typed) → (if layer_asked typed (Ty-F.Prim prim.Char) then has_layer ks (Ty-F.Prim prim.Char) (v.Char unit) else true) ≡ true
    at Every = refl
    at Primitives = refl

pub chars_fit : (typed : Typed) (ks : List Kind) (n : ℕ) (text : List ℕ) → AllFit n (map v.Char text) × AreElements typed ks (ty.Prim prim.Char) (map v.Char text)
chars_fit typed ks n [] = (tt, tt)
chars_fit typed ks n (unit ∷ text) = let rest = chars_fit typed ks n text in ((tt, rest.0), (char_is typed ks unit, rest.1))

at_text : (typed : Typed) (ks : List Kind) (text : List ℕ) → (if layer_asked typed (Ty-F.Class STRING) then has_layer ks (Ty-F.Class STRING) (v.Str text) else true) ≡ true
unfolding class_is_below lineage_of parents_of class_row class_table
at_text Every ks text = refl
at_text Primitives ks text = refl

text_is : (typed : Typed) (ks : List Kind) (text : List ℕ) → is_element typed ks (ty.Class STRING) (v.Str text) ≡ true
text_is typed ks text = of_layer typed ks (ty.Class STRING) (Ty-F.Class STRING) (v.Str text) (outs-Class STRING) (at_text typed ks text)

texts_fit : (typed : Typed) (ks : List Kind) (n : ℕ) (all : List (List ℕ)) → AllFit n (map v.Str all) × AreElements typed ks (ty.Class STRING) (map v.Str all)
texts_fit typed ks n [] = (tt, tt)
texts_fit typed ks n (text ∷ all) = let rest = texts_fit typed ks n all in ((tt, rest.0), (text_is typed ks text, rest.1))

pub split_fits : (rules : Rules) (objects : List Object) (text : List ℕ) (token : Option (List ℕ)) (limit : ℤ) → OutcomeFits rules objects (making.split text token limit)
split_fits rules objects text None limit = texts_fit rules.typed (kinds objects) (length (kinds objects)) (text ∷ [])
split_fits rules objects text (Some token) limit = texts_fit rules.typed (kinds objects) (length (kinds objects)) (pieces text token limit)

pub joined_fits : (rules : Rules) (objects all : List Object) (elements : List Node) (f : List (List ℕ) → List ℕ) → OutcomeFits rules objects (joining.with_texts all elements (λ texts. outcome.Makes (f texts)))
joined_fits rules objects all [] f = tt
joined_fits rules objects all (element ∷ elements) f =
    followed_fits rules objects (joining.element_text all element) _ (λ text. joined_fits rules objects all elements (λ texts. f (text ∷ texts)))

-- builders
pub put_fits : (rules : Rules) (objects : List Object) (builder : ℕ) (units : List ℕ) (at : ℤ) (text : List ℕ) (place : Option ℕ) → builder < length objects → OutcomeFits rules objects (builders.put_in builder units at text place)
put_fits rules objects builder units at text None h = says_fits rules objects class.StringIndexOutOfBounds _
put_fits rules objects builder units at text (Some place) h = h

pub deleted_fits : (rules : Rules) (objects : List Object) (builder : ℕ) (units : List ℕ) (at : ℤ) (place : Option ℕ) → builder < length objects → OutcomeFits rules objects (builders.deleted_in builder units at place)
deleted_fits rules objects builder units at None h = says_fits rules objects class.StringIndexOutOfBounds _
deleted_fits rules objects builder units at (Some place) h = h

pub set_fits : (rules : Rules) (objects : List Object) (builder : ℕ) (units : List ℕ) (count : ℤ) → OutcomeFits rules objects (builders.set_to builder units count)
set_fits rules objects builder units (pos count) = tt
set_fits rules objects builder units (negsuc n) = says_fits rules objects class.StringIndexOutOfBounds _

pub message_fits : (rules : Rules) (objects : List Object) (message : Option (List ℕ)) → OutcomeFits rules objects (exceptions.message_given message)
message_fits rules objects None = tt
message_fits rules objects (Some message) = tt
