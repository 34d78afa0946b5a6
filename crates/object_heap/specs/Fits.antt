-- What a store has to keep: each object names objects that are there and of the kind that it needs, holds values of the types
-- that it declares, and is of a class for its kind. A store fits a program or a code by the same rules, which differ in two
-- places.
use Rattle.std.specs.Prelude.{◌≡◌, ℕ, ◌-◌, ◌<◌, ◌==◌, ◌&&◌, ◌||◌, nat_lt, nat_le, Bool, true, false, Option, Some, None, List, [], ◌∷◌, length, slice_get, is_some, if◌then◌else◌}
use Rattle.pl_types.specs.declared.classes.TheConstants.{OBJECT, BYTE, SHORT, INTEGER, LONG, CHARACTER, BOOLEAN, STRING, STRING_BUILDER, COLLECTION, LIST, SET, MAP, ENTRY, ITERATOR, COMPARATOR, FUNCTION, BI_FUNCTION, UNARY_OPERATOR, BINARY_OPERATOR, PREDICATE, BI_PREDICATE, CONSUMER, BI_CONSUMER, OBJ_INT_CONSUMER, SUPPLIER, TO_INT_FUNCTION, TO_LONG_FUNCTION, EXCEPTION, PRELUDE}
use Rattle.pl_types.specs.declared.primitive.Primitive.{Primitive}
use Rattle.pl_types.specs.declared.primitive.Primitive.TheVariants as prim
use Rattle.pl_types.specs.declared.ty.Ty.{Ty, out-Ty}
use Rattle.pl_types.specs.declared.ty.Ty.TheOpen.{Ty-F}
use Rattle.pl_types.specs.declared.ty.Ty.TheFolds.{fold-Ty}
use Rattle.pl_types.specs.Types.{same_types}
use Rattle.pl_types.specs.Classes.{class_is_below}
use Rattle.object_values.specs.declared.value.Value.{Value}
use Rattle.object_values.specs.declared.value.Value.TheVariants as v
use Rattle.object_values.specs.declared.object.Object.{Object}
use Rattle.object_values.specs.declared.object.Object.TheVariants as o
use Rattle.object_values.specs.declared.object.Owner.{Owner}
use Rattle.object_values.specs.declared.object.Part.{Part}
use Rattle.object_values.specs.declared.object.Part.TheVariants as part
use Rattle.object_values.specs.declared.object.Target.{Target}
use Rattle.object_values.specs.declared.object.Target.TheVariants as t
use Rattle.object_values.specs.Values.{is_simple}
use Rattle.object_values.specs.Pairs.{HasDistinctKeys}
use Rattle.object_heap.specs.declared.answer.Answer.{Answer}
use Rattle.object_heap.specs.declared.answer.Answer.TheVariants as a
use Rattle.object_heap.specs.Objects.{Kind, AList, AMap, ASet, AnArray, AView, AnEntry, AnIterator, ABuilder, AFunction, AnException, kind_of}
use Rattle.object_heap.specs.Effects.{Effect, Gives, Throws, NoRoom}
use Rattle.object_heap.specs.Store.{Store}

abbrev pub kinds : List Object → List Kind
kinds [] = []
kinds (object ∷ objects) = kind_of object ∷ kinds objects

-- The kind of an object that is there passes a test
abbrev pub passes : (Kind → Bool) → Option Kind → Bool
passes test None = false
passes test (Some kind) = test kind

abbrev pub is_map : Kind → Bool
is_map (AMap class) = true
is_map kind = false

-- over what an iterator may stand
abbrev pub can_iterate : Kind → Bool
can_iterate (AList class) = true
can_iterate (ASet class) = true
can_iterate (AnArray elem) = true
can_iterate (AView part) = true
can_iterate kind = false

-- what may be thrown
abbrev pub is_exception : Kind → Bool
is_exception (AnException class) = class_is_below class EXCEPTION
is_exception kind = false

-- the number of parameters of a functional interface's method
abbrev pub arity_of : ℕ → Option ℕ
arity_of class =
    if class == SUPPLIER then Some 0
    else (if class == FUNCTION || class == UNARY_OPERATOR || class == PREDICATE || class == CONSUMER || class == TO_INT_FUNCTION || class == TO_LONG_FUNCTION then Some 1
    else (if class == COMPARATOR || class == BI_FUNCTION || class == BINARY_OPERATOR || class == BI_PREDICATE || class == BI_CONSUMER || class == OBJ_INT_CONSUMER then Some 2
    else None))

-- a type that values have: def, a primitive, a class of the catalogue, or an array of these
abbrev pub layer_is_type : Ty-F Bool → Bool
layer_is_type Ty-F.Void = false
layer_is_type Ty-F.Null = false
layer_is_type Ty-F.Def = true
layer_is_type (Ty-F.Prim p) = true
layer_is_type (Ty-F.Class class) = nat_lt class PRELUDE
layer_is_type (Ty-F.Array is) = is

unfoldable pub is_type : Ty → Bool
is_type ty = fold-Ty Bool layer_is_type ty

-- whether a value is a primitive's
abbrev pub is_primitive : Primitive → Value → Bool
is_primitive prim.Boolean (v.Bool flag) = true
is_primitive prim.Byte (v.Byte number) = true
is_primitive prim.Short (v.Short number) = true
is_primitive prim.Char (v.Char unit) = true
is_primitive prim.Int (v.Int number) = true
is_primitive prim.Long (v.Long number) = true
is_primitive p value = false

-- the class of an object; an array has none, and neither has a function value without an interface
abbrev pub class_of_view : Part → ℕ
class_of_view part.Keys = SET
class_of_view part.Values = COLLECTION
class_of_view part.Entries = SET

abbrev pub class_of_kind : Kind → Option ℕ
class_of_kind (AList class) = Some class
class_of_kind (AMap class) = Some class
class_of_kind (ASet class) = Some class
class_of_kind (AnArray elem) = None
class_of_kind (AView part) = Some (class_of_view part)
class_of_kind AnEntry = Some ENTRY
class_of_kind AnIterator = Some ITERATOR
class_of_kind ABuilder = Some STRING_BUILDER
class_of_kind (AFunction iface) = iface
class_of_kind (AnException class) = Some class

abbrev pub class_is_of : ℕ → Option ℕ → Bool
class_is_of wanted None = false
class_is_of wanted (Some class) = class_is_below class wanted

-- an object is of a class: every object is of Object
abbrev pub kind_is_of : ℕ → Kind → Bool
kind_is_of wanted kind = wanted == OBJECT || class_is_of wanted (class_of_kind kind)

-- a value is of a class: null is of every one
abbrev pub value_is_of : List Kind → ℕ → Value → Bool
value_is_of ks wanted v.Null = true
value_is_of ks wanted (v.Bool flag) = class_is_below BOOLEAN wanted
value_is_of ks wanted (v.Byte number) = class_is_below BYTE wanted
value_is_of ks wanted (v.Short number) = class_is_below SHORT wanted
value_is_of ks wanted (v.Char unit) = class_is_below CHARACTER wanted
value_is_of ks wanted (v.Int number) = class_is_below INTEGER wanted
value_is_of ks wanted (v.Long number) = class_is_below LONG wanted
value_is_of ks wanted (v.Str text) = class_is_below STRING wanted
value_is_of ks wanted (v.Ref id) = passes (kind_is_of wanted) (slice_get ks id)

abbrev pub is_array_of : Ty → Kind → Bool
is_array_of ty (AnArray elem) = same_types elem ty
is_array_of ty kind = false

-- a value is an array of these, or null
abbrev pub value_is_array : List Kind → Ty → Value → Bool
value_is_array ks ty v.Null = true
value_is_array ks ty (v.Ref id) = passes (is_array_of ty) (slice_get ks id)
value_is_array ks ty value = false

-- a value has a type, which is given by its outermost layer
abbrev pub has_layer : List Kind → Ty-F Ty → Value → Bool
has_layer ks Ty-F.Void value = false
has_layer ks Ty-F.Null value = false
has_layer ks Ty-F.Def value = true
has_layer ks (Ty-F.Prim p) value = is_primitive p value
has_layer ks (Ty-F.Class class) value = value_is_of ks class value
has_layer ks (Ty-F.Array elem) value = value_is_array ks elem value

abbrev pub has_type : List Kind → Ty → Value → Bool
has_type ks ty value = has_layer ks (out-Ty ty) value

-- values have the types of a list, one each
abbrev pub have_types : List Kind → List Ty → List Value → Bool
have_types ks [] [] = true
have_types ks [] (value ∷ values) = false
have_types ks (ty ∷ types) [] = false
have_types ks (ty ∷ types) (value ∷ values) = has_type ks ty value && have_types ks types values

-- What a lambda declares. In a program these are the types of what it captures and the number of its further parameters; in
-- a code, where a function of this kind has references alone, the number of all its parameters, what it captures coming first
pub data Lambda : Type 0 where
  Captures : (captured : List Ty) (further : ℕ) → Lambda
  Takes : (parameters : ℕ) → Lambda

-- Which elements of an array have its element type: in a program all, in a code those of a primitive type
pub data Typed : Type 0 where
  Every : Typed
  Primitives : Typed

-- what a program or a code asks of a store
pub record Rules : Type 0 where
  pub lambda : Owner → ℕ → Option Lambda
  pub typed : Typed

-- an element of an array has the element type
abbrev pub layer_asked : Typed → Ty-F Ty → Bool
layer_asked Every layer = true
layer_asked Primitives (Ty-F.Prim p) = true
layer_asked Primitives layer = false

abbrev pub is_element : Typed → List Kind → Ty → Value → Bool
is_element typed ks elem value = if layer_asked typed (out-Ty elem) then has_type ks elem value else true

-- an interface is a functional one
abbrev pub iface_fits : Option ℕ → Bool
iface_fits None = true
iface_fits (Some iface) = is_some (arity_of iface)

abbrev pub is_arity : Option ℕ → ℕ → Bool
is_arity None parameters = false
is_arity (Some arity) parameters = arity == parameters

-- where a function value has an interface, its method takes so many arguments
abbrev pub arity_fits : Option ℕ → ℕ → Bool
arity_fits None parameters = true
arity_fits (Some iface) parameters = is_arity (arity_of iface) parameters

-- a lambda that is there, with what it captures; where the value has an interface, its method has the further parameters
abbrev pub lambda_fits : List Kind → Option ℕ → List Value → Option Lambda → Bool
lambda_fits ks iface captures None = false
lambda_fits ks iface captures (Some (Captures captured further)) = have_types ks captured captures && arity_fits iface further
lambda_fits ks iface captures (Some (Takes parameters)) = nat_le (length captures) parameters && arity_fits iface (parameters - length captures)

-- a function value calls a lambda that is there, a member or a constructor of the catalogue's classes, or nothing any more
abbrev pub target_fits : Rules → List Kind → Option ℕ → List Value → Target → Bool
target_fits rules ks iface captures (t.Lambda owner number) = lambda_fits ks iface captures (rules.lambda owner number)
target_fits rules ks iface captures (t.Member class name) = nat_lt class PRELUDE
target_fits rules ks iface captures (t.New ty) = is_type ty
target_fits rules ks iface captures t.Gone = true

-- a reference is below the number of objects
abbrev pub ValueFits : ℕ → Value → Type 0
ValueFits count (v.Ref id) = id < count
ValueFits count value = Unit {0}

abbrev pub AllFit : ℕ → List Value → Type 0
AllFit count [] = Unit {0}
AllFit count (value ∷ values) = ValueFits count value × AllFit count values

-- keys are simple, and values name objects that are there
abbrev pub PairsFit : ℕ → List (Value × Value) → Type 0
PairsFit count [] = Unit {0}
PairsFit count (pair ∷ pairs) = (is_simple pair.0 ≡ true) × ValueFits count pair.1 × PairsFit count pairs

-- keys are simple, and values null
abbrev pub KeysFit : List (Value × Value) → Type 0
KeysFit [] = Unit {0}
KeysFit (pair ∷ pairs) = (is_simple pair.0 ≡ true) × (pair.1 ≡ v.Null) × KeysFit pairs

abbrev pub AreElements : Typed → List Kind → Ty → List Value → Type 0
AreElements typed ks elem [] = Unit {0}
AreElements typed ks elem (value ∷ values) = (is_element typed ks elem value ≡ true) × AreElements typed ks elem values

-- an object fits among objects of these kinds
abbrev pub ObjectFits : Rules → List Kind → Object → Type 0
ObjectFits rules ks (o.List class items guard changes) = (class_is_below class LIST ≡ true) × AllFit (length ks) items
ObjectFits rules ks (o.Map class pairs guard changes) = (class_is_below class MAP ≡ true) × PairsFit (length ks) pairs × HasDistinctKeys pairs
ObjectFits rules ks (o.Set class items guard changes) = (class_is_below class SET ≡ true) × KeysFit items × HasDistinctKeys items
ObjectFits rules ks (o.Array elem items) = (is_type elem ≡ true) × AllFit (length ks) items × AreElements rules.typed ks elem items
ObjectFits rules ks (o.View map part) = passes is_map (slice_get ks map) ≡ true
ObjectFits rules ks (o.Entry map key) = (passes is_map (slice_get ks map) ≡ true) × (is_simple key ≡ true)
ObjectFits rules ks (o.Iter over cursor seen last) = passes can_iterate (slice_get ks over) ≡ true
ObjectFits rules ks (o.Builder units) = Unit {0}
ObjectFits rules ks (o.Fun iface target captures) = (iface_fits iface ≡ true) × (target_fits rules ks iface captures target ≡ true) × AllFit (length ks) captures
ObjectFits rules ks (o.Exc class message) = class_is_below class EXCEPTION ≡ true

abbrev pub ObjectsFit : Rules → List Kind → List Object → Type 0
ObjectsFit rules ks [] = Unit {0}
ObjectsFit rules ks (object ∷ objects) = ObjectFits rules ks object × ObjectsFit rules ks objects

-- objects fit among themselves
pub record Fits (rules : Rules) (objects : List Object) : Type 0 where
  pub each : ObjectsFit rules (kinds objects) objects

-- an item that is to be written fits the list or the array that it goes to
abbrev pub ItemFits : Typed → List Kind → Value → Option Object → Type 0
ItemFits typed ks value None = Unit {0}
ItemFits typed ks value (Some (o.Array elem items)) = is_element typed ks elem value ≡ true
ItemFits typed ks value (Some object) = Unit {0}

-- pairs that are to be put fit the map or the set that they go to
abbrev pub PutsFit : ℕ → List (Value × Value) → Option Object → Type 0
PutsFit count more None = Unit {0}
PutsFit count more (Some (o.Map class pairs guard changes)) = PairsFit count more
PutsFit count more (Some (o.Set class items guard changes)) = KeysFit more
PutsFit count more (Some object) = Unit {0}

-- what is thrown is an exception that is there
abbrev pub ThrownFits : List Object → ℕ → Type 0
ThrownFits objects id = (id < length objects) × (passes is_exception (slice_get (kinds objects) id) ≡ true)

-- an effect leaves a store that fits, and a value or an exception of it
abbrev pub EffectFits : Rules → Effect → Type 0
EffectFits rules (Gives value store) = Fits rules store.objects × ValueFits (length store.objects) value
EffectFits rules (Throws id store) = Fits rules store.objects × ThrownFits store.objects id
EffectFits rules NoRoom = Unit {0}

-- what a call answers fits the store that it leaves
abbrev pub AnswerFits : Rules → Store → Answer → Type 0
AnswerFits rules store (a.Value value) = Fits rules store.objects × ValueFits (length store.objects) value
AnswerFits rules store (a.Thrown id) = Fits rules store.objects × ThrownFits store.objects id
AnswerFits rules store a.Room = Fits rules store.objects
AnswerFits rules store a.NoMemory = Fits rules store.objects
