-- What keeps the types of values, and which types casts, operators, elements and members give.
use Rattle.std.specs.Prelude.{◌≡◌, ℕ, ℤ, Bool, true, false, Some, List, slice_get}
use Rattle.pl_types.specs.declared.ty.Ty.{Ty, out-Ty}
use Rattle.pl_types.specs.declared.ty.Ty.TheVariants as ty
use Rattle.pl_types.specs.declared.ty.Ty.TheOpen.{Ty-F}
use Rattle.pl_types.specs.declared.classes.TheConstants.{STRING, ARRAY_LIST, HASH_MAP, ITERATOR}
use Rattle.pl_types.specs.declared.conversion.Cast.TheVariants as cast
use Rattle.pl_types.specs.declared.primitive.Primitive.{Primitive}
use Rattle.pl_types.specs.declared.primitive.Primitive.TheVariants as prim
use Rattle.pl_types.specs.Casts.{cast_of}
use Rattle.pl_types.specs.Classes.{class_is_below}
use Rattle.pl_types.specs.Host.{HostMeaning}
use Rattle.allowlist.specs.Index.{member_at}
use Rattle.allowlist.specs.declared.member.MemberType.{MemberType}
use Rattle.object_values.specs.declared.object.Object.{Object}
use Rattle.object_values.specs.declared.value.Value.{Value}
use Rattle.object_values.specs.declared.value.Value.TheVariants as v
use Rattle.object_heap.specs.Fits.{Rules, Fits, is_primitive, layer_asked}
use Rattle.object_heap.specs.Parts.{items_of}
use Rattle.object_heap.specs.Store.{Store}
use Rattle.container_calls.specs.Laws.{StillThere}
use Rattle.run_fit.specs.Making.{list_made, map_made, array_filled, array_made}
use Rattle.run_fit.specs.Elements.{element_read, length_of}
use Rattle.run_fit.specs.Loops.{iterated, has_more}
use Rattle.run_fit.specs.Members.{is_built, is_of_host, does}
use Rattle.number_ops.specs.arithmetic_declared.operator.Op.{Op}
use Rattle.number_ops.specs.Casts.{cast_at_run_time}
use Rattle.number_ops.specs.Operators.{compares, concatenated, operate}
use Rattle.number_ops.specs.Outcomes.{effect}
use Rattle.number_ops.specs.Relations.{equal}
use Rattle.run_fit.specs.Calls.{suits_member}
use Rattle.run_fit.specs.World.{World, acts_in}
use Rattle.value_typing.specs.Typing.{is_typed, are_typed, takes_typed, OutcomeTyped, ActIsOf}

-- What a run leaves of a store is all of it where nothing was done, and behind two parts of a run what both have left.
abbrev pub StoresBegin : Type 0
StoresBegin = (objects : List Object) → StillThere objects objects

abbrev pub StoresGoOn : Type 0
StoresGoOn = (before between after : List Object) → StillThere before between → StillThere between after → StillThere before after

-- A value stays of its type as a run adds objects, changes what they hold, and lets function values take interfaces.
abbrev pub TypesStay : Type 0
TypesStay = (before after : List Object) (of : Ty) (value : Value) → StillThere before after → is_typed before of value ≡ true → is_typed after of value ≡ true

abbrev pub AllTypesStay : Type 0
AllTypesStay =
    (before after : List Object) (ofs : List Ty) (values : List Value) → StillThere before after → are_typed before ofs values ≡ true → are_typed after ofs values ≡ true

-- a value of a class is of each class above it
abbrev pub ClassesWiden : Type 0
ClassesWiden =
    (objects : List Object) (class above : ℕ) (value : Value) → class_is_below class above ≡ true → is_typed objects (ty.Class class) value ≡ true
    → is_typed objects (ty.Class above) value ≡ true

-- no primitive type
abbrev pub takes_null_layer : Ty-F Ty → Bool
takes_null_layer (Ty-F.Prim p) = false
takes_null_layer layer = true

abbrev pub NullIsTyped : Type 0
NullIsTyped = (objects : List Object) (of : Ty) → takes_null_layer (out-Ty of) ≡ true → is_typed objects of v.Null ≡ true

-- An element of an array is of the element type, as far as the rules ask for it: in a program's store always, and in a code's where that is
-- a primitive type.
abbrev pub ElementsAreTyped : Type 0
ElementsAreTyped =
    (rules : Rules) (objects : List Object) (id at : ℕ) (elem : Ty) (value : Value) → Fits rules objects → layer_asked rules.typed (out-Ty elem) ≡ true
    → is_typed objects (ty.Array elem) (v.Ref id) ≡ true → slice_get (items_of objects id) at ≡ Some value → is_typed objects elem value ≡ true

-- a value that the table of casts keeps is of the type that it is cast to
abbrev pub KeptIsTyped : Type 0
KeptIsTyped =
    (objects : List Object) (from to : Ty) (written : Bool) (value : Value) → cast_of class_is_below from to written ≡ Some cast.Keep → is_typed objects from value ≡ true
    → is_typed objects to value ≡ true

-- and so is a value in the box that the table puts it in
abbrev pub BoxedIsTyped : Type 0
BoxedIsTyped =
    (objects : List Object) (from to : Ty) (written : Bool) (p q : Primitive) (value : Value) → cast_of class_is_below from to written ≡ Some (cast.Wrap p q)
    → is_primitive q value ≡ true → is_typed objects to value ≡ true

-- A cast that keeps a value keeps one of its type, and one that makes a value makes one of its type.
abbrev pub CastsGiveTypes : Type 0
CastsGiveTypes = (w : World) (value : Value) (to : Ty) (explicit : Bool) → OutcomeTyped to (acts_in w (effect w.store (cast_at_run_time w.store.objects value to explicit)))

abbrev pub TextsGiveTypes : Type 0
TextsGiveTypes = (w : World) (a b : Value) → OutcomeTyped (ty.Class STRING) (acts_in w (effect w.store (concatenated w.store.objects a b)))

-- A comparison of values whose types are found at run time gives a truth value, and so does `==`. (What any other operator gives on such
-- values is asked for at type def alone.)
abbrev pub ComparisonsGiveFlags : Type 0
ComparisonsGiveFlags =
    (w : World) (o : Op) (a b : Value) → compares o ≡ true → OutcomeTyped (ty.Prim prim.Boolean) (acts_in w (effect w.store (operate w.store.objects o a b)))

abbrev pub EqualityGivesTypes : Type 0
EqualityGivesTypes = (w : World) (a b : Value) → OutcomeTyped (ty.Prim prim.Boolean) (acts_in w (effect w.store (equal w.store.objects a b)))

-- In a store that fits, a member that is called with values of its types gives a value of its result type, and throws an exception.
abbrev pub MembersKeepTypes : Type 0
MembersKeepTypes =
    (rules : Rules) (host : HostMeaning) (number : ℕ) (values : List Value) (store : Store) → Fits rules store.objects → is_built number ≡ true
    → takes_typed store.objects (member_at number) values ≡ true → ActIsOf (member_at number).result (does host number values store)

-- The test that a call makes of the classes of its values passes where they are of the types that the member takes.
abbrev pub TypedCallsPass : Type 0
TypedCallsPass = (objects : List Object) (m : MemberType) (values : List Value) → takes_typed objects m values ≡ true → suits_member objects m values ≡ true

-- a function of the host gives a long, or throws
abbrev pub HostKeepsTypes : Type 0
HostKeepsTypes =
    (rules : Rules) (host : HostMeaning) (number : ℕ) (values : List Value) (store : Store) → Fits rules store.objects → is_of_host number ≡ true
    → ActIsOf (ty.Prim prim.Long) (does host number values store)

-- What the language itself makes of lists, maps, arrays and iterators is of its type, whatever the store. An element that is read of an array
-- is of the element type where the store fits, as far as the rules ask for it.
pub record ContainersGiveTypes : Type 0 where
  pub lists : (w : World) (items : List Value) → OutcomeTyped (ty.Class ARRAY_LIST) (acts_in w (list_made w.store items))
  pub maps : (w : World) (parts : List Value) → OutcomeTyped (ty.Class HASH_MAP) (acts_in w (map_made w.store parts))
  pub arrays : (w : World) (of : Ty) (sizes : List ℤ) → OutcomeTyped of (acts_in w (array_made w.store of sizes))
  pub filled : (w : World) (elem : Ty) (items : List Value) → OutcomeTyped (ty.Array elem) (acts_in w (array_filled w.store elem items))
  pub elements : (rules : Rules) (w : World) (of : Ty) (array : Value) (at : ℤ) → Fits rules w.store.objects → layer_asked rules.typed (out-Ty of) ≡ true
      → is_typed w.store.objects (ty.Array of) array ≡ true → OutcomeTyped of (acts_in w (element_read w.store of array at))
  pub lengths : (w : World) (array : Value) → OutcomeTyped (ty.Prim prim.Int) (acts_in w (length_of w.store array))
  pub iterators : (w : World) (value : Value) → OutcomeTyped (ty.Class ITERATOR) (acts_in w (iterated w.store value))
  pub more : (w : World) (iterator : Value) → OutcomeTyped (ty.Prim prim.Boolean) (acts_in w (has_more w.store iterator))
