-- What comes of an access fits where the store and the values do, and leaves each object there.
use Rattle.std.proofs.Common.{◌≡◌, ℕ, ℤ, zero, suc, Bool, true, false, Option, Some, None, List, [], ◌∷◌, ◌++◌, length, refl, subst, slice_get, slice_set, if◌then◌else◌}
use Rattle.pl_types.specs.declared.classes.TheConstants.{EXCEPTION, NULL_POINTER_EXCEPTION, ILLEGAL_ARGUMENT_EXCEPTION, INDEX_OUT_OF_BOUNDS_EXCEPTION, CLASS_CAST_EXCEPTION}
use Rattle.pl_types.specs.Classes.{class_is_below, lineage_of, parents_of, class_row, class_table}
use Rattle.pl_types.specs.declared.ty.Ty.{Ty}
use Rattle.allowlist.specs.Allow.{AllowList}
use Rattle.allowlist.specs.Index.{member_in}
use Rattle.object_values.specs.declared.object.Object.{Object}
use Rattle.object_values.specs.declared.object.Object.TheVariants as o
use Rattle.object_values.specs.declared.value.Value.{Value}
use Rattle.object_values.specs.declared.value.Value.TheVariants as v
use Rattle.object_heap.specs.Effects as e
use Rattle.object_heap.specs.Fits.{Rules, Fits, ValueFits, AllFit, EffectFits}
use Rattle.object_heap.specs.Store.{Store}
use Rattle.object_heap.proofs.Keeping.{throws_fits}
use Rattle.number_ops.specs.declared.outcome.Outcome.{Outcome}
use Rattle.number_ops.specs.declared.outcome.Outcome.TheVariants as outcome
use Rattle.number_ops.specs.Outcomes.{class_raised, effect}
use Rattle.number_ops.proofs.Keeping.{OutcomeFits, cast_fits, settled}
use Rattle.container_ops.proofs.Fitting.{value_there}
use Rattle.container_ops.specs.ContainerCallsLaws.{EffectLeaves}
use Rattle.container_ops.proofs.There.{text_leaves, there_refl, throw_leaves}
use Rattle.container_ops.specs.Types.{on_other_kind}
use Rattle.container_ops.proofs.Keeping.{element_given_fits, element_written_fits, length_of_fits, other_fits}
use Rattle.container_ops.proofs.Leaving.{element_given_leaves, element_written_leaves, length_of_leaves, other_leaves}
use Rattle.member_calls.specs.Members.{is_built}
use Rattle.def_resolve.specs.declared.access.Purpose.{Purpose}
use Rattle.def_resolve.specs.declared.access.Purpose.TheVariants.{Read, Write}
use Rattle.def_resolve.specs.declared.access.Place.{Place}
use Rattle.def_resolve.specs.declared.access.Place.TheVariants.{At, Beyond}
use Rattle.def_resolve.specs.declared.access.NameAccess.{NameAccess}
use Rattle.def_resolve.specs.declared.access.NameAccess.TheVariants as by_name
use Rattle.def_resolve.specs.declared.access.IndexAccess.{IndexAccess}
use Rattle.def_resolve.specs.declared.access.IndexAccess.TheVariants as by_index
use Rattle.def_resolve.specs.declared.callee.Callee.{Callee}
use Rattle.def_resolve.specs.declared.callee.Callee.TheVariants.{Member, Iface}
use Rattle.def_resolve.specs.Accesses.{index_access, name_access}
use Rattle.def_resolve.specs.Failures as failures
use Rattle.def_resolve.specs.Failures.{Failure, fails}
use Rattle.def_resolve.specs.Resolution.{class_of}
use Rattle.def_access.specs.Access as access
use Rattle.def_access.specs.Access.{Access, Calls, Acts, All, Casts, Ended}
use Rattle.def_access.specs.Laws.{AccessFits, AccessLeaves}

-- ---- failures are exceptions

abbrev IsException : Failure → Type 0
IsException failure = class_is_below failure.class EXCEPTION ≡ true

null_is : class_is_below NULL_POINTER_EXCEPTION EXCEPTION ≡ true
unfolding class_is_below lineage_of parents_of class_row class_table
null_is = refl

argument_is : class_is_below ILLEGAL_ARGUMENT_EXCEPTION EXCEPTION ≡ true
unfolding class_is_below lineage_of parents_of class_row class_table
argument_is = refl

bounds_is : class_is_below INDEX_OUT_OF_BOUNDS_EXCEPTION EXCEPTION ≡ true
unfolding class_is_below lineage_of parents_of class_row class_table
bounds_is = refl

unless_null_is : (value : Value) (message : List ℕ) → IsException (failures.unless_null value (failures.argument_failure message))
unless_null_is v.Null message = null_is
unless_null_is (v.Bool flag) message = argument_is
unless_null_is (v.Byte number) message = argument_is
unless_null_is (v.Short number) message = argument_is
unless_null_is (v.Char unit) message = argument_is
unless_null_is (v.Int number) message = argument_is
unless_null_is (v.Long number) message = argument_is
unless_null_is (v.Str text) message = argument_is
unless_null_is (v.Ref id) message = argument_is

method_is : (objects : List Object) (receiver : Value) (name : List ℕ) (arity : ℕ) → IsException (failures.no_method objects receiver name arity)
unfolding failures.no_method
method_is objects receiver name arity = unless_null_is receiver (failures.method_message objects receiver name arity)

accessor_is : (purpose : Purpose) (objects : List Object) (receiver : Value) (name : List ℕ) → IsException (failures.no_accessor purpose objects receiver name)
unfolding failures.no_accessor
accessor_is purpose objects receiver name = unless_null_is receiver (failures.accessor_message purpose objects receiver name)

item_is : (purpose : Purpose) (objects : List Object) (receiver : Value) → IsException (failures.no_item purpose objects receiver)
item_is Read objects receiver = method_is objects receiver _ 1
item_is Write objects receiver = method_is objects receiver _ 2

key_is : (purpose : Purpose) (objects : List Object) (receiver : Value) → IsException (failures.no_key purpose objects receiver)
key_is Read objects receiver = method_is objects receiver _ 1
key_is Write objects receiver = method_is objects receiver _ 2

indexed_is : (purpose : Purpose) (objects : List Object) (receiver : Value) (found : Option Object) → IsException (failures.no_index_of purpose objects receiver (failures.indexed_as found))
indexed_is purpose objects receiver (Some (o.List class items guard changes)) = item_is purpose objects receiver
indexed_is purpose objects receiver (Some (o.Map class pairs guard changes)) = key_is purpose objects receiver
indexed_is purpose objects receiver None = argument_is
indexed_is purpose objects receiver (Some object) = argument_is

index_is : (purpose : Purpose) (objects : List Object) (receiver : Value) → IsException (failures.no_index purpose objects receiver)
unfolding failures.no_index
index_is purpose objects (v.Ref id) = indexed_is purpose objects (v.Ref id) (slice_get objects id)
index_is purpose objects v.Null = null_is
index_is purpose objects (v.Bool flag) = argument_is
index_is purpose objects (v.Byte number) = argument_is
index_is purpose objects (v.Short number) = argument_is
index_is purpose objects (v.Char unit) = argument_is
index_is purpose objects (v.Int number) = argument_is
index_is purpose objects (v.Long number) = argument_is
index_is purpose objects (v.Str text) = argument_is

beyond_is : (objects : List Object) (id : ℕ) (name : List ℕ) → IsException (failures.beyond_list objects id name)
unfolding failures.beyond_list
beyond_is objects id name = bounds_is

failure_fits : (rules : Rules) (store : Store) (failure : Failure) → Fits rules store.objects → IsException failure → EffectFits rules (fails store failure)
failure_fits rules store failure f h = throws_fits rules store failure.class _ f h

-- ---- arguments

all_set : (n at : ℕ) (value : Value) (values : List Value) → ValueFits n value → AllFit n values → AllFit n (slice_set values at value)
all_set n at value [] h f = tt
all_set n zero value (x ∷ values) h f = (h, f.1)
all_set n (suc at) value (x ∷ values) h f = (f.0, all_set n at value values h f.1)

-- values that were cast are there, and what ends a cast fits
abbrev CastsFit : ℕ → Casts → Type 0
CastsFit n (All values) = AllFit n values
CastsFit n (Ended told) = OutcomeFits n told

after_fits : (n : ℕ) (told : Outcome) (next : Value → Casts) → OutcomeFits n told → ((value : Value) → ValueFits n value → CastsFit n (next value)) → CastsFit n (access.after_cast told next)
after_fits n (outcome.Gives value) next h k = k value h
after_fits n (outcome.Makes text) next h k = tt
after_fits n (outcome.Throws raised message) next h k = tt
after_fits n outcome.NoMemory next h k = tt

there_fits : (objects : List Object) (of : Ty) (values : List Value) (at : ℕ) (found : Option Value) (next : List Value → Casts) → slice_get values at ≡ found → AllFit (length objects) values
    → ((cast : List Value) → AllFit (length objects) cast → CastsFit (length objects) (next cast)) → CastsFit (length objects) (access.cast_there objects of values at found next)
there_fits objects of values at None next e f k = k values f
there_fits objects of values at (Some value) next e f k =
    after_fits (length objects) (access.cast_to objects value of) (λ cast. next (slice_set values at cast))
    (cast_fits (length objects) objects value of false (value_there (length objects) values at value f e))
    (λ cast h. k (slice_set values at cast) (all_set (length objects) at cast values h f))

casts_fit : (objects : List Object) (params : List Ty) (at : ℕ) (values : List Value) → AllFit (length objects) values → CastsFit (length objects) (access.casts_from objects params at values)
casts_fit objects [] at values f = f
casts_fit objects (of ∷ ofs) at values f =
    there_fits objects of values at (slice_get values at) (λ cast. access.casts_from objects ofs (suc at) cast) refl f (λ cast h. casts_fit objects ofs (suc at) cast h)

-- ---- what comes of an access fits

built_fits : (rules : Rules) (store : Store) (number : ℕ) (failure : Failure) (next : Access) → Fits rules store.objects → IsException failure → AccessFits rules store next
    → AccessFits rules store (access.if_built store number failure next)
built_fits rules store number failure next f h k = on (is_built number)
  where
    on : (test : Bool) → AccessFits rules store (if test then next else Acts (fails store failure))
    on true = k
    on false = failure_fits rules store failure f h

int_fits : (rules : Rules) (store : Store) (value : Value) (next : ℤ → Access) → Fits rules store.objects → ((at : ℤ) → AccessFits rules store (next at)) → AccessFits rules store (access.index_given store value next)
int_fits rules store (v.Int at) next f k = k at
int_fits rules store value next f k = other_fits rules store f

index_fits : (rules : Rules) (store : Store) (index : Value) (next : ℤ → Access) → Fits rules store.objects → ValueFits (length store.objects) index → ((at : ℤ) → AccessFits rules store (next at))
    → AccessFits rules store (access.with_index store (access.index_cast store.objects index) next)
index_fits rules store index next f h k = told (access.index_cast store.objects index) (cast_fits (length store.objects) store.objects index _ false h)
  where
    told : (told : Outcome) → OutcomeFits (length store.objects) told → AccessFits rules store (access.with_index store told next)
    told (outcome.Gives value) g = int_fits rules store value next f k
    told (outcome.Makes text) g = settled rules store (outcome.Makes text) f g
    told (outcome.Throws raised message) g = settled rules store (outcome.Throws raised message) f g
    told outcome.NoMemory g = settled rules store outcome.NoMemory f g

read_fits : (rules : Rules) (store : Store) (receiver index : Value) (found : Option IndexAccess) → Fits rules store.objects → ValueFits (length store.objects) receiver → ValueFits (length store.objects) index
    → AccessFits rules store (access.index_read_by store receiver index found)
read_fits rules store receiver index None f h k = failure_fits rules store _ f (index_is Read store.objects receiver)
read_fits rules store receiver index (Some (by_index.Key number)) f h k =
    built_fits rules store number (failures.no_index Read store.objects receiver) _ f (index_is Read store.objects receiver) (h, (k, tt))
read_fits rules store receiver index (Some (by_index.Item number)) f h k =
    built_fits rules store number (failures.no_index Read store.objects receiver) _ f (index_is Read store.objects receiver)
    (index_fits rules store index (access.item_read store number receiver) f k (λ at. (h, (tt, tt))))
read_fits rules store receiver index (Some by_index.Element) f h k =
    index_fits rules store index (access.own_element store receiver) f k (λ at. element_given_fits rules store receiver at f)

element_put_fits : (rules : Rules) (store : Store) (elem : Ty) (array : Value) (at : ℤ) (told : Outcome) → Fits rules store.objects → OutcomeFits (length store.objects) told
    → AccessFits rules store (access.element_put store elem array at told)
element_put_fits rules store elem array at (outcome.Gives value) f h = element_written_fits rules store elem array at value f h
element_put_fits rules store elem array at (outcome.Makes text) f h = settled rules store (outcome.Makes text) f h
element_put_fits rules store elem array at (outcome.Throws raised message) f h = settled rules store (outcome.Throws raised message) f h
element_put_fits rules store elem array at outcome.NoMemory f h = settled rules store outcome.NoMemory f h

own_put_fits : (rules : Rules) (store : Store) (array value : Value) (at : ℤ) (of : Option Ty) → Fits rules store.objects → ValueFits (length store.objects) value
    → AccessFits rules store (access.element_put_as store array value at of)
own_put_fits rules store array value at None f h = other_fits rules store f
own_put_fits rules store array value at (Some elem) f h =
    element_put_fits rules store elem array at (access.cast_to store.objects value elem) f (cast_fits (length store.objects) store.objects value elem false h)

written_fits : (rules : Rules) (store : Store) (receiver index value : Value) (found : Option IndexAccess) → Fits rules store.objects → ValueFits (length store.objects) receiver → ValueFits (length store.objects) index
    → ValueFits (length store.objects) value → AccessFits rules store (access.index_written_by store receiver index value found)
written_fits rules store receiver index value None f h k l = failure_fits rules store _ f (index_is Write store.objects receiver)
written_fits rules store receiver index value (Some (by_index.Key number)) f h k l =
    built_fits rules store number (failures.no_index Write store.objects receiver) _ f (index_is Write store.objects receiver) (h, (k, (l, tt)))
written_fits rules store receiver index value (Some (by_index.Item number)) f h k l =
    built_fits rules store number (failures.no_index Write store.objects receiver) _ f (index_is Write store.objects receiver)
    (index_fits rules store index (access.item_written store number receiver value) f k (λ at. (h, (tt, (l, tt)))))
written_fits rules store receiver index value (Some by_index.Element) f h k l =
    index_fits rules store index (access.own_element_written store receiver value) f k (λ at. own_put_fits rules store receiver value at (access.own_type store.objects receiver) f l)

pub index_read_fits : (rules : Rules) (allow : AllowList) (store : Store) (receiver index : Value) → Fits rules store.objects → AllFit (length store.objects) (receiver ∷ index ∷ [])
    → AccessFits rules store (access.index_read allow store receiver index)
unfolding access.index_read
index_read_fits rules allow store receiver index f h = read_fits rules store receiver index (index_access Read allow store.objects receiver) f h.0 h.1.0

pub index_written_fits : (rules : Rules) (allow : AllowList) (store : Store) (receiver index value : Value) → Fits rules store.objects → AllFit (length store.objects) (receiver ∷ index ∷ value ∷ [])
    → AccessFits rules store (access.index_written allow store receiver index value)
unfolding access.index_written
index_written_fits rules allow store receiver index value f h = written_fits rules store receiver index value (index_access Write allow store.objects receiver) f h.0 h.1.0 h.1.1.0

-- names

beyond_fits : (rules : Rules) (store : Store) (receiver : Value) (name : List ℕ) → Fits rules store.objects → AccessFits rules store (access.item_beyond store receiver name)
beyond_fits rules store (v.Ref id) name f = failure_fits rules store _ f (beyond_is store.objects id name)
beyond_fits rules store value name f = other_fits rules store f

item_at_fits : (rules : Rules) (store : Store) (number : ℕ) (receiver : Value) (name : List ℕ) (place : Place) → Fits rules store.objects → ValueFits (length store.objects) receiver
    → AccessFits rules store (access.item_read_at store number receiver name place)
item_at_fits rules store number receiver name (At at) f h = (h, (tt, tt))
item_at_fits rules store number receiver name Beyond f h = beyond_fits rules store receiver name f

named_fits : (rules : Rules) (store : Store) (receiver : Value) (name : List ℕ) (found : Option NameAccess) → Fits rules store.objects → ValueFits (length store.objects) receiver
    → AccessFits rules store (access.name_read_by store receiver name found)
named_fits rules store receiver name None f h = failure_fits rules store _ f (accessor_is Read store.objects receiver name)
named_fits rules store receiver name (Some (by_name.Key number)) f h =
    built_fits rules store number (failures.no_accessor Read store.objects receiver name) _ f (accessor_is Read store.objects receiver name) (h, (tt, tt))
named_fits rules store receiver name (Some (by_name.Item number place)) f h =
    built_fits rules store number (failures.no_accessor Read store.objects receiver name) _ f (accessor_is Read store.objects receiver name) (item_at_fits rules store number receiver name place f h)
named_fits rules store receiver name (Some (by_name.Accessor number)) f h =
    built_fits rules store number (failures.no_accessor Read store.objects receiver name) _ f (accessor_is Read store.objects receiver name) (h, tt)
named_fits rules store receiver name (Some by_name.Length) f h = length_of_fits rules store receiver f

item_put_fits : (rules : Rules) (store : Store) (number : ℕ) (receiver : Value) (name : List ℕ) (value : Value) (place : Place) → Fits rules store.objects → ValueFits (length store.objects) receiver
    → ValueFits (length store.objects) value → AccessFits rules store (access.item_written_at store number receiver name value place)
item_put_fits rules store number receiver name value (At at) f h k = (h, (tt, (k, tt)))
item_put_fits rules store number receiver name value Beyond f h k = beyond_fits rules store receiver name f

property_put_fits : (rules : Rules) (store : Store) (number : ℕ) (receiver : Value) (told : Outcome) → Fits rules store.objects → ValueFits (length store.objects) receiver → OutcomeFits (length store.objects) told
    → AccessFits rules store (access.property_put store number receiver told)
property_put_fits rules store number receiver (outcome.Gives value) f h k = (h, (k, tt))
property_put_fits rules store number receiver (outcome.Makes text) f h k = settled rules store (outcome.Makes text) f k
property_put_fits rules store number receiver (outcome.Throws raised message) f h k = settled rules store (outcome.Throws raised message) f k
property_put_fits rules store number receiver outcome.NoMemory f h k = settled rules store outcome.NoMemory f k

property_written_fits : (rules : Rules) (store : Store) (number : ℕ) (receiver value : Value) (params : List Ty) → Fits rules store.objects → ValueFits (length store.objects) receiver → ValueFits (length store.objects) value
    → AccessFits rules store (access.property_written store number receiver value params)
property_written_fits rules store number receiver value [] f h k = (h, (k, tt))
property_written_fits rules store number receiver value (of ∷ ofs) f h k =
    property_put_fits rules store number receiver (access.cast_to store.objects value of) f h (cast_fits (length store.objects) store.objects value of false k)

put_named_fits : (rules : Rules) (allow : AllowList) (store : Store) (receiver : Value) (name : List ℕ) (value : Value) (found : Option NameAccess) → Fits rules store.objects → ValueFits (length store.objects) receiver
    → ValueFits (length store.objects) value → AccessFits rules store (access.name_written_by allow store receiver name value found)
put_named_fits rules allow store receiver name value None f h k = failure_fits rules store _ f (accessor_is Write store.objects receiver name)
put_named_fits rules allow store receiver name value (Some (by_name.Key number)) f h k =
    built_fits rules store number (failures.no_accessor Write store.objects receiver name) _ f (accessor_is Write store.objects receiver name) (h, (tt, (k, tt)))
put_named_fits rules allow store receiver name value (Some (by_name.Item number place)) f h k =
    built_fits rules store number (failures.no_accessor Write store.objects receiver name) _ f (accessor_is Write store.objects receiver name) (item_put_fits rules store number receiver name value place f h k)
put_named_fits rules allow store receiver name value (Some (by_name.Accessor number)) f h k =
    built_fits rules store number (failures.no_accessor Write store.objects receiver name) _ f (accessor_is Write store.objects receiver name)
    (property_written_fits rules store number receiver value (member_in allow number).params f h k)
put_named_fits rules allow store receiver name value (Some by_name.Length) f h k = failure_fits rules store _ f (accessor_is Write store.objects receiver name)

pub name_read_fits : (rules : Rules) (allow : AllowList) (store : Store) (receiver : Value) (name : List ℕ) → Fits rules store.objects → ValueFits (length store.objects) receiver
    → AccessFits rules store (access.name_read allow store receiver name)
unfolding access.name_read
name_read_fits rules allow store receiver name f h = named_fits rules store receiver name (name_access Read allow store.objects receiver name) f h

pub name_written_fits : (rules : Rules) (allow : AllowList) (store : Store) (receiver : Value) (name : List ℕ) (value : Value) → Fits rules store.objects → AllFit (length store.objects) (receiver ∷ value ∷ [])
    → AccessFits rules store (access.name_written allow store receiver name value)
unfolding access.name_written
name_written_fits rules allow store receiver name value f h = put_named_fits rules allow store receiver name value (name_access Write allow store.objects receiver name) f h.0 h.1.0

-- calls

calls_fit : (rules : Rules) (store : Store) (number : ℕ) (casts : Casts) → Fits rules store.objects → CastsFit (length store.objects) casts → AccessFits rules store (access.calls_with store number casts)
calls_fit rules store number (All values) f h = h
calls_fit rules store number (Ended told) f h = settled rules store told f h

called_fits : (rules : Rules) (allow : AllowList) (store : Store) (receiver : Value) (name : List ℕ) (arguments : List Value) (found : Option Callee) → Fits rules store.objects → AllFit (length store.objects) (receiver ∷ arguments)
    → AccessFits rules store (access.called_by allow store receiver name arguments found)
called_fits rules allow store receiver name arguments None f h = failure_fits rules store _ f (method_is store.objects receiver name (length arguments))
called_fits rules allow store receiver name arguments (Some (Iface number)) f h = failure_fits rules store _ f (method_is store.objects receiver name (length arguments))
called_fits rules allow store receiver name arguments (Some (Member number)) f h =
    built_fits rules store number (failures.no_method store.objects receiver name (length arguments)) _ f (method_is store.objects receiver name (length arguments))
    (calls_fit rules store number (access.casts_from store.objects (member_in allow number).params 1 (receiver ∷ arguments)) f
    (casts_fit store.objects (member_in allow number).params 1 (receiver ∷ arguments) h))

pub method_called_fits : (rules : Rules) (allow : AllowList) (store : Store) (receiver : Value) (name : List ℕ) (arguments : List Value) → Fits rules store.objects
    → AllFit (length store.objects) (receiver ∷ arguments) → AccessFits rules store (access.method_called allow store receiver name arguments)
unfolding access.method_called
method_called_fits rules allow store receiver name arguments f h =
    called_fits rules allow store receiver name arguments (access.target_for allow name (length arguments) (class_of store.objects receiver)) f h

-- ---- what comes of an access leaves each object there

failure_leaves : (store : Store) (failure : Failure) → EffectLeaves store.objects (fails store failure)
failure_leaves store failure = throw_leaves store failure.class _

told_leaves : (store : Store) (told : Outcome) → EffectLeaves store.objects (effect store told)
told_leaves store (outcome.Gives value) = there_refl store.objects
told_leaves store (outcome.Makes text) = text_leaves store text
told_leaves store (outcome.Throws raised message) = throw_leaves store (class_raised raised) message
told_leaves store outcome.NoMemory = there_refl store.objects

built_leaves : (store : Store) (number : ℕ) (failure : Failure) (next : Access) → AccessLeaves store next → AccessLeaves store (access.if_built store number failure next)
built_leaves store number failure next h = on (is_built number)
  where
    on : (test : Bool) → AccessLeaves store (if test then next else Acts (fails store failure))
    on true = h
    on false = failure_leaves store failure

int_leaves : (store : Store) (value : Value) (next : ℤ → Access) → ((at : ℤ) → AccessLeaves store (next at)) → AccessLeaves store (access.index_given store value next)
int_leaves store (v.Int at) next k = k at
int_leaves store value next k = other_leaves store

index_leaves : (store : Store) (told : Outcome) (next : ℤ → Access) → ((at : ℤ) → AccessLeaves store (next at)) → AccessLeaves store (access.with_index store told next)
index_leaves store (outcome.Gives value) next k = int_leaves store value next k
index_leaves store (outcome.Makes text) next k = told_leaves store (outcome.Makes text)
index_leaves store (outcome.Throws raised message) next k = told_leaves store (outcome.Throws raised message)
index_leaves store outcome.NoMemory next k = told_leaves store outcome.NoMemory

read_leaves : (store : Store) (receiver index : Value) (found : Option IndexAccess) → AccessLeaves store (access.index_read_by store receiver index found)
read_leaves store receiver index None = failure_leaves store _
read_leaves store receiver index (Some (by_index.Key number)) = built_leaves store number (failures.no_index Read store.objects receiver) _ tt
read_leaves store receiver index (Some (by_index.Item number)) =
    built_leaves store number (failures.no_index Read store.objects receiver) _ (index_leaves store (access.index_cast store.objects index) (access.item_read store number receiver) (λ at. tt))
read_leaves store receiver index (Some by_index.Element) =
    index_leaves store (access.index_cast store.objects index) (access.own_element store receiver) (λ at. element_given_leaves store receiver at)

element_put_leaves : (store : Store) (elem : Ty) (array : Value) (at : ℤ) (told : Outcome) → AccessLeaves store (access.element_put store elem array at told)
element_put_leaves store elem array at (outcome.Gives value) = element_written_leaves store elem array at value
element_put_leaves store elem array at (outcome.Makes text) = told_leaves store (outcome.Makes text)
element_put_leaves store elem array at (outcome.Throws raised message) = told_leaves store (outcome.Throws raised message)
element_put_leaves store elem array at outcome.NoMemory = told_leaves store outcome.NoMemory

own_put_leaves : (store : Store) (array value : Value) (at : ℤ) (of : Option Ty) → AccessLeaves store (access.element_put_as store array value at of)
own_put_leaves store array value at None = other_leaves store
own_put_leaves store array value at (Some elem) = element_put_leaves store elem array at (access.cast_to store.objects value elem)

written_leaves : (store : Store) (receiver index value : Value) (found : Option IndexAccess) → AccessLeaves store (access.index_written_by store receiver index value found)
written_leaves store receiver index value None = failure_leaves store _
written_leaves store receiver index value (Some (by_index.Key number)) = built_leaves store number (failures.no_index Write store.objects receiver) _ tt
written_leaves store receiver index value (Some (by_index.Item number)) =
    built_leaves store number (failures.no_index Write store.objects receiver) _ (index_leaves store (access.index_cast store.objects index) (access.item_written store number receiver value) (λ at. tt))
written_leaves store receiver index value (Some by_index.Element) =
    index_leaves store (access.index_cast store.objects index) (access.own_element_written store receiver value) (λ at. own_put_leaves store receiver value at (access.own_type store.objects receiver))

pub index_read_leaves : (allow : AllowList) (store : Store) (receiver index : Value) → AccessLeaves store (access.index_read allow store receiver index)
unfolding access.index_read
index_read_leaves allow store receiver index = read_leaves store receiver index (index_access Read allow store.objects receiver)

pub index_written_leaves : (allow : AllowList) (store : Store) (receiver index value : Value) → AccessLeaves store (access.index_written allow store receiver index value)
unfolding access.index_written
index_written_leaves allow store receiver index value = written_leaves store receiver index value (index_access Write allow store.objects receiver)

beyond_leaves : (store : Store) (receiver : Value) (name : List ℕ) → AccessLeaves store (access.item_beyond store receiver name)
beyond_leaves store (v.Ref id) name = failure_leaves store _
beyond_leaves store value name = other_leaves store

item_at_leaves : (store : Store) (number : ℕ) (receiver : Value) (name : List ℕ) (place : Place) → AccessLeaves store (access.item_read_at store number receiver name place)
item_at_leaves store number receiver name (At at) = tt
item_at_leaves store number receiver name Beyond = beyond_leaves store receiver name

named_leaves : (store : Store) (receiver : Value) (name : List ℕ) (found : Option NameAccess) → AccessLeaves store (access.name_read_by store receiver name found)
named_leaves store receiver name None = failure_leaves store _
named_leaves store receiver name (Some (by_name.Key number)) = built_leaves store number (failures.no_accessor Read store.objects receiver name) _ tt
named_leaves store receiver name (Some (by_name.Item number place)) =
    built_leaves store number (failures.no_accessor Read store.objects receiver name) _ (item_at_leaves store number receiver name place)
named_leaves store receiver name (Some (by_name.Accessor number)) = built_leaves store number (failures.no_accessor Read store.objects receiver name) _ tt
named_leaves store receiver name (Some by_name.Length) = length_of_leaves store receiver

item_put_leaves : (store : Store) (number : ℕ) (receiver : Value) (name : List ℕ) (value : Value) (place : Place) → AccessLeaves store (access.item_written_at store number receiver name value place)
item_put_leaves store number receiver name value (At at) = tt
item_put_leaves store number receiver name value Beyond = beyond_leaves store receiver name

property_put_leaves : (store : Store) (number : ℕ) (receiver : Value) (told : Outcome) → AccessLeaves store (access.property_put store number receiver told)
property_put_leaves store number receiver (outcome.Gives value) = tt
property_put_leaves store number receiver (outcome.Makes text) = told_leaves store (outcome.Makes text)
property_put_leaves store number receiver (outcome.Throws raised message) = told_leaves store (outcome.Throws raised message)
property_put_leaves store number receiver outcome.NoMemory = told_leaves store outcome.NoMemory

property_written_leaves : (store : Store) (number : ℕ) (receiver value : Value) (params : List Ty) → AccessLeaves store (access.property_written store number receiver value params)
property_written_leaves store number receiver value [] = tt
property_written_leaves store number receiver value (of ∷ ofs) = property_put_leaves store number receiver (access.cast_to store.objects value of)

put_named_leaves : (allow : AllowList) (store : Store) (receiver : Value) (name : List ℕ) (value : Value) (found : Option NameAccess) → AccessLeaves store (access.name_written_by allow store receiver name value found)
put_named_leaves allow store receiver name value None = failure_leaves store _
put_named_leaves allow store receiver name value (Some (by_name.Key number)) = built_leaves store number (failures.no_accessor Write store.objects receiver name) _ tt
put_named_leaves allow store receiver name value (Some (by_name.Item number place)) =
    built_leaves store number (failures.no_accessor Write store.objects receiver name) _ (item_put_leaves store number receiver name value place)
put_named_leaves allow store receiver name value (Some (by_name.Accessor number)) =
    built_leaves store number (failures.no_accessor Write store.objects receiver name) _ (property_written_leaves store number receiver value (member_in allow number).params)
put_named_leaves allow store receiver name value (Some by_name.Length) = failure_leaves store _

pub name_read_leaves : (allow : AllowList) (store : Store) (receiver : Value) (name : List ℕ) → AccessLeaves store (access.name_read allow store receiver name)
unfolding access.name_read
name_read_leaves allow store receiver name = named_leaves store receiver name (name_access Read allow store.objects receiver name)

pub name_written_leaves : (allow : AllowList) (store : Store) (receiver : Value) (name : List ℕ) (value : Value) → AccessLeaves store (access.name_written allow store receiver name value)
unfolding access.name_written
name_written_leaves allow store receiver name value = put_named_leaves allow store receiver name value (name_access Write allow store.objects receiver name)

calls_leave : (store : Store) (number : ℕ) (casts : Casts) → AccessLeaves store (access.calls_with store number casts)
calls_leave store number (All values) = tt
calls_leave store number (Ended told) = told_leaves store told

called_leaves : (allow : AllowList) (store : Store) (receiver : Value) (name : List ℕ) (arguments : List Value) (found : Option Callee) → AccessLeaves store (access.called_by allow store receiver name arguments found)
called_leaves allow store receiver name arguments None = failure_leaves store _
called_leaves allow store receiver name arguments (Some (Iface number)) = failure_leaves store _
called_leaves allow store receiver name arguments (Some (Member number)) =
    built_leaves store number (failures.no_method store.objects receiver name (length arguments)) _
    (calls_leave store number (access.casts_from store.objects (member_in allow number).params 1 (receiver ∷ arguments)))

pub method_called_leaves : (allow : AllowList) (store : Store) (receiver : Value) (name : List ℕ) (arguments : List Value) → AccessLeaves store (access.method_called allow store receiver name arguments)
unfolding access.method_called
method_called_leaves allow store receiver name arguments =
    called_leaves allow store receiver name arguments (access.target_for allow name (length arguments) (class_of store.objects receiver))
