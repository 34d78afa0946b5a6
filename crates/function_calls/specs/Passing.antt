-- Arguments whose parameters are known when the call runs: each is cast to the type of its parameter, from the left, as in a cast that is
-- not written. A function value without an interface takes that of the parameter that it meets.
use Rattle.std.specs.Prelude.{ℕ, suc, Bool, true, false, Option, Some, None, List, [], ◌∷◌, slice_get, slice_set, if◌then◌else◌}
use Rattle.pl_types.specs.declared.ty.Ty.{Ty, out-Ty}
use Rattle.pl_types.specs.declared.ty.Ty.TheOpen.{Ty-F}
use Rattle.allowlist.specs.Allow.{AllowList}
use Rattle.object_values.specs.declared.object.Object.{Object}
use Rattle.object_values.specs.declared.object.Object.TheVariants as o
use Rattle.object_values.specs.declared.object.Target.{Target}
use Rattle.object_values.specs.declared.object.Target.TheVariants as t
use Rattle.object_values.specs.declared.value.Value.{Value}
use Rattle.object_values.specs.declared.value.Value.TheVariants as v
use Rattle.object_heap.specs.Effects.{Effect, Gives, Throws, NoRoom}
use Rattle.object_heap.specs.Store.{Store, with_change}
use Rattle.number_ops.specs.Outcomes.{effect}
use Rattle.def_access.specs.Access.{cast_to}
use Rattle.def_resolve.specs.Failures.{does_not_fit, fails}
use Rattle.def_resolve.specs.Functions.{fits}
use Rattle.function_calls.specs.declared.texts.Texts.{Texts}
use Rattle.function_calls.specs.Targets.{parameters_in}

-- ---- interfaces that are taken

-- a function value that has taken no interface
abbrev pub is_loose : Option Object → Bool
is_loose (Some (o.Fun None target captures)) = true
is_loose other = false

-- How many parameters are told of what is called: those of a lambda, if it is there. Of all else none is asked.
abbrev pub told_of : Texts → Target → Option ℕ
told_of texts (t.Lambda owner number) = parameters_in texts owner number
told_of texts target = Some 0

abbrev pub fits_told : AllowList → Object → ℕ → Option ℕ → Bool
fits_told allow object iface None = false
fits_told allow object iface (Some parameters) = fits allow object parameters iface

-- whether a function value takes an interface; a reference is looked for among what the script may use, wherever the value is passed
abbrev pub takes : Texts → AllowList → ℕ → Option Object → Bool
takes texts allow iface (Some (o.Fun held target captures)) = fits_told allow (o.Fun held target captures) iface (told_of texts target)
takes texts allow iface other = false

-- a function value that has no interface with one: it is taken once, and of all else nothing is changed
abbrev pub with_iface : ℕ → Object → Object
with_iface iface (o.Fun None target captures) = o.Fun (Some iface) target captures
with_iface iface object = object

-- the store in which it has taken one, in its place
abbrev pub taken : Store → ℕ → ℕ → Store
taken store id iface = record { objects = with_change store.objects id (with_iface iface); room = store.room }

-- the interface that a type is; only a class may be one
abbrev pub wanted_layer : Ty-F Ty → Option ℕ
wanted_layer (Ty-F.Class class) = Some class
wanted_layer layer = None

abbrev pub taken_if : Store → ℕ → ℕ → Bool → Effect
taken_if store id iface true = Gives (v.Ref id) (taken store id iface)
taken_if store id iface false = fails store does_not_fit

abbrev pub takes_as : Texts → AllowList → Store → ℕ → Option ℕ → Effect
takes_as texts allow store id None = fails store does_not_fit
takes_as texts allow store id (Some iface) = taken_if store id iface (takes texts allow iface (slice_get store.objects id))

abbrev pub object_meets : Texts → AllowList → Store → Ty → ℕ → Effect
object_meets texts allow store of id =
    if is_loose (slice_get store.objects id) then takes_as texts allow store id (wanted_layer (out-Ty of)) else effect store (cast_to store.objects (v.Ref id) of)

-- What comes of a value that meets a parameter of a type: the cast value, or what is thrown.
unfoldable pub meets : Texts → AllowList → Store → Ty → Value → Effect
meets texts allow store of (v.Ref id) = object_meets texts allow store of id
meets texts allow store of value = effect store (cast_to store.objects value of)

-- ---- arguments

-- Arguments that were all passed, and the store with the interfaces that they took; or what the first comes to that gives no value, on
-- the store that those before it left. An interface that was taken stays taken.
pub data Passed : Type 0 where
  All : (store : Store) (values : List Value) → Passed
  Ended : (store : Store) (told : Effect) → Passed

abbrev pub after_meeting : Store → Effect → (Store → Value → Passed) → Passed
after_meeting store (Gives value now) next = next now value
after_meeting store (Throws id now) next = Ended store (Throws id now)
after_meeting store NoRoom next = Ended store NoRoom

abbrev pub passed_there : Texts → AllowList → Store → Ty → List Value → ℕ → Option Value → (Store → List Value → Passed) → Passed
passed_there texts allow store of values at None next = next store values
passed_there texts allow store of values at (Some value) next = after_meeting store (meets texts allow store of value) (λ now cast. next now (slice_set values at cast))

-- the values from a place on, each passed to a parameter of its type, from the left
abbrev pub passed_from : Texts → AllowList → List Ty → ℕ → Store → List Value → Passed
passed_from texts allow [] at store values = All store values
passed_from texts allow (of ∷ ofs) at store values = passed_there texts allow store of values at (slice_get values at) (λ now cast. passed_from texts allow ofs (suc at) now cast)

abbrev pub after_passing : Passed → (Store → List Value → Passed) → Passed
after_passing (All store values) next = next store values
after_passing (Ended store told) next = Ended store told

-- The values behind the first: all of them to the types of the interface's method, and then all to those of what is called.
abbrev pub passed_twice : Texts → AllowList → List Ty → List Ty → Store → List Value → Passed
passed_twice texts allow first own store values = after_passing (passed_from texts allow first 1 store values) (λ now given. passed_from texts allow own 1 now given)
