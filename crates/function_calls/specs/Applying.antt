-- Calls that a function value may come into: of an interface's method on a function value, and of a method by its name, on a value whose
-- class is found when the call runs. Both meanings of a script take what is called from this page, and enter it each in its way.
use Rattle.std.specs.Prelude.{ℕ, zero, suc, ◌++◌, Bool, true, false, Option, Some, None, List, [], ◌∷◌, drop, length, slice_get}
use Rattle.pl_types.specs.declared.ty.Ty.{Ty, out-Ty}
use Rattle.pl_types.specs.declared.ty.Ty.TheOpen.{Ty-F}
use Rattle.allowlist.specs.Allow.{AllowList}
use Rattle.allowlist.specs.Index.{member_at, member_in}
use Rattle.object_values.specs.declared.object.Object.{Object}
use Rattle.object_values.specs.declared.object.Owner.{Owner}
use Rattle.object_values.specs.declared.object.Owner.TheVariants.{Script}
use Rattle.object_values.specs.declared.value.Value.{Value}
use Rattle.object_values.specs.declared.value.Value.TheVariants as v
use Rattle.object_heap.specs.Effects.{Effect, Gives}
use Rattle.object_heap.specs.Parts.{captures_of}
use Rattle.object_heap.specs.Store.{Store}
use Rattle.number_ops.specs.Outcomes.{effect}
use Rattle.def_access.specs.Access.{cast_to}
use Rattle.def_access.specs.Coming.{found_on}
use Rattle.def_access.specs.Types.{on_null, on_other_kind}
use Rattle.def_resolve.specs.declared.callee.Callee.{Callee}
use Rattle.def_resolve.specs.declared.callee.Callee.TheVariants as callee
use Rattle.def_resolve.specs.Failures.{does_not_fit, fails, is_gone, no_method}
use Rattle.function_calls.specs.declared.aim.Aim.{Aim}
use Rattle.function_calls.specs.declared.aim.Aim.TheVariants as aim
use Rattle.function_calls.specs.declared.aim.Doing.{Doing}
use Rattle.function_calls.specs.declared.aim.Doing.TheVariants as does
use Rattle.function_calls.specs.declared.called.Called.{Called}
use Rattle.function_calls.specs.declared.called.Called.TheVariants as called
use Rattle.function_calls.specs.declared.texts.Texts.{Texts}
use Rattle.function_calls.specs.Passing.{Passed, All, Ended, passed_from, passed_twice}
use Rattle.function_calls.specs.Targets.{aim_of, doing_of, own_types}

-- ---- what comes of a call

pub record Call : Type 0 where
  -- what is called in the end
  pub called : Called
  -- the text in which its call is written: a reference stands in the script's, wherever the value is called
  pub text : Owner
  -- the receiver and the arguments as they are cast; of a lambda what it captured comes first
  pub values : List Value
  -- the interfaces' methods by which it was called, the last one first: what it gives is cast to the result of each
  pub dues : List ℕ
  -- the store with the interfaces that arguments took
  pub store : Store

-- a call, which is paid next; or what is thrown before it is, on the store that the arguments before left
pub data Applied : Type 0 where
  Applies : (call : Call) → Applied
  Fails : (store : Store) (told : Effect) → Applied

-- Each call pays one tick. The member that it reaches, where it is written in the script's text: the one that is called in the end, and not
-- the method of an interface. A lambda and the making of an array are no members.
abbrev pub member_reached : Called → Option ℕ
member_reached (called.Lambda owner number) = None
member_reached (called.Array made) = None
member_reached (called.Member number) = Some number
member_reached (called.Work number function) = Some number

-- ---- one function value

-- What one function value comes to: what is called, with its values; an interface's method, which is called on the first of these values;
-- or what is thrown.
pub data Stage : Type 0 where
  Lands : (what : Called) (store : Store) (values : List Value) → Stage
  Moves : (method : ℕ) (store : Store) (values : List Value) → Stage
  Stops : (store : Store) (told : Effect) → Stage

-- what a function value has captured, and the first of these values
abbrev pub captured_in : List Object → Value → List Value
captured_in objects (v.Ref id) = captures_of objects id
captured_in objects value = []

abbrev pub captured_by : List Object → List Value → List Value
captured_by objects [] = []
captured_by objects (function ∷ arguments) = captured_in objects function

abbrev pub done : ℕ → Store → List Value → Doing → Stage
done number store values does.Itself = Lands (called.Member number) store (drop 1 values)
done number store values (does.Prelude function) = Lands (called.Work number function) store (drop 1 values)
done number store values does.Receiver = Moves number store (drop 1 values)

-- whether the second of these values, which is a receiver, is null
abbrev pub is_null_there : Option Value → Bool
is_null_there (Some v.Null) = true
is_null_there other = false

abbrev pub lacks_receiver : List Value → Bool
lacks_receiver values = is_null_there (slice_get values 1)

-- an instance member is not called on null
abbrev pub done_unless : Bool → ℕ → Store → List Value → Doing → Stage
done_unless true number store values doing = Stops store (on_null store)
done_unless false number store values doing = done number store values doing

abbrev pub landed : Aim → Store → List Value → Stage
landed (aim.Lambda owner number) store values = Lands (called.Lambda owner number) store (captured_by store.objects values ++ drop 1 values)
landed (aim.Static number doing) store values = done number store values doing
landed (aim.Instance class number doing) store values = done_unless (lacks_receiver values) number store values doing
landed (aim.Array made) store values = Lands (called.Array made) store (drop 1 values)
landed other store values = Stops store (on_other_kind store)

abbrev pub after_casts : Aim → Passed → Stage
after_casts of (All store values) = landed of store values
after_casts of (Ended store told) = Stops store told

-- what is thrown for want of a target
abbrev pub refusal : Store → Aim → Option Effect
refusal store aim.Null = Some (on_null store)
refusal store aim.NoFunction = Some (on_other_kind store)
refusal store aim.Unfit = Some (fails store does_not_fit)
refusal store aim.Gone = Some (fails store is_gone)
refusal store other = None

-- it is thrown before an argument is cast
abbrev pub aimed_unless : Option Effect → Texts → AllowList → List Ty → Store → List Value → Aim → Stage
aimed_unless (Some told) texts allow first store values of = Stops store told
aimed_unless None texts allow first store values of = after_casts of (passed_twice texts allow first (own_types allow of) store values)

abbrev pub aimed : Texts → AllowList → List Ty → Store → List Value → Aim → Stage
aimed texts allow first store values of = aimed_unless (refusal store of) texts allow first store values of

-- The first of these values is called with the others. These are passed to the types of the interface's method first, which are given
-- where the call is resolved when it runs; a call that was typed has cast them already.
unfoldable pub stage : Texts → AllowList → List Ty → Store → List Value → Stage
stage texts allow first store values = aimed texts allow first store values (aim_of texts allow store.objects values)

-- ---- a call of an interface's method on a function value

abbrev pub goes_on : Stage → List ℕ → (ℕ → Store → List Value → Applied) → Applied
goes_on (Lands what now values) dues next = Applies (record { called = what; text = Script; values = values; dues = dues; store = now })
goes_on (Moves method now values) dues next = next method now values
goes_on (Stops now told) dues next = Fails now told

-- A reference to an interface's method calls its first argument with the others, and so on, over so many function values.
abbrev pub applied_within : ℕ → Texts → AllowList → List ℕ → List Ty → Store → List Value → Applied
applied_within zero texts allow dues first store values = Fails store (fails store does_not_fit)
applied_within (suc left) texts allow dues first store values =
    goes_on (stage texts allow first store values) dues (λ method now given. applied_within left texts allow (method ∷ dues) [] now given)

-- The call of a method, by its number, on the first of these values with the others. Each function value that is called by a reference is
-- one argument of that before it, and no interface's method has more than two parameters: so there are at most three.
unfoldable pub applied : Texts → AllowList → ℕ → List Ty → Store → List Value → Applied
applied texts allow method first store values = applied_within 3 texts allow (method ∷ []) first store values

-- ---- a call of a method by its name

abbrev pub not_found : Store → List ℕ → List Value → Effect
not_found store name [] = on_null store
not_found store name (receiver ∷ arguments) = fails store (no_method store.objects receiver name (length arguments))

abbrev pub direct : Owner → Called → Passed → Applied
direct text what (All store values) = Applies (record { called = what; text = text; values = values; dues = []; store = store })
direct text what (Ended store told) = Fails store told

abbrev pub member_passed : Texts → AllowList → AllowList → Store → List Value → ℕ → Passed
member_passed texts allow own store values number = passed_from texts allow (member_in own number).params 1 store values

abbrev pub member_done : Texts → AllowList → AllowList → Owner → Store → List ℕ → List Value → ℕ → Option Doing → Applied
member_done texts allow own text store name values number (Some does.Itself) = direct text (called.Member number) (member_passed texts allow own store values number)
member_done texts allow own text store name values number (Some (does.Prelude function)) = direct text (called.Work number function) (member_passed texts allow own store values number)
member_done texts allow own text store name values number (Some does.Receiver) = Fails store (not_found store name values)
member_done texts allow own text store name values number None = Fails store (not_found store name values)

-- What is called by what was found: a member of its own list, or what the function value stands for, to whose interface's method the
-- arguments are passed.
abbrev pub called_on : Texts → AllowList → AllowList → Owner → Store → List ℕ → List Value → Option Callee → Applied
called_on texts allow own text store name values None = Fails store (not_found store name values)
called_on texts allow own text store name values (Some (callee.Iface number)) = applied texts allow number (member_at number).params store values
called_on texts allow own text store name values (Some (callee.Member number)) = member_done texts allow own text store name values number (doing_of texts own (length values) number)

-- The call of a method by its name on the first of these values with the others, from a text that has its own list of what it may call.
-- References are looked for in the script's list, which is the first, wherever they are called.
unfoldable pub named : Texts → AllowList → AllowList → Owner → Store → List ℕ → List Value → Applied
named texts allow own text store name values = called_on texts allow own text store name values (found_on own store.objects name values)

-- ---- what comes back

abbrev pub due_layer : Store → Value → Ty → Ty-F Ty → Effect
due_layer store value of Ty-F.Void = Gives v.Null store
due_layer store value of layer = effect store (cast_to store.objects value of)

-- What is called gives a value, null where its result is void. It is cast to the result of the method by which it was called, as in a
-- cast that is not written; a void method drops it.
unfoldable pub due_cast : Store → ℕ → Value → Effect
due_cast store method value = due_layer store value (member_at method).result (out-Ty (member_at method).result)
