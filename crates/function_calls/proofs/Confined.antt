-- What is called is of the list, and built where it acts itself.
use Rattle.std.proofs.Common.{◌≡◌, ℕ, zero, suc, ◌≤◌, Bool, true, false, Option, Some, None, List, [], ◌∷◌, length, arith}
use Rattle.std.specs.Prelude.{drop}
use Rattle.std.proofs.lemmas.Option.{slice_get_within}
use Rattle.pl_types.specs.declared.ty.Ty.{Ty}
use Rattle.allowlist.specs.Allow.{AllowList, flag}
use Rattle.allowlist.specs.Catalogue.{catalogue}
use Rattle.allowlist.specs.Index.{member_at}
use Rattle.allowlist.proofs.Unique.{method_above}
use Rattle.object_values.specs.declared.object.Object.{Object}
use Rattle.object_values.specs.declared.object.Owner.{Owner}
use Rattle.object_values.specs.declared.value.Value.{Value}
use Rattle.object_heap.specs.Effects.{Effect}
use Rattle.object_heap.specs.Store.{Store}
use Rattle.def_access.specs.Coming as access
use Rattle.def_access.specs.Coming.{found_on}
use Rattle.def_access.proofs.Confined.{class_listed}
use Rattle.def_resolve.specs.Resolution as resolution
use Rattle.def_resolve.specs.Resolution.{class_of}
use Rattle.def_resolve.specs.declared.callee.Callee.{Callee}
use Rattle.def_resolve.specs.declared.callee.Callee.TheVariants as callee
use Rattle.function_calls.specs.declared.aim.Aim.{Aim}
use Rattle.function_calls.specs.declared.aim.Aim.TheVariants as aim
use Rattle.function_calls.specs.declared.aim.Doing.{Doing}
use Rattle.function_calls.specs.declared.aim.Doing.TheVariants as does
use Rattle.function_calls.specs.declared.called.Called.{Called}
use Rattle.function_calls.specs.declared.called.Called.TheVariants as called
use Rattle.function_calls.specs.declared.texts.Texts.{Texts}
use Rattle.function_calls.specs.Applying as applying
use Rattle.function_calls.specs.Applying.{Applied, Applies, Fails, Lands, Moves, Stage, Stops, after_casts, aimed_unless, applied, applied_within, captured_by, direct, done, done_unless, goes_on, lacks_receiver, landed, named, refusal, stage}
use Rattle.function_calls.specs.Coming as coming
use Rattle.function_calls.specs.Laws.{CalledConfined, IsConfined, IsConfinedBy, list_for}
use Rattle.function_calls.specs.Passing.{Passed, All, Ended, passed_twice}
use Rattle.function_calls.specs.Targets.{aim_of, doing_of, own_types}
use Rattle.function_calls.proofs.Aiming.{AimHolds, DoingHolds, aim_holds, doing_holds}

-- ---- one function value

abbrev StageConfined : AllowList → Stage → Type 0
StageConfined allow (Lands what store values) = CalledConfined allow what
StageConfined allow (Moves method store values) = Unit {0}
StageConfined allow (Stops store told) = Unit {0}

done_confined : (texts : Texts) (allow : AllowList) (count number : ℕ) (store : Store) (values : List Value) (doing : Doing) → flag allow.members number ≡ true → DoingHolds texts count number (Some doing)
    → StageConfined allow (done number store values doing)
done_confined texts allow count number store values does.Itself h k = (h, k)
done_confined texts allow count number store values (does.Prelude function) h k = h
done_confined texts allow count number store values does.Receiver h k = tt

unless_confined : (texts : Texts) (allow : AllowList) (count number : ℕ) (store : Store) (values : List Value) (doing : Doing) (lacks : Bool) → flag allow.members number ≡ true
    → DoingHolds texts count number (Some doing) → StageConfined allow (done_unless lacks number store values doing)
unless_confined texts allow count number store values doing true h k = tt
unless_confined texts allow count number store values doing false h k = done_confined texts allow count number store values doing h k

landed_confined : (texts : Texts) (allow : AllowList) (captured count : ℕ) (of : Aim) (store : Store) (values : List Value) → AimHolds texts allow captured count of → StageConfined allow (landed of store values)
landed_confined texts allow captured count (aim.Lambda owner number) store values h = tt
landed_confined texts allow captured count (aim.Static number doing) store values h = done_confined texts allow count number store values doing h.0 h.1
landed_confined texts allow captured count (aim.Instance class number doing) store values h = unless_confined texts allow count number store values doing (lacks_receiver values) h.0 h.1
landed_confined texts allow captured count (aim.Array made) store values h = tt
landed_confined texts allow captured count other store values h = tt

cast_confined : (texts : Texts) (allow : AllowList) (captured count : ℕ) (of : Aim) (p : Passed) → AimHolds texts allow captured count of → StageConfined allow (after_casts of p)
cast_confined texts allow captured count of (All store values) h = landed_confined texts allow captured count of store values h
cast_confined texts allow captured count of (Ended store told) h = tt

aimed_confined : (texts : Texts) (allow : AllowList) (captured count : ℕ) (first : List Ty) (store : Store) (values : List Value) (of : Aim) (refused : Option Effect) → AimHolds texts allow captured count of
    → StageConfined allow (aimed_unless refused texts allow first store values of)
aimed_confined texts allow captured count first store values of (Some told) h = tt
aimed_confined texts allow captured count first store values of None h =
    cast_confined texts allow captured count of (passed_twice texts allow first (own_types allow of) store values) h

stage_confined : (texts : Texts) (allow : AllowList) (first : List Ty) (store : Store) (values : List Value) → StageConfined allow (stage texts allow first store values)
unfolding stage
stage_confined texts allow first store values =
    aimed_confined texts allow (length (captured_by store.objects values)) (length (drop 1 values)) first store values (aim_of texts allow store.objects values)
    (refusal store (aim_of texts allow store.objects values)) (aim_holds texts allow store.objects values)

-- ---- calls on function values

on_confined : (allow : AllowList) (of : Stage) (dues : List ℕ) (next : ℕ → Store → List Value → Applied) → StageConfined allow of
    → ((method : ℕ) (now : Store) (given : List Value) → IsConfined allow (next method now given)) → IsConfined allow (goes_on of dues next)
on_confined allow (Lands what store values) dues next h k = h
on_confined allow (Moves method store values) dues next h k = k method store values
on_confined allow (Stops store told) dues next h k = tt

within_confined : (left : ℕ) (texts : Texts) (allow : AllowList) (dues : List ℕ) (first : List Ty) (store : Store) (values : List Value) → IsConfined allow (applied_within left texts allow dues first store values)
within_confined zero texts allow dues first store values = tt
within_confined (suc left) texts allow dues first store values =
    on_confined allow (stage texts allow first store values) dues (λ method now given. applied_within left texts allow (method ∷ dues) [] now given) (stage_confined texts allow first store values)
    (λ method now given. within_confined left texts allow (method ∷ dues) [] now given)

pub applied_confined : (texts : Texts) (allow : AllowList) (method : ℕ) (first : List Ty) (store : Store) (values : List Value) → IsConfined allow (applied texts allow method first store values)
unfolding applied
applied_confined texts allow method first store values = within_confined 3 texts allow (method ∷ []) first store values

-- ---- calls by a name

-- casts are due of what a function value calls, so its members are of the script's list
on_due : (allow own : AllowList) (of : Stage) (due : ℕ) (dues : List ℕ) (next : ℕ → Store → List Value → Applied) → StageConfined allow of
    → ((method : ℕ) (now : Store) (given : List Value) → IsConfinedBy allow own (next method now given)) → IsConfinedBy allow own (goes_on of (due ∷ dues) next)
on_due allow own (Lands what store values) due dues next h k = h
on_due allow own (Moves method store values) due dues next h k = k method store values
on_due allow own (Stops store told) due dues next h k = tt

within_due : (left : ℕ) (texts : Texts) (allow own : AllowList) (due : ℕ) (dues : List ℕ) (first : List Ty) (store : Store) (values : List Value)
    → IsConfinedBy allow own (applied_within left texts allow (due ∷ dues) first store values)
within_due zero texts allow own due dues first store values = tt
within_due (suc left) texts allow own due dues first store values =
    on_due allow own (stage texts allow first store values) due dues (λ method now given. applied_within left texts allow (method ∷ due ∷ dues) [] now given) (stage_confined texts allow first store values)
    (λ method now given. within_due left texts allow own method (due ∷ dues) [] now given)

applied_due : (texts : Texts) (allow own : AllowList) (method : ℕ) (first : List Ty) (store : Store) (values : List Value) → IsConfinedBy allow own (applied texts allow method first store values)
unfolding applied
applied_due texts allow own method first store values = within_due 3 texts allow own method [] first store values

direct_confined : (allow own : AllowList) (text : Owner) (what : Called) (p : Passed) → CalledConfined own what → IsConfinedBy allow own (direct text what p)
direct_confined allow own text what (All store values) h = h
direct_confined allow own text what (Ended store told) h = tt

done_named : (texts : Texts) (allow own : AllowList) (text : Owner) (store : Store) (name : List ℕ) (values : List Value) (number : ℕ) (doing : Option Doing) → flag own.members number ≡ true
    → DoingHolds texts (length values) number doing → IsConfinedBy allow own (applying.member_done texts allow own text store name values number doing)
done_named texts allow own text store name values number None h k = tt
done_named texts allow own text store name values number (Some does.Receiver) h k = tt
done_named texts allow own text store name values number (Some does.Itself) h k =
    direct_confined allow own text (called.Member number) (applying.member_passed texts allow own store values number) (h, k)
done_named texts allow own text store name values number (Some (does.Prelude function)) h k =
    direct_confined allow own text (called.Work number function) (applying.member_passed texts allow own store values number) h

found_confined : (texts : Texts) (allow own : AllowList) (text : Owner) (store : Store) (name : List ℕ) (values : List Value) (found : Option Callee) → access.CalleeListed own found
    → IsConfinedBy allow own (applying.called_on texts allow own text store name values found)
found_confined texts allow own text store name values None h = tt
found_confined texts allow own text store name values (Some (callee.Iface number)) h = applied_due texts allow own number (member_at number).params store values
found_confined texts allow own text store name values (Some (callee.Member number)) h =
    done_named texts allow own text store name values number (doing_of texts own (length values) number) h (doing_holds texts own (length values) number)

first_listed : (own : AllowList) (objects : List Object) (name : List ℕ) (values : List Value) → access.CalleeListed own (found_on own objects name values)
first_listed own objects name [] = tt
first_listed own objects name (receiver ∷ arguments) = class_listed own name (length arguments) (class_of objects receiver)

pub named_confined : (texts : Texts) (allow own : AllowList) (text : Owner) (store : Store) (name : List ℕ) (values : List Value) → IsConfinedBy allow own (named texts allow own text store name values)
unfolding named
named_confined texts allow own text store name values = found_confined texts allow own text store name values (found_on own store.objects name values) (first_listed own store.objects name values)

-- ---- what is found by a name

pub callee_listed : (own : AllowList) (class : ℕ) (name : List ℕ) (arity : ℕ) (found : Option Callee) → resolution.IsConfined own class name arity found → length catalogue ≤ length own.members
    → coming.CalleeListed own found
callee_listed own class name arity None h k = tt
callee_listed own class name arity (Some (callee.Member number)) h k = h.member.allowed
callee_listed own class name arity (Some (callee.Iface number)) h k =
    let m = method_above class number h.method in
    omega (arith, slice_get_within catalogue number m.0 m.1, k)
