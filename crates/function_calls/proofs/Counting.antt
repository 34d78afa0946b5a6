-- A function that is called takes the values that it is called with.
use Rattle.std.proofs.Common.{◌≡◌, ℕ, zero, suc, ◌+◌, Bool, true, false, Option, Some, None, List, [], ◌∷◌, ◌++◌, length, refl, sym, ap, ◌∙◌, slice_get, slice_set}
use Rattle.std.specs.Prelude.{drop}
use Rattle.std.proofs.lemmas.List.{length-append}
use Rattle.pl_types.specs.declared.ty.Ty.{Ty}
use Rattle.allowlist.specs.Allow.{AllowList}
use Rattle.allowlist.specs.Index.{member_at, member_in}
use Rattle.object_values.specs.declared.object.Object.{Object}
use Rattle.object_values.specs.declared.object.Object.TheVariants as o
use Rattle.object_values.specs.declared.object.Owner.{Owner}
use Rattle.object_values.specs.declared.object.Owner.TheVariants.{Prelude}
use Rattle.object_values.specs.declared.value.Value.{Value}
use Rattle.object_values.specs.declared.value.Value.TheVariants as v
use Rattle.object_heap.specs.Effects.{Effect, Gives, Throws, NoRoom}
use Rattle.object_heap.specs.Parts.{captures_of, object_captures}
use Rattle.object_heap.specs.Store.{Store, changed_one, with_change}
use Rattle.object_heap.proofs.Fronting.{whether}
use Rattle.object_heap.proofs.Growth.{cons_changed}
use Rattle.def_access.specs.Coming.{found_on}
use Rattle.def_resolve.specs.declared.callee.Callee.{Callee}
use Rattle.def_resolve.specs.declared.callee.Callee.TheVariants as callee
use Rattle.function_calls.specs.declared.aim.Aim.{Aim}
use Rattle.function_calls.specs.declared.aim.Aim.TheVariants as aim
use Rattle.function_calls.specs.declared.aim.Doing.{Doing}
use Rattle.function_calls.specs.declared.aim.Doing.TheVariants as does
use Rattle.function_calls.specs.declared.called.Called.{Called}
use Rattle.function_calls.specs.declared.called.Called.TheVariants as called
use Rattle.function_calls.specs.declared.texts.Texts.{Texts}
use Rattle.function_calls.specs.Applying as applying
use Rattle.function_calls.specs.Applying.{Applied, Lands, Moves, Stage, Stops, after_casts, aimed_unless, applied, applied_within, captured_by, direct, done, done_unless, goes_on, lacks_receiver, landed, named, refusal, stage}
use Rattle.function_calls.specs.Coming.{Taken, none_taken, one_taken}
use Rattle.function_calls.specs.Laws.{AreTaken, TakesValues}
use Rattle.function_calls.specs.Passing.{Passed, All, Ended, meets, passed_twice, with_iface}
use Rattle.function_calls.specs.Targets.{aim_of, doing_of, own_types, parameters_in}
use Rattle.function_calls.proofs.Aiming.{AimHolds, DoingHolds, aim_holds, doing_holds}
use Rattle.function_calls.proofs.Along.{Along, Keeps, Meeting, from_along, twice_along}
use Rattle.function_calls.proofs.Passes.{meets_taken}

-- ---- what is captured stays

captures_changed_one : (objects : List Object) (id : ℕ) (change : Object → Object) (asked : ℕ) → ((object : Object) → object_captures (change object) ≡ object_captures object)
    → captures_of (changed_one objects id change) asked ≡ captures_of objects asked
captures_changed_one [] id change asked h = refl
captures_changed_one (x ∷ objects) zero change zero h = h x
captures_changed_one (x ∷ objects) zero change (suc asked) h = refl
captures_changed_one (x ∷ objects) (suc id) change zero h = ap (λ (os : List Object). captures_of os 0) (cons_changed x objects id change (slice_get objects id))
captures_changed_one (x ∷ objects) (suc id) change (suc asked) h =
    ap (λ (os : List Object). captures_of os (suc asked)) (cons_changed x objects id change (slice_get objects id)) ∙ captures_changed_one objects id change asked h

captures_changed : (objects : List Object) (id : ℕ) (change : Object → Object) (asked : ℕ) → ((object : Object) → object_captures (change object) ≡ object_captures object)
    → captures_of (with_change objects id change) asked ≡ captures_of objects asked
captures_changed objects id change asked h =
    whether objects id change (λ (after : List Object). captures_of after asked ≡ captures_of objects asked) refl (captures_changed_one objects id change asked h)

iface_captures : (iface : ℕ) (object : Object) → object_captures (with_iface iface object) ≡ object_captures object
iface_captures iface (o.Fun None target captures) = refl
iface_captures iface (o.Fun (Some held) target captures) = refl
iface_captures iface object = refl

taken_captures : (texts : Texts) (allow : AllowList) (old new : Store) (asked : ℕ) → Taken texts allow old new → captures_of new.objects asked ≡ captures_of old.objects asked
taken_captures texts allow old new asked none_taken = refl
taken_captures texts allow old new asked (one_taken {now} id iface before loose fits) =
    captures_changed now.objects id (with_iface iface) asked (iface_captures iface) ∙ taken_captures texts allow old now asked before

captured_same : (texts : Texts) (allow : AllowList) (old new : Store) (function : Value) (before after : List Value) → Taken texts allow old new
    → captured_by new.objects (function ∷ after) ≡ captured_by old.objects (function ∷ before)
captured_same texts allow old new (v.Ref id) before after t = taken_captures texts allow old new id t
captured_same texts allow old new function before after t = refl

-- ---- as many values

pub set_length : (values : List Value) (at : ℕ) (value : Value) → length (slice_set values at value) ≡ length values
set_length [] at value = refl
set_length (x ∷ values) zero value = refl
set_length (x ∷ values) (suc at) value = ap suc (set_length values at value)

-- so many arguments, and so many captured values
abbrev pub Counts : ℕ → ℕ → Store → List Value → Type 0
Counts count captured store values = (length (drop 1 values) ≡ count) × (length (captured_by store.objects values) ≡ captured)

abbrev pub Anything : Store → Effect → Type 0
Anything store told = Unit {0}

counts_met : (texts : Texts) (allow : AllowList) (count captured : ℕ) (store : Store) (values : List Value) (at : ℕ) (of : Ty) (value : Value) (told : Effect) → meets texts allow store of value ≡ told
    → Counts count captured store values → slice_get values (suc at) ≡ Some value → Meeting (Counts count captured) Anything store values at told
counts_met texts allow count captured store [] at of value told e h g = cc
counts_met texts allow count captured store (function ∷ values) at of value (Gives cast now) e h g = (
  set_length values at cast ∙ h.0,
  ap (λ (vs : List Value). length vs) (captured_same texts allow store now function values (slice_set values at cast) (meets_taken texts allow store now of value cast e)) ∙ h.1,
)
counts_met texts allow count captured store (function ∷ values) at of value (Throws id now) e h g = tt
counts_met texts allow count captured store (function ∷ values) at of value NoRoom e h g = tt

pub counts_kept : (texts : Texts) (allow : AllowList) (count captured : ℕ) → Keeps texts allow (Counts count captured) Anything
counts_kept texts allow count captured = record { each = λ store values at of value h g. counts_met texts allow count captured store values at of value (meets texts allow store of value) refl h g }

-- so many values in all
abbrev Whole : ℕ → Store → List Value → Type 0
Whole count store values = length values ≡ count

whole_met : (texts : Texts) (allow : AllowList) (count : ℕ) (store : Store) (values : List Value) (at : ℕ) (told : Effect) → Whole count store values → Meeting (Whole count) Anything store values at told
whole_met texts allow count store values at (Gives cast now) h = set_length values (suc at) cast ∙ h
whole_met texts allow count store values at (Throws id now) h = tt
whole_met texts allow count store values at NoRoom h = tt

whole_kept : (texts : Texts) (allow : AllowList) (count : ℕ) → Keeps texts allow (Whole count) Anything
whole_kept texts allow count = record { each = λ store values at of value h g. whole_met texts allow count store values at (meets texts allow store of value) h }

-- ---- one function value

abbrev StageTakes : Texts → Stage → Type 0
StageTakes texts (Lands what store values) = TakesValues texts what values
StageTakes texts (Moves method store values) = Unit {0}
StageTakes texts (Stops store told) = Unit {0}

done_takes : (texts : Texts) (count number : ℕ) (store : Store) (values : List Value) (doing : Doing) → DoingHolds texts count number (Some doing) → length (drop 1 values) ≡ count
    → StageTakes texts (done number store values doing)
done_takes texts count number store values does.Itself h e = tt
done_takes texts count number store values (does.Prelude function) h e = h ∙ ap Some (sym e)
done_takes texts count number store values does.Receiver h e = tt

unless_takes : (texts : Texts) (count number : ℕ) (store : Store) (values : List Value) (doing : Doing) (lacks : Bool) → DoingHolds texts count number (Some doing) → length (drop 1 values) ≡ count
    → StageTakes texts (done_unless lacks number store values doing)
unless_takes texts count number store values doing true h e = tt
unless_takes texts count number store values doing false h e = done_takes texts count number store values doing h e

landed_takes : (texts : Texts) (allow : AllowList) (count captured : ℕ) (of : Aim) (store : Store) (values : List Value) → AimHolds texts allow captured count of → Counts count captured store values
    → StageTakes texts (landed of store values)
landed_takes texts allow count captured (aim.Lambda owner number) store values h e =
    h ∙ ap Some (sym (length-append (captured_by store.objects values) (drop 1 values) ∙ ap (λ (n : ℕ). n + length (drop 1 values)) e.1 ∙ ap (λ (n : ℕ). captured + n) e.0))
landed_takes texts allow count captured (aim.Static number doing) store values h e = done_takes texts count number store values doing h.1 e.0
landed_takes texts allow count captured (aim.Instance class number doing) store values h e = unless_takes texts count number store values doing (lacks_receiver values) h.1 e.0
landed_takes texts allow count captured (aim.Array made) store values h e = tt
landed_takes texts allow count captured other store values h e = tt

cast_takes : (texts : Texts) (allow : AllowList) (count captured : ℕ) (of : Aim) (p : Passed) → AimHolds texts allow captured count of → Along (Counts count captured) Anything p → StageTakes texts (after_casts of p)
cast_takes texts allow count captured of (All store values) h a = landed_takes texts allow count captured of store values h a
cast_takes texts allow count captured of (Ended store told) h a = tt

aimed_takes : (texts : Texts) (allow : AllowList) (first : List Ty) (store : Store) (values : List Value) (of : Aim) (refused : Option Effect)
    → AimHolds texts allow (length (captured_by store.objects values)) (length (drop 1 values)) of → StageTakes texts (aimed_unless refused texts allow first store values of)
aimed_takes texts allow first store values of (Some told) h = tt
aimed_takes texts allow first store values of None h =
    cast_takes texts allow (length (drop 1 values)) (length (captured_by store.objects values)) of (passed_twice texts allow first (own_types allow of) store values) h
    (twice_along texts allow (Counts (length (drop 1 values)) (length (captured_by store.objects values))) Anything (counts_kept texts allow (length (drop 1 values)) (length (captured_by store.objects values)))
    first (own_types allow of) store values (refl, refl))

stage_takes : (texts : Texts) (allow : AllowList) (first : List Ty) (store : Store) (values : List Value) → StageTakes texts (stage texts allow first store values)
unfolding stage
stage_takes texts allow first store values =
    aimed_takes texts allow first store values (aim_of texts allow store.objects values) (refusal store (aim_of texts allow store.objects values)) (aim_holds texts allow store.objects values)

-- ---- calls

on_takes : (texts : Texts) (of : Stage) (dues : List ℕ) (next : ℕ → Store → List Value → Applied) → StageTakes texts of
    → ((method : ℕ) (now : Store) (given : List Value) → AreTaken texts (next method now given)) → AreTaken texts (goes_on of dues next)
on_takes texts (Lands what store values) dues next h k = h
on_takes texts (Moves method store values) dues next h k = k method store values
on_takes texts (Stops store told) dues next h k = tt

within_takes : (left : ℕ) (texts : Texts) (allow : AllowList) (dues : List ℕ) (first : List Ty) (store : Store) (values : List Value) → AreTaken texts (applied_within left texts allow dues first store values)
within_takes zero texts allow dues first store values = tt
within_takes (suc left) texts allow dues first store values =
    on_takes texts (stage texts allow first store values) dues (λ method now given. applied_within left texts allow (method ∷ dues) [] now given) (stage_takes texts allow first store values)
    (λ method now given. within_takes left texts allow (method ∷ dues) [] now given)

pub applied_takes : (texts : Texts) (allow : AllowList) (method : ℕ) (first : List Ty) (store : Store) (values : List Value) → AreTaken texts (applied texts allow method first store values)
unfolding applied
applied_takes texts allow method first store values = within_takes 3 texts allow (method ∷ []) first store values

member_takes : (texts : Texts) (text : Owner) (number : ℕ) (p : Passed) → AreTaken texts (direct text (called.Member number) p)
member_takes texts text number (All store values) = tt
member_takes texts text number (Ended store told) = tt

work_takes : (texts : Texts) (text : Owner) (number function count : ℕ) (p : Passed) → parameters_in texts Prelude function ≡ Some count → Along (Whole count) Anything p
    → AreTaken texts (direct text (called.Work number function) p)
work_takes texts text number function count (All store values) h a = h ∙ ap Some (sym a)
work_takes texts text number function count (Ended store told) h a = tt

done_named : (texts : Texts) (allow own : AllowList) (text : Owner) (store : Store) (name : List ℕ) (values : List Value) (number : ℕ) (doing : Option Doing)
    → DoingHolds texts (length values) number doing → AreTaken texts (applying.member_done texts allow own text store name values number doing)
done_named texts allow own text store name values number None h = tt
done_named texts allow own text store name values number (Some does.Receiver) h = tt
done_named texts allow own text store name values number (Some does.Itself) h = member_takes texts text number (applying.member_passed texts allow own store values number)
done_named texts allow own text store name values number (Some (does.Prelude function)) h =
    work_takes texts text number function (length values) (applying.member_passed texts allow own store values number) h
    (from_along texts allow (Whole (length values)) Anything (whole_kept texts allow (length values)) (member_in own number).params 0 store values refl)

found_takes : (texts : Texts) (allow own : AllowList) (text : Owner) (store : Store) (name : List ℕ) (values : List Value) (found : Option Callee)
    → AreTaken texts (applying.called_on texts allow own text store name values found)
found_takes texts allow own text store name values None = tt
found_takes texts allow own text store name values (Some (callee.Iface number)) = applied_takes texts allow number (member_at number).params store values
found_takes texts allow own text store name values (Some (callee.Member number)) =
    done_named texts allow own text store name values number (doing_of texts own (length values) number) (doing_holds texts own (length values) number)

pub named_takes : (texts : Texts) (allow own : AllowList) (text : Owner) (store : Store) (name : List ℕ) (values : List Value) → AreTaken texts (named texts allow own text store name values)
unfolding named
named_takes texts allow own text store name values = found_takes texts allow own text store name values (found_on own store.objects name values)
