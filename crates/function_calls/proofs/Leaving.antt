-- Each object is there after a call, of its kind or with an interface that it has taken.
use Rattle.std.proofs.Common.{◌≡◌, ℕ, zero, suc, ◌≤◌, Bool, true, false, Option, Some, None, List, [], ◌∷◌, length, refl, subst, slice_get, if◌then◌else◌, arith}
use Rattle.pl_types.specs.declared.ty.Ty.{Ty, out-Ty}
use Rattle.pl_types.specs.declared.ty.Ty.TheOpen.{Ty-F}
use Rattle.pl_types.specs.declared.classes.TheConstants.{CLASS_CAST_EXCEPTION, NULL_POINTER_EXCEPTION}
use Rattle.allowlist.specs.Allow.{AllowList}
use Rattle.allowlist.specs.Index.{member_at, member_in}
use Rattle.object_values.specs.declared.object.Object.{Object}
use Rattle.object_values.specs.declared.object.Owner.{Owner}
use Rattle.object_values.specs.declared.value.Value.{Value}
use Rattle.object_values.specs.declared.value.Value.TheVariants as v
use Rattle.object_heap.specs.Effects.{Effect, Gives, Throws, NoRoom}
use Rattle.object_heap.specs.Fits.{kinds}
use Rattle.object_heap.specs.Store.{Store}
use Rattle.object_heap.proofs.Fitting.{length-kinds}
use Rattle.object_heap.proofs.KindLemmas.{follows_length}
use Rattle.number_ops.specs.declared.outcome.Outcome.{Outcome}
use Rattle.number_ops.specs.declared.outcome.Outcome.TheVariants as outcome
use Rattle.number_ops.specs.Outcomes.{class_raised, effect}
use Rattle.def_access.specs.Access.{cast_to}
use Rattle.def_access.specs.Coming.{found_on}
use Rattle.def_access.specs.ContainerCallsLaws.{EffectLeaves, StillThere}
use Rattle.def_access.specs.Types.{on_null, on_other_kind}
use Rattle.def_access.proofs.There.{follows, stay_trans, text_leaves, there_becomes, there_refl, throw_leaves}
use Rattle.def_resolve.specs.declared.callee.Callee.{Callee}
use Rattle.def_resolve.specs.declared.callee.Callee.TheVariants as callee
use Rattle.def_resolve.specs.Failures.{Failure, does_not_fit, fails, is_gone, no_method}
use Rattle.function_calls.specs.declared.aim.Aim.{Aim}
use Rattle.function_calls.specs.declared.aim.Aim.TheVariants as aim
use Rattle.function_calls.specs.declared.aim.Doing.{Doing}
use Rattle.function_calls.specs.declared.aim.Doing.TheVariants as does
use Rattle.function_calls.specs.declared.called.Called.{Called}
use Rattle.function_calls.specs.declared.called.Called.TheVariants as called
use Rattle.function_calls.specs.declared.texts.Texts.{Texts}
use Rattle.function_calls.specs.Applying as applying
use Rattle.function_calls.specs.Applying.{Applied, Lands, Moves, Stage, Stops, after_casts, aimed_unless, applied, applied_within, direct, done, done_unless, due_cast, due_layer, goes_on, lacks_receiver, landed, named, refusal, stage}
use Rattle.function_calls.specs.Coming.{Taken, none_taken, one_taken}
use Rattle.function_calls.specs.Laws.{AppliedLeaves}
use Rattle.function_calls.specs.Passing.{Passed, All, Ended, is_loose, meets, passed_from, passed_twice, taken, taken_if, takes, takes_as, wanted_layer, with_iface}
use Rattle.function_calls.specs.Targets.{aim_of, doing_of, own_types}
use Rattle.function_calls.proofs.Along.{Along, Keeps, Meeting, from_along, twice_along}
use Rattle.function_calls.proofs.Passes.{meets_taken}
use Rattle.function_calls.proofs.Renewing.{iface_becomes}

-- ---- stores

there_trans : (a b c : List Object) → StillThere a b → StillThere b c → StillThere a c
there_trans a b c p q = stay_trans (kinds a) (kinds b) (kinds c) p q

-- none is gone
pub there_count : (a b : List Object) → StillThere a b → length a ≤ length b
there_count a b p = omega (arith, length-kinds a, length-kinds b, follows_length (kinds a) (kinds b) (follows (kinds a) (kinds b) p))

pub one_leaves : (store : Store) (id iface : ℕ) → StillThere store.objects (taken store id iface).objects
one_leaves store id iface = there_becomes store.objects id (with_iface iface) (iface_becomes iface)

pub taken_leaves : (texts : Texts) (allow : AllowList) (old new : Store) → Taken texts allow old new → StillThere old.objects new.objects
taken_leaves texts allow old new none_taken = there_refl old.objects
taken_leaves texts allow old new (one_taken {now} id iface before loose fits) =
    there_trans old.objects now.objects (taken now id iface).objects (taken_leaves texts allow old now before) (one_leaves now id iface)

-- ---- effects

failure_leaves : (store : Store) (failure : Failure) → EffectLeaves store.objects (fails store failure)
failure_leaves store failure = throw_leaves store failure.class _

null_leaves : (store : Store) → EffectLeaves store.objects (on_null store)
null_leaves store = throw_leaves store NULL_POINTER_EXCEPTION None

other_leaves : (store : Store) → EffectLeaves store.objects (on_other_kind store)
other_leaves store = throw_leaves store CLASS_CAST_EXCEPTION None

told_leaves : (store : Store) (told : Outcome) → EffectLeaves store.objects (effect store told)
told_leaves store (outcome.Gives value) = there_refl store.objects
told_leaves store (outcome.Makes text) = text_leaves store text
told_leaves store (outcome.Throws raised message) = throw_leaves store (class_raised raised) message
told_leaves store outcome.NoMemory = there_refl store.objects

if_leaves : (store : Store) (id iface : ℕ) (test : Bool) → EffectLeaves store.objects (taken_if store id iface test)
if_leaves store id iface true = one_leaves store id iface
if_leaves store id iface false = failure_leaves store does_not_fit

as_leaves : (texts : Texts) (allow : AllowList) (store : Store) (id : ℕ) (wanted : Option ℕ) → EffectLeaves store.objects (takes_as texts allow store id wanted)
as_leaves texts allow store id None = failure_leaves store does_not_fit
as_leaves texts allow store id (Some iface) = if_leaves store id iface (takes texts allow iface (slice_get store.objects id))

object_leaves : (texts : Texts) (allow : AllowList) (store : Store) (of : Ty) (id : ℕ) (test : Bool)
    → EffectLeaves store.objects (if test then takes_as texts allow store id (wanted_layer (out-Ty of)) else effect store (cast_to store.objects (v.Ref id) of))
object_leaves texts allow store of id true = as_leaves texts allow store id (wanted_layer (out-Ty of))
object_leaves texts allow store of id false = told_leaves store (cast_to store.objects (v.Ref id) of)

meets_leaves : (texts : Texts) (allow : AllowList) (store : Store) (of : Ty) (value : Value) → EffectLeaves store.objects (meets texts allow store of value)
unfolding meets
meets_leaves texts allow store of (v.Ref id) = object_leaves texts allow store of id (is_loose (slice_get store.objects id))
meets_leaves texts allow store of v.Null = told_leaves store (cast_to store.objects v.Null of)
meets_leaves texts allow store of (v.Bool flag) = told_leaves store (cast_to store.objects (v.Bool flag) of)
meets_leaves texts allow store of (v.Byte number) = told_leaves store (cast_to store.objects (v.Byte number) of)
meets_leaves texts allow store of (v.Short number) = told_leaves store (cast_to store.objects (v.Short number) of)
meets_leaves texts allow store of (v.Char unit) = told_leaves store (cast_to store.objects (v.Char unit) of)
meets_leaves texts allow store of (v.Int number) = told_leaves store (cast_to store.objects (v.Int number) of)
meets_leaves texts allow store of (v.Long number) = told_leaves store (cast_to store.objects (v.Long number) of)
meets_leaves texts allow store of (v.Str text) = told_leaves store (cast_to store.objects (v.Str text) of)

-- ---- arguments

abbrev There : List Object → Store → List Value → Type 0
There before store values = StillThere before store.objects

abbrev Ends : List Object → Store → Effect → Type 0
Ends before store told = StillThere before store.objects × EffectLeaves store.objects told

met_there : (texts : Texts) (allow : AllowList) (before : List Object) (store : Store) (values : List Value) (at : ℕ) (of : Ty) (value : Value) (told : Effect) → meets texts allow store of value ≡ told
    → EffectLeaves store.objects told → StillThere before store.objects → Meeting (There before) (Ends before) store values at told
met_there texts allow before store values at of value (Gives cast now) e l h =
    there_trans before store.objects now.objects h (taken_leaves texts allow store now (meets_taken texts allow store now of value cast e))
met_there texts allow before store values at of value (Throws id now) e l h = (h, l)
met_there texts allow before store values at of value NoRoom e l h = (h, l)

there_kept : (texts : Texts) (allow : AllowList) (before : List Object) → Keeps texts allow (There before) (Ends before)
there_kept texts allow before = record {
  each = λ store values at of value h g. met_there texts allow before store values at of value (meets texts allow store of value) refl (meets_leaves texts allow store of value) h;
}

-- ---- one function value

abbrev StageLeaves : List Object → Stage → Type 0
StageLeaves before (Lands what store values) = StillThere before store.objects
StageLeaves before (Moves method store values) = StillThere before store.objects
StageLeaves before (Stops store told) = Ends before store told

done_leaves : (before : List Object) (number : ℕ) (store : Store) (values : List Value) (doing : Doing) → StillThere before store.objects → StageLeaves before (done number store values doing)
done_leaves before number store values does.Itself h = h
done_leaves before number store values (does.Prelude function) h = h
done_leaves before number store values does.Receiver h = h

unless_leaves : (before : List Object) (number : ℕ) (store : Store) (values : List Value) (doing : Doing) (lacks : Bool) → StillThere before store.objects
    → StageLeaves before (done_unless lacks number store values doing)
unless_leaves before number store values doing true h = (h, null_leaves store)
unless_leaves before number store values doing false h = done_leaves before number store values doing h

landed_leaves : (before : List Object) (of : Aim) (store : Store) (values : List Value) → StillThere before store.objects → StageLeaves before (landed of store values)
landed_leaves before (aim.Lambda owner number) store values h = h
landed_leaves before (aim.Static number doing) store values h = done_leaves before number store values doing h
landed_leaves before (aim.Instance class number doing) store values h = unless_leaves before number store values doing (lacks_receiver values) h
landed_leaves before (aim.Array made) store values h = h
landed_leaves before other store values h = (h, other_leaves store)

cast_leaves : (before : List Object) (of : Aim) (p : Passed) → Along (There before) (Ends before) p → StageLeaves before (after_casts of p)
cast_leaves before of (All store values) h = landed_leaves before of store values h
cast_leaves before of (Ended store told) h = h

abbrev RefusalLeaves : Store → Option Effect → Type 0
RefusalLeaves store None = Unit {0}
RefusalLeaves store (Some told) = EffectLeaves store.objects told

refusal_leaves : (store : Store) (of : Aim) → RefusalLeaves store (refusal store of)
refusal_leaves store aim.Null = null_leaves store
refusal_leaves store aim.NoFunction = other_leaves store
refusal_leaves store aim.Unfit = failure_leaves store does_not_fit
refusal_leaves store aim.Gone = failure_leaves store is_gone
refusal_leaves store other = tt

aimed_leaves : (texts : Texts) (allow : AllowList) (first : List Ty) (before : List Object) (store : Store) (values : List Value) (of : Aim) (refused : Option Effect) → RefusalLeaves store refused
    → StillThere before store.objects → StageLeaves before (aimed_unless refused texts allow first store values of)
aimed_leaves texts allow first before store values of (Some told) l h = (h, l)
aimed_leaves texts allow first before store values of None l h =
    cast_leaves before of (passed_twice texts allow first (own_types allow of) store values)
    (twice_along texts allow (There before) (Ends before) (there_kept texts allow before) first (own_types allow of) store values h)

stage_leaves : (texts : Texts) (allow : AllowList) (first : List Ty) (before : List Object) (store : Store) (values : List Value) → StillThere before store.objects
    → StageLeaves before (stage texts allow first store values)
unfolding stage
stage_leaves texts allow first before store values h =
    aimed_leaves texts allow first before store values (aim_of texts allow store.objects values) (refusal store (aim_of texts allow store.objects values))
    (refusal_leaves store (aim_of texts allow store.objects values)) h

-- ---- calls

on_leaves : (before : List Object) (of : Stage) (dues : List ℕ) (next : ℕ → Store → List Value → Applied) → StageLeaves before of
    → ((method : ℕ) (now : Store) (given : List Value) → StillThere before now.objects → AppliedLeaves before (next method now given)) → AppliedLeaves before (goes_on of dues next)
on_leaves before (Lands what store values) dues next h k = h
on_leaves before (Moves method store values) dues next h k = k method store values h
on_leaves before (Stops store told) dues next h k = h

within_leaves : (left : ℕ) (texts : Texts) (allow : AllowList) (dues : List ℕ) (first : List Ty) (before : List Object) (store : Store) (values : List Value) → StillThere before store.objects
    → AppliedLeaves before (applied_within left texts allow dues first store values)
within_leaves zero texts allow dues first before store values h = (h, failure_leaves store does_not_fit)
within_leaves (suc left) texts allow dues first before store values h =
    on_leaves before (stage texts allow first store values) dues (λ method now given. applied_within left texts allow (method ∷ dues) [] now given)
    (stage_leaves texts allow first before store values h)
    (λ method now given there. within_leaves left texts allow (method ∷ dues) [] before now given there)

pub applied_leaves : (texts : Texts) (allow : AllowList) (method : ℕ) (first : List Ty) (store : Store) (values : List Value) → AppliedLeaves store.objects (applied texts allow method first store values)
unfolding applied
applied_leaves texts allow method first store values = within_leaves 3 texts allow (method ∷ []) first store.objects store values (there_refl store.objects)

direct_leaves : (before : List Object) (text : Owner) (what : Called) (p : Passed) → Along (There before) (Ends before) p → AppliedLeaves before (direct text what p)
direct_leaves before text what (All store values) h = h
direct_leaves before text what (Ended store told) h = h

missing_leaves : (store : Store) (name : List ℕ) (values : List Value) → EffectLeaves store.objects (applying.not_found store name values)
missing_leaves store name [] = null_leaves store
missing_leaves store name (receiver ∷ arguments) = failure_leaves store (no_method store.objects receiver name (length arguments))

member_leaves : (texts : Texts) (allow own : AllowList) (store : Store) (values : List Value) (number : ℕ)
    → Along (There store.objects) (Ends store.objects) (applying.member_passed texts allow own store values number)
member_leaves texts allow own store values number =
    from_along texts allow (There store.objects) (Ends store.objects) (there_kept texts allow store.objects) (member_in own number).params 0 store values (there_refl store.objects)

done_named : (texts : Texts) (allow own : AllowList) (text : Owner) (store : Store) (name : List ℕ) (values : List Value) (number : ℕ) (doing : Option Doing)
    → AppliedLeaves store.objects (applying.member_done texts allow own text store name values number doing)
done_named texts allow own text store name values number None = (there_refl store.objects, missing_leaves store name values)
done_named texts allow own text store name values number (Some does.Receiver) = (there_refl store.objects, missing_leaves store name values)
done_named texts allow own text store name values number (Some does.Itself) =
    direct_leaves store.objects text (called.Member number) (applying.member_passed texts allow own store values number) (member_leaves texts allow own store values number)
done_named texts allow own text store name values number (Some (does.Prelude function)) =
    direct_leaves store.objects text (called.Work number function) (applying.member_passed texts allow own store values number) (member_leaves texts allow own store values number)

found_leaves : (texts : Texts) (allow own : AllowList) (text : Owner) (store : Store) (name : List ℕ) (values : List Value) (found : Option Callee)
    → AppliedLeaves store.objects (applying.called_on texts allow own text store name values found)
found_leaves texts allow own text store name values None = (there_refl store.objects, missing_leaves store name values)
found_leaves texts allow own text store name values (Some (callee.Iface number)) = applied_leaves texts allow number (member_at number).params store values
found_leaves texts allow own text store name values (Some (callee.Member number)) = done_named texts allow own text store name values number (doing_of texts own (length values) number)

pub named_leaves : (texts : Texts) (allow own : AllowList) (text : Owner) (store : Store) (name : List ℕ) (values : List Value) → AppliedLeaves store.objects (named texts allow own text store name values)
unfolding named
named_leaves texts allow own text store name values = found_leaves texts allow own text store name values (found_on own store.objects name values)

-- ---- what comes back

layer_leaves : (store : Store) (value : Value) (of : Ty) (layer : Ty-F Ty) → EffectLeaves store.objects (due_layer store value of layer)
layer_leaves store value of Ty-F.Void = there_refl store.objects
layer_leaves store value of layer = told_leaves store (cast_to store.objects value of)

pub due_leaves : (store : Store) (method : ℕ) (value : Value) → EffectLeaves store.objects (due_cast store method value)
unfolding due_cast
due_leaves store method value = layer_leaves store value (member_at method).result (out-Ty (member_at method).result)
