-- What comes of a call fits where the store and the values do.
use Rattle.std.proofs.Common.{◌≡◌, ℕ, zero, suc, ◌≤◌, ◌<◌, Bool, true, false, Option, Some, None, List, [], ◌∷◌, ◌++◌, length, refl, sym, ap, ◌∙◌, subst, slice_get, slice_set, if◌then◌else◌, arith}
use Rattle.std.specs.Prelude.{drop, option_map}
use Rattle.std.proofs.lemmas.Bool.{false≢true}
use Rattle.pl_types.specs.Classes.{class_is_below, lineage_of, parents_of, class_row, class_table}
use Rattle.pl_types.specs.declared.classes.TheConstants.{CLASS_CAST_EXCEPTION, EXCEPTION, ILLEGAL_ARGUMENT_EXCEPTION, NULL_POINTER_EXCEPTION}
use Rattle.pl_types.specs.declared.ty.Ty.{Ty, out-Ty}
use Rattle.pl_types.specs.declared.ty.Ty.TheOpen.{Ty-F}
use Rattle.allowlist.specs.Allow.{AllowList}
use Rattle.allowlist.specs.Index.{member_at, member_in}
use Rattle.object_values.specs.declared.object.Object.{Object}
use Rattle.object_values.specs.declared.object.Object.TheVariants as o
use Rattle.object_values.specs.declared.object.Owner.{Owner}
use Rattle.object_values.specs.declared.object.Target.{Target}
use Rattle.object_values.specs.declared.object.Target.TheVariants as t
use Rattle.object_values.specs.declared.value.Value.{Value}
use Rattle.object_values.specs.declared.value.Value.TheVariants as v
use Rattle.object_heap.specs.Effects.{Effect, Gives, Throws, NoRoom}
use Rattle.object_heap.specs.Fits.{AllFit, EffectFits, Fits, Lambda, ObjectFits, Rules, ValueFits, kinds, lambda_fits, target_fits}
use Rattle.object_heap.specs.Objects.{Kind}
use Rattle.object_heap.specs.Store.{Store}
use Rattle.object_heap.proofs.Fitting.{captures_fit, changed_fits}
use Rattle.object_heap.proofs.Keeping.{throws_fits}
use Rattle.number_ops.specs.declared.outcome.Outcome.{Outcome}
use Rattle.number_ops.specs.Outcomes.{effect}
use Rattle.number_ops.proofs.Keeping.{cast_fits, settled}
use Rattle.container_ops.proofs.Fitting.{value_there}
use Rattle.def_access.specs.Access.{cast_to}
use Rattle.def_access.specs.Coming.{found_on}
use Rattle.def_access.specs.Types.{on_null, on_other_kind}
use Rattle.def_resolve.specs.declared.callee.Callee.{Callee}
use Rattle.def_resolve.specs.declared.callee.Callee.TheVariants as callee
use Rattle.def_resolve.specs.Failures as failures
use Rattle.def_resolve.specs.Failures.{Failure, fails}
use Rattle.def_resolve.specs.Laws.{AreParameters, parameters_of}
use Rattle.def_resolve.proofs.Taking.{takes_interface}
use Rattle.function_calls.specs.declared.aim.Aim.{Aim}
use Rattle.function_calls.specs.declared.aim.Aim.TheVariants as aim
use Rattle.function_calls.specs.declared.aim.Doing.{Doing}
use Rattle.function_calls.specs.declared.aim.Doing.TheVariants as does
use Rattle.function_calls.specs.declared.called.Called.{Called}
use Rattle.function_calls.specs.declared.called.Called.TheVariants as called
use Rattle.function_calls.specs.declared.texts.Texts.{Texts}
use Rattle.function_calls.specs.Applying as applying
use Rattle.function_calls.specs.Applying.{Applied, Lands, Moves, Stage, Stops, after_casts, aimed_unless, applied, applied_within, captured_by, direct, done, done_unless, due_cast, due_layer, goes_on, lacks_receiver, landed, named, refusal, stage}
use Rattle.function_calls.specs.Coming.{Taken, none_taken, one_taken}
use Rattle.function_calls.specs.Laws.{AppliedFits, HaveLambdas}
use Rattle.function_calls.specs.Passing.{Passed, All, Ended, fits_told, is_loose, meets, passed_twice, taken, taken_if, takes, takes_as, told_of, wanted_layer, with_iface}
use Rattle.function_calls.specs.Targets.{aim_of, doing_of, own_types, parameters_in}
use Rattle.function_calls.proofs.Along.{Along, Keeps, Meeting, from_along, twice_along}
use Rattle.function_calls.proofs.Leaving.{one_leaves, taken_leaves, there_count}
use Rattle.function_calls.proofs.Passes.{meets_taken}
use Rattle.function_calls.proofs.Renewing.{iface_becomes}

-- ---- failures are exceptions

null_is : class_is_below NULL_POINTER_EXCEPTION EXCEPTION ≡ true
unfolding class_is_below lineage_of parents_of class_row class_table
null_is = refl

cast_is : class_is_below CLASS_CAST_EXCEPTION EXCEPTION ≡ true
unfolding class_is_below lineage_of parents_of class_row class_table
cast_is = refl

argument_is : class_is_below ILLEGAL_ARGUMENT_EXCEPTION EXCEPTION ≡ true
unfolding class_is_below lineage_of parents_of class_row class_table
argument_is = refl

unfit_is : class_is_below failures.does_not_fit.class EXCEPTION ≡ true
unfolding failures.does_not_fit class_is_below lineage_of parents_of class_row class_table
unfit_is = refl

gone_is : class_is_below failures.is_gone.class EXCEPTION ≡ true
unfolding failures.is_gone class_is_below lineage_of parents_of class_row class_table
gone_is = refl

unless_null_is : (value : Value) (message : List ℕ) → class_is_below (failures.unless_null value (failures.argument_failure message)).class EXCEPTION ≡ true
unless_null_is v.Null message = null_is
unless_null_is (v.Bool flag) message = argument_is
unless_null_is (v.Byte number) message = argument_is
unless_null_is (v.Short number) message = argument_is
unless_null_is (v.Char unit) message = argument_is
unless_null_is (v.Int number) message = argument_is
unless_null_is (v.Long number) message = argument_is
unless_null_is (v.Str text) message = argument_is
unless_null_is (v.Ref id) message = argument_is

method_is : (store : Store) (receiver : Value) (name : List ℕ) (arity : ℕ) → class_is_below (failures.no_method store.objects receiver name arity).class EXCEPTION ≡ true
unfolding failures.no_method
method_is store receiver name arity = unless_null_is receiver (failures.method_message store.objects receiver name arity)

failure_fits : (rules : Rules) (store : Store) (failure : Failure) → Fits rules store.objects → class_is_below failure.class EXCEPTION ≡ true → EffectFits rules (fails store failure)
failure_fits rules store failure f h = throws_fits rules store failure.class _ f h

null_fits : (rules : Rules) (store : Store) → Fits rules store.objects → EffectFits rules (on_null store)
null_fits rules store f = throws_fits rules store NULL_POINTER_EXCEPTION None f null_is

other_fits : (rules : Rules) (store : Store) → Fits rules store.objects → EffectFits rules (on_other_kind store)
other_fits rules store f = throws_fits rules store CLASS_CAST_EXCEPTION None f cast_is

-- ---- interfaces that are taken

known_parameters : (texts : Texts) (rules : Rules) (ks : List Kind) (owner : Owner) (number params : ℕ) (captures : List Value) (found : Option Lambda) → HaveLambdas texts rules
    → rules.lambda owner number ≡ found → lambda_fits ks None captures found ≡ true → parameters_in texts owner number ≡ Some params → option_map parameters_of (rules.lambda owner number) ≡ Some params
known_parameters texts rules ks owner number params captures None have e h told = absurd (false≢true h)
known_parameters texts rules ks owner number params captures (Some lambda) have e h told = ap (option_map parameters_of) e ∙ sym (have owner number lambda e) ∙ told

are_parameters : (texts : Texts) (rules : Rules) (ks : List Kind) (target : Target) (captures : List Value) (params : ℕ) → HaveLambdas texts rules → target_fits rules ks None captures target ≡ true
    → told_of texts target ≡ Some params → AreParameters rules target params
are_parameters texts rules ks (t.Lambda owner number) captures params have h told = known_parameters texts rules ks owner number params captures (rules.lambda owner number) have refl h told
are_parameters texts rules ks (t.Member class name) captures params have h told = tt
are_parameters texts rules ks (t.New made) captures params have h told = tt
are_parameters texts rules ks t.Gone captures params have h told = tt

told_takes : (texts : Texts) (allow : AllowList) (rules : Rules) (ks : List Kind) (target : Target) (captures : List Value) (iface : ℕ) (told : Option ℕ) → HaveLambdas texts rules → told_of texts target ≡ told
    → fits_told allow (o.Fun None target captures) iface told ≡ true → ObjectFits rules ks (o.Fun None target captures) → ObjectFits rules ks (o.Fun (Some iface) target captures)
told_takes texts allow rules ks target captures iface None have e h f = absurd (false≢true h)
told_takes texts allow rules ks target captures iface (Some params) have e h f =
    takes_interface allow rules ks target captures params iface (are_parameters texts rules ks target captures params have f.1 e) h f

object_takes : (texts : Texts) (allow : AllowList) (rules : Rules) (ks : List Kind) (iface : ℕ) (object : Object) → HaveLambdas texts rules → takes texts allow iface (Some object) ≡ true
    → ObjectFits rules ks object → ObjectFits rules ks (with_iface iface object)
object_takes texts allow rules ks iface (o.Fun None target captures) have h f = told_takes texts allow rules ks target captures iface (told_of texts target) have refl h f
object_takes texts allow rules ks iface (o.Fun (Some held) target captures) have h f = f
object_takes texts allow rules ks iface object have h f = f

one_fits : (rules : Rules) (texts : Texts) (allow : AllowList) (store : Store) (id iface : ℕ) → HaveLambdas texts rules → takes texts allow iface (slice_get store.objects id) ≡ true → Fits rules store.objects
    → Fits rules (taken store id iface).objects
one_fits rules texts allow store id iface have h f = changed_fits rules store.objects id (with_iface iface) (record {
  kind = iface_becomes iface;
  fit = λ object is g. object_takes texts allow rules (kinds store.objects) iface object have (ap (takes texts allow iface) (sym is) ∙ h) g;
}) f

pub taken_fits : (rules : Rules) (texts : Texts) (allow : AllowList) (old new : Store) → HaveLambdas texts rules → Taken texts allow old new → Fits rules old.objects → Fits rules new.objects
taken_fits rules texts allow old new have none_taken f = f
taken_fits rules texts allow old new have (one_taken {now} id iface before loose fits) f = one_fits rules texts allow now id iface have fits (taken_fits rules texts allow old now have before f)

-- ---- values

value_more : (n m : ℕ) → n ≤ m → (value : Value) → ValueFits n value → ValueFits m value
value_more n m h (v.Ref id) f = omega arith
value_more n m h value f = tt

all_more : (n m : ℕ) → n ≤ m → (values : List Value) → AllFit n values → AllFit m values
all_more n m h [] f = tt
all_more n m h (value ∷ values) f = (value_more n m h value f.0, all_more n m h values f.1)

all_set : (n at : ℕ) (value : Value) (values : List Value) → ValueFits n value → AllFit n values → AllFit n (slice_set values at value)
all_set n at value [] h f = tt
all_set n zero value (x ∷ values) h f = (h, f.1)
all_set n (suc at) value (x ∷ values) h f = (f.0, all_set n at value values h f.1)

all_behind : (n : ℕ) (values : List Value) → AllFit n values → AllFit n (drop 1 values)
all_behind n [] f = tt
all_behind n (value ∷ values) f = f.1

all_joined : (n : ℕ) (values more : List Value) → AllFit n values → AllFit n more → AllFit n (values ++ more)
all_joined n [] more f g = g
all_joined n (value ∷ values) more f g = (f.0, all_joined n values more f.1 g)

captured_fit : (rules : Rules) (objects : List Object) (values : List Value) → Fits rules objects → AllFit (length objects) (captured_by objects values)
captured_fit rules objects [] f = tt
captured_fit rules objects (v.Ref id ∷ arguments) f = captures_fit rules objects id f
captured_fit rules objects (value ∷ arguments) f = tt

-- ---- a value that meets a parameter

cast_effect : (rules : Rules) (store : Store) (of : Ty) (value : Value) → Fits rules store.objects → ValueFits (length store.objects) value → EffectFits rules (effect store (cast_to store.objects value of))
cast_effect rules store of value f h = settled rules store (cast_to store.objects value of) f (cast_fits (length store.objects) store.objects value of false h)

if_fits : (rules : Rules) (texts : Texts) (allow : AllowList) (store : Store) (id iface : ℕ) (test : Bool) → HaveLambdas texts rules → takes texts allow iface (slice_get store.objects id) ≡ test
    → Fits rules store.objects → id < length store.objects → EffectFits rules (taken_if store id iface test)
if_fits rules texts allow store id iface true have e f h =
    let more : length store.objects ≤ length (taken store id iface).objects = there_count store.objects (taken store id iface).objects (one_leaves store id iface) in
    (one_fits rules texts allow store id iface have e f, value_more (length store.objects) (length (taken store id iface).objects) more (v.Ref id) h)
if_fits rules texts allow store id iface false have e f h = failure_fits rules store failures.does_not_fit f unfit_is

as_fits : (rules : Rules) (texts : Texts) (allow : AllowList) (store : Store) (id : ℕ) (wanted : Option ℕ) → HaveLambdas texts rules → Fits rules store.objects → id < length store.objects
    → EffectFits rules (takes_as texts allow store id wanted)
as_fits rules texts allow store id None have f h = failure_fits rules store failures.does_not_fit f unfit_is
as_fits rules texts allow store id (Some iface) have f h = if_fits rules texts allow store id iface (takes texts allow iface (slice_get store.objects id)) have refl f h

object_fits : (rules : Rules) (texts : Texts) (allow : AllowList) (store : Store) (of : Ty) (id : ℕ) (test : Bool) → HaveLambdas texts rules → Fits rules store.objects → id < length store.objects
    → EffectFits rules (if test then takes_as texts allow store id (wanted_layer (out-Ty of)) else effect store (cast_to store.objects (v.Ref id) of))
object_fits rules texts allow store of id true have f h = as_fits rules texts allow store id (wanted_layer (out-Ty of)) have f h
object_fits rules texts allow store of id false have f h = cast_effect rules store of (v.Ref id) f h

meets_fits : (rules : Rules) (texts : Texts) (allow : AllowList) (store : Store) (of : Ty) (value : Value) → HaveLambdas texts rules → Fits rules store.objects → ValueFits (length store.objects) value
    → EffectFits rules (meets texts allow store of value)
unfolding meets
meets_fits rules texts allow store of (v.Ref id) have f h = object_fits rules texts allow store of id (is_loose (slice_get store.objects id)) have f h
meets_fits rules texts allow store of v.Null have f h = cast_effect rules store of v.Null f h
meets_fits rules texts allow store of (v.Bool flag) have f h = cast_effect rules store of (v.Bool flag) f h
meets_fits rules texts allow store of (v.Byte number) have f h = cast_effect rules store of (v.Byte number) f h
meets_fits rules texts allow store of (v.Short number) have f h = cast_effect rules store of (v.Short number) f h
meets_fits rules texts allow store of (v.Char unit) have f h = cast_effect rules store of (v.Char unit) f h
meets_fits rules texts allow store of (v.Int number) have f h = cast_effect rules store of (v.Int number) f h
meets_fits rules texts allow store of (v.Long number) have f h = cast_effect rules store of (v.Long number) f h
meets_fits rules texts allow store of (v.Str text) have f h = cast_effect rules store of (v.Str text) f h

-- ---- arguments

abbrev AreFit : Rules → Store → List Value → Type 0
AreFit rules store values = Fits rules store.objects × AllFit (length store.objects) values

abbrev Ends : Rules → Store → Effect → Type 0
Ends rules store told = Fits rules store.objects × EffectFits rules told

met_fits : (rules : Rules) (texts : Texts) (allow : AllowList) (store : Store) (values : List Value) (at : ℕ) (of : Ty) (value : Value) (told : Effect) → meets texts allow store of value ≡ told → EffectFits rules told
    → AreFit rules store values → Meeting (AreFit rules) (Ends rules) store values at told
met_fits rules texts allow store values at of value (Gives cast now) e l h =
    let more : length store.objects ≤ length now.objects = there_count store.objects now.objects (taken_leaves texts allow store now (meets_taken texts allow store now of value cast e)) in
    (l.0, all_set (length now.objects) (suc at) cast values l.1 (all_more (length store.objects) (length now.objects) more values h.1))
met_fits rules texts allow store values at of value (Throws id now) e l h = (h.0, l)
met_fits rules texts allow store values at of value NoRoom e l h = (h.0, l)

fit_kept : (rules : Rules) (texts : Texts) (allow : AllowList) → HaveLambdas texts rules → Keeps texts allow (AreFit rules) (Ends rules)
fit_kept rules texts allow have = record {
  each = λ store values at of value h g. met_fits rules texts allow store values at of value (meets texts allow store of value) refl
      (meets_fits rules texts allow store of value have h.0 (value_there (length store.objects) values (suc at) value h.1 g)) h;
}

-- ---- one function value

abbrev StageFits : Rules → Stage → Type 0
StageFits rules (Lands what store values) = AreFit rules store values
StageFits rules (Moves method store values) = AreFit rules store values
StageFits rules (Stops store told) = Ends rules store told

done_fits : (rules : Rules) (number : ℕ) (store : Store) (values : List Value) (doing : Doing) → AreFit rules store values → StageFits rules (done number store values doing)
done_fits rules number store values does.Itself h = (h.0, all_behind (length store.objects) values h.1)
done_fits rules number store values (does.Prelude function) h = (h.0, all_behind (length store.objects) values h.1)
done_fits rules number store values does.Receiver h = (h.0, all_behind (length store.objects) values h.1)

unless_fits : (rules : Rules) (number : ℕ) (store : Store) (values : List Value) (doing : Doing) (lacks : Bool) → AreFit rules store values → StageFits rules (done_unless lacks number store values doing)
unless_fits rules number store values doing true h = (h.0, null_fits rules store h.0)
unless_fits rules number store values doing false h = done_fits rules number store values doing h

landed_fits : (rules : Rules) (of : Aim) (store : Store) (values : List Value) → AreFit rules store values → StageFits rules (landed of store values)
landed_fits rules (aim.Lambda owner number) store values h =
    (h.0, all_joined (length store.objects) (captured_by store.objects values) (drop 1 values) (captured_fit rules store.objects values h.0) (all_behind (length store.objects) values h.1))
landed_fits rules (aim.Static number doing) store values h = done_fits rules number store values doing h
landed_fits rules (aim.Instance class number doing) store values h = unless_fits rules number store values doing (lacks_receiver values) h
landed_fits rules (aim.Array made) store values h = (h.0, all_behind (length store.objects) values h.1)
landed_fits rules other store values h = (h.0, other_fits rules store h.0)

casts_fit : (rules : Rules) (of : Aim) (p : Passed) → Along (AreFit rules) (Ends rules) p → StageFits rules (after_casts of p)
casts_fit rules of (All store values) h = landed_fits rules of store values h
casts_fit rules of (Ended store told) h = h

abbrev RefusalFits : Rules → Option Effect → Type 0
RefusalFits rules None = Unit {0}
RefusalFits rules (Some told) = EffectFits rules told

refusal_fits : (rules : Rules) (store : Store) (of : Aim) → Fits rules store.objects → RefusalFits rules (refusal store of)
refusal_fits rules store aim.Null f = null_fits rules store f
refusal_fits rules store aim.NoFunction f = other_fits rules store f
refusal_fits rules store aim.Unfit f = failure_fits rules store failures.does_not_fit f unfit_is
refusal_fits rules store aim.Gone f = failure_fits rules store failures.is_gone f gone_is
refusal_fits rules store other f = tt

aimed_fits : (rules : Rules) (texts : Texts) (allow : AllowList) (first : List Ty) (store : Store) (values : List Value) (of : Aim) (refused : Option Effect) → HaveLambdas texts rules → RefusalFits rules refused
    → AreFit rules store values → StageFits rules (aimed_unless refused texts allow first store values of)
aimed_fits rules texts allow first store values of (Some told) have l h = (h.0, l)
aimed_fits rules texts allow first store values of None have l h =
    casts_fit rules of (passed_twice texts allow first (own_types allow of) store values)
    (twice_along texts allow (AreFit rules) (Ends rules) (fit_kept rules texts allow have) first (own_types allow of) store values h)

stage_fits : (rules : Rules) (texts : Texts) (allow : AllowList) (first : List Ty) (store : Store) (values : List Value) → HaveLambdas texts rules → AreFit rules store values
    → StageFits rules (stage texts allow first store values)
unfolding stage
stage_fits rules texts allow first store values have h =
    aimed_fits rules texts allow first store values (aim_of texts allow store.objects values) (refusal store (aim_of texts allow store.objects values)) have
    (refusal_fits rules store (aim_of texts allow store.objects values) h.0) h

-- ---- calls

on_fits : (rules : Rules) (of : Stage) (dues : List ℕ) (next : ℕ → Store → List Value → Applied) → StageFits rules of
    → ((method : ℕ) (now : Store) (given : List Value) → AreFit rules now given → AppliedFits rules (next method now given)) → AppliedFits rules (goes_on of dues next)
on_fits rules (Lands what store values) dues next h k = h
on_fits rules (Moves method store values) dues next h k = k method store values h
on_fits rules (Stops store told) dues next h k = h

within_fits : (left : ℕ) (rules : Rules) (texts : Texts) (allow : AllowList) (dues : List ℕ) (first : List Ty) (store : Store) (values : List Value) → HaveLambdas texts rules → AreFit rules store values
    → AppliedFits rules (applied_within left texts allow dues first store values)
within_fits zero rules texts allow dues first store values have h = (h.0, failure_fits rules store failures.does_not_fit h.0 unfit_is)
within_fits (suc left) rules texts allow dues first store values have h =
    on_fits rules (stage texts allow first store values) dues (λ method now given. applied_within left texts allow (method ∷ dues) [] now given)
    (stage_fits rules texts allow first store values have h)
    (λ method now given g. within_fits left rules texts allow (method ∷ dues) [] now given have g)

pub applied_fits : (rules : Rules) (texts : Texts) (allow : AllowList) (method : ℕ) (first : List Ty) (store : Store) (values : List Value) → HaveLambdas texts rules → Fits rules store.objects
    → AllFit (length store.objects) values → AppliedFits rules (applied texts allow method first store values)
unfolding applied
applied_fits rules texts allow method first store values have f h = within_fits 3 rules texts allow (method ∷ []) first store values have (f, h)

direct_fits : (rules : Rules) (text : Owner) (what : Called) (p : Passed) → Along (AreFit rules) (Ends rules) p → AppliedFits rules (direct text what p)
direct_fits rules text what (All store values) h = h
direct_fits rules text what (Ended store told) h = h

missing_fits : (rules : Rules) (store : Store) (name : List ℕ) (values : List Value) → Fits rules store.objects → EffectFits rules (applying.not_found store name values)
missing_fits rules store name [] f = null_fits rules store f
missing_fits rules store name (receiver ∷ arguments) f =
    failure_fits rules store (failures.no_method store.objects receiver name (length arguments)) f (method_is store receiver name (length arguments))

member_fits : (rules : Rules) (texts : Texts) (allow own : AllowList) (store : Store) (values : List Value) (number : ℕ) → HaveLambdas texts rules → AreFit rules store values
    → Along (AreFit rules) (Ends rules) (applying.member_passed texts allow own store values number)
member_fits rules texts allow own store values number have h =
    from_along texts allow (AreFit rules) (Ends rules) (fit_kept rules texts allow have) (member_in own number).params 0 store values h

done_named : (rules : Rules) (texts : Texts) (allow own : AllowList) (text : Owner) (store : Store) (name : List ℕ) (values : List Value) (number : ℕ) (doing : Option Doing) → HaveLambdas texts rules
    → AreFit rules store values → AppliedFits rules (applying.member_done texts allow own text store name values number doing)
done_named rules texts allow own text store name values number None have h = (h.0, missing_fits rules store name values h.0)
done_named rules texts allow own text store name values number (Some does.Receiver) have h = (h.0, missing_fits rules store name values h.0)
done_named rules texts allow own text store name values number (Some does.Itself) have h =
    direct_fits rules text (called.Member number) (applying.member_passed texts allow own store values number) (member_fits rules texts allow own store values number have h)
done_named rules texts allow own text store name values number (Some (does.Prelude function)) have h =
    direct_fits rules text (called.Work number function) (applying.member_passed texts allow own store values number) (member_fits rules texts allow own store values number have h)

found_fits : (rules : Rules) (texts : Texts) (allow own : AllowList) (text : Owner) (store : Store) (name : List ℕ) (values : List Value) (found : Option Callee) → HaveLambdas texts rules → AreFit rules store values
    → AppliedFits rules (applying.called_on texts allow own text store name values found)
found_fits rules texts allow own text store name values None have h = (h.0, missing_fits rules store name values h.0)
found_fits rules texts allow own text store name values (Some (callee.Iface number)) have h = applied_fits rules texts allow number (member_at number).params store values have h.0 h.1
found_fits rules texts allow own text store name values (Some (callee.Member number)) have h =
    done_named rules texts allow own text store name values number (doing_of texts own (length values) number) have h

pub named_fits : (rules : Rules) (texts : Texts) (allow own : AllowList) (text : Owner) (store : Store) (name : List ℕ) (values : List Value) → HaveLambdas texts rules → Fits rules store.objects
    → AllFit (length store.objects) values → AppliedFits rules (named texts allow own text store name values)
unfolding named
named_fits rules texts allow own text store name values have f h = found_fits rules texts allow own text store name values (found_on own store.objects name values) have (f, h)

-- ---- what comes back

layer_fits : (rules : Rules) (store : Store) (value : Value) (of : Ty) (layer : Ty-F Ty) → Fits rules store.objects → ValueFits (length store.objects) value → EffectFits rules (due_layer store value of layer)
layer_fits rules store value of Ty-F.Void f h = (f, tt)
layer_fits rules store value of layer f h = cast_effect rules store of value f h

pub due_fits : (rules : Rules) (store : Store) (method : ℕ) (value : Value) → Fits rules store.objects → ValueFits (length store.objects) value → EffectFits rules (due_cast store method value)
unfolding due_cast
due_fits rules store method value f h = layer_fits rules store value (member_at method).result (out-Ty (member_at method).result) f h
