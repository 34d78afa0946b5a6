-- A function value takes an interface, in its place, and nothing is paid for it.
use Rattle.std.proofs.Common.{◌≡◌, ℕ, ◌-◌, Bool, true, false, Option, Some, None, List, refl, sym, ap, ◌∙◌, subst, slice_get, arith, if◌then◌else◌}
use Rattle.std.proofs.lemmas.Bool.{false≢true}
use Rattle.allowlist.specs.Allow.{AllowList}
use Rattle.object_values.specs.declared.object.Object.{Object}
use Rattle.object_values.specs.declared.object.Object.TheVariants as o
use Rattle.object_values.specs.declared.value.Value.TheVariants as v
use Rattle.object_heap.specs.Effects.{Gives}
use Rattle.object_heap.specs.Objects.{kind_of, may_become, renewal_growth, renewed_by, weight_of}
use Rattle.object_heap.specs.Parts.{asked, frozen_of}
use Rattle.object_heap.specs.Paying.{PaysSurely}
use Rattle.object_heap.specs.Store.{Store, changed_at, paid, weight, with_change}
use Rattle.object_heap.proofs.Fronting.{whether}
use Rattle.object_heap.proofs.Growth.{renewal_grows}
use Rattle.object_heap.proofs.KindLemmas.{becomes_refl}
use Rattle.object_heap.proofs.Paying.{paid_if}
use Rattle.function_calls.specs.declared.texts.Texts.{Texts}
use Rattle.function_calls.specs.Coming.{IsRenewal, Taken, none_taken, one_taken}
use Rattle.function_calls.specs.Passing.{taken, with_iface}

-- ---- stores one after the other

pub same_store : (texts : Texts) (allow : AllowList) (old now : Store) → now ≡ old → Taken texts allow old now
same_store texts allow old now e = subst (λ (s : Store). Taken texts allow old s) (sym e) none_taken

pub taken_then : (texts : Texts) (allow : AllowList) (old middle new : Store) → Taken texts allow old middle → Taken texts allow middle new → Taken texts allow old new
taken_then texts allow old middle new t none_taken = t
taken_then texts allow old middle new t (one_taken {now} id iface before loose fits) = one_taken id iface (taken_then texts allow old middle now t before) loose fits

-- ---- the object

-- what takes an interface may become so
pub iface_becomes : (iface : ℕ) (object : Object) → may_become (kind_of object) (kind_of (with_iface iface object)) ≡ true
iface_becomes iface (o.Fun None target captures) = refl
iface_becomes iface (o.Fun (Some held) target captures) = becomes_refl (kind_of (o.Fun (Some held) target captures))
iface_becomes iface object = becomes_refl (kind_of object)

no_growth : (iface : ℕ) (found : Option Object) (after : Object) → IsRenewal iface found after → asked (renewal_growth after) 0 found ≡ 0
unfolding weight_of
no_growth iface None after h = absurd h
no_growth iface (Some (o.Fun None target captures)) after h = rw h (omega arith)
no_growth iface (Some object) after h = absurd h

renewed_object : (iface : ℕ) (objects : List Object) (id : ℕ) (found : Option Object) (after : Object) → IsRenewal iface found after
    → changed_at objects id (renewed_by after) found ≡ changed_at objects id (with_iface iface) found
renewed_object iface objects id None after h = absurd h
renewed_object iface objects id (Some (o.Fun None target captures)) after h = rw h refl
renewed_object iface objects id (Some object) after h = absurd h

-- The renewal by such an object is the store in which the interface is taken, and it costs nothing.
pub renewal_paid : (store : Store) (id iface : ℕ) (after : Object) → IsRenewal iface (slice_get store.objects id) after
    → paid store (with_change store.objects id (renewed_by after)) 0 ≡ Some (taken store id iface)
renewal_paid store id iface after h =
    let none : weight (with_change store.objects id (renewed_by after)) - weight store.objects ≡ 0 =
    whether store.objects id (renewed_by after) (λ (after : List Object). weight after - weight store.objects ≡ 0) (omega arith)
    (renewal_grows store.objects id after ∙ no_growth iface (slice_get store.objects id) after h) in
    let same : with_change store.objects id (renewed_by after) ≡ with_change store.objects id (with_iface iface) =
    ap (λ (rest : List Object). if frozen_of store.objects id then store.objects else rest) (renewed_object iface store.objects id (slice_get store.objects id) after h) in
    let whole : store.room - 0 ≡ store.room = omega arith in
    paid_if store (with_change store.objects id (renewed_by after)) 0 none (omega arith)
    ∙ ap (λ (objects : List Object). Some (record { objects = objects; room = store.room - 0 })) same
    ∙ ap (λ (room : ℕ). Some (record { objects = with_change store.objects id (with_iface iface); room = room })) whole

-- what the renewal of the object answers
pub renewed_then : (old new : Store) (id iface : ℕ) (after : Object) (went : Bool) → IsRenewal iface (slice_get old.objects id) after → PaysSurely old new (with_change old.objects id (renewed_by after)) 0 went
    → went ≡ true → Gives (v.Ref id) (taken old id iface) ≡ Gives (v.Ref id) new
renewed_then old new id iface after false h p e = absurd (false≢true e)
renewed_then old new id iface after true h p e =
    let both : Some (taken old id iface) ≡ Some new = sym (renewal_paid old id iface after h) ∙ p in
    let same : taken old id iface ≡ new = cc in
    ap (Gives (v.Ref id)) same

pub renewed_else : (old new : Store) (id iface : ℕ) (after : Object) (went : Bool) → IsRenewal iface (slice_get old.objects id) after → PaysSurely old new (with_change old.objects id (renewed_by after)) 0 went
    → went ≡ false → ⊥
renewed_else old new id iface after true h p e = false≢true (sym e)
renewed_else old new id iface after false h p e =
    let both : Some (taken old id iface) ≡ None = sym (renewal_paid old id iface after h) ∙ p.0 in
    cc
