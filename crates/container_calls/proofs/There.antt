-- Objects that are added, and changes that keep the kind or take an interface, leave each object there.
use Rattle.std.proofs.Common.{◌≡◌, ℕ, zero, suc, ◌+◌, ◌-◌, nat_le, Bool, true, false, Option, Some, None, List, [], ◌∷◌, ◌++◌, length, refl, sym, ap, ◌∙◌, subst, slice_get, if◌then◌else◌}
use Rattle.std.proofs.lemmas.List.{append_assoc}
use Rattle.object_values.specs.declared.object.Object.{Object}
use Rattle.object_values.specs.declared.object.Object.TheVariants as o
use Rattle.object_values.specs.declared.value.Value.TheVariants as v
use Rattle.object_heap.specs.Effects.{Effect, after_paying, throws}
use Rattle.object_heap.specs.Effects as e
use Rattle.object_heap.specs.Fits.{kinds}
use Rattle.object_heap.specs.Objects.{Kind, AFunction, kind_of, may_become, renewed_by}
use Rattle.object_heap.specs.Store.{Store, changed_one, charge, paid, with_change}
use Rattle.object_heap.proofs.Fronting.{whether}
use Rattle.object_heap.proofs.Growth.{cons_changed}
use Rattle.object_heap.proofs.KindLemmas.{becomes_refl, carried, Follows}
use Rattle.container_calls.specs.Laws.{StayThere, StillThere, EffectLeaves, RenewalsLeaveObjects}

-- ---- kinds

-- what may become a function value without an interface may take one
takes_any : (kind : Kind) (iface : Option ℕ) → may_become kind (AFunction None) ≡ true → may_become kind (AFunction iface) ≡ true
takes_any (AFunction None) iface h = refl
takes_any (AFunction (Some own)) iface h = cc
takes_any kind iface h = cc

becomes_then : (kind middle after : Kind) → may_become kind middle ≡ true → may_become middle after ≡ true → may_become kind after ≡ true
becomes_then kind middle after h g = carried (λ k. may_become kind k ≡ true) (takes_any kind) middle after g h

stay_refl : (ks : List Kind) → StayThere ks ks
stay_refl [] = tt
stay_refl (kind ∷ ks) = (becomes_refl kind, stay_refl ks)

stay_more : (ks more : List Kind) → StayThere ks (ks ++ more)
stay_more [] more = tt
stay_more (kind ∷ ks) more = (becomes_refl kind, stay_more ks more)

pub stay_trans : (ks middle after : List Kind) → StayThere ks middle → StayThere middle after → StayThere ks after
stay_trans [] middle after p q = tt
stay_trans (kind ∷ ks) [] after p q = absurd p
stay_trans (kind ∷ ks) (now ∷ middle) [] p q = absurd q
stay_trans (kind ∷ ks) (now ∷ middle) (last ∷ after) p q = (becomes_then kind now last p.0 q.0, stay_trans ks middle after p.1 q.1)

-- what holds of kinds that follow others holds of those that stay there
pub follows : (ks after : List Kind) → StayThere ks after → Follows ks after
follows [] after p = tt
follows (kind ∷ ks) [] p = absurd p
follows (kind ∷ ks) (now ∷ after) p = (p.0, follows ks after p.1)

-- ---- objects

pub there_refl : (objects : List Object) → StillThere objects objects
there_refl objects = stay_refl (kinds objects)

pub kinds-added : (objects more : List Object) → kinds (objects ++ more) ≡ kinds objects ++ kinds more
kinds-added [] more = refl
kinds-added (x ∷ objects) more = ap (λ ks. kind_of x ∷ ks) (kinds-added objects more)

-- where the kinds are those that were there and more
there_with : (objects after : List Object) (more : List Kind) → kinds after ≡ kinds objects ++ more → StillThere objects after
there_with objects after more e = subst (λ (ks : List Kind). StayThere (kinds objects) ks) (sym e) (stay_more (kinds objects) more)

pub there_added : (objects more : List Object) → StillThere objects (objects ++ more)
there_added objects more = there_with objects (objects ++ more) (kinds more) (kinds-added objects more)

pub there_behind : (objects before more : List Object) → StillThere objects (objects ++ before ++ more)
there_behind objects before more =
    there_with objects (objects ++ before ++ more) (kinds before ++ kinds more)
    (kinds-added (objects ++ before) more ∙ ap (λ ks. ks ++ kinds more) (kinds-added objects before) ∙ append_assoc (kinds objects) (kinds before) (kinds more))

-- one step after another, of which one keeps all kinds
pub there_both : (before middle after : List Object) → kinds middle ≡ kinds before → StillThere middle after → StillThere before after
there_both before middle after e there = subst (λ (ks : List Kind). StayThere ks (kinds after)) e there

pub there_then : (before middle after : List Object) → StillThere before middle → kinds after ≡ kinds middle → StillThere before after
there_then before middle after there e = subst (λ (ks : List Kind). StayThere (kinds before) ks) (sym e) there

-- a change that keeps the kind
kinds-one : (objects : List Object) (id : ℕ) (change : Object → Object) → ((object : Object) → kind_of (change object) ≡ kind_of object)
    → kinds (changed_one objects id change) ≡ kinds objects
kinds-one [] id change h = refl
kinds-one (x ∷ objects) zero change h = ap (λ k. k ∷ kinds objects) (h x)
kinds-one (x ∷ objects) (suc id) change h =
    ap kinds (cons_changed x objects id change (slice_get objects id)) ∙ ap (λ ks. kind_of x ∷ ks) (kinds-one objects id change h)

pub kinds-changed : (objects : List Object) (id : ℕ) (change : Object → Object) → ((object : Object) → kind_of (change object) ≡ kind_of object)
    → kinds (with_change objects id change) ≡ kinds objects
kinds-changed objects id change h = whether objects id change (λ (after : List Object). kinds after ≡ kinds objects) refl (kinds-one objects id change h)

pub there_changed : (objects : List Object) (id : ℕ) (change : Object → Object) → ((object : Object) → kind_of (change object) ≡ kind_of object)
    → StillThere objects (with_change objects id change)
there_changed objects id change h = there_then objects objects (with_change objects id change) (there_refl objects) (kinds-changed objects id change h)

-- a change that makes of an object what it may become
one_becomes : (objects : List Object) (id : ℕ) (change : Object → Object) → ((object : Object) → may_become (kind_of object) (kind_of (change object)) ≡ true)
    → StillThere objects (changed_one objects id change)
one_becomes [] id change h = tt
one_becomes (x ∷ objects) zero change h = (h x, stay_refl (kinds objects))
one_becomes (x ∷ objects) (suc id) change h =
    rw (cons_changed x objects id change (slice_get objects id)) (becomes_refl (kind_of x), one_becomes objects id change h)

pub there_becomes : (objects : List Object) (id : ℕ) (change : Object → Object) → ((object : Object) → may_become (kind_of object) (kind_of (change object)) ≡ true)
    → StillThere objects (with_change objects id change)
there_becomes objects id change h = whether objects id change (StillThere objects) (there_refl objects) (one_becomes objects id change h)

renewed_becomes : (after object : Object) (test : Bool) → may_become (kind_of object) (kind_of after) ≡ test → may_become (kind_of object) (kind_of (if test then after else object)) ≡ true
renewed_becomes after object true h = h
renewed_becomes after object false h = becomes_refl (kind_of object)

pub renewal_leaves : RenewalsLeaveObjects
renewal_leaves objects id object = there_becomes objects id (renewed_by object) (λ before. renewed_becomes object before (may_become (kind_of before) (kind_of object)) refl)

-- what is paid leaves what it does for any room
pub paid_leaves : (store : Store) (objects : List Object) (made : ℕ) (next : Store → Effect)
    → ((room : ℕ) → EffectLeaves store.objects (next (record { objects = objects; room = room }))) → EffectLeaves store.objects (after_paying (paid store objects made) next)
unfolding paid
paid_leaves store objects made next h =
    elim (nat_le (charge store objects made) store.room) as (λ b. EffectLeaves store.objects (after_paying (if b then Some (record { objects = objects; room = store.room - charge store objects made }) else None) next))
    [ true ↦ h (store.room - charge store objects made) | false ↦ tt ]

pub text_leaves : (store : Store) (units : List ℕ) → EffectLeaves store.objects (e.gives_text store units)
text_leaves store units = paid_leaves store store.objects (length units + 1) (λ paid. e.Gives (v.Str units) paid) (λ room. there_refl store.objects)

pub throw_leaves : (store : Store) (class : ℕ) (message : Option (List ℕ)) → EffectLeaves store.objects (throws store class message)
throw_leaves store class message =
    paid_leaves store (store.objects ++ o.Exc class message ∷ []) 0 (λ paid. e.Throws (length store.objects) paid) (λ room. there_added store.objects (o.Exc class message ∷ []))
