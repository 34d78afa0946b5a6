-- What operators, casts, members and `throw` come to fits the run.
use Rattle.std.proofs.Common.{◌≡◌, ℕ, zero, suc, Option, Some, None, List, [], ◌∷◌, refl, subst, sym, arith, slice_get}
use Rattle.object_values.specs.declared.object.Object.{Object}
use Rattle.object_values.specs.declared.object.Object.TheVariants as o
use Rattle.object_values.specs.declared.value.Value.{Value}
use Rattle.object_values.specs.declared.value.Value.TheVariants as v
use Rattle.object_heap.specs.Effects.{Effect, Gives, Throws, NoRoom}
use Rattle.object_heap.specs.Fits.{kinds, Rules, Fits, ObjectFits, ObjectsFit, ThrownFits, EffectFits}
use Rattle.object_heap.specs.Objects.{Kind}
use Rattle.value_walks.specs.declared.TheConstants.{VISITS}
use Rattle.value_walks.specs.declared.equality.Walked.{Walked}
use Rattle.value_walks.specs.declared.equality.Walked.TheVariants.{On, Deep, Large}
use Rattle.value_walks.specs.Equality.{equal_of}
use Rattle.arithmetic.specs.declared.operator.Num.{Num}
use Rattle.number_ops.specs.declared.outcome.Outcome.{Outcome as Told}
use Rattle.number_ops.specs.declared.outcome.Outcome.TheVariants as told
use Rattle.number_ops.specs.declared.outcome.Raised.TheVariants.{ClassCast, NullPointer}
use Rattle.number_ops.specs.Casts.{cast_at_run_time}
use Rattle.number_ops.specs.Operators.{number_in, concatenated}
use Rattle.number_ops.specs.Order.{found_of}
use Rattle.number_ops.specs.Outcomes.{effect, says}
use Rattle.number_ops.specs.Relations.{equal, equal_if, thrown, thrown_if}
use Rattle.number_ops.proofs.Keeping as numbers
use Rattle.def_access.specs.ContainerCallsLaws.{EffectLeaves}
use Rattle.def_access.proofs.There.{there_refl}
use Rattle.def_access.specs.MemberCallsLaws.{ActFits, ActLeaves}
use Rattle.def_access.specs.Members.{does}
use Rattle.def_access.proofs.MemberCallsKeeping as members
use Rattle.def_access.proofs.MemberCallsLeaving as leaving
use Rattle.run_state.specs.World.{World, acts_in}
use Rattle.run_fit.specs.Laws.{BeginningsFit, ToldFits, OutcomesFit, CastsFit, ConcatenationFits, EqualityFits, DoneFits, MembersFit, ThrowingFits}
use Rattle.run_fit.specs.Worlds.{WorldFits, count_in, OutcomeFits}
use Rattle.run_fit.proofs.Leaving.{there_trans, there_count}

pub beginnings_fit : BeginningsFit
beginnings_fit rules w f = record { fits = f; there = there_refl w.store.objects }

world_on : (rules : Rules) (before : List Object) (w after : World) → WorldFits rules before w → Fits rules after.store.objects → EffectLeaves w.store.objects (Gives v.Null after.store)
    → WorldFits rules before after
world_on rules before w after h f l = record { fits = f; there = there_trans before w.store.objects after.store.objects h.there l }

-- an effect that keeps the fit and leaves the objects there
pub effect_fits : (rules : Rules) (before : List Object) (w : World) (e : Effect) → WorldFits rules before w → EffectFits rules e → EffectLeaves w.store.objects e
    → OutcomeFits rules before (count_in w) (acts_in w e)
unfolding acts_in
effect_fits rules before w (Gives value store) h f l =
    (record { fits = f.0; there = there_trans before w.store.objects store.objects h.there l }, there_count w.store.objects store.objects l, f.1)
effect_fits rules before w (Throws id store) h f l =
    (record { fits = f.0; there = there_trans before w.store.objects store.objects h.there l }, there_count w.store.objects store.objects l, f.1)
effect_fits rules before w NoRoom h f l = tt

told_fits : (count : ℕ) (o : Told) → ToldFits count o → numbers.OutcomeFits count o
told_fits count (told.Gives value) h = h
told_fits count (told.Makes text) h = tt
told_fits count (told.Throws raised message) h = tt
told_fits count told.NoMemory h = tt

-- what an operator or a cast says is the outcome
settled : (rules : Rules) (before : List Object) (w : World) (o : Told) → WorldFits rules before w → numbers.OutcomeFits (count_in w) o
    → OutcomeFits rules before (count_in w) (acts_in w (effect w.store o))
settled rules before w o h f = effect_fits rules before w (effect w.store o) h (numbers.settled rules w.store o h.fits f) (leaving.number_leaves w.store o)

pub outcomes_fit : OutcomesFit
outcomes_fit rules before w o h f = settled rules before w o h (told_fits (count_in w) o f)

pub casts_fit : CastsFit
casts_fit rules before w value to explicit h f =
    settled rules before w (cast_at_run_time w.store.objects value to explicit) h (numbers.cast_fits (count_in w) w.store.objects value to explicit f)

pub concatenation_fits : ConcatenationFits
concatenation_fits rules before w a b h = settled rules before w (concatenated w.store.objects a b) h (numbers.concatenated_fits (count_in w) w.store.objects a b)

-- ---- `==`

found_fits : (count : ℕ) (walk : Walked) → ToldFits count (found_of walk)
unfolding says
found_fits count (On same visits) = tt
found_fits count Deep = tt
found_fits count Large = tt

equal_if_fits : (count : ℕ) (objects : List Object) (a b : Value) (x y : Option Num) → ToldFits count (equal_if objects a b x y)
equal_if_fits count objects a b (Some x) (Some y) = tt
equal_if_fits count objects a b (Some x) None = found_fits count (equal_of objects a b VISITS)
equal_if_fits count objects a b None y = found_fits count (equal_of objects a b VISITS)

pub equal_fits : (count : ℕ) (objects : List Object) (a b : Value) → ToldFits count (equal objects a b)
unfolding equal
equal_fits count objects a b = equal_if_fits count objects a b (number_in a) (number_in b)

pub equality_fits : EqualityFits
equality_fits rules before w a b h = outcomes_fit rules before w (equal w.store.objects a b) h (equal_fits (count_in w) w.store.objects a b)

-- ---- members

done_fits : (rules : Rules) (before : List Object) (w : World) (e : Option Effect) → WorldFits rules before w → ActFits rules e → ActLeaves w.store.objects e → DoneFits rules before w e
done_fits rules before w None h f l = tt
done_fits rules before w (Some e) h f l = effect_fits rules before w e h f l

pub members_fit : MembersFit
members_fit rules before w host number arguments h f =
    done_fits rules before w (does host number arguments w.store) h (members.act_fits host rules w.store number arguments h.fits f)
    (leaving.act_leaves host number arguments w.store)

-- ---- `throw`

exception_there : (rules : Rules) (ks : List Kind) (objects : List Object) → ObjectsFit rules ks objects → (id class : ℕ) (message : Option (List ℕ))
    → slice_get objects id ≡ Some (o.Exc class message) → ThrownFits objects id
exception_there rules ks [] f id class message e = absurd (cc)
exception_there rules ks (x ∷ objects) f zero class message e =
    let same : o.Exc class message ≡ x = cc in
    subst (λ y. ThrownFits (y ∷ objects) zero) same (omega arith, subst (λ y. ObjectFits rules ks y) (sym same) f.0)
exception_there rules ks (x ∷ objects) f (suc id) class message e =
    let h = exception_there rules ks objects f.1 id class message e in
    (omega (arith, h.0), h.1)

no_exception_fits : (rules : Rules) (before : List Object) (w : World) → WorldFits rules before w → OutcomeFits rules before (count_in w) (acts_in w (effect w.store (told.Throws ClassCast None)))
no_exception_fits rules before w h = settled rules before w (told.Throws ClassCast None) h tt

thrown_if_fits : (rules : Rules) (before : List Object) (w : World) (id : ℕ) (object : Option Object) → slice_get w.store.objects id ≡ object → WorldFits rules before w
    → OutcomeFits rules before (count_in w) (acts_in w (thrown_if w.store id object))
thrown_if_fits rules before w id None e h = no_exception_fits rules before w h
thrown_if_fits rules before w id (Some (o.List class items guard changes)) e h = no_exception_fits rules before w h
thrown_if_fits rules before w id (Some (o.Map class pairs guard changes)) e h = no_exception_fits rules before w h
thrown_if_fits rules before w id (Some (o.Set class items guard changes)) e h = no_exception_fits rules before w h
thrown_if_fits rules before w id (Some (o.Array elem items)) e h = no_exception_fits rules before w h
thrown_if_fits rules before w id (Some (o.View map part)) e h = no_exception_fits rules before w h
thrown_if_fits rules before w id (Some (o.Entry map key)) e h = no_exception_fits rules before w h
thrown_if_fits rules before w id (Some (o.Iter over cursor seen last)) e h = no_exception_fits rules before w h
thrown_if_fits rules before w id (Some (o.Builder units)) e h = no_exception_fits rules before w h
thrown_if_fits rules before w id (Some (o.Fun iface target captures)) e h = no_exception_fits rules before w h
thrown_if_fits rules before w id (Some (o.Exc class message)) e h =
    effect_fits rules before w (Throws id w.store) h (h.fits, exception_there rules (kinds w.store.objects) w.store.objects h.fits.each id class message e) (there_refl w.store.objects)

pub throwing_fits : ThrowingFits
unfolding thrown
throwing_fits rules before w v.Null h = settled rules before w (told.Throws NullPointer None) h tt
throwing_fits rules before w (v.Bool a) h = no_exception_fits rules before w h
throwing_fits rules before w (v.Byte a) h = no_exception_fits rules before w h
throwing_fits rules before w (v.Short a) h = no_exception_fits rules before w h
throwing_fits rules before w (v.Char a) h = no_exception_fits rules before w h
throwing_fits rules before w (v.Int a) h = no_exception_fits rules before w h
throwing_fits rules before w (v.Long a) h = no_exception_fits rules before w h
throwing_fits rules before w (v.Str a) h = no_exception_fits rules before w h
throwing_fits rules before w (v.Ref id) h = thrown_if_fits rules before w id (slice_get w.store.objects id) refl h
