-- A member of texts takes no object away and changes the kind of none.
use Rattle.std.proofs.Common.{◌≡◌, ℕ, List, [], ◌∷◌, ◌++◌, length, refl}
use Rattle.pl_types.specs.declared.primitive.Primitive.TheVariants as prim
use Rattle.pl_types.specs.declared.ty.Ty.TheVariants as ty
use Rattle.pl_types.specs.declared.classes.TheConstants.{STRING}
use Rattle.object_values.specs.declared.object.Object.{Object}
use Rattle.object_values.specs.declared.object.Object.TheVariants as o
use Rattle.object_values.specs.declared.value.Value.TheVariants as v
use Rattle.object_heap.specs.Effects as e
use Rattle.object_heap.specs.Objects.{kind_of, with_units, renewed_by}
use Rattle.object_heap.specs.Store.{Store, with_change}
use Rattle.api_iter.specs.api_text_declared.outcome.Outcome.{Outcome as TextOutcome}
use Rattle.api_iter.specs.api_text_declared.outcome.Outcome.TheVariants as text
use Rattle.api_iter.specs.Outcomes as text_outcomes
use Rattle.container_calls.specs.Laws.{EffectLeaves}
use Rattle.container_calls.proofs.There.{paid_leaves, text_leaves, there_added, there_changed, there_refl, throw_leaves}

extended_kind : (more : List ℕ) (object : Object) → kind_of (with_units more object) ≡ kind_of object
extended_kind more (o.Builder units) = refl
extended_kind more object = refl

renewed_kind : (units : List ℕ) (object : Object) → kind_of (renewed_by (o.Builder units) object) ≡ kind_of object
renewed_kind units (o.Builder before) = refl
renewed_kind units object = refl

new_leaves : (store : Store) (object : Object) (made : ℕ) → EffectLeaves store.objects (text_outcomes.gives_new store object made)
new_leaves store object made =
    paid_leaves store (store.objects ++ object ∷ []) made (λ paid. e.Gives (v.Ref (length store.objects)) paid) (λ room. there_added store.objects (object ∷ []))

pub text_member_leaves : (store : Store) (told : TextOutcome) → EffectLeaves store.objects (text_outcomes.effect store told)
text_member_leaves store (text.Gives value) = there_refl store.objects
text_member_leaves store (text.Makes units) = text_leaves store units
text_member_leaves store (text.NewBuilder units) = new_leaves store (o.Builder units) 0
text_member_leaves store (text.NewException class message) = new_leaves store (o.Exc (text_outcomes.number_of class) message) 0
text_member_leaves store (text.Chars items) = new_leaves store (o.Array (ty.Prim prim.Char) items) 0
text_member_leaves store (text.Texts items made) = new_leaves store (o.Array (ty.Class STRING) items) made
text_member_leaves store (text.Extends builder more) =
    paid_leaves store (with_change store.objects builder (with_units more)) 0 (λ paid. e.Gives (v.Ref builder) paid)
    (λ room. there_changed store.objects builder (with_units more) (extended_kind more))
text_member_leaves store (text.Becomes builder units value) =
    paid_leaves store (with_change store.objects builder (renewed_by (o.Builder units))) 0 (λ paid. e.Gives value paid)
    (λ room. there_changed store.objects builder (renewed_by (o.Builder units)) (renewed_kind units))
text_member_leaves store (text.Throws class message) = throw_leaves store (text_outcomes.number_of class) message
text_member_leaves store text.NoRoom = tt
text_member_leaves store text.NoMemory = there_refl store.objects
