-- What each member comes to fits the store.
use Rattle.std.proofs.Common.{◌≡◌, ℕ, zero, suc, Option, Some, None, List, [], ◌∷◌, length, refl, slice_get, subst}
use Rattle.pl_types.specs.declared.classes.TheConstants.{ILLEGAL_STATE_EXCEPTION, NULL_POINTER_EXCEPTION}
use Rattle.pl_types.specs.Classes.{class_is_below, lineage_of, parents_of, class_row, class_table}
use Rattle.object_values.specs.declared.value.Value.{Value}
use Rattle.object_heap.specs.Effects.{Effect}
use Rattle.object_heap.specs.Fits.{Rules, Fits, AllFit, EffectFits, ValueFits}
use Rattle.object_heap.specs.Parts.{items_of}
use Rattle.object_heap.specs.Store.{Store}
use Rattle.object_heap.proofs.Fitting.{items_fit}
use Rattle.object_heap.proofs.Keeping.{throws_fits}
use Rattle.member_arguments.specs.Arguments.{object_at}
use Rattle.container_parts.specs.Iterators as iterators
use Rattle.container_parts.specs.declared.cursors.Cursor.{Cursor}
use Rattle.container_parts.proofs.Keeping.{iterate_fits, next_fits, remove_fits}
use Rattle.api_text.specs.Members as texts
use Rattle.api_text.proofs.Keeping.{settled}
use Rattle.api_text.proofs.KeepingMembers as kept
use Rattle.api_iter.specs.declared.joining.TheConstants.{STRING_JOIN}
use Rattle.api_iter.specs.declared.member.Member.{Member}
use Rattle.api_iter.specs.declared.member.Member.TheVariants as m
use Rattle.api_iter.specs.Iterating as spec
use Rattle.api_iter.specs.Members.{does, does_found}

null_fits : (rules : Rules) (store : Store) → Fits rules store.objects → EffectFits rules (spec.null_error store)
unfolding class_is_below lineage_of parents_of class_row class_table
null_fits rules store f = throws_fits rules store NULL_POINTER_EXCEPTION None f refl

no_value_fits : (rules : Rules) (store : Store) → Fits rules store.objects → EffectFits rules (spec.no_value store)
unfolding class_is_below lineage_of parents_of class_row class_table spec.no_value
no_value_fits rules store f = throws_fits rules store ILLEGAL_STATE_EXCEPTION _ f refl

with_receiver_fits : (rules : Rules) (store : Store) (act : ℕ → Effect) (found : Option ℕ) → Fits rules store.objects → ((id : ℕ) → EffectFits rules (act id)) → EffectFits rules (spec.with_receiver store act found)
with_receiver_fits rules store act None f h = null_fits rules store f
with_receiver_fits rules store act (Some id) f h = h id

there_fits : (rules : Rules) (store : Store) (id : ℕ) (found : Option Cursor) → Fits rules store.objects → EffectFits rules (spec.next_is_there store id found)
there_fits rules store id None f = null_fits rules store f
there_fits rules store id (Some it) f = (f, tt)

first_fits : (rules : Rules) (store : Store) (values : List Value) → Fits rules store.objects → AllFit (length store.objects) values → EffectFits rules (spec.first_of store (slice_get values 0))
first_fits rules store [] f h = no_value_fits rules store f
first_fits rules store (value ∷ values) f h = (f, h.0)

value_there : (n : ℕ) (values : List Value) (at : ℕ) (value : Value) → AllFit n values → slice_get values at ≡ Some value → ValueFits n value
value_there n [] at value f e = cc
value_there n (x ∷ values) zero value f e = let same : x ≡ value = cc in subst (ValueFits n) same f.0
value_there n (x ∷ values) (suc at) value f e = value_there n values at value f.1 e

joined_fits : (rules : Rules) (store : Store) (receiver between : Option Value) → Fits rules store.objects → ((value : Value) → receiver ≡ Some value → ValueFits (length store.objects) value)
    → ((value : Value) → between ≡ Some value → ValueFits (length store.objects) value) → EffectFits rules (spec.joined_by store receiver between)
joined_fits rules store None between f h k = null_fits rules store f
joined_fits rules store (Some receiver) None f h k = null_fits rules store f
joined_fits rules store (Some receiver) (Some between) f h k =
    settled rules store (texts.does_numbered store.objects STRING_JOIN (between ∷ receiver ∷ [])) f
    (kept.found_fits rules store.objects (texts.numbered STRING_JOIN) (between ∷ receiver ∷ []) (k between refl, (h receiver refl, tt)))

join_fits : (rules : Rules) (store : Store) (arguments : List Value) → Fits rules store.objects → AllFit (length store.objects) arguments → EffectFits rules (spec.join store arguments)
join_fits rules store arguments f h =
    joined_fits rules store (slice_get arguments 0) (slice_get arguments 1) f (λ value e. value_there (length store.objects) arguments 0 value h e) (λ value e. value_there (length store.objects) arguments 1 value h e)

does_fits : (rules : Rules) (store : Store) (member : Member) (arguments : List Value) → Fits rules store.objects → AllFit (length store.objects) arguments → EffectFits rules (does store member arguments)
does_fits rules store m.Iterator arguments f h = with_receiver_fits rules store (iterators.iterate store) (object_at arguments 0) f (λ id. iterate_fits rules store id f)
does_fits rules store m.Join arguments f h = join_fits rules store arguments f h
does_fits rules store m.HasNext arguments f h =
    with_receiver_fits rules store (spec.has_next_of store) (object_at arguments 0) f (λ id. there_fits rules store id (iterators.iterator_of store.objects id) f)
does_fits rules store m.Next arguments f h = with_receiver_fits rules store (iterators.next store) (object_at arguments 0) f (λ id. next_fits rules store id f)
does_fits rules store m.Remove arguments f h = with_receiver_fits rules store (iterators.remove store) (object_at arguments 0) f (λ id. remove_fits rules store id f)
does_fits rules store m.GetValue arguments f h =
    with_receiver_fits rules store (spec.first_value store) (object_at arguments 0) f (λ id. first_fits rules store (items_of store.objects id) f (items_fit rules store.objects id f))

pub found_fits : (rules : Rules) (store : Store) (member : Option Member) (arguments : List Value) → Fits rules store.objects → AllFit (length store.objects) arguments
    → EffectFits rules (does_found store member arguments)
found_fits rules store None arguments f h = (f, tt)
found_fits rules store (Some member) arguments f h = does_fits rules store member arguments f h
