-- Places at which elements are written, steps of loops, and elements that are given.
use Rattle.std.proofs.Common.{◌≡◌, ℕ, ℤ, suc, ◌+◌, ◌-◌, ◌<◌, true, false, nat_le, Option, Some, None, List, [], ◌∷◌, ◌++◌, length, refl, ap, sym, ◌∙◌, subst, arith, append_assoc, slice_get, length-append, Err, if◌then◌else◌}
use Rattle.std.proofs.Math.ListN.{length-set}
use Rattle.std.proofs.lemmas.Bool.Decides.{nat_tests}
use Rattle.pl_types.specs.declared.classes.TheConstants.{CONCURRENT_MODIFICATION_EXCEPTION}
use Rattle.pl_types.specs.declared.ty.Ty.{Ty}
use Rattle.object_values.specs.declared.object.Object.{Object}
use Rattle.object_values.specs.declared.object.Object.TheVariants as o
use Rattle.object_values.specs.declared.object.Part.TheVariants as part
use Rattle.object_values.specs.declared.value.Value.{Value}
use Rattle.object_values.specs.declared.value.Value.TheVariants as v
use Rattle.object_values.specs.Pairs.{key_at, pair_value_at}
use Rattle.object_heap.specs.declared.answer.Answer.{Answer}
use Rattle.object_heap.specs.declared.answer.Answer.TheVariants as a
use Rattle.object_heap.specs.Effects.{Effect}
use Rattle.object_heap.specs.Effects as e
use Rattle.object_heap.specs.Objects.{renewed_by}
use Rattle.object_heap.specs.Parts.{frozen_of, items_of, pairs_of}
use Rattle.object_heap.specs.Store.{Store, changed_at, changed_one, charge, paid, with_change}
use Rattle.container_parts.specs.Containers.{element_at, entry_under, there}
use Rattle.container_parts.specs.Iterators as iterators
use Rattle.container_parts.specs.declared.containers.Container.{Container}
use Rattle.container_parts.specs.declared.containers.Container.TheVariants as c
use Rattle.container_parts.specs.declared.cursors.Cursor.{Cursor}
use Rattle.container_parts.specs.declared.elements.Element.TheVariants as element
use Rattle.container_values.specs.Elements.{references, values_of}
use Rattle.container_values.proofs.Places.{key_there, value_there}
use Rattle.container_outcomes.specs.declared.outcome.Outcome.{Outcome}
use Rattle.container_outcomes.specs.Outcomes.{Tells, array_index_error, says}
use Rattle.container_calls.specs.Indexing as indexing
use Rattle.container_ops.specs.Elements.{IsThrown}
use Rattle.container_ops.specs.Loops.{CopiedAt, Copies}
use Rattle.container_ops.specs.Making.{arrays_made, rows_of}
use Rattle.container_ops.specs.Sizes.{cost_of}
use Rattle.container_ops.specs.Types.{MakesNothing, Spares}
use Rattle.container_ops.proofs.Sized.{no_room}
use Rattle.container_ops.proofs.Sparing.{throws_spare}

-- ---- places

is_thrown : (at : ℤ) (count : ℕ) → IsThrown (array_index_error at count)
unfolding says
is_thrown at count = tt

-- an index that is refused
pub refused : (count : ℕ) (at index : ℤ) (place : Option ℕ) (next : ℕ → Outcome) (said : Outcome) → indexing.Places at place (Err index) → Tells (array_index_error index count) said
    → IsThrown (indexing.at_place array_index_error count at place next) × Tells (indexing.at_place array_index_error count at place next) said
refused count at index None next said h t = (is_thrown at count, subst (λ (i : ℤ). Tells (array_index_error i count) said) (sym h) t)
refused count at index (Some place) next said h t = absurd h

-- ---- rows

rows_step : (elem : Ty) (count row size number : ℕ) (all : List Object) → row < count
    → all ++ rows_of elem (count - row) size number ≡ (all ++ o.Array elem (references number size) ∷ []) ++ rows_of elem (count - (row + 1)) size (number + size)
rows_step elem count row size number all h =
    let left : count - row ≡ suc (count - (row + 1)) = omega arith in
    ap (λ (n : ℕ). all ++ rows_of elem n size number) left ∙ sym (append_assoc all (o.Array elem (references number size) ∷ []) (rows_of elem (count - (row + 1)) size (number + size)))

pub rows_pushed : (elem : Ty) (count row size number next : ℕ) (all new whole : List Object) → row < count → new ≡ all ++ o.Array elem (references number size) ∷ [] → next ≡ number + size
    → all ++ rows_of elem (count - row) size number ≡ whole → new ++ rows_of elem (count - (row + 1)) size next ≡ whole
rows_pushed elem count row size number next all new whole h e n i =
    ap (λ (l : List Object). l ++ rows_of elem (count - (row + 1)) size next) e
    ∙ (ap (λ (m : ℕ). (all ++ o.Array elem (references number size) ∷ []) ++ rows_of elem (count - (row + 1)) size m) n ∙ (sym (rows_step elem count row size number all h) ∙ i))

-- where the sizes cost more than the room
pub no_room_made : (store : Store) (of : Ty) (sizes : List ℕ) (room : ℕ) → room ≡ store.room → nat_le (cost_of 1 sizes) room ≡ false → arrays_made store of sizes ≡ e.NoRoom
no_room_made store of sizes room same h =
    let above : store.room < cost_of 1 sizes = grind (arith, nat_tests) in
    ap (λ (left : Option Store). e.after_paying left (λ paid. e.Gives (v.Ref (length store.objects)) paid)) (no_room store of sizes above)

-- ---- elements

pub element_there : (objects : List Object) (over : Container) (at : ℕ) (value : Value) → slice_get (values_of objects over) at ≡ Some value → element_at objects over at ≡ Some (element.There value)
element_there objects (c.Items id) at value h = ap there h
element_there objects (c.Array id) at value h = ap there h
element_there objects (c.Keys id) at value h = ap there (key_there (pairs_of objects id) at ∙ h)
element_there objects (c.Shown map part.Keys) at value h = ap there (key_there (pairs_of objects map) at ∙ h)
element_there objects (c.Shown map part.Values) at value h = ap there (value_there (pairs_of objects map) at ∙ h)
element_there objects (c.Shown map part.Entries) at value h = cc

-- what was copied is there
pub copied_there : (found : Option Value) (copy : Option Value) → CopiedAt found (Some copy) → (value : Value) × ((found ≡ Some value) × Copies value copy)
copied_there None copy h = absurd h
copied_there (Some value) copy h = (value, (refl, h))

pub none_copied : (found : Option Value) → CopiedAt found None → found ≡ None
none_copied None h = refl
none_copied (Some value) h = absurd h

-- ---- an entry that is made is a further object

length_changed : (objects : List Object) (id : ℕ) (change : Object → Object) (found : Option Object) → length (changed_at objects id change found) ≡ length objects
length_changed objects id change None = refl
length_changed objects id change (Some object) = length-set objects id (change object)

length_with : (objects : List Object) (id : ℕ) (change : Object → Object) → length (with_change objects id change) ≡ length objects
length_with objects id change =
    elim (frozen_of objects id) as (λ b. length (if b then objects else changed_one objects id change) ≡ length objects)
    [ true ↦ refl | false ↦ length_changed objects id change (slice_get objects id) ]

after_makes : (old store : Store) (objects : List Object) (next : Store → Effect) → ((room : ℕ) → MakesNothing old (next (record { objects = objects; room = room })) → ⊥)
    → MakesNothing old (e.after_paying (paid store objects 0) next) → ⊥
unfolding paid
after_makes old store objects next h =
    elim (nat_le (charge store objects 0) store.room) as (λ b. MakesNothing old (e.after_paying (if b then Some (record { objects = objects; room = store.room - charge store objects 0 }) else None) next) → ⊥)
    [ true ↦ h (store.room - charge store objects 0) | false ↦ (λ k. k) ]

entry_makes : (old : Store) (id : ℕ) (it : Cursor) (map : ℕ) (key : Value) → MakesNothing old (iterators.given old id it (Some (element.Entry map key))) → ⊥
entry_makes old id it map key =
    let all = old.objects ++ o.Entry map key ∷ [] in
    after_makes old old all (λ paid. e.Gives (v.Ref (length old.objects)) (iterators.with_iterator paid id (iterators.moved it)))
    (λ room h.
    let same : length (iterators.with_iterator (record { objects = all; room = room }) id (iterators.moved it)).objects ≡ length all = length_with all id (renewed_by (iterators.moved it)) in
    absurd (omega (arith, h.1, same, length-append old.objects (o.Entry map key ∷ []))))

spared : (old : Store) (effect : Effect) (answer : Answer) → (MakesNothing old effect → ⊥) → Spares old effect answer
spared old effect (a.Value value) h = tt
spared old effect (a.Thrown id) h = tt
spared old effect a.Room h = tt
spared old effect a.NoMemory h = h

entry_spares : (old : Store) (id : ℕ) (it : Cursor) (map : ℕ) (key : Option Value) (answer : Answer) → Spares old (iterators.given old id it (entry_under map key)) answer
entry_spares old id it map None answer = throws_spare old old CONCURRENT_MODIFICATION_EXCEPTION None answer
entry_spares old id it map (Some key) answer = spared old (iterators.given old id it (Some (element.Entry map key))) answer (entry_makes old id it map key)

none_spares : (old : Store) (id : ℕ) (it : Cursor) (found : Option Value) (answer : Answer) → found ≡ None → Spares old (iterators.given old id it (there found)) answer
none_spares old id it None answer h = throws_spare old old CONCURRENT_MODIFICATION_EXCEPTION None answer
none_spares old id it (Some value) answer h = cc

-- where no value is there an entry is made, or an exception
pub made_spares : (old : Store) (id : ℕ) (it : Cursor) (over : Container) (at : ℕ) (answer : Answer) → slice_get (values_of old.objects over) at ≡ None
    → Spares old (iterators.given old id it (element_at old.objects over at)) answer
made_spares old id it (c.Items list) at answer h = none_spares old id it (slice_get (items_of old.objects list) at) answer h
made_spares old id it (c.Array array) at answer h = none_spares old id it (slice_get (items_of old.objects array) at) answer h
made_spares old id it (c.Keys set) at answer h = none_spares old id it (key_at (pairs_of old.objects set) at) answer (key_there (pairs_of old.objects set) at ∙ h)
made_spares old id it (c.Shown map part.Keys) at answer h = none_spares old id it (key_at (pairs_of old.objects map) at) answer (key_there (pairs_of old.objects map) at ∙ h)
made_spares old id it (c.Shown map part.Values) at answer h = none_spares old id it (pair_value_at (pairs_of old.objects map) at) answer (value_there (pairs_of old.objects map) at ∙ h)
made_spares old id it (c.Shown map part.Entries) at answer h = entry_spares old id it map (key_at (pairs_of old.objects map) at) answer
