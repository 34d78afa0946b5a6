-- What is said of accesses, part by part.
use Rattle.std.proofs.Common.{◌≡◌, ℕ, ℤ, Bool, true, false, Option, Some, List, [], ◌∷◌, length, Result, Ok, Err, refl, sym, ap, ◌∙◌, subst, if◌then◌else◌}
use Rattle.pl_types.specs.declared.ty.Ty.{Ty}
use Rattle.allowlist.specs.Allow.{AllowList}
use Rattle.object_values.specs.declared.value.Value.{Value}
use Rattle.object_heap.specs.declared.answer.Answer.{Answer}
use Rattle.object_heap.specs.declared.answer.Answer.TheVariants as a
use Rattle.object_heap.specs.Effects as e
use Rattle.object_heap.specs.Store.{Store}
use Rattle.number_ops.specs.declared.outcome.Outcome.{Outcome}
use Rattle.number_ops.specs.declared.outcome.Outcome.TheVariants as outcome
use Rattle.number_ops.specs.Outcomes.{effect}
use Rattle.container_ops.specs.Elements.{element_given, element_written}
use Rattle.member_calls.specs.Members.{is_built}
use Rattle.def_resolve.specs.declared.access.Purpose.TheVariants.{Read, Write}
use Rattle.def_resolve.specs.declared.access.IndexAccess.TheVariants as by_index
use Rattle.def_resolve.specs.declared.callee.Callee.TheVariants.{Member}
use Rattle.def_resolve.specs.Failures.{Failure, fails, no_index, no_method}
use Rattle.def_access.specs.Access as access
use Rattle.def_access.specs.Access.{Access, Calls, Acts}
use Rattle.def_access.specs.Coming as coming
use Rattle.def_access.specs.declared.accessed.Accessed.TheVariants as said
use Rattle.def_access.proofs.CastLemmas.{IsPlain, IsStopped, no_memory, told_value}

-- ---- a member that is built, and one that is not

pub if_on : (store : Store) (number : ℕ) (failure : Failure) (next : Access) → is_built number ≡ true → access.if_built store number failure next ≡ next
if_on store number failure next h = ap (λ (b : Bool). if b then next else Acts (fails store failure)) h

pub if_off : (store : Store) (number : ℕ) (failure : Failure) (next : Access) → is_built number ≡ false → access.if_built store number failure next ≡ Acts (fails store failure)
if_off store number failure next h = ap (λ (b : Bool). if b then next else Acts (fails store failure)) h

-- ---- indexes

given_index : (store new : Store) (told : Outcome) (at : ℤ) (next : ℤ → Access) → coming.IsIndex told at store new → access.with_index store told next ≡ next at
given_index store new told at next h = ap (λ (x : Outcome). access.with_index store x next) h.0

pub item_read : (store new : Store) (receiver index : Value) (number : ℕ) (at : ℤ) (place : Value) → is_built number ≡ true → coming.IndexSaid (access.index_cast store.objects index) store new (Ok at)
    → place ≡ access.place_in new.objects receiver at → coming.Comes (access.index_read_by store receiver index (Some (by_index.Item number))) store new receiver [] (said.CallsWith number place)
item_read store new receiver index number at place b h k =
    let same : access.index_read_by store receiver index (Some (by_index.Item number)) ≡ access.item_read store number receiver at =
    if_on store number (no_index Read store.objects receiver) (access.with_index store (access.index_cast store.objects index) (access.item_read store number receiver)) b
    ∙ given_index store new (access.index_cast store.objects index) at (access.item_read store number receiver) h in
    let there : access.place_in store.objects receiver at ≡ place = ap (λ (s : Store). access.place_in s.objects receiver at) (sym h.1) ∙ sym k in
    subst (λ (x : Access). coming.Comes x store new receiver [] (said.CallsWith number place)) (sym same) (refl, ap (λ (x : Value). receiver ∷ x ∷ []) there, h.1)

pub item_read_ends : (store new : Store) (receiver index : Value) (number : ℕ) (answer : Answer) → is_built number ≡ true → coming.IndexSaid (access.index_cast store.objects index) store new (Err answer)
    → coming.Comes (access.index_read_by store receiver index (Some (by_index.Item number))) store new receiver [] (said.Acts answer)
item_read_ends store new receiver index number answer b h =
    subst (λ (x : Access). coming.ActsAs x store new answer)
    (sym (if_on store number (no_index Read store.objects receiver) (access.with_index store (access.index_cast store.objects index) (access.item_read store number receiver)) b))
    (h (access.item_read store number receiver))

pub element_read : (store mid new : Store) (receiver index : Value) (at : ℤ) (answer : Answer) → coming.IndexSaid (access.index_cast store.objects index) store mid (Ok at)
    → e.Answers (element_given mid receiver at) mid new answer → coming.Comes (access.index_read_by store receiver index (Some by_index.Element)) store new receiver [] (said.Acts answer)
element_read store mid new receiver index at answer h k =
    subst (λ (x : Access). coming.ActsAs x store new answer) (sym (given_index store mid (access.index_cast store.objects index) at (access.own_element store receiver) h))
    (subst (λ (s : Store). e.Answers (element_given s receiver at) s new answer) h.1 k)

pub item_written : (store new : Store) (receiver index value : Value) (number : ℕ) (at : ℤ) (place : Value) → is_built number ≡ true → coming.IndexSaid (access.index_cast store.objects index) store new (Ok at)
    → place ≡ access.place_in new.objects receiver at → coming.Comes (access.index_written_by store receiver index value (Some (by_index.Item number))) store new receiver (value ∷ []) (said.CallsWith number place)
item_written store new receiver index value number at place b h k =
    let same : access.index_written_by store receiver index value (Some (by_index.Item number)) ≡ access.item_written store number receiver value at =
    if_on store number (no_index Write store.objects receiver) (access.with_index store (access.index_cast store.objects index) (access.item_written store number receiver value)) b
    ∙ given_index store new (access.index_cast store.objects index) at (access.item_written store number receiver value) h in
    let there : access.place_in store.objects receiver at ≡ place = ap (λ (s : Store). access.place_in s.objects receiver at) (sym h.1) ∙ sym k in
    subst (λ (x : Access). coming.Comes x store new receiver (value ∷ []) (said.CallsWith number place)) (sym same) (refl, ap (λ (x : Value). receiver ∷ x ∷ value ∷ []) there, h.1)

pub item_written_ends : (store new : Store) (receiver index value : Value) (number : ℕ) (answer : Answer) → is_built number ≡ true → coming.IndexSaid (access.index_cast store.objects index) store new (Err answer)
    → coming.Comes (access.index_written_by store receiver index value (Some (by_index.Item number))) store new receiver (value ∷ []) (said.Acts answer)
item_written_ends store new receiver index value number answer b h =
    subst (λ (x : Access). coming.ActsAs x store new answer)
    (sym (if_on store number (no_index Write store.objects receiver) (access.with_index store (access.index_cast store.objects index) (access.item_written store number receiver value)) b))
    (h (access.item_written store number receiver value))

pub element_put : (store mid new : Store) (receiver index value : Value) (at : ℤ) (answer : Answer) → coming.IndexSaid (access.index_cast store.objects index) store mid (Ok at)
    → coming.ActsAs (access.own_element_written mid receiver value at) mid new answer → coming.Comes (access.index_written_by store receiver index value (Some by_index.Element)) store new receiver (value ∷ []) (said.Acts answer)
element_put store mid new receiver index value at answer h k =
    subst (λ (x : Access). coming.ActsAs x store new answer) (sym (given_index store mid (access.index_cast store.objects index) at (access.own_element_written store receiver value) h))
    (subst (λ (s : Store). coming.ActsAs (access.own_element_written s receiver value at) s new answer) h.1 k)

-- ---- casts of values that are written

pub put_value : (told : Outcome) (old mid new : Store) (elem : Ty) (array : Value) (at : ℤ) (cast : Value) (answer : Answer) → IsPlain told → effect old told ≡ e.Gives cast mid
    → e.Answers (element_written mid elem array at cast) mid new answer → coming.ActsAs (access.element_put old elem array at told) old new answer
put_value told old mid new elem array at cast answer p h k =
    let both = told_value told old mid cast p h in
    subst (λ (x : Outcome). coming.ActsAs (access.element_put old elem array at x) old new answer) (sym both.0)
    (subst (λ (s : Store). e.Answers (element_written s elem array at cast) s new answer) both.1 k)

pub put_stopped : (told : Outcome) (old new : Store) (elem : Ty) (array : Value) (at : ℤ) (answer : Answer) → IsPlain told → IsStopped answer → e.Answers (effect old told) old new answer
    → coming.ActsAs (access.element_put old elem array at told) old new answer
put_stopped (outcome.Gives value) old new elem array at (a.Value other) p s h = absurd s
put_stopped (outcome.Gives value) old new elem array at (a.Thrown id) p s h = cc
put_stopped (outcome.Gives value) old new elem array at a.Room p s h = cc
put_stopped (outcome.Gives value) old new elem array at a.NoMemory p s h = h
put_stopped (outcome.Throws raised message) old new elem array at answer p s h = h
put_stopped told old new elem array at answer p s h = absurd p

pub property_value : (told : Outcome) (old mid : Store) (number : ℕ) (receiver cast : Value) → IsPlain told → effect old told ≡ e.Gives cast mid
    → coming.Comes (access.property_put old number receiver told) old mid receiver (cast ∷ []) (said.Calls number)
property_value told old mid number receiver cast p h =
    let both = told_value told old mid cast p h in
    subst (λ (x : Outcome). coming.Comes (access.property_put old number receiver x) old mid receiver (cast ∷ []) (said.Calls number)) (sym both.0) (refl, refl, both.1)

pub property_stopped : (told : Outcome) (old new : Store) (number : ℕ) (receiver : Value) (answer : Answer) → IsPlain told → IsStopped answer → e.Answers (effect old told) old new answer
    → coming.ActsAs (access.property_put old number receiver told) old new answer
property_stopped (outcome.Gives value) old new number receiver (a.Value other) p s h = absurd s
property_stopped (outcome.Gives value) old new number receiver (a.Thrown id) p s h = cc
property_stopped (outcome.Gives value) old new number receiver a.Room p s h = cc
property_stopped (outcome.Gives value) old new number receiver a.NoMemory p s h = h
property_stopped (outcome.Throws raised message) old new number receiver answer p s h = h
property_stopped told old new number receiver answer p s h = absurd p

-- ---- calls

pub called_built : (allow : AllowList) (store : Store) (name : List ℕ) (number : ℕ) (values : List Value) → is_built number ≡ true → coming.called_on allow store name values (Some (Member number)) ≡ coming.built_on allow store number values
called_built allow store name number [] h = refl
called_built allow store name number (receiver ∷ arguments) h = if_on store number (no_method store.objects receiver name (length arguments)) _ h

pub called_unbuilt : (allow : AllowList) (store : Store) (name : List ℕ) (number : ℕ) (values : List Value) → is_built number ≡ false → coming.called_on allow store name values (Some (Member number)) ≡ coming.not_found_on store name values
called_unbuilt allow store name number [] h = refl
called_unbuilt allow store name number (receiver ∷ arguments) h = if_off store number (no_method store.objects receiver name (length arguments)) _ h

pub method_is : (allow : AllowList) (store : Store) (name : List ℕ) (values : List Value) → coming.called_on allow store name values (coming.found_on allow store.objects name values) ≡ coming.method_called_on allow store name values
unfolding access.method_called
method_is allow store name [] = refl
method_is allow store name (receiver ∷ arguments) = refl
