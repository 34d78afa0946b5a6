-- What comes of an index fits the store.
use Rattle.std.proofs.Common.{◌≡◌, ℕ, ℤ, Option, Some, None, List, length, refl, slice_get}
use Rattle.object_values.specs.declared.object.Object.{Object}
use Rattle.object_values.specs.declared.object.Object.TheVariants as o
use Rattle.object_values.specs.declared.value.Value.{Value}
use Rattle.object_heap.specs.Fits.{Rules, Fits, ValueFits, AllFit, ItemFits, kinds}
use Rattle.object_heap.specs.Parts.{items_of}
use Rattle.object_heap.proofs.Fitting.{items_fit}
use Rattle.member_arguments.specs.Arguments.{int_at, object_at}
use Rattle.container_outcomes.specs.declared.outcome.Outcome.{Outcome}
use Rattle.container_outcomes.specs.declared.outcome.Raised.TheVariants as raised
use Rattle.container_outcomes.specs.Choices.{with_two, with_three}
use Rattle.container_outcomes.specs.Outcomes.{array_index_error, index_error}
use Rattle.container_outcomes.specs.Laws.{OutcomeFits}
use Rattle.container_outcomes.proofs.Fitting.{open_fits, says_fits, value_there}
use Rattle.container_outcomes.proofs.Settling.{place_fits}
use Rattle.api_list.specs.Lists.{place_of}
use Rattle.api_list.specs.Indexing as indexing

at_fits : (rules : Rules) (objects : List Object) (refused : ℤ → ℕ → Outcome) (count : ℕ) (at : ℤ) (place : Option ℕ) (next : ℕ → Outcome) → ((at : ℤ) (count : ℕ) → OutcomeFits rules objects (refused at count))
    → ((place : ℕ) → OutcomeFits rules objects (next place)) → OutcomeFits rules objects (indexing.at_place refused count at place next)
at_fits rules objects refused count at None next h k = h at count
at_fits rules objects refused count at (Some place) next h k = k place

list_refused : (rules : Rules) (objects : List Object) (at : ℤ) (count : ℕ) → OutcomeFits rules objects (index_error at count)
list_refused rules objects at count = says_fits rules objects raised.IndexOutOfBounds _

array_refused : (rules : Rules) (objects : List Object) (at : ℤ) (count : ℕ) → OutcomeFits rules objects (array_index_error at count)
array_refused rules objects at count = says_fits rules objects raised.ArrayIndexOutOfBounds _

read_fits : (rules : Rules) (objects : List Object) (id : ℕ) (at : ℤ) (found : Option Object) → Fits rules objects → OutcomeFits rules objects (indexing.read_in objects id at found)
read_fits rules objects id at (Some (o.List class items guard changes)) f =
    at_fits rules objects index_error _ _ (place_of (length (items_of objects id)) (indexing.counted (length (items_of objects id)) at)) (indexing.item_read objects id) (list_refused rules objects)
    (λ place. place_fits (length objects) (items_of objects id) place (items_fit rules objects id f))
read_fits rules objects id at (Some (o.Array elem items)) f =
    at_fits rules objects array_index_error _ _ (place_of (length (items_of objects id)) (indexing.counted (length (items_of objects id)) at)) (indexing.item_read objects id) (array_refused rules objects)
    (λ place. place_fits (length objects) (items_of objects id) place (items_fit rules objects id f))
read_fits rules objects id at None f = tt
read_fits rules objects id at (Some object) f = tt

write_fits : (rules : Rules) (objects : List Object) (id : ℕ) (at : ℤ) (item : Value) (found : Option Object) → ValueFits (length objects) item → ItemFits rules.typed (kinds objects) item (slice_get objects id)
    → OutcomeFits rules objects (indexing.write_in objects id at item found)
write_fits rules objects id at item (Some (o.List class items guard changes)) v t =
    open_fits rules objects id (indexing.at_index index_error (length (items_of objects id)) at (indexing.item_written id item))
    (at_fits rules objects index_error _ _ (place_of (length (items_of objects id)) (indexing.counted (length (items_of objects id)) at)) (indexing.item_written id item) (list_refused rules objects) (λ place. (v, t)))
write_fits rules objects id at item (Some (o.Array elem items)) v t =
    at_fits rules objects array_index_error _ _ (place_of (length (items_of objects id)) (indexing.counted (length (items_of objects id)) at)) (indexing.item_written id item) (array_refused rules objects) (λ place. (v, t))
write_fits rules objects id at item None v t = tt
write_fits rules objects id at item (Some object) v t = tt

read_two : (rules : Rules) (objects : List Object) (id : Option ℕ) (at : Option ℤ) → Fits rules objects → OutcomeFits rules objects (with_two (indexing.read_of objects) id at)
read_two rules objects None at f = tt
read_two rules objects (Some id) None f = tt
read_two rules objects (Some id) (Some at) f = read_fits rules objects id at (slice_get objects id) f

pub read_index_fits : (rules : Rules) (objects : List Object) (arguments : List Value) → Fits rules objects → OutcomeFits rules objects (indexing.read_index objects arguments)
read_index_fits rules objects arguments f = read_two rules objects (object_at arguments 0) (int_at arguments 1) f

write_three : (rules : Rules) (objects : List Object) (id : Option ℕ) (at : Option ℤ) (item : Option Value) → ((value : Value) → item ≡ Some value → ValueFits (length objects) value)
    → indexing.ItemTaken rules objects id item → OutcomeFits rules objects (with_three (indexing.write_of objects) id at item)
write_three rules objects None at item h t = tt
write_three rules objects (Some id) None item h t = tt
write_three rules objects (Some id) (Some at) None h t = tt
write_three rules objects (Some id) (Some at) (Some item) h t = write_fits rules objects id at item (slice_get objects id) (h item refl) t

pub write_index_fits : (rules : Rules) (objects : List Object) (arguments : List Value) → AllFit (length objects) arguments → indexing.ItemTaken rules objects (object_at arguments 0) (slice_get arguments 2)
    → OutcomeFits rules objects (indexing.write_index objects arguments)
write_index_fits rules objects arguments a t =
    write_three rules objects (object_at arguments 0) (int_at arguments 1) (slice_get arguments 2) (λ value is. value_there (length objects) arguments 2 value a is) t
