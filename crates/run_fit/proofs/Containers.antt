-- What lists, maps, arrays, loops over elements, operators on values of any types, and accesses whose receiver's class is found when they
-- run come to fits the run.
use Rattle.std.proofs.Common.{ℕ, ℤ, List, ◌∷◌, []}
use Rattle.pl_types.specs.declared.ty.Ty.{Ty}
use Rattle.allowlist.specs.Allow.{AllowList}
use Rattle.arithmetic.specs.declared.operator.Op.{Op}
use Rattle.object_values.specs.declared.object.Object.{Object}
use Rattle.object_values.specs.declared.value.Value.{Value}
use Rattle.object_heap.specs.Fits.{Rules, ValueFits, AllFit}
use Rattle.def_access.specs.Elements.{element_read, element_written, length_of}
use Rattle.def_access.specs.Loops.{has_more, iterated, next_element}
use Rattle.def_access.specs.Making.{array_filled, array_made, list_made, map_made}
use Rattle.def_access.proofs.ContainerOpsKeeping as keeping
use Rattle.def_access.proofs.Leaving as leaving
use Rattle.number_ops.specs.Operators.{operate}
use Rattle.number_ops.specs.Outcomes.{effect}
use Rattle.number_ops.proofs.Keeping as numbers
use Rattle.def_access.proofs.MemberCallsLeaving.{number_leaves}
use Rattle.def_access.specs.Access.{Access, Calls, Acts, index_read, index_written, method_called, name_read, name_written}
use Rattle.def_access.specs.Laws as laws
use Rattle.def_access.proofs.Keeping as access_keeping
use Rattle.run_state.specs.World.{World, acts_in}
use Rattle.run_fit.specs.Worlds.{WorldFits, count_in, OutcomeFits}
use Rattle.run_fit.proofs.Effects.{effect_fits}

-- the arguments of a call are there, and what is done at once fits
abbrev pub AccessFits : Rules → List Object → World → Access → Type 0
AccessFits rules before w (Calls number arguments) = AllFit (count_in w) arguments
AccessFits rules before w (Acts given) = OutcomeFits rules before (count_in w) (acts_in w given)

access_fits : (rules : Rules) (before : List Object) (w : World) (a : Access) → WorldFits rules before w → laws.AccessFits rules w.store a → laws.AccessLeaves w.store a → AccessFits rules before w a
access_fits rules before w (Calls number arguments) h f l = f
access_fits rules before w (Acts given) h f l = effect_fits rules before w given h f l

module _ (rules : Rules) (before : List Object) (w : World) (h : WorldFits rules before w) where
  -- ---- literals and arrays

  pub list_fits : (items : List Value) → AllFit (count_in w) items → OutcomeFits rules before (count_in w) (acts_in w (list_made w.store items))
  list_fits items f = effect_fits rules before w (list_made w.store items) h (keeping.list_made_fits rules w.store items h.fits f) (leaving.list_made_leaves w.store items)

  pub map_fits : (parts : List Value) → AllFit (count_in w) parts → OutcomeFits rules before (count_in w) (acts_in w (map_made w.store parts))
  map_fits parts f = effect_fits rules before w (map_made w.store parts) h (keeping.map_made_fits rules w.store parts h.fits f) (leaving.map_made_leaves w.store parts)

  pub filled_fits : (elem : Ty) (items : List Value) → AllFit (count_in w) items → OutcomeFits rules before (count_in w) (acts_in w (array_filled w.store elem items))
  filled_fits elem items f = effect_fits rules before w (array_filled w.store elem items) h (keeping.array_filled_fits rules w.store elem items h.fits f) (leaving.array_filled_leaves w.store elem items)

  pub array_fits : (of : Ty) (sizes : List ℤ) → OutcomeFits rules before (count_in w) (acts_in w (array_made w.store of sizes))
  array_fits of sizes = effect_fits rules before w (array_made w.store of sizes) h (keeping.array_made_fits rules w.store of sizes h.fits) (leaving.array_made_leaves w.store of sizes)

  -- ---- elements

  pub element_fits : (of : Ty) (array : Value) (at : ℤ) → OutcomeFits rules before (count_in w) (acts_in w (element_read w.store of array at))
  element_fits of array at = effect_fits rules before w (element_read w.store of array at) h (keeping.element_read_fits rules w.store of array at h.fits) (leaving.element_read_leaves w.store of array at)

  pub written_fits : (of : Ty) (array : Value) (at : ℤ) (item : Value) → ValueFits (count_in w) item → OutcomeFits rules before (count_in w) (acts_in w (element_written w.store of array at item))
  written_fits of array at item f =
      effect_fits rules before w (element_written w.store of array at item) h (keeping.element_written_fits rules w.store of array at item h.fits f) (leaving.element_written_leaves w.store of array at item)

  pub length_fits : (value : Value) → OutcomeFits rules before (count_in w) (acts_in w (length_of w.store value))
  length_fits value = effect_fits rules before w (length_of w.store value) h (keeping.length_of_fits rules w.store value h.fits) (leaving.length_of_leaves w.store value)

  -- ---- loops

  pub iterated_fits : (value : Value) → OutcomeFits rules before (count_in w) (acts_in w (iterated w.store value))
  iterated_fits value = effect_fits rules before w (iterated w.store value) h (keeping.iterated_fits rules w.store value h.fits) (leaving.iterated_leaves w.store value)

  pub has_fits : (value : Value) → OutcomeFits rules before (count_in w) (acts_in w (has_more w.store value))
  has_fits value = effect_fits rules before w (has_more w.store value) h (keeping.has_more_fits rules w.store value h.fits) (leaving.has_more_leaves w.store value)

  pub next_fits : (value : Value) → OutcomeFits rules before (count_in w) (acts_in w (next_element w.store value))
  next_fits value = effect_fits rules before w (next_element w.store value) h (keeping.next_element_fits rules w.store value h.fits) (leaving.next_element_leaves w.store value)

  -- ---- operators

  pub operate_fits : (o : Op) (a b : Value) → OutcomeFits rules before (count_in w) (acts_in w (effect w.store (operate w.store.objects o a b)))
  operate_fits o a b =
      effect_fits rules before w (effect w.store (operate w.store.objects o a b)) h (numbers.settled rules w.store (operate w.store.objects o a b) h.fits (numbers.operate_fits (count_in w) w.store.objects o a b))
      (number_leaves w.store (operate w.store.objects o a b))

  -- ---- accesses

  module _ (allow : AllowList) where
    pub index_read_fits : (receiver index : Value) → AllFit (count_in w) (receiver ∷ index ∷ []) → AccessFits rules before w (index_read allow w.store receiver index)
    index_read_fits receiver index f =
        access_fits rules before w (index_read allow w.store receiver index) h (access_keeping.index_read_fits rules allow w.store receiver index h.fits f) (access_keeping.index_read_leaves allow w.store receiver index)

    pub index_written_fits : (receiver index value : Value) → AllFit (count_in w) (receiver ∷ index ∷ value ∷ []) → AccessFits rules before w (index_written allow w.store receiver index value)
    index_written_fits receiver index value f =
        access_fits rules before w (index_written allow w.store receiver index value) h (access_keeping.index_written_fits rules allow w.store receiver index value h.fits f)
        (access_keeping.index_written_leaves allow w.store receiver index value)

    pub name_read_fits : (receiver : Value) (name : List ℕ) → ValueFits (count_in w) receiver → AccessFits rules before w (name_read allow w.store receiver name)
    name_read_fits receiver name f =
        access_fits rules before w (name_read allow w.store receiver name) h (access_keeping.name_read_fits rules allow w.store receiver name h.fits f) (access_keeping.name_read_leaves allow w.store receiver name)

    pub name_written_fits : (receiver : Value) (name : List ℕ) (value : Value) → AllFit (count_in w) (receiver ∷ value ∷ []) → AccessFits rules before w (name_written allow w.store receiver name value)
    name_written_fits receiver name value f =
        access_fits rules before w (name_written allow w.store receiver name value) h (access_keeping.name_written_fits rules allow w.store receiver name value h.fits f)
        (access_keeping.name_written_leaves allow w.store receiver name value)

    pub method_called_fits : (receiver : Value) (name : List ℕ) (arguments : List Value) → AllFit (count_in w) (receiver ∷ arguments) → AccessFits rules before w (method_called allow w.store receiver name arguments)
    method_called_fits receiver name arguments f =
        access_fits rules before w (method_called allow w.store receiver name arguments) h (access_keeping.method_called_fits rules allow w.store receiver name arguments h.fits f)
        (access_keeping.method_called_leaves allow w.store receiver name arguments)
