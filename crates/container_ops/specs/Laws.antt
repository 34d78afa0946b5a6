-- What holds of what the language does with lists, maps, arrays and iterators.
use Rattle.std.specs.Prelude.{ℤ, Some, List, length}
use Rattle.pl_types.specs.declared.primitive.Primitive.{Primitive}
use Rattle.pl_types.specs.declared.primitive.Primitive.TheVariants as prim
use Rattle.pl_types.specs.declared.ty.Ty.{Ty}
use Rattle.pl_types.specs.declared.ty.Ty.TheVariants as t
use Rattle.object_values.specs.declared.value.Value.{Value}
use Rattle.object_heap.specs.Fits.{Rules, Fits, ValueFits, AllFit, EffectFits}
use Rattle.object_heap.specs.Store.{Store}
use Rattle.container_calls.specs.Laws.{EffectLeaves}
use Rattle.container_calls.specs.Types.{EffectGives}
use Rattle.container_ops.specs.Making.{list_made, map_made, array_filled, array_made}
use Rattle.container_ops.specs.Elements.{element_read, element_given, element_written, length_of}
use Rattle.container_ops.specs.Loops.{iterated, has_more, next_element}

-- Where a store and the values that are handed in fit a program or a code, so does what is left and given. Nothing else is asked of them: an
-- array takes no value but of its element type.
pub record FormsFit : Type 0 where
  pub lists : (rules : Rules) (store : Store) (items : List Value) → Fits rules store.objects → AllFit (length store.objects) items → EffectFits rules (list_made store items)
  pub maps : (rules : Rules) (store : Store) (parts : List Value) → Fits rules store.objects → AllFit (length store.objects) parts → EffectFits rules (map_made store parts)
  pub filled : (rules : Rules) (store : Store) (elem : Ty) (items : List Value) → Fits rules store.objects → AllFit (length store.objects) items → EffectFits rules (array_filled store elem items)
  pub arrays : (rules : Rules) (store : Store) (of : Ty) (sizes : List ℤ) → Fits rules store.objects → EffectFits rules (array_made store of sizes)
  pub read : (rules : Rules) (store : Store) (of : Ty) (array : Value) (at : ℤ) → Fits rules store.objects → EffectFits rules (element_read store of array at)
  pub given : (rules : Rules) (store : Store) (array : Value) (at : ℤ) → Fits rules store.objects → EffectFits rules (element_given store array at)
  pub written : (rules : Rules) (store : Store) (of : Ty) (array : Value) (at : ℤ) (item : Value) → Fits rules store.objects → ValueFits (length store.objects) item → EffectFits rules (element_written store of array at item)
  pub lengths : (rules : Rules) (store : Store) (value : Value) → Fits rules store.objects → EffectFits rules (length_of store value)
  pub iterators : (rules : Rules) (store : Store) (value : Value) → Fits rules store.objects → EffectFits rules (iterated store value)
  pub more : (rules : Rules) (store : Store) (value : Value) → Fits rules store.objects → EffectFits rules (has_more store value)
  pub next : (rules : Rules) (store : Store) (value : Value) → Fits rules store.objects → EffectFits rules (next_element store value)

-- each object is there afterwards, of the same kind, and there may be more
pub record FormsLeave : Type 0 where
  pub lists : (store : Store) (items : List Value) → EffectLeaves store.objects (list_made store items)
  pub maps : (store : Store) (parts : List Value) → EffectLeaves store.objects (map_made store parts)
  pub filled : (store : Store) (elem : Ty) (items : List Value) → EffectLeaves store.objects (array_filled store elem items)
  pub arrays : (store : Store) (of : Ty) (sizes : List ℤ) → EffectLeaves store.objects (array_made store of sizes)
  pub read : (store : Store) (of : Ty) (array : Value) (at : ℤ) → EffectLeaves store.objects (element_read store of array at)
  pub given : (store : Store) (array : Value) (at : ℤ) → EffectLeaves store.objects (element_given store array at)
  pub written : (store : Store) (of : Ty) (array : Value) (at : ℤ) (item : Value) → EffectLeaves store.objects (element_written store of array at item)
  pub lengths : (store : Store) (value : Value) → EffectLeaves store.objects (length_of store value)
  pub iterators : (store : Store) (value : Value) → EffectLeaves store.objects (iterated store value)
  pub more : (store : Store) (value : Value) → EffectLeaves store.objects (has_more store value)
  pub next : (store : Store) (value : Value) → EffectLeaves store.objects (next_element store value)

-- What is read as of a primitive type is a value of it, in every store; a length is an int, and whether there is more a truth value.
pub record FormsGivePrimitives : Type 0 where
  pub read : (store : Store) (p : Primitive) (array : Value) (at : ℤ) → EffectGives (Some p) (element_read store (t.Prim p) array at)
  pub lengths : (store : Store) (value : Value) → EffectGives (Some prim.Int) (length_of store value)
  pub more : (store : Store) (value : Value) → EffectGives (Some prim.Boolean) (has_more store value)
