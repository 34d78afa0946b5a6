-- Laws over the definitions: where the heap fits a program or a code, it fits it after a step of an iterator, whatever comes of it.
use Rattle.std.specs.Prelude.{ℕ}
use Rattle.object_heap.specs.Fits.{Rules, Fits, EffectFits}
use Rattle.object_heap.specs.Store.{Store}
use Rattle.container_parts.specs.Iterators.{iterate, next, remove}

abbrev pub NextFits : Type 0
NextFits = (rules : Rules) (store : Store) (id : ℕ) → Fits rules store.objects → EffectFits rules (next store id)

abbrev pub RemoveFits : Type 0
RemoveFits = (rules : Rules) (store : Store) (id : ℕ) → Fits rules store.objects → EffectFits rules (remove store id)

abbrev pub IterateFits : Type 0
IterateFits = (rules : Rules) (store : Store) (id : ℕ) → Fits rules store.objects → EffectFits rules (iterate store id)
