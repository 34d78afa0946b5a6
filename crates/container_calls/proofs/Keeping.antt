-- What comes of a member fits the store.
use Rattle.std.proofs.Common.{ℕ, List, length}
use Rattle.object_values.specs.declared.value.Value.{Value}
use Rattle.object_heap.specs.Fits.{Rules, Fits, AllFit, EffectFits}
use Rattle.object_heap.specs.Store.{Store}
use Rattle.api_map.proofs.Settling.{settled}
use Rattle.api_iter.specs.Members as iterables
use Rattle.api_iter.proofs.Keeping as iterable_keeping
use Rattle.api_list.specs.Members as lists
use Rattle.api_list.proofs.Keeping.{comes_fits}
use Rattle.api_list.proofs.KeepingTaken.{told_settled}
use Rattle.api_map.specs.Members as maps
use Rattle.api_map.proofs.Keeping as map_keeping
use Rattle.container_calls.specs.declared.family.Family.{Family}
use Rattle.container_calls.specs.declared.family.Family.TheVariants.{Iterables, Lists, Maps}
use Rattle.container_calls.specs.Members.{act_of, does_container, family_of, is_on_list}

family_fits : (rules : Rules) (family : Family) (store : Store) (number : ℕ) (arguments : List Value) → Fits rules store.objects → AllFit (length store.objects) arguments
    → EffectFits rules (act_of family store number arguments)
family_fits rules Iterables store number arguments f h = iterable_keeping.found_fits rules store (iterables.numbered number) arguments f h
family_fits rules Lists store number arguments f h =
    told_settled rules store (lists.comes_to store.objects number arguments) f (comes_fits rules store.objects number arguments f h)
family_fits rules Maps store number arguments f h =
    settled rules store (maps.does_numbered store.objects number arguments) f (map_keeping.found_fits rules store.objects (maps.numbered number) arguments f h)

pub container_fits : (rules : Rules) (store : Store) (number : ℕ) (arguments : List Value) → Fits rules store.objects → AllFit (length store.objects) arguments
    → EffectFits rules (does_container store number arguments)
container_fits rules store number arguments f h = family_fits rules (family_of (is_on_list store.objects arguments) number) store number arguments f h
