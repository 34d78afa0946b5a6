-- Laws over the definitions.
use Rattle.std.specs.Prelude.{ℕ, List, length}
use Rattle.object_values.specs.declared.value.Value.{Value}
use Rattle.object_heap.specs.Fits.{Rules, Fits, AllFit, EffectFits}
use Rattle.object_heap.specs.Store.{Store}
use Rattle.api_map.specs.Members.{does_numbered}
use Rattle.container_outcomes.specs.Outcomes.{effect}

-- what members keep: where the heap and the arguments fit a program or a code, the heap fits it afterwards
abbrev pub MembersKeepFit : Type 0
MembersKeepFit = (rules : Rules) (store : Store) (number : ℕ) (arguments : List Value) → Fits rules store.objects → AllFit (length store.objects) arguments
    → EffectFits rules (effect store (does_numbered store.objects number arguments))
