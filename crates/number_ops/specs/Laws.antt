-- What operators, casts and members keep: where the heap and what is handed in fit a program or a code, the heap fits it afterwards.
use Rattle.std.specs.Prelude.{ℕ, Bool, List, length}
use Rattle.pl_types.specs.declared.ty.Ty.{Ty}
use Rattle.object_values.specs.declared.value.Value.{Value}
use Rattle.object_heap.specs.Fits.{Rules, Fits, ValueFits, EffectFits}
use Rattle.object_heap.specs.Store.{Store}
use Rattle.arithmetic.specs.declared.operator.Op.{Op}
use Rattle.number_ops.specs.Casts.{cast_at_run_time}
use Rattle.number_ops.specs.Members.{does_numbered}
use Rattle.number_ops.specs.Operators.{operate, concatenated}
use Rattle.number_ops.specs.Outcomes.{effect}

abbrev pub OperatorsKeepFit : Type 0
OperatorsKeepFit = (rules : Rules) (store : Store) (o : Op) (a b : Value) → Fits rules store.objects → EffectFits rules (effect store (operate store.objects o a b))

abbrev pub ConcatenationKeepsFit : Type 0
ConcatenationKeepsFit = (rules : Rules) (store : Store) (a b : Value) → Fits rules store.objects → EffectFits rules (effect store (concatenated store.objects a b))

abbrev pub CastsKeepFit : Type 0
CastsKeepFit = (rules : Rules) (store : Store) (value : Value) (to : Ty) (explicit : Bool) → Fits rules store.objects → ValueFits (length store.objects) value
    → EffectFits rules (effect store (cast_at_run_time store.objects value to explicit))

abbrev pub MembersKeepFit : Type 0
MembersKeepFit = (rules : Rules) (store : Store) (number : ℕ) (arguments : List Value) → Fits rules store.objects → EffectFits rules (effect store (does_numbered store.objects number arguments))
