-- What a sorted list holds, and the element that is chosen, are there.
use Rattle.std.proofs.Common.{ℕ, Bool, true, false, List, [], ◌∷◌, if◌then◌else◌}
use Rattle.object_values.specs.declared.value.Value.{Value}
use Rattle.object_heap.specs.Fits.{AllFit, ValueFits}
use Rattle.api_sort.specs.declared.choosing.Extreme.{Extreme}
use Rattle.api_sort.specs.Choosing.{beats, best_of}
use Rattle.api_sort.specs.Sorting.{inserted, sorted_by}

inserted_fit : (n : ℕ) (before : Value → Value → Bool) (new : Value) (values : List Value) → ValueFits n new → AllFit n values → AllFit n (inserted before new values)
inserted_fit n before new [] h f = (h, tt)
inserted_fit n before new (value ∷ values) h f =
    elim (before value new) as (λ b. AllFit n (if b then value ∷ inserted before new values else new ∷ value ∷ values)) [ true ↦ (f.0, inserted_fit n before new values h f.1) | false ↦ (h, f) ]

pub sorted_fit : (n : ℕ) (before : Value → Value → Bool) (values : List Value) → AllFit n values → AllFit n (sorted_by before values)
sorted_fit n before [] f = tt
sorted_fit n before (value ∷ values) f = inserted_fit n before value (sorted_by before values) f.0 (sorted_fit n before values f.1)

either_fits : (n : ℕ) (test : Bool) (a b : Value) → ValueFits n a → ValueFits n b → ValueFits n (if test then a else b)
either_fits n true a b f g = f
either_fits n false a b f g = g

pub best_fits : (n : ℕ) (which : Extreme) (best : Value) (values : List Value) → ValueFits n best → AllFit n values → ValueFits n (best_of which best values)
best_fits n which best [] h f = h
best_fits n which best (value ∷ values) h f = best_fits n which (if beats which value best then value else best) values (either_fits n (beats which value best) value best f.0 h) f.1
