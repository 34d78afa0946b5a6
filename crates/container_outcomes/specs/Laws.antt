-- What outcomes keep.
use Rattle.std.specs.Prelude.{◌≡◌, true, List, ◌++◌, length, slice_get}
use Rattle.object_values.specs.declared.object.Object.{Object}
use Rattle.object_values.specs.Values.{is_simple}
use Rattle.object_heap.specs.Fits.{Rules, Fits, ValueFits, AllFit, ItemFits, PutsFit, ObjectFits, EffectFits, kinds}
use Rattle.object_heap.specs.Objects.{with_item}
use Rattle.object_heap.specs.Store.{Store, with_change}
use Rattle.container_outcomes.specs.declared.outcome.Outcome.{Outcome}
use Rattle.container_outcomes.specs.declared.outcome.Outcome.TheVariants as outcome
use Rattle.container_outcomes.specs.Outcomes.{effect}

-- a value that is given, an item and an object that is made are there, and fit; a key that is put is simple
abbrev pub OutcomeFits : Rules → List Object → Outcome → Type 0
OutcomeFits rules objects (outcome.Gives value) = ValueFits (length objects) value
OutcomeFits rules objects (outcome.New object) = ObjectFits rules (kinds objects) object
OutcomeFits rules objects (outcome.Makes before object) = Fits rules (objects ++ before) × ObjectFits rules (kinds (objects ++ before)) object
OutcomeFits rules objects (outcome.Inserts id at item value) = ValueFits (length objects) item × ValueFits (length objects) value
OutcomeFits rules objects (outcome.Extends id at items value) = AllFit (length objects) items × ValueFits (length objects) value
OutcomeFits rules objects (outcome.Sets id at item) = ValueFits (length objects) item × ItemFits rules.typed (kinds objects) item (slice_get objects id)
OutcomeFits rules objects (outcome.SetsTwo id at item other_at other) =
    (ValueFits (length objects) item × ItemFits rules.typed (kinds objects) item (slice_get objects id)) × (ValueFits (length objects) other × ItemFits rules.typed (kinds (with_change objects id (with_item at item))) other (slice_get (with_change objects id (with_item at item)) id))
OutcomeFits rules objects (outcome.Puts id key value) = (is_simple key ≡ true) × ValueFits (length objects) value
OutcomeFits rules objects (outcome.Adds id key) = is_simple key ≡ true
OutcomeFits rules objects (outcome.PutsAll id pairs) = PutsFit (length objects) pairs (slice_get objects id)
OutcomeFits rules objects (outcome.AddsAll id keys) = PutsFit (length objects) keys (slice_get objects id)
OutcomeFits rules objects (outcome.Empties id object) = ObjectFits rules (kinds objects) object
OutcomeFits rules objects (outcome.Becomes id object value) = ObjectFits rules (kinds objects) object × ValueFits (length objects) value
OutcomeFits rules objects told = Unit {0}

-- where the heap and an outcome fit a program or a code, so does what the outcome leaves
abbrev pub OutcomesKeepFit : Type 0
OutcomesKeepFit = (rules : Rules) (store : Store) (told : Outcome) → Fits rules store.objects → OutcomeFits rules store.objects told → EffectFits rules (effect store told)
