-- What operators, casts, members and `throw` keep.
use Rattle.std.specs.Prelude.{ℕ, Bool, Option, Some, None, List}
use Rattle.pl_types.specs.Host.{HostMeaning}
use Rattle.pl_types.specs.declared.ty.Ty.{Ty}
use Rattle.object_values.specs.declared.object.Object.{Object}
use Rattle.object_values.specs.declared.value.Value.{Value}
use Rattle.object_heap.specs.Effects.{Effect}
use Rattle.object_heap.specs.Fits.{Rules, Fits, ValueFits, AllFit}
use Rattle.number_ops.specs.declared.outcome.Outcome.{Outcome as Told}
use Rattle.number_ops.specs.declared.outcome.Outcome.TheVariants as told
use Rattle.number_ops.specs.Casts.{cast_at_run_time}
use Rattle.number_ops.specs.Operators.{concatenated}
use Rattle.number_ops.specs.Outcomes.{effect}
use Rattle.number_ops.specs.Relations.{equal, thrown}
use Rattle.def_access.specs.Members.{does}
use Rattle.run_state.specs.World.{World, acts_in}
use Rattle.run_fit.specs.Worlds.{WorldFits, count_in, OutcomeFits}

-- a run begins in a world whose objects fit
abbrev pub BeginningsFit : Type 0
BeginningsFit = (rules : Rules) (w : World) → Fits rules w.store.objects → WorldFits rules w.store.objects w

-- what is given is there
abbrev pub ToldFits : ℕ → Told → Type 0
ToldFits count (told.Gives value) = ValueFits count value
ToldFits count (told.Makes text) = Unit {0}
ToldFits count (told.Throws raised message) = Unit {0}
ToldFits count told.NoMemory = Unit {0}

abbrev pub OutcomesFit : Type 0
OutcomesFit = (rules : Rules) (before : List Object) (w : World) (o : Told) → WorldFits rules before w → ToldFits (count_in w) o → OutcomeFits rules before (count_in w) (acts_in w (effect w.store o))

abbrev pub CastsFit : Type 0
CastsFit = (rules : Rules) (before : List Object) (w : World) (value : Value) (to : Ty) (explicit : Bool) → WorldFits rules before w → ValueFits (count_in w) value
    → OutcomeFits rules before (count_in w) (acts_in w (effect w.store (cast_at_run_time w.store.objects value to explicit)))

abbrev pub ConcatenationFits : Type 0
ConcatenationFits = (rules : Rules) (before : List Object) (w : World) (a b : Value) → WorldFits rules before w
    → OutcomeFits rules before (count_in w) (acts_in w (effect w.store (concatenated w.store.objects a b)))

abbrev pub EqualityFits : Type 0
EqualityFits = (rules : Rules) (before : List Object) (w : World) (a b : Value) → WorldFits rules before w
    → OutcomeFits rules before (count_in w) (acts_in w (effect w.store (equal w.store.objects a b)))

-- what comes of a member, if there is one
abbrev pub DoneFits : Rules → List Object → World → Option Effect → Type 0
DoneFits rules before w None = Unit {0}
DoneFits rules before w (Some e) = OutcomeFits rules before (count_in w) (acts_in w e)

abbrev pub MembersFit : Type 0
MembersFit = (rules : Rules) (before : List Object) (w : World) (host : HostMeaning) (number : ℕ) (arguments : List Value) → WorldFits rules before w → AllFit (count_in w) arguments
    → DoneFits rules before w (does host number arguments w.store)

abbrev pub ThrowingFits : Type 0
ThrowingFits = (rules : Rules) (before : List Object) (w : World) (value : Value) → WorldFits rules before w → OutcomeFits rules before (count_in w) (acts_in w (thrown w.store value))
