-- What holds of calls that a function value may come into.
use Rattle.std.specs.Prelude.{◌≡◌, ◌≤◌, ℕ, suc, true, Some, List, [], ◌∷◌, length}
use Rattle.pl_types.specs.declared.ty.Ty.{Ty}
use Rattle.allowlist.specs.Allow.{AllowList, flag}
use Rattle.object_values.specs.declared.object.Object.{Object}
use Rattle.object_values.specs.declared.object.Owner.{Owner}
use Rattle.object_values.specs.declared.object.Owner.TheVariants.{Prelude}
use Rattle.object_values.specs.declared.value.Value.{Value}
use Rattle.object_heap.specs.Fits.{AllFit, EffectFits, Fits, Lambda, Rules, ValueFits}
use Rattle.object_heap.specs.Store.{Store}
use Rattle.def_access.specs.ContainerCallsLaws.{EffectLeaves, StillThere}
use Rattle.def_access.specs.Members.{is_built}
use Rattle.def_resolve.specs.Laws.{parameters_of}
use Rattle.function_calls.specs.declared.called.Called.{Called}
use Rattle.function_calls.specs.declared.called.Called.TheVariants as called
use Rattle.function_calls.specs.declared.texts.Texts.{Texts}
use Rattle.function_calls.specs.Applying.{Applied, Applies, Call, Fails, applied, applied_within, due_cast, named}
use Rattle.function_calls.specs.Coming.{Taken}
use Rattle.function_calls.specs.Targets.{parameters_in}

-- ---- what is called is of the list

-- a member is one that the list allows, and one that acts itself is built
abbrev pub CalledConfined : AllowList → Called → Type 0
CalledConfined allow (called.Member number) = (flag allow.members number ≡ true) × (is_built number ≡ true)
CalledConfined allow (called.Work number function) = flag allow.members number ≡ true
CalledConfined allow other = Unit {0}

abbrev pub IsConfined : AllowList → Applied → Type 0
IsConfined allow (Applies call) = CalledConfined allow call.called
IsConfined allow (Fails store told) = Unit {0}

-- A member that is called by its name is of the list of the text that calls it; what a function value calls, from which casts are due, is
-- of the script's.
abbrev pub list_for : AllowList → AllowList → List ℕ → AllowList
list_for allow own [] = own
list_for allow own (due ∷ dues) = allow

abbrev pub IsConfinedBy : AllowList → AllowList → Applied → Type 0
IsConfinedBy allow own (Applies call) = CalledConfined (list_for allow own call.dues) call.called
IsConfinedBy allow own (Fails store told) = Unit {0}

-- Nothing but what a list allows is called.
pub record CallsAreConfined : Type 0 where
  pub applied : (texts : Texts) (allow : AllowList) (method : ℕ) (first : List Ty) (store : Store) (values : List Value) → IsConfined allow (applied texts allow method first store values)
  pub named : (texts : Texts) (allow own : AllowList) (text : Owner) (store : Store) (name : List ℕ) (values : List Value) → IsConfinedBy allow own (named texts allow own text store name values)

-- ---- a function takes the values that it is called with

abbrev pub TakesValues : Texts → Called → List Value → Type 0
TakesValues texts (called.Lambda owner number) values = parameters_in texts owner number ≡ Some (length values)
TakesValues texts (called.Work number function) values = parameters_in texts Prelude function ≡ Some (length values)
TakesValues texts other values = Unit {0}

abbrev pub AreTaken : Texts → Applied → Type 0
AreTaken texts (Applies call) = TakesValues texts call.called call.values
AreTaken texts (Fails store told) = Unit {0}

-- A function that is called is there and has as many parameters as there are values, whatever the store holds.
pub record CallsAreTaken : Type 0 where
  pub applied : (texts : Texts) (allow : AllowList) (method : ℕ) (first : List Ty) (store : Store) (values : List Value) → AreTaken texts (applied texts allow method first store values)
  pub named : (texts : Texts) (allow own : AllowList) (text : Owner) (store : Store) (name : List ℕ) (values : List Value) → AreTaken texts (named texts allow own text store name values)

-- ---- what is left fits

-- the texts have each lambda that a store may hold, with as many parameters
abbrev pub HaveLambdas : Texts → Rules → Type 0
HaveLambdas texts rules = (owner : Owner) (number : ℕ) (lambda : Lambda) → rules.lambda owner number ≡ Some lambda → parameters_in texts owner number ≡ Some (parameters_of lambda)

-- the values of a call are there, and what is thrown leaves a store that fits
abbrev pub AppliedFits : Rules → Applied → Type 0
AppliedFits rules (Applies call) = Fits rules call.store.objects × AllFit (length call.store.objects) call.values
AppliedFits rules (Fails store told) = Fits rules store.objects × EffectFits rules told

-- Where a store fits, so does what comes of a call, of a cast that is due, and of an end for want of memory.
pub record CallsFit : Type 0 where
  pub applied : (rules : Rules) (texts : Texts) (allow : AllowList) (method : ℕ) (first : List Ty) (store : Store) (values : List Value) → HaveLambdas texts rules → Fits rules store.objects
      → AllFit (length store.objects) values → AppliedFits rules (applied texts allow method first store values)
  pub named : (rules : Rules) (texts : Texts) (allow own : AllowList) (text : Owner) (store : Store) (name : List ℕ) (values : List Value) → HaveLambdas texts rules → Fits rules store.objects
      → AllFit (length store.objects) values → AppliedFits rules (named texts allow own text store name values)
  pub due : (rules : Rules) (store : Store) (method : ℕ) (value : Value) → Fits rules store.objects → ValueFits (length store.objects) value → EffectFits rules (due_cast store method value)
  pub taken : (rules : Rules) (texts : Texts) (allow : AllowList) (old new : Store) → HaveLambdas texts rules → Taken texts allow old new → Fits rules old.objects → Fits rules new.objects

-- ---- what was there is there

abbrev pub AppliedLeaves : List Object → Applied → Type 0
AppliedLeaves before (Applies call) = StillThere before call.store.objects
AppliedLeaves before (Fails store told) = StillThere before store.objects × EffectLeaves store.objects told

-- Each object is there afterwards, of its kind, or with an interface that it has taken.
pub record CallsLeave : Type 0 where
  pub applied : (texts : Texts) (allow : AllowList) (method : ℕ) (first : List Ty) (store : Store) (values : List Value) → AppliedLeaves store.objects (applied texts allow method first store values)
  pub named : (texts : Texts) (allow own : AllowList) (text : Owner) (store : Store) (name : List ℕ) (values : List Value) → AppliedLeaves store.objects (named texts allow own text store name values)
  pub due : (store : Store) (method : ℕ) (value : Value) → EffectLeaves store.objects (due_cast store method value)
  pub taken : (texts : Texts) (allow : AllowList) (old new : Store) → Taken texts allow old new → StillThere old.objects new.objects

-- ---- chains

-- Where a function value has at most two arguments, a longer chain of references than three comes to nothing else.
abbrev pub ChainsEnd : Type 0
ChainsEnd = (more : ℕ) (texts : Texts) (allow : AllowList) (dues : List ℕ) (first : List Ty) (store : Store) (values : List Value) → length values ≤ 3
    → applied_within (suc (suc (suc more))) texts allow dues first store values ≡ applied_within 3 texts allow dues first store values
