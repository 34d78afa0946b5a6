-- What each call keeps: where the heap and what is handed in fit a program or a code, the heap fits it afterwards.
use Rattle.std.specs.Prelude.{◌≡◌, ℕ, Bool, true, Option, Some, List, [], ◌∷◌, ◌++◌, length, map, slice_get, Result}
use Rattle.pl_types.specs.declared.classes.TheConstants.{EXCEPTION}
use Rattle.pl_types.specs.Classes.{class_is_below}
use Rattle.object_values.specs.declared.value.Value.{Value}
use Rattle.object_values.specs.declared.object.Object.{Object}
use Rattle.object_values.specs.declared.object.Owner.TheVariants.{Prelude}
use Rattle.object_values.specs.Values.{is_simple}
use Rattle.object_values.specs.Pairs.{value_of}
use Rattle.object_heap.specs.declared.answer.Answer.{Answer}
use Rattle.object_heap.specs.declared.error.HeapErr.{HeapErr}
use Rattle.object_heap.specs.Effects.{Effect, Answers, throws}
use Rattle.object_heap.specs.Fits.{kinds, Rules, ValueFits, AllFit, ObjectFits, Fits, ItemFits, PutsFit, EffectFits, AnswerFits}
use Rattle.object_heap.specs.Objects.{with_item, with_inserted, with_all_inserted, with_removed, with_put, with_all_put, with_key_cut, with_pair_cut, with_units, with_spliced, renewed_by, retired}
use Rattle.object_heap.specs.Parts.{items_of, pairs_of, captures_of}
use Rattle.object_heap.specs.Paying.{Pays, PaysSurely}
use Rattle.object_heap.specs.Store.{Store, with_change}

abbrev pub NewFits : Type 0
NewFits = (rules : Rules) → Fits rules []

-- After the end of a script the heap fits the next program or code, whatever lambdas that script has, if the prelude is the same
abbrev pub RefillFits : Type 0
RefillFits = (rules next : Rules) (objects : List Object) → rules.typed ≡ next.typed → ((number : ℕ) → rules.lambda Prelude number ≡ next.lambda Prelude number)
    → Fits rules objects → Fits next (map retired objects)

abbrev pub ChargeFits : Type 0
ChargeFits = (rules : Rules) (old new : Store) (units : ℕ) (result : Result (Unit {0}) HeapErr) → Pays old new old.objects units result
    → Fits rules old.objects → Fits rules new.objects

abbrev pub PlaceFits : Type 0
PlaceFits = (rules : Rules) (objects : List Object) (object : Object) → Fits rules objects → ObjectFits rules (kinds objects) object → Fits rules (objects ++ object ∷ [])

abbrev pub AddFits : Type 0
AddFits = (rules : Rules) (old new : Store) (object : Object) (result : Result ℕ HeapErr) → Pays old new (old.objects ++ object ∷ []) 0 result
    → Fits rules old.objects → ObjectFits rules (kinds old.objects) object → Fits rules new.objects

abbrev pub RenewFits : Type 0
RenewFits = (rules : Rules) (old new : Store) (id : ℕ) (object : Object) (result : Bool) → PaysSurely old new (with_change old.objects id (renewed_by object)) 0 result
    → Fits rules old.objects → ObjectFits rules (kinds old.objects) object → Fits rules new.objects

-- a value written into an array has the element type
abbrev pub PutFits : Type 0
PutFits = (rules : Rules) (objects : List Object) (id at : ℕ) (value : Value) → Fits rules objects → ValueFits (length objects) value
    → ItemFits rules.typed (kinds objects) value (slice_get objects id) → Fits rules (with_change objects id (with_item at value))

abbrev pub GrowFits : Type 0
GrowFits = (rules : Rules) (old new : Store) (id at : ℕ) (value : Value) (result : Result (Unit {0}) HeapErr)
    → Pays old new (with_change old.objects id (with_inserted at value)) 0 result → Fits rules old.objects → ValueFits (length old.objects) value → Fits rules new.objects

abbrev pub ExtendFits : Type 0
ExtendFits = (rules : Rules) (old new : Store) (id at : ℕ) (more : List Value) (result : Result (Unit {0}) HeapErr)
    → Pays old new (with_change old.objects id (with_all_inserted at more)) 0 result → Fits rules old.objects → AllFit (length old.objects) more → Fits rules new.objects

abbrev pub CutFits : Type 0
CutFits = (rules : Rules) (objects : List Object) (id at : ℕ) → Fits rules objects → Fits rules (with_change objects id (with_removed at))

-- a key that is put is simple
abbrev pub MapPutFits : Type 0
MapPutFits = (rules : Rules) (old new : Store) (id : ℕ) (key value : Value) (result : Result (Option Value) HeapErr)
    → Pays old new (with_change old.objects id (with_put key value)) 0 result
    → Fits rules old.objects → is_simple key ≡ true → ValueFits (length old.objects) value → Fits rules new.objects

-- keys that are put are simple, and go to a set with null
abbrev pub MapExtendFits : Type 0
MapExtendFits = (rules : Rules) (old new : Store) (id : ℕ) (more : List (Value × Value)) (result : Result (Unit {0}) HeapErr)
    → Pays old new (with_change old.objects id (with_all_put more)) 0 result → Fits rules old.objects → PutsFit (length old.objects) more (slice_get old.objects id) → Fits rules new.objects

abbrev pub MapCutFits : Type 0
MapCutFits = (rules : Rules) (objects : List Object) (id : ℕ) (key : Value) → Fits rules objects → Fits rules (with_change objects id (with_key_cut key))

abbrev pub MapCutAtFits : Type 0
MapCutAtFits = (rules : Rules) (objects : List Object) (id at : ℕ) → Fits rules objects → Fits rules (with_change objects id (with_pair_cut at))

abbrev pub AppendFits : Type 0
AppendFits = (rules : Rules) (old new : Store) (id : ℕ) (more : List ℕ) (result : Result (Unit {0}) HeapErr)
    → Pays old new (with_change old.objects id (with_units more)) 0 result → Fits rules old.objects → Fits rules new.objects

abbrev pub SpliceFits : Type 0
SpliceFits = (rules : Rules) (old new : Store) (id from to : ℕ) (more : List ℕ) (result : Result (Unit {0}) HeapErr)
    → Pays old new (with_change old.objects id (with_spliced from to more)) 0 result → Fits rules old.objects → Fits rules new.objects

abbrev pub ThrowFits : Type 0
ThrowFits = (rules : Rules) (old new : Store) (class : ℕ) (message : Option (List ℕ)) (answer : Answer) → Answers (throws old class message) old new answer
    → Fits rules old.objects → class_is_below class EXCEPTION ≡ true → AnswerFits rules new answer

-- where what a member does fits, so does what its call answers
abbrev pub AnswersFit : Type 0
AnswersFit = (rules : Rules) (effect : Effect) (old new : Store) (answer : Answer) → Answers effect old new answer
    → Fits rules old.objects → EffectFits rules effect → AnswerFits rules new answer

-- what is read of a heap that fits is there
abbrev pub ItemsFit : Type 0
ItemsFit = (rules : Rules) (objects : List Object) (id : ℕ) → Fits rules objects → AllFit (length objects) (items_of objects id)

abbrev pub ValuesFit : Type 0
ValuesFit = (rules : Rules) (objects : List Object) (id : ℕ) (key value : Value) → Fits rules objects → value_of (pairs_of objects id) key ≡ Some value → ValueFits (length objects) value

abbrev pub CapturesFit : Type 0
CapturesFit = (rules : Rules) (objects : List Object) (id : ℕ) → Fits rules objects → AllFit (length objects) (captures_of objects id)
