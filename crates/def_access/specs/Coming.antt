-- What a function says of an access.
use Rattle.std.specs.Prelude.{◌≡◌, ℕ, ℤ, true, false, Option, Some, None, List, [], ◌∷◌, length, slice_set, Result, Ok, Err}
use Rattle.pl_types.specs.declared.ty.Ty.{Ty}
use Rattle.allowlist.specs.Allow.{AllowList, flag}
use Rattle.allowlist.specs.Index.{member_in}
use Rattle.object_values.specs.declared.object.Object.{Object}
use Rattle.object_values.specs.declared.value.Value.{Value}
use Rattle.object_values.specs.declared.value.Value.TheVariants as v
use Rattle.object_heap.specs.declared.answer.Answer.{Answer}
use Rattle.object_heap.specs.declared.answer.Answer.TheVariants as a
use Rattle.object_heap.specs.Effects.{Answers}
use Rattle.object_heap.specs.Store.{Store}
use Rattle.number_ops.specs.declared.outcome.Outcome.{Outcome}
use Rattle.number_ops.specs.declared.outcome.Outcome.TheVariants as outcome
use Rattle.number_ops.specs.Outcomes.{effect}
use Rattle.container_ops.specs.Types.{on_null, on_other_kind}
use Rattle.def_resolve.specs.declared.access.NameAccess.{NameAccess}
use Rattle.def_resolve.specs.declared.access.NameAccess.TheVariants as by_name
use Rattle.def_resolve.specs.declared.callee.Callee.{Callee}
use Rattle.def_resolve.specs.declared.callee.Callee.TheVariants.{Member, Iface}
use Rattle.def_resolve.specs.Failures.{fails, no_method}
use Rattle.def_resolve.specs.Resolution.{class_of}
use Rattle.def_access.specs.Access.{Access, Calls, Acts, Casts, All, Ended, called_by, calls_with, cast_to, casts_from, method_called, target_for, with_index}
use Rattle.def_access.specs.declared.accessed.Accessed.{Accessed}
use Rattle.def_access.specs.declared.accessed.Accessed.TheVariants as said

-- a call of a member with these arguments, before which nothing is changed
abbrev pub CallsAs : Access → Store → Store → ℕ → List Value → Type 0
CallsAs (Calls number arguments) old new said values = (number ≡ said) × (arguments ≡ values) × (new ≡ old)
CallsAs (Acts effect) old new said values = ⊥

-- what is done or thrown at once; there may be no memory for what is made before a call
abbrev pub ActsAs : Access → Store → Store → Answer → Type 0
ActsAs (Acts effect) old new answer = Answers effect old new answer
ActsAs (Calls number arguments) old new a.NoMemory = new ≡ old
ActsAs (Calls number arguments) old new answer = ⊥

-- A member is called on the receiver with the others as they are now, or with another one before them.
abbrev pub Comes : Access → Store → Store → Value → List Value → Accessed → Type 0
Comes access old new receiver others (said.Calls number) = CallsAs access old new number (receiver ∷ others)
Comes access old new receiver others (said.CallsWith number first) = CallsAs access old new number (receiver ∷ first ∷ others)
Comes access old new receiver others (said.Acts answer) = ActsAs access old new answer

-- a method that is called on the first of these values with the others; where there is none it is as if it were null
abbrev pub called_on : AllowList → Store → List ℕ → List Value → Option Callee → Access
called_on allow store name [] found = Acts (on_null store)
called_on allow store name (receiver ∷ arguments) found = called_by allow store receiver name arguments found

-- the same where no method is found
abbrev pub not_found_on : Store → List ℕ → List Value → Access
not_found_on store name [] = Acts (on_null store)
not_found_on store name (receiver ∷ arguments) = Acts (fails store (no_method store.objects receiver name (length arguments)))

-- the same of a member that is built
abbrev pub built_on : AllowList → Store → ℕ → List Value → Access
built_on allow store number [] = Acts (on_null store)
built_on allow store number (receiver ∷ arguments) = calls_with store number (casts_from store.objects (member_in allow number).params 1 (receiver ∷ arguments))

-- what a call on the first of these values means
abbrev pub found_on : AllowList → List Object → List ℕ → List Value → Option Callee
found_on allow objects name [] = None
found_on allow objects name (receiver ∷ arguments) = target_for allow name (length arguments) (class_of objects receiver)

abbrev pub method_called_on : AllowList → Store → List ℕ → List Value → Access
method_called_on allow store name [] = Acts (on_null store)
method_called_on allow store name (receiver ∷ arguments) = method_called allow store receiver name arguments

abbrev pub ComesOn : Access → Store → Store → List Value → Accessed → Type 0
ComesOn access old new values (said.Calls number) = CallsAs access old new number values
ComesOn access old new values (said.CallsWith number first) = ⊥
ComesOn access old new values (said.Acts answer) = ActsAs access old new answer

-- ---- casts

-- an index, and what comes of a value that is none
abbrev pub IsIndex : Outcome → ℤ → Store → Store → Type 0
IsIndex told at old new = (told ≡ outcome.Gives (v.Int at)) × (new ≡ old)

abbrev pub EndsIndex : Outcome → Store → Store → Answer → Type 0
EndsIndex told old new answer = (next : ℤ → Access) → ActsAs (with_index old told next) old new answer

abbrev pub IndexSaid : Outcome → Store → Store → Result ℤ Answer → Type 0
IndexSaid told old new (Ok at) = IsIndex told at old new
IndexSaid told old new (Err answer) = EndsIndex told old new answer

-- what is in a value that was cast to int
abbrev pub int_of : Value → Option ℤ
int_of (v.Int at) = Some at
int_of value = None

abbrev pub IntIn : Value → Store → Store → Result ℤ Answer → Type 0
IntIn value old new (Ok at) = (int_of value ≡ Some at) × (new ≡ old)
IntIn value old new (Err answer) = (int_of value ≡ None) × Answers (on_other_kind old) old new answer

-- what comes of the cast of a value, if it is there, and what is put in its place
abbrev pub ToldAt : Store → Store → Ty → Option Value → Option Answer → Type 0
ToldAt old new of None None = new ≡ old
ToldAt old new of None (Some answer) = ⊥
ToldAt old new of (Some value) None = ⊥
ToldAt old new of (Some value) (Some answer) = Answers (effect old (cast_to old.objects value of)) old new answer

abbrev pub Puts : List Value → ℕ → Answer → List Value → Option Answer → Type 0
Puts values at (a.Value cast) now None = now ≡ slice_set values at cast
Puts values at (a.Value cast) now (Some answer) = ⊥
Puts values at told now None = ⊥
Puts values at told now (Some answer) = answer ≡ told

-- none where the values were cast, and else what came of one
abbrev pub CastsAs : Casts → Store → Store → List Value → Option Answer → Type 0
CastsAs (All values) old new now None = (values ≡ now) × (new ≡ old)
CastsAs (All values) old new now (Some a.NoMemory) = new ≡ old
CastsAs (All values) old new now (Some answer) = ⊥
CastsAs (Ended told) old new now None = ⊥
CastsAs (Ended told) old new now (Some answer) = Answers (effect old told) old new answer

-- ---- what was found is of the list

abbrev pub CalleeListed : AllowList → Option Callee → Type 0
CalleeListed allow None = Unit {0}
CalleeListed allow (Some (Member number)) = flag allow.members number ≡ true
CalleeListed allow (Some (Iface number)) = Unit {0}

abbrev pub NameListed : AllowList → Option NameAccess → Type 0
NameListed allow None = Unit {0}
NameListed allow (Some (by_name.Accessor number)) = flag allow.members number ≡ true
NameListed allow (Some other) = Unit {0}
