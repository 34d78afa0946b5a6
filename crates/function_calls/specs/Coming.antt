-- What a function says of a call that a function value may come into.
use Rattle.std.specs.Prelude.{◌≡◌, ◌<◌, ℕ, true, Option, Some, None, List, [], ◌∷◌, length, slice_get}
use Rattle.allowlist.specs.Allow.{AllowList, flag}
use Rattle.object_values.specs.declared.object.Object.{Object}
use Rattle.object_values.specs.declared.object.Object.TheVariants as o
use Rattle.object_values.specs.declared.value.Value.{Value}
use Rattle.object_heap.specs.declared.answer.Answer.{Answer}
use Rattle.object_heap.specs.declared.answer.Answer.TheVariants as a
use Rattle.object_heap.specs.Effects.{Effect, Answers}
use Rattle.object_heap.specs.Store.{Store}
use Rattle.def_resolve.specs.declared.callee.Callee.{Callee}
use Rattle.def_resolve.specs.declared.callee.Callee.TheVariants as callee
use Rattle.def_resolve.specs.declared.function.Reference.{Reference}
use Rattle.def_resolve.specs.declared.function.Reference.TheVariants as reference
use Rattle.function_calls.specs.declared.aim.Aim.{Aim}
use Rattle.function_calls.specs.declared.aim.Aim.TheVariants as aim
use Rattle.function_calls.specs.declared.called.Dues.{Dues}
use Rattle.function_calls.specs.declared.called.Dues.TheVariants as due
use Rattle.function_calls.specs.declared.resolved.Resolved.{Resolved}
use Rattle.function_calls.specs.declared.resolved.Resolved.TheVariants as said
use Rattle.function_calls.specs.declared.stage.Staged.{Staged}
use Rattle.function_calls.specs.declared.stage.Staged.TheVariants as staged
use Rattle.function_calls.specs.declared.texts.Texts.{Texts}
use Rattle.function_calls.specs.Applying.{Applied, Applies, Fails, Lands, Moves, Stage, Stops}
use Rattle.function_calls.specs.Passing.{Passed, All, Ended, is_loose, takes, taken}

-- ---- interfaces

-- a function value that has no interface, with one
abbrev pub IsRenewal : ℕ → Option Object → Object → Type 0
IsRenewal iface (Some (o.Fun None target captures)) after = after ≡ o.Fun (Some iface) target captures
IsRenewal iface other after = ⊥

-- ---- stores that are left

-- The stores that arguments leave which are passed: function values without an interface have taken one, each in its place.
pub data Taken (texts : Texts) (allow : AllowList) (old : Store) : Store → Type 0 where
  none_taken : Taken texts allow old old
  one_taken : {now : Store} (id iface : ℕ) → Taken texts allow old now → is_loose (slice_get now.objects id) ≡ true → takes texts allow iface (slice_get now.objects id) ≡ true
      → Taken texts allow old (taken now id iface)

-- What ended a call: its effect on the store that was left before. There may have been no memory at any step.
abbrev pub EndsAs : Texts → AllowList → Store → Store → Effect → Store → Answer → Type 0
EndsAs texts allow old store told new a.NoMemory = Taken texts allow old new
EndsAs texts allow old store told new answer = Answers told store new answer

-- ---- arguments

-- none where the arguments were passed, and else what came of one
abbrev pub PassesAs : Texts → AllowList → Store → Passed → Store → List Value → Option Answer → Type 0
PassesAs texts allow old (All store values) new now None = (values ≡ now) × (store ≡ new) × Taken texts allow old new
PassesAs texts allow old (All store values) new now (Some a.NoMemory) = Taken texts allow old new
PassesAs texts allow old (All store values) new now (Some answer) = ⊥
PassesAs texts allow old (Ended store told) new now None = ⊥
PassesAs texts allow old (Ended store told) new now (Some answer) = EndsAs texts allow old store told new answer

-- what comes of the value at a place, if it is there
abbrev pub MeetsAs : Store → Store → (Value → Effect) → Option Value → Option Answer → Type 0
MeetsAs old new meets None None = new ≡ old
MeetsAs old new meets None (Some answer) = ⊥
MeetsAs old new meets (Some value) None = ⊥
MeetsAs old new meets (Some value) (Some answer) = Answers (meets value) old new answer

-- ---- one function value

-- what is thrown at once, if there is something
abbrev pub RefusesAs : Store → Option Effect → Store → Option Answer → Type 0
RefusesAs old None new None = new ≡ old
RefusesAs old None new (Some answer) = ⊥
RefusesAs old (Some told) new None = ⊥
RefusesAs old (Some told) new (Some answer) = Answers told old new answer

-- what is called once the arguments are passed
abbrev pub LandsAs : Store → Stage → Store → List Value → Staged → Type 0
LandsAs old stage new now (staged.Stops a.NoMemory) = new ≡ old
LandsAs old (Stops store told) new now (staged.Stops answer) = Answers told store new answer
LandsAs old (Lands what store values) new now (staged.Lands said) = (what ≡ said) × (store ≡ new) × (values ≡ now) × (new ≡ old)
LandsAs old (Moves method store values) new now (staged.Moves said) = (method ≡ said) × (store ≡ new) × (values ≡ now) × (new ≡ old)
LandsAs old stage new now other = ⊥

abbrev pub StagesAs : Texts → AllowList → Store → Stage → Store → List Value → Staged → Type 0
StagesAs texts allow old stage new now (staged.Stops a.NoMemory) = Taken texts allow old new
StagesAs texts allow old (Stops store told) new now (staged.Stops answer) = Answers told store new answer
StagesAs texts allow old (Lands what store values) new now (staged.Lands said) = (what ≡ said) × (store ≡ new) × (values ≡ now) × Taken texts allow old new
StagesAs texts allow old (Moves method store values) new now (staged.Moves said) = (method ≡ said) × (store ≡ new) × (values ≡ now) × Taken texts allow old new
StagesAs texts allow old stage new now other = ⊥

-- the members that are found and aimed at are of the list
abbrev pub MemberListed : AllowList → Option ℕ → Type 0
MemberListed allow None = Unit {0}
MemberListed allow (Some number) = flag allow.members number ≡ true

abbrev pub ReferenceListed : AllowList → Option Reference → Type 0
ReferenceListed allow None = Unit {0}
ReferenceListed allow (Some (reference.Static number)) = flag allow.members number ≡ true
ReferenceListed allow (Some (reference.Instance number)) = flag allow.members number ≡ true

abbrev pub AimListed : AllowList → Aim → Type 0
AimListed allow (aim.Static number doing) = flag allow.members number ≡ true
AimListed allow (aim.Instance class number doing) = flag allow.members number ≡ true
AimListed allow other = Unit {0}

-- what was found by a name is of the list, or a method of the catalogue, which every list knows
abbrev pub CalleeListed : AllowList → Option Callee → Type 0
CalleeListed allow None = Unit {0}
CalleeListed allow (Some (callee.Member number)) = flag allow.members number ≡ true
CalleeListed allow (Some (callee.Iface number)) = number < length allow.members

-- ---- calls

-- the methods of which casts are due, the last one first
abbrev pub listed : Dues → List ℕ
listed due.Nothing = []
listed (due.One last) = last ∷ []
listed (due.Two last before) = last ∷ before ∷ []
listed (due.Three last before first) = last ∷ before ∷ first ∷ []

-- What is called takes the values as they are now.
abbrev pub ComesAs : Texts → AllowList → Store → Applied → Store → List Value → Resolved → Type 0
ComesAs texts allow old applied new now (said.Acts a.NoMemory) = Taken texts allow old new
ComesAs texts allow old (Fails store told) new now (said.Acts answer) = Answers told store new answer
ComesAs texts allow old (Applies call) new now (said.Calls what text dues) =
    (call.called ≡ what) × (call.text ≡ text) × (call.dues ≡ listed dues) × (call.store ≡ new) × (call.values ≡ now) × Taken texts allow old new
ComesAs texts allow old applied new now other = ⊥
