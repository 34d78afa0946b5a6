-- What is said of a call, part by part.
use Rattle.std.proofs.Common.{◌≡◌, ℕ, Option, Some, None, List, [], refl, sym, ap, ◌∙◌, subst}
use Rattle.allowlist.specs.Allow.{AllowList}
use Rattle.object_values.specs.declared.object.Owner.{Owner}
use Rattle.object_values.specs.declared.object.Owner.TheVariants.{Script}
use Rattle.object_values.specs.declared.value.Value.{Value}
use Rattle.object_heap.specs.declared.answer.Answer.{Answer}
use Rattle.object_heap.specs.declared.answer.Answer.TheVariants as a
use Rattle.object_heap.specs.Effects.{Answers, Effect}
use Rattle.object_heap.specs.Store.{Store}
use Rattle.function_calls.specs.declared.aim.Doing.{Doing}
use Rattle.function_calls.specs.declared.aim.Doing.TheVariants as does
use Rattle.function_calls.specs.declared.called.Called.{Called}
use Rattle.function_calls.specs.declared.called.Dues.{Dues}
use Rattle.function_calls.specs.declared.called.Dues.TheVariants as due
use Rattle.function_calls.specs.declared.resolved.Resolved.{Resolved}
use Rattle.function_calls.specs.declared.resolved.Resolved.TheVariants as said
use Rattle.function_calls.specs.declared.stage.Staged.{Staged}
use Rattle.function_calls.specs.declared.stage.Staged.TheVariants as staged
use Rattle.function_calls.specs.declared.texts.Texts.{Texts}
use Rattle.function_calls.specs.Applying.{Applied, Applies, Fails, Lands, Moves, Stage, Stops, direct, goes_on, member_done, not_found}
use Rattle.function_calls.specs.Coming.{ComesAs, PassesAs, StagesAs, Taken, listed}
use Rattle.function_calls.specs.Passing.{Passed, All, Ended}
use Rattle.function_calls.proofs.Renewing.{same_store, taken_then}

abbrev Next : Type 0
Next = ℕ → Store → List Value → Applied

-- ---- one function value

pub lands_come : (texts : Texts) (allow : AllowList) (old new : Store) (stage : Stage) (dues : List ℕ) (next : Next) (now : List Value) (what : Called) (owed : Dues) → dues ≡ listed owed
    → StagesAs texts allow old stage new now (staged.Lands what) → ComesAs texts allow old (goes_on stage dues next) new now (said.Calls what Script owed)
lands_come texts allow old new (Lands called store values) dues next now what owed e h = (h.0, refl, e, h.1, h.2, h.3)
lands_come texts allow old new (Moves method store values) dues next now what owed e h = absurd h
lands_come texts allow old new (Stops store told) dues next now what owed e h = absurd h

pub stops_come : (texts : Texts) (allow : AllowList) (old new : Store) (stage : Stage) (dues : List ℕ) (next : Next) (now : List Value) (answer : Answer)
    → StagesAs texts allow old stage new now (staged.Stops answer) → ComesAs texts allow old (goes_on stage dues next) new now (said.Acts answer)
stops_come texts allow old new stage dues next now a.NoMemory h = h
stops_come texts allow old new (Stops store told) dues next now (a.Value value) h = h
stops_come texts allow old new (Stops store told) dues next now (a.Thrown id) h = h
stops_come texts allow old new (Stops store told) dues next now a.Room h = h
stops_come texts allow old new (Lands called store values) dues next now (a.Value value) h = absurd h
stops_come texts allow old new (Lands called store values) dues next now (a.Thrown id) h = absurd h
stops_come texts allow old new (Lands called store values) dues next now a.Room h = absurd h
stops_come texts allow old new (Moves method store values) dues next now (a.Value value) h = absurd h
stops_come texts allow old new (Moves method store values) dues next now (a.Thrown id) h = absurd h
stops_come texts allow old new (Moves method store values) dues next now a.Room h = absurd h

later_comes : (texts : Texts) (allow : AllowList) (old mid : Store) (applied : Applied) (new : Store) (now : List Value) (result : Resolved) → Taken texts allow old mid
    → ComesAs texts allow mid applied new now result → ComesAs texts allow old applied new now result
later_comes texts allow old mid applied new now (said.Acts a.NoMemory) t h = taken_then texts allow old mid new t h
later_comes texts allow old mid (Fails store told) new now (said.Acts (a.Value value)) t h = h
later_comes texts allow old mid (Fails store told) new now (said.Acts (a.Thrown id)) t h = h
later_comes texts allow old mid (Fails store told) new now (said.Acts a.Room) t h = h
later_comes texts allow old mid (Fails store told) new now (said.Calls what text dues) t h = h
later_comes texts allow old mid (Applies call) new now (said.Calls what text dues) t h =
    (h.0, h.1, h.2, h.3, h.4, taken_then texts allow old mid new t h.5)
later_comes texts allow old mid (Applies call) new now (said.Acts (a.Value value)) t h = h
later_comes texts allow old mid (Applies call) new now (said.Acts (a.Thrown id)) t h = h
later_comes texts allow old mid (Applies call) new now (said.Acts a.Room) t h = h

pub moves_come : (texts : Texts) (allow : AllowList) (old mid new : Store) (stage : Stage) (dues : List ℕ) (next : Next) (middle now : List Value) (method : ℕ) (result : Resolved)
    → StagesAs texts allow old stage mid middle (staged.Moves method) → ComesAs texts allow mid (next method mid middle) new now result
    → ComesAs texts allow old (goes_on stage dues next) new now result
moves_come texts allow old mid new (Lands called store values) dues next middle now method result h k = absurd h
moves_come texts allow old mid new (Stops store told) dues next middle now method result h k = absurd h
moves_come texts allow old mid new (Moves to store values) dues next middle now method result h k =
    let same : next to store values ≡ next method mid middle =
    ap (λ (m : ℕ). next m store values) h.0 ∙ ap (λ (s : Store). next method s values) h.1 ∙ ap (next method mid) h.2 in
    subst (λ (x : Applied). ComesAs texts allow old x new now result) (sym same) (later_comes texts allow old mid (next method mid middle) new now result h.3 k)

-- ---- what fails at once

pub fails_come : (texts : Texts) (allow : AllowList) (old new : Store) (told : Effect) (now : List Value) (answer : Answer) → Answers told old new answer
    → ComesAs texts allow old (Fails old told) new now (said.Acts answer)
fails_come texts allow old new told now (a.Value value) h = h
fails_come texts allow old new told now (a.Thrown id) h = h
fails_come texts allow old new told now a.Room h = h
fails_come texts allow old new told now a.NoMemory h = same_store texts allow old new h

-- ---- what is called by its name

pub direct_ends : (texts : Texts) (allow : AllowList) (old new : Store) (text : Owner) (what : Called) (p : Passed) (now : List Value) (answer : Answer)
    → PassesAs texts allow old p new now (Some answer) → ComesAs texts allow old (direct text what p) new now (said.Acts answer)
direct_ends texts allow old new text what (All store values) now (a.Value value) h = absurd h
direct_ends texts allow old new text what (All store values) now (a.Thrown id) h = absurd h
direct_ends texts allow old new text what (All store values) now a.Room h = absurd h
direct_ends texts allow old new text what (All store values) now a.NoMemory h = h
direct_ends texts allow old new text what (Ended store told) now (a.Value value) h = h
direct_ends texts allow old new text what (Ended store told) now (a.Thrown id) h = h
direct_ends texts allow old new text what (Ended store told) now a.Room h = h
direct_ends texts allow old new text what (Ended store told) now a.NoMemory h = h

pub direct_comes : (texts : Texts) (allow : AllowList) (old new : Store) (text : Owner) (what : Called) (p : Passed) (now : List Value) → PassesAs texts allow old p new now None
    → ComesAs texts allow old (direct text what p) new now (said.Calls what text due.Nothing)
direct_comes texts allow old new text what (Ended store told) now h = absurd h
direct_comes texts allow old new text what (All store values) now h = (refl, refl, refl, h.1, h.0, h.2)

-- ---- what no member does

-- nobody does it, or what its receiver calls, which is not called by a member's name
abbrev pub IsUndone : Option Doing → Type 0
IsUndone None = Unit {0}
IsUndone (Some does.Receiver) = Unit {0}
IsUndone (Some doing) = ⊥

undone : (texts : Texts) (allow own : AllowList) (text : Owner) (store : Store) (name : List ℕ) (values : List Value) (number : ℕ) (said : Option Doing) → IsUndone said
    → member_done texts allow own text store name values number said ≡ Fails store (not_found store name values)
undone texts allow own text store name values number None h = refl
undone texts allow own text store name values number (Some does.Receiver) h = refl
undone texts allow own text store name values number (Some does.Itself) h = absurd h
undone texts allow own text store name values number (Some (does.Prelude function)) h = absurd h

pub done_by_none : (texts : Texts) (allow own : AllowList) (text : Owner) (old new : Store) (name : List ℕ) (values : List Value) (number : ℕ) (doing said : Option Doing) → doing ≡ said → IsUndone said
    → (result : Resolved) → ComesAs texts allow old (Fails old (not_found old name values)) new values result
    → ComesAs texts allow old (member_done texts allow own text old name values number doing) new values result
done_by_none texts allow own text old new name values number doing said e u result h =
    subst (λ (x : Applied). ComesAs texts allow old x new values result)
    (sym (ap (member_done texts allow own text old name values number) e ∙ undone texts allow own text old name values number said u)) h
