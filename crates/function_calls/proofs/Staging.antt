-- What is said of one function value, part by part.
use Rattle.std.proofs.Common.{◌≡◌, Option, Some, None, List, refl, sym, ap, ◌∙◌, subst}
use Rattle.pl_types.specs.declared.ty.Ty.{Ty}
use Rattle.allowlist.specs.Allow.{AllowList}
use Rattle.object_values.specs.declared.value.Value.{Value}
use Rattle.object_heap.specs.declared.answer.Answer.{Answer}
use Rattle.object_heap.specs.declared.answer.Answer.TheVariants as a
use Rattle.object_heap.specs.Effects.{Effect}
use Rattle.object_heap.specs.Store.{Store}
use Rattle.function_calls.specs.declared.aim.Aim.{Aim}
use Rattle.function_calls.specs.declared.stage.Staged.{Staged}
use Rattle.function_calls.specs.declared.stage.Staged.TheVariants as staged
use Rattle.function_calls.specs.declared.texts.Texts.{Texts}
use Rattle.function_calls.specs.Applying.{Lands, Moves, Stage, Stops, after_casts, aimed_unless, landed}
use Rattle.function_calls.specs.Coming.{LandsAs, PassesAs, RefusesAs, StagesAs, Taken}
use Rattle.function_calls.specs.Passing.{Passed, All, Ended, passed_from, passed_twice}
use Rattle.function_calls.specs.Targets.{own_types}
use Rattle.function_calls.proofs.Renewing.{same_store}

-- ---- what is refused

stopped : (texts : Texts) (allow : AllowList) (old new : Store) (told : Effect) (now : List Value) (answer : Answer) → RefusesAs old (Some told) new (Some answer)
    → StagesAs texts allow old (Stops old told) new now (staged.Stops answer)
stopped texts allow old new told now (a.Value value) h = h
stopped texts allow old new told now (a.Thrown id) h = h
stopped texts allow old new told now a.Room h = h
stopped texts allow old new told now a.NoMemory h = same_store texts allow old new h

pub refused_stage : (texts : Texts) (allow : AllowList) (first : List Ty) (old new : Store) (values now : List Value) (of : Aim) (refusal : Option Effect) (answer : Answer)
    → RefusesAs old refusal new (Some answer) → StagesAs texts allow old (aimed_unless refusal texts allow first old values of) new now (staged.Stops answer)
refused_stage texts allow first old new values now of None answer h = absurd h
refused_stage texts allow first old new values now of (Some told) answer h = stopped texts allow old new told now answer h

-- ---- arguments that are passed to what is called

-- what casts no argument leaves them as they are, by whatever it is that is aimed at
pub nothing_cast : (texts : Texts) (allow : AllowList) (store : Store) (values : List Value) (of said : Aim) → of ≡ said
    → PassesAs texts allow store (passed_from texts allow (own_types allow said) 1 store values) store values None
    → PassesAs texts allow store (passed_from texts allow (own_types allow of) 1 store values) store values None
nothing_cast texts allow store values of said e h =
    subst (λ (a : Aim). PassesAs texts allow store (passed_from texts allow (own_types allow a) 1 store values) store values None) (sym e) h

-- ---- what ends as arguments are passed

pub cast_ends : (texts : Texts) (allow : AllowList) (old new : Store) (of : Aim) (p : Passed) (now : List Value) (answer : Answer) → PassesAs texts allow old p new now (Some answer)
    → StagesAs texts allow old (after_casts of p) new now (staged.Stops answer)
cast_ends texts allow old new of (All store values) now (a.Value value) h = absurd h
cast_ends texts allow old new of (All store values) now (a.Thrown id) h = absurd h
cast_ends texts allow old new of (All store values) now a.Room h = absurd h
cast_ends texts allow old new of (All store values) now a.NoMemory h = h
cast_ends texts allow old new of (Ended store told) now (a.Value value) h = h
cast_ends texts allow old new of (Ended store told) now (a.Thrown id) h = h
cast_ends texts allow old new of (Ended store told) now a.Room h = h
cast_ends texts allow old new of (Ended store told) now a.NoMemory h = h

-- what is not refused goes on on the store that is left as it was
pub aimed_on : (texts : Texts) (allow : AllowList) (first : List Ty) (old mid new : Store) (values now : List Value) (of : Aim) (refusal : Option Effect) (result : Staged) → RefusesAs old refusal mid None
    → StagesAs texts allow mid (after_casts of (passed_twice texts allow first (own_types allow of) mid values)) new now result
    → StagesAs texts allow old (aimed_unless refusal texts allow first old values of) new now result
aimed_on texts allow first old mid new values now of (Some told) result h k = absurd h
aimed_on texts allow first old mid new values now of None result h k =
    subst (λ (s : Store). StagesAs texts allow s (after_casts of (passed_twice texts allow first (own_types allow of) s values)) new now result) h k

-- ---- what is called then

later_taken : (texts : Texts) (allow : AllowList) (old mid new : Store) → Taken texts allow old mid → new ≡ mid → Taken texts allow old new
later_taken texts allow old mid new t e = subst (λ (s : Store). Taken texts allow old s) (sym e) t

lands_stage : (texts : Texts) (allow : AllowList) (old mid : Store) (stage : Stage) (new : Store) (now : List Value) (result : Staged) → Taken texts allow old mid → LandsAs mid stage new now result
    → StagesAs texts allow old stage new now result
lands_stage texts allow old mid stage new now (staged.Stops a.NoMemory) t h = later_taken texts allow old mid new t h
lands_stage texts allow old mid (Stops store told) new now (staged.Stops (a.Value value)) t h = h
lands_stage texts allow old mid (Stops store told) new now (staged.Stops (a.Thrown id)) t h = h
lands_stage texts allow old mid (Stops store told) new now (staged.Stops a.Room) t h = h
lands_stage texts allow old mid (Stops store told) new now (staged.Lands said) t h = h
lands_stage texts allow old mid (Stops store told) new now (staged.Moves said) t h = h
lands_stage texts allow old mid (Lands what store values) new now (staged.Lands said) t h = (h.0, h.1, h.2, later_taken texts allow old mid new t h.3)
lands_stage texts allow old mid (Lands what store values) new now (staged.Moves said) t h = h
lands_stage texts allow old mid (Lands what store values) new now (staged.Stops (a.Value value)) t h = h
lands_stage texts allow old mid (Lands what store values) new now (staged.Stops (a.Thrown id)) t h = h
lands_stage texts allow old mid (Lands what store values) new now (staged.Stops a.Room) t h = h
lands_stage texts allow old mid (Moves method store values) new now (staged.Moves said) t h = (h.0, h.1, h.2, later_taken texts allow old mid new t h.3)
lands_stage texts allow old mid (Moves method store values) new now (staged.Lands said) t h = h
lands_stage texts allow old mid (Moves method store values) new now (staged.Stops (a.Value value)) t h = h
lands_stage texts allow old mid (Moves method store values) new now (staged.Stops (a.Thrown id)) t h = h
lands_stage texts allow old mid (Moves method store values) new now (staged.Stops a.Room) t h = h

pub after_passed : (texts : Texts) (allow : AllowList) (old mid new : Store) (of : Aim) (p : Passed) (middle now : List Value) (result : Staged) → PassesAs texts allow old p mid middle None
    → LandsAs mid (landed of mid middle) new now result → StagesAs texts allow old (after_casts of p) new now result
after_passed texts allow old mid new of (Ended store told) middle now result h k = absurd h
after_passed texts allow old mid new of (All store values) middle now result h k =
    let same : landed of store values ≡ landed of mid middle = ap (landed of store) h.0 ∙ ap (λ (s : Store). landed of s middle) h.1 in
    subst (λ (s : Stage). StagesAs texts allow old s new now result) (sym same) (lands_stage texts allow old mid (landed of mid middle) new now result h.2 k)
