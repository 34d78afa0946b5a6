-- Calls and returns on the fast path.
use Rattle.std.proofs.Common.{◌≡◌, ℕ, ◌-◌, ◌<◌, Bool, true, false, List, [], ◌∷◌, length, Option, Some, refl, ap, sym, subst, ◌∙◌}
use Rattle.std.specs.Prelude.{slice_get, if◌then◌else◌}
use Rattle.std.proofs.lemmas.Bool.{lt-ltb}
use Rattle.object_heap.specs.Store.{Store}
use Rattle.pl_code.specs.declared.code.FunCode.{FunCode}
use Rattle.pl_code.specs.declared.code.Instruction.{Instruction}
use Rattle.run_state.specs.World.{World, Limits, limits_for, Counts, Passes, Ticks, Depth, enter, goes_deeper, pay_tick}
use Rattle.code_meaning.specs.declared.word.Word.{Word}
use Rattle.code_meaning.specs.Machine.{Codes, Config, Frame, Goes, Next, act, acts, depth_of, function_of, gives_back, lines_of, on_call, on_enter, on_top, on_words, step, take_words}
use Rattle.machine_paths.specs.Fast.{Does, KeepsRoom, StaysIn, Takes, in_world, moves, placed, stays}
use Rattle.machine_parts.specs.Frames.{Enters, GivesBack, Laid}
use Rattle.machine_paths.specs.declared.fast_calls.Taken.{Taken}
use Rattle.machine_paths.specs.declared.fast_calls.Taken.TheVariants as taken
use Rattle.machine_paths.specs.Steps.{TurnsFit}
use Rattle.machine_paths.proofs.Entered.{entered}
use Rattle.machine_paths.proofs.Counting.{counts_on}
use Rattle.machine_paths.proofs.Quick.{of_upper}

pub takes_stays : (next : Next) (old new : Config) (done : Bool) → Does next old new done → Takes next old new (stays done)
takes_stays next old new true h = h
takes_stays next old new false h = h

pub takes_moves : (next : Next) (old new : Config) (done : Bool) → Does next old new done → Takes next old new (moves done)
takes_moves next old new true h = h
takes_moves next old new false h = h

pub stayed : (old new : Frame) (done : Bool) → new.text ≡ old.text → new.fun ≡ old.fun → StaysIn old new (stays done)
stayed old new true text fun = (text, fun)
stayed old new false text fun = tt

pub as_takes : (first second : Next) (old new : Config) (t : Taken) → first ≡ second → Takes second old new t → Takes first old new t
as_takes first second old new taken.Here e h = e ∙ h
as_takes first second old new taken.Elsewhere e h = e ∙ h
as_takes first second old new taken.Not e h = h

pub went_here : (next : Next) (old new : Config) (t : Taken) → t ≡ taken.Here → Takes next old new t → next ≡ Goes new
went_here next old new t e h = subst (Takes next old new) e h

pub went_elsewhere : (next : Next) (old new : Config) (t : Taken) → t ≡ taken.Elsewhere → Takes next old new t → next ≡ Goes new
went_elsewhere next old new t e h = subst (Takes next old new) e h

pub not_taken : (next : Next) (old new : Config) (t : Taken) → t ≡ taken.Not → Takes next old new t → new ≡ old
not_taken next old new t e h = subst (Takes next old new) e h

pub stays_in : (old new : Frame) (t : Taken) → t ≡ taken.Here → StaysIn old new t → (new.text ≡ old.text) × (new.fun ≡ old.fun)
stays_in old new t e h = subst (StaysIn old new) e h

pub kept_room : (a b c : Laid) → KeepsRoom a b → KeepsRoom b c → KeepsRoom a c
kept_room a b c h g = (g.0 ∙ h.0, g.1 ∙ h.1)

-- an instruction that is done under all limits of turns and of depth like these keeps the turns and the ticks within 64 bits
pub counts_still : (codes : Codes) (loops depth : ℕ) (old new : Laid) (ticks after : ℕ) → TurnsFit ticks (old.top ∷ old.below)
    → ((limits : Limits) (store : Store) (reached : List ℕ) → limits.loop ≡ loops → limits.depth ≡ depth → step codes limits (placed old store ticks reached) ≡ Goes (placed new store after reached))
    → TurnsFit after (new.top ∷ new.below)
counts_still codes loops depth old new ticks after h e =
    let limits : Limits = limits_for loops depth (record { classes = []; members = [] }) in
    let store : Store = record { objects = []; room = 0 } in
    counts_on codes limits (placed old store ticks []) (placed new store after []) h (e limits store [] refl refl)

-- the tick of a call is paid, and the depth allows it
pays : (limits : Limits) (depth ticks : ℕ) (store : Store) (reached : List ℕ) → 0 < ticks → depth < limits.depth
    → enter limits depth (record { store = store; ticks = ticks; reached = reached }) ≡ Counts (record { store = store; ticks = ticks - 1; reached = reached })
unfolding enter goes_deeper pay_tick
pays limits depth ticks store reached h g =
    let w : World = record { store = store; ticks = ticks; reached = reached } in
    let paid : World = record { store = store; ticks = ticks - 1; reached = reached } in
    ap (λ (b : Bool). goes_deeper (if b then Counts paid else Passes Ticks w) limits depth) (lt-ltb 0 ticks h)
    ∙ ap (λ (b : Bool). if b then Counts paid else Passes Depth paid) (lt-ltb depth limits.depth g)

module _ (codes : Codes) (limits : Limits) where
  pub called : (old new : Laid) (g : FunCode) (k ticks : ℕ) (store : Store) (reached : List ℕ) → 0 < ticks → depth_of old.below < limits.depth
      → Enters (take_words (length g.params) old.top.stack []) k g.locals old.top old.below new.top new.below
      → on_call codes limits (Some g) k old.top old.below (record { store = store; ticks = ticks; reached = reached }) ≡ Goes (placed new store (ticks - 1) reached)
  called old new g k ticks store reached h less e =
      let w : World = record { store = store; ticks = ticks; reached = reached } in
      let paid : World = record { store = store; ticks = ticks - 1; reached = reached } in
      ap (λ c. on_words (take_words (length g.params) old.top.stack []) (λ args stack. on_enter codes limits c old.top.text k g [] old.top old.below w args stack)) (pays limits (depth_of old.below) ticks store reached h less)
      ∙ entered (take_words (length g.params) old.top.stack []) k g.locals old.top old.below new.top new.below paid e

  pub given_back : (old new : Laid) (word : Word) (w : World) (done : Bool) → Some word ≡ slice_get old.top.stack 0 → old.top.due ≡ [] → GivesBack word old.top old.below new.top new.below done
      → Does (on_top old.top.stack (λ given rest. gives_back codes limits old.below old.top.due (Some given) w)) (in_world old w) (in_world new w) done
  given_back old new word w true e due h =
      of_upper old.top.stack word _ e
      ∙ ap (λ d. gives_back codes limits old.below d (Some word) w) due
      ∙ ap (λ (fs : List Frame). gives_back codes limits fs [] (Some word) w) h.1
      ∙ ap (λ (f : Frame). Goes (record { top = f; below = new.below; world = w })) (sym h.2)
  given_back old new word w false e due h = λ i. record { top = h.0 i; below = h.1 i; world = w }

pub steps_so : (codes : Codes) (limits : Limits) (c d : Config) (f : FunCode) (instruction : Instruction) (t : Taken) → function_of codes c.top ≡ Some f → Some instruction ≡ slice_get f.lines c.top.line
    → Takes (act codes limits instruction c.top c.below c.world) c d t → Takes (step codes limits c) c d t
steps_so codes limits c d f instruction t e is h =
    as_takes _ _ c d t
    (ap (λ g. acts codes limits (slice_get (lines_of codes limits g) c.top.line) c.top c.below c.world) e ∙ ap (λ (o : Option Instruction). acts codes limits o c.top c.below c.world) (sym is)) h
