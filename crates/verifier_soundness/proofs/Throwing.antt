-- What is thrown goes on at a trap that fits, in this frame or one below, or ends the run.
use Rattle.std.proofs.Common.{◌≡◌, ℕ, suc, ◌+◌, ◌-◌, ◌*◌, ◌<◌, ◌≤◌, Bool, true, false, List, [], ◌∷◌, ◌++◌, Option, Some, refl, sym, ap, ◌∙◌, subst, arith}
use Rattle.std.specs.Prelude.{slice_get, ◌&&◌, nat_le, nat_lt, if◌then◌else◌}
use Rattle.std.proofs.lemmas.Bool.{ltb-true}
use Rattle.pl_types.specs.declared.ty.Ty.{Ty}
use Rattle.pl_types.specs.Names.{class_of_full}
use Rattle.object_values.specs.declared.object.Owner.{Owner}
use Rattle.object_values.specs.declared.value.Value.{Value}
use Rattle.object_values.specs.declared.value.Value.TheVariants as v
use Rattle.number_ops.specs.Effects.{Effect, Gives, Throws, NoRoom}
use Rattle.pl_code.specs.declared.kinds.Slot.{Slot}
use Rattle.pl_code.specs.declared.code.FunCode.{FunCode}
use Rattle.pl_code.specs.declared.code.Trap.{Trap}
use Rattle.pl_code.specs.declared.code.Instruction.{Instruction}
use Rattle.instruction_types.specs.declared.flow.Flow.TheVariants as flow
use Rattle.instruction_types.specs.Effects.{flow_of}
use Rattle.run_state.specs.World.{World, Limits, Arose, not_told, Outcome, Given, Raised, Full, acts_in, allowed_in}
use Rattle.code_meaning.specs.declared.word.Word.{Word}
use Rattle.code_meaning.specs.declared.word.Word.TheVariants as word
use Rattle.code_meaning.specs.Machine.{Codes, Frame, Next, Goes, code_in, traps_at, traps_of, is_instance, lands, unwind, on_outcome, on_done, on_thrown, depth_of, function_of}
use Rattle.verifier_soundness.specs.Fits.{AreWellShaped, ReachesAllowed, kind_of, kinds_of, frame_kinds, BelowFits}
use Rattle.verifier_soundness.proofs.Casts.{EffectIs}
use Rattle.verifier_soundness.proofs.References.{GivesNothing}
use Rattle.verifier_soundness.proofs.Standing.{Catches, catches_fit}
use Rattle.verifier_soundness.proofs.Lowering.{lines_in, weight, left_at, lines_below, tick_worth, later_is_less, below_is_less}
use Rattle.verifier_soundness.proofs.Moves.{GoesTo, Moves, Here, StandsAt, lines_are, goes_next}

behind_line : (at to line : ℕ) → to ≤ at → line < to → line < at
behind_line at to line h k = omega arith

both_second : (a b : Bool) → (a && b) ≡ true → b ≡ true
both_second true b e = e
both_second false b e = cc

module _ (codes : Codes) (limits : Limits) (well : AreWellShaped codes limits) where
  -- A frame in which something may be caught: its function is there, and its locals are those of it.
  record Catching (function : FunCode) (f : Frame) (below : List Frame) (w : World) : Type 0 where
    is : slice_get (code_in codes f.text) f.fun ≡ Some function
    locals : kinds_of f.locals ≡ function.params ++ function.locals
    belows : BelowFits codes limits below f.text f.due function.result
    within : depth_of below ≤ limits.depth
    reached : ReachesAllowed limits.ground.allowed w

  -- the traps of a list go on where the frame fits
  abbrev AllCatch : FunCode → Frame → List Trap → Type 0
  AllCatch function f ts = (k : ℕ) (t : Trap) → slice_get ts k ≡ Some t → Catches (allowed_in limits f.text) (code_in codes f.text) function (frame_kinds f) t

  caught : (from : ℕ) (function : FunCode) (f : Frame) (below : List Frame) (id : ℕ) (place : Arose) (w : World) (further : Next) → Catching function f below w
      → ((to : ℕ) → f.line < to → weight (tick_worth codes limits) w.ticks (lines_in (code_in codes f.text) f.fun) to (lines_below codes below) < from)
      → Moves codes limits from further → (ts : List Trap) → AllCatch function f ts
      → Moves codes limits from (lands (traps_at ts f.line) f.text f.fun f.locals f.turns f.due below id place w further)
  caught from function f below id place w further c less more [] all = more
  caught from function f below id place w further c less more (t ∷ ts) all =
      by_lines (nat_le t.from f.line && nat_lt f.line t.to) refl (caught from function f below id place w further c less more ts (λ k u e. all (suc k) u e))
    where
      by_class : f.line < t.to → (b : Bool) → Moves codes limits from (lands (traps_at ts f.line) f.text f.fun f.locals f.turns f.due below id place w further)
          → Moves codes limits from (if b then Goes (record { top = record { text = f.text; fun = f.fun; line = t.at; locals = f.locals; stack = word.R (v.Ref id) ∷ []; turns = f.turns; due = f.due }; below = below; world = w }) else lands (traps_at ts f.line) f.text f.fun f.locals f.turns f.due below id place w further)
      by_class h true rest =
          let here = all 0 t refl in
          record {
            fits = record { function = function; top = here.fits; below = c.belows; within = c.within; reached = c.reached };
            less = less t.at (behind_line t.at t.to f.line here.later h);
          }
      by_class h false rest = rest

      by_lines : (b : Bool) → (nat_le t.from f.line && nat_lt f.line t.to) ≡ b → Moves codes limits from (lands (traps_at ts f.line) f.text f.fun f.locals f.turns f.due below id place w further)
          → Moves codes limits from (lands (if b then record { class = class_of_full t.class; at = t.at } ∷ traps_at ts f.line else traps_at ts f.line) f.text f.fun f.locals f.turns f.due below id place w further)
      by_lines true e rest = by_class (ltb-true f.line t.to (both_second (nat_le t.from f.line) (nat_lt f.line t.to) e)) (is_instance (class_of_full t.class) id w) rest
      by_lines false e rest = rest

  -- in a frame
  caught_in : (from : ℕ) (function : FunCode) (f : Frame) (below : List Frame) (id : ℕ) (place : Arose) (w : World) (further : Next) → Catching function f below w
      → ((to : ℕ) → f.line < to → weight (tick_worth codes limits) w.ticks (lines_in (code_in codes f.text) f.fun) to (lines_below codes below) < from)
      → Moves codes limits from further
      → Moves codes limits from (lands (traps_of (function_of codes f) f.line) f.text f.fun f.locals f.turns f.due below id place w further)
  caught_in from function f below id place w further c less more =
      subst (λ o. Moves codes limits from (lands (traps_of o f.line) f.text f.fun f.locals f.turns f.due below id place w further)) (sym c.is)
      (caught from function f below id place w further c less more function.traps
      (catches_fit (allowed_in limits f.text) (code_in codes f.text) function (frame_kinds f) ((well f.text).each f.fun function c.is) c.is c.locals))

  -- through the frames below, from one that had lines left
  caught_below : (lines line ticks under : ℕ) → line < lines → (fs : List Frame) (text : Owner) (due : List Ty) (result : Option Slot) (w : World) (id : ℕ) (place : Arose) → w.ticks ≡ ticks → lines_below codes fs ≤ under
      → BelowFits codes limits fs text due result → depth_of fs ≤ limits.depth → ReachesAllowed limits.ground.allowed w
      → Moves codes limits (weight (tick_worth codes limits) ticks lines line under) (unwind codes fs id place w)
  caught_below lines line ticks under h [] text due result w id place same most fit within reached = reached
  caught_below lines line ticks under h (f ∷ fs) text due result w id place same most fit within reached =
      caught_in (weight (tick_worth codes limits) ticks lines line under) fit.0 f fs id place w (unwind codes fs id place w)
      (record { is = fit.1.is; locals = fit.1.locals; belows = fit.3; within = omega (arith, within); reached = reached })
      (λ to later. less_than (below_is_less (tick_worth codes limits) ticks w.ticks lines line (lines_in (code_in codes f.text) f.fun) f.line to (lines_below codes fs) same h later)
      (heavier (ticks) (tick_worth codes limits) lines line (lines_below codes (f ∷ fs)) under most))
      (caught_below lines line ticks under h fs f.text f.due fit.0.result w id place same (omega (arith, most)) fit.3 (omega (arith, within)) reached)
    where
      less_than : {a b c : ℕ} → a < b → b ≤ c → a < c
      less_than x y = omega (arith, x, y)

      heavier : (ticks worth lines line a b : ℕ) → a ≤ b → weight worth ticks lines line a ≤ weight worth ticks lines line b
      heavier ticks worth lines line a b h = plus (ticks * worth) (lines - line) a b h
        where
          plus : (p q a b : ℕ) → a ≤ b → p + (q + a) ≤ p + (q + b)
          plus p q a b h = omega arith

  -- from an instruction, in the frames below its own
  pub thrown_below : (function : FunCode) (f : Frame) (below : List Frame) (w w' : World) (id : ℕ) (place : Arose) → Here codes limits function f below w → GoesTo codes limits w w'
      → Moves codes limits (left_at codes limits f below w) (unwind codes below id place w')
  thrown_below function f below w w' id place here same =
      caught_below (lines_in (code_in codes f.text) f.fun) f.line w.ticks (lines_below codes below) (lines_are (allowed_in limits f.text) (code_in codes f.text) function (frame_kinds f) here.fits) below f.text f.due function.result w' id
      place same.ticks (omega arith) here.belows here.within same.reached

  -- .. and in its own before
  pub thrown : (function : FunCode) (f : Frame) (below : List Frame) (w w' : World) (id : ℕ) (place : Arose) → Here codes limits function f below w → GoesTo codes limits w w'
      → Moves codes limits (left_at codes limits f below w) (unwind codes (f ∷ below) id place w')
  thrown function f below w w' id place here same =
      let lines = lines_are (allowed_in limits f.text) (code_in codes f.text) function (frame_kinds f) here.fits in
      caught_in (left_at codes limits f below w) function f below id place w' (unwind codes below id place w')
      (record { is = here.fits.is; locals = here.fits.locals; belows = here.belows; within = here.within; reached = same.reached })
      (λ to later. later_is_less (tick_worth codes limits) w.ticks w'.ticks (lines_in (code_in codes f.text) f.fun) f.line to (lines_below codes below) same.ticks lines later)
      (thrown_below function f below w w' id place here same)

  -- ---- what an operation on the store comes to

  abbrev OutcomeIs : (Value → Word) → Slot → World → Outcome Value → Type 0
  OutcomeIs to k w (Given value w') = (kind_of (to value) ≡ k) × GoesTo codes limits w w'
  OutcomeIs to k w (Raised id w') = GoesTo codes limits w w'
  OutcomeIs to k w Full = Unit {0}

  acts_so : (to : Value → Word) (k : Slot) (w : World) (e : Effect) → ReachesAllowed limits.ground.allowed w → EffectIs to k e → OutcomeIs to k w (acts_in w e)
  unfolding acts_in
  acts_so to k w (Gives value store) reached is = (is, record { ticks = refl; reached = reached })
  acts_so to k w (Throws id store) reached is = record { ticks = refl; reached = reached }
  acts_so to k w NoRoom reached is = tt

  outcome_moves : (function : FunCode) (f : Frame) (below : List Frame) (w : World) (i : Instruction) (s : StandsAt codes limits function f i) → Here codes limits function f below w
      → (to : Value → Word) (k : Slot) (stack : List Word) (o : Outcome Value) → flow_of i ≡ flow.GoesOn → k ∷ kinds_of stack ≡ s.left → OutcomeIs to k w o
      → Moves codes limits (left_at codes limits f below w) (on_outcome codes limits o to f below w stack)
  outcome_moves function f below w i s here to k stack (Given value w') goes kinds is =
      goes_next codes limits function f below w w' i s here (to value ∷ stack) is.1 goes (ap (λ k. k ∷ kinds_of stack) is.0 ∙ kinds)
  outcome_moves function f below w i s here to k stack (Raised id w') goes kinds is = thrown function f below w w' id not_told here is
  outcome_moves function f below w i s here to k stack Full goes kinds is = here.reached

  pub effect_moves : (function : FunCode) (f : Frame) (below : List Frame) (w : World) (i : Instruction) (s : StandsAt codes limits function f i) → Here codes limits function f below w
      → (to : Value → Word) (k : Slot) (stack : List Word) (e : Effect) → flow_of i ≡ flow.GoesOn → k ∷ kinds_of stack ≡ s.left → EffectIs to k e
      → Moves codes limits (left_at codes limits f below w) (on_outcome codes limits (acts_in w e) to f below w stack)
  effect_moves function f below w i s here to k stack e goes kinds is = outcome_moves function f below w i s here to k stack (acts_in w e) goes kinds (acts_so to k w e here.reached is)

  -- ---- what an operation gives is dropped

  abbrev pub OutcomeGoes : World → Outcome Value → Type 0
  OutcomeGoes w (Given value w') = GoesTo codes limits w w'
  OutcomeGoes w (Raised id w') = GoesTo codes limits w w'
  OutcomeGoes w Full = Unit {0}

  pub goes_so : (w : World) (e : Effect) → ReachesAllowed limits.ground.allowed w → OutcomeGoes w (acts_in w e)
  unfolding acts_in
  goes_so w (Gives value store) reached = record { ticks = refl; reached = reached }
  goes_so w (Throws id store) reached = record { ticks = refl; reached = reached }
  goes_so w NoRoom reached = tt

  done_moves_on : (function : FunCode) (f : Frame) (below : List Frame) (w : World) (i : Instruction) (s : StandsAt codes limits function f i) → Here codes limits function f below w
      → (stack : List Word) (o : Outcome Value) → flow_of i ≡ flow.GoesOn → kinds_of stack ≡ s.left → OutcomeGoes w o
      → Moves codes limits (left_at codes limits f below w) (on_done codes limits o f below w stack)
  done_moves_on function f below w i s here stack (Given value w') goes kinds is = goes_next codes limits function f below w w' i s here stack is goes kinds
  done_moves_on function f below w i s here stack (Raised id w') goes kinds is = thrown function f below w w' id not_told here is
  done_moves_on function f below w i s here stack Full goes kinds is = here.reached

  pub done_moves : (function : FunCode) (f : Frame) (below : List Frame) (w : World) (i : Instruction) (s : StandsAt codes limits function f i) → Here codes limits function f below w
      → (stack : List Word) (e : Effect) → flow_of i ≡ flow.GoesOn → kinds_of stack ≡ s.left
      → Moves codes limits (left_at codes limits f below w) (on_done codes limits (acts_in w e) f below w stack)
  done_moves function f below w i s here stack e goes kinds = done_moves_on function f below w i s here stack (acts_in w e) goes kinds (goes_so w e here.reached)

  -- ---- what is thrown as it is

  abbrev OutcomeThrows : World → Outcome Value → Type 0
  OutcomeThrows w (Given value w') = ⊥
  OutcomeThrows w (Raised id w') = GoesTo codes limits w w'
  OutcomeThrows w Full = Unit {0}

  throws_so : (w : World) (e : Effect) → ReachesAllowed limits.ground.allowed w → GivesNothing e → OutcomeThrows w (acts_in w e)
  unfolding acts_in
  throws_so w (Gives value store) reached nothing = nothing
  throws_so w (Throws id store) reached nothing = record { ticks = refl; reached = reached }
  throws_so w NoRoom reached nothing = tt

  throw_moves_on : (function : FunCode) (f : Frame) (below : List Frame) (w : World) → Here codes limits function f below w → (o : Outcome Value) → OutcomeThrows w o
      → Moves codes limits (left_at codes limits f below w) (on_thrown codes limits o f below w)
  throw_moves_on function f below w here (Given value w') is = is
  throw_moves_on function f below w here (Raised id w') is = thrown function f below w w' id not_told here is
  throw_moves_on function f below w here Full is = here.reached

  pub throw_moves : (function : FunCode) (f : Frame) (below : List Frame) (w : World) → Here codes limits function f below w → (e : Effect) → GivesNothing e
      → Moves codes limits (left_at codes limits f below w) (on_thrown codes limits (acts_in w e) f below w)
  throw_moves function f below w here e nothing = throw_moves_on function f below w here (acts_in w e) (throws_so w e here.reached nothing)
