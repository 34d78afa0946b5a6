-- What a step comes to where a configuration fits: one that fits, of which less is left, or an end that fits.
use Rattle.std.proofs.Common.{◌≡◌, ℕ, suc, ◌+◌, ◌-◌, ◌<◌, ◌≤◌, Bool, true, false, List, refl, sym, ap, ◌∙◌, subst, arith}
use Rattle.std.specs.List.{list_all}
use Rattle.std.specs.Prelude.{nat_lt, if◌then◌else◌, not, ◌||◌}
use Rattle.std.proofs.lemmas.Bool.{eq-eqb, ltb-true}
use Rattle.pl_code.specs.declared.kinds.Slot.{Slot}
use Rattle.pl_code.specs.declared.code.FunCode.{FunCode}
use Rattle.pl_code.specs.declared.code.Instruction.{Instruction}
use Rattle.allowlist.specs.Allow.{AllowList, flag}
use Rattle.instruction_types.specs.declared.flow.Flow.TheVariants as flow
use Rattle.instruction_types.specs.Effects.{flow_of}
use Rattle.verifier.specs.Meets.{goes_to}
use Rattle.verifier.specs.Fits.{FrameKinds, FitsLine, at_with}
use Rattle.run_state.specs.World.{World, Limits, Counted, Counts, Passes, Ticks, Loop, Depth, pay_tick, take_turn, goes_deeper, enter, allowed_in}
use Rattle.code_meaning.specs.declared.word.Word.{Word}
use Rattle.code_meaning.specs.Machine.{Codes, Frame, Config, Next, Goes, Ends, Stuck, to_line, depth_of, code_in}
use Rattle.verifier_soundness.specs.Fits.{kinds_of, frame_kinds, FrameFits, BelowFits, ReachesAllowed, FitsConfig, FitsEnd}
use Rattle.verifier_soundness.proofs.Standing.{StandsIn}
use Rattle.verifier_soundness.proofs.Lowering.{lines_in, lines_so, left_at, left_of, lines_below, tick_worth, later_is_less}

-- ---- ticks

-- what is counted pays a tick, where the limit is not passed
abbrev pub CountsSo : World → Counted → Type 0
CountsSo w (Passes limit w') = w'.reached ≡ w.reached
CountsSo w (Counts w') = (suc w'.ticks ≡ w.ticks) × (w'.reached ≡ w.reached)

less_one : (n : ℕ) → 0 < n → suc (n - 1) ≡ n
less_one n h = omega arith

pub tick_is_paid : (w : World) → CountsSo w (pay_tick w)
unfolding pay_tick
tick_is_paid w = by_test (nat_lt 0 w.ticks) refl
  where
    by_test : (t : Bool) → nat_lt 0 w.ticks ≡ t → CountsSo w (if t then Counts (record { store = w.store; ticks = w.ticks - 1; reached = w.reached }) else Passes Ticks w)
    by_test true e = (less_one w.ticks (ltb-true 0 w.ticks e), refl)
    by_test false e = refl

pub turn_is_paid : (limits : Limits) (limited : Bool) (turns : ℕ) (w : World) → CountsSo w (take_turn limits limited turns w)
unfolding take_turn
turn_is_paid limits limited turns w = by_test (not limited || nat_lt turns limits.loop)
  where
    by_test : (t : Bool) → CountsSo w (if t then pay_tick w else Passes Loop w)
    by_test true = tick_is_paid w
    by_test false = refl

-- a call pays a tick, and goes no deeper than the limit
abbrev pub EntersSo : Limits → ℕ → World → Counted → Type 0
EntersSo limits depth w (Passes limit w') = w'.reached ≡ w.reached
EntersSo limits depth w (Counts w') = (suc w'.ticks ≡ w.ticks) × (w'.reached ≡ w.reached) × (depth < limits.depth)

deeper_so : (limits : Limits) (depth : ℕ) (w : World) (c : Counted) → CountsSo w c → EntersSo limits depth w (goes_deeper c limits depth)
unfolding goes_deeper
deeper_so limits depth w (Passes limit w') s = s
deeper_so limits depth w (Counts w') s = by_test (nat_lt depth limits.depth) refl
  where
    by_test : (t : Bool) → nat_lt depth limits.depth ≡ t → EntersSo limits depth w (if t then Counts w' else Passes Depth w')
    by_test true e = (s.0, s.1, ltb-true depth limits.depth e)
    by_test false e = s.1

pub call_is_paid : (limits : Limits) (depth : ℕ) (w : World) → EntersSo limits depth w (enter limits depth w)
unfolding enter
call_is_paid limits depth w = deeper_so limits depth w (pay_tick w) (tick_is_paid w)

-- ---- frames at their lines

pub lines_are : (allow : AllowList) (code : List FunCode) (function : FunCode) (frame : FrameKinds) → FitsLine allow code function frame → frame.line < lines_in code frame.function
lines_are allow code function frame fits = let within = fits.within in omega (arith, lines_so code frame.function function fits.is, within)

-- a frame at another line with other operands
pub fits_with : (allow : AllowList) (code : List FunCode) (function : FunCode) (frame : FrameKinds) (to : ℕ) (left kinds : List Slot) → FitsLine allow code function (at_with frame to left) → kinds ≡ left
    → FitsLine allow code function (at_with frame to kinds)
fits_with allow code function frame to left kinds fits e = subst (λ ks. FitsLine allow code function (at_with frame to ks)) (sym e) fits

-- ---- where a step goes

module _ (codes : Codes) (limits : Limits) where
  pub record Reached (from : ℕ) (c : Config) : Type 0 where
    pub fits : FitsConfig codes limits c
    pub less : left_of codes limits c < from

  abbrev pub Moves : ℕ → Next → Type 0
  Moves from (Goes c) = Reached from c
  Moves from (Ends r) = FitsEnd codes limits r
  Moves from Stuck = ⊥

  -- A frame at an instruction, with those below it.
  pub record Here (function : FunCode) (f : Frame) (below : List Frame) (w : World) : Type 0 where
    pub fits : FrameFits codes limits function f
    pub belows : BelowFits codes limits below f.text f.due function.result
    pub within : depth_of below ≤ limits.depth
    pub reached : ReachesAllowed limits.ground.allowed w

  -- an instruction stands at the line of a frame, in the code of its text
  abbrev pub StandsAt : FunCode → Frame → Instruction → Type 0
  StandsAt function f i = StandsIn (allowed_in limits f.text) (code_in codes f.text) function (frame_kinds f) i

  -- A world in which no tick was paid, and members of the script's list alone were reached.
  pub record GoesTo (w w' : World) : Type 0 where
    pub ticks : w'.ticks ≡ w.ticks
    pub reached : ReachesAllowed limits.ground.allowed w'

  pub stays : (function : FunCode) (f : Frame) (below : List Frame) (w : World) → Here function f below w → GoesTo w w
  stays function f below w here = record { ticks = refl; reached = here.reached }

  -- .. and another behind it
  pub goes_then : (w w' w'' : World) → GoesTo w w' → GoesTo w' w'' → GoesTo w w''
  goes_then w w' w'' first second = record { ticks = second.ticks ∙ first.ticks; reached = second.reached }

  -- the same members were reached
  pub same_reached : (w w' : World) → w'.reached ≡ w.reached → ReachesAllowed limits.ground.allowed w → ReachesAllowed limits.ground.allowed w'
  same_reached w w' e reached = ap (list_all (flag limits.ground.allowed.members)) e ∙ reached

  -- It goes on at a later line, with what the instruction leaves.
  pub goes_on : (function : FunCode) (f : Frame) (below : List Frame) (w w' : World) (i : Instruction) (s : StandsAt function f i) → Here function f below w
      → (to : ℕ) (stack : List Word) → GoesTo w w' → goes_to (flow_of i) f.line to ≡ true → kinds_of stack ≡ s.left
      → Moves (left_at codes limits f below w) (to_line f below w' to stack)
  goes_on function f below w w' i s here to stack same goes kinds =
      record {
        fits = record {
          function = function;
          top = fits_with (allowed_in limits f.text) (code_in codes f.text) function (frame_kinds f) to s.left (kinds_of stack) (s.goes to goes) kinds;
          below = here.belows;
          within = here.within;
          reached = same.reached;
        };
        less = later_is_less (tick_worth codes limits) w.ticks w'.ticks (lines_in (code_in codes f.text) f.fun) f.line to (lines_below codes below) same.ticks
            (lines_are (allowed_in limits f.text) (code_in codes f.text) function (frame_kinds f) here.fits) (s.later to goes);
      }

  suc_is : (n : ℕ) → suc n ≡ n + 1
  suc_is n = omega arith

  pub next_line : (i : Instruction) (line : ℕ) → flow_of i ≡ flow.GoesOn → goes_to (flow_of i) line (suc line) ≡ true
  next_line i line e = ap (λ way. goes_to way line (suc line)) e ∙ eq-eqb (suc line) (line + 1) (suc_is line)

  -- It goes on at the next line.
  pub goes_next : (function : FunCode) (f : Frame) (below : List Frame) (w w' : World) (i : Instruction) (s : StandsAt function f i) → Here function f below w
      → (stack : List Word) → GoesTo w w' → flow_of i ≡ flow.GoesOn → kinds_of stack ≡ s.left
      → Moves (left_at codes limits f below w) (to_line f below w' (suc f.line) stack)
  goes_next function f below w w' i s here stack same goes kinds = goes_on function f below w w' i s here (suc f.line) stack same (next_line i f.line goes) kinds
