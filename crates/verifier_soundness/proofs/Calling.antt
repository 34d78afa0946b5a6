-- Calls and returns, with the casts that are due.
use Rattle.std.proofs.Common.{◌≡◌, ℕ, suc, ◌+◌, ◌-◌, ◌≤◌, true, false, List, [], ◌∷◌, ◌++◌, map, length, reverse, Option, Some, None, refl, sym, ap, ◌∙◌, subst, arith, append-nil}
use Rattle.std.specs.Prelude.{slice_get, option_map}
use Rattle.std.proofs.lemmas.Bool.{eq-eqb}
use Rattle.std.proofs.lemmas.List.{map-append, length-reverse, reverse-reverse}
use Rattle.pl_types.specs.declared.ty.Ty.{Ty}
use Rattle.object_values.specs.declared.value.Value.{Value}
use Rattle.number_ops.specs.Casts.{cast_at_run_time}
use Rattle.number_ops.specs.Outcomes.{effect}
use Rattle.pl_code.specs.declared.kinds.Slot.{Slot}
use Rattle.pl_code.specs.declared.kinds.Slot.TheVariants as slot
use Rattle.pl_code.specs.declared.code.FunCode.{FunCode}
use Rattle.pl_code.specs.declared.code.Instruction.{Instruction}
use Rattle.instruction_types.specs.declared.flow.Flow.{Flow}
use Rattle.instruction_types.specs.declared.flow.Flow.TheVariants as flow
use Rattle.instruction_types.specs.Effects.{Effect, calls, flow_of, left_by, result_kinds}
use Rattle.verifier.specs.Meets.{goes_to, left_in}
use Rattle.verifier.specs.Fits.{FitsLine, Awaits, at_with}
use Rattle.run_state.specs.World.{World, Limits, not_told, Outcome, Given, Raised, Full, acts_in, Counted, Counts, Passes, allowed_in, enter}
use Rattle.code_meaning.specs.declared.word.Word.{Word}
use Rattle.code_meaning.specs.declared.word.Word.TheVariants.{R}
use Rattle.code_meaning.specs.Members.{taken_result}
use Rattle.code_meaning.specs.Words.{start_of}
use Rattle.code_meaning.specs.Machine.{Codes, Frame, code_in, to_line, on_words, on_value, on_given, on_call, on_enter, take_words, returns, returns_of, cast_each, gives_back, pushed, depth_of, function_of}
use Rattle.verifier_soundness.specs.Fits.{AreWellShaped, BelowFits, kind_of, kinds_of, frame_kinds}
use Rattle.verifier_soundness.proofs.Words.{exchanged, exchange_of, take_kinds, on_one, starts_are}
use Rattle.verifier_soundness.proofs.Standing.{begins_fit}
use Rattle.verifier_soundness.proofs.Lowering.{lines_in, left_at, lines_below, tick_worth, paid_is_less, below_is_less, something_left, frames_most}
use Rattle.verifier_soundness.proofs.Members.{there_is, result_there}
use Rattle.verifier_soundness.proofs.Moves.{GoesTo, stays, goes_then, same_reached, Moves, Here, StandsAt, EntersSo, call_is_paid, lines_are, fits_with}
use Rattle.verifier_soundness.proofs.Throwing.{OutcomeGoes, goes_so, thrown_below}

abbrev pub callee_effect : Option FunCode → Option Effect
callee_effect o = option_map calls o

module _ (codes : Codes) (limits : Limits) (well : AreWellShaped codes limits) where
  -- ---- calls

  record Entering (function g : FunCode) (k : ℕ) (f : Frame) (below : List Frame) (args others : List Word) : Type 0 where
    is : slice_get (code_in codes f.text) k ≡ Some g
    params : kinds_of args ≡ g.params
    awaits : FitsLine (allowed_in limits f.text) (code_in codes f.text) function (at_with (frame_kinds f) (f.line + 1) (result_kinds g.result ++ kinds_of others))

  begin_locals : (g : FunCode) (args : List Word) → kinds_of args ≡ g.params → kinds_of (args ++ map start_of g.locals) ≡ g.params ++ g.locals
  begin_locals g args e = map-append kind_of args (map start_of g.locals) ∙ (λ i. e i ++ starts_are g.locals i)

  entered : (function g : FunCode) (k : ℕ) (f : Frame) (below : List Frame) (w : World) (args others : List Word) → Here codes limits function f below w → Entering function g k f below args others
      → (c : Counted) → EntersSo limits (depth_of below) w c → Moves codes limits (left_at codes limits f below w) (on_enter codes limits c f.text k g [] f below w args others)
  entered function g k f below w args others here x (Passes limit w') so = same_reached codes limits w w' so here.reached
  entered function g k f below w args others here x (Counts w') so =
      let good = (well f.text).each k g x.is in
      let lines = lines_are (allowed_in limits f.text) (code_in codes f.text) function (frame_kinds f) here.fits in
      record {
        fits = record {
          function = g;
          top = begins_fit (allowed_in limits f.text) (code_in codes f.text) g k (kinds_of (args ++ map start_of g.locals)) good x.is (begin_locals g args x.params);
          below = (function, x.awaits, tt, here.belows);
          within = so.2;
          reached = same_reached codes limits w w' so.1 here.reached;
        };
        less = paid_is_less (tick_worth codes limits) w.ticks w'.ticks ((lines_in (code_in codes f.text) f.fun - f.line) + lines_below codes below)
            ((lines_in (code_in codes f.text) k - 0) + lines_below codes (record f { stack = others } ∷ below)) so.0
            (frames_most codes limits f.text k 0 (record f { stack = others } ∷ below) so.2) (something_left (lines_in (code_in codes f.text) f.fun) f.line (lines_below codes below) lines);
      }

  same_line : (way : Flow) (line : ℕ) → way ≡ flow.GoesOn → goes_to way line (line + 1) ≡ true
  same_line way line e = ap (λ way. goes_to way line (line + 1)) e ∙ eq-eqb (line + 1) (line + 1) refl

  pub call_moves : (function : FunCode) (f : Frame) (below : List Frame) (w : World) (i : Instruction) (s : StandsAt codes limits function f i) → Here codes limits function f below w
      → (k : ℕ) (o : Option FunCode) → flow_of i ≡ flow.GoesOn → slice_get (code_in codes f.text) k ≡ o → left_in (callee_effect o) (kinds_of f.stack) ≡ Some s.left
      → Moves codes limits (left_at codes limits f below w) (on_call codes limits o k f below w)
  unfolding calls left_by
  call_moves function f below w i s here k None goes is leaves = cc
  call_moves function f below w i s here k (Some g) goes is leaves =
      let x = exchange_of (reverse g.params) (result_kinds g.result) (kinds_of f.stack) s.left leaves in
      let t = take_kinds (reverse g.params) f.stack [] x.rest x.is in
      let count : length g.params ≡ length (reverse g.params) = sym (length-reverse g.params) in
      let took : take_words (length g.params) f.stack [] ≡ Some (t.words, t.others) = ap (λ n. take_words n f.stack []) count ∙ t.is in
      let params : kinds_of t.words ≡ g.params = t.kinds ∙ append-nil (reverse (reverse g.params)) ∙ reverse-reverse g.params in
      let left : result_kinds g.result ++ kinds_of t.others ≡ s.left = ap (λ ks. result_kinds g.result ++ ks) t.left ∙ x.left_so in
      let awaits =
      fits_with (allowed_in limits f.text) (code_in codes f.text) function (frame_kinds f) (f.line + 1) s.left (result_kinds g.result ++ kinds_of t.others) (s.goes (f.line + 1) (same_line (flow_of i) f.line goes)) left in
      subst (λ o. Moves codes limits (left_at codes limits f below w) (on_words o (λ args stack. on_enter codes limits (enter limits (depth_of below) w) f.text k g [] f below w args stack))) (sym took)
      (entered function g k f below w t.words t.others here (record { is = is; params = params; awaits = awaits }) (enter limits (depth_of below) w) (call_is_paid limits (depth_of below) w))

  -- ---- returns

  with_result : (result : Option Word) (kind : Option Slot) (stack : List Word) → option_map kind_of result ≡ kind → kinds_of (pushed result stack) ≡ result_kinds kind ++ kinds_of stack
  with_result None kind stack e = ap (λ k. result_kinds k ++ kinds_of stack) e
  with_result (Some word) kind stack e = ap (λ k. result_kinds k ++ kinds_of stack) e

  one_on : (n : ℕ) → n + 1 ≡ suc n
  one_on n = omega arith

  -- to the frame below, behind the line at which it waits, with what it waits for
  back : (function b : FunCode) (f g : Frame) (fs : List Frame) (w w' : World) (kind : Option Slot) (stack : List Word) → Here codes limits function f (g ∷ fs) w → GoesTo codes limits w w'
      → Awaits (allowed_in limits g.text) (code_in codes g.text) b (frame_kinds g) kind → BelowFits codes limits fs g.text g.due b.result → kinds_of stack ≡ result_kinds kind ++ kinds_of g.stack
      → Moves codes limits (left_at codes limits f (g ∷ fs) w) (to_line g fs w' (suc g.line) stack)
  back function b f g fs w w' kind stack here same waits belows kinds =
      let lines = lines_are (allowed_in limits f.text) (code_in codes f.text) function (frame_kinds f) here.fits in
      let awaits : FitsLine (allowed_in limits g.text) (code_in codes g.text) b (at_with (frame_kinds g) (suc g.line) (result_kinds kind ++ kinds_of g.stack)) =
      subst (λ n. FitsLine (allowed_in limits g.text) (code_in codes g.text) b (at_with (frame_kinds g) n (result_kinds kind ++ kinds_of g.stack))) (one_on g.line) waits in
      let within = here.within in
      record {
        fits = record {
          function = b;
          top = fits_with (allowed_in limits g.text) (code_in codes g.text) b (frame_kinds g) (suc g.line) (result_kinds kind ++ kinds_of g.stack) (kinds_of stack) awaits kinds;
          below = belows;
          within = omega (arith, within);
          reached = same.reached;
        };
        less = below_is_less (tick_worth codes limits) w.ticks w'.ticks (lines_in (code_in codes f.text) f.fun) f.line (lines_in (code_in codes g.text) g.fun) g.line (suc g.line) (lines_below codes fs) same.ticks lines (next_most g.line);
      }
    where
      next_most : (n : ℕ) → suc n ≤ suc n
      next_most n = omega arith

  -- what a cast gives goes on to the next one, and what it throws is thrown in the frame below
  casts_on : (function : FunCode) (f g : Frame) (fs : List Frame) (w w' : World) (tos : List Ty) → Here codes limits function f (g ∷ fs) w → GoesTo codes limits w w'
      → ((value : Value) (w'' : World) → GoesTo codes limits w w'' → Moves codes limits (left_at codes limits f (g ∷ fs) w) (cast_each codes limits tos value g fs w''))
      → (o : Outcome Value) → OutcomeGoes codes limits well w' o
      → Moves codes limits (left_at codes limits f (g ∷ fs) w) (on_given codes limits o g fs w' (λ value w. cast_each codes limits tos value g fs w))
  casts_on function f g fs w w' tos here same next (Given value w'') goes = next value w'' (goes_then codes limits w w' w'' same goes)
  casts_on function f g fs w w' tos here same next (Raised id w'') goes = thrown_below codes limits well function f (g ∷ fs) w w'' id not_told here (goes_then codes limits w w' w'' same goes)
  casts_on function f g fs w w' tos here same next Full goes = same.reached

  -- a value is cast to types, and then lies in the frame below as a reference
  casts_move : (function b : FunCode) (f g : Frame) (fs : List Frame) (w : World) → Here codes limits function f (g ∷ fs) w → Awaits (allowed_in limits g.text) (code_in codes g.text) b (frame_kinds g) (Some slot.R)
      → BelowFits codes limits fs g.text g.due b.result → (tos : List Ty) (value : Value) (w' : World) → GoesTo codes limits w w'
      → Moves codes limits (left_at codes limits f (g ∷ fs) w) (cast_each codes limits tos value g fs w')
  casts_move function b f g fs w here waits belows [] value w' same = back function b f g fs w w' (Some slot.R) (R value ∷ g.stack) here same waits belows refl
  casts_move function b f g fs w here waits belows (to ∷ tos) value w' same =
      casts_on function f g fs w w' tos here same (λ value w'' same. casts_move function b f g fs w here waits belows tos value w'' same)
      (acts_in w' (effect w'.store (cast_at_run_time w'.store.objects value to false))) (goes_so codes limits well w' (effect w'.store (cast_at_run_time w'.store.objects value to false)) same.reached)

  -- what is given goes to the frame below, cast to what is due, or ends the run
  given : (function : FunCode) (f : Frame) (below : List Frame) (w : World) (due : List Ty) (result : Option Word) → Here codes limits function f below w → BelowFits codes limits below f.text due function.result
      → option_map kind_of result ≡ function.result → Moves codes limits (left_at codes limits f below w) (gives_back codes limits below due result w)
  given function f [] w due result here belows is = (is ∙ belows.2, here.reached)
  given function f (g ∷ fs) w [] result here belows is =
      back function belows.0 f g fs w w function.result (pushed result g.stack) here (stays codes limits function f (g ∷ fs) w here) belows.1 belows.3 (with_result result function.result g.stack is)
  given function f (g ∷ fs) w (from ∷ tos) result here belows is =
      let x = there_is (taken_result from result) (result_there from result (is ∙ belows.2)) in
      subst (λ o. Moves codes limits (left_at codes limits f (g ∷ fs) w) (on_value o (λ value. cast_each codes limits tos value g fs w))) (sym x.1)
      (casts_move function belows.0 f g fs w here belows.1 belows.3 tos x.0 w (stays codes limits function f (g ∷ fs) w here))

  returned : (function : FunCode) (f : Frame) (below : List Frame) (w : World) (left : List Slot) → Here codes limits function f below w
      → (kind : Option Slot) → function.result ≡ kind → exchanged (result_kinds kind) [] (kinds_of f.stack) ≡ Some left
      → Moves codes limits (left_at codes limits f below w) (returns_of codes limits kind f.stack (λ result. gives_back codes limits below f.due result w))
  returned function f below w left here None is leaves = given function f below w f.due None here here.belows (sym is)
  returned function f below w left here (Some k) is leaves =
      on_one (Moves codes limits (left_at codes limits f below w)) k [] left f.stack (λ word rest. gives_back codes limits below f.due (Some word) w) leaves
      (λ word rest kind q. given function f below w f.due (Some word) here here.belows (ap Some kind ∙ sym is))

  pub return_moves : (function : FunCode) (f : Frame) (below : List Frame) (w : World) (left : List Slot) → Here codes limits function f below w
      → exchanged (result_kinds function.result) [] (kinds_of f.stack) ≡ Some left
      → Moves codes limits (left_at codes limits f below w) (returns codes limits (function_of codes f) f.stack (λ result. gives_back codes limits below f.due result w))
  return_moves function f below w left here leaves =
      subst (λ o. Moves codes limits (left_at codes limits f below w) (returns codes limits o f.stack (λ result. gives_back codes limits below f.due result w))) (sym here.fits.is)
      (returned function f below w left here function.result refl leaves)
