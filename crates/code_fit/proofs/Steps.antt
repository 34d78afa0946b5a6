-- Each instruction keeps a run within its rules.
use Rattle.std.proofs.Common.{◌≡◌, ℕ, ℤ, zero, suc, Bool, true, false, List, [], ◌∷◌, Option, Some, None, sym, subst}
use Rattle.std.specs.Prelude.{◌*◌, slice_get, map, length, if◌then◌else◌}
use Rattle.pl_types.specs.declared.ty.Ty.{Ty}
use Rattle.pl_types.specs.declared.ty.Ty.TheVariants as ty
use Rattle.pl_types.specs.Texts.{type_of_full}
use Rattle.object_values.specs.declared.object.Object.{Object}
use Rattle.object_values.specs.declared.object.Owner.{Owner}
use Rattle.object_values.specs.declared.value.Value.{Value}
use Rattle.object_values.specs.declared.value.Value.TheVariants as v
use Rattle.object_heap.specs.Effects.{Effect}
use Rattle.object_heap.specs.Fits.{Rules, Fits, ValueFits, AllFit, ThrownFits}
use Rattle.object_heap.specs.Store.{Store}
use Rattle.allowlist.specs.declared.member.MemberType.{MemberType}
use Rattle.allowlist.specs.Allow.{AllowList}
use Rattle.allowlist.specs.Index.{member_in}
use Rattle.instruction_types.specs.Members.{method_of, constructor_of, field_of}
use Rattle.run_fit.specs.ContainerCallsLaws.{StillThere}
use Rattle.run_fit.specs.Members.{does}
use Rattle.run_fit.specs.Elements.{element_read, element_written, length_of}
use Rattle.run_fit.specs.Loops.{iterated, has_more, next_element}
use Rattle.run_fit.specs.Making.{list_made, map_made, array_filled, array_made}
use Rattle.run_fit.specs.Access.{Access, Calls, Acts, index_read, index_written, name_read, name_written, method_called}
use Rattle.number_ops.specs.Outcomes.{effect, zero_divisor, null_error, says}
use Rattle.number_ops.specs.Casts.{cast_at_run_time}
use Rattle.number_ops.specs.Operators.{concatenated, compares, is_unary, operate}
use Rattle.number_ops.specs.Relations.{equal, thrown}
use Rattle.pl_code.specs.declared.kinds.ArithmeticOp.{ArithmeticOp}
use Rattle.pl_code.specs.declared.kinds.Width.{Width}
use Rattle.pl_code.specs.declared.kinds.Plain.{Plain}
use Rattle.pl_code.specs.declared.kinds.Plain.TheVariants as plain
use Rattle.pl_code.specs.declared.kinds.Numbered.{Numbered}
use Rattle.pl_code.specs.declared.kinds.Numbered.TheVariants as numbered
use Rattle.pl_code.specs.declared.kinds.Quoting.{Quoting}
use Rattle.pl_code.specs.declared.kinds.Quoting.TheVariants as quoting
use Rattle.pl_code.specs.declared.kinds.Typed.{Typed}
use Rattle.pl_code.specs.declared.kinds.Typed.TheVariants as typed
use Rattle.pl_code.specs.declared.kinds.Sized.{Sized}
use Rattle.pl_code.specs.declared.kinds.Sized.TheVariants as sized
use Rattle.pl_code.specs.declared.kinds.Slot.{Slot}
use Rattle.pl_code.specs.declared.kinds.Width.TheVariants as width
use Rattle.pl_code.specs.declared.code.FunCode.{FunCode}
use Rattle.pl_code.specs.declared.code.Instruction.{Instruction}
use Rattle.pl_code.specs.declared.code.Instruction.TheVariants as i
use Rattle.run_state.specs.Calls.{suits_member, wrong_class}
use Rattle.run_state.specs.World.{World, Limits, Arose, not_told, Outcome, Given, Raised, Full, acts_in, Counted, Counts, Passes, allowed_in, take_turn, enter, pay_member}
use Rattle.run_fit.specs.Laws.{DoneFits}
use Rattle.run_fit.specs.Worlds.{WorldFits, count_in, OutcomeFits}
use Rattle.run_fit.proofs.Counted.{SameStore, turn_keeps, call_keeps, member_keeps}
use Rattle.run_fit.proofs.Values.{MadeFits, AllMadeFit}
use Rattle.run_fit.proofs.Containers as containers
use Rattle.run_fit.proofs.Containers.{AccessFits}
use Rattle.run_fit.proofs.Effects.{beginnings_fit, outcomes_fit, casts_fit, concatenation_fits, equality_fits, members_fit, throwing_fits}
use Rattle.code_meaning.specs.declared.word.Word.{Word}
use Rattle.code_meaning.specs.declared.word.Word.TheVariants.{I, J, R}
use Rattle.code_meaning.specs.Members.{Receiving, Unfit, OnNull, Receives, Reads, count_of, given_as, received, references_in, taken, taken_alike, taken_result, ints_in}
use Rattle.code_meaning.specs.Words.{Calculation, NoRow, Calculates, boxed, calculation, unboxed, word_of, start_of, takes_one, is_shift, one_int, two_ints, one_long, two_longs, long_and_int, op_of, op_of_dynamic}
use Rattle.arithmetic.specs.declared.operator.Op.{Op}
use Rattle.code_meaning.specs.Machine.{Codes, code_in, function_of, Frame, Next, Goes, Ends, Stuck, Handlers, is_instance, lands, traps_of, unwind, on_top, on_int, on_reference, on_value, on_values, on_first, on_local, on_stack, on_words, to_line, take_words, copied, pushed, depth_of, is_written, on_outcome, on_done, on_thrown, on_found, on_found_paid, on_access, on_put, on_put_paid, on_write, dynamic_given, on_operated, operator_act, sized_act, method_act, on_calculation, on_given, cast_each, gives_back, returns, returns_of, on_turn, on_enter, on_call, on_act, on_paid, on_tested, on_received, plain_act, numbered_act, quoted_act, typed_act, member_act, act, acts, lines_of, step, start_at, after}
use Rattle.code_fit.specs.CodeRules.{rules_of_codes}
use Rattle.code_fit.specs.Laws.{StartsFit, StepsFit, RunsFit}
use Rattle.code_fit.specs.Moments.{WordFits, WordsFit, FramesFit, ResultFits, NextFits}
use Rattle.code_fit.proofs.Nexts.{int_holds, long_holds, type_holds, ints_hold, loops_hold, either_holds, chosen_holds, null_holds}
use Rattle.code_fit.proofs.Words.{frames_grow, words_grow, words_join, starts_fit, words_set, FoundFits, word_at, CopiedFit, pop_fits, dup_fits, dup2_fits, dupx1_fits, dupx2_fits, TakenFit, take_fits, unboxed_fits, number_fits, given_fits, boxed_fits, taken_fits, taken_result_fits, references_fit, alike_fit, ReceivingFits, received_fits}

-- ---- the operands of a calculation

abbrev CalculationFits : ℕ → Calculation → Type 0
CalculationFits n NoRow = Unit {0}
CalculationFits n (Calculates given stack) = WordsFit n stack

one_int_fits : (n : ℕ) (o : Op) (stack : List Word) → WordsFit n stack → CalculationFits n (one_int o stack)
one_int_fits n o [] f = tt
one_int_fits n o (I a ∷ stack) f = f.1
one_int_fits n o (J a ∷ stack) f = tt
one_int_fits n o (R a ∷ stack) f = tt

two_ints_fit : (n : ℕ) (o : Op) (stack : List Word) → WordsFit n stack → CalculationFits n (two_ints o stack)
two_ints_fit n o [] f = tt
two_ints_fit n o (I b ∷ []) f = tt
two_ints_fit n o (I b ∷ I a ∷ stack) f = f.1.1
two_ints_fit n o (I b ∷ J a ∷ stack) f = tt
two_ints_fit n o (I b ∷ R a ∷ stack) f = tt
two_ints_fit n o (J b ∷ stack) f = tt
two_ints_fit n o (R b ∷ stack) f = tt

one_long_fits : (n : ℕ) (o : Op) (stack : List Word) → WordsFit n stack → CalculationFits n (one_long o stack)
one_long_fits n o [] f = tt
one_long_fits n o (I a ∷ stack) f = tt
one_long_fits n o (J a ∷ stack) f = f.1
one_long_fits n o (R a ∷ stack) f = tt

long_and_int_fits : (n : ℕ) (o : Op) (stack : List Word) → WordsFit n stack → CalculationFits n (long_and_int o stack)
long_and_int_fits n o [] f = tt
long_and_int_fits n o (I b ∷ []) f = tt
long_and_int_fits n o (I b ∷ I a ∷ stack) f = tt
long_and_int_fits n o (I b ∷ J a ∷ stack) f = f.1.1
long_and_int_fits n o (I b ∷ R a ∷ stack) f = tt
long_and_int_fits n o (J b ∷ stack) f = tt
long_and_int_fits n o (R b ∷ stack) f = tt

two_longs_fit : (n : ℕ) (o : Op) (stack : List Word) → WordsFit n stack → CalculationFits n (two_longs o stack)
two_longs_fit n o [] f = tt
two_longs_fit n o (J b ∷ []) f = tt
two_longs_fit n o (J b ∷ I a ∷ stack) f = tt
two_longs_fit n o (J b ∷ J a ∷ stack) f = f.1.1
two_longs_fit n o (J b ∷ R a ∷ stack) f = tt
two_longs_fit n o (I b ∷ stack) f = tt
two_longs_fit n o (R b ∷ stack) f = tt

chosen : (n : ℕ) (test : Bool) (x y : Calculation) → CalculationFits n x → CalculationFits n y → CalculationFits n (if test then x else y)
chosen n true x y f g = f
chosen n false x y f g = g

operands_fit : (n : ℕ) (o : ArithmeticOp) (w : Width) (stack : List Word) → WordsFit n stack → CalculationFits n (calculation o w stack)
operands_fit n o width.Int stack f = chosen n (takes_one o) _ _ (one_int_fits n (op_of o) stack f) (two_ints_fit n (op_of o) stack f)
operands_fit n o width.Long stack f =
    chosen n (takes_one o) _ _ (one_long_fits n (op_of o) stack f)
    (chosen n (is_shift o) _ _ (long_and_int_fits n (op_of o) stack f) (two_longs_fit n (op_of o) stack f))

-- ---- steps

module _ (rules : Rules) (before : List Object) where
  abbrev N : Next → Type 0
  N n = NextFits rules before n

  -- a moment: its world, and its frames
  abbrev Here : World → List Frame → Type 0
  Here w fs = WorldFits rules before w × FramesFit (count_in w) fs

  same_store : (w after : World) → after.store ≡ w.store → WorldFits rules before w → WorldFits rules before after
  same_store w after e h = record { fits = subst (λ (s : Store). Fits rules s.objects) (sym e) h.fits; there = subst (λ (s : Store). StillThere before s.objects) (sym e) h.there }

  same_frames : (w after : World) (fs : List Frame) → after.store ≡ w.store → Here w fs → Here after fs
  same_frames w after fs e h = (same_store w after e h.0, subst (λ (s : Store). FramesFit (length s.objects) fs) (sym e) h.1)

  same_words : (w after : World) (words : List Word) → after.store ≡ w.store → WordsFit (count_in w) words → WordsFit (count_in after) words
  same_words w after words e h = subst (λ (s : Store). WordsFit (length s.objects) words) (sym e) h

  line_fits : (f : Frame) (below : List Frame) (w : World) (line : ℕ) (stack : List Word) → Here w (f ∷ below) → WordsFit (count_in w) stack → N (to_line f below w line stack)
  line_fits f below w line stack h s = record { world = h.0; frames = ((h.1.0.0, s), h.1.1) }

  top_fits : (n : ℕ) (stack : List Word) (next : Word → List Word → Next) → WordsFit n stack → ((word : Word) (rest : List Word) → WordFits n word → WordsFit n rest → N (next word rest))
      → N (on_top stack next)
  top_fits n [] next f k = tt
  top_fits n (word ∷ stack) next f k = k word stack f.0 f.1

  reference_fits : (n : ℕ) (word : Word) (next : Value → Next) → WordFits n word → ((value : Value) → ValueFits n value → N (next value)) → N (on_reference word next)
  reference_fits n (I a) next f k = tt
  reference_fits n (J a) next f k = tt
  reference_fits n (R value) next f k = k value f

  value_fits : (n : ℕ) (o : Option Value) (next : Value → Next) → MadeFits n o → ((value : Value) → ValueFits n value → N (next value)) → N (on_value o next)
  value_fits n None next f k = tt
  value_fits n (Some value) next f k = k value f

  local_fits : (n : ℕ) (o : Option Word) (next : Word → Next) → FoundFits n o → ((word : Word) → WordFits n word → N (next word)) → N (on_local o next)
  local_fits n None next f k = tt
  local_fits n (Some word) next f k = k word f

  stack_fits : (n : ℕ) (o : Option (List Word)) (next : List Word → Next) → CopiedFit n o → ((stack : List Word) → WordsFit n stack → N (next stack)) → N (on_stack o next)
  stack_fits n None next f k = tt
  stack_fits n (Some stack) next f k = k stack f

  words_fit : (n : ℕ) (o : Option (List Word × List Word)) (next : List Word → List Word → Next) → TakenFit n o
      → ((words stack : List Word) → WordsFit n words → WordsFit n stack → N (next words stack)) → N (on_words o next)
  words_fit n None next f k = tt
  words_fit n (Some p) next f k = k p.0 p.1 f.0 f.1

  values_fit : (n : ℕ) (o : Option (List Value)) (next : List Value → Next) → AllMadeFit n o → ((values : List Value) → AllFit n values → N (next values)) → N (on_values o next)
  values_fit n None next f k = tt
  values_fit n (Some values) next f k = k values f

  first_fits : (n : ℕ) (values : List Value) (next : Value → List Value → Next) → AllFit n values → ((value : Value) (others : List Value) → AllFit n (value ∷ others) → N (next value others)) → N (on_first values next)
  first_fits n [] next f k = tt
  first_fits n (value ∷ values) next f k = k value values f

  module _ (codes : Codes) (limits : Limits) where
    -- ---- what is thrown

    lands_fit : (hs : Handlers) (f : Frame) (fs : List Frame) (id : ℕ) (place : Arose) (w : World) (further : Next) → Here w (f ∷ fs) → ThrownFits w.store.objects id → N further
        → N (lands hs f.text f.fun f.locals f.turns f.due fs id place w further)
    lands_fit [] f fs id place w further h t k = k
    lands_fit (x ∷ xs) f fs id place w further h t k = by_test (lands_fit xs f fs id place w further h t k) (is_instance x.class id w) where
      by_test : N (lands xs f.text f.fun f.locals f.turns f.due fs id place w further) → (b : Bool)
          → N (if b then Goes (record { top = record { text = f.text; fun = f.fun; line = x.at; locals = f.locals; stack = R (v.Ref id) ∷ []; turns = f.turns; due = f.due }; below = fs; world = w }) else lands xs f.text f.fun f.locals f.turns f.due fs id place w further)
      by_test rest true = record { world = h.0; frames = ((h.1.0.0, (t.0, tt)), h.1.1) }
      by_test rest false = rest

    unwind_fits : (fs : List Frame) (id : ℕ) (place : Arose) (w : World) → Here w fs → ThrownFits w.store.objects id → N (unwind codes fs id place w)
    unwind_fits [] id place w h t = (h.0, t)
    unwind_fits (f ∷ fs) id place w h t = lands_fit (traps_of (function_of codes f) f.line) f fs id place w (unwind codes fs id place w) h t (unwind_fits fs id place w (h.0, h.1.1) t)

    outcome_fits : (o : Outcome Value) (word : Value → Word) → ((n : ℕ) (value : Value) → ValueFits n value → WordFits n (word value)) → (f : Frame) (below : List Frame) (w : World) (stack : List Word)
        → Here w (f ∷ below) → WordsFit (count_in w) stack → OutcomeFits rules before (count_in w) o → N (on_outcome codes limits o word f below w stack)
    outcome_fits (Given value w') word k f below w stack h s g =
        line_fits f below w' (suc f.line) (word value ∷ stack) (g.0, frames_grow (count_in w) (count_in w') g.1 (f ∷ below) h.1) (k (count_in w') value g.2, words_grow (count_in w) (count_in w') g.1 stack s)
    outcome_fits (Raised id w') word k f below w stack h s g = unwind_fits (f ∷ below) id not_told w' (g.0, frames_grow (count_in w) (count_in w') g.1 (f ∷ below) h.1) g.2
    outcome_fits Full word k f below w stack h s g = h.0

    done_fits : (o : Outcome Value) (f : Frame) (below : List Frame) (w : World) (stack : List Word) → Here w (f ∷ below) → WordsFit (count_in w) stack → OutcomeFits rules before (count_in w) o
        → N (on_done codes limits o f below w stack)
    done_fits (Given value w') f below w stack h s g =
        line_fits f below w' (suc f.line) stack (g.0, frames_grow (count_in w) (count_in w') g.1 (f ∷ below) h.1) (words_grow (count_in w) (count_in w') g.1 stack s)
    done_fits (Raised id w') f below w stack h s g = unwind_fits (f ∷ below) id not_told w' (g.0, frames_grow (count_in w) (count_in w') g.1 (f ∷ below) h.1) g.2
    done_fits Full f below w stack h s g = h.0

    thrown_fits : (o : Outcome Value) (f : Frame) (below : List Frame) (w : World) → Here w (f ∷ below) → OutcomeFits rules before (count_in w) o → N (on_thrown codes limits o f below w)
    thrown_fits (Given value w') f below w h g = tt
    thrown_fits (Raised id w') f below w h g = unwind_fits (f ∷ below) id not_told w' (g.0, frames_grow (count_in w) (count_in w') g.1 (f ∷ below) h.1) g.2
    thrown_fits Full f below w h g = h.0

    -- ---- the casts that are due

    given_on : (o : Outcome Value) (f : Frame) (below : List Frame) (w : World) (next : Value → World → Next) → Here w (f ∷ below) → OutcomeFits rules before (count_in w) o
        → ((value : Value) (w' : World) → Here w' (f ∷ below) → ValueFits (count_in w') value → N (next value w')) → N (on_given codes limits o f below w next)
    given_on (Given value w') f below w next h g k = k value w' (g.0, frames_grow (count_in w) (count_in w') g.1 (f ∷ below) h.1) g.2
    given_on (Raised id w') f below w next h g k = unwind_fits (f ∷ below) id not_told w' (g.0, frames_grow (count_in w) (count_in w') g.1 (f ∷ below) h.1) g.2
    given_on Full f below w next h g k = h.0

    each_fits : (tos : List Ty) (value : Value) (f : Frame) (below : List Frame) (w : World) → Here w (f ∷ below) → ValueFits (count_in w) value → N (cast_each codes limits tos value f below w)
    each_fits [] value f below w h x = line_fits f below w (suc f.line) (R value ∷ f.stack) h (x, h.1.0.1)
    each_fits (to ∷ tos) value f below w h x =
        given_on (acts_in w (effect w.store (cast_at_run_time w.store.objects value to false))) f below w _ h (casts_fit rules before w value to false h.0 x)
        (λ value w' h' x'. each_fits tos value f below w' h' x')

    -- ---- members

    act_fits : (o : Option Effect) (t : MemberType) (f : Frame) (below : List Frame) (w : World) (stack : List Word) → Here w (f ∷ below) → WordsFit (count_in w) stack → DoneFits rules before w o
        → N (on_act codes limits o t f below w stack)
    act_fits None t f below w stack h s g = tt
    act_fits (Some e) t f below w stack h s g = outcome_fits (acts_in w e) (given_as t.result) (given_fits t.result) f below w stack h s g

    paid_fits : (c : Counted) (number : ℕ) (arguments : List Value) (t : MemberType) (f : Frame) (below : List Frame) (w : World) (stack : List Word) → Here w (f ∷ below) → WordsFit (count_in w) stack
        → AllFit (count_in w) arguments → SameStore w c → N (on_paid codes limits c number arguments t f below stack)
    paid_fits (Passes limit w') number arguments t f below w stack h s g p = same_store w w' p h.0
    paid_fits (Counts w') number arguments t f below w stack h s g p =
        act_fits (does limits.ground.host number arguments w'.store) t f below w' stack (same_frames w w' (f ∷ below) p h) (same_words w w' stack p s)
        (members_fit rules before w' limits.ground.host number arguments (same_store w w' p h.0) (subst (λ (x : Store). AllFit (length x.objects) arguments) (sym p) g))

    tested_fits : (suits : Bool) (number : ℕ) (arguments : List Value) (t : MemberType) (f : Frame) (below : List Frame) (w : World) (stack : List Word) → Here w (f ∷ below) → WordsFit (count_in w) stack
        → AllFit (count_in w) arguments → N (on_tested codes limits suits number arguments t f below w stack)
    tested_fits false number arguments t f below w stack h s g =
        outcome_fits (acts_in w (effect w.store wrong_class)) (given_as t.result) (given_fits t.result) f below w stack h s (outcomes_fit rules before w wrong_class h.0 tt)
    tested_fits true number arguments t f below w stack h s g =
        paid_fits (pay_member f.text number w) number arguments t f below w stack h s g (member_keeps f.text number w)

    received_act_fits : (r : Receiving) (number : ℕ) (t : MemberType) (f : Frame) (below : List Frame) (w : World) (stack : List Word) → Here w (f ∷ below) → WordsFit (count_in w) stack
        → ReceivingFits (count_in w) r → N (on_received codes limits r number t f below w stack)
    received_act_fits Unfit number t f below w stack h s g = tt
    received_act_fits OnNull number t f below w stack h s g =
        outcome_fits (acts_in w (effect w.store null_error)) (given_as t.result) (given_fits t.result) f below w stack h s (outcomes_fit rules before w null_error h.0 tt)
    received_act_fits (Receives arguments) number t f below w stack h s g = tested_fits (suits_member w.store.objects t arguments) number arguments t f below w stack h s g
    received_act_fits Reads number t f below w stack h s g =
        act_fits (does limits.ground.host number [] w.store) t f below w stack h s (members_fit rules before w limits.ground.host number [] h.0 tt)

    -- ---- what is found for a receiver when the code runs

    whole_fits : (n : ℕ) (value : Value) → ValueFits n value → WordFits n (R value)
    whole_fits n value f = f

    found_fits : (o : Option Effect) (f : Frame) (below : List Frame) (w : World) (stack : List Word) → Here w (f ∷ below) → WordsFit (count_in w) stack → DoneFits rules before w o
        → N (on_found codes limits o f below w stack)
    found_fits None f below w stack h s g = tt
    found_fits (Some e) f below w stack h s g = outcome_fits (acts_in w e) R whole_fits f below w stack h s g

    found_paid_fits : (c : Counted) (number : ℕ) (arguments : List Value) (f : Frame) (below : List Frame) (w : World) (stack : List Word) → Here w (f ∷ below) → WordsFit (count_in w) stack
        → AllFit (count_in w) arguments → SameStore w c → N (on_found_paid codes limits c number arguments f below stack)
    found_paid_fits (Passes limit w') number arguments f below w stack h s g p = same_store w w' p h.0
    found_paid_fits (Counts w') number arguments f below w stack h s g p =
        found_fits (does limits.ground.host number arguments w'.store) f below w' stack (same_frames w w' (f ∷ below) p h) (same_words w w' stack p s)
        (members_fit rules before w' limits.ground.host number arguments (same_store w w' p h.0) (subst (λ (x : Store). AllFit (length x.objects) arguments) (sym p) g))

    access_fits : (a : Access) (f : Frame) (below : List Frame) (w : World) (stack : List Word) → Here w (f ∷ below) → WordsFit (count_in w) stack → AccessFits rules before w a
        → N (on_access codes limits a f below w stack)
    access_fits (Calls number arguments) f below w stack h s g = found_paid_fits (pay_member f.text number w) number arguments f below w stack h s g (member_keeps f.text number w)
    access_fits (Acts e) f below w stack h s g = outcome_fits (acts_in w e) R whole_fits f below w stack h s g

    put_fits : (o : Option Effect) (f : Frame) (below : List Frame) (w : World) (stack : List Word) → Here w (f ∷ below) → WordsFit (count_in w) stack → DoneFits rules before w o
        → N (on_put codes limits o f below w stack)
    put_fits None f below w stack h s g = tt
    put_fits (Some e) f below w stack h s g = done_fits (acts_in w e) f below w stack h s g

    put_paid_fits : (c : Counted) (number : ℕ) (arguments : List Value) (f : Frame) (below : List Frame) (w : World) (stack : List Word) → Here w (f ∷ below) → WordsFit (count_in w) stack
        → AllFit (count_in w) arguments → SameStore w c → N (on_put_paid codes limits c number arguments f below stack)
    put_paid_fits (Passes limit w') number arguments f below w stack h s g p = same_store w w' p h.0
    put_paid_fits (Counts w') number arguments f below w stack h s g p =
        put_fits (does limits.ground.host number arguments w'.store) f below w' stack (same_frames w w' (f ∷ below) p h) (same_words w w' stack p s)
        (members_fit rules before w' limits.ground.host number arguments (same_store w w' p h.0) (subst (λ (x : Store). AllFit (length x.objects) arguments) (sym p) g))

    write_fits : (a : Access) (f : Frame) (below : List Frame) (w : World) (stack : List Word) → Here w (f ∷ below) → WordsFit (count_in w) stack → AccessFits rules before w a
        → N (on_write codes limits a f below w stack)
    write_fits (Calls number arguments) f below w stack h s g = put_paid_fits (pay_member f.text number w) number arguments f below w stack h s g (member_keeps f.text number w)
    write_fits (Acts e) f below w stack h s g = done_fits (acts_in w e) f below w stack h s g

    -- ---- operators on values of any types

    dynamic_fits : (o : Op) (n : ℕ) (value : Value) → ValueFits n value → WordFits n (dynamic_given codes limits o value)
    dynamic_fits o n value x = by_test (compares o) where
      by_test : (b : Bool) → WordFits n (if b then unboxed value else R value)
      by_test true = unboxed_fits n value x
      by_test false = x

    zero_fits : (w : World) → WorldFits rules before w → OutcomeFits rules before (count_in w) (acts_in w (effect w.store zero_divisor))
    unfolding says
    zero_fits w h = outcomes_fit rules before w zero_divisor h tt

    -- ---- in a frame

    module _ (f : Frame) (below : List Frame) (w : World) (here : Here w (f ∷ below)) where
      abbrev count : ℕ
      count = count_in w

      member_fits : (allow : AllowList) (o : Option ℕ) → N (member_act codes limits allow o f below w)
      member_fits allow None = tt
      member_fits allow (Some number) =
          words_fit count (take_words (count_of (member_in allow number)) f.stack []) _ (take_fits count (count_of (member_in allow number)) f.stack [] here.1.0.1 tt)
          (λ words stack g s. received_act_fits (received (member_in allow number) words) number (member_in allow number) f below w stack here s (received_fits count (member_in allow number) words g))

      calculation_fits : (c : Calculation) → CalculationFits count c → N (on_calculation codes limits c f below w)
      calculation_fits NoRow s = tt
      calculation_fits (Calculates None stack) s = outcome_fits (acts_in w (effect w.store zero_divisor)) unboxed unboxed_fits f below w stack here s (zero_fits w here.0)
      calculation_fits (Calculates (Some number) stack) s = line_fits f below w (suc f.line) (word_of number ∷ stack) here (number_fits count number, s)

      pushed_fits : (result : Option Word) (stack : List Word) → ResultFits count result → WordsFit count stack → WordsFit count (pushed result stack)
      pushed_fits None stack r s = s
      pushed_fits (Some word) stack r s = (r, s)

      gives_fit : (fs : List Frame) (due : List Ty) (result : Option Word) → FramesFit count fs → ResultFits count result → N (gives_back codes limits fs due result w)
      gives_fit [] due result h r = (here.0, r)
      gives_fit (g ∷ fs) [] result h r = line_fits g fs w (suc g.line) (pushed result g.stack) (here.0, h) (pushed_fits result g.stack r h.0.1)
      gives_fit (g ∷ fs) (from ∷ tos) result h r =
          value_fits count (taken_result from result) _ (taken_result_fits count from result r) (λ value x. each_fits tos value g fs w (here.0, h) x)

      returns_fit : (kind : Option Slot) → N (returns_of codes limits kind f.stack (λ result. gives_back codes limits below f.due result w))
      returns_fit None = gives_fit below f.due None here.1.1 tt
      returns_fit (Some kind) = top_fits count f.stack _ here.1.0.1 (λ word rest g s. gives_fit below f.due (Some word) here.1.1 g)

      return_fits : (o : Option FunCode) → N (returns codes limits o f.stack (λ result. gives_back codes limits below f.due result w))
      return_fits None = tt
      return_fits (Some g) = returns_fit g.result

      turn_fits : (c : Counted) (to : ℕ) (stack : List Word) → WordsFit count stack → SameStore w c → N (on_turn codes limits c to f below w stack)
      turn_fits (Passes limit w') to stack s p = same_store w w' p here.0
      turn_fits (Counts w') to stack s p =
          let h = same_frames w w' (f ∷ below) p here in
          record { world = h.0; frames = ((h.1.0.0, same_words w w' stack p s), h.1.1) }

      enter_fits : (c : Counted) (text : Owner) (k : ℕ) (g : FunCode) (due : List Ty) (args stack : List Word) → WordsFit count args → WordsFit count stack → SameStore w c
          → N (on_enter codes limits c text k g due f below w args stack)
      enter_fits (Passes limit w') text k g due args stack a s p = same_store w w' p here.0
      enter_fits (Counts w') text k g due args stack a s p =
          let h = same_frames w w' (f ∷ below) p here in
          record { world = h.0; frames = ((words_join (count_in w') args (map start_of g.locals) (same_words w w' args p a) (starts_fit (count_in w') g.locals), tt), ((h.1.0.0, same_words w w' stack p s), h.1.1)) }

      call_fits : (o : Option FunCode) (k : ℕ) → N (on_call codes limits o k f below w)
      call_fits None k = tt
      call_fits (Some g) k =
          words_fit count _ _ (take_fits count (length g.params) f.stack [] here.1.0.1 tt)
          (λ args stack a s. enter_fits (enter limits (depth_of below) w) f.text k g [] args stack a s (call_keeps limits (depth_of below) w))

      on_one : (next : Value → List Word → Next) → ((value : Value) (stack : List Word) → ValueFits count value → WordsFit count stack → N (next value stack))
          → N (on_top f.stack (λ word stack. on_reference word (λ value. next value stack)))
      on_one next k = top_fits count f.stack _ here.1.0.1 (λ word stack g s. reference_fits count word _ g (λ value x. k value stack x s))

      on_two : (next : Value → Value → List Word → Next) → ((a b : Value) (stack : List Word) → AllFit count (a ∷ b ∷ []) → WordsFit count stack → N (next a b stack))
          → N (on_top f.stack (λ upper rest. on_reference upper (λ b. on_top rest (λ lower stack. on_reference lower (λ a. next a b stack)))))
      on_two next k =
          top_fits count f.stack _ here.1.0.1 (λ upper rest g s. reference_fits count upper _ g (λ b x.
          top_fits count rest _ s (λ lower stack g' s'. reference_fits count lower _ g' (λ a y. k a b stack (y, (x, tt)) s'))))

      on_three : (next : Value → Value → Value → List Word → Next) → ((a b c : Value) (stack : List Word) → AllFit count (a ∷ b ∷ c ∷ []) → WordsFit count stack → N (next a b c stack))
          → N (on_top f.stack (λ third more. on_reference third (λ c. on_top more (λ second rest. on_reference second (λ b. on_top rest (λ first stack. on_reference first (λ a. next a b c stack)))))))
      on_three next k =
          top_fits count f.stack _ here.1.0.1 (λ third more g s. reference_fits count third _ g (λ c z.
          top_fits count more _ s (λ second rest g' s'. reference_fits count second _ g' (λ b y.
          top_fits count rest _ s' (λ first stack g'' s''. reference_fits count first _ g'' (λ a x. k a b c stack (x, (y, (z, tt))) s''))))))

      -- an array and an index in it, off a stack
      on_place : (stack : List Word) (next : ℤ → Value → List Word → Next) → WordsFit count stack → ((at : ℤ) (array : Value) (rest : List Word) → ValueFits count array → WordsFit count rest → N (next at array rest))
          → N (on_top stack (λ upper rest. on_int upper (λ at. on_top rest (λ lower stack. on_reference lower (λ array. next at array stack)))))
      on_place stack next h k =
          top_fits count stack _ h (λ upper rest g s. int_holds N tt upper _ (λ at.
          top_fits count rest _ s (λ lower left g' s'. reference_fits count lower _ g' (λ array x. k at array left x s'))))

      -- so many words
      on_parts : (n : ℕ) (next : List Word → List Word → Next) → ((words stack : List Word) → WordsFit count words → WordsFit count stack → N (next words stack)) → N (on_words (take_words n f.stack []) next)
      on_parts n next k = words_fit count (take_words n f.stack []) next (take_fits count n f.stack [] here.1.0.1 tt) k

      on_number : (next : ℤ → List Word → Next) → ((a : ℤ) (stack : List Word) → WordsFit count stack → N (next a stack)) → N (on_top f.stack (λ word stack. on_int word (λ a. next a stack)))
      on_number next k = top_fits count f.stack _ here.1.0.1 (λ word stack g s. int_holds N tt word _ (λ a. k a stack s))

      to : (line : ℕ) (stack : List Word) → WordsFit count stack → N (to_line f below w line stack)
      to line stack s = line_fits f below w line stack here s

      copies_fit : (o : Option (List Word)) → CopiedFit count o → N (on_stack o (λ stack. to_line f below w (suc f.line) stack))
      copies_fit o g = stack_fits count o _ g (λ stack s. to (suc f.line) stack s)

      plain_fits : (p : Plain) → N (plain_act codes limits p f below w)
      plain_fits plain.Null = to (suc f.line) (R v.Null ∷ f.stack) (tt, here.1.0.1)
      plain_fits plain.Pop = copies_fit (copied plain.Pop f.stack) (pop_fits count f.stack here.1.0.1)
      plain_fits plain.Dup = copies_fit (copied plain.Dup f.stack) (dup_fits count f.stack here.1.0.1)
      plain_fits plain.Dup2 = copies_fit (copied plain.Dup2 f.stack) (dup2_fits count f.stack here.1.0.1)
      plain_fits plain.DupX1 = copies_fit (copied plain.DupX1 f.stack) (dupx1_fits count f.stack here.1.0.1)
      plain_fits plain.DupX2 = copies_fit (copied plain.DupX2 f.stack) (dupx2_fits count f.stack here.1.0.1)
      plain_fits plain.IntToLong = on_number _ (λ a stack s. to _ _ (tt, s))
      plain_fits plain.LongToInt = top_fits count f.stack _ here.1.0.1 (λ word stack g s. long_holds N tt word _ (λ a. to _ _ (tt, s)))
      plain_fits plain.IntToByte = on_number _ (λ a stack s. to _ _ (tt, s))
      plain_fits plain.IntToShort = on_number _ (λ a stack s. to _ _ (tt, s))
      plain_fits plain.IntToChar = on_number _ (λ a stack s. to _ _ (tt, s))
      plain_fits plain.Concat =
          on_two _ (λ a b stack x s. outcome_fits (acts_in w (effect w.store (concatenated w.store.objects a b))) R (λ n value x. x) f below w stack here s (concatenation_fits rules before w a b here.0))
      plain_fits plain.Same = on_two _ (λ a b stack x s. to _ _ (tt, s))
      plain_fits plain.Equal =
          on_two _ (λ a b stack x s. outcome_fits (acts_in w (effect w.store (equal w.store.objects a b))) unboxed unboxed_fits f below w stack here s (equality_fits rules before w a b here.0))
      plain_fits plain.ArrayLength =
          on_one _ (λ value stack x s. outcome_fits (acts_in w (length_of w.store value)) unboxed unboxed_fits f below w stack here s (containers.length_fits rules before w here.0 value))
      plain_fits plain.GetIndex =
          on_two _ (λ receiver index stack x s. access_fits (index_read (allowed_in limits f.text) w.store receiver index) f below w stack here s
          (containers.index_read_fits rules before w here.0 (allowed_in limits f.text) receiver index x))
      plain_fits plain.PutIndex =
          on_three _ (λ receiver index value stack x s. write_fits (index_written (allowed_in limits f.text) w.store receiver index value) f below w stack here s
          (containers.index_written_fits rules before w here.0 (allowed_in limits f.text) receiver index value x))
      plain_fits plain.Iter = on_one _ (λ value stack x s. outcome_fits (acts_in w (iterated w.store value)) R whole_fits f below w stack here s (containers.iterated_fits rules before w here.0 value))
      plain_fits plain.Has = on_one _ (λ value stack x s. outcome_fits (acts_in w (has_more w.store value)) unboxed unboxed_fits f below w stack here s (containers.has_fits rules before w here.0 value))
      plain_fits plain.Next = on_one _ (λ value stack x s. outcome_fits (acts_in w (next_element w.store value)) R whole_fits f below w stack here s (containers.next_fits rules before w here.0 value))
      plain_fits plain.Throw = on_one _ (λ value stack x s. thrown_fits (acts_in w (thrown w.store value)) f below w here (throwing_fits rules before w value here.0))
      plain_fits plain.Ret = return_fits (function_of codes f)

      numbered_fits : (n : Numbered) (k : ℕ) → N (numbered_act codes limits n k f below w)
      numbered_fits numbered.Load k = local_fits count (slice_get f.locals k) _ (word_at count f.locals k here.1.0.0) (λ word g. to (suc f.line) (word ∷ f.stack) (g, here.1.0.1))
      numbered_fits numbered.Store k =
          top_fits count f.stack _ here.1.0.1 (λ word stack g s. record { world = here.0; frames = ((words_set count f.locals k word here.1.0.0 g, s), here.1.1) })
      numbered_fits numbered.Goto k = to k f.stack here.1.0.1
      numbered_fits numbered.IfZero k = on_number _ (λ a stack s. either_holds N a _ _ (to _ _ s) (to _ _ s))
      numbered_fits numbered.IfNotZero k = on_number _ (λ a stack s. either_holds N a _ _ (to _ _ s) (to _ _ s))
      numbered_fits numbered.IfNull k = on_one _ (λ value stack x s. null_holds N value _ _ (to _ _ s) (to _ _ s))
      numbered_fits numbered.Loop k =
          loops_hold N tt codes limits (function_of codes f) _ (λ limited. on_number _ (λ a stack s.
          either_holds N a _ _ (turn_fits (take_turn limits limited f.turns w) k stack s (turn_keeps limits limited f.turns w)) (to _ _ s)))
      numbered_fits numbered.Call k = call_fits (slice_get (code_in codes f.text) k) k
      numbered_fits numbered.List k =
          on_parts k _ (λ words stack g s. values_fit count (references_in words) _ (references_fit count words g) (λ items x.
          outcome_fits (acts_in w (list_made w.store items)) R whole_fits f below w stack here s (containers.list_fits rules before w here.0 items x)))
      numbered_fits numbered.Map k =
          on_parts (2 * k) _ (λ words stack g s. values_fit count (references_in words) _ (references_fit count words g) (λ parts x.
          outcome_fits (acts_in w (map_made w.store parts)) R whole_fits f below w stack here s (containers.map_fits rules before w here.0 parts x)))

      quoted_fits : (q : Quoting) (text : List ℕ) → N (quoted_act codes limits q text f below w)
      quoted_fits quoting.Constant text = to _ _ (tt, here.1.0.1)
      quoted_fits quoting.GetName name =
          on_one _ (λ receiver stack x s. access_fits (name_read (allowed_in limits f.text) w.store receiver name) f below w stack here s
          (containers.name_read_fits rules before w here.0 (allowed_in limits f.text) receiver name x))
      quoted_fits quoting.PutName name =
          on_two _ (λ receiver value stack x s. write_fits (name_written (allowed_in limits f.text) w.store receiver name value) f below w stack here s
          (containers.name_written_fits rules before w here.0 (allowed_in limits f.text) receiver name value x))

      typed_fits : (t : Typed) (of : Ty) → N (typed_act codes limits t of f below w)
      typed_fits typed.IsA of = on_one _ (λ value stack x s. to _ _ (tt, s))
      typed_fits typed.LoadElement of =
          on_place f.stack _ here.1.0.1 (λ at array stack x s. outcome_fits (acts_in w (element_read w.store of array at)) (given_as of) (given_fits of) f below w stack here s
          (containers.element_fits rules before w here.0 of array at))
      typed_fits typed.StoreElement of =
          top_fits count f.stack _ here.1.0.1 (λ third more g s. value_fits count (taken of third) _ (taken_fits count of third g) (λ value y.
          on_place more _ s (λ at array stack x s'. done_fits (acts_in w (element_written w.store of array at value)) f below w stack here s'
          (containers.written_fits rules before w here.0 of array at value y))))

      sized_fits : (s : Sized) (of : Ty) (n : ℕ) → N (sized_act codes limits s of n f below w)
      sized_fits sized.Filled elem n =
          on_parts n _ (λ words stack g s. values_fit count (taken_alike elem words) _ (alike_fit count elem words g) (λ items x.
          outcome_fits (acts_in w (array_filled w.store elem items)) R whole_fits f below w stack here s (containers.filled_fits rules before w here.0 elem items x)))
      sized_fits sized.Empty of n =
          on_parts n _ (λ words stack g s. ints_hold N tt (ints_in words) _ (λ sizes.
          outcome_fits (acts_in w (array_made w.store of sizes)) R whole_fits f below w stack here s (containers.array_fits rules before w here.0 of sizes)))

      method_fits : (name : List ℕ) (n : ℕ) → N (method_act codes limits name n f below w)
      method_fits name n =
          on_parts (suc n) _ (λ words stack g s. values_fit count (references_in words) _ (references_fit count words g) (λ values x.
          first_fits count values _ x (λ receiver arguments y. access_fits (method_called (allowed_in limits f.text) w.store receiver name arguments) f below w stack here s
          (containers.method_called_fits rules before w here.0 (allowed_in limits f.text) receiver name arguments y))))

      operated_fits : (o : Op) (a b : Value) (stack : List Word) → WordsFit count stack → N (on_operated codes limits o a b f below w stack)
      operated_fits o a b stack s =
          outcome_fits (acts_in w (effect w.store (operate w.store.objects o a b))) (dynamic_given codes limits o) (dynamic_fits o) f below w stack here s (containers.operate_fits rules before w here.0 o a b)

      operator_fits : (o : Op) → N (operator_act codes limits o f below w)
      operator_fits o =
          top_fits count f.stack _ here.1.0.1 (λ upper rest g s. reference_fits count upper _ g (λ b x. chosen_holds N (is_unary o) _ _ (operated_fits o b b rest s)
          (top_fits count rest _ s (λ lower stack g' s'. reference_fits count lower _ g' (λ a y. operated_fits o a b stack s')))))

      act_fits_here : (instruction : Instruction) → N (act codes limits instruction f below w)
      act_fits_here (i.Plain p) = plain_fits p
      act_fits_here (i.Arithmetic o width) = calculation_fits (calculation o width f.stack) (operands_fit count o width f.stack here.1.0.1)
      act_fits_here (i.Int a) = to _ _ (tt, here.1.0.1)
      act_fits_here (i.Long a) = to _ _ (tt, here.1.0.1)
      act_fits_here (i.Numbered n k) = numbered_fits n k
      act_fits_here (i.Boxing p) =
          top_fits count f.stack _ here.1.0.1 (λ word stack g s. value_fits count (boxed p word) _ (boxed_fits count p word) (λ value x. to (suc f.line) (R value ∷ stack) (x, s)))
      act_fits_here (i.Unboxing p way) =
          on_one _ (λ value stack x s. outcome_fits (acts_in w (effect w.store (cast_at_run_time w.store.objects value (ty.Prim p) (is_written way)))) unboxed unboxed_fits f below w stack here s
          (casts_fit rules before w value (ty.Prim p) (is_written way) here.0 x))
      act_fits_here (i.Dynamic o) = operator_fits (op_of_dynamic o)
      act_fits_here (i.Quoted q text) = quoted_fits q text
      act_fits_here (i.Cast of way) =
          type_holds N tt (type_of_full of) _ (λ to. on_one _ (λ value stack x s.
          outcome_fits (acts_in w (effect w.store (cast_at_run_time w.store.objects value to (is_written way)))) R (λ n value x. x) f below w stack here s (casts_fit rules before w value to (is_written way) here.0 x)))
      act_fits_here (i.Typed t of) = type_holds N tt (type_of_full of) _ (λ of. typed_fits t of)
      act_fits_here (i.Sized s of n) = type_holds N tt (type_of_full of) _ (λ of. sized_fits s of n)
      act_fits_here (i.DefCall name n) = method_fits name n
      act_fits_here (i.Invoke method) = member_fits (allowed_in limits f.text) (method_of (allowed_in limits f.text) method)
      act_fits_here (i.New constructor) = member_fits (allowed_in limits f.text) (constructor_of (allowed_in limits f.text) constructor)
      act_fits_here (i.Field field) = member_fits (allowed_in limits f.text) (field_of (allowed_in limits f.text) field)
      act_fits_here (i.Lambda interface k n) = tt
      act_fits_here (i.Ref interface of word) = tt
      act_fits_here (i.NewRef interface of) = tt

      acts_fit : (o : Option Instruction) → N (acts codes limits o f below w)
      acts_fit None = tt
      acts_fit (Some instruction) = act_fits_here instruction

pub steps_fit : StepsFit
steps_fit before codes limits c h =
    acts_fit (rules_of_codes codes) before codes limits c.top c.below c.world (h.world, h.frames) (slice_get (lines_of codes limits (function_of codes c.top)) c.top.line)

pub runs_fit : RunsFit
runs_fit before codes limits zero n h = h
runs_fit before codes limits (suc k) (Goes c) h = runs_fit before codes limits k (step codes limits c) (steps_fit before codes limits c h)
runs_fit before codes limits (suc k) (Ends r) h = h
runs_fit before codes limits (suc k) Stuck h = tt

start_fits : (rules : Rules) (o : Option FunCode) (words : List Word) (w : World) → Fits rules w.store.objects → WordsFit (count_in w) words → NextFits rules w.store.objects (start_at o words w)
start_fits rules None words w f h = tt
start_fits rules (Some g) words w f h = record { world = beginnings_fit rules w f; frames = ((words_join (count_in w) words (map start_of g.locals) h (starts_fit (count_in w) g.locals), tt), tt) }

pub starts_fit_all : StartsFit
starts_fit_all codes words w f h = start_fits (rules_of_codes codes) (slice_get codes.script 0) words w f h
