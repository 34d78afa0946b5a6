-- A turn pays a tick, so that the turns of each frame and the ticks that are left stay within 64 bits together.
use Rattle.std.proofs.Common.{◌≡◌, ℕ, ℤ, zero, suc, ◌+◌, ◌-◌, ◌*◌, ◌<◌, ◌^◌, ◌||◌, Bool, true, false, List, [], ◌∷◌, Option, Some, None, refl, sym, subst, arith}
use Rattle.std.specs.Prelude.{slice_get, nat_lt, not, if◌then◌else◌}
use Rattle.std.proofs.lemmas.Bool.{ltb-true}
use Rattle.pl_types.specs.declared.ty.Ty.{Ty}
use Rattle.pl_types.specs.declared.ty.Ty.TheVariants as ty
use Rattle.pl_types.specs.Texts.{type_of_full}
use Rattle.object_values.specs.declared.object.Owner.{Owner}
use Rattle.object_values.specs.declared.object.Owner.TheVariants.{Script, Prelude}
use Rattle.object_values.specs.declared.value.Value.{Value}
use Rattle.object_values.specs.declared.value.Value.TheVariants as v
use Rattle.object_heap.specs.Effects.{Effect, Gives, Throws, NoRoom}
use Rattle.allowlist.specs.declared.member.MemberType.{MemberType}
use Rattle.allowlist.specs.Allow.{AllowList}
use Rattle.allowlist.specs.Index.{member_in}
use Rattle.machine_parts.specs.Members.{method_of, constructor_of, field_of}
use Rattle.code_meaning.specs.MemberCallsMembers.{does}
use Rattle.code_meaning.specs.Elements.{element_read, element_written, length_of}
use Rattle.code_meaning.specs.Loops.{has_more, iterated, next_element}
use Rattle.code_meaning.specs.Making.{array_filled, array_made, list_made, map_made}
use Rattle.code_meaning.specs.Access.{Access, Calls, Acts, index_read, index_written, method_called, name_read, name_written}
use Rattle.arithmetic.specs.declared.operator.Op.{Op}
use Rattle.number_ops.specs.Outcomes.{effect, zero_divisor, null_error}
use Rattle.number_ops.specs.Casts.{cast_at_run_time}
use Rattle.number_ops.specs.Operators.{concatenated, is_unary, operate}
use Rattle.number_ops.specs.Relations.{equal, thrown}
use Rattle.pl_code.specs.declared.kinds.Plain.{Plain}
use Rattle.pl_code.specs.declared.kinds.Plain.TheVariants as plain
use Rattle.pl_code.specs.declared.kinds.Numbered.{Numbered}
use Rattle.pl_code.specs.declared.kinds.Numbered.TheVariants as numbered
use Rattle.pl_code.specs.declared.kinds.Quoting.{Quoting}
use Rattle.pl_code.specs.declared.kinds.Quoting.TheVariants as quoting
use Rattle.pl_code.specs.declared.kinds.Typed.{Typed}
use Rattle.pl_code.specs.declared.kinds.Typed.TheVariants as typed
use Rattle.pl_code.specs.declared.kinds.Sized.{Sized}
use Rattle.pl_code.specs.declared.kinds.Sized.TheVariants as sized
use Rattle.pl_code.specs.declared.kinds.Slot.{Slot}
use Rattle.pl_code.specs.declared.code.FunCode.{FunCode}
use Rattle.pl_code.specs.declared.code.Instruction.{Instruction}
use Rattle.pl_code.specs.declared.code.Instruction.TheVariants as i
use Rattle.run_state.specs.Calls.{suits_member, wrong_class}
use Rattle.run_state.specs.World.{World, Limits, Arose, not_told, Outcome, Given, Raised, Full, acts_in, Counted, Counts, Passes, Ticks, Loop, Depth, allowed_in, pay_tick, take_turn, goes_deeper, enter, reach, reaches, pay_member}
use Rattle.code_meaning.specs.declared.word.Word.{Word}
use Rattle.code_meaning.specs.declared.word.Word.TheVariants.{I, J, R}
use Rattle.code_meaning.specs.Members.{Receiving, Unfit, OnNull, Receives, Reads, count_of, given_as, ints_in, received, references_in, taken, taken_alike, taken_result}
use Rattle.code_meaning.specs.Words.{Calculation, NoRow, Calculates, boxed, calculation, op_of_dynamic, unboxed}
use Rattle.code_meaning.specs.Machine.{Codes, code_in, function_of, Frame, Config, Next, Goes, Ends, Stuck, Handlers, is_instance, lands, traps_of, unwind, on_top, on_int, on_reference, on_value, on_values, on_first, on_local, on_stack, on_words, to_line, take_words, copied, depth_of, is_written, on_outcome, on_done, on_found, on_found_paid, on_access, on_put, on_put_paid, on_write, dynamic_given, operator_act, sized_act, method_act, on_thrown, on_calculation, on_given, cast_each, gives_back, returns, returns_of, on_turn, on_enter, on_call, on_act, on_paid, on_tested, on_received, plain_act, numbered_act, quoted_act, typed_act, member_act, act, acts, lines_of, step, after}
use Rattle.code_fit.proofs.Nexts.{int_holds, long_holds, type_holds, ints_hold, loops_hold, chosen_holds, either_holds, null_holds}
use Rattle.machine_paths.specs.Fast.{Leads}
use Rattle.machine_paths.specs.Steps.{TurnsFit, CountsFit}

-- ---- ticks

-- what is counted pays a tick, where no limit is passed
abbrev PaysTick : World → Counted → Type 0
PaysTick w (Passes limit w') = Unit {0}
PaysTick w (Counts w') = suc w'.ticks ≡ w.ticks

less_one : (n : ℕ) → 0 < n → suc (n - 1) ≡ n
less_one n h = omega arith

tick_pays : (w : World) → PaysTick w (pay_tick w)
unfolding pay_tick
tick_pays w = by_test (nat_lt 0 w.ticks) refl where
  by_test : (t : Bool) → nat_lt 0 w.ticks ≡ t → PaysTick w (if t then Counts (record { store = w.store; ticks = w.ticks - 1; reached = w.reached }) else Passes Ticks w)
  by_test true e = less_one w.ticks (ltb-true 0 w.ticks e)
  by_test false e = tt

turn_pays : (limits : Limits) (limited : Bool) (turns : ℕ) (w : World) → PaysTick w (take_turn limits limited turns w)
unfolding take_turn
turn_pays limits limited turns w = by_test (not limited || nat_lt turns limits.loop) where
  by_test : (t : Bool) → PaysTick w (if t then pay_tick w else Passes Loop w)
  by_test true = tick_pays w
  by_test false = tt

deeper_pays : (limits : Limits) (depth : ℕ) (w : World) (c : Counted) → PaysTick w c → PaysTick w (goes_deeper c limits depth)
unfolding goes_deeper
deeper_pays limits depth w (Passes limit w') p = tt
deeper_pays limits depth w (Counts w') p = by_test (nat_lt depth limits.depth) where
  by_test : (t : Bool) → PaysTick w (if t then Counts w' else Passes Depth w')
  by_test true = p
  by_test false = tt

call_pays : (limits : Limits) (depth : ℕ) (w : World) → PaysTick w (enter limits depth w)
unfolding enter
call_pays limits depth w = deeper_pays limits depth w (pay_tick w) (tick_pays w)

reach_pays : (number : ℕ) (w : World) (c : Counted) → PaysTick w c → PaysTick w (reaches number c)
unfolding reaches reach
reach_pays number w (Passes limit w') p = tt
reach_pays number w (Counts w') p = p

member_pays : (text : Owner) (number : ℕ) (w : World) → PaysTick w (pay_member text number w)
unfolding pay_member
member_pays Script number w = reach_pays number w (pay_tick w) (tick_pays w)
member_pays Prelude number w = tick_pays w

-- ---- what comes of a step

abbrev NextFits : Next → Type 0
NextFits (Goes c) = CountsFit c
NextFits (Ends r) = Unit {0}
NextFits Stuck = Unit {0}

fewer : (turns ticks after : ℕ) → suc after ≡ ticks → turns + ticks < 2 ^ 64 → turns + after < 2 ^ 64
fewer turns ticks after e h = omega (arith, e, h)

one_more : (turns ticks after : ℕ) → suc after ≡ ticks → turns + ticks < 2 ^ 64 → suc turns + after < 2 ^ 64
one_more turns ticks after e h = omega (arith, e, h)

first_turn : (turns ticks after : ℕ) → suc after ≡ ticks → turns + ticks < 2 ^ 64 → 0 + after < 2 ^ 64
first_turn turns ticks after e h = omega (arith, e, h)

-- with a tick less
lower : (ticks after : ℕ) → suc after ≡ ticks → (fs : List Frame) → TurnsFit ticks fs → TurnsFit after fs
lower ticks after e [] h = tt
lower ticks after e (f ∷ fs) h = (fewer f.turns ticks after e h.0, lower ticks after e fs h.1)

-- with as many
as_many : (ticks after : ℕ) → after ≡ ticks → (fs : List Frame) → TurnsFit ticks fs → TurnsFit after fs
as_many ticks after e fs h = subst (λ n. TurnsFit n fs) (sym e) h

top_fits : (stack : List Word) (next : Word → List Word → Next) → ((word : Word) (rest : List Word) → NextFits (next word rest)) → NextFits (on_top stack next)
top_fits [] next k = tt
top_fits (word ∷ stack) next k = k word stack

reference_fits : (word : Word) (next : Value → Next) → ((value : Value) → NextFits (next value)) → NextFits (on_reference word next)
reference_fits (I a) next k = tt
reference_fits (J a) next k = tt
reference_fits (R value) next k = k value

value_fits : (o : Option Value) (next : Value → Next) → ((value : Value) → NextFits (next value)) → NextFits (on_value o next)
value_fits None next k = tt
value_fits (Some value) next k = k value

local_fits : (o : Option Word) (next : Word → Next) → ((word : Word) → NextFits (next word)) → NextFits (on_local o next)
local_fits None next k = tt
local_fits (Some word) next k = k word

stack_fits : (o : Option (List Word)) (next : List Word → Next) → ((stack : List Word) → NextFits (next stack)) → NextFits (on_stack o next)
stack_fits None next k = tt
stack_fits (Some stack) next k = k stack

words_fit : (o : Option (List Word × List Word)) (next : List Word → List Word → Next) → ((words stack : List Word) → NextFits (next words stack)) → NextFits (on_words o next)
words_fit None next k = tt
words_fit (Some p) next k = k p.0 p.1

values_fit : (o : Option (List Value)) (next : List Value → Next) → ((values : List Value) → NextFits (next values)) → NextFits (on_values o next)
values_fit None next k = tt
values_fit (Some values) next k = k values

first_fits : (values : List Value) (next : Value → List Value → Next) → ((value : Value) (others : List Value) → NextFits (next value others)) → NextFits (on_first values next)
first_fits [] next k = tt
first_fits (value ∷ values) next k = k value values

module _ (codes : Codes) (limits : Limits) where
  -- ---- what is thrown

  lands_fit : (hs : Handlers) (f : Frame) (fs : List Frame) (id : ℕ) (place : Arose) (w : World) (further : Next) → TurnsFit w.ticks (f ∷ fs) → NextFits further
      → NextFits (lands hs f.text f.fun f.locals f.turns f.due fs id place w further)
  lands_fit [] f fs id place w further h k = k
  lands_fit (x ∷ xs) f fs id place w further h k = by_test (lands_fit xs f fs id place w further h k) (is_instance x.class id w) where
    by_test : NextFits (lands xs f.text f.fun f.locals f.turns f.due fs id place w further) → (t : Bool)
        → NextFits (if t then Goes (record { top = record { text = f.text; fun = f.fun; line = x.at; locals = f.locals; stack = R (v.Ref id) ∷ []; turns = f.turns; due = f.due }; below = fs; world = w }) else lands xs f.text f.fun f.locals f.turns f.due fs id place w further)
    by_test rest true = h
    by_test rest false = rest

  unwind_fits : (fs : List Frame) (id : ℕ) (place : Arose) (w : World) → TurnsFit w.ticks fs → NextFits (unwind codes fs id place w)
  unwind_fits [] id place w h = tt
  unwind_fits (f ∷ fs) id place w h = lands_fit (traps_of (function_of codes f) f.line) f fs id place w (unwind codes fs id place w) h (unwind_fits fs id place w h.1)

  abbrev KeepsTicks : World → Outcome Value → Type 0
  KeepsTicks w (Given value w') = w'.ticks ≡ w.ticks
  KeepsTicks w (Raised id w') = w'.ticks ≡ w.ticks
  KeepsTicks w Full = Unit {0}

  acting_keeps : (w : World) (e : Effect) → KeepsTicks w (acts_in w e)
  unfolding acts_in
  acting_keeps w (Gives value store) = refl
  acting_keeps w (Throws id store) = refl
  acting_keeps w NoRoom = tt

  outcome_fits : (o : Outcome Value) (word : Value → Word) (f : Frame) (below : List Frame) (w : World) (stack : List Word) → TurnsFit w.ticks (f ∷ below) → KeepsTicks w o
      → NextFits (on_outcome codes limits o word f below w stack)
  outcome_fits (Given value w') word f below w stack h e = as_many w.ticks w'.ticks e (f ∷ below) h
  outcome_fits (Raised id w') word f below w stack h e = unwind_fits (f ∷ below) id not_told w' (as_many w.ticks w'.ticks e (f ∷ below) h)
  outcome_fits Full word f below w stack h e = tt

  effect_fits : (e : Effect) (word : Value → Word) (f : Frame) (below : List Frame) (w : World) (stack : List Word) → TurnsFit w.ticks (f ∷ below)
      → NextFits (on_outcome codes limits (acts_in w e) word f below w stack)
  effect_fits e word f below w stack h = outcome_fits (acts_in w e) word f below w stack h (acting_keeps w e)

  thrown_fits : (o : Outcome Value) (f : Frame) (below : List Frame) (w : World) → TurnsFit w.ticks (f ∷ below) → KeepsTicks w o → NextFits (on_thrown codes limits o f below w)
  thrown_fits (Given value w') f below w h e = tt
  thrown_fits (Raised id w') f below w h e = unwind_fits (f ∷ below) id not_told w' (as_many w.ticks w'.ticks e (f ∷ below) h)
  thrown_fits Full f below w h e = tt

  done_fits_on : (o : Outcome Value) (f : Frame) (below : List Frame) (w : World) (stack : List Word) → TurnsFit w.ticks (f ∷ below) → KeepsTicks w o → NextFits (on_done codes limits o f below w stack)
  done_fits_on (Given value w') f below w stack h e = as_many w.ticks w'.ticks e (f ∷ below) h
  done_fits_on (Raised id w') f below w stack h e = unwind_fits (f ∷ below) id not_told w' (as_many w.ticks w'.ticks e (f ∷ below) h)
  done_fits_on Full f below w stack h e = tt

  done_fits : (e : Effect) (f : Frame) (below : List Frame) (w : World) (stack : List Word) → TurnsFit w.ticks (f ∷ below) → NextFits (on_done codes limits (acts_in w e) f below w stack)
  done_fits e f below w stack h = done_fits_on (acts_in w e) f below w stack h (acting_keeps w e)

  -- ---- the casts that are due, which pay no tick

  given_fits : (o : Outcome Value) (f : Frame) (below : List Frame) (w : World) (next : Value → World → Next) → TurnsFit w.ticks (f ∷ below) → KeepsTicks w o
      → ((value : Value) (w' : World) → TurnsFit w'.ticks (f ∷ below) → NextFits (next value w')) → NextFits (on_given codes limits o f below w next)
  given_fits (Given value w') f below w next h e k = k value w' (as_many w.ticks w'.ticks e (f ∷ below) h)
  given_fits (Raised id w') f below w next h e k = unwind_fits (f ∷ below) id not_told w' (as_many w.ticks w'.ticks e (f ∷ below) h)
  given_fits Full f below w next h e k = tt

  each_fits : (tos : List Ty) (value : Value) (f : Frame) (below : List Frame) (w : World) → TurnsFit w.ticks (f ∷ below) → NextFits (cast_each codes limits tos value f below w)
  each_fits [] value f below w h = h
  each_fits (to ∷ tos) value f below w h =
      let cast = effect w.store (cast_at_run_time w.store.objects value to false) in
      given_fits (acts_in w cast) f below w _ h (acting_keeps w cast) (λ value w' h'. each_fits tos value f below w' h')

  -- ---- what is found for a receiver when the code runs

  found_fits : (o : Option Effect) (f : Frame) (below : List Frame) (w : World) (stack : List Word) → TurnsFit w.ticks (f ∷ below) → NextFits (on_found codes limits o f below w stack)
  found_fits None f below w stack h = tt
  found_fits (Some e) f below w stack h = effect_fits e R f below w stack h

  found_paid_fits : (c : Counted) (number : ℕ) (arguments : List Value) (f : Frame) (below : List Frame) (w : World) (stack : List Word) → TurnsFit w.ticks (f ∷ below) → PaysTick w c
      → NextFits (on_found_paid codes limits c number arguments f below stack)
  found_paid_fits (Passes limit w') number arguments f below w stack h p = tt
  found_paid_fits (Counts w') number arguments f below w stack h p =
      found_fits (does limits.ground.host number arguments w'.store) f below w' stack (lower w.ticks w'.ticks p (f ∷ below) h)

  access_fits : (a : Access) (f : Frame) (below : List Frame) (w : World) (stack : List Word) → TurnsFit w.ticks (f ∷ below) → NextFits (on_access codes limits a f below w stack)
  access_fits (Calls number arguments) f below w stack h = found_paid_fits (pay_member f.text number w) number arguments f below w stack h (member_pays f.text number w)
  access_fits (Acts e) f below w stack h = effect_fits e R f below w stack h

  put_fits : (o : Option Effect) (f : Frame) (below : List Frame) (w : World) (stack : List Word) → TurnsFit w.ticks (f ∷ below) → NextFits (on_put codes limits o f below w stack)
  put_fits None f below w stack h = tt
  put_fits (Some e) f below w stack h = done_fits e f below w stack h

  put_paid_fits : (c : Counted) (number : ℕ) (arguments : List Value) (f : Frame) (below : List Frame) (w : World) (stack : List Word) → TurnsFit w.ticks (f ∷ below) → PaysTick w c
      → NextFits (on_put_paid codes limits c number arguments f below stack)
  put_paid_fits (Passes limit w') number arguments f below w stack h p = tt
  put_paid_fits (Counts w') number arguments f below w stack h p =
      put_fits (does limits.ground.host number arguments w'.store) f below w' stack (lower w.ticks w'.ticks p (f ∷ below) h)

  write_fits : (a : Access) (f : Frame) (below : List Frame) (w : World) (stack : List Word) → TurnsFit w.ticks (f ∷ below) → NextFits (on_write codes limits a f below w stack)
  write_fits (Calls number arguments) f below w stack h = put_paid_fits (pay_member f.text number w) number arguments f below w stack h (member_pays f.text number w)
  write_fits (Acts e) f below w stack h = done_fits e f below w stack h

  -- ---- members

  act_fits : (o : Option Effect) (t : MemberType) (f : Frame) (below : List Frame) (w : World) (stack : List Word) → TurnsFit w.ticks (f ∷ below) → NextFits (on_act codes limits o t f below w stack)
  act_fits None t f below w stack h = tt
  act_fits (Some e) t f below w stack h = effect_fits e (given_as t.result) f below w stack h

  paid_fits : (c : Counted) (number : ℕ) (arguments : List Value) (t : MemberType) (f : Frame) (below : List Frame) (w : World) (stack : List Word) → TurnsFit w.ticks (f ∷ below) → PaysTick w c
      → NextFits (on_paid codes limits c number arguments t f below stack)
  paid_fits (Passes limit w') number arguments t f below w stack h p = tt
  paid_fits (Counts w') number arguments t f below w stack h p =
      act_fits (does limits.ground.host number arguments w'.store) t f below w' stack (lower w.ticks w'.ticks p (f ∷ below) h)

  tested_fits : (suits : Bool) (number : ℕ) (arguments : List Value) (t : MemberType) (f : Frame) (below : List Frame) (w : World) (stack : List Word) → TurnsFit w.ticks (f ∷ below)
      → NextFits (on_tested codes limits suits number arguments t f below w stack)
  tested_fits false number arguments t f below w stack h = effect_fits (effect w.store wrong_class) (given_as t.result) f below w stack h
  tested_fits true number arguments t f below w stack h = paid_fits (pay_member f.text number w) number arguments t f below w stack h (member_pays f.text number w)

  received_fits : (r : Receiving) (number : ℕ) (t : MemberType) (f : Frame) (below : List Frame) (w : World) (stack : List Word) → TurnsFit w.ticks (f ∷ below)
      → NextFits (on_received codes limits r number t f below w stack)
  received_fits Unfit number t f below w stack h = tt
  received_fits OnNull number t f below w stack h = effect_fits (effect w.store null_error) (given_as t.result) f below w stack h
  received_fits (Receives arguments) number t f below w stack h = tested_fits (suits_member w.store.objects t arguments) number arguments t f below w stack h
  received_fits Reads number t f below w stack h = act_fits (does limits.ground.host number [] w.store) t f below w stack h

  -- ---- in a frame

  module _ (f : Frame) (below : List Frame) (w : World) (here : TurnsFit w.ticks (f ∷ below)) where
    member_fits : (allow : AllowList) (o : Option ℕ) → NextFits (member_act codes limits allow o f below w)
    member_fits allow None = tt
    member_fits allow (Some number) =
        words_fit (take_words (count_of (member_in allow number)) f.stack []) _
        (λ words stack. received_fits (received (member_in allow number) words) number (member_in allow number) f below w stack here)

    calculation_fits : (c : Calculation) → NextFits (on_calculation codes limits c f below w)
    calculation_fits NoRow = tt
    calculation_fits (Calculates None stack) = effect_fits (effect w.store zero_divisor) unboxed f below w stack here
    calculation_fits (Calculates (Some number) stack) = here

    gives_fit : (fs : List Frame) (due : List Ty) (result : Option Word) → TurnsFit w.ticks fs → NextFits (gives_back codes limits fs due result w)
    gives_fit [] due result h = tt
    gives_fit (g ∷ fs) [] result h = h
    gives_fit (g ∷ fs) (from ∷ tos) result h = value_fits (taken_result from result) _ (λ value. each_fits tos value g fs w h)

    returns_fit : (kind : Option Slot) → NextFits (returns_of codes limits kind f.stack (λ result. gives_back codes limits below f.due result w))
    returns_fit None = gives_fit below f.due None here.1
    returns_fit (Some kind) = top_fits f.stack _ (λ word rest. gives_fit below f.due (Some word) here.1)

    return_fits : (o : Option FunCode) → NextFits (returns codes limits o f.stack (λ result. gives_back codes limits below f.due result w))
    return_fits None = tt
    return_fits (Some g) = returns_fit g.result

    turn_fits : (c : Counted) (to : ℕ) (stack : List Word) → PaysTick w c → NextFits (on_turn codes limits c to f below w stack)
    turn_fits (Passes limit w') to stack p = tt
    turn_fits (Counts w') to stack p = (one_more f.turns w.ticks w'.ticks p here.0, lower w.ticks w'.ticks p below here.1)

    enter_fits : (c : Counted) (text : Owner) (k : ℕ) (g : FunCode) (due : List Ty) (args stack : List Word) → PaysTick w c → NextFits (on_enter codes limits c text k g due f below w args stack)
    enter_fits (Passes limit w') text k g due args stack p = tt
    enter_fits (Counts w') text k g due args stack p = (first_turn f.turns w.ticks w'.ticks p here.0, lower w.ticks w'.ticks p (f ∷ below) here)

    call_fits : (o : Option FunCode) (k : ℕ) → NextFits (on_call codes limits o k f below w)
    call_fits None k = tt
    call_fits (Some g) k =
        words_fit _ _ (λ args stack. enter_fits (enter limits (depth_of below) w) f.text k g [] args stack (call_pays limits (depth_of below) w))

    on_one : (next : Value → List Word → Next) → ((value : Value) (stack : List Word) → NextFits (next value stack)) → NextFits (on_top f.stack (λ word stack. on_reference word (λ value. next value stack)))
    on_one next k = top_fits f.stack _ (λ word stack. reference_fits word _ (λ value. k value stack))

    on_two : (next : Value → Value → List Word → Next) → ((a b : Value) (stack : List Word) → NextFits (next a b stack))
        → NextFits (on_top f.stack (λ upper rest. on_reference upper (λ b. on_top rest (λ lower stack. on_reference lower (λ a. next a b stack)))))
    on_two next k = top_fits f.stack _ (λ upper rest. reference_fits upper _ (λ b. top_fits rest _ (λ lower stack. reference_fits lower _ (λ a. k a b stack))))

    on_three : (next : Value → Value → Value → List Word → Next) → ((a b c : Value) (stack : List Word) → NextFits (next a b c stack))
        → NextFits (on_top f.stack (λ third more. on_reference third (λ c. on_top more (λ second rest. on_reference second (λ b. on_top rest (λ first stack. on_reference first (λ a. next a b c stack)))))))
    on_three next k =
        top_fits f.stack _ (λ third more. reference_fits third _ (λ c. top_fits more _ (λ second rest. reference_fits second _ (λ b.
        top_fits rest _ (λ first stack. reference_fits first _ (λ a. k a b c stack))))))

    on_place : (stack : List Word) (next : ℤ → Value → List Word → Next) → ((at : ℤ) (array : Value) (rest : List Word) → NextFits (next at array rest))
        → NextFits (on_top stack (λ upper rest. on_int upper (λ at. on_top rest (λ lower stack. on_reference lower (λ array. next at array stack)))))
    on_place stack next k = top_fits stack _ (λ upper rest. int_holds NextFits tt upper _ (λ at. top_fits rest _ (λ lower left. reference_fits lower _ (λ array. k at array left))))

    -- what an effect of the store comes to, with a value that goes on the stack or is dropped
    gives : (e : Effect) (word : Value → Word) (stack : List Word) → NextFits (on_outcome codes limits (acts_in w e) word f below w stack)
    gives e word stack = effect_fits e word f below w stack here

    dynamic_fits : (o : Op) → NextFits (operator_act codes limits o f below w)
    dynamic_fits o =
        top_fits f.stack _ (λ upper rest. reference_fits upper _ (λ b. chosen_holds NextFits (is_unary o) _ _ (gives (effect w.store (operate w.store.objects o b b)) (dynamic_given codes limits o) rest)
        (top_fits rest _ (λ lower stack. reference_fits lower _ (λ a. gives (effect w.store (operate w.store.objects o a b)) (dynamic_given codes limits o) stack)))))

    on_number : (next : ℤ → List Word → Next) → ((a : ℤ) (stack : List Word) → NextFits (next a stack)) → NextFits (on_top f.stack (λ word stack. on_int word (λ a. next a stack)))
    on_number next k = top_fits f.stack _ (λ word stack. int_holds NextFits tt word _ (λ a. k a stack))

    copies_fit : (o : Option (List Word)) → NextFits (on_stack o (λ stack. to_line f below w (suc f.line) stack))
    copies_fit o = stack_fits o _ (λ stack. here)

    plain_fits : (p : Plain) → NextFits (plain_act codes limits p f below w)
    plain_fits plain.Null = here
    plain_fits plain.Pop = copies_fit (copied plain.Pop f.stack)
    plain_fits plain.Dup = copies_fit (copied plain.Dup f.stack)
    plain_fits plain.Dup2 = copies_fit (copied plain.Dup2 f.stack)
    plain_fits plain.DupX1 = copies_fit (copied plain.DupX1 f.stack)
    plain_fits plain.DupX2 = copies_fit (copied plain.DupX2 f.stack)
    plain_fits plain.IntToLong = on_number _ (λ a stack. here)
    plain_fits plain.LongToInt = top_fits f.stack _ (λ word stack. long_holds NextFits tt word _ (λ a. here))
    plain_fits plain.IntToByte = on_number _ (λ a stack. here)
    plain_fits plain.IntToShort = on_number _ (λ a stack. here)
    plain_fits plain.IntToChar = on_number _ (λ a stack. here)
    plain_fits plain.Concat = on_two _ (λ a b stack. effect_fits (effect w.store (concatenated w.store.objects a b)) R f below w stack here)
    plain_fits plain.Same = on_two _ (λ a b stack. here)
    plain_fits plain.Equal = on_two _ (λ a b stack. effect_fits (effect w.store (equal w.store.objects a b)) unboxed f below w stack here)
    plain_fits plain.ArrayLength = on_one _ (λ value stack. gives (length_of w.store value) unboxed stack)
    plain_fits plain.GetIndex = on_two _ (λ receiver index stack. access_fits (index_read (allowed_in limits f.text) w.store receiver index) f below w stack here)
    plain_fits plain.PutIndex = on_three _ (λ receiver index value stack. write_fits (index_written (allowed_in limits f.text) w.store receiver index value) f below w stack here)
    plain_fits plain.Iter = on_one _ (λ value stack. gives (iterated w.store value) R stack)
    plain_fits plain.Has = on_one _ (λ value stack. gives (has_more w.store value) unboxed stack)
    plain_fits plain.Next = on_one _ (λ value stack. gives (next_element w.store value) R stack)
    plain_fits plain.Throw = on_one _ (λ value stack. thrown_fits (acts_in w (thrown w.store value)) f below w here (acting_keeps w (thrown w.store value)))
    plain_fits plain.Ret = return_fits (function_of codes f)

    numbered_fits : (n : Numbered) (k : ℕ) → NextFits (numbered_act codes limits n k f below w)
    numbered_fits numbered.Load k = local_fits (slice_get f.locals k) _ (λ word. here)
    numbered_fits numbered.Store k = top_fits f.stack _ (λ word stack. here)
    numbered_fits numbered.Goto k = here
    numbered_fits numbered.IfZero k = on_number _ (λ a stack. either_holds NextFits a _ _ here here)
    numbered_fits numbered.IfNotZero k = on_number _ (λ a stack. either_holds NextFits a _ _ here here)
    numbered_fits numbered.IfNull k = on_one _ (λ value stack. null_holds NextFits value _ _ here here)
    numbered_fits numbered.Loop k =
        loops_hold NextFits tt codes limits (function_of codes f) _ (λ limited. on_number _ (λ a stack.
        either_holds NextFits a _ _ (turn_fits (take_turn limits limited f.turns w) k stack (turn_pays limits limited f.turns w)) here))
    numbered_fits numbered.Call k = call_fits (slice_get (code_in codes f.text) k) k
    numbered_fits numbered.List k = words_fit (take_words k f.stack []) _ (λ words stack. values_fit (references_in words) _ (λ items. gives (list_made w.store items) R stack))
    numbered_fits numbered.Map k = words_fit (take_words (2 * k) f.stack []) _ (λ words stack. values_fit (references_in words) _ (λ parts. gives (map_made w.store parts) R stack))

    quoted_fits : (q : Quoting) (text : List ℕ) → NextFits (quoted_act codes limits q text f below w)
    quoted_fits quoting.Constant text = here
    quoted_fits quoting.GetName name = on_one _ (λ receiver stack. access_fits (name_read (allowed_in limits f.text) w.store receiver name) f below w stack here)
    quoted_fits quoting.PutName name = on_two _ (λ receiver value stack. write_fits (name_written (allowed_in limits f.text) w.store receiver name value) f below w stack here)

    typed_fits : (t : Typed) (of : Ty) → NextFits (typed_act codes limits t of f below w)
    typed_fits typed.IsA of = on_one _ (λ value stack. here)
    typed_fits typed.LoadElement of = on_place f.stack _ (λ at array stack. gives (element_read w.store of array at) (given_as of) stack)
    typed_fits typed.StoreElement of =
        top_fits f.stack _ (λ third more. value_fits (taken of third) _ (λ value. on_place more _ (λ at array stack. done_fits (element_written w.store of array at value) f below w stack here)))

    sized_fits : (s : Sized) (of : Ty) (n : ℕ) → NextFits (sized_act codes limits s of n f below w)
    sized_fits sized.Filled elem n = words_fit (take_words n f.stack []) _ (λ words stack. values_fit (taken_alike elem words) _ (λ items. gives (array_filled w.store elem items) R stack))
    sized_fits sized.Empty of n = words_fit (take_words n f.stack []) _ (λ words stack. ints_hold NextFits tt (ints_in words) _ (λ sizes. gives (array_made w.store of sizes) R stack))

    method_fits : (name : List ℕ) (n : ℕ) → NextFits (method_act codes limits name n f below w)
    method_fits name n =
        words_fit (take_words (suc n) f.stack []) _ (λ words stack. values_fit (references_in words) _ (λ values. first_fits values _ (λ receiver arguments.
        access_fits (method_called (allowed_in limits f.text) w.store receiver name arguments) f below w stack here)))

    act_fits_here : (instruction : Instruction) → NextFits (act codes limits instruction f below w)
    act_fits_here (i.Plain p) = plain_fits p
    act_fits_here (i.Arithmetic o width) = calculation_fits (calculation o width f.stack)
    act_fits_here (i.Int a) = here
    act_fits_here (i.Long a) = here
    act_fits_here (i.Numbered n k) = numbered_fits n k
    act_fits_here (i.Boxing p) = top_fits f.stack _ (λ word stack. value_fits (boxed p word) _ (λ value. here))
    act_fits_here (i.Unboxing p way) = on_one _ (λ value stack. effect_fits (effect w.store (cast_at_run_time w.store.objects value (ty.Prim p) (is_written way))) unboxed f below w stack here)
    act_fits_here (i.Dynamic o) = dynamic_fits (op_of_dynamic o)
    act_fits_here (i.Quoted q text) = quoted_fits q text
    act_fits_here (i.Cast to way) =
        type_holds NextFits tt (type_of_full to) _ (λ to. on_one _ (λ value stack. effect_fits (effect w.store (cast_at_run_time w.store.objects value to (is_written way))) R f below w stack here))
    act_fits_here (i.Typed t of) = type_holds NextFits tt (type_of_full of) _ (λ of. typed_fits t of)
    act_fits_here (i.Sized s of n) = type_holds NextFits tt (type_of_full of) _ (λ of. sized_fits s of n)
    act_fits_here (i.DefCall name n) = method_fits name n
    act_fits_here (i.Invoke method) = member_fits (allowed_in limits f.text) (method_of (allowed_in limits f.text) method)
    act_fits_here (i.New constructor) = member_fits (allowed_in limits f.text) (constructor_of (allowed_in limits f.text) constructor)
    act_fits_here (i.Field field) = member_fits (allowed_in limits f.text) (field_of (allowed_in limits f.text) field)
    act_fits_here (i.Lambda interface k n) = tt
    act_fits_here (i.Ref interface of word) = tt
    act_fits_here (i.NewRef interface of) = tt

    acts_fit : (o : Option Instruction) → NextFits (acts codes limits o f below w)
    acts_fit None = tt
    acts_fit (Some instruction) = act_fits_here instruction

  pub counts_on : (c d : Config) → CountsFit c → step codes limits c ≡ Goes d → CountsFit d
  counts_on c d h e = subst NextFits e (acts_fit c.top c.below c.world h (slice_get (lines_of codes limits (function_of codes c.top)) c.top.line))

  after_fits : (k : ℕ) (n : Next) → NextFits n → NextFits (after codes limits k n)
  after_fits zero n h = h
  after_fits (suc k) (Goes c) h = after_fits k (step codes limits c) (acts_fit c.top c.below c.world h (slice_get (lines_of codes limits (function_of codes c.top)) c.top.line))
  after_fits (suc k) (Ends r) h = h
  after_fits (suc k) Stuck h = h

  pub counts_led : (k : ℕ) (c d : Config) → Leads codes limits k c d → CountsFit c → CountsFit d
  counts_led k c d l h = subst NextFits (l.leads 0) (after_fits (k + 0) (Goes c) h)
