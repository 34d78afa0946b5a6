-- Instructions that stay in their frame: constants, copies, locals, number casts, operators, boxes, jumps and loops.
use Rattle.std.proofs.Common.{◌≡◌, ℕ, zero, suc, ◌+◌, ◌-◌, Bool, true, false, ◌||◌, ℤ, pos, negsuc, eqb, List, [], ◌∷◌, Option, Some, None, refl, sym, ap, ◌∙◌, subst, arith}
use Rattle.std.specs.Prelude.{slice_get, slice_set, option_map}
use Rattle.std.proofs.lemmas.Bool.{eq-eqb}
use Rattle.pl_types.specs.declared.primitive.Primitive.{Primitive}
use Rattle.pl_types.specs.declared.primitive.Primitive.TheVariants as prim
use Rattle.object_values.specs.declared.value.Value.{Value}
use Rattle.number_ops.specs.Outcomes.{effect, zero_divisor}
use Rattle.pl_code.specs.declared.kinds.Plain.{Plain}
use Rattle.pl_code.specs.declared.kinds.Plain.TheVariants as plain
use Rattle.pl_code.specs.declared.kinds.Slot.{Slot}
use Rattle.pl_code.specs.declared.kinds.Slot.TheVariants as slot
use Rattle.pl_code.specs.declared.code.FunCode.{FunCode}
use Rattle.pl_code.specs.declared.code.Instruction.{Instruction}
use Rattle.instruction_types.specs.declared.copying.Copying.{Copying}
use Rattle.instruction_types.specs.declared.copying.Copying.TheVariants as copying
use Rattle.instruction_types.specs.declared.flow.Flow.{Flow}
use Rattle.instruction_types.specs.declared.flow.Flow.TheVariants as flow
use Rattle.instruction_types.specs.Effects.{copied, emptied, loads, stores, flow_of, left_by}
use Rattle.instruction_types.specs.Types.{kind_of_primitive}
use Rattle.verifier.specs.Meets.{goes_to, turns_to, left_in}
use Rattle.run_state.specs.World.{World, Limits, Counted, Counts, Passes, allowed_in, take_turn}
use Rattle.code_meaning.specs.declared.word.Word.{Word}
use Rattle.code_meaning.specs.declared.word.Word.TheVariants.{I, J, R}
use Rattle.code_meaning.specs.Words.{Calculation, NoRow, Calculates, boxed, unboxed, word_of}
use Rattle.code_meaning.specs.Machine as code_steps
use Rattle.code_meaning.specs.Machine.{Codes, Frame, Next, Goes, code_in, on_top, on_int, on_reference, on_value, on_local, on_stack, on_turn, on_calculation, unless_zero, if_null, to_line, on_loops, function_of}
use Rattle.verifier_soundness.specs.Fits.{AreWellShaped, kind_of, kinds_of, frame_kinds}
use Rattle.verifier_soundness.proofs.Words.{exchanged, on_one, on_one_int, on_one_reference, on_one_local, stored, left_is}
use Rattle.verifier_soundness.proofs.Operators.{CalculatesTo}
use Rattle.verifier_soundness.proofs.Casts.{divisor_is}
use Rattle.verifier_soundness.proofs.References.{by_null}
use Rattle.verifier_soundness.proofs.Lowering.{lines_in, left_at, lines_below, tick_worth, later_is_less, paid_is_less, something_left, frames_most}
use Rattle.verifier_soundness.proofs.Moves.{GoesTo, stays, same_reached, Moves, Here, StandsAt, CountsSo, turn_is_paid, lines_are, fits_with, goes_on, goes_next, next_line}
use Rattle.verifier_soundness.proofs.Throwing.{effect_moves}

-- ---- copies

some_is : (a b : List Slot) → Some a ≡ Some b → a ≡ b
some_is a b e = cc

-- words are copied as their kinds are
abbrev pub CopiesAs : Plain → Copying → Type 0
CopiesAs p c = (stack : List Word) (left : List Slot) → copied c (kinds_of stack) ≡ Some left → (new : List Word) × (code_steps.copied p stack ≡ Some new) × (kinds_of new ≡ left)

pub pops : CopiesAs plain.Pop copying.Drop
pops [] left e = cc
pops (z ∷ stack) left e = (stack, refl, some_is _ _ e)

pub dups : CopiesAs plain.Dup copying.One
dups [] left e = cc
dups (z ∷ stack) left e = (z ∷ z ∷ stack, refl, some_is _ _ e)

pub dups_two : CopiesAs plain.Dup2 copying.Two
dups_two [] left e = cc
dups_two (z ∷ []) left e = cc
dups_two (z ∷ y ∷ stack) left e = (z ∷ y ∷ z ∷ y ∷ stack, refl, some_is _ _ e)

pub dups_under_one : CopiesAs plain.DupX1 copying.UnderOne
dups_under_one [] left e = cc
dups_under_one (z ∷ []) left e = cc
dups_under_one (z ∷ y ∷ stack) left e = (z ∷ y ∷ z ∷ stack, refl, some_is _ _ e)

pub dups_under_two : CopiesAs plain.DupX2 copying.UnderTwo
dups_under_two [] left e = cc
dups_under_two (z ∷ []) left e = cc
dups_under_two (z ∷ y ∷ []) left e = cc
dups_under_two (z ∷ y ∷ x ∷ stack) left e = (z ∷ y ∷ x ∷ z ∷ stack, refl, some_is _ _ e)

-- ---- boxes

boxed_int_some : (P : Next → Type 0) (p : Primitive) (a : ℤ) (next : Value → Next) → kind_of_primitive p ≡ slot.I → ((value : Value) → P (next value)) → P (on_value (boxed p (I a)) next)
boxed_int_some P prim.Boolean a next e h = h _
boxed_int_some P prim.Byte a next e h = h _
boxed_int_some P prim.Short a next e h = h _
boxed_int_some P prim.Char a next e h = h _
boxed_int_some P prim.Int a next e h = h _
boxed_int_some P prim.Long a next e h = cc

boxed_long_some : (P : Next → Type 0) (p : Primitive) (a : ℤ) (next : Value → Next) → kind_of_primitive p ≡ slot.J → ((value : Value) → P (next value)) → P (on_value (boxed p (J a)) next)
boxed_long_some P prim.Boolean a next e h = cc
boxed_long_some P prim.Byte a next e h = cc
boxed_long_some P prim.Short a next e h = cc
boxed_long_some P prim.Char a next e h = cc
boxed_long_some P prim.Int a next e h = cc
boxed_long_some P prim.Long a next e h = h _

no_reference : (p : Primitive) → slot.R ≡ kind_of_primitive p → ⊥
no_reference prim.Boolean e = cc
no_reference prim.Byte e = cc
no_reference prim.Short e = cc
no_reference prim.Char e = cc
no_reference prim.Int e = cc
no_reference prim.Long e = cc

-- a word of a primitive's kind goes into its box
pub boxed_some : (P : Next → Type 0) (p : Primitive) (word : Word) (next : Value → Next) → kind_of word ≡ kind_of_primitive p → ((value : Value) → P (next value)) → P (on_value (boxed p word) next)
boxed_some P p (I a) next e h = boxed_int_some P p a next (sym e) h
boxed_some P p (J a) next e h = boxed_long_some P p a next (sym e) h
boxed_some P p (R value) next e h = absurd (no_reference p e)

-- ---- jumps

first_way : (a b : Bool) → a ≡ true → (a || b) ≡ true
first_way true b e = refl
first_way false b e = cc

second_way : (a b : Bool) → b ≡ true → (a || b) ≡ true
second_way true b e = refl
second_way false b e = e

suc_is : (n : ℕ) → suc n ≡ n + 1
suc_is n = omega arith

pub jump_goes : (way : Flow) (line to : ℕ) → way ≡ flow.Jumps to → goes_to way line to ≡ true
jump_goes way line to e = ap (λ way. goes_to way line to) e ∙ eq-eqb to to refl

branch_next : (way : Flow) (line to : ℕ) → way ≡ flow.Branches to → goes_to way line (suc line) ≡ true
branch_next way line to e = ap (λ way. goes_to way line (suc line)) e ∙ first_way (eqb (suc line) (line + 1)) (eqb (suc line) to) (eq-eqb (suc line) (line + 1) (suc_is line))

branch_goes : (way : Flow) (line to : ℕ) → way ≡ flow.Branches to → goes_to way line to ≡ true
branch_goes way line to e = ap (λ way. goes_to way line to) e ∙ second_way (eqb to (line + 1)) (eqb to to) (eq-eqb to to refl)

turn_next : (way : Flow) (line to : ℕ) → way ≡ flow.Turns to → goes_to way line (suc line) ≡ true
turn_next way line to e = ap (λ way. goes_to way line (suc line)) e ∙ eq-eqb (suc line) (line + 1) (suc_is line)

turn_goes : (way : Flow) (to : ℕ) → way ≡ flow.Turns to → turns_to way to ≡ true
turn_goes way to e = ap (λ way. turns_to way to) e ∙ eq-eqb to to refl

by_zero : (P : Next → Type 0) (a : ℤ) (first second : Next) → P first → P second → P (unless_zero a first second)
by_zero P (pos zero) first second p q = q
by_zero P (pos (suc a)) first second p q = p
by_zero P (negsuc a) first second p q = p

-- an int alone
only_int : (P : Next → Type 0) (stack : List Word) (left : List Slot) (next : ℤ → List Word → Next) → emptied (kinds_of stack) ≡ Some left → ((a : ℤ) → [] ≡ left → P (next a []))
    → P (on_top stack (λ word stack. on_int word (λ a. next a stack)))
only_int P [] left next e h = cc
only_int P (I a ∷ []) left next e h = h a (some_is _ _ e)
only_int P (I a ∷ b ∷ stack) left next e h = cc
only_int P (J a ∷ stack) left next e h = cc
only_int P (R a ∷ stack) left next e h = cc

module _ (codes : Codes) (limits : Limits) (well : AreWellShaped codes limits) (function : FunCode) (f : Frame) (below : List Frame) (w : World) (i : Instruction) (s : StandsAt codes limits function f i) (here : Here codes limits function f below w) where
  abbrev Moved : Next → Type 0
  Moved next = Moves codes limits (left_at codes limits f below w) next

  same : GoesTo codes limits w w
  same = stays codes limits function f below w here

  -- a word more
  pub puts : (word : Word) → flow_of i ≡ flow.GoesOn → exchanged [] (kind_of word ∷ []) (kinds_of f.stack) ≡ Some s.left → Moved (to_line f below w (suc f.line) (word ∷ f.stack))
  puts word goes leaves = goes_next codes limits function f below w w i s here (word ∷ f.stack) same goes (left_is (kind_of word ∷ []) (kinds_of f.stack) s.left leaves)

  -- the next line, with another stack
  pub next_with : (stack : List Word) → flow_of i ≡ flow.GoesOn → kinds_of stack ≡ s.left → Moved (to_line f below w (suc f.line) stack)
  next_with stack goes kinds = goes_next codes limits function f below w w i s here stack same goes kinds

  pub copies : (p : Plain) (c : Copying) → CopiesAs p c → flow_of i ≡ flow.GoesOn → copied c (kinds_of f.stack) ≡ Some s.left → Moved (on_stack (code_steps.copied p f.stack) (λ stack. to_line f below w (suc f.line) stack))
  copies p c copied_so goes leaves =
      let x = copied_so f.stack s.left leaves in
      subst (λ o. Moved (on_stack o (λ stack. to_line f below w (suc f.line) stack))) (sym x.1) (next_with x.0 goes x.2)

  -- ---- locals

  pub loads_local : (n : ℕ) (o : Option Slot) → flow_of i ≡ flow.GoesOn → slice_get (kinds_of f.locals) n ≡ o → left_in (option_map loads o) (kinds_of f.stack) ≡ Some s.left
      → Moved (on_local (slice_get f.locals n) (λ word. to_line f below w (suc f.line) (word ∷ f.stack)))
  unfolding left_by
  loads_local n None goes is leaves = cc
  loads_local n (Some k) goes is leaves =
      on_one_local Moved f.locals n k (λ word. to_line f below w (suc f.line) (word ∷ f.stack)) is
      (λ word kind. next_with (word ∷ f.stack) goes (ap (λ k. k ∷ kinds_of f.stack) kind ∙ left_is (k ∷ []) (kinds_of f.stack) s.left leaves))

  -- a local that is given a word of its kind
  store_moves : (n : ℕ) (k : Slot) (word : Word) (stack : List Word) → flow_of i ≡ flow.GoesOn → slice_get (kinds_of f.locals) n ≡ Some k → kind_of word ≡ k → kinds_of stack ≡ s.left
      → Moved (Goes (record { top = record { text = f.text; fun = f.fun; line = suc f.line; locals = slice_set f.locals n word; stack = stack; turns = f.turns; due = f.due }; below = below; world = w }))
  store_moves n k word stack goes is kind kinds =
      let next = next_line codes limits i f.line goes in
      let fits = fits_with (allowed_in limits f.text) (code_in codes f.text) function (frame_kinds f) (suc f.line) s.left (kinds_of stack) (s.goes (suc f.line) next) kinds in
      record {
        fits = record {
          function = function;
          top = record { is = fits.is; locals = stored f.locals n k word is kind ∙ fits.locals; within = fits.within; stack = fits.stack };
          below = here.belows;
          within = here.within;
          reached = here.reached;
        };
        less = later_is_less (tick_worth codes limits) w.ticks w.ticks (lines_in (code_in codes f.text) f.fun) f.line (suc f.line) (lines_below codes below) refl (lines_are (allowed_in limits f.text) (code_in codes f.text) function (frame_kinds f) here.fits) (s.later (suc f.line) next);
      }

  pub stores_local : (n : ℕ) (o : Option Slot) → flow_of i ≡ flow.GoesOn → slice_get (kinds_of f.locals) n ≡ o → left_in (option_map stores o) (kinds_of f.stack) ≡ Some s.left
      → Moved (on_top f.stack (λ word stack. Goes (record { top = record { text = f.text; fun = f.fun; line = suc f.line; locals = slice_set f.locals n word; stack = stack; turns = f.turns; due = f.due }; below = below; world = w })))
  unfolding left_by
  stores_local n None goes is leaves = cc
  stores_local n (Some k) goes is leaves =
      on_one Moved k [] s.left f.stack
      (λ word stack. Goes (record { top = record { text = f.text; fun = f.fun; line = suc f.line; locals = slice_set f.locals n word; stack = stack; turns = f.turns; due = f.due }; below = below; world = w })) leaves
      (λ word stack kind kinds. store_moves n k word stack goes is kind kinds)

  -- ---- operators and boxes

  pub calculated : (c : Calculation) → flow_of i ≡ flow.GoesOn → CalculatesTo c s.left → Moved (on_calculation codes limits c f below w)
  calculated NoRow goes to = absurd to
  calculated (Calculates None stack) goes to = effect_moves codes limits well function f below w i s here unboxed to.0 stack (effect w.store zero_divisor) goes to.1 (divisor_is unboxed to.0 w.store)
  calculated (Calculates (Some number) stack) goes to = next_with (word_of number ∷ stack) goes to

  pub boxes : (p : Primitive) → flow_of i ≡ flow.GoesOn → exchanged (kind_of_primitive p ∷ []) (slot.R ∷ []) (kinds_of f.stack) ≡ Some s.left
      → Moved (on_top f.stack (λ word stack. on_value (boxed p word) (λ value. to_line f below w (suc f.line) (R value ∷ stack))))
  boxes p goes leaves =
      on_one Moved (kind_of_primitive p) (slot.R ∷ []) s.left f.stack (λ word stack. on_value (boxed p word) (λ value. to_line f below w (suc f.line) (R value ∷ stack))) leaves
      (λ word stack kind kinds. boxed_some Moved p word (λ value. to_line f below w (suc f.line) (R value ∷ stack)) kind (λ value. next_with (R value ∷ stack) goes kinds))

  -- ---- jumps and loops

  pub jumps : (to : ℕ) → flow_of i ≡ flow.Jumps to → exchanged [] [] (kinds_of f.stack) ≡ Some s.left → Moved (to_line f below w to f.stack)
  jumps to goes leaves = goes_on codes limits function f below w w i s here to f.stack same (jump_goes (flow_of i) f.line to goes) (left_is [] (kinds_of f.stack) s.left leaves)

  -- at one number it goes on, and at the others it jumps
  branches_on : (to : ℕ) (stack : List Word) → flow_of i ≡ flow.Branches to → kinds_of stack ≡ s.left → Moved (to_line f below w (suc f.line) stack) × Moved (to_line f below w to stack)
  branches_on to stack goes kinds = (
    goes_on codes limits function f below w w i s here (suc f.line) stack same (branch_next (flow_of i) f.line to goes) kinds,
    goes_on codes limits function f below w w i s here to stack same (branch_goes (flow_of i) f.line to goes) kinds,
  )

  pub branches_at_zero : (to : ℕ) → flow_of i ≡ flow.Branches to → exchanged (slot.I ∷ []) [] (kinds_of f.stack) ≡ Some s.left
      → Moved (on_top f.stack (λ word stack. on_int word (λ a. unless_zero a (to_line f below w (suc f.line) stack) (to_line f below w to stack))))
  branches_at_zero to goes leaves =
      on_one_int Moved [] s.left f.stack (λ a stack. unless_zero a (to_line f below w (suc f.line) stack) (to_line f below w to stack)) leaves
      (λ a stack kinds. let x = branches_on to stack goes kinds in by_zero Moved a (to_line f below w (suc f.line) stack) (to_line f below w to stack) x.0 x.1)

  pub branches_at_others : (to : ℕ) → flow_of i ≡ flow.Branches to → exchanged (slot.I ∷ []) [] (kinds_of f.stack) ≡ Some s.left
      → Moved (on_top f.stack (λ word stack. on_int word (λ a. unless_zero a (to_line f below w to stack) (to_line f below w (suc f.line) stack))))
  branches_at_others to goes leaves =
      on_one_int Moved [] s.left f.stack (λ a stack. unless_zero a (to_line f below w to stack) (to_line f below w (suc f.line) stack)) leaves
      (λ a stack kinds. let x = branches_on to stack goes kinds in by_zero Moved a (to_line f below w to stack) (to_line f below w (suc f.line) stack) x.1 x.0)

  pub branches_at_null : (to : ℕ) → flow_of i ≡ flow.Branches to → exchanged (slot.R ∷ []) [] (kinds_of f.stack) ≡ Some s.left
      → Moved (on_top f.stack (λ word stack. on_reference word (λ value. if_null value (to_line f below w to stack) (to_line f below w (suc f.line) stack))))
  branches_at_null to goes leaves =
      on_one_reference Moved [] s.left f.stack (λ value stack. if_null value (to_line f below w to stack) (to_line f below w (suc f.line) stack)) leaves
      (λ value stack kinds. let x = branches_on to stack goes kinds in by_null Moved value (to_line f below w to stack) (to_line f below w (suc f.line) stack) x.1 x.0)

  -- a turn goes back, and pays a tick
  turned : (to : ℕ) (c : Counted) → flow_of i ≡ flow.Turns to → CountsSo w c → Moved (on_turn codes limits c to f below w [])
  turned to (Passes limit w') goes so = same_reached codes limits w w' so here.reached
  turned to (Counts w') goes so =
      let lines = lines_are (allowed_in limits f.text) (code_in codes f.text) function (frame_kinds f) here.fits in
      record {
        fits = record {
          function = function;
          top = s.turns to (turn_goes (flow_of i) to goes);
          below = here.belows;
          within = here.within;
          reached = same_reached codes limits w w' so.1 here.reached;
        };
        less = paid_is_less (tick_worth codes limits) w.ticks w'.ticks ((lines_in (code_in codes f.text) f.fun - f.line) + lines_below codes below) ((lines_in (code_in codes f.text) f.fun - to) + lines_below codes below) so.0
            (frames_most codes limits f.text f.fun to below here.within) (something_left (lines_in (code_in codes f.text) f.fun) f.line (lines_below codes below) lines);
      }

  -- a loop of a function with a limit of turns, or without
  abbrev looping : ℕ → Bool → Next
  looping to limited =
      on_top f.stack (λ word stack. on_int word (λ a. unless_zero a (on_turn codes limits (take_turn limits limited f.turns w) to f below w stack) (to_line f below w (suc f.line) stack)))

  loops_with : (to : ℕ) (limited : Bool) → flow_of i ≡ flow.Turns to → emptied (kinds_of f.stack) ≡ Some s.left → Moved (looping to limited)
  loops_with to limited goes leaves =
      only_int Moved f.stack s.left (λ a stack. unless_zero a (on_turn codes limits (take_turn limits limited f.turns w) to f below w stack) (to_line f below w (suc f.line) stack)) leaves
      (λ a kinds. by_zero Moved a (on_turn codes limits (take_turn limits limited f.turns w) to f below w []) (to_line f below w (suc f.line) [])
      (turned to (take_turn limits limited f.turns w) goes (turn_is_paid limits limited f.turns w))
      (goes_on codes limits function f below w w i s here (suc f.line) [] same (turn_next (flow_of i) f.line to goes) kinds))

  pub loops : (to : ℕ) → flow_of i ≡ flow.Turns to → emptied (kinds_of f.stack) ≡ Some s.left → Moved (on_loops codes limits (function_of codes f) (looping to))
  loops to goes leaves =
      subst (λ o. Moved (on_loops codes limits o (looping to))) (sym here.fits.is)
      (loops_with to function.loops goes leaves)
