-- What code does, instruction by instruction. A configuration has frames, the newest apart from those below it, and the world.
use Rattle.std.specs.Prelude.{ℕ, zero, suc, ◌&&◌, ◌*◌, Bool, true, false, List, [], ◌∷◌, ◌++◌, map, length, Option, Some, None, slice_get, slice_set, nat_le, nat_lt, pos, negsuc, ℤ, if◌then◌else◌}
use Rattle.std.specs.Int.{w8, w16, w32}
use Rattle.pl_types.specs.declared.ty.Ty.{Ty}
use Rattle.pl_types.specs.declared.ty.Ty.TheVariants as ty
use Rattle.pl_types.specs.Classes.{class_is_below}
use Rattle.pl_types.specs.Names.{class_of_full}
use Rattle.pl_types.specs.Texts.{type_of_full}
use Rattle.pl_units.specs.Utf16.{units}
use Rattle.object_values.specs.declared.value.Value.{Value}
use Rattle.object_values.specs.declared.value.Value.TheVariants as v
use Rattle.object_values.specs.declared.object.Object.{Object}
use Rattle.object_values.specs.declared.object.Object.TheVariants as o
use Rattle.object_values.specs.declared.object.Owner.{Owner}
use Rattle.object_values.specs.declared.object.Owner.TheVariants.{Script, Prelude}
use Rattle.arithmetic.specs.Arithmetic.{wrapped, low_bits}
use Rattle.run_state.specs.Outcomes.{effect, zero_divisor, null_error}
use Rattle.def_access.specs.Effects.{Effect}
use Rattle.allowlist.specs.declared.member.MemberType.{MemberType}
use Rattle.allowlist.specs.Allow.{AllowList}
use Rattle.allowlist.specs.Index.{member_in}
use Rattle.instruction_types.specs.Members.{method_of, constructor_of, field_of}
use Rattle.def_access.specs.Members.{does}
use Rattle.def_access.specs.Making.{list_made, map_made, array_filled, array_made}
use Rattle.def_access.specs.Elements.{element_read, element_written, length_of}
use Rattle.def_access.specs.Loops.{iterated, has_more, next_element}
use Rattle.def_access.specs.Access.{Access, Calls, Acts, index_read, index_written, name_read, name_written, method_called}
use Rattle.arithmetic.specs.declared.operator.Op.{Op}
use Rattle.run_state.specs.Casts.{cast_at_run_time}
use Rattle.run_state.specs.Operators.{concatenated, compares, is_unary, operate}
use Rattle.run_state.specs.Relations.{equal, is_same, thrown}
use Rattle.run_state.specs.Relations as relations
use Rattle.pl_code.specs.declared.kinds.Quoting.{Quoting}
use Rattle.pl_code.specs.declared.kinds.Quoting.TheVariants as quoting
use Rattle.pl_code.specs.declared.kinds.Typed.{Typed}
use Rattle.pl_code.specs.declared.kinds.Typed.TheVariants as typed
use Rattle.pl_code.specs.declared.kinds.Plain.{Plain}
use Rattle.pl_code.specs.declared.kinds.Plain.TheVariants as plain
use Rattle.pl_code.specs.declared.kinds.DynamicOp.{DynamicOp}
use Rattle.pl_code.specs.declared.kinds.Sized.{Sized}
use Rattle.pl_code.specs.declared.kinds.Sized.TheVariants as sized
use Rattle.pl_code.specs.declared.kinds.Numbered.{Numbered}
use Rattle.pl_code.specs.declared.kinds.Numbered.TheVariants as numbered
use Rattle.pl_code.specs.declared.kinds.Way.{Way}
use Rattle.pl_code.specs.declared.kinds.Way.TheVariants as way
use Rattle.pl_code.specs.declared.kinds.Slot.{Slot}
use Rattle.pl_code.specs.declared.code.Trap.{Trap}
use Rattle.pl_code.specs.declared.code.FunCode.{FunCode}
use Rattle.pl_code.specs.declared.code.Instruction.{Instruction}
use Rattle.pl_code.specs.declared.code.Instruction.TheVariants as i
use Rattle.run_state.specs.Calls.{suits_member, wrong_class}
use Rattle.run_state.specs.World.{World, Limits, Room, Arose, not_told, End, Result, Uncaught, Limited, Outcome, Given, Raised, Full, acts_in, Counted, Counts, Passes, allowed_in, take_turn, enter, pay_member}
use Rattle.code_meaning.specs.declared.word.Word.{Word}
use Rattle.code_meaning.specs.declared.word.Word.TheVariants.{I, J, R}
use Rattle.code_meaning.specs.Members.{Receiving, Unfit, OnNull, Receives, Reads, received, count_of, given_as, taken, taken_result, references_in, taken_alike, ints_in}
use Rattle.code_meaning.specs.Words.{start_of, word_of, Calculation, NoRow, Calculates, calculation, boxed, unboxed, bit, op_of_dynamic}

-- The code of the two texts of a run: the script's, and the prelude's.
pub record Codes : Type 0 where
  pub script : List FunCode
  pub prelude : List FunCode

-- the codes of a run, the script's first
abbrev pub codes_of : List FunCode → List FunCode → Codes
codes_of script prelude = record { script = script; prelude = prelude }

abbrev pub code_in : Codes → Owner → List FunCode
code_in codes Script = codes.script
code_in codes Prelude = codes.prelude

pub record Frame : Type 0 where
  -- the script's code, or the prelude's
  pub text : Owner
  pub fun : ℕ
  pub line : ℕ
  pub locals : List Word
  pub stack : List Word
  pub turns : ℕ
  -- The casts of what it gives, which are due when it returns: none, or the type that what it gives is of, and the types to which it is
  -- cast, the first of them first.
  pub due : List Ty

pub record Config : Type 0 where
  pub top : Frame
  pub below : List Frame
  pub world : World

-- what comes of a step; Stuck where no row fits
pub data Next : Type 0 where
  Goes : (c : Config) → Next
  Ends : (r : End (Option Word)) → Next
  Stuck : Next

-- ---- where a run begins

abbrev pub start_at : Option FunCode → List Word → World → Next
start_at None words w = Stuck
start_at (Some f) words w =
    Goes (record { top = record { text = Script; fun = 0; line = 0; locals = words ++ map start_of f.locals; stack = []; turns = 0; due = [] }; below = []; world = w })

-- the first configuration of code: function 0 of the script's
abbrev pub start : Codes → List Word → World → Next
start codes words w = start_at (slice_get codes.script 0) words w

-- ---- what is thrown

-- a class, and the line that catches its exceptions
pub record Handler : Type 0 where
  pub class : Option ℕ
  pub at : ℕ

abbrev pub Handlers : Type 0
Handlers = List Handler

-- the traps over a line, in order
abbrev pub traps_at : List Trap → ℕ → Handlers
traps_at [] line = []
traps_at (t ∷ ts) line =
    if nat_le t.from line && nat_lt line t.to then record { class = class_of_full t.class; at = t.at } ∷ traps_at ts line else traps_at ts line

abbrev pub traps_of : Option FunCode → ℕ → Handlers
traps_of None line = []
traps_of (Some f) line = traps_at f.traps line

unfoldable pub exception_is : ℕ → Option Object → Bool
exception_is class (Some (o.Exc raised message)) = class_is_below raised class
exception_is class other = false

unfoldable pub is_instance : Option ℕ → ℕ → World → Bool
is_instance None id w = false
is_instance (Some class) id w = exception_is class (slice_get w.store.objects id)

-- An exception in this frame, and where it arose: to the first handler of its class, which forgets the place, or on to the frames below.
abbrev pub lands : Handlers → Owner → ℕ → List Word → ℕ → List Ty → List Frame → ℕ → Arose → World → Next → Next
lands [] text fun locals turns due below id place w further = further
lands (h ∷ hs) text fun locals turns due below id place w further =
    if is_instance h.class id w
    then Goes (record { top = record { text = text; fun = fun; line = h.at; locals = locals; stack = R (v.Ref id) ∷ []; turns = turns; due = due }; below = below; world = w })
    else lands hs text fun locals turns due below id place w further

-- the function of a frame, in the code of its text
abbrev pub function_of : Codes → Frame → Option FunCode
function_of codes f = slice_get (code_in codes f.text) f.fun

abbrev pub unwind : Codes → List Frame → ℕ → Arose → World → Next
unwind codes [] id place w = Ends (Uncaught id place w)
unwind codes (f ∷ fs) id place w =
    lands (traps_of (function_of codes f) f.line) f.text f.fun f.locals f.turns f.due fs id place w (unwind codes fs id place w)

-- ---- one frame

-- to a line with this stack
abbrev pub to_line : Frame → List Frame → World → ℕ → List Word → Next
to_line f below w line stack =
    Goes (record { top = record { text = f.text; fun = f.fun; line = line; locals = f.locals; stack = stack; turns = f.turns; due = f.due }; below = below; world = w })

abbrev pub on_top : List Word → (Word → List Word → Next) → Next
on_top [] next = Stuck
on_top (word ∷ stack) next = next word stack

abbrev pub on_int : Word → (ℤ → Next) → Next
on_int (I a) next = next a
on_int other next = Stuck

abbrev pub on_long : Word → (ℤ → Next) → Next
on_long (J a) next = next a
on_long other next = Stuck

abbrev pub on_reference : Word → (Value → Next) → Next
on_reference (R value) next = next value
on_reference other next = Stuck

abbrev pub on_type : Option Ty → (Ty → Next) → Next
on_type None next = Stuck
on_type (Some of) next = next of

abbrev pub on_values : Option (List Value) → (List Value → Next) → Next
on_values None next = Stuck
on_values (Some values) next = next values

abbrev pub on_ints : Option (List ℤ) → (List ℤ → Next) → Next
on_ints None next = Stuck
on_ints (Some numbers) next = next numbers

-- the deepest of words and those above it
abbrev pub on_first : List Value → (Value → List Value → Next) → Next
on_first [] next = Stuck
on_first (value ∷ values) next = next value values

abbrev pub on_value : Option Value → (Value → Next) → Next
on_value None next = Stuck
on_value (Some value) next = next value

-- the first where the number is not 0
abbrev pub unless_zero : ℤ → Next → Next → Next
unless_zero (pos zero) first second = second
unless_zero (pos (suc a)) first second = first
unless_zero (negsuc a) first second = first

-- the first where the value is null
abbrev pub if_null : Value → Next → Next → Next
if_null v.Null first second = first
if_null value first second = second

-- so many words off the stack, the deepest first
abbrev pub take_words : ℕ → List Word → List Word → Option (List Word × List Word)
take_words zero stack taken = Some (taken, stack)
take_words (suc n) [] taken = None
take_words (suc n) (word ∷ stack) taken = take_words n stack (word ∷ taken)

abbrev pub on_words : Option (List Word × List Word) → (List Word → List Word → Next) → Next
on_words None next = Stuck
on_words (Some p) next = next p.0 p.1

abbrev pub on_local : Option Word → (Word → Next) → Next
on_local None next = Stuck
on_local (Some word) next = next word

abbrev pub depth_of : List Frame → ℕ
depth_of [] = zero
depth_of (f ∷ fs) = suc (depth_of fs)

-- a word more, or none
abbrev pub pushed : Option Word → List Word → List Word
pushed None stack = stack
pushed (Some word) stack = word ∷ stack

abbrev pub copied : Plain → List Word → Option (List Word)
copied plain.Pop (z ∷ stack) = Some stack
copied plain.Dup (z ∷ stack) = Some (z ∷ z ∷ stack)
copied plain.Dup2 (z ∷ y ∷ stack) = Some (z ∷ y ∷ z ∷ y ∷ stack)
copied plain.DupX1 (z ∷ y ∷ stack) = Some (z ∷ y ∷ z ∷ stack)
copied plain.DupX2 (z ∷ y ∷ x ∷ stack) = Some (z ∷ y ∷ x ∷ z ∷ stack)
copied other stack = None

abbrev pub on_stack : Option (List Word) → (List Word → Next) → Next
on_stack None next = Stuck
on_stack (Some stack) next = next stack

-- which way a cast goes: whether it is written in the script
abbrev pub is_written : Way → Bool
is_written way.Implicit = false
is_written way.Explicit = true

module _ (codes : Codes) (limits : Limits) where
  -- what an operation on the store gives goes on the stack
  abbrev pub on_outcome : Outcome Value → (Value → Word) → Frame → List Frame → World → List Word → Next
  on_outcome (Given value w') word f below w stack = to_line f below w' (suc f.line) (word value ∷ stack)
  on_outcome (Raised id w') word f below w stack = unwind codes (f ∷ below) id not_told w'
  on_outcome Full word f below w stack = Ends (Limited Room not_told w)

  -- what an operation gives is dropped
  abbrev pub on_done : Outcome Value → Frame → List Frame → World → List Word → Next
  on_done (Given value w') f below w stack = to_line f below w' (suc f.line) stack
  on_done (Raised id w') f below w stack = unwind codes (f ∷ below) id not_told w'
  on_done Full f below w stack = Ends (Limited Room not_told w)

  -- what is thrown; what gives a value throws nothing
  abbrev pub on_thrown : Outcome Value → Frame → List Frame → World → Next
  on_thrown (Given value w') f below w = Stuck
  on_thrown (Raised id w') f below w = unwind codes (f ∷ below) id not_told w'
  on_thrown Full f below w = Ends (Limited Room not_told w)

  abbrev pub on_calculation : Calculation → Frame → List Frame → World → Next
  on_calculation NoRow f below w = Stuck
  on_calculation (Calculates None stack) f below w = on_outcome (acts_in w (effect w.store zero_divisor)) unboxed f below w stack
  on_calculation (Calculates (Some number) stack) f below w = to_line f below w (suc f.line) (word_of number ∷ stack)

  -- what an operation gives goes on, in the world that it left
  abbrev pub on_given : Outcome Value → Frame → List Frame → World → (Value → World → Next) → Next
  on_given (Given value w') f below w next = next value w'
  on_given (Raised id w') f below w next = unwind codes (f ∷ below) id not_told w'
  on_given Full f below w next = Ends (Limited Room not_told w)

  -- A value is cast to types, one after the other, each in the world that the one before it left, and then it goes on the caller's stack as
  -- a reference. What a cast throws is thrown in the caller.
  abbrev pub cast_each : List Ty → Value → Frame → List Frame → World → Next
  cast_each [] value f below w = to_line f below w (suc f.line) (R value ∷ f.stack)
  cast_each (to ∷ tos) value f below w =
      on_given (acts_in w (effect w.store (cast_at_run_time w.store.objects value to false))) f below w (λ value w. cast_each tos value f below w)

  -- the casts that are due: where there are none, the word goes on the caller's stack as it is
  abbrev pub cast_due : List Ty → Option Word → Frame → List Frame → World → Next
  cast_due [] result f below w = to_line f below w (suc f.line) (pushed result f.stack)
  cast_due (from ∷ tos) result f below w = on_value (taken_result from result) (λ value. cast_each tos value f below w)

  -- to the frame below, or, from the lowest one, as what the run gives
  abbrev pub gives_back : List Frame → List Ty → Option Word → World → Next
  gives_back [] due result w = Ends (Result result w)
  gives_back (f ∷ fs) due result w = cast_due due result f fs w

  abbrev pub on_turn : Counted → ℕ → Frame → List Frame → World → List Word → Next
  on_turn (Passes limit w') to f below w stack = Ends (Limited limit not_told w')
  on_turn (Counts w') to f below w stack =
      Goes (record { top = record { text = f.text; fun = f.fun; line = to; locals = f.locals; stack = stack; turns = suc f.turns; due = f.due }; below = below; world = w' })

  -- Into a function of a text, whose code is g: its frame is of that text, and the frame below stays of its own.
  abbrev pub on_enter : Counted → Owner → ℕ → FunCode → List Ty → Frame → List Frame → World → List Word → List Word → Next
  on_enter (Passes limit w') text k g due f below w args stack = Ends (Limited limit not_told w')
  on_enter (Counts w') text k g due f below w args stack =
      Goes (record {
        top = record { text = text; fun = k; line = 0; locals = args ++ map start_of g.locals; stack = []; turns = 0; due = due };
        below = record { text = f.text; fun = f.fun; line = f.line; locals = f.locals; stack = stack; turns = f.turns; due = f.due } ∷ below;
        world = w';
      })

  -- a call of a function of a text, whose arguments lie on the stack
  abbrev pub on_function : Option FunCode → Counted → Owner → ℕ → List Ty → Frame → List Frame → World → Next
  on_function None counted text k due f below w = Stuck
  on_function (Some g) counted text k due f below w =
      on_words (take_words (length g.params) f.stack []) (λ args stack. on_enter counted text k g due f below w args stack)

  -- a call by number: the function is of the caller's text, and no casts are due
  abbrev pub on_call : Option FunCode → ℕ → Frame → List Frame → World → Next
  on_call o k f below w = on_function o (enter limits (depth_of below) w) f.text k [] f below w

  -- whether a function has a limit of turns
  abbrev pub on_loops : Option FunCode → (Bool → Next) → Next
  on_loops None next = Stuck
  on_loops (Some g) next = next g.loops

  -- what is returned: a word, or none where the function has no result
  abbrev pub returns_of : Option Slot → List Word → (Option Word → Next) → Next
  returns_of None stack next = next None
  returns_of (Some kind) stack next = on_top stack (λ word rest. next (Some word))

  abbrev pub returns : Option FunCode → List Word → (Option Word → Next) → Next
  returns None stack next = Stuck
  returns (Some g) stack next = returns_of g.result stack next

  -- ---- what is found for a receiver when the code runs: what is read or called gives a reference, and what a write gives is dropped

  abbrev pub on_found : Option Effect → Frame → List Frame → World → List Word → Next
  on_found None f below w stack = Stuck
  on_found (Some given) f below w stack = on_outcome (acts_in w given) R f below w stack

  abbrev pub on_found_paid : Counted → ℕ → List Value → Frame → List Frame → List Word → Next
  on_found_paid (Passes limit w) number arguments f below stack = Ends (Limited limit not_told w)
  on_found_paid (Counts w) number arguments f below stack = on_found (does limits.ground.host number arguments w.store) f below w stack

  abbrev pub on_access : Access → Frame → List Frame → World → List Word → Next
  on_access (Calls number arguments) f below w stack = on_found_paid (pay_member f.text number w) number arguments f below stack
  on_access (Acts given) f below w stack = on_outcome (acts_in w given) R f below w stack

  abbrev pub on_put : Option Effect → Frame → List Frame → World → List Word → Next
  on_put None f below w stack = Stuck
  on_put (Some given) f below w stack = on_done (acts_in w given) f below w stack

  abbrev pub on_put_paid : Counted → ℕ → List Value → Frame → List Frame → List Word → Next
  on_put_paid (Passes limit w) number arguments f below stack = Ends (Limited limit not_told w)
  on_put_paid (Counts w) number arguments f below stack = on_put (does limits.ground.host number arguments w.store) f below w stack

  abbrev pub on_write : Access → Frame → List Frame → World → List Word → Next
  on_write (Calls number arguments) f below w stack = on_put_paid (pay_member f.text number w) number arguments f below stack
  on_write (Acts given) f below w stack = on_done (acts_in w given) f below w stack

  -- ---- operators on values of any types: a comparison gives an int

  abbrev pub dynamic_given : Op → Value → Word
  dynamic_given o value = if compares o then unboxed value else R value

  abbrev pub on_operated : Op → Value → Value → Frame → List Frame → World → List Word → Next
  on_operated o a b f below w stack = on_outcome (acts_in w (effect w.store (operate w.store.objects o a b))) (dynamic_given o) f below w stack

  abbrev pub operator_act : Op → Frame → List Frame → World → Next
  operator_act o f below w =
      on_top f.stack (λ upper rest. on_reference upper (λ b.
      if is_unary o then on_operated o b b f below w rest
      else on_top rest (λ lower stack. on_reference lower (λ a. on_operated o a b f below w stack))))

  -- an operation on one reference
  abbrev pub on_one : (Value → Effect) → (Value → Word) → Frame → List Frame → World → Next
  on_one given word f below w = on_top f.stack (λ top stack. on_reference top (λ value. on_outcome (acts_in w (given value)) word f below w stack))

  abbrev pub plain_act : Plain → Frame → List Frame → World → Next
  plain_act plain.Null f below w = to_line f below w (suc f.line) (R v.Null ∷ f.stack)
  plain_act plain.IntToLong f below w = on_top f.stack (λ word stack. on_int word (λ a. to_line f below w (suc f.line) (J a ∷ stack)))
  plain_act plain.LongToInt f below w = on_top f.stack (λ word stack. on_long word (λ a. to_line f below w (suc f.line) (I (wrapped w32 a) ∷ stack)))
  plain_act plain.IntToByte f below w = on_top f.stack (λ word stack. on_int word (λ a. to_line f below w (suc f.line) (I (wrapped w8 a) ∷ stack)))
  plain_act plain.IntToShort f below w = on_top f.stack (λ word stack. on_int word (λ a. to_line f below w (suc f.line) (I (wrapped w16 a) ∷ stack)))
  plain_act plain.IntToChar f below w = on_top f.stack (λ word stack. on_int word (λ a. to_line f below w (suc f.line) (I (pos (low_bits 16 a)) ∷ stack)))
  plain_act plain.Ret f below w = returns (function_of codes f) f.stack (λ result. gives_back below f.due result w)
  plain_act plain.Concat f below w =
      on_top f.stack (λ upper rest. on_reference upper (λ b. on_top rest (λ lower stack. on_reference lower (λ a.
      on_outcome (acts_in w (effect w.store (concatenated w.store.objects a b))) R f below w stack))))
  plain_act plain.Equal f below w =
      on_top f.stack (λ upper rest. on_reference upper (λ b. on_top rest (λ lower stack. on_reference lower (λ a.
      on_outcome (acts_in w (effect w.store (equal w.store.objects a b))) unboxed f below w stack))))
  plain_act plain.Same f below w =
      on_top f.stack (λ upper rest. on_reference upper (λ b. on_top rest (λ lower stack. on_reference lower (λ a.
      to_line f below w (suc f.line) (I (bit (is_same a b)) ∷ stack)))))
  plain_act plain.ArrayLength f below w = on_one (length_of w.store) unboxed f below w
  plain_act plain.GetIndex f below w =
      on_top f.stack (λ upper rest. on_reference upper (λ index. on_top rest (λ lower stack. on_reference lower (λ receiver.
      on_access (index_read (allowed_in limits f.text) w.store receiver index) f below w stack))))
  plain_act plain.PutIndex f below w =
      on_top f.stack (λ third more. on_reference third (λ value. on_top more (λ second rest. on_reference second (λ index. on_top rest (λ first stack. on_reference first (λ receiver.
      on_write (index_written (allowed_in limits f.text) w.store receiver index value) f below w stack))))))
  plain_act plain.Iter f below w = on_one (iterated w.store) R f below w
  plain_act plain.Has f below w = on_one (has_more w.store) unboxed f below w
  plain_act plain.Next f below w = on_one (next_element w.store) R f below w
  plain_act plain.Throw f below w = on_top f.stack (λ word stack. on_reference word (λ value. on_thrown (acts_in w (thrown w.store value)) f below w))
  plain_act other f below w = on_stack (copied other f.stack) (λ stack. to_line f below w (suc f.line) stack)

  abbrev pub numbered_act : Numbered → ℕ → Frame → List Frame → World → Next
  numbered_act numbered.Load k f below w = on_local (slice_get f.locals k) (λ word. to_line f below w (suc f.line) (word ∷ f.stack))
  numbered_act numbered.Store k f below w =
      on_top f.stack (λ word stack.
      Goes (record { top = record { text = f.text; fun = f.fun; line = suc f.line; locals = slice_set f.locals k word; stack = stack; turns = f.turns; due = f.due }; below = below; world = w }))
  numbered_act numbered.Goto to f below w = to_line f below w to f.stack
  numbered_act numbered.IfZero to f below w =
      on_top f.stack (λ word stack. on_int word (λ a. unless_zero a (to_line f below w (suc f.line) stack) (to_line f below w to stack)))
  numbered_act numbered.IfNotZero to f below w =
      on_top f.stack (λ word stack. on_int word (λ a. unless_zero a (to_line f below w to stack) (to_line f below w (suc f.line) stack)))
  numbered_act numbered.IfNull to f below w =
      on_top f.stack (λ word stack. on_reference word (λ value. if_null value (to_line f below w to stack) (to_line f below w (suc f.line) stack)))
  numbered_act numbered.Loop to f below w =
      on_loops (function_of codes f) (λ limited. on_top f.stack (λ word stack. on_int word (λ a.
      unless_zero a (on_turn (take_turn limits limited f.turns w) to f below w stack) (to_line f below w (suc f.line) stack))))
  numbered_act numbered.List n f below w =
      on_words (take_words n f.stack []) (λ words stack. on_values (references_in words) (λ items. on_outcome (acts_in w (list_made w.store items)) R f below w stack))
  numbered_act numbered.Map n f below w =
      on_words (take_words (2 * n) f.stack []) (λ words stack. on_values (references_in words) (λ parts. on_outcome (acts_in w (map_made w.store parts)) R f below w stack))
  numbered_act numbered.Call k f below w = on_call (slice_get (code_in codes f.text) k) k f below w

  abbrev pub quoted_act : Quoting → List ℕ → Frame → List Frame → World → Next
  quoted_act quoting.Constant text f below w = to_line f below w (suc f.line) (R (v.Str (units text)) ∷ f.stack)
  quoted_act quoting.GetName name f below w =
      on_top f.stack (λ word stack. on_reference word (λ receiver. on_access (name_read (allowed_in limits f.text) w.store receiver name) f below w stack))
  quoted_act quoting.PutName name f below w =
      on_top f.stack (λ upper rest. on_reference upper (λ value. on_top rest (λ lower stack. on_reference lower (λ receiver.
      on_write (name_written (allowed_in limits f.text) w.store receiver name value) f below w stack))))

  abbrev pub typed_act : Typed → Ty → Frame → List Frame → World → Next
  typed_act typed.IsA of f below w =
      on_top f.stack (λ word stack. on_reference word (λ value. to_line f below w (suc f.line) (I (bit (relations.is_instance w.store.objects value of)) ∷ stack)))
  typed_act typed.LoadElement of f below w =
      on_top f.stack (λ upper rest. on_int upper (λ at. on_top rest (λ lower stack. on_reference lower (λ array.
      on_outcome (acts_in w (element_read w.store of array at)) (given_as of) f below w stack))))
  typed_act typed.StoreElement of f below w =
      on_top f.stack (λ third more. on_value (taken of third) (λ value. on_top more (λ upper rest. on_int upper (λ at. on_top rest (λ lower stack. on_reference lower (λ array.
      on_done (acts_in w (element_written w.store of array at value)) f below w stack))))))

  -- arrays: of elements that lie on the stack, and with sizes that lie there
  abbrev pub sized_act : Sized → Ty → ℕ → Frame → List Frame → World → Next
  sized_act sized.Filled elem n f below w =
      on_words (take_words n f.stack []) (λ words stack. on_values (taken_alike elem words) (λ items. on_outcome (acts_in w (array_filled w.store elem items)) R f below w stack))
  sized_act sized.Empty of n f below w =
      on_words (take_words n f.stack []) (λ words stack. on_ints (ints_in words) (λ sizes. on_outcome (acts_in w (array_made w.store of sizes)) R f below w stack))

  -- a call of a method by its name: the receiver lies below so many arguments
  abbrev pub method_act : List ℕ → ℕ → Frame → List Frame → World → Next
  method_act name n f below w =
      on_words (take_words (suc n) f.stack []) (λ words stack. on_values (references_in words) (λ values. on_first values (λ receiver arguments.
      on_access (method_called (allowed_in limits f.text) w.store receiver name arguments) f below w stack)))

  abbrev pub cast_act : Ty → Bool → Frame → List Frame → World → Next
  cast_act to written f below w =
      on_top f.stack (λ word stack. on_reference word (λ value.
      on_outcome (acts_in w (effect w.store (cast_at_run_time w.store.objects value to written))) R f below w stack))

  -- what a member does, once its call is paid
  abbrev pub on_act : Option Effect → MemberType → Frame → List Frame → World → List Word → Next
  on_act None t f below w stack = Stuck
  on_act (Some given) t f below w stack = on_outcome (acts_in w given) (given_as t.result) f below w stack

  abbrev pub on_paid : Counted → ℕ → List Value → MemberType → Frame → List Frame → List Word → Next
  on_paid (Passes limit w) number arguments t f below stack = Ends (Limited limit not_told w)
  on_paid (Counts w) number arguments t f below stack = on_act (does limits.ground.host number arguments w.store) t f below w stack

  -- a receiver or an argument of another class throws before the call is paid
  abbrev pub on_tested : Bool → ℕ → List Value → MemberType → Frame → List Frame → World → List Word → Next
  on_tested false number arguments t f below w stack = on_outcome (acts_in w (effect w.store wrong_class)) (given_as t.result) f below w stack
  on_tested true number arguments t f below w stack = on_paid (pay_member f.text number w) number arguments t f below stack

  -- a receiver that is null throws before that; a field is read without a tick
  abbrev pub on_received : Receiving → ℕ → MemberType → Frame → List Frame → World → List Word → Next
  on_received Unfit number t f below w stack = Stuck
  on_received OnNull number t f below w stack = on_outcome (acts_in w (effect w.store null_error)) (given_as t.result) f below w stack
  on_received (Receives arguments) number t f below w stack = on_tested (suits_member w.store.objects t arguments) number arguments t f below w stack
  on_received Reads number t f below w stack = on_act (does limits.ground.host number [] w.store) t f below w stack

  -- a call of the member of a list with this number, if there is one
  abbrev pub member_act : AllowList → Option ℕ → Frame → List Frame → World → Next
  member_act allow None f below w = Stuck
  member_act allow (Some number) f below w =
      on_words (take_words (count_of (member_in allow number)) f.stack []) (λ words stack. on_received (received (member_in allow number) words) number (member_in allow number) f below w stack)

  -- The rows that are built: all but those that make function values.
  abbrev pub act : Instruction → Frame → List Frame → World → Next
  act (i.Plain p) f below w = plain_act p f below w
  act (i.Arithmetic o width) f below w = on_calculation (calculation o width f.stack) f below w
  act (i.Dynamic o) f below w = operator_act (op_of_dynamic o) f below w
  act (i.Int a) f below w = to_line f below w (suc f.line) (I a ∷ f.stack)
  act (i.Long a) f below w = to_line f below w (suc f.line) (J a ∷ f.stack)
  act (i.Numbered numbered k) f below w = numbered_act numbered k f below w
  act (i.Boxing p) f below w = on_top f.stack (λ word stack. on_value (boxed p word) (λ value. to_line f below w (suc f.line) (R value ∷ stack)))
  act (i.Unboxing p way) f below w =
      on_top f.stack (λ word stack. on_reference word (λ value.
      on_outcome (acts_in w (effect w.store (cast_at_run_time w.store.objects value (ty.Prim p) (is_written way)))) unboxed f below w stack))
  act (i.Quoted q text) f below w = quoted_act q text f below w
  act (i.Typed t of) f below w = on_type (type_of_full of) (λ of. typed_act t of f below w)
  act (i.Sized s of n) f below w = on_type (type_of_full of) (λ of. sized_act s of n f below w)
  act (i.DefCall name n) f below w = method_act name n f below w
  act (i.Cast to way) f below w = on_type (type_of_full to) (λ to. cast_act to (is_written way) f below w)
  act (i.Invoke method) f below w = member_act (allowed_in limits f.text) (method_of (allowed_in limits f.text) method) f below w
  act (i.New constructor) f below w = member_act (allowed_in limits f.text) (constructor_of (allowed_in limits f.text) constructor) f below w
  act (i.Field field) f below w = member_act (allowed_in limits f.text) (field_of (allowed_in limits f.text) field) f below w
  act (i.Lambda interface function n) f below w = Stuck
  act (i.Ref interface of name) f below w = Stuck
  act (i.NewRef interface of) f below w = Stuck

  abbrev pub lines_of : Option FunCode → List Instruction
  lines_of None = []
  lines_of (Some g) = g.lines

  abbrev pub acts : Option Instruction → Frame → List Frame → World → Next
  acts None f below w = Stuck
  acts (Some instruction) f below w = act instruction f below w

  abbrev pub step : Config → Next
  step c = acts (slice_get (lines_of (function_of codes c.top)) c.top.line) c.top c.below c.world

  -- so many steps
  abbrev pub after : ℕ → Next → Next
  after zero n = n
  after (suc k) (Goes c) = after k (step c)
  after (suc k) (Ends r) = Ends r
  after (suc k) Stuck = Stuck
