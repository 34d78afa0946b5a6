-- What stands where a run of code is: the kinds of locals and operands at a line, and of the frames below.
use Rattle.std.specs.Prelude.{◌≡◌, ℕ, ◌+◌, ◌<◌, true, List, [], ◌∷◌, ◌++◌, Option, Some, length, slice_get}
use Rattle.pl_code.specs.declared.kinds.Slot.{Slot}
use Rattle.pl_code.specs.declared.code.FunCode.{FunCode}
use Rattle.pl_code.specs.declared.code.Instruction.{Instruction}
use Rattle.allowlist.specs.Allow.{AllowList}
use Rattle.instruction_types.specs.Effects.{effect_of, flow_of, result_kinds}
use Rattle.verifier_table.specs.Shapes.{Known}
use Rattle.verifier.specs.Meets.{goes_to, turns_to, left_in, stands_at}

-- the kinds of a frame: its function, its line, its locals and its operands, the top first
pub record FrameKinds : Type 0 where
  pub function : ℕ
  pub line : ℕ
  pub locals : List Slot
  pub stack : List Slot

-- A frame fits its line: its locals are those of its function, and its operands are what stands there.
pub record FitsLine (allow : AllowList) (functions : List FunCode) (f : FunCode) (frame : FrameKinds) : Type 0 where
  pub is : slice_get functions frame.function ≡ Some f
  pub locals : frame.locals ≡ f.params ++ f.locals
  pub within : frame.line < length f.lines
  pub stack : stands_at allow functions f frame.line ≡ Known frame.stack

-- the frame at a line with operands
abbrev pub at_with : FrameKinds → ℕ → List Slot → FrameKinds
at_with frame line stack = record { function = frame.function; line = line; locals = frame.locals; stack = stack }

-- A frame that fits its line goes on: its instruction finds its operands, and wherever it goes on the frame fits with what it
-- leaves; where it turns back, with nothing.
pub record GoesOn (allow : AllowList) (functions : List FunCode) (f : FunCode) (frame : FrameKinds) : Type 0 where
  pub instruction : Instruction
  pub is : slice_get f.lines frame.line ≡ Some instruction
  pub left : List Slot
  pub leaves : left_in (effect_of allow functions f instruction) frame.stack ≡ Some left
  pub goes : (to : ℕ) → goes_to (flow_of instruction) frame.line to ≡ true → FitsLine allow functions f (at_with frame to left)
  pub turns : (to : ℕ) → turns_to (flow_of instruction) to ≡ true → FitsLine allow functions f (at_with frame to [])

-- what a function gives
abbrev pub given_by : FunCode → Option Slot
given_by f = f.result

-- A frame waits at the line of a call, with what the call has left of its operands: with the result it fits the next line.
abbrev pub Awaits : AllowList → List FunCode → FunCode → FrameKinds → Option Slot → Type 0
Awaits allow functions f frame result = FitsLine allow functions f (at_with frame (frame.line + 1) (result_kinds result ++ frame.stack))

-- the frames below one that gives this: each waits for what the one above it gives
pub data FitBelow (allow : AllowList) (functions : List FunCode) : List FrameKinds → Option Slot → Type 0 where
  bottom : {result : Option Slot} → FitBelow allow functions [] result
  below : {result : Option Slot} (f : FunCode) (frame : FrameKinds) (frames : List FrameKinds) → Awaits allow functions f frame result → FitBelow allow functions frames f.result
      → FitBelow allow functions (frame ∷ frames) result
