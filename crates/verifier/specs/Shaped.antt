-- Which kinds lie on the stack where each line of a function begins: one list of kinds for each line.
use Rattle.std.specs.Prelude.{◌≡◌, ℕ, ◌<◌, true, false, List, [], ◌∷◌, Some, None, length, slice_get}
use Rattle.pl_code.specs.declared.kinds.Slot.{Slot}
use Rattle.pl_code.specs.declared.kinds.Slot.TheVariants.{R}
use Rattle.pl_code.specs.declared.code.FunCode.{FunCode}
use Rattle.pl_code.specs.declared.code.Trap.{Trap}
use Rattle.pl_code.specs.declared.code.Instruction.{Instruction}
use Rattle.allowlist.specs.Allow.{AllowList}
use Rattle.instruction_types.specs.Effects.{effect_of, flow_of}
use Rattle.instruction_types.specs.Faults.{is_bad_target, is_bad_member, is_bad_jump}
use Rattle.verifier.specs.Meets.{goes_to, turns_to, left_in}
use Rattle.verifier.specs.Faults.{has_shape, trap_fault}

-- What leads to a line with which kinds, where lines have these shapes.
pub data Leads (allow : AllowList) (functions : List FunCode) (f : FunCode) (shapes : List (List Slot)) : ℕ → List Slot → Type 0 where
  -- the function begins with an empty stack
  begins : Leads allow functions f shapes 0 []
  -- what was thrown lies where a trap goes on
  catches : (k : ℕ) (t : Trap) → slice_get f.traps k ≡ Some t → Leads allow functions f shapes t.at (R ∷ [])
  -- nothing lies where a loop turns back to
  turns : (line : ℕ) (i : Instruction) (to : ℕ) → slice_get f.lines line ≡ Some i → turns_to (flow_of i) to ≡ true → Leads allow functions f shapes to []
  -- a line leaves what its instruction leaves of its shape
  passes : (line : ℕ) (i : Instruction) (kinds left : List Slot) (to : ℕ) → slice_get f.lines line ≡ Some i → slice_get shapes line ≡ Some kinds
      → left_in (effect_of allow functions f i) kinds ≡ Some left → goes_to (flow_of i) line to ≡ true → Leads allow functions f shapes to left

-- An instruction fits the kinds at its line, and names nothing that is not there.
pub record InstructionFits (allow : AllowList) (functions : List FunCode) (f : FunCode) (line : ℕ) (kinds : List Slot) (i : Instruction) : Type 0 where
  pub target : is_bad_target functions f i ≡ false
  pub member : is_bad_member allow i ≡ false
  pub jump : is_bad_jump line i ≡ false
  pub fits : has_shape (length f.lines) line (flow_of i) (left_in (effect_of allow functions f i) kinds) ≡ true

-- A line has a shape: something leads to it with these kinds, all that leads to it agrees, and its instruction fits them.
pub record LineStands (allow : AllowList) (functions : List FunCode) (f : FunCode) (shapes : List (List Slot)) (line : ℕ) (kinds : List Slot) : Type 0 where
  pub led : Leads allow functions f shapes line kinds
  pub only : (others : List Slot) → Leads allow functions f shapes line others → others ≡ kinds
  pub instruction : Instruction
  pub is : slice_get f.lines line ≡ Some instruction
  pub instruction_fits : InstructionFits allow functions f line kinds instruction

-- So many first lines of a function have these shapes.
pub record Shaped (allow : AllowList) (functions : List FunCode) (f : FunCode) (shapes : List (List Slot)) : Type 0 where
  pub each : (line : ℕ) (kinds : List Slot) → slice_get shapes line ≡ Some kinds → LineStands allow functions f shapes line kinds

pub record HasShapes (allow : AllowList) (functions : List FunCode) (f : FunCode) (count : ℕ) : Type 0 where
  pub shapes : List (List Slot)
  pub many : length shapes ≡ count
  pub shaped : Shaped allow functions f shapes

-- A function is well shaped: it has a line, its traps are in order, and each line has a shape.
pub record IsWellShaped (allow : AllowList) (functions : List FunCode) (f : FunCode) : Type 0 where
  pub some : 0 < length f.lines
  pub traps : (k : ℕ) (t : Trap) → slice_get f.traps k ≡ Some t → trap_fault (length f.lines) t ≡ None
  pub lines : HasShapes allow functions f (length f.lines)

-- Code is: there is a function 0, and each is well shaped.
pub record IsWellShapedCode (allow : AllowList) (functions : List FunCode) : Type 0 where
  pub some : 0 < length functions
  pub each : (k : ℕ) (f : FunCode) → slice_get functions k ≡ Some f → IsWellShaped allow functions f
