-- What holds of all code.
use Rattle.std.specs.Prelude.{◌≡◌, ℕ, ◌+◌, ◌<◌, ◌↔◌, List, Some, None, length}
use Rattle.pl_code.specs.declared.kinds.Slot.{Slot}
use Rattle.pl_code.specs.declared.code.FunCode.{FunCode}
use Rattle.pl_code.specs.declared.code.Code.{Code}
use Rattle.allowlist.specs.Allow.{AllowList}
use Rattle.verifier.specs.declared.fault.FaultKind.{FaultKind}
use Rattle.verifier.specs.Faults.{lines_fault, shape_fault}
use Rattle.verifier.specs.Shaped.{Shaped, HasShapes, IsWellShapedCode}
use Rattle.verifier.specs.Fits.{FrameKinds, FitsLine, GoesOn}

-- A line has at most one shape.
abbrev pub ShapesAreUnique : Type 0
ShapesAreUnique = (allow : AllowList) (functions : List FunCode) (f : FunCode) (shapes others : List (List Slot)) → Shaped allow functions f shapes → Shaped allow functions f others → length shapes ≡ length others → shapes ≡ others

-- Code breaks nowhere exactly where it is well shaped.
abbrev pub SoundIsWellShaped : Type 0
SoundIsWellShaped = (allow : AllowList) (code : Code) → (shape_fault allow code ≡ None) ↔ IsWellShapedCode allow code.functions

-- The lines of a function before the one at which it breaks first have shapes, and with that one they have none.
abbrev pub BreaksWhereShapesEnd : Type 0
BreaksWhereShapesEnd = (allow : AllowList) (functions : List FunCode) (f : FunCode) (line : ℕ) (kind : FaultKind) → lines_fault allow functions f ≡ Some (line, kind)
    → (line < length f.lines) × HasShapes allow functions f line × ¬ (HasShapes allow functions f (line + 1))

-- In well-shaped code a frame that fits its line finds its operands, and fits where it goes on.
abbrev pub FittingGoesOn : Type 0
FittingGoesOn = (allow : AllowList) (functions : List FunCode) (f : FunCode) (frame : FrameKinds) → IsWellShapedCode allow functions → FitsLine allow functions f frame → GoesOn allow functions f frame
