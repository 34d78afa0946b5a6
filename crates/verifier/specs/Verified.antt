-- What is answered of code.
use Rattle.std.specs.Prelude.{◌≡◌, ℕ, ◌+◌, ◌<◌, ◌≤◌, List, Option, Some, None, length, slice_get}
use Rattle.pl_code.specs.declared.kinds.Slot.{Slot}
use Rattle.pl_code.specs.declared.code.FunCode.{FunCode}
use Rattle.pl_code.specs.declared.code.Code.{Code}
use Rattle.allowlist.specs.Allow.{AllowList}
use Rattle.verifier.specs.declared.fault.FaultKind.{FaultKind}
use Rattle.verifier.specs.declared.fault.FaultKind.TheVariants as kind
use Rattle.verifier.specs.declared.fault.VerifyErr.{VerifyErr}
use Rattle.verifier.specs.declared.fault.VerifyErr.TheVariants.{BadShape, BadTarget, BadMember, BackJump, NoMemory}
use Rattle.verifier_table.specs.Shapes.{Known}
use Rattle.verifier.specs.Meets.{stands_at}
use Rattle.verifier.specs.Faults.{shape_fault}

-- code that was verified, and the list by which it was
pub record CodeUnder : Type 0 where
  pub code : Code
  pub allow : AllowList

-- code breaks nowhere under a list
pub record IsSound (c : CodeUnder) : Type 0 where
  pub none : shape_fault c.allow c.code ≡ None

-- at each line of the code's functions a frame has so many words at most: its locals, and the operands that stand there
abbrev pub FrameWords : ℕ → CodeUnder → Type 0
FrameWords most c = (k : ℕ) (f : FunCode) (line : ℕ) (kinds : List Slot) → slice_get c.code.functions k ≡ Some f → line < length f.lines
    → stands_at c.allow c.code.functions f line ≡ Known kinds → length f.params + length f.locals + length kinds ≤ most

-- it is the least such number
abbrev pub LeastWords : ℕ → CodeUnder → Type 0
LeastWords most c = (n : ℕ) → FrameWords n c → most ≤ n

-- a refusal is the fault that there is; want of memory is free
abbrev pub Refuses : VerifyErr → Option (ℕ × FaultKind) → Type 0
Refuses (BadShape line) fault = fault ≡ Some (line, kind.BadShape)
Refuses (BadTarget line) fault = fault ≡ Some (line, kind.BadTarget)
Refuses (BadMember line) fault = fault ≡ Some (line, kind.BadMember)
Refuses (BackJump line) fault = fault ≡ Some (line, kind.BackJump)
Refuses NoMemory fault = Unit {0}
