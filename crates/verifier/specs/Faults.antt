-- Where code breaks first.
use Rattle.std.specs.Prelude.{ℕ, zero, suc, ◌+◌, ◌==◌, ◌||◌, not, Bool, true, false, List, [], ◌∷◌, Option, Some, None, if◌then◌else◌, nat_lt, length, slice_get, option_map}
use Rattle.pl_code.specs.declared.kinds.Slot.{Slot}
use Rattle.pl_code.specs.declared.code.FunCode.{FunCode}
use Rattle.pl_code.specs.declared.code.Trap.{Trap}
use Rattle.pl_code.specs.declared.code.Code.{Code}
use Rattle.pl_code.specs.declared.code.Instruction.{Instruction}
use Rattle.pl_code.specs.Reading.{told}
use Rattle.allowlist.specs.Allow.{AllowList}
use Rattle.instruction_types.specs.declared.flow.Flow.{Flow}
use Rattle.instruction_types.specs.declared.flow.Flow.TheVariants as flow
use Rattle.instruction_types.specs.Effects.{flow_of}
use Rattle.instruction_types.specs.Faults.{is_bad_target, is_bad_member, is_bad_jump, is_bad_trap_target, is_bad_trap_class, is_bad_trap_order}
use Rattle.verifier_table.specs.Shapes.{Meeting}
use Rattle.verifier.specs.declared.fault.FaultKind.{FaultKind}
use Rattle.verifier.specs.declared.fault.FaultKind.TheVariants.{BadShape, BadTarget, BadMember, BackJump}
use Rattle.verifier.specs.Meets.{left_at, stands_at}

-- At one line a target comes first, then a member, then a jump, then the shape.
abbrev pub fault_of : Bool → Bool → Bool → Bool → Option FaultKind
fault_of target member jump shape =
    if target then Some BadTarget else (if member then Some BadMember else (if jump then Some BackJump else (if shape then Some BadShape else None)))

-- whether an instruction may go on at the next line
abbrev pub falls : Flow → Bool
falls flow.GoesOn = true
falls (flow.Jumps target) = false
falls (flow.Branches target) = true
falls (flow.Turns target) = true
falls flow.Ends = false

-- an instruction fits where it leaves something, and has a next line where it needs one
abbrev pub has_shape : ℕ → ℕ → Flow → Option (List Slot) → Bool
has_shape count line way None = false
has_shape count line way (Some left) = not (falls way) || nat_lt (line + 1) count

-- the fault of an instruction at a line at which this stands
unfoldable pub instruction_fault : AllowList → List FunCode → FunCode → ℕ → Instruction → Meeting → Option FaultKind
instruction_fault allow functions f line i m =
    fault_of (is_bad_target functions f i) (is_bad_member allow i) (is_bad_jump line i) (not (has_shape (length f.lines) line (flow_of i) (left_at allow functions f i m)))

abbrev pub fault_in : AllowList → List FunCode → FunCode → ℕ → Option Instruction → Option FaultKind
fault_in allow functions f line None = None
fault_in allow functions f line (Some i) = instruction_fault allow functions f line i (stands_at allow functions f line)

unfoldable pub line_fault : AllowList → List FunCode → FunCode → ℕ → Option FaultKind
line_fault allow functions f line = fault_in allow functions f line (slice_get f.lines line)

-- the fault of a trap of a function with so many instructions
unfoldable pub trap_fault : ℕ → Trap → Option FaultKind
trap_fault count t = fault_of (is_bad_trap_target count t) (is_bad_trap_class t) (is_bad_trap_order t) false

-- ---- the first

abbrev pub found : ℕ → Option FaultKind → Option (ℕ × FaultKind) → Option (ℕ × FaultKind)
found n None others = others
found n (Some kind) others = Some (n, kind)

-- the first of so many from one on
abbrev pub first_from : (ℕ → Option FaultKind) → ℕ → ℕ → Option (ℕ × FaultKind)
first_from fault n zero = None
first_from fault n (suc count) = found n (fault n) (first_from fault (suc n) count)

unfoldable pub lines_fault : AllowList → List FunCode → FunCode → Option (ℕ × FaultKind)
lines_fault allow functions f = first_from (line_fault allow functions f) 0 (length f.lines)

abbrev pub traps_fault : ℕ → ℕ → List Trap → Option (ℕ × FaultKind)
traps_fault count n [] = None
traps_fault count n (t ∷ traps) = found n (trap_fault count t) (traps_fault count (suc n) traps)

-- the same so many lines further on
abbrev pub behind : ℕ → Option (ℕ × FaultKind) → Option (ℕ × FaultKind)
behind n None = None
behind n (Some p) = Some (n + p.0, p.1)

abbrev pub or_next : Option (ℕ × FaultKind) → Option (ℕ × FaultKind) → Option (ℕ × FaultKind)
or_next None next = next
or_next (Some p) next = Some p

-- The first fault of a function, in lines from its own `fun` on: then come its traps, and then its instructions.
unfoldable pub function_fault : AllowList → List FunCode → FunCode → Option (ℕ × FaultKind)
function_fault allow functions f =
    if length f.lines == 0 then Some (0, BadShape)
    else or_next (behind 1 (traps_fault (length f.lines) 0 f.traps)) (behind (1 + length f.traps) (lines_fault allow functions f))

-- the lines of a function: `fun`, its traps, its instructions, `end`
abbrev pub line_count : FunCode → ℕ
line_count f = 2 + length f.traps + length f.lines

abbrev pub functions_fault : AllowList → List FunCode → ℕ → List FunCode → Option (ℕ × FaultKind)
functions_fault allow functions n [] = None
functions_fault allow functions n (f ∷ fs) = or_next (behind n (function_fault allow functions f)) (functions_fault allow functions (n + line_count f) fs)

-- code has a function 0
abbrev pub code_fault : AllowList → List FunCode → Option (ℕ × FaultKind)
code_fault allow [] = Some (1, BadTarget)
code_fault allow (f ∷ fs) = functions_fault allow (f ∷ fs) 2 (f ∷ fs)

-- a number of a line as it is told
abbrev pub told_fault : ℕ × FaultKind → ℕ × FaultKind
told_fault p = (told p.0, p.1)

-- The first line of a code's listing, counted from 1, at which the code breaks, and what breaks there.
unfoldable pub shape_fault : AllowList → Code → Option (ℕ × FaultKind)
shape_fault allow code = option_map told_fault (code_fault allow code.functions)
