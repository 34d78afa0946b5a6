-- What is done with a table.
use Rattle.std.specs.Prelude.{◌≡◌, ℕ, ◌<◌, Bool, List, [], ◌∷◌, Option, Some, None, if◌then◌else◌, length, slice_index_or}
use Rattle.pl_code.specs.declared.kinds.Slot.{Slot}
use Rattle.pl_code.specs.declared.kinds.Slot.TheVariants.{R}
use Rattle.pl_code.specs.declared.code.FunCode.{FunCode}
use Rattle.pl_code.specs.declared.code.Trap.{Trap}
use Rattle.pl_code.specs.declared.code.Instruction.{Instruction}
use Rattle.allowlist.specs.Allow.{AllowList}
use Rattle.verifier_table.specs.Shapes.{Meeting, Nowhere, Table}
use Rattle.verifier.specs.Meets.{met_if, passed, caught_at, turned_at, starts}

-- A stack came to what is left, where something is, and the lines stayed.
pub record Does (old new : Table) (fits : Bool) (left : Option (List Slot)) : Type 0 where
  pub stack : (if fits then Some new.stack else None) ≡ left
  pub lines : new.lines ≡ old.lines

-- there are no two on a stack
abbrev pub HasNoTwo : List Slot → Type 0
HasNoTwo [] = Unit {0}
HasNoTwo (x ∷ []) = Unit {0}
HasNoTwo (x ∷ y ∷ stack) = ⊥

-- what stands at a line of a table
abbrev pub at_line : Table → ℕ → Meeting
at_line t line = slice_index_or t.lines line Nowhere

-- the stack leads to the lines that pass a test
pub record MergesInto (old new : Table) (test : ℕ → Bool) : Type 0 where
  pub stack : new.stack ≡ old.stack
  pub same : length new.lines ≡ length old.lines
  pub each : (to : ℕ) → to < length old.lines → at_line new to ≡ met_if (test to) old.stack (at_line old to)

-- a line leads on from a table
pub record PassesOn (allow : AllowList) (functions : List FunCode) (f : FunCode) (line : ℕ) (instruction : Option Instruction) (old new : Table) : Type 0 where
  pub same : length new.lines ≡ length old.lines
  pub each : (to : ℕ) → to < length old.lines → at_line new to ≡ passed allow functions f line instruction (at_line old line) to (at_line old to)

-- the stack, a reference, leads to the lines where traps go on
pub record Caught (traps : List Trap) (old new : Table) : Type 0 where
  pub stack : new.stack ≡ old.stack
  pub same : length new.lines ≡ length old.lines
  pub each : (to : ℕ) → to < length old.lines → old.stack ≡ R ∷ [] → at_line new to ≡ caught_at to (at_line old to) traps

-- the empty stack leads to the lines to which loops turn back
pub record Turned (lines : List Instruction) (old new : Table) : Type 0 where
  pub stack : new.stack ≡ old.stack
  pub same : length new.lines ≡ length old.lines
  pub each : (to : ℕ) → to < length old.lines → old.stack ≡ [] → at_line new to ≡ turned_at to (at_line old to) lines

-- a table has what stands at the lines of a function whatever comes before them
pub record Begins (f : FunCode) (t : Table) : Type 0 where
  pub count : length t.lines ≡ length f.lines
  pub each : (to : ℕ) → to < length f.lines → at_line t to ≡ starts f to
