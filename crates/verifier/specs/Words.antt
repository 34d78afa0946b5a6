-- How many words a frame has.
use Rattle.std.specs.Prelude.{◌≡◌, ℕ, ◌+◌, ◌<◌, ◌≤◌, List, Some, length, slice_get}
use Rattle.pl_code.specs.declared.kinds.Slot.{Slot}
use Rattle.pl_code.specs.declared.code.FunCode.{FunCode}
use Rattle.allowlist.specs.Allow.{AllowList}
use Rattle.verifier_table.specs.Shapes.{Known}
use Rattle.verifier.specs.Meets.{stands_at}

-- at each of so many first lines of a function a frame has so many words at most
pub record LineWords (allow : AllowList) (functions : List FunCode) (f : FunCode) (count most : ℕ) : Type 0 where
  pub each : (line : ℕ) (kinds : List Slot) → line < count → stands_at allow functions f line ≡ Known kinds → length f.params + length f.locals + length kinds ≤ most

-- in so many first functions a frame has so many words at most
pub record FunctionWords (allow : AllowList) (functions : List FunCode) (count most : ℕ) : Type 0 where
  pub each : (k : ℕ) (f : FunCode) → k < count → slice_get functions k ≡ Some f → LineWords allow functions f (length f.lines) most

-- a number that only a line of these raised: it is at most each that is so for them and was so before
pub record LeastLines (allow : AllowList) (functions : List FunCode) (f : FunCode) (count before most : ℕ) : Type 0 where
  pub least : (n : ℕ) → before ≤ n → LineWords allow functions f count n → most ≤ n

-- the same of functions
pub record LeastFunctions (allow : AllowList) (functions : List FunCode) (count before most : ℕ) : Type 0 where
  pub least : (n : ℕ) → before ≤ n → FunctionWords allow functions count n → most ≤ n
