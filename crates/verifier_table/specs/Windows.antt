-- Kinds by 31, told by a number.
use Rattle.std.specs.Prelude.{◌≡◌, ℕ, ◌+◌, ◌*◌, ◌<◌, ◌≤◌, List, [], ◌∷◌, Option, Some, None, length, take, drop, slice_index_or}
use Rattle.pl_code.specs.declared.kinds.Slot.{Slot}
use Rattle.pl_code.specs.declared.kinds.Slot.TheVariants.{I, J, R}
use Rattle.verifier_table.specs.Nodes.{stack_at}

abbrev pub digit : Slot → ℕ
digit I = 1
digit J = 2
digit R = 3

-- The number of kinds: a digit for each, the top's the lowest. No two lists have one number.
abbrev pub numeral_of : List Slot → ℕ
numeral_of [] = 0
numeral_of (k ∷ ks) = digit k + 4 * numeral_of ks

-- whether the top 31 kinds of the stack at a place have a number: the place of what lies below them
abbrev pub HasWindow : List (List Slot) → ℕ → ℕ → Option ℕ → Type 0
HasWindow stacks at window None = ¬ (numeral_of (take 31 (stack_at stacks at)) ≡ window)
HasWindow stacks at window (Some under) = (under < length stacks) × (numeral_of (take 31 (stack_at stacks at)) ≡ window) × (stack_at stacks under ≡ drop 31 (stack_at stacks at))

-- The windows of kinds that are taken, from the top down: each has the number of the 31 kinds behind those of the ones before it.
pub record HasWindows (kinds : List Slot) (windows : List ℕ) : Type 0 where
  pub few : 31 * length windows ≤ length kinds
  pub each : (i : ℕ) → i < length windows → slice_index_or windows i 0 ≡ numeral_of (take 31 (drop (31 * i) kinds))
