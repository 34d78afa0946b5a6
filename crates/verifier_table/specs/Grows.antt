-- What is done with stacks.
use Rattle.std.specs.Prelude.{◌≡◌, ℕ, ◌<◌, List, [], ◌∷◌, Option, Some, None, length}
use Rattle.pl_code.specs.declared.kinds.Slot.{Slot}
use Rattle.verifier_table.specs.Nodes.{stack_at}

-- the stack at a place is this one, and every stack that was there is where it was
pub record Grows (old new : List (List Slot)) (at : ℕ) (kinds : List Slot) : Type 0 where
  pub within : at < length new
  pub is : stack_at new at ≡ kinds
  pub longer : (k : ℕ) → k < length old → k < length new
  pub kept : (k : ℕ) → k < length old → stack_at new k ≡ stack_at old k

-- the top of the stack at a place, and the place of what lies below
abbrev pub HasTop : List (List Slot) → ℕ → Option (Slot × ℕ) → Type 0
HasTop stacks at None = stack_at stacks at ≡ []
HasTop stacks at (Some p) = (p.1 < length stacks) × (stack_at stacks at ≡ p.0 ∷ stack_at stacks p.1)
