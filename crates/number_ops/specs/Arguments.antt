-- What members come to by the arguments that they have.
use Rattle.std.specs.Prelude.{Option, Some, None}
use Rattle.number_ops.specs.declared.outcome.Outcome.{Outcome}
use Rattle.number_ops.specs.Outcomes.{null_error}

-- What one argument, and two, come to. Where one of them is missing or of another kind a null is thrown
abbrev pub with_one : {A : Type 0} → (A → Outcome) → Option A → Outcome
with_one f None = null_error
with_one f (Some a) = f a

abbrev pub with_two : {A : Type 0} → (A → A → Outcome) → Option A → Option A → Outcome
with_two f None b = null_error
with_two f (Some a) None = null_error
with_two f (Some a) (Some b) = f a b
