-- What members come to by the arguments that they have.
use Rattle.std.specs.Prelude.{Option, Some, None}
use Rattle.container_outcomes.specs.declared.outcome.Outcome.{Outcome}
use Rattle.container_outcomes.specs.Outcomes.{null_error}

-- What one argument, two and three come to. Where one of them is null, missing or of another kind a null is thrown
abbrev pub with_one : {A : Type 0} → (A → Outcome) → Option A → Outcome
with_one f None = null_error
with_one f (Some a) = f a

abbrev pub with_two : {A B : Type 0} → (A → B → Outcome) → Option A → Option B → Outcome
with_two f None b = null_error
with_two f (Some a) None = null_error
with_two f (Some a) (Some b) = f a b

abbrev pub with_three : {A B C : Type 0} → (A → B → C → Outcome) → Option A → Option B → Option C → Outcome
with_three f None b c = null_error
with_three f (Some a) None c = null_error
with_three f (Some a) (Some b) None = null_error
with_three f (Some a) (Some b) (Some c) = f a b c
