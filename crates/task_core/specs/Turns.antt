-- What a turn makes of a task.
use Rattle.std.specs.Prelude.{◌≡◌, ℕ, ◌-◌, ◌<◌}
use Rattle.task_core.specs.declared.task.Turn.{Turn}
use Rattle.task_core.specs.declared.task.Turn.TheVariants.{More, Done, NoMemory}

-- A turn of `q` instructions takes them from the rest of a task, or all that are left, and the task comes to what it would have come to.
pub record IsTurn {T E : Type 0} (rest : T → ℕ) (ending : T → E) (q : ℕ) (old new : T) : Type 0 where
  pub lowered : rest new ≡ rest old - q
  pub kept : ending new ≡ ending old

-- The answer says whether instructions are left.
abbrev pub Turns : {T E : Type 0} → (T → ℕ) → (T → E) → ℕ → T → T → Turn → Type 0
Turns rest ending q old new More = IsTurn rest ending q old new × (0 < rest new)
Turns rest ending q old new Done = IsTurn rest ending q old new × (rest new ≡ 0)
Turns rest ending q old new NoMemory = Unit {0}
