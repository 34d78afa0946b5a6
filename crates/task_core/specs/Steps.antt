-- What turns of tasks make of the tasks, of what they share and of what runs them.
use Rattle.std.specs.Prelude.{◌≡◌, ℕ, ◌<◌, ◌⊎◌, true, List, [], ◌∷◌, ◌++◌, length, map, get_or}
use Rattle.task_core.specs.declared.task.Turn.{Turn}
use Rattle.task_core.specs.declared.task.Turn.TheVariants.{More, Done, NoMemory}
use Rattle.task_core.specs.Order.{rounds, all_done}

-- Where steps stand: a task or the list of them all, what the tasks share, and what runs them.
pub record State (X S R : Type 0) : Type 0 where
  pub tasks : X
  pub shared : S
  pub runner : R

abbrev pub over : {X S R : Type 0} → X → S → R → State X S R
over tasks shared runner = record { tasks = tasks; shared = shared; runner = runner }

-- ---- a step of one task

-- A step of a task, which lowers what is left of it.
pub record IsStep {T S R : Type 0} (rest : T → ℕ) (step : State T S R → State T S R → Type 0) (old new : State T S R) : Type 0 where
  pub taken : step old new
  pub lower : rest new.tasks < rest old.tasks

-- The answer to a turn says whether more is left. Want of memory is free.
abbrev pub Steps : {T S R : Type 0} → (T → ℕ) → (State T S R → State T S R → Type 0) → State T S R → State T S R → Turn → Type 0
Steps rest step old new More = IsStep rest step old new × (0 < rest new.tasks)
Steps rest step old new Done = IsStep rest step old new × (rest new.tasks ≡ 0)
Steps rest step old new NoMemory = Unit {0}

-- ---- turns in an order

-- What is left of the task of a place: nothing where there is no such task.
abbrev pub left_at : {T : Type 0} → (T → ℕ) → ℕ → List T → ℕ
left_at rest place tasks = get_or (map rest tasks) place 0

-- The task of a place takes a step. The other tasks stay as they are.
pub record StepsAt {T S R : Type 0} (rest : T → ℕ) (step : State T S R → State T S R → Type 0) (place : ℕ) (old new : State (List T) S R) : Type 0 where
  pub front : List T
  pub before : T
  pub behind : List T
  pub after : T
  pub found : old.tasks ≡ front ++ before ∷ behind
  pub stands : length front ≡ place
  pub taken : IsStep rest step (over before old.shared old.runner) (over after new.shared new.runner)
  pub left : new.tasks ≡ front ++ after ∷ behind

-- A turn of a place: its task takes a step, and nothing is done where nothing is left of it or where there is no such task.
abbrev pub HasTurn : {T S R : Type 0} → (T → ℕ) → (State T S R → State T S R → Type 0) → ℕ → State (List T) S R → State (List T) S R → Type 0
HasTurn rest step place old new = ((left_at rest place old.tasks ≡ 0) × (new ≡ old)) ⊎ StepsAt rest step place old new

-- The turns of these places, one behind the other.
abbrev pub HaveTurns : {T S R : Type 0} → (T → ℕ) → (State T S R → State T S R → Type 0) → List ℕ → State (List T) S R → State (List T) S R → Type 0
HaveTurns rest step [] old new = new ≡ old
HaveTurns {T} {S} {R} rest step (place ∷ places) old new = (mid : State (List T) S R) × HasTurn rest step place old mid × HaveTurns rest step places mid new

-- First each entry of an order gives the task of its place a turn; then the tasks take turns, round for round, until nothing
-- is left of any. Rounds behind that change nothing, so it does not matter how many are counted.
pub record AllStep {T S R : Type 0} (rest : T → ℕ) (step : State T S R → State T S R → Type 0) (order : List ℕ) (old new : State (List T) S R) : Type 0 where
  pub count : ℕ
  pub turns : HaveTurns rest step (order ++ rounds count (length old.tasks)) old new
  pub done : all_done rest new.tasks ≡ true
