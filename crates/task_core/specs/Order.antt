-- In which order tasks take turns.
use Rattle.std.specs.Prelude.{◌≡◌, ℕ, zero, suc, ◌+◌, ◌-◌, ◌<◌, List, [], ◌∷◌, ◌++◌, length, map, min, get_or, set, Bool, true, ◌==◌}
use Rattle.std.specs.List.{list_all}
use Rattle.task_core.specs.Turns.{IsTurn}

-- Each entry is the place of a task.
abbrev pub IsOrder : ℕ → List ℕ → Type 0
IsOrder tasks [] = Unit {0}
IsOrder tasks (entry ∷ entries) = (entry < tasks) × IsOrder tasks entries

-- A turn in an order: whose it is, and how many instructions it takes.
pub record Taken : Type 0 where
  pub task : ℕ
  pub count : ℕ

-- The turn of a task with this rest: up to `q` instructions, and none where it is done.
abbrev pub turn_of : ℕ → ℕ → ℕ → List Taken
turn_of q task zero = []
turn_of q task (suc rest) = record { task = task; count = min q (suc rest) } ∷ []

-- What is left of each task's rest after a turn of this one.
abbrev pub lowered : ℕ → ℕ → List ℕ → List ℕ
lowered q task rests = set rests task (get_or rests task 0 - q)

-- The turns that these entries give, each to its task.
abbrev pub turns : ℕ → List ℕ → List ℕ → List Taken
turns q [] rests = []
turns q (task ∷ entries) rests = turn_of q task (get_or rests task 0) ++ turns q entries (lowered q task rests)

-- What is left of each task's rest behind the turns of these entries.
abbrev pub left : ℕ → List ℕ → List ℕ → List ℕ
left q [] rests = rests
left q (task ∷ entries) rests = left q entries (lowered q task rests)

-- So many tasks from this one on.
abbrev pub tasks_from : ℕ → ℕ → List ℕ
tasks_from task zero = []
tasks_from task (suc more) = task ∷ tasks_from (task + 1) more

-- So many rounds, in each of which every task has its turn, from the first on.
abbrev pub rounds : ℕ → ℕ → List ℕ
rounds zero tasks = []
rounds (suc more) tasks = tasks_from 0 tasks ++ rounds more tasks

-- How many instructions are left in all.
abbrev pub total : List ℕ → ℕ
total [] = 0
total (rest ∷ rests) = rest + total rests

-- First each entry of an order gives its task a turn; then the tasks take turns, round for round, until none has anything
-- left, which is so after as many rounds as there were instructions, if not before.
abbrev pub ordered : ℕ → List ℕ → List ℕ → List Taken
ordered q order rests = turns q (order ++ rounds (total rests) (length rests)) rests

-- These turns were taken, one behind the other, and led from these tasks to those. A turn changes its own task alone.
abbrev pub Ran : {T E : Type 0} → (T → ℕ) → (T → E) → ℕ → List Taken → List T → List T → Type 0
Ran rest ending q [] old new = new ≡ old
Ran {T} rest ending q (one ∷ more) old new =
    (front : List T) × (before : T) × (behind : List T) × (after : T)
    × (old ≡ front ++ before ∷ behind) × (length front ≡ one.task)
    × IsTurn rest ending q before after × (one.count ≡ rest before - rest after)
    × Ran rest ending q more (front ++ after ∷ behind) new

-- These entries gave their turns.
pub record Went {T E : Type 0} (rest : T → ℕ) (ending : T → E) (q : ℕ) (entries : List ℕ) (old new : List T) : Type 0 where
  pub ran : Ran rest ending q (turns q entries (map rest old)) old new
  pub rests : map rest new ≡ left q entries (map rest old)

-- Whether no task has an instruction left.
abbrev pub all_done : {T : Type 0} → (T → ℕ) → List T → Bool
all_done rest = list_all (λ task. rest task == 0)

-- Each task has ended, as it would have alone.
pub record AllEnd {T E : Type 0} (rest : T → ℕ) (ending : T → E) (old new : List T) : Type 0 where
  pub done : all_done rest new ≡ true
  pub kept : map ending new ≡ map ending old
