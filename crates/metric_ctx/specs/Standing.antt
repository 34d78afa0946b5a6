-- Where a shard stands, and what is left of it from there.
use Rattle.std.specs.Prelude.{◌≡◌, ◌≤◌, ◌<◌, ℕ, ◌+◌, max, Bool, true, false, List, length, Option, Some, None}
use Rattle.object_heap.specs.declared.outcome.Outcome.{Outcome}
use Rattle.metric_ctx.specs.declared.phase.Phase.{Phase}
use Rattle.metric_ctx.specs.declared.phase.Phase.TheVariants as p
use Rattle.metric_ctx.specs.declared.standing.Standing as held
use Rattle.metric_ctx.specs.declared.standing.Standing.TheVariants as s
use Rattle.metric_ctx.specs.declared.standing.Went.{Went}
use Rattle.metric_ctx.specs.declared.standing.Went.TheVariants as w
use Rattle.metric_ctx.specs.Scripts.{Came, Comes}
use Rattle.metric_ctx.specs.Shards.{Doc, Ground, behind_phase, joined, none_left}

-- A shard stands in a run of a script, with what is left of that run; or it has ended; or memory ran out.
pub data Standing : Type 0 where
  runs : (phase : Phase) (run : Came) → Standing
  ended : (o : Outcome) → Standing
  lost : Standing

-- the same of the code, by the meanings of its runs
abbrev pub standing_by : {R : Type 0} → (R → ℕ) → (R → Option Outcome) → held.Standing R → Standing
standing_by rest ending (s.Runs phase run) = runs phase (record { count = rest run; left = ending run })
standing_by rest ending (s.Ended o) = ended o
standing_by rest ending s.Lost = lost

-- what is left of a shard that stands so, with these documents still to be mapped, behind so many instructions
abbrev pub came : Comes → Ground → List Doc → ℕ → Standing → Came
came comes on docs steps (runs phase run) = joined run (behind_phase comes on docs steps phase)
came comes on docs steps (ended o) = none_left (Some o)
came comes on docs steps lost = none_left None

-- ---- places on the way

abbrev pub has_ended : Standing → Bool
has_ended (runs phase run) = false
has_ended (ended o) = true
has_ended lost = false

-- how many runs are to be ended behind one of this script
abbrev pub runs_behind : List Doc → Phase → ℕ
runs_behind docs p.Init = length docs + 1
runs_behind docs p.Map = length docs + 1
runs_behind docs p.Combine = 0

abbrev pub runs_left : List Doc → Standing → ℕ
runs_left docs (runs phase run) = runs_behind docs phase + 1
runs_left docs (ended o) = 0
runs_left docs lost = 0

-- Where a shard is: how it stands, what is left of it, and how many runs are to be ended.
pub record Place : Type 0 where
  pub at : Standing
  pub came : Came
  pub runs : ℕ

abbrev pub place : Comes → Ground → List Doc → ℕ → Standing → Place
place comes on docs steps standing = record { at = standing; came = came comes on docs steps standing; runs = runs_left docs standing }

-- How many instructions are left. A shard that has not ended has one left at least; after want of memory it never ends.
abbrev pub rest_at : Standing → ℕ → ℕ
rest_at (runs phase run) count = max 1 count
rest_at (ended o) count = 0
rest_at lost count = 1

abbrev pub rest_in : Place → ℕ
rest_in at = rest_at at.at at.came.count

-- what it comes to when it is run alone
abbrev pub ending_in : Place → Option Outcome
ending_in at = at.came.left

-- ---- moves of the code

-- This is what is left, and so many runs at most are to be ended.
pub record Reaches (at : Place) (wanted : Came) (most : ℕ) : Type 0 where
  pub is : at.came ≡ wanted
  pub few : at.runs ≤ most

-- A move with so many instructions, of which these are left over, takes the others, and changes nothing in what the shard comes to.
pub record Moves (q left : ℕ) (old new : Place) : Type 0 where
  pub counted : old.came.count + left ≡ new.came.count + q
  pub kept : new.came.left ≡ old.came.left

-- With so many instructions a run takes all of them and goes on; or it ends, and the next one begins; or the shard has ended. Want of memory
-- is free.
abbrev pub Goes : ℕ → Place → Place → Went → Type 0
Goes q old new w.More = Moves q 0 old new × (0 < new.came.count)
Goes q old new (w.Next left) = Moves q left old new × (left ≤ q) × (new.runs < old.runs)
Goes q old new w.Done = (old.came.count ≤ q) × (ending_in new ≡ ending_in old) × (has_ended new.at ≡ true)
Goes q old new w.NoMemory = Unit {0}
