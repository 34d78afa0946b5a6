-- What is changed by a run: the store with its room, the ticks that are left, and the members that were reached. The meaning of a
-- script and the meaning of its code share this page and nothing else but what operators, casts and members come to.
use Rattle.std.specs.Prelude.{ℕ, ◌-◌, ◌==◌, ◌++◌, ◌||◌, Bool, true, false, not, List, [], ◌∷◌, Option, None, nat_lt, if◌then◌else◌}
use Rattle.std.specs.List.{list_any}
use Rattle.pl_types.specs.Host.{HostMeaning, no_host}
use Rattle.allowlist.specs.Allow.{AllowList, empty_list}
use Rattle.object_values.specs.declared.object.Owner.{Owner}
use Rattle.object_values.specs.declared.object.Owner.TheVariants.{Script, Prelude}
use Rattle.object_values.specs.declared.value.Value.{Value}
use Rattle.number_ops.specs.Store.{Store}
use Rattle.number_ops.specs.Effects.{Effect, Gives, Throws, NoRoom}

pub record World : Type 0 where
  pub store : Store
  -- calls and turns that may still be paid
  pub ticks : ℕ
  -- the members whose calls stand in the script's own text, in the order of their first paid call
  pub reached : List ℕ

abbrev pub with_store : World → Store → World
with_store w store = record { store = store; ticks = w.ticks; reached = w.reached }

-- what ends a run that is neither a value nor an exception
pub data Limit : Type 0 where
  Loop Depth Ticks Room : Limit

-- What a run stands on.
pub record Ground : Type 0 where
  -- the members that the script's text may call
  pub allowed : AllowList
  -- the members that the prelude's text may call
  pub prelude_allowed : AllowList
  -- what the functions of the host give
  pub host : HostMeaning

-- What a run is bound by and stands on, which stays the same throughout.
pub record Limits : Type 0 where
  -- turns of one frame
  pub loop : ℕ
  -- frames on top of one another
  pub depth : ℕ
  pub ground : Ground

-- What the runs of a script stand on whose text may call these members: the prelude's calls nothing yet, and there is no host.
abbrev pub ground_of : AllowList → Ground
ground_of allow = record { allowed = allow; prelude_allowed = empty_list; host = no_host }

-- the limits of a run that stands on this: turns of a frame, and frames on top of one another
abbrev pub limits_over : ℕ → ℕ → Ground → Limits
limits_over loop depth stands_on = record { loop = loop; depth = depth; ground = stands_on }

-- .. of a script with such a list
abbrev pub limits_for : ℕ → ℕ → AllowList → Limits
limits_for loop depth allow = limits_over loop depth (ground_of allow)

-- the members that a text may call
abbrev pub allowed_in : Limits → Owner → AllowList
allowed_in limits Script = limits.ground.allowed
allowed_in limits Prelude = limits.ground.prelude_allowed

-- the frames of the prelude's text have no limit of turns
abbrev pub has_loop_limit : Owner → Bool
has_loop_limit Script = true
has_loop_limit Prelude = false

-- the byte of the script's text at which an exception or a limit arose, where it is told
abbrev pub Arose : Type 0
Arose = Option ℕ

-- where something arises whose place is not told
abbrev pub not_told : Arose
not_told = None

-- How a run ends: with a result, with an exception by its number, or at a limit; the latter two with the place at which they arose.
-- Results are values in the meaning of a script, and words in the meaning of its code.
pub data End (A : Type 0) : Type 0 where
  Result : (result : A) (w : World) → End A
  Uncaught : (id : ℕ) (place : Arose) (w : World) → End A
  Limited : (limit : Limit) (place : Arose) (w : World) → End A

-- what comes of an operation on the store, in a world
pub data Outcome (A : Type 0) : Type 0 where
  Given : (a : A) (w : World) → Outcome A
  Raised : (id : ℕ) (w : World) → Outcome A
  Full : Outcome A

-- the effect of an operator, a cast or a member, in the world in which it acts
unfoldable pub acts_in : World → Effect → Outcome Value
acts_in w (Gives value store) = Given value (with_store w store)
acts_in w (Throws id store) = Raised id (with_store w store)
acts_in w NoRoom = Full

-- a call or a turn that is counted: the world behind it, or the limit that it would pass
pub data Counted : Type 0 where
  Counts : (w : World) → Counted
  Passes : (limit : Limit) (w : World) → Counted

unfoldable pub pay_tick : World → Counted
pay_tick w = if nat_lt 0 w.ticks then Counts (record { store = w.store; ticks = w.ticks - 1; reached = w.reached }) else Passes Ticks w

-- A turn of a frame that has had so many, with a limit of turns or without: that limit is tried before the ticks.
unfoldable pub take_turn : Limits → Bool → ℕ → World → Counted
take_turn limits limited turns w = if not limited || nat_lt turns limits.loop then pay_tick w else Passes Loop w

unfoldable pub goes_deeper : Counted → Limits → ℕ → Counted
goes_deeper (Counts w) limits depth = if nat_lt depth limits.depth then Counts w else Passes Depth w
goes_deeper (Passes limit w) limits depth = Passes limit w

-- A call from a frame at this depth: the ticks are tried before the depth.
unfoldable pub enter : Limits → ℕ → World → Counted
enter limits depth w = goes_deeper (pay_tick w) limits depth

-- a member is reached once
unfoldable pub reach : ℕ → World → World
reach number w =
    record { store = w.store; ticks = w.ticks; reached = if list_any (λ n. n == number) w.reached then w.reached else w.reached ++ number ∷ [] }

unfoldable pub reaches : ℕ → Counted → Counted
reaches number (Counts w) = Counts (reach number w)
reaches number (Passes limit w) = Passes limit w

-- A call of a member that a text wrote: it pays its tick, and then the member is reached, where the text is the script's.
unfoldable pub pay_member : Owner → ℕ → World → Counted
pay_member Script number w = reaches number (pay_tick w)
pay_member Prelude number w = pay_tick w
