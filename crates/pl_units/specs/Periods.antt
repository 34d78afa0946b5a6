-- The periods of a text's beginnings, which say how far a search may skip.
use Rattle.std.specs.Prelude.{◌≡◌, ℕ, ◌+◌, ◌-◌, ◌*◌, ◌<◌, ◌≤◌, List, length, slice_index}
use Rattle.pl_units.specs.declared.direction.Direction.{Direction}
use Rattle.pl_units.specs.declared.direction.Direction.TheVariants.{Forward, Backward}
use Rattle.pl_units.specs.declared.periods.PeriodTable.{PeriodTable}

-- the unit with a number, counted from 0 at one end of a text
unfoldable pub unit_of : Direction → List ℕ → ℕ → ℕ
unit_of Forward text number = slice_index text number
unit_of Backward text number = slice_index text (length text - 1 - number)

-- the first units of one text, `count` of them, are those of the other from a place on
abbrev pub Agree : (ℕ → ℕ) → (ℕ → ℕ) → ℕ → ℕ → Type 0
Agree x t place count = (i : ℕ) → i < count → x i ≡ t (place + i)

-- each of the first `count` units is the one a period after it, as far as that is one of them too
pub record IsPeriod (x : ℕ → ℕ) (count period : ℕ) : Type 0 where
  pub positive : 0 < period
  pub repeats : (i : ℕ) → i + period < count → x i ≡ x (i + period)

pub record IsLeastPeriod (x : ℕ → ℕ) (count period : ℕ) : Type 0 where
  pub is : IsPeriod x count period
  pub least : (other : ℕ) → other < period → ¬ IsPeriod x count other

-- the rows fit the table, and their periods rise
pub record IsTable (table : PeriodTable) : Type 0 where
  pub in_range : table.count ≤ 64
  pub rising : (row later : ℕ) → row < later → later < table.count
      → slice_index table.periods row < slice_index table.periods later

-- each row's period is below a bound
abbrev pub AreRowsBelow : PeriodTable → ℕ → Type 0
AreRowsBelow table bound = (row : ℕ) → row < table.count → slice_index table.periods row < bound

-- each row has a period up to its end
abbrev pub ArePeriods : (ℕ → ℕ) → PeriodTable → Type 0
ArePeriods x table = (row : ℕ) → row < table.count → IsPeriod x (slice_index table.ends row) (slice_index table.periods row)

-- a row whose period is at most this one, and at most a third of the first `count` units, and which reaches to their end
pub record Covers (table : PeriodTable) (count period : ℕ) : Type 0 where
  pub row : ℕ
  pub in_range : row < table.count
  pub at_most : slice_index table.periods row ≤ period
  pub third : 3 * slice_index table.periods row ≤ count
  pub reaches : count ≤ slice_index table.ends row

-- a row for each period of the first `count` units that is at most a third of them
abbrev pub CoversUpTo : (ℕ → ℕ) → PeriodTable → ℕ → Type 0
CoversUpTo x table count = (period : ℕ) → IsPeriod x count period → 3 * period ≤ count → Covers table count period

-- the same for each beginning of at most `length` units
abbrev pub CoversAll : (ℕ → ℕ) → PeriodTable → ℕ → Type 0
CoversAll x table length = (count : ℕ) → count ≤ length → CoversUpTo x table count

-- a table and what it becomes when a period is added that has been seen up to its end
pub record IsExtended (old : PeriodTable) (period end : ℕ) (new : PeriodTable) : Type 0 where
  pub is_table : IsTable new
  pub below : AreRowsBelow new (period + 1)
  pub kept : (count other : ℕ) → Covers old count other → Covers new count other
  pub covers : (count other : ℕ) → period ≤ other → 3 * period ≤ count → count ≤ end → Covers new count other
  pub sound : (x : ℕ → ℕ) → ArePeriods x old → IsPeriod x end period → ArePeriods x new

-- how far a search may go on where the first `matched` units match: by no more than their least period, so that no place
-- between can match; and the `known` units that match at the new place
pub record IsSkip (x : ℕ → ℕ) (matched by known : ℕ) : Type 0 where
  pub positive : 0 < by
  pub within : known + by ≤ matched + 1
  pub kept : (i : ℕ) → i < known → (i + by < matched) × (x i ≡ x (i + by))
  pub least : (other : ℕ) → other < by → ¬ IsPeriod x matched other

-- a table that a search for a text of this length may go by
pub record IsTableOf (x : ℕ → ℕ) (length : ℕ) (table : PeriodTable) : Type 0 where
  pub is_table : IsTable table
  pub sound : ArePeriods x table
  pub covers : CoversAll x table length

-- the part stands in the text at a place that is counted from one end, with its units counted from that end too
pub record Matches (direction : Direction) (text part : List ℕ) (place : ℕ) : Type 0 where
  pub room : place + length part ≤ length text
  pub agree : Agree (unit_of direction part) (unit_of direction text) place (length part)

pub record IsFirstMatch (direction : Direction) (text part : List ℕ) (from place : ℕ) : Type 0 where
  pub from_there : from ≤ place
  pub matches : Matches direction text part place
  pub least : (earlier : ℕ) → from ≤ earlier → earlier < place → ¬ Matches direction text part earlier
