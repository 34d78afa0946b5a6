-- The table has a row for each period below the place, and what is known to match there does.
use Rattle.std.proofs.Common.{◌+◌, ◌-◌, ◌<◌, ◌≤◌, length}
use Rattle.pl_units.specs.Periods.{unit_of, Agree, IsTable, AreRowsBelow, ArePeriods}
use Rattle.pl_units.proofs.PeriodLemmas.{CoversBelow}
use Rattle.pl_units.proofs.periods.table_of.Given as goal

abbrev pub invariant-loop-place : goal.invariant-loop-place
invariant-loop-place l = record {
  positive : 0 < l.place;
  within : 0 < l.known → l.place + l.known ≤ length l.part;
  agree : Agree (unit_of l.direction l.part) (unit_of l.direction l.part) l.place l.known;
  is_table : IsTable l.table;
  below : AreRowsBelow l.table l.place;
  sound : ArePeriods (unit_of l.direction l.part) l.table;
  covers : CoversBelow (unit_of l.direction l.part) l.table (length l.part) l.place;
}

abbrev pub decreases-loop-place : goal.decreases-loop-place
decreases-loop-place l = length l.part - l.place
