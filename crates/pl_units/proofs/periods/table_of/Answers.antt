use Rattle.std.proofs.Common.{rules, ◌+◌, ◌≤◌, length, arith}
use Rattle.pl_units.specs.Periods.{unit_of, ArePeriods, IsSkip}
use Rattle.pl_units.proofs.PeriodLemmas.{CoversBelow, agree_after, covers_all_at_end, covers_here, covers_place, covers_skipped, period_of_place}
use Rattle.pl_units.proofs.periods.table_of.Goals as goal
use Rattle.pl_units.proofs.periods.table_of.Goals.{After-skip-skip, In_ok-table}

-- what the table is after this place
covers_after : (c : In_ok-table) → CoversBelow (unit_of c.args.direction c.args.part.now) c.in_ok-table.table (length c.args.part.now) (c.loop-place.place + 1)
covers_after c =
    covers_place (unit_of c.args.direction c.args.part.now) (length c.args.part.now) c.loop-place.place c.matched-count.result
    c.loop-place.table c.in_ok-table.table c.matched-count.ensures.in_text
    (λ before. c.matched-count.ensures.differ (omega arith) before)
    c.in_ok-table.ensures c.loop-place.invariant.covers

sound_after : (c : In_ok-table) → ArePeriods (unit_of c.args.direction c.args.part.now) c.in_ok-table.table
sound_after c =
    c.in_ok-table.ensures.sound (unit_of c.args.direction c.args.part.now) c.loop-place.invariant.sound
    (period_of_place (unit_of c.args.direction c.args.part.now) c.loop-place.place c.matched-count.result c.loop-place.invariant.positive c.matched-count.ensures.agree)

pub returns-then-place-count : goal.returns-then-place-count
returns-then-place-count c = record {
  is_table = c.in_ok-table.ensures.is_table;
  sound = sound_after (goal.at.returns-then-place-count c).In_ok-table;
  covers = covers_all_at_end _ (length c.args.part.now) c.loop-place.place c.matched-count.result c.in_ok-table.table c.loop-place.invariant.positive
      c.if-place-count.true c.matched-count.ensures.agree (covers_after (goal.at.returns-then-place-count c).In_ok-table);
}

-- the skip from this place
skip_after : (c : After-skip-skip) → ArePeriods (unit_of c.args.direction c.args.part.now) c.in_ok-table.table
    → CoversBelow (unit_of c.args.direction c.args.part.now) c.in_ok-table.table (length c.args.part.now) (c.loop-place.place + 1)
    → IsSkip (unit_of c.args.direction c.args.part.now) c.matched-count.result c.skip-skip.result.by c.skip-skip.result.known
skip_after c sound covers =
    let x = unit_of c.args.direction c.args.part.now in
    c.skip-skip.ensures x sound
    (covers_here x (length c.args.part.now) c.loop-place.place c.matched-count.result c.in_ok-table.table c.loop-place.invariant.positive
    c.matched-count.ensures.in_text c.matched-count.ensures.agree covers)

pub overflow_add-place-in-loop-place-2 : goal.overflow_add-place-in-loop-place-2
overflow_add-place-in-loop-place-2 c =
    let before = (goal.at.overflow_add-place-in-loop-place-2 c).In_ok-table in
    let skip = skip_after (goal.at.overflow_add-place-in-loop-place-2 c).After-skip-skip (sound_after before) (covers_after before) in
    let within : c.loop-place.place + c.skip-skip.result.by ≤ length c.args.part.now = omega (arith, skip.within, c.if-place-count.false) in
    search rules

pub loop-place-smaller : goal.loop-place-smaller
loop-place-smaller c =
    let before = (goal.at.loop-place-smaller c).In_ok-table in
    let skip = skip_after (goal.at.loop-place-smaller c).After-skip-skip (sound_after before) (covers_after before) in
    omega (arith, skip.positive, c.loop-place-test.true)

pub loop-place-preserved : goal.loop-place-preserved
loop-place-preserved c =
    let x = unit_of c.args.direction c.args.part.now in
    let before = (goal.at.loop-place-preserved c).In_ok-table in
    let skip = skip_after (goal.at.loop-place-preserved c).After-skip-skip (sound_after before) (covers_after before) in
    record {
      positive = omega arith;
      within = λ some. omega (arith, skip.within, c.if-place-count.false);
      agree = agree_after x x c.loop-place.place c.matched-count.result c.skip-skip.result.by c.skip-skip.result.known c.matched-count.ensures.agree skip;
      is_table = c.in_ok-table.ensures.is_table;
      below = λ row in_range. omega (arith, skip.positive, c.in_ok-table.ensures.below row in_range);
      sound = sound_after before;
      covers = covers_skipped x (length c.args.part.now) c.loop-place.place c.matched-count.result c.skip-skip.result.by c.skip-skip.result.known
          c.in_ok-table.table c.loop-place.invariant.positive c.matched-count.ensures.in_text c.matched-count.ensures.agree
          (covers_after before) skip;
    }
