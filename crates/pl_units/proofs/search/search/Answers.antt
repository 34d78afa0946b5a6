use Rattle.std.proofs.Common.{◌+◌, ◌<◌, ◌≤◌, inl, inr, length, arith}
use Rattle.std.proofs.lemmas.Bool.{cases_lt}
use Rattle.pl_units.specs.Periods.{unit_of, IsSkip}
use Rattle.pl_units.proofs.PeriodLemmas.{agree_after, skipped_none}
use Rattle.pl_units.proofs.search.search.Goals as goal

pub matched-count-requires-clause-in_text : goal.matched-count-requires-clause-in_text
matched-count-requires-clause-in_text c =
    let room : c.loop-place.place + length c.args.part.now ≤ length c.args.text.now = (c.place_count-places.ensures c.loop-place.place).0 c.loop-place-test.true in
    omega arith

pub loop-place-preserved : goal.loop-place-preserved
loop-place-preserved c =
    let room : c.loop-place.place + length c.args.part.now ≤ length c.args.text.now = (c.place_count-places.ensures c.loop-place.place).0 c.loop-place-test.true in
    let x = unit_of c.args.direction c.args.part.now in
    let short : c.matched-count.result < length c.args.part.now = omega arith in
    let skip : IsSkip x c.matched-count.result c.skip-skip.result.by c.skip-skip.result.known =
    c.skip-skip.ensures x c.requires.sound (c.requires.covers c.matched-count.result (omega arith)) in
    let within = skip.within in
    let positive = skip.positive in
    record {
      from_there = omega arith;
      in_part = omega arith;
      agree = agree_after x (unit_of c.args.direction c.args.text.now) c.loop-place.place c.matched-count.result c.skip-skip.result.by c.skip-skip.result.known
          c.matched-count.ensures.agree skip;
      none = λ earlier after before matches. elim (cases_lt earlier c.loop-place.place) [
        | inl passed ↦ c.loop-place.invariant.none earlier after passed matches
        | inr here ↦ skipped_none c.args.direction c.args.text.now c.args.part.now c.loop-place.place c.matched-count.result
            c.skip-skip.result.by c.skip-skip.result.known c.matched-count.ensures.agree skip short
            (c.matched-count.ensures.differ short (omega arith)) earlier here before matches
      ];
    }

pub returns-clause-none : goal.returns-clause-none
returns-clause-none c = λ place after matches.
    let within : place < c.place_count-places.result = (c.place_count-places.ensures place).1 matches.room in
    c.loop-place.invariant.none place after (omega arith) matches
