use Rattle.std.proofs.Common.{◌≡◌, length, get_or, ap, ◌∙◌, arith}
use Rattle.verifier.specs.Faults.{lines_fault}
use Rattle.verifier.proofs.Passing.{passed_none, faulty, sound, all_sound}
use Rattle.verifier.proofs.Counted.{no_lines, one_line, fewer_lines, least_none, least_line, least_lines, passed_still}
use Rattle.verifier.proofs.pass.lines_fault.Goals as goal

pub loop-line-init : goal.loop-line-init
loop-line-init c = (
  passed_none c.args.allow.now c.args.functions.now c.args.function.now c.in_ok-table.table c.in_ok-table.ensures,
  no_lines c.args.allow.now c.args.functions.now c.args.function.now c.args.most.now,
  omega arith,
  least_none c.args.allow.now c.args.functions.now c.args.function.now c.args.most.now,
)

pub returns-in-Some-clause-fault : goal.returns-in-Some-clause-fault
unfolding lines_fault
returns-in-Some-clause-fault c =
    let f = c.args.function.now in
    let i = c.index-lines-line.result in
    let item : i ≡ get_or f.lines c.loop-line.line i = c.index-lines-line.is ∙ ap (λ lines. get_or lines c.loop-line.line i) c.as_slice-lines.ensures in
    let count : length c.as_slice-lines.result.now ≡ length f.lines = ap length c.as_slice-lines.ensures in
    let still = passed_still c.args.allow.now c.args.functions.now f c.loop-line.line c.loop-line.table c.count_words.new.table c.loop-line.invariant.0 c.count_words.ensures.lines in
    faulty c.args.allow.now c.args.functions.now f c.loop-line.line i c.count_words.new.table c.in-Some.kind c.in_ok-found.found still item
    (omega (arith, count, c.loop-line-test.true)) c.in_ok-found.ensures.0 c.in-Some.is

pub loop-line-preserved : goal.loop-line-preserved
loop-line-preserved c =
    let f = c.args.function.now in
    let i = c.index-lines-line.result in
    let item : i ≡ get_or f.lines c.loop-line.line i = c.index-lines-line.is ∙ ap (λ lines. get_or lines c.loop-line.line i) c.as_slice-lines.ensures in
    let count : length c.as_slice-lines.result.now ≡ length f.lines = ap length c.as_slice-lines.ensures in
    let still = passed_still c.args.allow.now c.args.functions.now f c.loop-line.line c.loop-line.table c.count_words.new.table c.loop-line.invariant.0 c.count_words.ensures.lines in (
      sound c.args.allow.now c.args.functions.now f c.loop-line.line i c.count_words.new.table c.instruction_fault.new.table c.in_ok-found.found still item
          (omega (arith, count, c.loop-line-test.true)) c.in_ok-found.ensures.0 c.in-None.is (c.in_ok-found.ensures.1 c.in-None.is),
      one_line c.args.allow.now c.args.functions.now f c.loop-line.line c.local_count-locals.result c.loop-line.most c.count_words.new.most c.loop-line.table c.loop-line.invariant.0
          (omega (arith, count, c.loop-line-test.true)) c.local_count-locals.ensures.count c.loop-line.invariant.1 c.count_words.ensures.rises c.count_words.ensures.covers,
      omega (arith, c.loop-line.invariant.2, c.count_words.ensures.rises),
      least_line c.args.allow.now c.args.functions.now f c.loop-line.line c.local_count-locals.result c.args.most.now c.loop-line.most c.count_words.new.most c.loop-line.table c.loop-line.invariant.0
          (omega (arith, count, c.loop-line-test.true)) c.local_count-locals.ensures.count c.loop-line.invariant.3 c.count_words.ensures.least,
    )

pub returns-clause-words : goal.returns-clause-words
returns-clause-words c none =
    let f = c.args.function.now in
    let count : length c.as_slice-lines.result.now ≡ length f.lines = ap length c.as_slice-lines.ensures in
    fewer_lines c.args.allow.now c.args.functions.now f c.loop-line.line (length f.lines) c.loop-line.most c.loop-line.invariant.1 (omega (arith, count, c.loop-line-test.false))

pub returns-clause-least : goal.returns-clause-least
returns-clause-least c none =
    let f = c.args.function.now in
    let count : length c.as_slice-lines.result.now ≡ length f.lines = ap length c.as_slice-lines.ensures in
    least_lines c.args.allow.now c.args.functions.now f c.loop-line.line (length f.lines) c.args.most.now c.loop-line.most c.loop-line.invariant.3 (omega (arith, count, c.loop-line-test.false))

pub returns-clause-fault : goal.returns-clause-fault
unfolding lines_fault
returns-clause-fault c =
    let f = c.args.function.now in
    let count : length c.as_slice-lines.result.now ≡ length f.lines = ap length c.as_slice-lines.ensures in
    all_sound c.args.allow.now c.args.functions.now f c.loop-line.line c.loop-line.table c.loop-line.invariant.0 (omega (arith, count, c.loop-line-test.false))
