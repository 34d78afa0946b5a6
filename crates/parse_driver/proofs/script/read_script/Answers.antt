use Rattle.std.proofs.Common.{rules, ◌≡◌, ◌<◌, length, refl, arith}
use Rattle.std.proofs.lemmas.Grind.{common_steps}
use Rattle.pl_grammar.specs.declared.stop.Stop.{Stop}
use Rattle.parse_driver.proofs.Ends.{empty_read, whole_fails, whole_more, whole_read}
use Rattle.parse_driver.proofs.script.read_script.Goals as goal

pub returns-then-count-eq0-clause-read : goal.returns-then-count-eq0-clause-read
returns-then-count-eq0-clause-read g c = (c.args.script.now, rw c.requires (empty_read c.args.levels c.args.tokens.now (omega (arith, c.count.ensures, c.if-count-eq0.true))), refl)

pub returns-in_err-read_top-clause-read : goal.returns-in_err-read_top-clause-read
returns-in_err-read_top-clause-read g c =
    let some : 0 < length c.args.tokens.now = omega (arith, c.count.ensures, c.if-count-eq0.false) in
    let e = λ (e : Stop). whole_fails c.args.levels c.args.tokens.now e some in
    first_of (search rules, grind (arith, common_steps))

pub returns-then-count-ne0-clause-read : goal.returns-then-count-ne0-clause-read
returns-then-count-ne0-clause-read g c =
    let some : 0 < length c.args.tokens.now = omega (arith, c.count.ensures, c.if-count-eq0.false) in
    let more : 0 < length c.read_top.new.tokens = omega (arith, c.count-2.ensures, c.if-count-ne0.true) in
    λ other. rw c.refuse.ensures (whole_more c.args.levels c.args.tokens.now c.read_top.new.tokens c.in_ok-read_top.ensures.read.0 some more c.in_ok-read_top.ensures.read.1)

pub returns-clause-read : goal.returns-clause-read
returns-clause-read g c =
    let some : 0 < length c.args.tokens.now = omega (arith, c.count.ensures, c.if-count-eq0.false) in
    let none : length c.read_top.new.tokens ≡ 0 = omega (arith, c.count-2.ensures, c.if-count-ne0.false) in
    (c.in_ok-read_top.ensures.read.0, whole_read c.args.levels c.args.tokens.now c.read_top.new.tokens c.in_ok-read_top.ensures.read.0 some none c.in_ok-read_top.ensures.read.1, c.in_ok-read_top.ensures.read.2)
