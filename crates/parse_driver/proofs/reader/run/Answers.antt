use Rattle.std.proofs.Common.{rules, length, refl, arith}
use Rattle.std.proofs.lemmas.Grind.{common_steps}
use Rattle.parse_driver.proofs.reader.run.Goals as goal

pub loop-frame-init : goal.loop-frame-init
loop-frame-init g c = (λ whole comes. comes, omega arith)

pub step-requires : goal.step-requires
step-requires g c = (c.requires.0, rw c.in-Some.ensures at (c.loop-frame.invariant.0 c.requires.0 c.requires.1))

pub loop-frame-smaller : goal.loop-frame-smaller
loop-frame-smaller g c = rw c.in-Some.ensures (c.in_ok-step.ensures.less (length c.args.tokens.now) c.loop-frame.invariant.1).1

pub loop-frame-preserved : goal.loop-frame-preserved
loop-frame-preserved g c = (
  λ whole comes. c.in_ok-step.ensures.read whole (rw c.in-Some.ensures at (c.loop-frame.invariant.0 whole comes)),
  (c.in_ok-step.ensures.less (length c.args.tokens.now) c.loop-frame.invariant.1).0,
)

pub returns-in_err-step : goal.returns-in_err-step
returns-in_err-step g c = λ whole comes.
    (let stops = c.in_err-step.ensures.read whole (rw c.in-Some.ensures at (c.loop-frame.invariant.0 whole comes)) in
    first_of (search rules, grind (arith, common_steps)))

pub returns : goal.returns
returns g c = λ whole comes. (g.S.Actions.values c.loop-frame.stack, rw c.in_default.ensures at (c.loop-frame.invariant.0 whole comes), refl)
