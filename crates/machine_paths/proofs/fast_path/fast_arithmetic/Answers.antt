use Rattle.std.proofs.Common.{ap}
use Rattle.code_meaning.specs.Machine.{on_calculation}
use Rattle.code_meaning.specs.Words.{calculation}
use Rattle.machine_paths.proofs.Quick.{as_does}
use Rattle.machine_paths.proofs.fast_path.fast_arithmetic.Goals as goal

pub returns-in-Int-clause-exact : goal.returns-in-Int-clause-exact
returns-in-Int-clause-exact c = λ codes limits w.
    as_does _ _ _ _ _ (ap (λ width. on_calculation codes limits (calculation c.args.op width c.args.frames.now.top.stack) c.args.frames.now.top c.args.frames.now.below w) c.in-Int.is) (c.ints.ensures.exact codes limits w)

pub returns-in-Long-clause-exact : goal.returns-in-Long-clause-exact
returns-in-Long-clause-exact c = λ codes limits w.
    as_does _ _ _ _ _ (ap (λ width. on_calculation codes limits (calculation c.args.op width c.args.frames.now.top.stack) c.args.frames.now.top c.args.frames.now.below w) c.in-Long.is) (c.longs.ensures.exact codes limits w)
