use Rattle.machine.specs.Seen.{codes_in, limits_in}
use Rattle.machine.proofs.Reaching.{joined}
use Rattle.machine.proofs.running.run_paths.Goals as goal

pub returns-clause-exact : goal.returns-clause-exact
returns-clause-exact c =
    joined (codes_in c.args.executable.now) (limits_in c.args.executable.now c.args.limits.now) c.run_others-values.result c.run_numbers.result c.args.run.now c.run_others-values.new.run c.run_numbers.new.run
    c.run_others-values.ensures.exact c.run_numbers.ensures.exact
