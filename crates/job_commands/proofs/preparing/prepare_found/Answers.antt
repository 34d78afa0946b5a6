-- The job has its scripts, or it is told why not.
use Rattle.std.proofs.lemmas.Result.{err_from_is_err_and}
use Rattle.job_commands.proofs.Compiled.{found_not, found_ready, found_so}
use Rattle.job_commands.proofs.preparing.prepare_found.Goals as goal

pub returns-in_err-scripts-clause-told : goal.returns-in_err-scripts-clause-told
returns-in_err-scripts-clause-told c =
    let exit = err_from_is_err_and c.from_residual.result c.from_residual.ensures.1 in
    rw (exit.1, exit.2) (found_not c.args.found c.in_err-scripts.field-0.0 c.in_err-scripts.ensures.told)

pub returns-clause-told : goal.returns-clause-told
returns-clause-told c = found_so c.args.found c.in_ok-scripts.scripts c.in_ok-scripts.ensures.told

pub returns-clause-ready : goal.returns-clause-ready
returns-clause-ready c = found_ready c.args.found c.in_ok-scripts.scripts c.in_ok-scripts.ensures.told
