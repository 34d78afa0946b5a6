-- The job has its scripts, or it is told why not.
use Rattle.std.proofs.Common.{refl}
use Rattle.std.proofs.lemmas.Result.{err_from_is_err_and}
use Rattle.pipe_command.proofs.Compiled.{read_not, read_so}
use Rattle.pipe_command.proofs.preparing.prepare_read.Goals as goal

pub returns-in_err-scripts-clause-told : goal.returns-in_err-scripts-clause-told
returns-in_err-scripts-clause-told c =
    let exit = err_from_is_err_and c.from_residual.result c.from_residual.ensures.1 in
    rw (exit.1, exit.2) (read_not c.args.read c.in_err-scripts.field-0.0 c.in_err-scripts.ensures.refused)

pub returns-clause-told : goal.returns-clause-told
returns-clause-told c = read_so c.args.read (record { read = c.args.read; scripts = c.in_ok-scripts.scripts }) refl c.in_ok-scripts.ensures.compiled
