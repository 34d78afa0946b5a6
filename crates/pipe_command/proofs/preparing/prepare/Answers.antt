-- The job that was read has its scripts, or what is told of it is told.
use Rattle.std.proofs.lemmas.Result.{err_from_is_err_and}
use Rattle.pipe_command.proofs.Compiled.{pipe_prepares, pipe_stops}
use Rattle.pipe_command.proofs.preparing.prepare.Goals as goal

pub returns-in_err-read-clause-told : goal.returns-in_err-read-clause-told
returns-in_err-read-clause-told g c =
    let t = c.in_err-read.ensures.told in
    let exit = err_from_is_err_and c.from_residual.result c.from_residual.ensures.1 in
    (t.0, t.1, rw (exit.1, exit.2) (pipe_stops t.0 c.args.name.now c.in_err-read.field-0.0 t.2))

pub returns-clause-told : goal.returns-clause-told
returns-clause-told g c =
    let t = c.in_ok-read.ensures.told in
    (t.0, t.1, pipe_prepares t.0 c.args.name.now c.in_ok-read.read c.prepare_read.result t.2 c.prepare_read.ensures.told)
