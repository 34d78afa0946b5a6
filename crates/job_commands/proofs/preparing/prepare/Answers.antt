-- The job that was read has a script, or what is told of it is told.
use Rattle.std.proofs.lemmas.Result.{err_from_is_err_and}
use Rattle.job_commands.proofs.Compiled.{job_stops, found_prepares, distinct_so}
use Rattle.job_commands.proofs.preparing.prepare.Goals as goal

pub returns-in_err-found-clause-told : goal.returns-in_err-found-clause-told
returns-in_err-found-clause-told g c =
    let t = c.in_err-found.ensures.told in
    let exit = err_from_is_err_and c.from_residual.result c.from_residual.ensures.1 in
    (t.0, t.1, rw (exit.1, exit.2) (job_stops c.args.command t.0 c.args.name.now c.in_err-found.field-0.0 t.2))

pub returns-clause-told : goal.returns-clause-told
returns-clause-told g c =
    let t = c.in_ok-found.ensures.told in
    (t.0, t.1, found_prepares c.args.command t.0 c.args.name.now c.in_ok-found.found c.prepare_found.result t.2 c.prepare_found.ensures.told)

pub returns-clause-distinct : goal.returns-clause-distinct
returns-clause-distinct g c = distinct_so c.in_ok-found.found c.prepare_found.result c.prepare_found.ensures.found c.in_ok-found.ensures.distinct
