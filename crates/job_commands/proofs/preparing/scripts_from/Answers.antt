-- The first script, and those behind it.
use Rattle.std.proofs.Common.{refl, string_bytes}
use Rattle.std.proofs.lemmas.Result.{err_from_is_err_and}
use Rattle.job_file.specs.Answers.{scripts_view}
use Rattle.job_loading.specs.Seen.{read_view}
use Rattle.job_commands.proofs.Compiled.{first_not, more_not, scripts_so}
use Rattle.job_commands.proofs.preparing.scripts_from.Goals as goal

pub returns-clause-told : goal.returns-clause-told
returns-clause-told c =
    scripts_so (read_view c.args.found.now) (string_bytes c.args.first.now.0) (string_bytes c.args.first.now.1) (scripts_view c.args.rest.now) c.in_ok-script.script
    (record { first = c.in_ok-script.script; more = c.in_ok-more.more }) refl c.in_ok-script.ensures.told c.in_ok-more.ensures.compiled

pub returns-in_err-script-clause-told : goal.returns-in_err-script-clause-told
returns-in_err-script-clause-told c =
    let exit = err_from_is_err_and c.from_residual-in_err-script.result c.from_residual-in_err-script.ensures.1 in
    rw (exit.1, exit.2)
    (first_not (read_view c.args.found.now) (string_bytes c.args.first.now.0) (string_bytes c.args.first.now.1) (scripts_view c.args.rest.now) c.in_err-script.field-0.0
    c.in_err-script.ensures.told)

pub returns-in_err-more-clause-told : goal.returns-in_err-more-clause-told
returns-in_err-more-clause-told c =
    let exit = err_from_is_err_and c.from_residual-in_err-more.result c.from_residual-in_err-more.ensures.1 in
    rw (exit.1, exit.2)
    (more_not (read_view c.args.found.now) (string_bytes c.args.first.now.0) (string_bytes c.args.first.now.1) (scripts_view c.args.rest.now) c.in_ok-script.script c.in_err-more.field-0.0
    c.in_ok-script.ensures.told c.in_err-more.ensures.refused)
