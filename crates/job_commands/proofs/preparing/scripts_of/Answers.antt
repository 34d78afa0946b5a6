-- Each text has its script, or is the first that is refused.
use Rattle.std.proofs.Common.{arith}
use Rattle.std.proofs.lemmas.Result.{err_from_is_err_and}
use Rattle.job_file.specs.Answers.{scripts_view}
use Rattle.job_loading.specs.Seen.{read_view}
use Rattle.job_commands.proofs.Compiled.{compiles_all, compiles_first, compiles_next, compiles_not}
use Rattle.job_commands.proofs.preparing.scripts_of.Goals as goal

pub loop-text-init : goal.loop-text-init
loop-text-init c = compiles_first (read_view c.args.found.now) (scripts_view c.args.texts.now) c.new-scripts.result.items c.new-scripts.ensures.items

pub loop-text-preserved : goal.loop-text-preserved
loop-text-preserved c =
    compiles_next (read_view c.args.found.now) c.args.texts.now c.loop-text.text-index c.text-item.result (omega (arith, c.loop-text-test.true)) c.text-item.is c.loop-text.scripts.items
    c.loop-text.invariant c.in_ok-script.script c.push_script.new.scripts.items c.in_ok-script.ensures.told c.in_ok-push_script.ensures

pub returns-clause-compiled : goal.returns-clause-compiled
returns-clause-compiled c =
    compiles_all (read_view c.args.found.now) c.args.texts.now c.loop-text.text-index c.loop-text.scripts.items (omega (arith, c.loop-text-test.false)) c.loop-text.invariant

pub returns-in_err-script-clause-refused : goal.returns-in_err-script-clause-refused
returns-in_err-script-clause-refused c =
    let exit = err_from_is_err_and c.from_residual.result c.from_residual.ensures.1 in
    rw (exit.1, exit.2)
    (compiles_not (read_view c.args.found.now) c.args.texts.now c.loop-text.text-index c.text-item.result (omega (arith, c.loop-text-test.true)) c.text-item.is c.loop-text.scripts.items
    c.loop-text.invariant c.in_err-script.field-0.0 c.in_err-script.ensures.told)
