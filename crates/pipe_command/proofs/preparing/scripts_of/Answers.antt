-- Each script of the pipeline has its own, or is the first that is refused.
use Rattle.std.proofs.Common.{arith}
use Rattle.std.proofs.lemmas.Result.{err_from_is_err_and}
use Rattle.pipe_command.proofs.Compiled.{pipes_all, pipes_first, pipes_next, pipes_not}
use Rattle.pipe_command.proofs.preparing.scripts_of.Goals as goal

pub loop-script-init : goal.loop-script-init
loop-script-init c = pipes_first c.args.read.now c.args.scripts.now c.new-all.result.items c.new-all.ensures.items

pub loop-script-preserved : goal.loop-script-preserved
loop-script-preserved c =
    pipes_next c.args.read.now c.args.scripts.now c.loop-script.script-index c.script-item.result (omega (arith, c.loop-script-test.true)) c.script-item.is c.loop-script.all.items c.loop-script.invariant
    c.in_ok-compiled.compiled c.in_ok-one.one c.push_script.new.scripts.items c.in_ok-compiled.ensures.told c.in_ok-one.ensures.script c.in_ok-one.ensures.kind c.in_ok-one.ensures.params
    c.in_ok-push_script.ensures

pub returns-clause-compiled : goal.returns-clause-compiled
returns-clause-compiled c = pipes_all c.args.read.now c.args.scripts.now c.loop-script.script-index c.loop-script.all.items (omega (arith, c.loop-script-test.false)) c.loop-script.invariant

pub returns-in_err-compiled-clause-refused : goal.returns-in_err-compiled-clause-refused
returns-in_err-compiled-clause-refused c =
    let exit = err_from_is_err_and c.from_residual.result c.from_residual.ensures.1 in
    rw (exit.1, exit.2)
    (pipes_not c.args.read.now c.args.scripts.now c.loop-script.script-index c.script-item.result (omega (arith, c.loop-script-test.true)) c.script-item.is c.loop-script.all.items
    c.loop-script.invariant c.in_err-compiled.field-0.0 c.in_err-compiled.ensures.told)
