use Rattle.static_types.proofs.Functions.{function_goes, function_refuses}
use Rattle.static_types.proofs.program.function.Goals as goal

pub returns-in-Ok : goal.returns-in-Ok
returns-in-Ok c = function_goes c.args.allow.now c.args.headers.now c.args.f.now c.args.header.now c.in-Ok.steps.items c.finished.result c.in-Ok.ensures c.finished.ensures

pub returns-in-Err : goal.returns-in-Err
returns-in-Err c = function_refuses c.args.allow.now c.args.headers.now c.args.f.now c.args.header.now c.in-Err.fail c.in-Err.ensures
