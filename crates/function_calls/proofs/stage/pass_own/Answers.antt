use Rattle.function_calls.proofs.Passes.{nothing_passed}
use Rattle.function_calls.proofs.Staging.{nothing_cast}
use Rattle.function_calls.proofs.stage.pass_own.Goals as goal

pub returns-in-Lambda : goal.returns-in-Lambda
returns-in-Lambda c = nothing_cast c.args.texts.now c.args.allow.now c.args.heap.now c.args.values.now c.args.aim.now _ c.in-Lambda.is (nothing_passed c.args.texts.now c.args.allow.now c.args.heap.now c.args.values.now)

pub returns-in-Null : goal.returns-in-Null
returns-in-Null c = nothing_cast c.args.texts.now c.args.allow.now c.args.heap.now c.args.values.now c.args.aim.now _ c.in-Null.is (nothing_passed c.args.texts.now c.args.allow.now c.args.heap.now c.args.values.now)

pub returns-in-NoFunction : goal.returns-in-NoFunction
returns-in-NoFunction c = nothing_cast c.args.texts.now c.args.allow.now c.args.heap.now c.args.values.now c.args.aim.now _ c.in-NoFunction.is (nothing_passed c.args.texts.now c.args.allow.now c.args.heap.now c.args.values.now)

pub returns-in-Unfit : goal.returns-in-Unfit
returns-in-Unfit c = nothing_cast c.args.texts.now c.args.allow.now c.args.heap.now c.args.values.now c.args.aim.now _ c.in-Unfit.is (nothing_passed c.args.texts.now c.args.allow.now c.args.heap.now c.args.values.now)

pub returns-in-Gone : goal.returns-in-Gone
returns-in-Gone c = nothing_cast c.args.texts.now c.args.allow.now c.args.heap.now c.args.values.now c.args.aim.now _ c.in-Gone.is (nothing_passed c.args.texts.now c.args.allow.now c.args.heap.now c.args.values.now)
