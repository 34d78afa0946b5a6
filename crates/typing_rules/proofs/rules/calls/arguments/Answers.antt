use Rattle.std.proofs.Common.{◌∙◌, reverse}
use Rattle.typing_rules.proofs.Lists.{next_parameter, next_parameter_fails, end_of_parameters}
use Rattle.typing_rules.proofs.rules.calls.arguments.Goals as goal

pub loop-parameter-preserved : goal.loop-parameter-preserved
loop-parameter-preserved c =
    let l = c.loop-parameter in
    let item = c.parameter-item in
    let next = c.cast_next.new in
    let cast = c.in_ok-cast_next.ensures in
    l.invariant ∙ next_parameter l.casts next.casts c.args.parameters.now l.parameter-index item.result (reverse l.given.items) (reverse next.given.items) c.loop-parameter-test.true item.is cast.cast cast.left

pub returns : goal.returns
returns c =
    let l = c.loop-parameter in
    l.invariant ∙ end_of_parameters l.casts c.args.parameters.now l.parameter-index (reverse l.given.items) c.loop-parameter-test.false

pub returns-in_err-cast_next : goal.returns-in_err-cast_next
returns-in_err-cast_next c =
    let l = c.loop-parameter in
    let item = c.parameter-item in
    let failed = c.in_err-cast_next in
    let told = c.from_residual in
    next_parameter_fails _ l.casts c.cast_next.new.casts c.args.parameters.now l.parameter-index item.result (reverse l.given.items) failed.field-0.0 told.result l.invariant c.loop-parameter-test.true item.is failed.ensures.cast told.ensures.0 told.ensures.1
