use Rattle.std.proofs.Common.{◌∙◌, reverse}
use Rattle.typing_rules.proofs.Lists.{next_type, next_type_fails, end_of_types}
use Rattle.typing_rules.proofs.rules.members.cast_all.Goals as goal

pub loop-of-preserved : goal.loop-of-preserved
loop-of-preserved c =
    let l = c.loop-of in
    let item = c.of-item in
    let next = c.cast_next.new in
    let cast = c.in_ok-cast_next.ensures in
    l.invariant ∙ next_type l.casts next.casts c.args.types.now l.of-index item.result (reverse l.given.items) (reverse next.given.items) c.loop-of-test.true item.is cast.cast cast.left

pub returns : goal.returns
returns c =
    let l = c.loop-of in
    l.invariant ∙ end_of_types l.casts c.args.types.now l.of-index (reverse l.given.items) c.loop-of-test.false

pub returns-in_err-cast_next : goal.returns-in_err-cast_next
returns-in_err-cast_next c =
    let l = c.loop-of in
    let item = c.of-item in
    let failed = c.in_err-cast_next in
    let told = c.from_residual in
    next_type_fails _ l.casts c.cast_next.new.casts c.args.types.now l.of-index item.result (reverse l.given.items) failed.field-0.0 told.result l.invariant c.loop-of-test.true item.is failed.ensures.cast told.ensures.0 told.ensures.1
