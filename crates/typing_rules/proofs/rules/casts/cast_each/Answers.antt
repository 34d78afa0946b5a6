use Rattle.std.proofs.Common.{◌∙◌}
use Rattle.typing_rules.proofs.Lists.{next_part, next_part_fails}
use Rattle.typing_rules.proofs.rules.casts.cast_each.Goals as goal

pub loop-x-preserved : goal.loop-x-preserved
loop-x-preserved c =
    let l = c.loop-x in
    l.invariant ∙ next_part l.casts c.cast_behind.new.casts c.args.to.now l.given.items c.pop.new.self.items c.in-Some.x c.in-Some.ensures.items c.in_ok-cast_behind.ensures

pub returns-in_err-cast_behind : goal.returns-in_err-cast_behind
returns-in_err-cast_behind c =
    let l = c.loop-x in
    let failed = c.in_err-cast_behind in
    let told = c.from_residual in
    next_part_fails _ l.casts c.cast_behind.new.casts c.args.to.now l.given.items c.pop.new.self.items c.in-Some.x failed.field-0.0 told.result l.invariant c.in-Some.ensures.items failed.ensures told.ensures.0 told.ensures.1
