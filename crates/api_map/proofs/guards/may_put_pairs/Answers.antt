use Rattle.std.proofs.Common.{◌∙◌, sym}
use Rattle.object_heap.specs.Parts.{guard_of}
use Rattle.api_map.proofs.Copying.{no_put_behind, put_behind}
use Rattle.api_map.proofs.guards.may_put_pairs.Goals as goal

pub returns-then-not-may_put : goal.returns-then-not-may_put
returns-then-not-may_put c =
    let guard = guard_of c.args.heap.now.objects c.args.id in
    sym (c.loop-at.invariant ∙ no_put_behind guard c.args.pairs.now c.loop-at.at (c.in-Some.key.now, c.in-Some.field-0-1.now) c.in-Some.ensures.some (sym c.may_put.ensures ∙ c.if-not-may_put.true))

pub loop-at-preserved : goal.loop-at-preserved
loop-at-preserved c =
    let guard = guard_of c.args.heap.now.objects c.args.id in
    c.loop-at.invariant ∙ put_behind guard c.args.pairs.now c.loop-at.at (c.in-Some.key.now, c.in-Some.field-0-1.now) c.in-Some.ensures.some (sym c.may_put.ensures ∙ c.if-not-may_put.false)
