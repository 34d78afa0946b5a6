use Rattle.std.proofs.Common.{subst}
use Rattle.instruction_types.specs.declared.flow.Flow.{Flow}
use Rattle.verifier.specs.Meets.{turns_to}
use Rattle.verifier.specs.Acts.{MergesInto}
use Rattle.verifier.proofs.Passing.{next_item, no_item, turns_first, turns_one, turns_all}
use Rattle.verifier.proofs.pass.turn.Goals as goal

pub loop-line-init : goal.loop-line-init
loop-line-init c = turns_first c.args.lines.now c.args.table.now

pub loop-line-preserved : goal.loop-line-preserved
loop-line-preserved c =
    turns_one c.args.lines.now _ _ c.line-item.result c.args.table.now c.loop-line.table c.merge_into_loop_head.new.table c.loop-line.invariant
    (next_item c.args.lines.now c.loop-line.line-index c.line-item.result c.line-item.is c.loop-line-test.true)
    (subst (λ (way : Flow). MergesInto c.loop-line.table c.merge_into_loop_head.new.table (turns_to way)) c.flow_of.ensures c.merge_into_loop_head.ensures)

pub returns : goal.returns
returns c = turns_all c.args.lines.now _ c.args.table.now c.loop-line.table c.loop-line.invariant (no_item c.args.lines.now c.loop-line.line-index c.loop-line-test.false)
