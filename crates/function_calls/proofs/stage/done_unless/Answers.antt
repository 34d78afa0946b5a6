use Rattle.std.proofs.Common.{Bool, sym, subst}
use Rattle.function_calls.specs.Applying.{done_unless}
use Rattle.function_calls.specs.Coming.{LandsAs}
use Rattle.function_calls.proofs.stage.done_unless.Goals as goal

pub returns-else-lacks : goal.returns-else-lacks
returns-else-lacks c =
    let heap = c.args.heap.now in
    subst (λ (b : Bool). LandsAs heap (done_unless b c.args.number heap c.args.values.now c.args.doing) heap c.done.new.values c.done.result) (sym c.if-lacks.false) (c.done.ensures heap)
