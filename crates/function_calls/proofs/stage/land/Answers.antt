use Rattle.std.proofs.Common.{sym, subst}
use Rattle.function_calls.specs.declared.aim.Aim.{Aim}
use Rattle.function_calls.specs.Applying.{landed}
use Rattle.function_calls.specs.Coming.{LandsAs}
use Rattle.function_calls.proofs.stage.land.Goals as goal

pub returns-in-Static : goal.returns-in-Static
returns-in-Static c =
    let heap = c.args.heap.now in
    subst (λ (a : Aim). LandsAs heap (landed a heap c.args.values.now) heap c.done.new.values c.done.result) (sym c.in-Static.is) (c.done.ensures heap)
