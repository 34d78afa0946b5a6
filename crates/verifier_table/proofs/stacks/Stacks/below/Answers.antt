use Rattle.std.proofs.Common.{drop, sym, ap, ◌∙◌}
use Rattle.verifier_table.specs.Nodes.{stack_at}
use Rattle.verifier_table.proofs.Numerals.{one_lower}
use Rattle.verifier_table.proofs.stacks.Stacks.below.Goals as goal

pub loop-preserved : goal.loop-preserved
loop-preserved c = (c.rest-place.ensures.within, c.rest-place.ensures.rest ∙ ap (drop 1) c.loop.invariant.1 ∙ sym (one_lower c.loop.counter (stack_at c.args.self.now c.args.at)))
