use Rattle.std.proofs.Common.{rules}
use Rattle.typed_tree.specs.Depths.{above}
use Rattle.typed_tree.proofs.Depths.{left_below, last_below}
use Rattle.typed_tree.proofs.typed.+letting_go.Goals as goal

pub heaviest-drop-lighter-requires : goal.heaviest-drop-lighter-requires
heaviest-drop-lighter-requires t c =
    search (rules, last_below (above c.args.parts) c.loop-part.parts c.pop-in-loop-part.new.self c.in-Some-pop.part c.in-Some-pop.ensures c.loop-part.invariant.left)

pub heaviest-loop-part-preserved : goal.heaviest-loop-part-preserved
heaviest-loop-part-preserved t c = record {
  left = left_below (above c.args.parts) c.loop-part.parts c.pop-in-loop-part.new.self c.in-Some-pop.part c.in-Some-pop.ensures c.loop-part.invariant.left;
  best = c.loop-part.invariant.best;
}
