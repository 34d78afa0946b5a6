use Rattle.std.proofs.Common.{◌+◌, ◌<◌, ◌≤◌, length, max, All}
use Rattle.typed_tree.specs.declared.typed.Typed.{Typed, size-Typed}
use Rattle.typed_tree.specs.Depths.{above}
use Rattle.typed_tree.proofs.typed.+letting_go.Given as goal

-- what is left is no deeper than the whole
abbrev pub invariant-Typed::drop-loop-of : goal.invariant-Typed::drop-loop-of
invariant-Typed::drop-loop-of l = size-Typed l.self ≤ size-Typed l.initial.self

abbrev pub decreases-Typed::drop-loop-of : goal.decreases-Typed::drop-loop-of
decreases-Typed::drop-loop-of l = size-Typed l.self

-- the parts that are left, and the best of the others, are no deeper than the parts were
abbrev pub invariant-heaviest-loop-part : goal.invariant-heaviest-loop-part
invariant-heaviest-loop-part l = record {
  left : All (λ (x : Typed). size-Typed x < above l.fn.parts) l.parts;
  best : size-Typed l.best < above l.fn.parts;
}

abbrev pub decreases-heaviest-loop-part : goal.decreases-heaviest-loop-part
decreases-heaviest-loop-part l = length l.parts

abbrev pub decreases-heavier : goal.decreases-heavier
decreases-heavier l = max (size-Typed l.left) (size-Typed l.right) + 1

abbrev pub decreases-heaviest : goal.decreases-heaviest
decreases-heaviest l = above l.parts
