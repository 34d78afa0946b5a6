use Rattle.std.proofs.Common.{◌≤◌, ◌+◌, max}
use Rattle.typed_tree.specs.declared.statement.TypedStatement.{size-TypedStatement}
use Rattle.typed_tree.proofs.statement.+letting_go.Given as goal

-- what is left is no deeper than the whole
abbrev pub invariant-TypedStatement::drop-loop-value : goal.invariant-TypedStatement::drop-loop-value
invariant-TypedStatement::drop-loop-value l = size-TypedStatement l.self ≤ size-TypedStatement l.initial.self

abbrev pub decreases-heavier : goal.decreases-heavier
decreases-heavier l = max (size-TypedStatement l.left) (size-TypedStatement l.right) + 1
