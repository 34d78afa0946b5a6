use Rattle.std.proofs.Common.{◌≡◌}
use Rattle.pl_tree.specs.declared.tree.Expr.{size-Expr}
use Rattle.typing_rules.specs.Typing.{reading}
use Rattle.typing_worklist.proofs.first.first_of.Given as goal

-- what is left begins as the whole does
abbrev pub invariant-loop-next : goal.invariant-loop-next
invariant-loop-next l = (reading l.fn._allow l.fn._headers l.left).first ≡ (reading l.fn._allow l.fn._headers l.fn.e).first

abbrev pub decreases-loop-next : goal.decreases-loop-next
decreases-loop-next l = size-Expr l.left
