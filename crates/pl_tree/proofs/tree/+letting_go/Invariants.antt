use Rattle.std.proofs.Common.{◌≤◌}
use Rattle.pl_tree.proofs.tree.+letting_go.Given as goal

-- what is left is no larger than the whole
abbrev pub invariant-Expr::drop-loop-self : goal.invariant-Expr::drop-loop-self
invariant-Expr::drop-loop-self l = goal.size-Expr::drop (record { the-lifetimes = _; self = l.self }) ≤ goal.size-Expr::drop (record { the-lifetimes = _; self = l.fn.self })

abbrev pub invariant-Statement::drop-loop-self : goal.invariant-Statement::drop-loop-self
invariant-Statement::drop-loop-self l = goal.size-Statement::drop (record { the-lifetimes = _; self = l.self }) ≤ goal.size-Statement::drop (record { the-lifetimes = _; self = l.fn.self })
