-- What statements and catches weigh, by what their parts weigh.
use Rattle.std.proofs.Common.{◌≡◌, ℕ, ◌+◌, ◌∷◌, ◌∙◌}
use Rattle.typed_tree.specs.declared.statement.StatementNode.{StatementNode, out-StatementNode}
use Rattle.typed_tree.specs.declared.statement.StatementNode.TheFolds.{fold_out-TypedStatement, fold_out-StatementNode, fold_out-TypedCatch}
use Rattle.typed_tree.specs.declared.statement.TypedCatch.{TypedCatch, out-TypedCatch}
use Rattle.typed_tree.specs.declared.statement.TypedStatement.{TypedStatement, out-TypedStatement}
use Rattle.codegen.specs.Weights.{node_step, catch_step, statement_step, node, statement, handler, over}

pub node_weighs : (x : StatementNode) → node x ≡ node_step (over (out-StatementNode x))
unfolding node handler statement
node_weighs x = fold_out-StatementNode ℕ ℕ ℕ node_step catch_step statement_step x

pub statement_weighs : (s : TypedStatement) → statement s ≡ node_step (over (out-StatementNode (out-TypedStatement s).node))
unfolding node handler statement
statement_weighs s =
    fold_out-TypedStatement ℕ ℕ ℕ node_step catch_step statement_step s
    ∙ fold_out-StatementNode ℕ ℕ ℕ node_step catch_step statement_step (out-TypedStatement s).node

pub handler_weighs : (e : TypedCatch) → handler e ≡ statement (out-TypedCatch e).body
unfolding node handler statement
handler_weighs e = fold_out-TypedCatch ℕ ℕ ℕ node_step catch_step statement_step e
