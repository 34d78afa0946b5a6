-- Each meaning is done by the code.
use Rattle.std.proofs.Common.{ℕ, zero, suc}
use Rattle.run_state.specs.World.{Limits}
use Rattle.source_meaning.specs.Tree.{Expr, Literal, Quoted, Local, Apply, Guarded, Logic, Conditional, Elvis, Assign, Modify, Lambda, Reference, NewReference, Exprs, None', One, Stmt, Do, If, While, DoWhile, Try, Block, Break, Continue, Return, Throw, Stmts, Finish, Then, Declare, Programs}
use Rattle.code_meaning.specs.Machine.{Codes}
use Rattle.source_meaning.specs.Meaning.{Meaning, expr_of, exprs_of, stmt_of, stmts_of}
use Rattle.member_names.specs.Names.{TextsName}
use Rattle.compiler_relation.specs.Stands.{AreCompiled}
use Rattle.compiler_relation.proofs.Refines.{ExprRuns, ExprsRun, StmtRuns, StmtsRun, Refines}
use Rattle.source_meaning.specs.Meaning.{layer, meaning}
use Rattle.compiler_relation.proofs.Nodes.Casts.{ReadsBack}
use Rattle.compiler_relation.proofs.Nodes.Exprs.{literal_runs, quoted_runs, local_runs, none_runs, one_runs, conditional_runs, elvis_runs, logic_runs}
use Rattle.compiler_relation.proofs.Nodes.Assigns.{assign_runs, modify_runs}
use Rattle.compiler_relation.proofs.Nodes.Applies.{apply_runs, guarded_runs}
use Rattle.compiler_relation.proofs.Nodes.Statements.{do_runs, if_runs, block_runs, break_runs, continue_runs, return_runs, throw_runs, finish_runs, then_runs, declare_runs}
use Rattle.compiler_relation.proofs.Nodes.Tries.{try_runs}
use Rattle.compiler_relation.proofs.Nodes.Loops.{while_runs, do_while_runs}

module _ (funs : Programs) (codes : Codes) (limits : Limits) (made : AreCompiled funs codes) (reads : ReadsBack) (texts : TextsName) where
  module _ (m : Meaning) (ih : Refines funs codes limits m) where
    expr_runs : (t : Expr) → ExprRuns funs codes limits (λ d s e. expr_of funs limits m d s e t) t
    expr_runs (Literal at' of x) = literal_runs funs codes limits m ih at' of x
    expr_runs (Quoted at' of text) = quoted_runs funs codes limits m ih at' of text
    expr_runs (Local at' of x) = local_runs funs codes limits m ih at' of x
    expr_runs (Apply at' of o parts) = apply_runs funs codes limits m ih reads texts made at' of o parts
    expr_runs (Guarded at' of o parts) = guarded_runs funs codes limits m ih texts at' of o parts
    expr_runs (Logic at' of o left right) = logic_runs funs codes limits m ih at' of o left right
    expr_runs (Conditional at' of t a b) = conditional_runs funs codes limits m ih at' of t a b
    expr_runs (Elvis at' of left right) = elvis_runs funs codes limits m ih at' of left right
    expr_runs (Assign at' of to parts value) = assign_runs funs codes limits m ih reads texts made at' of to parts value
    expr_runs (Modify at' of to parts change right given) = modify_runs funs codes limits m ih reads texts made at' of to parts change right given
    expr_runs (Lambda at' of interface function) = λ c h g p s e l st stands f. record { by = tt }
    expr_runs (Reference at' of interface class name) = λ c h g p s e l st stands f. record { by = tt }
    expr_runs (NewReference at' of interface made') = λ c h g p s e l st stands f. record { by = tt }

    exprs_run : (t : Exprs) → ExprsRun funs codes limits (λ d s e. exprs_of funs limits m d s e t) t
    exprs_run None' = none_runs funs codes limits m ih
    exprs_run (One a others) = one_runs funs codes limits m ih a others

    stmt_runs : (t : Stmt) → StmtRuns funs codes limits (λ d s e. stmt_of funs limits m d s e t) t
    stmt_runs (Do a) = do_runs funs codes limits m ih a
    stmt_runs (If t a b) = if_runs funs codes limits m ih t a b
    stmt_runs (While test update body) = while_runs funs codes limits m ih test update body
    stmt_runs (DoWhile body test) = do_while_runs funs codes limits m ih body test
    stmt_runs (Try body catches) = try_runs funs codes limits m ih body catches
    stmt_runs (Block body) = block_runs funs codes limits m ih body
    stmt_runs Break = break_runs funs codes limits m ih
    stmt_runs Continue = continue_runs funs codes limits m ih
    stmt_runs (Return value) = return_runs funs codes limits m ih value
    stmt_runs (Throw value) = throw_runs funs codes limits m ih value

    stmts_run : (t : Stmts) → StmtsRun funs codes limits (λ d s e. stmts_of funs limits m d s e t) t
    stmts_run Finish = finish_runs funs codes limits m ih
    stmts_run (Then t rest) = then_runs funs codes limits m ih t rest
    stmts_run (Declare x of value rest) = declare_runs funs codes limits m ih x of value rest

    deeper : Refines funs codes limits (layer funs limits m)
    deeper = record { expr = expr_runs; exprs = exprs_run; stmt = stmt_runs; stmts = stmts_run }

  pub refines : (n : ℕ) → Refines funs codes limits (meaning funs limits n)
  refines zero = record {
    expr = λ t c h g p s e l st stands f. record { by = tt };
    exprs = λ t c h g p s e l st stands f. record { by = tt };
    stmt = λ t c h g n j p s e l stands under f. record { by = tt };
    stmts = λ t c h g n j p s e l stands under f. record { by = tt };
  }
  refines (suc n) = deeper (meaning funs limits n) (refines n)
