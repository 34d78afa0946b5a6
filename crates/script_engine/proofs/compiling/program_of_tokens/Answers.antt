-- The grammar's answer, and then that of the tree.
use Rattle.std.proofs.lemmas.Result.{err_from_is_err_and}
use Rattle.pl_parser.specs.PlainParses.{PlainParses}
use Rattle.script_engine.specs.Programs.{TypesTree}
use Rattle.script_engine.proofs.Stages.{then_given, then_failed}
use Rattle.script_engine.proofs.compiling.program_of_tokens.Goals as goal

pub returns-in_err-tree-clause-exact : goal.returns-in_err-tree-clause-exact
returns-in_err-tree-clause-exact c =
    let p = err_from_is_err_and c.from_residual.result c.from_residual.ensures.1 in
    rw (p.1, p.2) (then_failed (λ t. t) (λ e. e) (PlainParses c.args.text.now c.args.tokens.now) (TypesTree c.args.allow.now c.args.context.now) c.in_err-tree.field-0.0
    (record { exact = c.in_err-tree.ensures.exact; only = c.in_err-tree.ensures.only })).exact

pub returns-clause-exact : goal.returns-clause-exact
returns-clause-exact c =
    (then_given (λ e. e) c.program_of_tree.result (PlainParses c.args.text.now c.args.tokens.now) (TypesTree c.args.allow.now c.args.context.now) c.in_ok-tree.tree
    c.in_ok-tree.ensures.exact c.in_ok-tree.ensures.only (record { exact = c.program_of_tree.ensures.exact; only = c.program_of_tree.ensures.only })).exact
