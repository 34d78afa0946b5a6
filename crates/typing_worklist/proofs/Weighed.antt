-- What each node weighs, by what its parts weigh.
use Rattle.std.proofs.Common.{◌≡◌, ℕ}
use Rattle.pl_tree.specs.declared.tree.Argument.{Argument, out-Argument}
use Rattle.pl_tree.specs.declared.tree.Body.{Body, out-Body}
use Rattle.pl_tree.specs.declared.tree.Expr.{Expr, out-Expr}
use Rattle.pl_tree.specs.declared.tree.First.{First, out-First}
use Rattle.pl_tree.specs.declared.tree.LambdaBody.{LambdaBody, out-LambdaBody}
use Rattle.pl_tree.specs.declared.tree.Statement.{Statement, out-Statement}
use Rattle.pl_tree.specs.declared.tree.Block.{Block, out-Block}
use Rattle.pl_tree.specs.declared.tree.Catch.{Catch, out-Catch}
use Rattle.pl_tree.specs.declared.tree.Declaration.{Declaration, out-Declaration}
use Rattle.pl_tree.specs.declared.tree.Entry.{Entry, out-Entry}
use Rattle.pl_tree.specs.declared.tree.Variable.{Variable, out-Variable}
use Rattle.pl_tree.specs.declared.tree.Argument.TheOpen.{Argument-F, Body-F, Expr-F, First-F, LambdaBody-F, Statement-F, Block-F, Catch-F, Declaration-F, Entry-F, Variable-F}
use Rattle.pl_tree.specs.declared.tree.Argument.TheFolds.{map-Argument, map-Body, map-Expr, map-First, map-LambdaBody, map-Statement, map-Block, map-Catch, map-Declaration, map-Entry, map-Variable, fold_out-Argument, fold_out-Body, fold_out-Expr, fold_out-First, fold_out-LambdaBody, fold_out-Statement, fold_out-Block, fold_out-Catch, fold_out-Declaration, fold_out-Entry, fold_out-Variable}
use Rattle.typing_worklist.specs.Plans.{Open}
use Rattle.typing_worklist.specs.Weights.{Weighed, argument_step, body_step, expression_step, first_step, lambda_step, statement_step, block_step, catch_step, declaration_step, entry_step, variable_step, argument, body, expression, first, inner, statement, block, handler, declaration, entry, variable}

abbrev pub argument_over : Open Argument-F → Weighed Argument-F
argument_over = map-Argument Argument Body Expr First LambdaBody Statement Block Catch Declaration Entry Variable ℕ ℕ ℕ ℕ ℕ ℕ ℕ ℕ ℕ ℕ ℕ
    argument body expression first inner statement block handler declaration entry variable

pub argument_weighs : (e : Argument) → argument e ≡ argument_step (argument_over (out-Argument e))
argument_weighs = fold_out-Argument ℕ ℕ ℕ ℕ ℕ ℕ ℕ ℕ ℕ ℕ ℕ
    argument_step body_step expression_step first_step lambda_step statement_step block_step catch_step declaration_step entry_step variable_step

abbrev pub body_over : Open Body-F → Weighed Body-F
body_over = map-Body Argument Body Expr First LambdaBody Statement Block Catch Declaration Entry Variable ℕ ℕ ℕ ℕ ℕ ℕ ℕ ℕ ℕ ℕ ℕ
    argument body expression first inner statement block handler declaration entry variable

pub body_weighs : (e : Body) → body e ≡ body_step (body_over (out-Body e))
body_weighs = fold_out-Body ℕ ℕ ℕ ℕ ℕ ℕ ℕ ℕ ℕ ℕ ℕ
    argument_step body_step expression_step first_step lambda_step statement_step block_step catch_step declaration_step entry_step variable_step

abbrev pub expression_over : Open Expr-F → Weighed Expr-F
expression_over = map-Expr Argument Body Expr First LambdaBody Statement Block Catch Declaration Entry Variable ℕ ℕ ℕ ℕ ℕ ℕ ℕ ℕ ℕ ℕ ℕ
    argument body expression first inner statement block handler declaration entry variable

pub expression_weighs : (e : Expr) → expression e ≡ expression_step (expression_over (out-Expr e))
expression_weighs = fold_out-Expr ℕ ℕ ℕ ℕ ℕ ℕ ℕ ℕ ℕ ℕ ℕ
    argument_step body_step expression_step first_step lambda_step statement_step block_step catch_step declaration_step entry_step variable_step

abbrev pub first_over : Open First-F → Weighed First-F
first_over = map-First Argument Body Expr First LambdaBody Statement Block Catch Declaration Entry Variable ℕ ℕ ℕ ℕ ℕ ℕ ℕ ℕ ℕ ℕ ℕ
    argument body expression first inner statement block handler declaration entry variable

pub first_weighs : (e : First) → first e ≡ first_step (first_over (out-First e))
first_weighs = fold_out-First ℕ ℕ ℕ ℕ ℕ ℕ ℕ ℕ ℕ ℕ ℕ
    argument_step body_step expression_step first_step lambda_step statement_step block_step catch_step declaration_step entry_step variable_step

abbrev pub inner_over : Open LambdaBody-F → Weighed LambdaBody-F
inner_over = map-LambdaBody Argument Body Expr First LambdaBody Statement Block Catch Declaration Entry Variable ℕ ℕ ℕ ℕ ℕ ℕ ℕ ℕ ℕ ℕ ℕ
    argument body expression first inner statement block handler declaration entry variable

pub inner_weighs : (e : LambdaBody) → inner e ≡ lambda_step (inner_over (out-LambdaBody e))
inner_weighs = fold_out-LambdaBody ℕ ℕ ℕ ℕ ℕ ℕ ℕ ℕ ℕ ℕ ℕ
    argument_step body_step expression_step first_step lambda_step statement_step block_step catch_step declaration_step entry_step variable_step

abbrev pub statement_over : Open Statement-F → Weighed Statement-F
statement_over = map-Statement Argument Body Expr First LambdaBody Statement Block Catch Declaration Entry Variable ℕ ℕ ℕ ℕ ℕ ℕ ℕ ℕ ℕ ℕ ℕ
    argument body expression first inner statement block handler declaration entry variable

pub statement_weighs : (e : Statement) → statement e ≡ statement_step (statement_over (out-Statement e))
statement_weighs = fold_out-Statement ℕ ℕ ℕ ℕ ℕ ℕ ℕ ℕ ℕ ℕ ℕ
    argument_step body_step expression_step first_step lambda_step statement_step block_step catch_step declaration_step entry_step variable_step

abbrev pub block_over : Open Block-F → Weighed Block-F
block_over = map-Block Argument Body Expr First LambdaBody Statement Block Catch Declaration Entry Variable ℕ ℕ ℕ ℕ ℕ ℕ ℕ ℕ ℕ ℕ ℕ
    argument body expression first inner statement block handler declaration entry variable

pub block_weighs : (e : Block) → block e ≡ block_step (block_over (out-Block e))
block_weighs = fold_out-Block ℕ ℕ ℕ ℕ ℕ ℕ ℕ ℕ ℕ ℕ ℕ
    argument_step body_step expression_step first_step lambda_step statement_step block_step catch_step declaration_step entry_step variable_step

abbrev pub handler_over : Open Catch-F → Weighed Catch-F
handler_over = map-Catch Argument Body Expr First LambdaBody Statement Block Catch Declaration Entry Variable ℕ ℕ ℕ ℕ ℕ ℕ ℕ ℕ ℕ ℕ ℕ
    argument body expression first inner statement block handler declaration entry variable

pub handler_weighs : (e : Catch) → handler e ≡ catch_step (handler_over (out-Catch e))
handler_weighs = fold_out-Catch ℕ ℕ ℕ ℕ ℕ ℕ ℕ ℕ ℕ ℕ ℕ
    argument_step body_step expression_step first_step lambda_step statement_step block_step catch_step declaration_step entry_step variable_step

abbrev pub declaration_over : Open Declaration-F → Weighed Declaration-F
declaration_over = map-Declaration Argument Body Expr First LambdaBody Statement Block Catch Declaration Entry Variable ℕ ℕ ℕ ℕ ℕ ℕ ℕ ℕ ℕ ℕ ℕ
    argument body expression first inner statement block handler declaration entry variable

pub declaration_weighs : (e : Declaration) → declaration e ≡ declaration_step (declaration_over (out-Declaration e))
declaration_weighs = fold_out-Declaration ℕ ℕ ℕ ℕ ℕ ℕ ℕ ℕ ℕ ℕ ℕ
    argument_step body_step expression_step first_step lambda_step statement_step block_step catch_step declaration_step entry_step variable_step

abbrev pub entry_over : Open Entry-F → Weighed Entry-F
entry_over = map-Entry Argument Body Expr First LambdaBody Statement Block Catch Declaration Entry Variable ℕ ℕ ℕ ℕ ℕ ℕ ℕ ℕ ℕ ℕ ℕ
    argument body expression first inner statement block handler declaration entry variable

pub entry_weighs : (e : Entry) → entry e ≡ entry_step (entry_over (out-Entry e))
entry_weighs = fold_out-Entry ℕ ℕ ℕ ℕ ℕ ℕ ℕ ℕ ℕ ℕ ℕ
    argument_step body_step expression_step first_step lambda_step statement_step block_step catch_step declaration_step entry_step variable_step

abbrev pub variable_over : Open Variable-F → Weighed Variable-F
variable_over = map-Variable Argument Body Expr First LambdaBody Statement Block Catch Declaration Entry Variable ℕ ℕ ℕ ℕ ℕ ℕ ℕ ℕ ℕ ℕ ℕ
    argument body expression first inner statement block handler declaration entry variable

pub variable_weighs : (e : Variable) → variable e ≡ variable_step (variable_over (out-Variable e))
variable_weighs = fold_out-Variable ℕ ℕ ℕ ℕ ℕ ℕ ℕ ℕ ℕ ℕ ℕ
    argument_step body_step expression_step first_step lambda_step statement_step block_step catch_step declaration_step entry_step variable_step
