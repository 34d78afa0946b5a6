-- What each node comes to, by what its parts come to.
use Rattle.std.proofs.Common.{◌≡◌, List}
use Rattle.pl_types.specs.declared.ty.Ty.{Ty}
use Rattle.pl_tree.specs.declared.tree.Argument.{Argument, out-Argument}
use Rattle.pl_tree.specs.declared.tree.Body.{Body, out-Body}
use Rattle.pl_tree.specs.declared.tree.Expr.{Expr, out-Expr}
use Rattle.pl_tree.specs.declared.tree.First.{First, out-First}
use Rattle.pl_tree.specs.declared.tree.LambdaBody.{LambdaBody, out-LambdaBody}
use Rattle.pl_tree.specs.declared.tree.Statement.{Statement, out-Statement}
use Rattle.pl_tree.specs.declared.tree.Block.{Block, out-Block}
use Rattle.pl_tree.specs.declared.tree.Catch.{Catch, out-Catch}
use Rattle.pl_tree.specs.declared.tree.Declaration.{Declaration, out-Declaration}
use Rattle.pl_tree.specs.declared.tree.Entry.{Entry, out-Entry}
use Rattle.pl_tree.specs.declared.tree.Variable.{Variable, out-Variable}
use Rattle.pl_tree.specs.declared.tree.Argument.TheOpen.{Argument-F, Body-F, Expr-F, First-F, LambdaBody-F, Statement-F, Block-F, Catch-F, Declaration-F, Entry-F, Variable-F}
use Rattle.pl_tree.specs.declared.tree.Argument.TheFolds.{map-Argument, map-Body, map-Expr, map-First, map-LambdaBody, map-Statement, map-Block, map-Catch, map-Declaration, map-Entry, map-Variable, fold_out-Argument, fold_out-Body, fold_out-Expr, fold_out-First, fold_out-LambdaBody, fold_out-Statement, fold_out-Block, fold_out-Catch, fold_out-Declaration, fold_out-Entry, fold_out-Variable}
use Rattle.typed_tree.specs.declared.statement.TypedVariable.{TypedVariable}
use Rattle.allowlist.specs.Allow.{AllowList}
use Rattle.typing_rules.specs.declared.header.Header.{Header}
use Rattle.typing_rules.specs.declared.part.Caught.{Caught}
use Rattle.typing_rules.specs.declared.part.Part.{Part}
use Rattle.typing_rules.specs.declared.part.Step.{Step}
use Rattle.typing_rules.specs.Doing.{Doing}
use Rattle.typing_rules.specs.Typing.{Reading, Doer, Braces, Seen, reading, argument, body, doer, braces, argument_step, body_step, expression_step, first_step, lambda_step, statement_step, block_step, catch_step, declaration_step, entry_step, variable_step}
use Rattle.typing_worklist.specs.Folds.{first, inner, handler, declaration, entry, variable}
use Rattle.typing_worklist.specs.Plans.{Open}

-- a node over what its parts come to
abbrev pub Over : (Type 0 → Type 0 → Type 0 → Type 0 → Type 0 → Type 0 → Type 0 → Type 0 → Type 0 → Type 0 → Type 0 → Type 0) → Type 0
Over F = F (Doing Part) (Doing Step) Reading (Doing Step) Seen Doer Braces (Doing Caught) Doer (Doing (Part × Part)) (Ty → Doing TypedVariable)

module _ (allow : AllowList) (hs : List Header) where
  abbrev pub argument_over : Open Argument-F → Over Argument-F
  argument_over = map-Argument Argument Body Expr First LambdaBody Statement Block Catch Declaration Entry Variable (Doing Part) (Doing Step) Reading (Doing Step) Seen Doer Braces (Doing Caught) Doer (Doing (Part × Part)) (Ty → Doing TypedVariable)
      (argument allow hs) (body allow hs) (reading allow hs) (first allow hs) (inner allow hs) (doer allow hs) (braces allow hs) (handler allow hs) (declaration allow hs) (entry allow hs) (variable allow hs)

  pub argument_is : (e : Argument) → argument allow hs e ≡ argument_step allow hs (argument_over (out-Argument e))
  argument_is = fold_out-Argument (Doing Part) (Doing Step) Reading (Doing Step) Seen Doer Braces (Doing Caught) Doer (Doing (Part × Part)) (Ty → Doing TypedVariable)
      (argument_step allow hs) (body_step allow hs) (expression_step allow hs) (first_step allow hs) (lambda_step allow hs) (statement_step allow hs) (block_step allow hs) (catch_step allow hs) (declaration_step allow hs) (entry_step allow hs) (variable_step allow hs)

  abbrev pub body_over : Open Body-F → Over Body-F
  body_over = map-Body Argument Body Expr First LambdaBody Statement Block Catch Declaration Entry Variable (Doing Part) (Doing Step) Reading (Doing Step) Seen Doer Braces (Doing Caught) Doer (Doing (Part × Part)) (Ty → Doing TypedVariable)
      (argument allow hs) (body allow hs) (reading allow hs) (first allow hs) (inner allow hs) (doer allow hs) (braces allow hs) (handler allow hs) (declaration allow hs) (entry allow hs) (variable allow hs)

  pub body_is : (e : Body) → body allow hs e ≡ body_step allow hs (body_over (out-Body e))
  body_is = fold_out-Body (Doing Part) (Doing Step) Reading (Doing Step) Seen Doer Braces (Doing Caught) Doer (Doing (Part × Part)) (Ty → Doing TypedVariable)
      (argument_step allow hs) (body_step allow hs) (expression_step allow hs) (first_step allow hs) (lambda_step allow hs) (statement_step allow hs) (block_step allow hs) (catch_step allow hs) (declaration_step allow hs) (entry_step allow hs) (variable_step allow hs)

  abbrev pub expression_over : Open Expr-F → Over Expr-F
  expression_over = map-Expr Argument Body Expr First LambdaBody Statement Block Catch Declaration Entry Variable (Doing Part) (Doing Step) Reading (Doing Step) Seen Doer Braces (Doing Caught) Doer (Doing (Part × Part)) (Ty → Doing TypedVariable)
      (argument allow hs) (body allow hs) (reading allow hs) (first allow hs) (inner allow hs) (doer allow hs) (braces allow hs) (handler allow hs) (declaration allow hs) (entry allow hs) (variable allow hs)

  pub expression_is : (e : Expr) → reading allow hs e ≡ expression_step allow hs (expression_over (out-Expr e))
  expression_is = fold_out-Expr (Doing Part) (Doing Step) Reading (Doing Step) Seen Doer Braces (Doing Caught) Doer (Doing (Part × Part)) (Ty → Doing TypedVariable)
      (argument_step allow hs) (body_step allow hs) (expression_step allow hs) (first_step allow hs) (lambda_step allow hs) (statement_step allow hs) (block_step allow hs) (catch_step allow hs) (declaration_step allow hs) (entry_step allow hs) (variable_step allow hs)

  abbrev pub first_over : Open First-F → Over First-F
  first_over = map-First Argument Body Expr First LambdaBody Statement Block Catch Declaration Entry Variable (Doing Part) (Doing Step) Reading (Doing Step) Seen Doer Braces (Doing Caught) Doer (Doing (Part × Part)) (Ty → Doing TypedVariable)
      (argument allow hs) (body allow hs) (reading allow hs) (first allow hs) (inner allow hs) (doer allow hs) (braces allow hs) (handler allow hs) (declaration allow hs) (entry allow hs) (variable allow hs)

  pub first_is : (e : First) → first allow hs e ≡ first_step allow hs (first_over (out-First e))
  first_is = fold_out-First (Doing Part) (Doing Step) Reading (Doing Step) Seen Doer Braces (Doing Caught) Doer (Doing (Part × Part)) (Ty → Doing TypedVariable)
      (argument_step allow hs) (body_step allow hs) (expression_step allow hs) (first_step allow hs) (lambda_step allow hs) (statement_step allow hs) (block_step allow hs) (catch_step allow hs) (declaration_step allow hs) (entry_step allow hs) (variable_step allow hs)

  abbrev pub lambda_over : Open LambdaBody-F → Over LambdaBody-F
  lambda_over = map-LambdaBody Argument Body Expr First LambdaBody Statement Block Catch Declaration Entry Variable (Doing Part) (Doing Step) Reading (Doing Step) Seen Doer Braces (Doing Caught) Doer (Doing (Part × Part)) (Ty → Doing TypedVariable)
      (argument allow hs) (body allow hs) (reading allow hs) (first allow hs) (inner allow hs) (doer allow hs) (braces allow hs) (handler allow hs) (declaration allow hs) (entry allow hs) (variable allow hs)

  pub lambda_is : (e : LambdaBody) → inner allow hs e ≡ lambda_step allow hs (lambda_over (out-LambdaBody e))
  lambda_is = fold_out-LambdaBody (Doing Part) (Doing Step) Reading (Doing Step) Seen Doer Braces (Doing Caught) Doer (Doing (Part × Part)) (Ty → Doing TypedVariable)
      (argument_step allow hs) (body_step allow hs) (expression_step allow hs) (first_step allow hs) (lambda_step allow hs) (statement_step allow hs) (block_step allow hs) (catch_step allow hs) (declaration_step allow hs) (entry_step allow hs) (variable_step allow hs)

  abbrev pub statement_over : Open Statement-F → Over Statement-F
  statement_over = map-Statement Argument Body Expr First LambdaBody Statement Block Catch Declaration Entry Variable (Doing Part) (Doing Step) Reading (Doing Step) Seen Doer Braces (Doing Caught) Doer (Doing (Part × Part)) (Ty → Doing TypedVariable)
      (argument allow hs) (body allow hs) (reading allow hs) (first allow hs) (inner allow hs) (doer allow hs) (braces allow hs) (handler allow hs) (declaration allow hs) (entry allow hs) (variable allow hs)

  pub statement_is : (e : Statement) → doer allow hs e ≡ statement_step allow hs (statement_over (out-Statement e))
  statement_is = fold_out-Statement (Doing Part) (Doing Step) Reading (Doing Step) Seen Doer Braces (Doing Caught) Doer (Doing (Part × Part)) (Ty → Doing TypedVariable)
      (argument_step allow hs) (body_step allow hs) (expression_step allow hs) (first_step allow hs) (lambda_step allow hs) (statement_step allow hs) (block_step allow hs) (catch_step allow hs) (declaration_step allow hs) (entry_step allow hs) (variable_step allow hs)

  abbrev pub block_over : Open Block-F → Over Block-F
  block_over = map-Block Argument Body Expr First LambdaBody Statement Block Catch Declaration Entry Variable (Doing Part) (Doing Step) Reading (Doing Step) Seen Doer Braces (Doing Caught) Doer (Doing (Part × Part)) (Ty → Doing TypedVariable)
      (argument allow hs) (body allow hs) (reading allow hs) (first allow hs) (inner allow hs) (doer allow hs) (braces allow hs) (handler allow hs) (declaration allow hs) (entry allow hs) (variable allow hs)

  pub block_is : (e : Block) → braces allow hs e ≡ block_step allow hs (block_over (out-Block e))
  block_is = fold_out-Block (Doing Part) (Doing Step) Reading (Doing Step) Seen Doer Braces (Doing Caught) Doer (Doing (Part × Part)) (Ty → Doing TypedVariable)
      (argument_step allow hs) (body_step allow hs) (expression_step allow hs) (first_step allow hs) (lambda_step allow hs) (statement_step allow hs) (block_step allow hs) (catch_step allow hs) (declaration_step allow hs) (entry_step allow hs) (variable_step allow hs)

  abbrev pub catch_over : Open Catch-F → Over Catch-F
  catch_over = map-Catch Argument Body Expr First LambdaBody Statement Block Catch Declaration Entry Variable (Doing Part) (Doing Step) Reading (Doing Step) Seen Doer Braces (Doing Caught) Doer (Doing (Part × Part)) (Ty → Doing TypedVariable)
      (argument allow hs) (body allow hs) (reading allow hs) (first allow hs) (inner allow hs) (doer allow hs) (braces allow hs) (handler allow hs) (declaration allow hs) (entry allow hs) (variable allow hs)

  pub catch_is : (e : Catch) → handler allow hs e ≡ catch_step allow hs (catch_over (out-Catch e))
  catch_is = fold_out-Catch (Doing Part) (Doing Step) Reading (Doing Step) Seen Doer Braces (Doing Caught) Doer (Doing (Part × Part)) (Ty → Doing TypedVariable)
      (argument_step allow hs) (body_step allow hs) (expression_step allow hs) (first_step allow hs) (lambda_step allow hs) (statement_step allow hs) (block_step allow hs) (catch_step allow hs) (declaration_step allow hs) (entry_step allow hs) (variable_step allow hs)

  abbrev pub declaration_over : Open Declaration-F → Over Declaration-F
  declaration_over = map-Declaration Argument Body Expr First LambdaBody Statement Block Catch Declaration Entry Variable (Doing Part) (Doing Step) Reading (Doing Step) Seen Doer Braces (Doing Caught) Doer (Doing (Part × Part)) (Ty → Doing TypedVariable)
      (argument allow hs) (body allow hs) (reading allow hs) (first allow hs) (inner allow hs) (doer allow hs) (braces allow hs) (handler allow hs) (declaration allow hs) (entry allow hs) (variable allow hs)

  pub declaration_is : (e : Declaration) → declaration allow hs e ≡ declaration_step allow hs (declaration_over (out-Declaration e))
  declaration_is = fold_out-Declaration (Doing Part) (Doing Step) Reading (Doing Step) Seen Doer Braces (Doing Caught) Doer (Doing (Part × Part)) (Ty → Doing TypedVariable)
      (argument_step allow hs) (body_step allow hs) (expression_step allow hs) (first_step allow hs) (lambda_step allow hs) (statement_step allow hs) (block_step allow hs) (catch_step allow hs) (declaration_step allow hs) (entry_step allow hs) (variable_step allow hs)

  abbrev pub entry_over : Open Entry-F → Over Entry-F
  entry_over = map-Entry Argument Body Expr First LambdaBody Statement Block Catch Declaration Entry Variable (Doing Part) (Doing Step) Reading (Doing Step) Seen Doer Braces (Doing Caught) Doer (Doing (Part × Part)) (Ty → Doing TypedVariable)
      (argument allow hs) (body allow hs) (reading allow hs) (first allow hs) (inner allow hs) (doer allow hs) (braces allow hs) (handler allow hs) (declaration allow hs) (entry allow hs) (variable allow hs)

  pub entry_is : (e : Entry) → entry allow hs e ≡ entry_step allow hs (entry_over (out-Entry e))
  entry_is = fold_out-Entry (Doing Part) (Doing Step) Reading (Doing Step) Seen Doer Braces (Doing Caught) Doer (Doing (Part × Part)) (Ty → Doing TypedVariable)
      (argument_step allow hs) (body_step allow hs) (expression_step allow hs) (first_step allow hs) (lambda_step allow hs) (statement_step allow hs) (block_step allow hs) (catch_step allow hs) (declaration_step allow hs) (entry_step allow hs) (variable_step allow hs)

  abbrev pub variable_over : Open Variable-F → Over Variable-F
  variable_over = map-Variable Argument Body Expr First LambdaBody Statement Block Catch Declaration Entry Variable (Doing Part) (Doing Step) Reading (Doing Step) Seen Doer Braces (Doing Caught) Doer (Doing (Part × Part)) (Ty → Doing TypedVariable)
      (argument allow hs) (body allow hs) (reading allow hs) (first allow hs) (inner allow hs) (doer allow hs) (braces allow hs) (handler allow hs) (declaration allow hs) (entry allow hs) (variable allow hs)

  pub variable_is : (e : Variable) → variable allow hs e ≡ variable_step allow hs (variable_over (out-Variable e))
  variable_is = fold_out-Variable (Doing Part) (Doing Step) Reading (Doing Step) Seen Doer Braces (Doing Caught) Doer (Doing (Part × Part)) (Ty → Doing TypedVariable)
      (argument_step allow hs) (body_step allow hs) (expression_step allow hs) (first_step allow hs) (lambda_step allow hs) (statement_step allow hs) (block_step allow hs) (catch_step allow hs) (declaration_step allow hs) (entry_step allow hs) (variable_step allow hs)
