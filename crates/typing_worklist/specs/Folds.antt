-- What the other kinds of nodes come to.
use Rattle.std.specs.Prelude.{List, Option, Some, None}
use Rattle.pl_types.specs.declared.ty.Ty.{Ty}
use Rattle.pl_tree.specs.declared.tree.Argument.{Argument}
use Rattle.pl_tree.specs.declared.tree.Body.{Body}
use Rattle.pl_tree.specs.declared.tree.Catch.{Catch}
use Rattle.pl_tree.specs.declared.tree.Declaration.{Declaration}
use Rattle.pl_tree.specs.declared.tree.Entry.{Entry}
use Rattle.pl_tree.specs.declared.tree.Expr.{Expr}
use Rattle.pl_tree.specs.declared.tree.First.{First}
use Rattle.pl_tree.specs.declared.tree.LambdaBody.{LambdaBody}
use Rattle.pl_tree.specs.declared.tree.Variable.{Variable}
use Rattle.pl_tree.specs.declared.tree.Argument.TheFolds.{fold-First, fold-LambdaBody, fold-Catch, fold-Declaration, fold-Entry, fold-Variable}
use Rattle.typed_tree.specs.declared.statement.TypedVariable.{TypedVariable}
use Rattle.allowlist.specs.Allow.{AllowList}
use Rattle.typing_rules.specs.declared.header.Header.{Header}
use Rattle.typing_rules.specs.declared.part.Caught.{Caught}
use Rattle.typing_rules.specs.declared.part.Part.{Part}
use Rattle.typing_rules.specs.declared.part.Step.{Step}
use Rattle.typing_rules.specs.Doing.{Doing}
use Rattle.typing_rules.specs.Typing.{Reading, Doer, Braces, Seen, reading, argument, body, argument_step, body_step, expression_step, first_step, lambda_step, statement_step, block_step, catch_step, declaration_step, entry_step, variable_step}

abbrev pub first : AllowList → List Header → First → Doing Step
first allow hs = fold-First (Doing Part) (Doing Step) Reading (Doing Step) Seen Doer Braces (Doing Caught) Doer (Doing (Part × Part)) (Ty → Doing TypedVariable)
    (argument_step allow hs) (body_step allow hs) (expression_step allow hs) (first_step allow hs) (lambda_step allow hs) (statement_step allow hs) (block_step allow hs) (catch_step allow hs) (declaration_step allow hs) (entry_step allow hs) (variable_step allow hs)

abbrev pub inner : AllowList → List Header → LambdaBody → Seen
inner allow hs = fold-LambdaBody (Doing Part) (Doing Step) Reading (Doing Step) Seen Doer Braces (Doing Caught) Doer (Doing (Part × Part)) (Ty → Doing TypedVariable)
    (argument_step allow hs) (body_step allow hs) (expression_step allow hs) (first_step allow hs) (lambda_step allow hs) (statement_step allow hs) (block_step allow hs) (catch_step allow hs) (declaration_step allow hs) (entry_step allow hs) (variable_step allow hs)

abbrev pub handler : AllowList → List Header → Catch → Doing Caught
handler allow hs = fold-Catch (Doing Part) (Doing Step) Reading (Doing Step) Seen Doer Braces (Doing Caught) Doer (Doing (Part × Part)) (Ty → Doing TypedVariable)
    (argument_step allow hs) (body_step allow hs) (expression_step allow hs) (first_step allow hs) (lambda_step allow hs) (statement_step allow hs) (block_step allow hs) (catch_step allow hs) (declaration_step allow hs) (entry_step allow hs) (variable_step allow hs)

abbrev pub declaration : AllowList → List Header → Declaration → Doer
declaration allow hs = fold-Declaration (Doing Part) (Doing Step) Reading (Doing Step) Seen Doer Braces (Doing Caught) Doer (Doing (Part × Part)) (Ty → Doing TypedVariable)
    (argument_step allow hs) (body_step allow hs) (expression_step allow hs) (first_step allow hs) (lambda_step allow hs) (statement_step allow hs) (block_step allow hs) (catch_step allow hs) (declaration_step allow hs) (entry_step allow hs) (variable_step allow hs)

abbrev pub entry : AllowList → List Header → Entry → Doing (Part × Part)
entry allow hs = fold-Entry (Doing Part) (Doing Step) Reading (Doing Step) Seen Doer Braces (Doing Caught) Doer (Doing (Part × Part)) (Ty → Doing TypedVariable)
    (argument_step allow hs) (body_step allow hs) (expression_step allow hs) (first_step allow hs) (lambda_step allow hs) (statement_step allow hs) (block_step allow hs) (catch_step allow hs) (declaration_step allow hs) (entry_step allow hs) (variable_step allow hs)

abbrev pub variable : AllowList → List Header → Variable → Ty → Doing TypedVariable
variable allow hs = fold-Variable (Doing Part) (Doing Step) Reading (Doing Step) Seen Doer Braces (Doing Caught) Doer (Doing (Part × Part)) (Ty → Doing TypedVariable)
    (argument_step allow hs) (body_step allow hs) (expression_step allow hs) (first_step allow hs) (lambda_step allow hs) (statement_step allow hs) (block_step allow hs) (catch_step allow hs) (declaration_step allow hs) (entry_step allow hs) (variable_step allow hs)

abbrev pub reading_if : AllowList → List Header → Option Expr → Option (Reading)
reading_if allow hs None = None
reading_if allow hs (Some e) = Some (reading allow hs e)

abbrev pub argument_if : AllowList → List Header → Option Argument → Option (Doing Part)
argument_if allow hs None = None
argument_if allow hs (Some e) = Some (argument allow hs e)

abbrev pub body_if : AllowList → List Header → Option Body → Option (Doing Step)
body_if allow hs None = None
body_if allow hs (Some e) = Some (body allow hs e)

abbrev pub first_if : AllowList → List Header → Option First → Option (Doing Step)
first_if allow hs None = None
first_if allow hs (Some e) = Some (first allow hs e)
