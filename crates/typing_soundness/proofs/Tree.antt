-- Every tree's typing gives what agrees: by induction over trees.
use Rattle.std.proofs.Common.{◌≡◌, ℕ, Bool, false, List, [], ◌∷◌, map, Option, Some, None, Ok, sym, subst}
use Rattle.pl_types.specs.declared.ty.Ty.{Ty}
use Rattle.pl_types.specs.declared.ty.Ty.TheVariants as t
use Rattle.pl_tree.specs.declared.operator.Access.{Access}
use Rattle.pl_tree.specs.declared.operator.Access.TheVariants as through
use Rattle.pl_tree.specs.declared.operator.BinaryOperator.{BinaryOperator}
use Rattle.pl_tree.specs.declared.operator.Step.{Step as TreeStep}
use Rattle.pl_tree.specs.declared.operator.UnaryOperator.{UnaryOperator}
use Rattle.pl_tree.specs.declared.operator.UnaryOperator.TheVariants as sign
use Rattle.pl_tree.specs.declared.tree.Parameter.{Parameter}
use Rattle.pl_tree.specs.declared.tree.Spelled.{Spelled}
use Rattle.pl_tree.specs.declared.tree.TypeName.{TypeName}
use Rattle.pl_tree.specs.declared.tree.Argument.{Argument, roll-Argument}
use Rattle.pl_tree.specs.declared.tree.Body.{Body, roll-Body}
use Rattle.pl_tree.specs.declared.tree.Expr.{Expr, roll-Expr}
use Rattle.pl_tree.specs.declared.tree.First.{First, roll-First}
use Rattle.pl_tree.specs.declared.tree.LambdaBody.{LambdaBody, roll-LambdaBody}
use Rattle.pl_tree.specs.declared.tree.Statement.{Statement, roll-Statement}
use Rattle.pl_tree.specs.declared.tree.Block.{Block, roll-Block}
use Rattle.pl_tree.specs.declared.tree.Catch.{Catch, roll-Catch}
use Rattle.pl_tree.specs.declared.tree.Declaration.{Declaration, roll-Declaration}
use Rattle.pl_tree.specs.declared.tree.Entry.{Entry, roll-Entry}
use Rattle.pl_tree.specs.declared.tree.Variable.{Variable, roll-Variable}
use Rattle.pl_tree.specs.declared.tree.Argument.TheOpen.{Argument-F, Body-F, Expr-F, First-F, LambdaBody-F, Statement-F, Block-F, Catch-F, Declaration-F, Entry-F, Variable-F}
use Rattle.pl_tree.specs.declared.tree.Argument.TheFolds.{fold-First, fold-LambdaBody, fold-Catch, fold-Declaration, fold-Entry, fold-Variable, fold-roll-Argument, fold-roll-Body, fold-roll-Expr, fold-roll-First, fold-roll-LambdaBody, fold-roll-Statement, fold-roll-Block, fold-roll-Catch, fold-roll-Declaration, fold-roll-Entry, fold-roll-Variable, map-Argument, map-Body, map-Expr, map-First, map-LambdaBody, map-Statement, map-Block, map-Catch, map-Declaration, map-Entry, map-Variable, ind-Statement, ind-Block}
use Rattle.typed_tree.specs.declared.operation.Gives.{Gives}
use Rattle.typed_tree.specs.declared.operation.Gives.TheVariants as gv
use Rattle.typed_tree.specs.declared.statement.TypedVariable.{TypedVariable}
use Rattle.typing_rules.specs.declared.header.Header.{Header}
use Rattle.typing_rules.specs.declared.part.Caught.{Caught}
use Rattle.typing_rules.specs.declared.part.Part.{Part}
use Rattle.typing_rules.specs.declared.part.Step.{Step}
use Rattle.typing_rules.specs.declared.state.State.{State}
use Rattle.typing_rules.specs.State.{declared as declares}
use Rattle.pl_types.specs.declared.rules.TheConstants.{UNKNOWN_MEMBER}
use Rattle.typing_rules.specs.Outcomes.{Out, refuse, refusal}
use Rattle.typing_rules.specs.Doing.{Doing, ◌>>=◌, pure, and_then, by_rule, looking}
use Rattle.typing_rules.specs.Rules.Types.{type_of}
use Rattle.typing_rules.specs.Rules.Nodes.{bracketed}
use Rattle.typing_rules.specs.Rules.Literals.{integer, negated_integer, constant, text}
use Rattle.typing_rules.specs.Rules.Casts.{asked}
use Rattle.typing_rules.specs.Rules.Operators.{binary_of, unary_of, choice_of, elvis_of, instance_of}
use Rattle.typing_rules.specs.Rules.Places.{local, written, assign_of, step_of}
use Rattle.typing_rules.specs.Rules.Calls.{call_of}
use Rattle.typing_rules.specs.Rules.Accesses.{read_of, numbered_of, index_of}
use Rattle.typing_rules.specs.Rules.Locations.{name_location, number_location, index_location}
use Rattle.typing_rules.specs.Rules.Containers.{list_of, map_of, array_of, array_with}
use Rattle.typing_rules.specs.Rules.Members.{field_of, method_of, static_of, new_of}
use Rattle.typing_rules.specs.Rules.Statements.{escapes_if, expression_of, break_of, continue_of, return_of, nothing_returned, throw_of, deed}
use Rattle.typing_rules.specs.Typing.{Reading, Doer, Braces, Seen, read_at, unbuilt, parts, value_of, entries, alone, parameter_type, lambda_parameters, lambda, member_place, element, element_place, call, read, method, initial, returned, loop_step, argument_step, body_step, unary, expression_step, first_step, lambda_step, statement_step, block_step, catch_step, declaration_step, entry_step, variable_step, reading, argument, body, doer, braces}
use Rattle.source_typing.specs.Agreeing.{Known as Script}
use Rattle.typing_soundness.proofs.Types.{IsBuilt, def_built, def_aim}
use Rattle.typing_soundness.proofs.Parts.{integer_is, negated_is, constant_part, text_part, bracketed_is, asked_is, binary_is, unary_is, choice_part, elvis_part, instance_part}
use Rattle.typing_soundness.proofs.Names.{Known, in_sight, AllParts, Heads, local_part, written_place, assign_part, step_part, call_part}
use Rattle.typing_soundness.proofs.Members.{method_part, static_part, new_part, field_part}
use Rattle.typing_soundness.proofs.Accesses.{read_part, numbered_part, index_part}
use Rattle.typing_soundness.proofs.Locations.{name_place, number_place, index_place}
use Rattle.typing_soundness.proofs.Containers.{AreEven, list_part, map_part, array_part, array_with_part}
use Rattle.typing_soundness.proofs.Loops.{each_step}
use Rattle.typing_soundness.proofs.Values.{Value, ruled, never, never_told, Looked, looked, in_order, followed, rule_looked, pure_looked, changing_looked, seen_looked, ends_unbuilt, is_unbuilt, type_is, PartAt, PlaceAt, NamesAre, ReadingIs, one_part, two_parts, one_place, two_place, three_parts, looks, by_one_rule, plain_is, type_name_is, placed_is, fixed_place, minus_part}
use Rattle.typing_soundness.proofs.Steps.{Kind, of_step, of_first, Steps, Bodies, StepAt, FirstAt, steps_of, firsts_of, first_is_step, declared_known, deed_first, expression_step as expression_agrees, return_step, throw_step, nothing_step, break_step, continue_step}
use Rattle.typing_soundness.proofs.Compounds.{condition_is, no_condition, update_is, no_update, RunsAlone, scoped_is, stmts_if, perhaps_some, perhaps_none, row, block_body, if_step, while_step, for_step, for_first_step, do_step, CaughtAt, AllCatches, catch_value, try_step, AllSteps, block_steps, BeginAt, initial_some, initial_none, one_variable, variable_is, AllVariables, declaration_step as declaration_agrees}

module _ (funs : Script) (hs : List Header) (heads : Heads funs hs) where
  abbrev first : First → Doing Step
  first = fold-First (Doing Part) (Doing Step) Reading (Doing Step) Seen Doer Braces (Doing Caught) Doer (Doing (Part × Part)) (Ty → Doing TypedVariable) (argument_step funs.allowed hs) (body_step funs.allowed hs) (expression_step funs.allowed hs) (first_step funs.allowed hs) (lambda_step funs.allowed hs) (statement_step funs.allowed hs) (block_step funs.allowed hs) (catch_step funs.allowed hs) (declaration_step funs.allowed hs) (entry_step funs.allowed hs) (variable_step funs.allowed hs)

  abbrev inner : LambdaBody → Seen
  inner = fold-LambdaBody (Doing Part) (Doing Step) Reading (Doing Step) Seen Doer Braces (Doing Caught) Doer (Doing (Part × Part)) (Ty → Doing TypedVariable) (argument_step funs.allowed hs) (body_step funs.allowed hs) (expression_step funs.allowed hs) (first_step funs.allowed hs) (lambda_step funs.allowed hs) (statement_step funs.allowed hs) (block_step funs.allowed hs) (catch_step funs.allowed hs) (declaration_step funs.allowed hs) (entry_step funs.allowed hs) (variable_step funs.allowed hs)

  abbrev handler : Catch → Doing Caught
  handler = fold-Catch (Doing Part) (Doing Step) Reading (Doing Step) Seen Doer Braces (Doing Caught) Doer (Doing (Part × Part)) (Ty → Doing TypedVariable) (argument_step funs.allowed hs) (body_step funs.allowed hs) (expression_step funs.allowed hs) (first_step funs.allowed hs) (lambda_step funs.allowed hs) (statement_step funs.allowed hs) (block_step funs.allowed hs) (catch_step funs.allowed hs) (declaration_step funs.allowed hs) (entry_step funs.allowed hs) (variable_step funs.allowed hs)

  abbrev declaration : Declaration → Doer
  declaration = fold-Declaration (Doing Part) (Doing Step) Reading (Doing Step) Seen Doer Braces (Doing Caught) Doer (Doing (Part × Part)) (Ty → Doing TypedVariable) (argument_step funs.allowed hs) (body_step funs.allowed hs) (expression_step funs.allowed hs) (first_step funs.allowed hs) (lambda_step funs.allowed hs) (statement_step funs.allowed hs) (block_step funs.allowed hs) (catch_step funs.allowed hs) (declaration_step funs.allowed hs) (entry_step funs.allowed hs) (variable_step funs.allowed hs)

  abbrev entry : Entry → Doing (Part × Part)
  entry = fold-Entry (Doing Part) (Doing Step) Reading (Doing Step) Seen Doer Braces (Doing Caught) Doer (Doing (Part × Part)) (Ty → Doing TypedVariable) (argument_step funs.allowed hs) (body_step funs.allowed hs) (expression_step funs.allowed hs) (first_step funs.allowed hs) (lambda_step funs.allowed hs) (statement_step funs.allowed hs) (block_step funs.allowed hs) (catch_step funs.allowed hs) (declaration_step funs.allowed hs) (entry_step funs.allowed hs) (variable_step funs.allowed hs)

  abbrev variable : Variable → Ty → Doing TypedVariable
  variable = fold-Variable (Doing Part) (Doing Step) Reading (Doing Step) Seen Doer Braces (Doing Caught) Doer (Doing (Part × Part)) (Ty → Doing TypedVariable) (argument_step funs.allowed hs) (body_step funs.allowed hs) (expression_step funs.allowed hs) (first_step funs.allowed hs) (lambda_step funs.allowed hs) (statement_step funs.allowed hs) (block_step funs.allowed hs) (catch_step funs.allowed hs) (declaration_step funs.allowed hs) (entry_step funs.allowed hs) (variable_step funs.allowed hs)

  abbrev OfArgument : Argument → Type 0
  OfArgument x = Value (PartAt funs) (argument funs.allowed hs x)

  abbrev OfBody : Body → Type 0
  OfBody x = Bodies funs (body funs.allowed hs x)

  abbrev OfExpr : Expr → Type 0
  OfExpr x = ReadingIs funs (reading funs.allowed hs x)

  abbrev OfFirst : First → Type 0
  OfFirst x = Steps funs (of_first funs) (first x)

  abbrev OfLambdaBody : LambdaBody → Type 0
  OfLambdaBody x = Looked (inner x)

  abbrev OfStatement : Statement → Type 0
  OfStatement x = (last : Bool) → Steps funs (of_step funs) ((doer funs.allowed hs x).typed last)

  abbrev OfBlock : Block → Type 0
  OfBlock x = Steps funs (row funs) (braces funs.allowed hs x).steps

  abbrev OfCatch : Catch → Type 0
  OfCatch x = Value (CaughtAt funs) (handler x)

  abbrev OfDeclaration : Declaration → Type 0
  OfDeclaration x = (last : Bool) → Steps funs (of_first funs) ((declaration x).typed last)

  -- a key, and its value
  abbrev EntryAt : State → Part × Part → Type 0
  EntryAt s p = PartAt funs s p.0 × PartAt funs s p.1

  abbrev OfEntry : Entry → Type 0
  OfEntry x = Value EntryAt (entry x)

  abbrev OfVariable : Variable → Type 0
  OfVariable x = (of : Ty) → IsBuilt of → Steps funs (one_variable funs) (variable x of)

  abbrev WithArgument : Type 0
  WithArgument = Argument-F ((x : Argument) × OfArgument x) ((x : Body) × OfBody x) ((x : Expr) × OfExpr x) ((x : First) × OfFirst x) ((x : LambdaBody) × OfLambdaBody x) ((x : Statement) × OfStatement x) ((x : Block) × OfBlock x) ((x : Catch) × OfCatch x) ((x : Declaration) × OfDeclaration x) ((x : Entry) × OfEntry x) ((x : Variable) × OfVariable x)

  abbrev bareArgument : WithArgument → Argument-F Argument Body Expr First LambdaBody Statement Block Catch Declaration Entry Variable
  bareArgument y = map-Argument ((x : Argument) × OfArgument x) ((x : Body) × OfBody x) ((x : Expr) × OfExpr x) ((x : First) × OfFirst x) ((x : LambdaBody) × OfLambdaBody x) ((x : Statement) × OfStatement x) ((x : Block) × OfBlock x) ((x : Catch) × OfCatch x) ((x : Declaration) × OfDeclaration x) ((x : Entry) × OfEntry x) ((x : Variable) × OfVariable x) Argument Body Expr First LambdaBody Statement Block Catch Declaration Entry Variable (λ e. e.0) (λ e. e.0) (λ e. e.0) (λ e. e.0) (λ e. e.0) (λ e. e.0) (λ e. e.0) (λ e. e.0) (λ e. e.0) (λ e. e.0) (λ e. e.0) y

  abbrev WithBody : Type 0
  WithBody = Body-F ((x : Argument) × OfArgument x) ((x : Body) × OfBody x) ((x : Expr) × OfExpr x) ((x : First) × OfFirst x) ((x : LambdaBody) × OfLambdaBody x) ((x : Statement) × OfStatement x) ((x : Block) × OfBlock x) ((x : Catch) × OfCatch x) ((x : Declaration) × OfDeclaration x) ((x : Entry) × OfEntry x) ((x : Variable) × OfVariable x)

  abbrev bareBody : WithBody → Body-F Argument Body Expr First LambdaBody Statement Block Catch Declaration Entry Variable
  bareBody y = map-Body ((x : Argument) × OfArgument x) ((x : Body) × OfBody x) ((x : Expr) × OfExpr x) ((x : First) × OfFirst x) ((x : LambdaBody) × OfLambdaBody x) ((x : Statement) × OfStatement x) ((x : Block) × OfBlock x) ((x : Catch) × OfCatch x) ((x : Declaration) × OfDeclaration x) ((x : Entry) × OfEntry x) ((x : Variable) × OfVariable x) Argument Body Expr First LambdaBody Statement Block Catch Declaration Entry Variable (λ e. e.0) (λ e. e.0) (λ e. e.0) (λ e. e.0) (λ e. e.0) (λ e. e.0) (λ e. e.0) (λ e. e.0) (λ e. e.0) (λ e. e.0) (λ e. e.0) y

  abbrev WithExpr : Type 0
  WithExpr = Expr-F ((x : Argument) × OfArgument x) ((x : Body) × OfBody x) ((x : Expr) × OfExpr x) ((x : First) × OfFirst x) ((x : LambdaBody) × OfLambdaBody x) ((x : Statement) × OfStatement x) ((x : Block) × OfBlock x) ((x : Catch) × OfCatch x) ((x : Declaration) × OfDeclaration x) ((x : Entry) × OfEntry x) ((x : Variable) × OfVariable x)

  abbrev bareExpr : WithExpr → Expr-F Argument Body Expr First LambdaBody Statement Block Catch Declaration Entry Variable
  bareExpr y = map-Expr ((x : Argument) × OfArgument x) ((x : Body) × OfBody x) ((x : Expr) × OfExpr x) ((x : First) × OfFirst x) ((x : LambdaBody) × OfLambdaBody x) ((x : Statement) × OfStatement x) ((x : Block) × OfBlock x) ((x : Catch) × OfCatch x) ((x : Declaration) × OfDeclaration x) ((x : Entry) × OfEntry x) ((x : Variable) × OfVariable x) Argument Body Expr First LambdaBody Statement Block Catch Declaration Entry Variable (λ e. e.0) (λ e. e.0) (λ e. e.0) (λ e. e.0) (λ e. e.0) (λ e. e.0) (λ e. e.0) (λ e. e.0) (λ e. e.0) (λ e. e.0) (λ e. e.0) y

  abbrev WithFirst : Type 0
  WithFirst = First-F ((x : Argument) × OfArgument x) ((x : Body) × OfBody x) ((x : Expr) × OfExpr x) ((x : First) × OfFirst x) ((x : LambdaBody) × OfLambdaBody x) ((x : Statement) × OfStatement x) ((x : Block) × OfBlock x) ((x : Catch) × OfCatch x) ((x : Declaration) × OfDeclaration x) ((x : Entry) × OfEntry x) ((x : Variable) × OfVariable x)

  abbrev bareFirst : WithFirst → First-F Argument Body Expr First LambdaBody Statement Block Catch Declaration Entry Variable
  bareFirst y = map-First ((x : Argument) × OfArgument x) ((x : Body) × OfBody x) ((x : Expr) × OfExpr x) ((x : First) × OfFirst x) ((x : LambdaBody) × OfLambdaBody x) ((x : Statement) × OfStatement x) ((x : Block) × OfBlock x) ((x : Catch) × OfCatch x) ((x : Declaration) × OfDeclaration x) ((x : Entry) × OfEntry x) ((x : Variable) × OfVariable x) Argument Body Expr First LambdaBody Statement Block Catch Declaration Entry Variable (λ e. e.0) (λ e. e.0) (λ e. e.0) (λ e. e.0) (λ e. e.0) (λ e. e.0) (λ e. e.0) (λ e. e.0) (λ e. e.0) (λ e. e.0) (λ e. e.0) y

  abbrev WithLambdaBody : Type 0
  WithLambdaBody = LambdaBody-F ((x : Argument) × OfArgument x) ((x : Body) × OfBody x) ((x : Expr) × OfExpr x) ((x : First) × OfFirst x) ((x : LambdaBody) × OfLambdaBody x) ((x : Statement) × OfStatement x) ((x : Block) × OfBlock x) ((x : Catch) × OfCatch x) ((x : Declaration) × OfDeclaration x) ((x : Entry) × OfEntry x) ((x : Variable) × OfVariable x)

  abbrev bareLambdaBody : WithLambdaBody → LambdaBody-F Argument Body Expr First LambdaBody Statement Block Catch Declaration Entry Variable
  bareLambdaBody y = map-LambdaBody ((x : Argument) × OfArgument x) ((x : Body) × OfBody x) ((x : Expr) × OfExpr x) ((x : First) × OfFirst x) ((x : LambdaBody) × OfLambdaBody x) ((x : Statement) × OfStatement x) ((x : Block) × OfBlock x) ((x : Catch) × OfCatch x) ((x : Declaration) × OfDeclaration x) ((x : Entry) × OfEntry x) ((x : Variable) × OfVariable x) Argument Body Expr First LambdaBody Statement Block Catch Declaration Entry Variable (λ e. e.0) (λ e. e.0) (λ e. e.0) (λ e. e.0) (λ e. e.0) (λ e. e.0) (λ e. e.0) (λ e. e.0) (λ e. e.0) (λ e. e.0) (λ e. e.0) y

  abbrev WithStatement : Type 0
  WithStatement = Statement-F ((x : Argument) × OfArgument x) ((x : Body) × OfBody x) ((x : Expr) × OfExpr x) ((x : First) × OfFirst x) ((x : LambdaBody) × OfLambdaBody x) ((x : Statement) × OfStatement x) ((x : Block) × OfBlock x) ((x : Catch) × OfCatch x) ((x : Declaration) × OfDeclaration x) ((x : Entry) × OfEntry x) ((x : Variable) × OfVariable x)

  abbrev bareStatement : WithStatement → Statement-F Argument Body Expr First LambdaBody Statement Block Catch Declaration Entry Variable
  bareStatement y = map-Statement ((x : Argument) × OfArgument x) ((x : Body) × OfBody x) ((x : Expr) × OfExpr x) ((x : First) × OfFirst x) ((x : LambdaBody) × OfLambdaBody x) ((x : Statement) × OfStatement x) ((x : Block) × OfBlock x) ((x : Catch) × OfCatch x) ((x : Declaration) × OfDeclaration x) ((x : Entry) × OfEntry x) ((x : Variable) × OfVariable x) Argument Body Expr First LambdaBody Statement Block Catch Declaration Entry Variable (λ e. e.0) (λ e. e.0) (λ e. e.0) (λ e. e.0) (λ e. e.0) (λ e. e.0) (λ e. e.0) (λ e. e.0) (λ e. e.0) (λ e. e.0) (λ e. e.0) y

  abbrev WithBlock : Type 0
  WithBlock = Block-F ((x : Argument) × OfArgument x) ((x : Body) × OfBody x) ((x : Expr) × OfExpr x) ((x : First) × OfFirst x) ((x : LambdaBody) × OfLambdaBody x) ((x : Statement) × OfStatement x) ((x : Block) × OfBlock x) ((x : Catch) × OfCatch x) ((x : Declaration) × OfDeclaration x) ((x : Entry) × OfEntry x) ((x : Variable) × OfVariable x)

  abbrev bareBlock : WithBlock → Block-F Argument Body Expr First LambdaBody Statement Block Catch Declaration Entry Variable
  bareBlock y = map-Block ((x : Argument) × OfArgument x) ((x : Body) × OfBody x) ((x : Expr) × OfExpr x) ((x : First) × OfFirst x) ((x : LambdaBody) × OfLambdaBody x) ((x : Statement) × OfStatement x) ((x : Block) × OfBlock x) ((x : Catch) × OfCatch x) ((x : Declaration) × OfDeclaration x) ((x : Entry) × OfEntry x) ((x : Variable) × OfVariable x) Argument Body Expr First LambdaBody Statement Block Catch Declaration Entry Variable (λ e. e.0) (λ e. e.0) (λ e. e.0) (λ e. e.0) (λ e. e.0) (λ e. e.0) (λ e. e.0) (λ e. e.0) (λ e. e.0) (λ e. e.0) (λ e. e.0) y

  abbrev WithCatch : Type 0
  WithCatch = Catch-F ((x : Argument) × OfArgument x) ((x : Body) × OfBody x) ((x : Expr) × OfExpr x) ((x : First) × OfFirst x) ((x : LambdaBody) × OfLambdaBody x) ((x : Statement) × OfStatement x) ((x : Block) × OfBlock x) ((x : Catch) × OfCatch x) ((x : Declaration) × OfDeclaration x) ((x : Entry) × OfEntry x) ((x : Variable) × OfVariable x)

  abbrev bareCatch : WithCatch → Catch-F Argument Body Expr First LambdaBody Statement Block Catch Declaration Entry Variable
  bareCatch y = map-Catch ((x : Argument) × OfArgument x) ((x : Body) × OfBody x) ((x : Expr) × OfExpr x) ((x : First) × OfFirst x) ((x : LambdaBody) × OfLambdaBody x) ((x : Statement) × OfStatement x) ((x : Block) × OfBlock x) ((x : Catch) × OfCatch x) ((x : Declaration) × OfDeclaration x) ((x : Entry) × OfEntry x) ((x : Variable) × OfVariable x) Argument Body Expr First LambdaBody Statement Block Catch Declaration Entry Variable (λ e. e.0) (λ e. e.0) (λ e. e.0) (λ e. e.0) (λ e. e.0) (λ e. e.0) (λ e. e.0) (λ e. e.0) (λ e. e.0) (λ e. e.0) (λ e. e.0) y

  abbrev WithDeclaration : Type 0
  WithDeclaration = Declaration-F ((x : Argument) × OfArgument x) ((x : Body) × OfBody x) ((x : Expr) × OfExpr x) ((x : First) × OfFirst x) ((x : LambdaBody) × OfLambdaBody x) ((x : Statement) × OfStatement x) ((x : Block) × OfBlock x) ((x : Catch) × OfCatch x) ((x : Declaration) × OfDeclaration x) ((x : Entry) × OfEntry x) ((x : Variable) × OfVariable x)

  abbrev bareDeclaration : WithDeclaration → Declaration-F Argument Body Expr First LambdaBody Statement Block Catch Declaration Entry Variable
  bareDeclaration y = map-Declaration ((x : Argument) × OfArgument x) ((x : Body) × OfBody x) ((x : Expr) × OfExpr x) ((x : First) × OfFirst x) ((x : LambdaBody) × OfLambdaBody x) ((x : Statement) × OfStatement x) ((x : Block) × OfBlock x) ((x : Catch) × OfCatch x) ((x : Declaration) × OfDeclaration x) ((x : Entry) × OfEntry x) ((x : Variable) × OfVariable x) Argument Body Expr First LambdaBody Statement Block Catch Declaration Entry Variable (λ e. e.0) (λ e. e.0) (λ e. e.0) (λ e. e.0) (λ e. e.0) (λ e. e.0) (λ e. e.0) (λ e. e.0) (λ e. e.0) (λ e. e.0) (λ e. e.0) y

  abbrev WithEntry : Type 0
  WithEntry = Entry-F ((x : Argument) × OfArgument x) ((x : Body) × OfBody x) ((x : Expr) × OfExpr x) ((x : First) × OfFirst x) ((x : LambdaBody) × OfLambdaBody x) ((x : Statement) × OfStatement x) ((x : Block) × OfBlock x) ((x : Catch) × OfCatch x) ((x : Declaration) × OfDeclaration x) ((x : Entry) × OfEntry x) ((x : Variable) × OfVariable x)

  abbrev bareEntry : WithEntry → Entry-F Argument Body Expr First LambdaBody Statement Block Catch Declaration Entry Variable
  bareEntry y = map-Entry ((x : Argument) × OfArgument x) ((x : Body) × OfBody x) ((x : Expr) × OfExpr x) ((x : First) × OfFirst x) ((x : LambdaBody) × OfLambdaBody x) ((x : Statement) × OfStatement x) ((x : Block) × OfBlock x) ((x : Catch) × OfCatch x) ((x : Declaration) × OfDeclaration x) ((x : Entry) × OfEntry x) ((x : Variable) × OfVariable x) Argument Body Expr First LambdaBody Statement Block Catch Declaration Entry Variable (λ e. e.0) (λ e. e.0) (λ e. e.0) (λ e. e.0) (λ e. e.0) (λ e. e.0) (λ e. e.0) (λ e. e.0) (λ e. e.0) (λ e. e.0) (λ e. e.0) y

  abbrev WithVariable : Type 0
  WithVariable = Variable-F ((x : Argument) × OfArgument x) ((x : Body) × OfBody x) ((x : Expr) × OfExpr x) ((x : First) × OfFirst x) ((x : LambdaBody) × OfLambdaBody x) ((x : Statement) × OfStatement x) ((x : Block) × OfBlock x) ((x : Catch) × OfCatch x) ((x : Declaration) × OfDeclaration x) ((x : Entry) × OfEntry x) ((x : Variable) × OfVariable x)

  abbrev bareVariable : WithVariable → Variable-F Argument Body Expr First LambdaBody Statement Block Catch Declaration Entry Variable
  bareVariable y = map-Variable ((x : Argument) × OfArgument x) ((x : Body) × OfBody x) ((x : Expr) × OfExpr x) ((x : First) × OfFirst x) ((x : LambdaBody) × OfLambdaBody x) ((x : Statement) × OfStatement x) ((x : Block) × OfBlock x) ((x : Catch) × OfCatch x) ((x : Declaration) × OfDeclaration x) ((x : Entry) × OfEntry x) ((x : Variable) × OfVariable x) Argument Body Expr First LambdaBody Statement Block Catch Declaration Entry Variable (λ e. e.0) (λ e. e.0) (λ e. e.0) (λ e. e.0) (λ e. e.0) (λ e. e.0) (λ e. e.0) (λ e. e.0) (λ e. e.0) (λ e. e.0) (λ e. e.0) y

  -- ---- lists of parts

  given_parts : (ys : List ((x : Argument) × OfArgument x)) → Value (λ s xs. AllParts funs (in_sight s.scopes) xs) (parts (map (argument funs.allowed hs) (map (λ e. e.0) ys)))
  given_parts [] = record { by = λ s next r d e. record { given = []; has = tt; goes = e } }
  given_parts (y ∷ ys) = record {
    by = λ s next r d e.
        let a = y.1.by s _ r d e in
        let rest = (given_parts ys).by s (λ xs t. next (a.given ∷ xs) t) r d a.goes in
        record { given = a.given ∷ rest.given; has = (a.has, rest.has); goes = rest.goes };
  }

  given_values : (ys : List ((x : Expr) × OfExpr x)) → Value (λ s xs. AllParts funs (in_sight s.scopes) xs) (parts (map value_of (map (reading funs.allowed hs) (map (λ e. e.0) ys))))
  given_values [] = record { by = λ s next r d e. record { given = []; has = tt; goes = e } }
  given_values (y ∷ ys) = record {
    by = λ s next r d e.
        let a = y.1.value.by s _ r d e in
        let rest = (given_values ys).by s (λ xs t. next (a.given ∷ xs) t) r d a.goes in
        record { given = a.given ∷ rest.given; has = (a.has, rest.has); goes = rest.goes };
  }

  -- keys and values by turns
  given_entries : (ys : List ((x : Entry) × OfEntry x)) → Value (λ s xs. AllParts funs (in_sight s.scopes) xs × AreEven xs) (entries (map entry (map (λ e. e.0) ys)))
  given_entries [] = record { by = λ s next r d e. record { given = []; has = (tt, tt); goes = e } }
  given_entries (y ∷ ys) = record {
    by = λ s next r d e.
        let p = y.1.by s (λ p t. entries (map entry (map (λ e. e.0) ys)) t (λ xs t. next (p.0 ∷ p.1 ∷ xs) t)) r d e in
        let rest = (given_entries ys).by s (λ xs t. next (p.given.0 ∷ p.given.1 ∷ xs) t) r d p.goes in
        record { given = p.given.0 ∷ p.given.1 ∷ rest.given; has = ((p.has.0, (p.has.1, rest.has.0)), rest.has.1); goes = rest.goes };
  }

  entry_value : {m n : Doing Part} → Value (PartAt funs) m → Value (PartAt funs) n → Value EntryAt (m >>= (λ x. n >>= (λ y. pure (x, y))))
  entry_value {n = n} hm hn = record {
    by = λ s next r d e.
        let x = hm.by s (λ x t. n t (λ y t. next (x, y) t)) r d e in
        let y = hn.by s (λ y t. next (x.given, y) t) r d x.goes in
        record { given = (x.given, y.given); has = (x.has, y.has); goes = y.goes };
  }

  -- ---- lists, maps and arrays

  list_value : (at : ℕ) (ys : List ((x : Expr) × OfExpr x)) → Value (PartAt funs) (parts (map value_of (map (reading funs.allowed hs) (map (λ e. e.0) ys))) >>= (λ xs. by_rule (list_of at xs)))
  list_value at ys = record {
    by = λ s next r d e.
        let xs = (given_values ys).by s (λ xs t. and_then (list_of at xs) (λ z. next z t)) r d e in
        let z = ruled (list_of at xs.given) (λ z. next z s) r xs.goes in
        record { given = z.given; has = list_part funs (in_sight s.scopes) at xs.given z.given z.has xs.has; goes = z.goes };
  }

  map_value : (at : ℕ) (ys : List ((x : Entry) × OfEntry x)) → Value (PartAt funs) (entries (map entry (map (λ e. e.0) ys)) >>= (λ xs. by_rule (map_of at xs)))
  map_value at ys = record {
    by = λ s next r d e.
        let xs = (given_entries ys).by s (λ xs t. and_then (map_of at xs) (λ z. next z t)) r d e in
        let z = ruled (map_of at xs.given) (λ z. next z s) r xs.goes in
        record { given = z.given; has = map_part funs (in_sight s.scopes) at xs.given z.given z.has xs.has.0 xs.has.1; goes = z.goes };
  }

  array_value : (of : TypeName) (ys : List ((x : Expr) × OfExpr x)) (rule : Ty → List Part → Out Part)
      → ((s : State) (to : Ty) (xs : List Part) (z : Part) → IsBuilt to → rule to xs ≡ Ok z → AllParts funs (in_sight s.scopes) xs → PartAt funs s z)
      → Value (PartAt funs) (by_rule (type_of of) >>= (λ t. parts (map value_of (map (reading funs.allowed hs) (map (λ e. e.0) ys))) >>= (λ xs. by_rule (rule t xs))))
  array_value of ys rule f = record {
    by = λ s next r d e.
        let to = ruled (type_of of) (λ t. parts (map value_of (map (reading funs.allowed hs) (map (λ e. e.0) ys))) s (λ xs u. and_then (rule t xs) (λ z. next z u))) r e in
        let xs = (given_values ys).by s (λ xs u. and_then (rule to.given xs) (λ z. next z u)) r d to.goes in
        let z = ruled (rule to.given xs.given) (λ z. next z s) r xs.goes in
        record { given = z.given; has = f s to.given xs.given z.given (type_is of to.given to.has) z.has xs.has; goes = z.goes };
  }

  given_catches : (ys : List ((x : Catch) × OfCatch x)) → AllCatches funs (map handler (map (λ e. e.0) ys))
  given_catches [] = tt
  given_catches (y ∷ ys) = (y.1, given_catches ys)

  row_steps : (ys : List ((x : Statement) × OfStatement x)) → AllSteps funs (map (doer funs.allowed hs) (map (λ e. e.0) ys))
  row_steps [] = tt
  row_steps (y ∷ ys) = (y.1, row_steps ys)

  all_variables : (of : Ty) → IsBuilt of → (ys : List ((x : Variable) × OfVariable x)) → AllVariables funs of (map variable (map (λ e. e.0) ys))
  all_variables of p [] = tt
  all_variables of p (y ∷ ys) = (y.1 of p, all_variables of p ys)

  call_value : (at : ℕ) (name : List ℕ) (ys : List ((x : Argument) × OfArgument x)) → Value (PartAt funs) (call funs.allowed hs at name (map (argument funs.allowed hs) (map (λ e. e.0) ys)))
  call_value at name ys = record {
    by = λ s next r d e.
        let xs = (given_parts ys).by s (λ xs t. and_then (call_of hs at name xs) (λ z. next z t)) r d e in
        let z = ruled (call_of hs at name xs.given) (λ z. next z s) r xs.goes in
        record { given = z.given; has = call_part funs (in_sight s.scopes) hs at name xs.given z.given heads z.has xs.has; goes = z.goes };
  }

  -- what is called on a value or on a type
  new_value : (at : ℕ) (of : TypeName) (ys : List ((x : Argument) × OfArgument x)) → Value (PartAt funs) (by_rule (type_of of) >>= (λ t. parts (map (argument funs.allowed hs) (map (λ e. e.0) ys)) >>= (λ xs. by_rule (new_of funs.allowed at t xs))))
  new_value at of ys = record {
    by = λ s next r d e.
        let to = ruled (type_of of) (λ t. parts (map (argument funs.allowed hs) (map (λ e. e.0) ys)) s (λ xs u. and_then (new_of funs.allowed at t xs) (λ z. next z u))) r e in
        let xs = (given_parts ys).by s (λ xs u. and_then (new_of funs.allowed at to.given xs) (λ z. next z u)) r d to.goes in
        let z = ruled (new_of funs.allowed at to.given xs.given) (λ z. next z s) r xs.goes in
        record { given = z.given; has = new_part funs (in_sight s.scopes) at to.given z.given xs.given z.has xs.has; goes = z.goes };
  }

  read_value : (access : Access) (at : ℕ) (x : Reading) (names : Option (Doing Ty)) (name : List ℕ) → ReadingIs funs x → NamesAre names
      → Value (PartAt funs) (read funs.allowed hs access at x names name)
  read_value access at x None name h is = one_part funs (read_of funs.allowed access at name) h.value (λ s x y e h. read_part funs (in_sight s.scopes) access at name x y e h)
  read_value access at x (Some type) name h is = record {
    by = λ s next r d e.
        let of = is.by s (λ t u. and_then (field_of funs.allowed access at name t) (λ z. next z u)) r d e in
        let z = ruled (field_of funs.allowed access at name of.given) (λ z. next z s) r of.goes in
        record { given = z.given; has = field_part funs (in_sight s.scopes) access at name of.given z.given z.has; goes = z.goes };
  }

  -- a name behind a dot as what is written to
  place_value : (access : Access) (at : ℕ) (x : Reading) (names : Option (Doing Ty)) (name : List ℕ) {m : Doing Part} → ReadingIs funs x → Value (PartAt funs) m → (by : Option ℕ)
      → Value (PlaceAt funs by) (member_place funs.allowed hs access at x names name m by)
  place_value through.Plain at x None name h v by =
      one_place funs by (name_location funs.allowed by at name) h.value (λ s x p e h. name_place funs (in_sight s.scopes) by at name x p e h)
  place_value through.Plain at x (Some type) name h v by = fixed_place funs v by
  place_value through.Guarded at x names name h v by = fixed_place funs v by

  element_value : (access : Access) (at : ℕ) (x : Reading) (names : Option (Doing Ty)) (digits : List ℕ) → ReadingIs funs x → NamesAre names
      → Value (PartAt funs) (element funs.allowed hs access at x names digits)
  element_value access at x None digits h is =
      one_part funs (numbered_of funs.allowed access at digits) h.value (λ s x y e h. numbered_part funs (in_sight s.scopes) access at digits x y e h)
  element_value access at x (Some type) digits h is = record {
    by = λ s next r d e. let a = is.by s (λ t u. by_rule {A = Part} (refuse UNKNOWN_MEMBER at) u next) r d e in never_told (refusal UNKNOWN_MEMBER at) r a.goes;
  }

  -- an element by its number as what is written to
  numbered_value : (access : Access) (at : ℕ) (x : Reading) (names : Option (Doing Ty)) (digits : List ℕ) {m : Doing Part} → ReadingIs funs x → Value (PartAt funs) m → (by : Option ℕ)
      → Value (PlaceAt funs by) (element_place funs.allowed hs access at x names digits m by)
  numbered_value through.Plain at x None digits h v by =
      one_place funs by (number_location funs.allowed by at digits) h.value (λ s x p e h. number_place funs (in_sight s.scopes) by at digits x p e h)
  numbered_value through.Plain at x (Some type) digits h v by = fixed_place funs v by
  numbered_value through.Guarded at x names digits h v by = fixed_place funs v by

  method_value : (access : Access) (at : ℕ) (x : Reading) (names : Option (Doing Ty)) (name : List ℕ) (ys : List ((x : Argument) × OfArgument x)) → ReadingIs funs x → NamesAre names
      → Value (PartAt funs) (method funs.allowed hs access at x names name (map (argument funs.allowed hs) (map (λ e. e.0) ys)))
  method_value access at x None name ys h is = record {
    by = λ s next r d e.
        let a = h.value.by s (λ a u. parts (map (argument funs.allowed hs) (map (λ e. e.0) ys)) u (λ xs u. and_then (method_of funs.allowed access at name a xs) (λ z. next z u))) r d e in
        let xs = (given_parts ys).by s (λ xs u. and_then (method_of funs.allowed access at name a.given xs) (λ z. next z u)) r d a.goes in
        let z = ruled (method_of funs.allowed access at name a.given xs.given) (λ z. next z s) r xs.goes in
        record { given = z.given; has = method_part funs (in_sight s.scopes) access at name a.given z.given xs.given z.has a.has xs.has; goes = z.goes };
  }
  method_value access at x (Some type) name ys h is = record {
    by = λ s next r d e.
        let of = is.by s (λ t u. parts (map (argument funs.allowed hs) (map (λ e. e.0) ys)) u (λ xs u. and_then (static_of funs.allowed access at name t xs) (λ z. next z u))) r d e in
        let xs = (given_parts ys).by s (λ xs u. and_then (static_of funs.allowed access at name of.given xs) (λ z. next z u)) r d of.goes in
        let z = ruled (static_of funs.allowed access at name of.given xs.given) (λ z. next z s) r xs.goes in
        record { given = z.given; has = static_part funs (in_sight s.scopes) access at name of.given z.given xs.given z.has xs.has; goes = z.goes };
  }

  assign_value : (operator : Option BinaryOperator) (at : ℕ) (target value : Reading) → ReadingIs funs target → ReadingIs funs value
      → Value (PartAt funs) (target.place (read_at at operator) >>= (λ p. value.value >>= (λ x. by_rule (assign_of at operator p x))))
  assign_value operator at target value ht hv = record {
    by = λ s next r d e.
        let p = (ht.place (read_at at operator)).by s (λ p t. value.value t (λ x t. and_then (assign_of at operator p x) (λ z. next z t))) r d e in
        let x = hv.value.by s (λ x t. and_then (assign_of at operator p.given x) (λ z. next z t)) r d p.goes in
        let z = ruled (assign_of at operator p.given x.given) (λ z. next z s) r x.goes in
        record { given = z.given; has = assign_part funs (in_sight s.scopes) p.given at operator x.given z.given p.has z.has x.has; goes = z.goes };
  }

  step_value : (at : ℕ) (step : TreeStep) (gives : Gives) (target : Reading) → ReadingIs funs target → Value (PartAt funs) (target.place (Some at) >>= (λ p. by_rule (step_of at step gives p)))
  step_value at step gives target ht = record {
    by = λ s next r d e.
        let p = (ht.place (Some at)).by s (λ p t. and_then (step_of at step gives p) (λ z. next z t)) r d e in
        let z = ruled (step_of at step gives p.given) (λ z. next z s) r p.goes in
        record { given = z.given; has = step_part funs (in_sight s.scopes) p.given at step gives z.given p.has z.has; goes = z.goes };
  }

  cast_value : (at : ℕ) (of : TypeName) (operand : Reading) → ReadingIs funs operand → Value (PartAt funs) (by_rule (type_of of) >>= (λ to. operand.value >>= (λ x. by_rule (asked at to x))))
  cast_value at of operand h = record {
    by = λ s next r d e.
        let to = ruled (type_of of) (λ to. operand.value s (λ x t. and_then (asked at to x) (λ z. next z t))) r e in
        let p = type_is of to.given to.has in
        let x = h.value.by s (λ x t. and_then (asked at to.given x) (λ z. next z t)) r d to.goes in
        let z = ruled (asked at to.given x.given) (λ z. next z s) r x.goes in
        record { given = z.given; has = asked_is funs (in_sight s.scopes) at to.given x.given z.given p z.has x.has; goes = z.goes };
  }

  instance_value : (at : ℕ) (of : TypeName) (operand : Reading) → ReadingIs funs operand → Value (PartAt funs) (operand.value >>= (λ x. by_rule (type_of of) >>= (λ t. by_rule (instance_of at x t))))
  instance_value at of operand h = record {
    by = λ s next r d e.
        let x = h.value.by s (λ x t. and_then (type_of of) (λ to. and_then (instance_of at x to) (λ z. next z t))) r d e in
        let to = ruled (type_of of) (λ to. and_then (instance_of at x.given to) (λ z. next z s)) r x.goes in
        let z = ruled (instance_of at x.given to.given) (λ z. next z s) r to.goes in
        record { given = z.given; has = instance_part funs (in_sight s.scopes) at x.given to.given z.given z.has (type_is of to.given to.has) x.has; goes = z.goes };
  }

  bracketed_value : (at : ℕ) (x : Reading) → ReadingIs funs x → Value (PartAt funs) (x.value >>= (λ y. pure (bracketed at y)))
  bracketed_value at x h = record {
    by = λ s next r d e.
        let a = h.value.by s (λ y t. next (bracketed at y) t) r d e in
        record { given = bracketed at a.given; has = bracketed_is funs (in_sight s.scopes) at a.given a.has; goes = a.goes };
  }

  type_unbuilt : {B : Type 0} {good : State → B → Type 0} (of : TypeName) (at : ℕ) → Value good (by_rule (type_of of) >>= (λ t. unbuilt {A = B} at))
  type_unbuilt of at = ends_unbuilt at (rule_looked (type_of of))

  type_value : (of : TypeName) → Value (λ s of. IsBuilt of) (by_rule (type_of of))
  type_value of = by_one_rule funs (type_of of) (λ s t e. type_is of t e)

  unary_is_plain : (operator : UnaryOperator) (at : ℕ) (x : Reading) → ReadingIs funs x → ReadingIs funs (unary funs.allowed hs operator at x)
  unary_is_plain sign.Plus at x h = plain_is funs at _ (one_part funs (unary_of sign.Plus at) h.value (λ s x y e h. unary_is funs (in_sight s.scopes) sign.Plus at x y e h))
  unary_is_plain sign.Minus at x h = plain_is funs at _ (h.negated at)
  unary_is_plain sign.Complement at x h = plain_is funs at _ (one_part funs (unary_of sign.Complement at) h.value (λ s x y e h. unary_is funs (in_sight s.scopes) sign.Complement at x y e h))
  unary_is_plain sign.Not at x h = plain_is funs at _ (one_part funs (unary_of sign.Not at) h.value (λ s x y e h. unary_is funs (in_sight s.scopes) sign.Not at x y e h))

  name_value : (at : ℕ) (spelling : List ℕ) → Value (PartAt funs) (looking (local at spelling))
  name_value at spelling = looks funs (local at spelling) (λ s x d e. local_part funs at spelling s x d e)

  -- ---- the kinds of nodes

  expr_layer : (y : WithExpr) → OfExpr (roll-Expr (bareExpr y))
  expr_layer (Expr-F.Assign operator at target value) = subst (ReadingIs funs) (sym (fold-roll-Expr (Doing Part) (Doing Step) Reading (Doing Step) Seen Doer Braces (Doing Caught) Doer (Doing (Part × Part)) (Ty → Doing TypedVariable) (argument_step funs.allowed hs) (body_step funs.allowed hs) (expression_step funs.allowed hs) (first_step funs.allowed hs) (lambda_step funs.allowed hs) (statement_step funs.allowed hs) (block_step funs.allowed hs) (catch_step funs.allowed hs) (declaration_step funs.allowed hs) (entry_step funs.allowed hs) (variable_step funs.allowed hs) (Expr-F.Assign operator at target.0 value.0))) (plain_is funs _ _ (assign_value operator at (reading funs.allowed hs target.0) (reading funs.allowed hs value.0) target.1 value.1))
  expr_layer (Expr-F.Conditional at z x y) = subst (ReadingIs funs) (sym (fold-roll-Expr (Doing Part) (Doing Step) Reading (Doing Step) Seen Doer Braces (Doing Caught) Doer (Doing (Part × Part)) (Ty → Doing TypedVariable) (argument_step funs.allowed hs) (body_step funs.allowed hs) (expression_step funs.allowed hs) (first_step funs.allowed hs) (lambda_step funs.allowed hs) (statement_step funs.allowed hs) (block_step funs.allowed hs) (catch_step funs.allowed hs) (declaration_step funs.allowed hs) (entry_step funs.allowed hs) (variable_step funs.allowed hs) (Expr-F.Conditional at z.0 x.0 y.0))) (plain_is funs _ _ (three_parts funs (choice_of at) z.1.value x.1.value y.1.value (λ s z x y w e hz hx hy. choice_part funs (in_sight s.scopes) at z x y w e hz hx hy)))
  expr_layer (Expr-F.Elvis at left right) = subst (ReadingIs funs) (sym (fold-roll-Expr (Doing Part) (Doing Step) Reading (Doing Step) Seen Doer Braces (Doing Caught) Doer (Doing (Part × Part)) (Ty → Doing TypedVariable) (argument_step funs.allowed hs) (body_step funs.allowed hs) (expression_step funs.allowed hs) (first_step funs.allowed hs) (lambda_step funs.allowed hs) (statement_step funs.allowed hs) (block_step funs.allowed hs) (catch_step funs.allowed hs) (declaration_step funs.allowed hs) (entry_step funs.allowed hs) (variable_step funs.allowed hs) (Expr-F.Elvis at left.0 right.0))) (plain_is funs _ _ (two_parts funs (elvis_of at) left.1.value right.1.value (λ s x y z e hx hy. elvis_part funs (in_sight s.scopes) at x y z e hx hy)))
  expr_layer (Expr-F.Binary operator at left right) = subst (ReadingIs funs) (sym (fold-roll-Expr (Doing Part) (Doing Step) Reading (Doing Step) Seen Doer Braces (Doing Caught) Doer (Doing (Part × Part)) (Ty → Doing TypedVariable) (argument_step funs.allowed hs) (body_step funs.allowed hs) (expression_step funs.allowed hs) (first_step funs.allowed hs) (lambda_step funs.allowed hs) (statement_step funs.allowed hs) (block_step funs.allowed hs) (catch_step funs.allowed hs) (declaration_step funs.allowed hs) (entry_step funs.allowed hs) (variable_step funs.allowed hs) (Expr-F.Binary operator at left.0 right.0))) (plain_is funs _ _ (two_parts funs (binary_of operator at) left.1.value right.1.value (λ s x y z e hx hy. binary_is funs (in_sight s.scopes) operator at x y z e hx hy)))
  expr_layer (Expr-F.Instanceof at operand of) = subst (ReadingIs funs) (sym (fold-roll-Expr (Doing Part) (Doing Step) Reading (Doing Step) Seen Doer Braces (Doing Caught) Doer (Doing (Part × Part)) (Ty → Doing TypedVariable) (argument_step funs.allowed hs) (body_step funs.allowed hs) (expression_step funs.allowed hs) (first_step funs.allowed hs) (lambda_step funs.allowed hs) (statement_step funs.allowed hs) (block_step funs.allowed hs) (catch_step funs.allowed hs) (declaration_step funs.allowed hs) (entry_step funs.allowed hs) (variable_step funs.allowed hs) (Expr-F.Instanceof at operand.0 of))) (plain_is funs _ _ (instance_value at of (reading funs.allowed hs operand.0) operand.1))
  expr_layer (Expr-F.Unary operator at operand) = subst (ReadingIs funs) (sym (fold-roll-Expr (Doing Part) (Doing Step) Reading (Doing Step) Seen Doer Braces (Doing Caught) Doer (Doing (Part × Part)) (Ty → Doing TypedVariable) (argument_step funs.allowed hs) (body_step funs.allowed hs) (expression_step funs.allowed hs) (first_step funs.allowed hs) (lambda_step funs.allowed hs) (statement_step funs.allowed hs) (block_step funs.allowed hs) (catch_step funs.allowed hs) (declaration_step funs.allowed hs) (entry_step funs.allowed hs) (variable_step funs.allowed hs) (Expr-F.Unary operator at operand.0))) (unary_is_plain operator at (reading funs.allowed hs operand.0) operand.1)
  expr_layer (Expr-F.Prefix step at target) = subst (ReadingIs funs) (sym (fold-roll-Expr (Doing Part) (Doing Step) Reading (Doing Step) Seen Doer Braces (Doing Caught) Doer (Doing (Part × Part)) (Ty → Doing TypedVariable) (argument_step funs.allowed hs) (body_step funs.allowed hs) (expression_step funs.allowed hs) (first_step funs.allowed hs) (lambda_step funs.allowed hs) (statement_step funs.allowed hs) (block_step funs.allowed hs) (catch_step funs.allowed hs) (declaration_step funs.allowed hs) (entry_step funs.allowed hs) (variable_step funs.allowed hs) (Expr-F.Prefix step at target.0))) (plain_is funs _ _ (step_value at step gv.New (reading funs.allowed hs target.0) target.1))
  expr_layer (Expr-F.Postfix step at target) = subst (ReadingIs funs) (sym (fold-roll-Expr (Doing Part) (Doing Step) Reading (Doing Step) Seen Doer Braces (Doing Caught) Doer (Doing (Part × Part)) (Ty → Doing TypedVariable) (argument_step funs.allowed hs) (body_step funs.allowed hs) (expression_step funs.allowed hs) (first_step funs.allowed hs) (lambda_step funs.allowed hs) (statement_step funs.allowed hs) (block_step funs.allowed hs) (catch_step funs.allowed hs) (declaration_step funs.allowed hs) (entry_step funs.allowed hs) (variable_step funs.allowed hs) (Expr-F.Postfix step at target.0))) (plain_is funs _ _ (step_value at step gv.Old (reading funs.allowed hs target.0) target.1))
  expr_layer (Expr-F.Cast at of operand) = subst (ReadingIs funs) (sym (fold-roll-Expr (Doing Part) (Doing Step) Reading (Doing Step) Seen Doer Braces (Doing Caught) Doer (Doing (Part × Part)) (Ty → Doing TypedVariable) (argument_step funs.allowed hs) (body_step funs.allowed hs) (expression_step funs.allowed hs) (first_step funs.allowed hs) (lambda_step funs.allowed hs) (statement_step funs.allowed hs) (block_step funs.allowed hs) (catch_step funs.allowed hs) (declaration_step funs.allowed hs) (entry_step funs.allowed hs) (variable_step funs.allowed hs) (Expr-F.Cast at of operand.0))) (plain_is funs _ _ (cast_value at of (reading funs.allowed hs operand.0) operand.1))
  expr_layer (Expr-F.Bracketed at inner) = subst (ReadingIs funs) (sym (fold-roll-Expr (Doing Part) (Doing Step) Reading (Doing Step) Seen Doer Braces (Doing Caught) Doer (Doing (Part × Part)) (Ty → Doing TypedVariable) (argument_step funs.allowed hs) (body_step funs.allowed hs) (expression_step funs.allowed hs) (first_step funs.allowed hs) (lambda_step funs.allowed hs) (statement_step funs.allowed hs) (block_step funs.allowed hs) (catch_step funs.allowed hs) (declaration_step funs.allowed hs) (entry_step funs.allowed hs) (variable_step funs.allowed hs) (Expr-F.Bracketed at inner.0))) (plain_is funs _ _ (bracketed_value at (reading funs.allowed hs inner.0) inner.1))
  expr_layer (Expr-F.Integer at spelling) = subst (ReadingIs funs) (sym (fold-roll-Expr (Doing Part) (Doing Step) Reading (Doing Step) Seen Doer Braces (Doing Caught) Doer (Doing (Part × Part)) (Ty → Doing TypedVariable) (argument_step funs.allowed hs) (body_step funs.allowed hs) (expression_step funs.allowed hs) (first_step funs.allowed hs) (lambda_step funs.allowed hs) (statement_step funs.allowed hs) (block_step funs.allowed hs) (catch_step funs.allowed hs) (declaration_step funs.allowed hs) (entry_step funs.allowed hs) (variable_step funs.allowed hs) (Expr-F.Integer at spelling))) (record {
    names = tt;
    value = by_one_rule funs (integer at spelling) (λ s x e. integer_is funs (in_sight s.scopes) at spelling x e);
    negated = λ minus. by_one_rule funs (negated_integer minus at spelling) (λ s x e. negated_is funs (in_sight s.scopes) minus at spelling x e);
    place = fixed_place funs (by_one_rule funs (integer at spelling) (λ s x e. integer_is funs (in_sight s.scopes) at spelling x e));
  })
  expr_layer (Expr-F.Text at spelling) = subst (ReadingIs funs) (sym (fold-roll-Expr (Doing Part) (Doing Step) Reading (Doing Step) Seen Doer Braces (Doing Caught) Doer (Doing (Part × Part)) (Ty → Doing TypedVariable) (argument_step funs.allowed hs) (body_step funs.allowed hs) (expression_step funs.allowed hs) (first_step funs.allowed hs) (lambda_step funs.allowed hs) (statement_step funs.allowed hs) (block_step funs.allowed hs) (catch_step funs.allowed hs) (declaration_step funs.allowed hs) (entry_step funs.allowed hs) (variable_step funs.allowed hs) (Expr-F.Text at spelling))) (plain_is funs _ _ (by_one_rule funs (text at spelling) (λ s x e. text_part funs (in_sight s.scopes) at spelling x e)))
  expr_layer (Expr-F.Constant c at) = subst (ReadingIs funs) (sym (fold-roll-Expr (Doing Part) (Doing Step) Reading (Doing Step) Seen Doer Braces (Doing Caught) Doer (Doing (Part × Part)) (Ty → Doing TypedVariable) (argument_step funs.allowed hs) (body_step funs.allowed hs) (expression_step funs.allowed hs) (first_step funs.allowed hs) (lambda_step funs.allowed hs) (statement_step funs.allowed hs) (block_step funs.allowed hs) (catch_step funs.allowed hs) (declaration_step funs.allowed hs) (entry_step funs.allowed hs) (variable_step funs.allowed hs) (Expr-F.Constant c at))) (plain_is funs _ _ (by_one_rule funs (constant at c) (λ s x e. constant_part funs (in_sight s.scopes) at c x e)))
  expr_layer (Expr-F.List at items) = subst (ReadingIs funs) (sym (fold-roll-Expr (Doing Part) (Doing Step) Reading (Doing Step) Seen Doer Braces (Doing Caught) Doer (Doing (Part × Part)) (Ty → Doing TypedVariable) (argument_step funs.allowed hs) (body_step funs.allowed hs) (expression_step funs.allowed hs) (first_step funs.allowed hs) (lambda_step funs.allowed hs) (statement_step funs.allowed hs) (block_step funs.allowed hs) (catch_step funs.allowed hs) (declaration_step funs.allowed hs) (entry_step funs.allowed hs) (variable_step funs.allowed hs) (Expr-F.List at (map (λ e. e.0) items)))) (plain_is funs _ _ (list_value at items))
  expr_layer (Expr-F.Map at pairs) = subst (ReadingIs funs) (sym (fold-roll-Expr (Doing Part) (Doing Step) Reading (Doing Step) Seen Doer Braces (Doing Caught) Doer (Doing (Part × Part)) (Ty → Doing TypedVariable) (argument_step funs.allowed hs) (body_step funs.allowed hs) (expression_step funs.allowed hs) (first_step funs.allowed hs) (lambda_step funs.allowed hs) (statement_step funs.allowed hs) (block_step funs.allowed hs) (catch_step funs.allowed hs) (declaration_step funs.allowed hs) (entry_step funs.allowed hs) (variable_step funs.allowed hs) (Expr-F.Map at (map (λ e. e.0) pairs)))) (plain_is funs _ _ (map_value at pairs))
  expr_layer (Expr-F.Name at spelling) = subst (ReadingIs funs) (sym (fold-roll-Expr (Doing Part) (Doing Step) Reading (Doing Step) Seen Doer Braces (Doing Caught) Doer (Doing (Part × Part)) (Ty → Doing TypedVariable) (argument_step funs.allowed hs) (body_step funs.allowed hs) (expression_step funs.allowed hs) (first_step funs.allowed hs) (lambda_step funs.allowed hs) (statement_step funs.allowed hs) (block_step funs.allowed hs) (catch_step funs.allowed hs) (declaration_step funs.allowed hs) (entry_step funs.allowed hs) (variable_step funs.allowed hs) (Expr-F.Name at spelling))) (record {
    names = tt;
    value = name_value at spelling;
    negated = λ minus. minus_part funs minus (name_value at spelling);
    place = λ by. looks funs (written at spelling) (λ s x d e. written_place funs by at spelling s x d e);
  })
  expr_layer (Expr-F.Call at spelling given) = subst (ReadingIs funs) (sym (fold-roll-Expr (Doing Part) (Doing Step) Reading (Doing Step) Seen Doer Braces (Doing Caught) Doer (Doing (Part × Part)) (Ty → Doing TypedVariable) (argument_step funs.allowed hs) (body_step funs.allowed hs) (expression_step funs.allowed hs) (first_step funs.allowed hs) (lambda_step funs.allowed hs) (statement_step funs.allowed hs) (block_step funs.allowed hs) (catch_step funs.allowed hs) (declaration_step funs.allowed hs) (entry_step funs.allowed hs) (variable_step funs.allowed hs) (Expr-F.Call at spelling (map (λ e. e.0) given)))) (plain_is funs _ _ (call_value at spelling given))
  expr_layer (Expr-F.New at of given) = subst (ReadingIs funs) (sym (fold-roll-Expr (Doing Part) (Doing Step) Reading (Doing Step) Seen Doer Braces (Doing Caught) Doer (Doing (Part × Part)) (Ty → Doing TypedVariable) (argument_step funs.allowed hs) (body_step funs.allowed hs) (expression_step funs.allowed hs) (first_step funs.allowed hs) (lambda_step funs.allowed hs) (statement_step funs.allowed hs) (block_step funs.allowed hs) (catch_step funs.allowed hs) (declaration_step funs.allowed hs) (entry_step funs.allowed hs) (variable_step funs.allowed hs) (Expr-F.New at of (map (λ e. e.0) given)))) (plain_is funs _ _ (new_value at of given))
  expr_layer (Expr-F.NewArray at of sizes) = subst (ReadingIs funs) (sym (fold-roll-Expr (Doing Part) (Doing Step) Reading (Doing Step) Seen Doer Braces (Doing Caught) Doer (Doing (Part × Part)) (Ty → Doing TypedVariable) (argument_step funs.allowed hs) (body_step funs.allowed hs) (expression_step funs.allowed hs) (first_step funs.allowed hs) (lambda_step funs.allowed hs) (statement_step funs.allowed hs) (block_step funs.allowed hs) (catch_step funs.allowed hs) (declaration_step funs.allowed hs) (entry_step funs.allowed hs) (variable_step funs.allowed hs) (Expr-F.NewArray at of (map (λ e. e.0) sizes)))) (plain_is funs _ _ (array_value of sizes (array_of at) (λ s to xs z b e h. array_part funs (in_sight s.scopes) at to xs z b e h)))
  expr_layer (Expr-F.NewItems at of items) = subst (ReadingIs funs) (sym (fold-roll-Expr (Doing Part) (Doing Step) Reading (Doing Step) Seen Doer Braces (Doing Caught) Doer (Doing (Part × Part)) (Ty → Doing TypedVariable) (argument_step funs.allowed hs) (body_step funs.allowed hs) (expression_step funs.allowed hs) (first_step funs.allowed hs) (lambda_step funs.allowed hs) (statement_step funs.allowed hs) (block_step funs.allowed hs) (catch_step funs.allowed hs) (declaration_step funs.allowed hs) (entry_step funs.allowed hs) (variable_step funs.allowed hs) (Expr-F.NewItems at of (map (λ e. e.0) items)))) (plain_is funs _ _ (array_value of items (array_with at) (λ s to xs z b e h. array_with_part funs (in_sight s.scopes) at to xs z b e h)))
  expr_layer (Expr-F.Type of) = subst (ReadingIs funs) (sym (fold-roll-Expr (Doing Part) (Doing Step) Reading (Doing Step) Seen Doer Braces (Doing Caught) Doer (Doing (Part × Part)) (Ty → Doing TypedVariable) (argument_step funs.allowed hs) (body_step funs.allowed hs) (expression_step funs.allowed hs) (first_step funs.allowed hs) (lambda_step funs.allowed hs) (statement_step funs.allowed hs) (block_step funs.allowed hs) (catch_step funs.allowed hs) (declaration_step funs.allowed hs) (entry_step funs.allowed hs) (variable_step funs.allowed hs) (Expr-F.Type of))) (type_name_is funs of.at _ _ (type_unbuilt of of.at) (type_value of))
  expr_layer (Expr-F.Member access at receiver spelling) = subst (ReadingIs funs) (sym (fold-roll-Expr (Doing Part) (Doing Step) Reading (Doing Step) Seen Doer Braces (Doing Caught) Doer (Doing (Part × Part)) (Ty → Doing TypedVariable) (argument_step funs.allowed hs) (body_step funs.allowed hs) (expression_step funs.allowed hs) (first_step funs.allowed hs) (lambda_step funs.allowed hs) (statement_step funs.allowed hs) (block_step funs.allowed hs) (catch_step funs.allowed hs) (declaration_step funs.allowed hs) (entry_step funs.allowed hs) (variable_step funs.allowed hs) (Expr-F.Member access at receiver.0 spelling))) (placed_is funs _ _ _ (read_value access at (reading funs.allowed hs receiver.0) (reading funs.allowed hs receiver.0).names spelling receiver.1 receiver.1.names) (place_value access at (reading funs.allowed hs receiver.0) (reading funs.allowed hs receiver.0).names spelling receiver.1 (read_value access at (reading funs.allowed hs receiver.0) (reading funs.allowed hs receiver.0).names spelling receiver.1 receiver.1.names)))
  expr_layer (Expr-F.Method access at receiver spelling given) = subst (ReadingIs funs) (sym (fold-roll-Expr (Doing Part) (Doing Step) Reading (Doing Step) Seen Doer Braces (Doing Caught) Doer (Doing (Part × Part)) (Ty → Doing TypedVariable) (argument_step funs.allowed hs) (body_step funs.allowed hs) (expression_step funs.allowed hs) (first_step funs.allowed hs) (lambda_step funs.allowed hs) (statement_step funs.allowed hs) (block_step funs.allowed hs) (catch_step funs.allowed hs) (declaration_step funs.allowed hs) (entry_step funs.allowed hs) (variable_step funs.allowed hs) (Expr-F.Method access at receiver.0 spelling (map (λ e. e.0) given)))) (plain_is funs _ _ (method_value access at (reading funs.allowed hs receiver.0) (reading funs.allowed hs receiver.0).names spelling given receiver.1 receiver.1.names))
  expr_layer (Expr-F.Element access at receiver spelling) = subst (ReadingIs funs) (sym (fold-roll-Expr (Doing Part) (Doing Step) Reading (Doing Step) Seen Doer Braces (Doing Caught) Doer (Doing (Part × Part)) (Ty → Doing TypedVariable) (argument_step funs.allowed hs) (body_step funs.allowed hs) (expression_step funs.allowed hs) (first_step funs.allowed hs) (lambda_step funs.allowed hs) (statement_step funs.allowed hs) (block_step funs.allowed hs) (catch_step funs.allowed hs) (declaration_step funs.allowed hs) (entry_step funs.allowed hs) (variable_step funs.allowed hs) (Expr-F.Element access at receiver.0 spelling))) (placed_is funs _ _ _ (element_value access at (reading funs.allowed hs receiver.0) (reading funs.allowed hs receiver.0).names spelling receiver.1 receiver.1.names) (numbered_value access at (reading funs.allowed hs receiver.0) (reading funs.allowed hs receiver.0).names spelling receiver.1 (element_value access at (reading funs.allowed hs receiver.0) (reading funs.allowed hs receiver.0).names spelling receiver.1 receiver.1.names)))
  expr_layer (Expr-F.Index at receiver index) = subst (ReadingIs funs) (sym (fold-roll-Expr (Doing Part) (Doing Step) Reading (Doing Step) Seen Doer Braces (Doing Caught) Doer (Doing (Part × Part)) (Ty → Doing TypedVariable) (argument_step funs.allowed hs) (body_step funs.allowed hs) (expression_step funs.allowed hs) (first_step funs.allowed hs) (lambda_step funs.allowed hs) (statement_step funs.allowed hs) (block_step funs.allowed hs) (catch_step funs.allowed hs) (declaration_step funs.allowed hs) (entry_step funs.allowed hs) (variable_step funs.allowed hs) (Expr-F.Index at receiver.0 index.0))) (placed_is funs _ _ _ (two_parts funs (index_of funs.allowed at) receiver.1.value index.1.value (λ s x y z e hx hy. index_part funs (in_sight s.scopes) at x y z e hx hy)) (λ by. two_place funs by (index_location funs.allowed by at) receiver.1.value index.1.value (λ s x y z e hx hy. index_place funs (in_sight s.scopes) by at x y z e hx hy)))

  -- ---- what is not built is looked through

  alone_known : (s : State) → Known s → Known (alone s)
  alone_known s d = (d.0, def_aim)

  parameters_looked : (ps : List Parameter) → Looked (lambda_parameters ps)
  parameters_looked [] = pure_looked tt
  parameters_looked (p ∷ ps) = in_order (rule_looked (parameter_type p.of)) (λ of. followed (changing_looked (declares p.name.at p.name.spelling of) (λ s t e d. declared_known p.name.at p.name.spelling of s t e d)) (parameters_looked ps))

  lambda_value : (at : ℕ) (ps : List Parameter) {m : Seen} → Looked m → Value (PartAt funs) (lambda at ps m)
  lambda_value at ps {m = m} h = record {
    by = λ s next r d e.
        let a = (parameters_looked ps).by (alone s) (λ u t. m t (λ u t. unbuilt {A = Part} at t next)) r (alone_known s d) e in
        let b = h.by a.state (λ u t. unbuilt {A = Part} at t next) r a.known a.goes in
        never at r b.goes;
  }

  def_value : Value (λ s of. IsBuilt of) (pure t.Def)
  def_value = record { by = λ s next r d e. record { given = t.Def; has = def_built; goes = e } }

  steps_looked : {A : Type 0} {k : Kind A} {m : Doing A} → Steps funs k m → Looked m
  steps_looked h = record { by = λ s next r d e. let a = h.by s next r d e in record { given = a.given; state = a.state; known = a.grew.known; goes = a.goes } }

  if_looked : {m : Doing (Option Step)} → Value (RunsAlone funs (stmts_if funs) escapes_if) m → Looked m
  if_looked h = looked h

  deed_value : (x : Reading) → ReadingIs funs x → Value (FirstAt funs) (loop_step x)
  deed_value x h = record {
    by = λ s next r d e.
        let a = h.value.by s (λ a t. and_then (deed x.first a) (λ y. next y t)) r d e in
        let b = ruled (deed x.first a.given) (λ y. next y s) r a.goes in
        record { given = b.given; has = deed_first funs s x.first a.given b.given b.has a.has; goes = b.goes };
  }

  return_value : (at : ℕ) {m : Doing Part} → Value (PartAt funs) m → Value (StepAt funs) (returned at (Some m))
  return_value at h = record {
    by = λ s next r d e.
        let a = h.by s (λ x t. and_then (return_of at x t) (λ y. next y t)) r d e in
        let b = ruled (return_of at a.given s) (λ y. next y s) r a.goes in
        record { given = b.given; has = return_step funs s at a.given b.given d.1 b.has a.has; goes = b.goes };
  }

  throw_value : (at : ℕ) (x : Reading) → ReadingIs funs x → Value (StepAt funs) (x.value >>= (λ y. by_rule (throw_of at y)))
  throw_value at x h = record {
    by = λ s next r d e.
        let a = h.value.by s (λ y t. and_then (throw_of at y) (λ z. next z t)) r d e in
        let b = ruled (throw_of at a.given) (λ z. next z s) r a.goes in
        record { given = b.given; has = throw_step funs s at a.given b.given b.has a.has; goes = b.goes };
  }

  expression_value : (at : ℕ) (last : Bool) (x : Reading) → ReadingIs funs x → Value (StepAt funs) (x.value >>= (λ y. looking (expression_of at last y)))
  expression_value at last x h = record {
    by = λ s next r d e.
        let a = h.value.by s (λ y t. and_then (expression_of at last y t) (λ z. next z t)) r d e in
        let b = ruled (expression_of at last a.given s) (λ z. next z s) r a.goes in
        record { given = b.given; has = expression_agrees funs s at last a.given b.given d.1 b.has a.has; goes = b.goes };
  }

  argument_layer : (y : WithArgument) → OfArgument (roll-Argument (bareArgument y))
  argument_layer (Argument-F.Value value) = subst (Value (PartAt funs)) (sym (fold-roll-Argument (Doing Part) (Doing Step) Reading (Doing Step) Seen Doer Braces (Doing Caught) Doer (Doing (Part × Part)) (Ty → Doing TypedVariable) (argument_step funs.allowed hs) (body_step funs.allowed hs) (expression_step funs.allowed hs) (first_step funs.allowed hs) (lambda_step funs.allowed hs) (statement_step funs.allowed hs) (block_step funs.allowed hs) (catch_step funs.allowed hs) (declaration_step funs.allowed hs) (entry_step funs.allowed hs) (variable_step funs.allowed hs) (Argument-F.Value value.0))) (value.1.value)
  argument_layer (Argument-F.Lambda at ps body) = subst (Value (PartAt funs)) (sym (fold-roll-Argument (Doing Part) (Doing Step) Reading (Doing Step) Seen Doer Braces (Doing Caught) Doer (Doing (Part × Part)) (Ty → Doing TypedVariable) (argument_step funs.allowed hs) (body_step funs.allowed hs) (expression_step funs.allowed hs) (first_step funs.allowed hs) (lambda_step funs.allowed hs) (statement_step funs.allowed hs) (block_step funs.allowed hs) (catch_step funs.allowed hs) (declaration_step funs.allowed hs) (entry_step funs.allowed hs) (variable_step funs.allowed hs) (Argument-F.Lambda at ps body.0))) (lambda_value at ps body.1)
  argument_layer (Argument-F.Reference of spelling) = subst (Value (PartAt funs)) (sym (fold-roll-Argument (Doing Part) (Doing Step) Reading (Doing Step) Seen Doer Braces (Doing Caught) Doer (Doing (Part × Part)) (Ty → Doing TypedVariable) (argument_step funs.allowed hs) (body_step funs.allowed hs) (expression_step funs.allowed hs) (first_step funs.allowed hs) (lambda_step funs.allowed hs) (statement_step funs.allowed hs) (block_step funs.allowed hs) (catch_step funs.allowed hs) (declaration_step funs.allowed hs) (entry_step funs.allowed hs) (variable_step funs.allowed hs) (Argument-F.Reference of spelling))) (type_unbuilt of of.at)
  argument_layer (Argument-F.NewReference of) = subst (Value (PartAt funs)) (sym (fold-roll-Argument (Doing Part) (Doing Step) Reading (Doing Step) Seen Doer Braces (Doing Caught) Doer (Doing (Part × Part)) (Ty → Doing TypedVariable) (argument_step funs.allowed hs) (body_step funs.allowed hs) (expression_step funs.allowed hs) (first_step funs.allowed hs) (lambda_step funs.allowed hs) (statement_step funs.allowed hs) (block_step funs.allowed hs) (catch_step funs.allowed hs) (declaration_step funs.allowed hs) (entry_step funs.allowed hs) (variable_step funs.allowed hs) (Argument-F.NewReference of))) (type_unbuilt of of.at)
  argument_layer (Argument-F.ThisReference at spelling) = subst (Value (PartAt funs)) (sym (fold-roll-Argument (Doing Part) (Doing Step) Reading (Doing Step) Seen Doer Braces (Doing Caught) Doer (Doing (Part × Part)) (Ty → Doing TypedVariable) (argument_step funs.allowed hs) (body_step funs.allowed hs) (expression_step funs.allowed hs) (first_step funs.allowed hs) (lambda_step funs.allowed hs) (statement_step funs.allowed hs) (block_step funs.allowed hs) (catch_step funs.allowed hs) (declaration_step funs.allowed hs) (entry_step funs.allowed hs) (variable_step funs.allowed hs) (Argument-F.ThisReference at spelling))) (is_unbuilt at)

  body_layer : (y : WithBody) → OfBody (roll-Body (bareBody y))
  body_layer (Body-F.«Body::Block» block) = subst (Bodies funs) (sym (fold-roll-Body (Doing Part) (Doing Step) Reading (Doing Step) Seen Doer Braces (Doing Caught) Doer (Doing (Part × Part)) (Ty → Doing TypedVariable) (argument_step funs.allowed hs) (body_step funs.allowed hs) (expression_step funs.allowed hs) (first_step funs.allowed hs) (lambda_step funs.allowed hs) (statement_step funs.allowed hs) (block_step funs.allowed hs) (catch_step funs.allowed hs) (declaration_step funs.allowed hs) (entry_step funs.allowed hs) (variable_step funs.allowed hs) (Body-F.«Body::Block» block.0))) (block_body funs (braces funs.allowed hs block.0).at block.1)
  body_layer (Body-F.Statement statement) = subst (Bodies funs) (sym (fold-roll-Body (Doing Part) (Doing Step) Reading (Doing Step) Seen Doer Braces (Doing Caught) Doer (Doing (Part × Part)) (Ty → Doing TypedVariable) (argument_step funs.allowed hs) (body_step funs.allowed hs) (expression_step funs.allowed hs) (first_step funs.allowed hs) (lambda_step funs.allowed hs) (statement_step funs.allowed hs) (block_step funs.allowed hs) (catch_step funs.allowed hs) (declaration_step funs.allowed hs) (entry_step funs.allowed hs) (variable_step funs.allowed hs) (Body-F.Statement statement.0))) (scoped_is funs (of_step funs) (λ x. x.escapes) (λ a h. h) (statement.1 false))

  first_layer : (y : WithFirst) → OfFirst (roll-First (bareFirst y))
  first_layer (First-F.«First::Declare» d) = subst (Steps funs (of_first funs)) (sym (fold-roll-First (Doing Part) (Doing Step) Reading (Doing Step) Seen Doer Braces (Doing Caught) Doer (Doing (Part × Part)) (Ty → Doing TypedVariable) (argument_step funs.allowed hs) (body_step funs.allowed hs) (expression_step funs.allowed hs) (first_step funs.allowed hs) (lambda_step funs.allowed hs) (statement_step funs.allowed hs) (block_step funs.allowed hs) (catch_step funs.allowed hs) (declaration_step funs.allowed hs) (entry_step funs.allowed hs) (variable_step funs.allowed hs) (First-F.«First::Declare» d.0))) (d.1 false)
  first_layer (First-F.«First::Expression» value) = subst (Steps funs (of_first funs)) (sym (fold-roll-First (Doing Part) (Doing Step) Reading (Doing Step) Seen Doer Braces (Doing Caught) Doer (Doing (Part × Part)) (Ty → Doing TypedVariable) (argument_step funs.allowed hs) (body_step funs.allowed hs) (expression_step funs.allowed hs) (first_step funs.allowed hs) (lambda_step funs.allowed hs) (statement_step funs.allowed hs) (block_step funs.allowed hs) (catch_step funs.allowed hs) (declaration_step funs.allowed hs) (entry_step funs.allowed hs) (variable_step funs.allowed hs) (First-F.«First::Expression» value.0))) (firsts_of funs (deed_value (reading funs.allowed hs value.0) value.1))

  inner_layer : (y : WithLambdaBody) → OfLambdaBody (roll-LambdaBody (bareLambdaBody y))
  inner_layer (LambdaBody-F.«LambdaBody::Block» block) = subst Looked (sym (fold-roll-LambdaBody (Doing Part) (Doing Step) Reading (Doing Step) Seen Doer Braces (Doing Caught) Doer (Doing (Part × Part)) (Ty → Doing TypedVariable) (argument_step funs.allowed hs) (body_step funs.allowed hs) (expression_step funs.allowed hs) (first_step funs.allowed hs) (lambda_step funs.allowed hs) (statement_step funs.allowed hs) (block_step funs.allowed hs) (catch_step funs.allowed hs) (declaration_step funs.allowed hs) (entry_step funs.allowed hs) (variable_step funs.allowed hs) (LambdaBody-F.«LambdaBody::Block» block.0))) (seen_looked (steps_looked block.1))
  inner_layer (LambdaBody-F.«LambdaBody::Expression» value) = subst Looked (sym (fold-roll-LambdaBody (Doing Part) (Doing Step) Reading (Doing Step) Seen Doer Braces (Doing Caught) Doer (Doing (Part × Part)) (Ty → Doing TypedVariable) (argument_step funs.allowed hs) (body_step funs.allowed hs) (expression_step funs.allowed hs) (first_step funs.allowed hs) (lambda_step funs.allowed hs) (statement_step funs.allowed hs) (block_step funs.allowed hs) (catch_step funs.allowed hs) (declaration_step funs.allowed hs) (entry_step funs.allowed hs) (variable_step funs.allowed hs) (LambdaBody-F.«LambdaBody::Expression» value.0))) (seen_looked (looked value.1.value))

  statement_layer : (y : WithStatement) → OfStatement (roll-Statement (bareStatement y))
  statement_layer (Statement-F.If at condition chosen None) = subst (λ (d : Doer). (last : Bool) → Steps funs (of_step funs) (d.typed last)) (sym (fold-roll-Statement (Doing Part) (Doing Step) Reading (Doing Step) Seen Doer Braces (Doing Caught) Doer (Doing (Part × Part)) (Ty → Doing TypedVariable) (argument_step funs.allowed hs) (body_step funs.allowed hs) (expression_step funs.allowed hs) (first_step funs.allowed hs) (lambda_step funs.allowed hs) (statement_step funs.allowed hs) (block_step funs.allowed hs) (catch_step funs.allowed hs) (declaration_step funs.allowed hs) (entry_step funs.allowed hs) (variable_step funs.allowed hs) (Statement-F.If at condition.0 chosen.0 None))) (λ last. steps_of funs (if_step funs at (reading funs.allowed hs condition.0) condition.1 chosen.1 (perhaps_none funs)))
  statement_layer (Statement-F.If at condition chosen (Some other)) = subst (λ (d : Doer). (last : Bool) → Steps funs (of_step funs) (d.typed last)) (sym (fold-roll-Statement (Doing Part) (Doing Step) Reading (Doing Step) Seen Doer Braces (Doing Caught) Doer (Doing (Part × Part)) (Ty → Doing TypedVariable) (argument_step funs.allowed hs) (body_step funs.allowed hs) (expression_step funs.allowed hs) (first_step funs.allowed hs) (lambda_step funs.allowed hs) (statement_step funs.allowed hs) (block_step funs.allowed hs) (catch_step funs.allowed hs) (declaration_step funs.allowed hs) (entry_step funs.allowed hs) (variable_step funs.allowed hs) (Statement-F.If at condition.0 chosen.0 (Some other.0)))) (λ last. steps_of funs (if_step funs at (reading funs.allowed hs condition.0) condition.1 chosen.1 (perhaps_some funs other.1)))
  statement_layer (Statement-F.While at condition None) = subst (λ (d : Doer). (last : Bool) → Steps funs (of_step funs) (d.typed last)) (sym (fold-roll-Statement (Doing Part) (Doing Step) Reading (Doing Step) Seen Doer Braces (Doing Caught) Doer (Doing (Part × Part)) (Ty → Doing TypedVariable) (argument_step funs.allowed hs) (body_step funs.allowed hs) (expression_step funs.allowed hs) (first_step funs.allowed hs) (lambda_step funs.allowed hs) (statement_step funs.allowed hs) (block_step funs.allowed hs) (catch_step funs.allowed hs) (declaration_step funs.allowed hs) (entry_step funs.allowed hs) (variable_step funs.allowed hs) (Statement-F.While at condition.0 None))) (λ last. steps_of funs (while_step funs at (condition_is funs (reading funs.allowed hs condition.0) condition.1) (perhaps_none funs)))
  statement_layer (Statement-F.While at condition (Some b)) = subst (λ (d : Doer). (last : Bool) → Steps funs (of_step funs) (d.typed last)) (sym (fold-roll-Statement (Doing Part) (Doing Step) Reading (Doing Step) Seen Doer Braces (Doing Caught) Doer (Doing (Part × Part)) (Ty → Doing TypedVariable) (argument_step funs.allowed hs) (body_step funs.allowed hs) (expression_step funs.allowed hs) (first_step funs.allowed hs) (lambda_step funs.allowed hs) (statement_step funs.allowed hs) (block_step funs.allowed hs) (catch_step funs.allowed hs) (declaration_step funs.allowed hs) (entry_step funs.allowed hs) (variable_step funs.allowed hs) (Statement-F.While at condition.0 (Some b.0)))) (λ last. steps_of funs (while_step funs at (condition_is funs (reading funs.allowed hs condition.0) condition.1) (perhaps_some funs b.1)))
  statement_layer (Statement-F.For at None None None None) = subst (λ (d : Doer). (last : Bool) → Steps funs (of_step funs) (d.typed last)) (sym (fold-roll-Statement (Doing Part) (Doing Step) Reading (Doing Step) Seen Doer Braces (Doing Caught) Doer (Doing (Part × Part)) (Ty → Doing TypedVariable) (argument_step funs.allowed hs) (body_step funs.allowed hs) (expression_step funs.allowed hs) (first_step funs.allowed hs) (lambda_step funs.allowed hs) (statement_step funs.allowed hs) (block_step funs.allowed hs) (catch_step funs.allowed hs) (declaration_step funs.allowed hs) (entry_step funs.allowed hs) (variable_step funs.allowed hs) (Statement-F.For at None None None None))) (λ last. steps_of funs (for_step funs at (no_condition funs) (no_update funs) (perhaps_none funs)))
  statement_layer (Statement-F.For at None None None (Some b)) = subst (λ (d : Doer). (last : Bool) → Steps funs (of_step funs) (d.typed last)) (sym (fold-roll-Statement (Doing Part) (Doing Step) Reading (Doing Step) Seen Doer Braces (Doing Caught) Doer (Doing (Part × Part)) (Ty → Doing TypedVariable) (argument_step funs.allowed hs) (body_step funs.allowed hs) (expression_step funs.allowed hs) (first_step funs.allowed hs) (lambda_step funs.allowed hs) (statement_step funs.allowed hs) (block_step funs.allowed hs) (catch_step funs.allowed hs) (declaration_step funs.allowed hs) (entry_step funs.allowed hs) (variable_step funs.allowed hs) (Statement-F.For at None None None (Some b.0)))) (λ last. steps_of funs (for_step funs at (no_condition funs) (no_update funs) (perhaps_some funs b.1)))
  statement_layer (Statement-F.For at None None (Some u) None) = subst (λ (d : Doer). (last : Bool) → Steps funs (of_step funs) (d.typed last)) (sym (fold-roll-Statement (Doing Part) (Doing Step) Reading (Doing Step) Seen Doer Braces (Doing Caught) Doer (Doing (Part × Part)) (Ty → Doing TypedVariable) (argument_step funs.allowed hs) (body_step funs.allowed hs) (expression_step funs.allowed hs) (first_step funs.allowed hs) (lambda_step funs.allowed hs) (statement_step funs.allowed hs) (block_step funs.allowed hs) (catch_step funs.allowed hs) (declaration_step funs.allowed hs) (entry_step funs.allowed hs) (variable_step funs.allowed hs) (Statement-F.For at None None (Some u.0) None))) (λ last. steps_of funs (for_step funs at (no_condition funs) (update_is funs (reading funs.allowed hs u.0) u.1) (perhaps_none funs)))
  statement_layer (Statement-F.For at None None (Some u) (Some b)) = subst (λ (d : Doer). (last : Bool) → Steps funs (of_step funs) (d.typed last)) (sym (fold-roll-Statement (Doing Part) (Doing Step) Reading (Doing Step) Seen Doer Braces (Doing Caught) Doer (Doing (Part × Part)) (Ty → Doing TypedVariable) (argument_step funs.allowed hs) (body_step funs.allowed hs) (expression_step funs.allowed hs) (first_step funs.allowed hs) (lambda_step funs.allowed hs) (statement_step funs.allowed hs) (block_step funs.allowed hs) (catch_step funs.allowed hs) (declaration_step funs.allowed hs) (entry_step funs.allowed hs) (variable_step funs.allowed hs) (Statement-F.For at None None (Some u.0) (Some b.0)))) (λ last. steps_of funs (for_step funs at (no_condition funs) (update_is funs (reading funs.allowed hs u.0) u.1) (perhaps_some funs b.1)))
  statement_layer (Statement-F.For at None (Some c) None None) = subst (λ (d : Doer). (last : Bool) → Steps funs (of_step funs) (d.typed last)) (sym (fold-roll-Statement (Doing Part) (Doing Step) Reading (Doing Step) Seen Doer Braces (Doing Caught) Doer (Doing (Part × Part)) (Ty → Doing TypedVariable) (argument_step funs.allowed hs) (body_step funs.allowed hs) (expression_step funs.allowed hs) (first_step funs.allowed hs) (lambda_step funs.allowed hs) (statement_step funs.allowed hs) (block_step funs.allowed hs) (catch_step funs.allowed hs) (declaration_step funs.allowed hs) (entry_step funs.allowed hs) (variable_step funs.allowed hs) (Statement-F.For at None (Some c.0) None None))) (λ last. steps_of funs (for_step funs at (condition_is funs (reading funs.allowed hs c.0) c.1) (no_update funs) (perhaps_none funs)))
  statement_layer (Statement-F.For at None (Some c) None (Some b)) = subst (λ (d : Doer). (last : Bool) → Steps funs (of_step funs) (d.typed last)) (sym (fold-roll-Statement (Doing Part) (Doing Step) Reading (Doing Step) Seen Doer Braces (Doing Caught) Doer (Doing (Part × Part)) (Ty → Doing TypedVariable) (argument_step funs.allowed hs) (body_step funs.allowed hs) (expression_step funs.allowed hs) (first_step funs.allowed hs) (lambda_step funs.allowed hs) (statement_step funs.allowed hs) (block_step funs.allowed hs) (catch_step funs.allowed hs) (declaration_step funs.allowed hs) (entry_step funs.allowed hs) (variable_step funs.allowed hs) (Statement-F.For at None (Some c.0) None (Some b.0)))) (λ last. steps_of funs (for_step funs at (condition_is funs (reading funs.allowed hs c.0) c.1) (no_update funs) (perhaps_some funs b.1)))
  statement_layer (Statement-F.For at None (Some c) (Some u) None) = subst (λ (d : Doer). (last : Bool) → Steps funs (of_step funs) (d.typed last)) (sym (fold-roll-Statement (Doing Part) (Doing Step) Reading (Doing Step) Seen Doer Braces (Doing Caught) Doer (Doing (Part × Part)) (Ty → Doing TypedVariable) (argument_step funs.allowed hs) (body_step funs.allowed hs) (expression_step funs.allowed hs) (first_step funs.allowed hs) (lambda_step funs.allowed hs) (statement_step funs.allowed hs) (block_step funs.allowed hs) (catch_step funs.allowed hs) (declaration_step funs.allowed hs) (entry_step funs.allowed hs) (variable_step funs.allowed hs) (Statement-F.For at None (Some c.0) (Some u.0) None))) (λ last. steps_of funs (for_step funs at (condition_is funs (reading funs.allowed hs c.0) c.1) (update_is funs (reading funs.allowed hs u.0) u.1) (perhaps_none funs)))
  statement_layer (Statement-F.For at None (Some c) (Some u) (Some b)) = subst (λ (d : Doer). (last : Bool) → Steps funs (of_step funs) (d.typed last)) (sym (fold-roll-Statement (Doing Part) (Doing Step) Reading (Doing Step) Seen Doer Braces (Doing Caught) Doer (Doing (Part × Part)) (Ty → Doing TypedVariable) (argument_step funs.allowed hs) (body_step funs.allowed hs) (expression_step funs.allowed hs) (first_step funs.allowed hs) (lambda_step funs.allowed hs) (statement_step funs.allowed hs) (block_step funs.allowed hs) (catch_step funs.allowed hs) (declaration_step funs.allowed hs) (entry_step funs.allowed hs) (variable_step funs.allowed hs) (Statement-F.For at None (Some c.0) (Some u.0) (Some b.0)))) (λ last. steps_of funs (for_step funs at (condition_is funs (reading funs.allowed hs c.0) c.1) (update_is funs (reading funs.allowed hs u.0) u.1) (perhaps_some funs b.1)))
  statement_layer (Statement-F.For at (Some f) None None None) = subst (λ (d : Doer). (last : Bool) → Steps funs (of_step funs) (d.typed last)) (sym (fold-roll-Statement (Doing Part) (Doing Step) Reading (Doing Step) Seen Doer Braces (Doing Caught) Doer (Doing (Part × Part)) (Ty → Doing TypedVariable) (argument_step funs.allowed hs) (body_step funs.allowed hs) (expression_step funs.allowed hs) (first_step funs.allowed hs) (lambda_step funs.allowed hs) (statement_step funs.allowed hs) (block_step funs.allowed hs) (catch_step funs.allowed hs) (declaration_step funs.allowed hs) (entry_step funs.allowed hs) (variable_step funs.allowed hs) (Statement-F.For at (Some f.0) None None None))) (λ last. steps_of funs (for_first_step funs at f.1 (no_condition funs) (no_update funs) (perhaps_none funs)))
  statement_layer (Statement-F.For at (Some f) None None (Some b)) = subst (λ (d : Doer). (last : Bool) → Steps funs (of_step funs) (d.typed last)) (sym (fold-roll-Statement (Doing Part) (Doing Step) Reading (Doing Step) Seen Doer Braces (Doing Caught) Doer (Doing (Part × Part)) (Ty → Doing TypedVariable) (argument_step funs.allowed hs) (body_step funs.allowed hs) (expression_step funs.allowed hs) (first_step funs.allowed hs) (lambda_step funs.allowed hs) (statement_step funs.allowed hs) (block_step funs.allowed hs) (catch_step funs.allowed hs) (declaration_step funs.allowed hs) (entry_step funs.allowed hs) (variable_step funs.allowed hs) (Statement-F.For at (Some f.0) None None (Some b.0)))) (λ last. steps_of funs (for_first_step funs at f.1 (no_condition funs) (no_update funs) (perhaps_some funs b.1)))
  statement_layer (Statement-F.For at (Some f) None (Some u) None) = subst (λ (d : Doer). (last : Bool) → Steps funs (of_step funs) (d.typed last)) (sym (fold-roll-Statement (Doing Part) (Doing Step) Reading (Doing Step) Seen Doer Braces (Doing Caught) Doer (Doing (Part × Part)) (Ty → Doing TypedVariable) (argument_step funs.allowed hs) (body_step funs.allowed hs) (expression_step funs.allowed hs) (first_step funs.allowed hs) (lambda_step funs.allowed hs) (statement_step funs.allowed hs) (block_step funs.allowed hs) (catch_step funs.allowed hs) (declaration_step funs.allowed hs) (entry_step funs.allowed hs) (variable_step funs.allowed hs) (Statement-F.For at (Some f.0) None (Some u.0) None))) (λ last. steps_of funs (for_first_step funs at f.1 (no_condition funs) (update_is funs (reading funs.allowed hs u.0) u.1) (perhaps_none funs)))
  statement_layer (Statement-F.For at (Some f) None (Some u) (Some b)) = subst (λ (d : Doer). (last : Bool) → Steps funs (of_step funs) (d.typed last)) (sym (fold-roll-Statement (Doing Part) (Doing Step) Reading (Doing Step) Seen Doer Braces (Doing Caught) Doer (Doing (Part × Part)) (Ty → Doing TypedVariable) (argument_step funs.allowed hs) (body_step funs.allowed hs) (expression_step funs.allowed hs) (first_step funs.allowed hs) (lambda_step funs.allowed hs) (statement_step funs.allowed hs) (block_step funs.allowed hs) (catch_step funs.allowed hs) (declaration_step funs.allowed hs) (entry_step funs.allowed hs) (variable_step funs.allowed hs) (Statement-F.For at (Some f.0) None (Some u.0) (Some b.0)))) (λ last. steps_of funs (for_first_step funs at f.1 (no_condition funs) (update_is funs (reading funs.allowed hs u.0) u.1) (perhaps_some funs b.1)))
  statement_layer (Statement-F.For at (Some f) (Some c) None None) = subst (λ (d : Doer). (last : Bool) → Steps funs (of_step funs) (d.typed last)) (sym (fold-roll-Statement (Doing Part) (Doing Step) Reading (Doing Step) Seen Doer Braces (Doing Caught) Doer (Doing (Part × Part)) (Ty → Doing TypedVariable) (argument_step funs.allowed hs) (body_step funs.allowed hs) (expression_step funs.allowed hs) (first_step funs.allowed hs) (lambda_step funs.allowed hs) (statement_step funs.allowed hs) (block_step funs.allowed hs) (catch_step funs.allowed hs) (declaration_step funs.allowed hs) (entry_step funs.allowed hs) (variable_step funs.allowed hs) (Statement-F.For at (Some f.0) (Some c.0) None None))) (λ last. steps_of funs (for_first_step funs at f.1 (condition_is funs (reading funs.allowed hs c.0) c.1) (no_update funs) (perhaps_none funs)))
  statement_layer (Statement-F.For at (Some f) (Some c) None (Some b)) = subst (λ (d : Doer). (last : Bool) → Steps funs (of_step funs) (d.typed last)) (sym (fold-roll-Statement (Doing Part) (Doing Step) Reading (Doing Step) Seen Doer Braces (Doing Caught) Doer (Doing (Part × Part)) (Ty → Doing TypedVariable) (argument_step funs.allowed hs) (body_step funs.allowed hs) (expression_step funs.allowed hs) (first_step funs.allowed hs) (lambda_step funs.allowed hs) (statement_step funs.allowed hs) (block_step funs.allowed hs) (catch_step funs.allowed hs) (declaration_step funs.allowed hs) (entry_step funs.allowed hs) (variable_step funs.allowed hs) (Statement-F.For at (Some f.0) (Some c.0) None (Some b.0)))) (λ last. steps_of funs (for_first_step funs at f.1 (condition_is funs (reading funs.allowed hs c.0) c.1) (no_update funs) (perhaps_some funs b.1)))
  statement_layer (Statement-F.For at (Some f) (Some c) (Some u) None) = subst (λ (d : Doer). (last : Bool) → Steps funs (of_step funs) (d.typed last)) (sym (fold-roll-Statement (Doing Part) (Doing Step) Reading (Doing Step) Seen Doer Braces (Doing Caught) Doer (Doing (Part × Part)) (Ty → Doing TypedVariable) (argument_step funs.allowed hs) (body_step funs.allowed hs) (expression_step funs.allowed hs) (first_step funs.allowed hs) (lambda_step funs.allowed hs) (statement_step funs.allowed hs) (block_step funs.allowed hs) (catch_step funs.allowed hs) (declaration_step funs.allowed hs) (entry_step funs.allowed hs) (variable_step funs.allowed hs) (Statement-F.For at (Some f.0) (Some c.0) (Some u.0) None))) (λ last. steps_of funs (for_first_step funs at f.1 (condition_is funs (reading funs.allowed hs c.0) c.1) (update_is funs (reading funs.allowed hs u.0) u.1) (perhaps_none funs)))
  statement_layer (Statement-F.For at (Some f) (Some c) (Some u) (Some b)) = subst (λ (d : Doer). (last : Bool) → Steps funs (of_step funs) (d.typed last)) (sym (fold-roll-Statement (Doing Part) (Doing Step) Reading (Doing Step) Seen Doer Braces (Doing Caught) Doer (Doing (Part × Part)) (Ty → Doing TypedVariable) (argument_step funs.allowed hs) (body_step funs.allowed hs) (expression_step funs.allowed hs) (first_step funs.allowed hs) (lambda_step funs.allowed hs) (statement_step funs.allowed hs) (block_step funs.allowed hs) (catch_step funs.allowed hs) (declaration_step funs.allowed hs) (entry_step funs.allowed hs) (variable_step funs.allowed hs) (Statement-F.For at (Some f.0) (Some c.0) (Some u.0) (Some b.0)))) (λ last. steps_of funs (for_first_step funs at f.1 (condition_is funs (reading funs.allowed hs c.0) c.1) (update_is funs (reading funs.allowed hs u.0) u.1) (perhaps_some funs b.1)))
  statement_layer (Statement-F.ForEach at of name over b) = subst (λ (d : Doer). (last : Bool) → Steps funs (of_step funs) (d.typed last)) (sym (fold-roll-Statement (Doing Part) (Doing Step) Reading (Doing Step) Seen Doer Braces (Doing Caught) Doer (Doing (Part × Part)) (Ty → Doing TypedVariable) (argument_step funs.allowed hs) (body_step funs.allowed hs) (expression_step funs.allowed hs) (first_step funs.allowed hs) (lambda_step funs.allowed hs) (statement_step funs.allowed hs) (block_step funs.allowed hs) (catch_step funs.allowed hs) (declaration_step funs.allowed hs) (entry_step funs.allowed hs) (variable_step funs.allowed hs) (Statement-F.ForEach at of name over.0 b.0))) (λ last. steps_of funs (each_step funs at name (reading funs.allowed hs over.0) (type_value of) over.1 b.1))
  statement_layer (Statement-F.ForIn at name over b) = subst (λ (d : Doer). (last : Bool) → Steps funs (of_step funs) (d.typed last)) (sym (fold-roll-Statement (Doing Part) (Doing Step) Reading (Doing Step) Seen Doer Braces (Doing Caught) Doer (Doing (Part × Part)) (Ty → Doing TypedVariable) (argument_step funs.allowed hs) (body_step funs.allowed hs) (expression_step funs.allowed hs) (first_step funs.allowed hs) (lambda_step funs.allowed hs) (statement_step funs.allowed hs) (block_step funs.allowed hs) (catch_step funs.allowed hs) (declaration_step funs.allowed hs) (entry_step funs.allowed hs) (variable_step funs.allowed hs) (Statement-F.ForIn at name over.0 b.0))) (λ last. steps_of funs (each_step funs at name (reading funs.allowed hs over.0) def_value over.1 b.1))
  statement_layer (Statement-F.Try at block catches) = subst (λ (d : Doer). (last : Bool) → Steps funs (of_step funs) (d.typed last)) (sym (fold-roll-Statement (Doing Part) (Doing Step) Reading (Doing Step) Seen Doer Braces (Doing Caught) Doer (Doing (Part × Part)) (Ty → Doing TypedVariable) (argument_step funs.allowed hs) (body_step funs.allowed hs) (expression_step funs.allowed hs) (first_step funs.allowed hs) (lambda_step funs.allowed hs) (statement_step funs.allowed hs) (block_step funs.allowed hs) (catch_step funs.allowed hs) (declaration_step funs.allowed hs) (entry_step funs.allowed hs) (variable_step funs.allowed hs) (Statement-F.Try at block.0 (map (λ e. e.0) catches)))) (λ last. steps_of funs (try_step funs at (braces funs.allowed hs block.0).at (map handler (map (λ e. e.0) catches)) block.1 (given_catches catches)))
  statement_layer (Statement-F.Do at block condition) = subst (λ (d : Doer). (last : Bool) → Steps funs (of_step funs) (d.typed last)) (sym (fold-roll-Statement (Doing Part) (Doing Step) Reading (Doing Step) Seen Doer Braces (Doing Caught) Doer (Doing (Part × Part)) (Ty → Doing TypedVariable) (argument_step funs.allowed hs) (body_step funs.allowed hs) (expression_step funs.allowed hs) (first_step funs.allowed hs) (lambda_step funs.allowed hs) (statement_step funs.allowed hs) (block_step funs.allowed hs) (catch_step funs.allowed hs) (declaration_step funs.allowed hs) (entry_step funs.allowed hs) (variable_step funs.allowed hs) (Statement-F.Do at block.0 condition.0))) (λ last. steps_of funs (do_step funs at (braces funs.allowed hs block.0).at block.1 (condition_is funs (reading funs.allowed hs condition.0) condition.1)))
  statement_layer (Statement-F.«Statement::Declare» d) = subst (λ (d : Doer). (last : Bool) → Steps funs (of_step funs) (d.typed last)) (sym (fold-roll-Statement (Doing Part) (Doing Step) Reading (Doing Step) Seen Doer Braces (Doing Caught) Doer (Doing (Part × Part)) (Ty → Doing TypedVariable) (argument_step funs.allowed hs) (body_step funs.allowed hs) (expression_step funs.allowed hs) (first_step funs.allowed hs) (lambda_step funs.allowed hs) (statement_step funs.allowed hs) (block_step funs.allowed hs) (catch_step funs.allowed hs) (declaration_step funs.allowed hs) (entry_step funs.allowed hs) (variable_step funs.allowed hs) (Statement-F.«Statement::Declare» d.0))) (λ last. first_is_step funs (d.1 false))
  statement_layer (Statement-F.Continue at) = subst (λ (d : Doer). (last : Bool) → Steps funs (of_step funs) (d.typed last)) (sym (fold-roll-Statement (Doing Part) (Doing Step) Reading (Doing Step) Seen Doer Braces (Doing Caught) Doer (Doing (Part × Part)) (Ty → Doing TypedVariable) (argument_step funs.allowed hs) (body_step funs.allowed hs) (expression_step funs.allowed hs) (first_step funs.allowed hs) (lambda_step funs.allowed hs) (statement_step funs.allowed hs) (block_step funs.allowed hs) (catch_step funs.allowed hs) (declaration_step funs.allowed hs) (entry_step funs.allowed hs) (variable_step funs.allowed hs) (Statement-F.Continue at))) (λ last. steps_of funs (looks funs (continue_of at) (λ s x d e. continue_step funs s at x e)))
  statement_layer (Statement-F.Break at) = subst (λ (d : Doer). (last : Bool) → Steps funs (of_step funs) (d.typed last)) (sym (fold-roll-Statement (Doing Part) (Doing Step) Reading (Doing Step) Seen Doer Braces (Doing Caught) Doer (Doing (Part × Part)) (Ty → Doing TypedVariable) (argument_step funs.allowed hs) (body_step funs.allowed hs) (expression_step funs.allowed hs) (first_step funs.allowed hs) (lambda_step funs.allowed hs) (statement_step funs.allowed hs) (block_step funs.allowed hs) (catch_step funs.allowed hs) (declaration_step funs.allowed hs) (entry_step funs.allowed hs) (variable_step funs.allowed hs) (Statement-F.Break at))) (λ last. steps_of funs (looks funs (break_of at) (λ s x d e. break_step funs s at x e)))
  statement_layer (Statement-F.Return at None) = subst (λ (d : Doer). (last : Bool) → Steps funs (of_step funs) (d.typed last)) (sym (fold-roll-Statement (Doing Part) (Doing Step) Reading (Doing Step) Seen Doer Braces (Doing Caught) Doer (Doing (Part × Part)) (Ty → Doing TypedVariable) (argument_step funs.allowed hs) (body_step funs.allowed hs) (expression_step funs.allowed hs) (first_step funs.allowed hs) (lambda_step funs.allowed hs) (statement_step funs.allowed hs) (block_step funs.allowed hs) (catch_step funs.allowed hs) (declaration_step funs.allowed hs) (entry_step funs.allowed hs) (variable_step funs.allowed hs) (Statement-F.Return at None))) (λ last. steps_of funs (looks funs (nothing_returned at) (λ s x d e. nothing_step funs s at x e)))
  statement_layer (Statement-F.Return at (Some v)) = subst (λ (d : Doer). (last : Bool) → Steps funs (of_step funs) (d.typed last)) (sym (fold-roll-Statement (Doing Part) (Doing Step) Reading (Doing Step) Seen Doer Braces (Doing Caught) Doer (Doing (Part × Part)) (Ty → Doing TypedVariable) (argument_step funs.allowed hs) (body_step funs.allowed hs) (expression_step funs.allowed hs) (first_step funs.allowed hs) (lambda_step funs.allowed hs) (statement_step funs.allowed hs) (block_step funs.allowed hs) (catch_step funs.allowed hs) (declaration_step funs.allowed hs) (entry_step funs.allowed hs) (variable_step funs.allowed hs) (Statement-F.Return at (Some v.0)))) (λ last. steps_of funs (return_value at v.1))
  statement_layer (Statement-F.Throw at value) = subst (λ (d : Doer). (last : Bool) → Steps funs (of_step funs) (d.typed last)) (sym (fold-roll-Statement (Doing Part) (Doing Step) Reading (Doing Step) Seen Doer Braces (Doing Caught) Doer (Doing (Part × Part)) (Ty → Doing TypedVariable) (argument_step funs.allowed hs) (body_step funs.allowed hs) (expression_step funs.allowed hs) (first_step funs.allowed hs) (lambda_step funs.allowed hs) (statement_step funs.allowed hs) (block_step funs.allowed hs) (catch_step funs.allowed hs) (declaration_step funs.allowed hs) (entry_step funs.allowed hs) (variable_step funs.allowed hs) (Statement-F.Throw at value.0))) (λ last. steps_of funs (throw_value at (reading funs.allowed hs value.0) value.1))
  statement_layer (Statement-F.«Statement::Expression» at value) = subst (λ (d : Doer). (last : Bool) → Steps funs (of_step funs) (d.typed last)) (sym (fold-roll-Statement (Doing Part) (Doing Step) Reading (Doing Step) Seen Doer Braces (Doing Caught) Doer (Doing (Part × Part)) (Ty → Doing TypedVariable) (argument_step funs.allowed hs) (body_step funs.allowed hs) (expression_step funs.allowed hs) (first_step funs.allowed hs) (lambda_step funs.allowed hs) (statement_step funs.allowed hs) (block_step funs.allowed hs) (catch_step funs.allowed hs) (declaration_step funs.allowed hs) (entry_step funs.allowed hs) (variable_step funs.allowed hs) (Statement-F.«Statement::Expression» at value.0))) (λ last. steps_of funs (expression_value at last (reading funs.allowed hs value.0) value.1))

  block_layer : (y : WithBlock) → OfBlock (roll-Block (bareBlock y))
  block_layer y = subst (λ (b : Braces). Steps funs (row funs) b.steps) (sym (fold-roll-Block (Doing Part) (Doing Step) Reading (Doing Step) Seen Doer Braces (Doing Caught) Doer (Doing (Part × Part)) (Ty → Doing TypedVariable) (argument_step funs.allowed hs) (body_step funs.allowed hs) (expression_step funs.allowed hs) (first_step funs.allowed hs) (lambda_step funs.allowed hs) (statement_step funs.allowed hs) (block_step funs.allowed hs) (catch_step funs.allowed hs) (declaration_step funs.allowed hs) (entry_step funs.allowed hs) (variable_step funs.allowed hs) (bareBlock y))) (block_steps funs _ (row_steps y.statements))

  catch_layer : (y : WithCatch) → OfCatch (roll-Catch (bareCatch y))
  catch_layer y = subst (Value (CaughtAt funs)) (sym (fold-roll-Catch (Doing Part) (Doing Step) Reading (Doing Step) Seen Doer Braces (Doing Caught) Doer (Doing (Part × Part)) (Ty → Doing TypedVariable) (argument_step funs.allowed hs) (body_step funs.allowed hs) (expression_step funs.allowed hs) (first_step funs.allowed hs) (lambda_step funs.allowed hs) (statement_step funs.allowed hs) (block_step funs.allowed hs) (catch_step funs.allowed hs) (declaration_step funs.allowed hs) (entry_step funs.allowed hs) (variable_step funs.allowed hs) (bareCatch y))) (catch_value funs y.at (braces funs.allowed hs y.block.0).at y.of y.name y.block.1)

  declaration_layer : (y : WithDeclaration) → OfDeclaration (roll-Declaration (bareDeclaration y))
  declaration_layer y = subst (λ (d : Doer). (last : Bool) → Steps funs (of_first funs) (d.typed last)) (sym (fold-roll-Declaration (Doing Part) (Doing Step) Reading (Doing Step) Seen Doer Braces (Doing Caught) Doer (Doing (Part × Part)) (Ty → Doing TypedVariable) (argument_step funs.allowed hs) (body_step funs.allowed hs) (expression_step funs.allowed hs) (first_step funs.allowed hs) (lambda_step funs.allowed hs) (statement_step funs.allowed hs) (block_step funs.allowed hs) (catch_step funs.allowed hs) (declaration_step funs.allowed hs) (entry_step funs.allowed hs) (variable_step funs.allowed hs) (bareDeclaration y))) (λ last. declaration_agrees funs y.of.at y.of _ (λ of p. all_variables of p y.variables))

  entry_layer : (y : WithEntry) → OfEntry (roll-Entry (bareEntry y))
  entry_layer y = subst (Value EntryAt) (sym (fold-roll-Entry (Doing Part) (Doing Step) Reading (Doing Step) Seen Doer Braces (Doing Caught) Doer (Doing (Part × Part)) (Ty → Doing TypedVariable) (argument_step funs.allowed hs) (body_step funs.allowed hs) (expression_step funs.allowed hs) (first_step funs.allowed hs) (lambda_step funs.allowed hs) (statement_step funs.allowed hs) (block_step funs.allowed hs) (catch_step funs.allowed hs) (declaration_step funs.allowed hs) (entry_step funs.allowed hs) (variable_step funs.allowed hs) (bareEntry y))) (entry_value y.key.1.value y.value.1.value)

  abbrev option_of : Option ((x : Argument) × OfArgument x) → Option (Doing Part)
  option_of None = None
  option_of (Some v) = Some (argument funs.allowed hs v.0)

  abbrev bare_of : Option ((x : Argument) × OfArgument x) → Option Argument
  bare_of None = None
  bare_of (Some v) = Some v.0

  variable_first : (name : Spelled) (v : Option ((x : Argument) × OfArgument x)) (of : Ty) → IsBuilt of → Value (BeginAt funs of) (initial of (option_of v))
  variable_first name None of p = initial_none funs of
  variable_first name (Some v) of p = initial_some funs of p v.1

  varied : (name : Spelled) (v : Option ((x : Argument) × OfArgument x)) → OfVariable (roll-Variable (record { name = name; value = bare_of v }))
  varied name None = subst (λ (v : Ty → Doing TypedVariable). (of : Ty) → IsBuilt of → Steps funs (one_variable funs) (v of)) (sym (fold-roll-Variable (Doing Part) (Doing Step) Reading (Doing Step) Seen Doer Braces (Doing Caught) Doer (Doing (Part × Part)) (Ty → Doing TypedVariable) (argument_step funs.allowed hs) (body_step funs.allowed hs) (expression_step funs.allowed hs) (first_step funs.allowed hs) (lambda_step funs.allowed hs) (statement_step funs.allowed hs) (block_step funs.allowed hs) (catch_step funs.allowed hs) (declaration_step funs.allowed hs) (entry_step funs.allowed hs) (variable_step funs.allowed hs) (record { name = name; value = None }))) (λ of p. variable_is funs name of p (variable_first name None of p))
  varied name (Some v) = subst (λ (v : Ty → Doing TypedVariable). (of : Ty) → IsBuilt of → Steps funs (one_variable funs) (v of)) (sym (fold-roll-Variable (Doing Part) (Doing Step) Reading (Doing Step) Seen Doer Braces (Doing Caught) Doer (Doing (Part × Part)) (Ty → Doing TypedVariable) (argument_step funs.allowed hs) (body_step funs.allowed hs) (expression_step funs.allowed hs) (first_step funs.allowed hs) (lambda_step funs.allowed hs) (statement_step funs.allowed hs) (block_step funs.allowed hs) (catch_step funs.allowed hs) (declaration_step funs.allowed hs) (entry_step funs.allowed hs) (variable_step funs.allowed hs) (record { name = name; value = Some v.0 }))) (λ of p. variable_is funs name of p (variable_first name (Some v) of p))

  bared : (name : Spelled) (v : Option ((x : Argument) × OfArgument x)) → OfVariable (roll-Variable (bareVariable (record { name = name; value = v })))
  bared name None = varied name None
  bared name (Some v) = varied name (Some v)

  variable_layer : (y : WithVariable) → OfVariable (roll-Variable (bareVariable y))
  variable_layer y = bared y.name y.value

  -- ---- the induction

  pub statement_is : (x : Statement) → OfStatement x
  statement_is x = ind-Statement OfArgument OfBody OfExpr OfFirst OfLambdaBody OfStatement OfBlock OfCatch OfDeclaration OfEntry OfVariable (λ x y is. subst (λ z. OfArgument (roll-Argument z)) is (argument_layer y)) (λ x y is. subst (λ z. OfBody (roll-Body z)) is (body_layer y)) (λ x y is. subst (λ z. OfExpr (roll-Expr z)) is (expr_layer y)) (λ x y is. subst (λ z. OfFirst (roll-First z)) is (first_layer y)) (λ x y is. subst (λ z. OfLambdaBody (roll-LambdaBody z)) is (inner_layer y)) (λ x y is. subst (λ z. OfStatement (roll-Statement z)) is (statement_layer y)) (λ x y is. subst (λ z. OfBlock (roll-Block z)) is (block_layer y)) (λ x y is. subst (λ z. OfCatch (roll-Catch z)) is (catch_layer y)) (λ x y is. subst (λ z. OfDeclaration (roll-Declaration z)) is (declaration_layer y)) (λ x y is. subst (λ z. OfEntry (roll-Entry z)) is (entry_layer y)) (λ x y is. subst (λ z. OfVariable (roll-Variable z)) is (variable_layer y)) x

  pub block_is : (x : Block) → OfBlock x
  block_is x = ind-Block OfArgument OfBody OfExpr OfFirst OfLambdaBody OfStatement OfBlock OfCatch OfDeclaration OfEntry OfVariable (λ x y is. subst (λ z. OfArgument (roll-Argument z)) is (argument_layer y)) (λ x y is. subst (λ z. OfBody (roll-Body z)) is (body_layer y)) (λ x y is. subst (λ z. OfExpr (roll-Expr z)) is (expr_layer y)) (λ x y is. subst (λ z. OfFirst (roll-First z)) is (first_layer y)) (λ x y is. subst (λ z. OfLambdaBody (roll-LambdaBody z)) is (inner_layer y)) (λ x y is. subst (λ z. OfStatement (roll-Statement z)) is (statement_layer y)) (λ x y is. subst (λ z. OfBlock (roll-Block z)) is (block_layer y)) (λ x y is. subst (λ z. OfCatch (roll-Catch z)) is (catch_layer y)) (λ x y is. subst (λ z. OfDeclaration (roll-Declaration z)) is (declaration_layer y)) (λ x y is. subst (λ z. OfEntry (roll-Entry z)) is (entry_layer y)) (λ x y is. subst (λ z. OfVariable (roll-Variable z)) is (variable_layer y)) x
