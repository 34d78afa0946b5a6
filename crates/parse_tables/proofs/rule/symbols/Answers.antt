use Rattle.std.proofs.Common.{refl}
use Rattle.parse_tables.proofs.rule.symbols.Goals as goal

pub returns-in-FunctionOf-clause-row : goal.returns-in-FunctionOf-clause-row
returns-in-FunctionOf-clause-row c = rw c.in-FunctionOf.is refl

pub returns-in-FormalList-clause-row : goal.returns-in-FormalList-clause-row
returns-in-FormalList-clause-row c = rw c.in-FormalList.is refl

pub returns-in-FormalOf-clause-row : goal.returns-in-FormalOf-clause-row
returns-in-FormalOf-clause-row c = rw c.in-FormalOf.is refl

pub returns-in-NameType-clause-row : goal.returns-in-NameType-clause-row
returns-in-NameType-clause-row c = rw c.in-NameType.is refl

pub returns-in-KnownType-clause-row : goal.returns-in-KnownType-clause-row
returns-in-KnownType-clause-row c = rw c.in-KnownType.is refl

pub returns-in-CastTypeOf-clause-row : goal.returns-in-CastTypeOf-clause-row
returns-in-CastTypeOf-clause-row c = rw c.in-CastTypeOf.is refl

pub returns-in-Square-clause-row : goal.returns-in-Square-clause-row
returns-in-Square-clause-row c = rw c.in-Square.is refl

pub returns-in-Braces-clause-row : goal.returns-in-Braces-clause-row
returns-in-Braces-clause-row c = rw c.in-Braces.is refl

pub returns-in-Opens-clause-row : goal.returns-in-Opens-clause-row
returns-in-Opens-clause-row c = rw c.in-Opens.is refl

pub returns-in-Closes-clause-row : goal.returns-in-Closes-clause-row
returns-in-Closes-clause-row c = rw c.in-Closes.is refl

pub returns-in-InnerOpens-clause-row : goal.returns-in-InnerOpens-clause-row
returns-in-InnerOpens-clause-row c = rw c.in-InnerOpens.is refl

pub returns-in-InnerCloses-clause-row : goal.returns-in-InnerCloses-clause-row
returns-in-InnerCloses-clause-row c = rw c.in-InnerCloses.is refl

pub returns-in-LastSemicolon-clause-row : goal.returns-in-LastSemicolon-clause-row
returns-in-LastSemicolon-clause-row c = rw c.in-LastSemicolon.is refl

pub returns-in-Semicolon-clause-row : goal.returns-in-Semicolon-clause-row
returns-in-Semicolon-clause-row c = rw c.in-Semicolon.is refl

pub returns-in-Conditional-clause-row : goal.returns-in-Conditional-clause-row
returns-in-Conditional-clause-row c = rw c.in-Conditional.is refl

pub returns-in-Looped-clause-row : goal.returns-in-Looped-clause-row
returns-in-Looped-clause-row c = rw c.in-Looped.is refl

pub returns-in-ForLoop-clause-row : goal.returns-in-ForLoop-clause-row
returns-in-ForLoop-clause-row c = rw c.in-ForLoop.is refl

pub returns-in-Tried-clause-row : goal.returns-in-Tried-clause-row
returns-in-Tried-clause-row c = rw c.in-Tried.is refl

pub returns-in-Alternative-clause-row : goal.returns-in-Alternative-clause-row
returns-in-Alternative-clause-row c = rw c.in-Alternative.is refl

pub returns-in-Runs-clause-row : goal.returns-in-Runs-clause-row
returns-in-Runs-clause-row c = rw c.in-Runs.is refl

pub returns-in-Idle-clause-row : goal.returns-in-Idle-clause-row
returns-in-Idle-clause-row c = rw c.in-Idle.is refl

pub returns-in-ThreeEmpty-clause-row : goal.returns-in-ThreeEmpty-clause-row
returns-in-ThreeEmpty-clause-row c = rw c.in-ThreeEmpty.is refl

pub returns-in-ThreeFirst-clause-row : goal.returns-in-ThreeFirst-clause-row
returns-in-ThreeFirst-clause-row c = rw c.in-ThreeFirst.is refl

pub returns-in-EachOf-clause-row : goal.returns-in-EachOf-clause-row
returns-in-EachOf-clause-row c = rw c.in-EachOf.is refl

pub returns-in-EachIn-clause-row : goal.returns-in-EachIn-clause-row
returns-in-EachIn-clause-row c = rw c.in-EachIn.is refl

pub returns-in-ThreeParts-clause-row : goal.returns-in-ThreeParts-clause-row
returns-in-ThreeParts-clause-row c = rw c.in-ThreeParts.is refl

pub returns-in-TailParts-clause-row : goal.returns-in-TailParts-clause-row
returns-in-TailParts-clause-row c = rw c.in-TailParts.is refl

pub returns-in-Declares-clause-row : goal.returns-in-Declares-clause-row
returns-in-Declares-clause-row c = rw c.in-Declares.is refl

pub returns-in-Expresses-clause-row : goal.returns-in-Expresses-clause-row
returns-in-Expresses-clause-row c = rw c.in-Expresses.is refl

pub returns-in-Catches-clause-row : goal.returns-in-Catches-clause-row
returns-in-Catches-clause-row c = rw c.in-Catches.is refl

pub returns-in-DoLoop-clause-row : goal.returns-in-DoLoop-clause-row
returns-in-DoLoop-clause-row c = rw c.in-DoLoop.is refl

pub returns-in-Declared-clause-row : goal.returns-in-Declared-clause-row
returns-in-Declared-clause-row c = rw c.in-Declared.is refl

pub returns-in-Jump-clause-row : goal.returns-in-Jump-clause-row
returns-in-Jump-clause-row c = rw c.in-Jump.is refl

pub returns-in-Returned-clause-row : goal.returns-in-Returned-clause-row
returns-in-Returned-clause-row c = rw c.in-Returned.is refl

pub returns-in-Thrown-clause-row : goal.returns-in-Thrown-clause-row
returns-in-Thrown-clause-row c = rw c.in-Thrown.is refl

pub returns-in-Value-clause-row : goal.returns-in-Value-clause-row
returns-in-Value-clause-row c = rw c.in-Value.is refl

pub returns-in-Declaration-clause-row : goal.returns-in-Declaration-clause-row
returns-in-Declaration-clause-row c = rw c.in-Declaration.is refl

pub returns-in-Variable-clause-row : goal.returns-in-Variable-clause-row
returns-in-Variable-clause-row c = rw c.in-Variable.is refl

pub returns-in-Assigned-clause-row : goal.returns-in-Assigned-clause-row
returns-in-Assigned-clause-row c = rw c.in-Assigned.is refl

pub returns-in-BlockBody-clause-row : goal.returns-in-BlockBody-clause-row
returns-in-BlockBody-clause-row c = rw c.in-BlockBody.is refl

pub returns-in-StatementBody-clause-row : goal.returns-in-StatementBody-clause-row
returns-in-StatementBody-clause-row c = rw c.in-StatementBody.is refl

pub returns-in-Expression-clause-row : goal.returns-in-Expression-clause-row
returns-in-Expression-clause-row c = rw c.in-Expression.is refl

pub returns-in-ConditionalRest-clause-row : goal.returns-in-ConditionalRest-clause-row
returns-in-ConditionalRest-clause-row c = rw c.in-ConditionalRest.is refl

pub returns-in-AssignRest-clause-row : goal.returns-in-AssignRest-clause-row
returns-in-AssignRest-clause-row c = rw c.in-AssignRest.is refl

pub returns-in-CompoundRest-clause-row : goal.returns-in-CompoundRest-clause-row
returns-in-CompoundRest-clause-row c = rw c.in-CompoundRest.is refl

pub returns-in-Elvises-clause-row : goal.returns-in-Elvises-clause-row
returns-in-Elvises-clause-row c = rw c.in-Elvises.is refl

pub returns-in-ElvisOf-clause-row : goal.returns-in-ElvisOf-clause-row
returns-in-ElvisOf-clause-row c = rw c.in-ElvisOf.is refl

pub returns-in-Prefix-clause-row : goal.returns-in-Prefix-clause-row
returns-in-Prefix-clause-row c = rw c.in-Prefix.is refl

pub returns-in-Signed-clause-row : goal.returns-in-Signed-clause-row
returns-in-Signed-clause-row c = rw c.in-Signed.is refl

pub returns-in-Negated-clause-row : goal.returns-in-Negated-clause-row
returns-in-Negated-clause-row c = rw c.in-Negated.is refl

pub returns-in-Cast-clause-row : goal.returns-in-Cast-clause-row
returns-in-Cast-clause-row c = rw c.in-Cast.is refl

pub returns-in-Plain-clause-row : goal.returns-in-Plain-clause-row
returns-in-Plain-clause-row c = rw c.in-Plain.is refl

pub returns-in-StepToken-clause-row : goal.returns-in-StepToken-clause-row
returns-in-StepToken-clause-row c = rw c.in-StepToken.is refl

pub returns-in-Suffixed-clause-row : goal.returns-in-Suffixed-clause-row
returns-in-Suffixed-clause-row c = rw c.in-Suffixed.is refl

pub returns-in-Typed-clause-row : goal.returns-in-Typed-clause-row
returns-in-Typed-clause-row c = rw c.in-Typed.is refl

pub returns-in-Created-clause-row : goal.returns-in-Created-clause-row
returns-in-Created-clause-row c = rw c.in-Created.is refl

pub returns-in-NameElement-clause-row : goal.returns-in-NameElement-clause-row
returns-in-NameElement-clause-row c = rw c.in-NameElement.is refl

pub returns-in-KnownElement-clause-row : goal.returns-in-KnownElement-clause-row
returns-in-KnownElement-clause-row c = rw c.in-KnownElement.is refl

pub returns-in-NewObject-clause-row : goal.returns-in-NewObject-clause-row
returns-in-NewObject-clause-row c = rw c.in-NewObject.is refl

pub returns-in-NewArray-clause-row : goal.returns-in-NewArray-clause-row
returns-in-NewArray-clause-row c = rw c.in-NewArray.is refl

pub returns-in-EmptyBracket-clause-row : goal.returns-in-EmptyBracket-clause-row
returns-in-EmptyBracket-clause-row c = rw c.in-EmptyBracket.is refl

pub returns-in-FirstSize-clause-row : goal.returns-in-FirstSize-clause-row
returns-in-FirstSize-clause-row c = rw c.in-FirstSize.is refl

pub returns-in-ArrayItems-clause-row : goal.returns-in-ArrayItems-clause-row
returns-in-ArrayItems-clause-row c = rw c.in-ArrayItems.is refl

pub returns-in-ArrayObject-clause-row : goal.returns-in-ArrayObject-clause-row
returns-in-ArrayObject-clause-row c = rw c.in-ArrayObject.is refl

pub returns-in-ArrayDeeper-clause-row : goal.returns-in-ArrayDeeper-clause-row
returns-in-ArrayDeeper-clause-row c = rw c.in-ArrayDeeper.is refl

pub returns-in-SizeOf-clause-row : goal.returns-in-SizeOf-clause-row
returns-in-SizeOf-clause-row c = rw c.in-SizeOf.is refl

pub returns-in-Bracketed-clause-row : goal.returns-in-Bracketed-clause-row
returns-in-Bracketed-clause-row c = rw c.in-Bracketed.is refl

pub returns-in-Integer-clause-row : goal.returns-in-Integer-clause-row
returns-in-Integer-clause-row c = rw c.in-Integer.is refl

pub returns-in-String-clause-row : goal.returns-in-String-clause-row
returns-in-String-clause-row c = rw c.in-String.is refl

pub returns-in-Constant-clause-row : goal.returns-in-Constant-clause-row
returns-in-Constant-clause-row c = rw c.in-Constant.is refl

pub returns-in-Collection-clause-row : goal.returns-in-Collection-clause-row
returns-in-Collection-clause-row c = rw c.in-Collection.is refl

pub returns-in-Named-clause-row : goal.returns-in-Named-clause-row
returns-in-Named-clause-row c = rw c.in-Named.is refl

pub returns-in-NoEntries-clause-row : goal.returns-in-NoEntries-clause-row
returns-in-NoEntries-clause-row c = rw c.in-NoEntries.is refl

pub returns-in-Filled-clause-row : goal.returns-in-Filled-clause-row
returns-in-Filled-clause-row c = rw c.in-Filled.is refl

pub returns-in-MoreItems-clause-row : goal.returns-in-MoreItems-clause-row
returns-in-MoreItems-clause-row c = rw c.in-MoreItems.is refl

pub returns-in-MoreEntries-clause-row : goal.returns-in-MoreEntries-clause-row
returns-in-MoreEntries-clause-row c = rw c.in-MoreEntries.is refl

pub returns-in-EntryOf-clause-row : goal.returns-in-EntryOf-clause-row
returns-in-EntryOf-clause-row c = rw c.in-EntryOf.is refl

pub returns-in-ItemsOf-clause-row : goal.returns-in-ItemsOf-clause-row
returns-in-ItemsOf-clause-row c = rw c.in-ItemsOf.is refl

pub returns-in-ItemOf-clause-row : goal.returns-in-ItemOf-clause-row
returns-in-ItemOf-clause-row c = rw c.in-ItemOf.is refl

pub returns-in-Access-clause-row : goal.returns-in-Access-clause-row
returns-in-Access-clause-row c = rw c.in-Access.is refl

pub returns-in-Index-clause-row : goal.returns-in-Index-clause-row
returns-in-Index-clause-row c = rw c.in-Index.is refl

pub returns-in-DotOf-clause-row : goal.returns-in-DotOf-clause-row
returns-in-DotOf-clause-row c = rw c.in-DotOf.is refl

pub returns-in-NamedMember-clause-row : goal.returns-in-NamedMember-clause-row
returns-in-NamedMember-clause-row c = rw c.in-NamedMember.is refl

pub returns-in-Numbered-clause-row : goal.returns-in-Numbered-clause-row
returns-in-Numbered-clause-row c = rw c.in-Numbered.is refl

pub returns-in-ArgsOf-clause-row : goal.returns-in-ArgsOf-clause-row
returns-in-ArgsOf-clause-row c = rw c.in-ArgsOf.is refl

pub returns-in-ArgumentsOf-clause-row : goal.returns-in-ArgumentsOf-clause-row
returns-in-ArgumentsOf-clause-row c = rw c.in-ArgumentsOf.is refl

pub returns-in-Argued-clause-row : goal.returns-in-Argued-clause-row
returns-in-Argued-clause-row c = rw c.in-Argued.is refl

pub returns-in-Lambda-clause-row : goal.returns-in-Lambda-clause-row
returns-in-Lambda-clause-row c = rw c.in-Lambda.is refl

pub returns-in-Lambdas-clause-row : goal.returns-in-Lambdas-clause-row
returns-in-Lambdas-clause-row c = rw c.in-Lambdas.is refl

pub returns-in-Reference-clause-row : goal.returns-in-Reference-clause-row
returns-in-Reference-clause-row c = rw c.in-Reference.is refl

pub returns-in-ThisReference-clause-row : goal.returns-in-ThisReference-clause-row
returns-in-ThisReference-clause-row c = rw c.in-ThisReference.is refl

pub returns-in-RefWord-clause-row : goal.returns-in-RefWord-clause-row
returns-in-RefWord-clause-row c = rw c.in-RefWord.is refl

pub returns-in-RefNew-clause-row : goal.returns-in-RefNew-clause-row
returns-in-RefNew-clause-row c = rw c.in-RefNew.is refl

pub returns-in-ParamsOf-clause-row : goal.returns-in-ParamsOf-clause-row
returns-in-ParamsOf-clause-row c = rw c.in-ParamsOf.is refl

pub returns-in-TypedParam-clause-row : goal.returns-in-TypedParam-clause-row
returns-in-TypedParam-clause-row c = rw c.in-TypedParam.is refl

pub returns-in-BareParam-clause-row : goal.returns-in-BareParam-clause-row
returns-in-BareParam-clause-row c = rw c.in-BareParam.is refl

pub returns-in-BlockLambda-clause-row : goal.returns-in-BlockLambda-clause-row
returns-in-BlockLambda-clause-row c = rw c.in-BlockLambda.is refl

pub returns-in-ExprLambda-clause-row : goal.returns-in-ExprLambda-clause-row
returns-in-ExprLambda-clause-row c = rw c.in-ExprLambda.is refl

pub returns-in-Products-clause-row : goal.returns-in-Products-clause-row
returns-in-Products-clause-row c = rw c.in-Products.is refl

pub returns-in-Tests-clause-row : goal.returns-in-Tests-clause-row
returns-in-Tests-clause-row c = rw c.in-Tests.is refl

pub returns-in-Joins-clause-row : goal.returns-in-Joins-clause-row
returns-in-Joins-clause-row c = rw c.in-Joins.is c.joined.ensures.row

pub returns-in-Times-clause-row : goal.returns-in-Times-clause-row
returns-in-Times-clause-row c = rw c.in-Times.is refl

pub returns-in-Test-clause-row : goal.returns-in-Test-clause-row
returns-in-Test-clause-row c = rw c.in-Test.is refl

pub returns-in-Further-clause-row : goal.returns-in-Further-clause-row
returns-in-Further-clause-row c = rw c.in-Further.is c.further.ensures.row

pub returns-in-AfterComma-clause-row : goal.returns-in-AfterComma-clause-row
returns-in-AfterComma-clause-row c = rw c.in-AfterComma.is c.after_comma.ensures.row
