-- Each arm is its builder.
use Rattle.std.proofs.Common.{◌≡◌, ◌∷◌, List}
use Rattle.parse_values.specs.declared.value.Value.{Value}
use Rattle.parse_values.specs.Stack.{AreTwo}
use Rattle.parse_actions.proofs.OnOk.{on_ok}
use Rattle.parse_actions.proofs.reducing.reduce.Goals as goal

-- there are two
two : (stack : List Value) (value second : Value) (below : List Value) → stack ≡ value ∷ second ∷ below → AreTwo stack
two stack value second below h = (value, second, below, h)

pub function_of-requires : goal.function_of-requires
function_of-requires c = rw c.in-FunctionOf.is at c.requires

pub returns-in-FunctionOf : goal.returns-in-FunctionOf
returns-in-FunctionOf c = rw c.in-FunctionOf.is c.function_of.ensures

pub formal_list-requires : goal.formal_list-requires
formal_list-requires c = rw c.in-FormalList.is at c.requires

pub returns-in-FormalList : goal.returns-in-FormalList
returns-in-FormalList c = rw c.in-FormalList.is c.formal_list.ensures

pub formal_of-requires : goal.formal_of-requires
formal_of-requires c = rw c.in-FormalOf.is at c.requires

pub returns-in-FormalOf : goal.returns-in-FormalOf
returns-in-FormalOf c = rw c.in-FormalOf.is c.formal_of.ensures

pub name_type-requires : goal.name_type-requires
name_type-requires c = rw c.in-NameType.is at c.requires

pub returns-in-NameType : goal.returns-in-NameType
returns-in-NameType c = rw c.in-NameType.is c.name_type.ensures

pub returns-in-KnownType : goal.returns-in-KnownType
returns-in-KnownType c = rw c.in-KnownType.is (λ trees below e. e)

pub cast_type_of-requires : goal.cast_type_of-requires
cast_type_of-requires c = rw c.in-CastTypeOf.is at c.requires

pub returns-in-CastTypeOf : goal.returns-in-CastTypeOf
returns-in-CastTypeOf c = rw c.in-CastTypeOf.is c.cast_type_of.ensures

pub square-requires : goal.square-requires
square-requires c = rw c.in-Square.is at c.requires

pub returns-in-Square : goal.returns-in-Square
returns-in-Square c = rw c.in-Square.is c.square.ensures

pub braces-requires : goal.braces-requires
braces-requires c = rw c.in-Braces.is at c.requires

pub returns-in-Braces : goal.returns-in-Braces
returns-in-Braces c = rw c.in-Braces.is c.braces.ensures

pub returns-in-Opens : goal.returns-in-Opens
returns-in-Opens c = rw c.in-Opens.is (λ trees below e. e)

pub keep_first-requires : goal.keep_first-requires
keep_first-requires c = two c.args.stack.now _ _ _ (rw c.in-Closes.is at c.requires).2

pub returns-in-Closes : goal.returns-in-Closes
returns-in-Closes c = rw c.in-Closes.is (on_ok c.keep_first.result (λ h trees below e. h _ _ _ e) c.keep_first.ensures)

pub returns-in-InnerOpens : goal.returns-in-InnerOpens
returns-in-InnerOpens c = rw c.in-InnerOpens.is (λ trees below e. e)

pub keep_first-requires-in-InnerCloses : goal.keep_first-requires-in-InnerCloses
keep_first-requires-in-InnerCloses c = two c.args.stack.now _ _ _ (rw c.in-InnerCloses.is at c.requires).2

pub returns-in-InnerCloses : goal.returns-in-InnerCloses
returns-in-InnerCloses c = rw c.in-InnerCloses.is (on_ok c.keep_first-in-InnerCloses.result (λ h trees below e. h _ _ _ e) c.keep_first-in-InnerCloses.ensures)

pub returns-in-LastSemicolon : goal.returns-in-LastSemicolon
returns-in-LastSemicolon c = rw c.in-LastSemicolon.is (λ trees below e. e)

pub returns-in-Semicolon : goal.returns-in-Semicolon
returns-in-Semicolon c = rw c.in-Semicolon.is (λ trees below e. e)

pub conditional-requires : goal.conditional-requires
conditional-requires c = rw c.in-Conditional.is at c.requires

pub returns-in-Conditional : goal.returns-in-Conditional
returns-in-Conditional c = rw c.in-Conditional.is c.conditional.ensures

pub looped-requires : goal.looped-requires
looped-requires c = rw c.in-Looped.is at c.requires

pub returns-in-Looped : goal.returns-in-Looped
returns-in-Looped c = rw c.in-Looped.is c.looped.ensures

pub for_loop-requires : goal.for_loop-requires
for_loop-requires c = rw c.in-ForLoop.is at c.requires

pub returns-in-ForLoop : goal.returns-in-ForLoop
returns-in-ForLoop c = rw c.in-ForLoop.is c.for_loop.ensures

pub tried-requires : goal.tried-requires
tried-requires c = rw c.in-Tried.is at c.requires

pub returns-in-Tried : goal.returns-in-Tried
returns-in-Tried c = rw c.in-Tried.is c.tried.ensures

pub keep_second-requires : goal.keep_second-requires
keep_second-requires c = two c.args.stack.now _ _ _ (rw c.in-Alternative.is at c.requires).2

pub returns-in-Alternative : goal.returns-in-Alternative
returns-in-Alternative c = rw c.in-Alternative.is (on_ok c.keep_second.result (λ h trees below e. h _ _ _ e) c.keep_second.ensures)

pub runs-requires : goal.runs-requires
runs-requires c = rw c.in-Runs.is at c.requires

pub returns-in-Runs : goal.returns-in-Runs
returns-in-Runs c = rw c.in-Runs.is c.runs.ensures

pub idle-requires : goal.idle-requires
idle-requires c = rw c.in-Idle.is at c.requires

pub returns-in-Idle : goal.returns-in-Idle
returns-in-Idle c = rw c.in-Idle.is c.idle.ensures

pub three_empty-requires : goal.three_empty-requires
three_empty-requires c = rw c.in-ThreeEmpty.is at c.requires

pub returns-in-ThreeEmpty : goal.returns-in-ThreeEmpty
returns-in-ThreeEmpty c = rw c.in-ThreeEmpty.is c.three_empty.ensures

pub three_first-requires : goal.three_first-requires
three_first-requires c = rw c.in-ThreeFirst.is at c.requires

pub returns-in-ThreeFirst : goal.returns-in-ThreeFirst
returns-in-ThreeFirst c = rw c.in-ThreeFirst.is c.three_first.ensures

pub each_of-requires : goal.each_of-requires
each_of-requires c = rw c.in-EachOf.is at c.requires

pub returns-in-EachOf : goal.returns-in-EachOf
returns-in-EachOf c = rw c.in-EachOf.is c.each_of.ensures

pub each_in-requires : goal.each_in-requires
each_in-requires c = rw c.in-EachIn.is at c.requires

pub returns-in-EachIn : goal.returns-in-EachIn
returns-in-EachIn c = rw c.in-EachIn.is c.each_in.ensures

pub three_parts-requires : goal.three_parts-requires
three_parts-requires c = rw c.in-ThreeParts.is at c.requires

pub returns-in-ThreeParts : goal.returns-in-ThreeParts
returns-in-ThreeParts c = rw c.in-ThreeParts.is c.three_parts.ensures

pub tail_parts-requires : goal.tail_parts-requires
tail_parts-requires c = rw c.in-TailParts.is at c.requires

pub returns-in-TailParts : goal.returns-in-TailParts
returns-in-TailParts c = rw c.in-TailParts.is c.tail_parts.ensures

pub declares-requires : goal.declares-requires
declares-requires c = rw c.in-Declares.is at c.requires

pub returns-in-Declares : goal.returns-in-Declares
returns-in-Declares c = rw c.in-Declares.is c.declares.ensures

pub expresses-requires : goal.expresses-requires
expresses-requires c = rw c.in-Expresses.is at c.requires

pub returns-in-Expresses : goal.returns-in-Expresses
returns-in-Expresses c = rw c.in-Expresses.is c.expresses.ensures

pub catches-requires : goal.catches-requires
catches-requires c = rw c.in-Catches.is at c.requires

pub returns-in-Catches : goal.returns-in-Catches
returns-in-Catches c = rw c.in-Catches.is c.catches.ensures

pub do_loop-requires : goal.do_loop-requires
do_loop-requires c = rw c.in-DoLoop.is at c.requires

pub returns-in-DoLoop : goal.returns-in-DoLoop
returns-in-DoLoop c = rw c.in-DoLoop.is c.do_loop.ensures

pub declared-requires : goal.declared-requires
declared-requires c = rw c.in-Declared.is at c.requires

pub returns-in-Declared : goal.returns-in-Declared
returns-in-Declared c = rw c.in-Declared.is c.declared.ensures

pub jump-requires : goal.jump-requires
jump-requires c = rw c.in-Jump.is at c.requires

pub returns-in-Jump : goal.returns-in-Jump
returns-in-Jump c = rw c.in-Jump.is c.jump.ensures

pub returned-requires : goal.returned-requires
returned-requires c = rw c.in-Returned.is at c.requires

pub returns-in-Returned : goal.returns-in-Returned
returns-in-Returned c = rw c.in-Returned.is c.returned.ensures

pub thrown-requires : goal.thrown-requires
thrown-requires c = rw c.in-Thrown.is at c.requires

pub returns-in-Thrown : goal.returns-in-Thrown
returns-in-Thrown c = rw c.in-Thrown.is c.thrown.ensures

pub value_statement-requires : goal.value_statement-requires
value_statement-requires c = rw c.in-Value.is at c.requires

pub returns-in-Value : goal.returns-in-Value
returns-in-Value c = rw c.in-Value.is c.value_statement.ensures

pub declaration_of-requires : goal.declaration_of-requires
declaration_of-requires c = rw c.in-Declaration.is at c.requires

pub returns-in-Declaration : goal.returns-in-Declaration
returns-in-Declaration c = rw c.in-Declaration.is c.declaration_of.ensures

pub variable_of-requires : goal.variable_of-requires
variable_of-requires c = rw c.in-Variable.is at c.requires

pub returns-in-Variable : goal.returns-in-Variable
returns-in-Variable c = rw c.in-Variable.is c.variable_of.ensures

pub keep_second-requires-in-Assigned : goal.keep_second-requires-in-Assigned
keep_second-requires-in-Assigned c = two c.args.stack.now _ _ _ (rw c.in-Assigned.is at c.requires).2

pub returns-in-Assigned : goal.returns-in-Assigned
returns-in-Assigned c = rw c.in-Assigned.is (on_ok c.keep_second-in-Assigned.result (λ h trees below e. h _ _ _ e) c.keep_second-in-Assigned.ensures)

pub block_body-requires : goal.block_body-requires
block_body-requires c = rw c.in-BlockBody.is at c.requires

pub returns-in-BlockBody : goal.returns-in-BlockBody
returns-in-BlockBody c = rw c.in-BlockBody.is c.block_body.ensures

pub statement_body-requires : goal.statement_body-requires
statement_body-requires c = rw c.in-StatementBody.is at c.requires

pub returns-in-StatementBody : goal.returns-in-StatementBody
returns-in-StatementBody c = rw c.in-StatementBody.is c.statement_body.ensures

pub expression-requires : goal.expression-requires
expression-requires c = rw c.in-Expression.is at c.requires

pub returns-in-Expression : goal.returns-in-Expression
returns-in-Expression c = rw c.in-Expression.is c.expression.ensures

pub conditional_rest-requires : goal.conditional_rest-requires
conditional_rest-requires c = rw c.in-ConditionalRest.is at c.requires

pub returns-in-ConditionalRest : goal.returns-in-ConditionalRest
returns-in-ConditionalRest c = rw c.in-ConditionalRest.is c.conditional_rest.ensures

pub assign_rest-requires : goal.assign_rest-requires
assign_rest-requires c = rw c.in-AssignRest.is at c.requires

pub returns-in-AssignRest : goal.returns-in-AssignRest
returns-in-AssignRest c = rw c.in-AssignRest.is c.assign_rest.ensures

pub compound_rest-requires : goal.compound_rest-requires
compound_rest-requires c = rw c.in-CompoundRest.is at c.requires

pub returns-in-CompoundRest : goal.returns-in-CompoundRest
returns-in-CompoundRest c = rw c.in-CompoundRest.is c.compound_rest.ensures

pub elvises-requires : goal.elvises-requires
elvises-requires c = rw c.in-Elvises.is at c.requires

pub returns-in-Elvises : goal.returns-in-Elvises
returns-in-Elvises c = rw c.in-Elvises.is c.elvises.ensures

pub elvis_of-requires : goal.elvis_of-requires
elvis_of-requires c = rw c.in-ElvisOf.is at c.requires

pub returns-in-ElvisOf : goal.returns-in-ElvisOf
returns-in-ElvisOf c = rw c.in-ElvisOf.is c.elvis_of.ensures

pub prefix-requires : goal.prefix-requires
prefix-requires c = rw c.in-Prefix.is at c.requires

pub returns-in-Prefix : goal.returns-in-Prefix
returns-in-Prefix c = rw c.in-Prefix.is c.prefix.ensures

pub signed-requires : goal.signed-requires
signed-requires c = rw c.in-Signed.is at c.requires

pub returns-in-Signed : goal.returns-in-Signed
returns-in-Signed c = rw c.in-Signed.is c.signed.ensures

pub signed-requires-in-Negated : goal.signed-requires-in-Negated
signed-requires-in-Negated c = rw c.in-Negated.is at c.requires

pub returns-in-Negated : goal.returns-in-Negated
returns-in-Negated c = rw c.in-Negated.is c.signed-in-Negated.ensures

pub cast-requires : goal.cast-requires
cast-requires c = rw c.in-Cast.is at c.requires

pub returns-in-Cast : goal.returns-in-Cast
returns-in-Cast c = rw c.in-Cast.is c.cast.ensures

pub plain-requires : goal.plain-requires
plain-requires c = rw c.in-Plain.is at c.requires

pub returns-in-Plain : goal.returns-in-Plain
returns-in-Plain c = rw c.in-Plain.is c.plain.ensures

pub returns-in-StepToken : goal.returns-in-StepToken
returns-in-StepToken c = rw c.in-StepToken.is (λ trees below e. e)

pub suffixed-requires : goal.suffixed-requires
suffixed-requires c = rw c.in-Suffixed.is at c.requires

pub returns-in-Suffixed : goal.returns-in-Suffixed
returns-in-Suffixed c = rw c.in-Suffixed.is c.suffixed.ensures

pub typed-requires : goal.typed-requires
typed-requires c = rw c.in-Typed.is at c.requires

pub returns-in-Typed : goal.returns-in-Typed
returns-in-Typed c = rw c.in-Typed.is c.typed.ensures

pub created-requires : goal.created-requires
created-requires c = rw c.in-Created.is at c.requires

pub returns-in-Created : goal.returns-in-Created
returns-in-Created c = rw c.in-Created.is c.created.ensures

pub name_element-requires : goal.name_element-requires
name_element-requires c = rw c.in-NameElement.is at c.requires

pub returns-in-NameElement : goal.returns-in-NameElement
returns-in-NameElement c = rw c.in-NameElement.is c.name_element.ensures

pub known_element-requires : goal.known_element-requires
known_element-requires c = rw c.in-KnownElement.is at c.requires

pub returns-in-KnownElement : goal.returns-in-KnownElement
returns-in-KnownElement c = rw c.in-KnownElement.is c.known_element.ensures

pub new_object-requires : goal.new_object-requires
new_object-requires c = rw c.in-NewObject.is at c.requires

pub returns-in-NewObject : goal.returns-in-NewObject
returns-in-NewObject c = rw c.in-NewObject.is c.new_object.ensures

pub new_array-requires : goal.new_array-requires
new_array-requires c = rw c.in-NewArray.is at c.requires

pub returns-in-NewArray : goal.returns-in-NewArray
returns-in-NewArray c = rw c.in-NewArray.is c.new_array.ensures

pub keep_second-requires-in-EmptyBracket : goal.keep_second-requires-in-EmptyBracket
keep_second-requires-in-EmptyBracket c = two c.args.stack.now _ _ _ (rw c.in-EmptyBracket.is at c.requires).2

pub returns-in-EmptyBracket : goal.returns-in-EmptyBracket
returns-in-EmptyBracket c = rw c.in-EmptyBracket.is (on_ok c.keep_second-in-EmptyBracket.result (λ h trees below e. h _ _ _ e) c.keep_second-in-EmptyBracket.ensures)

pub first_size-requires : goal.first_size-requires
first_size-requires c = rw c.in-FirstSize.is at c.requires

pub returns-in-FirstSize : goal.returns-in-FirstSize
returns-in-FirstSize c = rw c.in-FirstSize.is c.first_size.ensures

pub array_items-requires : goal.array_items-requires
array_items-requires c = rw c.in-ArrayItems.is at c.requires

pub returns-in-ArrayItems : goal.returns-in-ArrayItems
returns-in-ArrayItems c = rw c.in-ArrayItems.is c.array_items.ensures

pub new_object-requires-in-ArrayObject : goal.new_object-requires-in-ArrayObject
new_object-requires-in-ArrayObject c = rw c.in-ArrayObject.is at c.requires

pub returns-in-ArrayObject : goal.returns-in-ArrayObject
returns-in-ArrayObject c = rw c.in-ArrayObject.is c.new_object-in-ArrayObject.ensures

pub array_deeper-requires : goal.array_deeper-requires
array_deeper-requires c = rw c.in-ArrayDeeper.is at c.requires

pub returns-in-ArrayDeeper : goal.returns-in-ArrayDeeper
returns-in-ArrayDeeper c = rw c.in-ArrayDeeper.is c.array_deeper.ensures

pub size_of-requires : goal.size_of-requires
size_of-requires c = rw c.in-SizeOf.is at c.requires

pub returns-in-SizeOf : goal.returns-in-SizeOf
returns-in-SizeOf c = rw c.in-SizeOf.is c.size_of.ensures

pub bracketed-requires : goal.bracketed-requires
bracketed-requires c = rw c.in-Bracketed.is at c.requires

pub returns-in-Bracketed : goal.returns-in-Bracketed
returns-in-Bracketed c = rw c.in-Bracketed.is c.bracketed.ensures

pub integer-requires : goal.integer-requires
integer-requires c = rw c.in-Integer.is at c.requires

pub returns-in-Integer : goal.returns-in-Integer
returns-in-Integer c = rw c.in-Integer.is c.integer.ensures

pub string-requires : goal.string-requires
string-requires c = rw c.in-String.is at c.requires

pub returns-in-String : goal.returns-in-String
returns-in-String c = rw c.in-String.is c.string.ensures

pub constant-requires : goal.constant-requires
constant-requires c = rw c.in-Constant.is at c.requires

pub returns-in-Constant : goal.returns-in-Constant
returns-in-Constant c = rw c.in-Constant.is c.constant.ensures

pub collection-requires : goal.collection-requires
collection-requires c = rw c.in-Collection.is at c.requires

pub returns-in-Collection : goal.returns-in-Collection
returns-in-Collection c = rw c.in-Collection.is c.collection.ensures

pub named-requires : goal.named-requires
named-requires c = rw c.in-Named.is at c.requires

pub returns-in-Named : goal.returns-in-Named
returns-in-Named c = rw c.in-Named.is c.named.ensures

pub no_entries-requires : goal.no_entries-requires
no_entries-requires c = rw c.in-NoEntries.is at c.requires

pub returns-in-NoEntries : goal.returns-in-NoEntries
returns-in-NoEntries c = rw c.in-NoEntries.is c.no_entries.ensures

pub filled-requires : goal.filled-requires
filled-requires c = rw c.in-Filled.is at c.requires

pub returns-in-Filled : goal.returns-in-Filled
returns-in-Filled c = rw c.in-Filled.is c.filled.ensures

pub more_items-requires : goal.more_items-requires
more_items-requires c = rw c.in-MoreItems.is at c.requires

pub returns-in-MoreItems : goal.returns-in-MoreItems
returns-in-MoreItems c = rw c.in-MoreItems.is c.more_items.ensures

pub more_entries-requires : goal.more_entries-requires
more_entries-requires c = rw c.in-MoreEntries.is at c.requires

pub returns-in-MoreEntries : goal.returns-in-MoreEntries
returns-in-MoreEntries c = rw c.in-MoreEntries.is c.more_entries.ensures

pub entry_of-requires : goal.entry_of-requires
entry_of-requires c = rw c.in-EntryOf.is at c.requires

pub returns-in-EntryOf : goal.returns-in-EntryOf
returns-in-EntryOf c = rw c.in-EntryOf.is c.entry_of.ensures

pub items_of-requires : goal.items_of-requires
items_of-requires c = rw c.in-ItemsOf.is at c.requires

pub returns-in-ItemsOf : goal.returns-in-ItemsOf
returns-in-ItemsOf c = rw c.in-ItemsOf.is c.items_of.ensures

pub item_of-requires : goal.item_of-requires
item_of-requires c = rw c.in-ItemOf.is at c.requires

pub returns-in-ItemOf : goal.returns-in-ItemOf
returns-in-ItemOf c = rw c.in-ItemOf.is c.item_of.ensures

pub returns-in-Access : goal.returns-in-Access
returns-in-Access c = rw c.in-Access.is (λ trees below e. e)

pub index-requires : goal.index-requires
index-requires c = rw c.in-Index.is at c.requires

pub returns-in-Index : goal.returns-in-Index
returns-in-Index c = rw c.in-Index.is c.index.ensures

pub dot_of-requires : goal.dot_of-requires
dot_of-requires c = rw c.in-DotOf.is at c.requires

pub returns-in-DotOf : goal.returns-in-DotOf
returns-in-DotOf c = rw c.in-DotOf.is c.dot_of.ensures

pub named_member-requires : goal.named_member-requires
named_member-requires c = rw c.in-NamedMember.is at c.requires

pub returns-in-NamedMember : goal.returns-in-NamedMember
returns-in-NamedMember c = rw c.in-NamedMember.is c.named_member.ensures

pub numbered-requires : goal.numbered-requires
numbered-requires c = rw c.in-Numbered.is at c.requires

pub returns-in-Numbered : goal.returns-in-Numbered
returns-in-Numbered c = rw c.in-Numbered.is c.numbered.ensures

pub args_of-requires : goal.args_of-requires
args_of-requires c = rw c.in-ArgsOf.is at c.requires

pub returns-in-ArgsOf : goal.returns-in-ArgsOf
returns-in-ArgsOf c = rw c.in-ArgsOf.is c.args_of.ensures

pub arguments_of-requires : goal.arguments_of-requires
arguments_of-requires c = rw c.in-ArgumentsOf.is at c.requires

pub returns-in-ArgumentsOf : goal.returns-in-ArgumentsOf
returns-in-ArgumentsOf c = rw c.in-ArgumentsOf.is c.arguments_of.ensures

pub argued-requires : goal.argued-requires
argued-requires c = rw c.in-Argued.is at c.requires

pub returns-in-Argued : goal.returns-in-Argued
returns-in-Argued c = rw c.in-Argued.is c.argued.ensures

pub lambda-requires : goal.lambda-requires
lambda-requires c = rw c.in-Lambda.is at c.requires

pub returns-in-Lambda : goal.returns-in-Lambda
returns-in-Lambda c = rw c.in-Lambda.is c.lambda.ensures

pub lambdas-requires : goal.lambdas-requires
lambdas-requires c = rw c.in-Lambdas.is at c.requires

pub returns-in-Lambdas : goal.returns-in-Lambdas
returns-in-Lambdas c = rw c.in-Lambdas.is c.lambdas.ensures

pub reference-requires : goal.reference-requires
reference-requires c = rw c.in-Reference.is at c.requires

pub returns-in-Reference : goal.returns-in-Reference
returns-in-Reference c = rw c.in-Reference.is c.reference.ensures

pub this_reference-requires : goal.this_reference-requires
this_reference-requires c = rw c.in-ThisReference.is at c.requires

pub returns-in-ThisReference : goal.returns-in-ThisReference
returns-in-ThisReference c = rw c.in-ThisReference.is c.this_reference.ensures

pub ref_word-requires : goal.ref_word-requires
ref_word-requires c = rw c.in-RefWord.is at c.requires

pub returns-in-RefWord : goal.returns-in-RefWord
returns-in-RefWord c = rw c.in-RefWord.is c.ref_word.ensures

pub ref_new-requires : goal.ref_new-requires
ref_new-requires c = rw c.in-RefNew.is at c.requires

pub returns-in-RefNew : goal.returns-in-RefNew
returns-in-RefNew c = rw c.in-RefNew.is c.ref_new.ensures

pub formal_list-requires-in-ParamsOf : goal.formal_list-requires-in-ParamsOf
formal_list-requires-in-ParamsOf c = rw c.in-ParamsOf.is at c.requires

pub returns-in-ParamsOf : goal.returns-in-ParamsOf
returns-in-ParamsOf c = rw c.in-ParamsOf.is c.formal_list-in-ParamsOf.ensures

pub formal_of-requires-in-TypedParam : goal.formal_of-requires-in-TypedParam
formal_of-requires-in-TypedParam c = rw c.in-TypedParam.is at c.requires

pub returns-in-TypedParam : goal.returns-in-TypedParam
returns-in-TypedParam c = rw c.in-TypedParam.is c.formal_of-in-TypedParam.ensures

pub bare_param-requires : goal.bare_param-requires
bare_param-requires c = rw c.in-BareParam.is at c.requires

pub returns-in-BareParam : goal.returns-in-BareParam
returns-in-BareParam c = rw c.in-BareParam.is c.bare_param.ensures

pub block_lambda-requires : goal.block_lambda-requires
block_lambda-requires c = rw c.in-BlockLambda.is at c.requires

pub returns-in-BlockLambda : goal.returns-in-BlockLambda
returns-in-BlockLambda c = rw c.in-BlockLambda.is c.block_lambda.ensures

pub expr_lambda-requires : goal.expr_lambda-requires
expr_lambda-requires c = rw c.in-ExprLambda.is at c.requires

pub returns-in-ExprLambda : goal.returns-in-ExprLambda
returns-in-ExprLambda c = rw c.in-ExprLambda.is c.expr_lambda.ensures

pub products-requires : goal.products-requires
products-requires c = rw c.in-Products.is at c.requires

pub returns-in-Products : goal.returns-in-Products
returns-in-Products c = rw c.in-Products.is c.products.ensures

pub products-requires-in-Tests : goal.products-requires-in-Tests
products-requires-in-Tests c = rw c.in-Tests.is at c.requires

pub returns-in-Tests : goal.returns-in-Tests
returns-in-Tests c = rw c.in-Tests.is c.products-in-Tests.ensures

pub products-requires-in-Joins : goal.products-requires-in-Joins
products-requires-in-Joins c = rw c.in-Joins.is at c.requires

pub returns-in-Joins : goal.returns-in-Joins
returns-in-Joins c = rw c.in-Joins.is c.products-in-Joins.ensures

pub times-requires : goal.times-requires
times-requires c = rw c.in-Times.is at c.requires

pub returns-in-Times : goal.returns-in-Times
returns-in-Times c = rw c.in-Times.is c.times.ensures

pub test-requires : goal.test-requires
test-requires c = rw c.in-Test.is at c.requires

pub returns-in-Test : goal.returns-in-Test
returns-in-Test c = rw c.in-Test.is c.test.ensures

pub times-requires-in-Further : goal.times-requires-in-Further
times-requires-in-Further c = rw c.in-Further.is at c.requires

pub returns-in-Further : goal.returns-in-Further
returns-in-Further c = rw c.in-Further.is c.times-in-Further.ensures

pub keep_second-requires-in-AfterComma : goal.keep_second-requires-in-AfterComma
keep_second-requires-in-AfterComma c = two c.args.stack.now _ _ _ (rw c.in-AfterComma.is at c.requires).2

pub returns-in-AfterComma : goal.returns-in-AfterComma
returns-in-AfterComma c = rw c.in-AfterComma.is (on_ok c.keep_second-in-AfterComma.result (λ h trees below e. h _ _ _ e) c.keep_second-in-AfterComma.ensures)
