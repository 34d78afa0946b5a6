use Rattle.std.proofs.Common.{refl}
use Rattle.parse_tables.proofs.choice.choose.Goals as goal

pub returns-in-Function : goal.returns-in-Function
returns-in-Function c = rw c.in-Function.is refl

pub returns-in-Formals : goal.returns-in-Formals
returns-in-Formals c = rw c.in-Formals.is refl

pub returns-in-Formal : goal.returns-in-Formal
returns-in-Formal c = rw c.in-Formal.is refl

pub returns-in-Type : goal.returns-in-Type
returns-in-Type c = rw c.in-Type.is (c.type_rule.ensures c.args.seen)

pub returns-in-CastType : goal.returns-in-CastType
returns-in-CastType c = rw c.in-CastType.is refl

pub returns-in-Pair : goal.returns-in-Pair
returns-in-Pair c = rw c.in-Pair.is refl

pub returns-in-Block : goal.returns-in-Block
returns-in-Block c = rw c.in-Block.is refl

pub returns-in-Statement : goal.returns-in-Statement
returns-in-Statement c = rw c.in-Statement.is (c.statement_rule.ensures c.args.seen)

pub returns-in-Inner : goal.returns-in-Inner
returns-in-Inner c = rw c.in-Inner.is (c.inner_rule.ensures c.args.seen)

pub returns-in-Last : goal.returns-in-Last
returns-in-Last c = rw c.in-Last.is refl

pub returns-in-Separator : goal.returns-in-Separator
returns-in-Separator c = rw c.in-Separator.is refl

pub returns-in-Opening : goal.returns-in-Opening
returns-in-Opening c = rw c.in-Opening.is (c.opening_rule.ensures c.args.seen)

pub returns-in-Otherwise : goal.returns-in-Otherwise
returns-in-Otherwise c = rw c.in-Otherwise.is refl

pub returns-in-Run : goal.returns-in-Run
returns-in-Run c = rw c.in-Run.is (c.run_rule.ensures c.args.seen)

pub returns-in-ForRest : goal.returns-in-ForRest
returns-in-ForRest c = rw c.in-ForRest.is (c.for_rest_rule.ensures)

pub returns-in-Three : goal.returns-in-Three
returns-in-Three c = rw c.in-Three.is refl

pub returns-in-ForTail : goal.returns-in-ForTail
returns-in-ForTail c = rw c.in-ForTail.is refl

pub returns-in-ForFirst : goal.returns-in-ForFirst
returns-in-ForFirst c = rw c.in-ForFirst.is (c.for_first_rule.ensures)

pub returns-in-Handler : goal.returns-in-Handler
returns-in-Handler c = rw c.in-Handler.is refl

pub returns-in-Closing : goal.returns-in-Closing
returns-in-Closing c = rw c.in-Closing.is (c.closing_rule.ensures)

pub returns-in-Decl : goal.returns-in-Decl
returns-in-Decl c = rw c.in-Decl.is refl

pub returns-in-Var : goal.returns-in-Var
returns-in-Var c = rw c.in-Var.is refl

pub returns-in-Init : goal.returns-in-Init
returns-in-Init c = rw c.in-Init.is refl

pub returns-in-Body : goal.returns-in-Body
returns-in-Body c = rw c.in-Body.is (c.body_rule.ensures c.args.seen)

pub returns-in-Expr : goal.returns-in-Expr
returns-in-Expr c = rw c.in-Expr.is refl

pub returns-in-ExprRest : goal.returns-in-ExprRest
returns-in-ExprRest c = rw c.in-ExprRest.is (c.expr_rest_rule.ensures c.args.seen)

pub returns-in-Elvis : goal.returns-in-Elvis
returns-in-Elvis c = rw c.in-Elvis.is refl

pub returns-in-ElvisRest : goal.returns-in-ElvisRest
returns-in-ElvisRest c = rw c.in-ElvisRest.is refl

pub returns-in-Unary : goal.returns-in-Unary
returns-in-Unary c = rw c.in-Unary.is (c.unary_rule.ensures)

pub returns-in-Step : goal.returns-in-Step
returns-in-Step c = rw c.in-Step.is refl

pub returns-in-Chain : goal.returns-in-Chain
returns-in-Chain c = rw c.in-Chain.is (c.chain_rule.ensures c.args.seen)

pub returns-in-Element : goal.returns-in-Element
returns-in-Element c = rw c.in-Element.is (c.element_rule.ensures c.args.seen)

pub returns-in-NewRest : goal.returns-in-NewRest
returns-in-NewRest c = rw c.in-NewRest.is (c.new_rest_rule.ensures c.args.seen)

pub returns-in-AfterBracket : goal.returns-in-AfterBracket
returns-in-AfterBracket c = rw c.in-AfterBracket.is (c.after_bracket_rule.ensures c.args.seen)

pub returns-in-ArrayRest : goal.returns-in-ArrayRest
returns-in-ArrayRest c = rw c.in-ArrayRest.is (c.array_rest_rule.ensures c.args.seen)

pub returns-in-Size : goal.returns-in-Size
returns-in-Size c = rw c.in-Size.is refl

pub returns-in-Primary : goal.returns-in-Primary
returns-in-Primary c = rw c.in-Primary.is (c.primary_rule.ensures c.args.seen)

pub returns-in-Contents : goal.returns-in-Contents
returns-in-Contents c = rw c.in-Contents.is (c.contents_rule.ensures c.args.seen)

pub returns-in-More : goal.returns-in-More
returns-in-More c = rw c.in-More.is (c.more_rule.ensures c.args.seen)

pub returns-in-Entry : goal.returns-in-Entry
returns-in-Entry c = rw c.in-Entry.is refl

pub returns-in-Items : goal.returns-in-Items
returns-in-Items c = rw c.in-Items.is refl

pub returns-in-Item : goal.returns-in-Item
returns-in-Item c = rw c.in-Item.is refl

pub returns-in-Postfix : goal.returns-in-Postfix
returns-in-Postfix c = rw c.in-Postfix.is (c.postfix_rule.ensures c.args.seen)

pub returns-in-Dot : goal.returns-in-Dot
returns-in-Dot c = rw c.in-Dot.is refl

pub returns-in-Member : goal.returns-in-Member
returns-in-Member c = rw c.in-Member.is (c.member_rule.ensures c.args.seen)

pub returns-in-Args : goal.returns-in-Args
returns-in-Args c = rw c.in-Args.is refl

pub returns-in-Arguments : goal.returns-in-Arguments
returns-in-Arguments c = rw c.in-Arguments.is refl

pub returns-in-Arg : goal.returns-in-Arg
returns-in-Arg c = rw c.in-Arg.is (c.arg_rule.ensures)

pub returns-in-RefName : goal.returns-in-RefName
returns-in-RefName c = rw c.in-RefName.is (c.ref_name_rule.ensures c.args.seen)

pub returns-in-Params : goal.returns-in-Params
returns-in-Params c = rw c.in-Params.is refl

pub returns-in-Param : goal.returns-in-Param
returns-in-Param c = rw c.in-Param.is (c.param_rule.ensures)

pub returns-in-LambdaBody : goal.returns-in-LambdaBody
returns-in-LambdaBody c = rw c.in-LambdaBody.is (c.lambda_body_rule.ensures c.args.seen)

pub returns-in-Binary : goal.returns-in-Binary
returns-in-Binary c = rw c.in-Binary.is (c.binary_rule.ensures c.args.terminal c.args.seen)

pub returns-in-Operation : goal.returns-in-Operation
returns-in-Operation c = rw c.in-Operation.is (c.operation_rule.ensures c.args.terminal c.args.seen)

pub returns-in-Comma : goal.returns-in-Comma
returns-in-Comma c = rw c.in-Comma.is refl
