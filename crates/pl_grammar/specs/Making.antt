-- The trees that productions make of the trees of their symbols.
use Rattle.std.specs.Prelude.{ℕ, List, [], ◌∷◌, Option, Some, None}
use Rattle.pl_lexer.specs.declared.token.Kind.{Kind}
use Rattle.pl_lexer.specs.declared.token.Kind.TheVariants as k
use Rattle.pl_lexer.specs.declared.token.Sign.{Sign}
use Rattle.pl_lexer.specs.declared.token.Sign.TheVariants as g
use Rattle.pl_lexer.specs.declared.token.Word.TheVariants as w
use Rattle.pl_lexer.specs.declared.token.Token.{Token}
use Rattle.pl_tree.specs.declared.operator.BinaryOperator.{BinaryOperator}
use Rattle.pl_tree.specs.declared.operator.BinaryOperator.TheVariants as bo
use Rattle.pl_tree.specs.declared.operator.UnaryOperator.{UnaryOperator}
use Rattle.pl_tree.specs.declared.operator.UnaryOperator.TheVariants as uo
use Rattle.pl_tree.specs.declared.operator.Step.{Step}
use Rattle.pl_tree.specs.declared.operator.Step.TheVariants as sp
use Rattle.pl_tree.specs.declared.operator.Access.{Access}
use Rattle.pl_tree.specs.declared.operator.Access.TheVariants as ac
use Rattle.pl_tree.specs.declared.operator.Constant.{Constant}
use Rattle.pl_tree.specs.declared.operator.Constant.TheVariants as co
use Rattle.pl_tree.specs.declared.tree.Tree.{Tree}
use Rattle.pl_tree.specs.declared.tree.Spelled.{Spelled}
use Rattle.pl_tree.specs.declared.tree.TypeName.{TypeName}
use Rattle.pl_tree.specs.declared.tree.TypeBase.{TypeBase}
use Rattle.pl_tree.specs.declared.tree.TypeBase.TheVariants as bs
use Rattle.pl_tree.specs.declared.tree.Function.{Function}
use Rattle.pl_tree.specs.declared.tree.Parameter.{Parameter}
use Rattle.pl_tree.specs.declared.tree.Statement.{Statement}
use Rattle.pl_tree.specs.declared.tree.Statement.TheVariants as st
use Rattle.pl_tree.specs.declared.tree.Expr.{Expr}
use Rattle.pl_tree.specs.declared.tree.Expr.TheVariants as e
use Rattle.pl_tree.specs.declared.tree.Entry.{roll-Entry}
use Rattle.pl_tree.specs.declared.tree.Argument.{Argument}
use Rattle.pl_tree.specs.declared.tree.Argument.TheVariants as ar
use Rattle.pl_tree.specs.declared.tree.LambdaBody.{LambdaBody}
use Rattle.pl_grammar.specs.declared.parts.Placed.{Placed}
use Rattle.pl_grammar.specs.declared.parts.Operation.{Operation}
use Rattle.pl_grammar.specs.declared.parts.Operation.TheVariants as op
use Rattle.pl_grammar.specs.declared.parts.ExprRest.{ExprRest}
use Rattle.pl_grammar.specs.declared.parts.ExprRest.TheVariants as xr
use Rattle.pl_grammar.specs.declared.parts.ElvisRest.{ElvisRest}
use Rattle.pl_grammar.specs.declared.parts.Suffix.{Suffix}
use Rattle.pl_grammar.specs.declared.parts.Suffix.TheVariants as sx
use Rattle.pl_grammar.specs.declared.parts.Member.{Member}
use Rattle.pl_grammar.specs.declared.parts.Member.TheVariants as mb
use Rattle.pl_grammar.specs.declared.parts.New.{New}
use Rattle.pl_grammar.specs.declared.parts.New.TheVariants as nw
use Rattle.pl_grammar.specs.declared.parts.Contents.{Contents}
use Rattle.pl_grammar.specs.declared.parts.Contents.TheVariants as cn
use Rattle.pl_grammar.specs.declared.parts.More.{More}
use Rattle.pl_grammar.specs.declared.parts.More.TheVariants as mr
use Rattle.pl_grammar.specs.declared.parts.ForRest.{ForRest}
use Rattle.pl_grammar.specs.declared.parts.ForRest.TheVariants as fr

-- ---- what a token tells

abbrev pub base_of : Kind → TypeBase
base_of (k.Prim primitive) = bs.Primitive primitive
base_of (k.ClassName number) = bs.Class number
base_of _ = bs.Def

abbrev pub operator_of_sign : Sign → BinaryOperator
operator_of_sign g.Star = bo.Multiply
operator_of_sign g.MultiplyAssign = bo.Multiply
operator_of_sign g.Slash = bo.Divide
operator_of_sign g.DivideAssign = bo.Divide
operator_of_sign g.Percent = bo.Remainder
operator_of_sign g.RemainderAssign = bo.Remainder
operator_of_sign g.Plus = bo.Add
operator_of_sign g.AddAssign = bo.Add
operator_of_sign g.Minus = bo.Subtract
operator_of_sign g.SubtractAssign = bo.Subtract
operator_of_sign g.ShiftLeft = bo.ShiftLeft
operator_of_sign g.ShiftLeftAssign = bo.ShiftLeft
operator_of_sign g.ShiftRight = bo.ShiftRight
operator_of_sign g.ShiftRightAssign = bo.ShiftRight
operator_of_sign g.ShiftRightUnsigned = bo.ShiftRightUnsigned
operator_of_sign g.ShiftRightUnsignedAssign = bo.ShiftRightUnsigned
operator_of_sign g.Less = bo.Less
operator_of_sign g.LessEqual = bo.LessEqual
operator_of_sign g.Greater = bo.Greater
operator_of_sign g.GreaterEqual = bo.GreaterEqual
operator_of_sign g.Equal = bo.Equal
operator_of_sign g.NotEqual = bo.NotEqual
operator_of_sign g.Same = bo.Same
operator_of_sign g.NotSame = bo.NotSame
operator_of_sign g.And = bo.And
operator_of_sign g.AndAssign = bo.And
operator_of_sign g.Xor = bo.Xor
operator_of_sign g.XorAssign = bo.Xor
operator_of_sign g.Or = bo.Or
operator_of_sign g.OrAssign = bo.Or
operator_of_sign g.AndAnd = bo.AndAnd
operator_of_sign _ = bo.OrOr

-- the operator of a sign, or that an assignment applies
abbrev pub operator_of : Kind → BinaryOperator
operator_of (k.Sign sign) = operator_of_sign sign
operator_of _ = bo.OrOr

abbrev pub unary_of : Kind → UnaryOperator
unary_of (k.Sign g.Plus) = uo.Plus
unary_of (k.Sign g.Minus) = uo.Minus
unary_of (k.Sign g.Not) = uo.Not
unary_of _ = uo.Complement

abbrev pub step_of : Kind → Step
step_of (k.Sign g.Increment) = sp.Increment
step_of _ = sp.Decrement

abbrev pub access_of : Kind → Access
access_of (k.Sign g.NullDot) = ac.Guarded
access_of _ = ac.Plain

abbrev pub constant_of : Kind → Constant
constant_of (k.Word w.True) = co.True
constant_of (k.Word w.False) = co.False
constant_of _ = co.Null

abbrev pub jump_of : Token → Statement
jump_of token = jump_by token.kind token.start
  where
    jump_by : Kind → ℕ → Statement
    jump_by (k.Word w.Continue) at = st.Continue at
    jump_by _ at = st.Break at

-- ---- trees from trees

abbrev pub or_none : {A : Type 0} → Option (List A) → List A
or_none None = []
or_none (Some all) = all

abbrev pub any_expr : Option Placed → Option Expr
any_expr None = None
any_expr (Some one) = Some one.expr

abbrev pub with_function : Function → Option Tree → Tree
with_function one None = record { functions = one ∷ []; statements = [] }
with_function one (Some more) = record { functions = one ∷ more.functions; statements = more.statements }

abbrev pub for_statement : ℕ → ForRest → Statement
for_statement at (fr.Three first three) = st.For at first three.condition three.update three.body
for_statement at (fr.Each of name over body) = st.ForEach at of name over body
for_statement at (fr.In name over body) = st.ForIn at name over body

abbrev pub with_rest : Placed → Option ExprRest → Placed
with_rest left None = left
with_rest left (Some (xr.Conditional at one other)) = record { start = left.start; expr = e.Conditional at left.expr one other }
with_rest left (Some (xr.Assign operator at value)) = record { start = left.start; expr = e.Assign operator at left.expr value }

abbrev pub with_elvis : Placed → Option ElvisRest → Placed
with_elvis left None = left
with_elvis left (Some rest) = record { start = left.start; expr = e.Elvis rest.at left.expr rest.right }

abbrev pub with_step : Placed → Option Token → Placed
with_step one None = one
with_step one (Some sign) = record { start = one.start; expr = e.Postfix (step_of sign.kind) one.start one.expr }

-- one operation more, to the right
abbrev pub applied : Placed → Operation → Placed
applied left (op.Binary operator at right) = record { start = left.start; expr = e.Binary operator at left.expr right }
applied left (op.Test at of) = record { start = left.start; expr = e.Instanceof at left.expr of }

-- operators group to the left
abbrev pub joined : Placed → List Operation → Placed
joined left [] = left
joined left (one ∷ more) = joined (applied left one) more

abbrev pub suffixed_by : Expr → Suffix → Expr
suffixed_by of (sx.Member access at spelling) = e.Member access at of spelling
suffixed_by of (sx.Method access at spelling arguments) = e.Method access at of spelling arguments
suffixed_by of (sx.Element access at spelling) = e.Element access at of spelling
suffixed_by of (sx.Index at index) = e.Index at of index

abbrev pub followed_by : Placed → Suffix → Placed
followed_by of suffix = record { start = of.start; expr = suffixed_by of.expr suffix }

abbrev pub chained : Placed → List Suffix → Placed
chained of [] = of
chained of (one ∷ more) = chained (followed_by of one) more

abbrev pub suffix_of : Access → Member → Suffix
suffix_of access (mb.Named name None) = sx.Member access name.at name.spelling
suffix_of access (mb.Named name (Some arguments)) = sx.Method access name.at name.spelling arguments
suffix_of access (mb.Numbered number) = sx.Element access number.at number.spelling

abbrev pub with_brackets : TypeName → List ℕ → TypeName
with_brackets of brackets = record { at = of.at; base = of.base; brackets = brackets }

abbrev pub bracket_first : ℕ → New → New
bracket_first at (nw.Object brackets arguments) = nw.Object (at ∷ brackets) arguments
bracket_first at (nw.Sized sizes) = nw.Sized sizes
bracket_first at (nw.Filled items) = nw.Filled items

abbrev pub created_as : ℕ → TypeName → New → Placed
created_as at of (nw.Object brackets arguments) = record { start = at; expr = e.New at (with_brackets of brackets) arguments }
created_as at of (nw.Sized sizes) = record { start = at; expr = e.NewArray at of sizes }
created_as at of (nw.Filled items) = record { start = at; expr = e.NewItems at of items }

abbrev pub filled_as : ℕ → Expr → Option More → Expr
filled_as at one None = e.List at (one ∷ [])
filled_as at one (Some (mr.Items more)) = e.List at (one ∷ more)
filled_as at one (Some (mr.Entries value more)) = e.Map at (roll-Entry (record { key = one; value = value }) ∷ more)

abbrev pub collected : ℕ → Option Contents → Expr
collected at None = e.List at []
collected at (Some cn.NoEntries) = e.Map at []
collected at (Some (cn.Filled one more)) = filled_as at one more

abbrev pub name_or_call : Spelled → Option (List Argument) → Expr
name_or_call name None = e.Name name.at name.spelling
name_or_call name (Some arguments) = e.Call name.at name.spelling arguments

-- where a parameter begins
abbrev pub parameter_start : Option TypeName → Spelled → ℕ
parameter_start None name = name.at
parameter_start (Some of) name = of.at

abbrev pub lambda_of : Parameter → LambdaBody → Argument
lambda_of one body = ar.Lambda (parameter_start one.of one.name) (one ∷ []) body

abbrev pub reference_of : TypeName → Option Spelled → Argument
reference_of of None = ar.NewReference of
reference_of of (Some name) = ar.Reference of name.spelling
