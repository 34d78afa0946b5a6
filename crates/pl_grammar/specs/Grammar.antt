-- The grammar: a row for each production, in the order in which the language is described.
use Rattle.std.specs.Prelude.{ℕ, List, [], ◌∷◌, Option, Some, None}
use Rattle.pl_lexer.specs.declared.token.Token.{Token}
use Rattle.pl_tree.specs.declared.tree.Tree.{Tree}
use Rattle.pl_tree.specs.declared.tree.Spelled.{Spelled}
use Rattle.pl_tree.specs.declared.tree.TypeName.{TypeName}
use Rattle.pl_tree.specs.declared.tree.TypeBase.TheVariants as bs
use Rattle.pl_tree.specs.declared.tree.Function.{Function}
use Rattle.pl_tree.specs.declared.tree.Parameter.{Parameter}
use Rattle.pl_tree.specs.declared.tree.Block.{Block, roll-Block}
use Rattle.pl_tree.specs.declared.tree.Body.{Body}
use Rattle.pl_tree.specs.declared.tree.Body.TheVariants as bd
use Rattle.pl_tree.specs.declared.tree.Statement.{Statement}
use Rattle.pl_tree.specs.declared.tree.Statement.TheVariants as st
use Rattle.pl_tree.specs.declared.tree.First.{First}
use Rattle.pl_tree.specs.declared.tree.First.TheVariants as fi
use Rattle.pl_tree.specs.declared.tree.Declaration.{Declaration, roll-Declaration}
use Rattle.pl_tree.specs.declared.tree.Variable.{Variable, roll-Variable}
use Rattle.pl_tree.specs.declared.tree.Catch.{Catch, roll-Catch}
use Rattle.pl_tree.specs.declared.tree.Expr.{Expr}
use Rattle.pl_tree.specs.declared.tree.Expr.TheVariants as e
use Rattle.pl_tree.specs.declared.tree.Entry.{Entry, roll-Entry}
use Rattle.pl_tree.specs.declared.tree.Argument.{Argument}
use Rattle.pl_tree.specs.declared.tree.Argument.TheVariants as ar
use Rattle.pl_tree.specs.declared.tree.LambdaBody.{LambdaBody}
use Rattle.pl_tree.specs.declared.tree.LambdaBody.TheVariants as lb
use Rattle.pl_grammar.specs.declared.terminal.Terminal.{Terminal}
use Rattle.pl_grammar.specs.declared.terminal.Terminal.TheVariants as t
use Rattle.pl_grammar.specs.declared.level.Level.{Level}
use Rattle.pl_grammar.specs.declared.level.Level.TheVariants as lv
use Rattle.pl_grammar.specs.declared.level.Looser.{Looser}
use Rattle.pl_grammar.specs.declared.level.Looser.TheVariants as lo
use Rattle.pl_grammar.specs.declared.parts.Placed.{Placed}
use Rattle.pl_grammar.specs.declared.parts.Operation.{Operation}
use Rattle.pl_grammar.specs.declared.parts.Operation.TheVariants as op
use Rattle.pl_grammar.specs.declared.parts.ExprRest.{ExprRest}
use Rattle.pl_grammar.specs.declared.parts.ExprRest.TheVariants as xr
use Rattle.pl_grammar.specs.declared.parts.ElvisRest.{ElvisRest}
use Rattle.pl_grammar.specs.declared.parts.Suffix.{Suffix}
use Rattle.pl_grammar.specs.declared.parts.Suffix.TheVariants as sx
use Rattle.pl_grammar.specs.declared.parts.Member.{Member}
use Rattle.pl_grammar.specs.declared.parts.Member.TheVariants as mb
use Rattle.pl_grammar.specs.declared.parts.New.{New}
use Rattle.pl_grammar.specs.declared.parts.New.TheVariants as nw
use Rattle.pl_grammar.specs.declared.parts.Contents.{Contents}
use Rattle.pl_grammar.specs.declared.parts.Contents.TheVariants as cn
use Rattle.pl_grammar.specs.declared.parts.More.{More}
use Rattle.pl_grammar.specs.declared.parts.More.TheVariants as mr
use Rattle.pl_grammar.specs.declared.parts.Three.{Three}
use Rattle.pl_grammar.specs.declared.parts.Tail.{Tail}
use Rattle.pl_grammar.specs.declared.parts.ForRest.{ForRest}
use Rattle.pl_grammar.specs.declared.parts.ForRest.TheVariants as fr
use Rattle.pl_grammar.specs.Lexeme.{Take, mark, text, Taken}
use Rattle.pl_grammar.specs.Making.{base_of, operator_of, unary_of, step_of, access_of, constant_of, jump_of, or_none, any_expr, with_function, for_statement, with_rest, with_elvis, with_step, joined, suffixed_by, chained, suffix_of, bracket_first, created_as, collected, name_or_call, lambda_of, reference_of}

-- the forms; `comma f` is a comma and an f
pub data Form : Type 0 where
  top : Form
  function : Form
  formals : Form
  formal : Form
  type : Form
  cast_type : Form
  pair : Form
  block : Form
  statement : Form
  inner : Form
  last : Form
  separator : Form
  opening : Form
  otherwise : Form
  run : Form
  for_rest : Form
  three : Form
  for_tail : Form
  for_first : Form
  handler : Form
  closing : Form
  decl : Form
  var : Form
  init : Form
  body : Form
  expr : Form
  expr_rest : Form
  elvis : Form
  elvis_rest : Form
  unary : Form
  step : Form
  chain : Form
  element : Form
  new_rest : Form
  after_bracket : Form
  array_rest : Form
  size : Form
  primary : Form
  contents : Form
  more : Form
  entry : Form
  items : Form
  item : Form
  postfix : Form
  dot : Form
  member : Form
  args : Form
  arguments : Form
  arg : Form
  ref_name : Form
  params : Form
  param : Form
  lambda_body : Form
  -- the operators of one level, tightest first, and what stands between them
  binary : Level → Form
  operation : Level → Form
  comma : Form → Form

-- the tree of a form
abbrev pub TreeOf : Form → Type 0
TreeOf top = Tree
TreeOf function = Function
TreeOf formals = List Parameter
TreeOf formal = Parameter
TreeOf type = TypeName
TreeOf cast_type = TypeName
TreeOf pair = ℕ
TreeOf block = Block
TreeOf statement = Statement
TreeOf inner = Statement
TreeOf last = Token
TreeOf separator = Token
TreeOf opening = Statement
TreeOf otherwise = Body
TreeOf run = Option Body
TreeOf for_rest = ForRest
TreeOf three = Three
TreeOf for_tail = Tail
TreeOf for_first = First
TreeOf handler = Catch
TreeOf closing = Statement
TreeOf decl = Declaration
TreeOf var = Variable
TreeOf init = Argument
TreeOf body = Body
TreeOf expr = Placed
TreeOf expr_rest = ExprRest
TreeOf elvis = Placed
TreeOf elvis_rest = ElvisRest
TreeOf unary = Placed
TreeOf step = Token
TreeOf chain = Placed
TreeOf element = TypeName
TreeOf new_rest = New
TreeOf after_bracket = New
TreeOf array_rest = New
TreeOf size = Expr
TreeOf primary = Placed
TreeOf contents = Contents
TreeOf more = More
TreeOf entry = Entry
TreeOf items = List Expr
TreeOf item = Expr
TreeOf postfix = Suffix
TreeOf dot = Suffix
TreeOf member = Member
TreeOf args = List Argument
TreeOf arguments = List Argument
TreeOf arg = Argument
TreeOf ref_name = Option Spelled
TreeOf params = List Parameter
TreeOf param = Parameter
TreeOf lambda_body = LambdaBody
TreeOf (binary l) = Placed
TreeOf (operation l) = Operation
TreeOf (comma f) = TreeOf f

-- what stands in a production
pub data Symbol : Type 0 where
  -- a token of this class, and what the tree keeps of it
  token : Take → Terminal → Symbol
  phrase : Form → Symbol
  -- any number of phrases, up to a token that begins none
  repeated : Form → Symbol
  -- a phrase that may be left out
  optional : Form → Symbol

abbrev pub SymbolTree : Symbol → Type 0
SymbolTree (token take terminal) = Taken take
SymbolTree (phrase f) = TreeOf f
SymbolTree (repeated f) = List (TreeOf f)
SymbolTree (optional f) = Option (TreeOf f)

abbrev pub Trees : List Symbol → Type 0
Trees [] = Unit {0}
Trees (s ∷ ss) = SymbolTree s × Trees ss

abbrev pub sign : Terminal → Symbol
sign terminal = token mark terminal

abbrev pub spelled : Terminal → Symbol
spelled terminal = token text terminal

-- the level inside one
abbrev pub tighter : Looser → Level
tighter lo.Sum = lv.Product
tighter lo.Shift = lv.Looser lo.Sum
tighter lo.Relational = lv.Looser lo.Shift
tighter lo.Equality = lv.Instance
tighter lo.And = lv.Looser lo.Equality
tighter lo.Xor = lv.Looser lo.And
tighter lo.Or = lv.Looser lo.Xor
tighter lo.AndAnd = lv.Looser lo.Or
tighter lo.OrOr = lv.Looser lo.AndAnd

-- the class of the operators of a level
abbrev pub sign_of : Looser → Terminal
sign_of lo.Sum = t.Additive
sign_of lo.Shift = t.Shift
sign_of lo.Relational = t.Relational
sign_of lo.Equality = t.Equality
sign_of lo.And = t.And
sign_of lo.Xor = t.Xor
sign_of lo.Or = t.Or
sign_of lo.AndAnd = t.AndAnd
sign_of lo.OrOr = t.OrOr

abbrev pub sign_at : Level → Terminal
sign_at lv.Product = t.Multiplicative
sign_at lv.Instance = t.Instanceof
sign_at (lv.Looser l) = sign_of l

-- the productions of each form
pub data Production : Form → Type 0 where
  functions : Production top
  statements : Production top
  function_of : Production function
  formal_list : Production formals
  formal_of : Production formal
  name_type : Production type
  known_type : Production type
  cast_type_of : Production cast_type
  square : Production pair
  braces : Production block
  opens : Production statement
  closes : Production statement
  inner_opens : Production inner
  inner_closes : Production inner
  last_semicolon : Production last
  semicolon : Production separator
  conditional : Production opening
  looped : Production opening
  for_loop : Production opening
  tried : Production opening
  alternative : Production otherwise
  runs : Production run
  idle : Production run
  three_empty : Production for_rest
  three_first : Production for_rest
  each_of : Production for_rest
  each_in : Production for_rest
  three_parts : Production three
  tail_parts : Production for_tail
  declares : Production for_first
  expresses : Production for_first
  catches : Production handler
  do_loop : Production closing
  declared : Production closing
  jump : Production closing
  returned : Production closing
  thrown : Production closing
  value : Production closing
  declaration : Production decl
  variable : Production var
  assigned : Production init
  block_body : Production body
  statement_body : Production body
  expression : Production expr
  conditional_rest : Production expr_rest
  assign_rest : Production expr_rest
  compound_rest : Production expr_rest
  elvises : Production elvis
  elvis_of : Production elvis_rest
  prefix : Production unary
  signed : Production unary
  negated : Production unary
  cast : Production unary
  plain : Production unary
  step_token : Production step
  suffixed : Production chain
  typed : Production chain
  created : Production chain
  name_element : Production element
  known_element : Production element
  new_object : Production new_rest
  new_array : Production new_rest
  empty_bracket : Production after_bracket
  first_size : Production after_bracket
  array_items : Production array_rest
  array_object : Production array_rest
  array_deeper : Production array_rest
  size_of : Production size
  bracketed : Production primary
  integer : Production primary
  string : Production primary
  constant : Production primary
  collection : Production primary
  named : Production primary
  no_entries : Production contents
  filled : Production contents
  more_items : Production more
  more_entries : Production more
  entry_of : Production entry
  items_of : Production items
  item_of : Production item
  access : Production postfix
  index : Production postfix
  dot_of : Production dot
  named_member : Production member
  numbered : Production member
  args_of : Production args
  arguments_of : Production arguments
  argued : Production arg
  lambda : Production arg
  lambdas : Production arg
  reference : Production arg
  this_reference : Production arg
  ref_word : Production ref_name
  ref_new : Production ref_name
  params_of : Production params
  typed_param : Production param
  bare_param : Production param
  block_lambda : Production lambda_body
  expr_lambda : Production lambda_body
  products : Production (binary lv.Product)
  tests : Production (binary lv.Instance)
  joins : (l : Looser) → Production (binary (lv.Looser l))
  times : Production (operation lv.Product)
  test : Production (operation lv.Instance)
  further : (l : Looser) → Production (operation (lv.Looser l))
  after_comma : (f : Form) → Production (comma f)

abbrev pub symbols : {f : Form} → Production f → List Symbol
symbols functions = phrase function ∷ optional top ∷ []
symbols statements = phrase statement ∷ repeated statement ∷ []
symbols function_of = phrase type ∷ spelled t.Name ∷ sign t.LeftParen ∷ optional formals ∷ sign t.RightParen ∷ phrase block ∷ []
symbols formal_list = phrase formal ∷ repeated (comma formal) ∷ []
symbols formal_of = phrase type ∷ spelled t.Name ∷ []
symbols name_type = spelled t.Name ∷ repeated pair ∷ []
symbols known_type = phrase cast_type ∷ []
symbols cast_type_of = sign t.Known ∷ repeated pair ∷ []
symbols square = sign t.LeftBracket ∷ sign t.RightBracket ∷ []
symbols braces = sign t.LeftBrace ∷ repeated inner ∷ sign t.RightBrace ∷ []
symbols opens = phrase opening ∷ []
symbols closes = phrase closing ∷ optional last ∷ []
symbols inner_opens = phrase opening ∷ []
symbols inner_closes = phrase closing ∷ optional separator ∷ []
symbols last_semicolon = sign t.Semicolon ∷ []
symbols semicolon = sign t.Semicolon ∷ []
symbols conditional = sign t.If ∷ sign t.LeftParen ∷ phrase expr ∷ sign t.RightParen ∷ phrase body ∷ optional otherwise ∷ []
symbols looped = sign t.While ∷ sign t.LeftParen ∷ phrase expr ∷ sign t.RightParen ∷ phrase run ∷ []
symbols for_loop = sign t.For ∷ sign t.LeftParen ∷ phrase for_rest ∷ []
symbols tried = sign t.Try ∷ phrase block ∷ phrase handler ∷ repeated handler ∷ []
symbols alternative = sign t.Else ∷ phrase body ∷ []
symbols runs = phrase body ∷ []
symbols idle = sign t.Semicolon ∷ []
symbols three_empty = phrase three ∷ []
symbols three_first = phrase for_first ∷ phrase three ∷ []
symbols each_of = phrase type ∷ spelled t.Name ∷ sign t.Colon ∷ phrase expr ∷ sign t.RightParen ∷ phrase body ∷ []
symbols each_in = spelled t.Name ∷ sign t.In ∷ phrase expr ∷ sign t.RightParen ∷ phrase body ∷ []
symbols three_parts = sign t.Semicolon ∷ optional expr ∷ phrase for_tail ∷ []
symbols tail_parts = sign t.Semicolon ∷ optional expr ∷ sign t.RightParen ∷ phrase run ∷ []
symbols declares = phrase decl ∷ []
symbols expresses = phrase expr ∷ []
symbols catches = sign t.Catch ∷ sign t.LeftParen ∷ phrase type ∷ spelled t.Name ∷ sign t.RightParen ∷ phrase block ∷ []
symbols do_loop = sign t.Do ∷ phrase block ∷ sign t.While ∷ sign t.LeftParen ∷ phrase expr ∷ sign t.RightParen ∷ []
symbols declared = phrase decl ∷ []
symbols jump = sign t.Jump ∷ []
symbols returned = sign t.Return ∷ optional arg ∷ []
symbols thrown = sign t.Throw ∷ phrase expr ∷ []
symbols value = phrase expr ∷ []
symbols declaration = phrase type ∷ phrase var ∷ repeated (comma var) ∷ []
symbols variable = spelled t.Name ∷ optional init ∷ []
symbols assigned = sign t.Assign ∷ phrase arg ∷ []
symbols block_body = phrase block ∷ []
symbols statement_body = phrase statement ∷ []
symbols expression = phrase elvis ∷ optional expr_rest ∷ []
symbols conditional_rest = sign t.Question ∷ phrase expr ∷ sign t.Colon ∷ phrase expr ∷ []
symbols assign_rest = sign t.Assign ∷ phrase expr ∷ []
symbols compound_rest = sign t.CompoundAssign ∷ phrase expr ∷ []
symbols elvises = phrase (binary (lv.Looser lo.OrOr)) ∷ optional elvis_rest ∷ []
symbols elvis_of = sign t.Elvis ∷ phrase elvis ∷ []
symbols prefix = sign t.Step ∷ phrase chain ∷ []
symbols signed = sign t.Additive ∷ phrase unary ∷ []
symbols negated = sign t.Negation ∷ phrase unary ∷ []
symbols cast = sign t.LeftParen ∷ phrase cast_type ∷ sign t.RightParen ∷ phrase unary ∷ []
symbols plain = phrase chain ∷ optional step ∷ []
symbols step_token = sign t.Step ∷ []
symbols suffixed = phrase primary ∷ repeated postfix ∷ []
symbols typed = phrase cast_type ∷ phrase dot ∷ repeated postfix ∷ []
symbols created = sign t.New ∷ phrase element ∷ phrase new_rest ∷ repeated postfix ∷ []
symbols name_element = spelled t.Name ∷ []
symbols known_element = sign t.Known ∷ []
symbols new_object = phrase args ∷ []
symbols new_array = sign t.LeftBracket ∷ phrase after_bracket ∷ []
symbols empty_bracket = sign t.RightBracket ∷ phrase array_rest ∷ []
symbols first_size = phrase expr ∷ sign t.RightBracket ∷ repeated size ∷ []
symbols array_items = sign t.LeftBrace ∷ optional items ∷ sign t.RightBrace ∷ []
symbols array_object = phrase args ∷ []
symbols array_deeper = phrase pair ∷ repeated pair ∷ phrase args ∷ []
symbols size_of = sign t.LeftBracket ∷ phrase expr ∷ sign t.RightBracket ∷ []
symbols bracketed = sign t.LeftParen ∷ phrase expr ∷ sign t.RightParen ∷ []
symbols integer = spelled t.Integer ∷ []
symbols string = spelled t.Text ∷ []
symbols constant = sign t.Constant ∷ []
symbols collection = sign t.LeftBracket ∷ optional contents ∷ sign t.RightBracket ∷ []
symbols named = spelled t.Name ∷ optional args ∷ []
symbols no_entries = sign t.Colon ∷ []
symbols filled = phrase expr ∷ optional more ∷ []
symbols more_items = phrase (comma item) ∷ repeated (comma item) ∷ []
symbols more_entries = sign t.Colon ∷ phrase expr ∷ repeated (comma entry) ∷ []
symbols entry_of = phrase expr ∷ sign t.Colon ∷ phrase expr ∷ []
symbols items_of = phrase item ∷ repeated (comma item) ∷ []
symbols item_of = phrase expr ∷ []
symbols access = phrase dot ∷ []
symbols index = sign t.LeftBracket ∷ phrase expr ∷ sign t.RightBracket ∷ []
symbols dot_of = sign t.Dot ∷ phrase member ∷ []
symbols named_member = spelled t.DotName ∷ optional args ∷ []
symbols numbered = spelled t.DotInteger ∷ []
symbols args_of = sign t.LeftParen ∷ optional arguments ∷ sign t.RightParen ∷ []
symbols arguments_of = phrase arg ∷ repeated (comma arg) ∷ []
symbols argued = phrase expr ∷ []
symbols lambda = phrase param ∷ sign t.Arrow ∷ phrase lambda_body ∷ []
symbols lambdas = sign t.LeftParen ∷ optional params ∷ sign t.RightParen ∷ sign t.Arrow ∷ phrase lambda_body ∷ []
symbols reference = phrase type ∷ sign t.ColonColon ∷ phrase ref_name ∷ []
symbols this_reference = sign t.This ∷ sign t.ColonColon ∷ spelled t.AnyWord ∷ []
symbols ref_word = spelled t.AnyWord ∷ []
symbols ref_new = sign t.New ∷ []
symbols params_of = phrase param ∷ repeated (comma param) ∷ []
symbols typed_param = phrase type ∷ spelled t.Name ∷ []
symbols bare_param = spelled t.Name ∷ []
symbols block_lambda = phrase block ∷ []
symbols expr_lambda = phrase expr ∷ []
symbols products = phrase unary ∷ repeated (operation lv.Product) ∷ []
symbols tests = phrase (binary (lv.Looser lo.Relational)) ∷ repeated (operation lv.Instance) ∷ []
symbols (joins l) = phrase (binary (tighter l)) ∷ repeated (operation (lv.Looser l)) ∷ []
symbols times = sign t.Multiplicative ∷ phrase unary ∷ []
symbols test = sign t.Instanceof ∷ phrase type ∷ []
symbols (further l) = sign (sign_of l) ∷ phrase (binary (tighter l)) ∷ []
symbols (after_comma f) = sign t.Comma ∷ phrase f ∷ []

-- the tree of a production, from the trees of its symbols
abbrev pub built : {f : Form} (p : Production f) → Trees (symbols p) → TreeOf f
built functions (one, (others, _)) = with_function one others
built statements (one, (others, _)) = record { functions = []; statements = one ∷ others }
built function_of (result, (name, (_, (parameters, (_, (what, _)))))) = record { result = result; name = name; parameters = or_none parameters; body = what }
built formal_list (one, (others, _)) = one ∷ others
built formal_of (of, (name, _)) = record { of = Some of; name = name }
built name_type (name, (pairs, _)) = record { at = name.at; base = bs.Name name.spelling; brackets = pairs }
built known_type (of, _) = of
built cast_type_of (it, (pairs, _)) = record { at = it.start; base = base_of it.kind; brackets = pairs }
built square (at, (_, _)) = at.start
built braces (at, (all, (_, _))) = roll-Block (record { at = at.start; statements = all })
built opens (one, _) = one
built closes (one, (_, _)) = one
built inner_opens (one, _) = one
built inner_closes (one, (_, _)) = one
built last_semicolon (it, _) = it
built semicolon (it, _) = it
built conditional (at, (_, (condition, (_, (then, (other, _)))))) = st.If at.start condition.expr then other
built looped (at, (_, (condition, (_, (what, _))))) = st.While at.start condition.expr what
built for_loop (at, (_, (rest, _))) = for_statement at.start rest
built tried (at, (group, (one, (others, _)))) = st.Try at.start group (one ∷ others)
built alternative (_, (what, _)) = what
built runs (what, _) = Some what
built idle (_, _) = None
built three_empty (rest, _) = fr.Three None rest
built three_first (one, (rest, _)) = fr.Three (Some one) rest
built each_of (of, (name, (_, (over, (_, (what, _)))))) = fr.Each of name over.expr what
built each_in (name, (_, (over, (_, (what, _))))) = fr.In name over.expr what
built three_parts (_, (condition, (rest, _))) = record { condition = any_expr condition; update = rest.update; body = rest.body }
built tail_parts (_, (update, (_, (what, _)))) = record { update = any_expr update; body = what }
built declares (one, _) = fi.Declare one
built expresses (one, _) = fi.Expression one.expr
built catches (at, (_, (of, (name, (_, (group, _)))))) = roll-Catch (record { at = at.start; of = of; name = name; block = group })
built do_loop (at, (group, (_, (_, (condition, (_, _)))))) = st.Do at.start group condition.expr
built declared (one, _) = st.Declare one
built jump (it, _) = jump_of it
built returned (at, (given, _)) = st.Return at.start given
built thrown (at, (given, _)) = st.Throw at.start given.expr
built value (given, _) = st.Expression given.start given.expr
built declaration (of, (one, (others, _))) = roll-Declaration (record { of = of; variables = one ∷ others })
built variable (name, (given, _)) = roll-Variable (record { name = name; value = given })
built assigned (_, (given, _)) = given
built block_body (group, _) = bd.Block group
built statement_body (one, _) = bd.Statement one
built expression (left, (rest, _)) = with_rest left rest
built conditional_rest (at, (one, (_, (other, _)))) = xr.Conditional at.start one.expr other.expr
built assign_rest (at, (given, _)) = xr.Assign None at.start given.expr
built compound_rest (at, (given, _)) = xr.Assign (Some (operator_of at.kind)) at.start given.expr
built elvises (left, (rest, _)) = with_elvis left rest
built elvis_of (at, (right, _)) = record { at = at.start; right = right.expr }
built prefix (at, (target, _)) = record { start = at.start; expr = e.Prefix (step_of at.kind) at.start target.expr }
built signed (at, (operand, _)) = record { start = at.start; expr = e.Unary (unary_of at.kind) at.start operand.expr }
built negated (at, (operand, _)) = record { start = at.start; expr = e.Unary (unary_of at.kind) at.start operand.expr }
built cast (at, (of, (_, (operand, _)))) = record { start = at.start; expr = e.Cast at.start of operand.expr }
built plain (one, (at, _)) = with_step one at
built step_token (it, _) = it
built suffixed (one, (others, _)) = chained one others
built typed (of, (one, (others, _))) = chained (record { start = of.at; expr = suffixed_by (e.Type of) one }) others
built created (at, (of, (rest, (others, _)))) = chained (created_as at.start of rest) others
built name_element (name, _) = record { at = name.at; base = bs.Name name.spelling; brackets = [] }
built known_element (it, _) = record { at = it.start; base = base_of it.kind; brackets = [] }
built new_object (given, _) = nw.Object [] given
built new_array (at, (rest, _)) = bracket_first at.start rest
built empty_bracket (_, (rest, _)) = rest
built first_size (one, (_, (others, _))) = nw.Sized (one.expr ∷ others)
built array_items (_, (listed_, (_, _))) = nw.Filled (or_none listed_)
built array_object (given, _) = nw.Object [] given
built array_deeper (one, (others, (given, _))) = nw.Object (one ∷ others) given
built size_of (_, (one, (_, _))) = one.expr
built bracketed (at, (within, (_, _))) = record { start = at.start; expr = e.Bracketed at.start within.expr }
built integer (it, _) = record { start = it.at; expr = e.Integer it.at it.spelling }
built string (it, _) = record { start = it.at; expr = e.Text it.at it.spelling }
built constant (it, _) = record { start = it.start; expr = e.Constant (constant_of it.kind) it.start }
built collection (at, (inside, (_, _))) = record { start = at.start; expr = collected at.start inside }
built named (name, (given, _)) = record { start = name.at; expr = name_or_call name given }
built no_entries (_, _) = cn.NoEntries
built filled (one, (others, _)) = cn.Filled one.expr others
built more_items (one, (others, _)) = mr.Items (one ∷ others)
built more_entries (_, (one, (others, _))) = mr.Entries one.expr others
built entry_of (key, (_, (given, _))) = roll-Entry (record { key = key.expr; value = given.expr })
built items_of (one, (others, _)) = one ∷ others
built item_of (one, _) = one.expr
built access (one, _) = one
built index (at, (one, (_, _))) = sx.Index at.start one.expr
built dot_of (it, (one, _)) = suffix_of (access_of it.kind) one
built named_member (name, (given, _)) = mb.Named name given
built numbered (number, _) = mb.Numbered number
built args_of (_, (all, (_, _))) = or_none all
built arguments_of (one, (others, _)) = one ∷ others
built argued (given, _) = ar.Value given.expr
built lambda (one, (_, (what, _))) = lambda_of one what
built lambdas (at, (all, (_, (_, (what, _))))) = ar.Lambda at.start (or_none all) what
built reference (of, (_, (name, _))) = reference_of of name
built this_reference (at, (_, (name, _))) = ar.ThisReference at.start name.spelling
built ref_word (name, _) = Some name
built ref_new (_, _) = None
built params_of (one, (others, _)) = one ∷ others
built typed_param (of, (name, _)) = record { of = Some of; name = name }
built bare_param (name, _) = record { of = None; name = name }
built block_lambda (group, _) = lb.Block group
built expr_lambda (given, _) = lb.Expression given.expr
built products (one, (others, _)) = joined one others
built tests (one, (others, _)) = joined one others
built (joins l) (one, (others, _)) = joined one others
built times (at, (right, _)) = op.Binary (operator_of at.kind) at.start right.expr
built test (at, (of, _)) = op.Test at.start of
built (further l) (at, (right, _)) = op.Binary (operator_of at.kind) at.start right.expr
built (after_comma f) (_, (one, _)) = one
