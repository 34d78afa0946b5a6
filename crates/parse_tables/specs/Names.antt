-- What the names of the code mean in the grammar.
use Rattle.pl_grammar.specs.declared.level.Level.TheVariants as lv
use Rattle.pl_grammar.specs.Grammar as g
use Rattle.pl_grammar.specs.Grammar.{Production}
use Rattle.parse_tables.specs.declared.form.Listed.{Listed}
use Rattle.parse_tables.specs.declared.form.Listed.TheVariants as l
use Rattle.parse_tables.specs.declared.form.Form.{Form}
use Rattle.parse_tables.specs.declared.form.Form.TheVariants as f
use Rattle.parse_tables.specs.declared.form.Series.{Series}
use Rattle.parse_tables.specs.declared.form.Series.TheVariants as s
use Rattle.parse_tables.specs.declared.rule.Symbol as declared
use Rattle.parse_tables.specs.declared.rule.Symbol.TheVariants as y
use Rattle.parse_tables.specs.declared.rule.Rule.{Rule}
use Rattle.parse_tables.specs.declared.rule.Rule.TheVariants as r

-- what stands behind a comma
abbrev pub listed_form : Listed → g.Form
listed_form l.Formal = g.formal
listed_form l.Var = g.var
listed_form l.Item = g.item
listed_form l.Entry = g.entry
listed_form l.Arg = g.arg
listed_form l.Param = g.param

-- a form of the grammar
abbrev pub form_of : Form → g.Form
form_of f.Function = g.function
form_of f.Formals = g.formals
form_of f.Formal = g.formal
form_of f.Type = g.type
form_of f.CastType = g.cast_type
form_of f.Pair = g.pair
form_of f.Block = g.block
form_of f.Statement = g.statement
form_of f.Inner = g.inner
form_of f.Last = g.last
form_of f.Separator = g.separator
form_of f.Opening = g.opening
form_of f.Otherwise = g.otherwise
form_of f.Run = g.run
form_of f.ForRest = g.for_rest
form_of f.Three = g.three
form_of f.ForTail = g.for_tail
form_of f.ForFirst = g.for_first
form_of f.Handler = g.handler
form_of f.Closing = g.closing
form_of f.Decl = g.decl
form_of f.Var = g.var
form_of f.Init = g.init
form_of f.Body = g.body
form_of f.Expr = g.expr
form_of f.ExprRest = g.expr_rest
form_of f.Elvis = g.elvis
form_of f.ElvisRest = g.elvis_rest
form_of f.Unary = g.unary
form_of f.Step = g.step
form_of f.Chain = g.chain
form_of f.Element = g.element
form_of f.NewRest = g.new_rest
form_of f.AfterBracket = g.after_bracket
form_of f.ArrayRest = g.array_rest
form_of f.Size = g.size
form_of f.Primary = g.primary
form_of f.Contents = g.contents
form_of f.More = g.more
form_of f.Entry = g.entry
form_of f.Items = g.items
form_of f.Item = g.item
form_of f.Postfix = g.postfix
form_of f.Dot = g.dot
form_of f.Member = g.member
form_of f.Args = g.args
form_of f.Arguments = g.arguments
form_of f.Arg = g.arg
form_of f.RefName = g.ref_name
form_of f.Params = g.params
form_of f.Param = g.param
form_of f.LambdaBody = g.lambda_body
form_of (f.Binary level) = g.binary level
form_of (f.Operation level) = g.operation level
form_of (f.Comma listed) = g.comma (listed_form listed)

-- the form that is repeated
abbrev pub series_form : Series → g.Form
series_form s.Statement = g.statement
series_form s.Inner = g.inner
series_form s.Pair = g.pair
series_form s.Handler = g.handler
series_form s.Postfix = g.postfix
series_form s.Size = g.size
series_form (s.Operation level) = g.operation level
series_form (s.Comma listed) = g.comma (listed_form listed)

-- a symbol of the grammar
abbrev pub symbol_of : declared.Symbol → g.Symbol
symbol_of (y.Sign terminal) = g.sign terminal
symbol_of (y.Spelled terminal) = g.spelled terminal
symbol_of (y.Phrase form) = g.phrase (form_of form)
symbol_of (y.Repeated series) = g.repeated (series_form series)
symbol_of (y.Optional form) = g.optional (form_of form)

-- the form that a rule is a production of
abbrev pub rule_form : Rule → g.Form
rule_form r.FunctionOf = g.function
rule_form r.FormalList = g.formals
rule_form r.FormalOf = g.formal
rule_form r.NameType = g.type
rule_form r.KnownType = g.type
rule_form r.CastTypeOf = g.cast_type
rule_form r.Square = g.pair
rule_form r.Braces = g.block
rule_form r.Opens = g.statement
rule_form r.Closes = g.statement
rule_form r.InnerOpens = g.inner
rule_form r.InnerCloses = g.inner
rule_form r.LastSemicolon = g.last
rule_form r.Semicolon = g.separator
rule_form r.Conditional = g.opening
rule_form r.Looped = g.opening
rule_form r.ForLoop = g.opening
rule_form r.Tried = g.opening
rule_form r.Alternative = g.otherwise
rule_form r.Runs = g.run
rule_form r.Idle = g.run
rule_form r.ThreeEmpty = g.for_rest
rule_form r.ThreeFirst = g.for_rest
rule_form r.EachOf = g.for_rest
rule_form r.EachIn = g.for_rest
rule_form r.ThreeParts = g.three
rule_form r.TailParts = g.for_tail
rule_form r.Declares = g.for_first
rule_form r.Expresses = g.for_first
rule_form r.Catches = g.handler
rule_form r.DoLoop = g.closing
rule_form r.Declared = g.closing
rule_form r.Jump = g.closing
rule_form r.Returned = g.closing
rule_form r.Thrown = g.closing
rule_form r.Value = g.closing
rule_form r.Declaration = g.decl
rule_form r.Variable = g.var
rule_form r.Assigned = g.init
rule_form r.BlockBody = g.body
rule_form r.StatementBody = g.body
rule_form r.Expression = g.expr
rule_form r.ConditionalRest = g.expr_rest
rule_form r.AssignRest = g.expr_rest
rule_form r.CompoundRest = g.expr_rest
rule_form r.Elvises = g.elvis
rule_form r.ElvisOf = g.elvis_rest
rule_form r.Prefix = g.unary
rule_form r.Signed = g.unary
rule_form r.Negated = g.unary
rule_form r.Cast = g.unary
rule_form r.Plain = g.unary
rule_form r.StepToken = g.step
rule_form r.Suffixed = g.chain
rule_form r.Typed = g.chain
rule_form r.Created = g.chain
rule_form r.NameElement = g.element
rule_form r.KnownElement = g.element
rule_form r.NewObject = g.new_rest
rule_form r.NewArray = g.new_rest
rule_form r.EmptyBracket = g.after_bracket
rule_form r.FirstSize = g.after_bracket
rule_form r.ArrayItems = g.array_rest
rule_form r.ArrayObject = g.array_rest
rule_form r.ArrayDeeper = g.array_rest
rule_form r.SizeOf = g.size
rule_form r.Bracketed = g.primary
rule_form r.Integer = g.primary
rule_form r.String = g.primary
rule_form r.Constant = g.primary
rule_form r.Collection = g.primary
rule_form r.Named = g.primary
rule_form r.NoEntries = g.contents
rule_form r.Filled = g.contents
rule_form r.MoreItems = g.more
rule_form r.MoreEntries = g.more
rule_form r.EntryOf = g.entry
rule_form r.ItemsOf = g.items
rule_form r.ItemOf = g.item
rule_form r.Access = g.postfix
rule_form r.Index = g.postfix
rule_form r.DotOf = g.dot
rule_form r.NamedMember = g.member
rule_form r.Numbered = g.member
rule_form r.ArgsOf = g.args
rule_form r.ArgumentsOf = g.arguments
rule_form r.Argued = g.arg
rule_form r.Lambda = g.arg
rule_form r.Lambdas = g.arg
rule_form r.Reference = g.arg
rule_form r.ThisReference = g.arg
rule_form r.RefWord = g.ref_name
rule_form r.RefNew = g.ref_name
rule_form r.ParamsOf = g.params
rule_form r.TypedParam = g.param
rule_form r.BareParam = g.param
rule_form r.BlockLambda = g.lambda_body
rule_form r.ExprLambda = g.lambda_body
rule_form r.Products = g.binary lv.Product
rule_form r.Tests = g.binary lv.Instance
rule_form (r.Joins level) = g.binary (lv.Looser level)
rule_form r.Times = g.operation lv.Product
rule_form r.Test = g.operation lv.Instance
rule_form (r.Further level) = g.operation (lv.Looser level)
rule_form (r.AfterComma listed) = g.comma (listed_form listed)

-- the production that a rule is
abbrev pub production_of : (rule : Rule) → Production (rule_form rule)
production_of r.FunctionOf = g.function_of
production_of r.FormalList = g.formal_list
production_of r.FormalOf = g.formal_of
production_of r.NameType = g.name_type
production_of r.KnownType = g.known_type
production_of r.CastTypeOf = g.cast_type_of
production_of r.Square = g.square
production_of r.Braces = g.braces
production_of r.Opens = g.opens
production_of r.Closes = g.closes
production_of r.InnerOpens = g.inner_opens
production_of r.InnerCloses = g.inner_closes
production_of r.LastSemicolon = g.last_semicolon
production_of r.Semicolon = g.semicolon
production_of r.Conditional = g.conditional
production_of r.Looped = g.looped
production_of r.ForLoop = g.for_loop
production_of r.Tried = g.tried
production_of r.Alternative = g.alternative
production_of r.Runs = g.runs
production_of r.Idle = g.idle
production_of r.ThreeEmpty = g.three_empty
production_of r.ThreeFirst = g.three_first
production_of r.EachOf = g.each_of
production_of r.EachIn = g.each_in
production_of r.ThreeParts = g.three_parts
production_of r.TailParts = g.tail_parts
production_of r.Declares = g.declares
production_of r.Expresses = g.expresses
production_of r.Catches = g.catches
production_of r.DoLoop = g.do_loop
production_of r.Declared = g.declared
production_of r.Jump = g.jump
production_of r.Returned = g.returned
production_of r.Thrown = g.thrown
production_of r.Value = g.value
production_of r.Declaration = g.declaration
production_of r.Variable = g.variable
production_of r.Assigned = g.assigned
production_of r.BlockBody = g.block_body
production_of r.StatementBody = g.statement_body
production_of r.Expression = g.expression
production_of r.ConditionalRest = g.conditional_rest
production_of r.AssignRest = g.assign_rest
production_of r.CompoundRest = g.compound_rest
production_of r.Elvises = g.elvises
production_of r.ElvisOf = g.elvis_of
production_of r.Prefix = g.prefix
production_of r.Signed = g.signed
production_of r.Negated = g.negated
production_of r.Cast = g.cast
production_of r.Plain = g.plain
production_of r.StepToken = g.step_token
production_of r.Suffixed = g.suffixed
production_of r.Typed = g.typed
production_of r.Created = g.created
production_of r.NameElement = g.name_element
production_of r.KnownElement = g.known_element
production_of r.NewObject = g.new_object
production_of r.NewArray = g.new_array
production_of r.EmptyBracket = g.empty_bracket
production_of r.FirstSize = g.first_size
production_of r.ArrayItems = g.array_items
production_of r.ArrayObject = g.array_object
production_of r.ArrayDeeper = g.array_deeper
production_of r.SizeOf = g.size_of
production_of r.Bracketed = g.bracketed
production_of r.Integer = g.integer
production_of r.String = g.string
production_of r.Constant = g.constant
production_of r.Collection = g.collection
production_of r.Named = g.named
production_of r.NoEntries = g.no_entries
production_of r.Filled = g.filled
production_of r.MoreItems = g.more_items
production_of r.MoreEntries = g.more_entries
production_of r.EntryOf = g.entry_of
production_of r.ItemsOf = g.items_of
production_of r.ItemOf = g.item_of
production_of r.Access = g.access
production_of r.Index = g.index
production_of r.DotOf = g.dot_of
production_of r.NamedMember = g.named_member
production_of r.Numbered = g.numbered
production_of r.ArgsOf = g.args_of
production_of r.ArgumentsOf = g.arguments_of
production_of r.Argued = g.argued
production_of r.Lambda = g.lambda
production_of r.Lambdas = g.lambdas
production_of r.Reference = g.reference
production_of r.ThisReference = g.this_reference
production_of r.RefWord = g.ref_word
production_of r.RefNew = g.ref_new
production_of r.ParamsOf = g.params_of
production_of r.TypedParam = g.typed_param
production_of r.BareParam = g.bare_param
production_of r.BlockLambda = g.block_lambda
production_of r.ExprLambda = g.expr_lambda
production_of r.Products = g.products
production_of r.Tests = g.tests
production_of (r.Joins level) = g.joins level
production_of r.Times = g.times
production_of r.Test = g.test
production_of (r.Further level) = g.further level
production_of (r.AfterComma listed) = g.after_comma (listed_form listed)

-- with its form
abbrev pub meant : Rule → (form : g.Form) × Production form
meant rule = (rule_form rule, production_of rule)
