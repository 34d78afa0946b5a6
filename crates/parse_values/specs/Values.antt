-- The values of trees, whatever their forms.
use Rattle.std.specs.Prelude.{Bool, true, false, List, [], ◌∷◌, Option, Some, None}
use Rattle.pl_grammar.specs.Lexeme.{Take, mark, text, Taken}
use Rattle.pl_grammar.specs.Grammar as g
use Rattle.pl_grammar.specs.Grammar.{Form, TreeOf, Symbol, SymbolTree, Trees}
use Rattle.parse_values.specs.declared.value.Value.{Value}
use Rattle.parse_values.specs.declared.value.Value.TheVariants as v

-- a variant that holds a tree
abbrev pub held : {A : Type 0} → (Option A → Value) → A → Value
held variant tree = variant (Some tree)

-- of a form. Whole scripts have none
abbrev pub value_of : (form : Form) → TreeOf form → Value
value_of g.top = λ _. v.Nothing
value_of g.function = held v.Function
value_of g.formals = held v.Parameters
value_of g.formal = held v.Parameter
value_of g.type = held v.TypeName
value_of g.cast_type = held v.TypeName
value_of g.pair = held v.Place
value_of g.block = held v.Block
value_of g.statement = held v.Statement
value_of g.inner = held v.Statement
value_of g.last = held v.Token
value_of g.separator = held v.Token
value_of g.opening = held v.Statement
value_of g.otherwise = held v.Body
value_of g.run = held v.Run
value_of g.for_rest = held v.ForRest
value_of g.three = held v.Three
value_of g.for_tail = held v.Tail
value_of g.for_first = held v.First
value_of g.handler = held v.Catch
value_of g.closing = held v.Statement
value_of g.decl = held v.Declaration
value_of g.var = held v.Variable
value_of g.init = held v.Argument
value_of g.body = held v.Body
value_of g.expr = held v.Placed
value_of g.expr_rest = held v.ExprRest
value_of g.elvis = held v.Placed
value_of g.elvis_rest = held v.ElvisRest
value_of g.unary = held v.Placed
value_of g.step = held v.Token
value_of g.chain = held v.Placed
value_of g.element = held v.TypeName
value_of g.new_rest = held v.New
value_of g.after_bracket = held v.New
value_of g.array_rest = held v.New
value_of g.size = held v.Expr
value_of g.primary = held v.Placed
value_of g.contents = held v.Contents
value_of g.more = held v.More
value_of g.entry = held v.Entry
value_of g.items = held v.Exprs
value_of g.item = held v.Expr
value_of g.postfix = held v.Suffix
value_of g.dot = held v.Suffix
value_of g.member = held v.Member
value_of g.args = held v.Arguments
value_of g.arguments = held v.Arguments
value_of g.arg = held v.Argument
value_of g.ref_name = held v.RefName
value_of g.params = held v.Parameters
value_of g.param = held v.Parameter
value_of g.lambda_body = held v.LambdaBody
value_of (g.binary level) = held v.Placed
value_of (g.operation level) = held v.Operation
value_of (g.comma form) = value_of form

-- of several of one form, where the grammar repeats it
abbrev pub list_value : (form : Form) → List (TreeOf form) → Value
list_value g.statement = held v.Statements
list_value g.inner = held v.Statements
list_value g.pair = held v.Places
list_value g.handler = held v.Catches
list_value g.postfix = held v.Suffixes
list_value g.size = held v.Exprs
list_value (g.operation level) = held v.Operations
list_value (g.comma g.formal) = held v.Parameters
list_value (g.comma g.var) = held v.Variables
list_value (g.comma g.item) = held v.Exprs
list_value (g.comma g.entry) = held v.Entries
list_value (g.comma g.arg) = held v.Arguments
list_value (g.comma g.param) = held v.Parameters
list_value _ = λ _. v.Nothing

-- of one that may be left out
abbrev pub option_value : {A : Type 0} → (A → Value) → Option A → Value
option_value value None = v.Nothing
option_value value (Some tree) = value tree

abbrev pub taken_value : (take : Take) → Taken take → Value
taken_value mark = held v.Token
taken_value text = held v.Spelled

-- of a symbol
abbrev pub symbol_value : (s : Symbol) → SymbolTree s → Value
symbol_value (g.token take terminal) = taken_value take
symbol_value (g.phrase form) = value_of form
symbol_value (g.repeated form) = list_value form
symbol_value (g.optional form) = option_value (value_of form)

-- of the symbols of a production
abbrev pub values_of : (ss : List Symbol) → Trees ss → List Value
values_of [] trees = []
values_of (s ∷ ss) trees = symbol_value s trees.0 ∷ values_of ss trees.1

-- the first value is such a one
abbrev pub starts_with : (Value → Bool) → List Value → Bool
starts_with is [] = false
starts_with is (value ∷ values) = is value

abbrev pub is_token : Value → Bool
is_token (v.Token (Some tree)) = true
is_token _ = false

abbrev pub is_spelled : Value → Bool
is_spelled (v.Spelled (Some tree)) = true
is_spelled _ = false

abbrev pub is_function : Value → Bool
is_function (v.Function (Some tree)) = true
is_function _ = false

abbrev pub is_parameters : Value → Bool
is_parameters (v.Parameters (Some tree)) = true
is_parameters _ = false

abbrev pub is_parameter : Value → Bool
is_parameter (v.Parameter (Some tree)) = true
is_parameter _ = false

abbrev pub is_type_name : Value → Bool
is_type_name (v.TypeName (Some tree)) = true
is_type_name _ = false

abbrev pub is_place : Value → Bool
is_place (v.Place (Some tree)) = true
is_place _ = false

abbrev pub is_places : Value → Bool
is_places (v.Places (Some tree)) = true
is_places _ = false

abbrev pub is_block : Value → Bool
is_block (v.Block (Some tree)) = true
is_block _ = false

abbrev pub is_statement : Value → Bool
is_statement (v.Statement (Some tree)) = true
is_statement _ = false

abbrev pub is_statements : Value → Bool
is_statements (v.Statements (Some tree)) = true
is_statements _ = false

abbrev pub is_body : Value → Bool
is_body (v.Body (Some tree)) = true
is_body _ = false

abbrev pub is_run : Value → Bool
is_run (v.Run (Some tree)) = true
is_run _ = false

abbrev pub is_for_rest : Value → Bool
is_for_rest (v.ForRest (Some tree)) = true
is_for_rest _ = false

abbrev pub is_three : Value → Bool
is_three (v.Three (Some tree)) = true
is_three _ = false

abbrev pub is_tail : Value → Bool
is_tail (v.Tail (Some tree)) = true
is_tail _ = false

abbrev pub is_first : Value → Bool
is_first (v.First (Some tree)) = true
is_first _ = false

abbrev pub is_catch : Value → Bool
is_catch (v.Catch (Some tree)) = true
is_catch _ = false

abbrev pub is_catches : Value → Bool
is_catches (v.Catches (Some tree)) = true
is_catches _ = false

abbrev pub is_declaration : Value → Bool
is_declaration (v.Declaration (Some tree)) = true
is_declaration _ = false

abbrev pub is_variable : Value → Bool
is_variable (v.Variable (Some tree)) = true
is_variable _ = false

abbrev pub is_variables : Value → Bool
is_variables (v.Variables (Some tree)) = true
is_variables _ = false

abbrev pub is_argument : Value → Bool
is_argument (v.Argument (Some tree)) = true
is_argument _ = false

abbrev pub is_arguments : Value → Bool
is_arguments (v.Arguments (Some tree)) = true
is_arguments _ = false

abbrev pub is_placed : Value → Bool
is_placed (v.Placed (Some tree)) = true
is_placed _ = false

abbrev pub is_expr_rest : Value → Bool
is_expr_rest (v.ExprRest (Some tree)) = true
is_expr_rest _ = false

abbrev pub is_elvis_rest : Value → Bool
is_elvis_rest (v.ElvisRest (Some tree)) = true
is_elvis_rest _ = false

abbrev pub is_new : Value → Bool
is_new (v.New (Some tree)) = true
is_new _ = false

abbrev pub is_expr : Value → Bool
is_expr (v.Expr (Some tree)) = true
is_expr _ = false

abbrev pub is_exprs : Value → Bool
is_exprs (v.Exprs (Some tree)) = true
is_exprs _ = false

abbrev pub is_contents : Value → Bool
is_contents (v.Contents (Some tree)) = true
is_contents _ = false

abbrev pub is_more : Value → Bool
is_more (v.More (Some tree)) = true
is_more _ = false

abbrev pub is_entry : Value → Bool
is_entry (v.Entry (Some tree)) = true
is_entry _ = false

abbrev pub is_entries : Value → Bool
is_entries (v.Entries (Some tree)) = true
is_entries _ = false

abbrev pub is_suffix : Value → Bool
is_suffix (v.Suffix (Some tree)) = true
is_suffix _ = false

abbrev pub is_suffixes : Value → Bool
is_suffixes (v.Suffixes (Some tree)) = true
is_suffixes _ = false

abbrev pub is_member : Value → Bool
is_member (v.Member (Some tree)) = true
is_member _ = false

abbrev pub is_ref_name : Value → Bool
is_ref_name (v.RefName (Some tree)) = true
is_ref_name _ = false

abbrev pub is_lambda_body : Value → Bool
is_lambda_body (v.LambdaBody (Some tree)) = true
is_lambda_body _ = false

abbrev pub is_operation : Value → Bool
is_operation (v.Operation (Some tree)) = true
is_operation _ = false

abbrev pub is_operations : Value → Bool
is_operations (v.Operations (Some tree)) = true
is_operations _ = false

-- or is left out
abbrev pub is_any : (Value → Bool) → Value → Bool
is_any is v.Nothing = true
is_any is value = is value
