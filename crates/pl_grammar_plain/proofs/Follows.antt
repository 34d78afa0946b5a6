-- What may come next behind a phrase.
use Rattle.std.proofs.Common.{Bool, true, false}
use Rattle.pl_grammar.specs.declared.terminal.Terminal.{Terminal}
use Rattle.pl_grammar.specs.declared.terminal.Terminal.TheVariants as t
use Rattle.pl_grammar.specs.declared.level.Level.{Level}
use Rattle.pl_grammar.specs.declared.level.Level.TheVariants as lv
use Rattle.pl_grammar.specs.declared.level.Looser.TheVariants as lo
use Rattle.pl_grammar.specs.Grammar.{Form, top, function, formals, formal, type, cast_type, pair, block, statement, inner, last, separator, opening, otherwise, run, for_rest, three, for_tail, for_first, handler, closing, decl, var, init, body, expr, expr_rest, elvis, elvis_rest, unary, step, chain, element, new_rest, after_bracket, array_rest, size, primary, contents, more, entry, items, item, postfix, dot, member, args, arguments, arg, ref_name, params, param, lambda_body, binary, operation, comma}

abbrev is_end : Terminal → Bool
is_end t.End = true
is_end _ = false

-- what closes brackets, or ends the head of a `for`
abbrev before_paren : Terminal → Bool
before_paren t.RightParen = true
before_paren terminal = is_end terminal

abbrev before_bracket : Terminal → Bool
before_bracket t.RightBracket = true
before_bracket terminal = is_end terminal

abbrev before_brace : Terminal → Bool
before_brace t.RightBrace = true
before_brace terminal = is_end terminal

abbrev pub before_semicolon : Terminal → Bool
before_semicolon t.Semicolon = true
before_semicolon terminal = is_end terminal

-- single forms
abbrev after_element : Terminal → Bool
after_element t.LeftParen = true
after_element t.LeftBracket = true
after_element terminal = is_end terminal

abbrev pub after_param : Terminal → Bool
after_param t.Comma = true
after_param t.Arrow = true
after_param terminal = before_paren terminal

abbrev after_item : Terminal → Bool
after_item t.RightBrace = true
after_item t.Comma = true
after_item terminal = before_bracket terminal

-- statements without their `;`, and expressions: each adds to what may follow the one before
abbrev pub after_closing : Terminal → Bool
after_closing t.RightBrace = true
after_closing terminal = before_semicolon terminal

abbrev after_var : Terminal → Bool
after_var t.Comma = true
after_var terminal = after_closing terminal

abbrev after_arg : Terminal → Bool
after_arg t.RightParen = true
after_arg terminal = after_var terminal

abbrev pub after_expr : Terminal → Bool
after_expr t.RightBracket = true
after_expr t.Colon = true
after_expr terminal = after_arg terminal

abbrev after_elvis : Terminal → Bool
after_elvis t.Question = true
after_elvis t.Assign = true
after_elvis t.CompoundAssign = true
after_elvis terminal = after_expr terminal

abbrev after_or_or : Terminal → Bool
after_or_or t.Elvis = true
after_or_or terminal = after_elvis terminal

abbrev after_and_and : Terminal → Bool
after_and_and t.OrOr = true
after_and_and terminal = after_or_or terminal

abbrev after_or : Terminal → Bool
after_or t.AndAnd = true
after_or terminal = after_and_and terminal

abbrev after_xor : Terminal → Bool
after_xor t.Or = true
after_xor terminal = after_or terminal

abbrev after_and : Terminal → Bool
after_and t.Xor = true
after_and terminal = after_xor terminal

abbrev after_equality : Terminal → Bool
after_equality t.And = true
after_equality terminal = after_and terminal

abbrev after_instance : Terminal → Bool
after_instance t.Equality = true
after_instance terminal = after_equality terminal

abbrev after_relational : Terminal → Bool
after_relational t.Instanceof = true
after_relational terminal = after_instance terminal

abbrev after_shift : Terminal → Bool
after_shift t.Relational = true
after_shift terminal = after_relational terminal

abbrev after_sum : Terminal → Bool
after_sum t.Shift = true
after_sum terminal = after_shift terminal

abbrev after_product : Terminal → Bool
after_product t.Additive = true
after_product terminal = after_sum terminal

abbrev after_unary : Terminal → Bool
after_unary t.Multiplicative = true
after_unary terminal = after_product terminal

abbrev after_chain : Terminal → Bool
after_chain t.Step = true
after_chain terminal = after_unary terminal

abbrev after_primary : Terminal → Bool
after_primary t.LeftBracket = true
after_primary t.Dot = true
after_primary terminal = after_chain terminal

-- types
abbrev after_type : Terminal → Bool
after_type t.Name = true
after_type t.ColonColon = true
after_type terminal = after_relational terminal

abbrev after_cast_type : Terminal → Bool
after_cast_type t.Dot = true
after_cast_type terminal = after_type terminal

abbrev after_pair : Terminal → Bool
after_pair t.LeftParen = true
after_pair t.LeftBracket = true
after_pair terminal = after_cast_type terminal

-- statements and blocks
abbrev after_statement : Terminal → Bool
after_statement t.Name = true
after_statement t.Integer = true
after_statement t.Text = true
after_statement t.Class = true
after_statement t.Basic = true
after_statement t.If = true
after_statement t.Else = true
after_statement t.While = true
after_statement t.Do = true
after_statement t.For = true
after_statement t.Jump = true
after_statement t.Return = true
after_statement t.New = true
after_statement t.Try = true
after_statement t.Throw = true
after_statement t.Constant = true
after_statement t.LeftParen = true
after_statement t.LeftBracket = true
after_statement t.RightBrace = true
after_statement t.Additive = true
after_statement t.Step = true
after_statement t.Negation = true
after_statement terminal = is_end terminal

abbrev after_handler : Terminal → Bool
after_handler t.Catch = true
after_handler terminal = after_statement terminal

abbrev after_block : Terminal → Bool
after_block t.RightParen = true
after_block t.Comma = true
after_block t.Semicolon = true
after_block terminal = after_handler terminal

abbrev after_operand : Level → Terminal → Bool
after_operand lv.Product terminal = after_product terminal
after_operand lv.Instance terminal = after_instance terminal
after_operand (lv.Looser lo.Sum) terminal = after_sum terminal
after_operand (lv.Looser lo.Shift) terminal = after_shift terminal
after_operand (lv.Looser lo.Relational) terminal = after_relational terminal
after_operand (lv.Looser lo.Equality) terminal = after_equality terminal
after_operand (lv.Looser lo.And) terminal = after_and terminal
after_operand (lv.Looser lo.Xor) terminal = after_xor terminal
after_operand (lv.Looser lo.Or) terminal = after_or terminal
after_operand (lv.Looser lo.AndAnd) terminal = after_and_and terminal
after_operand (lv.Looser lo.OrOr) terminal = after_or_or terminal

abbrev after_operation : Level → Terminal → Bool
after_operation lv.Product terminal = after_unary terminal
after_operation lv.Instance terminal = after_relational terminal
after_operation (lv.Looser lo.Sum) terminal = after_product terminal
after_operation (lv.Looser lo.Shift) terminal = after_sum terminal
after_operation (lv.Looser lo.Relational) terminal = after_shift terminal
after_operation (lv.Looser lo.Equality) terminal = after_instance terminal
after_operation (lv.Looser lo.And) terminal = after_equality terminal
after_operation (lv.Looser lo.Xor) terminal = after_and terminal
after_operation (lv.Looser lo.Or) terminal = after_xor terminal
after_operation (lv.Looser lo.AndAnd) terminal = after_or terminal
after_operation (lv.Looser lo.OrOr) terminal = after_and_and terminal

-- behind a form, in a script or a beginning of one
abbrev pub follows : Form → Terminal → Bool
follows top terminal = is_end terminal
follows function terminal = after_statement terminal
follows formals terminal = before_paren terminal
follows formal terminal = after_param terminal
follows type terminal = after_type terminal
follows cast_type terminal = after_cast_type terminal
follows pair terminal = after_pair terminal
follows block terminal = after_block terminal
follows statement terminal = after_statement terminal
follows inner terminal = after_statement terminal
follows last terminal = after_statement terminal
follows separator terminal = after_statement terminal
follows opening terminal = after_statement terminal
follows otherwise terminal = after_statement terminal
follows run terminal = after_statement terminal
follows for_rest terminal = after_statement terminal
follows three terminal = after_statement terminal
follows for_tail terminal = after_statement terminal
follows for_first terminal = before_semicolon terminal
follows handler terminal = after_handler terminal
follows closing terminal = after_closing terminal
follows decl terminal = after_closing terminal
follows var terminal = after_var terminal
follows init terminal = after_var terminal
follows body terminal = after_statement terminal
follows expr terminal = after_expr terminal
follows expr_rest terminal = after_expr terminal
follows elvis terminal = after_elvis terminal
follows elvis_rest terminal = after_elvis terminal
follows unary terminal = after_unary terminal
follows step terminal = after_unary terminal
follows chain terminal = after_chain terminal
follows element terminal = after_element terminal
follows new_rest terminal = after_primary terminal
follows after_bracket terminal = after_primary terminal
follows array_rest terminal = after_primary terminal
follows size terminal = after_primary terminal
follows primary terminal = after_primary terminal
follows contents terminal = before_bracket terminal
follows more terminal = before_bracket terminal
follows entry terminal = after_item terminal
follows items terminal = before_brace terminal
follows item terminal = after_item terminal
follows postfix terminal = after_primary terminal
follows dot terminal = after_primary terminal
follows member terminal = after_primary terminal
follows args terminal = after_primary terminal
follows arguments terminal = before_paren terminal
follows arg terminal = after_arg terminal
follows ref_name terminal = after_arg terminal
follows params terminal = before_paren terminal
follows param terminal = after_param terminal
follows lambda_body terminal = after_arg terminal
follows (binary l) terminal = after_operand l terminal
follows (operation l) terminal = after_operation l terminal
follows (comma f) terminal = follows f terminal
