-- What a form begins with, and which production of it the tokens ahead tell.
use Rattle.std.specs.Prelude.{Bool, true, false, not, ◌||◌}
use Rattle.pl_grammar.specs.declared.terminal.Terminal.{Terminal}
use Rattle.pl_grammar.specs.declared.terminal.Terminal.TheVariants as t
use Rattle.pl_grammar.specs.declared.ahead.Seen.{Seen}
use Rattle.pl_grammar.specs.declared.ahead.Seen.TheVariants as s
use Rattle.pl_grammar.specs.Lexeme.{matches}
use Rattle.pl_grammar.specs.Ahead.{is_final}
use Rattle.pl_grammar.specs.Grammar.{Form, Production, after_bracket, arg, args, argued, arguments, array_rest, bare_param, binary, block, body, cast, cast_type, chain, closing, comma, contents, decl, declared, declares, dot, each_in, each_of, element, elvis, elvis_rest, entry, expr, expr_rest, expresses, for_first, for_rest, for_tail, formal, formals, function, functions, handler, init, inner, item, items, lambda, lambda_body, lambdas, last, member, more, new_rest, opening, operation, otherwise, pair, param, params, plain, postfix, primary, ref_name, reference, run, separator, sign_at, size, statement, statements, step, three, three_first, top, type, typed_param, unary, value, var}

abbrev pub begins_cast_type : Terminal → Bool
begins_cast_type t.Class = true
begins_cast_type t.Basic = true
begins_cast_type _ = false

abbrev pub begins_type : Terminal → Bool
begins_type t.Name = true
begins_type terminal = begins_cast_type terminal

abbrev pub begins_opening : Terminal → Bool
begins_opening t.If = true
begins_opening t.While = true
begins_opening t.For = true
begins_opening t.Try = true
begins_opening _ = false

abbrev pub begins_primary : Terminal → Bool
begins_primary t.Name = true
begins_primary t.Integer = true
begins_primary t.Text = true
begins_primary t.Constant = true
begins_primary t.LeftParen = true
begins_primary t.LeftBracket = true
begins_primary _ = false

abbrev pub begins_chain : Terminal → Bool
begins_chain t.Class = true
begins_chain t.Basic = true
begins_chain t.New = true
begins_chain terminal = begins_primary terminal

abbrev pub begins_expr : Terminal → Bool
begins_expr t.Additive = true
begins_expr t.Step = true
begins_expr t.Negation = true
begins_expr terminal = begins_chain terminal

abbrev pub begins_arg : Terminal → Bool
begins_arg t.This = true
begins_arg terminal = begins_expr terminal

abbrev pub begins_for_rest : Terminal → Bool
begins_for_rest t.Semicolon = true
begins_for_rest terminal = begins_expr terminal

abbrev pub begins_after_bracket : Terminal → Bool
begins_after_bracket t.RightBracket = true
begins_after_bracket terminal = begins_expr terminal

abbrev pub begins_contents : Terminal → Bool
begins_contents t.Colon = true
begins_contents terminal = begins_expr terminal

abbrev pub begins_lambda_body : Terminal → Bool
begins_lambda_body t.LeftBrace = true
begins_lambda_body terminal = begins_expr terminal

abbrev pub begins_closing : Terminal → Bool
begins_closing t.Do = true
begins_closing t.Jump = true
begins_closing t.Return = true
begins_closing t.Throw = true
begins_closing terminal = begins_expr terminal

abbrev pub begins_statement : Terminal → Bool
begins_statement t.If = true
begins_statement t.While = true
begins_statement t.For = true
begins_statement t.Try = true
begins_statement terminal = begins_closing terminal

abbrev pub begins_body : Terminal → Bool
begins_body t.LeftBrace = true
begins_body terminal = begins_statement terminal

abbrev pub begins_run : Terminal → Bool
begins_run t.Semicolon = true
begins_run terminal = begins_body terminal

abbrev pub begins_ref_name : Terminal → Bool
begins_ref_name t.New = true
begins_ref_name terminal = matches t.AnyWord terminal

abbrev pub first : Form → Terminal → Bool
first top terminal = begins_statement terminal
first function terminal = begins_type terminal
first formals terminal = begins_type terminal
first formal terminal = begins_type terminal
first type terminal = begins_type terminal
first cast_type terminal = begins_cast_type terminal
first pair t.LeftBracket = true
first pair _ = false
first block t.LeftBrace = true
first block _ = false
first statement terminal = begins_statement terminal
first inner terminal = begins_statement terminal
first last t.Semicolon = true
first last _ = false
first separator t.Semicolon = true
first separator _ = false
first opening terminal = begins_opening terminal
first otherwise t.Else = true
first otherwise _ = false
first run terminal = begins_run terminal
first for_rest terminal = begins_for_rest terminal
first three t.Semicolon = true
first three _ = false
first for_tail t.Semicolon = true
first for_tail _ = false
first for_first terminal = begins_expr terminal
first handler t.Catch = true
first handler _ = false
first closing terminal = begins_closing terminal
first decl terminal = begins_type terminal
first var t.Name = true
first var _ = false
first init t.Assign = true
first init _ = false
first body terminal = begins_body terminal
first expr terminal = begins_expr terminal
first expr_rest t.Question = true
first expr_rest t.Assign = true
first expr_rest t.CompoundAssign = true
first expr_rest _ = false
first elvis terminal = begins_expr terminal
first elvis_rest t.Elvis = true
first elvis_rest _ = false
first unary terminal = begins_expr terminal
first step t.Step = true
first step _ = false
first chain terminal = begins_chain terminal
first element terminal = begins_type terminal
first new_rest t.LeftParen = true
first new_rest t.LeftBracket = true
first new_rest _ = false
first after_bracket terminal = begins_after_bracket terminal
first array_rest t.LeftParen = true
first array_rest t.LeftBracket = true
first array_rest t.LeftBrace = true
first array_rest _ = false
first size t.LeftBracket = true
first size _ = false
first primary terminal = begins_primary terminal
first contents terminal = begins_contents terminal
first more t.Comma = true
first more t.Colon = true
first more _ = false
first entry terminal = begins_expr terminal
first items terminal = begins_expr terminal
first item terminal = begins_expr terminal
first postfix t.LeftBracket = true
first postfix t.Dot = true
first postfix _ = false
first dot t.Dot = true
first dot _ = false
first member t.DotName = true
first member t.DotInteger = true
first member _ = false
first args t.LeftParen = true
first args _ = false
first arguments terminal = begins_arg terminal
first arg terminal = begins_arg terminal
first ref_name terminal = begins_ref_name terminal
first params terminal = begins_type terminal
first param terminal = begins_type terminal
first lambda_body terminal = begins_lambda_body terminal
first (binary l) terminal = begins_expr terminal
first (operation l) terminal = matches (sign_at l) terminal
first (comma f) t.Comma = true
first (comma f) _ = false

-- the tokens before which an optional form may be left out
abbrev pub absent : Form → Terminal → Bool
-- a `;` only at the end of the script, and in a block before its `}`
absent last t.End = true
absent last _ = false
absent separator t.End = true
absent separator t.RightBrace = true
absent separator _ = false
absent f terminal = not (first f terminal)

-- ---- what is told by the tokens ahead

-- where the look ahead of a form begins; most need no more than their first token
abbrev pub scan : Form → Seen
scan top = s.Start
scan for_rest = s.Start
scan for_first = s.Start
scan closing = s.Start
scan arg = s.Start
scan param = s.Param
scan unary = s.CastStart
scan f = s.Other

-- a type and what only a declaration has after it
abbrev pub is_declared : Seen → Bool
is_declared s.WordPairs = true
is_declared s.WordPairsOpen = true
is_declared s.Typed = true
is_declared s.Declared = true
is_declared s.Function = true
is_declared s.Each = true
is_declared s.Array = true
is_declared s.Reference = true
is_declared _ = false

-- a parameter and what only a lambda has after it, or only a lambda and a reference
abbrev pub is_lambda : Seen → Bool
is_lambda s.Arrow = true
is_lambda s.WordPairs = true
is_lambda s.WordPairsOpen = true
is_lambda s.Typed = true
is_lambda s.Declared = true
is_lambda s.Function = true
is_lambda s.Each = true
is_lambda s.Array = true
is_lambda _ = false

abbrev pub is_reference : Seen → Bool
is_reference s.Reference = true
is_reference _ = false

abbrev pub is_listed : Seen → Bool
is_listed s.Listed = true
is_listed _ = false

abbrev pub is_function : Seen → Bool
is_function s.Function = true
is_function _ = false

abbrev pub is_each : Seen → Bool
is_each s.Each = true
is_each _ = false

abbrev pub is_in : Seen → Bool
is_in s.In = true
is_in _ = false

abbrev pub is_cast : Seen → Bool
is_cast s.Cast = true
is_cast _ = false

-- What may not be ahead of a production, besides what its symbols say: by the first token, and what is seen of all.
-- All that the language leaves out is here: what begins as a function is no statement, as a declaration no expression,
-- as a head over elements no other head, as a lambda or a reference no argument that is an expression, as a parameter
-- with a type none without, and as a cast no expression in brackets.
abbrev pub allowed : {f : Form} → Production f → Terminal → Seen → Bool
allowed statements t.Name seen = not (is_function seen)
allowed statements t.Basic seen = not (is_function seen)
allowed statements t.Class seen = not (is_function seen)
allowed three_first t.Name seen = not (is_each seen || is_in seen)
allowed three_first t.Basic seen = not (is_each seen)
allowed three_first t.Class seen = not (is_each seen)
allowed expresses t.Name seen = not (is_declared seen)
allowed expresses t.Basic seen = not (is_declared seen)
allowed expresses t.Class seen = not (is_declared seen)
allowed value t.Name seen = not (is_declared seen)
allowed value t.Basic seen = not (is_declared seen)
allowed value t.Class seen = not (is_declared seen)
allowed argued t.Name seen = not (is_lambda seen || is_reference seen)
allowed argued t.Basic seen = not (is_lambda seen || is_reference seen)
allowed argued t.Class seen = not (is_lambda seen || is_reference seen)
allowed argued t.LeftParen seen = not (is_listed seen)
allowed bare_param t.Name seen = not (is_declared seen)
allowed plain t.LeftParen seen = not (is_cast seen)
allowed _ terminal seen = true

-- no token tells yet
abbrev pub is_open : Seen → Bool
is_open seen = not (is_final seen)

-- the same, and that no other production of the form is told. Of a whole production that says no more
abbrev pub fits : {f : Form} → Production f → Terminal → Seen → Bool
fits functions terminal seen = is_function seen || is_open seen
fits each_of terminal seen = is_each seen || is_open seen
fits each_in terminal s.Start = true
fits each_in terminal s.Word = true
fits each_in terminal seen = is_in seen
fits declares terminal seen = is_declared seen || is_open seen
fits declared terminal seen = is_declared seen || is_open seen
fits lambda terminal seen = is_lambda seen || is_open seen
fits reference terminal s.Typed = false
fits reference terminal seen = is_reference seen || is_open seen
fits lambdas terminal seen = is_listed seen || is_open seen
fits typed_param t.Name seen = is_declared seen || is_open seen
fits cast terminal seen = is_cast seen || is_open seen
fits p terminal seen = allowed p terminal seen
