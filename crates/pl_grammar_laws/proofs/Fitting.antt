-- What is chosen fits what is ahead, seen by a look at every row.
use Rattle.std.proofs.Common.{◌≡◌, Bool, true, false, not, refl, ap}
use Rattle.pl_grammar.specs.declared.terminal.Terminal.{Terminal}
use Rattle.pl_grammar.specs.declared.terminal.Terminal.TheVariants as t
use Rattle.pl_grammar.specs.declared.level.Level.TheVariants as lv
use Rattle.pl_grammar.specs.declared.level.Level.{Level}
use Rattle.pl_grammar.specs.declared.level.Looser.TheVariants as lo
use Rattle.pl_grammar.specs.declared.ahead.Seen.{Seen}
use Rattle.pl_grammar.specs.declared.ahead.Seen.TheVariants as s
use Rattle.pl_grammar.specs.Lexeme.{same_terminal, matches}
use Rattle.pl_grammar.specs.Grammar.{Form, top, function, formals, formal, type, cast_type, pair, block, statement, inner, last, separator, opening, otherwise, run, for_rest, three, for_tail, for_first, handler, closing, decl, var, init, body, expr, expr_rest, elvis, elvis_rest, unary, step, chain, element, new_rest, after_bracket, array_rest, size, primary, contents, more, entry, items, item, postfix, dot, member, args, arguments, arg, ref_name, params, param, lambda_body, binary, operation, comma, each_in, reference, symbols, sign_at}
use Rattle.pl_grammar.specs.Firsts.{first, absent, fits, is_declared, is_lambda, is_reference, is_listed, is_function, is_each, is_in, is_cast}
use Rattle.pl_grammar.specs.Reading.{choice, top_by, rest_by, first_by, closing_by, argument_by, listed_by, param_by, cast_by}
use Rattle.pl_grammar_laws.proofs.Certificates.{heads, not_true}

top_Name : (seen : Seen) (b : Bool) → is_function seen ≡ b → fits (top_by b) t.Name seen ≡ true
top_Name seen true e = rw e refl
top_Name seen false e = rw e refl

top_Basic : (seen : Seen) (b : Bool) → is_function seen ≡ b → fits (top_by b) t.Basic seen ≡ true
top_Basic seen true e = rw e refl
top_Basic seen false e = rw e refl

top_Class : (seen : Seen) (b : Bool) → is_function seen ≡ b → fits (top_by b) t.Class seen ≡ true
top_Class seen true e = rw e refl
top_Class seen false e = rw e refl

pub in_fits : (terminal : Terminal) (seen : Seen) → is_in seen ≡ true → fits each_in terminal seen ≡ true
in_fits terminal s.In e = refl
in_fits terminal _ e = absurd cc

rest_Name : (seen : Seen) (a b : Bool) → is_each seen ≡ a → is_in seen ≡ b → fits (rest_by a b) t.Name seen ≡ true
rest_Name seen true b e f = rw e refl
rest_Name seen false true e f = in_fits t.Name seen f
rest_Name seen false false e f = rw (e, f) refl

rest_Basic : (seen : Seen) (a : Bool) → is_each seen ≡ a → fits (rest_by a false) t.Basic seen ≡ true
rest_Basic seen true e = rw e refl
rest_Basic seen false e = rw e refl

rest_Class : (seen : Seen) (a : Bool) → is_each seen ≡ a → fits (rest_by a false) t.Class seen ≡ true
rest_Class seen true e = rw e refl
rest_Class seen false e = rw e refl

first_Name : (seen : Seen) (b : Bool) → is_declared seen ≡ b → fits (first_by b) t.Name seen ≡ true
first_Name seen true e = rw e refl
first_Name seen false e = rw e refl

first_Basic : (seen : Seen) (b : Bool) → is_declared seen ≡ b → fits (first_by b) t.Basic seen ≡ true
first_Basic seen true e = rw e refl
first_Basic seen false e = rw e refl

first_Class : (seen : Seen) (b : Bool) → is_declared seen ≡ b → fits (first_by b) t.Class seen ≡ true
first_Class seen true e = rw e refl
first_Class seen false e = rw e refl

closing_Name : (seen : Seen) (b : Bool) → is_declared seen ≡ b → fits (closing_by b) t.Name seen ≡ true
closing_Name seen true e = rw e refl
closing_Name seen false e = rw e refl

closing_Basic : (seen : Seen) (b : Bool) → is_declared seen ≡ b → fits (closing_by b) t.Basic seen ≡ true
closing_Basic seen true e = rw e refl
closing_Basic seen false e = rw e refl

closing_Class : (seen : Seen) (b : Bool) → is_declared seen ≡ b → fits (closing_by b) t.Class seen ≡ true
closing_Class seen true e = rw e refl
closing_Class seen false e = rw e refl

pub reference_fits : (terminal : Terminal) (seen : Seen) → is_reference seen ≡ true → fits reference terminal seen ≡ true
reference_fits terminal s.Reference e = refl
reference_fits terminal _ e = absurd cc

arg_Name : (seen : Seen) (a b : Bool) → is_lambda seen ≡ a → is_reference seen ≡ b → fits (argument_by a b) t.Name seen ≡ true
arg_Name seen true b e f = rw e refl
arg_Name seen false true e f = reference_fits t.Name seen f
arg_Name seen false false e f = rw (e, f) refl

arg_Basic : (seen : Seen) (a b : Bool) → is_lambda seen ≡ a → is_reference seen ≡ b → fits (argument_by a b) t.Basic seen ≡ true
arg_Basic seen true b e f = rw e refl
arg_Basic seen false true e f = reference_fits t.Basic seen f
arg_Basic seen false false e f = rw (e, f) refl

arg_Class : (seen : Seen) (a b : Bool) → is_lambda seen ≡ a → is_reference seen ≡ b → fits (argument_by a b) t.Class seen ≡ true
arg_Class seen true b e f = rw e refl
arg_Class seen false true e f = reference_fits t.Class seen f
arg_Class seen false false e f = rw (e, f) refl

arg_LeftParen : (seen : Seen) (b : Bool) → is_listed seen ≡ b → fits (listed_by b) t.LeftParen seen ≡ true
arg_LeftParen seen true e = rw e refl
arg_LeftParen seen false e = rw e refl

param_Name : (seen : Seen) (b : Bool) → is_declared seen ≡ b → fits (param_by b) t.Name seen ≡ true
param_Name seen true e = rw e refl
param_Name seen false e = rw e refl

unary_LeftParen : (seen : Seen) (b : Bool) → is_cast seen ≡ b → fits (cast_by b) t.LeftParen seen ≡ true
unary_LeftParen seen true e = rw e refl
unary_LeftParen seen false e = rw e refl

pub chosen_fits : (f : Form) (terminal : Terminal) (seen : Seen) → fits (choice f terminal seen) terminal seen ≡ true
chosen_fits top t.Name seen = top_Name seen (is_function seen) refl
chosen_fits top t.Basic seen = top_Basic seen (is_function seen) refl
chosen_fits top t.Class seen = top_Class seen (is_function seen) refl
chosen_fits top _ seen = refl
chosen_fits function terminal seen = refl
chosen_fits formals terminal seen = refl
chosen_fits formal terminal seen = refl
chosen_fits type t.Name seen = refl
chosen_fits type _ seen = refl
chosen_fits cast_type terminal seen = refl
chosen_fits pair terminal seen = refl
chosen_fits block terminal seen = refl
chosen_fits statement t.If seen = refl
chosen_fits statement t.While seen = refl
chosen_fits statement t.For seen = refl
chosen_fits statement t.Try seen = refl
chosen_fits statement _ seen = refl
chosen_fits inner t.If seen = refl
chosen_fits inner t.While seen = refl
chosen_fits inner t.For seen = refl
chosen_fits inner t.Try seen = refl
chosen_fits inner _ seen = refl
chosen_fits last terminal seen = refl
chosen_fits separator terminal seen = refl
chosen_fits opening t.If seen = refl
chosen_fits opening t.While seen = refl
chosen_fits opening t.For seen = refl
chosen_fits opening _ seen = refl
chosen_fits otherwise terminal seen = refl
chosen_fits run t.Semicolon seen = refl
chosen_fits run _ seen = refl
chosen_fits for_rest t.Semicolon seen = refl
chosen_fits for_rest t.Name seen = rest_Name seen (is_each seen) (is_in seen) refl refl
chosen_fits for_rest t.Basic seen = rest_Basic seen (is_each seen) refl
chosen_fits for_rest t.Class seen = rest_Class seen (is_each seen) refl
chosen_fits for_rest _ seen = refl
chosen_fits three terminal seen = refl
chosen_fits for_tail terminal seen = refl
chosen_fits for_first t.Name seen = first_Name seen (is_declared seen) refl
chosen_fits for_first t.Basic seen = first_Basic seen (is_declared seen) refl
chosen_fits for_first t.Class seen = first_Class seen (is_declared seen) refl
chosen_fits for_first _ seen = refl
chosen_fits handler terminal seen = refl
chosen_fits closing t.Do seen = refl
chosen_fits closing t.Jump seen = refl
chosen_fits closing t.Return seen = refl
chosen_fits closing t.Throw seen = refl
chosen_fits closing t.Name seen = closing_Name seen (is_declared seen) refl
chosen_fits closing t.Basic seen = closing_Basic seen (is_declared seen) refl
chosen_fits closing t.Class seen = closing_Class seen (is_declared seen) refl
chosen_fits closing _ seen = refl
chosen_fits decl terminal seen = refl
chosen_fits var terminal seen = refl
chosen_fits init terminal seen = refl
chosen_fits body t.LeftBrace seen = refl
chosen_fits body _ seen = refl
chosen_fits expr terminal seen = refl
chosen_fits expr_rest t.Question seen = refl
chosen_fits expr_rest t.Assign seen = refl
chosen_fits expr_rest _ seen = refl
chosen_fits elvis terminal seen = refl
chosen_fits elvis_rest terminal seen = refl
chosen_fits unary t.LeftParen seen = unary_LeftParen seen (is_cast seen) refl
chosen_fits unary t.Step seen = refl
chosen_fits unary t.Additive seen = refl
chosen_fits unary t.Negation seen = refl
chosen_fits unary _ seen = refl
chosen_fits step terminal seen = refl
chosen_fits chain t.Class seen = refl
chosen_fits chain t.Basic seen = refl
chosen_fits chain t.New seen = refl
chosen_fits chain _ seen = refl
chosen_fits element t.Name seen = refl
chosen_fits element _ seen = refl
chosen_fits new_rest t.LeftBracket seen = refl
chosen_fits new_rest _ seen = refl
chosen_fits after_bracket t.RightBracket seen = refl
chosen_fits after_bracket _ seen = refl
chosen_fits array_rest t.LeftBrace seen = refl
chosen_fits array_rest t.LeftBracket seen = refl
chosen_fits array_rest _ seen = refl
chosen_fits size terminal seen = refl
chosen_fits primary t.LeftParen seen = refl
chosen_fits primary t.Integer seen = refl
chosen_fits primary t.Text seen = refl
chosen_fits primary t.Constant seen = refl
chosen_fits primary t.LeftBracket seen = refl
chosen_fits primary _ seen = refl
chosen_fits contents t.Colon seen = refl
chosen_fits contents _ seen = refl
chosen_fits more t.Comma seen = refl
chosen_fits more _ seen = refl
chosen_fits entry terminal seen = refl
chosen_fits items terminal seen = refl
chosen_fits item terminal seen = refl
chosen_fits postfix t.LeftBracket seen = refl
chosen_fits postfix _ seen = refl
chosen_fits dot terminal seen = refl
chosen_fits member t.DotName seen = refl
chosen_fits member _ seen = refl
chosen_fits args terminal seen = refl
chosen_fits arguments terminal seen = refl
chosen_fits arg t.Name seen = arg_Name seen (is_lambda seen) (is_reference seen) refl refl
chosen_fits arg t.Basic seen = arg_Basic seen (is_lambda seen) (is_reference seen) refl refl
chosen_fits arg t.Class seen = arg_Class seen (is_lambda seen) (is_reference seen) refl refl
chosen_fits arg t.LeftParen seen = arg_LeftParen seen (is_listed seen) refl
chosen_fits arg t.This seen = refl
chosen_fits arg _ seen = refl
chosen_fits ref_name t.New seen = refl
chosen_fits ref_name _ seen = refl
chosen_fits params terminal seen = refl
chosen_fits param t.Name seen = param_Name seen (is_declared seen) refl
chosen_fits param _ seen = refl
chosen_fits lambda_body t.LeftBrace seen = refl
chosen_fits lambda_body _ seen = refl
chosen_fits (binary lv.Product) terminal seen = refl
chosen_fits (binary lv.Instance) terminal seen = refl
chosen_fits (binary (lv.Looser l)) terminal seen = refl
chosen_fits (operation lv.Product) terminal seen = refl
chosen_fits (operation lv.Instance) terminal seen = refl
chosen_fits (operation (lv.Looser l)) terminal seen = refl
chosen_fits (comma f) terminal seen = refl

top_heads_Name : (b : Bool) → heads (symbols (top_by b)) t.Name ≡ true
unfolding same_terminal
top_heads_Name true = refl
top_heads_Name false = refl

top_heads_Basic : (b : Bool) → heads (symbols (top_by b)) t.Basic ≡ true
unfolding same_terminal
top_heads_Basic true = refl
top_heads_Basic false = refl

top_heads_Class : (b : Bool) → heads (symbols (top_by b)) t.Class ≡ true
unfolding same_terminal
top_heads_Class true = refl
top_heads_Class false = refl

rest_heads_Name : (a b : Bool) → heads (symbols (rest_by a b)) t.Name ≡ true
unfolding same_terminal
rest_heads_Name true b = refl
rest_heads_Name false true = refl
rest_heads_Name false false = refl

rest_heads_Basic : (b : Bool) → heads (symbols (rest_by b false)) t.Basic ≡ true
rest_heads_Basic true = refl
rest_heads_Basic false = refl

rest_heads_Class : (b : Bool) → heads (symbols (rest_by b false)) t.Class ≡ true
rest_heads_Class true = refl
rest_heads_Class false = refl

first_heads_Name : (b : Bool) → heads (symbols (first_by b)) t.Name ≡ true
unfolding same_terminal
first_heads_Name true = refl
first_heads_Name false = refl

first_heads_Basic : (b : Bool) → heads (symbols (first_by b)) t.Basic ≡ true
unfolding same_terminal
first_heads_Basic true = refl
first_heads_Basic false = refl

first_heads_Class : (b : Bool) → heads (symbols (first_by b)) t.Class ≡ true
unfolding same_terminal
first_heads_Class true = refl
first_heads_Class false = refl

closing_heads_Name : (b : Bool) → heads (symbols (closing_by b)) t.Name ≡ true
unfolding same_terminal
closing_heads_Name true = refl
closing_heads_Name false = refl

closing_heads_Basic : (b : Bool) → heads (symbols (closing_by b)) t.Basic ≡ true
unfolding same_terminal
closing_heads_Basic true = refl
closing_heads_Basic false = refl

closing_heads_Class : (b : Bool) → heads (symbols (closing_by b)) t.Class ≡ true
unfolding same_terminal
closing_heads_Class true = refl
closing_heads_Class false = refl

arg_heads_Name : (a b : Bool) → heads (symbols (argument_by a b)) t.Name ≡ true
unfolding same_terminal
arg_heads_Name true b = refl
arg_heads_Name false true = refl
arg_heads_Name false false = refl

arg_heads_Basic : (a b : Bool) → heads (symbols (argument_by a b)) t.Basic ≡ true
unfolding same_terminal
arg_heads_Basic true b = refl
arg_heads_Basic false true = refl
arg_heads_Basic false false = refl

arg_heads_Class : (a b : Bool) → heads (symbols (argument_by a b)) t.Class ≡ true
unfolding same_terminal
arg_heads_Class true b = refl
arg_heads_Class false true = refl
arg_heads_Class false false = refl

arg_heads_LeftParen : (b : Bool) → heads (symbols (listed_by b)) t.LeftParen ≡ true
unfolding same_terminal
arg_heads_LeftParen true = refl
arg_heads_LeftParen false = refl

param_heads_Name : (b : Bool) → heads (symbols (param_by b)) t.Name ≡ true
unfolding same_terminal
param_heads_Name true = refl
param_heads_Name false = refl

unary_heads_LeftParen : (b : Bool) → heads (symbols (cast_by b)) t.LeftParen ≡ true
unfolding same_terminal
unary_heads_LeftParen true = refl
unary_heads_LeftParen false = refl

sign_ends : (l : Level) → matches (sign_at l) t.End ≡ false
unfolding same_terminal
sign_ends lv.Product = refl
sign_ends lv.Instance = refl
sign_ends (lv.Looser lo.Sum) = refl
sign_ends (lv.Looser _) = refl

pub chosen_heads : (f : Form) (terminal : Terminal) (seen : Seen) → first f terminal ≡ true → heads (symbols (choice f terminal seen)) terminal ≡ true
unfolding same_terminal
chosen_heads top t.Name seen e = top_heads_Name (is_function seen)
chosen_heads top t.Integer seen e = refl
chosen_heads top t.Text seen e = refl
chosen_heads top t.Class seen e = top_heads_Class (is_function seen)
chosen_heads top t.Basic seen e = top_heads_Basic (is_function seen)
chosen_heads top t.If seen e = refl
chosen_heads top t.While seen e = refl
chosen_heads top t.Do seen e = refl
chosen_heads top t.For seen e = refl
chosen_heads top t.Jump seen e = refl
chosen_heads top t.Return seen e = refl
chosen_heads top t.New seen e = refl
chosen_heads top t.Try seen e = refl
chosen_heads top t.Throw seen e = refl
chosen_heads top t.Constant seen e = refl
chosen_heads top t.LeftParen seen e = refl
chosen_heads top t.LeftBracket seen e = refl
chosen_heads top t.Additive seen e = refl
chosen_heads top t.Step seen e = refl
chosen_heads top t.Negation seen e = refl
chosen_heads top _ seen e = absurd cc
chosen_heads function terminal seen e = e
chosen_heads formals terminal seen e = e
chosen_heads formal terminal seen e = e
chosen_heads type t.Name seen e = refl
chosen_heads type t.Class seen e = refl
chosen_heads type t.Basic seen e = refl
chosen_heads type _ seen e = absurd cc
chosen_heads cast_type t.Class seen e = refl
chosen_heads cast_type t.Basic seen e = refl
chosen_heads cast_type _ seen e = absurd cc
chosen_heads pair t.LeftBracket seen e = refl
chosen_heads pair _ seen e = absurd cc
chosen_heads block t.LeftBrace seen e = refl
chosen_heads block _ seen e = absurd cc
chosen_heads statement t.Name seen e = refl
chosen_heads statement t.Integer seen e = refl
chosen_heads statement t.Text seen e = refl
chosen_heads statement t.Class seen e = refl
chosen_heads statement t.Basic seen e = refl
chosen_heads statement t.If seen e = refl
chosen_heads statement t.While seen e = refl
chosen_heads statement t.Do seen e = refl
chosen_heads statement t.For seen e = refl
chosen_heads statement t.Jump seen e = refl
chosen_heads statement t.Return seen e = refl
chosen_heads statement t.New seen e = refl
chosen_heads statement t.Try seen e = refl
chosen_heads statement t.Throw seen e = refl
chosen_heads statement t.Constant seen e = refl
chosen_heads statement t.LeftParen seen e = refl
chosen_heads statement t.LeftBracket seen e = refl
chosen_heads statement t.Additive seen e = refl
chosen_heads statement t.Step seen e = refl
chosen_heads statement t.Negation seen e = refl
chosen_heads statement _ seen e = absurd cc
chosen_heads inner t.Name seen e = refl
chosen_heads inner t.Integer seen e = refl
chosen_heads inner t.Text seen e = refl
chosen_heads inner t.Class seen e = refl
chosen_heads inner t.Basic seen e = refl
chosen_heads inner t.If seen e = refl
chosen_heads inner t.While seen e = refl
chosen_heads inner t.Do seen e = refl
chosen_heads inner t.For seen e = refl
chosen_heads inner t.Jump seen e = refl
chosen_heads inner t.Return seen e = refl
chosen_heads inner t.New seen e = refl
chosen_heads inner t.Try seen e = refl
chosen_heads inner t.Throw seen e = refl
chosen_heads inner t.Constant seen e = refl
chosen_heads inner t.LeftParen seen e = refl
chosen_heads inner t.LeftBracket seen e = refl
chosen_heads inner t.Additive seen e = refl
chosen_heads inner t.Step seen e = refl
chosen_heads inner t.Negation seen e = refl
chosen_heads inner _ seen e = absurd cc
chosen_heads last t.Semicolon seen e = refl
chosen_heads last _ seen e = absurd cc
chosen_heads separator t.Semicolon seen e = refl
chosen_heads separator _ seen e = absurd cc
chosen_heads opening t.If seen e = refl
chosen_heads opening t.While seen e = refl
chosen_heads opening t.For seen e = refl
chosen_heads opening t.Try seen e = refl
chosen_heads opening _ seen e = absurd cc
chosen_heads otherwise t.Else seen e = refl
chosen_heads otherwise _ seen e = absurd cc
chosen_heads run t.Name seen e = refl
chosen_heads run t.Integer seen e = refl
chosen_heads run t.Text seen e = refl
chosen_heads run t.Class seen e = refl
chosen_heads run t.Basic seen e = refl
chosen_heads run t.If seen e = refl
chosen_heads run t.While seen e = refl
chosen_heads run t.Do seen e = refl
chosen_heads run t.For seen e = refl
chosen_heads run t.Jump seen e = refl
chosen_heads run t.Return seen e = refl
chosen_heads run t.New seen e = refl
chosen_heads run t.Try seen e = refl
chosen_heads run t.Throw seen e = refl
chosen_heads run t.Constant seen e = refl
chosen_heads run t.LeftParen seen e = refl
chosen_heads run t.LeftBracket seen e = refl
chosen_heads run t.LeftBrace seen e = refl
chosen_heads run t.Semicolon seen e = refl
chosen_heads run t.Additive seen e = refl
chosen_heads run t.Step seen e = refl
chosen_heads run t.Negation seen e = refl
chosen_heads run _ seen e = absurd cc
chosen_heads for_rest t.Name seen e = rest_heads_Name (is_each seen) (is_in seen)
chosen_heads for_rest t.Integer seen e = refl
chosen_heads for_rest t.Text seen e = refl
chosen_heads for_rest t.Class seen e = rest_heads_Class (is_each seen)
chosen_heads for_rest t.Basic seen e = rest_heads_Basic (is_each seen)
chosen_heads for_rest t.New seen e = refl
chosen_heads for_rest t.Constant seen e = refl
chosen_heads for_rest t.LeftParen seen e = refl
chosen_heads for_rest t.LeftBracket seen e = refl
chosen_heads for_rest t.Semicolon seen e = refl
chosen_heads for_rest t.Additive seen e = refl
chosen_heads for_rest t.Step seen e = refl
chosen_heads for_rest t.Negation seen e = refl
chosen_heads for_rest _ seen e = absurd cc
chosen_heads three t.Semicolon seen e = refl
chosen_heads three _ seen e = absurd cc
chosen_heads for_tail t.Semicolon seen e = refl
chosen_heads for_tail _ seen e = absurd cc
chosen_heads for_first t.Name seen e = first_heads_Name (is_declared seen)
chosen_heads for_first t.Integer seen e = refl
chosen_heads for_first t.Text seen e = refl
chosen_heads for_first t.Class seen e = first_heads_Class (is_declared seen)
chosen_heads for_first t.Basic seen e = first_heads_Basic (is_declared seen)
chosen_heads for_first t.New seen e = refl
chosen_heads for_first t.Constant seen e = refl
chosen_heads for_first t.LeftParen seen e = refl
chosen_heads for_first t.LeftBracket seen e = refl
chosen_heads for_first t.Additive seen e = refl
chosen_heads for_first t.Step seen e = refl
chosen_heads for_first t.Negation seen e = refl
chosen_heads for_first _ seen e = absurd cc
chosen_heads handler t.Catch seen e = refl
chosen_heads handler _ seen e = absurd cc
chosen_heads closing t.Name seen e = closing_heads_Name (is_declared seen)
chosen_heads closing t.Integer seen e = refl
chosen_heads closing t.Text seen e = refl
chosen_heads closing t.Class seen e = closing_heads_Class (is_declared seen)
chosen_heads closing t.Basic seen e = closing_heads_Basic (is_declared seen)
chosen_heads closing t.Do seen e = refl
chosen_heads closing t.Jump seen e = refl
chosen_heads closing t.Return seen e = refl
chosen_heads closing t.New seen e = refl
chosen_heads closing t.Throw seen e = refl
chosen_heads closing t.Constant seen e = refl
chosen_heads closing t.LeftParen seen e = refl
chosen_heads closing t.LeftBracket seen e = refl
chosen_heads closing t.Additive seen e = refl
chosen_heads closing t.Step seen e = refl
chosen_heads closing t.Negation seen e = refl
chosen_heads closing _ seen e = absurd cc
chosen_heads decl terminal seen e = e
chosen_heads var t.Name seen e = refl
chosen_heads var _ seen e = absurd cc
chosen_heads init t.Assign seen e = refl
chosen_heads init _ seen e = absurd cc
chosen_heads body t.Name seen e = refl
chosen_heads body t.Integer seen e = refl
chosen_heads body t.Text seen e = refl
chosen_heads body t.Class seen e = refl
chosen_heads body t.Basic seen e = refl
chosen_heads body t.If seen e = refl
chosen_heads body t.While seen e = refl
chosen_heads body t.Do seen e = refl
chosen_heads body t.For seen e = refl
chosen_heads body t.Jump seen e = refl
chosen_heads body t.Return seen e = refl
chosen_heads body t.New seen e = refl
chosen_heads body t.Try seen e = refl
chosen_heads body t.Throw seen e = refl
chosen_heads body t.Constant seen e = refl
chosen_heads body t.LeftParen seen e = refl
chosen_heads body t.LeftBracket seen e = refl
chosen_heads body t.LeftBrace seen e = refl
chosen_heads body t.Additive seen e = refl
chosen_heads body t.Step seen e = refl
chosen_heads body t.Negation seen e = refl
chosen_heads body _ seen e = absurd cc
chosen_heads expr terminal seen e = e
chosen_heads expr_rest t.Question seen e = refl
chosen_heads expr_rest t.Assign seen e = refl
chosen_heads expr_rest t.CompoundAssign seen e = refl
chosen_heads expr_rest _ seen e = absurd cc
chosen_heads elvis terminal seen e = e
chosen_heads elvis_rest t.Elvis seen e = refl
chosen_heads elvis_rest _ seen e = absurd cc
chosen_heads unary t.Name seen e = refl
chosen_heads unary t.Integer seen e = refl
chosen_heads unary t.Text seen e = refl
chosen_heads unary t.Class seen e = refl
chosen_heads unary t.Basic seen e = refl
chosen_heads unary t.New seen e = refl
chosen_heads unary t.Constant seen e = refl
chosen_heads unary t.LeftParen seen e = unary_heads_LeftParen (is_cast seen)
chosen_heads unary t.LeftBracket seen e = refl
chosen_heads unary t.Additive seen e = refl
chosen_heads unary t.Step seen e = refl
chosen_heads unary t.Negation seen e = refl
chosen_heads unary _ seen e = absurd cc
chosen_heads step t.Step seen e = refl
chosen_heads step _ seen e = absurd cc
chosen_heads chain t.Name seen e = refl
chosen_heads chain t.Integer seen e = refl
chosen_heads chain t.Text seen e = refl
chosen_heads chain t.Class seen e = refl
chosen_heads chain t.Basic seen e = refl
chosen_heads chain t.New seen e = refl
chosen_heads chain t.Constant seen e = refl
chosen_heads chain t.LeftParen seen e = refl
chosen_heads chain t.LeftBracket seen e = refl
chosen_heads chain _ seen e = absurd cc
chosen_heads element t.Name seen e = refl
chosen_heads element t.Class seen e = refl
chosen_heads element t.Basic seen e = refl
chosen_heads element _ seen e = absurd cc
chosen_heads new_rest t.LeftParen seen e = refl
chosen_heads new_rest t.LeftBracket seen e = refl
chosen_heads new_rest _ seen e = absurd cc
chosen_heads after_bracket t.Name seen e = refl
chosen_heads after_bracket t.Integer seen e = refl
chosen_heads after_bracket t.Text seen e = refl
chosen_heads after_bracket t.Class seen e = refl
chosen_heads after_bracket t.Basic seen e = refl
chosen_heads after_bracket t.New seen e = refl
chosen_heads after_bracket t.Constant seen e = refl
chosen_heads after_bracket t.LeftParen seen e = refl
chosen_heads after_bracket t.LeftBracket seen e = refl
chosen_heads after_bracket t.RightBracket seen e = refl
chosen_heads after_bracket t.Additive seen e = refl
chosen_heads after_bracket t.Step seen e = refl
chosen_heads after_bracket t.Negation seen e = refl
chosen_heads after_bracket _ seen e = absurd cc
chosen_heads array_rest t.LeftParen seen e = refl
chosen_heads array_rest t.LeftBracket seen e = refl
chosen_heads array_rest t.LeftBrace seen e = refl
chosen_heads array_rest _ seen e = absurd cc
chosen_heads size t.LeftBracket seen e = refl
chosen_heads size _ seen e = absurd cc
chosen_heads primary t.Name seen e = refl
chosen_heads primary t.Integer seen e = refl
chosen_heads primary t.Text seen e = refl
chosen_heads primary t.Constant seen e = refl
chosen_heads primary t.LeftParen seen e = refl
chosen_heads primary t.LeftBracket seen e = refl
chosen_heads primary _ seen e = absurd cc
chosen_heads contents t.Name seen e = refl
chosen_heads contents t.Integer seen e = refl
chosen_heads contents t.Text seen e = refl
chosen_heads contents t.Class seen e = refl
chosen_heads contents t.Basic seen e = refl
chosen_heads contents t.New seen e = refl
chosen_heads contents t.Constant seen e = refl
chosen_heads contents t.LeftParen seen e = refl
chosen_heads contents t.LeftBracket seen e = refl
chosen_heads contents t.Colon seen e = refl
chosen_heads contents t.Additive seen e = refl
chosen_heads contents t.Step seen e = refl
chosen_heads contents t.Negation seen e = refl
chosen_heads contents _ seen e = absurd cc
chosen_heads more t.Comma seen e = refl
chosen_heads more t.Colon seen e = refl
chosen_heads more _ seen e = absurd cc
chosen_heads entry terminal seen e = e
chosen_heads items terminal seen e = e
chosen_heads item terminal seen e = e
chosen_heads postfix t.LeftBracket seen e = refl
chosen_heads postfix t.Dot seen e = refl
chosen_heads postfix _ seen e = absurd cc
chosen_heads dot t.Dot seen e = refl
chosen_heads dot _ seen e = absurd cc
chosen_heads member t.DotName seen e = refl
chosen_heads member t.DotInteger seen e = refl
chosen_heads member _ seen e = absurd cc
chosen_heads args t.LeftParen seen e = refl
chosen_heads args _ seen e = absurd cc
chosen_heads arguments terminal seen e = e
chosen_heads arg t.Name seen e = arg_heads_Name (is_lambda seen) (is_reference seen)
chosen_heads arg t.Integer seen e = refl
chosen_heads arg t.Text seen e = refl
chosen_heads arg t.Class seen e = arg_heads_Class (is_lambda seen) (is_reference seen)
chosen_heads arg t.Basic seen e = arg_heads_Basic (is_lambda seen) (is_reference seen)
chosen_heads arg t.New seen e = refl
chosen_heads arg t.This seen e = refl
chosen_heads arg t.Constant seen e = refl
chosen_heads arg t.LeftParen seen e = arg_heads_LeftParen (is_listed seen)
chosen_heads arg t.LeftBracket seen e = refl
chosen_heads arg t.Additive seen e = refl
chosen_heads arg t.Step seen e = refl
chosen_heads arg t.Negation seen e = refl
chosen_heads arg _ seen e = absurd cc
chosen_heads ref_name t.Name seen e = refl
chosen_heads ref_name t.DotName seen e = refl
chosen_heads ref_name t.Basic seen e = refl
chosen_heads ref_name t.If seen e = refl
chosen_heads ref_name t.Else seen e = refl
chosen_heads ref_name t.While seen e = refl
chosen_heads ref_name t.Do seen e = refl
chosen_heads ref_name t.For seen e = refl
chosen_heads ref_name t.In seen e = refl
chosen_heads ref_name t.Jump seen e = refl
chosen_heads ref_name t.Return seen e = refl
chosen_heads ref_name t.New seen e = refl
chosen_heads ref_name t.Try seen e = refl
chosen_heads ref_name t.Catch seen e = refl
chosen_heads ref_name t.Throw seen e = refl
chosen_heads ref_name t.This seen e = refl
chosen_heads ref_name t.Instanceof seen e = refl
chosen_heads ref_name t.Constant seen e = refl
chosen_heads ref_name _ seen e = absurd cc
chosen_heads params terminal seen e = e
chosen_heads param t.Name seen e = param_heads_Name (is_declared seen)
chosen_heads param t.Class seen e = refl
chosen_heads param t.Basic seen e = refl
chosen_heads param _ seen e = absurd cc
chosen_heads lambda_body t.Name seen e = refl
chosen_heads lambda_body t.Integer seen e = refl
chosen_heads lambda_body t.Text seen e = refl
chosen_heads lambda_body t.Class seen e = refl
chosen_heads lambda_body t.Basic seen e = refl
chosen_heads lambda_body t.New seen e = refl
chosen_heads lambda_body t.Constant seen e = refl
chosen_heads lambda_body t.LeftParen seen e = refl
chosen_heads lambda_body t.LeftBracket seen e = refl
chosen_heads lambda_body t.LeftBrace seen e = refl
chosen_heads lambda_body t.Additive seen e = refl
chosen_heads lambda_body t.Step seen e = refl
chosen_heads lambda_body t.Negation seen e = refl
chosen_heads lambda_body _ seen e = absurd cc
chosen_heads (binary lv.Product) terminal seen e = e
chosen_heads (binary lv.Instance) terminal seen e = e
chosen_heads (binary (lv.Looser l)) terminal seen e = e
chosen_heads (operation lv.Product) terminal seen e = e
chosen_heads (operation lv.Instance) terminal seen e = e
chosen_heads (operation (lv.Looser l)) terminal seen e = e
chosen_heads (comma f) t.Comma seen e = refl
chosen_heads (comma f) _ seen e = absurd cc

pub end_begins : (f : Form) → first f t.End ≡ false
unfolding same_terminal
end_begins (binary l) = refl
end_begins (operation l) = sign_ends l
end_begins (comma f) = refl
end_begins top = refl
end_begins _ = refl

pub absent_begins : (f : Form) (terminal : Terminal) → absent f terminal ≡ true → first f terminal ≡ false
absent_begins last t.End e = refl
absent_begins last _ e = absurd cc
absent_begins separator t.End e = refl
absent_begins separator t.RightBrace e = refl
absent_begins separator _ e = absurd cc
absent_begins top terminal e = not_true (first top terminal) e
absent_begins function terminal e = not_true (first function terminal) e
absent_begins formals terminal e = not_true (first formals terminal) e
absent_begins formal terminal e = not_true (first formal terminal) e
absent_begins type terminal e = not_true (first type terminal) e
absent_begins cast_type terminal e = not_true (first cast_type terminal) e
absent_begins pair terminal e = not_true (first pair terminal) e
absent_begins block terminal e = not_true (first block terminal) e
absent_begins statement terminal e = not_true (first statement terminal) e
absent_begins inner terminal e = not_true (first inner terminal) e
absent_begins opening terminal e = not_true (first opening terminal) e
absent_begins otherwise terminal e = not_true (first otherwise terminal) e
absent_begins run terminal e = not_true (first run terminal) e
absent_begins for_rest terminal e = not_true (first for_rest terminal) e
absent_begins three terminal e = not_true (first three terminal) e
absent_begins for_tail terminal e = not_true (first for_tail terminal) e
absent_begins for_first terminal e = not_true (first for_first terminal) e
absent_begins handler terminal e = not_true (first handler terminal) e
absent_begins closing terminal e = not_true (first closing terminal) e
absent_begins decl terminal e = not_true (first decl terminal) e
absent_begins var terminal e = not_true (first var terminal) e
absent_begins init terminal e = not_true (first init terminal) e
absent_begins body terminal e = not_true (first body terminal) e
absent_begins expr terminal e = not_true (first expr terminal) e
absent_begins expr_rest terminal e = not_true (first expr_rest terminal) e
absent_begins elvis terminal e = not_true (first elvis terminal) e
absent_begins elvis_rest terminal e = not_true (first elvis_rest terminal) e
absent_begins unary terminal e = not_true (first unary terminal) e
absent_begins step terminal e = not_true (first step terminal) e
absent_begins chain terminal e = not_true (first chain terminal) e
absent_begins element terminal e = not_true (first element terminal) e
absent_begins new_rest terminal e = not_true (first new_rest terminal) e
absent_begins after_bracket terminal e = not_true (first after_bracket terminal) e
absent_begins array_rest terminal e = not_true (first array_rest terminal) e
absent_begins size terminal e = not_true (first size terminal) e
absent_begins primary terminal e = not_true (first primary terminal) e
absent_begins contents terminal e = not_true (first contents terminal) e
absent_begins more terminal e = not_true (first more terminal) e
absent_begins entry terminal e = not_true (first entry terminal) e
absent_begins items terminal e = not_true (first items terminal) e
absent_begins item terminal e = not_true (first item terminal) e
absent_begins postfix terminal e = not_true (first postfix terminal) e
absent_begins dot terminal e = not_true (first dot terminal) e
absent_begins member terminal e = not_true (first member terminal) e
absent_begins args terminal e = not_true (first args terminal) e
absent_begins arguments terminal e = not_true (first arguments terminal) e
absent_begins arg terminal e = not_true (first arg terminal) e
absent_begins ref_name terminal e = not_true (first ref_name terminal) e
absent_begins params terminal e = not_true (first params terminal) e
absent_begins param terminal e = not_true (first param terminal) e
absent_begins lambda_body terminal e = not_true (first lambda_body terminal) e
absent_begins (binary l) terminal e = not_true (first (binary l) terminal) e
absent_begins (operation l) terminal e = not_true (first (operation l) terminal) e
absent_begins (comma f) terminal e = not_true (first (comma f) terminal) e

pub end_absent : (f : Form) → absent f t.End ≡ true
end_absent last = refl
end_absent separator = refl
end_absent top = ap not (end_begins top)
end_absent function = ap not (end_begins function)
end_absent formals = ap not (end_begins formals)
end_absent formal = ap not (end_begins formal)
end_absent type = ap not (end_begins type)
end_absent cast_type = ap not (end_begins cast_type)
end_absent pair = ap not (end_begins pair)
end_absent block = ap not (end_begins block)
end_absent statement = ap not (end_begins statement)
end_absent inner = ap not (end_begins inner)
end_absent opening = ap not (end_begins opening)
end_absent otherwise = ap not (end_begins otherwise)
end_absent run = ap not (end_begins run)
end_absent for_rest = ap not (end_begins for_rest)
end_absent three = ap not (end_begins three)
end_absent for_tail = ap not (end_begins for_tail)
end_absent for_first = ap not (end_begins for_first)
end_absent handler = ap not (end_begins handler)
end_absent closing = ap not (end_begins closing)
end_absent decl = ap not (end_begins decl)
end_absent var = ap not (end_begins var)
end_absent init = ap not (end_begins init)
end_absent body = ap not (end_begins body)
end_absent expr = ap not (end_begins expr)
end_absent expr_rest = ap not (end_begins expr_rest)
end_absent elvis = ap not (end_begins elvis)
end_absent elvis_rest = ap not (end_begins elvis_rest)
end_absent unary = ap not (end_begins unary)
end_absent step = ap not (end_begins step)
end_absent chain = ap not (end_begins chain)
end_absent element = ap not (end_begins element)
end_absent new_rest = ap not (end_begins new_rest)
end_absent after_bracket = ap not (end_begins after_bracket)
end_absent array_rest = ap not (end_begins array_rest)
end_absent size = ap not (end_begins size)
end_absent primary = ap not (end_begins primary)
end_absent contents = ap not (end_begins contents)
end_absent more = ap not (end_begins more)
end_absent entry = ap not (end_begins entry)
end_absent items = ap not (end_begins items)
end_absent item = ap not (end_begins item)
end_absent postfix = ap not (end_begins postfix)
end_absent dot = ap not (end_begins dot)
end_absent member = ap not (end_begins member)
end_absent args = ap not (end_begins args)
end_absent arguments = ap not (end_begins arguments)
end_absent arg = ap not (end_begins arg)
end_absent ref_name = ap not (end_begins ref_name)
end_absent params = ap not (end_begins params)
end_absent param = ap not (end_begins param)
end_absent lambda_body = ap not (end_begins lambda_body)
end_absent (binary l) = ap not (end_begins (binary l))
end_absent (operation l) = ap not (end_begins (operation l))
end_absent (comma f) = ap not (end_begins (comma f))
