-- What productions begin with, and what is chosen by it: facts of the rows of the grammar, each seen by a look at every row.
use Rattle.std.proofs.Common.{◌≡◌, Bool, true, false, not, ◌||◌, List, ◌∷◌, refl, sym, subst, rules}
use denote.Enum.Bare.{same_true}
use Rattle.pl_grammar.specs.contracts.terminal.Terminal.{the_type}
use Rattle.pl_grammar.specs.declared.terminal.Terminal.{Terminal}
use Rattle.pl_grammar.specs.declared.terminal.Terminal.TheVariants as t
use Rattle.pl_grammar.specs.declared.ahead.Seen.{Seen}
use Rattle.pl_grammar.specs.declared.ahead.Seen.TheVariants as s
use Rattle.pl_grammar.specs.Lexeme.{same_terminal, matches}
use Rattle.pl_grammar.specs.Grammar.{Form, top, type, cast_type, statement, inner, run, for_rest, for_first, closing, body, unary, chain, element, new_rest, after_bracket, array_rest, contents, more, postfix, arg, ref_name, param, lambda_body, Symbol, token, phrase, Production, functions, statements, function_of, formal_list, formal_of, name_type, known_type, cast_type_of, square, braces, opens, closes, inner_opens, inner_closes, last_semicolon, semicolon, conditional, looped, for_loop, tried, alternative, runs, idle, three_empty, three_first, each_of, each_in, three_parts, tail_parts, declares, expresses, catches, do_loop, declared, jump, returned, thrown, value, declaration, variable, assigned, block_body, statement_body, expression, conditional_rest, assign_rest, compound_rest, elvises, elvis_of, prefix, signed, negated, cast, plain, step_token, suffixed, typed, created, name_element, known_element, new_object, new_array, empty_bracket, first_size, array_items, array_object, array_deeper, size_of, bracketed, integer, string, constant, collection, named, no_entries, filled, more_items, more_entries, entry_of, items_of, item_of, access, index, dot_of, named_member, numbered, args_of, arguments_of, argued, lambda, lambdas, reference, this_reference, ref_word, ref_new, params_of, typed_param, bare_param, block_lambda, expr_lambda, products, tests, joins, times, test, further, after_comma, symbols}
use Rattle.pl_grammar.specs.Firsts.{first, fits, is_declared, is_lambda, is_reference, is_listed, is_function, is_each, is_in, is_cast}
use Rattle.pl_grammar.specs.Reading.{choice}

pub same_is : (a b : Terminal) → same_terminal a b ≡ true → a ≡ b
unfolding same_terminal
same_is a b e = same_true the_type (search rules) a b e

pub same_refl : (a : Terminal) → same_terminal a a ≡ true
unfolding same_terminal
same_refl t.Integer = refl
same_refl _ = refl

-- the tokens that a production begins with, where that is a token or a phrase
abbrev pub heads : List Symbol → Terminal → Bool
heads (token take w ∷ ss) terminal = matches w terminal
heads (phrase f ∷ ss) terminal = first f terminal
heads _ terminal = false

abbrev pub is_led : List Symbol → Bool
is_led (token take w ∷ ss) = true
is_led (phrase f ∷ ss) = true
is_led _ = false

pub led : {f : Form} (p : Production f) → is_led (symbols p) ≡ true
led functions = refl
led _ = refl

pub not_true : (b : Bool) → not b ≡ true → b ≡ false
not_true true e = absurd cc
not_true false e = refl

or_left : (a b : Bool) → not (a || b) ≡ true → a ≡ false
or_left true b e = absurd cc
or_left false b e = refl

or_right : (a b : Bool) → not (a || b) ≡ true → b ≡ false
or_right true b e = absurd cc
or_right false true e = absurd cc
or_right false false e = refl

functions_begins : (terminal : Terminal) → heads (symbols functions) terminal ≡ true → first top terminal ≡ true
functions_begins t.Name e = refl
functions_begins t.Class e = refl
functions_begins t.Basic e = refl
functions_begins _ e = absurd cc

known_type_begins : (terminal : Terminal) → heads (symbols known_type) terminal ≡ true → first type terminal ≡ true
known_type_begins t.Class e = refl
known_type_begins t.Basic e = refl
known_type_begins _ e = absurd cc

cast_type_of_begins : (terminal : Terminal) → heads (symbols cast_type_of) terminal ≡ true → first cast_type terminal ≡ true
cast_type_of_begins t.Basic e = refl
cast_type_of_begins t.Class e = refl
cast_type_of_begins _ e = absurd cc

opens_begins : (terminal : Terminal) → heads (symbols opens) terminal ≡ true → first statement terminal ≡ true
opens_begins t.If e = refl
opens_begins t.While e = refl
opens_begins t.For e = refl
opens_begins t.Try e = refl
opens_begins _ e = absurd cc

closes_begins : (terminal : Terminal) → heads (symbols closes) terminal ≡ true → first statement terminal ≡ true
closes_begins t.Name e = refl
closes_begins t.Integer e = refl
closes_begins t.Text e = refl
closes_begins t.Class e = refl
closes_begins t.Basic e = refl
closes_begins t.Do e = refl
closes_begins t.Jump e = refl
closes_begins t.Return e = refl
closes_begins t.New e = refl
closes_begins t.Throw e = refl
closes_begins t.Constant e = refl
closes_begins t.LeftParen e = refl
closes_begins t.LeftBracket e = refl
closes_begins t.Additive e = refl
closes_begins t.Step e = refl
closes_begins t.Negation e = refl
closes_begins _ e = absurd cc

inner_opens_begins : (terminal : Terminal) → heads (symbols inner_opens) terminal ≡ true → first inner terminal ≡ true
inner_opens_begins t.If e = refl
inner_opens_begins t.While e = refl
inner_opens_begins t.For e = refl
inner_opens_begins t.Try e = refl
inner_opens_begins _ e = absurd cc

inner_closes_begins : (terminal : Terminal) → heads (symbols inner_closes) terminal ≡ true → first inner terminal ≡ true
inner_closes_begins t.Name e = refl
inner_closes_begins t.Integer e = refl
inner_closes_begins t.Text e = refl
inner_closes_begins t.Class e = refl
inner_closes_begins t.Basic e = refl
inner_closes_begins t.Do e = refl
inner_closes_begins t.Jump e = refl
inner_closes_begins t.Return e = refl
inner_closes_begins t.New e = refl
inner_closes_begins t.Throw e = refl
inner_closes_begins t.Constant e = refl
inner_closes_begins t.LeftParen e = refl
inner_closes_begins t.LeftBracket e = refl
inner_closes_begins t.Additive e = refl
inner_closes_begins t.Step e = refl
inner_closes_begins t.Negation e = refl
inner_closes_begins _ e = absurd cc

runs_begins : (terminal : Terminal) → heads (symbols runs) terminal ≡ true → first run terminal ≡ true
runs_begins t.Name e = refl
runs_begins t.Integer e = refl
runs_begins t.Text e = refl
runs_begins t.Class e = refl
runs_begins t.Basic e = refl
runs_begins t.If e = refl
runs_begins t.While e = refl
runs_begins t.Do e = refl
runs_begins t.For e = refl
runs_begins t.Jump e = refl
runs_begins t.Return e = refl
runs_begins t.New e = refl
runs_begins t.Try e = refl
runs_begins t.Throw e = refl
runs_begins t.Constant e = refl
runs_begins t.LeftParen e = refl
runs_begins t.LeftBracket e = refl
runs_begins t.LeftBrace e = refl
runs_begins t.Additive e = refl
runs_begins t.Step e = refl
runs_begins t.Negation e = refl
runs_begins _ e = absurd cc

three_empty_begins : (terminal : Terminal) → heads (symbols three_empty) terminal ≡ true → first for_rest terminal ≡ true
three_empty_begins t.Semicolon e = refl
three_empty_begins _ e = absurd cc

three_first_begins : (terminal : Terminal) → heads (symbols three_first) terminal ≡ true → first for_rest terminal ≡ true
three_first_begins t.Name e = refl
three_first_begins t.Integer e = refl
three_first_begins t.Text e = refl
three_first_begins t.Class e = refl
three_first_begins t.Basic e = refl
three_first_begins t.New e = refl
three_first_begins t.Constant e = refl
three_first_begins t.LeftParen e = refl
three_first_begins t.LeftBracket e = refl
three_first_begins t.Additive e = refl
three_first_begins t.Step e = refl
three_first_begins t.Negation e = refl
three_first_begins _ e = absurd cc

each_of_begins : (terminal : Terminal) → heads (symbols each_of) terminal ≡ true → first for_rest terminal ≡ true
each_of_begins t.Name e = refl
each_of_begins t.Class e = refl
each_of_begins t.Basic e = refl
each_of_begins _ e = absurd cc

declares_begins : (terminal : Terminal) → heads (symbols declares) terminal ≡ true → first for_first terminal ≡ true
declares_begins t.Name e = refl
declares_begins t.Class e = refl
declares_begins t.Basic e = refl
declares_begins _ e = absurd cc

declared_begins : (terminal : Terminal) → heads (symbols declared) terminal ≡ true → first closing terminal ≡ true
declared_begins t.Name e = refl
declared_begins t.Class e = refl
declared_begins t.Basic e = refl
declared_begins _ e = absurd cc

value_begins : (terminal : Terminal) → heads (symbols value) terminal ≡ true → first closing terminal ≡ true
value_begins t.Name e = refl
value_begins t.Integer e = refl
value_begins t.Text e = refl
value_begins t.Class e = refl
value_begins t.Basic e = refl
value_begins t.New e = refl
value_begins t.Constant e = refl
value_begins t.LeftParen e = refl
value_begins t.LeftBracket e = refl
value_begins t.Additive e = refl
value_begins t.Step e = refl
value_begins t.Negation e = refl
value_begins _ e = absurd cc

block_body_begins : (terminal : Terminal) → heads (symbols block_body) terminal ≡ true → first body terminal ≡ true
block_body_begins t.LeftBrace e = refl
block_body_begins _ e = absurd cc

statement_body_begins : (terminal : Terminal) → heads (symbols statement_body) terminal ≡ true → first body terminal ≡ true
statement_body_begins t.Name e = refl
statement_body_begins t.Integer e = refl
statement_body_begins t.Text e = refl
statement_body_begins t.Class e = refl
statement_body_begins t.Basic e = refl
statement_body_begins t.If e = refl
statement_body_begins t.While e = refl
statement_body_begins t.Do e = refl
statement_body_begins t.For e = refl
statement_body_begins t.Jump e = refl
statement_body_begins t.Return e = refl
statement_body_begins t.New e = refl
statement_body_begins t.Try e = refl
statement_body_begins t.Throw e = refl
statement_body_begins t.Constant e = refl
statement_body_begins t.LeftParen e = refl
statement_body_begins t.LeftBracket e = refl
statement_body_begins t.Additive e = refl
statement_body_begins t.Step e = refl
statement_body_begins t.Negation e = refl
statement_body_begins _ e = absurd cc

plain_begins : (terminal : Terminal) → heads (symbols plain) terminal ≡ true → first unary terminal ≡ true
plain_begins t.Name e = refl
plain_begins t.Integer e = refl
plain_begins t.Text e = refl
plain_begins t.Class e = refl
plain_begins t.Basic e = refl
plain_begins t.New e = refl
plain_begins t.Constant e = refl
plain_begins t.LeftParen e = refl
plain_begins t.LeftBracket e = refl
plain_begins _ e = absurd cc

suffixed_begins : (terminal : Terminal) → heads (symbols suffixed) terminal ≡ true → first chain terminal ≡ true
suffixed_begins t.Name e = refl
suffixed_begins t.Integer e = refl
suffixed_begins t.Text e = refl
suffixed_begins t.Constant e = refl
suffixed_begins t.LeftParen e = refl
suffixed_begins t.LeftBracket e = refl
suffixed_begins _ e = absurd cc

typed_begins : (terminal : Terminal) → heads (symbols typed) terminal ≡ true → first chain terminal ≡ true
typed_begins t.Class e = refl
typed_begins t.Basic e = refl
typed_begins _ e = absurd cc

known_element_begins : (terminal : Terminal) → heads (symbols known_element) terminal ≡ true → first element terminal ≡ true
known_element_begins t.Basic e = refl
known_element_begins t.Class e = refl
known_element_begins _ e = absurd cc

new_object_begins : (terminal : Terminal) → heads (symbols new_object) terminal ≡ true → first new_rest terminal ≡ true
new_object_begins t.LeftParen e = refl
new_object_begins _ e = absurd cc

first_size_begins : (terminal : Terminal) → heads (symbols first_size) terminal ≡ true → first after_bracket terminal ≡ true
first_size_begins t.Name e = refl
first_size_begins t.Integer e = refl
first_size_begins t.Text e = refl
first_size_begins t.Class e = refl
first_size_begins t.Basic e = refl
first_size_begins t.New e = refl
first_size_begins t.Constant e = refl
first_size_begins t.LeftParen e = refl
first_size_begins t.LeftBracket e = refl
first_size_begins t.Additive e = refl
first_size_begins t.Step e = refl
first_size_begins t.Negation e = refl
first_size_begins _ e = absurd cc

array_object_begins : (terminal : Terminal) → heads (symbols array_object) terminal ≡ true → first array_rest terminal ≡ true
array_object_begins t.LeftParen e = refl
array_object_begins _ e = absurd cc

array_deeper_begins : (terminal : Terminal) → heads (symbols array_deeper) terminal ≡ true → first array_rest terminal ≡ true
array_deeper_begins t.LeftBracket e = refl
array_deeper_begins _ e = absurd cc

filled_begins : (terminal : Terminal) → heads (symbols filled) terminal ≡ true → first contents terminal ≡ true
filled_begins t.Name e = refl
filled_begins t.Integer e = refl
filled_begins t.Text e = refl
filled_begins t.Class e = refl
filled_begins t.Basic e = refl
filled_begins t.New e = refl
filled_begins t.Constant e = refl
filled_begins t.LeftParen e = refl
filled_begins t.LeftBracket e = refl
filled_begins t.Additive e = refl
filled_begins t.Step e = refl
filled_begins t.Negation e = refl
filled_begins _ e = absurd cc

more_items_begins : (terminal : Terminal) → heads (symbols more_items) terminal ≡ true → first more terminal ≡ true
more_items_begins t.Comma e = refl
more_items_begins _ e = absurd cc

access_begins : (terminal : Terminal) → heads (symbols access) terminal ≡ true → first postfix terminal ≡ true
access_begins t.Dot e = refl
access_begins _ e = absurd cc

argued_begins : (terminal : Terminal) → heads (symbols argued) terminal ≡ true → first arg terminal ≡ true
argued_begins t.Name e = refl
argued_begins t.Integer e = refl
argued_begins t.Text e = refl
argued_begins t.Class e = refl
argued_begins t.Basic e = refl
argued_begins t.New e = refl
argued_begins t.Constant e = refl
argued_begins t.LeftParen e = refl
argued_begins t.LeftBracket e = refl
argued_begins t.Additive e = refl
argued_begins t.Step e = refl
argued_begins t.Negation e = refl
argued_begins _ e = absurd cc

lambda_begins : (terminal : Terminal) → heads (symbols lambda) terminal ≡ true → first arg terminal ≡ true
lambda_begins t.Name e = refl
lambda_begins t.Class e = refl
lambda_begins t.Basic e = refl
lambda_begins _ e = absurd cc

reference_begins : (terminal : Terminal) → heads (symbols reference) terminal ≡ true → first arg terminal ≡ true
reference_begins t.Name e = refl
reference_begins t.Class e = refl
reference_begins t.Basic e = refl
reference_begins _ e = absurd cc

ref_word_begins : (terminal : Terminal) → heads (symbols ref_word) terminal ≡ true → first ref_name terminal ≡ true
unfolding same_terminal
ref_word_begins t.Name e = refl
ref_word_begins t.DotName e = refl
ref_word_begins t.Basic e = refl
ref_word_begins t.If e = refl
ref_word_begins t.Else e = refl
ref_word_begins t.While e = refl
ref_word_begins t.Do e = refl
ref_word_begins t.For e = refl
ref_word_begins t.In e = refl
ref_word_begins t.Jump e = refl
ref_word_begins t.Return e = refl
ref_word_begins t.Try e = refl
ref_word_begins t.Catch e = refl
ref_word_begins t.Throw e = refl
ref_word_begins t.This e = refl
ref_word_begins t.Instanceof e = refl
ref_word_begins t.Constant e = refl
ref_word_begins _ e = absurd cc

block_lambda_begins : (terminal : Terminal) → heads (symbols block_lambda) terminal ≡ true → first lambda_body terminal ≡ true
block_lambda_begins t.LeftBrace e = refl
block_lambda_begins _ e = absurd cc

expr_lambda_begins : (terminal : Terminal) → heads (symbols expr_lambda) terminal ≡ true → first lambda_body terminal ≡ true
expr_lambda_begins t.Name e = refl
expr_lambda_begins t.Integer e = refl
expr_lambda_begins t.Text e = refl
expr_lambda_begins t.Class e = refl
expr_lambda_begins t.Basic e = refl
expr_lambda_begins t.New e = refl
expr_lambda_begins t.Constant e = refl
expr_lambda_begins t.LeftParen e = refl
expr_lambda_begins t.LeftBracket e = refl
expr_lambda_begins t.Additive e = refl
expr_lambda_begins t.Step e = refl
expr_lambda_begins t.Negation e = refl
expr_lambda_begins _ e = absurd cc

pub begun : {f : Form} (p : Production f) (terminal : Terminal) → heads (symbols p) terminal ≡ true → first f terminal ≡ true
begun functions terminal e = functions_begins terminal e
begun statements terminal e = e
begun function_of terminal e = e
begun formal_list terminal e = e
begun formal_of terminal e = e
begun name_type terminal e = rw (same_is terminal t.Name e) refl
begun known_type terminal e = known_type_begins terminal e
begun cast_type_of terminal e = cast_type_of_begins terminal e
begun square terminal e = rw (same_is terminal t.LeftBracket e) refl
begun braces terminal e = rw (same_is terminal t.LeftBrace e) refl
begun opens terminal e = opens_begins terminal e
begun closes terminal e = closes_begins terminal e
begun inner_opens terminal e = inner_opens_begins terminal e
begun inner_closes terminal e = inner_closes_begins terminal e
begun last_semicolon terminal e = rw (same_is terminal t.Semicolon e) refl
begun semicolon terminal e = rw (same_is terminal t.Semicolon e) refl
begun conditional terminal e = rw (same_is terminal t.If e) refl
begun looped terminal e = rw (same_is terminal t.While e) refl
begun for_loop terminal e = rw (same_is terminal t.For e) refl
begun tried terminal e = rw (same_is terminal t.Try e) refl
begun alternative terminal e = rw (same_is terminal t.Else e) refl
begun runs terminal e = runs_begins terminal e
begun idle terminal e = rw (same_is terminal t.Semicolon e) refl
begun three_empty terminal e = three_empty_begins terminal e
begun three_first terminal e = three_first_begins terminal e
begun each_of terminal e = each_of_begins terminal e
begun each_in terminal e = rw (same_is terminal t.Name e) refl
begun three_parts terminal e = rw (same_is terminal t.Semicolon e) refl
begun tail_parts terminal e = rw (same_is terminal t.Semicolon e) refl
begun declares terminal e = declares_begins terminal e
begun expresses terminal e = e
begun catches terminal e = rw (same_is terminal t.Catch e) refl
begun do_loop terminal e = rw (same_is terminal t.Do e) refl
begun declared terminal e = declared_begins terminal e
begun jump terminal e = rw (same_is terminal t.Jump e) refl
begun returned terminal e = rw (same_is terminal t.Return e) refl
begun thrown terminal e = rw (same_is terminal t.Throw e) refl
begun value terminal e = value_begins terminal e
begun declaration terminal e = e
begun variable terminal e = rw (same_is terminal t.Name e) refl
begun assigned terminal e = rw (same_is terminal t.Assign e) refl
begun block_body terminal e = block_body_begins terminal e
begun statement_body terminal e = statement_body_begins terminal e
begun expression terminal e = e
begun conditional_rest terminal e = rw (same_is terminal t.Question e) refl
begun assign_rest terminal e = rw (same_is terminal t.Assign e) refl
begun compound_rest terminal e = rw (same_is terminal t.CompoundAssign e) refl
begun elvises terminal e = e
begun elvis_of terminal e = rw (same_is terminal t.Elvis e) refl
begun prefix terminal e = rw (same_is terminal t.Step e) refl
begun signed terminal e = rw (same_is terminal t.Additive e) refl
begun negated terminal e = rw (same_is terminal t.Negation e) refl
begun cast terminal e = rw (same_is terminal t.LeftParen e) refl
begun plain terminal e = plain_begins terminal e
begun step_token terminal e = rw (same_is terminal t.Step e) refl
begun suffixed terminal e = suffixed_begins terminal e
begun typed terminal e = typed_begins terminal e
begun created terminal e = rw (same_is terminal t.New e) refl
begun name_element terminal e = rw (same_is terminal t.Name e) refl
begun known_element terminal e = known_element_begins terminal e
begun new_object terminal e = new_object_begins terminal e
begun new_array terminal e = rw (same_is terminal t.LeftBracket e) refl
begun empty_bracket terminal e = rw (same_is terminal t.RightBracket e) refl
begun first_size terminal e = first_size_begins terminal e
begun array_items terminal e = rw (same_is terminal t.LeftBrace e) refl
begun array_object terminal e = array_object_begins terminal e
begun array_deeper terminal e = array_deeper_begins terminal e
begun size_of terminal e = rw (same_is terminal t.LeftBracket e) refl
begun bracketed terminal e = rw (same_is terminal t.LeftParen e) refl
begun integer terminal e = rw (same_is terminal t.Integer e) refl
begun string terminal e = rw (same_is terminal t.Text e) refl
begun constant terminal e = rw (same_is terminal t.Constant e) refl
begun collection terminal e = rw (same_is terminal t.LeftBracket e) refl
begun named terminal e = rw (same_is terminal t.Name e) refl
begun no_entries terminal e = rw (same_is terminal t.Colon e) refl
begun filled terminal e = filled_begins terminal e
begun more_items terminal e = more_items_begins terminal e
begun more_entries terminal e = rw (same_is terminal t.Colon e) refl
begun entry_of terminal e = e
begun items_of terminal e = e
begun item_of terminal e = e
begun access terminal e = access_begins terminal e
begun index terminal e = rw (same_is terminal t.LeftBracket e) refl
begun dot_of terminal e = rw (same_is terminal t.Dot e) refl
begun named_member terminal e = rw (same_is terminal t.DotName e) refl
begun numbered terminal e = rw (same_is terminal t.DotInteger e) refl
begun args_of terminal e = rw (same_is terminal t.LeftParen e) refl
begun arguments_of terminal e = e
begun argued terminal e = argued_begins terminal e
begun lambda terminal e = lambda_begins terminal e
begun lambdas terminal e = rw (same_is terminal t.LeftParen e) refl
begun reference terminal e = reference_begins terminal e
begun this_reference terminal e = rw (same_is terminal t.This e) refl
begun ref_word terminal e = ref_word_begins terminal e
begun ref_new terminal e = rw (same_is terminal t.New e) refl
begun params_of terminal e = e
begun typed_param terminal e = e
begun bare_param terminal e = rw (same_is terminal t.Name e) refl
begun block_lambda terminal e = block_lambda_begins terminal e
begun expr_lambda terminal e = expr_lambda_begins terminal e
begun products terminal e = e
begun tests terminal e = e
begun (joins l) terminal e = e
begun times terminal e = e
begun test terminal e = e
begun (further l) terminal e = e
begun (after_comma f) terminal e = rw (same_is terminal t.Comma e) refl

-- ---- what is seen

in_not_each : (seen : Seen) → is_in seen ≡ true → is_each seen ≡ false
in_not_each s.In e = refl
in_not_each _ e = absurd cc

reference_not_lambda : (seen : Seen) → is_reference seen ≡ true → is_lambda seen ≡ false
reference_not_lambda s.Reference e = refl
reference_not_lambda _ e = absurd cc

-- productions that have to be told when all of them is there
abbrev pub settled : {f : Form} → Production f → Seen → Bool
settled functions seen = is_function seen
settled each_of seen = is_each seen
settled each_in seen = is_in seen
settled declares seen = is_declared seen
settled declared seen = is_declared seen
settled lambda seen = is_lambda seen
settled reference seen = is_reference seen
settled lambdas seen = is_listed seen
settled typed_param seen = is_declared seen
settled cast seen = is_cast seen
settled _ seen = true

pub chosen : {f : Form} (p : Production f) (terminal : Terminal) (seen : Seen) → heads (symbols p) terminal ≡ true → fits p terminal seen ≡ true → settled p seen ≡ true → choice f terminal seen ≡ p
chosen functions t.Name seen e n h = rw h refl
chosen functions t.Basic seen e n h = rw h refl
chosen functions t.Class seen e n h = rw h refl
chosen functions _ seen e n h = absurd cc
chosen statements t.Name seen e n h = rw (not_true (is_function seen) n) refl
chosen statements t.Basic seen e n h = rw (not_true (is_function seen) n) refl
chosen statements t.Class seen e n h = rw (not_true (is_function seen) n) refl
chosen statements _ seen e n h = refl
chosen function_of terminal seen e n h = refl
chosen formal_list terminal seen e n h = refl
chosen formal_of terminal seen e n h = refl
chosen name_type terminal seen e n h = rw (same_is terminal t.Name e) refl
chosen known_type t.Name seen e n h = absurd cc
chosen known_type _ seen e n h = refl
chosen cast_type_of terminal seen e n h = refl
chosen square terminal seen e n h = refl
chosen braces terminal seen e n h = refl
chosen opens t.If seen e n h = refl
chosen opens t.While seen e n h = refl
chosen opens t.For seen e n h = refl
chosen opens t.Try seen e n h = refl
chosen opens _ seen e n h = absurd cc
chosen closes t.If seen e n h = absurd cc
chosen closes t.While seen e n h = absurd cc
chosen closes t.For seen e n h = absurd cc
chosen closes t.Try seen e n h = absurd cc
chosen closes _ seen e n h = refl
chosen inner_opens t.If seen e n h = refl
chosen inner_opens t.While seen e n h = refl
chosen inner_opens t.For seen e n h = refl
chosen inner_opens t.Try seen e n h = refl
chosen inner_opens _ seen e n h = absurd cc
chosen inner_closes t.If seen e n h = absurd cc
chosen inner_closes t.While seen e n h = absurd cc
chosen inner_closes t.For seen e n h = absurd cc
chosen inner_closes t.Try seen e n h = absurd cc
chosen inner_closes _ seen e n h = refl
chosen last_semicolon terminal seen e n h = refl
chosen semicolon terminal seen e n h = refl
chosen conditional terminal seen e n h = rw (same_is terminal t.If e) refl
chosen looped terminal seen e n h = rw (same_is terminal t.While e) refl
chosen for_loop terminal seen e n h = rw (same_is terminal t.For e) refl
chosen tried terminal seen e n h = rw (same_is terminal t.Try e) refl
chosen alternative terminal seen e n h = refl
chosen runs t.Semicolon seen e n h = absurd cc
chosen runs _ seen e n h = refl
chosen idle terminal seen e n h = rw (same_is terminal t.Semicolon e) refl
chosen three_empty t.Semicolon seen e n h = refl
chosen three_empty _ seen e n h = absurd cc
chosen three_first t.Name seen e n h = rw (or_left (is_each seen) (is_in seen) n, or_right (is_each seen) (is_in seen) n) refl
chosen three_first t.Basic seen e n h = rw (not_true (is_each seen) n) refl
chosen three_first t.Class seen e n h = rw (not_true (is_each seen) n) refl
chosen three_first t.Semicolon seen e n h = absurd cc
chosen three_first _ seen e n h = refl
chosen each_of t.Name seen e n h = rw h refl
chosen each_of t.Basic seen e n h = rw h refl
chosen each_of t.Class seen e n h = rw h refl
chosen each_of _ seen e n h = absurd cc
chosen each_in terminal seen e n h = rw (same_is terminal t.Name e, in_not_each seen h, h) refl
chosen three_parts terminal seen e n h = refl
chosen tail_parts terminal seen e n h = refl
chosen declares t.Name seen e n h = rw h refl
chosen declares t.Basic seen e n h = rw h refl
chosen declares t.Class seen e n h = rw h refl
chosen declares _ seen e n h = absurd cc
chosen expresses t.Name seen e n h = rw (not_true (is_declared seen) n) refl
chosen expresses t.Basic seen e n h = rw (not_true (is_declared seen) n) refl
chosen expresses t.Class seen e n h = rw (not_true (is_declared seen) n) refl
chosen expresses _ seen e n h = refl
chosen catches terminal seen e n h = refl
chosen do_loop terminal seen e n h = rw (same_is terminal t.Do e) refl
chosen declared t.Name seen e n h = rw h refl
chosen declared t.Basic seen e n h = rw h refl
chosen declared t.Class seen e n h = rw h refl
chosen declared _ seen e n h = absurd cc
chosen jump terminal seen e n h = rw (same_is terminal t.Jump e) refl
chosen returned terminal seen e n h = rw (same_is terminal t.Return e) refl
chosen thrown terminal seen e n h = rw (same_is terminal t.Throw e) refl
chosen value t.Name seen e n h = rw (not_true (is_declared seen) n) refl
chosen value t.Basic seen e n h = rw (not_true (is_declared seen) n) refl
chosen value t.Class seen e n h = rw (not_true (is_declared seen) n) refl
chosen value t.Do seen e n h = absurd cc
chosen value t.Jump seen e n h = absurd cc
chosen value t.Return seen e n h = absurd cc
chosen value t.Throw seen e n h = absurd cc
chosen value _ seen e n h = refl
chosen declaration terminal seen e n h = refl
chosen variable terminal seen e n h = refl
chosen assigned terminal seen e n h = refl
chosen block_body t.LeftBrace seen e n h = refl
chosen block_body _ seen e n h = absurd cc
chosen statement_body t.LeftBrace seen e n h = absurd cc
chosen statement_body _ seen e n h = refl
chosen expression terminal seen e n h = refl
chosen conditional_rest terminal seen e n h = rw (same_is terminal t.Question e) refl
chosen assign_rest terminal seen e n h = rw (same_is terminal t.Assign e) refl
chosen compound_rest terminal seen e n h = rw (same_is terminal t.CompoundAssign e) refl
chosen elvises terminal seen e n h = refl
chosen elvis_of terminal seen e n h = refl
chosen prefix terminal seen e n h = rw (same_is terminal t.Step e) refl
chosen signed terminal seen e n h = rw (same_is terminal t.Additive e) refl
chosen negated terminal seen e n h = rw (same_is terminal t.Negation e) refl
chosen cast terminal seen e n h = rw (same_is terminal t.LeftParen e, h) refl
chosen plain t.LeftParen seen e n h = rw (not_true (is_cast seen) n) refl
chosen plain t.Step seen e n h = absurd cc
chosen plain t.Additive seen e n h = absurd cc
chosen plain t.Negation seen e n h = absurd cc
chosen plain _ seen e n h = refl
chosen step_token terminal seen e n h = refl
chosen suffixed t.Class seen e n h = absurd cc
chosen suffixed t.Basic seen e n h = absurd cc
chosen suffixed t.New seen e n h = absurd cc
chosen suffixed _ seen e n h = refl
chosen typed t.Class seen e n h = refl
chosen typed t.Basic seen e n h = refl
chosen typed _ seen e n h = absurd cc
chosen created terminal seen e n h = rw (same_is terminal t.New e) refl
chosen name_element terminal seen e n h = rw (same_is terminal t.Name e) refl
chosen known_element t.Name seen e n h = absurd cc
chosen known_element _ seen e n h = refl
chosen new_object t.LeftBracket seen e n h = absurd cc
chosen new_object _ seen e n h = refl
chosen new_array terminal seen e n h = rw (same_is terminal t.LeftBracket e) refl
chosen empty_bracket terminal seen e n h = rw (same_is terminal t.RightBracket e) refl
chosen first_size t.RightBracket seen e n h = absurd cc
chosen first_size _ seen e n h = refl
chosen array_items terminal seen e n h = rw (same_is terminal t.LeftBrace e) refl
chosen array_object t.LeftBrace seen e n h = absurd cc
chosen array_object t.LeftBracket seen e n h = absurd cc
chosen array_object _ seen e n h = refl
chosen array_deeper t.LeftBracket seen e n h = refl
chosen array_deeper _ seen e n h = absurd cc
chosen size_of terminal seen e n h = refl
chosen bracketed terminal seen e n h = rw (same_is terminal t.LeftParen e) refl
chosen integer terminal seen e n h = rw (same_is terminal t.Integer e) refl
chosen string terminal seen e n h = rw (same_is terminal t.Text e) refl
chosen constant terminal seen e n h = rw (same_is terminal t.Constant e) refl
chosen collection terminal seen e n h = rw (same_is terminal t.LeftBracket e) refl
chosen named terminal seen e n h = rw (same_is terminal t.Name e) refl
chosen no_entries terminal seen e n h = rw (same_is terminal t.Colon e) refl
chosen filled t.Colon seen e n h = absurd cc
chosen filled _ seen e n h = refl
chosen more_items t.Comma seen e n h = refl
chosen more_items _ seen e n h = absurd cc
chosen more_entries terminal seen e n h = rw (same_is terminal t.Colon e) refl
chosen entry_of terminal seen e n h = refl
chosen items_of terminal seen e n h = refl
chosen item_of terminal seen e n h = refl
chosen access t.LeftBracket seen e n h = absurd cc
chosen access _ seen e n h = refl
chosen index terminal seen e n h = rw (same_is terminal t.LeftBracket e) refl
chosen dot_of terminal seen e n h = refl
chosen named_member terminal seen e n h = rw (same_is terminal t.DotName e) refl
chosen numbered terminal seen e n h = rw (same_is terminal t.DotInteger e) refl
chosen args_of terminal seen e n h = refl
chosen arguments_of terminal seen e n h = refl
chosen argued t.Name seen e n h = rw (or_left (is_lambda seen) (is_reference seen) n, or_right (is_lambda seen) (is_reference seen) n) refl
chosen argued t.Basic seen e n h = rw (or_left (is_lambda seen) (is_reference seen) n, or_right (is_lambda seen) (is_reference seen) n) refl
chosen argued t.Class seen e n h = rw (or_left (is_lambda seen) (is_reference seen) n, or_right (is_lambda seen) (is_reference seen) n) refl
chosen argued t.LeftParen seen e n h = rw (not_true (is_listed seen) n) refl
chosen argued t.This seen e n h = absurd cc
chosen argued _ seen e n h = refl
chosen lambda t.Name seen e n h = rw h refl
chosen lambda t.Basic seen e n h = rw h refl
chosen lambda t.Class seen e n h = rw h refl
chosen lambda _ seen e n h = absurd cc
chosen lambdas terminal seen e n h = rw (same_is terminal t.LeftParen e, h) refl
chosen reference t.Name seen e n h = rw (reference_not_lambda seen h, h) refl
chosen reference t.Basic seen e n h = rw (reference_not_lambda seen h, h) refl
chosen reference t.Class seen e n h = rw (reference_not_lambda seen h, h) refl
chosen reference _ seen e n h = absurd cc
chosen this_reference terminal seen e n h = rw (same_is terminal t.This e) refl
chosen ref_word t.New seen e n h = absurd cc
chosen ref_word _ seen e n h = refl
chosen ref_new terminal seen e n h = rw (same_is terminal t.New e) refl
chosen params_of terminal seen e n h = refl
chosen typed_param t.Name seen e n h = rw h refl
chosen typed_param _ seen e n h = refl
chosen bare_param terminal seen e n h = let is = same_is terminal t.Name e in subst (λ (q : Terminal). fits bare_param q seen ≡ true → choice param q seen ≡ bare_param) (sym is) (λ n. rw (not_true (is_declared seen) n) refl) n
chosen block_lambda t.LeftBrace seen e n h = refl
chosen block_lambda _ seen e n h = absurd cc
chosen expr_lambda t.LeftBrace seen e n h = absurd cc
chosen expr_lambda _ seen e n h = refl
chosen products terminal seen e n h = refl
chosen tests terminal seen e n h = refl
chosen (joins l) terminal seen e n h = refl
chosen times terminal seen e n h = refl
chosen test terminal seen e n h = refl
chosen (further l) terminal seen e n h = refl
chosen (after_comma f) terminal seen e n h = refl
