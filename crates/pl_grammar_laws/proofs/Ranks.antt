-- A production that begins with a phrase begins with one of lower rank, seen by a look at every row.
use Rattle.std.proofs.Common.{ℕ, ◌<◌, List, ◌∷◌, arith}
use Rattle.pl_grammar.specs.declared.level.Level.TheVariants as lv
use Rattle.pl_grammar.specs.declared.level.Looser.{Looser}
use Rattle.pl_grammar.specs.declared.level.Looser.TheVariants as lo
use Rattle.pl_grammar.specs.Grammar.{Form, top, function, formals, formal, type, statement, inner, run, for_rest, for_first, closing, decl, body, expr, elvis, unary, chain, new_rest, after_bracket, array_rest, contents, more, entry, items, item, postfix, arguments, arg, params, param, lambda_body, binary, Symbol, phrase, Production, functions, statements, function_of, formal_list, formal_of, name_type, known_type, cast_type_of, square, braces, opens, closes, inner_opens, inner_closes, last_semicolon, semicolon, conditional, looped, for_loop, tried, alternative, runs, idle, three_empty, three_first, each_of, each_in, three_parts, tail_parts, declares, expresses, catches, do_loop, declared, jump, returned, thrown, value, declaration, variable, assigned, block_body, statement_body, expression, conditional_rest, assign_rest, compound_rest, elvises, elvis_of, prefix, signed, negated, cast, plain, step_token, suffixed, typed, created, name_element, known_element, new_object, new_array, empty_bracket, first_size, array_items, array_object, array_deeper, size_of, bracketed, integer, string, constant, collection, named, no_entries, filled, more_items, more_entries, entry_of, items_of, item_of, access, index, dot_of, named_member, numbered, args_of, arguments_of, argued, lambda, lambdas, reference, this_reference, ref_word, ref_new, params_of, typed_param, bare_param, block_lambda, expr_lambda, products, tests, joins, times, test, further, after_comma, symbols, tighter}

abbrev pub depth : Looser → ℕ
depth lo.Sum = 8
depth lo.Shift = 9
depth lo.Relational = 10
depth lo.Equality = 12
depth lo.And = 13
depth lo.Xor = 14
depth lo.Or = 15
depth lo.AndAnd = 16
depth lo.OrOr = 17

abbrev pub rank : Form → ℕ
rank top = 22
rank function = 3
rank formals = 4
rank formal = 3
rank type = 2
rank statement = 21
rank inner = 21
rank run = 23
rank for_rest = 21
rank for_first = 20
rank closing = 20
rank decl = 3
rank body = 22
rank expr = 19
rank elvis = 18
rank unary = 3
rank chain = 2
rank new_rest = 2
rank after_bracket = 20
rank array_rest = 2
rank contents = 20
rank more = 2
rank entry = 20
rank items = 21
rank item = 20
rank postfix = 2
rank arguments = 21
rank arg = 20
rank params = 4
rank param = 3
rank lambda_body = 20
rank (binary lv.Product) = 7
rank (binary lv.Instance) = 11
rank (binary (lv.Looser l)) = depth l
rank _ = 1

abbrev pub IsLow : ℕ → List Symbol → Type 0
IsLow n (phrase f ∷ ss) = rank f < n
IsLow n _ = Unit {0}

tighter_low : (l : Looser) → rank (binary (tighter l)) < depth l
tighter_low lo.Sum = omega arith
tighter_low _ = omega arith

pub ranked : {f : Form} (p : Production f) → IsLow (rank f) (symbols p)
ranked functions = omega arith
ranked statements = omega arith
ranked function_of = omega arith
ranked formal_list = omega arith
ranked formal_of = omega arith
ranked name_type = tt
ranked known_type = omega arith
ranked cast_type_of = tt
ranked square = tt
ranked braces = tt
ranked opens = omega arith
ranked closes = omega arith
ranked inner_opens = omega arith
ranked inner_closes = omega arith
ranked last_semicolon = tt
ranked semicolon = tt
ranked conditional = tt
ranked looped = tt
ranked for_loop = tt
ranked tried = tt
ranked alternative = tt
ranked runs = omega arith
ranked idle = tt
ranked three_empty = omega arith
ranked three_first = omega arith
ranked each_of = omega arith
ranked each_in = tt
ranked three_parts = tt
ranked tail_parts = tt
ranked declares = omega arith
ranked expresses = omega arith
ranked catches = tt
ranked do_loop = tt
ranked declared = omega arith
ranked jump = tt
ranked returned = tt
ranked thrown = tt
ranked value = omega arith
ranked declaration = omega arith
ranked variable = tt
ranked assigned = tt
ranked block_body = omega arith
ranked statement_body = omega arith
ranked expression = omega arith
ranked conditional_rest = tt
ranked assign_rest = tt
ranked compound_rest = tt
ranked elvises = omega arith
ranked elvis_of = tt
ranked prefix = tt
ranked signed = tt
ranked negated = tt
ranked cast = tt
ranked plain = omega arith
ranked step_token = tt
ranked suffixed = omega arith
ranked typed = omega arith
ranked created = tt
ranked name_element = tt
ranked known_element = tt
ranked new_object = omega arith
ranked new_array = tt
ranked empty_bracket = tt
ranked first_size = omega arith
ranked array_items = tt
ranked array_object = omega arith
ranked array_deeper = omega arith
ranked size_of = tt
ranked bracketed = tt
ranked integer = tt
ranked string = tt
ranked constant = tt
ranked collection = tt
ranked named = tt
ranked no_entries = tt
ranked filled = omega arith
ranked more_items = omega arith
ranked more_entries = tt
ranked entry_of = omega arith
ranked items_of = omega arith
ranked item_of = omega arith
ranked access = omega arith
ranked index = tt
ranked dot_of = tt
ranked named_member = tt
ranked numbered = tt
ranked args_of = tt
ranked arguments_of = omega arith
ranked argued = omega arith
ranked lambda = omega arith
ranked lambdas = tt
ranked reference = omega arith
ranked this_reference = tt
ranked ref_word = tt
ranked ref_new = tt
ranked params_of = omega arith
ranked typed_param = omega arith
ranked bare_param = tt
ranked block_lambda = omega arith
ranked expr_lambda = omega arith
ranked products = omega arith
ranked tests = omega arith
ranked (joins l) = tighter_low l
ranked times = tt
ranked test = tt
ranked (further l) = tt
ranked (after_comma f) = tt

depth_below : (l : Looser) → depth l < 32
depth_below lo.Sum = omega arith
depth_below _ = omega arith

pub rank_below : (f : Form) → rank f < 32
rank_below (binary lv.Product) = omega arith
rank_below (binary lv.Instance) = omega arith
rank_below (binary (lv.Looser l)) = depth_below l
rank_below _ = omega arith
