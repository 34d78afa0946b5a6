-- Reading from left to right, by the rows of the grammar.
use Rattle.std.specs.Prelude.{◌≡◌, ◌≢◌, Bool, true, false, not, ◌&&◌, ℕ, zero, suc, if◌then◌else◌, List, [], ◌∷◌, length, Option, Some, None, Result, Ok, Err}
use Rattle.pl_grammar.specs.declared.terminal.Terminal.{Terminal}
use Rattle.pl_grammar.specs.declared.terminal.Terminal.TheVariants as t
use Rattle.pl_grammar.specs.declared.stop.Stop.{Stop}
use Rattle.pl_grammar.specs.declared.stop.Stop.TheVariants.{NoMemory, Unexpected, TooDeep}
use Rattle.pl_tree.specs.declared.tree.Tree.{Tree}
use Rattle.pl_grammar.specs.declared.ahead.Seen.{Seen}
use Rattle.pl_grammar.specs.declared.level.Level.{Level}
use Rattle.pl_grammar.specs.declared.level.Level.TheVariants as lv
use Rattle.pl_grammar.specs.declared.level.Looser.TheVariants as lo
use Rattle.pl_grammar.specs.declared.parts.Placed.{Placed}
use Rattle.pl_grammar.specs.Lexeme.{Lexeme, matches, class_of, next, Take, Taken, taken}
use Rattle.pl_grammar.specs.Ahead.{seen}
use Rattle.pl_grammar.specs.Grammar.{Form, top, function, formals, formal, type, cast_type, pair, block, statement, inner, last, separator, opening, otherwise, run, for_rest, three, for_tail, for_first, handler, closing, decl, var, init, body, expr, expr_rest, elvis, elvis_rest, unary, step, chain, element, new_rest, after_bracket, array_rest, size, primary, contents, more, entry, items, item, postfix, dot, member, args, arguments, arg, ref_name, params, param, lambda_body, binary, operation, comma, TreeOf, Symbol, token, phrase, repeated, optional, SymbolTree, Trees, Production, functions, statements, function_of, formal_list, formal_of, name_type, known_type, cast_type_of, square, braces, opens, closes, inner_opens, inner_closes, last_semicolon, semicolon, conditional, looped, for_loop, tried, alternative, runs, idle, three_empty, three_first, each_of, each_in, three_parts, tail_parts, declares, expresses, catches, do_loop, declared, jump, returned, thrown, value, declaration, variable, assigned, block_body, statement_body, expression, conditional_rest, assign_rest, compound_rest, elvises, elvis_of, prefix, signed, negated, cast, plain, step_token, suffixed, typed, created, name_element, known_element, new_object, new_array, empty_bracket, first_size, array_items, array_object, array_deeper, size_of, bracketed, integer, string, constant, collection, named, no_entries, filled, more_items, more_entries, entry_of, items_of, item_of, access, index, dot_of, named_member, numbered, args_of, arguments_of, argued, lambda, lambdas, reference, this_reference, ref_word, ref_new, params_of, typed_param, bare_param, block_lambda, expr_lambda, products, tests, joins, times, test, further, after_comma, symbols, built, tighter}
use Rattle.pl_grammar.specs.Firsts.{first, absent, scan, begins_type, is_declared, is_lambda, is_reference, is_listed, is_function, is_each, is_in, is_cast}

-- what is read and what is left, or where reading stops
abbrev pub Outcome : Type 0 → Type 0
Outcome A = Result (A × List Lexeme) Stop

abbrev pub Reader : Type 0 → Type 0
Reader A = List Lexeme → Outcome A

abbrev pub and_then : {A B : Type 0} → Outcome A → (A → Reader B) → Outcome B
and_then (Ok p) f = f p.0 p.1
and_then (Err e) f = Err e

infixl 10 ◌>>=◌
abbrev pub ◌>>=◌ : {A B : Type 0} → Reader A → (A → Reader B) → Reader B
p >>= f = λ ls. and_then (p ls) f

abbrev pub pure : {A : Type 0} → A → Reader A
pure a = λ ls. Ok (a, ls)

unfoldable pub read_token : (take : Take) → Terminal → Reader (Taken take)
read_token take terminal [] = Err (Unexpected 0)
read_token take terminal (l ∷ ls) = if matches terminal (class_of l) then Ok (taken take l, ls) else Err (Unexpected (length (l ∷ ls)))

-- what a form begins as, by the first token and what is seen of all
abbrev pub declared_ahead : Terminal → Seen → Bool
declared_ahead terminal seen = begins_type terminal && is_declared seen

abbrev pub function_ahead : Terminal → Seen → Bool
function_ahead terminal seen = begins_type terminal && is_function seen

abbrev pub each_ahead : Terminal → Seen → Bool
each_ahead terminal seen = begins_type terminal && is_each seen

abbrev pub in_ahead : Terminal → Seen → Bool
in_ahead t.Name seen = is_in seen
in_ahead _ seen = false

abbrev pub lambda_ahead : Terminal → Seen → Bool
lambda_ahead terminal seen = begins_type terminal && is_lambda seen

abbrev pub reference_ahead : Terminal → Seen → Bool
reference_ahead terminal seen = begins_type terminal && is_reference seen

abbrev pub listed_ahead : Terminal → Seen → Bool
listed_ahead t.LeftParen seen = is_listed seen
listed_ahead _ seen = false

abbrev pub bare_ahead : Terminal → Seen → Bool
bare_ahead t.Name seen = not (is_declared seen)
bare_ahead _ seen = false

abbrev pub cast_ahead : Terminal → Seen → Bool
cast_ahead t.LeftParen seen = is_cast seen
cast_ahead _ seen = false

-- which of two productions, by that
abbrev pub top_by : Bool → Production top
top_by true = functions
top_by false = statements

abbrev pub rest_by : Bool → Bool → Production for_rest
rest_by true within = each_of
rest_by false true = each_in
rest_by false false = three_first

abbrev pub first_by : Bool → Production for_first
first_by true = declares
first_by false = expresses

abbrev pub closing_by : Bool → Production closing
closing_by true = declared
closing_by false = value

abbrev pub argument_by : Bool → Bool → Production arg
argument_by true refers = lambda
argument_by false true = reference
argument_by false false = argued

abbrev pub listed_by : Bool → Production arg
listed_by true = lambdas
listed_by false = argued

abbrev pub param_by : Bool → Production param
param_by true = typed_param
param_by false = bare_param

abbrev pub cast_by : Bool → Production unary
cast_by true = cast
cast_by false = plain

-- the production that the next token tells, with what is seen of all
abbrev pub choice : (f : Form) → Terminal → Seen → Production f
choice top terminal seen = top_by (function_ahead terminal seen)
choice function _ seen = function_of
choice formals _ seen = formal_list
choice formal _ seen = formal_of
choice type t.Name seen = name_type
choice type _ seen = known_type
choice cast_type _ seen = cast_type_of
choice pair _ seen = square
choice block _ seen = braces
choice statement t.If seen = opens
choice statement t.While seen = opens
choice statement t.For seen = opens
choice statement t.Try seen = opens
choice statement _ seen = closes
choice inner t.If seen = inner_opens
choice inner t.While seen = inner_opens
choice inner t.For seen = inner_opens
choice inner t.Try seen = inner_opens
choice inner _ seen = inner_closes
choice last _ seen = last_semicolon
choice separator _ seen = semicolon
choice opening t.If seen = conditional
choice opening t.While seen = looped
choice opening t.For seen = for_loop
choice opening _ seen = tried
choice otherwise _ seen = alternative
choice run t.Semicolon seen = idle
choice run _ seen = runs
choice for_rest t.Semicolon seen = three_empty
choice for_rest terminal seen = rest_by (each_ahead terminal seen) (in_ahead terminal seen)
choice three _ seen = three_parts
choice for_tail _ seen = tail_parts
choice for_first terminal seen = first_by (declared_ahead terminal seen)
choice handler _ seen = catches
choice closing t.Do seen = do_loop
choice closing t.Jump seen = jump
choice closing t.Return seen = returned
choice closing t.Throw seen = thrown
choice closing terminal seen = closing_by (declared_ahead terminal seen)
choice decl _ seen = declaration
choice var _ seen = variable
choice init _ seen = assigned
choice body t.LeftBrace seen = block_body
choice body _ seen = statement_body
choice expr _ seen = expression
choice expr_rest t.Question seen = conditional_rest
choice expr_rest t.Assign seen = assign_rest
choice expr_rest _ seen = compound_rest
choice elvis _ seen = elvises
choice elvis_rest _ seen = elvis_of
choice unary t.LeftParen seen = cast_by (is_cast seen)
choice unary t.Step seen = prefix
choice unary t.Additive seen = signed
choice unary t.Negation seen = negated
choice unary _ seen = plain
choice step _ seen = step_token
choice chain t.Class seen = typed
choice chain t.Basic seen = typed
choice chain t.New seen = created
choice chain _ seen = suffixed
choice element t.Name seen = name_element
choice element _ seen = known_element
choice new_rest t.LeftBracket seen = new_array
choice new_rest _ seen = new_object
choice after_bracket t.RightBracket seen = empty_bracket
choice after_bracket _ seen = first_size
choice array_rest t.LeftBrace seen = array_items
choice array_rest t.LeftBracket seen = array_deeper
choice array_rest _ seen = array_object
choice size _ seen = size_of
choice primary t.LeftParen seen = bracketed
choice primary t.Integer seen = integer
choice primary t.Text seen = string
choice primary t.Constant seen = constant
choice primary t.LeftBracket seen = collection
choice primary _ seen = named
choice contents t.Colon seen = no_entries
choice contents _ seen = filled
choice more t.Comma seen = more_items
choice more _ seen = more_entries
choice entry _ seen = entry_of
choice items _ seen = items_of
choice item _ seen = item_of
choice postfix t.LeftBracket seen = index
choice postfix _ seen = access
choice dot _ seen = dot_of
choice member t.DotName seen = named_member
choice member _ seen = numbered
choice args _ seen = args_of
choice arguments _ seen = arguments_of
choice arg t.LeftParen seen = listed_by (is_listed seen)
choice arg t.This seen = this_reference
choice arg terminal seen = argument_by (lambda_ahead terminal seen) (reference_ahead terminal seen)
choice ref_name t.New seen = ref_new
choice ref_name _ seen = ref_word
choice params _ seen = params_of
choice param t.Name seen = param_by (is_declared seen)
choice param _ seen = typed_param
choice lambda_body t.LeftBrace seen = block_lambda
choice lambda_body _ seen = expr_lambda
choice (binary lv.Product) _ seen = products
choice (binary lv.Instance) _ seen = tests
choice (binary (lv.Looser l)) _ seen = joins l
choice (operation lv.Product) _ seen = times
choice (operation lv.Instance) _ seen = test
choice (operation (lv.Looser l)) _ seen = further l
choice (comma f) _ seen = after_comma f

module _ (inner : (f : Form) → Reader (TreeOf f)) where
  -- the number bounds the turns
  unfoldable pub read_repeated : ℕ → (f : Form) → Reader (List (TreeOf f))
  read_repeated zero f = pure []
  read_repeated (suc n) f = λ ls. if first f (next ls) then (do v ← inner f; vs ← read_repeated n f; pure (v ∷ vs)) ls else Ok ([], ls)

  -- what is made of the phrases that are still to come
  abbrev pub repeated_then : (f : Form) {B : Type 0} → ℕ → (List (TreeOf f) → B) → List Lexeme → Outcome B
  repeated_then f n g ls = and_then (read_repeated n f ls) (λ vs us. Ok (g vs, us))

  unfoldable pub read_optional : (f : Form) → Reader (Option (TreeOf f))
  read_optional f ls = if first f (next ls) then (do v ← inner f; pure (Some v)) ls else (if absent f (next ls) then Ok (None, ls) else Err (Unexpected (length ls)))

  abbrev pub read_symbol : (s : Symbol) → Reader (SymbolTree s)
  read_symbol (token take terminal) = read_token take terminal
  read_symbol (phrase f) = inner f
  read_symbol (repeated f) = λ ls. read_repeated (length ls) f ls
  read_symbol (optional f) = read_optional f

  abbrev pub read_symbols : (ss : List Symbol) → Reader (Trees ss)
  read_symbols [] = pure tt
  read_symbols (s ∷ ss) = do v ← read_symbol s; vs ← read_symbols ss; pure (v, vs)

  abbrev pub read_production : {f : Form} → Production f → Reader (TreeOf f)
  read_production p = do vs ← read_symbols (symbols p); pure (built p vs)

  -- what the operators of a level stand between
  abbrev pub read_operand : Level → Reader Placed
  read_operand lv.Product = inner unary
  read_operand lv.Instance = inner (binary (lv.Looser lo.Relational))
  read_operand (lv.Looser l) = inner (binary (tighter l))

-- productions nested no deeper than the number
unfoldable pub read_form : ℕ → (f : Form) → Reader (TreeOf f)
read_form zero f = λ _. Err TooDeep
read_form (suc n) f = λ ls. read_production (read_form n) (choice f (next ls) (seen (scan f) ls)) ls

-- nothing is left
abbrev pub at_end : {A : Type 0} → A → Reader A
at_end v [] = Ok (v, [])
at_end v (l ∷ ls) = Err (Unexpected (length (l ∷ ls)))

abbrev pub empty_tree : Tree
empty_tree = record { functions = []; statements = [] }

unfoldable pub read_script : ℕ → Reader Tree
read_script n [] = Ok (empty_tree, [])
read_script n (l ∷ ls) = and_then (read_form n top (l ∷ ls)) at_end

-- what a function that reads ensures: the reader's outcome, unless memory fails
abbrev pub Reads : {A : Type 0} → Outcome A → Result A Stop → List Lexeme → Type 0
Reads outcome (Ok a) new = outcome ≡ Ok (a, new)
Reads outcome (Err e) new = e ≢ NoMemory → outcome ≡ Err e
