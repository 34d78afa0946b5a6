-- The shortest phrase of each form.
use Rattle.std.proofs.Common.{◌≡◌, ℕ, zero, suc, Bool, true, false, ◌&&◌, ◌||◌, cond, List, [], ◌∷◌, ◌++◌, Some, None, refl}
use Rattle.pl_lexer.specs.declared.token.Kind.{Kind}
use Rattle.pl_lexer.specs.declared.token.Kind.TheVariants as k
use Rattle.pl_lexer.specs.declared.token.Word.TheVariants as w
use Rattle.pl_lexer.specs.declared.token.Sign.TheVariants as g
use Rattle.pl_grammar.specs.declared.terminal.Terminal.{Terminal}
use Rattle.pl_grammar.specs.declared.terminal.Terminal.TheVariants as t
use Rattle.pl_grammar.specs.declared.level.Level.TheVariants as lv
use Rattle.pl_grammar.specs.Lexeme.{Lexeme, matches, class_of, next, taken}
use Rattle.pl_grammar.specs.Grammar.{Form, top, function, formals, formal, type, cast_type, pair, block, statement, inner, last, separator, opening, otherwise, run, for_rest, three, for_tail, for_first, handler, closing, decl, var, init, body, expr, expr_rest, elvis, elvis_rest, unary, step, chain, element, new_rest, after_bracket, array_rest, size, primary, contents, more, entry, items, item, postfix, dot, member, args, arguments, arg, ref_name, params, param, lambda_body, binary, operation, comma, TreeOf, Symbol, token, phrase, repeated, optional, SymbolTree, Trees, Production, statements, function_of, formal_list, formal_of, name_type, cast_type_of, square, braces, closes, inner_closes, last_semicolon, semicolon, looped, alternative, idle, three_empty, three_parts, tail_parts, expresses, catches, jump, declaration, variable, assigned, block_body, expression, assign_rest, elvises, elvis_of, plain, step_token, suffixed, name_element, new_object, empty_bracket, array_items, size_of, named, no_entries, more_items, entry_of, items_of, item_of, access, dot_of, named_member, args_of, arguments_of, argued, ref_word, params_of, bare_param, block_lambda, products, tests, joins, times, test, further, after_comma, symbols, built}
use Rattle.pl_grammar_plain.specs.Plain.{omits, ends, PlainSymbol, PlainSymbols, Plain}
use Rattle.pl_grammar_plain.proofs.Tests.{both_left, both_right}

-- ---- a lexeme of each class

abbrev kind_of : Terminal → Kind
kind_of t.Name = k.Name
kind_of t.DotName = k.DotName
kind_of t.DotInteger = k.DotInteger
kind_of t.Integer = k.Integer
kind_of t.Text = k.Text
kind_of t.Class = k.ClassName 0
kind_of t.Basic = k.Word w.Def
kind_of t.If = k.Word w.If
kind_of t.Else = k.Word w.Else
kind_of t.While = k.Word w.While
kind_of t.Do = k.Word w.Do
kind_of t.For = k.Word w.For
kind_of t.In = k.Word w.In
kind_of t.Jump = k.Word w.Break
kind_of t.Return = k.Word w.Return
kind_of t.New = k.Word w.New
kind_of t.Try = k.Word w.Try
kind_of t.Catch = k.Word w.Catch
kind_of t.Throw = k.Word w.Throw
kind_of t.This = k.Word w.This
kind_of t.Instanceof = k.Word w.Instanceof
kind_of t.Constant = k.Word w.Null
kind_of t.LeftParen = k.Sign g.LeftParen
kind_of t.RightParen = k.Sign g.RightParen
kind_of t.LeftBracket = k.Sign g.LeftBracket
kind_of t.RightBracket = k.Sign g.RightBracket
kind_of t.LeftBrace = k.Sign g.LeftBrace
kind_of t.RightBrace = k.Sign g.RightBrace
kind_of t.Dot = k.Sign g.Dot
kind_of t.Comma = k.Sign g.Comma
kind_of t.Semicolon = k.Sign g.Semicolon
kind_of t.Question = k.Sign g.Question
kind_of t.Colon = k.Sign g.Colon
kind_of t.Elvis = k.Sign g.Elvis
kind_of t.ColonColon = k.Sign g.ColonColon
kind_of t.Arrow = k.Sign g.Arrow
kind_of t.Additive = k.Sign g.Plus
kind_of t.Multiplicative = k.Sign g.Star
kind_of t.Step = k.Sign g.Increment
kind_of t.Negation = k.Sign g.Not
kind_of t.Shift = k.Sign g.ShiftLeft
kind_of t.Relational = k.Sign g.Less
kind_of t.Equality = k.Sign g.Equal
kind_of t.And = k.Sign g.And
kind_of t.Xor = k.Sign g.Xor
kind_of t.Or = k.Sign g.Or
kind_of t.AndAnd = k.Sign g.AndAnd
kind_of t.OrOr = k.Sign g.OrOr
kind_of t.Assign = k.Sign g.Assign
kind_of t.CompoundAssign = k.Sign g.AddAssign
kind_of t.Known = k.ClassName 0
kind_of t.AnyWord = k.Name
kind_of t.End = k.Name

abbrev pub any : Terminal → Lexeme
any terminal = record { token = record { kind = kind_of terminal; start = 0; end = 0 }; spelling = [] }

-- ---- the production that a phrase takes where nothing of it is there

abbrev chosen : (f : Form) → Production f
chosen top = statements
chosen function = function_of
chosen formals = formal_list
chosen formal = formal_of
chosen type = name_type
chosen cast_type = cast_type_of
chosen pair = square
chosen block = braces
chosen statement = closes
chosen inner = inner_closes
chosen last = last_semicolon
chosen separator = semicolon
chosen opening = looped
chosen otherwise = alternative
chosen run = idle
chosen for_rest = three_empty
chosen three = three_parts
chosen for_tail = tail_parts
chosen for_first = expresses
chosen handler = catches
chosen closing = jump
chosen decl = declaration
chosen var = variable
chosen init = assigned
chosen body = block_body
chosen expr = expression
chosen expr_rest = assign_rest
chosen elvis = elvises
chosen elvis_rest = elvis_of
chosen unary = plain
chosen step = step_token
chosen chain = suffixed
chosen element = name_element
chosen new_rest = new_object
chosen after_bracket = empty_bracket
chosen array_rest = array_items
chosen size = size_of
chosen primary = named
chosen contents = no_entries
chosen more = more_items
chosen entry = entry_of
chosen items = items_of
chosen item = item_of
chosen postfix = access
chosen dot = dot_of
chosen member = named_member
chosen args = args_of
chosen arguments = arguments_of
chosen arg = argued
chosen ref_name = ref_word
chosen params = params_of
chosen param = bare_param
chosen lambda_body = block_lambda
chosen (binary lv.Product) = products
chosen (binary lv.Instance) = tests
chosen (binary (lv.Looser l)) = joins l
chosen (operation lv.Product) = times
chosen (operation lv.Instance) = test
chosen (operation (lv.Looser l)) = further l
chosen (comma f) = after_comma f

-- a `;` is written, and no other phrase that may be left out
abbrev pub is_asked : Form → Bool
is_asked last = true
is_asked separator = true
is_asked f = false

-- ---- what stands where nothing of these symbols is there, by the texts T of forms

abbrev pub filled : (Form → List Lexeme) → Symbol → List Lexeme
filled T (token take terminal) = any terminal ∷ []
filled T (phrase f) = T f
filled T (repeated f) = []
filled T (optional f) = cond (is_asked f) (T f) []

abbrev pub all_filled : (Form → List Lexeme) → List Symbol → List Lexeme
all_filled T [] = []
all_filled T (s ∷ ss) = filled T s ++ all_filled T ss

-- by productions nested no deeper than the number
abbrev pub text : ℕ → Form → List Lexeme
text zero f = []
text (suc d) f = all_filled (text d) (symbols (chosen f))

-- ---- before which tokens a phrase may be left out, and repeated ones end

abbrev pub is_mild : Terminal → Bool
is_mild t.LeftBracket = false
is_mild t.Else = false
is_mild terminal = true

abbrev pub starts_mild : List Lexeme → Bool
starts_mild [] = true
starts_mild (l ∷ ls) = is_mild (class_of l)

pub mild_next : (x after : List Lexeme) → starts_mild x ≡ true → is_mild (next after) ≡ true → is_mild (next (x ++ after)) ≡ true
mild_next [] after e h = h
mild_next (l ∷ x) after e h = e

pub mild_ends : (f : Form) (c : Terminal) → is_mild c ≡ true → ends f c ≡ true
mild_ends size t.LeftBracket e = absurd cc
mild_ends size _ e = refl
mild_ends _ c e = refl

mild_omits : (f : Form) (c : Terminal) → is_asked f ≡ false → is_mild c ≡ true → omits f c ≡ true
mild_omits last c i e = absurd cc
mild_omits separator c i e = absurd cc
mild_omits otherwise t.Else i e = absurd cc
mild_omits otherwise _ i e = refl
mild_omits _ c i e = refl

abbrev pub is_token : Symbol → Bool
is_token (token take terminal) = true
is_token _ = false

-- E holds of a form that is written, O of one that may be, and a lexeme is of the class that is asked for
abbrev pub fits : (Form → Bool) → (Form → Bool) → Symbol → Bool
fits E O (token take terminal) = matches terminal (class_of (any terminal))
fits E O (phrase f) = E f
fits E O (repeated f) = O f
fits E O (optional f) = cond (is_asked f) (E f) (O f)

-- and what is behind a symbol that is no token begins with a token before which phrases end
abbrev pub is_right : (Form → Bool) → (Form → Bool) → (Form → List Lexeme) → List Symbol → Bool
is_right E O T [] = true
is_right E O T (s ∷ ss) = fits E O s && ((is_token s || starts_mild (all_filled T ss)) && is_right E O T ss)

pub right_fits : (E O : Form → Bool) (T : Form → List Lexeme) (s : Symbol) (ss : List Symbol) → is_right E O T (s ∷ ss) ≡ true → fits E O s ≡ true
right_fits E O T s ss e = both_left (fits E O s) ((is_token s || starts_mild (all_filled T ss)) && is_right E O T ss) e

pub right_behind : (E O : Form → Bool) (T : Form → List Lexeme) (s : Symbol) (ss : List Symbol) → is_right E O T (s ∷ ss) ≡ true → is_token s || starts_mild (all_filled T ss) ≡ true
right_behind E O T s ss e = both_left (is_token s || starts_mild (all_filled T ss)) (is_right E O T ss) (both_right (fits E O s) ((is_token s || starts_mild (all_filled T ss)) && is_right E O T ss) e)

pub right_rest : (E O : Form → Bool) (T : Form → List Lexeme) (s : Symbol) (ss : List Symbol) → is_right E O T (s ∷ ss) ≡ true → is_right E O T ss ≡ true
right_rest E O T s ss e = both_right (is_token s || starts_mild (all_filled T ss)) (is_right E O T ss) (both_right (fits E O s) ((is_token s || starts_mild (all_filled T ss)) && is_right E O T ss) e)

-- what is next behind a symbol: it is a token, or what is next is mild
abbrev pub IsMildFor : Symbol → Terminal → Type 0
IsMildFor s c = is_token s || is_mild c ≡ true

either : (a b : Bool) (c : Bool) → (b ≡ true → c ≡ true) → a || b ≡ true → a || c ≡ true
either true b c h e = refl
either false b c h e = h e

pub mild_behind : (s : Symbol) (x after : List Lexeme) → is_token s || starts_mild x ≡ true → is_mild (next after) ≡ true → IsMildFor s (next (x ++ after))
mild_behind s x after e h = either (is_token s) (starts_mild x) (is_mild (next (x ++ after))) (λ m. mild_next x after m h) e

-- ---- it is derived

module _ (D : (f : Form) → TreeOf f → List Lexeme → List Lexeme → Type 0) (T : Form → List Lexeme) (E O : Form → Bool)
    (shortest : (f : Form) (after : List Lexeme) → E f ≡ true → is_mild (next after) ≡ true → (v : TreeOf f) × D f v (T f) after) where
  optional_filled : (f : Form) (after : List Lexeme) (b : Bool) → is_asked f ≡ b → cond b (E f) (O f) ≡ true → is_mild (next after) ≡ true
      → (v : SymbolTree (optional f)) × PlainSymbol D (optional f) v (cond b (T f) []) after
  optional_filled f after true i e h = let one = shortest f after e h in (Some one.0, one.1)
  optional_filled f after false i e h = (None, (refl, mild_omits f (next after) i h))

  pub symbol_filled : (s : Symbol) (after : List Lexeme) → fits E O s ≡ true → IsMildFor s (next after) → (v : SymbolTree s) × PlainSymbol D s v (filled T s) after
  symbol_filled (token take terminal) after e h = (taken take (any terminal), (any terminal, refl, e, refl))
  symbol_filled (phrase f) after e h = shortest f after e h
  symbol_filled (repeated f) after e h = ([], (refl, mild_ends f (next after) h))
  symbol_filled (optional f) after e h = optional_filled f after (is_asked f) refl e h

  pub symbols_filled : (ss : List Symbol) (after : List Lexeme) → is_right E O T ss ≡ true → is_mild (next after) ≡ true → (vs : Trees ss) × PlainSymbols D ss vs (all_filled T ss) after
  symbols_filled [] after e h = (tt, refl)
  symbols_filled (s ∷ ss) after e h =
      let rest = symbols_filled ss after (right_rest E O T s ss e) h in
      let one = symbol_filled s (all_filled T ss ++ after) (right_fits E O T s ss e) (mild_behind s (all_filled T ss) after (right_behind E O T s ss e) h) in
      ((one.0, rest.0), (filled T s, all_filled T ss, refl, one.1, rest.1))

-- the number of levels is enough for the form's shortest phrase
abbrev pub is_enough : ℕ → Form → Bool
is_enough zero f = false
is_enough (suc d) f = is_right (is_enough d) (λ f. true) (text d) (symbols (chosen f))

pub text_derived : (d : ℕ) (f : Form) (after : List Lexeme) → is_enough d f ≡ true → is_mild (next after) ≡ true → (v : TreeOf f) × Plain d f v (text d f) after
text_derived zero f after e h = absurd cc
text_derived (suc d) f after e h =
    let all = symbols_filled (Plain d) (text d) (is_enough d) (λ f. true) (text_derived d) (symbols (chosen f)) after e h in
    (built (chosen f) all.0, (chosen f, all.0, refl, all.1))
