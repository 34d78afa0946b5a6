-- What a production asks of the tokens ahead holds wherever its symbols are derived, if what comes next may follow its form.
use Rattle.std.proofs.Common.{◌≡◌, ℕ, zero, suc, Bool, true, false, not, ◌||◌, List, [], ◌∷◌, ◌++◌, refl, sym, ap, subst, ◌∙◌, append_assoc}
use Rattle.pl_grammar.specs.declared.terminal.Terminal.{Terminal}
use Rattle.pl_grammar.specs.declared.terminal.Terminal.TheVariants as t
use Rattle.pl_grammar.specs.declared.ahead.Seen.{Seen}
use Rattle.pl_grammar.specs.declared.ahead.Seen.TheVariants as s
use Rattle.pl_grammar.specs.Lexeme.{Lexeme, mark, text, is_known, same_terminal, class_of, next}
use Rattle.pl_grammar.specs.Ahead.{sees, seen}
use Rattle.pl_grammar.specs.Grammar.{Form, top, statement, opening, last, three, for_rest, for_first, closing, decl, var, init, expr, arg, unary, chain, cast_type, comma, TreeOf, Symbol, token, phrase, repeated, optional, Trees, Production, statements, opens, closes, three_first, declares, expresses, do_loop, declared, jump, returned, thrown, value, declaration, variable, argued, bare_param, plain, cast, bracketed, symbols}
use Rattle.pl_grammar.specs.Firsts.{first, scan, allowed, begins_expr, is_declared, is_lambda, is_reference, is_listed, is_function, is_each, is_in, is_cast}
use Rattle.pl_grammar.specs.Derives.{DerivesSymbols, Derives}
use Rattle.pl_grammar.proofs.Scan.{seen_append, seen_final}
use Rattle.pl_grammar_plain.proofs.Leads.{heads, led, leads, first_symbol}
use Rattle.pl_grammar_laws.proofs.Walks.{walk, token_walk, last_symbol}
use Rattle.pl_grammar_laws.proofs.Told.{cast_type_walk, type_from_start}
use Rattle.pl_grammar_plain.proofs.Follows.{follows, after_closing, after_expr, after_param, before_semicolon}
use Rattle.pl_grammar_plain.proofs.Rows.{comes}
use Rattle.pl_grammar_plain.proofs.Tests.{tested}
use Rattle.pl_grammar_plain.proofs.Next.{comes_next}
use Rattle.pl_grammar_plain.proofs.Calm.{goes_on, is_start, other, to_other, chain_calm, spine_calm}

abbrev is_other : Seen → Bool
is_other s.Other = true
is_other _ = false

other_is : (q : Seen) → is_other q ≡ true → q ≡ s.Other
other_is s.Other e = refl
other_is _ e = absurd cc

-- symbols that begin with a bracket that tells
opened : (n : ℕ) (q : Seen) (ss : List Symbol) (vs : Trees (token mark t.LeftParen ∷ ss)) (x after : List Lexeme) → sees q t.LeftParen ≡ s.Other → DerivesSymbols (Derives n) (token mark t.LeftParen ∷ ss) vs x after → seen q x ≡ s.Other
opened n q ss vs x after e d = walk q s.Other x d.0 d.1 d.2 (token_walk (Derives n) q mark t.LeftParen vs.0 d.0 (d.1 ++ after) refl d.3 ∙ e) ∙ other d.1

-- ---- an expression behind a `(`

abbrev in_round : Seen → Bool
in_round s.Other = true
in_round s.RoundWord = true
in_round _ = false

round_tails : (q : Seen) (c : Terminal) → in_round q ≡ true → goes_on c ≡ true → sees q c ≡ s.Other
round_tails s.Other c i e = refl
round_tails s.RoundWord c i e = other_is (sees s.RoundWord c) (tested goes_on (λ c. is_other (sees s.RoundWord c)) c refl e)
round_tails _ c i e = absurd cc

round_indexes : (q : Seen) (c : Terminal) → in_round q ≡ true → begins_expr c ≡ true → sees (sees q t.LeftBracket) c ≡ s.Other
round_indexes s.Other c i e = refl
round_indexes s.RoundWord c i e = other_is (sees s.RoundWordOpen c) (tested begins_expr (λ c. is_other (sees s.RoundWordOpen c)) c refl e)
round_indexes _ c i e = absurd cc

round_known : (c : Terminal) → is_known c ≡ true → sees s.Round c ≡ s.RoundKnown
round_known t.Basic e = refl
round_known t.Class e = refl
round_known _ e = absurd cc

round_starts : (c : Terminal) → is_start c ≡ true → sees s.Round c ≡ s.Other
round_starts c e = other_is (sees s.Round c) (tested is_start (λ c. is_other (sees s.Round c)) c refl e)

expr_in_round : (n : ℕ) (v : TreeOf expr) (x after : List Lexeme) → Derives n expr v x after → in_round (seen s.Round x) ≡ true
expr_in_round n v x after d =
    spine_calm in_round s.Round s.RoundKnown refl round_tails round_indexes refl round_known refl refl round_starts
    (λ n vs x after d. ap in_round (opened n s.Round (phrase expr ∷ token mark t.RightParen ∷ []) vs x after refl d))
    (λ n vs x after d. ap in_round (opened n s.Round (phrase cast_type ∷ token mark t.RightParen ∷ phrase unary ∷ []) vs x after refl d))
    n expr v x after refl d

-- ---- the same, where a cast might begin

other_tails : (q : Seen) (c : Terminal) → is_other q ≡ true → goes_on c ≡ true → sees q c ≡ s.Other
other_tails s.Other c i e = refl
other_tails _ c i e = absurd cc

other_indexes : (q : Seen) (c : Terminal) → is_other q ≡ true → begins_expr c ≡ true → sees (sees q t.LeftBracket) c ≡ s.Other
other_indexes s.Other c i e = refl
other_indexes _ c i e = absurd cc

cast_known : (c : Terminal) → is_known c ≡ true → sees s.CastRound c ≡ s.CastKnown
cast_known t.Basic e = refl
cast_known t.Class e = refl
cast_known _ e = absurd cc

cast_starts : (c : Terminal) → is_start c ≡ true → sees s.CastRound c ≡ s.Other
cast_starts c e = other_is (sees s.CastRound c) (tested is_start (λ c. is_other (sees s.CastRound c)) c refl e)

expr_in_cast : (n : ℕ) (v : TreeOf expr) (x after : List Lexeme) → Derives n expr v x after → is_other (seen s.CastRound x) ≡ true
expr_in_cast n v x after d =
    spine_calm is_other s.CastRound s.CastKnown refl other_tails other_indexes refl cast_known refl refl cast_starts
    (λ n vs x after d. ap is_other (opened n s.CastRound (phrase expr ∷ token mark t.RightParen ∷ []) vs x after refl d))
    (λ n vs x after d. ap is_other (opened n s.CastRound (phrase cast_type ∷ token mark t.RightParen ∷ phrase unary ∷ []) vs x after refl d))
    n expr v x after refl d

-- a chain is no cast
chain_known : (c : Terminal) → is_known c ≡ true → sees s.CastStart c ≡ s.Other
chain_known c e = other_is (sees s.CastStart c) (tested is_known (λ c. is_other (sees s.CastStart c)) c refl e)

chain_starts : (c : Terminal) → is_start c ≡ true → sees s.CastStart c ≡ s.Other
chain_starts c e = other_is (sees s.CastStart c) (tested is_start (λ c. is_other (sees s.CastStart c)) c refl e)

bracketed_no_cast : (n : ℕ) (vs : Trees (symbols bracketed)) (x after : List Lexeme) → DerivesSymbols (Derives n) (symbols bracketed) vs x after → is_other (seen s.CastStart x) ≡ true
bracketed_no_cast n vs x after d =
    ap is_other (walk s.CastStart s.CastRound x d.0 d.1 d.2 (token_walk (Derives n) s.CastStart mark t.LeftParen vs.0 d.0 (d.1 ++ after) refl d.3)
    ∙ walk s.CastRound s.Other d.1 d.4.0 d.4.1 d.4.2 (other_is (seen s.CastRound d.4.0) (expr_in_cast n vs.1.0 d.4.0 (d.4.1 ++ after) d.4.3)) ∙ other d.4.1)

chain_no_cast : (n : ℕ) (v : TreeOf chain) (x after : List Lexeme) → Derives n chain v x after → seen s.CastStart x ≡ s.Other
chain_no_cast n v x after d =
    other_is (seen s.CastStart x) (chain_calm is_other s.CastStart s.Other refl other_tails other_indexes refl chain_known refl refl chain_starts bracketed_no_cast n v x after d)

-- ---- an expression at the start of what may be a declaration or a lambda

-- nothing is told, or no more than a name, or a name in brackets
abbrev is_calm : Seen → Bool
is_calm s.Other = true
is_calm s.Word = true
is_calm s.RoundWordRound = true
is_calm _ = false

start_tails : (q : Seen) (c : Terminal) → is_calm q ≡ true → goes_on c ≡ true → sees q c ≡ s.Other
start_tails s.Other c i e = refl
start_tails s.Word c i e = other_is (sees s.Word c) (tested goes_on (λ c. is_other (sees s.Word c)) c refl e)
start_tails s.RoundWordRound c i e = other_is (sees s.RoundWordRound c) (tested goes_on (λ c. is_other (sees s.RoundWordRound c)) c refl e)
start_tails _ c i e = absurd cc

start_indexes : (q : Seen) (c : Terminal) → is_calm q ≡ true → begins_expr c ≡ true → sees (sees q t.LeftBracket) c ≡ s.Other
start_indexes s.Other c i e = refl
start_indexes s.Word c i e = other_is (sees s.WordOpen c) (tested begins_expr (λ c. is_other (sees s.WordOpen c)) c refl e)
start_indexes s.RoundWordRound c i e = refl
start_indexes _ c i e = absurd cc

start_known : (c : Terminal) → is_known c ≡ true → sees s.Start c ≡ s.Known
start_known t.Basic e = refl
start_known t.Class e = refl
start_known _ e = absurd cc

start_starts : (c : Terminal) → is_start c ≡ true → sees s.Start c ≡ s.Other
start_starts c e = other_is (sees s.Start c) (tested is_start (λ c. is_other (sees s.Start c)) c refl e)

round_closes : (q : Seen) → in_round q ≡ true → is_calm (sees q t.RightParen) ≡ true
round_closes s.Other e = refl
round_closes s.RoundWord e = refl
round_closes _ e = absurd cc

bracketed_calm : (n : ℕ) (vs : Trees (symbols bracketed)) (x after : List Lexeme) → DerivesSymbols (Derives n) (symbols bracketed) vs x after → is_calm (seen s.Start x) ≡ true
bracketed_calm n vs x after d =
    let q = seen s.Round d.4.0 in
    subst (λ (u : Seen). is_calm u ≡ true)
    (sym (walk s.Start s.Round x d.0 d.1 d.2 (token_walk (Derives n) s.Start mark t.LeftParen vs.0 d.0 (d.1 ++ after) refl d.3)
    ∙ walk s.Round q d.1 d.4.0 d.4.1 d.4.2 refl
    ∙ token_walk (Derives n) q mark t.RightParen vs.1.1.0 d.4.1 after refl (last_symbol (Derives n) (token mark t.RightParen) vs.1.1 d.4.1 after d.4.4)))
    (round_closes q (expr_in_round n vs.1.0 d.4.0 (d.4.1 ++ after) d.4.3))

cast_calm : (n : ℕ) (vs : Trees (symbols cast)) (x after : List Lexeme) → DerivesSymbols (Derives n) (symbols cast) vs x after → is_calm (seen s.Start x) ≡ true
cast_calm n vs x after d =
    ap is_calm (walk s.Start s.Round x d.0 d.1 d.2 (token_walk (Derives n) s.Start mark t.LeftParen vs.0 d.0 (d.1 ++ after) refl d.3)
    ∙ walk s.Round s.RoundKnown d.1 d.4.0 d.4.1 d.4.2 (cast_type_walk n s.Round s.RoundKnown vs.1.0 d.4.0 (d.4.1 ++ after) round_known refl d.4.3)
    ∙ walk s.RoundKnown s.Other d.4.1 d.4.4.0 d.4.4.1 d.4.4.2 (token_walk (Derives n) s.RoundKnown mark t.RightParen vs.1.1.0 d.4.4.0 (d.4.4.1 ++ after) refl d.4.4.3)
    ∙ other d.4.4.1)

-- and with what comes behind it
calm_ends : (q : Seen) (c : Terminal) → is_calm q ≡ true → after_expr c ≡ true → sees q c ≡ s.Other
calm_ends s.Other c i e = refl
calm_ends s.Word c i e = other_is (sees s.Word c) (tested after_expr (λ c. is_other (sees s.Word c)) c refl e)
calm_ends s.RoundWordRound c i e = other_is (sees s.RoundWordRound c) (tested after_expr (λ c. is_other (sees s.RoundWordRound c)) c refl e)
calm_ends _ c i e = absurd cc

calm_after : (q : Seen) (after : List Lexeme) → is_calm q ≡ true → after_expr (next after) ≡ true → is_calm (seen q after) ≡ true
calm_after q [] i e = i
calm_after q (l ∷ w) i e = ap is_calm (to_other q l (l ∷ w) w refl (calm_ends q (class_of l) i e))

expr_seen : (n : ℕ) (v : TreeOf expr) (x after : List Lexeme) → Derives n expr v x after → after_expr (next after) ≡ true → is_calm (seen s.Start (x ++ after)) ≡ true
expr_seen n v x after d e =
    subst (λ (u : Seen). is_calm u ≡ true) (sym (seen_append s.Start x after))
    (calm_after (seen s.Start x) after (spine_calm is_calm s.Start s.Known refl start_tails start_indexes refl start_known refl refl start_starts bracketed_calm cast_calm n expr v x after refl d) e)

-- ---- a declaration

abbrev is_typed : Seen → Bool
is_typed s.Typed = true
is_typed s.Declared = true
is_typed _ = false

abbrev is_told : Seen → Bool
is_told s.Declared = true
is_told _ = false

told_is : (q : Seen) → is_told q ≡ true → q ≡ s.Declared
told_is s.Declared e = refl
told_is _ e = absurd cc

-- behind the name of a variable
abbrev after_name : Terminal → Bool
after_name t.Assign = true
after_name t.Comma = true
after_name terminal = after_closing terminal

typed_after : (x : List Lexeme) → after_name (next x) ≡ true → is_typed (seen s.Typed x) ≡ true
typed_after [] e = refl
typed_after (l ∷ x) e =
    let one : sees s.Typed (class_of l) ≡ s.Declared = told_is (sees s.Typed (class_of l)) (tested after_name (λ c. is_told (sees s.Typed c)) (class_of l) refl e) in
    ap is_typed (ap (λ (q : Seen). seen q x) one ∙ seen_final s.Declared x refl)

abbrev var_tail : List Symbol
var_tail = optional init ∷ []

abbrev more_vars : List Symbol
more_vars = repeated (comma var) ∷ []

-- three lists as one
in_three : (q : Seen) (x a b c : List Lexeme) → x ≡ a ++ b → seen q (x ++ c) ≡ seen (seen q a) (b ++ c)
in_three q x a b c e = ap (λ (u : List Lexeme). seen q (u ++ c)) e ∙ ap (λ (u : List Lexeme). seen q u) (append_assoc a b c) ∙ seen_append q a (b ++ c)

var_rule : (n : ℕ) (q : Seen) (p : Production var) (vs : Trees (symbols p)) (x after : List Lexeme) → sees q t.Name ≡ s.Typed → DerivesSymbols (Derives n) (symbols p) vs x after → follows var (next after) ≡ true → is_typed (seen q (x ++ after)) ≡ true
var_rule n q variable vs x after k d e =
    let name : seen q d.0 ≡ s.Typed = token_walk (Derives n) q text t.Name vs.0 d.0 (d.1 ++ after) refl d.3 ∙ k in
    subst (λ (u : Seen). is_typed u ≡ true) (sym (in_three q x d.0 d.1 after d.2 ∙ ap (λ (u : Seen). seen u (d.1 ++ after)) name))
    (typed_after (d.1 ++ after) (tested (comes var_tail (follows var)) after_name (next (d.1 ++ after)) refl (comes_next n var_tail (follows var) vs.1 d.1 after d.4 e)))

var_seen : (n : ℕ) (q : Seen) (v : TreeOf var) (x after : List Lexeme) → sees q t.Name ≡ s.Typed → Derives n var v x after → follows var (next after) ≡ true → is_typed (seen q (x ++ after)) ≡ true
var_seen zero q v x after k d e = absurd d
var_seen (suc n) q v x after k d e = var_rule n q d.0 d.1 x after k d.4 e

decl_rule : (n : ℕ) (p : Production decl) (vs : Trees (symbols p)) (x after : List Lexeme) → DerivesSymbols (Derives n) (symbols p) vs x after → after_closing (next after) ≡ true → is_typed (seen s.Start (x ++ after)) ≡ true
decl_rule n declaration vs x after d e =
    let q = seen s.Start d.0 in
    let k : sees q t.Name ≡ s.Typed = type_from_start n vs.0 d.0 (d.1 ++ after) d.3 (λ (u : Seen). sees u t.Name ≡ s.Typed) refl refl refl in
    let behind : follows var (next (d.4.1 ++ after)) ≡ true = tested (comes more_vars after_closing) (follows var) (next (d.4.1 ++ after)) refl (comes_next n more_vars after_closing vs.1.1 d.4.1 after d.4.4 e) in
    subst (λ (u : Seen). is_typed u ≡ true) (sym (in_three s.Start x d.0 d.1 after d.2 ∙ ap (λ (u : List Lexeme). seen q (u ++ after)) d.4.2 ∙ ap (λ (u : List Lexeme). seen q u) (append_assoc d.4.0 d.4.1 after)))
    (var_seen n q vs.1.0 d.4.0 (d.4.1 ++ after) k d.4.3 behind)

decl_seen : (n : ℕ) (v : TreeOf decl) (x after : List Lexeme) → Derives n decl v x after → after_closing (next after) ≡ true → is_typed (seen s.Start (x ++ after)) ≡ true
decl_seen zero v x after d e = absurd d
decl_seen (suc n) v x after d e = decl_rule n d.0 d.1 x after d.4 e

-- ---- a statement is no function, and the first part of a head no other head

abbrev no_function : Seen → Bool
no_function q = not (is_function q)

abbrev no_each : Seen → Bool
no_each q = not (is_each q || is_in q)

calm_no_function : (q : Seen) → is_calm q ≡ true → no_function q ≡ true
calm_no_function s.Function e = absurd cc
calm_no_function _ e = refl

typed_no_function : (q : Seen) → is_typed q ≡ true → no_function q ≡ true
typed_no_function s.Function e = absurd cc
typed_no_function _ e = refl

calm_no_each : (q : Seen) → is_calm q ≡ true → no_each q ≡ true
calm_no_each s.Each e = absurd cc
calm_no_each s.In e = absurd cc
calm_no_each _ e = refl

typed_no_each : (q : Seen) → is_typed q ≡ true → no_each q ≡ true
typed_no_each s.Each e = absurd cc
typed_no_each s.In e = absurd cc
typed_no_each _ e = refl

-- a production that begins with a token that tells
starts_other : (n : ℕ) {f : Form} (p : Production f) (vs : Trees (symbols p)) (x after : List Lexeme) → ((c : Terminal) → heads (symbols p) c ≡ true → is_other (sees s.Start c) ≡ true) → DerivesSymbols (Derives n) (symbols p) vs x after → no_function (seen s.Start (x ++ after)) ≡ true
starts_other n p vs x after tells d =
    let a = first_symbol (Derives n) (leads n) (symbols p) vs x after (led p) d in
    ap no_function (to_other s.Start a.0 (x ++ after) (a.1 ++ after) (ap (λ (u : List Lexeme). u ++ after) a.2) (other_is (sees s.Start (class_of a.0)) (tells (class_of a.0) a.3)))

abbrev start_other : Terminal → Bool
start_other c = is_other (sees s.Start c)

closing_rule : (n : ℕ) (p : Production closing) (vs : Trees (symbols p)) (x after : List Lexeme) → DerivesSymbols (Derives n) (symbols p) vs x after → after_closing (next after) ≡ true → no_function (seen s.Start (x ++ after)) ≡ true
unfolding same_terminal
closing_rule n do_loop vs x after d e = starts_other n do_loop vs x after (λ c h. tested (heads (symbols do_loop)) start_other c refl h) d
closing_rule n jump vs x after d e = starts_other n jump vs x after (λ c h. tested (heads (symbols jump)) start_other c refl h) d
closing_rule n returned vs x after d e = starts_other n returned vs x after (λ c h. tested (heads (symbols returned)) start_other c refl h) d
closing_rule n thrown vs x after d e = starts_other n thrown vs x after (λ c h. tested (heads (symbols thrown)) start_other c refl h) d
closing_rule n declared vs x after d e = typed_no_function (seen s.Start (x ++ after)) (decl_seen n vs.0 x after (last_symbol (Derives n) (phrase decl) vs x after d) e)
closing_rule n value vs x after d e = calm_no_function (seen s.Start (x ++ after)) (expr_seen n vs.0 x after (last_symbol (Derives n) (phrase expr) vs x after d) (tested after_closing after_expr (next after) refl e))

closing_seen : (n : ℕ) (v : TreeOf closing) (x after : List Lexeme) → Derives n closing v x after → after_closing (next after) ≡ true → no_function (seen s.Start (x ++ after)) ≡ true
closing_seen zero v x after d e = absurd d
closing_seen (suc n) v x after d e = closing_rule n d.0 d.1 x after d.4 e

abbrev any_last : List Symbol
any_last = optional last ∷ []

statement_rule : (n : ℕ) (p : Production statement) (vs : Trees (symbols p)) (x after : List Lexeme) → DerivesSymbols (Derives n) (symbols p) vs x after → follows statement (next after) ≡ true → no_function (seen s.Start (x ++ after)) ≡ true
statement_rule n opens vs x after d e = starts_other n opens vs x after (λ c h. tested (first opening) start_other c refl h) d
statement_rule n closes vs x after d e =
    let behind : after_closing (next (d.1 ++ after)) ≡ true = tested (comes any_last (follows statement)) after_closing (next (d.1 ++ after)) refl (comes_next n any_last (follows statement) vs.1 d.1 after d.4 e) in
    let whole : x ++ after ≡ d.0 ++ (d.1 ++ after) = ap (λ (u : List Lexeme). u ++ after) d.2 ∙ append_assoc d.0 d.1 after in
    subst (λ (u : List Lexeme). no_function (seen s.Start u) ≡ true) (sym whole) (closing_seen n vs.0 d.0 (d.1 ++ after) d.3 behind)

statement_seen : (n : ℕ) (v : TreeOf statement) (x after : List Lexeme) → Derives n statement v x after → follows statement (next after) ≡ true → no_function (seen s.Start (x ++ after)) ≡ true
statement_seen zero v x after d e = absurd d
statement_seen (suc n) v x after d e = statement_rule n d.0 d.1 x after d.4 e

first_rule : (n : ℕ) (p : Production for_first) (vs : Trees (symbols p)) (x after : List Lexeme) → DerivesSymbols (Derives n) (symbols p) vs x after → before_semicolon (next after) ≡ true → no_each (seen s.Start (x ++ after)) ≡ true
first_rule n declares vs x after d e = typed_no_each (seen s.Start (x ++ after)) (decl_seen n vs.0 x after (last_symbol (Derives n) (phrase decl) vs x after d) (tested before_semicolon after_closing (next after) refl e))
first_rule n expresses vs x after d e = calm_no_each (seen s.Start (x ++ after)) (expr_seen n vs.0 x after (last_symbol (Derives n) (phrase expr) vs x after d) (tested before_semicolon after_expr (next after) refl e))

first_seen : (n : ℕ) (v : TreeOf for_first) (x after : List Lexeme) → Derives n for_first v x after → before_semicolon (next after) ≡ true → no_each (seen s.Start (x ++ after)) ≡ true
first_seen zero v x after d e = absurd d
first_seen (suc n) v x after d e = first_rule n d.0 d.1 x after d.4 e

-- ---- what is asked for follows

statements_by : (c : Terminal) (q : Seen) → no_function q ≡ true → allowed statements c q ≡ true
statements_by t.Name q e = e
statements_by t.Basic q e = e
statements_by t.Class q e = e
statements_by _ q e = refl

no_either : (a b : Bool) → not (a || b) ≡ true → not a ≡ true
no_either true b e = absurd cc
no_either false b e = refl

three_by : (c : Terminal) (q : Seen) → no_each q ≡ true → allowed three_first c q ≡ true
three_by t.Name q e = e
three_by t.Basic q e = no_either (is_each q) (is_in q) e
three_by t.Class q e = no_either (is_each q) (is_in q) e
three_by _ q e = refl

calm_undeclared : (q : Seen) → is_calm q ≡ true → not (is_declared q) ≡ true
calm_undeclared s.Other e = refl
calm_undeclared s.Word e = refl
calm_undeclared s.RoundWordRound e = refl
calm_undeclared _ e = absurd cc

calm_argument : (q : Seen) → is_calm q ≡ true → not (is_lambda q || is_reference q) ≡ true
calm_argument s.Other e = refl
calm_argument s.Word e = refl
calm_argument s.RoundWordRound e = refl
calm_argument _ e = absurd cc

calm_unlisted : (q : Seen) → is_calm q ≡ true → not (is_listed q) ≡ true
calm_unlisted s.Other e = refl
calm_unlisted s.Word e = refl
calm_unlisted s.RoundWordRound e = refl
calm_unlisted _ e = absurd cc

expresses_by : (c : Terminal) (q : Seen) → is_calm q ≡ true → allowed expresses c q ≡ true
expresses_by t.Name q e = calm_undeclared q e
expresses_by t.Basic q e = calm_undeclared q e
expresses_by t.Class q e = calm_undeclared q e
expresses_by _ q e = refl

value_by : (c : Terminal) (q : Seen) → is_calm q ≡ true → allowed value c q ≡ true
value_by t.Name q e = calm_undeclared q e
value_by t.Basic q e = calm_undeclared q e
value_by t.Class q e = calm_undeclared q e
value_by _ q e = refl

argued_by : (c : Terminal) (q : Seen) → is_calm q ≡ true → allowed argued c q ≡ true
argued_by t.Name q e = calm_argument q e
argued_by t.Basic q e = calm_argument q e
argued_by t.Class q e = calm_argument q e
argued_by t.LeftParen q e = calm_unlisted q e
argued_by _ q e = refl

-- a name before what follows a parameter
param_seen : (after : List Lexeme) → after_param (next after) ≡ true → not (is_declared (seen s.ParamWord after)) ≡ true
param_seen [] e = refl
param_seen (l ∷ w) e =
    let one : sees s.ParamWord (class_of l) ≡ s.Other = other_is (sees s.ParamWord (class_of l)) (tested after_param (λ c. is_other (sees s.ParamWord c)) (class_of l) refl e) in
    ap (λ (q : Seen). not (is_declared q)) (to_other s.ParamWord l (l ∷ w) w refl one)

bare_by : (c : Terminal) (q : Seen) → not (is_declared q) ≡ true → allowed bare_param c q ≡ true
bare_by t.Name q e = e
bare_by _ q e = refl

plain_by : (c : Terminal) (q : Seen) → q ≡ s.Other → allowed plain c q ≡ true
plain_by t.LeftParen q e = ap (λ (u : Seen). not (is_cast u)) e
plain_by _ q e = refl

abbrev one_three : List Symbol
one_three = phrase three ∷ []

abbrev more_statements : List Symbol
more_statements = repeated statement ∷ []

pub allows : (n : ℕ) {f : Form} (p : Production f) (vs : Trees (symbols p)) (x after : List Lexeme) → DerivesSymbols (Derives n) (symbols p) vs x after → follows f (next after) ≡ true → allowed p (next (x ++ after)) (seen (scan f) (x ++ after)) ≡ true
allows n statements vs x after d e =
    let behind : follows statement (next (d.1 ++ after)) ≡ true = tested (comes more_statements (follows top)) (follows statement) (next (d.1 ++ after)) refl (comes_next n more_statements (follows top) vs.1 d.1 after d.4 e) in
    let whole : x ++ after ≡ d.0 ++ (d.1 ++ after) = ap (λ (u : List Lexeme). u ++ after) d.2 ∙ append_assoc d.0 d.1 after in
    statements_by (next (x ++ after)) (seen s.Start (x ++ after)) (subst (λ (u : List Lexeme). no_function (seen s.Start u) ≡ true) (sym whole) (statement_seen n vs.0 d.0 (d.1 ++ after) d.3 behind))
allows n three_first vs x after d e =
    let behind : before_semicolon (next (d.1 ++ after)) ≡ true = tested (comes one_three (follows for_rest)) before_semicolon (next (d.1 ++ after)) refl (comes_next n one_three (follows for_rest) vs.1 d.1 after d.4 e) in
    let whole : x ++ after ≡ d.0 ++ (d.1 ++ after) = ap (λ (u : List Lexeme). u ++ after) d.2 ∙ append_assoc d.0 d.1 after in
    three_by (next (x ++ after)) (seen s.Start (x ++ after)) (subst (λ (u : List Lexeme). no_each (seen s.Start u) ≡ true) (sym whole) (first_seen n vs.0 d.0 (d.1 ++ after) d.3 behind))
allows n expresses vs x after d e = expresses_by (next (x ++ after)) (seen s.Start (x ++ after)) (expr_seen n vs.0 x after (last_symbol (Derives n) (phrase expr) vs x after d) (tested before_semicolon after_expr (next after) refl e))
allows n value vs x after d e = value_by (next (x ++ after)) (seen s.Start (x ++ after)) (expr_seen n vs.0 x after (last_symbol (Derives n) (phrase expr) vs x after d) (tested after_closing after_expr (next after) refl e))
allows n argued vs x after d e = argued_by (next (x ++ after)) (seen s.Start (x ++ after)) (expr_seen n vs.0 x after (last_symbol (Derives n) (phrase expr) vs x after d) (tested (follows arg) after_expr (next after) refl e))
allows n bare_param vs x after d e =
    let name : seen s.Param x ≡ s.ParamWord = token_walk (Derives n) s.Param text t.Name vs.0 x after refl (last_symbol (Derives n) (token text t.Name) vs x after d) in
    bare_by (next (x ++ after)) (seen s.Param (x ++ after))
    (subst (λ (q : Seen). not (is_declared q) ≡ true) (sym (seen_append s.Param x after ∙ ap (λ (q : Seen). seen q after) name)) (param_seen after e))
allows n plain vs x after d e =
    let one : seen s.CastStart x ≡ s.Other = walk s.CastStart s.Other x d.0 d.1 d.2 (chain_no_cast n vs.0 d.0 (d.1 ++ after) d.3) ∙ other d.1 in
    plain_by (next (x ++ after)) (seen s.CastStart (x ++ after)) (seen_append s.CastStart x after ∙ ap (λ (q : Seen). seen q after) one ∙ other after)
allows n _ vs x after d e = refl
