-- What is told of a production that is there whole.
use Rattle.std.proofs.Common.{◌≡◌, ℕ, zero, suc, Bool, true, false, not, ◌||◌, List, [], ◌∷◌, ◌++◌, refl, sym, ap, subst, ◌∙◌, append_assoc, inl, inr, ◌⊎◌}
use Rattle.pl_grammar.specs.declared.terminal.Terminal.{Terminal}
use Rattle.pl_grammar.specs.declared.terminal.Terminal.TheVariants as t
use Rattle.pl_grammar.specs.declared.ahead.Seen.{Seen}
use Rattle.pl_grammar.specs.declared.ahead.Seen.TheVariants as s
use Rattle.pl_grammar.specs.Lexeme.{Lexeme, mark, text, same_terminal, class_of, next}
use Rattle.pl_grammar.specs.Ahead.{sees, seen, is_final}
use Rattle.pl_grammar.specs.Grammar.{Form, statement, opening, three, closing, decl, body, expr, unary, postfix, param, TreeOf, token, phrase, Trees, Production, functions, statements, opens, closes, three_empty, three_first, each_of, each_in, three_parts, declares, expresses, do_loop, declared, jump, returned, thrown, value, prefix, signed, negated, cast, plain, argued, lambda, lambdas, reference, this_reference, typed_param, bare_param, symbols, built}
use Rattle.pl_grammar.specs.Firsts.{first, scan, allowed, fits, is_declared, is_lambda, is_reference, is_listed, is_function, is_each, is_in, is_cast, is_open}
use Rattle.pl_grammar.specs.Derives.{DerivesSymbols, Derives}
use Rattle.pl_grammar_laws.proofs.Certificates.{same_is, settled, led, heads}
use Rattle.pl_grammar_laws.proofs.Fitting.{reference_fits, in_fits}
use Rattle.pl_grammar.proofs.Scan.{seen_append, seen_final}
use Rattle.pl_grammar_laws.proofs.Sound.{leads, first_symbol}
use Rattle.pl_grammar_laws.proofs.Walks.{walk, token_walk, last_symbol, Has, has_after, symbols_have, brackets_close, keeps, arrow_settles, colons_settles, in_settles, semicolon_settles, colon_settles, dot_settles, cast_settles, round_settles, from_first, final_more, other_final}
use Rattle.pl_grammar_laws.proofs.Told.{cast_type_walk, known_at_cast, type_from_start, type_from_param, head_typed, decl_firm, decl_told, function_walk, param_from_start, any_params}
use Rattle.pl_grammar_laws.proofs.Spine.{word_expr, basic_dot, class_dot}

-- ---- expressions

-- a type and a name were seen
abbrev is_typed : Seen → Bool
is_typed s.Typed = true
is_typed s.Declared = true
is_typed s.Function = true
is_typed s.Each = true
is_typed _ = false

typed_stays : (q : Seen) (k : Terminal) → is_typed q ≡ true → is_typed (sees q k) ≡ true
typed_stays s.Typed t.LeftParen e = refl
typed_stays s.Typed t.Colon e = refl
typed_stays s.Typed _ e = refl
typed_stays s.Declared k e = refl
typed_stays s.Function k e = refl
typed_stays s.Each k e = refl
typed_stays _ k e = absurd cc

-- what tells that a name alone is no type
name_follows : (c : Terminal) (w : List Lexeme) → first postfix c ≡ false → is_typed (seen (sees s.Word c) w) ≡ false → is_final (sees s.Word c) ≡ true
name_follows t.Name w f e = absurd (clash (is_typed (seen s.Typed w)) (keeps is_typed t.End typed_stays s.Typed w refl) e)
  where
    clash : (b : Bool) → b ≡ true → b ≡ false → ⊥
    clash true p q = cc
    clash false p q = cc
name_follows t.LeftBracket w f e = absurd cc
name_follows t.Arrow w f e = refl
name_follows t.In w f e = refl
name_follows t.ColonColon w f e = refl
name_follows _ w f e = refl

tail_has : (l : Lexeme) (x : List Lexeme) → class_of l ≡ t.LeftParen → Has t.RightParen (l ∷ x) → Has t.RightParen x
tail_has l x k h = by h.0 h.3
  where
    cons : Lexeme → List Lexeme → List Lexeme
    cons l ls = l ∷ ls

    same_parts : (a b : Lexeme) (y z : List Lexeme) → cons a y ≡ cons b z → (a ≡ b) × (y ≡ z)
    same_parts a b y z e = (cc, cc)

    by : (a : List Lexeme) → l ∷ x ≡ a ++ h.1 ∷ h.2 → Has t.RightParen x
    by [] e = absurd (paren (sym k ∙ ap class_of (same_parts l h.1 x h.2 e).0 ∙ h.4))
      where
        paren : t.LeftParen ≡ t.RightParen → ⊥
        paren e = cc
    by (b ∷ a) e = (a, h.1, h.2, (same_parts l b x (a ++ h.1 ∷ h.2) e).1, h.4)

-- the class of what an expression begins with
data Begin (c : Terminal) : Type 0 where
  name : c ≡ t.Name → Begin c
  basic : c ≡ t.Basic → Begin c
  klass : c ≡ t.Class → Begin c
  paren : c ≡ t.LeftParen → Begin c

start_first : (c : Terminal) → Begin c ⊎ (is_final (sees s.Start c) ≡ true)
start_first t.Name = inl (name refl)
start_first t.Basic = inl (basic refl)
start_first t.Class = inl (klass refl)
start_first t.LeftParen = inl (paren refl)
start_first _ = inr refl

expr_from : (n : ℕ) (v : TreeOf expr) (k : Lexeme) (x : List Lexeme) (l : Lexeme) (w : List Lexeme) → Begin (class_of k) → Derives n expr v (k ∷ x) (l ∷ w) → is_typed (seen s.Start (k ∷ (x ++ l ∷ w))) ≡ false → is_final (seen s.Start (k ∷ (x ++ l ∷ w))) ≡ true
expr_from n v k x l w (name e) h un =
    let same : seen s.Start (k ∷ (x ++ l ∷ w)) ≡ seen s.Word (x ++ l ∷ w) = ap (λ (c : Terminal). seen (sees s.Start c) (x ++ l ∷ w)) e in
    subst (λ (q : Seen). is_final q ≡ true) (sym same)
    (elim (word_expr n expr v k x (l ∷ w) refl e h) [
      | inr told ↦ final_more s.Word x (l ∷ w) told
      | inl bare ↦
          let alone : x ++ l ∷ w ≡ l ∷ w = ap (λ (u : List Lexeme). u ++ l ∷ w) bare.0 in
          let other : is_typed (seen (sees s.Word (class_of l)) w) ≡ false = subst (λ (q : Seen). is_typed q ≡ false) (same ∙ ap (λ (u : List Lexeme). seen s.Word u) alone) un in
          subst (λ (u : List Lexeme). is_final (seen s.Word u) ≡ true) (sym alone) (from_first s.Word l w (name_follows (class_of l) w bare.1 other))
    ])
expr_from n v k x l w (basic e) h un = final_more s.Start (k ∷ x) (l ∷ w) (dot_settles s.Start (k ∷ x) (basic_dot n expr v (k ∷ x) (l ∷ w) refl e h))
expr_from n v k x l w (klass e) h un = final_more s.Start (k ∷ x) (l ∷ w) (dot_settles s.Start (k ∷ x) (class_dot n expr v (k ∷ x) (l ∷ w) refl e h))
expr_from n v k x l w (paren e) h un =
    let same : seen s.Start (k ∷ (x ++ l ∷ w)) ≡ seen s.Round (x ++ l ∷ w) = ap (λ (c : Terminal). seen (sees s.Start c) (x ++ l ∷ w)) e in
    subst (λ (q : Seen). is_final q ≡ true) (sym same) (round_settles s.Round x l w refl (tail_has k x e (brackets_close n expr v (k ∷ x) (l ∷ w) h e)))

-- an expression with a token after it is no open head, where no type and name were seen
expr_firm : (n : ℕ) (v : TreeOf expr) (x : List Lexeme) (l : Lexeme) (w : List Lexeme) → Derives n expr v x (l ∷ w) → is_typed (seen s.Start (x ++ l ∷ w)) ≡ false → is_final (seen s.Start (x ++ l ∷ w)) ≡ true
expr_firm n v x l w h un =
    let a = leads n expr v x (l ∷ w) h in
    let at : x ++ l ∷ w ≡ a.0 ∷ (a.1 ++ l ∷ w) = ap (λ (u : List Lexeme). u ++ l ∷ w) a.2 in
    subst (λ (u : List Lexeme). is_final (seen s.Start u) ≡ true) (sym at)
    (elim (start_first (class_of a.0)) [
      | inl b ↦ expr_from n v a.0 a.1 l w b (subst (λ (u : List Lexeme). Derives n expr v u (l ∷ w)) a.2 h) (subst (λ (u : List Lexeme). is_typed (seen s.Start u) ≡ false) at un)
      | inr told ↦ from_first s.Start a.0 (a.1 ++ l ∷ w) told
    ])

undeclared : (q : Seen) → not (is_declared q) ≡ true → is_typed q ≡ false
undeclared s.Typed e = absurd cc
undeclared s.Declared e = absurd cc
undeclared s.Function e = absurd cc
undeclared s.Each e = absurd cc
undeclared _ e = refl

no_lambda : (q : Seen) → not (is_lambda q || is_reference q) ≡ true → is_typed q ≡ false
no_lambda s.Typed e = absurd cc
no_lambda s.Declared e = absurd cc
no_lambda s.Function e = absurd cc
no_lambda s.Each e = absurd cc
no_lambda _ e = refl

-- brackets and other beginnings see no type and name
abbrev untyped : Seen → Bool
untyped s.Round = true
untyped s.RoundWord = true
untyped s.RoundWordRound = true
untyped s.RoundWordOpen = true
untyped s.RoundKnown = true
untyped s.RoundKnownOpen = true
untyped s.Listed = true
untyped s.Other = true
untyped _ = false

untyped_stays : (q : Seen) (k : Terminal) → untyped q ≡ true → untyped (sees q k) ≡ true
untyped_stays s.Round t.Name e = refl
untyped_stays s.Round t.Basic e = refl
untyped_stays s.Round t.Class e = refl
untyped_stays s.Round t.RightParen e = refl
untyped_stays s.Round _ e = refl
untyped_stays s.RoundWord t.Name e = refl
untyped_stays s.RoundWord t.Comma e = refl
untyped_stays s.RoundWord t.RightParen e = refl
untyped_stays s.RoundWord t.LeftBracket e = refl
untyped_stays s.RoundWord _ e = refl
untyped_stays s.RoundWordRound t.Arrow e = refl
untyped_stays s.RoundWordRound _ e = refl
untyped_stays s.RoundWordOpen t.RightBracket e = refl
untyped_stays s.RoundWordOpen _ e = refl
untyped_stays s.RoundKnown t.LeftBracket e = refl
untyped_stays s.RoundKnown t.Name e = refl
untyped_stays s.RoundKnown _ e = refl
untyped_stays s.RoundKnownOpen t.RightBracket e = refl
untyped_stays s.RoundKnownOpen _ e = refl
untyped_stays s.Listed k e = refl
untyped_stays s.Other k e = refl
untyped_stays _ k e = absurd cc

untyped_not : (q : Seen) → untyped q ≡ true → is_typed q ≡ false
untyped_not s.Typed e = absurd cc
untyped_not s.Declared e = absurd cc
untyped_not s.Function e = absurd cc
untyped_not s.Each e = absurd cc
untyped_not _ e = refl

no_type : (q : Seen) (x : List Lexeme) → untyped q ≡ true → is_typed (seen q x) ≡ false
no_type q x e = untyped_not (seen q x) (keeps untyped t.End untyped_stays q x e)

start_typed : (c : Terminal) (x : List Lexeme) → (Begin c → is_typed (seen (sees s.Start c) x) ≡ false) → is_typed (seen (sees s.Start c) x) ≡ false
start_typed t.Name x h = h (name refl)
start_typed t.Basic x h = h (basic refl)
start_typed t.Class x h = h (klass refl)
start_typed t.LeftParen x h = no_type s.Round x refl
start_typed _ x h = no_type s.Other x refl

value_begin : (c : Terminal) (q : Seen) (x : List Lexeme) → Begin c → seen (sees s.Start c) x ≡ q → allowed value c q ≡ true → is_typed q ≡ false
value_begin c q x (name k) is e = undeclared q (subst (λ (c : Terminal). allowed value c q ≡ true) k e)
value_begin c q x (basic k) is e = undeclared q (subst (λ (c : Terminal). allowed value c q ≡ true) k e)
value_begin c q x (klass k) is e = undeclared q (subst (λ (c : Terminal). allowed value c q ≡ true) k e)
value_begin c q x (paren k) is e = subst (λ (p : Seen). is_typed p ≡ false) is (subst (λ (c : Terminal). is_typed (seen (sees s.Start c) x) ≡ false) (sym k) (no_type s.Round x refl))

value_firm : (n : ℕ) (v : TreeOf expr) (x : List Lexeme) (l : Lexeme) (w : List Lexeme) → Derives n expr v x (l ∷ w) → allowed value (next (x ++ l ∷ w)) (seen s.Start (x ++ l ∷ w)) ≡ true → is_final (seen s.Start (x ++ l ∷ w)) ≡ true
value_firm n v x l w h e =
    let a = leads n expr v x (l ∷ w) h in
    let at : x ++ l ∷ w ≡ a.0 ∷ (a.1 ++ l ∷ w) = ap (λ (u : List Lexeme). u ++ l ∷ w) a.2 in
    let may : allowed value (class_of a.0) (seen s.Start (a.0 ∷ (a.1 ++ l ∷ w))) ≡ true = subst (λ (u : List Lexeme). allowed value (next u) (seen s.Start u) ≡ true) at e in
    expr_firm n v x l w h (subst (λ (u : List Lexeme). is_typed (seen s.Start u) ≡ false) (sym at)
    (start_typed (class_of a.0) (a.1 ++ l ∷ w) (λ b. value_begin (class_of a.0) (seen s.Start (a.0 ∷ (a.1 ++ l ∷ w))) (a.1 ++ l ∷ w) b refl may)))

expresses_begin : (c : Terminal) (q : Seen) (x : List Lexeme) → Begin c → seen (sees s.Start c) x ≡ q → allowed expresses c q ≡ true → is_typed q ≡ false
expresses_begin c q x (name k) is e = undeclared q (subst (λ (c : Terminal). allowed expresses c q ≡ true) k e)
expresses_begin c q x (basic k) is e = undeclared q (subst (λ (c : Terminal). allowed expresses c q ≡ true) k e)
expresses_begin c q x (klass k) is e = undeclared q (subst (λ (c : Terminal). allowed expresses c q ≡ true) k e)
expresses_begin c q x (paren k) is e = subst (λ (p : Seen). is_typed p ≡ false) is (subst (λ (c : Terminal). is_typed (seen (sees s.Start c) x) ≡ false) (sym k) (no_type s.Round x refl))

expresses_firm : (n : ℕ) (v : TreeOf expr) (x : List Lexeme) (l : Lexeme) (w : List Lexeme) → Derives n expr v x (l ∷ w) → allowed expresses (next (x ++ l ∷ w)) (seen s.Start (x ++ l ∷ w)) ≡ true → is_final (seen s.Start (x ++ l ∷ w)) ≡ true
expresses_firm n v x l w h e =
    let a = leads n expr v x (l ∷ w) h in
    let at : x ++ l ∷ w ≡ a.0 ∷ (a.1 ++ l ∷ w) = ap (λ (u : List Lexeme). u ++ l ∷ w) a.2 in
    let may : allowed expresses (class_of a.0) (seen s.Start (a.0 ∷ (a.1 ++ l ∷ w))) ≡ true = subst (λ (u : List Lexeme). allowed expresses (next u) (seen s.Start u) ≡ true) at e in
    expr_firm n v x l w h (subst (λ (u : List Lexeme). is_typed (seen s.Start u) ≡ false) (sym at)
    (start_typed (class_of a.0) (a.1 ++ l ∷ w) (λ b. expresses_begin (class_of a.0) (seen s.Start (a.0 ∷ (a.1 ++ l ∷ w))) (a.1 ++ l ∷ w) b refl may)))

argued_begin : (c : Terminal) (q : Seen) (x : List Lexeme) → Begin c → seen (sees s.Start c) x ≡ q → allowed argued c q ≡ true → is_typed q ≡ false
argued_begin c q x (name k) is e = no_lambda q (subst (λ (c : Terminal). allowed argued c q ≡ true) k e)
argued_begin c q x (basic k) is e = no_lambda q (subst (λ (c : Terminal). allowed argued c q ≡ true) k e)
argued_begin c q x (klass k) is e = no_lambda q (subst (λ (c : Terminal). allowed argued c q ≡ true) k e)
argued_begin c q x (paren k) is e = subst (λ (p : Seen). is_typed p ≡ false) is (subst (λ (c : Terminal). is_typed (seen (sees s.Start c) x) ≡ false) (sym k) (no_type s.Round x refl))

argued_firm : (n : ℕ) (v : TreeOf expr) (x : List Lexeme) (l : Lexeme) (w : List Lexeme) → Derives n expr v x (l ∷ w) → allowed argued (next (x ++ l ∷ w)) (seen s.Start (x ++ l ∷ w)) ≡ true → is_final (seen s.Start (x ++ l ∷ w)) ≡ true
argued_firm n v x l w h e =
    let a = leads n expr v x (l ∷ w) h in
    let at : x ++ l ∷ w ≡ a.0 ∷ (a.1 ++ l ∷ w) = ap (λ (u : List Lexeme). u ++ l ∷ w) a.2 in
    let may : allowed argued (class_of a.0) (seen s.Start (a.0 ∷ (a.1 ++ l ∷ w))) ≡ true = subst (λ (u : List Lexeme). allowed argued (next u) (seen s.Start u) ≡ true) at e in
    expr_firm n v x l w h (subst (λ (u : List Lexeme). is_typed (seen s.Start u) ≡ false) (sym at)
    (start_typed (class_of a.0) (a.1 ++ l ∷ w) (λ b. argued_begin (class_of a.0) (seen s.Start (a.0 ∷ (a.1 ++ l ∷ w))) (a.1 ++ l ∷ w) b refl may)))

-- ---- a production that begins with a token that tells

token_first : (n : ℕ) {f : Form} (p : Production f) (vs : Trees (symbols p)) (x after : List Lexeme) (q : Seen) → ((c : Terminal) → heads (symbols p) c ≡ true → is_final (sees q c) ≡ true) → DerivesSymbols (Derives n) (symbols p) vs x after → (y : List Lexeme) → is_final (seen q (x ++ y)) ≡ true
token_first n p vs x after q tells d y =
    let a = first_symbol (Derives n) (leads n) (symbols p) vs x after (led p) d in
    subst (λ (u : List Lexeme). is_final (seen q (u ++ y)) ≡ true) (sym a.2) (from_first q a.0 (a.1 ++ y) (tells (class_of a.0) a.3))

tells : (w c : Terminal) (q : Seen) → is_final (sees q w) ≡ true → same_terminal c w ≡ true → is_final (sees q c) ≡ true
tells w c q e h = subst (λ (k : Terminal). is_final (sees q k) ≡ true) (sym (same_is c w h)) e

opening_tells : (c : Terminal) → first opening c ≡ true → is_final (sees s.Start c) ≡ true
opening_tells t.If e = refl
opening_tells t.While e = refl
opening_tells t.For e = refl
opening_tells t.Try e = refl
opening_tells _ e = absurd cc

-- ---- statements

closing_rule : (n : ℕ) (p : Production closing) (vs : Trees (symbols p)) (x : List Lexeme) (l : Lexeme) (w : List Lexeme) → DerivesSymbols (Derives n) (symbols p) vs x (l ∷ w) → allowed p (next (x ++ l ∷ w)) (seen s.Start (x ++ l ∷ w)) ≡ true → is_final (seen s.Start (x ++ l ∷ w)) ≡ true
closing_rule n do_loop vs x l w d e = token_first n do_loop vs x (l ∷ w) s.Start (λ c h. tells t.Do c s.Start refl h) d (l ∷ w)
closing_rule n declared vs x l w d e = decl_firm n vs.0 x l w (last_symbol (Derives n) (phrase decl) vs x (l ∷ w) d)
closing_rule n jump vs x l w d e = token_first n jump vs x (l ∷ w) s.Start (λ c h. tells t.Jump c s.Start refl h) d (l ∷ w)
closing_rule n returned vs x l w d e = token_first n returned vs x (l ∷ w) s.Start (λ c h. tells t.Return c s.Start refl h) d (l ∷ w)
closing_rule n thrown vs x l w d e = token_first n thrown vs x (l ∷ w) s.Start (λ c h. tells t.Throw c s.Start refl h) d (l ∷ w)
closing_rule n value vs x l w d e = value_firm n vs.0 x l w (last_symbol (Derives n) (phrase expr) vs x (l ∷ w) d) e

closing_firm : (n : ℕ) (v : TreeOf closing) (x : List Lexeme) (l : Lexeme) (w : List Lexeme) → Derives n closing v x (l ∷ w) → is_final (seen s.Start (x ++ l ∷ w)) ≡ true
closing_firm zero v x l w h = absurd h
closing_firm (suc n) v x l w h = closing_rule n h.0 h.1 x l w h.4 h.3

statement_rule : (n : ℕ) (p : Production statement) (vs : Trees (symbols p)) (x : List Lexeme) (l : Lexeme) (w : List Lexeme) → DerivesSymbols (Derives n) (symbols p) vs x (l ∷ w) → is_final (seen s.Start (x ++ l ∷ w)) ≡ true
statement_rule n opens vs x l w d = token_first n opens vs x (l ∷ w) s.Start opening_tells d (l ∷ w)
statement_rule n closes vs x l w d = by d.1 d.2 d.3
  where
    by : (rest : List Lexeme) → x ≡ d.0 ++ rest → Derives n closing vs.0 d.0 (rest ++ l ∷ w) → is_final (seen s.Start (x ++ l ∷ w)) ≡ true
    by [] e h = subst (λ (u : List Lexeme). is_final (seen s.Start u) ≡ true) (sym (ap (λ (u : List Lexeme). u ++ l ∷ w) e ∙ append_assoc d.0 [] (l ∷ w))) (closing_firm n vs.0 d.0 l w h)
    by (k ∷ rest) e h = subst (λ (u : List Lexeme). is_final (seen s.Start u) ≡ true) (sym (ap (λ (u : List Lexeme). u ++ l ∷ w) e ∙ append_assoc d.0 (k ∷ rest) (l ∷ w))) (closing_firm n vs.0 d.0 k (rest ++ l ∷ w) h)

statement_firm : (n : ℕ) (v : TreeOf statement) (x : List Lexeme) (l : Lexeme) (w : List Lexeme) → Derives n statement v x (l ∷ w) → is_final (seen s.Start (x ++ l ∷ w)) ≡ true
statement_firm zero v x l w h = absurd h
statement_firm (suc n) v x l w h = statement_rule n h.0 h.1 x l w h.4

statements_firm : (n : ℕ) (vs : Trees (symbols statements)) (x : List Lexeme) (l : Lexeme) (w : List Lexeme) → DerivesSymbols (Derives n) (symbols statements) vs x (l ∷ w) → is_final (seen s.Start (x ++ l ∷ w)) ≡ true
statements_firm n vs x l w d = by d.1 d.2 d.3
  where
    by : (rest : List Lexeme) → x ≡ d.0 ++ rest → Derives n statement vs.0 d.0 (rest ++ l ∷ w) → is_final (seen s.Start (x ++ l ∷ w)) ≡ true
    by [] e h = subst (λ (u : List Lexeme). is_final (seen s.Start u) ≡ true) (sym (ap (λ (u : List Lexeme). u ++ l ∷ w) e ∙ append_assoc d.0 [] (l ∷ w))) (statement_firm n vs.0 d.0 l w h)
    by (k ∷ rest) e h = subst (λ (u : List Lexeme). is_final (seen s.Start u) ≡ true) (sym (ap (λ (u : List Lexeme). u ++ l ∷ w) e ∙ append_assoc d.0 (k ∷ rest) (l ∷ w))) (statement_firm n vs.0 d.0 k (rest ++ l ∷ w) h)

-- ---- heads

three_has : (n : ℕ) (v : TreeOf three) (x after : List Lexeme) → Derives n three v x after → Has t.Semicolon x
unfolding same_terminal
three_has zero v x after h = absurd h
three_has (suc n) v x after h = by h.0 h.1 h.4
  where
    by : (p : Production three) (vs : Trees (symbols p)) → DerivesSymbols (Derives n) (symbols p) vs x after → Has t.Semicolon x
    by three_parts vs d = symbols_have (Derives n) t.Semicolon (symbols three_parts) vs x after refl refl d

param_two : (a b : Terminal) → is_final (sees (sees s.Param a) b) ≡ true
param_two t.Name t.Name = refl
param_two t.Name t.LeftBracket = refl
param_two t.Name _ = refl
param_two t.Basic b = refl
param_two t.Class b = refl
param_two _ b = refl

param_firm : (n : ℕ) (p : Production param) (vs : Trees (symbols p)) (x : List Lexeme) (l : Lexeme) (w : List Lexeme) → DerivesSymbols (Derives n) (symbols p) vs x (l ∷ w) → is_final (seen s.Param (x ++ l ∷ w)) ≡ true
param_firm n p vs x l w d =
    let a = first_symbol (Derives n) (leads n) (symbols p) vs x (l ∷ w) (led p) d in
    subst (λ (u : List Lexeme). is_final (seen s.Param (u ++ l ∷ w)) ≡ true) (sym a.2) (two a.0 a.1)
  where
    two : (k : Lexeme) (y : List Lexeme) → is_final (seen s.Param (k ∷ (y ++ l ∷ w))) ≡ true
    two k [] = from_first (sees s.Param (class_of k)) l w (param_two (class_of k) (class_of l))
    two k (j ∷ y) = from_first (sees s.Param (class_of k)) j (y ++ l ∷ w) (param_two (class_of k) (class_of j))

cast_first : (c : Terminal) → (c ≡ t.LeftParen) ⊎ (is_final (sees s.CastStart c) ≡ true)
cast_first t.LeftParen = inl refl
cast_first _ = inr refl

unary_firm : (n : ℕ) (v : TreeOf unary) (x : List Lexeme) (after y : List Lexeme) → Derives n unary v x after → is_final (seen s.CastStart (x ++ y)) ≡ true
unary_firm n v x after y h =
    let a = leads n unary v x after h in
    elim (cast_first (class_of a.0)) [
      | inl round ↦ final_more s.CastStart x y (cast_settles s.CastStart x refl (brackets_close n unary v x after h (ap next a.2 ∙ round)))
      | inr told ↦ subst (λ (u : List Lexeme). is_final (seen s.CastStart (u ++ y)) ≡ true) (sym a.2) (from_first s.CastStart a.0 (a.1 ++ y) told)
    ]

-- ---- with one token after it nothing is open

pub firm : (n : ℕ) {f : Form} (p : Production f) (vs : Trees (symbols p)) (x : List Lexeme) (l : Lexeme) (w : List Lexeme) → DerivesSymbols (Derives n) (symbols p) vs x (l ∷ w) → allowed p (next (x ++ l ∷ w)) (seen (scan f) (x ++ l ∷ w)) ≡ true → is_final (seen (scan f) (x ++ l ∷ w)) ≡ true
unfolding same_terminal
firm n functions vs x l w d e = final_more s.Start x (l ∷ w) (subst (λ (q : Seen). is_final q ≡ true) (sym (walk s.Start s.Function x d.0 d.1 d.2 (function_walk n vs.0 d.0 (d.1 ++ l ∷ w) d.3) ∙ seen_final s.Function d.1 refl)) refl)
firm n statements vs x l w d e = statements_firm n vs x l w d
firm n three_empty vs x l w d e = final_more s.Start x (l ∷ w) (semicolon_settles s.Start x (three_has n vs.0 x (l ∷ w) (last_symbol (Derives n) (phrase three) vs x (l ∷ w) d)))
firm n three_first vs x l w d e = final_more s.Start x (l ∷ w) (semicolon_settles s.Start x (has_after t.Semicolon d.0 d.1 x d.2 (three_has n vs.1.0 d.1 (l ∷ w) (last_symbol (Derives n) (phrase three) vs.1 d.1 (l ∷ w) d.4))))
firm n each_of vs x l w d e = final_more s.Start x (l ∷ w) (colon_settles s.Start x (symbols_have (Derives n) t.Colon (symbols each_of) vs x (l ∷ w) refl refl d))
firm n each_in vs x l w d e = final_more s.Start x (l ∷ w) (in_settles s.Start x (symbols_have (Derives n) t.In (symbols each_in) vs x (l ∷ w) refl refl d))
firm n declares vs x l w d e = decl_firm n vs.0 x l w (last_symbol (Derives n) (phrase decl) vs x (l ∷ w) d)
firm n expresses vs x l w d e = expresses_firm n vs.0 x l w (last_symbol (Derives n) (phrase expr) vs x (l ∷ w) d) e
firm n do_loop vs x l w d e = closing_rule n do_loop vs x l w d e
firm n declared vs x l w d e = closing_rule n declared vs x l w d e
firm n jump vs x l w d e = closing_rule n jump vs x l w d e
firm n returned vs x l w d e = closing_rule n returned vs x l w d e
firm n thrown vs x l w d e = closing_rule n thrown vs x l w d e
firm n value vs x l w d e = closing_rule n value vs x l w d e
firm n argued vs x l w d e = argued_firm n vs.0 x l w (last_symbol (Derives n) (phrase expr) vs x (l ∷ w) d) e
firm n lambda vs x l w d e = final_more s.Start x (l ∷ w) (arrow_settles s.Start x (symbols_have (Derives n) t.Arrow (symbols lambda) vs x (l ∷ w) refl refl d))
firm n lambdas vs x l w d e = final_more s.Start x (l ∷ w) (arrow_settles s.Start x (symbols_have (Derives n) t.Arrow (symbols lambdas) vs x (l ∷ w) refl refl d))
firm n reference vs x l w d e = final_more s.Start x (l ∷ w) (colons_settles s.Start x (symbols_have (Derives n) t.ColonColon (symbols reference) vs x (l ∷ w) refl refl d))
firm n this_reference vs x l w d e = final_more s.Start x (l ∷ w) (colons_settles s.Start x (symbols_have (Derives n) t.ColonColon (symbols this_reference) vs x (l ∷ w) refl refl d))
firm n typed_param vs x l w d e = param_firm n typed_param vs x l w d
firm n bare_param vs x l w d e = param_firm n bare_param vs x l w d
firm n prefix vs x l w d e = token_first n prefix vs x (l ∷ w) s.CastStart (λ c h. tells t.Step c s.CastStart refl h) d (l ∷ w)
firm n signed vs x l w d e = token_first n signed vs x (l ∷ w) s.CastStart (λ c h. tells t.Additive c s.CastStart refl h) d (l ∷ w)
firm n negated vs x l w d e = token_first n negated vs x (l ∷ w) s.CastStart (λ c h. tells t.Negation c s.CastStart refl h) d (l ∷ w)
firm n cast vs x l w d e = final_more s.CastStart x (l ∷ w) (cast_settles s.CastStart x refl (symbols_have (Derives n) t.RightParen (symbols cast) vs x (l ∷ w) refl refl d))
firm n plain vs x l w d e = unary_firm (suc n) (built plain vs) x (l ∷ w) (l ∷ w) (plain, vs, refl, e, d)
firm n _ vs x l w d e = other_final (x ++ l ∷ w)

-- ---- it is told apart from the others

each_told : (n : ℕ) (vs : Trees (symbols each_of)) (x after : List Lexeme) → DerivesSymbols (Derives n) (symbols each_of) vs x after → seen s.Start x ≡ s.Each
each_told n vs x after d =
    head_typed n (token mark t.Colon ∷ phrase expr ∷ token mark t.RightParen ∷ phrase body ∷ []) vs x after d
    ∙ walk s.Typed s.Each d.4.1 d.4.4.0 d.4.4.1 d.4.4.2 (token_walk (Derives n) s.Typed mark t.Colon vs.1.1.0 d.4.4.0 (d.4.4.1 ++ after) refl d.4.4.3)
    ∙ seen_final s.Each d.4.4.1 refl

in_told : (n : ℕ) (vs : Trees (symbols each_in)) (x after : List Lexeme) → DerivesSymbols (Derives n) (symbols each_in) vs x after → seen s.Start x ≡ s.In
in_told n vs x after d =
    walk s.Start s.Word x d.0 d.1 d.2 (token_walk (Derives n) s.Start text t.Name vs.0 d.0 (d.1 ++ after) refl d.3)
    ∙ walk s.Word s.In d.1 d.4.0 d.4.1 d.4.2 (token_walk (Derives n) s.Word mark t.In vs.1.0 d.4.0 (d.4.1 ++ after) refl d.4.3)
    ∙ seen_final s.In d.4.1 refl

lambda_told : (n : ℕ) (vs : Trees (symbols lambda)) (x after : List Lexeme) → DerivesSymbols (Derives n) (symbols lambda) vs x after → (P : Seen → Type 0) → P s.Declared → P s.Arrow → P (seen s.Start x)
lambda_told n vs x after d P a b =
    let q = seen s.Start d.0 in
    subst P (sym (walk s.Start q x d.0 d.1 d.2 refl ∙ walk q (sees q t.Arrow) d.1 d.4.0 d.4.1 d.4.2 (token_walk (Derives n) q mark t.Arrow vs.1.0 d.4.0 (d.4.1 ++ after) refl d.4.3)))
    (param_from_start n vs.0 d.0 (d.1 ++ after) d.3 (λ (u : Seen). P (seen (sees u t.Arrow) d.4.1)) (subst P (sym (seen_final s.Declared d.4.1 refl)) a) (subst P (sym (seen_final s.Arrow d.4.1 refl)) b))

listed_told : (n : ℕ) (vs : Trees (symbols lambdas)) (x after : List Lexeme) → DerivesSymbols (Derives n) (symbols lambdas) vs x after → seen s.Start x ≡ s.Listed
listed_told n vs x after d =
    let q = seen s.Round d.4.0 in
    let last : sees (sees q t.RightParen) t.Arrow ≡ s.Listed = any_params n vs.1.0 d.4.0 (d.4.1 ++ after) d.4.3 (λ (u : Seen). sees (sees u t.RightParen) t.Arrow ≡ s.Listed) refl refl refl in
    walk s.Start s.Round x d.0 d.1 d.2 (token_walk (Derives n) s.Start mark t.LeftParen vs.0 d.0 (d.1 ++ after) refl d.3)
    ∙ walk s.Round q d.1 d.4.0 d.4.1 d.4.2 refl
    ∙ walk q (sees q t.RightParen) d.4.1 d.4.4.0 d.4.4.1 d.4.4.2 (token_walk (Derives n) q mark t.RightParen vs.1.1.0 d.4.4.0 (d.4.4.1 ++ after) refl d.4.4.3)
    ∙ walk (sees q t.RightParen) (sees (sees q t.RightParen) t.Arrow) d.4.4.1 d.4.4.4.0 d.4.4.4.1 d.4.4.4.2 (token_walk (Derives n) (sees q t.RightParen) mark t.Arrow vs.1.1.1.0 d.4.4.4.0 (d.4.4.4.1 ++ after) refl d.4.4.4.3)
    ∙ ap (λ (u : Seen). seen u d.4.4.4.1) last ∙ seen_final s.Listed d.4.4.4.1 refl

reference_told : (n : ℕ) (vs : Trees (symbols reference)) (x after : List Lexeme) → DerivesSymbols (Derives n) (symbols reference) vs x after → seen s.Start x ≡ s.Reference
reference_told n vs x after d =
    let q = seen s.Start d.0 in
    walk s.Start q x d.0 d.1 d.2 refl
    ∙ walk q s.Reference d.1 d.4.0 d.4.1 d.4.2 (token_walk (Derives n) q mark t.ColonColon vs.1.0 d.4.0 (d.4.1 ++ after) refl d.4.3 ∙ type_from_start n vs.0 d.0 (d.1 ++ after) d.3 (λ (u : Seen). sees u t.ColonColon ≡ s.Reference) refl refl refl)
    ∙ seen_final s.Reference d.4.1 refl

param_told : (n : ℕ) (vs : Trees (symbols typed_param)) (x after : List Lexeme) → DerivesSymbols (Derives n) (symbols typed_param) vs x after → seen s.Param x ≡ s.Declared
param_told n vs x after d =
    let q = seen s.Param d.0 in
    walk s.Param q x d.0 d.1 d.2 refl
    ∙ token_walk (Derives n) q text t.Name vs.1.0 d.1 after refl (last_symbol (Derives n) (token text t.Name) vs.1 d.1 after d.4)
    ∙ type_from_param n vs.0 d.0 (d.1 ++ after) d.3 (λ (u : Seen). sees u t.Name ≡ s.Declared) refl refl refl

cast_told : (n : ℕ) (vs : Trees (symbols cast)) (x after : List Lexeme) → DerivesSymbols (Derives n) (symbols cast) vs x after → seen s.CastStart x ≡ s.Cast
cast_told n vs x after d =
    walk s.CastStart s.CastRound x d.0 d.1 d.2 (token_walk (Derives n) s.CastStart mark t.LeftParen vs.0 d.0 (d.1 ++ after) refl d.3)
    ∙ walk s.CastRound s.CastKnown d.1 d.4.0 d.4.1 d.4.2 (cast_type_walk n s.CastRound s.CastKnown vs.1.0 d.4.0 (d.4.1 ++ after) known_at_cast refl d.4.3)
    ∙ walk s.CastKnown s.Cast d.4.1 d.4.4.0 d.4.4.1 d.4.4.2 (token_walk (Derives n) s.CastKnown mark t.RightParen vs.1.1.0 d.4.4.0 (d.4.4.1 ++ after) refl d.4.4.3)
    ∙ seen_final s.Cast d.4.4.1 refl

-- a state that no further token changes
stays_told : (P : Seen → Bool) (from q : Seen) (x after : List Lexeme) → is_final q ≡ true → P q ≡ true → seen from x ≡ q → P (seen from (x ++ after)) ≡ true
stays_told P from q x after f e is = subst (λ (u : Seen). P u ≡ true) (sym (seen_append from x after ∙ ap (λ (u : Seen). seen u after) is ∙ seen_final q after f)) e

pub sure : (n : ℕ) {f : Form} (p : Production f) (vs : Trees (symbols p)) (x after : List Lexeme) → DerivesSymbols (Derives n) (symbols p) vs x after → settled p (seen (scan f) (x ++ after)) ≡ true
sure n functions vs x after d = stays_told is_function s.Start s.Function x after refl refl (walk s.Start s.Function x d.0 d.1 d.2 (function_walk n vs.0 d.0 (d.1 ++ after) d.3) ∙ seen_final s.Function d.1 refl)
sure n each_of vs x after d = stays_told is_each s.Start s.Each x after refl refl (each_told n vs x after d)
sure n each_in vs x after d = stays_told is_in s.Start s.In x after refl refl (in_told n vs x after d)
sure n declares vs x after d = decl_told n vs.0 x after (last_symbol (Derives n) (phrase decl) vs x after d)
sure n declared vs x after d = decl_told n vs.0 x after (last_symbol (Derives n) (phrase decl) vs x after d)
sure n lambda vs x after d = subst (λ (q : Seen). is_lambda q ≡ true) (sym (seen_append s.Start x after)) (lambda_told n vs x after d (λ (u : Seen). is_lambda (seen u after) ≡ true) (ap is_lambda (seen_final s.Declared after refl)) (ap is_lambda (seen_final s.Arrow after refl)))
sure n reference vs x after d = stays_told is_reference s.Start s.Reference x after refl refl (reference_told n vs x after d)
sure n lambdas vs x after d = stays_told is_listed s.Start s.Listed x after refl refl (listed_told n vs x after d)
sure n typed_param vs x after d = stays_told is_declared s.Param s.Declared x after refl refl (param_told n vs x after d)
sure n cast vs x after d = stays_told is_cast s.CastStart s.Cast x after refl refl (cast_told n vs x after d)
sure n _ vs x after d = refl

-- ---- no other is told

fits_told : (a b : Bool) → a ≡ true → a || b ≡ true
fits_told a b e = rw e refl

pub fits_of : (n : ℕ) {f : Form} (p : Production f) (vs : Trees (symbols p)) (x after : List Lexeme) (terminal : Terminal) → DerivesSymbols (Derives n) (symbols p) vs x after → allowed p terminal (seen (scan f) (x ++ after)) ≡ true → fits p terminal (seen (scan f) (x ++ after)) ≡ true
fits_of n functions vs x after c d e = fits_told (is_function (seen s.Start (x ++ after))) (is_open (seen s.Start (x ++ after))) (sure n functions vs x after d)
fits_of n each_of vs x after c d e = fits_told (is_each (seen s.Start (x ++ after))) (is_open (seen s.Start (x ++ after))) (sure n each_of vs x after d)
fits_of n each_in vs x after c d e = in_fits c (seen s.Start (x ++ after)) (sure n each_in vs x after d)
fits_of n declares vs x after c d e = fits_told (is_declared (seen s.Start (x ++ after))) (is_open (seen s.Start (x ++ after))) (sure n declares vs x after d)
fits_of n declared vs x after c d e = fits_told (is_declared (seen s.Start (x ++ after))) (is_open (seen s.Start (x ++ after))) (sure n declared vs x after d)
fits_of n lambda vs x after c d e = fits_told (is_lambda (seen s.Start (x ++ after))) (is_open (seen s.Start (x ++ after))) (sure n lambda vs x after d)
fits_of n reference vs x after c d e = reference_fits c (seen s.Start (x ++ after)) (sure n reference vs x after d)
fits_of n lambdas vs x after c d e = fits_told (is_listed (seen s.Start (x ++ after))) (is_open (seen s.Start (x ++ after))) (sure n lambdas vs x after d)
fits_of n typed_param vs x after t.Name d e = fits_told (is_declared (seen s.Param (x ++ after))) (is_open (seen s.Param (x ++ after))) (sure n typed_param vs x after d)
fits_of n typed_param vs x after _ d e = refl
fits_of n cast vs x after c d e = fits_told (is_cast (seen s.CastStart (x ++ after))) (is_open (seen s.CastStart (x ++ after))) (sure n cast vs x after d)
fits_of n statements vs x after c d e = e
fits_of n three_first vs x after c d e = e
fits_of n expresses vs x after c d e = e
fits_of n value vs x after c d e = e
fits_of n argued vs x after c d e = e
fits_of n bare_param vs x after c d e = e
fits_of n plain vs x after c d e = e
fits_of n _ vs x after c d e = refl
