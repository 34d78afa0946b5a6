-- What begins by one production begins by the one that is chosen.
use Rattle.std.proofs.Common.{◌≡◌, ℕ, suc, Bool, true, false, not, ◌||◌, List, [], ◌∷◌, ◌++◌, refl, sym, ap, subst, ◌∙◌, inl, inr, ◌⊎◌}
use Rattle.pl_grammar.specs.declared.terminal.Terminal.{Terminal}
use Rattle.pl_grammar.specs.declared.terminal.Terminal.TheVariants as t
use Rattle.pl_grammar.specs.declared.ahead.Seen.{Seen}
use Rattle.pl_grammar.specs.declared.ahead.Seen.TheVariants as s
use Rattle.pl_grammar.specs.Lexeme.{Lexeme, mark, same_terminal, class_of}
use Rattle.pl_grammar.specs.Ahead.{sees, seen, is_final}
use Rattle.pl_grammar.specs.Grammar.{Form, formals, block, three, for_first, closing, decl, body, expr, token, phrase, optional, Production, functions, statements, function_of, closes, three_empty, three_first, each_of, each_in, declares, expresses, do_loop, declared, jump, returned, thrown, value, prefix, signed, negated, cast, plain, argued, lambda, lambdas, reference, this_reference, typed_param, bare_param, symbols}
use Rattle.pl_grammar.specs.Firsts.{first, scan, fits, begins_type, is_declared, is_lambda, is_reference, is_listed, is_function, is_each, is_in, is_cast, is_open}
use Rattle.pl_grammar.specs.Derives.{Derives, BeginsSymbols, Begins}
use Rattle.pl_grammar.specs.Reading.{choice}
use Rattle.pl_grammar_laws.proofs.Certificates.{same_is, heads, led, begun, chosen}
use Rattle.pl_grammar_laws.proofs.Fitting.{chosen_fits, chosen_heads}
use Rattle.pl_grammar.proofs.Scan.{seen_more}
use Rattle.pl_grammar_laws.proofs.Cuts.{fits_cut}
use Rattle.pl_grammar_laws.proofs.Sound.{leads}
use Rattle.pl_grammar_laws.proofs.Heads.{begun_first, form_first}
use Rattle.pl_grammar_laws.proofs.Walks.{keeps, from_first, other_final}
use Rattle.pl_grammar_laws.proofs.Shapes.{led_start, led_cast}
use Rattle.pl_grammar_laws.proofs.Openings.{BeginsAll, in_type, type_begun, in_head, head_begun, decl_begun, in_param, param_begun, in_expr, expr_begun, in_round, lambdas_begun, in_cast, cast_begun, plain_begun}

clash : (b : Bool) → b ≡ true → b ≡ false → ⊥
clash true e f = cc
clash false e f = cc

-- ---- where the tokens tell

or_final : (P : Bool) (q : Seen) → is_final q ≡ true → P || is_open q ≡ true → P ≡ true
or_final true q f e = refl
or_final false q f e = absurd (clash (is_open q) e (ap not f))

in_final : (c : Terminal) (q : Seen) → is_final q ≡ true → fits each_in c q ≡ true → is_in q ≡ true
in_final c s.Start f e = absurd cc
in_final c s.Word f e = absurd cc
in_final c _ f e = e

reference_final : (c : Terminal) (q : Seen) → is_final q ≡ true → fits reference c q ≡ true → is_reference q ≡ true
reference_final c s.Reference f e = refl
reference_final c _ f e = absurd cc

chosen_final : {f : Form} (p : Production f) (c : Terminal) (q : Seen) → is_final q ≡ true → heads (symbols p) c ≡ true → fits p c q ≡ true → choice f c q ≡ p
chosen_final functions c q f e n = chosen functions c q e n (or_final (is_function q) q f n)
chosen_final each_of c q f e n = chosen each_of c q e n (or_final (is_each q) q f n)
chosen_final declares c q f e n = chosen declares c q e n (or_final (is_declared q) q f n)
chosen_final declared c q f e n = chosen declared c q e n (or_final (is_declared q) q f n)
chosen_final lambda c q f e n = chosen lambda c q e n (or_final (is_lambda q) q f n)
chosen_final lambdas c q f e n = chosen lambdas c q e n (or_final (is_listed q) q f n)
chosen_final cast c q f e n = chosen cast c q e n (or_final (is_cast q) q f n)
chosen_final each_in c q f e n = chosen each_in c q e n (in_final c q f n)
chosen_final reference c q f e n = chosen reference c q e n (reference_final c q f n)
chosen_final typed_param t.Name q f e n = chosen typed_param t.Name q e n (or_final (is_declared q) q f n)
chosen_final typed_param _ q f e n = refl
chosen_final p c q f e n = chosen p c q e n refl

-- ---- where they do not: by the first two tokens

abbrev type_or_final : Seen → Bool
type_or_final q = in_param q || is_final q

abbrev round_or_final : Seen → Bool
round_or_final q = in_round q || is_final q

abbrev cast_or_final : Seen → Bool
cast_or_final q = in_cast q || is_final q

type_stays : (q : Seen) (k : Terminal) → type_or_final q ≡ true → type_or_final (sees q k) ≡ true
type_stays s.WordOpen t.RightBracket e = refl
type_stays s.WordOpen _ e = refl
type_stays s.WordPairs t.LeftBracket e = refl
type_stays s.WordPairs t.Name e = refl
type_stays s.WordPairs t.ColonColon e = refl
type_stays s.WordPairs _ e = refl
type_stays s.WordPairsOpen t.RightBracket e = refl
type_stays s.WordPairsOpen _ e = refl
type_stays s.Known t.LeftBracket e = refl
type_stays s.Known t.Name e = refl
type_stays s.Known t.ColonColon e = refl
type_stays s.Known _ e = refl
type_stays s.KnownOpen t.RightBracket e = refl
type_stays s.KnownOpen _ e = refl
type_stays s.Typed t.LeftParen e = refl
type_stays s.Typed t.Colon e = refl
type_stays s.Typed _ e = refl
type_stays s.Declared k e = refl
type_stays s.Function k e = refl
type_stays s.Each k e = refl
type_stays s.In k e = refl
type_stays s.Arrow k e = refl
type_stays s.Reference k e = refl
type_stays s.Array k e = refl
type_stays s.Listed k e = refl
type_stays s.Cast k e = refl
type_stays s.Other k e = refl
type_stays _ k e = absurd cc

round_stays : (q : Seen) (k : Terminal) → round_or_final q ≡ true → round_or_final (sees q k) ≡ true
round_stays s.RoundWord t.Name e = refl
round_stays s.RoundWord t.Comma e = refl
round_stays s.RoundWord t.RightParen e = refl
round_stays s.RoundWord t.LeftBracket e = refl
round_stays s.RoundWord _ e = refl
round_stays s.RoundWordRound t.Arrow e = refl
round_stays s.RoundWordRound _ e = refl
round_stays s.RoundWordOpen t.RightBracket e = refl
round_stays s.RoundWordOpen _ e = refl
round_stays s.RoundKnown t.LeftBracket e = refl
round_stays s.RoundKnown t.Name e = refl
round_stays s.RoundKnown _ e = refl
round_stays s.RoundKnownOpen t.RightBracket e = refl
round_stays s.RoundKnownOpen _ e = refl
round_stays s.Declared k e = refl
round_stays s.Function k e = refl
round_stays s.Each k e = refl
round_stays s.In k e = refl
round_stays s.Arrow k e = refl
round_stays s.Reference k e = refl
round_stays s.Array k e = refl
round_stays s.Listed k e = refl
round_stays s.Cast k e = refl
round_stays s.Other k e = refl
round_stays _ k e = absurd cc

cast_stays : (q : Seen) (k : Terminal) → cast_or_final q ≡ true → cast_or_final (sees q k) ≡ true
cast_stays s.CastKnown t.LeftBracket e = refl
cast_stays s.CastKnown t.RightParen e = refl
cast_stays s.CastKnown _ e = refl
cast_stays s.CastOpen t.RightBracket e = refl
cast_stays s.CastOpen _ e = refl
cast_stays s.Declared k e = refl
cast_stays s.Function k e = refl
cast_stays s.Each k e = refl
cast_stays s.In k e = refl
cast_stays s.Arrow k e = refl
cast_stays s.Reference k e = refl
cast_stays s.Array k e = refl
cast_stays s.Listed k e = refl
cast_stays s.Cast k e = refl
cast_stays s.Other k e = refl
cast_stays _ k e = absurd cc

type_two : (c d : Terminal) → begins_type c ≡ true → type_or_final (sees (sees s.Start c) d) ≡ true
type_two t.Name t.Name e = refl
type_two t.Name t.Arrow e = refl
type_two t.Name t.In e = refl
type_two t.Name t.ColonColon e = refl
type_two t.Name t.LeftBracket e = refl
type_two t.Name _ e = refl
type_two t.Basic t.LeftBracket e = refl
type_two t.Basic t.Name e = refl
type_two t.Basic t.ColonColon e = refl
type_two t.Basic _ e = refl
type_two t.Class t.LeftBracket e = refl
type_two t.Class t.Name e = refl
type_two t.Class t.ColonColon e = refl
type_two t.Class _ e = refl
type_two _ d e = absurd cc

round_two : (d : Terminal) → round_or_final (sees (sees s.Start t.LeftParen) d) ≡ true
round_two t.Name = refl
round_two t.Basic = refl
round_two t.Class = refl
round_two t.RightParen = refl
round_two _ = refl

cast_two : (d : Terminal) → cast_or_final (sees (sees s.CastStart t.LeftParen) d) ≡ true
cast_two t.Basic = refl
cast_two t.Class = refl
cast_two _ = refl

unless_final : (P : Bool) (q : Seen) → is_final q ≡ false → P || is_final q ≡ true → P ≡ true
unless_final true q f e = refl
unless_final false q f e = absurd (clash (is_final q) e f)

type_state : (l m : Lexeme) (y : List Lexeme) → begins_type (class_of l) ≡ true → is_final (seen s.Start (l ∷ m ∷ y)) ≡ false → in_param (seen s.Start (l ∷ m ∷ y)) ≡ true
type_state l m y e f = unless_final (in_param (seen s.Start (l ∷ m ∷ y))) (seen s.Start (l ∷ m ∷ y)) f (keeps type_or_final t.End type_stays (sees (sees s.Start (class_of l)) (class_of m)) y (type_two (class_of l) (class_of m) e))

round_state : (l m : Lexeme) (y : List Lexeme) → class_of l ≡ t.LeftParen → is_final (seen s.Start (l ∷ m ∷ y)) ≡ false → in_round (seen s.Start (l ∷ m ∷ y)) ≡ true
round_state l m y e f = unless_final (in_round (seen s.Start (l ∷ m ∷ y))) (seen s.Start (l ∷ m ∷ y)) f (keeps round_or_final t.End round_stays (sees (sees s.Start (class_of l)) (class_of m)) y (subst (λ (c : Terminal). round_or_final (sees (sees s.Start c) (class_of m)) ≡ true) (sym e) (round_two (class_of m))))

cast_state : (l m : Lexeme) (y : List Lexeme) → class_of l ≡ t.LeftParen → is_final (seen s.CastStart (l ∷ m ∷ y)) ≡ false → in_cast (seen s.CastStart (l ∷ m ∷ y)) ≡ true
cast_state l m y e f = unless_final (in_cast (seen s.CastStart (l ∷ m ∷ y))) (seen s.CastStart (l ∷ m ∷ y)) f (keeps cast_or_final t.End cast_stays (sees (sees s.CastStart (class_of l)) (class_of m)) y (subst (λ (c : Terminal). cast_or_final (sees (sees s.CastStart c) (class_of m)) ≡ true) (sym e) (cast_two (class_of m))))

told_first : (q : Seen) (l m : Lexeme) (y : List Lexeme) → is_final (seen q (l ∷ m ∷ y)) ≡ false → is_final (sees q (class_of l)) ≡ true → ⊥
told_first q l m y f e = clash (is_final (seen q (l ∷ m ∷ y))) (from_first q l (m ∷ y) e) f

-- the classes that tell nothing at once
start_class : (c : Terminal) → (begins_type c ≡ true) ⊎ (c ≡ t.LeftParen) ⊎ (is_final (sees s.Start c) ≡ true)
start_class t.Name = inl refl
start_class t.Basic = inl refl
start_class t.Class = inl refl
start_class t.LeftParen = inr (inl refl)
start_class _ = inr (inr refl)

cast_class : (c : Terminal) → (c ≡ t.LeftParen) ⊎ (is_final (sees s.CastStart c) ≡ true)
cast_class t.LeftParen = inl refl
cast_class _ = inr refl

in_param_head : (q : Seen) → in_param q ≡ true → in_head q ≡ true
in_param_head s.WordOpen e = refl
in_param_head s.WordPairs e = refl
in_param_head s.WordPairsOpen e = refl
in_param_head s.Known e = refl
in_param_head s.KnownOpen e = refl
in_param_head s.Typed e = refl
in_param_head _ e = absurd cc

in_round_expr : (q : Seen) → in_round q ≡ true → in_expr q ≡ true
in_round_expr s.RoundWord e = refl
in_round_expr s.RoundWordRound e = refl
in_round_expr s.RoundWordOpen e = refl
in_round_expr s.RoundKnown e = refl
in_round_expr s.RoundKnownOpen e = refl
in_round_expr _ e = absurd cc

-- where a declaration or a lambda is told no expression is allowed
undeclared_expr : (q : Seen) → in_param q ≡ true → not (is_declared q) ≡ true → in_expr q ≡ true
undeclared_expr s.WordOpen e f = refl
undeclared_expr s.WordPairs e f = absurd cc
undeclared_expr s.WordPairsOpen e f = absurd cc
undeclared_expr s.Known e f = refl
undeclared_expr s.KnownOpen e f = refl
undeclared_expr s.Typed e f = absurd cc
undeclared_expr _ e f = absurd cc

no_lambda_expr : (q : Seen) → in_param q ≡ true → not (is_lambda q || is_reference q) ≡ true → in_expr q ≡ true
no_lambda_expr s.WordOpen e f = refl
no_lambda_expr s.WordPairs e f = absurd cc
no_lambda_expr s.WordPairsOpen e f = absurd cc
no_lambda_expr s.Known e f = refl
no_lambda_expr s.KnownOpen e f = refl
no_lambda_expr s.Typed e f = absurd cc
no_lambda_expr _ e f = absurd cc

in_param_type : (c : Terminal) (q : Seen) → in_param q ≡ true → fits reference c q ≡ true → in_type q ≡ true
in_param_type c s.WordOpen e f = refl
in_param_type c s.WordPairs e f = refl
in_param_type c s.WordPairsOpen e f = refl
in_param_type c s.Known e f = refl
in_param_type c s.KnownOpen e f = refl
in_param_type c s.Typed e f = absurd cc
in_param_type c _ e f = absurd cc

no_each_in : (c : Terminal) (q : Seen) → in_param q ≡ true → fits each_in c q ≡ true → ⊥
no_each_in c s.WordOpen e f = cc
no_each_in c s.WordPairs e f = cc
no_each_in c s.WordPairsOpen e f = cc
no_each_in c s.Known e f = cc
no_each_in c s.KnownOpen e f = cc
no_each_in c s.Typed e f = cc
no_each_in c _ e f = cc

open_fits : (P : Bool) (q : Seen) → is_final q ≡ false → P || is_open q ≡ true
open_fits true q f = refl
open_fits false q f = ap not f

-- an expression is begun, by a bracket, or by what is no declaration, or no lambda
expr_ahead : (l m : Lexeme) (y : List Lexeme) → is_final (seen s.Start (l ∷ m ∷ y)) ≡ false → (begins_type (class_of l) ≡ true → in_param (seen s.Start (l ∷ m ∷ y)) ≡ true → in_expr (seen s.Start (l ∷ m ∷ y)) ≡ true) → (k : ℕ) × Begins k expr (l ∷ m ∷ y)
expr_ahead l m y f by =
    elim (start_class (class_of l)) [
      | inl ty ↦ expr_begun (l ∷ m ∷ y) (by ty (type_state l m y ty f)) (led_start (l ∷ m ∷ y))
      | inr other ↦ elim other [
        | inl round ↦ expr_begun (l ∷ m ∷ y) (in_round_expr (seen s.Start (l ∷ m ∷ y)) (round_state l m y round f)) (led_start (l ∷ m ∷ y))
        | inr told ↦ absurd (told_first s.Start l m y f told)
      ]
    ]

decl_ahead : (l m : Lexeme) (y : List Lexeme) → begins_type (class_of l) ≡ true → is_final (seen s.Start (l ∷ m ∷ y)) ≡ false → (k : ℕ) × Begins k decl (l ∷ m ∷ y)
decl_ahead l m y ty f = (4, decl_begun 0 (seen s.Start (l ∷ m ∷ y)) (l ∷ m ∷ y) (in_param_head (seen s.Start (l ∷ m ∷ y)) (type_state l m y ty f)) (led_start (l ∷ m ∷ y)))

closing_ahead : (l m : Lexeme) (y : List Lexeme) → is_final (seen s.Start (l ∷ m ∷ y)) ≡ false → (k : ℕ) × Begins k closing (l ∷ m ∷ y)
closing_ahead l m y f =
    let q = seen s.Start (l ∷ m ∷ y) in
    elim (start_class (class_of l)) [
      | inl ty ↦ (let d = decl_ahead l m y ty f in (suc d.0, inr (declared, open_fits (is_declared q) q f, inl d.1)))
      | inr other ↦ elim other [
        | inl round ↦
            let x = expr_begun (l ∷ m ∷ y) (in_round_expr q (round_state l m y round f)) (led_start (l ∷ m ∷ y)) in
            (suc x.0, inr (value, subst (λ (c : Terminal). fits value c q ≡ true) (sym round) refl, inl x.1))
        | inr told ↦ absurd (told_first s.Start l m y f told)
      ]
    ]

first_part_ahead : (l m : Lexeme) (y : List Lexeme) → is_final (seen s.Start (l ∷ m ∷ y)) ≡ false → (k : ℕ) × Begins k for_first (l ∷ m ∷ y)
first_part_ahead l m y f =
    let q = seen s.Start (l ∷ m ∷ y) in
    elim (start_class (class_of l)) [
      | inl ty ↦ (let d = decl_ahead l m y ty f in (suc d.0, inr (declares, open_fits (is_declared q) q f, inl d.1)))
      | inr other ↦ elim other [
        | inl round ↦
            let x = expr_begun (l ∷ m ∷ y) (in_round_expr q (round_state l m y round f)) (led_start (l ∷ m ∷ y)) in
            (suc x.0, inr (expresses, subst (λ (c : Terminal). fits expresses c q ≡ true) (sym round) refl, inl x.1))
        | inr told ↦ absurd (told_first s.Start l m y f told)
      ]
    ]

value_may : (c : Terminal) (q : Seen) → begins_type c ≡ true → fits value c q ≡ true → not (is_declared q) ≡ true
value_may t.Name q e f = f
value_may t.Basic q e f = f
value_may t.Class q e f = f
value_may _ q e f = absurd cc

expresses_may : (c : Terminal) (q : Seen) → begins_type c ≡ true → fits expresses c q ≡ true → not (is_declared q) ≡ true
expresses_may t.Name q e f = f
expresses_may t.Basic q e f = f
expresses_may t.Class q e f = f
expresses_may _ q e f = absurd cc

argued_may : (c : Terminal) (q : Seen) → begins_type c ≡ true → fits argued c q ≡ true → not (is_lambda q || is_reference q) ≡ true
argued_may t.Name q e f = f
argued_may t.Basic q e f = f
argued_may t.Class q e f = f
argued_may _ q e f = absurd cc

tells : (w c : Terminal) (q : Seen) → is_final (sees q w) ≡ true → same_terminal c w ≡ true → is_final (sees q c) ≡ true
tells w c q e h = subst (λ (k : Terminal). is_final (sees q k) ≡ true) (sym (same_is c w h)) e

param_told : (c d : Terminal) → is_final (sees (sees s.Param c) d) ≡ true
param_told t.Name t.Name = refl
param_told t.Name t.LeftBracket = refl
param_told t.Name _ = refl
param_told t.Basic d = refl
param_told t.Class d = refl
param_told _ d = refl

no_param : (l m : Lexeme) (y : List Lexeme) → is_final (seen s.Param (l ∷ m ∷ y)) ≡ false → ⊥
no_param l m y f = clash (is_final (seen s.Param (l ∷ m ∷ y))) (from_first (sees s.Param (class_of l)) m y (param_told (class_of l) (class_of m))) f

three_tells : (c : Terminal) → first three c ≡ true → is_final (sees s.Start c) ≡ true
three_tells t.Semicolon e = refl
three_tells _ e = absurd cc

open_begun : {f : Form} (p : Production f) (l m : Lexeme) (y : List Lexeme) → is_final (seen (scan f) (l ∷ m ∷ y)) ≡ false → fits p (class_of l) (seen (scan f) (l ∷ m ∷ y)) ≡ true → heads (symbols p) (class_of l) ≡ true → (k : ℕ) × BeginsAll k (symbols p) (l ∷ m ∷ y)
open_begun functions l m y f n e =
    let q = seen s.Start (l ∷ m ∷ y) in
    (4, inl (inr (function_of, refl, head_begun 0 (token mark t.LeftParen ∷ optional formals ∷ token mark t.RightParen ∷ phrase block ∷ []) q (l ∷ m ∷ y) (in_param_head q (type_state l m y e f)) (led_start (l ∷ m ∷ y)))))
open_begun statements l m y f n e = let c = closing_ahead l m y f in (suc c.0, inl (inr (closes, refl, inl c.1)))
open_begun three_first l m y f n e = let c = first_part_ahead l m y f in (c.0, inl c.1)
open_begun each_of l m y f n e =
    let q = seen s.Start (l ∷ m ∷ y) in
    (3, head_begun 0 (token mark t.Colon ∷ phrase expr ∷ token mark t.RightParen ∷ phrase body ∷ []) q (l ∷ m ∷ y) (in_param_head q (type_state l m y e f)) (led_start (l ∷ m ∷ y)))
open_begun each_in l m y f n e = absurd (no_each_in (class_of l) (seen s.Start (l ∷ m ∷ y)) (type_state l m y (rw (same_is (class_of l) t.Name e) refl) f) n)
open_begun declares l m y f n e = let d = decl_ahead l m y e f in (d.0, inl d.1)
open_begun declared l m y f n e = let d = decl_ahead l m y e f in (d.0, inl d.1)
open_begun expresses l m y f n e = let x = expr_ahead l m y f (λ ty i. undeclared_expr (seen s.Start (l ∷ m ∷ y)) i (expresses_may (class_of l) (seen s.Start (l ∷ m ∷ y)) ty n)) in (x.0, inl x.1)
open_begun value l m y f n e = let x = expr_ahead l m y f (λ ty i. undeclared_expr (seen s.Start (l ∷ m ∷ y)) i (value_may (class_of l) (seen s.Start (l ∷ m ∷ y)) ty n)) in (x.0, inl x.1)
open_begun argued l m y f n e = let x = expr_ahead l m y f (λ ty i. no_lambda_expr (seen s.Start (l ∷ m ∷ y)) i (argued_may (class_of l) (seen s.Start (l ∷ m ∷ y)) ty n)) in (x.0, inl x.1)
open_begun lambda l m y f n e = (4, inl (param_begun 0 (l ∷ m ∷ y) (type_state l m y e f) (led_start (l ∷ m ∷ y))))
open_begun lambdas l m y f n e = lambdas_begun (seen s.Start (l ∷ m ∷ y)) (l ∷ m ∷ y) (round_state l m y (same_is (class_of l) t.LeftParen e) f) (led_start (l ∷ m ∷ y))
open_begun reference l m y f n e = (3, inl (type_begun 0 (seen s.Start (l ∷ m ∷ y)) (l ∷ m ∷ y) (in_param_type (class_of l) (seen s.Start (l ∷ m ∷ y)) (type_state l m y e f) n) (led_start (l ∷ m ∷ y))))
open_begun typed_param l m y f n e = absurd (no_param l m y f)
open_begun bare_param l m y f n e = absurd (no_param l m y f)
open_begun cast l m y f n e = cast_begun (seen s.CastStart (l ∷ m ∷ y)) (l ∷ m ∷ y) (cast_state l m y (same_is (class_of l) t.LeftParen e) f) (led_cast (l ∷ m ∷ y))
open_begun plain l m y f n e =
    elim (cast_class (class_of l)) [
      | inl round ↦ plain_begun (seen s.CastStart (l ∷ m ∷ y)) (l ∷ m ∷ y) (cast_state l m y round f) (led_cast (l ∷ m ∷ y))
      | inr told ↦ absurd (told_first s.CastStart l m y f told)
    ]
open_begun three_empty l m y f n e = absurd (told_first s.Start l m y f (three_tells (class_of l) e))
open_begun do_loop l m y f n e = absurd (told_first s.Start l m y f (tells t.Do (class_of l) s.Start refl e))
open_begun jump l m y f n e = absurd (told_first s.Start l m y f (tells t.Jump (class_of l) s.Start refl e))
open_begun returned l m y f n e = absurd (told_first s.Start l m y f (tells t.Return (class_of l) s.Start refl e))
open_begun thrown l m y f n e = absurd (told_first s.Start l m y f (tells t.Throw (class_of l) s.Start refl e))
open_begun this_reference l m y f n e = absurd (told_first s.Start l m y f (tells t.This (class_of l) s.Start refl e))
open_begun prefix l m y f n e = absurd (told_first s.CastStart l m y f (tells t.Step (class_of l) s.CastStart refl e))
open_begun signed l m y f n e = absurd (told_first s.CastStart l m y f (tells t.Additive (class_of l) s.CastStart refl e))
open_begun negated l m y f n e = absurd (told_first s.CastStart l m y f (tells t.Negation (class_of l) s.CastStart refl e))
open_begun _ l m y f n e = absurd (clash (is_final (seen s.Other (l ∷ m ∷ y))) (other_final (l ∷ m ∷ y)) f)

-- ---- both

pub goes_on : (n : ℕ) {f : Form} (p : Production f) (l m : Lexeme) (y rest : List Lexeme) → fits p (class_of l) (seen (scan f) (l ∷ m ∷ y)) ≡ true → BeginsSymbols (Derives n) (Begins n) (symbols p) (l ∷ m ∷ y)
    → (k : ℕ) × BeginsSymbols (Derives k) (Begins k) (symbols (choice f (class_of l) (seen (scan f) (l ∷ m ∷ (y ++ rest))))) (l ∷ m ∷ y)
goes_on n {f} p l m y rest s h = by (is_final (seen (scan f) (l ∷ m ∷ y))) refl
  where
    q : Seen
    q = seen (scan f) (l ∷ m ∷ y)

    all : Seen
    all = seen (scan f) (l ∷ m ∷ (y ++ rest))

    head : heads (symbols p) (class_of l) ≡ true
    head = begun_first (Derives n) (Begins n) (leads n) (form_first n) (symbols p) l (m ∷ y) (led p) h

    by : (b : Bool) → is_final q ≡ b → (k : ℕ) × BeginsSymbols (Derives k) (Begins k) (symbols (choice f (class_of l) all)) (l ∷ m ∷ y)
    by true is =
        let told : choice f (class_of l) all ≡ p = ap (λ (u : Seen). choice f (class_of l) u) (seen_more (scan f) (l ∷ m ∷ y) rest is) ∙ chosen_final p (class_of l) q is head s in
        (n, subst (λ (r : Production f). BeginsSymbols (Derives n) (Begins n) (symbols r) (l ∷ m ∷ y)) (sym told) h)
    by false is =
        let r = choice f (class_of l) all in
        open_begun r l m y is (fits_cut r (class_of l) (scan f) (l ∷ m ∷ y) rest (chosen_fits f (class_of l) all)) (chosen_heads f (class_of l) all (begun p (class_of l) head))
