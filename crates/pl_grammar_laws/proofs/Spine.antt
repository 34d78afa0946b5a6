-- Expressions that begin with a name or a type.
use Rattle.std.proofs.Common.{◌≡◌, ℕ, zero, suc, Bool, true, false, List, [], ◌∷◌, ◌++◌, Option, Some, None, refl, sym, ap, subst, ◌∙◌, inl, inr, ◌⊎◌}
use Rattle.pl_grammar.specs.declared.terminal.Terminal.{Terminal}
use Rattle.pl_grammar.specs.declared.terminal.Terminal.TheVariants as t
use Rattle.pl_grammar.specs.declared.level.Level.{Level}
use Rattle.pl_grammar.specs.declared.level.Level.TheVariants as lv
use Rattle.pl_grammar.specs.declared.level.Looser.{Looser}
use Rattle.pl_grammar.specs.declared.level.Looser.TheVariants as lo
use Rattle.pl_grammar.specs.declared.ahead.Seen.{Seen}
use Rattle.pl_grammar.specs.declared.ahead.Seen.TheVariants as s
use Rattle.pl_grammar.specs.Lexeme.{Lexeme, mark, same_terminal, matches, class_of, next}
use Rattle.pl_grammar.specs.Ahead.{sees, seen, is_final}
use Rattle.pl_grammar.specs.Grammar.{Form, expr, expr_rest, elvis, elvis_rest, unary, step, chain, primary, postfix, dot, args, binary, operation, TreeOf, Symbol, token, phrase, repeated, optional, SymbolTree, Trees, Production, expression, elvises, plain, suffixed, typed, created, named, access, index, dot_of, args_of, products, tests, joins, symbols, sign_of, tighter}
use Rattle.pl_grammar.specs.Firsts.{first, begins_expr}
use Rattle.pl_grammar.specs.Derives.{Sequence, DerivesSymbol, DerivesSymbols, Derives}
use Rattle.pl_grammar_laws.proofs.Certificates.{same_is, heads, led}
use Rattle.pl_grammar_laws.proofs.Sound.{Leads, leads, first_symbol}
use Rattle.pl_grammar_laws.proofs.Walks.{walk, token_walk, last_symbol, Has, has_in, has_after, symbols_have, from_first, final_more}

-- forms whose phrases may begin with an operand
abbrev pub is_spine : Form → Bool
is_spine expr = true
is_spine elvis = true
is_spine (binary l) = true
is_spine unary = true
is_spine chain = true
is_spine _ = false

-- ---- a name alone, with no suffix after it, or what tells more

abbrev cons : Lexeme → List Lexeme → List Lexeme
cons l ls = l ∷ ls

parts_are : (l k : Lexeme) (x y : List Lexeme) → cons l x ≡ cons k y → (l ≡ k) × (x ≡ y)
parts_are l k x y e = (cc, cc)

abbrev pub Bare : List Lexeme → List Lexeme → Type 0
Bare x after = (x ≡ []) × (first postfix (next after) ≡ false)

-- what follows a phrase: a tail that is empty, or begins so
abbrev tail_form : Symbol → Form
tail_form (repeated f) = f
tail_form (optional f) = f
tail_form (phrase f) = f
tail_form (token take w) = step

abbrev is_tail : Symbol → Bool
is_tail (repeated f) = true
is_tail (optional f) = true
is_tail _ = false

tail_leads : (n : ℕ) (s : Symbol) (v : SymbolTree s) (x after : List Lexeme) → is_tail s ≡ true → DerivesSymbol (Derives n) s v x after → (x ≡ []) ⊎ Leads (tail_form s) x
tail_leads n (repeated f) [] x after e h = inl h.0
tail_leads n (repeated f) (v ∷ vs) x after e h =
    let a = leads n f v h.0.0 (h.0.1 ++ after) h.0.3 in
    inr (a.0, a.1 ++ h.0.1, h.0.2 ∙ ap (λ (u : List Lexeme). u ++ h.0.1) a.2, a.3)
tail_leads n (optional f) None x after e h = inl h.0
tail_leads n (optional f) (Some v) x after e h = inr (leads n f v x after h)
tail_leads n (phrase f) v x after e h = absurd cc
tail_leads n (token take w) v x after e h = absurd cc

-- tails that tell more after a name
step_tells : (c : Terminal) → first step c ≡ true → is_final (sees s.Word c) ≡ true
step_tells t.Step e = refl
step_tells _ e = absurd cc

expr_tells : (c : Terminal) → first expr_rest c ≡ true → is_final (sees s.Word c) ≡ true
expr_tells t.Question e = refl
expr_tells t.Assign e = refl
expr_tells t.CompoundAssign e = refl
expr_tells _ e = absurd cc

elvis_tells : (c : Terminal) → first elvis_rest c ≡ true → is_final (sees s.Word c) ≡ true
elvis_tells t.Elvis e = refl
elvis_tells _ e = absurd cc

sign_tells : (l : Looser) → is_final (sees s.Word (sign_of l)) ≡ true
sign_tells lo.Sum = refl
sign_tells _ = refl

same_tells : (w c : Terminal) → is_final (sees s.Word w) ≡ true → same_terminal c w ≡ true → is_final (sees s.Word c) ≡ true
same_tells w c e h = subst (λ (q : Terminal). is_final (sees s.Word q) ≡ true) (sym (same_is c w h)) e

sign_matches : (l : Looser) (c : Terminal) → matches (sign_of l) c ≡ true → same_terminal c (sign_of l) ≡ true
sign_matches lo.Sum c e = e
sign_matches lo.Shift c e = e
sign_matches lo.Relational c e = e
sign_matches lo.Equality c e = e
sign_matches lo.And c e = e
sign_matches lo.Xor c e = e
sign_matches lo.Or c e = e
sign_matches lo.AndAnd c e = e
sign_matches lo.OrOr c e = e

operation_tells : (l : Level) (c : Terminal) → first (operation l) c ≡ true → is_final (sees s.Word c) ≡ true
operation_tells lv.Product c e = same_tells t.Multiplicative c refl e
operation_tells lv.Instance c e = same_tells t.Instanceof c refl e
operation_tells (lv.Looser l) c e = same_tells (sign_of l) c (sign_tells l) (sign_matches l c e)

-- the state where a phrase that begins with a name leads from that name on
abbrev pub Short : List Lexeme → List Lexeme → Type 0
Short x after = Bare x after ⊎ (is_final (seen s.Word x) ≡ true)

with_tail : (n : ℕ) (g : Form) (sy : Symbol) (vs : Trees (phrase g ∷ sy ∷ [])) (l : Lexeme) (x after : List Lexeme) → is_tail sy ≡ true → ((c : Terminal) → first (tail_form sy) c ≡ true → is_final (sees s.Word c) ≡ true)
    → ((v : TreeOf g) (y behind : List Lexeme) → Derives n g v (l ∷ y) behind → Short y behind) → DerivesSymbols (Derives n) (phrase g ∷ sy ∷ []) vs (l ∷ x) after → Short x after
with_tail n g sy vs l x after e tells short d =
    let a = leads n g vs.0 d.0 (d.1 ++ after) d.3 in
    let p = parts_are l a.0 x (a.1 ++ d.1) (d.2 ∙ ap (λ (u : List Lexeme). u ++ d.1) a.2) in
    let front : d.0 ≡ l ∷ a.1 = a.2 ∙ ap (λ (u : Lexeme). u ∷ a.1) (sym p.0) in
    let tail = tail_leads n sy vs.1.0 d.1 after e (last_symbol (Derives n) sy vs.1 d.1 after d.4) in
    elim (short vs.0 a.1 (d.1 ++ after) (subst (λ (u : List Lexeme). Derives n g vs.0 u (d.1 ++ after)) front d.3)) [
      | inr told ↦ inr (subst (λ (u : List Lexeme). is_final (seen s.Word u) ≡ true) (sym p.1) (final_more s.Word a.1 d.1 told))
      | inl bare ↦ elim tail [
        | inl none ↦ inl (p.1 ∙ ap (λ (u : List Lexeme). u ++ d.1) bare.0 ∙ none, subst (λ (u : List Lexeme). first postfix (next (u ++ after)) ≡ false) none bare.1)
        | inr some ↦ inr (subst (λ (u : List Lexeme). is_final (seen s.Word u) ≡ true) (sym (p.1 ∙ ap (λ (u : List Lexeme). u ++ d.1) bare.0 ∙ some.2)) (from_first s.Word some.0 some.1 (tells (class_of some.0) some.3)))
      ]
    ]

-- a name, and what it is called with
args_rule : (n : ℕ) (p : Production args) (vs : Trees (symbols p)) (x after : List Lexeme) → DerivesSymbols (Derives n) (symbols p) vs x after → is_final (seen s.Word x) ≡ true
args_rule n args_of vs x after d = subst (λ (q : Seen). is_final q ≡ true) (sym (walk s.Word s.Other x d.0 d.1 d.2 (token_walk (Derives n) s.Word mark t.LeftParen vs.0 d.0 (d.1 ++ after) refl d.3))) (final_more s.Other [] d.1 refl)

any_args : (n : ℕ) (v : Option (TreeOf args)) (x after : List Lexeme) → DerivesSymbol (Derives n) (optional args) v x after → (x ≡ []) ⊎ (is_final (seen s.Word x) ≡ true)
any_args n None x after h = inl h.0
any_args zero (Some v) x after h = absurd h
any_args (suc n) (Some v) x after h = inr (args_rule n h.0 h.1 x after h.4)

primary_rule : (n : ℕ) (p : Production primary) (vs : Trees (symbols p)) (l : Lexeme) (x after : List Lexeme) → heads (symbols p) t.Name ≡ true → DerivesSymbols (Derives n) (symbols p) vs (l ∷ x) after → (x ≡ []) ⊎ (is_final (seen s.Word x) ≡ true)
unfolding same_terminal
primary_rule n named vs l x after e d =
    let p = parts_are l d.3.0 x d.1 (d.2 ∙ ap (λ (u : List Lexeme). u ++ d.1) d.3.1) in
    subst (λ (u : List Lexeme). (u ≡ []) ⊎ (is_final (seen s.Word u) ≡ true)) (sym p.1) (any_args n vs.1.0 d.1 after (last_symbol (Derives n) (optional args) vs.1 d.1 after d.4))
primary_rule n _ vs l x after e d = absurd cc

heads_name : (n : ℕ) {f : Form} (p : Production f) (vs : Trees (symbols p)) (l : Lexeme) (x after : List Lexeme) → class_of l ≡ t.Name → DerivesSymbols (Derives n) (symbols p) vs (l ∷ x) after → heads (symbols p) t.Name ≡ true
heads_name n p vs l x after k d =
    let a = first_symbol (Derives n) (leads n) (symbols p) vs (l ∷ x) after (led p) d in
    let is : class_of a.0 ≡ t.Name = sym (ap next a.2) ∙ k in
    subst (λ (c : Terminal). heads (symbols p) c ≡ true) is a.3

name_primary : (n : ℕ) (v : TreeOf primary) (l : Lexeme) (x after : List Lexeme) → class_of l ≡ t.Name → Derives n primary v (l ∷ x) after → (x ≡ []) ⊎ (is_final (seen s.Word x) ≡ true)
name_primary zero v l x after k h = absurd h
name_primary (suc n) v l x after k h = primary_rule n h.0 h.1 l x after (heads_name n h.0 h.1 l x after k h.4) h.4

-- a suffix tells more
open_first : (c : Terminal) → begins_expr c ≡ true → is_final (sees s.WordOpen c) ≡ true
open_first t.Name e = refl
open_first t.Integer e = refl
open_first t.Text e = refl
open_first t.Class e = refl
open_first t.Basic e = refl
open_first t.New e = refl
open_first t.Constant e = refl
open_first t.LeftParen e = refl
open_first t.LeftBracket e = refl
open_first t.Additive e = refl
open_first t.Step e = refl
open_first t.Negation e = refl
open_first _ e = absurd cc

dot_rule : (n : ℕ) (q : Seen) (p : Production dot) (vs : Trees (symbols p)) (x after : List Lexeme) → DerivesSymbols (Derives n) (symbols p) vs x after → Has t.Dot x
unfolding same_terminal
dot_rule n q dot_of vs x after d = symbols_have (Derives n) t.Dot (symbols dot_of) vs x after refl refl d

pub dot_has : (n : ℕ) (v : TreeOf dot) (x after : List Lexeme) → Derives n dot v x after → Has t.Dot x
dot_has zero v x after h = absurd h
dot_has (suc n) v x after h = dot_rule n s.Start h.0 h.1 x after h.4

postfix_rule : (n : ℕ) (p : Production postfix) (vs : Trees (symbols p)) (x after : List Lexeme) → DerivesSymbols (Derives n) (symbols p) vs x after → is_final (seen s.Word x) ≡ true
postfix_rule n access vs x after d =
    dot_tells n vs.0 x after (last_symbol (Derives n) (phrase dot) vs x after d)
  where
    dot_tells : (n : ℕ) (v : TreeOf dot) (x after : List Lexeme) → Derives n dot v x after → is_final (seen s.Word x) ≡ true
    dot_tells n v x after h =
        let a = leads n dot v x after h in
        subst (λ (u : List Lexeme). is_final (seen s.Word u) ≡ true) (sym a.2) (from_first s.Word a.0 a.1 (tells (class_of a.0) a.3))
      where
        tells : (c : Terminal) → first dot c ≡ true → is_final (sees s.Word c) ≡ true
        tells t.Dot e = refl
        tells _ e = absurd cc
postfix_rule n index vs x after d =
    let a = leads n expr vs.1.0 d.4.0 (d.4.1 ++ after) d.4.3 in
    let inside : d.1 ≡ a.0 ∷ (a.1 ++ d.4.1) = d.4.2 ∙ ap (λ (u : List Lexeme). u ++ d.4.1) a.2 in
    let e : seen s.Word x ≡ seen s.WordOpen (a.0 ∷ (a.1 ++ d.4.1)) = walk s.Word s.WordOpen x d.0 d.1 d.2 (token_walk (Derives n) s.Word mark t.LeftBracket vs.0 d.0 (d.1 ++ after) refl d.3) ∙ ap (λ (u : List Lexeme). seen s.WordOpen u) inside in
    subst (λ (q : Seen). is_final q ≡ true) (sym e) (from_first s.WordOpen a.0 (a.1 ++ d.4.1) (open_first (class_of a.0) a.3))

postfix_tells : (n : ℕ) (v : TreeOf postfix) (x after : List Lexeme) → Derives n postfix v x after → is_final (seen s.Word x) ≡ true
postfix_tells zero v x after h = absurd h
postfix_tells (suc n) v x after h = postfix_rule n h.0 h.1 x after h.4

postfixes_tell : (n : ℕ) (vs : List (TreeOf postfix)) (x after : List Lexeme) → Sequence (Derives n) postfix vs x after → (x ≡ []) ⊎ (is_final (seen s.Word x) ≡ true)
postfixes_tell n [] x after h = inl h
postfixes_tell n (v ∷ vs) x after h = inr (subst (λ (u : List Lexeme). is_final (seen s.Word u) ≡ true) (sym h.2) (final_more s.Word h.0 h.1 (postfix_tells n v h.0 (h.1 ++ after) h.3)))

chain_rule : (n : ℕ) (p : Production chain) (vs : Trees (symbols p)) (l : Lexeme) (x after : List Lexeme) → class_of l ≡ t.Name → heads (symbols p) t.Name ≡ true → DerivesSymbols (Derives n) (symbols p) vs (l ∷ x) after → Short x after
unfolding same_terminal
chain_rule n suffixed vs l x after k e d =
    let a = leads n primary vs.0 d.0 (d.1 ++ after) d.3 in
    let p = parts_are l a.0 x (a.1 ++ d.1) (d.2 ∙ ap (λ (u : List Lexeme). u ++ d.1) a.2) in
    let front : d.0 ≡ l ∷ a.1 = a.2 ∙ ap (λ (u : Lexeme). u ∷ a.1) (sym p.0) in
    let more = last_symbol (Derives n) (repeated postfix) vs.1 d.1 after d.4 in
    elim (name_primary n vs.0 l a.1 (d.1 ++ after) k (subst (λ (u : List Lexeme). Derives n primary vs.0 u (d.1 ++ after)) front d.3)) [
      | inr told ↦ inr (subst (λ (u : List Lexeme). is_final (seen s.Word u) ≡ true) (sym p.1) (final_more s.Word a.1 d.1 told))
      | inl alone ↦ elim (postfixes_tell n vs.1.0 d.1 after more.0) [
        | inl none ↦ inl (p.1 ∙ ap (λ (u : List Lexeme). u ++ d.1) alone ∙ none, more.1)
        | inr told ↦ inr (subst (λ (u : List Lexeme). is_final (seen s.Word u) ≡ true) (sym (p.1 ∙ ap (λ (u : List Lexeme). u ++ d.1) alone)) told)
      ]
    ]
chain_rule n typed vs l x after k e d = absurd cc
chain_rule n created vs l x after k e d = absurd cc

spine_rule : (n : ℕ) {f : Form} (p : Production f) (vs : Trees (symbols p)) (l : Lexeme) (x after : List Lexeme) → is_spine f ≡ true → class_of l ≡ t.Name → heads (symbols p) t.Name ≡ true
    → ((g : Form) (v : TreeOf g) (y behind : List Lexeme) → is_spine g ≡ true → Derives n g v (l ∷ y) behind → Short y behind) → DerivesSymbols (Derives n) (symbols p) vs (l ∷ x) after → Short x after
unfolding same_terminal
spine_rule n expression vs l x after i k e short d = with_tail n elvis (optional expr_rest) vs l x after refl expr_tells (λ v y b h. short elvis v y b refl h) d
spine_rule n elvises vs l x after i k e short d = with_tail n (binary (lv.Looser lo.OrOr)) (optional elvis_rest) vs l x after refl elvis_tells (λ v y b h. short (binary (lv.Looser lo.OrOr)) v y b refl h) d
spine_rule n products vs l x after i k e short d = with_tail n unary (repeated (operation lv.Product)) vs l x after refl (operation_tells lv.Product) (λ v y b h. short unary v y b refl h) d
spine_rule n tests vs l x after i k e short d = with_tail n (binary (lv.Looser lo.Relational)) (repeated (operation lv.Instance)) vs l x after refl (operation_tells lv.Instance) (λ v y b h. short (binary (lv.Looser lo.Relational)) v y b refl h) d
spine_rule n (joins m) vs l x after i k e short d = with_tail n (binary (tighter m)) (repeated (operation (lv.Looser m))) vs l x after refl (operation_tells (lv.Looser m)) (λ v y b h. short (binary (tighter m)) v y b refl h) d
spine_rule n plain vs l x after i k e short d = with_tail n chain (optional step) vs l x after refl step_tells (λ v y b h. short chain v y b refl h) d
spine_rule n suffixed vs l x after i k e short d = chain_rule n suffixed vs l x after k e d
spine_rule n _ vs l x after i k e short d = absurd cc

pub word_expr : (n : ℕ) (f : Form) (v : TreeOf f) (l : Lexeme) (x after : List Lexeme) → is_spine f ≡ true → class_of l ≡ t.Name → Derives n f v (l ∷ x) after → Short x after
word_expr zero f v l x after i k h = absurd h
word_expr (suc n) f v l x after i k h = spine_rule n h.0 h.1 l x after i k (heads_name n h.0 h.1 l x after k h.4) (λ g v y b j d. word_expr n g v l y b j k d) h.4

-- ---- what begins with a type that is no name has a dot

same_next : (n : ℕ) (f : Form) (v : TreeOf f) (x a b after : List Lexeme) → x ≡ a ++ b → Derives n f v a (b ++ after) → next x ≡ next a
same_next n f v x a b after e d = let l = leads n f v a (b ++ after) d in ap next (e ∙ ap (λ (u : List Lexeme). u ++ b) l.2) ∙ sym (ap next l.2)

basic_rule : (n : ℕ) {f : Form} (p : Production f) (vs : Trees (symbols p)) (x after : List Lexeme) → is_spine f ≡ true → heads (symbols p) t.Basic ≡ true
    → ((g : Form) (v : TreeOf g) (y behind : List Lexeme) → is_spine g ≡ true → next x ≡ next y → Derives n g v y behind → Has t.Dot y) → next x ≡ t.Basic → DerivesSymbols (Derives n) (symbols p) vs x after → Has t.Dot x
unfolding same_terminal
basic_rule n typed vs x after i e has k d = has_after t.Dot d.0 d.1 x d.2 (has_in t.Dot d.4.0 d.4.1 d.1 d.4.2 (dot_has n vs.1.0 d.4.0 (d.4.1 ++ after) d.4.3))
basic_rule n expression vs x after i e has k d = has_in t.Dot d.0 d.1 x d.2 (has elvis vs.0 d.0 (d.1 ++ after) refl (same_next n elvis vs.0 x d.0 d.1 after d.2 d.3) d.3)
basic_rule n elvises vs x after i e has k d = has_in t.Dot d.0 d.1 x d.2 (has (binary (lv.Looser lo.OrOr)) vs.0 d.0 (d.1 ++ after) refl (same_next n (binary (lv.Looser lo.OrOr)) vs.0 x d.0 d.1 after d.2 d.3) d.3)
basic_rule n products vs x after i e has k d = has_in t.Dot d.0 d.1 x d.2 (has unary vs.0 d.0 (d.1 ++ after) refl (same_next n unary vs.0 x d.0 d.1 after d.2 d.3) d.3)
basic_rule n tests vs x after i e has k d = has_in t.Dot d.0 d.1 x d.2 (has (binary (lv.Looser lo.Relational)) vs.0 d.0 (d.1 ++ after) refl (same_next n (binary (lv.Looser lo.Relational)) vs.0 x d.0 d.1 after d.2 d.3) d.3)
basic_rule n (joins m) vs x after i e has k d = has_in t.Dot d.0 d.1 x d.2 (has (binary (tighter m)) vs.0 d.0 (d.1 ++ after) refl (same_next n (binary (tighter m)) vs.0 x d.0 d.1 after d.2 d.3) d.3)
basic_rule n plain vs x after i e has k d = has_in t.Dot d.0 d.1 x d.2 (has chain vs.0 d.0 (d.1 ++ after) refl (same_next n chain vs.0 x d.0 d.1 after d.2 d.3) d.3)
basic_rule n _ vs x after i e has k d = absurd cc

class_rule : (n : ℕ) {f : Form} (p : Production f) (vs : Trees (symbols p)) (x after : List Lexeme) → is_spine f ≡ true → heads (symbols p) t.Class ≡ true
    → ((g : Form) (v : TreeOf g) (y behind : List Lexeme) → is_spine g ≡ true → next x ≡ next y → Derives n g v y behind → Has t.Dot y) → next x ≡ t.Class → DerivesSymbols (Derives n) (symbols p) vs x after → Has t.Dot x
unfolding same_terminal
class_rule n typed vs x after i e has k d = has_after t.Dot d.0 d.1 x d.2 (has_in t.Dot d.4.0 d.4.1 d.1 d.4.2 (dot_has n vs.1.0 d.4.0 (d.4.1 ++ after) d.4.3))
class_rule n expression vs x after i e has k d = has_in t.Dot d.0 d.1 x d.2 (has elvis vs.0 d.0 (d.1 ++ after) refl (same_next n elvis vs.0 x d.0 d.1 after d.2 d.3) d.3)
class_rule n elvises vs x after i e has k d = has_in t.Dot d.0 d.1 x d.2 (has (binary (lv.Looser lo.OrOr)) vs.0 d.0 (d.1 ++ after) refl (same_next n (binary (lv.Looser lo.OrOr)) vs.0 x d.0 d.1 after d.2 d.3) d.3)
class_rule n products vs x after i e has k d = has_in t.Dot d.0 d.1 x d.2 (has unary vs.0 d.0 (d.1 ++ after) refl (same_next n unary vs.0 x d.0 d.1 after d.2 d.3) d.3)
class_rule n tests vs x after i e has k d = has_in t.Dot d.0 d.1 x d.2 (has (binary (lv.Looser lo.Relational)) vs.0 d.0 (d.1 ++ after) refl (same_next n (binary (lv.Looser lo.Relational)) vs.0 x d.0 d.1 after d.2 d.3) d.3)
class_rule n (joins m) vs x after i e has k d = has_in t.Dot d.0 d.1 x d.2 (has (binary (tighter m)) vs.0 d.0 (d.1 ++ after) refl (same_next n (binary (tighter m)) vs.0 x d.0 d.1 after d.2 d.3) d.3)
class_rule n plain vs x after i e has k d = has_in t.Dot d.0 d.1 x d.2 (has chain vs.0 d.0 (d.1 ++ after) refl (same_next n chain vs.0 x d.0 d.1 after d.2 d.3) d.3)
class_rule n _ vs x after i e has k d = absurd cc

heads_next : (n : ℕ) {f : Form} (p : Production f) (vs : Trees (symbols p)) (x after : List Lexeme) (c : Terminal) → next x ≡ c → DerivesSymbols (Derives n) (symbols p) vs x after → heads (symbols p) c ≡ true
heads_next n p vs x after c k d =
    let a = first_symbol (Derives n) (leads n) (symbols p) vs x after (led p) d in
    subst (λ (c : Terminal). heads (symbols p) c ≡ true) (sym (ap next a.2) ∙ k) a.3

pub basic_dot : (n : ℕ) (f : Form) (v : TreeOf f) (x after : List Lexeme) → is_spine f ≡ true → next x ≡ t.Basic → Derives n f v x after → Has t.Dot x
basic_dot zero f v x after i k h = absurd h
basic_dot (suc n) f v x after i k h = basic_rule n h.0 h.1 x after i (heads_next n h.0 h.1 x after t.Basic k h.4) (λ g v y b j e d. basic_dot n g v y b j (sym e ∙ k) d) k h.4

pub class_dot : (n : ℕ) (f : Form) (v : TreeOf f) (x after : List Lexeme) → is_spine f ≡ true → next x ≡ t.Class → Derives n f v x after → Has t.Dot x
class_dot zero f v x after i k h = absurd h
class_dot (suc n) f v x after i k h = class_rule n h.0 h.1 x after i (heads_next n h.0 h.1 x after t.Class k h.4) (λ g v y b j e d. class_dot n g v y b j (sym e ∙ k) d) k h.4
