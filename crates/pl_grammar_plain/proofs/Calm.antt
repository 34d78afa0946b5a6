-- What an expression looks like from its beginning: no look ahead takes it for anything else.
use Rattle.std.proofs.Common.{◌≡◌, ℕ, zero, suc, Bool, true, false, List, [], ◌∷◌, ◌++◌, Some, None, refl, sym, ap, subst, ◌∙◌, inl, inr, ◌⊎◌}
use Rattle.pl_grammar.specs.declared.terminal.Terminal.{Terminal}
use Rattle.pl_grammar.specs.declared.terminal.Terminal.TheVariants as t
use Rattle.pl_grammar.specs.declared.level.Level.{Level}
use Rattle.pl_grammar.specs.declared.level.Level.TheVariants as lv
use Rattle.pl_grammar.specs.declared.level.Looser.TheVariants as lo
use Rattle.pl_grammar.specs.declared.ahead.Seen.{Seen}
use Rattle.pl_grammar.specs.declared.ahead.Seen.TheVariants as s
use Rattle.pl_grammar.specs.Lexeme.{Lexeme, mark, text, is_known, same_terminal, matches, class_of}
use Rattle.pl_grammar.specs.Ahead.{sees, seen}
use Rattle.pl_grammar.specs.Grammar.{Form, expr, expr_rest, elvis, elvis_rest, unary, step, chain, element, new_rest, primary, postfix, dot, args, binary, operation, TreeOf, Symbol, token, phrase, repeated, optional, SymbolTree, Trees, Production, expression, elvises, prefix, signed, negated, cast, plain, suffixed, typed, created, bracketed, integer, string, constant, collection, named, contents, access, index, products, tests, joins, symbols, tighter}
use Rattle.pl_grammar.specs.Firsts.{first, begins_expr}
use Rattle.pl_grammar.specs.Derives.{Sequence, DerivesSymbol, DerivesSymbols, Derives}
use Rattle.pl_grammar.proofs.Scan.{seen_final}
use Rattle.pl_grammar_plain.proofs.Leads.{Leads, leads}
use Rattle.pl_grammar_laws.proofs.Walks.{walk, token_walk, last_symbol}
use Rattle.pl_grammar_laws.proofs.Told.{cast_type_walk}
use Rattle.pl_grammar_plain.proofs.Tests.{clash, tested}

-- forms whose phrases may begin with an operand
abbrev pub is_spine : Form → Bool
is_spine expr = true
is_spine elvis = true
is_spine (binary l) = true
is_spine unary = true
is_spine chain = true
is_spine _ = false

-- ---- tokens

-- what an operand may go on with
abbrev pub goes_on : Terminal → Bool
goes_on t.Step = true
goes_on t.Question = true
goes_on t.Assign = true
goes_on t.CompoundAssign = true
goes_on t.Elvis = true
goes_on t.Multiplicative = true
goes_on t.Instanceof = true
goes_on t.Additive = true
goes_on t.Shift = true
goes_on t.Relational = true
goes_on t.Equality = true
goes_on t.And = true
goes_on t.Xor = true
goes_on t.Or = true
goes_on t.AndAnd = true
goes_on t.OrOr = true
goes_on t.Dot = true
goes_on t.LeftParen = true
goes_on _ = false

-- what an operand may begin with, besides a name, a type and a `(`
abbrev pub is_start : Terminal → Bool
is_start t.Step = true
is_start t.Additive = true
is_start t.Negation = true
is_start t.New = true
is_start t.Integer = true
is_start t.Text = true
is_start t.Constant = true
is_start t.LeftBracket = true
is_start _ = false

operation_on : (l : Level) (c : Terminal) → first (operation l) c ≡ true → goes_on c ≡ true
unfolding same_terminal
operation_on lv.Product c e = tested (first (operation lv.Product)) goes_on c refl e
operation_on lv.Instance c e = tested (first (operation lv.Instance)) goes_on c refl e
operation_on (lv.Looser lo.Sum) c e = tested (first (operation (lv.Looser lo.Sum))) goes_on c refl e
operation_on (lv.Looser lo.Shift) c e = tested (first (operation (lv.Looser lo.Shift))) goes_on c refl e
operation_on (lv.Looser lo.Relational) c e = tested (first (operation (lv.Looser lo.Relational))) goes_on c refl e
operation_on (lv.Looser lo.Equality) c e = tested (first (operation (lv.Looser lo.Equality))) goes_on c refl e
operation_on (lv.Looser lo.And) c e = tested (first (operation (lv.Looser lo.And))) goes_on c refl e
operation_on (lv.Looser lo.Xor) c e = tested (first (operation (lv.Looser lo.Xor))) goes_on c refl e
operation_on (lv.Looser lo.Or) c e = tested (first (operation (lv.Looser lo.Or))) goes_on c refl e
operation_on (lv.Looser lo.AndAnd) c e = tested (first (operation (lv.Looser lo.AndAnd))) goes_on c refl e
operation_on (lv.Looser lo.OrOr) c e = tested (first (operation (lv.Looser lo.OrOr))) goes_on c refl e

-- a token of such a class is one
is_first : (w c : Terminal) → is_start w ≡ true → matches w c ≡ true → is_start c ≡ true
unfolding same_terminal
is_first t.Step c i e = tested (matches t.Step) is_start c refl e
is_first t.Additive c i e = tested (matches t.Additive) is_start c refl e
is_first t.Negation c i e = tested (matches t.Negation) is_start c refl e
is_first t.New c i e = tested (matches t.New) is_start c refl e
is_first t.Integer c i e = tested (matches t.Integer) is_start c refl e
is_first t.Text c i e = tested (matches t.Text) is_start c refl e
is_first t.Constant c i e = tested (matches t.Constant) is_start c refl e
is_first t.LeftBracket c i e = tested (matches t.LeftBracket) is_start c refl e
is_first _ c i e = absurd (clash i)

step_on : (c : Terminal) → first step c ≡ true → goes_on c ≡ true
step_on t.Step e = refl
step_on _ e = absurd cc

rest_on : (c : Terminal) → first expr_rest c ≡ true → goes_on c ≡ true
rest_on t.Question e = refl
rest_on t.Assign e = refl
rest_on t.CompoundAssign e = refl
rest_on _ e = absurd cc

elvis_on : (c : Terminal) → first elvis_rest c ≡ true → goes_on c ≡ true
elvis_on t.Elvis e = refl
elvis_on _ e = absurd cc

dot_on : (c : Terminal) → first dot c ≡ true → c ≡ t.Dot
dot_on t.Dot e = refl
dot_on _ e = absurd cc

args_on : (c : Terminal) → first args c ≡ true → goes_on c ≡ true
args_on t.LeftParen e = refl
args_on _ e = absurd cc

-- ---- tails

abbrev tail_form : Symbol → Form
tail_form (repeated f) = f
tail_form (optional f) = f
tail_form (phrase f) = f
tail_form (token take w) = step

abbrev is_tail : Symbol → Bool
is_tail (repeated f) = true
is_tail (optional f) = true
is_tail _ = false

tail_leads : (n : ℕ) (sy : Symbol) (v : SymbolTree sy) (x after : List Lexeme) → is_tail sy ≡ true → DerivesSymbol (Derives n) sy v x after → (x ≡ []) ⊎ Leads (tail_form sy) x
tail_leads n (repeated f) [] x after e h = inl h.0
tail_leads n (repeated f) (v ∷ vs) x after e h =
    let a = leads n f v h.0.0 (h.0.1 ++ after) h.0.3 in
    inr (a.0, a.1 ++ h.0.1, h.0.2 ∙ ap (λ (u : List Lexeme). u ++ h.0.1) a.2, a.3)
tail_leads n (optional f) None x after e h = inl h.0
tail_leads n (optional f) (Some v) x after e h = inr (leads n f v x after h)
tail_leads n (phrase f) v x after e h = absurd cc
tail_leads n (token take w) v x after e h = absurd cc

-- nothing more is told after Other
pub other : (x : List Lexeme) → seen s.Other x ≡ s.Other
other x = seen_final s.Other x refl

-- a token that leads to Other, and what comes behind it
pub to_other : (q : Seen) (l : Lexeme) (x y : List Lexeme) → x ≡ l ∷ y → sees q (class_of l) ≡ s.Other → seen q x ≡ s.Other
to_other q l x y e h = ap (λ (u : List Lexeme). seen q u) e ∙ ap (λ (p : Seen). seen p y) h ∙ other y

-- ---- operands, from a state on: P holds of Other and of the states to which a name, or a name in brackets, leads

module _ (P : Seen → Bool) (from known : Seen) (of_other : P s.Other ≡ true)
    (tails : (q : Seen) (c : Terminal) → P q ≡ true → goes_on c ≡ true → sees q c ≡ s.Other)
    (indexes : (q : Seen) (c : Terminal) → P q ≡ true → begins_expr c ≡ true → sees (sees q t.LeftBracket) c ≡ s.Other)
    (by_name : P (sees from t.Name) ≡ true)
    (by_known : (c : Terminal) → is_known c ≡ true → sees from c ≡ known)
    (stays_known : sees (sees known t.LeftBracket) t.RightBracket ≡ known)
    (by_dot : sees known t.Dot ≡ s.Other)
    (starts : (c : Terminal) → is_start c ≡ true → sees from c ≡ s.Other)
    (bracket : (n : ℕ) (vs : Trees (symbols bracketed)) (x after : List Lexeme) → DerivesSymbols (Derives n) (symbols bracketed) vs x after → P (seen from x) ≡ true) where
  is_other : (q : Seen) → q ≡ s.Other → P q ≡ true
  is_other q e = subst (λ (u : Seen). P u ≡ true) (sym e) of_other

  -- a phrase, and a tail that is empty or begins with a token that goes on
  tail_calm : (x a b : List Lexeme) (f : Form) → x ≡ a ++ b → P (seen from a) ≡ true → ((c : Terminal) → first f c ≡ true → goes_on c ≡ true) → ((b ≡ []) ⊎ Leads f b) → P (seen from x) ≡ true
  tail_calm x a b f e h goes (inl none) =
      subst (λ (u : Seen). P u ≡ true) (sym (walk from (seen from a) x a b e refl ∙ ap (λ (u : List Lexeme). seen (seen from a) u) none)) h
  tail_calm x a b f e h goes (inr some) =
      is_other (seen from x) (walk from (seen from a) x a b e refl ∙ to_other (seen from a) some.0 b some.1 some.2 (tails (seen from a) (class_of some.0) h (goes (class_of some.0) some.3)))

  postfix_rule : (n : ℕ) (q : Seen) (p : Production postfix) (vs : Trees (symbols p)) (x after : List Lexeme) → P q ≡ true → DerivesSymbols (Derives n) (symbols p) vs x after → seen q x ≡ s.Other
  postfix_rule n q access vs x after h d =
      let a = leads n dot vs.0 x after (last_symbol (Derives n) (phrase dot) vs x after d) in
      to_other q a.0 x a.1 a.2 (tails q (class_of a.0) h (subst (λ (c : Terminal). goes_on c ≡ true) (sym (dot_on (class_of a.0) a.3)) refl))
  postfix_rule n q index vs x after h d =
      let a = leads n expr vs.1.0 d.4.0 (d.4.1 ++ after) d.4.3 in
      let inside : d.1 ≡ a.0 ∷ (a.1 ++ d.4.1) = d.4.2 ∙ ap (λ (u : List Lexeme). u ++ d.4.1) a.2 in
      walk q (sees q t.LeftBracket) x d.0 d.1 d.2 (token_walk (Derives n) q mark t.LeftBracket vs.0 d.0 (d.1 ++ after) refl d.3)
      ∙ to_other (sees q t.LeftBracket) a.0 d.1 (a.1 ++ d.4.1) inside (indexes q (class_of a.0) h a.3)

  postfix_calm : (n : ℕ) (q : Seen) (v : TreeOf postfix) (x after : List Lexeme) → P q ≡ true → Derives n postfix v x after → seen q x ≡ s.Other
  postfix_calm zero q v x after h d = absurd d
  postfix_calm (suc n) q v x after h d = postfix_rule n q d.0 d.1 x after h d.4

  postfixes_calm : (n : ℕ) (q : Seen) (vs : List (TreeOf postfix)) (x after : List Lexeme) → P q ≡ true → Sequence (Derives n) postfix vs x after → P (seen q x) ≡ true
  postfixes_calm n q [] x after h d = subst (λ (u : List Lexeme). P (seen q u) ≡ true) (sym d) h
  postfixes_calm n q (v ∷ vs) x after h d =
      is_other (seen q x) (walk q s.Other x d.0 d.1 d.2 (postfix_calm n q v d.0 (d.1 ++ after) h d.3) ∙ other d.1)

  starts_with : (n : ℕ) (w : Terminal) (ss : List Symbol) (vs : Trees (token mark w ∷ ss)) (x after : List Lexeme) → ((c : Terminal) → matches w c ≡ true → is_start c ≡ true) → DerivesSymbols (Derives n) (token mark w ∷ ss) vs x after → P (seen from x) ≡ true
  starts_with n w ss vs x after h d =
      is_other (seen from x) (to_other from d.3.0 x d.1 (d.2 ∙ ap (λ (u : List Lexeme). u ++ d.1) d.3.1) (starts (class_of d.3.0) (h (class_of d.3.0) d.3.2)))

  spelled_with : (n : ℕ) (w : Terminal) (ss : List Symbol) (vs : Trees (token text w ∷ ss)) (x after : List Lexeme) → ((c : Terminal) → matches w c ≡ true → is_start c ≡ true) → DerivesSymbols (Derives n) (token text w ∷ ss) vs x after → P (seen from x) ≡ true
  spelled_with n w ss vs x after h d =
      is_other (seen from x) (to_other from d.3.0 x d.1 (d.2 ∙ ap (λ (u : List Lexeme). u ++ d.1) d.3.1) (starts (class_of d.3.0) (h (class_of d.3.0) d.3.2)))

  primary_rule : (n : ℕ) (p : Production primary) (vs : Trees (symbols p)) (x after : List Lexeme) → DerivesSymbols (Derives n) (symbols p) vs x after → P (seen from x) ≡ true
  primary_rule n bracketed vs x after d = bracket n vs x after d
  primary_rule n integer vs x after d = spelled_with n t.Integer [] vs x after (λ c e. is_first t.Integer c refl e) d
  primary_rule n string vs x after d = spelled_with n t.Text [] vs x after (λ c e. is_first t.Text c refl e) d
  primary_rule n constant vs x after d = starts_with n t.Constant [] vs x after (λ c e. is_first t.Constant c refl e) d
  primary_rule n collection vs x after d = starts_with n t.LeftBracket (optional contents ∷ token mark t.RightBracket ∷ []) vs x after (λ c e. is_first t.LeftBracket c refl e) d
  primary_rule n named vs x after d =
      tail_calm x d.0 d.1 args d.2 (subst (λ (u : Seen). P u ≡ true) (sym (token_walk (Derives n) from text t.Name vs.0 d.0 (d.1 ++ after) refl d.3)) by_name) args_on
      (tail_leads n (optional args) vs.1.0 d.1 after refl (last_symbol (Derives n) (optional args) vs.1 d.1 after d.4))

  primary_calm : (n : ℕ) (v : TreeOf primary) (x after : List Lexeme) → Derives n primary v x after → P (seen from x) ≡ true
  primary_calm zero v x after d = absurd d
  primary_calm (suc n) v x after d = primary_rule n d.0 d.1 x after d.4

  chain_rule : (n : ℕ) (p : Production chain) (vs : Trees (symbols p)) (x after : List Lexeme) → DerivesSymbols (Derives n) (symbols p) vs x after → P (seen from x) ≡ true
  chain_rule n suffixed vs x after d =
      subst (λ (u : Seen). P u ≡ true) (sym (walk from (seen from d.0) x d.0 d.1 d.2 refl))
      (postfixes_calm n (seen from d.0) vs.1.0 d.1 after (primary_calm n vs.0 d.0 (d.1 ++ after) d.3) (last_symbol (Derives n) (repeated postfix) vs.1 d.1 after d.4).0)
  chain_rule n typed vs x after d =
      let a = leads n dot vs.1.0 d.4.0 (d.4.1 ++ after) d.4.3 in
      let behind : d.1 ≡ a.0 ∷ (a.1 ++ d.4.1) = d.4.2 ∙ ap (λ (u : List Lexeme). u ++ d.4.1) a.2 in
      is_other (seen from x) (walk from known x d.0 d.1 d.2 (cast_type_walk n from known vs.0 d.0 (d.1 ++ after) by_known stays_known d.3)
      ∙ to_other known a.0 d.1 (a.1 ++ d.4.1) behind (ap (λ (c : Terminal). sees known c) (dot_on (class_of a.0) a.3) ∙ by_dot))
  chain_rule n created vs x after d = starts_with n t.New (phrase element ∷ phrase new_rest ∷ repeated postfix ∷ []) vs x after (λ c e. is_first t.New c refl e) d

  pub chain_calm : (n : ℕ) (v : TreeOf chain) (x after : List Lexeme) → Derives n chain v x after → P (seen from x) ≡ true
  chain_calm zero v x after d = absurd d
  chain_calm (suc n) v x after d = chain_rule n d.0 d.1 x after d.4

  -- ---- and expressions, where a cast looks so too

  tail_rule : (n : ℕ) (g : Form) (sy : Symbol) (vs : Trees (phrase g ∷ sy ∷ [])) (x after : List Lexeme) → is_tail sy ≡ true → ((c : Terminal) → first (tail_form sy) c ≡ true → goes_on c ≡ true)
      → ((v : TreeOf g) (y behind : List Lexeme) → Derives n g v y behind → P (seen from y) ≡ true) → DerivesSymbols (Derives n) (phrase g ∷ sy ∷ []) vs x after → P (seen from x) ≡ true
  tail_rule n g sy vs x after i goes calm d =
      tail_calm x d.0 d.1 (tail_form sy) d.2 (calm vs.0 d.0 (d.1 ++ after) d.3) goes (tail_leads n sy vs.1.0 d.1 after i (last_symbol (Derives n) sy vs.1 d.1 after d.4))

  spine_rule : ((n : ℕ) (vs : Trees (symbols cast)) (x after : List Lexeme) → DerivesSymbols (Derives n) (symbols cast) vs x after → P (seen from x) ≡ true) → (n : ℕ) {f : Form} (p : Production f) (vs : Trees (symbols p)) (x after : List Lexeme) → is_spine f ≡ true
      → ((g : Form) (v : TreeOf g) (y behind : List Lexeme) → is_spine g ≡ true → Derives n g v y behind → P (seen from y) ≡ true) → DerivesSymbols (Derives n) (symbols p) vs x after → P (seen from x) ≡ true
  spine_rule casts n expression vs x after i calm d = tail_rule n elvis (optional expr_rest) vs x after refl rest_on (λ v y b h. calm elvis v y b refl h) d
  spine_rule casts n elvises vs x after i calm d = tail_rule n (binary (lv.Looser lo.OrOr)) (optional elvis_rest) vs x after refl elvis_on (λ v y b h. calm (binary (lv.Looser lo.OrOr)) v y b refl h) d
  spine_rule casts n products vs x after i calm d = tail_rule n unary (repeated (operation lv.Product)) vs x after refl (operation_on lv.Product) (λ v y b h. calm unary v y b refl h) d
  spine_rule casts n tests vs x after i calm d = tail_rule n (binary (lv.Looser lo.Relational)) (repeated (operation lv.Instance)) vs x after refl (operation_on lv.Instance) (λ v y b h. calm (binary (lv.Looser lo.Relational)) v y b refl h) d
  spine_rule casts n (joins m) vs x after i calm d = tail_rule n (binary (tighter m)) (repeated (operation (lv.Looser m))) vs x after refl (operation_on (lv.Looser m)) (λ v y b h. calm (binary (tighter m)) v y b refl h) d
  spine_rule casts n prefix vs x after i calm d = starts_with n t.Step (phrase chain ∷ []) vs x after (λ c e. is_first t.Step c refl e) d
  spine_rule casts n signed vs x after i calm d = starts_with n t.Additive (phrase unary ∷ []) vs x after (λ c e. is_first t.Additive c refl e) d
  spine_rule casts n negated vs x after i calm d = starts_with n t.Negation (phrase unary ∷ []) vs x after (λ c e. is_first t.Negation c refl e) d
  spine_rule casts n cast vs x after i calm d = casts n vs x after d
  spine_rule casts n plain vs x after i calm d = tail_rule n chain (optional step) vs x after refl step_on (λ v y b h. chain_calm n v y b h) d
  spine_rule casts n suffixed vs x after i calm d = chain_rule n suffixed vs x after d
  spine_rule casts n typed vs x after i calm d = chain_rule n typed vs x after d
  spine_rule casts n created vs x after i calm d = chain_rule n created vs x after d
  spine_rule casts n _ vs x after i calm d = absurd (clash i)

  pub spine_calm : ((n : ℕ) (vs : Trees (symbols cast)) (x after : List Lexeme) → DerivesSymbols (Derives n) (symbols cast) vs x after → P (seen from x) ≡ true) → (n : ℕ) (f : Form) (v : TreeOf f) (x after : List Lexeme) → is_spine f ≡ true → Derives n f v x after → P (seen from x) ≡ true
  spine_calm casts zero f v x after i d = absurd d
  spine_calm casts (suc n) f v x after i d = spine_rule casts n d.0 d.1 x after i (λ g v y b j h. spine_calm casts n g v y b j h) d.4
