-- What heads tell: types, parameters, casts, and what they begin.
use Rattle.std.proofs.Common.{◌≡◌, ℕ, zero, suc, true, List, [], ◌∷◌, ◌++◌, Option, Some, None, refl, sym, ap, subst, ◌∙◌}
use Rattle.pl_grammar.specs.declared.terminal.Terminal.{Terminal}
use Rattle.pl_grammar.specs.declared.terminal.Terminal.TheVariants as t
use Rattle.pl_grammar.specs.declared.ahead.Seen.{Seen}
use Rattle.pl_grammar.specs.declared.ahead.Seen.TheVariants as s
use Rattle.pl_tree.specs.declared.tree.TypeName.{TypeName}
use Rattle.pl_tree.specs.declared.tree.Parameter.{Parameter}
use Rattle.pl_tree.specs.declared.tree.Function.{Function}
use Rattle.pl_tree.specs.declared.tree.Declaration.{Declaration}
use Rattle.pl_tree.specs.declared.tree.Variable.{Variable}
use Rattle.pl_grammar.specs.Lexeme.{Lexeme, mark, text, is_known, class_of}
use Rattle.pl_grammar.specs.Ahead.{sees, seen, is_final}
use Rattle.pl_grammar.specs.Grammar.{function, formals, block, type, cast_type, pair, decl, var, params, param, comma, Symbol, token, phrase, repeated, optional, Trees, Production, symbols, function_of, name_type, known_type, cast_type_of, square, declaration, variable, params_of, typed_param, bare_param, after_comma}
use Rattle.pl_grammar.specs.Firsts.{is_declared}
use Rattle.pl_grammar.specs.Derives.{Sequence, DerivesSymbol, DerivesSymbols, Derives}
use Rattle.pl_grammar_laws.proofs.LookAhead.{declared_stays}
use Rattle.pl_grammar.proofs.Scan.{seen_append, seen_final}
use Rattle.pl_grammar_laws.proofs.Walks.{walk, token_walk, last_symbol, keeps, from_first}

-- ---- `[ ]`

pair_rule : (n : ℕ) (q r : Seen) (p : Production pair) (vs : Trees (symbols p)) (x after : List Lexeme) → sees (sees q t.LeftBracket) t.RightBracket ≡ r → DerivesSymbols (Derives n) (symbols p) vs x after → seen q x ≡ r
pair_rule n q r square vs x after e d =
    walk q (sees q t.LeftBracket) x d.0 d.1 d.2 (token_walk (Derives n) q mark t.LeftBracket vs.0 d.0 (d.1 ++ after) refl d.3)
    ∙ token_walk (Derives n) (sees q t.LeftBracket) mark t.RightBracket vs.1.0 d.1 after refl (last_symbol (Derives n) (token mark t.RightBracket) vs.1 d.1 after d.4) ∙ e

pair_walk : (n : ℕ) (q r : Seen) (v : ℕ) (x after : List Lexeme) → sees (sees q t.LeftBracket) t.RightBracket ≡ r → Derives n pair v x after → seen q x ≡ r
pair_walk zero q r v x after e h = absurd h
pair_walk (suc n) q r v x after e h = pair_rule n q r h.0 h.1 x after e h.4

pub pairs_walk : (n : ℕ) (q : Seen) (vs : List ℕ) (x after : List Lexeme) → sees (sees q t.LeftBracket) t.RightBracket ≡ q → Sequence (Derives n) pair vs x after → seen q x ≡ q
pairs_walk n q [] x after e h = ap (λ (u : List Lexeme). seen q u) h
pairs_walk n q (v ∷ vs) x after e h = walk q q x h.0 h.1 h.2 (pair_walk n q q v h.0 (h.1 ++ after) e h.3) ∙ pairs_walk n q vs h.1 after e h.4

-- the state stays after further `[ ]`, from one that a first leads to it
pairs_first : (n : ℕ) (q r : Seen) (v : ℕ) (vs : List ℕ) (x after : List Lexeme) → sees (sees q t.LeftBracket) t.RightBracket ≡ r → sees (sees r t.LeftBracket) t.RightBracket ≡ r → Sequence (Derives n) pair (v ∷ vs) x after → seen q x ≡ r
pairs_first n q r v vs x after e f h = walk q r x h.0 h.1 h.2 (pair_walk n q r v h.0 (h.1 ++ after) e h.3) ∙ pairs_walk n r vs h.1 after f h.4

-- ---- types: `known` is where a token of a type that is no name leads, `named` and `more` where a name and its first `[ ]` lead

abbrev pub Among : Seen → Seen → Seen → Seen → Type 1
Among known named more q = (P : Seen → Type 0) → P known → P named → P more → P q

cast_type_rule : (n : ℕ) (q known : Seen) (p : Production cast_type) (vs : Trees (symbols p)) (x after : List Lexeme) → ((c : Terminal) → is_known c ≡ true → sees q c ≡ known) → sees (sees known t.LeftBracket) t.RightBracket ≡ known
    → DerivesSymbols (Derives n) (symbols p) vs x after → seen q x ≡ known
cast_type_rule n q known cast_type_of vs x after e f d =
    walk q known x d.0 d.1 d.2 (ap (λ (u : List Lexeme). seen q u) d.3.1 ∙ e (class_of d.3.0) d.3.2)
    ∙ pairs_walk n known vs.1.0 d.1 after f (last_symbol (Derives n) (repeated pair) vs.1 d.1 after d.4).0

pub cast_type_walk : (n : ℕ) (q known : Seen) (v : TypeName) (x after : List Lexeme) → ((c : Terminal) → is_known c ≡ true → sees q c ≡ known) → sees (sees known t.LeftBracket) t.RightBracket ≡ known → Derives n cast_type v x after → seen q x ≡ known
cast_type_walk zero q known v x after e f h = absurd h
cast_type_walk (suc n) q known v x after e f h = cast_type_rule n q known h.0 h.1 x after e f h.4

module _ (q known named paired : Seen) (by_known : (c : Terminal) → is_known c ≡ true → sees q c ≡ known) (stays_known : sees (sees known t.LeftBracket) t.RightBracket ≡ known) (by_name : sees q t.Name ≡ named) (first_pair : sees (sees named t.LeftBracket) t.RightBracket ≡ paired) (stays_paired : sees (sees paired t.LeftBracket) t.RightBracket ≡ paired) where
  name_pairs : (n : ℕ) (vs : List ℕ) (x after : List Lexeme) → Sequence (Derives n) pair vs x after → Among known named paired (seen named x)
  name_pairs n [] x after h = λ P k m r. subst (λ (u : List Lexeme). P (seen named u)) (sym h) m
  name_pairs n (v ∷ vs) x after h = λ P k m r. subst P (sym (pairs_first n named paired v vs x after first_pair stays_paired h)) r

  type_rule : (n : ℕ) (p : Production type) (vs : Trees (symbols p)) (x after : List Lexeme) → DerivesSymbols (Derives n) (symbols p) vs x after → Among known named paired (seen q x)
  type_rule n name_type vs x after d =
      let e : seen q x ≡ seen named d.1 = walk q named x d.0 d.1 d.2 (token_walk (Derives n) q text t.Name vs.0 d.0 (d.1 ++ after) refl d.3 ∙ by_name) in
      λ P k m r. subst P (sym e) (name_pairs n vs.1.0 d.1 after (last_symbol (Derives n) (repeated pair) vs.1 d.1 after d.4).0 P k m r)
  type_rule n known_type vs x after d =
      let e : seen q x ≡ known = cast_type_walk n q known vs.0 x after by_known stays_known (last_symbol (Derives n) (phrase cast_type) vs x after d) in
      λ P k m r. subst P (sym e) k

  pub type_walk : (n : ℕ) (v : TypeName) (x after : List Lexeme) → Derives n type v x after → Among known named paired (seen q x)
  type_walk zero v x after h = absurd h
  type_walk (suc n) v x after h = type_rule n h.0 h.1 x after h.4

known_at_start : (c : Terminal) → is_known c ≡ true → sees s.Start c ≡ s.Known
known_at_start t.Basic e = refl
known_at_start t.Class e = refl
known_at_start _ e = absurd cc

known_at_round : (c : Terminal) → is_known c ≡ true → sees s.Round c ≡ s.RoundKnown
known_at_round t.Basic e = refl
known_at_round t.Class e = refl
known_at_round _ e = absurd cc

pub known_at_cast : (c : Terminal) → is_known c ≡ true → sees s.CastRound c ≡ s.CastKnown
known_at_cast t.Basic e = refl
known_at_cast t.Class e = refl
known_at_cast _ e = absurd cc

pub known_at_param : (c : Terminal) → is_known c ≡ true → sees s.Param c ≡ s.Declared
known_at_param t.Basic e = refl
known_at_param t.Class e = refl
known_at_param _ e = absurd cc

pub type_from_start : (n : ℕ) (v : TypeName) (x after : List Lexeme) → Derives n type v x after → Among s.Known s.Word s.WordPairs (seen s.Start x)
type_from_start = type_walk s.Start s.Known s.Word s.WordPairs known_at_start refl refl refl refl

pub type_from_round : (n : ℕ) (v : TypeName) (x after : List Lexeme) → Derives n type v x after → Among s.RoundKnown s.RoundWord s.Listed (seen s.Round x)
type_from_round = type_walk s.Round s.RoundKnown s.RoundWord s.Listed known_at_round refl refl refl refl

pub type_from_param : (n : ℕ) (v : TypeName) (x after : List Lexeme) → Derives n type v x after → Among s.Declared s.ParamWord s.Declared (seen s.Param x)
type_from_param = type_walk s.Param s.Declared s.ParamWord s.Declared known_at_param refl refl refl refl

-- ---- a type and what follows it

-- a type and a name
pub head_typed : (n : ℕ) (ss : List Symbol) (vs : Trees (phrase type ∷ token text t.Name ∷ ss)) (x after : List Lexeme) → (d : DerivesSymbols (Derives n) (phrase type ∷ token text t.Name ∷ ss) vs x after) → seen s.Start x ≡ seen s.Typed d.4.1
head_typed n ss vs x after d =
    let q = seen s.Start d.0 in
    walk s.Start q x d.0 d.1 d.2 refl
    ∙ walk q s.Typed d.1 d.4.0 d.4.1 d.4.2 (token_walk (Derives n) q text t.Name vs.1.0 d.4.0 (d.4.1 ++ after) refl d.4.3 ∙ type_from_start n vs.0 d.0 (d.1 ++ after) d.3 (λ (u : Seen). sees u t.Name ≡ s.Typed) refl refl refl)

var_rule : (n : ℕ) (q : Seen) (p : Production var) (vs : Trees (symbols p)) (x after : List Lexeme) → sees q t.Name ≡ s.Typed → DerivesSymbols (Derives n) (symbols p) vs x after → (b : List Lexeme) × (seen q x ≡ seen s.Typed b)
var_rule n q variable vs x after e d = (d.1, walk q s.Typed x d.0 d.1 d.2 (token_walk (Derives n) q text t.Name vs.0 d.0 (d.1 ++ after) refl d.3 ∙ e))

var_walk : (n : ℕ) (q : Seen) (v : Variable) (x after : List Lexeme) → sees q t.Name ≡ s.Typed → Derives n var v x after → (b : List Lexeme) × (seen q x ≡ seen s.Typed b)
var_walk zero q v x after e h = absurd h
var_walk (suc n) q v x after e h = var_rule n q h.0 h.1 x after e h.4

decl_rule : (n : ℕ) (p : Production decl) (vs : Trees (symbols p)) (x after : List Lexeme) → DerivesSymbols (Derives n) (symbols p) vs x after → (b : List Lexeme) × (seen s.Start x ≡ seen s.Typed b)
decl_rule n declaration vs x after d =
    let q = seen s.Start d.0 in
    let v = var_walk n q vs.1.0 d.4.0 (d.4.1 ++ after) (type_from_start n vs.0 d.0 (d.1 ++ after) d.3 (λ (u : Seen). sees u t.Name ≡ s.Typed) refl refl refl) d.4.3 in (
      v.0 ++ d.4.1,
      walk s.Start q x d.0 d.1 d.2 refl ∙ walk q (seen s.Typed v.0) d.1 d.4.0 d.4.1 d.4.2 v.1 ∙ sym (seen_append s.Typed v.0 d.4.1),
    )

-- a declaration begins with a type and a name
pub decl_walk : (n : ℕ) (v : Declaration) (x after : List Lexeme) → Derives n decl v x after → (b : List Lexeme) × (seen s.Start x ≡ seen s.Typed b)
decl_walk zero v x after h = absurd h
decl_walk (suc n) v x after h = decl_rule n h.0 h.1 x after h.4

pub typed_final : (c : Terminal) → is_final (sees s.Typed c) ≡ true
typed_final t.LeftParen = refl
typed_final t.Colon = refl
typed_final _ = refl

pub typed_more : (b : List Lexeme) (l : Lexeme) (w : List Lexeme) → is_final (seen s.Typed (b ++ l ∷ w)) ≡ true
typed_more [] l w = from_first s.Typed l w (typed_final (class_of l))
typed_more (k ∷ b) l w = from_first s.Typed k (b ++ l ∷ w) (typed_final (class_of k))

pub decl_firm : (n : ℕ) (v : Declaration) (x : List Lexeme) (l : Lexeme) (w : List Lexeme) → Derives n decl v x (l ∷ w) → is_final (seen s.Start (x ++ l ∷ w)) ≡ true
decl_firm n v x l w h =
    let a = decl_walk n v x (l ∷ w) h in
    subst (λ (q : Seen). is_final q ≡ true) (sym (seen_append s.Start x (l ∷ w) ∙ ap (λ (q : Seen). seen q (l ∷ w)) a.1 ∙ sym (seen_append s.Typed a.0 (l ∷ w)))) (typed_more a.0 l w)

pub decl_told : (n : ℕ) (v : Declaration) (x after : List Lexeme) → Derives n decl v x after → is_declared (seen s.Start (x ++ after)) ≡ true
decl_told n v x after h =
    let a = decl_walk n v x after h in
    subst (λ (q : Seen). is_declared q ≡ true) (sym (seen_append s.Start x after ∙ ap (λ (q : Seen). seen q after) a.1)) (keeps is_declared t.End declared_stays (seen s.Typed a.0) after (keeps is_declared t.End declared_stays s.Typed a.0 refl))

function_rule : (n : ℕ) (p : Production function) (vs : Trees (symbols p)) (x after : List Lexeme) → DerivesSymbols (Derives n) (symbols p) vs x after → seen s.Start x ≡ s.Function
function_rule n function_of vs x after d =
    head_typed n (token mark t.LeftParen ∷ optional formals ∷ token mark t.RightParen ∷ phrase block ∷ []) vs x after d
    ∙ walk s.Typed s.Function d.4.1 d.4.4.0 d.4.4.1 d.4.4.2 (token_walk (Derives n) s.Typed mark t.LeftParen vs.1.1.0 d.4.4.0 (d.4.4.1 ++ after) refl d.4.4.3)
    ∙ seen_final s.Function d.4.4.1 refl

pub function_walk : (n : ℕ) (v : Function) (x after : List Lexeme) → Derives n function v x after → seen s.Start x ≡ s.Function
function_walk zero v x after h = absurd h
function_walk (suc n) v x after h = function_rule n h.0 h.1 x after h.4

-- ---- parameters

param_start_rule : (n : ℕ) (p : Production param) (vs : Trees (symbols p)) (x after : List Lexeme) → DerivesSymbols (Derives n) (symbols p) vs x after → (P : Seen → Type 0) → P s.Typed → P s.Word → P (seen s.Start x)
param_start_rule n typed_param vs x after d =
    λ P a b. subst P (sym (head_typed n [] vs x after d ∙ ap (λ (u : List Lexeme). seen s.Typed u) d.4.4)) a
param_start_rule n bare_param vs x after d = λ P a b. subst P (sym (token_walk (Derives n) s.Start text t.Name vs.0 x after refl (last_symbol (Derives n) (token text t.Name) vs x after d))) b

pub param_from_start : (n : ℕ) (v : Parameter) (x after : List Lexeme) → Derives n param v x after → (P : Seen → Type 0) → P s.Typed → P s.Word → P (seen s.Start x)
param_from_start zero v x after h = absurd h
param_from_start (suc n) v x after h = param_start_rule n h.0 h.1 x after h.4

param_round_rule : (n : ℕ) (p : Production param) (vs : Trees (symbols p)) (x after : List Lexeme) → DerivesSymbols (Derives n) (symbols p) vs x after → (P : Seen → Type 0) → P s.Listed → P s.RoundWord → P (seen s.Round x)
param_round_rule n typed_param vs x after d =
    let q = seen s.Round d.0 in
    let e : seen s.Round x ≡ s.Listed =
    walk s.Round q x d.0 d.1 d.2 refl
    ∙ token_walk (Derives n) q text t.Name vs.1.0 d.1 after refl (last_symbol (Derives n) (token text t.Name) vs.1 d.1 after d.4)
    ∙ type_from_round n vs.0 d.0 (d.1 ++ after) d.3 (λ (u : Seen). sees u t.Name ≡ s.Listed) refl refl refl in
    λ P a b. subst P (sym e) a
param_round_rule n bare_param vs x after d = λ P a b. subst P (sym (token_walk (Derives n) s.Round text t.Name vs.0 x after refl (last_symbol (Derives n) (token text t.Name) vs x after d))) b

param_from_round : (n : ℕ) (v : Parameter) (x after : List Lexeme) → Derives n param v x after → (P : Seen → Type 0) → P s.Listed → P s.RoundWord → P (seen s.Round x)
param_from_round zero v x after h = absurd h
param_from_round (suc n) v x after h = param_round_rule n h.0 h.1 x after h.4

comma_rule : (n : ℕ) (p : Production (comma param)) (vs : Trees (symbols p)) (x after : List Lexeme) → DerivesSymbols (Derives n) (symbols p) vs x after → (seen s.RoundWord x ≡ s.Listed) × (seen s.Listed x ≡ s.Listed)
comma_rule n (after_comma f) vs x after d = (
  walk s.RoundWord s.Listed x d.0 d.1 d.2 (token_walk (Derives n) s.RoundWord mark t.Comma vs.0 d.0 (d.1 ++ after) refl d.3) ∙ seen_final s.Listed d.1 refl,
  seen_final s.Listed x refl,
)

comma_walk : (n : ℕ) (v : Parameter) (x after : List Lexeme) → Derives n (comma param) v x after → seen s.RoundWord x ≡ s.Listed
comma_walk zero v x after h = absurd h
comma_walk (suc n) v x after h = (comma_rule n h.0 h.1 x after h.4).0

commas_walk : (n : ℕ) (vs : List Parameter) (x after : List Lexeme) → Sequence (Derives n) (comma param) vs x after → (P : Seen → Type 0) → P s.Listed → P s.RoundWord → P (seen s.RoundWord x)
commas_walk n [] x after h P a b = subst (λ (u : List Lexeme). P (seen s.RoundWord u)) (sym h) b
commas_walk n (v ∷ vs) x after h P a b = subst P (sym (walk s.RoundWord s.Listed x h.0 h.1 h.2 (comma_walk n v h.0 (h.1 ++ after) h.3) ∙ seen_final s.Listed h.1 refl)) a

params_rule : (n : ℕ) (p : Production params) (vs : Trees (symbols p)) (x after : List Lexeme) → DerivesSymbols (Derives n) (symbols p) vs x after → (P : Seen → Type 0) → P s.Listed → P s.RoundWord → P (seen s.Round x)
params_rule n params_of vs x after d P a b =
    let rest = last_symbol (Derives n) (repeated (comma param)) vs.1 d.1 after d.4 in
    subst P (sym (walk s.Round (seen s.Round d.0) x d.0 d.1 d.2 refl))
    (param_from_round n vs.0 d.0 (d.1 ++ after) d.3 (λ (u : Seen). P (seen u d.1)) (subst P (sym (seen_final s.Listed d.1 refl)) a) (commas_walk n vs.1.0 d.1 after rest.0 P a b))

params_walk : (n : ℕ) (v : List Parameter) (x after : List Lexeme) → Derives n params v x after → (P : Seen → Type 0) → P s.Listed → P s.RoundWord → P (seen s.Round x)
params_walk zero v x after h = absurd h
params_walk (suc n) v x after h = params_rule n h.0 h.1 x after h.4

pub any_params : (n : ℕ) (v : Option (List Parameter)) (x after : List Lexeme) → DerivesSymbol (Derives n) (optional params) v x after → (P : Seen → Type 0) → P s.Listed → P s.RoundWord → P s.Round → P (seen s.Round x)
any_params n None x after h P a b c = subst (λ (u : List Lexeme). P (seen s.Round u)) (sym h.0) c
any_params n (Some v) x after h P a b c = params_walk n v x after h P a b
