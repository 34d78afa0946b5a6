-- What leads to an open state begins each production that may be told.
use Rattle.std.proofs.Common.{◌≡◌, ℕ, suc, Bool, true, false, List, [], ◌∷◌, ◌++◌, Some, None, refl, sym, ap, subst, ◌∙◌, inl, inr}
use Rattle.std.proofs.lemmas.List.{append-nil}
use Rattle.pl_grammar.specs.declared.terminal.Terminal.{Terminal}
use Rattle.pl_grammar.specs.declared.terminal.Terminal.TheVariants as t
use Rattle.pl_grammar.specs.declared.level.Level.TheVariants as lv
use Rattle.pl_grammar.specs.declared.level.Looser.{Looser}
use Rattle.pl_grammar.specs.declared.level.Looser.TheVariants as lo
use Rattle.pl_grammar.specs.declared.ahead.Seen.{Seen}
use Rattle.pl_grammar.specs.declared.ahead.Seen.TheVariants as s
use Rattle.pl_grammar.specs.declared.parts.Placed.{Placed}
use Rattle.pl_tree.specs.declared.tree.TypeBase.TheVariants as bs
use Rattle.pl_tree.specs.declared.tree.Expr.TheVariants as ex
use Rattle.pl_grammar.specs.Making.{base_of}
use Rattle.pl_grammar.specs.Lexeme.{Lexeme, same_terminal, Take, mark, text, taken, matches, is_known, class_of, next}
use Rattle.pl_grammar.specs.Ahead.{sees, seen}
use Rattle.pl_grammar.specs.Grammar.{type, cast_type, pair, decl, init, expr, expr_rest, elvis, elvis_rest, unary, step, chain, primary, postfix, args, params, param, lambda_body, binary, operation, comma, TreeOf, Symbol, token, phrase, repeated, optional, name_type, known_type, cast_type_of, square, declaration, variable, expression, elvises, cast, plain, suffixed, typed, bracketed, named, index, lambdas, params_of, typed_param, bare_param, products, tests, joins, symbols, tighter, sign_of}
use Rattle.pl_grammar.specs.Firsts.{first, absent, allowed, fits, is_declared, is_cast}
use Rattle.pl_grammar.specs.Derives.{DerivesSymbol, Derives, BeginsSymbols, Begins}
use Rattle.pl_grammar_laws.proofs.Stops.{bare}
use Rattle.pl_grammar_laws.proofs.Shapes.{is_matched, no_pairs, Named, Known, Opened, Alone, AloneOpen, Behind, Closed, Led}
use Rattle.pl_grammar_laws.proofs.Walks.{is_plain}

-- ---- pieces

abbrev pub BeginsAll : ℕ → List Symbol → List Lexeme → Type 0
BeginsAll n ss y = BeginsSymbols (Derives n) (Begins n) ss y

-- no lexeme begins whatever is left
pub nothing : (n : ℕ) (ss : List Symbol) → BeginsAll n ss []
nothing n [] = refl
nothing n (token take w ∷ ss) = inl refl
nothing n (phrase f ∷ ss) = inl (bare n f)
nothing n (repeated f ∷ ss) = inl ([], [], [], refl, refl, bare n f)
nothing n (optional f ∷ ss) = inl (bare n f)

one : (n : ℕ) (take : Take) (w : Terminal) (l : Lexeme) (after : List Lexeme) → is_plain w ≡ true → class_of l ≡ w → DerivesSymbol (Derives n) (token take w) (taken take l) (l ∷ []) after
one n take w l after i e = (l, refl, is_matched w (class_of l) i e, refl)

-- a token, then what the rest begins
pub token_then : (n : ℕ) (take : Take) (w : Terminal) (ss : List Symbol) (l : Lexeme) (y : List Lexeme) → is_plain w ≡ true → class_of l ≡ w → BeginsAll n ss y → BeginsAll n (token take w ∷ ss) (l ∷ y)
token_then n take w ss l y i e h = inr (taken take l, l ∷ [], y, refl, one n take w l y i e, h)

-- ---- types

pair_begun : (n : ℕ) (i : Lexeme) → class_of i ≡ t.LeftBracket → Begins (suc n) pair (i ∷ [])
pair_begun n i e = inr (square, refl, token_then n mark t.LeftBracket (token mark t.RightBracket ∷ []) i [] refl e (nothing n (token mark t.RightBracket ∷ [])))

named_type : (n : ℕ) (z : List Lexeme) → Named z → Begins (suc (suc (suc n))) type z
named_type n z h =
    subst (λ (u : List Lexeme). Begins (suc (suc (suc n))) type u) (sym h.3)
    (inr (name_type, refl, token_then (suc (suc n)) text t.Name (repeated pair ∷ []) h.0 h.2 refl h.4 (inl (h.1, h.2, [], sym (append-nil h.2), h.5 (suc n) [], bare (suc (suc n)) pair))))

named_open : (n : ℕ) (z : List Lexeme) → Opened Named z → Begins (suc (suc (suc n))) type z
named_open n z h =
    let sh = h.4 in
    subst (λ (u : List Lexeme). Begins (suc (suc (suc n))) type u) (sym (h.2 ∙ ap (λ (u : List Lexeme). u ++ h.1 ∷ []) sh.3))
    (inr (name_type, refl, token_then (suc (suc n)) text t.Name (repeated pair ∷ []) sh.0 (sh.2 ++ h.1 ∷ []) refl sh.4 (inl (sh.1, sh.2, h.1 ∷ [], refl, sh.5 (suc n) (h.1 ∷ []), pair_begun (suc n) h.1 h.3))))

known_token : (n : ℕ) (l : Lexeme) (after : List Lexeme) → is_known (class_of l) ≡ true → DerivesSymbol (Derives n) (token mark t.Known) l.token (l ∷ []) after
known_token n l after e = (l, refl, e, refl)

pub known_cast : (n : ℕ) (z : List Lexeme) → Known z → Begins (suc (suc n)) cast_type z
known_cast n z h =
    subst (λ (u : List Lexeme). Begins (suc (suc n)) cast_type u) (sym h.3)
    (inr (cast_type_of, refl, inr (h.0.token, h.0 ∷ [], h.2, refl, known_token (suc n) h.0 h.2 h.4, inl (h.1, h.2, [], sym (append-nil h.2), h.5 n [], bare (suc n) pair))))

pub known_cast_open : (n : ℕ) (z : List Lexeme) → Opened Known z → Begins (suc (suc n)) cast_type z
known_cast_open n z h =
    let sh = h.4 in
    subst (λ (u : List Lexeme). Begins (suc (suc n)) cast_type u) (sym (h.2 ∙ ap (λ (u : List Lexeme). u ++ h.1 ∷ []) sh.3))
    (inr (cast_type_of, refl, inr (sh.0.token, sh.0 ∷ [], sh.2 ++ h.1 ∷ [], refl, known_token (suc n) sh.0 (sh.2 ++ h.1 ∷ []) sh.4, inl (sh.1, sh.2, h.1 ∷ [], refl, sh.5 n (h.1 ∷ []), pair_begun n h.1 h.3))))

pub alone_named : (z : List Lexeme) → Alone z → Named z
alone_named z h = (h.0, [], [], h.1, h.2, no_pairs)

pub alone_opened : (z : List Lexeme) → AloneOpen z → Opened Named z
alone_opened z h = (h.0 ∷ [], h.1, h.2, h.4, (h.0, [], [], refl, h.3, no_pairs))

-- states where a type is begun
abbrev pub in_type : Seen → Bool
in_type s.Word = true
in_type s.WordOpen = true
in_type s.WordPairs = true
in_type s.WordPairsOpen = true
in_type s.Known = true
in_type s.KnownOpen = true
in_type _ = false

pub type_begun : (n : ℕ) (q : Seen) (z : List Lexeme) → in_type q ≡ true → Led q z → Begins (suc (suc (suc n))) type z
type_begun n s.Word z e h = named_type n z (alone_named z h)
type_begun n s.WordOpen z e h = named_open n z (alone_opened z h)
type_begun n s.WordPairs z e h = named_type n z h
type_begun n s.WordPairsOpen z e h = named_open n z h
type_begun n s.Known z e h = inr (known_type, refl, inl (known_cast n z h))
type_begun n s.KnownOpen z e h = inr (known_type, refl, inl (known_cast_open n z h))
type_begun n _ z e h = absurd cc

-- a whole type before a name
no_more_pairs : (c : Terminal) → c ≡ t.Name → first pair c ≡ false
no_more_pairs c e = rw e refl

named_whole : (n : ℕ) (b : List Lexeme) (j : Lexeme) → class_of j ≡ t.Name → Named b → (v : TreeOf type) × Derives (suc (suc (suc n))) type v b (j ∷ [])
named_whole n b j e h = (
  record { at = h.0.token.start; base = bs.Name h.0.spelling; brackets = h.1 },
  (name_type, (taken text h.0, (h.1, tt)), refl, refl, (h.0 ∷ [], h.2, h.3, one (suc (suc n)) text t.Name h.0 (h.2 ++ j ∷ []) refl h.4, (h.2, [], sym (append-nil h.2), (h.5 (suc n) (j ∷ []), no_more_pairs (class_of j) e), refl))),
)

known_whole : (n : ℕ) (b : List Lexeme) (j : Lexeme) → class_of j ≡ t.Name → Known b → (v : TreeOf type) × Derives (suc (suc (suc n))) type v b (j ∷ [])
known_whole n b j e h =
    let v : TreeOf cast_type = record { at = h.0.token.start; base = base_of h.0.token.kind; brackets = h.1 } in
    let d : Derives (suc (suc n)) cast_type v b (j ∷ []) = (cast_type_of, (h.0.token, (h.1, tt)), refl, refl, (h.0 ∷ [], h.2, h.3, known_token (suc n) h.0 (h.2 ++ j ∷ []) h.4, (h.2, [], sym (append-nil h.2), (h.5 n (j ∷ []), no_more_pairs (class_of j) e), refl))) in
    (v, (known_type, (v, tt), refl, refl, (b, [], sym (append-nil b), d, refl)))

typed_whole : (n : ℕ) (z : List Lexeme) → Led s.Typed z → (b : List Lexeme) × (j : Lexeme) × (v : TreeOf type) × (z ≡ b ++ j ∷ []) × (class_of j ≡ t.Name) × Derives (suc (suc (suc n))) type v b (j ∷ [])
typed_whole n z (inl h) = let w = named_whole n h.0 h.1 h.3 h.4 in (h.0, h.1, w.0, h.2, h.3, w.1)
typed_whole n z (inr h) = let w = known_whole n h.0 h.1 h.3 h.4 in (h.0, h.1, w.0, h.2, h.3, w.1)

-- states where a type, or a type and a name, are begun
abbrev pub in_head : Seen → Bool
in_head s.Typed = true
in_head q = in_type q

-- what goes on from a type by a name
pub head_begun : (n : ℕ) (ss : List Symbol) (q : Seen) (z : List Lexeme) → in_head q ≡ true → Led q z → BeginsAll (suc (suc (suc n))) (phrase type ∷ token text t.Name ∷ ss) z
head_begun n ss s.Word z e h = inl (type_begun n s.Word z refl h)
head_begun n ss s.WordOpen z e h = inl (type_begun n s.WordOpen z refl h)
head_begun n ss s.WordPairs z e h = inl (type_begun n s.WordPairs z refl h)
head_begun n ss s.WordPairsOpen z e h = inl (type_begun n s.WordPairsOpen z refl h)
head_begun n ss s.Known z e h = inl (type_begun n s.Known z refl h)
head_begun n ss s.KnownOpen z e h = inl (type_begun n s.KnownOpen z refl h)
head_begun n ss s.Typed z e h =
    let w = typed_whole n z h in
    inr (w.2, w.0, w.1 ∷ [], w.3, w.5, token_then (suc (suc (suc n))) text t.Name ss w.1 [] refl w.4 (nothing (suc (suc (suc n))) ss))
head_begun n ss _ z e h = absurd cc

-- a declaration goes on from a type by a variable
pub decl_begun : (n : ℕ) (q : Seen) (z : List Lexeme) → in_head q ≡ true → Led q z → Begins (suc (suc (suc (suc n)))) decl z
decl_begun n s.Word z e h = inr (declaration, refl, inl (type_begun n s.Word z refl h))
decl_begun n s.WordOpen z e h = inr (declaration, refl, inl (type_begun n s.WordOpen z refl h))
decl_begun n s.WordPairs z e h = inr (declaration, refl, inl (type_begun n s.WordPairs z refl h))
decl_begun n s.WordPairsOpen z e h = inr (declaration, refl, inl (type_begun n s.WordPairsOpen z refl h))
decl_begun n s.Known z e h = inr (declaration, refl, inl (type_begun n s.Known z refl h))
decl_begun n s.KnownOpen z e h = inr (declaration, refl, inl (type_begun n s.KnownOpen z refl h))
decl_begun n s.Typed z e h =
    let w = typed_whole n z h in
    inr (declaration, refl, inr (w.2, w.0, w.1 ∷ [], w.3, w.5, inl (inr (variable, refl, token_then (suc (suc n)) text t.Name (optional init ∷ []) w.1 [] refl w.4 (nothing (suc (suc n)) (optional init ∷ []))))))
decl_begun n _ z e h = absurd cc

-- ---- parameters

-- what is seen of a parameter beside what is seen of all
abbrev beside : Seen → Seen → Bool
beside s.Start s.Param = true
beside s.Start _ = false
beside s.Word s.ParamWord = true
beside s.Word _ = false
beside s.WordOpen s.Declared = true
beside s.WordOpen _ = false
beside s.WordPairs s.Declared = true
beside s.WordPairs _ = false
beside s.WordPairsOpen s.Declared = true
beside s.WordPairsOpen _ = false
beside s.Known s.Declared = true
beside s.Known _ = false
beside s.KnownOpen s.Declared = true
beside s.KnownOpen _ = false
beside s.Typed s.Declared = true
beside s.Typed _ = false
beside _ p = true

beside_more : (q p : Seen) (c : Terminal) → beside q p ≡ true → beside (sees q c) (sees p c) ≡ true
beside_more s.Start s.Param t.Name e = refl
beside_more s.Start s.Param t.Basic e = refl
beside_more s.Start s.Param t.Class e = refl
beside_more s.Start s.Param t.LeftParen e = refl
beside_more s.Start s.Param _ e = refl
beside_more s.Start _ c e = absurd cc
beside_more s.Word s.ParamWord t.Name e = refl
beside_more s.Word s.ParamWord t.Arrow e = refl
beside_more s.Word s.ParamWord t.In e = refl
beside_more s.Word s.ParamWord t.ColonColon e = refl
beside_more s.Word s.ParamWord t.LeftBracket e = refl
beside_more s.Word s.ParamWord _ e = refl
beside_more s.Word _ c e = absurd cc
beside_more s.WordOpen s.Declared t.RightBracket e = refl
beside_more s.WordOpen s.Declared _ e = refl
beside_more s.WordOpen _ c e = absurd cc
beside_more s.WordPairs s.Declared t.LeftBracket e = refl
beside_more s.WordPairs s.Declared t.Name e = refl
beside_more s.WordPairs s.Declared t.ColonColon e = refl
beside_more s.WordPairs s.Declared _ e = refl
beside_more s.WordPairs _ c e = absurd cc
beside_more s.WordPairsOpen s.Declared t.RightBracket e = refl
beside_more s.WordPairsOpen s.Declared _ e = refl
beside_more s.WordPairsOpen _ c e = absurd cc
beside_more s.Known s.Declared t.LeftBracket e = refl
beside_more s.Known s.Declared t.Name e = refl
beside_more s.Known s.Declared t.ColonColon e = refl
beside_more s.Known s.Declared _ e = refl
beside_more s.Known _ c e = absurd cc
beside_more s.KnownOpen s.Declared t.RightBracket e = refl
beside_more s.KnownOpen s.Declared _ e = refl
beside_more s.KnownOpen _ c e = absurd cc
beside_more s.Typed s.Declared t.LeftParen e = refl
beside_more s.Typed s.Declared t.Colon e = refl
beside_more s.Typed s.Declared _ e = refl
beside_more s.Typed _ c e = absurd cc
beside_more s.Round p t.Name e = refl
beside_more s.Round p t.Basic e = refl
beside_more s.Round p t.Class e = refl
beside_more s.Round p t.RightParen e = refl
beside_more s.Round p _ e = refl
beside_more s.RoundWord p t.Name e = refl
beside_more s.RoundWord p t.Comma e = refl
beside_more s.RoundWord p t.RightParen e = refl
beside_more s.RoundWord p t.LeftBracket e = refl
beside_more s.RoundWord p _ e = refl
beside_more s.RoundWordRound p t.Arrow e = refl
beside_more s.RoundWordRound p _ e = refl
beside_more s.RoundWordOpen p t.RightBracket e = refl
beside_more s.RoundWordOpen p _ e = refl
beside_more s.RoundKnown p t.LeftBracket e = refl
beside_more s.RoundKnown p t.Name e = refl
beside_more s.RoundKnown p _ e = refl
beside_more s.RoundKnownOpen p t.RightBracket e = refl
beside_more s.RoundKnownOpen p _ e = refl
beside_more s.CastStart p t.LeftParen e = refl
beside_more s.CastStart p _ e = refl
beside_more s.CastRound p t.Basic e = refl
beside_more s.CastRound p t.Class e = refl
beside_more s.CastRound p _ e = refl
beside_more s.CastKnown p t.LeftBracket e = refl
beside_more s.CastKnown p t.RightParen e = refl
beside_more s.CastKnown p _ e = refl
beside_more s.CastOpen p t.RightBracket e = refl
beside_more s.CastOpen p _ e = refl
beside_more s.Param p t.Name e = refl
beside_more s.Param p t.Basic e = refl
beside_more s.Param p t.Class e = refl
beside_more s.Param p _ e = refl
beside_more s.ParamWord p t.Name e = refl
beside_more s.ParamWord p t.LeftBracket e = refl
beside_more s.ParamWord p _ e = refl
beside_more _ p c e = refl

beside_all : (q p : Seen) (z : List Lexeme) → beside q p ≡ true → beside (seen q z) (seen p z) ≡ true
beside_all q p [] e = e
beside_all q p (l ∷ z) e = beside_all (sees q (class_of l)) (sees p (class_of l)) z (beside_more q p (class_of l) e)

-- states of two tokens or more where a parameter with a type is begun
abbrev pub in_param : Seen → Bool
in_param s.WordOpen = true
in_param s.WordPairs = true
in_param s.WordPairsOpen = true
in_param s.Known = true
in_param s.KnownOpen = true
in_param s.Typed = true
in_param _ = false

declared_beside : (q p : Seen) → in_param q ≡ true → beside q p ≡ true → is_declared p ≡ true
declared_beside s.WordOpen s.Declared e f = refl
declared_beside s.WordOpen _ e f = absurd cc
declared_beside s.WordPairs s.Declared e f = refl
declared_beside s.WordPairs _ e f = absurd cc
declared_beside s.WordPairsOpen s.Declared e f = refl
declared_beside s.WordPairsOpen _ e f = absurd cc
declared_beside s.Known s.Declared e f = refl
declared_beside s.Known _ e f = absurd cc
declared_beside s.KnownOpen s.Declared e f = refl
declared_beside s.KnownOpen _ e f = absurd cc
declared_beside s.Typed s.Declared e f = refl
declared_beside s.Typed _ e f = absurd cc
declared_beside _ p e f = absurd cc

typed_fits : (c : Terminal) (p : Seen) → is_declared p ≡ true → fits typed_param c p ≡ true
typed_fits t.Name p e = rw e refl
typed_fits _ p e = refl

param_in_head : (q : Seen) → in_param q ≡ true → in_head q ≡ true
param_in_head s.WordOpen e = refl
param_in_head s.WordPairs e = refl
param_in_head s.WordPairsOpen e = refl
param_in_head s.Known e = refl
param_in_head s.KnownOpen e = refl
param_in_head s.Typed e = refl
param_in_head _ e = absurd cc

pub param_begun : (n : ℕ) (z : List Lexeme) → in_param (seen s.Start z) ≡ true → Led (seen s.Start z) z → Begins (suc (suc (suc (suc n)))) param z
param_begun n z e h =
    inr (typed_param, typed_fits (next z) (seen s.Param z) (declared_beside (seen s.Start z) (seen s.Param z) e (beside_all s.Start s.Param z refl)), head_begun n [] (seen s.Start z) z (param_in_head (seen s.Start z) e) h)

-- a bare parameter, begun and whole
bare_begun : (n : ℕ) (j : Lexeme) → class_of j ≡ t.Name → Begins (suc n) param (j ∷ [])
bare_begun n j e = inr (bare_param, may (class_of j) e, token_then n text t.Name [] j [] refl e refl)
  where
    may : (c : Terminal) → c ≡ t.Name → fits bare_param c (sees s.Param c) ≡ true
    may c e = subst (λ (c : Terminal). fits bare_param c (sees s.Param c) ≡ true) (sym e) refl

bare_whole : (n : ℕ) (j r : Lexeme) → class_of j ≡ t.Name → class_of r ≡ t.RightParen → (v : TreeOf param) × Derives (suc n) param v (j ∷ []) (r ∷ [])
bare_whole n j r e f = (
  record { of = None; name = taken text j },
  (bare_param, (taken text j, tt), refl, may (class_of j) (class_of r) e f, (j ∷ [], [], refl, one n text t.Name j (r ∷ []) refl e, refl)),
)
  where
    may : (c d : Terminal) → c ≡ t.Name → d ≡ t.RightParen → allowed bare_param c (sees (sees s.Param c) d) ≡ true
    may c d e f = rw (e, f) refl

-- ---- expressions

-- an operand begins an expression
above : (n : ℕ) (z : List Lexeme) → Begins n unary z → (k : ℕ) × Begins k expr z
above n z b =
    let product : Begins (suc n) (binary lv.Product) z = inr (products, refl, inl b) in
    let sum : Begins (suc (suc n)) (binary (lv.Looser lo.Sum)) z = inr (joins lo.Sum, refl, inl product) in
    let shift : Begins (suc (suc (suc n))) (binary (lv.Looser lo.Shift)) z = inr (joins lo.Shift, refl, inl sum) in
    let relation : Begins (suc (suc (suc (suc n)))) (binary (lv.Looser lo.Relational)) z = inr (joins lo.Relational, refl, inl shift) in
    let instance : Begins (suc (suc (suc (suc (suc n))))) (binary lv.Instance) z = inr (tests, refl, inl relation) in
    let equality : Begins (suc (suc (suc (suc (suc (suc n)))))) (binary (lv.Looser lo.Equality)) z = inr (joins lo.Equality, refl, inl instance) in
    let and : Begins (suc (suc (suc (suc (suc (suc (suc n))))))) (binary (lv.Looser lo.And)) z = inr (joins lo.And, refl, inl equality) in
    let xor : Begins (suc (suc (suc (suc (suc (suc (suc (suc n)))))))) (binary (lv.Looser lo.Xor)) z = inr (joins lo.Xor, refl, inl and) in
    let or : Begins (suc (suc (suc (suc (suc (suc (suc (suc (suc n))))))))) (binary (lv.Looser lo.Or)) z = inr (joins lo.Or, refl, inl xor) in
    let both : Begins (suc (suc (suc (suc (suc (suc (suc (suc (suc (suc n)))))))))) (binary (lv.Looser lo.AndAnd)) z = inr (joins lo.AndAnd, refl, inl or) in
    let either : Begins (suc (suc (suc (suc (suc (suc (suc (suc (suc (suc (suc n))))))))))) (binary (lv.Looser lo.OrOr)) z = inr (joins lo.OrOr, refl, inl both) in
    let most : Begins (suc (suc (suc (suc (suc (suc (suc (suc (suc (suc (suc (suc n)))))))))))) elvis z = inr (elvises, refl, inl either) in
    (suc (suc (suc (suc (suc (suc (suc (suc (suc (suc (suc (suc (suc n)))))))))))), inr (expression, refl, inl most))

-- what no cast is told of begins an operand as it begins a chain
plain_fits : (c : Terminal) (p : Seen) → is_cast p ≡ false → fits plain c p ≡ true
plain_fits t.LeftParen p e = rw e refl
plain_fits _ p e = refl

chain_above : (n : ℕ) (z : List Lexeme) → is_cast (seen s.CastStart z) ≡ false → Begins n chain z → (k : ℕ) × Begins k expr z
chain_above n z e b = above (suc n) z (inr (plain, plain_fits (next z) (seen s.CastStart z) e, inl b))

-- what is seen of a cast beside what is seen of all: none while all is open
abbrev no_cast : Seen → Seen → Bool
no_cast s.Start s.CastStart = true
no_cast s.Start _ = false
no_cast s.Round s.CastRound = true
no_cast s.Round _ = false
no_cast s.RoundKnown s.CastKnown = true
no_cast s.RoundKnown _ = false
no_cast s.RoundKnownOpen s.CastOpen = true
no_cast s.RoundKnownOpen _ = false
no_cast s.Word s.Other = true
no_cast s.Word _ = false
no_cast s.WordOpen s.Other = true
no_cast s.WordOpen _ = false
no_cast s.WordPairs s.Other = true
no_cast s.WordPairs _ = false
no_cast s.WordPairsOpen s.Other = true
no_cast s.WordPairsOpen _ = false
no_cast s.Known s.Other = true
no_cast s.Known _ = false
no_cast s.KnownOpen s.Other = true
no_cast s.KnownOpen _ = false
no_cast s.Typed s.Other = true
no_cast s.Typed _ = false
no_cast s.RoundWord s.Other = true
no_cast s.RoundWord _ = false
no_cast s.RoundWordRound s.Other = true
no_cast s.RoundWordRound _ = false
no_cast s.RoundWordOpen s.Other = true
no_cast s.RoundWordOpen _ = false
no_cast _ p = true

no_cast_more : (q p : Seen) (c : Terminal) → no_cast q p ≡ true → no_cast (sees q c) (sees p c) ≡ true
no_cast_more s.Start s.CastStart t.Name e = refl
no_cast_more s.Start s.CastStart t.Basic e = refl
no_cast_more s.Start s.CastStart t.Class e = refl
no_cast_more s.Start s.CastStart t.LeftParen e = refl
no_cast_more s.Start s.CastStart _ e = refl
no_cast_more s.Start _ c e = absurd cc
no_cast_more s.Round s.CastRound t.Name e = refl
no_cast_more s.Round s.CastRound t.Basic e = refl
no_cast_more s.Round s.CastRound t.Class e = refl
no_cast_more s.Round s.CastRound t.RightParen e = refl
no_cast_more s.Round s.CastRound _ e = refl
no_cast_more s.Round _ c e = absurd cc
no_cast_more s.RoundKnown s.CastKnown t.LeftBracket e = refl
no_cast_more s.RoundKnown s.CastKnown t.Name e = refl
no_cast_more s.RoundKnown s.CastKnown t.RightParen e = refl
no_cast_more s.RoundKnown s.CastKnown _ e = refl
no_cast_more s.RoundKnown _ c e = absurd cc
no_cast_more s.RoundKnownOpen s.CastOpen t.RightBracket e = refl
no_cast_more s.RoundKnownOpen s.CastOpen _ e = refl
no_cast_more s.RoundKnownOpen _ c e = absurd cc
no_cast_more s.Word s.Other t.Name e = refl
no_cast_more s.Word s.Other t.Arrow e = refl
no_cast_more s.Word s.Other t.In e = refl
no_cast_more s.Word s.Other t.ColonColon e = refl
no_cast_more s.Word s.Other t.LeftBracket e = refl
no_cast_more s.Word s.Other _ e = refl
no_cast_more s.Word _ c e = absurd cc
no_cast_more s.WordOpen s.Other t.RightBracket e = refl
no_cast_more s.WordOpen s.Other _ e = refl
no_cast_more s.WordOpen _ c e = absurd cc
no_cast_more s.WordPairs s.Other t.LeftBracket e = refl
no_cast_more s.WordPairs s.Other t.Name e = refl
no_cast_more s.WordPairs s.Other t.ColonColon e = refl
no_cast_more s.WordPairs s.Other _ e = refl
no_cast_more s.WordPairs _ c e = absurd cc
no_cast_more s.WordPairsOpen s.Other t.RightBracket e = refl
no_cast_more s.WordPairsOpen s.Other _ e = refl
no_cast_more s.WordPairsOpen _ c e = absurd cc
no_cast_more s.Known s.Other t.LeftBracket e = refl
no_cast_more s.Known s.Other t.Name e = refl
no_cast_more s.Known s.Other t.ColonColon e = refl
no_cast_more s.Known s.Other _ e = refl
no_cast_more s.Known _ c e = absurd cc
no_cast_more s.KnownOpen s.Other t.RightBracket e = refl
no_cast_more s.KnownOpen s.Other _ e = refl
no_cast_more s.KnownOpen _ c e = absurd cc
no_cast_more s.Typed s.Other t.LeftParen e = refl
no_cast_more s.Typed s.Other t.Colon e = refl
no_cast_more s.Typed s.Other _ e = refl
no_cast_more s.Typed _ c e = absurd cc
no_cast_more s.RoundWord s.Other t.Name e = refl
no_cast_more s.RoundWord s.Other t.Comma e = refl
no_cast_more s.RoundWord s.Other t.RightParen e = refl
no_cast_more s.RoundWord s.Other t.LeftBracket e = refl
no_cast_more s.RoundWord s.Other _ e = refl
no_cast_more s.RoundWord _ c e = absurd cc
no_cast_more s.RoundWordRound s.Other t.Arrow e = refl
no_cast_more s.RoundWordRound s.Other _ e = refl
no_cast_more s.RoundWordRound _ c e = absurd cc
no_cast_more s.RoundWordOpen s.Other t.RightBracket e = refl
no_cast_more s.RoundWordOpen s.Other _ e = refl
no_cast_more s.RoundWordOpen _ c e = absurd cc
no_cast_more s.CastStart p t.LeftParen e = refl
no_cast_more s.CastStart p _ e = refl
no_cast_more s.CastRound p t.Basic e = refl
no_cast_more s.CastRound p t.Class e = refl
no_cast_more s.CastRound p _ e = refl
no_cast_more s.CastKnown p t.LeftBracket e = refl
no_cast_more s.CastKnown p t.RightParen e = refl
no_cast_more s.CastKnown p _ e = refl
no_cast_more s.CastOpen p t.RightBracket e = refl
no_cast_more s.CastOpen p _ e = refl
no_cast_more s.Param p t.Name e = refl
no_cast_more s.Param p t.Basic e = refl
no_cast_more s.Param p t.Class e = refl
no_cast_more s.Param p _ e = refl
no_cast_more s.ParamWord p t.Name e = refl
no_cast_more s.ParamWord p t.LeftBracket e = refl
no_cast_more s.ParamWord p _ e = refl
no_cast_more _ p c e = refl

no_cast_all : (q p : Seen) (z : List Lexeme) → no_cast q p ≡ true → no_cast (seen q z) (seen p z) ≡ true
no_cast_all q p [] e = e
no_cast_all q p (l ∷ z) e = no_cast_all (sees q (class_of l)) (sees p (class_of l)) z (no_cast_more q p (class_of l) e)

-- states where an expression is begun
abbrev pub in_expr : Seen → Bool
in_expr s.Word = true
in_expr s.WordOpen = true
in_expr s.Known = true
in_expr s.KnownOpen = true
in_expr s.Round = true
in_expr s.RoundWord = true
in_expr s.RoundWordRound = true
in_expr s.RoundWordOpen = true
in_expr s.RoundKnown = true
in_expr s.RoundKnownOpen = true
in_expr _ = false

uncast : (q p : Seen) → in_expr q ≡ true → no_cast q p ≡ true → is_cast p ≡ false
uncast s.Round s.CastRound e f = refl
uncast s.Round _ e f = absurd cc
uncast s.RoundKnown s.CastKnown e f = refl
uncast s.RoundKnown _ e f = absurd cc
uncast s.RoundKnownOpen s.CastOpen e f = refl
uncast s.RoundKnownOpen _ e f = absurd cc
uncast s.Word s.Other e f = refl
uncast s.Word _ e f = absurd cc
uncast s.WordOpen s.Other e f = refl
uncast s.WordOpen _ e f = absurd cc
uncast s.Known s.Other e f = refl
uncast s.Known _ e f = absurd cc
uncast s.KnownOpen s.Other e f = refl
uncast s.KnownOpen _ e f = absurd cc
uncast s.RoundWord s.Other e f = refl
uncast s.RoundWord _ e f = absurd cc
uncast s.RoundWordRound s.Other e f = refl
uncast s.RoundWordRound _ e f = absurd cc
uncast s.RoundWordOpen s.Other e f = refl
uncast s.RoundWordOpen _ e f = absurd cc
uncast _ p e f = absurd cc

-- chains of names and types, and of brackets around what begins an expression
no_args : (c : Terminal) → c ≡ t.LeftBracket → absent args c ≡ true
no_args c e = rw e refl

index_begun : (n : ℕ) (i : Lexeme) → class_of i ≡ t.LeftBracket → Begins (suc n) postfix (i ∷ [])
index_begun n i e = inr (index, refl, token_then n mark t.LeftBracket (phrase expr ∷ token mark t.RightBracket ∷ []) i [] refl e (nothing n (phrase expr ∷ token mark t.RightBracket ∷ [])))

word_primary : (n : ℕ) (j : Lexeme) (after : List Lexeme) → class_of j ≡ t.Name → absent args (next after) ≡ true → (v : TreeOf primary) × Derives (suc n) primary v (j ∷ []) after
word_primary n j after e f = (
  record { start = j.token.start; expr = ex.Name j.token.start j.spelling },
  (named, (taken text j, (None, tt)), refl, refl, (j ∷ [], [], refl, one n text t.Name j after refl e, ([], [], refl, (refl, f), refl))),
)

word_chain : (n : ℕ) (j : Lexeme) → class_of j ≡ t.Name → Begins (suc (suc n)) chain (j ∷ [])
word_chain n j e = inr (suffixed, refl, inl (inr (named, refl, token_then n text t.Name (optional args ∷ []) j [] refl e (nothing n (optional args ∷ [])))))

word_open_chain : (n : ℕ) (j i : Lexeme) → class_of j ≡ t.Name → class_of i ≡ t.LeftBracket → Begins (suc (suc n)) chain (j ∷ i ∷ [])
word_open_chain n j i e f =
    let w = word_primary n j (i ∷ []) e (no_args (class_of i) f) in
    inr (suffixed, refl, inr (w.0, j ∷ [], i ∷ [], refl, w.1, inl ([], [], i ∷ [], refl, refl, index_begun n i f)))

known_chain : (n : ℕ) (z : List Lexeme) → Begins n cast_type z → Begins (suc n) chain z
known_chain n z b = inr (typed, refl, inl b)

round_chain : (n : ℕ) (i : Lexeme) (b : List Lexeme) → class_of i ≡ t.LeftParen → Begins n expr b → Begins (suc (suc n)) chain (i ∷ b)
round_chain n i b e h = inr (suffixed, refl, inl (inr (bracketed, refl, token_then n mark t.LeftParen (phrase expr ∷ token mark t.RightParen ∷ []) i b refl e (inl h))))

-- a name alone is an expression before `)`
paren_stops : (c : Terminal) → c ≡ t.RightParen → (first postfix c ≡ false) × (absent step c ≡ true) × (absent elvis_rest c ≡ true) × (absent expr_rest c ≡ true) × (absent args c ≡ true) × (first (comma param) c ≡ false)
paren_stops c e = (rw e refl, rw e refl, rw e refl, rw e refl, rw e refl, rw e refl)

sign_stops : (l : Looser) → matches (sign_of l) t.RightParen ≡ false
unfolding same_terminal
sign_stops lo.Sum = refl
sign_stops _ = refl

product_stops : matches t.Multiplicative t.RightParen ≡ false
unfolding same_terminal
product_stops = refl

test_stops : matches t.Instanceof t.RightParen ≡ false
unfolding same_terminal
test_stops = refl

at_paren : (P : Terminal → Bool) (c : Terminal) → c ≡ t.RightParen → P t.RightParen ≡ false → P c ≡ false
at_paren P c e h = subst (λ (c : Terminal). P c ≡ false) (sym e) h

join_whole : (n : ℕ) (m : Looser) (v : Placed) (j r : Lexeme) → class_of r ≡ t.RightParen → Derives n (binary (tighter m)) v (j ∷ []) (r ∷ []) → Derives (suc n) (binary (lv.Looser m)) v (j ∷ []) (r ∷ [])
join_whole n m v j r f d = (joins m, (v, ([], tt)), refl, refl, (j ∷ [], [], refl, d, ([], [], refl, (refl, at_paren (first (operation (lv.Looser m))) (class_of r) f (sign_stops m)), refl)))

whole_above : (n : ℕ) (v : Placed) (j r : Lexeme) → class_of j ≡ t.Name → class_of r ≡ t.RightParen → Derives n chain v (j ∷ []) (r ∷ []) → (k : ℕ) × Derives k expr v (j ∷ []) (r ∷ [])
whole_above n v j r e f d =
    let stop = paren_stops (class_of r) f in
    let may : allowed plain (class_of j) (seen s.CastStart (j ∷ r ∷ [])) ≡ true = subst (λ (c : Terminal). allowed plain c (seen s.CastStart (j ∷ r ∷ [])) ≡ true) (sym e) refl in
    let operand : Derives (suc n) unary v (j ∷ []) (r ∷ []) = (plain, (v, (None, tt)), refl, may, (j ∷ [], [], refl, d, ([], [], refl, (refl, stop.1), refl))) in
    let product : Derives (suc (suc n)) (binary lv.Product) v (j ∷ []) (r ∷ []) = (products, (v, ([], tt)), refl, refl, (j ∷ [], [], refl, operand, ([], [], refl, (refl, at_paren (first (operation lv.Product)) (class_of r) f product_stops), refl))) in
    let sum = join_whole (suc (suc n)) lo.Sum v j r f product in
    let shift = join_whole (suc (suc (suc n))) lo.Shift v j r f sum in
    let relation = join_whole (suc (suc (suc (suc n)))) lo.Relational v j r f shift in
    let instance : Derives (suc (suc (suc (suc (suc (suc n)))))) (binary lv.Instance) v (j ∷ []) (r ∷ []) = (tests, (v, ([], tt)), refl, refl, (j ∷ [], [], refl, relation, ([], [], refl, (refl, at_paren (first (operation lv.Instance)) (class_of r) f test_stops), refl))) in
    let equality = join_whole (suc (suc (suc (suc (suc (suc n)))))) lo.Equality v j r f instance in
    let and = join_whole (suc (suc (suc (suc (suc (suc (suc n))))))) lo.And v j r f equality in
    let xor = join_whole (suc (suc (suc (suc (suc (suc (suc (suc n)))))))) lo.Xor v j r f and in
    let or = join_whole (suc (suc (suc (suc (suc (suc (suc (suc (suc n))))))))) lo.Or v j r f xor in
    let both = join_whole (suc (suc (suc (suc (suc (suc (suc (suc (suc (suc n)))))))))) lo.AndAnd v j r f or in
    let either = join_whole (suc (suc (suc (suc (suc (suc (suc (suc (suc (suc (suc n))))))))))) lo.OrOr v j r f both in
    let most : Derives (suc (suc (suc (suc (suc (suc (suc (suc (suc (suc (suc (suc (suc n))))))))))))) elvis v (j ∷ []) (r ∷ []) = (elvises, (v, (None, tt)), refl, refl, (j ∷ [], [], refl, either, ([], [], refl, (refl, stop.2), refl))) in
    (suc (suc (suc (suc (suc (suc (suc (suc (suc (suc (suc (suc (suc (suc n))))))))))))), (expression, (v, (None, tt)), refl, refl, (j ∷ [], [], refl, most, ([], [], refl, (refl, stop.3), refl))))

closed_chain : (z : List Lexeme) → Closed z → (k : ℕ) × Begins k chain z
closed_chain z h =
    let i = h.0 in
    let j = h.1 in
    let r = h.2 in
    let stop = paren_stops (class_of r) h.6 in
    let w = word_primary 0 j (r ∷ []) h.5 stop.4 in
    let c : Derives 2 chain w.0 (j ∷ []) (r ∷ []) = (suffixed, (w.0, ([], tt)), refl, refl, (j ∷ [], [], refl, w.1, ([], [], refl, (refl, stop.0), refl))) in
    let x = whole_above 2 w.0 j r h.5 h.6 c in (
      suc (suc x.0),
      subst (λ (u : List Lexeme). Begins (suc (suc x.0)) chain u) (sym h.3)
          (inr (
            suffixed,
            refl,
            inl (inr (
              bracketed,
              refl,
              token_then x.0 mark t.LeftParen (phrase expr ∷ token mark t.RightParen ∷ []) i (j ∷ r ∷ []) refl h.4
                  (inr (w.0, j ∷ [], r ∷ [], refl, x.1, token_then x.0 mark t.RightParen [] r [] refl h.6 refl)),
            )),
          )),
    )

-- an expression begun by a name or a type, with no bracket before it
name_uncast : (c : Terminal) (w : List Lexeme) → c ≡ t.Name → is_cast (seen (sees s.CastStart c) w) ≡ false
name_uncast c w e = subst (λ (c : Terminal). is_cast (seen (sees s.CastStart c) w) ≡ false) (sym e) (other w)
  where
    other : (w : List Lexeme) → is_cast (seen s.Other w) ≡ false
    other [] = refl
    other (l ∷ w) = other w

known_uncast : (c : Terminal) (w : List Lexeme) → is_known c ≡ true → is_cast (seen (sees s.CastStart c) w) ≡ false
known_uncast t.Basic w e = name_uncast t.Name w refl
known_uncast t.Class w e = name_uncast t.Name w refl
known_uncast _ w e = absurd cc

alone_expr : (b : List Lexeme) → Alone b → (k : ℕ) × Begins k expr b
alone_expr b h = subst (λ (u : List Lexeme). (k : ℕ) × Begins k expr u) (sym h.1) (chain_above 2 (h.0 ∷ []) (name_uncast (class_of h.0) [] h.2) (word_chain 0 h.0 h.2))

alone_open_expr : (b : List Lexeme) → AloneOpen b → (k : ℕ) × Begins k expr b
alone_open_expr b h = subst (λ (u : List Lexeme). (k : ℕ) × Begins k expr u) (sym h.2) (chain_above 2 (h.0 ∷ h.1 ∷ []) (name_uncast (class_of h.0) (h.1 ∷ []) h.3) (word_open_chain 0 h.0 h.1 h.3 h.4))

shape_uncast : (b : List Lexeme) → Known b → is_cast (seen s.CastStart b) ≡ false
shape_uncast b h = subst (λ (u : List Lexeme). is_cast (seen s.CastStart u) ≡ false) (sym h.3) (known_uncast (class_of h.0) h.2 h.4)

open_uncast : (b : List Lexeme) → Opened Known b → is_cast (seen s.CastStart b) ≡ false
open_uncast b h = subst (λ (u : List Lexeme). is_cast (seen s.CastStart u) ≡ false) (sym (h.2 ∙ ap (λ (u : List Lexeme). u ++ h.1 ∷ []) h.4.3)) (known_uncast (class_of h.4.0) (h.4.2 ++ h.1 ∷ []) h.4.4)

known_expr : (b : List Lexeme) → Known b → (k : ℕ) × Begins k expr b
known_expr b h = chain_above 3 b (shape_uncast b h) (known_chain 2 b (known_cast 0 b h))

known_open_expr : (b : List Lexeme) → Opened Known b → (k : ℕ) × Begins k expr b
known_open_expr b h = chain_above 3 b (open_uncast b h) (known_chain 2 b (known_cast_open 0 b h))

behind_chain : (S : List Lexeme → Type 0) (z : List Lexeme) → ((b : List Lexeme) → S b → (k : ℕ) × Begins k expr b) → Behind S z → (k : ℕ) × Begins k chain z
behind_chain S z inside h =
    let x = inside h.1 h.4 in
    (suc (suc x.0), subst (λ (u : List Lexeme). Begins (suc (suc x.0)) chain u) (sym h.2) (round_chain x.0 h.0 h.1 h.3 x.1))

-- chains begun by brackets, as far as the look ahead for casts comes
pub round_known_chain : (z : List Lexeme) → Behind Known z → (k : ℕ) × Begins k chain z
round_known_chain z h = behind_chain Known z known_expr h

pub round_open_chain : (z : List Lexeme) → Behind (Opened Known) z → (k : ℕ) × Begins k chain z
round_open_chain z h = behind_chain (Opened Known) z known_open_expr h

pub expr_begun : (z : List Lexeme) → in_expr (seen s.Start z) ≡ true → Led (seen s.Start z) z → (k : ℕ) × Begins k expr z
expr_begun z e h = by (seen s.Start z) e h (uncast (seen s.Start z) (seen s.CastStart z) e (no_cast_all s.Start s.CastStart z refl))
  where
    chained : (k : ℕ) × Begins k chain z → is_cast (seen s.CastStart z) ≡ false → (k : ℕ) × Begins k expr z
    chained b u = chain_above b.0 z u b.1

    by : (q : Seen) → in_expr q ≡ true → Led q z → is_cast (seen s.CastStart z) ≡ false → (k : ℕ) × Begins k expr z
    by s.Word i h u = alone_expr z h
    by s.WordOpen i h u = alone_open_expr z h
    by s.Known i h u = known_expr z h
    by s.KnownOpen i h u = known_open_expr z h
    by s.Round i h u = chained (2, subst (λ (w : List Lexeme). Begins 2 chain w) (sym h.1) (round_chain 0 h.0 [] h.2 refl)) u
    by s.RoundWord i h u = chained (behind_chain Alone z alone_expr h) u
    by s.RoundWordRound i h u = chained (closed_chain z h) u
    by s.RoundWordOpen i h u = chained (behind_chain AloneOpen z alone_open_expr h) u
    by s.RoundKnown i h u = chained (round_known_chain z h) u
    by s.RoundKnownOpen i h u = chained (round_open_chain z h) u
    by _ i h u = absurd cc

-- ---- lambdas in brackets

abbrev pub in_round : Seen → Bool
in_round s.RoundWord = true
in_round s.RoundWordRound = true
in_round s.RoundWordOpen = true
in_round s.RoundKnown = true
in_round s.RoundKnownOpen = true
in_round _ = false

abbrev after_params : List Symbol
after_params = token mark t.RightParen ∷ token mark t.Arrow ∷ phrase lambda_body ∷ []

params_inside : (n : ℕ) (i : Lexeme) (b : List Lexeme) → class_of i ≡ t.LeftParen → Begins n param b → BeginsAll (suc n) (symbols lambdas) (i ∷ b)
params_inside n i b e h = token_then (suc n) mark t.LeftParen (optional params ∷ after_params) i b refl e (inl (inr (params_of, refl, inl h)))

-- a parameter that begins with a type, behind a bracket
known_param : (n : ℕ) (c : Terminal) (p : Seen) → is_known c ≡ true → fits typed_param c p ≡ true
known_param n t.Basic p e = refl
known_param n t.Class p e = refl
known_param n _ p e = absurd cc

known_inside : (b : List Lexeme) → Known b → Begins 4 param b
known_inside b h = inr (typed_param, subst (λ (u : List Lexeme). fits typed_param (next u) (seen s.Param b) ≡ true) (sym h.3) (known_param 0 (class_of h.0) (seen s.Param b) h.4), inl (type_begun 0 s.Known b refl h))

open_inside : (b : List Lexeme) → Opened Known b → Begins 4 param b
open_inside b h = inr (typed_param, subst (λ (u : List Lexeme). fits typed_param (next u) (seen s.Param b) ≡ true) (sym (h.2 ∙ ap (λ (u : List Lexeme). u ++ h.1 ∷ []) h.4.3)) (known_param 0 (class_of h.4.0) (seen s.Param b) h.4.4), inl (type_begun 0 s.KnownOpen b refl h))

word_open_inside : (b : List Lexeme) → AloneOpen b → Begins 4 param b
word_open_inside b h = inr (typed_param, subst (λ (u : List Lexeme). fits typed_param (next u) (seen s.Param u) ≡ true) (sym h.2) (may (class_of h.0) (class_of h.1) h.3 h.4), inl (type_begun 0 s.WordOpen b refl h))
  where
    may : (c d : Terminal) → c ≡ t.Name → d ≡ t.LeftBracket → fits typed_param c (sees (sees s.Param c) d) ≡ true
    may c d e f = rw (e, f) refl

behind_lambdas : (S : List Lexeme → Type 0) (z : List Lexeme) (n : ℕ) → ((b : List Lexeme) → S b → Begins n param b) → Behind S z → (k : ℕ) × BeginsAll k (symbols lambdas) z
behind_lambdas S z n inside h = (suc n, subst (λ (u : List Lexeme). BeginsAll (suc n) (symbols lambdas) u) (sym h.2) (params_inside n h.0 h.1 h.3 (inside h.1 h.4)))

closed_lambdas : (z : List Lexeme) → Closed z → (k : ℕ) × BeginsAll k (symbols lambdas) z
closed_lambdas z h =
    let j = h.1 in
    let r = h.2 in
    let w = bare_whole 0 j r h.5 h.6 in
    let ps : Derives 2 params (w.0 ∷ []) (j ∷ []) (r ∷ []) = (params_of, (w.0, ([], tt)), refl, refl, (j ∷ [], [], refl, w.1, ([], [], refl, (refl, (paren_stops (class_of r) h.6).5), refl))) in (
      2,
      subst (λ (u : List Lexeme). BeginsAll 2 (symbols lambdas) u) (sym h.3)
          (token_then 2 mark t.LeftParen (optional params ∷ after_params) h.0 (j ∷ r ∷ []) refl h.4
          (inr (Some (w.0 ∷ []), j ∷ [], r ∷ [], refl, ps, token_then 2 mark t.RightParen (token mark t.Arrow ∷ phrase lambda_body ∷ []) r [] refl h.6 (nothing 2 (token mark t.Arrow ∷ phrase lambda_body ∷ []))))),
    )

pub lambdas_begun : (q : Seen) (z : List Lexeme) → in_round q ≡ true → Led q z → (k : ℕ) × BeginsAll k (symbols lambdas) z
lambdas_begun s.RoundWord z e h = behind_lambdas Alone z 1 (λ b a. subst (λ (u : List Lexeme). Begins 1 param u) (sym a.1) (bare_begun 0 a.0 a.2)) h
lambdas_begun s.RoundWordRound z e h = closed_lambdas z h
lambdas_begun s.RoundWordOpen z e h = behind_lambdas AloneOpen z 4 word_open_inside h
lambdas_begun s.RoundKnown z e h = behind_lambdas Known z 4 known_inside h
lambdas_begun s.RoundKnownOpen z e h = behind_lambdas (Opened Known) z 4 open_inside h
lambdas_begun _ z e h = absurd cc

-- ---- casts

abbrev pub in_cast : Seen → Bool
in_cast s.CastKnown = true
in_cast s.CastOpen = true
in_cast _ = false

abbrev after_cast : List Symbol
after_cast = token mark t.RightParen ∷ phrase unary ∷ []

pub cast_begun : (q : Seen) (z : List Lexeme) → in_cast q ≡ true → Led q z → (k : ℕ) × BeginsAll k (symbols cast) z
cast_begun s.CastKnown z e h = (2, subst (λ (u : List Lexeme). BeginsAll 2 (symbols cast) u) (sym h.2) (token_then 2 mark t.LeftParen (phrase cast_type ∷ after_cast) h.0 h.1 refl h.3 (inl (known_cast 0 h.1 h.4))))
cast_begun s.CastOpen z e h = (2, subst (λ (u : List Lexeme). BeginsAll 2 (symbols cast) u) (sym h.2) (token_then 2 mark t.LeftParen (phrase cast_type ∷ after_cast) h.0 h.1 refl h.3 (inl (known_cast_open 0 h.1 h.4))))
cast_begun _ z e h = absurd cc

pub plain_begun : (q : Seen) (z : List Lexeme) → in_cast q ≡ true → Led q z → (k : ℕ) × BeginsAll k (symbols plain) z
plain_begun s.CastKnown z e h = let b = round_known_chain z h in (b.0, inl b.1)
plain_begun s.CastOpen z e h = let b = round_open_chain z h in (b.0, inl b.1)
plain_begun _ z e h = absurd cc
