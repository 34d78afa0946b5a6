-- How symbols lead through the look ahead.
use Rattle.std.proofs.Common.{◌≡◌, ℕ, zero, suc, Bool, true, false, not, ◌||◌, List, [], ◌∷◌, ◌++◌, refl, sym, ap, subst, ◌∙◌, append_assoc}
use Rattle.std.proofs.lemmas.List.{append-nil}
use Rattle.pl_grammar.specs.declared.terminal.Terminal.{Terminal}
use Rattle.pl_grammar.specs.declared.terminal.Terminal.TheVariants as t
use Rattle.pl_grammar.specs.declared.level.Looser.{Looser}
use Rattle.pl_grammar.specs.declared.level.Looser.TheVariants as lo
use Rattle.pl_grammar.specs.declared.ahead.Seen.{Seen}
use Rattle.pl_grammar.specs.declared.ahead.Seen.TheVariants as s
use Rattle.pl_grammar.specs.Lexeme.{Lexeme, Take, Taken, same_terminal, matches, class_of, next}
use Rattle.pl_grammar.specs.Ahead.{sees, seen, is_final}
use Rattle.pl_grammar.specs.Grammar.{Form, TreeOf, Symbol, token, phrase, repeated, optional, Trees, Production, functions, further, symbols, sign_of}
use Rattle.pl_grammar.specs.Derives.{DerivesSymbol, DerivesSymbols, Derives}
use Rattle.pl_grammar_laws.proofs.Certificates.{same_is, same_refl, is_led, led}
use Rattle.pl_grammar.proofs.Scan.{seen_append, seen_final, seen_more}
use Rattle.pl_grammar_laws.proofs.Sound.{Relation, Leads, leads}

-- ---- one after the other

pub walk : (q r : Seen) (x a b : List Lexeme) → x ≡ a ++ b → seen q a ≡ r → seen q x ≡ seen r b
walk q r x a b e h = ap (λ (u : List Lexeme). seen q u) e ∙ seen_append q a b ∙ ap (λ (u : Seen). seen u b) h

abbrev pub is_plain : Terminal → Bool
is_plain t.Known = false
is_plain t.AnyWord = false
is_plain _ = true

-- what is asked for by its class is of the class
pub matched : (w c : Terminal) → is_plain w ≡ true → matches w c ≡ true → c ≡ w
matched t.Known c i e = absurd cc
matched t.AnyWord c i e = absurd cc
matched w c i e = same_is c w e

pub token_walk : (D : Relation) (q : Seen) (take : Take) (w : Terminal) (v : Taken take) (x after : List Lexeme) → is_plain w ≡ true → DerivesSymbol D (token take w) v x after → seen q x ≡ sees q w
token_walk D q take w v x after i d = ap (λ (u : List Lexeme). seen q u) d.1 ∙ ap (λ (c : Terminal). sees q c) (matched w (class_of d.0) i d.2)

pub last_symbol : (D : Relation) (s : Symbol) (vs : Trees (s ∷ [])) (x after : List Lexeme) → DerivesSymbols D (s ∷ []) vs x after → DerivesSymbol D s vs.0 x after
last_symbol D s vs x after h =
    let all : x ≡ h.0 = h.2 ∙ ap (λ (u : List Lexeme). h.0 ++ u) h.4 ∙ append-nil h.0 in
    subst (λ (u : List Lexeme). DerivesSymbol D s vs.0 u after) (sym all) (subst (λ (u : List Lexeme). DerivesSymbol D s vs.0 h.0 (u ++ after)) h.4 h.3)

-- ---- a token of a class

abbrev pub Has : Terminal → List Lexeme → Type 0
Has c x = (a : List Lexeme) × (l : Lexeme) × (b : List Lexeme) × (x ≡ a ++ l ∷ b) × (class_of l ≡ c)

pub has_in : (c : Terminal) (x y z : List Lexeme) → z ≡ x ++ y → Has c x → Has c z
has_in c x y z e h = (h.0, h.1, h.2 ++ y, e ∙ ap (λ (u : List Lexeme). u ++ y) h.3 ∙ append_assoc h.0 (h.1 ∷ h.2) y, h.4)

pub has_after : (c : Terminal) (x y z : List Lexeme) → z ≡ x ++ y → Has c y → Has c z
has_after c x y z e h = (x ++ h.0, h.1, h.2, e ∙ ap (λ (u : List Lexeme). x ++ u) h.3 ∙ sym (append_assoc x h.0 (h.1 ∷ h.2)), h.4)

abbrev pub has_token : Terminal → List Symbol → Bool
has_token c [] = false
has_token c (token take w ∷ ss) = same_terminal w c || has_token c ss
has_token c (s ∷ ss) = has_token c ss

pub either : (a b : Bool) → a || b ≡ true → a ≡ false → b ≡ true
either true b e f = absurd cc
either false b e f = e

pub symbols_have : (D : Relation) (c : Terminal) (ss : List Symbol) (vs : Trees ss) (x after : List Lexeme) → is_plain c ≡ true → has_token c ss ≡ true → DerivesSymbols D ss vs x after → Has c x
symbols_have D c [] vs x after i e h = absurd cc
symbols_have D c (token take w ∷ ss) vs x after i e h =
    elim (same_terminal w c) as (λ (b : Bool). same_terminal w c ≡ b → Has c x) [
      | true ↦ λ is. (let same : w ≡ c = same_is w c is in
          ([], h.3.0, h.1, h.2 ∙ ap (λ (u : List Lexeme). u ++ h.1) h.3.1, matched c (class_of h.3.0) i (subst (λ (u : Terminal). matches u (class_of h.3.0) ≡ true) same h.3.2)))
      | false ↦ λ is. has_after c h.0 h.1 x h.2 (symbols_have D c ss vs.1 h.1 after i (either (same_terminal w c) (has_token c ss) e is) h.4)
    ] refl
symbols_have D c (phrase f ∷ ss) vs x after i e h = has_after c h.0 h.1 x h.2 (symbols_have D c ss vs.1 h.1 after i e h.4)
symbols_have D c (repeated f ∷ ss) vs x after i e h = has_after c h.0 h.1 x h.2 (symbols_have D c ss vs.1 h.1 after i e h.4)
symbols_have D c (optional f ∷ ss) vs x after i e h = has_after c h.0 h.1 x h.2 (symbols_have D c ss vs.1 h.1 after i e h.4)

-- ---- brackets: what begins with `(` has a `)`

abbrev is_round : List Symbol → Bool
is_round (token take w ∷ ss) = not (same_terminal w t.LeftParen) || has_token t.RightParen ss
is_round ss = true

round_sign : (l : Looser) → not (same_terminal (sign_of l) t.LeftParen) || false ≡ true
unfolding same_terminal
round_sign lo.Sum = refl
round_sign _ = refl

round : {f : Form} (p : Production f) → is_round (symbols p) ≡ true
unfolding same_terminal
round functions = refl
round (further l) = round_sign l
round _ = refl

front_next : (f : Form) (x y z : List Lexeme) → Leads f x → z ≡ x ++ y → next x ≡ next z
front_next f x y z l e = ap next l.2 ∙ sym (ap next e ∙ ap (λ (u : List Lexeme). next (u ++ y)) l.2)

round_symbols : (D : Relation) → ((f : Form) (v : TreeOf f) (x after : List Lexeme) → D f v x after → Leads f x) → ((f : Form) (v : TreeOf f) (x after : List Lexeme) → D f v x after → next x ≡ t.LeftParen → Has t.RightParen x)
    → (ss : List Symbol) (vs : Trees ss) (x after : List Lexeme) → is_led ss ≡ true → is_round ss ≡ true → DerivesSymbols D ss vs x after → next x ≡ t.LeftParen → Has t.RightParen x
unfolding same_terminal
round_symbols D lead closed [] vs x after l e h head = absurd cc
round_symbols D lead closed (token take t.LeftParen ∷ ss) vs x after l e h head = has_after t.RightParen h.0 h.1 x h.2 (symbols_have D t.RightParen ss vs.1 h.1 after refl (either (not (same_terminal t.LeftParen t.LeftParen)) (has_token t.RightParen ss) e (ap not (same_refl t.LeftParen))) h.4)
round_symbols D lead closed (token take w ∷ ss) vs x after l e h head =
    let is : class_of h.3.0 ≡ t.LeftParen = sym (ap next (h.2 ∙ ap (λ (u : List Lexeme). u ++ h.1) h.3.1)) ∙ head in
    let not_round : matches w t.LeftParen ≡ true → ⊥ = λ q. cc in
    absurd (not_round (subst (λ (c : Terminal). matches w c ≡ true) is h.3.2))
round_symbols D lead closed (phrase f ∷ ss) vs x after l e h head =
    has_in t.RightParen h.0 h.1 x h.2 (closed f vs.0 h.0 (h.1 ++ after) h.3 (front_next f h.0 h.1 x (lead f vs.0 h.0 (h.1 ++ after) h.3) h.2 ∙ head))
round_symbols D lead closed (repeated f ∷ ss) vs x after l e h head = absurd cc
round_symbols D lead closed (optional f ∷ ss) vs x after l e h head = absurd cc

pub brackets_close : (n : ℕ) (f : Form) (v : TreeOf f) (x after : List Lexeme) → Derives n f v x after → next x ≡ t.LeftParen → Has t.RightParen x
brackets_close zero f v x after h head = absurd h
brackets_close (suc n) f v x after h head = round_symbols (Derives n) (leads n) (brackets_close n) (symbols h.0) h.1 x after (led h.0) (round h.0) h.4 head

-- ---- tokens that settle what is seen

module _ (P : Seen → Bool) (c : Terminal) (stays : (q : Seen) (k : Terminal) → P q ≡ true → P (sees q k) ≡ true) where
  pub keeps : (from : Seen) (x : List Lexeme) → P from ≡ true → P (seen from x) ≡ true
  keeps from [] e = e
  keeps from (l ∷ x) e = keeps (sees from (class_of l)) x (stays from (class_of l) e)

  -- the state at the token
  pub at_token : (from : Seen) (x : List Lexeme) (h : Has c x) → P from ≡ true → (q : Seen) × (P q ≡ true) × (seen from x ≡ seen (sees q c) h.2)
  at_token from x h e = (
    seen from h.0,
    keeps from h.0 e,
    ap (λ (u : List Lexeme). seen from u) h.3 ∙ seen_append from h.0 (h.1 ∷ h.2) ∙ ap (λ (k : Terminal). seen (sees (seen from h.0) k) h.2) h.4,
  )

  pub settles : ((q : Seen) → P q ≡ true → is_final (sees q c) ≡ true) → (from : Seen) (x : List Lexeme) → P from ≡ true → Has c x → is_final (seen from x) ≡ true
  settles stops from x e h =
      let a = at_token from x h e in
      subst (λ (q : Seen). is_final q ≡ true) (sym (a.2 ∙ seen_final (sees a.0 c) h.2 (stops a.0 a.1))) (stops a.0 a.1)

abbrev any : Seen → Bool
any q = true

arrow_stops : (q : Seen) → any q ≡ true → is_final (sees q t.Arrow) ≡ true
arrow_stops s.Start e = refl
arrow_stops _ e = refl

pub arrow_settles : (from : Seen) (x : List Lexeme) → Has t.Arrow x → is_final (seen from x) ≡ true
arrow_settles from x h = settles any t.Arrow (λ q k e. refl) arrow_stops from x refl h

colons_stops : (q : Seen) → any q ≡ true → is_final (sees q t.ColonColon) ≡ true
colons_stops s.Start e = refl
colons_stops _ e = refl

pub colons_settles : (from : Seen) (x : List Lexeme) → Has t.ColonColon x → is_final (seen from x) ≡ true
colons_settles from x h = settles any t.ColonColon (λ q k e. refl) colons_stops from x refl h

in_stops : (q : Seen) → any q ≡ true → is_final (sees q t.In) ≡ true
in_stops s.Start e = refl
in_stops _ e = refl

pub in_settles : (from : Seen) (x : List Lexeme) → Has t.In x → is_final (seen from x) ≡ true
in_settles from x h = settles any t.In (λ q k e. refl) in_stops from x refl h

semicolon_stops : (q : Seen) → any q ≡ true → is_final (sees q t.Semicolon) ≡ true
semicolon_stops s.Start e = refl
semicolon_stops _ e = refl

pub semicolon_settles : (from : Seen) (x : List Lexeme) → Has t.Semicolon x → is_final (seen from x) ≡ true
semicolon_settles from x h = settles any t.Semicolon (λ q k e. refl) semicolon_stops from x refl h

colon_stops : (q : Seen) → any q ≡ true → is_final (sees q t.Colon) ≡ true
colon_stops s.Start e = refl
colon_stops _ e = refl

pub colon_settles : (from : Seen) (x : List Lexeme) → Has t.Colon x → is_final (seen from x) ≡ true
colon_settles from x h = settles any t.Colon (λ q k e. refl) colon_stops from x refl h

dot_stops : (q : Seen) → any q ≡ true → is_final (sees q t.Dot) ≡ true
dot_stops s.Start e = refl
dot_stops _ e = refl

pub dot_settles : (from : Seen) (x : List Lexeme) → Has t.Dot x → is_final (seen from x) ≡ true
dot_settles from x h = settles any t.Dot (λ q k e. refl) dot_stops from x refl h

-- a cast
abbrev pub in_cast : Seen → Bool
in_cast s.CastStart = true
in_cast s.CastRound = true
in_cast s.CastKnown = true
in_cast s.CastOpen = true
in_cast q = is_final q

pub cast_goes : (q : Seen) (k : Terminal) → in_cast q ≡ true → in_cast (sees q k) ≡ true
cast_goes s.CastStart t.LeftParen e = refl
cast_goes s.CastStart _ e = refl
cast_goes s.CastRound t.Basic e = refl
cast_goes s.CastRound t.Class e = refl
cast_goes s.CastRound _ e = refl
cast_goes s.CastKnown t.LeftBracket e = refl
cast_goes s.CastKnown t.RightParen e = refl
cast_goes s.CastKnown _ e = refl
cast_goes s.CastOpen t.RightBracket e = refl
cast_goes s.CastOpen _ e = refl
cast_goes s.Declared k e = refl
cast_goes s.Function k e = refl
cast_goes s.Each k e = refl
cast_goes s.In k e = refl
cast_goes s.Arrow k e = refl
cast_goes s.Reference k e = refl
cast_goes s.Array k e = refl
cast_goes s.Listed k e = refl
cast_goes s.Cast k e = refl
cast_goes s.Other k e = refl
cast_goes _ k e = absurd cc

cast_stops : (q : Seen) → in_cast q ≡ true → is_final (sees q t.RightParen) ≡ true
cast_stops s.CastStart e = refl
cast_stops s.CastRound e = refl
cast_stops s.CastKnown e = refl
cast_stops s.CastOpen e = refl
cast_stops s.Declared e = refl
cast_stops s.Function e = refl
cast_stops s.Each e = refl
cast_stops s.In e = refl
cast_stops s.Arrow e = refl
cast_stops s.Reference e = refl
cast_stops s.Array e = refl
cast_stops s.Listed e = refl
cast_stops s.Cast e = refl
cast_stops s.Other e = refl
cast_stops _ e = absurd cc

pub cast_settles : (from : Seen) (x : List Lexeme) → in_cast from ≡ true → Has t.RightParen x → is_final (seen from x) ≡ true
cast_settles from x e h = settles in_cast t.RightParen cast_goes cast_stops from x e h

-- brackets: settled one token after the first `)`
abbrev pub in_round : Seen → Bool
in_round s.Round = true
in_round s.RoundWord = true
in_round s.RoundWordRound = true
in_round s.RoundWordOpen = true
in_round s.RoundKnown = true
in_round s.RoundKnownOpen = true
in_round q = is_final q

pub round_goes : (q : Seen) (k : Terminal) → in_round q ≡ true → in_round (sees q k) ≡ true
round_goes s.Round t.Name e = refl
round_goes s.Round t.Basic e = refl
round_goes s.Round t.Class e = refl
round_goes s.Round t.RightParen e = refl
round_goes s.Round _ e = refl
round_goes s.RoundWord t.Name e = refl
round_goes s.RoundWord t.Comma e = refl
round_goes s.RoundWord t.RightParen e = refl
round_goes s.RoundWord t.LeftBracket e = refl
round_goes s.RoundWord _ e = refl
round_goes s.RoundWordRound t.Arrow e = refl
round_goes s.RoundWordRound _ e = refl
round_goes s.RoundWordOpen t.RightBracket e = refl
round_goes s.RoundWordOpen _ e = refl
round_goes s.RoundKnown t.LeftBracket e = refl
round_goes s.RoundKnown t.Name e = refl
round_goes s.RoundKnown _ e = refl
round_goes s.RoundKnownOpen t.RightBracket e = refl
round_goes s.RoundKnownOpen _ e = refl
round_goes s.Declared k e = refl
round_goes s.Function k e = refl
round_goes s.Each k e = refl
round_goes s.In k e = refl
round_goes s.Arrow k e = refl
round_goes s.Reference k e = refl
round_goes s.Array k e = refl
round_goes s.Listed k e = refl
round_goes s.Cast k e = refl
round_goes s.Other k e = refl
round_goes _ k e = absurd cc

after_round : (q : Seen) (k : Terminal) → in_round q ≡ true → is_final (sees (sees q t.RightParen) k) ≡ true
after_round s.Round k e = refl
after_round s.RoundWord t.Arrow e = refl
after_round s.RoundWord _ e = refl
after_round s.RoundWordRound k e = refl
after_round s.RoundWordOpen k e = refl
after_round s.RoundKnown k e = refl
after_round s.RoundKnownOpen k e = refl
after_round s.Declared k e = refl
after_round s.Function k e = refl
after_round s.Each k e = refl
after_round s.In k e = refl
after_round s.Arrow k e = refl
after_round s.Reference k e = refl
after_round s.Array k e = refl
after_round s.Listed k e = refl
after_round s.Cast k e = refl
after_round s.Other k e = refl
after_round _ k e = absurd cc

pub from_first : (q : Seen) (l : Lexeme) (x : List Lexeme) → is_final (sees q (class_of l)) ≡ true → is_final (seen q (l ∷ x)) ≡ true
from_first q l x e = subst (λ (p : Seen). is_final p ≡ true) (sym (seen_final (sees q (class_of l)) x e)) e

pub round_settles : (from : Seen) (x : List Lexeme) (l : Lexeme) (w : List Lexeme) → in_round from ≡ true → Has t.RightParen x → is_final (seen from (x ++ l ∷ w)) ≡ true
round_settles from x l w e h =
    let a = at_token in_round t.RightParen round_goes from x h e in
    subst (λ (q : Seen). is_final q ≡ true) (sym (seen_append from x (l ∷ w) ∙ ap (λ (q : Seen). seen q (l ∷ w)) a.2 ∙ sym (seen_append (sees a.0 t.RightParen) h.2 (l ∷ w))))
    (one h.2 a.0 a.1)
  where
    one : (b : List Lexeme) (q : Seen) → in_round q ≡ true → is_final (seen (sees q t.RightParen) (b ++ l ∷ w)) ≡ true
    one [] q i = from_first (sees q t.RightParen) l w (after_round q (class_of l) i)
    one (k ∷ b) q i = from_first (sees q t.RightParen) k (b ++ l ∷ w) (after_round q (class_of k) i)

pub final_more : (from : Seen) (x y : List Lexeme) → is_final (seen from x) ≡ true → is_final (seen from (x ++ y)) ≡ true
final_more from x y e = subst (λ (q : Seen). is_final q ≡ true) (sym (seen_more from x y e)) e

pub other_final : (x : List Lexeme) → is_final (seen s.Other x) ≡ true
other_final x = final_more s.Other [] x refl
