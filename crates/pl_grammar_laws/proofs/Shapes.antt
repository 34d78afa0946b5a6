-- What leads to each open state of the look ahead.
use Rattle.std.proofs.Common.{◌≡◌, ℕ, suc, true, List, [], ◌∷◌, ◌++◌, refl, sym, ap, subst, ◌∙◌, append_assoc, inl, inr, ◌⊎◌}
use Rattle.std.proofs.lemmas.List.{append-nil}
use Rattle.pl_grammar.specs.declared.terminal.Terminal.{Terminal}
use Rattle.pl_grammar.specs.declared.terminal.Terminal.TheVariants as t
use Rattle.pl_grammar.specs.declared.ahead.Seen.{Seen}
use Rattle.pl_grammar.specs.declared.ahead.Seen.TheVariants as s
use Rattle.pl_grammar.specs.Lexeme.{Lexeme, matches, is_known, class_of}
use Rattle.pl_grammar.specs.Ahead.{sees, seen}
use Rattle.pl_grammar.specs.Grammar.{pair, square}
use Rattle.pl_grammar.specs.Derives.{Sequence, Derives}
use Rattle.pl_grammar_laws.proofs.Certificates.{same_refl}
use Rattle.pl_grammar_laws.proofs.Walks.{is_plain}

pub is_matched : (w c : Terminal) → is_plain w ≡ true → c ≡ w → matches w c ≡ true
is_matched t.Known c i e = absurd cc
is_matched t.AnyWord c i e = absurd cc
is_matched w c i e = rw e (same_refl w)

-- ---- `[ ]`, at any height and whatever follows

abbrev pub Pairs : List ℕ → List Lexeme → Type 0
Pairs vs ps = (n : ℕ) (after : List Lexeme) → Sequence (Derives (suc n)) pair vs ps after

pub no_pairs : Pairs [] []
no_pairs = λ n after. refl

one_pair : (n : ℕ) (i j : Lexeme) (after : List Lexeme) → class_of i ≡ t.LeftBracket → class_of j ≡ t.RightBracket → Derives (suc n) pair i.token.start (i ∷ j ∷ []) after
one_pair n i j after e f = (
  square,
  (i.token, (j.token, tt)),
  refl,
  refl,
  (i ∷ [], j ∷ [], refl, (i, refl, is_matched t.LeftBracket (class_of i) refl e, refl), (j ∷ [], [], refl, (j, refl, is_matched t.RightBracket (class_of j) refl f, refl), refl)),
)

pair_last : (n : ℕ) (vs : List ℕ) (ps : List Lexeme) (i j : Lexeme) (after : List Lexeme) → class_of i ≡ t.LeftBracket → class_of j ≡ t.RightBracket → Sequence (Derives (suc n)) pair vs ps (i ∷ j ∷ after) → Sequence (Derives (suc n)) pair (vs ++ i.token.start ∷ []) (ps ++ i ∷ j ∷ []) after
pair_last n [] ps i j after e f h = (i ∷ j ∷ [], [], ap (λ (u : List Lexeme). u ++ i ∷ j ∷ []) h, one_pair n i j after e f, refl)
pair_last n (v ∷ vs) ps i j after e f h = (
  h.0,
  h.1 ++ i ∷ j ∷ [],
  ap (λ (u : List Lexeme). u ++ i ∷ j ∷ []) h.2 ∙ append_assoc h.0 h.1 (i ∷ j ∷ []),
  subst (λ (u : List Lexeme). Derives (suc n) pair v h.0 u) (sym (append_assoc h.1 (i ∷ j ∷ []) after)) h.3,
  pair_last n vs h.1 i j after e f h.4,
)

pub pair_more : (vs : List ℕ) (ps : List Lexeme) (i j : Lexeme) → class_of i ≡ t.LeftBracket → class_of j ≡ t.RightBracket → Pairs vs ps → Pairs (vs ++ i.token.start ∷ []) (ps ++ i ∷ j ∷ [])
pair_more vs ps i j e f h = λ n after. pair_last n vs ps i j after e f (h n (i ∷ j ∷ after))

-- ---- shapes

-- a head and any number of `[ ]`
abbrev pub Shape : (Terminal → Type 0) → List Lexeme → Type 0
Shape H a = (head : Lexeme) × (vs : List ℕ) × (ps : List Lexeme) × (a ≡ head ∷ ps) × H (class_of head) × Pairs vs ps

abbrev pub Named : List Lexeme → Type 0
Named = Shape (λ (c : Terminal). c ≡ t.Name)

abbrev pub Known : List Lexeme → Type 0
Known = Shape (λ (c : Terminal). is_known c ≡ true)

-- and a `[`, or a name
abbrev pub Opened : (List Lexeme → Type 0) → List Lexeme → Type 0
Opened S a = (b : List Lexeme) × (i : Lexeme) × (a ≡ b ++ i ∷ []) × (class_of i ≡ t.LeftBracket) × S b

abbrev pub Followed : (List Lexeme → Type 0) → List Lexeme → Type 0
Followed S a = (b : List Lexeme) × (j : Lexeme) × (a ≡ b ++ j ∷ []) × (class_of j ≡ t.Name) × S b

abbrev pub Alone : List Lexeme → Type 0
Alone a = (j : Lexeme) × (a ≡ j ∷ []) × (class_of j ≡ t.Name)

abbrev pub AloneOpen : List Lexeme → Type 0
AloneOpen a = (j : Lexeme) × (i : Lexeme) × (a ≡ j ∷ i ∷ []) × (class_of j ≡ t.Name) × (class_of i ≡ t.LeftBracket)

abbrev pub Round : List Lexeme → Type 0
Round a = (i : Lexeme) × (a ≡ i ∷ []) × (class_of i ≡ t.LeftParen)

abbrev pub Behind : (List Lexeme → Type 0) → List Lexeme → Type 0
Behind S a = (i : Lexeme) × (b : List Lexeme) × (a ≡ i ∷ b) × (class_of i ≡ t.LeftParen) × S b

abbrev pub Closed : List Lexeme → Type 0
Closed a = (i : Lexeme) × (j : Lexeme) × (r : Lexeme) × (a ≡ i ∷ j ∷ r ∷ []) × (class_of i ≡ t.LeftParen) × (class_of j ≡ t.Name) × (class_of r ≡ t.RightParen)

-- what led to a state
abbrev pub Led : Seen → List Lexeme → Type 0
Led s.Start a = a ≡ []
Led s.Word a = Alone a
Led s.WordOpen a = AloneOpen a
Led s.WordPairs a = Named a
Led s.WordPairsOpen a = Opened Named a
Led s.Known a = Known a
Led s.KnownOpen a = Opened Known a
Led s.Typed a = Followed Named a ⊎ Followed Known a
Led s.Round a = Round a
Led s.RoundWord a = Behind Alone a
Led s.RoundWordRound a = Closed a
Led s.RoundWordOpen a = Behind AloneOpen a
Led s.RoundKnown a = Behind Known a
Led s.RoundKnownOpen a = Behind (Opened Known) a
Led s.CastStart a = a ≡ []
Led s.CastRound a = Round a
Led s.CastKnown a = Behind Known a
Led s.CastOpen a = Behind (Opened Known) a
Led _ a = Unit {0}

abbrev add : Lexeme → List Lexeme → List Lexeme
add l u = u ++ l ∷ []

pub closed_pair : (H : Terminal → Type 0) (a : List Lexeme) (l : Lexeme) → class_of l ≡ t.RightBracket → Opened (Shape H) a → Shape H (a ++ l ∷ [])
closed_pair H a l e h =
    let sh = h.4 in (
      sh.0,
      sh.1 ++ h.1.token.start ∷ [],
      sh.2 ++ h.1 ∷ l ∷ [],
      ap (add l) (h.2 ∙ ap (add h.1) sh.3) ∙ ap (λ (u : List Lexeme). sh.0 ∷ u) (append_assoc sh.2 (h.1 ∷ []) (l ∷ [])),
      sh.4,
      pair_more sh.1 sh.2 h.1 l h.3 e sh.5,
    )

pub led_more : (q : Seen) (a : List Lexeme) (l : Lexeme) (c : Terminal) → class_of l ≡ c → Led q a → Led (sees q c) (a ++ l ∷ [])
led_more s.Start a l t.Name e h = (l, ap (add l) h, e)
led_more s.Start a l t.Basic e h = (l, [], [], ap (add l) h, ap is_known e, no_pairs)
led_more s.Start a l t.Class e h = (l, [], [], ap (add l) h, ap is_known e, no_pairs)
led_more s.Start a l t.LeftParen e h = (l, ap (add l) h, e)
led_more s.Start a l _ e h = tt
led_more s.Word a l t.Name e h = inl (a, l, refl, e, (h.0, [], [], h.1, h.2, no_pairs))
led_more s.Word a l t.LeftBracket e h = (h.0, l, ap (add l) h.1, h.2, e)
led_more s.Word a l t.Arrow e h = tt
led_more s.Word a l t.In e h = tt
led_more s.Word a l t.ColonColon e h = tt
led_more s.Word a l _ e h = tt
led_more s.WordOpen a l t.RightBracket e h = (h.0, h.1.token.start ∷ [], h.1 ∷ l ∷ [], ap (add l) h.2, h.3, pair_more [] [] h.1 l h.4 e no_pairs)
led_more s.WordOpen a l _ e h = tt
led_more s.WordPairs a l t.LeftBracket e h = (a, l, refl, e, h)
led_more s.WordPairs a l t.Name e h = inl (a, l, refl, e, h)
led_more s.WordPairs a l t.ColonColon e h = tt
led_more s.WordPairs a l _ e h = tt
led_more s.WordPairsOpen a l t.RightBracket e h = closed_pair (λ (c : Terminal). c ≡ t.Name) a l e h
led_more s.WordPairsOpen a l _ e h = tt
led_more s.Known a l t.LeftBracket e h = (a, l, refl, e, h)
led_more s.Known a l t.Name e h = inr (a, l, refl, e, h)
led_more s.Known a l t.ColonColon e h = tt
led_more s.Known a l _ e h = tt
led_more s.KnownOpen a l t.RightBracket e h = closed_pair (λ (c : Terminal). is_known c ≡ true) a l e h
led_more s.KnownOpen a l _ e h = tt
led_more s.Typed a l t.LeftParen e h = tt
led_more s.Typed a l t.Colon e h = tt
led_more s.Typed a l _ e h = tt
led_more s.Round a l t.Name e h = (h.0, l ∷ [], ap (add l) h.1, h.2, (l, refl, e))
led_more s.Round a l t.Basic e h = (h.0, l ∷ [], ap (add l) h.1, h.2, (l, [], [], refl, ap is_known e, no_pairs))
led_more s.Round a l t.Class e h = (h.0, l ∷ [], ap (add l) h.1, h.2, (l, [], [], refl, ap is_known e, no_pairs))
led_more s.Round a l t.RightParen e h = tt
led_more s.Round a l _ e h = tt
led_more s.RoundWord a l t.RightParen e h = (h.0, h.4.0, l, ap (add l) (h.2 ∙ ap (λ (u : List Lexeme). h.0 ∷ u) h.4.1), h.3, h.4.2, e)
led_more s.RoundWord a l t.LeftBracket e h = (h.0, h.4.0 ∷ l ∷ [], ap (add l) (h.2 ∙ ap (λ (u : List Lexeme). h.0 ∷ u) h.4.1), h.3, (h.4.0, l, refl, h.4.2, e))
led_more s.RoundWord a l t.Name e h = tt
led_more s.RoundWord a l t.Comma e h = tt
led_more s.RoundWord a l _ e h = tt
led_more s.RoundWordRound a l t.Arrow e h = tt
led_more s.RoundWordRound a l _ e h = tt
led_more s.RoundWordOpen a l t.RightBracket e h = tt
led_more s.RoundWordOpen a l _ e h = tt
led_more s.RoundKnown a l t.LeftBracket e h = (h.0, h.1 ++ l ∷ [], ap (add l) h.2, h.3, (h.1, l, refl, e, h.4))
led_more s.RoundKnown a l t.Name e h = tt
led_more s.RoundKnown a l _ e h = tt
led_more s.RoundKnownOpen a l t.RightBracket e h = (h.0, h.1 ++ l ∷ [], ap (add l) h.2, h.3, closed_pair (λ (c : Terminal). is_known c ≡ true) h.1 l e h.4)
led_more s.RoundKnownOpen a l _ e h = tt
led_more s.CastStart a l t.LeftParen e h = (l, ap (add l) h, e)
led_more s.CastStart a l _ e h = tt
led_more s.CastRound a l t.Basic e h = (h.0, l ∷ [], ap (add l) h.1, h.2, (l, [], [], refl, ap is_known e, no_pairs))
led_more s.CastRound a l t.Class e h = (h.0, l ∷ [], ap (add l) h.1, h.2, (l, [], [], refl, ap is_known e, no_pairs))
led_more s.CastRound a l _ e h = tt
led_more s.CastKnown a l t.LeftBracket e h = (h.0, h.1 ++ l ∷ [], ap (add l) h.2, h.3, (h.1, l, refl, e, h.4))
led_more s.CastKnown a l t.RightParen e h = tt
led_more s.CastKnown a l _ e h = tt
led_more s.CastOpen a l t.RightBracket e h = (h.0, h.1 ++ l ∷ [], ap (add l) h.2, h.3, closed_pair (λ (c : Terminal). is_known c ≡ true) h.1 l e h.4)
led_more s.CastOpen a l _ e h = tt
led_more s.Param a l t.Name e h = tt
led_more s.Param a l t.Basic e h = tt
led_more s.Param a l t.Class e h = tt
led_more s.Param a l _ e h = tt
led_more s.ParamWord a l t.Name e h = tt
led_more s.ParamWord a l t.LeftBracket e h = tt
led_more s.ParamWord a l _ e h = tt
led_more _ a l c e h = tt

led_all : (q : Seen) (a z : List Lexeme) → Led q a → Led (seen q z) (a ++ z)
led_all q a [] h = subst (λ (u : List Lexeme). Led q u) (sym (append-nil a)) h
led_all q a (l ∷ z) h = subst (λ (u : List Lexeme). Led (seen (sees q (class_of l)) z) u) (append_assoc a (l ∷ []) z) (led_all (sees q (class_of l)) (a ++ l ∷ []) z (led_more q a l (class_of l) refl h))

pub led_start : (z : List Lexeme) → Led (seen s.Start z) z
led_start z = led_all s.Start [] z refl

pub led_cast : (z : List Lexeme) → Led (seen s.CastStart z) z
led_cast z = led_all s.CastStart [] z refl
