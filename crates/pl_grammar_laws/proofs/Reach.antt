-- Reading never stops inside lexemes that begin a phrase.
use Rattle.std.proofs.Common.{◌≡◌, ℕ, zero, suc, ◌≤◌, true, false, cond, List, [], ◌∷◌, ◌++◌, length, Option, Some, None, Ok, Err, refl, sym, ap, subst, ◌∙◌, append_assoc, arith, inl, inr, ◌⊎◌}
use Rattle.std.proofs.lemmas.List.{length-append, append-nil}
use Rattle.pl_grammar.specs.declared.terminal.Terminal.{Terminal}
use Rattle.pl_grammar.specs.declared.stop.Stop.TheVariants.{NoMemory, Unexpected, TooDeep}
use Rattle.pl_grammar.specs.Lexeme.{Lexeme, Take, Taken, taken, matches, class_of, next}
use Rattle.pl_grammar.specs.Ahead.{seen}
use Rattle.pl_grammar.specs.Grammar.{Form, TreeOf, Symbol, token, phrase, repeated, optional, SymbolTree, Trees, symbols, built}
use Rattle.pl_grammar.specs.Firsts.{first, absent, scan, fits}
use Rattle.pl_grammar.specs.Reading.{Outcome, Reader, and_then, choice, read_token, read_repeated, read_optional, read_symbol, read_symbols, read_form}
use Rattle.pl_grammar.specs.Derives.{Sequence, DerivesSymbol, DerivesSymbols, Derives, BeginsSymbol, BeginsSymbols, Begins}
use Rattle.pl_grammar_laws.proofs.Certificates.{heads}
use Rattle.pl_grammar_laws.proofs.Fitting.{chosen_heads}
use Rattle.pl_grammar_laws.proofs.Settled.{fits_of}
use Rattle.pl_grammar_laws.proofs.Heads.{form_first}
use Rattle.pl_grammar_laws.proofs.Forward.{goes_on}
use Rattle.pl_grammar_laws.proofs.Sound.{Relation, Leads, leads}
use Rattle.pl_grammar_laws.proofs.Complete.{Gets, symbol_full, form_full}
use Rattle.pl_grammar_laws.proofs.Stops.{Agrees, symbol_again, derives_again, bare}

-- no more than j lexemes are left
abbrev pub Reaches : {A : Type 0} → ℕ → Outcome A → Type 0
Reaches j (Ok p) = length p.1 ≤ j
Reaches j (Err (Unexpected n)) = n ≤ j
Reaches j (Err NoMemory) = Unit {0}
Reaches j (Err TooDeep) = Unit {0}

pub reaches_le : {A : Type 0} (i j : ℕ) (o : Outcome A) → i ≤ j → Reaches i o → Reaches j o
reaches_le i j (Ok p) le r = omega arith
reaches_le i j (Err (Unexpected n)) le r = omega arith
reaches_le i j (Err NoMemory) le r = tt
reaches_le i j (Err TooDeep) le r = tt

pub reaches_then : {A B : Type 0} (j : ℕ) (o : Outcome A) (f : A → Reader B) → Reaches j o → ((v : A) (b : List Lexeme) → length b ≤ j → Reaches j (f v b)) → Reaches j (and_then o f)
reaches_then j (Ok p) f r g = g p.0 p.1 r
reaches_then j (Err (Unexpected n)) f r g = r
reaches_then j (Err NoMemory) f r g = tt
reaches_then j (Err TooDeep) f r g = tt

gets_reach : {A B : Type 0} (j : ℕ) (o : Outcome A) (f : A → Reader B) (v : A) (b : List Lexeme) → Gets o v b → Reaches j (f v b) → Reaches j (and_then o f)
gets_reach {A} j o f v b (inl e) r = subst (λ (q : Outcome A). Reaches j (and_then q f)) (sym e) r
gets_reach {A} j o f v b (inr e) r = subst (λ (q : Outcome A). Reaches j (and_then q f)) (sym e) tt

-- ---- reading adds no lexeme

module _ (inner : (f : Form) → Reader (TreeOf f)) (inside : (f : Form) (a : List Lexeme) → Reaches (length a) (inner f a)) where
  pub repeated_within : (n : ℕ) (f : Form) (a : List Lexeme) → Reaches (length a) (read_repeated inner n f a)
  unfolding read_repeated
  repeated_within zero f a = omega arith
  repeated_within (suc n) f a =
      elim (first f (next a)) as (λ s. Reaches (length a) (cond s (and_then (inner f a) (λ v us. and_then (read_repeated inner n f us) (λ vs ws. Ok (v ∷ vs, ws)))) (Ok ([], a)))) [
        | true ↦ reaches_then (length a) (inner f a) (λ v us. and_then (read_repeated inner n f us) (λ vs ws. Ok (v ∷ vs, ws))) (inside f a)
            (λ v b le. reaches_then (length a) (read_repeated inner n f b) (λ vs ws. Ok (v ∷ vs, ws)) (reaches_le (length b) (length a) (read_repeated inner n f b) le (repeated_within n f b)) (λ vs c le. le))
        | false ↦ omega arith
      ]

  token_within : (take : Take) (terminal : Terminal) (a : List Lexeme) → Reaches (length a) (read_token take terminal a)
  unfolding read_token
  token_within take terminal [] = omega arith
  token_within take terminal (l ∷ a) = elim (matches terminal (class_of l)) as (λ s. Reaches (length (l ∷ a)) (cond s (Ok (taken take l, a)) (Err (Unexpected (length (l ∷ a)))))) [ true ↦ omega arith | false ↦ omega arith ]

  optional_within : (f : Form) (a : List Lexeme) → Reaches (length a) (read_optional inner f a)
  unfolding read_optional
  optional_within f a =
      elim (first f (next a)) as (λ s. Reaches (length a) (cond s (and_then (inner f a) (λ v us. Ok (Some v, us))) (cond (absent f (next a)) (Ok (None, a)) (Err (Unexpected (length a)))))) [
        | true ↦ reaches_then (length a) (inner f a) (λ v us. Ok (Some v, us)) (inside f a) (λ v b le. le)
        | false ↦ elim (absent f (next a)) as (λ l. Reaches {A = Option (TreeOf f)} (length a) (cond l (Ok (None, a)) (Err (Unexpected (length a))))) [ true ↦ omega arith | false ↦ omega arith ]
      ]

  pub symbol_within : (s : Symbol) (a : List Lexeme) → Reaches (length a) (read_symbol inner s a)
  symbol_within (token take terminal) a = token_within take terminal a
  symbol_within (phrase f) a = inside f a
  symbol_within (repeated f) a = repeated_within (length a) f a
  symbol_within (optional f) a = optional_within f a

  symbols_within : (ss : List Symbol) (a : List Lexeme) → Reaches (length a) (read_symbols inner ss a)
  symbols_within [] a = omega arith
  symbols_within (s ∷ ss) a =
      reaches_then (length a) (read_symbol inner s a) (λ v us. and_then (read_symbols inner ss us) (λ vs ws. Ok ((v, vs), ws))) (symbol_within s a)
      (λ v b le. reaches_then (length a) (read_symbols inner ss b) (λ vs ws. Ok ((v, vs), ws)) (reaches_le (length b) (length a) (read_symbols inner ss b) le (symbols_within ss b)) (λ vs c le. le))

  -- the symbols after the first keep what it reached
  after_symbol : (j : ℕ) (s : Symbol) (ss : List Symbol) (a : List Lexeme) → Reaches j (read_symbol inner s a) → Reaches j (read_symbols inner (s ∷ ss) a)
  after_symbol j s ss a r =
      reaches_then j (read_symbol inner s a) (λ v us. and_then (read_symbols inner ss us) (λ vs ws. Ok ((v, vs), ws))) r
      (λ v b le. reaches_then j (read_symbols inner ss b) (λ vs ws. Ok ((v, vs), ws)) (reaches_le (length b) j (read_symbols inner ss b) le (symbols_within ss b)) (λ vs c le. le))

  -- ---- a token that begins a form is read
  token_head : (take : Take) (w : Terminal) (l : Lexeme) (rest : List Lexeme) → matches w (class_of l) ≡ true → Reaches (length rest) (read_token take w (l ∷ rest))
  unfolding read_token
  token_head take w l rest e = rw e (omega arith)

  symbols_head : ((f : Form) (l : Lexeme) (rest : List Lexeme) → first f (class_of l) ≡ true → Reaches (length rest) (inner f (l ∷ rest))) → (ss : List Symbol) (l : Lexeme) (rest : List Lexeme) → heads ss (class_of l) ≡ true → Reaches (length rest) (read_symbols inner ss (l ∷ rest))
  symbols_head ahead [] l rest e = absurd cc
  symbols_head ahead (token take w ∷ ss) l rest e = after_symbol (length rest) (token take w) ss (l ∷ rest) (token_head take w l rest e)
  symbols_head ahead (phrase f ∷ ss) l rest e = after_symbol (length rest) (phrase f) ss (l ∷ rest) (ahead f l rest e)
  symbols_head ahead (repeated f ∷ ss) l rest e = absurd cc
  symbols_head ahead (optional f ∷ ss) l rest e = absurd cc

pub form_within : (m : ℕ) (f : Form) (a : List Lexeme) → Reaches (length a) (read_form m f a)
unfolding read_form
form_within zero f a = tt
form_within (suc m) f a =
    let p = choice f (next a) (seen (scan f) a) in
    reaches_then (length a) (read_symbols (read_form m) (symbols p) a) (λ vs ws. Ok (built p vs, ws)) (symbols_within (read_form m) (form_within m) (symbols p) a) (λ v b le. le)

pub form_head : (m : ℕ) (f : Form) (l : Lexeme) (rest : List Lexeme) → first f (class_of l) ≡ true → Reaches (length rest) (read_form m f (l ∷ rest))
unfolding read_form
form_head zero f l rest e = tt
form_head (suc m) f l rest e =
    let p = choice f (class_of l) (seen (scan f) (l ∷ rest)) in
    reaches_then (length rest) (read_symbols (read_form m) (symbols p) (l ∷ rest)) (λ vs ws. Ok (built p vs, ws)) (symbols_head (read_form m) (form_within m) (form_head m) (symbols p) l rest (chosen_heads f (class_of l) (seen (scan f) (l ∷ rest)) e)) (λ v b le. le)

-- ---- what is whole begins

symbols_whole : (n : ℕ) (ss : List Symbol) (vs : Trees ss) (x : List Lexeme) → DerivesSymbols (Derives n) ss vs x [] → BeginsSymbols (Derives n) (Begins n) ss x
symbols_whole n [] vs x h = h
symbols_whole n (s ∷ ss) vs x h = inr (vs.0, h.0, h.1, h.2, subst (λ (u : List Lexeme). DerivesSymbol (Derives n) s vs.0 h.0 u) (append-nil h.1) h.3, symbols_whole n ss vs.1 h.1 h.4)

pub form_whole : (n : ℕ) (f : Form) (v : TreeOf f) (x : List Lexeme) → Derives n f v x [] → Begins n f x
form_whole zero f v x h = absurd h
form_whole (suc n) f v x h = inr (h.0, subst (λ (u : List Lexeme). fits h.0 (next u) (seen (scan f) u) ≡ true) (append-nil x) (fits_of n h.0 h.1 x [] (next (x ++ [])) h.4 h.3), symbols_whole n (symbols h.0) h.1 x h.4)

-- ---- reading goes through what begins

split_first : (u : List Lexeme) → (u ≡ []) ⊎ ((l : Lexeme) × (w : List Lexeme) × (u ≡ l ∷ w))
split_first [] = inl refl
split_first (l ∷ w) = inr (l, w, refl)

agree_longer : (l : Lexeme) (w u rest : List Lexeme) → u ≡ l ∷ w → Agrees u (u ++ rest)
agree_longer l w u rest e = inr (l, w, rest, e, refl)

module _ (inner : (f : Form) → Reader (TreeOf f)) (D : Relation) (B : Form → List Lexeme → Type 0) (lead : (f : Form) (v : TreeOf f) (x after : List Lexeme) → D f v x after → Leads f x) (again : (f : Form) (v : TreeOf f) (x b c : List Lexeme) → Agrees b c → D f v x b → D f v x c) (full : (f : Form) (v : TreeOf f) (x after : List Lexeme) → D f v x after → Gets (inner f (x ++ after)) v after) (inside : (f : Form) (a : List Lexeme) → Reaches (length a) (inner f a)) (head : (f : Form) (l : Lexeme) (y : List Lexeme) → B f (l ∷ y) → first f (class_of l) ≡ true) (none : (f : Form) → B f []) (whole : (f : Form) (v : TreeOf f) (x : List Lexeme) → D f v x [] → B f x) (reach : (f : Form) (y rest : List Lexeme) → B f y → Reaches (length rest) (inner f (y ++ rest))) where
  -- the first phrase reaches as far, and so do those after it
  sequence_on : (turns : ℕ) (f : Form) (a rest : List Lexeme) → first f (next a) ≡ true → Reaches (length rest) (inner f a) → Reaches (length rest) (read_repeated inner (suc turns) f a)
  unfolding read_repeated
  sequence_on turns f a rest e r =
      rw e (reaches_then (length rest) (inner f a) (λ v us. and_then (read_repeated inner turns f us) (λ vs ws. Ok (v ∷ vs, ws))) r
      (λ v b le. reaches_then (length rest) (read_repeated inner turns f b) (λ vs ws. Ok (v ∷ vs, ws)) (reaches_le (length b) (length rest) (read_repeated inner turns f b) le (repeated_within inner inside turns f b)) (λ vs c le. le)))

  sequence_last : (turns : ℕ) (f : Form) (z rest : List Lexeme) → B f z → Reaches (length rest) (read_repeated inner (suc turns) f (z ++ rest))
  sequence_last turns f [] rest b = repeated_within inner inside (suc turns) f rest
  sequence_last turns f (l ∷ z) rest b = sequence_on turns f (l ∷ (z ++ rest)) rest (head f l z b) (reach f (l ∷ z) rest b)

  sequence_item : (turns : ℕ) (f : Form) (v : TreeOf f) (a b rest : List Lexeme) → first f (next a) ≡ true → Gets (inner f a) v b → Reaches (length rest) (read_repeated inner turns f b) → Reaches (length rest) (read_repeated inner (suc turns) f a)
  unfolding read_repeated
  sequence_item turns f v a b rest e g r =
      rw e (gets_reach (length rest) (inner f a) (λ v us. and_then (read_repeated inner turns f us) (λ vs ws. Ok (v ∷ vs, ws))) v b g
      (reaches_then (length rest) (read_repeated inner turns f b) (λ vs ws. Ok (v ∷ vs, ws)) r (λ vs c le. le)))

  sequence_none : (f : Form) (a rest : List Lexeme) → length a ≤ 0 → Reaches (length rest) (read_repeated inner 0 f a)
  unfolding read_repeated
  sequence_none f a rest le = omega arith

  sequence_reach : (turns : ℕ) (f : Form) (vs : List (TreeOf f)) (x z rest : List Lexeme) → length (x ++ (z ++ rest)) ≤ turns → Sequence D f vs x z → B f z → Reaches (length rest) (read_repeated inner turns f (x ++ (z ++ rest)))
  sequence_reach zero f vs x z rest le h b = sequence_none f (x ++ (z ++ rest)) rest le
  sequence_reach (suc turns) f [] x z rest le h b = rw h (sequence_last turns f z rest b)
  sequence_reach (suc turns) f (v ∷ vs) x z rest le h b =
      let a = lead f v h.0 (h.1 ++ z) h.3 in
      let lexemes : x ++ (z ++ rest) ≡ h.0 ++ (h.1 ++ (z ++ rest)) = ap (λ (u : List Lexeme). u ++ (z ++ rest)) h.2 ∙ append_assoc h.0 h.1 (z ++ rest) in
      let goes : (after : List Lexeme) → first f (next (h.0 ++ after)) ≡ true = λ after. subst (λ (u : List Lexeme). first f (next (u ++ after)) ≡ true) (sym a.2) a.3 in
      let shorter : length (h.1 ++ (z ++ rest)) ≤ turns = omega (arith, ap length lexemes, length-append h.0 (h.1 ++ (z ++ rest)), ap length a.2) in
      subst (λ (u : List Lexeme). Reaches (length rest) (read_repeated inner (suc turns) f u)) (sym lexemes)
      (elim (split_first (h.1 ++ z)) [
        | inl none_after ↦
            let last : D f v h.0 [] = subst (λ (u : List Lexeme). D f v h.0 u) none_after h.3 in
            let same : h.1 ++ (z ++ rest) ≡ rest = sym (append_assoc h.1 z rest) ∙ ap (λ (u : List Lexeme). u ++ rest) none_after in
            subst (λ (u : List Lexeme). Reaches (length rest) (read_repeated inner (suc turns) f (h.0 ++ u))) (sym same) (sequence_on turns f (h.0 ++ rest) rest (goes rest) (reach f h.0 rest (whole f v h.0 last)))
        | inr some ↦
            let longer : D f v h.0 (h.1 ++ (z ++ rest)) = subst (λ (u : List Lexeme). D f v h.0 u) (append_assoc h.1 z rest) (again f v h.0 (h.1 ++ z) ((h.1 ++ z) ++ rest) (agree_longer some.0 some.1 (h.1 ++ z) rest some.2) h.3) in
            sequence_item turns f v (h.0 ++ (h.1 ++ (z ++ rest))) (h.1 ++ (z ++ rest)) rest (goes (h.1 ++ (z ++ rest))) (full f v h.0 (h.1 ++ (z ++ rest)) longer) (sequence_reach turns f vs h.1 z rest shorter h.4 b)
      ])

  optional_reach : (f : Form) (y rest : List Lexeme) → B f y → Reaches (length rest) (read_optional inner f (y ++ rest))
  unfolding read_optional
  optional_reach f [] rest b = optional_within inner inside f rest
  optional_reach f (l ∷ y) rest b = rw (head f l y b) (reaches_then (length rest) (inner f (l ∷ (y ++ rest))) (λ v us. Ok (Some v, us)) (reach f (l ∷ y) rest b) (λ v c le. le))

  symbol_reach : (s : Symbol) (y rest : List Lexeme) → BeginsSymbol D B s y → Reaches (length rest) (read_symbol inner s (y ++ rest))
  symbol_reach (token take terminal) y rest h = subst (λ (u : List Lexeme). Reaches (length rest) (read_token take terminal (u ++ rest))) (sym h) (token_within inner inside take terminal rest)
  symbol_reach (phrase f) y rest h = reach f y rest h
  symbol_reach (repeated f) y rest h =
      let lexemes : y ++ rest ≡ h.1 ++ (h.2 ++ rest) = ap (λ (u : List Lexeme). u ++ rest) h.3 ∙ append_assoc h.1 h.2 rest in
      subst (λ (u : List Lexeme). Reaches (length rest) (read_repeated inner (length u) f u)) (sym lexemes) (sequence_reach (length (h.1 ++ (h.2 ++ rest))) f h.0 h.1 h.2 rest (omega arith) h.4 h.5)
  symbol_reach (optional f) y rest h = optional_reach f y rest h

  token_end : (take : Take) (terminal : Terminal) (v : Taken take) (x rest : List Lexeme) → DerivesSymbol D (token take terminal) v x [] → Reaches (length rest) (read_token take terminal (x ++ rest))
  token_end take terminal v x rest h = subst (λ (u : List Lexeme). Reaches (length rest) (read_token take terminal (u ++ rest))) (sym h.1) (token_head inner inside take terminal h.0 rest h.2)

  -- a whole symbol with nothing after it
  symbol_end : (s : Symbol) (v : SymbolTree s) (x rest : List Lexeme) → DerivesSymbol D s v x [] → Reaches (length rest) (read_symbol inner s (x ++ rest))
  symbol_end (token take terminal) v x rest h = token_end take terminal v x rest h
  symbol_end (phrase f) v x rest h = reach f x rest (whole f v x h)
  symbol_end (repeated f) v x rest h = sequence_reach (length (x ++ rest)) f v x [] rest (omega arith) h.0 (none f)
  symbol_end (optional f) None x rest h = subst (λ (u : List Lexeme). Reaches (length rest) (read_optional inner f (u ++ rest))) (sym h.0) (optional_within inner inside f rest)
  symbol_end (optional f) (Some v) x rest h = optional_reach f x rest (whole f v x h)

  pub symbols_reach : (ss : List Symbol) (y rest : List Lexeme) → BeginsSymbols D B ss y → Reaches (length rest) (read_symbols inner ss (y ++ rest))
  symbols_reach [] y rest h = subst (λ (u : List Lexeme). length (u ++ rest) ≤ length rest) (sym h) (omega arith)
  symbols_reach (s ∷ ss) y rest (inl h) = after_symbol inner inside (length rest) s ss (y ++ rest) (symbol_reach s y rest h)
  symbols_reach (s ∷ ss) y rest (inr h) =
      let lexemes : y ++ rest ≡ h.1 ++ (h.2 ++ rest) = ap (λ (u : List Lexeme). u ++ rest) h.3 ∙ append_assoc h.1 h.2 rest in
      subst (λ (u : List Lexeme). Reaches (length rest) (read_symbols inner (s ∷ ss) u)) (sym lexemes)
      (elim (split_first h.2) [
        | inl none_after ↦
            subst (λ (u : List Lexeme). Reaches (length rest) (read_symbols inner (s ∷ ss) (h.1 ++ (u ++ rest)))) (sym none_after)
            (after_symbol inner inside (length rest) s ss (h.1 ++ rest) (symbol_end s h.0 h.1 rest (subst (λ (u : List Lexeme). DerivesSymbol D s h.0 h.1 u) none_after h.4)))
        | inr some ↦
            let longer : DerivesSymbol D s h.0 h.1 (h.2 ++ rest) = symbol_again D again s h.0 h.1 h.2 (h.2 ++ rest) (agree_longer some.0 some.1 h.2 rest some.2) h.4 in
            gets_reach (length rest) (read_symbol inner s (h.1 ++ (h.2 ++ rest))) (λ v us. and_then (read_symbols inner ss us) (λ vs ws. Ok ((v, vs), ws))) h.0 (h.2 ++ rest) (symbol_full inner D lead full s h.0 h.1 (h.2 ++ rest) longer)
            (reaches_then (length rest) (read_symbols inner ss (h.2 ++ rest)) (λ vs ws. Ok ((h.0, vs), ws)) (symbols_reach ss h.2 rest h.5) (λ vs c le. le))
      ])

pub form_reach : (m n : ℕ) (f : Form) (y rest : List Lexeme) → Begins n f y → Reaches (length rest) (read_form m f (y ++ rest))
unfolding read_form
form_reach zero n f y rest h = tt
form_reach (suc m) n f [] rest h = form_within (suc m) f rest
form_reach (suc m) n f (l ∷ []) rest h = form_head (suc m) f l rest (form_first n f l [] h)
form_reach (suc m) zero f (l ∷ k ∷ y) rest h = absurd (cc h)
form_reach (suc m) (suc n) f (l ∷ k ∷ y) rest (inl h) = absurd (cc h)
form_reach (suc m) (suc n) f (l ∷ k ∷ y) rest (inr h) =
    let p = choice f (class_of l) (seen (scan f) (l ∷ k ∷ (y ++ rest))) in
    let g = goes_on n h.0 l k y rest h.1 h.2 in
    reaches_then (length rest) (read_symbols (read_form m) (symbols p) (l ∷ k ∷ (y ++ rest))) (λ vs ws. Ok (built p vs, ws))
    (symbols_reach (read_form m) (Derives g.0) (Begins g.0) (leads g.0) (derives_again g.0) (form_full m g.0) (form_within m) (form_first g.0) (bare g.0) (form_whole g.0) (form_reach m g.0) (symbols p) (l ∷ k ∷ y) rest g.1) (λ v b le. le)
