-- Where reading stops, the lexemes before begin a phrase.
use Rattle.std.proofs.Common.{◌≡◌, ℕ, zero, suc, true, false, cond, List, [], ◌∷◌, ◌++◌, length, Some, None, Ok, Err, refl, sym, ap, subst, ◌∙◌, append_assoc, inl, inr, ◌⊎◌}
use Rattle.pl_grammar.specs.declared.terminal.Terminal.{Terminal}
use Rattle.pl_grammar.specs.declared.stop.Stop.{Stop}
use Rattle.pl_grammar.specs.declared.stop.Stop.TheVariants.{Unexpected}
use Rattle.pl_grammar.specs.Lexeme.{Lexeme, Take, taken, matches, class_of, next}
use Rattle.pl_grammar.specs.declared.ahead.Seen.{Seen}
use Rattle.pl_grammar.specs.Ahead.{seen, is_final}
use Rattle.pl_grammar.specs.Grammar.{Form, TreeOf, Symbol, token, phrase, repeated, optional, SymbolTree, Trees, Production, symbols, built}
use Rattle.pl_grammar.specs.Firsts.{first, absent, scan, allowed, fits}
use Rattle.pl_grammar.specs.Reading.{Outcome, Reader, and_then, choice, read_token, read_repeated, read_optional, read_symbol, read_symbols, read_form}
use Rattle.pl_grammar.specs.Derives.{Sequence, DerivesSymbol, DerivesSymbols, Derives, BeginsSymbol, BeginsSymbols, Begins}
use Rattle.pl_grammar_laws.proofs.Certificates.{led}
use Rattle.pl_grammar_laws.proofs.Fitting.{chosen_fits, end_begins, end_absent}
use Rattle.pl_grammar.proofs.Scan.{seen_more}
use Rattle.pl_grammar_laws.proofs.Cuts.{allowed_cut, fits_cut}
use Rattle.pl_grammar_laws.proofs.Settled.{firm}
use Rattle.pl_grammar_laws.proofs.Sound.{Relation, Leads, leads, first_symbol, which, Took, symbol_sound, form_sound}

-- ---- what comes after may be cut short, and where there is some, more may follow

abbrev pub Agrees : List Lexeme → List Lexeme → Type 0
Agrees b c = ((e : List Lexeme) × (b ≡ c ++ e)) ⊎ ((l : Lexeme) × (w : List Lexeme) × (e : List Lexeme) × (b ≡ l ∷ w) × (c ≡ b ++ e))

pub agree_behind : (rest b c : List Lexeme) → Agrees b c → Agrees (rest ++ b) (rest ++ c)
agree_behind rest b c (inl h) = inl (h.0, ap (λ (u : List Lexeme). rest ++ u) h.1 ∙ sym (append_assoc rest c h.0))
agree_behind [] b c (inr h) = inr h
agree_behind (l ∷ rest) b c (inr h) = inr (l, rest ++ b, h.2, refl, ap (λ (u : List Lexeme). l ∷ (rest ++ u)) h.4 ∙ ap (λ (u : List Lexeme). l ∷ u) (sym (append_assoc rest b h.2)))

pub agree_front : (y rest : List Lexeme) → Agrees (y ++ rest) y
agree_front y rest = inl (rest, refl)

same_next : (l : Lexeme) (w b c e : List Lexeme) → b ≡ l ∷ w → c ≡ b ++ e → next c ≡ next b
same_next l w b c e p q = ap next q ∙ ap (λ (u : List Lexeme). next (u ++ e)) p ∙ sym (ap next p)

ends_again : (f : Form) (b c : List Lexeme) → Agrees b c → first f (next b) ≡ false → first f (next c) ≡ false
ends_again f b [] (inl h) s = end_begins f
ends_again f b (l ∷ c) (inl h) s = subst (λ (u : List Lexeme). first f (next u) ≡ false) h.1 s
ends_again f b c (inr h) s = subst (λ (q : Terminal). first f q ≡ false) (sym (same_next h.0 h.1 b c h.2 h.3 h.4)) s

absent_again : (f : Form) (b c : List Lexeme) → Agrees b c → absent f (next b) ≡ true → absent f (next c) ≡ true
absent_again f b [] (inl h) s = end_absent f
absent_again f b (l ∷ c) (inl h) s = subst (λ (u : List Lexeme). absent f (next u) ≡ true) h.1 s
absent_again f b c (inr h) s = subst (λ (q : Terminal). absent f q ≡ true) (sym (same_next h.0 h.1 b c h.2 h.3 h.4)) s

-- what was told of a whole with something after it stays told
allowed_again : (n : ℕ) {f : Form} (p : Production f) (vs : Trees (symbols p)) (terminal : Terminal) (x b c : List Lexeme) → Agrees b c → next (x ++ b) ≡ terminal → DerivesSymbols (Derives n) (symbols p) vs x b → allowed p terminal (seen (scan f) (x ++ b)) ≡ true → allowed p terminal (seen (scan f) (x ++ c)) ≡ true
allowed_again n {f} p vs terminal x b c (inl h) head d s =
    allowed_cut p terminal (scan f) (x ++ c) h.0 (subst (λ (u : List Lexeme). allowed p terminal (seen (scan f) u) ≡ true) (ap (λ (u : List Lexeme). x ++ u) h.1 ∙ sym (append_assoc x c h.0)) s)
allowed_again n {f} p vs terminal x b c (inr h) head d s =
    let may : allowed p (next (x ++ b)) (seen (scan f) (x ++ b)) ≡ true = subst (λ (q : Terminal). allowed p q (seen (scan f) (x ++ b)) ≡ true) (sym head) s in
    let told : is_final (seen (scan f) (x ++ b)) ≡ true = subst (λ (u : List Lexeme). is_final (seen (scan f) (x ++ u)) ≡ true) (sym h.3) (firm n p vs x h.0 h.1 (subst (λ (u : List Lexeme). DerivesSymbols (Derives n) (symbols p) vs x u) h.3 d) (subst (λ (u : List Lexeme). allowed p (next (x ++ u)) (seen (scan f) (x ++ u)) ≡ true) h.3 may)) in
    let same : seen (scan f) (x ++ c) ≡ seen (scan f) (x ++ b) = ap (λ (u : List Lexeme). seen (scan f) u) (ap (λ (u : List Lexeme). x ++ u) h.4 ∙ sym (append_assoc x b h.2)) ∙ seen_more (scan f) (x ++ b) h.2 told in
    subst (λ (q : Seen). allowed p terminal q ≡ true) (sym same) s

module _ (D : Relation) (again : (f : Form) (v : TreeOf f) (x b c : List Lexeme) → Agrees b c → D f v x b → D f v x c) where
  pub sequence_again : (f : Form) (vs : List (TreeOf f)) (x b c : List Lexeme) → Agrees b c → Sequence D f vs x b → Sequence D f vs x c
  sequence_again f [] x b c a h = h
  sequence_again f (v ∷ vs) x b c a h = (h.0, h.1, h.2, again f v h.0 (h.1 ++ b) (h.1 ++ c) (agree_behind h.1 b c a) h.3, sequence_again f vs h.1 b c a h.4)

  pub symbol_again : (s : Symbol) (v : SymbolTree s) (x b c : List Lexeme) → Agrees b c → DerivesSymbol D s v x b → DerivesSymbol D s v x c
  symbol_again (token take terminal) v x b c a h = h
  symbol_again (phrase f) v x b c a h = again f v x b c a h
  symbol_again (repeated f) v x b c a h = (sequence_again f v x b c a h.0, ends_again f b c a h.1)
  symbol_again (optional f) None x b c a h = (h.0, absent_again f b c a h.1)
  symbol_again (optional f) (Some v) x b c a h = again f v x b c a h

  pub symbols_again : (ss : List Symbol) (vs : Trees ss) (x b c : List Lexeme) → Agrees b c → DerivesSymbols D ss vs x b → DerivesSymbols D ss vs x c
  symbols_again [] vs x b c a h = h
  symbols_again (s ∷ ss) vs x b c a h = (h.0, h.1, h.2, symbol_again s vs.0 h.0 (h.1 ++ b) (h.1 ++ c) (agree_behind h.1 b c a) h.3, symbols_again ss vs.1 h.1 b c a h.4)

pub derives_again : (n : ℕ) (f : Form) (v : TreeOf f) (x b c : List Lexeme) → Agrees b c → Derives n f v x b → Derives n f v x c
derives_again zero f v x b c a h = absurd h
derives_again (suc n) f v x b c a h =
    let p = first_symbol (Derives n) (leads n) (symbols h.0) h.1 x b (led h.0) h.4 in
    let head : next (x ++ b) ≡ next (x ++ c) = ap (λ (u : List Lexeme). next (u ++ b)) p.2 ∙ sym (ap (λ (u : List Lexeme). next (u ++ c)) p.2) in
    let old : allowed h.0 (next (x ++ c)) (seen (scan f) (x ++ b)) ≡ true = subst (λ (q : Terminal). allowed h.0 q (seen (scan f) (x ++ b)) ≡ true) head h.3 in
    (h.0, h.1, h.2, allowed_again n h.0 h.1 (next (x ++ c)) x b c a head h.4 old, symbols_again (Derives n) (derives_again n) (symbols h.0) h.1 x b c a h.4)

-- ---- where reading stops

-- reading stopped before the last n lexemes, and those before are so
abbrev pub Broke : (List Lexeme → Type 0) → List Lexeme → ℕ → Type 0
Broke B a n = (y : List Lexeme) × (rest : List Lexeme) × (a ≡ y ++ rest) × (length rest ≡ n) × B y

pub then_err : {A B : Type 0} (o : Outcome A) (f : A → Reader B) (e : Stop) → and_then o f ≡ Err e → (o ≡ Err e) ⊎ ((v : A) × (b : List Lexeme) × (o ≡ Ok (v, b)) × (f v b ≡ Err e))
then_err (Ok p) f e h = inr (p.0, p.1, refl, h)
then_err (Err x) f e h = inl (cc h)

abbrev stopped : {A : Type 0} → ℕ → Outcome A
stopped n = Err (Unexpected n)

pub stop_is : {A : Type 0} (m n : ℕ) → stopped {A = A} m ≡ stopped n → m ≡ n
stop_is m n e = cc

module _ (inner : (f : Form) → Reader (TreeOf f)) (D : Relation) (B : Form → List Lexeme → Type 0) (lead : (f : Form) (v : TreeOf f) (x after : List Lexeme) → D f v x after → Leads f x) (sound : (f : Form) (v : TreeOf f) (a b : List Lexeme) → inner f a ≡ Ok (v, b) → Took (D f) a v b) (again : (f : Form) (v : TreeOf f) (x b c : List Lexeme) → Agrees b c → D f v x b → D f v x c) (bare : (f : Form) → B f []) (broke : (f : Form) (a : List Lexeme) (n : ℕ) → inner f a ≡ Err (Unexpected n) → Broke (B f) a n) where
  token_broke : (take : Take) (terminal : Terminal) (a : List Lexeme) (n : ℕ) → read_token take terminal a ≡ Err (Unexpected n) → Broke (BeginsSymbol D B (token take terminal)) a n
  unfolding read_token
  token_broke take terminal [] n e = ([], [], refl, stop_is 0 n e, refl)
  token_broke take terminal (l ∷ a) n e =
      elim (which (matches terminal (class_of l)) (Ok (taken take l, a)) (Err (Unexpected (length (l ∷ a)))) (Err (Unexpected n)) e) [
        | inl h ↦ absurd (cc h.1)
        | inr h ↦ ([], l ∷ a, refl, stop_is (length (l ∷ a)) n h.1, refl)
      ]

  repeated_broke : (turns : ℕ) (f : Form) (a : List Lexeme) (n : ℕ) → read_repeated inner turns f a ≡ Err (Unexpected n) → Broke (BeginsSymbol D B (repeated f)) a n
  unfolding read_repeated
  repeated_broke zero f a n e = absurd cc
  repeated_broke (suc turns) f a n e =
      elim (which (first f (next a)) (and_then (inner f a) (λ v us. and_then (read_repeated inner turns f us) (λ vs ws. Ok (v ∷ vs, ws)))) (Ok ([], a)) (Err (Unexpected n)) e) [
        | inr h ↦ absurd (cc h.1)
        | inl h ↦ elim (then_err (inner f a) (λ v us. and_then (read_repeated inner turns f us) (λ vs ws. Ok (v ∷ vs, ws))) (Unexpected n) h.1) [
          | inl g ↦ (let b = broke f a n g in (b.0, b.1, b.2, b.3, ([], [], b.0, refl, refl, b.4)))
          | inr s ↦ elim (then_err (read_repeated inner turns f s.1) (λ vs ws. Ok (s.0 ∷ vs, ws)) (Unexpected n) s.3) [
            | inr g ↦ absurd (cc g.3)
            | inl g ↦
                let d = sound f s.0 a s.1 s.2 in
                let b = repeated_broke turns f s.1 n g in
                let m = b.4 in
                let front : Agrees s.1 (m.1 ++ m.2) = subst (λ (u : List Lexeme). Agrees u (m.1 ++ m.2)) (sym (b.2 ∙ ap (λ (u : List Lexeme). u ++ b.1) m.3)) (agree_front (m.1 ++ m.2) b.1) in (
                  d.0 ++ b.0,
                  b.1,
                  d.1 ∙ ap (λ (u : List Lexeme). d.0 ++ u) b.2 ∙ sym (append_assoc d.0 b.0 b.1),
                  b.3,
                  (
                    s.0 ∷ m.0,
                    d.0 ++ m.1,
                    m.2,
                    ap (λ (u : List Lexeme). d.0 ++ u) m.3 ∙ sym (append_assoc d.0 m.1 m.2),
                    (d.0, m.1, refl, again f s.0 d.0 s.1 (m.1 ++ m.2) front d.2, m.4),
                    m.5,
                  ),
                )
          ]
        ]
      ]

  optional_broke : (f : Form) (a : List Lexeme) (n : ℕ) → read_optional inner f a ≡ Err (Unexpected n) → Broke (B f) a n
  unfolding read_optional
  optional_broke f a n e =
      elim (which (first f (next a)) (and_then (inner f a) (λ v us. Ok (Some v, us))) (cond (absent f (next a)) (Ok (None, a)) (Err (Unexpected (length a)))) (Err (Unexpected n)) e) [
        | inl h ↦ elim (then_err (inner f a) (λ v us. Ok (Some v, us)) (Unexpected n) h.1) [
          | inl g ↦ (let b = broke f a n g in (b.0, b.1, b.2, b.3, b.4))
          | inr s ↦ absurd (cc s.3)
        ]
        | inr h ↦ elim (which (absent f (next a)) (Ok (None, a)) (Err (Unexpected (length a))) (Err (Unexpected n)) h.1) [
          | inl g ↦ absurd (cc g.1)
          | inr g ↦ ([], a, refl, stop_is (length a) n g.1, bare f)
        ]
      ]

  symbol_broke : (s : Symbol) (a : List Lexeme) (n : ℕ) → read_symbol inner s a ≡ Err (Unexpected n) → Broke (BeginsSymbol D B s) a n
  symbol_broke (token take terminal) a n e = token_broke take terminal a n e
  symbol_broke (phrase f) a n e = broke f a n e
  symbol_broke (repeated f) a n e = repeated_broke (length a) f a n e
  symbol_broke (optional f) a n e = optional_broke f a n e

  pub symbols_broke : (ss : List Symbol) (a : List Lexeme) (n : ℕ) → read_symbols inner ss a ≡ Err (Unexpected n) → Broke (BeginsSymbols D B ss) a n
  symbols_broke [] a n e = absurd cc
  symbols_broke (s ∷ ss) a n e =
      elim (then_err (read_symbol inner s a) (λ v us. and_then (read_symbols inner ss us) (λ vs ws. Ok ((v, vs), ws))) (Unexpected n) e) [
        | inl g ↦ (let b = symbol_broke s a n g in (b.0, b.1, b.2, b.3, inl b.4))
        | inr r ↦ elim (then_err (read_symbols inner ss r.1) (λ vs ws. Ok ((r.0, vs), ws)) (Unexpected n) r.3) [
          | inr g ↦ absurd (cc g.3)
          | inl g ↦
              let d = symbol_sound inner D lead sound s r.0 a r.1 r.2 in
              let b = symbols_broke ss r.1 n g in
              let front : Agrees r.1 b.0 = subst (λ (u : List Lexeme). Agrees u b.0) (sym b.2) (agree_front b.0 b.1) in (
                d.0 ++ b.0,
                b.1,
                d.1 ∙ ap (λ (u : List Lexeme). d.0 ++ u) b.2 ∙ sym (append_assoc d.0 b.0 b.1),
                b.3,
                inr (r.0, d.0, b.0, refl, symbol_again D again s r.0 d.0 r.1 b.0 front d.2, b.4),
              )
        ]
      ]

pub bare : (n : ℕ) (f : Form) → Begins n f []
bare zero f = refl
bare (suc n) f = inl refl

begins_by : (n : ℕ) (f : Form) (p : Production f) (y rest : List Lexeme) → fits p (next (y ++ rest)) (seen (scan f) (y ++ rest)) ≡ true → BeginsSymbols (Derives n) (Begins n) (symbols p) y → Begins (suc n) f y
begins_by n f p [] rest s h = inl refl
begins_by n f p (l ∷ y) rest s h = inr (p, fits_cut p (class_of l) (scan f) (l ∷ y) rest s, h)

pub form_broke : (m : ℕ) (f : Form) (a : List Lexeme) (n : ℕ) → read_form m f a ≡ Err (Unexpected n) → Broke (Begins m f) a n
unfolding read_form
form_broke zero f a n e = absurd cc
form_broke (suc m) f a n e =
    let p = choice f (next a) (seen (scan f) a) in
    elim (then_err (read_symbols (read_form m) (symbols p) a) (λ vs ws. Ok (built p vs, ws)) (Unexpected n) e) [
      | inr s ↦ absurd (cc s.3)
      | inl g ↦
          let b = symbols_broke (read_form m) (Derives m) (Begins m) (leads m) (form_sound m) (derives_again m) (bare m) (form_broke m) (symbols p) a n g in
          (b.0, b.1, b.2, b.3, begins_by m f p b.0 b.1 (subst (λ (u : List Lexeme). fits p (next u) (seen (scan f) u) ≡ true) b.2 (chosen_fits f (next a) (seen (scan f) a))) b.4)
    ]
