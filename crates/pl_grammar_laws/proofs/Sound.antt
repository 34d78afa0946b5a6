-- What is read is derived.
use Rattle.std.proofs.Common.{◌≡◌, ℕ, zero, suc, ◌+◌, ◌≤◌, Bool, true, false, cond, List, [], ◌∷◌, ◌++◌, length, Option, Some, None, Result, Ok, Err, refl, sym, ap, subst, ◌∙◌, append_assoc, arith, inl, inr, ◌⊎◌}
use Rattle.std.proofs.lemmas.List.{length-append}
use Rattle.pl_grammar.specs.declared.terminal.Terminal.{Terminal}
use Rattle.pl_grammar.specs.declared.stop.Stop.{Stop}
use Rattle.pl_grammar.specs.declared.stop.Stop.TheVariants.{Unexpected}
use Rattle.pl_grammar.specs.Lexeme.{Lexeme, Take, Taken, taken, matches, class_of, next}
use Rattle.pl_grammar.specs.Ahead.{seen}
use Rattle.pl_grammar.specs.Grammar.{Form, TreeOf, Symbol, token, phrase, repeated, optional, SymbolTree, Trees, symbols, built}
use Rattle.pl_grammar.specs.Firsts.{first, absent, scan, allowed}
use Rattle.pl_grammar.specs.Reading.{Outcome, Reader, and_then, choice, read_token, read_repeated, read_optional, read_symbol, read_symbols, read_form}
use Rattle.pl_grammar.specs.Derives.{DerivesSymbol, DerivesSymbols, Derives}
use Rattle.pl_grammar_laws.proofs.Certificates.{heads, is_led, led, begun}
use Rattle.pl_grammar_laws.proofs.Fitting.{chosen_fits, end_begins}
use Rattle.pl_grammar_laws.proofs.LookAhead.{fits_allowed}

abbrev pub Relation : Type 1
Relation = (f : Form) → TreeOf f → List Lexeme → List Lexeme → Type 0

-- ---- outcomes

abbrev success : {A : Type 0} → A → Result A Stop
success a = Ok a

pub ok_is : {A : Type 0} (a b : A) → success a ≡ success b → a ≡ b
ok_is a b e = cc

pub then_ok : {A B : Type 0} (o : Outcome A) (f : A → Reader B) (w : B) (c : List Lexeme) → and_then o f ≡ Ok (w, c) → (v : A) × (b : List Lexeme) × (o ≡ Ok (v, b)) × (f v b ≡ Ok (w, c))
then_ok (Ok p) f w c e = (p.0, p.1, refl, e)
then_ok (Err x) f w c e = absurd cc

pub which : {A : Type 0} (b : Bool) (x y z : A) → cond b x y ≡ z → ((b ≡ true) × (x ≡ z)) ⊎ ((b ≡ false) × (y ≡ z))
which true x y z e = inl (refl, e)
which false x y z e = inr (refl, e)

-- ---- a phrase begins with a token of its form

abbrev pub Leads : Form → List Lexeme → Type 0
Leads f x = (l : Lexeme) × (rest : List Lexeme) × (x ≡ l ∷ rest) × (first f (class_of l) ≡ true)

pub first_symbol : (D : Relation) → ((f : Form) (v : TreeOf f) (x after : List Lexeme) → D f v x after → Leads f x)
    → (ss : List Symbol) (vs : Trees ss) (x after : List Lexeme) → is_led ss ≡ true → DerivesSymbols D ss vs x after
    → (l : Lexeme) × (rest : List Lexeme) × (x ≡ l ∷ rest) × (heads ss (class_of l) ≡ true)
first_symbol D lead [] vs x after e h = absurd cc
first_symbol D lead (token take w ∷ ss) vs x after e h =
    (h.3.0, h.1, h.2 ∙ ap (λ (u : List Lexeme). u ++ h.1) h.3.1, h.3.2)
first_symbol D lead (phrase f ∷ ss) vs x after e h =
    let a = lead f vs.0 h.0 (h.1 ++ after) h.3 in
    (a.0, a.1 ++ h.1, h.2 ∙ ap (λ (u : List Lexeme). u ++ h.1) a.2, a.3)
first_symbol D lead (repeated f ∷ ss) vs x after e h = absurd cc
first_symbol D lead (optional f ∷ ss) vs x after e h = absurd cc

pub leads : (n : ℕ) (f : Form) (v : TreeOf f) (x after : List Lexeme) → Derives n f v x after → Leads f x
leads zero f v x after h = absurd h
leads (suc n) f v x after h =
    let a = first_symbol (Derives n) (leads n) (symbols h.0) h.1 x after (led h.0) h.4 in
    (a.0, a.1, a.2, begun h.0 (class_of a.0) a.3)

-- ---- what is read is derived

-- v was taken from the front of a, and b is left
abbrev pub Took : {A : Type 0} → (A → List Lexeme → List Lexeme → Type 0) → List Lexeme → A → List Lexeme → Type 0
Took P a v b = (x : List Lexeme) × (a ≡ x ++ b) × P v x b

module _ (inner : (f : Form) → Reader (TreeOf f)) (D : Relation) (lead : (f : Form) (v : TreeOf f) (x after : List Lexeme) → D f v x after → Leads f x) (sound : (f : Form) (v : TreeOf f) (a b : List Lexeme) → inner f a ≡ Ok (v, b) → Took (D f) a v b) where
  repeated_sound : (n : ℕ) (f : Form) (vs : List (TreeOf f)) (a b : List Lexeme) → length a ≤ n → read_repeated inner n f a ≡ Ok (vs, b) → Took (DerivesSymbol D (repeated f)) a vs b
  unfolding read_repeated
  repeated_sound zero f vs [] b le e =
      subst (λ (q : List (TreeOf f) × List Lexeme). Took (DerivesSymbol D (repeated f)) [] q.0 q.1) (ok_is ([], []) (vs, b) e) ([], refl, (refl, end_begins f))
  repeated_sound zero f vs (l ∷ a) b le e = absurd (omega arith)
  repeated_sound (suc n) f vs a b le e =
      elim (which (first f (next a)) (and_then (inner f a) (λ v us. and_then (read_repeated inner n f us) (λ vs ws. Ok (v ∷ vs, ws)))) (Ok ([], a)) (Ok (vs, b)) e) [
        | inl h ↦
            let one = then_ok (inner f a) (λ v us. and_then (read_repeated inner n f us) (λ vs ws. Ok (v ∷ vs, ws))) vs b h.1 in
            let more = then_ok (read_repeated inner n f one.1) (λ vs ws. Ok (one.0 ∷ vs, ws)) vs b one.3 in
            let d = sound f one.0 a one.1 one.2 in
            let begins = lead f one.0 d.0 one.1 d.2 in
            let whole : length a ≡ length d.0 + length one.1 = ap length d.1 ∙ length-append d.0 one.1 in
            let some : length d.0 ≡ suc (length begins.1) = ap length begins.2 in
            let ds = repeated_sound n f more.0 one.1 more.1 (omega arith) more.2 in
            subst (λ (q : List (TreeOf f) × List Lexeme). Took (DerivesSymbol D (repeated f)) a q.0 q.1) (ok_is (one.0 ∷ more.0, more.1) (vs, b) more.3) (
              d.0 ++ ds.0,
              d.1 ∙ ap (λ (u : List Lexeme). d.0 ++ u) ds.1 ∙ sym (append_assoc d.0 ds.0 more.1),
              ((d.0, ds.0, refl, subst (λ (u : List Lexeme). D f one.0 d.0 u) ds.1 d.2, ds.2.0), ds.2.1),
            )
        | inr h ↦ subst (λ (q : List (TreeOf f) × List Lexeme). Took (DerivesSymbol D (repeated f)) a q.0 q.1) (ok_is ([], a) (vs, b) h.1) ([], refl, (refl, h.0))
      ]

  token_sound : (take : Take) (terminal : Terminal) (v : Taken take) (a b : List Lexeme) → read_token take terminal a ≡ Ok (v, b) → Took (DerivesSymbol D (token take terminal)) a v b
  unfolding read_token
  token_sound take terminal v [] b e = absurd cc
  token_sound take terminal v (l ∷ a) b e =
      elim (which (matches terminal (class_of l)) (Ok (taken take l, a)) (Err (Unexpected (length (l ∷ a)))) (Ok (v, b)) e) [
        | inl h ↦ subst (λ (q : Taken take × List Lexeme). Took (DerivesSymbol D (token take terminal)) (l ∷ a) q.0 q.1) (ok_is (taken take l, a) (v, b) h.1) (l ∷ [], refl, (l, refl, h.0, refl))
        | inr h ↦ absurd (cc h.1)
      ]

  optional_sound : (f : Form) (v : Option (TreeOf f)) (a b : List Lexeme) → read_optional inner f a ≡ Ok (v, b) → Took (DerivesSymbol D (optional f)) a v b
  unfolding read_optional
  optional_sound f v a b e =
      elim (which (first f (next a)) (and_then (inner f a) (λ v us. Ok (Some v, us))) (cond (absent f (next a)) (Ok (None, a)) (Err (Unexpected (length a)))) (Ok (v, b)) e) [
        | inl h ↦
            let s = then_ok (inner f a) (λ v us. Ok (Some v, us)) v b h.1 in
            subst (λ (q : Option (TreeOf f) × List Lexeme). Took (DerivesSymbol D (optional f)) a q.0 q.1) (ok_is (Some s.0, s.1) (v, b) s.3) (sound f s.0 a s.1 s.2)
        | inr h ↦
            elim (which (absent f (next a)) (Ok (None, a)) (Err (Unexpected (length a))) (Ok (v, b)) h.1) [
              | inl g ↦ subst (λ (q : Option (TreeOf f) × List Lexeme). Took (DerivesSymbol D (optional f)) a q.0 q.1) (ok_is (None, a) (v, b) g.1) ([], refl, (refl, g.0))
              | inr g ↦ absurd (cc g.1)
            ]
      ]

  pub symbol_sound : (s : Symbol) (v : SymbolTree s) (a b : List Lexeme) → read_symbol inner s a ≡ Ok (v, b) → Took (DerivesSymbol D s) a v b
  symbol_sound (token take terminal) v a b e = token_sound take terminal v a b e
  symbol_sound (phrase f) v a b e = sound f v a b e
  symbol_sound (repeated f) v a b e = repeated_sound (length a) f v a b (omega arith) e
  symbol_sound (optional f) v a b e = optional_sound f v a b e

  pub symbols_sound : (ss : List Symbol) (vs : Trees ss) (a b : List Lexeme) → read_symbols inner ss a ≡ Ok (vs, b) → Took (DerivesSymbols D ss) a vs b
  symbols_sound [] vs a b e = subst (λ (q : Trees [] × List Lexeme). Took (DerivesSymbols D []) a q.0 q.1) (ok_is (tt, a) (vs, b) e) ([], refl, refl)
  symbols_sound (s ∷ ss) vs a b e =
      let one = then_ok (read_symbol inner s a) (λ v us. and_then (read_symbols inner ss us) (λ vs ws. Ok ((v, vs), ws))) vs b e in
      let more = then_ok (read_symbols inner ss one.1) (λ vs ws. Ok ((one.0, vs), ws)) vs b one.3 in
      let d = symbol_sound s one.0 a one.1 one.2 in
      let ds = symbols_sound ss more.0 one.1 more.1 more.2 in
      subst (λ (q : Trees (s ∷ ss) × List Lexeme). Took (DerivesSymbols D (s ∷ ss)) a q.0 q.1) (ok_is ((one.0, more.0), more.1) (vs, b) more.3) (
        d.0 ++ ds.0,
        d.1 ∙ ap (λ (u : List Lexeme). d.0 ++ u) ds.1 ∙ sym (append_assoc d.0 ds.0 more.1),
        (d.0, ds.0, refl, subst (λ (u : List Lexeme). DerivesSymbol D s one.0 d.0 u) ds.1 d.2, ds.2),
      )

pub form_sound : (n : ℕ) (f : Form) (v : TreeOf f) (a b : List Lexeme) → read_form n f a ≡ Ok (v, b) → Took (Derives n f) a v b
unfolding read_form
form_sound zero f v a b e = absurd cc
form_sound (suc n) f v a b e =
    let p = choice f (next a) (seen (scan f) a) in
    let s = then_ok (read_symbols (read_form n) (symbols p) a) (λ vs ws. Ok (built p vs, ws)) v b e in
    let d = symbols_sound (read_form n) (Derives n) (leads n) (form_sound n) (symbols p) s.0 a s.1 s.2 in
    let may : allowed p (next a) (seen (scan f) a) ≡ true = fits_allowed p (next a) (seen (scan f) a) (chosen_fits f (next a) (seen (scan f) a)) in
    subst (λ (q : TreeOf f × List Lexeme). Took (Derives (suc n) f) a q.0 q.1) (ok_is (built p s.0, s.1) (v, b) s.3)
    (d.0, d.1, (p, s.0, refl, subst (λ (z : List Lexeme). allowed p (next z) (seen (scan f) z) ≡ true) d.1 may, d.2))
