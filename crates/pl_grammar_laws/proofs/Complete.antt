-- What is derived is read, unless it nests too deep.
use Rattle.std.proofs.Common.{◌≡◌, ℕ, zero, suc, ◌≤◌, Bool, true, false, cond, List, [], ◌∷◌, ◌++◌, length, Option, Some, None, Ok, Err, refl, sym, ap, subst, ◌∙◌, append_assoc, arith, inl, inr, ◌⊎◌}
use Rattle.std.proofs.lemmas.List.{length-append}
use Rattle.pl_grammar.specs.declared.terminal.Terminal.{Terminal}
use Rattle.pl_grammar.specs.declared.stop.Stop.TheVariants.{Unexpected, TooDeep}
use Rattle.pl_grammar.specs.Lexeme.{Lexeme, Take, Taken, class_of, next}
use Rattle.pl_grammar.specs.Ahead.{seen}
use Rattle.pl_grammar.specs.Grammar.{Form, TreeOf, Symbol, token, phrase, repeated, optional, SymbolTree, Trees, Production, symbols, built}
use Rattle.pl_grammar.specs.Firsts.{first, absent, scan, allowed}
use Rattle.pl_grammar.specs.Reading.{Outcome, Reader, and_then, choice, read_token, read_repeated, read_optional, read_symbol, read_symbols, read_production, read_form}
use Rattle.pl_grammar.specs.Derives.{Sequence, DerivesSymbol, DerivesSymbols, Derives}
use Rattle.pl_grammar_laws.proofs.Certificates.{heads, is_led, led, chosen}
use Rattle.pl_grammar_laws.proofs.Fitting.{absent_begins}
use Rattle.pl_grammar_laws.proofs.Settled.{sure, fits_of}
use Rattle.pl_grammar_laws.proofs.Sound.{Relation, Leads, leads, first_symbol}

abbrev pub Gets : {A : Type 0} → Outcome A → A → List Lexeme → Type 0
Gets o v b = (o ≡ Ok (v, b)) ⊎ (o ≡ Err TooDeep)

pub gets_then : {A B : Type 0} (o : Outcome A) (f : A → Reader B) (v : A) (b : List Lexeme) (w : B) (c : List Lexeme) → Gets o v b → Gets (f v b) w c → Gets (and_then o f) w c
gets_then o f v b w c (inl e) g = rw e g
gets_then o f v b w c (inr e) g = inr (rw e refl)

module _ (inner : (f : Form) → Reader (TreeOf f)) (D : Relation) (lead : (f : Form) (v : TreeOf f) (x after : List Lexeme) → D f v x after → Leads f x) (full : (f : Form) (v : TreeOf f) (x after : List Lexeme) → D f v x after → Gets (inner f (x ++ after)) v after) where
  repeated_full : (n : ℕ) (f : Form) (vs : List (TreeOf f)) (x after : List Lexeme) → length (x ++ after) ≤ n → Sequence D f vs x after → first f (next after) ≡ false → Gets (read_repeated inner n f (x ++ after)) vs after
  unfolding read_repeated
  repeated_full zero f [] x after le h s = rw h (inl refl)
  repeated_full zero f (v ∷ vs) x after le h s =
      let a = lead f v h.0 (h.1 ++ after) h.3 in
      absurd (omega (arith, length-append x after, ap length h.2, length-append h.0 h.1, ap length a.2))
  repeated_full (suc n) f [] x after le h s = rw h (rw s (inl refl))
  repeated_full (suc n) f (v ∷ vs) x after le h s =
      let a = lead f v h.0 (h.1 ++ after) h.3 in
      let whole : x ++ after ≡ h.0 ++ (h.1 ++ after) = ap (λ (u : List Lexeme). u ++ after) h.2 ∙ append_assoc h.0 h.1 after in
      let goes : first f (next (h.0 ++ (h.1 ++ after))) ≡ true = rw a.2 a.3 in
      let shorter : length (h.1 ++ after) ≤ n = omega (arith, ap length whole, length-append h.0 (h.1 ++ after), ap length a.2) in
      subst (λ (u : List Lexeme). Gets (read_repeated inner (suc n) f u) (v ∷ vs) after) (sym whole)
      (rw goes (gets_then (inner f (h.0 ++ (h.1 ++ after))) (λ v us. and_then (read_repeated inner n f us) (λ vs ws. Ok (v ∷ vs, ws))) v (h.1 ++ after) (v ∷ vs) after
      (full f v h.0 (h.1 ++ after) h.3)
      (gets_then (read_repeated inner n f (h.1 ++ after)) (λ vs ws. Ok (v ∷ vs, ws)) vs after (v ∷ vs) after (repeated_full n f vs h.1 after shorter h.4 s) (inl refl))))

  token_full : (take : Take) (terminal : Terminal) (v : Taken take) (x after : List Lexeme) → DerivesSymbol D (token take terminal) v x after → Gets (read_token take terminal (x ++ after)) v after
  unfolding read_token
  token_full take terminal v x after h = rw (h.1, h.3, h.2) (inl refl)

  optional_full : (f : Form) (v : Option (TreeOf f)) (x after : List Lexeme) → DerivesSymbol D (optional f) v x after → Gets (read_optional inner f (x ++ after)) v after
  unfolding read_optional
  optional_full f None x after h =
      rw h.0 (subst (λ (s : Bool). Gets (cond s (and_then (inner f after) (λ v us. Ok (Some v, us))) (cond (absent f (next after)) (Ok (None, after)) (Err (Unexpected (length after))))) None after) (sym (absent_begins f (next after) h.1))
      (subst (λ (l : Bool). Gets {A = Option (TreeOf f)} (cond l (Ok (None, after)) (Err (Unexpected (length after)))) None after) (sym h.1) (inl refl)))
  optional_full f (Some v) x after h =
      let a = lead f v x after h in
      let goes : first f (next (x ++ after)) ≡ true = rw a.2 a.3 in
      rw goes (gets_then (inner f (x ++ after)) (λ v us. Ok (Some v, us)) v after (Some v) after (full f v x after h) (inl refl))

  pub symbol_full : (s : Symbol) (v : SymbolTree s) (x after : List Lexeme) → DerivesSymbol D s v x after → Gets (read_symbol inner s (x ++ after)) v after
  symbol_full (token take terminal) v x after h = token_full take terminal v x after h
  symbol_full (phrase f) v x after h = full f v x after h
  symbol_full (repeated f) v x after h = repeated_full (length (x ++ after)) f v x after (omega arith) h.0 h.1
  symbol_full (optional f) v x after h = optional_full f v x after h

  pub symbols_full : (ss : List Symbol) (vs : Trees ss) (x after : List Lexeme) → DerivesSymbols D ss vs x after → Gets (read_symbols inner ss (x ++ after)) vs after
  symbols_full [] vs x after h = rw h (inl refl)
  symbols_full (s ∷ ss) vs x after h =
      let whole : x ++ after ≡ h.0 ++ (h.1 ++ after) = ap (λ (u : List Lexeme). u ++ after) h.2 ∙ append_assoc h.0 h.1 after in
      subst (λ (u : List Lexeme). Gets (read_symbols inner (s ∷ ss) u) vs after) (sym whole)
      (gets_then (read_symbol inner s (h.0 ++ (h.1 ++ after))) (λ v us. and_then (read_symbols inner ss us) (λ vs ws. Ok ((v, vs), ws))) vs.0 (h.1 ++ after) vs after
      (symbol_full s vs.0 h.0 (h.1 ++ after) h.3)
      (gets_then (read_symbols inner ss (h.1 ++ after)) (λ ws us. Ok ((vs.0, ws), us)) vs.1 after vs after (symbols_full ss vs.1 h.1 after h.4) (inl refl)))

heads_of : (n : ℕ) (ss : List Symbol) (vs : Trees ss) (x after : List Lexeme) → is_led ss ≡ true → DerivesSymbols (Derives n) ss vs x after → heads ss (next (x ++ after)) ≡ true
heads_of n ss vs x after e h =
    let a = first_symbol (Derives n) (leads n) ss vs x after e h in
    let is : next (x ++ after) ≡ class_of a.0 = ap (λ (u : List Lexeme). next (u ++ after)) a.2 in
    subst (λ (q : Terminal). heads ss q ≡ true) (sym is) a.3

pub chosen_by : (n : ℕ) (f : Form) (p : Production f) (vs : Trees (symbols p)) (x after : List Lexeme) → allowed p (next (x ++ after)) (seen (scan f) (x ++ after)) ≡ true → DerivesSymbols (Derives n) (symbols p) vs x after → choice f (next (x ++ after)) (seen (scan f) (x ++ after)) ≡ p
chosen_by n f p vs x after e h =
    chosen p (next (x ++ after)) (seen (scan f) (x ++ after)) (heads_of n (symbols p) vs x after (led p) h) (fits_of n p vs x after (next (x ++ after)) h e) (sure n p vs x after h)

pub form_full : (m n : ℕ) (f : Form) (v : TreeOf f) (x after : List Lexeme) → Derives n f v x after → Gets (read_form m f (x ++ after)) v after
unfolding read_form
form_full zero n f v x after h = inr refl
form_full (suc m) zero f v x after h = absurd h
form_full (suc m) (suc n) f v x after h =
    subst (λ (p : Production f). Gets (read_production (read_form m) p (x ++ after)) v after) (sym (chosen_by n f h.0 h.1 x after h.3 h.4))
    (rw h.2 (gets_then (read_symbols (read_form m) (symbols h.0) (x ++ after)) (λ vs ws. Ok (built h.0 vs, ws)) h.1 after (built h.0 h.1) after
    (symbols_full (read_form m) (Derives n) (leads n) (form_full m n) (symbols h.0) h.1 x after h.4) (inl refl)))
