-- Reading with enough levels never nests too deep.
use Rattle.std.proofs.Common.{◌≡◌, ℕ, zero, suc, ◌+◌, ◌*◌, ◌<◌, ◌≤◌, true, false, cond, List, [], ◌∷◌, length, Option, Some, None, Ok, Err, refl, ap, subst, arith, inl, inr}
use Rattle.std.proofs.lemmas.List.{length-append}
use Rattle.pl_grammar.specs.declared.terminal.Terminal.{Terminal}
use Rattle.pl_grammar.specs.declared.stop.Stop.{Stop}
use Rattle.pl_grammar.specs.declared.stop.Stop.TheVariants.{Unexpected, TooDeep}
use Rattle.pl_grammar.specs.Lexeme.{Lexeme, Take, Taken, taken, matches, class_of, next}
use Rattle.pl_grammar.specs.Ahead.{seen}
use Rattle.pl_grammar.specs.Grammar.{Form, TreeOf, Symbol, token, phrase, repeated, optional, SymbolTree, symbols, built}
use Rattle.pl_grammar.specs.Firsts.{first, absent, scan}
use Rattle.pl_grammar.specs.Reading.{Outcome, Reader, and_then, choice, read_token, read_repeated, read_optional, read_symbol, read_symbols, read_form}
use Rattle.pl_grammar_laws.proofs.Certificates.{is_led, led}
use Rattle.pl_grammar_laws.proofs.Ranks.{rank, IsLow, ranked, rank_below}
use Rattle.pl_grammar_laws.proofs.Sound.{leads, form_sound, which, ok_is}
use Rattle.pl_grammar_laws.proofs.Reach.{Reaches, form_within, symbol_within}

abbrev pub IsShallow : {A : Type 0} → Outcome A → Type 0
IsShallow o = o ≡ Err TooDeep → ⊥

abbrev failure : {A : Type 0} → Stop → Outcome A
failure e = Err e

err_is : {A : Type 0} (d e : Stop) → failure {A = A} d ≡ failure e → d ≡ e
err_is d e h = cc

pub shallow_then : {A B : Type 0} (o : Outcome A) (f : A → Reader B) → IsShallow o → ((v : A) (b : List Lexeme) → o ≡ Ok (v, b) → IsShallow (f v b)) → IsShallow (and_then o f)
shallow_then (Ok p) f s g = g p.0 p.1 refl
shallow_then {A} {B} (Err e) f s g = λ h. s (ap (λ (x : Stop). failure {A = A} x) (err_is {A = B} e TooDeep h))

module _ (inner : (f : Form) → Reader (TreeOf f)) (inside : (f : Form) (a : List Lexeme) → Reaches (length a) (inner f a)) (limit : ℕ) (small : (f : Form) (b : List Lexeme) → length b < limit → IsShallow (inner f b)) where
  repeated_shallow : (n : ℕ) (f : Form) (b : List Lexeme) → length b < limit → IsShallow (read_repeated inner n f b)
  unfolding read_repeated
  repeated_shallow zero f b lt = λ h. cc
  repeated_shallow (suc n) f b lt =
      elim (first f (next b)) as (λ s. IsShallow (cond s (and_then (inner f b) (λ v us. and_then (read_repeated inner n f us) (λ vs ws. Ok (v ∷ vs, ws)))) (Ok ([], b)))) [
        | true ↦ shallow_then (inner f b) (λ v us. and_then (read_repeated inner n f us) (λ vs ws. Ok (v ∷ vs, ws))) (small f b lt)
            (λ v c is. (let le : length c ≤ length b = subst (λ (o : Outcome (TreeOf f)). Reaches (length b) o) is (inside f b) in
            shallow_then (read_repeated inner n f c) (λ vs ws. Ok (v ∷ vs, ws)) (repeated_shallow n f c (omega arith)) (λ vs d e h. cc)))
        | false ↦ λ h. cc
      ]

  token_shallow : (take : Take) (terminal : Terminal) (a : List Lexeme) → IsShallow (read_token take terminal a)
  unfolding read_token
  token_shallow take terminal [] = λ h. cc
  token_shallow take terminal (l ∷ a) = elim (matches terminal (class_of l)) as (λ s. IsShallow (cond s (Ok (taken take l, a)) (Err (Unexpected (length (l ∷ a)))))) [ true ↦ λ h. cc | false ↦ λ h. cc ]

  optional_shallow : (f : Form) (b : List Lexeme) → length b < limit → IsShallow (read_optional inner f b)
  unfolding read_optional
  optional_shallow f b lt =
      elim (first f (next b)) as (λ s. IsShallow (cond s (and_then (inner f b) (λ v us. Ok (Some v, us))) (cond (absent f (next b)) (Ok (None, b)) (Err (Unexpected (length b)))))) [
        | true ↦ shallow_then (inner f b) (λ v us. Ok (Some v, us)) (small f b lt) (λ v c e h. cc)
        | false ↦ elim (absent f (next b)) as (λ l. IsShallow {A = Option (TreeOf f)} (cond l (Ok (None, b)) (Err (Unexpected (length b))))) [ true ↦ λ h. cc | false ↦ λ h. cc ]
      ]

  symbol_shallow : (s : Symbol) (b : List Lexeme) → length b < limit → IsShallow (read_symbol inner s b)
  symbol_shallow (token take terminal) b lt = token_shallow take terminal b
  symbol_shallow (phrase f) b lt = small f b lt
  symbol_shallow (repeated f) b lt = repeated_shallow (length b) f b lt
  symbol_shallow (optional f) b lt = optional_shallow f b lt

  symbols_shallow : (ss : List Symbol) (b : List Lexeme) → length b < limit → IsShallow (read_symbols inner ss b)
  symbols_shallow [] b lt = λ h. cc
  symbols_shallow (s ∷ ss) b lt =
      shallow_then (read_symbol inner s b) (λ v us. and_then (read_symbols inner ss us) (λ vs ws. Ok ((v, vs), ws))) (symbol_shallow s b lt)
      (λ v c is. (let le : length c ≤ length b = subst (λ (o : Outcome (SymbolTree s)). Reaches (length b) o) is (symbol_within inner inside s b) in
      shallow_then (read_symbols inner ss c) (λ vs ws. Ok ((v, vs), ws)) (symbols_shallow ss c (omega arith)) (λ vs d e h. cc)))

  -- after a first symbol that takes something
  after_first : (s : Symbol) (ss : List Symbol) (a : List Lexeme) → IsShallow (read_symbol inner s a) → ((v : SymbolTree s) (b : List Lexeme) → read_symbol inner s a ≡ Ok (v, b) → length b < limit) → IsShallow (read_symbols inner (s ∷ ss) a)
  after_first s ss a h less =
      shallow_then (read_symbol inner s a) (λ v us. and_then (read_symbols inner ss us) (λ vs ws. Ok ((v, vs), ws))) h
      (λ v c is. shallow_then (read_symbols inner ss c) (λ vs ws. Ok ((v, vs), ws)) (symbols_shallow ss c (less v c is)) (λ vs d e h. cc))

token_less : (take : Take) (terminal : Terminal) (a : List Lexeme) (v : Taken take) (b : List Lexeme) → read_token take terminal a ≡ Ok (v, b) → length b < length a
unfolding read_token
token_less take terminal [] v b e = absurd cc
token_less take terminal (l ∷ a) v b e =
    elim (which (matches terminal (class_of l)) (Ok (taken take l, a)) (Err (Unexpected (length (l ∷ a)))) (Ok (v, b)) e) [
      | inl h ↦ (let p = ok_is (taken take l, a) (v, b) h.1 in let q : a ≡ b = ap (λ (x : Taken take × List Lexeme). x.1) p in omega (arith, ap length q))
      | inr h ↦ absurd (cc h.1)
    ]

form_less : (m : ℕ) (f : Form) (a : List Lexeme) (v : TreeOf f) (b : List Lexeme) → read_form m f a ≡ Ok (v, b) → length b < length a
form_less m f a v b e =
    let s = form_sound m f v a b e in
    let l = leads m f v s.0 b s.2 in
    omega (arith, ap length s.1, length-append s.0 b, ap length l.2)

production_shallow : (m : ℕ) (n : ℕ) (ss : List Symbol) (a : List Lexeme) → is_led ss ≡ true → IsLow n ss → ((f : Form) (b : List Lexeme) → length b < length a → IsShallow (read_form m f b)) → ((f : Form) → rank f < n → IsShallow (read_form m f a)) → IsShallow (read_symbols (read_form m) ss a)
production_shallow m n [] a l low small here = absurd cc
production_shallow m n (token take w ∷ ss) a l low small here = after_first (read_form m) (form_within m) (length a) small (token take w) ss a (token_shallow (read_form m) (form_within m) (length a) small take w a) (λ v b e. token_less take w a v b e)
production_shallow m n (phrase f ∷ ss) a l low small here = after_first (read_form m) (form_within m) (length a) small (phrase f) ss a (here f low) (λ v b e. form_less m f a v b e)
production_shallow m n (repeated f ∷ ss) a l low small here = absurd cc
production_shallow m n (optional f ∷ ss) a l low small here = absurd cc

pub form_shallow : (m : ℕ) (f : Form) (a : List Lexeme) → 32 * length a + rank f < m → IsShallow (read_form m f a)
unfolding read_form
form_shallow zero f a lt = absurd (omega arith)
form_shallow (suc m) f a lt =
    let p = choice f (next a) (seen (scan f) a) in
    shallow_then (read_symbols (read_form m) (symbols p) a) (λ vs ws. Ok (built p vs, ws))
    (production_shallow m (rank f) (symbols p) a (led p) (ranked p)
    (λ g b less. form_shallow m g b (omega (arith, rank_below g)))
    (λ g low. form_shallow m g a (omega arith)))
    (λ vs d e h. cc)
