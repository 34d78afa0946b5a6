-- The tokens of a text have a reading: reading by the rows is a function that wants no memory.
use Rattle.std.proofs.Common.{◌≡◌, ℕ, zero, suc, true, false, cond, List, [], ◌∷◌, length, Option, Some, None, Result, Ok, Err, refl, ap, arith}
use Rattle.pl_lexer.specs.declared.token.Token.{Token}
use Rattle.pl_types.specs.declared.refusal.Refusal.{Refusal}
use Rattle.pl_tree.specs.declared.tree.Tree.{Tree}
use Rattle.pl_grammar.specs.declared.terminal.Terminal.{Terminal}
use Rattle.pl_grammar.specs.declared.stop.Stop.{Stop}
use Rattle.pl_grammar.specs.declared.stop.Stop.TheVariants.{NoMemory, Unexpected, TooDeep}
use Rattle.pl_grammar.specs.Lexeme.{Lexeme, lexemes, Take, taken, matches, class_of, next}
use Rattle.pl_grammar.specs.Ahead.{seen}
use Rattle.pl_grammar_laws.specs.Laws.{levels_for}
use Rattle.pl_nesting.specs.Nesting.{nesting_fault}
use Rattle.pl_grammar.specs.Grammar.{Form, top, TreeOf, Symbol, token, phrase, repeated, optional, symbols, built}
use Rattle.pl_grammar.specs.Firsts.{first, absent, scan}
use Rattle.pl_grammar.specs.Parses.{Parses, deep_at, syntax_at, place_of}
use Rattle.pl_grammar.specs.Reading.{Outcome, Reader, and_then, choice, at_end, read_token, read_repeated, read_optional, read_symbol, read_symbols, read_form, read_script}
use Rattle.pl_grammar_laws.proofs.Whole.{script_sound, script_shallow, script_stops, stop_refused, deep_refused}

abbrev IsAnswered : {A : Type 0} → Outcome A → Type 0
IsAnswered o = o ≡ Err NoMemory → ⊥

abbrev failure : {A : Type 0} → Stop → Outcome A
failure e = Err e

err_is : {A : Type 0} (d e : Stop) → failure {A = A} d ≡ failure e → d ≡ e
err_is d e h = cc

answered_then : {A B : Type 0} (o : Outcome A) (f : A → Reader B) → IsAnswered o → ((v : A) (b : List Lexeme) → IsAnswered (f v b)) → IsAnswered (and_then o f)
answered_then (Ok p) f s g = g p.0 p.1
answered_then {A} {B} (Err e) f s g = λ h. s (ap (λ (x : Stop). failure {A = A} x) (err_is {A = B} e NoMemory h))

module _ (inner : (f : Form) → Reader (TreeOf f)) (inside : (f : Form) (a : List Lexeme) → IsAnswered (inner f a)) where
  repeated_answered : (n : ℕ) (f : Form) (b : List Lexeme) → IsAnswered (read_repeated inner n f b)
  unfolding read_repeated
  repeated_answered zero f b = λ h. cc
  repeated_answered (suc n) f b =
      elim (first f (next b)) as (λ s. IsAnswered (cond s (and_then (inner f b) (λ v us. and_then (read_repeated inner n f us) (λ vs ws. Ok (v ∷ vs, ws)))) (Ok ([], b)))) [
        | true ↦ answered_then (inner f b) (λ v us. and_then (read_repeated inner n f us) (λ vs ws. Ok (v ∷ vs, ws))) (inside f b)
            (λ v c. answered_then (read_repeated inner n f c) (λ vs ws. Ok (v ∷ vs, ws)) (repeated_answered n f c) (λ vs d h. cc))
        | false ↦ λ h. cc
      ]

  token_answered : (take : Take) (terminal : Terminal) (a : List Lexeme) → IsAnswered (read_token take terminal a)
  unfolding read_token
  token_answered take terminal [] = λ h. cc
  token_answered take terminal (l ∷ a) = elim (matches terminal (class_of l)) as (λ s. IsAnswered (cond s (Ok (taken take l, a)) (Err (Unexpected (length (l ∷ a)))))) [ true ↦ λ h. cc | false ↦ λ h. cc ]

  optional_answered : (f : Form) (b : List Lexeme) → IsAnswered (read_optional inner f b)
  unfolding read_optional
  optional_answered f b =
      elim (first f (next b)) as (λ s. IsAnswered (cond s (and_then (inner f b) (λ v us. Ok (Some v, us))) (cond (absent f (next b)) (Ok (None, b)) (Err (Unexpected (length b)))))) [
        | true ↦ answered_then (inner f b) (λ v us. Ok (Some v, us)) (inside f b) (λ v c h. cc)
        | false ↦ elim (absent f (next b)) as (λ l. IsAnswered {A = Option (TreeOf f)} (cond l (Ok (None, b)) (Err (Unexpected (length b))))) [ true ↦ λ h. cc | false ↦ λ h. cc ]
      ]

  symbol_answered : (s : Symbol) (b : List Lexeme) → IsAnswered (read_symbol inner s b)
  symbol_answered (token take terminal) b = token_answered take terminal b
  symbol_answered (phrase f) b = inside f b
  symbol_answered (repeated f) b = repeated_answered (length b) f b
  symbol_answered (optional f) b = optional_answered f b

  symbols_answered : (ss : List Symbol) (b : List Lexeme) → IsAnswered (read_symbols inner ss b)
  symbols_answered [] b = λ h. cc
  symbols_answered (s ∷ ss) b =
      answered_then (read_symbol inner s b) (λ v us. and_then (read_symbols inner ss us) (λ vs ws. Ok ((v, vs), ws))) (symbol_answered s b)
      (λ v c. answered_then (read_symbols inner ss c) (λ vs ws. Ok ((v, vs), ws)) (symbols_answered ss c) (λ vs d h. cc))

form_answered : (m : ℕ) (f : Form) (a : List Lexeme) → IsAnswered (read_form m f a)
unfolding read_form
form_answered zero f a = λ h. cc
form_answered (suc m) f a =
    let p = choice f (next a) (seen (scan f) a) in
    answered_then (read_symbols (read_form m) (symbols p) a) (λ vs ws. Ok (built p vs, ws))
    (symbols_answered (read_form m) (form_answered m) (symbols p) a) (λ vs d h. cc)

end_answered : (v : Tree) (b : List Lexeme) → IsAnswered (at_end v b)
end_answered v [] = λ h. cc
end_answered v (l ∷ b) = λ h. cc

script_answered : (m : ℕ) (ls : List Lexeme) → IsAnswered (read_script m ls)
unfolding read_script
script_answered m [] = λ h. cc
script_answered m (l ∷ ls) = answered_then (read_form m top (l ∷ ls)) at_end (form_answered m top (l ∷ ls)) end_answered

-- a script is read or refused
pub answered : (text : List ℕ) (tokens : List Token) → (reading : Result Tree Refusal) × Parses text tokens reading
answered text tokens = by_nesting (nesting_fault tokens) refl
  where
    by_reading : (o : Outcome Tree) → nesting_fault tokens ≡ None → read_script (levels_for (lexemes text tokens)) (lexemes text tokens) ≡ o
        → (reading : Result Tree Refusal) × Parses text tokens reading
    by_reading (Ok p) flat is = (Ok p.0, (flat, script_sound (levels_for (lexemes text tokens)) (lexemes text tokens) p.0 p.1 is))
    by_reading (Err (Unexpected left)) flat is =
        let s = script_stops (levels_for (lexemes text tokens)) (lexemes text tokens) left is in
        (Err (syntax_at (place_of (length text) s.0)), stop_refused text tokens s.0 (syntax_at (place_of (length text) s.0)) flat s.1 refl)
    by_reading (Err TooDeep) flat is = absurd (script_shallow (levels_for (lexemes text tokens)) (lexemes text tokens) (omega arith) is)
    by_reading (Err NoMemory) flat is = absurd (script_answered (levels_for (lexemes text tokens)) (lexemes text tokens) is)

    by_nesting : (o : Option ℕ) → nesting_fault tokens ≡ o → (reading : Result Tree Refusal) × Parses text tokens reading
    by_nesting (Some at) deep = (Err (deep_at at), deep_refused text tokens at deep)
    by_nesting None flat = by_reading (read_script (levels_for (lexemes text tokens)) (lexemes text tokens)) flat refl
