-- Scripts: what is read, what is derived, and where reading stops.
use Rattle.std.proofs.Common.{◌≡◌, ℕ, ◌+◌, ◌*◌, ◌≤◌, List, [], ◌∷◌, ◌++◌, length, Option, Some, None, Result, Ok, Err, refl, sym, ap, subst, ◌∙◌, append_assoc, arith, inl, inr}
use Rattle.std.proofs.lemmas.List.{append-nil}
use Rattle.pl_lexer.specs.declared.token.Token.{Token}
use Rattle.pl_types.specs.declared.refusal.Refusal.{Refusal}
use Rattle.pl_grammar.specs.declared.stop.Stop.{Stop}
use Rattle.pl_grammar.specs.declared.stop.Stop.TheVariants.{Unexpected, TooDeep}
use Rattle.pl_tree.specs.declared.tree.Tree.{Tree}
use Rattle.pl_grammar.specs.Lexeme.{Lexeme, lexemes}
use Rattle.pl_grammar.specs.Grammar.{top}
use Rattle.pl_grammar.specs.Reading.{Outcome, and_then, read_form, at_end, read_script, empty_tree, Reads}
use Rattle.pl_grammar.specs.Derives.{Derives, Begins}
use Rattle.pl_nesting.specs.Nesting.{nesting_fault}
use Rattle.pl_grammar.specs.Parses.{IsScript, BeginsScript, place_of, StopsBefore, deep_at, syntax_at, Refused, Parses}
use Rattle.pl_grammar_laws.proofs.Sound.{then_ok, ok_is, form_sound}
use Rattle.pl_grammar_laws.proofs.Complete.{Gets, gets_then, form_full}
use Rattle.pl_grammar_laws.proofs.Stops.{then_err, stop_is, form_broke}
use Rattle.pl_grammar_laws.proofs.Reach.{Reaches, form_reach}
use Rattle.pl_grammar_laws.proofs.Levels.{IsShallow, shallow_then, form_shallow}
use Rattle.pl_grammar_laws.proofs.Prefix.{split, form_prefix, begins_prefix}

ended : (v : Tree) (b : List Lexeme) (w : Tree) (c : List Lexeme) → at_end v b ≡ Ok (w, c) → (b ≡ []) × (v ≡ w)
ended v [] w c e = (refl, ap (λ (p : Tree × List Lexeme). p.0) (ok_is (v, []) (w, c) e))
ended v (l ∷ b) w c e = absurd cc

-- the lexemes that some script has
abbrev some_lexemes : List Lexeme → Tree → Type 0
some_lexemes ls v = (n : ℕ) × Derives n top v ls []

top_sound : (m : ℕ) (ls : List Lexeme) (v : Tree) (b : List Lexeme) → and_then (read_form m top ls) at_end ≡ Ok (v, b) → some_lexemes ls v
top_sound m ls v b e =
    let s = then_ok (read_form m top ls) at_end v b e in
    let z = ended s.0 s.1 v b s.3 in
    let d = form_sound m top s.0 ls s.1 s.2 in
    let all : ls ≡ d.0 = d.1 ∙ ap (λ (u : List Lexeme). d.0 ++ u) z.0 ∙ append-nil d.0 in (
      m,
      subst (λ (q : Tree). Derives m top q ls []) z.1
          (subst (λ (u : List Lexeme). Derives m top s.0 u []) (sym all) (subst (λ (u : List Lexeme). Derives m top s.0 d.0 u) z.0 d.2)),
    )

pub script_sound : (m : ℕ) (ls : List Lexeme) (v : Tree) (b : List Lexeme) → read_script m ls ≡ Ok (v, b) → IsScript ls v
unfolding read_script
script_sound m [] v b e = ap (λ (p : Tree × List Lexeme). p.0) (sym (ok_is (empty_tree, []) (v, b) e))
script_sound m (l ∷ ls) v b e = top_sound m (l ∷ ls) v b e

pub script_full : (m : ℕ) (ls : List Lexeme) (v : Tree) → IsScript ls v → Gets (read_script m ls) v []
unfolding read_script
script_full m [] v h = rw h (inl refl)
script_full m (l ∷ ls) v h =
    let all = form_full m h.0 top v (l ∷ ls) [] h.1 in
    gets_then (read_form m top (l ∷ ls)) at_end v [] v [] (subst (λ (u : List Lexeme). Gets (read_form m top u) v []) (append-nil (l ∷ ls)) all) (inl refl)

last_shallow : (v : Tree) (b : List Lexeme) → IsShallow (at_end v b)
last_shallow v [] = λ h. cc
last_shallow v (l ∷ b) = λ h. cc

pub script_shallow : (m : ℕ) (ls : List Lexeme) → 32 * length ls + 31 ≤ m → IsShallow (read_script m ls)
unfolding read_script
script_shallow m [] le = λ h. cc
script_shallow m (l ∷ ls) le = shallow_then (read_form m top (l ∷ ls)) at_end (form_shallow m top (l ∷ ls) (omega arith)) (λ v b e. last_shallow v b)

-- no two scripts have the same lexemes
pub script_unique : (ls : List Lexeme) (v w : Tree) → IsScript ls v → IsScript ls w → v ≡ w
script_unique ls v w p q =
    let m = 32 * length ls + 31 in
    both (read_script m ls) (script_shallow m ls (omega arith)) (script_full m ls v p) (script_full m ls w q)
  where
    both : (o : Outcome Tree) → IsShallow o → Gets o v [] → Gets o w [] → v ≡ w
    both o s (inl e) (inl f) = ap (λ (x : Tree × List Lexeme). x.0) (ok_is (v, []) (w, []) (sym e ∙ f))
    both o s (inr e) g = absurd (s e)
    both o s (inl e) (inr f) = absurd (s f)

-- what is read with a fault is no script
pub no_script : (m : ℕ) (ls : List Lexeme) (n : ℕ) → read_script m ls ≡ Err (Unexpected n) → (v : Tree) → IsScript ls v → ⊥
no_script m ls n e v h = clash (read_script m ls) e (script_full m ls v h)
  where
    clash : (o : Outcome Tree) → o ≡ Err (Unexpected n) → Gets o v [] → ⊥
    clash o e (inl g) = cc (e, g)
    clash o e (inr g) = cc (e, g)

-- ---- where reading stops

-- whatever begins a script is read through
reach_past : (m : ℕ) (ls front rest : List Lexeme) (l : Lexeme) (more : List Lexeme) → ls ≡ front ++ rest → rest ≡ l ∷ more → BeginsScript (front ++ l ∷ []) → Reaches (length more) (read_form m top ls)
reach_past m ls front rest l more whole e h =
    let same : (front ++ l ∷ []) ++ more ≡ ls = append_assoc front (l ∷ []) more ∙ ap (λ (u : List Lexeme). front ++ u) (sym e) ∙ sym whole in
    subst (λ (u : List Lexeme). Reaches (length more) (read_form m top u)) same (form_reach m h.0 top (front ++ l ∷ []) more h.1)

unended : (v : Tree) (b : List Lexeme) (n : ℕ) → at_end v b ≡ Err (Unexpected n) → length b ≡ n
unended v [] n e = absurd cc
unended v (l ∷ b) n e = stop_is (length (l ∷ b)) n e

stop_after : (ls front rest : List Lexeme) → ls ≡ front ++ rest → BeginsScript front → ((l : Lexeme) (more : List Lexeme) → rest ≡ l ∷ more → BeginsScript (front ++ l ∷ []) → ⊥) → ((v : Tree) → IsScript ls v → ⊥) → StopsBefore ls rest
stop_after ls front rest whole begins ends none =
    record {
      front = front;
      whole = whole;
      begins = λ x y e. (begins.0, begins_prefix begins.0 top x y (subst (λ (u : List Lexeme). Begins begins.0 top u) e begins.1));
      ends = ends;
      no_script = none;
    }

top_stops : (m : ℕ) (ls : List Lexeme) (n : ℕ) → and_then (read_form m top ls) at_end ≡ Err (Unexpected n) → ((v : Tree) → IsScript ls v → ⊥) → (rest : List Lexeme) × StopsBefore ls rest × (length rest ≡ n)
top_stops m ls n e none =
    elim (then_err (read_form m top ls) at_end (Unexpected n) e) [
      | inl g ↦
          let b = form_broke m top ls n g in (
            b.1,
            stop_after ls b.0 b.1 b.2 (m, b.4)
                (λ l more is h. (let r : n ≤ length more = subst (λ (o : Outcome Tree). Reaches (length more) o) g (reach_past m ls b.0 b.1 l more b.2 is h) in omega (arith, b.3, ap length is)))
                none,
            b.3,
          )
      | inr s ↦
          let d = form_sound m top s.0 ls s.1 s.2 in
          let whole : Derives m top s.0 (d.0 ++ []) s.1 = subst (λ (u : List Lexeme). Derives m top s.0 u s.1) (sym (append-nil d.0)) d.2 in (
            s.1,
            stop_after ls d.0 s.1 d.1 (m, form_prefix m top s.0 d.0 [] s.1 whole)
                (λ l more is h. (let r : length s.1 ≤ length more = subst (λ (o : Outcome Tree). Reaches (length more) o) s.2 (reach_past m ls d.0 s.1 l more d.1 is h) in omega (arith, ap length is)))
                none,
            unended s.0 s.1 n s.3,
          )
    ]

pub script_stops : (m : ℕ) (ls : List Lexeme) (n : ℕ) → read_script m ls ≡ Err (Unexpected n) → (rest : List Lexeme) × StopsBefore ls rest × (length rest ≡ n)
unfolding read_script
script_stops m [] n e = absurd cc
script_stops m (l ∷ ls) n e = top_stops m (l ∷ ls) n e (no_script m (l ∷ ls) n e)

-- ---- it stops at one place

abbrev cons : Lexeme → List Lexeme → List Lexeme
cons l ls = l ∷ ls

tails : (l : Lexeme) (x y : List Lexeme) → cons l x ≡ cons l y → x ≡ y
tails l x y e = cc

cancel : (a x y : List Lexeme) → a ++ x ≡ a ++ y → x ≡ y
cancel [] x y e = e
cancel (l ∷ a) x y e = cancel a x y (tails l (a ++ x) (a ++ y) e)

-- a front that begins a script is not longer than one after which the next lexeme begins none
not_longer : (ls rest other m : List Lexeme) → (s : StopsBefore ls rest) (t : StopsBefore ls other) → s.front ≡ t.front ++ m → other ≡ m ++ rest → rest ≡ other
not_longer ls rest other [] s t e f = sym f
not_longer ls rest other (l ∷ m) s t e f = absurd (t.ends l (m ++ rest) f (s.begins (t.front ++ l ∷ []) m (e ∙ sym (append_assoc t.front (l ∷ []) m))))

pub stops_once : (ls rest other : List Lexeme) → StopsBefore ls rest → StopsBefore ls other → rest ≡ other
stops_once ls rest other s t =
    elim (split s.front rest t.front other (sym s.whole ∙ t.whole)) [
      | inl r ↦ not_longer ls rest other r.0 s t r.1 r.2
      | inr r ↦
          let all : s.front ++ rest ≡ s.front ++ ((r.0 ∷ r.1) ++ other) = sym s.whole ∙ t.whole ∙ ap (λ (u : List Lexeme). u ++ other) r.2 ∙ append_assoc s.front (r.0 ∷ r.1) other in
          sym (not_longer ls other rest (r.0 ∷ r.1) t s r.2 (cancel s.front rest ((r.0 ∷ r.1) ++ other) all))
    ]

-- ---- what the parser answers

abbrev yes : Tree → Result Tree Refusal
yes v = Ok v

abbrev no : Refusal → Result Tree Refusal
no r = Err r

pub only_tree : (text : List ℕ) (tokens : List Token) (v : Tree) → nesting_fault tokens ≡ None → IsScript (lexemes text tokens) v → (reading : Result Tree Refusal) → Parses text tokens reading → yes v ≡ reading
only_tree text tokens v flat h (Ok w) g = ap yes (script_unique (lexemes text tokens) v w h g.1)
only_tree text tokens v flat h (Err r) g = by (subst (λ (o : Option ℕ). Refused text tokens o r) flat g)
  where
    by : Refused text tokens None r → yes v ≡ no r
    by g = absurd (g.1.no_script v h)

pub stop_refused : (text : List ℕ) (tokens : List Token) (rest : List Lexeme) (r : Refusal) → nesting_fault tokens ≡ None → StopsBefore (lexemes text tokens) rest → r ≡ syntax_at (place_of (length text) rest) → Parses text tokens (Err r)
stop_refused text tokens rest r flat s e = subst (λ (o : Option ℕ). Refused text tokens o r) (sym flat) (rest, s, e)

pub deep_refused : (text : List ℕ) (tokens : List Token) (at : ℕ) → nesting_fault tokens ≡ Some at → Parses text tokens (Err (deep_at at))
deep_refused text tokens at deep = subst (λ (o : Option ℕ). Refused text tokens o (deep_at at)) (sym deep) refl

pub only_stop : (text : List ℕ) (tokens : List Token) (rest : List Lexeme) (r : Refusal) → nesting_fault tokens ≡ None → StopsBefore (lexemes text tokens) rest → r ≡ syntax_at (place_of (length text) rest) → (reading : Result Tree Refusal) → Parses text tokens reading → no r ≡ reading
only_stop text tokens rest r flat s e (Ok w) g = absurd (s.no_script w g.1)
only_stop text tokens rest r flat s e (Err q) g = by (subst (λ (o : Option ℕ). Refused text tokens o q) flat g)
  where
    by : Refused text tokens None q → no r ≡ no q
    by g =
        let same : rest ≡ g.0 = stops_once (lexemes text tokens) rest g.0 s g.1 in
        ap no (e ∙ ap (λ (u : List Lexeme). syntax_at (place_of (length text) u)) same ∙ sym g.2)

pub only_deep : (text : List ℕ) (tokens : List Token) (at : ℕ) → nesting_fault tokens ≡ Some at → (reading : Result Tree Refusal) → Parses text tokens reading → no (deep_at at) ≡ reading
only_deep text tokens at deep (Ok w) g = absurd (clash (nesting_fault tokens) deep g.0)
  where
    clash : (o : Option ℕ) → o ≡ Some at → o ≡ None → ⊥
    clash o e f = cc (e, f)
only_deep text tokens at deep (Err q) g = ap no (sym (by (subst (λ (o : Option ℕ). Refused text tokens o q) deep g)))
  where
    by : Refused text tokens (Some at) q → q ≡ deep_at at
    by g = g

-- ---- from what the code's reader answers

pub answer_ok : (m : ℕ) (ls : List Lexeme) (r : Result Tree Stop) (new : List Lexeme) (v : Tree) → Reads (read_script m ls) r new → r ≡ Ok v → read_script m ls ≡ Ok (v, new)
answer_ok m ls r new v h e = subst (λ (q : Result Tree Stop). Reads (read_script m ls) q new) e h

pub answer_stop : (m : ℕ) (ls : List Lexeme) (r : Result Tree Stop) (new : List Lexeme) (n : ℕ) → Reads (read_script m ls) r new → r ≡ Err (Unexpected n) → read_script m ls ≡ Err (Unexpected n)
answer_stop m ls r new n h e =
    let at : Reads (read_script m ls) (Err (Unexpected n)) new = subst (λ (q : Result Tree Stop). Reads (read_script m ls) q new) e h in
    at (λ e. cc)

pub answer_deep : (m : ℕ) (ls : List Lexeme) (r : Result Tree Stop) (new : List Lexeme) → 32 * length ls + 31 ≤ m → Reads (read_script m ls) r new → r ≡ Err TooDeep → ⊥
answer_deep m ls r new le h e =
    let at : Reads (read_script m ls) (Err TooDeep) new = subst (λ (q : Result Tree Stop). Reads (read_script m ls) q new) e h in
    script_shallow m ls le (at (λ e. cc))
