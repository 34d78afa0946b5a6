-- Frames, one step further.
use Rattle.std.proofs.Common.{◌≡◌, ℕ, suc, ◌+◌, ◌-◌, ◌<◌, ◌≤◌, true, false, List, [], ◌∷◌, ◌++◌, map, length, drop, slice_index_or, append_assoc, append-nil, add-one, drop-cons, Option, Some, None, Result, Ok, Err, refl, sym, ap, subst, ◌∙◌, arith}
use Rattle.std.proofs.Math.ListN.{drop_of_length-le}
use Rattle.std.proofs.lemmas.List.{drop-map}
use Rattle.pl_grammar.specs.declared.terminal.Terminal.{Terminal}
use Rattle.pl_grammar.specs.declared.ahead.Seen.{Seen}
use Rattle.pl_grammar.specs.declared.stop.Stop.{Stop}
use Rattle.pl_grammar.specs.declared.stop.Stop.TheVariants.{Unexpected, TooDeep}
use Rattle.pl_grammar.specs.Lexeme as lexeme
use Rattle.pl_grammar.specs.Lexeme.{Lexeme}
use Rattle.pl_grammar.specs.Ahead.{seen}
use Rattle.pl_grammar.specs.Grammar.{Form, TreeOf, Symbol, phrase, SymbolTree, Trees, Production, symbols, built}
use Rattle.pl_grammar.specs.Firsts.{first, absent, scan}
use Rattle.pl_grammar.specs.Reading.{Outcome, Reader, and_then, choice, read_symbol, read_symbols, read_repeated, read_optional, read_form}
use Rattle.parse_tables.specs.declared.rule.Rule.{Rule}
use Rattle.parse_tables.specs.declared.rule.Symbol as declared
use Rattle.parse_tables.specs.Names.{symbol_of, meant}
use Rattle.parse_values.specs.declared.value.Value.{Value}
use Rattle.parse_values.specs.Values.{value_of, list_value, symbol_value}
use Rattle.parse_values.specs.Stack.{AreOnTop, Reduces, IsOnSeveral, Extends}
use Rattle.parse_driver.specs.declared.control.Frame.{Frame}
use Rattle.parse_driver.specs.declared.control.Frame.TheVariants as fr
use Rattle.parse_driver.specs.Read.{ReadsAs}
use Rattle.parse_driver.specs.Control.{Whole, ComeTo, RestComesTo, MoreComesTo, JoinComesTo, ComesTo, Wait}
use Rattle.parse_driver.proofs.Outcomes.{success, failure, ok_is, err_is, then_then}
use Rattle.parse_driver.proofs.Steps.{step, no_level}

-- ---- a phrase begins
module _ (n : ℕ) (f : Form) (ls : List Lexeme) (next : TreeOf f → Reader (List Value)) where
  pub too_deep : n ≡ 0 → and_then (read_form n f ls) next ≡ Err TooDeep
  too_deep none = ap (λ (o : Outcome (TreeOf f)). and_then o next) (no_level n f ls none)

  -- as a production begins it
  abbrev BeginsBy : List Frame → List Value → (form : Form) × Production form → Type 0
  BeginsBy frames below q = RestComesTo (ComesTo frames) q.1 (n - 1) (drop 0 (symbols q.1)) below ls (and_then (read_form n f ls) next)

  begins_by : (frames : List Frame) (below : List Value) → 0 < n → Wait frames (phrase f) below next → BeginsBy frames below (f, choice f (lexeme.next ls) (seen (scan f) ls))
  begins_by frames below some waits =
      let p = choice f (lexeme.next ls) (seen (scan f) ls) in
      record {
        below = below;
        all = λ trees. trees;
        next = next;
        piles = λ trees. refl;
        waits = waits;
        is = ap (λ (o : Outcome (TreeOf f)). and_then o next) (step n f ls some) ∙ then_then (read_symbols (read_form (n - 1)) (symbols p) ls) (λ vs us. Ok (built p vs, us)) next;
      }

  pub begins : (frames : List Frame) (below : List Value) (rule : Rule) (terminal : Terminal) (s : Seen) → 0 < n → terminal ≡ lexeme.next ls → s ≡ seen (scan f) ls → meant rule ≡ (f, choice f terminal s) → Wait frames (phrase f) below next → ComesTo (fr.Rest rule 0 (n - 1) ∷ frames) below ls (and_then (read_form n f ls) next)
  begins frames below rule terminal s some is saw chosen waits =
      let same : meant rule ≡ (f, choice f (lexeme.next ls) (seen (scan f) ls)) = rw (← is, ← saw) chosen in
      subst (BeginsBy frames below) (sym same) (begins_by frames below some waits)

-- ---- the symbols of a rule
module _ {form : Form} (wait : ComeTo) (p : Production form) (n : ℕ) (s : Symbol) (rest : List Symbol) (stack : List Value) (ls : List Lexeme) (whole : Whole) (r : RestComesTo wait p n (s ∷ rest) stack ls whole) where
  -- what follows the first of them
  abbrev pub after : SymbolTree s → Reader (List Value)
  after tree us = and_then (read_symbols (read_form n) rest us) (λ trees ws. r.next (built p (r.all (tree, trees))) ws)

  pub after_waits : (tree : SymbolTree s) (us : List Lexeme) → RestComesTo wait p n rest (symbol_value s tree ∷ stack) us (after tree us)
  after_waits tree us = record {
    below = r.below;
    all = λ trees. r.all (tree, trees);
    next = r.next;
    piles = λ trees. r.piles (tree, trees);
    waits = r.waits;
    is = refl;
  }

  pub after_is : whole ≡ and_then (read_symbol (read_form n) s ls) after
  after_is =
      r.is
      ∙ elim (read_symbol (read_form n) s ls) as (λ o. and_then {A = Trees (s ∷ rest)} (and_then o (λ v us. and_then (read_symbols (read_form n) rest us) (λ vs ws. Ok ((v, vs), ws)))) (λ trees us. r.next (built p (r.all trees)) us) ≡ and_then o after) [
        | Ok x ↦ then_then {B = Trees (s ∷ rest)} (read_symbols (read_form n) rest x.1) (λ vs ws. Ok ((x.0, vs), ws)) (λ trees us. r.next (built p (r.all trees)) us)
        | Err x ↦ refl
      ]

-- no symbol is left
module _ {form : Form} (wait : ComeTo) (p : Production form) (n : ℕ) (rest : List Symbol) (stack : List Value) (ls : List Lexeme) (whole : Whole) (r : RestComesTo wait p n rest stack ls whole) (none : rest ≡ []) where
  ended : RestComesTo wait p n [] stack ls whole
  ended = subst (λ (ss : List Symbol). RestComesTo wait p n ss stack ls whole) none r

  pub on_top : AreOnTop p stack
  on_top = (ended.all tt, ended.below, ended.piles tt)

  pub reduced : (new : List Value) → Reduces p stack new → wait new ls whole
  reduced new reduces =
      let top : new ≡ value_of form (built p (ended.all tt)) ∷ ended.below = reduces (ended.all tt) ended.below (ended.piles tt) in
      subst (λ (o : Whole). wait new ls o) (sym ended.is) (subst (λ (u : List Value). wait u ls (ended.next (built p (ended.all tt)) ls)) (sym top) (ended.waits (built p (ended.all tt)) ls))

-- the symbols from one on, as the code has them
pub rest_ends : (all : List declared.Symbol) (ss : List Symbol) (i : ℕ) → map symbol_of all ≡ ss → length all ≤ i → drop i ss ≡ []
rest_ends all ss i row le = ap (drop i) (sym row) ∙ drop-map symbol_of i all ∙ ap (map symbol_of) (drop_of_length-le all le)

pub rest_goes : (all : List declared.Symbol) (ss : List Symbol) (i : ℕ) (d : declared.Symbol) → map symbol_of all ≡ ss → i < length all → drop i ss ≡ symbol_of (slice_index_or all i d) ∷ drop (i + 1) ss
rest_goes all ss i d row below =
    ap (drop i) (sym row) ∙ drop-map symbol_of i all ∙ ap (map symbol_of) (drop-cons all i d below)
    ∙ ap (λ (u : List Symbol). symbol_of (slice_index_or all i d) ∷ u) (sym (drop-map symbol_of (suc i) all) ∙ ap (drop (suc i)) row ∙ ap (λ (k : ℕ). drop k ss) (sym (add-one i)))

-- ---- one symbol
module _ (inner : (f : Form) → Reader (TreeOf f)) (s : Symbol) (ls : List Lexeme) (next : SymbolTree s → Reader (List Value)) where
  pub symbol_fails : (e : Stop) → read_symbol inner s ls ≡ Err e → and_then (read_symbol inner s ls) next ≡ Err e
  symbol_fails e stops = ap (λ (o : Outcome (SymbolTree s)). and_then o next) stops

  pub symbol_read : (frames : List Frame) (below new : List Value) (us : List Lexeme) (tree : SymbolTree s) → Wait frames s below next → read_symbol inner s ls ≡ Ok (tree, us) → new ≡ symbol_value s tree ∷ below → ComesTo frames new us (and_then (read_symbol inner s ls) next)
  symbol_read frames below new us tree waits read top =
      let is : and_then (read_symbol inner s ls) next ≡ next tree us = ap (λ (o : Outcome (SymbolTree s)). and_then o next) read in
      subst (λ (o : Whole). ComesTo frames new us o) (sym is) (subst (λ (u : List Value). ComesTo frames u us (next tree us)) (sym top) (waits tree us))

module _ (inner : (f : Form) → Reader (TreeOf f)) (f : Form) (ls : List Lexeme) where
  pub some_is : (next : Option (TreeOf f) → Reader (List Value)) → first f (lexeme.next ls) ≡ true → and_then (read_optional inner f ls) next ≡ and_then (inner f ls) (λ tree us. next (Some tree) us)
  unfolding read_optional
  some_is next goes = rw goes (elim (inner f ls) as (λ o. and_then (and_then o (λ v us. Ok (Some v, us))) next ≡ and_then o (λ tree us. next (Some tree) us)) [ Ok x ↦ refl | Err x ↦ refl ])

  pub none_is : first f (lexeme.next ls) ≡ false → absent f (lexeme.next ls) ≡ true → read_optional inner f ls ≡ Ok (None, ls)
  unfolding read_optional
  none_is goes lacks = rw (goes, lacks) refl

  pub none_fails : first f (lexeme.next ls) ≡ false → absent f (lexeme.next ls) ≡ false → read_optional inner f ls ≡ Err (Unexpected (length ls))
  unfolding read_optional
  none_fails goes lacks = rw (goes, lacks) refl

-- ---- repeated phrases
pub more_begins : (wait : ComeTo) (f : Form) (turns n : ℕ) (below stack : List Value) (ls : List Lexeme) (next : List (TreeOf f) → Reader (List Value)) → turns ≡ length ls → stack ≡ list_value f [] ∷ below → ((all : List (TreeOf f)) (us : List Lexeme) → wait (list_value f all ∷ below) us (next all us)) → MoreComesTo wait f turns n stack ls (and_then (read_repeated (read_form n) (length ls) f ls) next)
more_begins wait f turns n below stack ls next count is waits = record {
  below = below;
  trees = [];
  next = next;
  stands = is;
  waits = waits;
  is = ap (λ (k : ℕ). and_then (read_repeated (read_form n) k f ls) next) (sym count);
}

module _ (wait : ComeTo) (f : Form) (turns n : ℕ) (stack : List Value) (ls : List Lexeme) (whole : Whole) (m : MoreComesTo wait f turns n stack ls whole) where
  ends : read_repeated (read_form n) turns f ls ≡ Ok ([], ls) → wait stack ls whole
  ends read =
      let is : whole ≡ m.next m.trees ls = m.is ∙ ap (λ (o : Outcome (List (TreeOf f))). and_then o (λ more us. m.next (m.trees ++ more) us)) read ∙ ap (λ (all : List (TreeOf f)). m.next all ls) (append-nil m.trees) in
      subst (λ (o : Whole). wait stack ls o) (sym is) (subst (λ (u : List Value). wait u ls (m.next m.trees ls)) (sym m.stands) (m.waits m.trees ls))

  pub no_turn : turns ≡ 0 → wait stack ls whole
  unfolding read_repeated
  no_turn none = ends (ap (λ (k : ℕ). read_repeated (read_form n) k f ls) none)

  -- a turn is left
  module _ (some : 0 < turns) where
    turn : turns ≡ suc (turns - 1)
    turn = omega (arith, some)

    pub no_more : first f (lexeme.next ls) ≡ false → wait stack ls whole
    unfolding read_repeated
    no_more goes = ends (ap (λ (k : ℕ). read_repeated (read_form n) k f ls) turn ∙ rw goes refl)

    -- what follows one more
    abbrev pub joined_next : TreeOf f → Reader (List Value)
    joined_next tree us = and_then (read_repeated (read_form n) (turns - 1) f us) (λ more ws. m.next (m.trees ++ tree ∷ more) ws)

    pub join_waits : (tree : TreeOf f) (us : List Lexeme) → JoinComesTo wait f (turns - 1) n (value_of f tree ∷ stack) us (joined_next tree us)
    join_waits tree us = record {
      below = m.below;
      trees = m.trees;
      tree = tree;
      next = m.next;
      stands = ap (λ (u : List Value). value_of f tree ∷ u) m.stands;
      waits = m.waits;
      is = refl;
    }

    pub one_more : first f (lexeme.next ls) ≡ true → whole ≡ and_then (read_form n f ls) joined_next
    unfolding read_repeated
    one_more goes =
        m.is ∙ ap (λ (k : ℕ). and_then (read_repeated (read_form n) k f ls) (λ more us. m.next (m.trees ++ more) us)) turn
        ∙ rw goes (elim (read_form n f ls) as (λ o. and_then (and_then o (λ v us. and_then (read_repeated (read_form n) (turns - 1) f us) (λ vs ws. Ok (v ∷ vs, ws)))) (λ more us. m.next (m.trees ++ more) us) ≡ and_then o joined_next) [
          | Ok x ↦ then_then (read_repeated (read_form n) (turns - 1) f x.1) (λ vs ws. Ok (x.0 ∷ vs, ws)) (λ more us. m.next (m.trees ++ more) us)
          | Err x ↦ refl
        ])

module _ (wait : ComeTo) (f : Form) (turns n : ℕ) (stack : List Value) (ls : List Lexeme) (whole : Whole) (j : JoinComesTo wait f turns n stack ls whole) where
  pub joins : IsOnSeveral (list_value f) (value_of f) stack
  joins = (j.trees, j.tree, j.below, j.stands)

  pub joined : (new : List Value) → Extends (list_value f) (value_of f) stack new → MoreComesTo wait f turns n new ls whole
  joined new extends = record {
    below = j.below;
    trees = j.trees ++ j.tree ∷ [];
    next = j.next;
    stands = extends j.trees j.tree j.below j.stands;
    waits = j.waits;
    is = j.is ∙ elim (read_repeated (read_form n) turns f ls) as (λ o. and_then o (λ more us. j.next (j.trees ++ j.tree ∷ more) us) ≡ and_then o (λ more us. j.next ((j.trees ++ j.tree ∷ []) ++ more) us)) [
      | Ok x ↦ ap (λ (all : List (TreeOf f)). j.next all x.1) (sym (append_assoc j.trees (j.tree ∷ []) x.0))
      | Err x ↦ refl
    ];
  }

-- ---- the end
-- a phrase whose value is all that comes
pub alone_read : {A U : Type 0} (o : Outcome A) (held : A → List Value) (result : Result U Stop) (new : List Lexeme) (left : List Value) → ReadsAs (λ values. values) (and_then o (λ tree us. Ok (held tree, us))) result new left → ReadsAs held o result new left
alone_read {A} (Ok x) held (Ok u) new left read =
    let same : (held x.0, x.1) ≡ (read.0, new) = ok_is (held x.0, x.1) (read.0, new) read.1 in
    (x.0, ap (λ (us : List Lexeme). success {A = A} (x.0, us)) (ap (λ (p : List Value × List Lexeme). p.1) same), read.2 ∙ sym (ap (λ (p : List Value × List Lexeme). p.0) same))
alone_read (Ok x) held (Err e) new left read = λ other. absurd (cc (read other))
alone_read (Err x) held (Ok u) new left read = absurd (cc read.1)
alone_read {A} (Err x) held (Err e) new left read = λ other. ap (λ (d : Stop). failure {A = A} d) (err_is {A = List Value} x e (read other))
