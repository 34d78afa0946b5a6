-- Whole scripts: functions, one after the other, and then statements.
use Rattle.std.proofs.Common.{◌≡◌, ℕ, ◌+◌, ◌-◌, ◌<◌, ◌≤◌, true, false, List, [], ◌∷◌, ◌++◌, length, append_assoc, append-nil, Option, Some, None, Result, Ok, Err, refl, sym, ap, ◌∙◌, arith}
use Rattle.pl_grammar.specs.declared.stop.Stop.{Stop}
use Rattle.pl_grammar.specs.declared.stop.Stop.TheVariants.{TooDeep}
use Rattle.pl_grammar.specs.declared.ahead.Seen.TheVariants as s
use Rattle.pl_tree.specs.declared.tree.Tree.{Tree}
use Rattle.pl_tree.specs.declared.tree.Function.{Function}
use Rattle.pl_tree.specs.declared.tree.Statement.{Statement}
use Rattle.pl_grammar.specs.Lexeme.{Lexeme, next}
use Rattle.pl_grammar.specs.Ahead.{seen}
use Rattle.pl_grammar.specs.Making.{with_function}
use Rattle.pl_grammar.specs.Grammar as g
use Rattle.pl_grammar.specs.Grammar.{top, function, statement, Trees, Production, functions, statements, symbols, built}
use Rattle.pl_grammar.specs.Firsts.{first}
use Rattle.pl_grammar.specs.Reading.{Outcome, and_then, top_by, function_ahead, read_optional, read_repeated, read_symbols, read_production, read_form}
use Rattle.parse_values.specs.declared.value.Value.{Value}
use Rattle.parse_values.specs.Values.{value_of, list_value}
use Rattle.parse_driver.specs.Read.{Held, ReadsAs, ReadsStatements, alone}
use Rattle.parse_driver.proofs.Steps.{step, no_level}

module _ (n : ℕ) (ls : List Lexeme) (below : 0 < n) where
  by_rule : (q : Production top) → top_by (function_ahead (next ls) (seen s.Start ls)) ≡ q → read_form n top ls ≡ read_production (read_form (n - 1)) q ls
  by_rule q e = step n top ls below ∙ ap (λ (q : Production top). read_production (read_form (n - 1)) q ls) e

  -- ---- statements

  -- those that follow the first, and the script of all
  abbrev others : List Lexeme → Outcome (List Statement)
  others us = read_repeated (read_form (n - 1)) (length us) statement us

  abbrev more_of : Statement → List Lexeme → Outcome (Trees (symbols statements))
  more_of one us = and_then {B = Trees (symbols statements)} (and_then {A = List Statement} {B = Trees (g.repeated statement ∷ [])} (others us) (λ v ws. Ok ((v, tt), ws))) (λ vs ws. Ok ((one, vs), ws))

  abbrev make : Outcome (Trees (symbols statements)) → Outcome Tree
  make o = and_then o (λ vs us. Ok (built statements vs, us))

  pub statement_fails : (e : Stop) → function_ahead (next ls) (seen s.Start ls) ≡ false → read_form (n - 1) statement ls ≡ Err e → read_form n top ls ≡ Err e
  statement_fails e ahead stops = by_rule statements (ap top_by ahead) ∙ ap (λ (o : Outcome Statement). make (and_then o more_of)) stops

  module _ (one : Statement) (us : List Lexeme) (ahead : function_ahead (next ls) (seen s.Start ls) ≡ false) (first_read : read_form (n - 1) statement ls ≡ Ok (one, us)) where
    with_first : read_form n top ls ≡ make (more_of one us)
    with_first = by_rule statements (ap top_by ahead) ∙ ap (λ (o : Outcome Statement). make (and_then o more_of)) first_read

    pub others_fail : (e : Stop) → others us ≡ Err e → read_form n top ls ≡ Err e
    others_fail e stops = with_first ∙ ap (λ (o : Outcome (List Statement)). make (and_then {A = Trees (g.repeated statement ∷ [])} {B = Trees (symbols statements)} (and_then o (λ v ws. Ok ((v, tt), ws))) (λ vs ws. Ok ((one, vs), ws)))) stops

    pub statements_read : (all : List Statement) (ws : List Lexeme) → others us ≡ Ok (all, ws) → read_form n top ls ≡ Ok (alone (one ∷ all), ws)
    statements_read all ws read = with_first ∙ ap (λ (o : Outcome (List Statement)). make (and_then {A = Trees (g.repeated statement ∷ [])} {B = Trees (symbols statements)} (and_then o (λ v ws. Ok ((v, tt), ws))) (λ vs ws. Ok ((one, vs), ws)))) read

  -- ---- functions

  -- what follows a function
  abbrev behind : Function → List Lexeme → Outcome (Trees (symbols functions))
  behind one us = and_then (read_symbols (read_form (n - 1)) (g.optional top ∷ []) us) (λ vs ws. Ok ((one, vs), ws))

  abbrev whole_of : Outcome (Trees (symbols functions)) → Outcome Tree
  whole_of o = and_then o (λ vs us. Ok (built functions vs, us))

  pub function_fails : (e : Stop) → function_ahead (next ls) (seen s.Start ls) ≡ true → read_form (n - 1) function ls ≡ Err e → read_form n top ls ≡ Err e
  function_fails e ahead stops = by_rule functions (ap top_by ahead) ∙ ap (λ (o : Outcome Function). whole_of (and_then o behind)) stops

  pub function_last : (one : Function) (us : List Lexeme) → function_ahead (next ls) (seen s.Start ls) ≡ true → read_form (n - 1) function ls ≡ Ok (one, us) → first top (next us) ≡ false → read_form n top ls ≡ Ok (with_function one None, us)
  unfolding read_optional
  function_last one us ahead e stops =
      by_rule functions (ap top_by ahead)
      ∙ ap (λ (o : Outcome Function). whole_of (and_then o behind)) e
      ∙ rw stops refl

  pub function_more : (one : Function) (us : List Lexeme) → function_ahead (next ls) (seen s.Start ls) ≡ true → read_form (n - 1) function ls ≡ Ok (one, us) → first top (next us) ≡ true → read_form n top ls ≡ and_then (read_form (n - 1) top us) (λ t ws. Ok (with_function one (Some t), ws))
  unfolding read_optional
  function_more one us ahead e goes =
      by_rule functions (ap top_by ahead)
      ∙ ap (λ (o : Outcome Function). whole_of (and_then o behind)) e
      ∙ rw goes (elim (read_form (n - 1) top us) as (λ o. whole_of (and_then {A = Trees (g.optional top ∷ [])} (and_then {A = Option Tree} (and_then o (λ t ws. Ok (Some t, ws))) (λ v ws. Ok ((v, tt), ws))) (λ vs ws. Ok ((one, vs), ws))) ≡ and_then o (λ t ws. Ok (with_function one (Some t), ws))) [ Ok x ↦ refl | Err x ↦ refl ])

-- ---- what is read stands on the stack
pub statements_stand : (one : Statement) (others : List Statement) (below mid left : List Value) → mid ≡ value_of statement one ∷ below → left ≡ list_value statement others ∷ mid → left ≡ list_value statement others ∷ value_of statement one ∷ below
statements_stand one others below mid left first more = more ∙ ap (λ (u : List Value). list_value statement others ∷ u) first

-- ---- the functions so far

-- a script with these functions before its own
abbrev pub after : List Function → Tree → Tree
after all t = record { functions = all ++ t.functions; statements = t.statements }

-- what is to come is read from these lexemes on
abbrev pub TopSoFar : Outcome Tree → ℕ → Tree → List Lexeme → Type 0
TopSoFar whole n script ls = (script.statements ≡ []) × (whole ≡ and_then (read_form n top ls) (λ t us. Ok (after script.functions t, us)))

pub top_starts : (n i : ℕ) (script : Tree) (ls : List Lexeme) → i ≡ 0 → script ≡ alone [] → TopSoFar (read_form n top ls) (n - i) script ls
top_starts n i script ls zero is = let k : n - i ≡ n = omega (arith, zero) in rw (is, k) (refl, elim (read_form n top ls) as (λ o. o ≡ and_then o (λ t us. Ok (after [] t, us))) [ Ok x ↦ refl | Err x ↦ refl ])

module _ (whole : Outcome Tree) (n i : ℕ) (script : Tree) (ls : List Lexeme) (so_far : TopSoFar whole (n - i) script ls) where
  pub top_fails : (e : Stop) → read_form (n - i) top ls ≡ Err e → whole ≡ Err e
  top_fails e stops = so_far.1 ∙ ap (λ (o : Outcome Tree). and_then o (λ t us. Ok (after script.functions t, us))) stops

  pub top_statements : {U : Type 0} (result : Result U Stop) (left : Tree) (new : List Lexeme) → ReadsStatements script (read_form (n - i) top ls) result new left → ReadsAs (λ tree. tree) whole result new left
  top_statements (Ok u) left new read = (
    record { functions = script.functions; statements = read.0 },
    so_far.1 ∙ ap (λ (o : Outcome Tree). and_then o (λ t us. Ok (after script.functions t, us))) read.1
        ∙ ap (λ (fs : List Function). Ok (record { functions = fs; statements = read.0 }, new)) (append-nil script.functions),
    read.2,
  )
  top_statements (Err e) left new read = λ other. top_fails e (read other)

  -- what follows one more function, in the script that has it
  module _ (one : Function) (left : Tree) (us : List Lexeme) (under : i < n) (ahead : function_ahead (next ls) (seen s.Start ls) ≡ true) (e : read_form (n - i - 1) function ls ≡ Ok (one, us)) (is : left ≡ record { functions = script.functions ++ one ∷ []; statements = script.statements }) where
    statements_none : left.statements ≡ []
    statements_none = ap (λ (t : Tree). t.statements) is ∙ so_far.0

    functions_longer : left.functions ≡ script.functions ++ one ∷ []
    functions_longer = ap (λ (t : Tree). t.functions) is

    pub top_last : first top (next us) ≡ false → Held (λ tree. tree) whole us left
    top_last stops = (
      record { functions = script.functions ++ one ∷ []; statements = [] },
      so_far.1 ∙ ap (λ (o : Outcome Tree). and_then o (λ t us. Ok (after script.functions t, us))) (function_last (n - i) ls (omega arith) one us ahead e stops),
      is ∙ ap (λ (ss : List Statement). record { functions = script.functions ++ one ∷ []; statements = ss }) so_far.0,
    )

    pub top_more : first top (next us) ≡ true → TopSoFar whole (n - (i + 1)) left us
    top_more goes =
        let m : n - i - 1 ≡ n - (i + 1) = omega arith in (
          statements_none,
          so_far.1 ∙ ap (λ (o : Outcome Tree). and_then o (λ t us. Ok (after script.functions t, us))) (function_more (n - i) ls (omega arith) one us ahead e goes)
              ∙ elim (read_form (n - i - 1) top us) as (λ o. and_then (and_then o (λ t ws. Ok (with_function one (Some t), ws))) (λ t ws. Ok (after script.functions t, ws)) ≡ and_then o (λ t ws. Ok (after left.functions t, ws))) [
                | Ok x ↦ ap (λ (fs : List Function). Ok (record { functions = fs; statements = x.0.statements }, x.1)) (sym (append_assoc script.functions (one ∷ []) x.0.functions) ∙ ap (λ (u : List Function). u ++ x.0.functions) (sym functions_longer))
                | Err x ↦ refl
              ]
              ∙ ap (λ (k : ℕ). and_then (read_form k top us) (λ t ws. Ok (after left.functions t, ws))) m,
        )

  pub top_deep : n ≤ i → whole ≡ Err TooDeep
  top_deep over = top_fails TooDeep (no_level (n - i) top ls (omega arith))
