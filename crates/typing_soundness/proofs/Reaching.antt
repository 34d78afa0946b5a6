-- What stands behind a statement of typing is reached, where the statement is not said to escape.
use Rattle.std.proofs.Common.{◌≡◌, ℕ, suc, Bool, true, false, ◌||◌, ◌&&◌, List, [], ◌∷◌, map, length, refl, sym, ap, ◌∙◌, subst, arith, ◌-◌}
use Rattle.std.specs.Prelude.{slice_get}
use Rattle.std.proofs.lemmas.Bool.{false≢true}
use Rattle.typed_tree.specs.declared.statement.TypedVariable.{TypedVariable}
use Rattle.typing_rules.specs.declared.part.Step.{Step}
use Rattle.typing_rules.specs.Rules.Statements.{escapes_if, last_escapes, statements_of}
use Rattle.source_typing.specs.Falls.{falls, all_fall}
use Rattle.source_typing.specs.Tree.{Stmt, Stmts, Finish, Then}
use Rattle.source_typing.specs.Programs.{Before, in_row, declared, before}
use Rattle.source_typing.specs.Reached.{MayFollow, StmtReached, StmtsReached}

-- A statement before others: where it escapes none may follow, and else what follows is reached.
pub record Reaches (escapes : Bool) (b : Before) : Type 0 where
  pub reached : (rest : Stmts) → StmtsReached rest → (escapes ≡ true → rest ≡ Finish) → StmtsReached (b rest)
  pub falling : escapes ≡ false → (rest : Stmts) → all_fall (b rest) ≡ all_fall rest

-- the same of statements that none follows
pub record AloneReached (escapes : Bool) (xs : Stmts) : Type 0 where
  pub reached : StmtsReached xs
  pub falling : escapes ≡ false → all_fall xs ≡ true

pub alone_reached : (escapes : Bool) (b : Before) → Reaches escapes b → AloneReached escapes (b Finish)
alone_reached escapes b x = record { reached = x.reached Finish tt (λ e. refl); falling = λ e. x.falling e Finish }

pub nothing_alone : AloneReached false Finish
nothing_alone = record { reached = tt; falling = λ e. refl }

finish_follows : (b : Bool) → MayFollow b Finish
finish_follows true = tt
finish_follows false = tt

falls_before : (b : Bool) (rest : Stmts) → b ≡ true → MayFollow b rest
falls_before true rest e = tt
falls_before false rest e = absurd (false≢true e)

may_follow : (escapes b : Bool) (rest : Stmts) → (escapes ≡ false → b ≡ true) → (escapes ≡ true → rest ≡ Finish) → MayFollow b rest
may_follow true b rest falls only = subst (MayFollow b) (sym (only refl)) (finish_follows b)
may_follow false b rest falls only = falls_before b rest (falls refl)

pub stmt_reaches : (escapes : Bool) (b : Before) (stmt : Stmt) → ((rest : Stmts) → b rest ≡ Then stmt rest) → StmtReached stmt → (escapes ≡ false → falls stmt ≡ true) → Reaches escapes b
stmt_reaches escapes b stmt is h fall = record {
  reached = λ rest r only. subst StmtsReached (sym (is rest)) (h, may_follow escapes (falls stmt) rest fall only, r);
  falling = λ e rest. ap all_fall (is rest) ∙ ap (λ c. c && all_fall rest) (fall e);
}

-- what does not escape may be followed by all
pub by_any : {rest : Stmts} → false ≡ true → rest ≡ Finish
by_any e = absurd (false≢true e)

pub none_escapes : {ys : List Step} → true ≡ false → ys ≡ []
none_escapes e = absurd (false≢true (sym e))

-- what never escapes
pub never_escapes : (escapes : Bool) (b : Before) → Reaches false b → Reaches escapes b
never_escapes true b x = record { reached = λ rest r only. x.reached rest r by_any; falling = λ e. absurd (false≢true (sym e)) }
never_escapes false b x = x

declared_reached : (xs : List TypedVariable) (rest : Stmts) → StmtsReached rest → StmtsReached (declared xs rest)
declared_reached [] rest h = h
declared_reached (x ∷ xs) rest h = declared_reached xs rest h

declared_fall : (xs : List TypedVariable) (rest : Stmts) → all_fall (declared xs rest) ≡ all_fall rest
declared_fall [] rest = refl
declared_fall (x ∷ xs) rest = declared_fall xs rest

-- declarations
pub declared_reaches : (b : Before) (xs : List TypedVariable) → ((rest : Stmts) → b rest ≡ declared xs rest) → Reaches false b
declared_reaches b xs is = record {
  reached = λ rest r only. subst StmtsReached (sym (is rest)) (declared_reached xs rest r);
  falling = λ e rest. ap all_fall (is rest) ∙ declared_fall xs rest;
}

-- an `if` falls where one of its sides does
pub one_falls : (a b c d : Bool) → (a ≡ false → c ≡ true) → (b ≡ false → d ≡ true) → (a && b) ≡ false → (c || d) ≡ true
one_falls true b true d f g e = refl
one_falls true b false d f g e = g e
one_falls false b c d f g e = ap (λ c. c || d) (f refl)

-- ---- statements in a row

abbrev pub in_a_row : List Step → Before
in_a_row ys rest = in_row (map before (statements_of ys)) rest

one_less : (n : ℕ) → suc (suc n) - 1 ≡ suc (suc n - 1)
one_less n = omega arith

last_of : (y z : Step) (ys : List Step) → last_escapes (y ∷ z ∷ ys) ≡ last_escapes (z ∷ ys)
last_of y z ys = ap (λ n. escapes_if (slice_get (y ∷ z ∷ ys) n)) (one_less (length ys))

pub nothing_reaches : Reaches false (in_a_row [])
nothing_reaches = record { reached = λ rest r only. r; falling = λ e rest. refl }

row_of_one : (y : Step) → Reaches y.escapes (before y.statement) → Reaches (last_escapes (y ∷ [])) (in_a_row (y ∷ []))
row_of_one y h = h

-- one step before others, which are there only where it does not escape
pub row_reaches : (y : Step) (ys : List Step) → Reaches y.escapes (before y.statement) → (y.escapes ≡ true → ys ≡ []) → Reaches (last_escapes ys) (in_a_row ys) → Reaches (last_escapes (y ∷ ys)) (in_a_row (y ∷ ys))
row_reaches y [] h only hs = row_of_one y h
row_reaches y (z ∷ ys) h only hs = pick y.escapes refl
  where
    pick : (c : Bool) → y.escapes ≡ c → Reaches (last_escapes (y ∷ z ∷ ys)) (in_a_row (y ∷ z ∷ ys))
    pick true e = let none = only e in cc
    pick false e = subst (λ c. Reaches c (in_a_row (y ∷ z ∷ ys))) (sym (last_of y z ys)) (record {
      reached = λ rest r last. h.reached (in_a_row (z ∷ ys) rest) (hs.reached rest r last) (λ t. absurd (false≢true (sym e ∙ t)));
      falling = λ t rest. h.falling e (in_a_row (z ∷ ys) rest) ∙ hs.falling t rest;
    })
