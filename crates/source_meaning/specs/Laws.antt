-- What holds of all meanings.
use Rattle.std.specs.Prelude.{◌≡◌, ℕ, ◌≤◌}
use Rattle.run_state.specs.World.{Limits}
use Rattle.source_meaning.specs.Tree.{Expr, Exprs, Stmt, Stmts, Programs}
use Rattle.source_meaning.specs.Meaning.{State, Env, Place, Out, Done, Thrown, Over, More, Meaning, meaning}

-- The first is More, or the second is the first.
abbrev pub Stays : {A : Type 0} → Out A → Out A → Type 0
Stays (Done a s e) other = other ≡ Done a s e
Stays (Thrown id place s e) other = other ≡ Thrown id place s e
Stays (Over limit place w) other = other ≡ Over limit place w
Stays More other = Unit {0}

-- What one meaning says, another says too.
pub record Extends (m other : Meaning) : Type 0 where
  pub expr : (t : Expr) (d : Place) (s : State) (e : Env) → Stays (m.expr d s e t) (other.expr d s e t)
  pub exprs : (t : Exprs) (d : Place) (s : State) (e : Env) → Stays (m.exprs d s e t) (other.exprs d s e t)
  pub stmt : (t : Stmt) (d : Place) (s : State) (e : Env) → Stays (m.stmt d s e t) (other.stmt d s e t)
  pub stmts : (t : Stmts) (d : Place) (s : State) (e : Env) → Stays (m.stmts d s e t) (other.stmts d s e t)

-- What a program comes to at one bound, it comes to at every greater one.
abbrev pub StaysAbove : Type 0
StaysAbove = (funs : Programs) (limits : Limits) (bound greater : ℕ) → bound ≤ greater → Extends (meaning funs limits bound) (meaning funs limits greater)
