-- What is shown of each meaning: that code does it.
use Rattle.std.proofs.Common.{◌≡◌, ℕ, Bool, true, List, [], ◌∷◌, length}
use Rattle.object_values.specs.declared.value.Value.{Value}
use Rattle.run_state.specs.World.{Limits}
use Rattle.source_meaning.specs.Tree.{Expr, Exprs, Stmt, Stmts, Programs, functions_in, type_of}
use Rattle.source_meaning.specs.Meaning.{State, Env, Place, Out, Flow, Normal, Broke, Continued, Returned, Meaning}
use Rattle.code_meaning.specs.declared.word.Word.{Word}
use Rattle.code_meaning.specs.Machine.{Codes, Handlers, Next, gives_back, pushed}
use Rattle.compiler_relation.specs.Representation.{Representation, representation_of, low}
use Rattle.compiler_relation.specs.Stands.{Scope, Jumps, representations, end_expr, end_exprs, end_stmt, end_stmts, ExprAt, ExprsAt, StmtAt, StmtsAt, falls, all_fall, continues, any_continues}
use Rattle.compiler_relation.proofs.Locals.{Fits, Under}
use Rattle.compiler_relation.proofs.Follows.{Ctx, Sim, at, place}

-- values on a stack as they are represented there, the last on the top
abbrev pub push : List Representation → List Value → List Word → List Word
push [] values st = st
push (k ∷ ks) [] st = st
push (k ∷ ks) (value ∷ values) st = push ks values (pushed (low k value) st)

abbrev pub Any : Value → Type 0
Any value = Unit {0}

pub record AreArgs (ks : List Representation) (values : List Value) : Type 0 where
  pub is : length ks ≡ length values

-- a statement is left at its end only where its code falls there, and by a `continue` only where it has one
abbrev pub Good : Bool → Bool → Flow → Type 0
Good falling continuing Normal = falling ≡ true
Good falling continuing Continued = continuing ≡ true
Good falling continuing Broke = Unit {0}
Good falling continuing (Returned value) = Unit {0}

module _ (funs : Programs) (codes : Codes) (limits : Limits) where
  abbrev pub land_value : Ctx codes → Representation → ℕ → List Word → Value → State → List Word → Next
  land_value c k to st value s l = at codes limits c to l (pushed (low k value) st) s

  abbrev pub land_values : Ctx codes → List Representation → ℕ → List Word → List Value → State → List Word → Next
  land_values c ks to st values s l = at codes limits c to l (push ks values st) s

  abbrev pub land_flow : Ctx codes → Jumps → ℕ → Flow → State → List Word → Next
  land_flow c j to Normal s l = at codes limits c to l [] s
  land_flow c j to Broke s l = at codes limits c j.out l [] s
  land_flow c j to Continued s l = at codes limits c j.on l [] s
  land_flow c j to (Returned value) s l = gives_back codes limits c.below c.due (low (representation_of c.result) value) s.world

  abbrev pub ExprRuns : (Place → State → Env → Out Value) → Expr → Type 0
  ExprRuns o t =
      (c : Ctx codes) (h : Handlers) (g : Scope) (p : ℕ) (s : State) (e : Env) (l st : List Word) → ExprAt (functions_in funs c.text) c.body h g p t → Fits c.body g e l
      → Sim codes limits c h g (land_value c (representation_of (type_of t)) (end_expr p t) st) Any (at codes limits c p l st s) (o (place codes limits c) s e)

  abbrev pub ExprsRun : (Place → State → Env → Out (List Value)) → Exprs → Type 0
  ExprsRun o t =
      (c : Ctx codes) (h : Handlers) (g : Scope) (p : ℕ) (s : State) (e : Env) (l st : List Word) → ExprsAt (functions_in funs c.text) c.body h g p t → Fits c.body g e l
      → Sim codes limits c h g (land_values c (representations t) (end_exprs p t) st) (AreArgs (representations t)) (at codes limits c p l st s) (o (place codes limits c) s e)

  abbrev pub StmtRuns : (Place → State → Env → Out Flow) → Stmt → Type 0
  StmtRuns o t =
      (c : Ctx codes) (h : Handlers) (g : Scope) (n : ℕ) (j : Jumps) (p : ℕ) (s : State) (e : Env) (l : List Word) → StmtAt (functions_in funs c.text) c.body h (representation_of c.result) g n j p t → Under n g → Fits c.body g e l
      → Sim codes limits c h g (land_flow c j (end_stmt p t)) (Good (falls t) (continues t)) (at codes limits c p l [] s) (o (place codes limits c) s e)

  abbrev pub StmtsRun : (Place → State → Env → Out Flow) → Stmts → Type 0
  StmtsRun o t =
      (c : Ctx codes) (h : Handlers) (g : Scope) (n : ℕ) (j : Jumps) (p : ℕ) (s : State) (e : Env) (l : List Word) → StmtsAt (functions_in funs c.text) c.body h (representation_of c.result) g n j p t → Under n g → Fits c.body g e l
      → Sim codes limits c h g (land_flow c j (end_stmts p t)) (Good (all_fall t) (any_continues t)) (at codes limits c p l [] s) (o (place codes limits c) s e)

  pub record Refines (m : Meaning) : Type 0 where
    pub expr : (t : Expr) → ExprRuns (λ d s e. m.expr d s e t) t
    pub exprs : (t : Exprs) → ExprsRun (λ d s e. m.exprs d s e t) t
    pub stmt : (t : Stmt) → StmtRuns (λ d s e. m.stmt d s e t) t
    pub stmts : (t : Stmts) → StmtsRun (λ d s e. m.stmts d s e t) t
