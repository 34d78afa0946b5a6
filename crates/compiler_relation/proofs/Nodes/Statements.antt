-- Statements.
use Rattle.std.proofs.Common.{◌≡◌, ◌≢◌, ℕ, suc, ◌≤◌, Bool, true, false, ◌||◌, ◌&&◌, List, [], ◌∷◌, Option, refl, sym, ap, ◌∙◌, subst, arith}
use Rattle.std.specs.Prelude.{slice_set}
use Rattle.pl_types.specs.declared.ty.Ty.{Ty}
use Rattle.object_values.specs.declared.value.Value.{Value}
use Rattle.object_values.specs.declared.value.Value.TheVariants as v
use Rattle.pl_code.specs.declared.kinds.Plain.TheVariants as plain
use Rattle.pl_code.specs.declared.kinds.Numbered.TheVariants as numbered
use Rattle.pl_code.specs.declared.code.Instruction.TheVariants as i
use Rattle.number_ops.specs.Relations.{thrown}
use Rattle.run_state.specs.World.{Limits, End, acts_in}
use Rattle.source_meaning.specs.Tree.{Name, Expr, Maybe, Missing, Given, Stmt, Do, If, While, DoWhile, Try, Block, Break, Continue, Return, Throw, Stmts, Finish, Then, Declare, Catches, NoCatch, Catch, Programs, functions_in, type_of}
use Rattle.source_meaning.specs.Meaning.{State, Env, Out, Done, Flow, Normal, Broke, Continued, Returned, Meaning, bind, effect, goes_next, value_or, stmt_of, stmts_of}
use Rattle.code_meaning.specs.declared.word.Word.{Word}
use Rattle.code_meaning.specs.declared.word.Word.TheVariants.{R}
use Rattle.code_meaning.specs.Words.{unboxed}
use Rattle.code_meaning.specs.Machine.{Codes, Handlers, Next, pushed}
use Rattle.compiler_relation.specs.Representation.{Representation, Unboxed, Boxed, Absent, representation_of, low}
use Rattle.compiler_relation.specs.Parts.{pops}
use Rattle.compiler_relation.specs.Stands.{Entry, Scope, At, AllAt, end_all, end_expr, falls, all_fall, continues, any_continues, end_skip, end_value, end_stmt, end_stmts, next_stmt, next_stmts, next_catches, Jumps, HasLocal, SkipAt, ValueAt}
use Rattle.compiler_relation.proofs.Locals.{Under, Fits, under_more, local_within, declares}
use Rattle.compiler_relation.proofs.Follows.{Ctx, Leads, at, place, does_next, Sim, and_then, done, step_to, lands_on, leaving, tested}
use Rattle.compiler_relation.proofs.Refines.{Any, Good, land_value, land_flow, StmtRuns, StmtsRun, Refines}
use Rattle.compiler_relation.proofs.Nodes.References.{unboxed_boxed, absent_boxed, thrown_alone, throw_does}
use Rattle.compiler_relation.proofs.Nodes.Calls.{default_runs, returns_value}

-- ---- which flows are good for a whole that are good for a part

or_left : (a b : Bool) → a ≡ true → (a || b) ≡ true
or_left true b is = refl
or_left false b is = cc

or_right : (a b : Bool) → b ≡ true → (a || b) ≡ true
or_right true b is = refl
or_right false b is = is

and_both : (a b : Bool) → a ≡ true → b ≡ true → (a && b) ≡ true
and_both true b is is' = is'
and_both false b is is' = cc

pub good_left : (a b x y : Bool) (flow : Flow) → Good a x flow → Good (a || b) (x || y) flow
good_left a b x y Normal is = or_left a b is
good_left a b x y Broke is = tt
good_left a b x y Continued is = or_left x y is
good_left a b x y (Returned value) is = tt

pub good_right : (a b x y : Bool) (flow : Flow) → Good b y flow → Good (a || b) (x || y) flow
good_right a b x y Normal is = or_right a b is
good_right a b x y Broke is = tt
good_right a b x y Continued is = or_right x y is
good_right a b x y (Returned value) is = tt

-- ---- how many locals there are

mutual
  pub next_grows : (n m : ℕ) (t : Stmt) → n ≤ m → n ≤ next_stmt m t
  next_grows n m (Do a) less = less
  next_grows n m (If c a b) less = nexts_grow n (next_stmts m a) b (nexts_grow n m a less)
  next_grows n m (While test update body) less = nexts_grow n m body less
  next_grows n m (DoWhile body test) less = nexts_grow n m body less
  next_grows n m (Try body catches) less = catches_grow n (next_stmts m body) catches (nexts_grow n m body less)
  next_grows n m (Block body) less = nexts_grow n m body less
  next_grows n m Break less = less
  next_grows n m Continue less = less
  next_grows n m (Return value) less = less
  next_grows n m (Throw value) less = less

  pub nexts_grow : (n m : ℕ) (t : Stmts) → n ≤ m → n ≤ next_stmts m t
  nexts_grow n m Finish less = less
  nexts_grow n m (Then t rest) less = nexts_grow n (next_stmt m t) rest (next_grows n m t less)
  nexts_grow n m (Declare x of value rest) less = nexts_grow n (suc m) rest (omega (arith, less))

  catches_grow : (n m : ℕ) (t : Catches) → n ≤ m → n ≤ next_catches m t
  catches_grow n m NoCatch less = less
  catches_grow n m (Catch class x body rest) less = catches_grow n (next_stmts (suc m) body) rest (nexts_grow n (suc m) body (omega (arith, less)))

module _ (funs : Programs) (codes : Codes) (limits : Limits) (c : Ctx codes) (h : Handlers) (g : Scope) where
  -- a value is dropped
  pub pops_run : (k : Representation) (value : Value) (q : ℕ) (s : State) (l st : List Word) → AllAt c.body h q (pops k)
      → {A : Type 0} {land : A → State → List Word → Next} {good : A → Type 0} {o : Out A}
      → Sim codes limits c h g land good (at codes limits c (end_all q (pops k)) l st s) o → Sim codes limits c h g land good (at codes limits c q l (pushed (low k value) st) s) o
  pops_run Unboxed value q s l st a next = step_to codes limits l (unboxed value ∷ st) s a.0 next
  pops_run Boxed value q s l st a next = step_to codes limits l (R value ∷ st) s a.0 next
  pops_run Absent value q s l st a next = next

module _ (funs : Programs) (codes : Codes) (limits : Limits) (m : Meaning) (ih : Refines funs codes limits m) where
  pub do_runs : (a : Expr) → StmtRuns funs codes limits (λ d s e. stmt_of funs limits m d s e (Do a)) (Do a)
  do_runs a c h g n j p s e l stands under f =
      and_then codes limits (ih.expr a c h g p s e l [] stands.0 f) (λ value s e l f _.
      pops_run funs codes limits c h g (representation_of (type_of a)) value _ s l [] stands.1 (done codes limits f refl))

  -- over what follows
  pub over : (c : Ctx codes) (h : Handlers) (falling : Bool) (j : Jumps) (q to : ℕ) (continuing : Bool) → SkipAt c.body h falling q to → (flow : Flow) (s : State) (l : List Word) (r : End (Option Word)) → Good falling continuing flow
      → Leads codes limits (land_flow funs codes limits c j to flow s l) r → Leads codes limits (land_flow funs codes limits c j q flow s l) r
  over c h true j q to continuing a Normal s l r good k = does_next codes limits c h _ _ l [] s r a k
  over c h false j q to continuing a Normal s l r good k = cc
  over c h falling j q to continuing a Broke s l r good k = k
  over c h falling j q to continuing a Continued s l r good k = k
  over c h falling j q to continuing a (Returned value) s l r good k = k

  pub if_runs : (t : Expr) (a b : Stmts) → StmtRuns funs codes limits (λ d s e. stmt_of funs limits m d s e (If t a b)) (If t a b)
  if_runs t a b c h g n j p s e l stands under f =
      let first = suc (end_expr p t) in
      let second = end_skip (all_fall a) (end_stmts first a) in
      and_then codes limits (ih.expr t c h g p s e l [] stands.0 f) (λ value s e l f _.
      step_to codes limits l (pushed (low (representation_of (type_of t)) value) []) s stands.2
      (tested codes limits value (representation_of (type_of t)) [] (λ st. at codes limits c first l st s) (λ st. at codes limits c second l st s) stands.1
      (lands_on codes limits (over c h (all_fall a) j (end_stmts first a) (end_stmt p (If t a b)) (any_continues a) stands.4) (good_left (all_fall a) (all_fall b) (any_continues a) (any_continues b))
      (ih.stmts a c h g n j _ s e l stands.3 under f))
      (lands_on codes limits (λ flow s l r good k. k) (good_right (all_fall a) (all_fall b) (any_continues a) (any_continues b))
      (ih.stmts b c h g (next_stmts n a) j _ s e l stands.5 (under_more n (next_stmts n a) g (nexts_grow n n a (omega arith)) under) f))))

  pub block_runs : (body : Stmts) → StmtRuns funs codes limits (λ d s e. stmt_of funs limits m d s e (Block body)) (Block body)
  block_runs body c h g n j p s e l stands under f = ih.stmts body c h g n j p s e l stands under f

  pub break_runs : StmtRuns funs codes limits (λ d s e. stmt_of funs limits m d s e Break) Break
  break_runs c h g n j p s e l stands under f = step_to codes limits l [] s stands (done codes limits f tt)

  pub continue_runs : StmtRuns funs codes limits (λ d s e. stmt_of funs limits m d s e Continue) Continue
  continue_runs c h g n j p s e l stands under f = step_to codes limits l [] s stands (done codes limits f refl)

  -- a value is returned that is represented as the result is
  gives_value : (c : Ctx codes) (h : Handlers) (g : Scope) (j : Jumps) (to : ℕ) (q : ℕ) (value : Value) (k : Representation) (st : List Word) (s : State) (e : Env) (l : List Word) → k ≡ representation_of c.result → st ≡ pushed (low k value) [] → At c.body h q (i.Plain plain.Ret) → Fits c.body g e l
      → Sim codes limits c h g (land_flow funs codes limits c j to) (Good false false) (at codes limits c q l st s) (Done (Returned value) s e)
  gives_value c h g j to q value k st s e l same is a f = record {
    by = λ r next.
        let representation : st ≡ pushed (low (representation_of c.result) value) [] = is ∙ ap (λ k. pushed (low k value) []) same in
        subst (λ st. Leads codes limits (at codes limits c q l st s) r) (sym representation) (returns_value codes limits c h q value l s r a (next l f tt));
  }

  pub return_runs : (value : Maybe) → StmtRuns funs codes limits (λ d s e. stmt_of funs limits m d s e (Return value)) (Return value)
  return_runs Missing c h g n j p s e l stands under f =
      gives_value c h g j _ p v.Null Absent [] s e l (sym stands.0) refl stands.1 f
  return_runs (Given a) c h g n j p s e l stands under f =
      and_then codes limits (ih.expr a c h g p s e l [] stands.0.0 f) (λ value s e l f _.
      gives_value c h g j _ _ value (representation_of (type_of a)) (pushed (low (representation_of (type_of a)) value) []) s e l stands.0.1 refl stands.1 f)

  pub throw_runs : (a : Expr) → StmtRuns funs codes limits (λ d s e. stmt_of funs limits m d s e (Throw a)) (Throw a)
  throw_runs a c h g n j p s e l stands under f =
      and_then codes limits (ih.expr a c h g p s e l [] stands.0 f) (λ value s e l f _. throws_boxed value (representation_of (type_of a)) s e l stands.1 f)
    where
      throws_boxed : (value : Value) (k : Representation) (s : State) (e : Env) (l : List Word) → k ≡ Boxed → Fits c.body g e l
          → Sim codes limits c h g (land_flow funs codes limits c j (suc (end_expr p a))) (Good false false) (at codes limits c (end_expr p a) l (pushed (low k value) []) s)
          (bind (effect (acts_in s.world (thrown s.world.store value)) s e) (λ value s e. Done Normal s e))
      throws_boxed value Boxed s e l is f =
          step_to codes limits l (R value ∷ []) s stands.2 (throw_does funs codes limits c h g (end_expr p a) _ s e l (R value ∷ []) stands.2 f (λ value s e. Done Normal s e) (thrown s.world.store value) (thrown_alone s.world.store value))
      throws_boxed value Unboxed s e l is f = absurd (unboxed_boxed is)
      throws_boxed value Absent s e l is f = absurd (absent_boxed is)

  pub finish_runs : StmtsRun funs codes limits (λ d s e. stmts_of funs limits m d s e Finish) Finish
  finish_runs c h g n j p s e l stands under f = done codes limits f refl

  pub then_runs : (t : Stmt) (rest : Stmts) → StmtsRun funs codes limits (λ d s e. stmts_of funs limits m d s e (Then t rest)) (Then t rest)
  then_runs t rest c h g n j p s e l stands under f = and_then codes limits (ih.stmt t c h g n j p s e l stands.0 under f) (λ flow s e l f good. next flow s e l f good)
    where
      both : (flow : Flow) → falls t ≡ true → Good (all_fall rest) (any_continues rest) flow → Good (falls t && all_fall rest) (continues t || any_continues rest) flow
      both Normal is good = and_both (falls t) (all_fall rest) is good
      both Broke is good = tt
      both Continued is good = or_right (continues t) (any_continues rest) good
      both (Returned value) is good = tt

      next : (flow : Flow) (s : State) (e : Env) (l : List Word) → Fits c.body g e l → Good (falls t) (continues t) flow
          → Sim codes limits c h g (land_flow funs codes limits c j (end_stmts (end_stmt p t) rest)) (Good (falls t && all_fall rest) (continues t || any_continues rest))
          (land_flow funs codes limits c j (end_stmt p t) flow s l) (goes_next flow s e (m.stmts (place codes limits c) s e rest))
      next Normal s e l f good = lands_on codes limits (λ flow s l r _ k. k) (λ flow good'. both flow good good') (ih.stmts rest c h g (next_stmt n t) j _ s e l stands.1 (under_more n (next_stmt n t) g (next_grows n n t (omega arith)) under) f)
      next Broke s e l f good = done codes limits f tt
      next Continued s e l f good = done codes limits f (or_left (continues t) (any_continues rest) good)
      next (Returned value) s e l f good = done codes limits f tt

  -- a variable's first value
  value_runs : (value : Maybe) (of : Ty) (c : Ctx codes) (h : Handlers) (g : Scope) (p : ℕ) (s : State) (e : Env) (l : List Word) → ValueAt (functions_in funs c.text) c.body h g p value of → Fits c.body g e l
      → Sim codes limits c h g (land_value funs codes limits c (representation_of of) (end_value p value of) []) Any (at codes limits c p l [] s) (value_or funs limits m value of (place codes limits c) s e)
  value_runs Missing of c h g p s e l stands f = record { by = λ r next. default_runs codes limits of c h p l [] s r stands (next l f tt) }
  value_runs (Given a) of c h g p s e l stands f =
      lands_on codes limits (λ value s l r _ k. subst (λ k'. Leads codes limits (at codes limits c (end_expr p a) l (pushed (low k' value) []) s) r) (sym stands.1) k) (λ value y. y) (ih.expr a c h g p s e l [] stands.0 f)

  -- a new variable
  pub store_new : (x : Name) (of : Ty) (n : ℕ) (k : Representation) (value : Value) (c : Ctx codes) (h : Handlers) (g : Scope) (q : ℕ) (s : State) (e : Env) (l : List Word) → k ≡ representation_of of → k ≢ Absent → HasLocal c.body n of → Under n g → At c.body h q (i.Numbered numbered.Store n) → Fits c.body g e l
      → {A : Type 0} {land : A → State → List Word → Next} {good : A → Type 0} {o : Out A}
      → ((l : List Word) → Fits c.body (record { name = x; of = of; local = n } ∷ g) (record { name = x; value = value } ∷ e) l → Sim codes limits c h g land good (at codes limits c (suc q) l [] s) o)
      → Sim codes limits c h g land good (at codes limits c q l (pushed (low k value) []) s) o
  store_new x of n Unboxed value c h g q s e l same some has under a f next =
      step_to codes limits l (unboxed value ∷ []) s a (next (slice_set l n (unboxed value)) (declares c.body g e l (record { name = x; of = of; local = n }) value (unboxed value) (local_within c.body n of has) under (λ absent. some (same ∙ absent)) (ap (λ k. low k value) (sym same)) f))
  store_new x of n Boxed value c h g q s e l same some has under a f next =
      step_to codes limits l (R value ∷ []) s a (next (slice_set l n (R value)) (declares c.body g e l (record { name = x; of = of; local = n }) value (R value) (local_within c.body n of has) under (λ absent. some (same ∙ absent)) (ap (λ k. low k value) (sym same)) f))
  store_new x of n Absent value c h g q s e l same some has under a f next = absurd (some refl)

  pub declare_runs : (x : Name) (of : Ty) (value : Maybe) (rest : Stmts) → StmtsRun funs codes limits (λ d s e. stmts_of funs limits m d s e (Declare x of value rest)) (Declare x of value rest)
  declare_runs x of value rest c h g n j p s e l stands under f =
      let y : Entry = record { name = x; of = of; local = n } in
      and_then codes limits (value_runs value of c h g p s e l stands.0 f) (λ value s e l f _.
      store_new x of n (representation_of of) value c h g _ s e l refl stands.1 stands.2 under stands.3 f (λ l f.
      leaving codes limits y (ih.stmts rest c h (y ∷ g) (suc n) j _ s (record { name = x; value = value } ∷ e) l stands.4 (omega arith, under_more n (suc n) g (omega arith) under) f)))
