-- Loops.
use Rattle.std.proofs.Common.{◌≡◌, ℕ, suc, Bool, true, false, ◌||◌, List, [], ◌∷◌, refl, sym, ap, subst, ◌∙◌}
use Rattle.std.specs.Prelude.{pos}
use Rattle.object_values.specs.declared.value.Value.{Value}
use Rattle.object_values.specs.declared.value.Value.TheVariants as v
use Rattle.pl_code.specs.declared.kinds.Numbered.TheVariants as numbered
use Rattle.pl_code.specs.declared.code.Instruction.TheVariants as i
use Rattle.run_state.specs.World.{Limits, Counted, Counts, Passes, has_loop_limit, take_turn}
use Rattle.source_meaning.specs.Tree.{Maybe, Missing, Given, While, DoWhile, Stmts, Programs, functions_in, type_of}
use Rattle.source_meaning.specs.Meaning.{State, Env, Place, Out, Done, Flow, Normal, Broke, Continued, Returned, Meaning, bind, choose, goes_again, value_if, turned, done_turn, stmt_of}
use Rattle.code_meaning.specs.declared.word.Word.{Word}
use Rattle.code_meaning.specs.declared.word.Word.TheVariants.{I}
use Rattle.code_meaning.specs.Machine.{Codes, Handlers, Next, on_int, on_loops, on_top, on_turn, pushed, unless_zero}
use Rattle.compiler_relation.specs.Representation.{representation_of, low}
use Rattle.compiler_relation.specs.Stands.{Scope, At, end_expr, all_fall, any_continues, goes_on, end_update, end_test, end_last, end_stmt, end_stmts, UpdateAt, TestAt, LastAt}
use Rattle.compiler_relation.proofs.Locals.{Fits}
use Rattle.compiler_relation.proofs.Follows.{Ctx, ended, frame, at, place, Sim, and_then, done, step_to, step_back, tested}
use Rattle.compiler_relation.proofs.Refines.{Good, land_flow, StmtRuns, Refines}
use Rattle.compiler_relation.proofs.Nodes.Statements.{pops_run}

goes_on_true : (body : Stmts) → (all_fall body || any_continues body) ≡ true → goes_on body ≡ true
goes_on_true body is = is

left_true : (a b : Bool) → a ≡ true → (a || b) ≡ true
left_true true b is = refl
left_true false b is = cc

right_true : (a b : Bool) → b ≡ true → (a || b) ≡ true
right_true true b is = refl
right_true false b is = is

module _ (funs : Programs) (codes : Codes) (limits : Limits) (m : Meaning) (ih : Refines funs codes limits m) where
  -- A loop's jump: the text of the function tells whether its turns are limited.
  abbrev jump_of : (c : Ctx codes) (line to : ℕ) (l st : List Word) (s : State) → Bool → Next
  jump_of c line to l st s limited =
      on_top st (λ word stack. on_int word (λ a. unless_zero a
      (on_turn codes limits (take_turn limits limited s.turns s.world) to (frame codes limits c line l st s) c.below s.world stack)
      (at codes limits c (suc line) l stack s)))

  loop_to : (c : Ctx codes) (h : Handlers) (g : Scope) (line to : ℕ) (l st : List Word) (s : State) → At c.body h line (i.Numbered numbered.Loop to)
      → {A : Type 0} {land : A → State → List Word → Next} {good : A → Type 0} {o : Out A}
      → Sim codes limits c h g land good (jump_of c line to l st s (has_loop_limit c.text)) o → Sim codes limits c h g land good (at codes limits c line l st s) o
  loop_to c h g line to l st s a {land = land} {good = good} {o = o} d =
      step_to codes limits l st s a
      (subst (λ n. Sim codes limits c h g land good n o) (sym (ap (λ f. on_loops codes limits f (jump_of c line to l st s)) c.is ∙ ap (jump_of c line to l st s) c.loops)) d)

  -- what is done behind a turn, where it is reached
  update_runs : (reached : Bool) (update : Maybe) (c : Ctx codes) (h : Handlers) (g : Scope) (q : ℕ) (s : State) (e : Env) (l : List Word) → reached ≡ true → UpdateAt (functions_in funs c.text) c.body h g reached q update → Fits c.body g e l
      → {A : Type 0} {land : A → State → List Word → Next} {good : A → Type 0} {next : Value → State → Env → Out A}
      → ((value : Value) (s : State) (e : Env) (l : List Word) → Fits c.body g e l → Sim codes limits c h g land good (at codes limits c (end_update reached q update) l [] s) (next value s e))
      → Sim codes limits c h g land good (at codes limits c q l [] s) (bind (value_if funs limits m update v.Null (place codes limits c) s e) next)
  update_runs true Missing c h g q s e l is stands f next = next v.Null s e l f
  update_runs true (Given a) c h g q s e l is stands f next =
      and_then codes limits (ih.expr a c h g q s e l [] stands.0 f) (λ value s e l f _. pops_run funs codes limits c h g (representation_of (type_of a)) value _ s l [] stands.1 (next value s e l f))
  update_runs false update c h g q s e l is stands f next = cc

  -- a loop's test, and the jump behind it
  test_runs : (test : Maybe) (c : Ctx codes) (h : Handlers) (g : Scope) (q to : ℕ) (s : State) (e : Env) (l : List Word) → TestAt (functions_in funs c.text) c.body h g q test → At c.body h (end_test q test) (i.Numbered numbered.Loop to) → Fits c.body g e l
      → {A : Type 0} {land : A → State → List Word → Next} {good : A → Type 0} {first second : State → Env → Out A}
      → ((s : State) (e : Env) (l st' : List Word) → Fits c.body g e l → Sim codes limits c h g land good (on_turn codes limits (take_turn limits (has_loop_limit c.text) s.turns s.world) to (frame codes limits c (end_test q test) l st' s) c.below s.world []) (first s e))
      → ((s : State) (e : Env) (l : List Word) → Fits c.body g e l → Sim codes limits c h g land good (at codes limits c (suc (end_test q test)) l [] s) (second s e))
      → Sim codes limits c h g land good (at codes limits c q l [] s) (bind (value_if funs limits m test (v.Bool true) (place codes limits c) s e) (λ value s e. choose value (first s e) (second s e)))
  test_runs Missing c h g q to s e l stands a f first second =
      step_to codes limits l [] s stands (loop_to c h g (end_test q Missing) to l (I (pos 1) ∷ []) s a (first s e l (I (pos 1) ∷ []) f))
  test_runs (Given x) c h g q to s e l stands a f first second =
      and_then codes limits (ih.expr x c h g q s e l [] stands.0 f) (λ value s e l f _.
      let k = representation_of (type_of x) in
      let st' = pushed (low k value) [] in
      loop_to c h g (end_test q (Given x)) to l st' s a
      (tested codes limits value k [] (λ st. on_turn codes limits (take_turn limits (has_loop_limit c.text) s.turns s.world) to (frame codes limits c (end_expr q x) l st' s) c.below s.world st) (λ st. at codes limits c (suc (end_expr q x)) l st s) stands.1
      (first s e l st' f) (second s e l f)))

  pub while_runs : (test update : Maybe) (body : Stmts) → StmtRuns funs codes limits (λ d s e. stmt_of funs limits m d s e (While test update body)) (While test update body)
  while_runs test update body c h g n j p s e l stands under f =
      step_to codes limits l [] s stands.0
      (test_runs test c h g line (suc p) s e l stands.3 stands.4 f (λ s e l st' f. turn (take_turn limits (has_loop_limit c.text) s.turns s.world) s e l st' f) (λ s e l f. done codes limits f refl))
    where
      at_update : ℕ
      at_update = end_stmts (suc p) body

      line : ℕ
      line = end_update (goes_on body) at_update update

      out : ℕ
      out = end_stmt p (While test update body)

      once : (s : State) (e : Env) (l : List Word) → goes_on body ≡ true → Fits c.body g e l
          → Sim codes limits c h g (land_flow funs codes limits c j out) (Good true false) (at codes limits c at_update l [] s)
          (bind (value_if funs limits m update v.Null (place codes limits c) s e) (λ value s e. m.stmt (place codes limits c) s e (While test update body)))
      once s e l is f = update_runs (goes_on body) update c h g at_update s e l is stands.2 f (λ value s e l f.
          step_back codes limits l [] s stands.0 (ih.stmt (While test update body) c h g n j p s e l stands under f))

      again : (flow : Flow) (s : State) (e : Env) (l : List Word) → Good (all_fall body) (any_continues body) flow → Fits c.body g e l
          → Sim codes limits c h g (land_flow funs codes limits c j out) (Good true false) (land_flow funs codes limits c (record { out = out; on = at_update }) at_update flow s l)
          (goes_again flow s e (bind (value_if funs limits m update v.Null (place codes limits c) s e) (λ value s e. m.stmt (place codes limits c) s e (While test update body))))
      again Normal s e l good f = once s e l (left_true (all_fall body) (any_continues body) good) f
      again Continued s e l good f = once s e l (right_true (all_fall body) (any_continues body) good) f
      again Broke s e l good f = done codes limits f refl
      again (Returned value) s e l good f = done codes limits f tt

      turn : (t : Counted) (s : State) (e : Env) (l st' : List Word) → Fits c.body g e l
          → Sim codes limits c h g (land_flow funs codes limits c j out) (Good true false) (on_turn codes limits t (suc p) (frame codes limits c (end_test line test) l st' s) c.below s.world []) (turned funs limits m t (place codes limits c) s e test update body)
      turn (Passes limit w') s e l st' f = record { by = ended codes limits _ }
      turn (Counts w) s e l st' f =
          and_then codes limits (ih.stmts body c h g n (record { out = out; on = at_update }) (suc p) (record { world = w; turns = suc s.turns }) e l stands.1 under f) (λ flow s e l f good. again flow s e l good f)

  pub do_while_runs : (body : Stmts) (test : Maybe) → StmtRuns funs codes limits (λ d s e. stmt_of funs limits m d s e (DoWhile body test)) (DoWhile body test)
  do_while_runs body test c h g n j p s e l stands under f =
      step_to codes limits l [] s stands.0
      (step_to codes limits l [] s stands.3
      (loop_to c h g (suc line) (suc p) l (I (pos 1) ∷ []) s stands.4 (turn (take_turn limits (has_loop_limit c.text) s.turns s.world))))
    where
      at_test : ℕ
      at_test = end_stmts (suc p) body

      line : ℕ
      line = end_last (goes_on body) at_test test

      out : ℕ
      out = end_stmt p (DoWhile body test)

      land : Flow → State → List Word → Next
      land = land_flow funs codes limits c j out

      behind : Place → State → Env → Out Flow
      behind d s e = bind (value_if funs limits m test (v.Bool true) d s e) (λ value s e. choose value (m.stmt d s e (DoWhile body test)) (Done Normal s e))

      from_start : (s : State) (e : Env) (l : List Word) → Fits c.body g e l → Sim codes limits c h g land (Good true false) (at codes limits c line l [] s) (m.stmt (place codes limits c) s e (DoWhile body test))
      from_start s e l f = step_back codes limits l [] s stands.0 (ih.stmt (DoWhile body test) c h g n j p s e l stands under f)

      last : (reached : Bool) (test' : Maybe) (q : ℕ) (s : State) (e : Env) (l : List Word) → reached ≡ true → LastAt (functions_in funs c.text) c.body h g reached q test' out → Fits c.body g e l
          → ((s : State) (e : Env) (l : List Word) → Fits c.body g e l → Sim codes limits c h g land (Good true false) (at codes limits c (end_last reached q test') l [] s) (m.stmt (place codes limits c) s e (DoWhile body test)))
          → Sim codes limits c h g land (Good true false) (at codes limits c q l [] s)
          (bind (value_if funs limits m test' (v.Bool true) (place codes limits c) s e) (λ value s e. choose value (m.stmt (place codes limits c) s e (DoWhile body test)) (Done Normal s e)))
      last true Missing q s e l is a f next = next s e l f
      last true (Given x) q s e l is a f next =
          and_then codes limits (ih.expr x c h g q s e l [] a.0 f) (λ value s e l f _.
          step_to codes limits l (pushed (low (representation_of (type_of x)) value) []) s a.2
          (tested codes limits value (representation_of (type_of x)) [] (λ st. at codes limits c (suc (end_expr q x)) l st s) (λ st. at codes limits c out l st s) a.1 (next s e l f) (done codes limits f refl)))
      last false test' q s e l is a f next = cc

      once : (s : State) (e : Env) (l : List Word) → goes_on body ≡ true → Fits c.body g e l → Sim codes limits c h g land (Good true false) (at codes limits c at_test l [] s) (behind (place codes limits c) s e)
      once s e l is f = last (goes_on body) test at_test s e l is stands.2 f from_start

      again : (flow : Flow) (s : State) (e : Env) (l : List Word) → Good (all_fall body) (any_continues body) flow → Fits c.body g e l
          → Sim codes limits c h g land (Good true false) (land_flow funs codes limits c (record { out = out; on = at_test }) at_test flow s l) (goes_again flow s e (behind (place codes limits c) s e))
      again Normal s e l good f = once s e l (left_true (all_fall body) (any_continues body) good) f
      again Continued s e l good f = once s e l (right_true (all_fall body) (any_continues body) good) f
      again Broke s e l good f = done codes limits f refl
      again (Returned value) s e l good f = done codes limits f tt

      turn : (t : Counted)
          → Sim codes limits c h g land (Good true false) (on_turn codes limits t (suc p) (frame codes limits c (suc line) l (I (pos 1) ∷ []) s) c.below s.world []) (done_turn funs limits m t (place codes limits c) s e body test)
      turn (Passes limit w') = record { by = ended codes limits _ }
      turn (Counts w) =
          and_then codes limits (ih.stmts body c h g n (record { out = out; on = at_test }) (suc p) (record { world = w; turns = suc s.turns }) e l stands.1 under f) (λ flow s e l f good. again flow s e l good f)
