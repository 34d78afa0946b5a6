-- Constants, variables, choices and assignments.
use Rattle.std.proofs.Common.{◌≡◌, ◌≢◌, ℕ, suc, Bool, true, false, List, ◌∷◌, Option, Some, None, refl, sym, ap, ◌∙◌, subst}
use Rattle.std.specs.Prelude.{slice_get, slice_set}
use Rattle.pl_types.specs.declared.ty.Ty.{Ty}
use Rattle.object_values.specs.declared.value.Value.{Value}
use Rattle.object_values.specs.declared.value.Value.TheVariants as v
use Rattle.pl_code.specs.declared.kinds.Plain.TheVariants as plain
use Rattle.pl_code.specs.declared.kinds.Numbered.TheVariants as numbered
use Rattle.pl_code.specs.declared.code.Instruction.TheVariants as i
use Rattle.typed_tree.specs.declared.operation.Constant.{Constant}
use Rattle.typed_tree.specs.declared.operation.Constant.TheVariants as constant
use Rattle.typed_tree.specs.declared.operation.Logical.{Logical}
use Rattle.typed_tree.specs.declared.operation.Logical.TheVariants.{And, Or}
use Rattle.typed_tree.specs.declared.operation.Gives.{Gives}
use Rattle.typed_tree.specs.declared.operation.Gives.TheVariants as gives
use Rattle.run_state.specs.World.{Limits}
use Rattle.object_values.specs.Utf16.{units}
use Rattle.source_meaning.specs.Tree.{Name, Expr, Literal, Quoted, Local, Logic, Conditional, Elvis, Exprs, None', One, Programs, type_of}
use Rattle.source_meaning.specs.Operating.{value_of}
use Rattle.source_meaning.specs.Meaning.{State, Env, Out, Done, Meaning, found, lookup, assigned, unless_null, given_by, expr_of, exprs_of}
use Rattle.code_meaning.specs.declared.word.Word.{Word}
use Rattle.code_meaning.specs.declared.word.Word.TheVariants.{R}
use Rattle.code_meaning.specs.Words.{unboxed}
use Rattle.code_meaning.specs.Machine.{Codes, Handlers, Next, on_local, if_null, pushed, act, to_line}
use Rattle.compiler_relation.specs.Representation.{Representation, Unboxed, Boxed, Absent, representation_of, low}
use Rattle.compiler_relation.specs.Parts.{constant_code, kept_before, kept_behind}
use Rattle.compiler_relation.specs.Stands.{Entry, Scope, entry_of, At, AllAt, end_all, elvis_right, end_expr, settled, literal_representation}
use Rattle.compiler_relation.proofs.Locals.{Fits, reads, writes}
use Rattle.compiler_relation.proofs.Follows.{Ctx, Leads, frame, at, place, does_next, Sim, and_then, done, step_to, lands_on, tested}
use Rattle.compiler_relation.proofs.Refines.{Any, land_value, ExprRuns, ExprsRun, Refines}
use Rattle.compiler_relation.proofs.Nodes.Operands.{boxed_unboxed, absent_unboxed}

-- what lies below a change, and behind it
abbrev pub kept_old : Representation → Gives → Value → List Word → List Word
kept_old k gives.Old value st = pushed (low k value) st
kept_old k gives.New value st = st

abbrev pub kept_new : Representation → Gives → Value → List Word → List Word
kept_new k gives.Old value st = st
kept_new k gives.New value st = pushed (low k value) st

-- the value that settles `&&` or `||`
abbrev pub short : Logical → Bool
short And = false
short Or = true

module _ (funs : Programs) (codes : Codes) (limits : Limits) (c : Ctx codes) (h : Handlers) (g : Scope) where
  literal_does : (x : Constant) (k : Representation) (q : ℕ) (s : State) (e : Env) (l st : List Word) → k ≡ literal_representation x → Fits c.body g e l
      → Sim codes limits c h g (land_value funs codes limits c k (suc q) st) Any (act codes limits (constant_code x) (frame codes limits c q l st s) c.below s.world) (Done (value_of x) s e)
  literal_does constant.Null Boxed q s e l st is f = done codes limits f tt
  literal_does constant.Null Unboxed q s e l st is f = absurd (boxed_unboxed (sym is))
  literal_does constant.Null Absent q s e l st is f = cc
  literal_does (constant.Boolean a) Unboxed q s e l st is f = done codes limits f tt
  literal_does (constant.Boolean a) Boxed q s e l st is f = absurd (boxed_unboxed is)
  literal_does (constant.Boolean a) Absent q s e l st is f = absurd (absent_unboxed is)
  literal_does (constant.Byte a) Unboxed q s e l st is f = done codes limits f tt
  literal_does (constant.Byte a) Boxed q s e l st is f = absurd (boxed_unboxed is)
  literal_does (constant.Byte a) Absent q s e l st is f = absurd (absent_unboxed is)
  literal_does (constant.Short a) Unboxed q s e l st is f = done codes limits f tt
  literal_does (constant.Short a) Boxed q s e l st is f = absurd (boxed_unboxed is)
  literal_does (constant.Short a) Absent q s e l st is f = absurd (absent_unboxed is)
  literal_does (constant.Char a) Unboxed q s e l st is f = done codes limits f tt
  literal_does (constant.Char a) Boxed q s e l st is f = absurd (boxed_unboxed is)
  literal_does (constant.Char a) Absent q s e l st is f = absurd (absent_unboxed is)
  literal_does (constant.Int a) Unboxed q s e l st is f = done codes limits f tt
  literal_does (constant.Int a) Boxed q s e l st is f = absurd (boxed_unboxed is)
  literal_does (constant.Int a) Absent q s e l st is f = absurd (absent_unboxed is)
  literal_does (constant.Long a) Unboxed q s e l st is f = done codes limits f tt
  literal_does (constant.Long a) Boxed q s e l st is f = absurd (boxed_unboxed is)
  literal_does (constant.Long a) Absent q s e l st is f = absurd (absent_unboxed is)

  -- a word is loaded
  load_word : (k k' : Representation) (value : Value) (word : Option Word) (q : ℕ) (s : State) (e : Env) (l st st' : List Word) → k ≡ k' → word ≡ low k' value → k' ≢ Absent → Fits c.body g e l
      → Sim codes limits c h g (land_value funs codes limits c k (suc q) st) Any (on_local word (λ word. to_line (frame codes limits c q l st' s) c.below s.world (suc q) (word ∷ st))) (Done value s e)
  load_word Unboxed Unboxed value word q s e l st st' same is some f =
      subst (λ o. Sim codes limits c h g (land_value funs codes limits c Unboxed (suc q) st) Any (on_local o (λ word. to_line (frame codes limits c q l st' s) c.below s.world (suc q) (word ∷ st))) (Done value s e)) (sym is) (done codes limits f tt)
  load_word Boxed Boxed value word q s e l st st' same is some f =
      subst (λ o. Sim codes limits c h g (land_value funs codes limits c Boxed (suc q) st) Any (on_local o (λ word. to_line (frame codes limits c q l st' s) c.below s.world (suc q) (word ∷ st))) (Done value s e)) (sym is) (done codes limits f tt)
  load_word k Absent value word q s e l st st' same is some f = absurd (some refl)
  load_word Unboxed Boxed value word q s e l st st' same is some f = absurd (boxed_unboxed (sym same))
  load_word Boxed Unboxed value word q s e l st st' same is some f = absurd (boxed_unboxed same)
  load_word Absent Unboxed value word q s e l st st' same is some f = absurd (absent_unboxed same)
  load_word Absent Boxed value word q s e l st st' same is some f = absurd (some (sym same))

  pub load_does : (k k' : Representation) (o : Option Value) (word : Option Word) (q : ℕ) (s : State) (e : Env) (l st st' : List Word) → k ≡ k' → ((value : Value) → o ≡ Some value → (word ≡ low k' value) × (k' ≢ Absent)) → Fits c.body g e l
      → Sim codes limits c h g (land_value funs codes limits c k (suc q) st) Any (on_local word (λ word. to_line (frame codes limits c q l st' s) c.below s.world (suc q) (word ∷ st))) (found o s e)
  load_does k k' None word q s e l st st' same has f = record { by = tt }
  load_does k k' (Some value) word q s e l st st' same has f = let r = has value refl in load_word k k' value word q s e l st st' same r.0 r.1 f

  -- a word is stored, as the entry's type has it
  pub store_runs : (x : Name) (y : Entry) (k : Representation) (value : Value) (q : ℕ) (s : State) (e : Env) (l st : List Word) → entry_of g x ≡ Some y → k ≡ representation_of y.of → k ≢ Absent → At c.body h q (i.Numbered numbered.Store y.local) → Fits c.body g e l
      → {A : Type 0} {land : A → State → List Word → Next} {good : A → Type 0} {o : Out A}
      → ((l : List Word) → Fits c.body g (assigned e x value) l → Sim codes limits c h g land good (at codes limits c (suc q) l st s) o)
      → Sim codes limits c h g land good (at codes limits c q l (pushed (low k value) st) s) o
  store_runs x y Unboxed value q s e l st is same some a f next =
      step_to codes limits l (unboxed value ∷ st) s a (next (slice_set l y.local (unboxed value)) (writes c.body g e l x y value (unboxed value) is (ap (λ k. low k value) (sym same)) f))
  store_runs x y Boxed value q s e l st is same some a f next =
      step_to codes limits l (R value ∷ st) s a (next (slice_set l y.local (R value)) (writes c.body g e l x y value (R value) is (ap (λ k. low k value) (sym same)) f))
  store_runs x y Absent value q s e l st is same some a f next = absurd (some refl)

  -- a word is doubled
  pub double_runs : (k : Representation) (value : Value) (q : ℕ) (s : State) (l st : List Word) → k ≢ Absent → At c.body h q (i.Plain plain.Dup)
      → {A : Type 0} {land : A → State → List Word → Next} {good : A → Type 0} {o : Out A}
      → Sim codes limits c h g land good (at codes limits c (suc q) l (pushed (low k value) (pushed (low k value) st)) s) o
      → Sim codes limits c h g land good (at codes limits c q l (pushed (low k value) st) s) o
  double_runs Unboxed value q s l st some a next = step_to codes limits l (unboxed value ∷ st) s a next
  double_runs Boxed value q s l st some a next = step_to codes limits l (R value ∷ st) s a next
  double_runs Absent value q s l st some a next = absurd (some refl)

  -- the same where an assignment gives the old or the new value
  pub keeps_before : (x : Gives) (k : Representation) (value : Value) (q : ℕ) (s : State) (l st : List Word) → k ≢ Absent → AllAt c.body h q (kept_before 0 x)
      → {A : Type 0} {land : A → State → List Word → Next} {good : A → Type 0} {o : Out A}
      → Sim codes limits c h g land good (at codes limits c (end_all q (kept_before 0 x)) l (pushed (low k value) (kept_old k x value st)) s) o
      → Sim codes limits c h g land good (at codes limits c q l (pushed (low k value) st) s) o
  keeps_before gives.Old k value q s l st some a next = double_runs k value q s l st some a.0 next
  keeps_before gives.New k value q s l st some a next = next

  pub keeps_behind : (x : Gives) (k : Representation) (value : Value) (q : ℕ) (s : State) (l st : List Word) → k ≢ Absent → AllAt c.body h q (kept_behind 0 x)
      → {A : Type 0} {land : A → State → List Word → Next} {good : A → Type 0} {o : Out A}
      → Sim codes limits c h g land good (at codes limits c (end_all q (kept_behind 0 x)) l (pushed (low k value) (kept_new k x value st)) s) o
      → Sim codes limits c h g land good (at codes limits c q l (pushed (low k value) st) s) o
  keeps_behind gives.Old k value q s l st some a next = next
  keeps_behind gives.New k value q s l st some a next = double_runs k value q s l st some a.0 next

  pub old_and_new : (x : Gives) (k : Representation) (old new : Value) (st : List Word) → kept_new k x new (kept_old k x old st) ≡ pushed (low k (given_by x old new)) st
  old_and_new gives.Old k old new st = refl
  old_and_new gives.New k old new st = refl

  -- null goes on to the second place
  null_tested : (value : Value) (first second : Next) {land : Value → State → List Word → Next} {good : Value → Type 0} {o o' : Out Value} → Sim codes limits c h g land good first o → Sim codes limits c h g land good second o'
      → Sim codes limits c h g land good (if_null value second first) (unless_null value o o')
  null_tested v.Null first second d d' = d'
  null_tested (v.Bool a) first second d d' = d
  null_tested (v.Byte a) first second d d' = d
  null_tested (v.Short a) first second d d' = d
  null_tested (v.Char a) first second d d' = d
  null_tested (v.Int a) first second d d' = d
  null_tested (v.Long a) first second d d' = d
  null_tested (v.Str a) first second d d' = d
  null_tested (v.Ref a) first second d d' = d

module _ (funs : Programs) (codes : Codes) (limits : Limits) (m : Meaning) (ih : Refines funs codes limits m) where
  pub literal_runs : (at' : ℕ) (of : Ty) (x : Constant) → ExprRuns funs codes limits (λ d s e. expr_of funs limits m d s e (Literal at' of x)) (Literal at' of x)
  literal_runs at' of x c h g p s e l st stands f = step_to codes limits l st s stands.0 (literal_does funs codes limits c h g x (representation_of of) p s e l st stands.1 f)

  pub quoted_runs : (at' : ℕ) (of : Ty) (text : List ℕ) → ExprRuns funs codes limits (λ d s e. expr_of funs limits m d s e (Quoted at' of text)) (Quoted at' of text)
  quoted_runs at' of text c h g p s e l st stands f =
      step_to codes limits l st s stands.0
      (subst (λ k. Sim codes limits c h g (land_value funs codes limits c k (suc p) st) Any (at codes limits c (suc p) l (R (v.Str (units text)) ∷ st) s) (Done (v.Str (units text)) s e)) (sym stands.1) (done codes limits f tt))

  pub local_runs : (at' : ℕ) (of : Ty) (x : Name) → ExprRuns funs codes limits (λ d s e. expr_of funs limits m d s e (Local at' of x)) (Local at' of x)
  local_runs at' of x c h g p s e l st stands f =
      step_to codes limits l st s stands.3
      (load_does funs codes limits c h g (representation_of of) (representation_of stands.0.of) (lookup e x) (slice_get l stands.0.local) p s e l st st stands.2 (reads g e l x stands.0 stands.1.is f.names) f)

  pub none_runs : ExprsRun funs codes limits (λ d s e. exprs_of funs limits m d s e None') None'
  none_runs c h g p s e l st stands f = done codes limits f (record { is = refl })

  pub one_runs : (a : Expr) (others : Exprs) → ExprsRun funs codes limits (λ d s e. exprs_of funs limits m d s e (One a others)) (One a others)
  one_runs a others c h g p s e l st stands f =
      and_then codes limits (ih.expr a c h g p s e l st stands.0 f) (λ value s e l f _.
      and_then codes limits (ih.exprs others c h g _ s e l (pushed (low (representation_of (type_of a)) value) st) stands.1 f) (λ values s e l f y.
      done codes limits f (record { is = ap suc y.is })))

  pub conditional_runs : (at' : ℕ) (of : Ty) (t a b : Expr) → ExprRuns funs codes limits (λ d s e. expr_of funs limits m d s e (Conditional at' of t a b)) (Conditional at' of t a b)
  conditional_runs at' of t a b c h g p s e l st stands f =
      and_then codes limits (ih.expr t c h g p s e l st stands.0 f) (λ value s e l f _.
      step_to codes limits l (pushed (low (representation_of (type_of t)) value) st) s stands.1
      (tested codes limits value (representation_of (type_of t)) st (λ st. at codes limits c (suc (end_expr p t)) l st s) (λ st. at codes limits c (suc (end_expr (suc (end_expr p t)) a)) l st s) stands.5
      (lands_on codes limits (λ value s l r _ k. does_next codes limits c h _ _ l (pushed (low (representation_of (type_of a)) value) st) s r stands.3
      (subst (λ k'. Leads codes limits (at codes limits c (end_expr p (Conditional at' of t a b)) l (pushed (low k' value) st) s) r) (sym stands.6) k)) (λ value y. y)
      (ih.expr a c h g _ s e l st stands.2 f))
      (lands_on codes limits (λ value s l r _ k. subst (λ k'. Leads codes limits (at codes limits c (end_expr p (Conditional at' of t a b)) l (pushed (low k' value) st) s) r) (sym stands.7) k) (λ value y. y)
      (ih.expr b c h g _ s e l st stands.4 f))))

  pub elvis_runs : (at' : ℕ) (of : Ty) (left right : Expr) → ExprRuns funs codes limits (λ d s e. expr_of funs limits m d s e (Elvis at' of left right)) (Elvis at' of left right)
  elvis_runs at' of left right c h g p s e l st stands f =
      let here = end_expr p left in
      let to = end_expr (elvis_right here) right in
      and_then codes limits (ih.expr left c h g p s e l st stands.0 f) (λ value s e l f _.
      subst (λ k. Sim codes limits c h g (land_value funs codes limits c (representation_of of) to st) Any (at codes limits c here l (pushed (low k value) st) s) (unless_null value (Done value s e) (m.expr (place codes limits c) s e right))) (sym stands.6)
      (step_to codes limits l (R value ∷ st) s stands.1
      (step_to codes limits l (R value ∷ R value ∷ st) s stands.2
      (null_tested funs codes limits c h g value (at codes limits c (suc (suc here)) l (R value ∷ st) s) (at codes limits c (suc (suc (suc here))) l (R value ∷ st) s)
      (step_to codes limits l (R value ∷ st) s stands.3
      (subst (λ k. Sim codes limits c h g (land_value funs codes limits c k to st) Any (at codes limits c to l (R value ∷ st) s) (Done value s e)) (sym stands.8) (done codes limits f tt)))
      (step_to codes limits l (R value ∷ st) s stands.4
      (lands_on codes limits (λ value s l r _ k. subst (λ k'. Leads codes limits (at codes limits c to l (pushed (low k' value) st) s) r) (stands.8 ∙ sym stands.7) k) (λ value y. y)
      (ih.expr right c h g _ s e l st stands.5 f)))))))

  -- the value that settles `&&` or `||`
  settled_does : (x : Logical) (k : Representation) (c : Ctx codes) (h : Handlers) (g : Scope) (q : ℕ) (s : State) (e : Env) (l st : List Word) → k ≡ Unboxed → Fits c.body g e l
      → Sim codes limits c h g (land_value funs codes limits c k (suc q) st) Any (act codes limits (settled x) (frame codes limits c q l st s) c.below s.world) (Done (v.Bool (short x)) s e)
  settled_does And Unboxed c h g q s e l st is f = done codes limits f tt
  settled_does Or Unboxed c h g q s e l st is f = done codes limits f tt
  settled_does x Boxed c h g q s e l st is f = absurd (boxed_unboxed is)
  settled_does x Absent c h g q s e l st is f = absurd (absent_unboxed is)

  pub logic_runs : (at' : ℕ) (of : Ty) (x : Logical) (left right : Expr) → ExprRuns funs codes limits (λ d s e. expr_of funs limits m d s e (Logic at' of x left right)) (Logic at' of x left right)
  logic_runs at' of And left right c h g p s e l st stands f =
      let from = suc (end_expr p left) in
      let here = end_expr from right in
      and_then codes limits (ih.expr left c h g p s e l st stands.0 f) (λ value s e l f _.
      step_to codes limits l (pushed (low (representation_of (type_of left)) value) st) s stands.1
      (tested codes limits value (representation_of (type_of left)) st (λ st. at codes limits c from l st s) (λ st. at codes limits c (suc here) l st s) stands.5
      (lands_on codes limits (λ value s l r _ k. does_next codes limits c h _ _ l (pushed (low (representation_of (type_of right)) value) st) s r stands.3
      (subst (λ k'. Leads codes limits (at codes limits c (suc (suc here)) l (pushed (low k' value) st) s) r) (stands.7 ∙ sym stands.6) k)) (λ value y. y)
      (ih.expr right c h g _ s e l st stands.2 f))
      (step_to codes limits l st s stands.4 (settled_does And (representation_of of) c h g (suc here) s e l st stands.7 f))))
  logic_runs at' of Or left right c h g p s e l st stands f =
      let from = suc (end_expr p left) in
      let here = end_expr from right in
      and_then codes limits (ih.expr left c h g p s e l st stands.0 f) (λ value s e l f _.
      step_to codes limits l (pushed (low (representation_of (type_of left)) value) st) s stands.1
      (tested codes limits value (representation_of (type_of left)) st (λ st. at codes limits c (suc here) l st s) (λ st. at codes limits c from l st s) stands.5
      (step_to codes limits l st s stands.4 (settled_does Or (representation_of of) c h g (suc here) s e l st stands.7 f))
      (lands_on codes limits (λ value s l r _ k. does_next codes limits c h _ _ l (pushed (low (representation_of (type_of right)) value) st) s r stands.3
      (subst (λ k'. Leads codes limits (at codes limits c (suc (suc here)) l (pushed (low k' value) st) s) r) (stands.7 ∙ sym stands.6) k)) (λ value y. y)
      (ih.expr right c h g _ s e l st stands.2 f))))
