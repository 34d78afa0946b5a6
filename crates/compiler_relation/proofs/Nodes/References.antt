-- Operators between references, what is thrown, and then each operator.
use Rattle.std.proofs.Common.{◌≡◌, ℕ, suc, Bool, true, false, not, List, [], ◌∷◌, length, Option, Some, None, refl, sym, subst, arith}
use Rattle.std.specs.Prelude.{pos}
use Rattle.std.specs.Ordering.{int_eq}
use Rattle.arithmetic.specs.declared.operator.Num.{Num}
use Rattle.arithmetic.specs.Operators.{as_long}
use Rattle.object_values.specs.declared.object.Object.{Object}
use Rattle.object_values.specs.declared.object.Object.TheVariants as object
use Rattle.object_values.specs.declared.value.Value.{Value}
use Rattle.object_values.specs.declared.value.Value.TheVariants as v
use Rattle.object_heap.specs.Effects.{Effect, Gives, Throws, NoRoom, after_paying}
use Rattle.object_heap.specs.Store.{Store}
use Rattle.number_ops.specs.declared.outcome.Outcome.{Outcome}
use Rattle.number_ops.specs.declared.outcome.Outcome.TheVariants as outcome
use Rattle.number_ops.specs.Operators.{number_in, concatenated}
use Rattle.number_ops.specs.Order.{found_of}
use Rattle.number_ops.specs.Outcomes.{effect}
use Rattle.number_ops.specs.Relations.{equal, equal_if, is_same, thrown, thrown_if}
use Rattle.number_ops.specs.value_walks_declared.equality.Walked.{Walked}
use Rattle.number_ops.specs.value_walks_declared.equality.Walked.TheVariants.{On, Deep, Large}
use Rattle.pl_code.specs.declared.code.Instruction.{Instruction}
use Rattle.typed_tree.specs.declared.operation.Operator.{Operator}
use Rattle.typed_tree.specs.declared.operation.Operator.TheVariants as operator
use Rattle.run_state.specs.World.{Limits, not_told, acts_in}
use Rattle.source_meaning.specs.Tree.{Programs}
use Rattle.source_meaning.specs.Operating.{Meaningless, operands_of, negated, of_references, reference_operated, operates}
use Rattle.source_meaning.specs.Meaning.{State, Env, Out, Done, bind, operated}
use Rattle.source_meaning.specs.Meaning as meaning
use Rattle.code_meaning.specs.declared.word.Word.{Word}
use Rattle.code_meaning.specs.declared.word.Word.TheVariants.{I, R}
use Rattle.code_meaning.specs.Words.{unboxed, bit}
use Rattle.code_meaning.specs.Machine.{Codes, Handlers, Next, on_outcome, on_thrown}
use Rattle.compiler_relation.specs.Representation.{Representation, Unboxed, Boxed, Absent}
use Rattle.compiler_relation.specs.Parts.{operator_code, operator_takes, operator_gives, turned_round}
use Rattle.compiler_relation.specs.Stands.{Scope, At, AllAt, end_all, AllRepresented, HasCode}
use Rattle.compiler_relation.proofs.Locals.{Fits}
use Rattle.compiler_relation.proofs.Follows.{Ctx, Sim, at, frame, ended, done, step_to, throws}
use Rattle.compiler_relation.proofs.Refines.{push, Any, land_value}
use Rattle.compiler_relation.proofs.Nodes.Dynamic.{dynamic_runs}
use Rattle.compiler_relation.proofs.Nodes.Operands.{stack_is, outcome_runs, ints_run, longs_run, flags_run}

pub unboxed_boxed : Unboxed ≡ Boxed → ⊥
unboxed_boxed e = cc

pub absent_boxed : Absent ≡ Boxed → ⊥
absent_boxed e = cc

-- ---- what `==` and `throw` come to

-- a truth value, or an exception
abbrev IsFlag : Outcome → Type 0
IsFlag (outcome.Gives value) = (flag : Bool) × (value ≡ v.Bool flag)
IsFlag (outcome.Throws raised message) = Unit {0}
IsFlag (outcome.Makes text) = ⊥
IsFlag outcome.NoMemory = ⊥

found_is_flag : (x : Walked) → IsFlag (found_of x)
unfolding Rattle.number_ops.specs.Outcomes.says
found_is_flag (On flag visits) = (flag, refl)
found_is_flag Deep = tt
found_is_flag Large = tt

numbers_are_flag : (objects : List Object) (a b : Value) (x y : Option Num) → IsFlag (equal_if objects a b x y)
numbers_are_flag objects a b (Some x) (Some y) = (int_eq (as_long x) (as_long y), refl)
numbers_are_flag objects a b (Some x) None = found_is_flag _
numbers_are_flag objects a b None y = found_is_flag _

equal_is_flag : (objects : List Object) (a b : Value) → IsFlag (equal objects a b)
unfolding equal
equal_is_flag objects a b = numbers_are_flag objects a b (number_in a) (number_in b)

-- gives nothing
abbrev pub Alone : Effect → Type 0
Alone (Gives value store) = ⊥
Alone (Throws id store) = Unit {0}
Alone NoRoom = Unit {0}

paid_alone : (x : Option Store) (id : ℕ) → Alone (after_paying x (λ paid. Throws id paid))
paid_alone None id = tt
paid_alone (Some store) id = tt

of_object_alone : (store : Store) (id : ℕ) (x : Option Object) → Alone (thrown_if store id x)
of_object_alone store id None = paid_alone _ _
of_object_alone store id (Some (object.Exc class message)) = tt
of_object_alone store id (Some x) = paid_alone _ _

pub thrown_alone : (store : Store) (value : Value) → Alone (thrown store value)
unfolding thrown
thrown_alone store v.Null = paid_alone _ _
thrown_alone store (v.Ref id) = of_object_alone store id _
thrown_alone store (v.Bool a) = paid_alone _ _
thrown_alone store (v.Byte a) = paid_alone _ _
thrown_alone store (v.Short a) = paid_alone _ _
thrown_alone store (v.Char a) = paid_alone _ _
thrown_alone store (v.Int a) = paid_alone _ _
thrown_alone store (v.Long a) = paid_alone _ _
thrown_alone store (v.Str a) = paid_alone _ _

-- no operator between references
nothing : (o : Operator) (store : Store) → ((a b : Value) → of_references o a b store ≡ Meaningless) → (values : List Value) → reference_operated o values store ≡ Meaningless
nothing o store is [] = refl
nothing o store is (a ∷ []) = refl
nothing o store is (a ∷ b ∷ []) = is a b
nothing o store is (a ∷ b ∷ x ∷ values) = refl

module _ (funs : Programs) (codes : Codes) (limits : Limits) (c : Ctx codes) (h : Handlers) (g : Scope) where
  -- an effect that gives nothing
  raises : (q : ℕ) (i' : Instruction) (s : State) (e : Env) (l st st' : List Word) (word : Value → Word) → At c.body h q i' → Fits c.body g e l → (x : Effect) → Alone x
      → {land : Value → State → List Word → Next} {good : Value → Type 0}
      → Sim codes limits c h g land good (on_outcome codes limits (acts_in s.world x) word (frame codes limits c q l st' s) c.below s.world st) (meaning.effect (acts_in s.world x) s e)
  unfolding acts_in
  raises q i' s e l st st' word a f (Gives value store) alone = absurd alone
  raises q i' s e l st st' word a f (Throws id store) alone = record { by = λ r d. throws codes limits c h q i' l st' id not_told _ r a (d l f) }
  raises q i' s e l st st' word a f NoRoom alone = record { by = ended codes limits _ }

  -- the same of `throw`
  pub throw_does : {A : Type 0} (q : ℕ) (i' : Instruction) (s : State) (e : Env) (l st' : List Word) → At c.body h q i' → Fits c.body g e l → (k : Value → State → Env → Out A) (x : Effect) → Alone x
      → {land : A → State → List Word → Next} {good : A → Type 0}
      → Sim codes limits c h g land good (on_thrown codes limits (acts_in s.world x) (frame codes limits c q l st' s) c.below s.world) (bind (meaning.effect (acts_in s.world x) s e) k)
  unfolding acts_in
  throw_does q i' s e l st' a f k (Gives value store) alone = absurd alone
  throw_does q i' s e l st' a f k (Throws id store) alone = record { by = λ r d. throws codes limits c h q i' l st' id not_told _ r a (d l f) }
  throw_does q i' s e l st' a f k NoRoom alone = record { by = ended codes limits _ }

  -- a truth value is turned round
  turned_runs : (flag : Bool) (q : ℕ) (s : State) (e : Env) (l st : List Word) → AllAt c.body h q turned_round → Fits c.body g e l
      → Sim codes limits c h g (land_value funs codes limits c Unboxed (suc (suc q)) st) Any (at codes limits c q l (I (bit flag) ∷ st) s) (Done (v.Bool (not flag)) s e)
  turned_runs true q s e l st x f = step_to codes limits l (I (bit true) ∷ st) s x.0 (step_to codes limits l (I (pos 0) ∷ I (bit true) ∷ st) s x.1.0 (done codes limits f tt))
  turned_runs false q s e l st x f = step_to codes limits l (I (bit false) ∷ st) s x.0 (step_to codes limits l (I (pos 0) ∷ I (bit false) ∷ st) s x.1.0 (done codes limits f tt))

  not_equal_does : (q : ℕ) (i' : Instruction) (s : State) (e : Env) (l st st' : List Word) → At c.body h q i' → AllAt c.body h (suc q) turned_round → Fits c.body g e l → (x : Outcome) → IsFlag x
      → Sim codes limits c h g (land_value funs codes limits c Unboxed (suc (suc (suc q))) st) Any
      (on_outcome codes limits (acts_in s.world (effect s.world.store x)) unboxed (frame codes limits c q l st' s) c.below s.world st) (meaning.effect (acts_in s.world (effect s.world.store (negated x))) s e)
  unfolding acts_in
  not_equal_does q i' s e l st st' a turns f (outcome.Gives value) is =
      subst (λ value. Sim codes limits c h g (land_value funs codes limits c Unboxed (suc (suc (suc q))) st) Any
      (on_outcome codes limits (acts_in s.world (effect s.world.store (outcome.Gives value))) unboxed (frame codes limits c q l st' s) c.below s.world st) (meaning.effect (acts_in s.world (effect s.world.store (negated (outcome.Gives value)))) s e))
      (sym is.1) (flags is.0)
    where
      flags : (flag : Bool) → Sim codes limits c h g (land_value funs codes limits c Unboxed (suc (suc (suc q))) st) Any
          (on_outcome codes limits (acts_in s.world (effect s.world.store (outcome.Gives (v.Bool flag)))) unboxed (frame codes limits c q l st' s) c.below s.world st)
          (meaning.effect (acts_in s.world (effect s.world.store (negated (outcome.Gives (v.Bool flag))))) s e)
      flags flag = turned_runs flag (suc q) _ e l st turns f
  not_equal_does q i' s e l st st' a turns f (outcome.Throws raised message) is = raises q i' s e l st st' unboxed a f (effect s.world.store (outcome.Throws raised message)) (paid_alone _ _)
  not_equal_does q i' s e l st st' a turns f (outcome.Makes text) is = absurd is
  not_equal_does q i' s e l st st' a turns f outcome.NoMemory is = absurd is

  -- two references off the stack
  references_run : (o : Operator) (k : Representation) (q : ℕ) (s : State) (e : Env) (l st : List Word)
      → ((a b : Value) → Sim codes limits c h g (land_value funs codes limits c k (end_all q (operator_code o)) st) Any (at codes limits c q l (R b ∷ R a ∷ st) s) (operated (of_references o a b s.world.store) s e))
      → (ks : List Representation) (values : List Value) → AllRepresented Boxed ks → length ks ≡ length values
      → Sim codes limits c h g (land_value funs codes limits c k (end_all q (operator_code o)) st) Any (at codes limits c q l (push ks values st) s) (operated (reference_operated o values s.world.store) s e)
  references_run o k q s e l st next ks [] lie same = record { by = tt }
  references_run o k q s e l st next ks (a ∷ []) lie same = record { by = tt }
  references_run o k q s e l st next [] (a ∷ b ∷ []) lie same = absurd (omega arith)
  references_run o k q s e l st next (x ∷ []) (a ∷ b ∷ []) lie same = absurd (omega arith)
  references_run o k q s e l st next (Boxed ∷ Boxed ∷ []) (a ∷ b ∷ []) lie same = next a b
  references_run o k q s e l st next (Unboxed ∷ x ∷ []) (a ∷ b ∷ []) lie same = absurd (unboxed_boxed lie.0)
  references_run o k q s e l st next (Absent ∷ x ∷ []) (a ∷ b ∷ []) lie same = absurd (absent_boxed lie.0)
  references_run o k q s e l st next (Boxed ∷ Unboxed ∷ []) (a ∷ b ∷ []) lie same = absurd (unboxed_boxed lie.1.0)
  references_run o k q s e l st next (Boxed ∷ Absent ∷ []) (a ∷ b ∷ []) lie same = absurd (absent_boxed lie.1.0)
  references_run o k q s e l st next (x ∷ y ∷ z ∷ ks) (a ∷ b ∷ []) lie same = absurd (omega arith)
  references_run o k q s e l st next ks (a ∷ b ∷ x ∷ values) lie same = record { by = tt }

  -- an operator between references that is none
  nothing_runs : (o : Operator) (values : List Value) {land : Value → State → List Word → Next} {n : Next} (s : State) (e : Env) → ((a b : Value) → of_references o a b s.world.store ≡ Meaningless)
      → Sim codes limits c h g land Any n (operated (reference_operated o values s.world.store) s e)
  nothing_runs o values {land = land} {n = n} s e is = subst (λ x. Sim codes limits c h g land Any n (operated x s e)) (sym (nothing o s.world.store is values)) (record { by = tt })

  equal_runs : (a b : Value) (q : ℕ) (s : State) (e : Env) (l st : List Word) → AllAt c.body h q (operator_code operator.Equal) → Fits c.body g e l
      → Sim codes limits c h g (land_value funs codes limits c Unboxed (suc q) st) Any (at codes limits c q l (R b ∷ R a ∷ st) s) (operated (of_references operator.Equal a b s.world.store) s e)
  equal_runs a b q s e l st x f =
      step_to codes limits l (R b ∷ R a ∷ st) s x.0
      (outcome_runs funs codes limits c h g q _ s e l st (R b ∷ R a ∷ st) Unboxed unboxed (λ value. refl) x.0 f (acts_in s.world (effect s.world.store (equal s.world.store.objects a b))))

  not_equal_runs : (a b : Value) (q : ℕ) (s : State) (e : Env) (l st : List Word) → AllAt c.body h q (operator_code operator.NotEqual) → Fits c.body g e l
      → Sim codes limits c h g (land_value funs codes limits c Unboxed (suc (suc (suc q))) st) Any (at codes limits c q l (R b ∷ R a ∷ st) s) (operated (of_references operator.NotEqual a b s.world.store) s e)
  not_equal_runs a b q s e l st x f =
      step_to codes limits l (R b ∷ R a ∷ st) s x.0
      (not_equal_does q _ s e l st (R b ∷ R a ∷ st) x.0 x.1 f (equal s.world.store.objects a b) (equal_is_flag s.world.store.objects a b))

  concat_runs : (a b : Value) (q : ℕ) (s : State) (e : Env) (l st : List Word) → AllAt c.body h q (operator_code operator.Concat) → Fits c.body g e l
      → Sim codes limits c h g (land_value funs codes limits c Boxed (suc q) st) Any (at codes limits c q l (R b ∷ R a ∷ st) s) (operated (of_references operator.Concat a b s.world.store) s e)
  concat_runs a b q s e l st x f =
      step_to codes limits l (R b ∷ R a ∷ st) s x.0
      (outcome_runs funs codes limits c h g q _ s e l st (R b ∷ R a ∷ st) Boxed R (λ value. refl) x.0 f (acts_in s.world (effect s.world.store (concatenated s.world.store.objects a b))))

  -- an operator, whose operands are represented as it takes them, and what it gives as it gives it
  abbrev OperatorRuns : Operator → Type 0
  OperatorRuns o =
      (ks : List Representation) (values : List Value) (q : ℕ) (s : State) (e : Env) (l st : List Word) → AllAt c.body h q (operator_code o) → AllRepresented (operator_takes o) ks → HasCode o → length ks ≡ length values → Fits c.body g e l
      → Sim codes limits c h g (land_value funs codes limits c (operator_gives o) (end_all q (operator_code o)) st) Any (at codes limits c q l (push ks values st) s) (operated (operates o values s.world.store) s e)

  operator_does : (o : Operator) → OperatorRuns o
  operator_does (operator.Int o) ks values q s e l st x lie can same f = ints_run funs codes limits c h g o (operands_of values) q s e l (push ks values st) st x (stack_is ks values st lie same) f
  operator_does (operator.Long o) ks values q s e l st x lie can same f = longs_run funs codes limits c h g o (operands_of values) q s e l (push ks values st) st x (stack_is ks values st lie same) f
  operator_does (operator.Boolean o) ks values q s e l st x lie can same f = flags_run funs codes limits c h g o (operands_of values) q s e l (push ks values st) st x (stack_is ks values st lie same) f
  operator_does operator.Equal ks values q s e l st x lie can same f = references_run operator.Equal Unboxed q s e l st (λ a b. equal_runs a b q s e l st x f) ks values lie same
  operator_does operator.NotEqual ks values q s e l st x lie can same f = references_run operator.NotEqual Unboxed q s e l st (λ a b. not_equal_runs a b q s e l st x f) ks values lie same
  operator_does operator.Same ks values q s e l st x lie can same f =
      references_run operator.Same Unboxed q s e l st (λ a b. step_to codes limits l (R b ∷ R a ∷ st) s x.0 (done codes limits f tt)) ks values lie same
  operator_does operator.NotSame ks values q s e l st x lie can same f =
      references_run operator.NotSame Unboxed q s e l st (λ a b. step_to codes limits l (R b ∷ R a ∷ st) s x.0 (turned_runs (is_same a b) (suc q) s e l st x.1 f)) ks values lie same
  operator_does operator.Concat ks values q s e l st x lie can same f = references_run operator.Concat Boxed q s e l st (λ a b. concat_runs a b q s e l st x f) ks values lie same
  operator_does (operator.Def o) ks values q s e l st x lie can same f = dynamic_runs funs codes limits c h g o can ks values q s e l st x lie same f
  operator_does operator.List ks values q s e l st x lie can same f = nothing_runs operator.List values s e (λ a b. refl)
  operator_does operator.Map ks values q s e l st x lie can same f = nothing_runs operator.Map values s e (λ a b. refl)
  operator_does operator.NewArray ks values q s e l st x lie can same f = nothing_runs operator.NewArray values s e (λ a b. refl)
  operator_does operator.ArrayOf ks values q s e l st x lie can same f = nothing_runs operator.ArrayOf values s e (λ a b. refl)
  operator_does operator.Element ks values q s e l st x lie can same f = nothing_runs operator.Element values s e (λ a b. refl)
  operator_does operator.Length ks values q s e l st x lie can same f = nothing_runs operator.Length values s e (λ a b. refl)
  operator_does operator.PutElement ks values q s e l st x lie can same f = nothing_runs operator.PutElement values s e (λ a b. refl)
  operator_does operator.Iterate ks values q s e l st x lie can same f = nothing_runs operator.Iterate values s e (λ a b. refl)
  operator_does operator.HasNext ks values q s e l st x lie can same f = nothing_runs operator.HasNext values s e (λ a b. refl)
  operator_does operator.Next ks values q s e l st x lie can same f = nothing_runs operator.Next values s e (λ a b. refl)

  -- each operator, whose operands are represented as it takes them
  pub operator_runs : (o : Operator) (ks : List Representation) (values : List Value) (k : Representation) (q : ℕ) (s : State) (e : Env) (l st : List Word) → AllAt c.body h q (operator_code o) → AllRepresented (operator_takes o) ks → HasCode o → length ks ≡ length values → k ≡ operator_gives o → Fits c.body g e l
      → Sim codes limits c h g (land_value funs codes limits c k (end_all q (operator_code o)) st) Any (at codes limits c q l (push ks values st) s) (operated (operates o values s.world.store) s e)
  operator_runs o ks values k q s e l st x lie can same is f =
      subst (λ k. Sim codes limits c h g (land_value funs codes limits c k (end_all q (operator_code o)) st) Any (at codes limits c q l (push ks values st) s) (operated (operates o values s.world.store) s e)) (sym is)
      (operator_does o ks values q s e l st x lie can same f)
