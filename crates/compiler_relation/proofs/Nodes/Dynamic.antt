-- Operators on values of any types, and operations on one reference.
use Rattle.std.proofs.Common.{◌≡◌, ℕ, suc, Bool, true, false, List, [], ◌∷◌, length, Some, sym, ap, ◌∙◌, subst, refl, arith}
use Rattle.std.specs.Prelude.{if◌then◌else◌}
use Rattle.arithmetic.specs.declared.operator.Op.{Op}
use Rattle.arithmetic.specs.declared.operator.Op.TheVariants as op
use Rattle.object_values.specs.declared.value.Value.{Value}
use Rattle.object_heap.specs.Effects.{Effect}
use Rattle.object_heap.specs.Store.{Store}
use Rattle.number_ops.specs.Operators.{compares, is_unary, operate}
use Rattle.number_ops.specs.Outcomes.{effect}
use Rattle.pl_code.specs.declared.kinds.DynamicOp.{DynamicOp}
use Rattle.pl_code.specs.declared.kinds.DynamicOp.TheVariants as dynamic
use Rattle.pl_code.specs.declared.code.Instruction.{Instruction}
use Rattle.pl_code.specs.declared.code.Instruction.TheVariants as i
use Rattle.run_state.specs.World.{Limits, acts_in}
use Rattle.source_meaning.specs.Tree.{Programs}
use Rattle.source_meaning.specs.Operating.{Acts, Meaningless, of_any, of_one_value}
use Rattle.source_meaning.specs.Meaning.{State, Env, operated}
use Rattle.code_meaning.specs.declared.word.Word.{Word}
use Rattle.code_meaning.specs.declared.word.Word.TheVariants.{R}
use Rattle.code_meaning.specs.Words.{unboxed, op_of_dynamic}
use Rattle.code_meaning.specs.Machine.{Codes, Handlers, Next, on_one, on_operated, dynamic_given, pushed}
use Rattle.compiler_relation.specs.Representation.{Representation, Unboxed, Boxed, low}
use Rattle.compiler_relation.specs.Parts.{dynamic_code, dynamic_gives}
use Rattle.compiler_relation.specs.Stands.{Scope, At, AllAt, end_all, AllRepresented, IsDynamic}
use Rattle.compiler_relation.proofs.Locals.{Fits}
use Rattle.compiler_relation.proofs.Follows.{Ctx, Sim, at, frame, step_to}
use Rattle.compiler_relation.proofs.Refines.{push, Any, land_value}
use Rattle.compiler_relation.proofs.Nodes.Operands.{outcome_runs}

-- ---- operands that are all represented alike

-- the values of such operands on a stack
abbrev pub piled : Representation → List Value → List Word → List Word
piled k [] st = st
piled k (value ∷ values) st = piled k values (pushed (low k value) st)

pub pile_is : (k : Representation) (ks : List Representation) (values : List Value) (st : List Word) → AllRepresented k ks → length ks ≡ length values
    → push ks values st ≡ piled k values st
pile_is k [] [] st lie same = refl
pile_is k [] (value ∷ values) st lie same = absurd (omega arith)
pile_is k (j ∷ ks) [] st lie same = absurd (omega arith)
pile_is k (j ∷ ks) (value ∷ values) st lie same =
    ap (λ j. push ks values (pushed (low j value) st)) lie.0 ∙ pile_is k ks values (pushed (low k value) st) lie.1 (omega arith)

-- ---- operations

module _ (funs : Programs) (codes : Codes) (limits : Limits) (c : Ctx codes) (h : Handlers) (g : Scope) where
  -- an operation on one reference
  one_value : (does : Store → Value → Effect) (word : Value → Word) (k : Representation) → ((value : Value) → Some (word value) ≡ low k value)
      → (values : List Value) (q : ℕ) (i' : Instruction) (s : State) (e : Env) (l st : List Word) → At c.body h q i' → Fits c.body g e l
      → Sim codes limits c h g (land_value funs codes limits c k (suc q) st) Any
      (on_one codes limits (does s.world.store) word (frame codes limits c q l (piled Boxed values st) s) c.below s.world) (operated (of_one_value does values s.world.store) s e)
  one_value does word k given [] q i' s e l st a f = record { by = tt }
  one_value does word k given (value ∷ []) q i' s e l st a f =
      outcome_runs funs codes limits c h g q i' s e l st (R value ∷ st) k word given a f (acts_in s.world (does s.world.store value))
  one_value does word k given (value ∷ other ∷ values) q i' s e l st a f = record { by = tt }

  pub one_runs : (does : Store → Value → Effect) (word : Value → Word) (k : Representation) → ((value : Value) → Some (word value) ≡ low k value)
      → (ks : List Representation) (values : List Value) (q : ℕ) (i' : Instruction) (s : State) (e : Env) (l st : List Word) → At c.body h q i' → Fits c.body g e l
      → AllRepresented Boxed ks → length ks ≡ length values
      → Sim codes limits c h g (land_value funs codes limits c k (suc q) st) Any
      (on_one codes limits (does s.world.store) word (frame codes limits c q l (push ks values st) s) c.below s.world) (operated (of_one_value does values s.world.store) s e)
  one_runs does word k given ks values q i' s e l st a f lie same =
      subst (λ st'. Sim codes limits c h g (land_value funs codes limits c k (suc q) st) Any
      (on_one codes limits (does s.world.store) word (frame codes limits c q l st' s) c.below s.world) (operated (of_one_value does values s.world.store) s e))
      (sym (pile_is Boxed ks values st lie same)) (one_value does word k given values q i' s e l st a f)

  -- ---- operators on values of any types

  operated_given : (o : Op) (value : Value) → Some (dynamic_given codes limits o value) ≡ low (dynamic_gives o) value
  operated_given o value = pick (compares o)
    where
      pick : (t : Bool) → Some (if t then unboxed value else R value) ≡ low (if t then Unboxed else Boxed) value
      pick true = refl
      pick false = refl

  one_operand : (o : Op) (t : Bool) (a : Value) (other : Next) (q : ℕ) (i' : Instruction) (s : State) (e : Env) (l st : List Word) → At c.body h q i' → Fits c.body g e l
      → Sim codes limits c h g (land_value funs codes limits c (dynamic_gives o) (suc q) st) Any
      (if t then on_operated codes limits o a a (frame codes limits c q l (R a ∷ st) s) c.below s.world st else other)
      (operated (if t then Acts (effect s.world.store (operate s.world.store.objects o a a)) else Meaningless) s e)
  one_operand o true a other q i' s e l st x f =
      outcome_runs funs codes limits c h g q i' s e l st (R a ∷ st) (dynamic_gives o) (dynamic_given codes limits o) (operated_given o) x f
      (acts_in s.world (effect s.world.store (operate s.world.store.objects o a a)))
  one_operand o false a other q i' s e l st x f = record { by = tt }

  two_operands : (o : Op) (t : Bool) (a b : Value) (other : Next) (q : ℕ) (i' : Instruction) (s : State) (e : Env) (l st : List Word) → At c.body h q i' → Fits c.body g e l
      → Sim codes limits c h g (land_value funs codes limits c (dynamic_gives o) (suc q) st) Any
      (if t then other else on_operated codes limits o a b (frame codes limits c q l (R b ∷ R a ∷ st) s) c.below s.world st)
      (operated (if t then Meaningless else Acts (effect s.world.store (operate s.world.store.objects o a b))) s e)
  two_operands o true a b other q i' s e l st x f = record { by = tt }
  two_operands o false a b other q i' s e l st x f =
      outcome_runs funs codes limits c h g q i' s e l st (R b ∷ R a ∷ st) (dynamic_gives o) (dynamic_given codes limits o) (operated_given o) x f
      (acts_in s.world (effect s.world.store (operate s.world.store.objects o a b)))

  any_values : (d : DynamicOp) (values : List Value) (q : ℕ) (s : State) (e : Env) (l st : List Word) → At c.body h q (i.Dynamic d) → Fits c.body g e l
      → Sim codes limits c h g (land_value funs codes limits c (dynamic_gives (op_of_dynamic d)) (suc q) st) Any
      (at codes limits c q l (piled Boxed values st) s) (operated (of_any (op_of_dynamic d) values s.world.store) s e)
  any_values d [] q s e l st x f = record { by = tt }
  any_values d (a ∷ []) q s e l st x f =
      step_to codes limits l (R a ∷ st) s x (one_operand (op_of_dynamic d) (is_unary (op_of_dynamic d)) a _ q _ s e l st x f)
  any_values d (a ∷ b ∷ []) q s e l st x f =
      step_to codes limits l (R b ∷ R a ∷ st) s x (two_operands (op_of_dynamic d) (is_unary (op_of_dynamic d)) a b _ q _ s e l st x f)
  any_values d (a ∷ b ∷ other ∷ values) q s e l st x f = record { by = tt }

  any_runs : (d : DynamicOp) (ks : List Representation) (values : List Value) (q : ℕ) (s : State) (e : Env) (l st : List Word) → At c.body h q (i.Dynamic d)
      → AllRepresented Boxed ks → length ks ≡ length values → Fits c.body g e l
      → Sim codes limits c h g (land_value funs codes limits c (dynamic_gives (op_of_dynamic d)) (suc q) st) Any
      (at codes limits c q l (push ks values st) s) (operated (of_any (op_of_dynamic d) values s.world.store) s e)
  any_runs d ks values q s e l st x lie same f =
      subst (λ st'. Sim codes limits c h g (land_value funs codes limits c (dynamic_gives (op_of_dynamic d)) (suc q) st) Any
      (at codes limits c q l st' s) (operated (of_any (op_of_dynamic d) values s.world.store) s e)) (sym (pile_is Boxed ks values st lie same))
      (any_values d values q s e l st x f)

  pub dynamic_runs : (o : Op) → IsDynamic o → (ks : List Representation) (values : List Value) (q : ℕ) (s : State) (e : Env) (l st : List Word)
      → AllAt c.body h q (dynamic_code o) → AllRepresented Boxed ks → length ks ≡ length values → Fits c.body g e l
      → Sim codes limits c h g (land_value funs codes limits c (dynamic_gives o) (end_all q (dynamic_code o)) st) Any
      (at codes limits c q l (push ks values st) s) (operated (of_any o values s.world.store) s e)
  dynamic_runs op.Add can ks values q s e l st x lie same f = any_runs dynamic.Add ks values q s e l st x.0 lie same f
  dynamic_runs op.Sub can ks values q s e l st x lie same f = any_runs dynamic.Sub ks values q s e l st x.0 lie same f
  dynamic_runs op.Mul can ks values q s e l st x lie same f = any_runs dynamic.Mul ks values q s e l st x.0 lie same f
  dynamic_runs op.Div can ks values q s e l st x lie same f = any_runs dynamic.Div ks values q s e l st x.0 lie same f
  dynamic_runs op.Rem can ks values q s e l st x lie same f = any_runs dynamic.Rem ks values q s e l st x.0 lie same f
  dynamic_runs op.And can ks values q s e l st x lie same f = any_runs dynamic.And ks values q s e l st x.0 lie same f
  dynamic_runs op.Or can ks values q s e l st x lie same f = any_runs dynamic.Or ks values q s e l st x.0 lie same f
  dynamic_runs op.Xor can ks values q s e l st x lie same f = any_runs dynamic.Xor ks values q s e l st x.0 lie same f
  dynamic_runs op.Shl can ks values q s e l st x lie same f = any_runs dynamic.Shl ks values q s e l st x.0 lie same f
  dynamic_runs op.Shr can ks values q s e l st x lie same f = any_runs dynamic.Shr ks values q s e l st x.0 lie same f
  dynamic_runs op.Ushr can ks values q s e l st x lie same f = any_runs dynamic.Ushr ks values q s e l st x.0 lie same f
  dynamic_runs op.Neg can ks values q s e l st x lie same f = any_runs dynamic.Neg ks values q s e l st x.0 lie same f
  dynamic_runs op.Not can ks values q s e l st x lie same f = any_runs dynamic.Not ks values q s e l st x.0 lie same f
  dynamic_runs op.Pos can ks values q s e l st x lie same f = any_runs dynamic.Pos ks values q s e l st x.0 lie same f
  dynamic_runs op.Lt can ks values q s e l st x lie same f = any_runs dynamic.Lt ks values q s e l st x.0 lie same f
  dynamic_runs op.Le can ks values q s e l st x lie same f = any_runs dynamic.Le ks values q s e l st x.0 lie same f
  dynamic_runs op.Gt can ks values q s e l st x lie same f = any_runs dynamic.Gt ks values q s e l st x.0 lie same f
  dynamic_runs op.Ge can ks values q s e l st x lie same f = any_runs dynamic.Ge ks values q s e l st x.0 lie same f
  dynamic_runs op.Eq can ks values q s e l st x lie same f = absurd can
  dynamic_runs op.Ne can ks values q s e l st x lie same f = absurd can
