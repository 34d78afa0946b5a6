-- Operators between numbers and truth values: what the instruction of an operator does is what the operator comes to.
use Rattle.std.proofs.Common.{◌≡◌, ℕ, suc, Bool, true, false, not, List, [], ◌∷◌, length, Option, Some, None, refl, sym, ap, subst, arith}
use Rattle.std.specs.Prelude.{ℤ, pos, int_lt, int_le}
use Rattle.std.specs.Int.{w32, w64}
use Rattle.std.specs.Ordering.{int_eq}
use Rattle.object_values.specs.declared.value.Value.{Value}
use Rattle.object_values.specs.declared.value.Value.TheVariants as v
use Rattle.arithmetic.specs.declared.operator.Op.{Op}
use Rattle.arithmetic.specs.declared.operator.Op.TheVariants as op
use Rattle.arithmetic.specs.declared.operator.Num.TheVariants as n
use Rattle.arithmetic.specs.Operators.{truth, some_of}
use Rattle.arithmetic.specs.Arithmetic.{quotient_of, remainder_of}
use Rattle.number_ops.specs.Outcomes.{effect, zero_divisor}
use Rattle.pl_code.specs.declared.kinds.Width.TheVariants as width
use Rattle.run_state.specs.World.{Limits, not_told, Outcome, Given, Raised, Full, acts_in}
use Rattle.source_meaning.specs.Tree.{Programs}
use Rattle.source_meaning.specs.Operating.{Operand, AnInt, ALong, AFlag, NoOperand, operand_of, Operands, OneInt, TwoInts, OneLong, TwoLongs, LongAndInt, OneFlag, TwoFlags, NoOperands, operands_of, one_operand, two_operands, of_ints, of_longs, of_flags, number_given, number_operated, flag_operated}
use Rattle.source_meaning.specs.Meaning.{State, Env, operated}
use Rattle.source_meaning.specs.Meaning as meaning
use Rattle.code_meaning.specs.declared.word.Word.{Word}
use Rattle.code_meaning.specs.declared.word.Word.TheVariants.{I, J}
use Rattle.code_meaning.specs.Words.{unboxed, Calculates, bit}
use Rattle.code_meaning.specs.Machine.{Codes, Handlers, on_outcome, on_calculation, pushed}
use Rattle.compiler_relation.specs.Representation.{Representation, Unboxed, Boxed, Absent, low}
use Rattle.compiler_relation.specs.Parts.{arithmetic_code, boolean_code}
use Rattle.compiler_relation.specs.Stands.{Scope, At, AllAt, end_all, AllRepresented}
use Rattle.compiler_relation.proofs.Locals.{Fits}
use Rattle.compiler_relation.proofs.Follows.{Ctx, Sim, at, frame, ended, done, step_to, throws}
use Rattle.compiler_relation.proofs.Refines.{push, Any, land_value}

-- ---- operands on the stack

abbrev KindIs : Operand → Word → Type 0
KindIs (AnInt a) w = w ≡ I a
KindIs (ALong a) w = w ≡ J a
KindIs (AFlag a) w = w ≡ I (bit a)
KindIs NoOperand w = Unit {0}

kind_is : (value : Value) → KindIs (operand_of value) (unboxed value)
kind_is v.Null = tt
kind_is (v.Bool a) = refl
kind_is (v.Byte a) = tt
kind_is (v.Short a) = tt
kind_is (v.Char a) = tt
kind_is (v.Int a) = refl
kind_is (v.Long a) = refl
kind_is (v.Str a) = tt
kind_is (v.Ref a) = tt

abbrev pub StackIs : Operands → List Word → List Word → Type 0
StackIs (OneInt a) st rest = st ≡ I a ∷ rest
StackIs (TwoInts a b) st rest = st ≡ I b ∷ I a ∷ rest
StackIs (OneLong a) st rest = st ≡ J a ∷ rest
StackIs (TwoLongs a b) st rest = st ≡ J b ∷ J a ∷ rest
StackIs (LongAndInt a b) st rest = st ≡ I b ∷ J a ∷ rest
StackIs (OneFlag a) st rest = st ≡ I (bit a) ∷ rest
StackIs (TwoFlags a b) st rest = st ≡ I (bit b) ∷ I (bit a) ∷ rest
StackIs NoOperands st rest = Unit {0}

one_is : (x : Operand) (w : Word) (st : List Word) → KindIs x w → StackIs (one_operand x) (w ∷ st) st
one_is (AnInt a) w st is = ap (λ w. w ∷ st) is
one_is (ALong a) w st is = ap (λ w. w ∷ st) is
one_is (AFlag a) w st is = ap (λ w. w ∷ st) is
one_is NoOperand w st is = tt

two : (w u x y : Word) (st : List Word) → w ≡ x → u ≡ y → (u ∷ w ∷ st) ≡ (y ∷ x ∷ st)
two w u x y st p q = λ k. q k ∷ p k ∷ st

two_are : (x y : Operand) (w u : Word) (st : List Word) → KindIs x w → KindIs y u → StackIs (two_operands x y) (u ∷ w ∷ st) st
two_are (AnInt a) (AnInt b) w u st p q = two w u (I a) (I b) st p q
two_are (AnInt a) (ALong b) w u st p q = tt
two_are (AnInt a) (AFlag b) w u st p q = tt
two_are (AnInt a) NoOperand w u st p q = tt
two_are (ALong a) (AnInt b) w u st p q = two w u (J a) (I b) st p q
two_are (ALong a) (ALong b) w u st p q = two w u (J a) (J b) st p q
two_are (ALong a) (AFlag b) w u st p q = tt
two_are (ALong a) NoOperand w u st p q = tt
two_are (AFlag a) (AnInt b) w u st p q = tt
two_are (AFlag a) (ALong b) w u st p q = tt
two_are (AFlag a) (AFlag b) w u st p q = two w u (I (bit a)) (I (bit b)) st p q
two_are (AFlag a) NoOperand w u st p q = tt
two_are NoOperand y w u st p q = tt

pub boxed_unboxed : Boxed ≡ Unboxed → ⊥
boxed_unboxed e = cc

pub absent_unboxed : Absent ≡ Unboxed → ⊥
absent_unboxed e = cc

pub stack_is : (ks : List Representation) (values : List Value) (st : List Word) → AllRepresented Unboxed ks → length ks ≡ length values → StackIs (operands_of values) (push ks values st) st
stack_is ks [] st are_unboxed same = tt
stack_is [] (x ∷ []) st are_unboxed same = absurd (omega arith)
stack_is (Unboxed ∷ []) (x ∷ []) st are_unboxed same = one_is (operand_of x) (unboxed x) st (kind_is x)
stack_is (Boxed ∷ []) (x ∷ []) st are_unboxed same = absurd (boxed_unboxed are_unboxed.0)
stack_is (Absent ∷ []) (x ∷ []) st are_unboxed same = absurd (absent_unboxed are_unboxed.0)
stack_is (k ∷ k' ∷ ks) (x ∷ []) st are_unboxed same = absurd (omega arith)
stack_is [] (x ∷ y ∷ []) st are_unboxed same = absurd (omega arith)
stack_is (k ∷ []) (x ∷ y ∷ []) st are_unboxed same = absurd (omega arith)
stack_is (Unboxed ∷ Unboxed ∷ []) (x ∷ y ∷ []) st are_unboxed same = two_are (operand_of x) (operand_of y) (unboxed x) (unboxed y) st (kind_is x) (kind_is y)
stack_is (Boxed ∷ k ∷ []) (x ∷ y ∷ []) st are_unboxed same = absurd (boxed_unboxed are_unboxed.0)
stack_is (Absent ∷ k ∷ []) (x ∷ y ∷ []) st are_unboxed same = absurd (absent_unboxed are_unboxed.0)
stack_is (Unboxed ∷ Boxed ∷ []) (x ∷ y ∷ []) st are_unboxed same = absurd (boxed_unboxed are_unboxed.1.0)
stack_is (Unboxed ∷ Absent ∷ []) (x ∷ y ∷ []) st are_unboxed same = absurd (absent_unboxed are_unboxed.1.0)
stack_is (k ∷ k' ∷ k'' ∷ ks) (x ∷ y ∷ []) st are_unboxed same = absurd (omega arith)
stack_is ks (x ∷ y ∷ z ∷ values) st are_unboxed same = tt

module _ (funs : Programs) (codes : Codes) (limits : Limits) (c : Ctx codes) (h : Handlers) (g : Scope) where
  -- an effect on the store, whose value is a reference or is taken out of a box
  pub outcome_runs : (q : ℕ) (i' : Rattle.pl_code.specs.declared.code.Instruction.Instruction) (s : State) (e : Env) (l st st' : List Word) (k : Representation) (word : Value → Word)
      → ((value : Value) → Some (word value) ≡ low k value) → At c.body h q i' → Fits c.body g e l → (x : Outcome Value)
      → Sim codes limits c h g (land_value funs codes limits c k (suc q) st) Any (on_outcome codes limits x word (frame codes limits c q l st' s) c.below s.world st) (meaning.effect x s e)
  outcome_runs q i' s e l st st' k word representation a f (Given value w) =
      subst (λ o. Sim codes limits c h g (land_value funs codes limits c k (suc q) st) Any (at codes limits c (suc q) l (pushed o st) (record { world = w; turns = s.turns })) (meaning.Done value (record { world = w; turns = s.turns }) e))
      (sym (representation value)) (done codes limits f tt)
  outcome_runs q i' s e l st st' k word representation a f (Raised id w) = record { by = λ r d. throws codes limits c h q i' l st' id not_told (record { world = w; turns = s.turns }) r a (d l f) }
  outcome_runs q i' s e l st st' k word representation a f Full = record { by = ended codes limits _ }

  -- a quotient or a remainder, or a zero divisor
  div_int : (q : ℕ) (i' : Rattle.pl_code.specs.declared.code.Instruction.Instruction) (s : State) (e : Env) (l st st' : List Word) → At c.body h q i' → Fits c.body g e l → (r : Option ℤ)
      → Sim codes limits c h g (land_value funs codes limits c Unboxed (suc q) st) Any (on_calculation codes limits (Calculates (some_of n.Int r) st) (frame codes limits c q l st' s) c.below s.world) (operated (number_given op.Div (some_of n.Int r) s.world.store) s e)
  div_int q i' s e l st st' a f None = outcome_runs q i' s e l st st' Unboxed unboxed (λ value. refl) a f (acts_in s.world (effect s.world.store zero_divisor))
  div_int q i' s e l st st' a f (Some x) = done codes limits f tt

  rem_int : (q : ℕ) (i' : Rattle.pl_code.specs.declared.code.Instruction.Instruction) (s : State) (e : Env) (l st st' : List Word) → At c.body h q i' → Fits c.body g e l → (r : Option ℤ)
      → Sim codes limits c h g (land_value funs codes limits c Unboxed (suc q) st) Any (on_calculation codes limits (Calculates (some_of n.Int r) st) (frame codes limits c q l st' s) c.below s.world) (operated (number_given op.Rem (some_of n.Int r) s.world.store) s e)
  rem_int q i' s e l st st' a f None = outcome_runs q i' s e l st st' Unboxed unboxed (λ value. refl) a f (acts_in s.world (effect s.world.store zero_divisor))
  rem_int q i' s e l st st' a f (Some x) = done codes limits f tt

  div_long : (q : ℕ) (i' : Rattle.pl_code.specs.declared.code.Instruction.Instruction) (s : State) (e : Env) (l st st' : List Word) → At c.body h q i' → Fits c.body g e l → (r : Option ℤ)
      → Sim codes limits c h g (land_value funs codes limits c Unboxed (suc q) st) Any (on_calculation codes limits (Calculates (some_of n.Long r) st) (frame codes limits c q l st' s) c.below s.world) (operated (number_given op.Div (some_of n.Long r) s.world.store) s e)
  div_long q i' s e l st st' a f None = outcome_runs q i' s e l st st' Unboxed unboxed (λ value. refl) a f (acts_in s.world (effect s.world.store zero_divisor))
  div_long q i' s e l st st' a f (Some x) = done codes limits f tt

  rem_long : (q : ℕ) (i' : Rattle.pl_code.specs.declared.code.Instruction.Instruction) (s : State) (e : Env) (l st st' : List Word) → At c.body h q i' → Fits c.body g e l → (r : Option ℤ)
      → Sim codes limits c h g (land_value funs codes limits c Unboxed (suc q) st) Any (on_calculation codes limits (Calculates (some_of n.Long r) st) (frame codes limits c q l st' s) c.below s.world) (operated (number_given op.Rem (some_of n.Long r) s.world.store) s e)
  rem_long q i' s e l st st' a f None = outcome_runs q i' s e l st st' Unboxed unboxed (λ value. refl) a f (acts_in s.world (effect s.world.store zero_divisor))
  rem_long q i' s e l st st' a f (Some x) = done codes limits f tt

  -- a comparison
  lt_true : (q : ℕ) (s : State) (e : Env) (l st st' : List Word) → Fits c.body g e l → (t : Bool)
      → Sim codes limits c h g (land_value funs codes limits c Unboxed (suc q) st) Any (on_calculation codes limits (Calculates (Some (truth t)) st) (frame codes limits c q l st' s) c.below s.world) (operated (number_given op.Lt (Some (truth t)) s.world.store) s e)
  lt_true q s e l st st' f true = done codes limits f tt
  lt_true q s e l st st' f false = done codes limits f tt

  le_true : (q : ℕ) (s : State) (e : Env) (l st st' : List Word) → Fits c.body g e l → (t : Bool)
      → Sim codes limits c h g (land_value funs codes limits c Unboxed (suc q) st) Any (on_calculation codes limits (Calculates (Some (truth t)) st) (frame codes limits c q l st' s) c.below s.world) (operated (number_given op.Le (Some (truth t)) s.world.store) s e)
  le_true q s e l st st' f true = done codes limits f tt
  le_true q s e l st st' f false = done codes limits f tt

  gt_true : (q : ℕ) (s : State) (e : Env) (l st st' : List Word) → Fits c.body g e l → (t : Bool)
      → Sim codes limits c h g (land_value funs codes limits c Unboxed (suc q) st) Any (on_calculation codes limits (Calculates (Some (truth t)) st) (frame codes limits c q l st' s) c.below s.world) (operated (number_given op.Gt (Some (truth t)) s.world.store) s e)
  gt_true q s e l st st' f true = done codes limits f tt
  gt_true q s e l st st' f false = done codes limits f tt

  ge_true : (q : ℕ) (s : State) (e : Env) (l st st' : List Word) → Fits c.body g e l → (t : Bool)
      → Sim codes limits c h g (land_value funs codes limits c Unboxed (suc q) st) Any (on_calculation codes limits (Calculates (Some (truth t)) st) (frame codes limits c q l st' s) c.below s.world) (operated (number_given op.Ge (Some (truth t)) s.world.store) s e)
  ge_true q s e l st st' f true = done codes limits f tt
  ge_true q s e l st st' f false = done codes limits f tt

  eq_true : (q : ℕ) (s : State) (e : Env) (l st st' : List Word) → Fits c.body g e l → (t : Bool)
      → Sim codes limits c h g (land_value funs codes limits c Unboxed (suc q) st) Any (on_calculation codes limits (Calculates (Some (truth t)) st) (frame codes limits c q l st' s) c.below s.world) (operated (number_given op.Eq (Some (truth t)) s.world.store) s e)
  eq_true q s e l st st' f true = done codes limits f tt
  eq_true q s e l st st' f false = done codes limits f tt

  ne_true : (q : ℕ) (s : State) (e : Env) (l st st' : List Word) → Fits c.body g e l → (t : Bool)
      → Sim codes limits c h g (land_value funs codes limits c Unboxed (suc q) st) Any (on_calculation codes limits (Calculates (Some (truth t)) st) (frame codes limits c q l st' s) c.below s.world) (operated (number_given op.Ne (Some (truth t)) s.world.store) s e)
  ne_true q s e l st st' f true = done codes limits f tt
  ne_true q s e l st st' f false = done codes limits f tt

  one_int : (o : Op) (a : ℤ) (q : ℕ) (s : State) (e : Env) (l st : List Word) → AllAt c.body h q (arithmetic_code o width.Int) → Fits c.body g e l
      → Sim codes limits c h g (land_value funs codes limits c Unboxed (end_all q (arithmetic_code o width.Int)) st) Any (at codes limits c q l (I a ∷ st) s) (operated (number_operated o (of_ints o (OneInt a)) s.world.store) s e)
  one_int op.Add a q s e l st x f = record { by = tt }
  one_int op.Sub a q s e l st x f = record { by = tt }
  one_int op.Mul a q s e l st x f = record { by = tt }
  one_int op.Div a q s e l st x f = record { by = tt }
  one_int op.Rem a q s e l st x f = record { by = tt }
  one_int op.And a q s e l st x f = record { by = tt }
  one_int op.Or a q s e l st x f = record { by = tt }
  one_int op.Xor a q s e l st x f = record { by = tt }
  one_int op.Shl a q s e l st x f = record { by = tt }
  one_int op.Shr a q s e l st x f = record { by = tt }
  one_int op.Ushr a q s e l st x f = record { by = tt }
  one_int op.Neg a q s e l st x f = step_to codes limits l (I a ∷ st) s x.0 (done codes limits f tt)
  one_int op.Not a q s e l st x f = step_to codes limits l (I a ∷ st) s x.0 (done codes limits f tt)
  one_int op.Pos a q s e l st x f = record { by = tt }
  one_int op.Lt a q s e l st x f = record { by = tt }
  one_int op.Le a q s e l st x f = record { by = tt }
  one_int op.Gt a q s e l st x f = record { by = tt }
  one_int op.Ge a q s e l st x f = record { by = tt }
  one_int op.Eq a q s e l st x f = record { by = tt }
  one_int op.Ne a q s e l st x f = record { by = tt }

  two_ints : (o : Op) (a b : ℤ) (q : ℕ) (s : State) (e : Env) (l st : List Word) → AllAt c.body h q (arithmetic_code o width.Int) → Fits c.body g e l
      → Sim codes limits c h g (land_value funs codes limits c Unboxed (end_all q (arithmetic_code o width.Int)) st) Any (at codes limits c q l (I b ∷ I a ∷ st) s) (operated (number_operated o (of_ints o (TwoInts a b)) s.world.store) s e)
  two_ints op.Add a b q s e l st x f = step_to codes limits l (I b ∷ I a ∷ st) s x.0 (done codes limits f tt)
  two_ints op.Sub a b q s e l st x f = step_to codes limits l (I b ∷ I a ∷ st) s x.0 (done codes limits f tt)
  two_ints op.Mul a b q s e l st x f = step_to codes limits l (I b ∷ I a ∷ st) s x.0 (done codes limits f tt)
  two_ints op.Div a b q s e l st x f = step_to codes limits l (I b ∷ I a ∷ st) s x.0 (div_int q _ s e l st (I b ∷ I a ∷ st) x.0 f (quotient_of w32 a b))
  two_ints op.Rem a b q s e l st x f = step_to codes limits l (I b ∷ I a ∷ st) s x.0 (rem_int q _ s e l st (I b ∷ I a ∷ st) x.0 f (remainder_of a b))
  two_ints op.And a b q s e l st x f = step_to codes limits l (I b ∷ I a ∷ st) s x.0 (done codes limits f tt)
  two_ints op.Or a b q s e l st x f = step_to codes limits l (I b ∷ I a ∷ st) s x.0 (done codes limits f tt)
  two_ints op.Xor a b q s e l st x f = step_to codes limits l (I b ∷ I a ∷ st) s x.0 (done codes limits f tt)
  two_ints op.Shl a b q s e l st x f = step_to codes limits l (I b ∷ I a ∷ st) s x.0 (done codes limits f tt)
  two_ints op.Shr a b q s e l st x f = step_to codes limits l (I b ∷ I a ∷ st) s x.0 (done codes limits f tt)
  two_ints op.Ushr a b q s e l st x f = step_to codes limits l (I b ∷ I a ∷ st) s x.0 (done codes limits f tt)
  two_ints op.Neg a b q s e l st x f = record { by = tt }
  two_ints op.Not a b q s e l st x f = record { by = tt }
  two_ints op.Pos a b q s e l st x f = record { by = tt }
  two_ints op.Lt a b q s e l st x f = step_to codes limits l (I b ∷ I a ∷ st) s x.0 (lt_true q s e l st (I b ∷ I a ∷ st) f (int_lt a b))
  two_ints op.Le a b q s e l st x f = step_to codes limits l (I b ∷ I a ∷ st) s x.0 (le_true q s e l st (I b ∷ I a ∷ st) f (int_le a b))
  two_ints op.Gt a b q s e l st x f = step_to codes limits l (I b ∷ I a ∷ st) s x.0 (gt_true q s e l st (I b ∷ I a ∷ st) f (int_lt b a))
  two_ints op.Ge a b q s e l st x f = step_to codes limits l (I b ∷ I a ∷ st) s x.0 (ge_true q s e l st (I b ∷ I a ∷ st) f (int_le b a))
  two_ints op.Eq a b q s e l st x f = step_to codes limits l (I b ∷ I a ∷ st) s x.0 (eq_true q s e l st (I b ∷ I a ∷ st) f (int_eq a b))
  two_ints op.Ne a b q s e l st x f = step_to codes limits l (I b ∷ I a ∷ st) s x.0 (ne_true q s e l st (I b ∷ I a ∷ st) f (not (int_eq a b)))

  one_long : (o : Op) (a : ℤ) (q : ℕ) (s : State) (e : Env) (l st : List Word) → AllAt c.body h q (arithmetic_code o width.Long) → Fits c.body g e l
      → Sim codes limits c h g (land_value funs codes limits c Unboxed (end_all q (arithmetic_code o width.Long)) st) Any (at codes limits c q l (J a ∷ st) s) (operated (number_operated o (of_longs o (OneLong a)) s.world.store) s e)
  one_long op.Add a q s e l st x f = record { by = tt }
  one_long op.Sub a q s e l st x f = record { by = tt }
  one_long op.Mul a q s e l st x f = record { by = tt }
  one_long op.Div a q s e l st x f = record { by = tt }
  one_long op.Rem a q s e l st x f = record { by = tt }
  one_long op.And a q s e l st x f = record { by = tt }
  one_long op.Or a q s e l st x f = record { by = tt }
  one_long op.Xor a q s e l st x f = record { by = tt }
  one_long op.Shl a q s e l st x f = record { by = tt }
  one_long op.Shr a q s e l st x f = record { by = tt }
  one_long op.Ushr a q s e l st x f = record { by = tt }
  one_long op.Neg a q s e l st x f = step_to codes limits l (J a ∷ st) s x.0 (done codes limits f tt)
  one_long op.Not a q s e l st x f = step_to codes limits l (J a ∷ st) s x.0 (done codes limits f tt)
  one_long op.Pos a q s e l st x f = record { by = tt }
  one_long op.Lt a q s e l st x f = record { by = tt }
  one_long op.Le a q s e l st x f = record { by = tt }
  one_long op.Gt a q s e l st x f = record { by = tt }
  one_long op.Ge a q s e l st x f = record { by = tt }
  one_long op.Eq a q s e l st x f = record { by = tt }
  one_long op.Ne a q s e l st x f = record { by = tt }

  two_longs : (o : Op) (a b : ℤ) (q : ℕ) (s : State) (e : Env) (l st : List Word) → AllAt c.body h q (arithmetic_code o width.Long) → Fits c.body g e l
      → Sim codes limits c h g (land_value funs codes limits c Unboxed (end_all q (arithmetic_code o width.Long)) st) Any (at codes limits c q l (J b ∷ J a ∷ st) s) (operated (number_operated o (of_longs o (TwoLongs a b)) s.world.store) s e)
  two_longs op.Add a b q s e l st x f = step_to codes limits l (J b ∷ J a ∷ st) s x.0 (done codes limits f tt)
  two_longs op.Sub a b q s e l st x f = step_to codes limits l (J b ∷ J a ∷ st) s x.0 (done codes limits f tt)
  two_longs op.Mul a b q s e l st x f = step_to codes limits l (J b ∷ J a ∷ st) s x.0 (done codes limits f tt)
  two_longs op.Div a b q s e l st x f = step_to codes limits l (J b ∷ J a ∷ st) s x.0 (div_long q _ s e l st (J b ∷ J a ∷ st) x.0 f (quotient_of w64 a b))
  two_longs op.Rem a b q s e l st x f = step_to codes limits l (J b ∷ J a ∷ st) s x.0 (rem_long q _ s e l st (J b ∷ J a ∷ st) x.0 f (remainder_of a b))
  two_longs op.And a b q s e l st x f = step_to codes limits l (J b ∷ J a ∷ st) s x.0 (done codes limits f tt)
  two_longs op.Or a b q s e l st x f = step_to codes limits l (J b ∷ J a ∷ st) s x.0 (done codes limits f tt)
  two_longs op.Xor a b q s e l st x f = step_to codes limits l (J b ∷ J a ∷ st) s x.0 (done codes limits f tt)
  two_longs op.Shl a b q s e l st x f = record { by = tt }
  two_longs op.Shr a b q s e l st x f = record { by = tt }
  two_longs op.Ushr a b q s e l st x f = record { by = tt }
  two_longs op.Neg a b q s e l st x f = record { by = tt }
  two_longs op.Not a b q s e l st x f = record { by = tt }
  two_longs op.Pos a b q s e l st x f = record { by = tt }
  two_longs op.Lt a b q s e l st x f = step_to codes limits l (J b ∷ J a ∷ st) s x.0 (lt_true q s e l st (J b ∷ J a ∷ st) f (int_lt a b))
  two_longs op.Le a b q s e l st x f = step_to codes limits l (J b ∷ J a ∷ st) s x.0 (le_true q s e l st (J b ∷ J a ∷ st) f (int_le a b))
  two_longs op.Gt a b q s e l st x f = step_to codes limits l (J b ∷ J a ∷ st) s x.0 (gt_true q s e l st (J b ∷ J a ∷ st) f (int_lt b a))
  two_longs op.Ge a b q s e l st x f = step_to codes limits l (J b ∷ J a ∷ st) s x.0 (ge_true q s e l st (J b ∷ J a ∷ st) f (int_le b a))
  two_longs op.Eq a b q s e l st x f = step_to codes limits l (J b ∷ J a ∷ st) s x.0 (eq_true q s e l st (J b ∷ J a ∷ st) f (int_eq a b))
  two_longs op.Ne a b q s e l st x f = step_to codes limits l (J b ∷ J a ∷ st) s x.0 (ne_true q s e l st (J b ∷ J a ∷ st) f (not (int_eq a b)))

  shifted_longs : (o : Op) (a b : ℤ) (q : ℕ) (s : State) (e : Env) (l st : List Word) → AllAt c.body h q (arithmetic_code o width.Long) → Fits c.body g e l
      → Sim codes limits c h g (land_value funs codes limits c Unboxed (end_all q (arithmetic_code o width.Long)) st) Any (at codes limits c q l (I b ∷ J a ∷ st) s) (operated (number_operated o (of_longs o (LongAndInt a b)) s.world.store) s e)
  shifted_longs op.Add a b q s e l st x f = record { by = tt }
  shifted_longs op.Sub a b q s e l st x f = record { by = tt }
  shifted_longs op.Mul a b q s e l st x f = record { by = tt }
  shifted_longs op.Div a b q s e l st x f = record { by = tt }
  shifted_longs op.Rem a b q s e l st x f = record { by = tt }
  shifted_longs op.And a b q s e l st x f = record { by = tt }
  shifted_longs op.Or a b q s e l st x f = record { by = tt }
  shifted_longs op.Xor a b q s e l st x f = record { by = tt }
  shifted_longs op.Shl a b q s e l st x f = step_to codes limits l (I b ∷ J a ∷ st) s x.0 (done codes limits f tt)
  shifted_longs op.Shr a b q s e l st x f = step_to codes limits l (I b ∷ J a ∷ st) s x.0 (done codes limits f tt)
  shifted_longs op.Ushr a b q s e l st x f = step_to codes limits l (I b ∷ J a ∷ st) s x.0 (done codes limits f tt)
  shifted_longs op.Neg a b q s e l st x f = record { by = tt }
  shifted_longs op.Not a b q s e l st x f = record { by = tt }
  shifted_longs op.Pos a b q s e l st x f = record { by = tt }
  shifted_longs op.Lt a b q s e l st x f = record { by = tt }
  shifted_longs op.Le a b q s e l st x f = record { by = tt }
  shifted_longs op.Gt a b q s e l st x f = record { by = tt }
  shifted_longs op.Ge a b q s e l st x f = record { by = tt }
  shifted_longs op.Eq a b q s e l st x f = record { by = tt }
  shifted_longs op.Ne a b q s e l st x f = record { by = tt }

  one_flag : (o : Op) (a : Bool) (q : ℕ) (s : State) (e : Env) (l st : List Word) → AllAt c.body h q (boolean_code o) → Fits c.body g e l
      → Sim codes limits c h g (land_value funs codes limits c Unboxed (end_all q (boolean_code o)) st) Any (at codes limits c q l (I (bit a) ∷ st) s) (operated (flag_operated (of_flags o (OneFlag a))) s e)
  one_flag op.Add a q s e l st x f = record { by = tt }
  one_flag op.Sub a q s e l st x f = record { by = tt }
  one_flag op.Mul a q s e l st x f = record { by = tt }
  one_flag op.Div a q s e l st x f = record { by = tt }
  one_flag op.Rem a q s e l st x f = record { by = tt }
  one_flag op.And a q s e l st x f = record { by = tt }
  one_flag op.Or a q s e l st x f = record { by = tt }
  one_flag op.Xor a q s e l st x f = record { by = tt }
  one_flag op.Shl a q s e l st x f = record { by = tt }
  one_flag op.Shr a q s e l st x f = record { by = tt }
  one_flag op.Ushr a q s e l st x f = record { by = tt }
  one_flag op.Neg a q s e l st x f = record { by = tt }
  one_flag op.Not true q s e l st x f = step_to codes limits l (I (bit true) ∷ st) s x.0 (step_to codes limits l (I (pos 0) ∷ I (bit true) ∷ st) s x.1.0 (done codes limits f tt))
  one_flag op.Not false q s e l st x f = step_to codes limits l (I (bit false) ∷ st) s x.0 (step_to codes limits l (I (pos 0) ∷ I (bit false) ∷ st) s x.1.0 (done codes limits f tt))
  one_flag op.Pos a q s e l st x f = record { by = tt }
  one_flag op.Lt a q s e l st x f = record { by = tt }
  one_flag op.Le a q s e l st x f = record { by = tt }
  one_flag op.Gt a q s e l st x f = record { by = tt }
  one_flag op.Ge a q s e l st x f = record { by = tt }
  one_flag op.Eq a q s e l st x f = record { by = tt }
  one_flag op.Ne a q s e l st x f = record { by = tt }

  two_flags : (o : Op) (a b : Bool) (q : ℕ) (s : State) (e : Env) (l st : List Word) → AllAt c.body h q (boolean_code o) → Fits c.body g e l
      → Sim codes limits c h g (land_value funs codes limits c Unboxed (end_all q (boolean_code o)) st) Any (at codes limits c q l (I (bit b) ∷ I (bit a) ∷ st) s) (operated (flag_operated (of_flags o (TwoFlags a b))) s e)
  two_flags op.Add a b q s e l st x f = record { by = tt }
  two_flags op.Sub a b q s e l st x f = record { by = tt }
  two_flags op.Mul a b q s e l st x f = record { by = tt }
  two_flags op.Div a b q s e l st x f = record { by = tt }
  two_flags op.Rem a b q s e l st x f = record { by = tt }
  two_flags op.And true true q s e l st x f = step_to codes limits l (I (bit true) ∷ I (bit true) ∷ st) s x.0 (done codes limits f tt)
  two_flags op.And true false q s e l st x f = step_to codes limits l (I (bit false) ∷ I (bit true) ∷ st) s x.0 (done codes limits f tt)
  two_flags op.And false true q s e l st x f = step_to codes limits l (I (bit true) ∷ I (bit false) ∷ st) s x.0 (done codes limits f tt)
  two_flags op.And false false q s e l st x f = step_to codes limits l (I (bit false) ∷ I (bit false) ∷ st) s x.0 (done codes limits f tt)
  two_flags op.Or true true q s e l st x f = step_to codes limits l (I (bit true) ∷ I (bit true) ∷ st) s x.0 (done codes limits f tt)
  two_flags op.Or true false q s e l st x f = step_to codes limits l (I (bit false) ∷ I (bit true) ∷ st) s x.0 (done codes limits f tt)
  two_flags op.Or false true q s e l st x f = step_to codes limits l (I (bit true) ∷ I (bit false) ∷ st) s x.0 (done codes limits f tt)
  two_flags op.Or false false q s e l st x f = step_to codes limits l (I (bit false) ∷ I (bit false) ∷ st) s x.0 (done codes limits f tt)
  two_flags op.Xor true true q s e l st x f = step_to codes limits l (I (bit true) ∷ I (bit true) ∷ st) s x.0 (done codes limits f tt)
  two_flags op.Xor true false q s e l st x f = step_to codes limits l (I (bit false) ∷ I (bit true) ∷ st) s x.0 (done codes limits f tt)
  two_flags op.Xor false true q s e l st x f = step_to codes limits l (I (bit true) ∷ I (bit false) ∷ st) s x.0 (done codes limits f tt)
  two_flags op.Xor false false q s e l st x f = step_to codes limits l (I (bit false) ∷ I (bit false) ∷ st) s x.0 (done codes limits f tt)
  two_flags op.Shl a b q s e l st x f = record { by = tt }
  two_flags op.Shr a b q s e l st x f = record { by = tt }
  two_flags op.Ushr a b q s e l st x f = record { by = tt }
  two_flags op.Neg a b q s e l st x f = record { by = tt }
  two_flags op.Not a b q s e l st x f = record { by = tt }
  two_flags op.Pos a b q s e l st x f = record { by = tt }
  two_flags op.Lt a b q s e l st x f = record { by = tt }
  two_flags op.Le a b q s e l st x f = record { by = tt }
  two_flags op.Gt a b q s e l st x f = record { by = tt }
  two_flags op.Ge a b q s e l st x f = record { by = tt }
  two_flags op.Eq true true q s e l st x f = step_to codes limits l (I (bit true) ∷ I (bit true) ∷ st) s x.0 (done codes limits f tt)
  two_flags op.Eq true false q s e l st x f = step_to codes limits l (I (bit false) ∷ I (bit true) ∷ st) s x.0 (done codes limits f tt)
  two_flags op.Eq false true q s e l st x f = step_to codes limits l (I (bit true) ∷ I (bit false) ∷ st) s x.0 (done codes limits f tt)
  two_flags op.Eq false false q s e l st x f = step_to codes limits l (I (bit false) ∷ I (bit false) ∷ st) s x.0 (done codes limits f tt)
  two_flags op.Ne true true q s e l st x f = step_to codes limits l (I (bit true) ∷ I (bit true) ∷ st) s x.0 (done codes limits f tt)
  two_flags op.Ne true false q s e l st x f = step_to codes limits l (I (bit false) ∷ I (bit true) ∷ st) s x.0 (done codes limits f tt)
  two_flags op.Ne false true q s e l st x f = step_to codes limits l (I (bit true) ∷ I (bit false) ∷ st) s x.0 (done codes limits f tt)
  two_flags op.Ne false false q s e l st x f = step_to codes limits l (I (bit false) ∷ I (bit false) ∷ st) s x.0 (done codes limits f tt)

  pub ints_run : (o : Op) (x : Operands) (q : ℕ) (s : State) (e : Env) (l st' st : List Word) → AllAt c.body h q (arithmetic_code o width.Int) → StackIs x st' st → Fits c.body g e l
      → Sim codes limits c h g (land_value funs codes limits c Unboxed (end_all q (arithmetic_code o width.Int)) st) Any (at codes limits c q l st' s) (operated (number_operated o (of_ints o x) s.world.store) s e)
  ints_run o (OneInt a) q s e l st' st at' is f = subst (λ st'. Sim codes limits c h g (land_value funs codes limits c Unboxed (end_all q (arithmetic_code o width.Int)) st) Any (at codes limits c q l st' s) (operated (number_operated o (of_ints o (OneInt a)) s.world.store) s e)) (sym is) (one_int o a q s e l st at' f)
  ints_run o (TwoInts a b) q s e l st' st at' is f = subst (λ st'. Sim codes limits c h g (land_value funs codes limits c Unboxed (end_all q (arithmetic_code o width.Int)) st) Any (at codes limits c q l st' s) (operated (number_operated o (of_ints o (TwoInts a b)) s.world.store) s e)) (sym is) (two_ints o a b q s e l st at' f)
  ints_run o (OneLong a) q s e l st' st at' is f = record { by = tt }
  ints_run o (TwoLongs a b) q s e l st' st at' is f = record { by = tt }
  ints_run o (LongAndInt a b) q s e l st' st at' is f = record { by = tt }
  ints_run o (OneFlag a) q s e l st' st at' is f = record { by = tt }
  ints_run o (TwoFlags a b) q s e l st' st at' is f = record { by = tt }
  ints_run o NoOperands q s e l st' st at' is f = record { by = tt }

  pub longs_run : (o : Op) (x : Operands) (q : ℕ) (s : State) (e : Env) (l st' st : List Word) → AllAt c.body h q (arithmetic_code o width.Long) → StackIs x st' st → Fits c.body g e l
      → Sim codes limits c h g (land_value funs codes limits c Unboxed (end_all q (arithmetic_code o width.Long)) st) Any (at codes limits c q l st' s) (operated (number_operated o (of_longs o x) s.world.store) s e)
  longs_run o (OneInt a) q s e l st' st at' is f = record { by = tt }
  longs_run o (TwoInts a b) q s e l st' st at' is f = record { by = tt }
  longs_run o (OneLong a) q s e l st' st at' is f = subst (λ st'. Sim codes limits c h g (land_value funs codes limits c Unboxed (end_all q (arithmetic_code o width.Long)) st) Any (at codes limits c q l st' s) (operated (number_operated o (of_longs o (OneLong a)) s.world.store) s e)) (sym is) (one_long o a q s e l st at' f)
  longs_run o (TwoLongs a b) q s e l st' st at' is f = subst (λ st'. Sim codes limits c h g (land_value funs codes limits c Unboxed (end_all q (arithmetic_code o width.Long)) st) Any (at codes limits c q l st' s) (operated (number_operated o (of_longs o (TwoLongs a b)) s.world.store) s e)) (sym is) (two_longs o a b q s e l st at' f)
  longs_run o (LongAndInt a b) q s e l st' st at' is f = subst (λ st'. Sim codes limits c h g (land_value funs codes limits c Unboxed (end_all q (arithmetic_code o width.Long)) st) Any (at codes limits c q l st' s) (operated (number_operated o (of_longs o (LongAndInt a b)) s.world.store) s e)) (sym is) (shifted_longs o a b q s e l st at' f)
  longs_run o (OneFlag a) q s e l st' st at' is f = record { by = tt }
  longs_run o (TwoFlags a b) q s e l st' st at' is f = record { by = tt }
  longs_run o NoOperands q s e l st' st at' is f = record { by = tt }

  pub flags_run : (o : Op) (x : Operands) (q : ℕ) (s : State) (e : Env) (l st' st : List Word) → AllAt c.body h q (boolean_code o) → StackIs x st' st → Fits c.body g e l
      → Sim codes limits c h g (land_value funs codes limits c Unboxed (end_all q (boolean_code o)) st) Any (at codes limits c q l st' s) (operated (flag_operated (of_flags o x)) s e)
  flags_run o (OneInt a) q s e l st' st at' is f = record { by = tt }
  flags_run o (TwoInts a b) q s e l st' st at' is f = record { by = tt }
  flags_run o (OneLong a) q s e l st' st at' is f = record { by = tt }
  flags_run o (TwoLongs a b) q s e l st' st at' is f = record { by = tt }
  flags_run o (LongAndInt a b) q s e l st' st at' is f = record { by = tt }
  flags_run o (OneFlag a) q s e l st' st at' is f = subst (λ st'. Sim codes limits c h g (land_value funs codes limits c Unboxed (end_all q (boolean_code o)) st) Any (at codes limits c q l st' s) (operated (flag_operated (of_flags o (OneFlag a))) s e)) (sym is) (one_flag o a q s e l st at' f)
  flags_run o (TwoFlags a b) q s e l st' st at' is f = subst (λ st'. Sim codes limits c h g (land_value funs codes limits c Unboxed (end_all q (boolean_code o)) st) Any (at codes limits c q l st' s) (operated (flag_operated (of_flags o (TwoFlags a b))) s e)) (sym is) (two_flags o a b q s e l st at' f)
  flags_run o NoOperands q s e l st' st at' is f = record { by = tt }
