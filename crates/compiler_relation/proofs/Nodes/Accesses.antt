-- What is found for a receiver when the code runs: calls by a name, and what a name or an index reads or writes.
use Rattle.std.proofs.Common.{◌≡◌, ℕ, suc, ◌-◌, List, [], ◌∷◌, ◌++◌, length, Option, Some, None, refl, sym, ap, ◌∙◌, subst, arith}
use Rattle.pl_types.specs.declared.ty.Ty.{Ty}
use Rattle.object_values.specs.declared.value.Value.{Value}
use Rattle.object_heap.specs.Effects.{Effect}
use Rattle.source_meaning.specs.MemberCallsMembers.{does}
use Rattle.source_meaning.specs.Access.{Access, Calls, Acts, index_read, index_written, name_read, name_written, method_called}
use Rattle.pl_code.specs.declared.kinds.Plain.TheVariants as plain
use Rattle.pl_code.specs.declared.kinds.Quoting.TheVariants as quoting
use Rattle.pl_code.specs.declared.code.Instruction.{Instruction}
use Rattle.pl_code.specs.declared.code.Instruction.TheVariants as i
use Rattle.run_state.specs.World.{Limits, Counted, Counts, Passes, acts_in, allowed_in, pay_member}
use Rattle.source_meaning.specs.Tree.{Programs}
use Rattle.source_meaning.specs.Meaning.{State, Env, Meaning, acted, paid, accessed, method_applied, name_applied, name_put, index_applied, index_put}
use Rattle.code_meaning.specs.declared.word.Word.{Word}
use Rattle.code_meaning.specs.declared.word.Word.TheVariants.{R}
use Rattle.code_meaning.specs.Machine.{Codes, Handlers, on_first, on_found, on_found_paid, on_access, on_put, on_put_paid, on_write, pushed}
use Rattle.compiler_relation.specs.Representation.{Representation, Boxed, representation_of, low}
use Rattle.compiler_relation.specs.Stands.{Scope, At, AllRepresented, HasReceiver}
use Rattle.compiler_relation.proofs.Locals.{Fits}
use Rattle.compiler_relation.proofs.Follows.{Ctx, Sim, at, frame, place, ended, step_to}
use Rattle.compiler_relation.proofs.Refines.{push, Any, land_value}
use Rattle.compiler_relation.proofs.Nodes.Operands.{outcome_runs}
use Rattle.compiler_relation.proofs.Nodes.Dynamic.{piled, pile_is}
use Rattle.compiler_relation.proofs.Nodes.Containers.{done_runs, references_off}

module _ (funs : Programs) (codes : Codes) (limits : Limits) (m : Meaning) (c : Ctx codes) (h : Handlers) (g : Scope) where
  -- ---- what is read or called gives a reference

  found_runs : (q : ℕ) (i' : Instruction) (s : State) (e : Env) (l st st' : List Word) → At c.body h q i' → Fits c.body g e l → (o : Option Effect)
      → Sim codes limits c h g (land_value funs codes limits c Boxed (suc q) st) Any (on_found codes limits o (frame codes limits c q l st' s) c.below s.world st) (acted funs limits m o s e)
  found_runs q i' s e l st st' a f None = record { by = tt }
  found_runs q i' s e l st st' a f (Some given) = outcome_runs funs codes limits c h g q i' s e l st st' Boxed R (λ value. refl) a f (acts_in s.world given)

  found_paid : (number : ℕ) (arguments : List Value) (q : ℕ) (i' : Instruction) (s : State) (e : Env) (l st st' : List Word) → At c.body h q i' → Fits c.body g e l → (x : Counted)
      → Sim codes limits c h g (land_value funs codes limits c Boxed (suc q) st) Any (on_found_paid codes limits x number arguments (frame codes limits c q l st' s) c.below st) (paid funs limits m x number arguments s e)
  found_paid number arguments q i' s e l st st' a f (Passes limit w) = record { by = ended codes limits _ }
  found_paid number arguments q i' s e l st st' a f (Counts w) =
      found_runs q i' (record { world = w; turns = s.turns }) e l st st' a f (does limits.ground.host number arguments w.store)

  access_runs : (q : ℕ) (i' : Instruction) (s : State) (e : Env) (l st st' : List Word) → At c.body h q i' → Fits c.body g e l → (x : Access)
      → Sim codes limits c h g (land_value funs codes limits c Boxed (suc q) st) Any (on_access codes limits x (frame codes limits c q l st' s) c.below s.world st) (accessed funs limits m x (place codes limits c) s e)
  access_runs q i' s e l st st' a f (Calls number arguments) = found_paid number arguments q i' s e l st st' a f (pay_member c.text number s.world)
  access_runs q i' s e l st st' a f (Acts given) = outcome_runs funs codes limits c h g q i' s e l st st' Boxed R (λ value. refl) a f (acts_in s.world given)

  -- ---- what a write gives is dropped

  put_runs : (q : ℕ) (i' : Instruction) (s : State) (e : Env) (l st st' : List Word) → At c.body h q i' → Fits c.body g e l → (o : Option Effect)
      → Sim codes limits c h g (λ dropped s l. at codes limits c (suc q) l st s) Any (on_put codes limits o (frame codes limits c q l st' s) c.below s.world st) (acted funs limits m o s e)
  put_runs q i' s e l st st' a f None = record { by = tt }
  put_runs q i' s e l st st' a f (Some given) = done_runs funs codes limits c h g q i' s e l st st' a f (acts_in s.world given)

  put_paid : (number : ℕ) (arguments : List Value) (q : ℕ) (i' : Instruction) (s : State) (e : Env) (l st st' : List Word) → At c.body h q i' → Fits c.body g e l → (x : Counted)
      → Sim codes limits c h g (λ dropped s l. at codes limits c (suc q) l st s) Any (on_put_paid codes limits x number arguments (frame codes limits c q l st' s) c.below st) (paid funs limits m x number arguments s e)
  put_paid number arguments q i' s e l st st' a f (Passes limit w) = record { by = ended codes limits _ }
  put_paid number arguments q i' s e l st st' a f (Counts w) =
      put_runs q i' (record { world = w; turns = s.turns }) e l st st' a f (does limits.ground.host number arguments w.store)

  write_access : (q : ℕ) (i' : Instruction) (s : State) (e : Env) (l st st' : List Word) → At c.body h q i' → Fits c.body g e l → (x : Access)
      → Sim codes limits c h g (λ dropped s l. at codes limits c (suc q) l st s) Any (on_write codes limits x (frame codes limits c q l st' s) c.below s.world st) (accessed funs limits m x (place codes limits c) s e)
  write_access q i' s e l st st' a f (Calls number arguments) = put_paid number arguments q i' s e l st st' a f (pay_member c.text number s.world)
  write_access q i' s e l st st' a f (Acts given) = done_runs funs codes limits c h g q i' s e l st st' a f (acts_in s.world given)

  -- ---- calls by a name

  one_more : (n : ℕ) → suc (suc n - 1) ≡ suc n
  one_more n = omega arith

  pub call_runs : (name : List ℕ) (ks : List Representation) (values : List Value) (q : ℕ) (s : State) (e : Env) (l st : List Word)
      → At c.body h q (i.DefCall name (length ks - 1)) → HasReceiver ks → AllRepresented Boxed ks → length ks ≡ length values → Fits c.body g e l
      → Sim codes limits c h g (land_value funs codes limits c Boxed (suc q) st) Any
      (at codes limits c q l (push ks values st) s) (method_applied funs limits m name values (place codes limits c) s e)
  call_runs name ks [] q s e l st x has lie same f = record { by = tt }
  call_runs name [] (receiver ∷ arguments) q s e l st x has lie same f = absurd has
  call_runs name (k ∷ ks) (receiver ∷ arguments) q s e l st x has lie same f =
      let all = push (k ∷ ks) (receiver ∷ arguments) st in
      step_to codes limits l all s x
      (references_off funs codes limits c h g (suc (length (k ∷ ks) - 1)) (k ∷ ks) (receiver ∷ arguments) st
      (λ items stack. on_first items (λ receiver arguments.
      on_access codes limits (method_called (allowed_in limits c.text) s.world.store receiver name arguments) (frame codes limits c q l all s) c.below s.world stack))
      (one_more (length ks)) lie same
      (access_runs q _ s e l st all x f (method_called (allowed_in limits c.text) s.world.store receiver name arguments)))

  -- ---- reads by a name or an index

  name_piled : (name : List ℕ) (values : List Value) (q : ℕ) (s : State) (e : Env) (l st : List Word)
      → At c.body h q (i.Quoted quoting.GetName name) → Fits c.body g e l
      → Sim codes limits c h g (land_value funs codes limits c Boxed (suc q) st) Any
      (at codes limits c q l (piled Boxed values st) s) (name_applied funs limits m name values (place codes limits c) s e)
  name_piled name [] q s e l st x f = record { by = tt }
  name_piled name (receiver ∷ []) q s e l st x f =
      step_to codes limits l (R receiver ∷ st) s x
      (access_runs q _ s e l st (R receiver ∷ st) x f (name_read (allowed_in limits c.text) s.world.store receiver name))
  name_piled name (receiver ∷ other ∷ values) q s e l st x f = record { by = tt }

  pub name_runs : (name : List ℕ) (ks : List Representation) (values : List Value) (q : ℕ) (s : State) (e : Env) (l st : List Word)
      → At c.body h q (i.Quoted quoting.GetName name) → AllRepresented Boxed ks → length ks ≡ length values → Fits c.body g e l
      → Sim codes limits c h g (land_value funs codes limits c Boxed (suc q) st) Any
      (at codes limits c q l (push ks values st) s) (name_applied funs limits m name values (place codes limits c) s e)
  name_runs name ks values q s e l st x lie same f =
      subst (λ st'. Sim codes limits c h g (land_value funs codes limits c Boxed (suc q) st) Any
      (at codes limits c q l st' s) (name_applied funs limits m name values (place codes limits c) s e)) (sym (pile_is Boxed ks values st lie same))
      (name_piled name values q s e l st x f)

  index_piled : (values : List Value) (q : ℕ) (s : State) (e : Env) (l st : List Word)
      → At c.body h q (i.Plain plain.GetIndex) → Fits c.body g e l
      → Sim codes limits c h g (land_value funs codes limits c Boxed (suc q) st) Any
      (at codes limits c q l (piled Boxed values st) s) (index_applied funs limits m values (place codes limits c) s e)
  index_piled [] q s e l st x f = record { by = tt }
  index_piled (receiver ∷ []) q s e l st x f = record { by = tt }
  index_piled (receiver ∷ index ∷ []) q s e l st x f =
      step_to codes limits l (R index ∷ R receiver ∷ st) s x
      (access_runs q _ s e l st (R index ∷ R receiver ∷ st) x f (index_read (allowed_in limits c.text) s.world.store receiver index))
  index_piled (receiver ∷ index ∷ other ∷ values) q s e l st x f = record { by = tt }

  pub index_runs : (ks : List Representation) (values : List Value) (q : ℕ) (s : State) (e : Env) (l st : List Word)
      → At c.body h q (i.Plain plain.GetIndex) → AllRepresented Boxed ks → length ks ≡ length values → Fits c.body g e l
      → Sim codes limits c h g (land_value funs codes limits c Boxed (suc q) st) Any
      (at codes limits c q l (push ks values st) s) (index_applied funs limits m values (place codes limits c) s e)
  index_runs ks values q s e l st x lie same f =
      subst (λ st'. Sim codes limits c h g (land_value funs codes limits c Boxed (suc q) st) Any
      (at codes limits c q l st' s) (index_applied funs limits m values (place codes limits c) s e)) (sym (pile_is Boxed ks values st lie same))
      (index_piled values q s e l st x f)

  -- ---- writes by a name or an index: the value lies on the parts

  name_written_on : (name : List ℕ) (values : List Value) (new : Value) (q : ℕ) (s : State) (e : Env) (l st : List Word)
      → At c.body h q (i.Quoted quoting.PutName name) → Fits c.body g e l
      → Sim codes limits c h g (λ dropped s l. at codes limits c (suc q) l st s) Any
      (at codes limits c q l (R new ∷ piled Boxed values st) s) (name_put funs limits m name (values ++ new ∷ []) (place codes limits c) s e)
  name_written_on name [] new q s e l st x f = record { by = tt }
  name_written_on name (receiver ∷ []) new q s e l st x f =
      step_to codes limits l (R new ∷ R receiver ∷ st) s x
      (write_access q _ s e l st (R new ∷ R receiver ∷ st) x f (name_written (allowed_in limits c.text) s.world.store receiver name new))
  name_written_on name (receiver ∷ other ∷ []) new q s e l st x f = record { by = tt }
  name_written_on name (receiver ∷ other ∷ third ∷ values) new q s e l st x f = record { by = tt }

  index_written_on : (values : List Value) (new : Value) (q : ℕ) (s : State) (e : Env) (l st : List Word)
      → At c.body h q (i.Plain plain.PutIndex) → Fits c.body g e l
      → Sim codes limits c h g (λ dropped s l. at codes limits c (suc q) l st s) Any
      (at codes limits c q l (R new ∷ piled Boxed values st) s) (index_put funs limits m (values ++ new ∷ []) (place codes limits c) s e)
  index_written_on [] new q s e l st x f = record { by = tt }
  index_written_on (receiver ∷ []) new q s e l st x f = record { by = tt }
  index_written_on (receiver ∷ index ∷ []) new q s e l st x f =
      step_to codes limits l (R new ∷ R index ∷ R receiver ∷ st) s x
      (write_access q _ s e l st (R new ∷ R index ∷ R receiver ∷ st) x f (index_written (allowed_in limits c.text) s.world.store receiver index new))
  index_written_on (receiver ∷ index ∷ other ∷ []) new q s e l st x f = record { by = tt }
  index_written_on (receiver ∷ index ∷ other ∷ third ∷ values) new q s e l st x f = record { by = tt }

  pub name_writes : (name : List ℕ) (of : Ty) (ks : List Representation) (values : List Value) (new : Value) (q : ℕ) (s : State) (e : Env) (l st : List Word)
      → At c.body h q (i.Quoted quoting.PutName name) → AllRepresented Boxed ks → representation_of of ≡ Boxed → length ks ≡ length values → Fits c.body g e l
      → Sim codes limits c h g (λ dropped s l. at codes limits c (suc q) l st s) Any
      (at codes limits c q l (pushed (low (representation_of of) new) (push ks values st)) s) (name_put funs limits m name (values ++ new ∷ []) (place codes limits c) s e)
  name_writes name of ks values new q s e l st x lie is same f =
      subst (λ st'. Sim codes limits c h g (λ dropped s l. at codes limits c (suc q) l st s) Any
      (at codes limits c q l st' s) (name_put funs limits m name (values ++ new ∷ []) (place codes limits c) s e))
      (sym (ap (λ k. pushed (low k new) (push ks values st)) is ∙ ap (λ st'. R new ∷ st') (pile_is Boxed ks values st lie same)))
      (name_written_on name values new q s e l st x f)

  pub index_writes : (of : Ty) (ks : List Representation) (values : List Value) (new : Value) (q : ℕ) (s : State) (e : Env) (l st : List Word)
      → At c.body h q (i.Plain plain.PutIndex) → AllRepresented Boxed ks → representation_of of ≡ Boxed → length ks ≡ length values → Fits c.body g e l
      → Sim codes limits c h g (λ dropped s l. at codes limits c (suc q) l st s) Any
      (at codes limits c q l (pushed (low (representation_of of) new) (push ks values st)) s) (index_put funs limits m (values ++ new ∷ []) (place codes limits c) s e)
  index_writes of ks values new q s e l st x lie is same f =
      subst (λ st'. Sim codes limits c h g (λ dropped s l. at codes limits c (suc q) l st s) Any
      (at codes limits c q l st' s) (index_put funs limits m (values ++ new ∷ []) (place codes limits c) s e))
      (sym (ap (λ k. pushed (low k new) (push ks values st)) is ∙ ap (λ st'. R new ∷ st') (pile_is Boxed ks values st lie same)))
      (index_written_on values new q s e l st x f)
