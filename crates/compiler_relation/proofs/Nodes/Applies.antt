-- Strict operations on values, and a call that a null receiver leaves out.
use Rattle.std.proofs.Common.{◌≡◌, ◌≢◌, ℕ, suc, ◌/◌, List, [], ◌∷◌, length, Some, refl, sym, ap, subst, arith}
use Rattle.std.specs.Prelude.{slice_get}
use Rattle.pl_types.specs.declared.ty.Ty.{Ty}
use Rattle.allowlist.specs.declared.member.MemberKind.TheVariants as kind
use Rattle.member_names.specs.Names.{TextsName}
use Rattle.object_values.specs.declared.value.Value.{Value}
use Rattle.object_values.specs.declared.value.Value.TheVariants as v
use Rattle.number_ops.specs.Relations.{is_instance}
use Rattle.object_heap.specs.Effects.{Effect}
use Rattle.object_heap.specs.Store.{Store}
use Rattle.source_meaning.specs.Types.{element_of}
use Rattle.source_meaning.specs.Elements.{length_of}
use Rattle.source_meaning.specs.Loops.{iterated, has_more, next_element}
use Rattle.pl_code.specs.declared.kinds.Plain.TheVariants as plain
use Rattle.pl_code.specs.declared.kinds.Numbered.TheVariants as numbered
use Rattle.pl_code.specs.declared.code.Instruction.{Instruction}
use Rattle.pl_code.specs.declared.code.Instruction.TheVariants as i
use Rattle.typed_tree.specs.declared.operation.Member.{Member}
use Rattle.typed_tree.specs.declared.operation.Operator.{Operator}
use Rattle.typed_tree.specs.declared.operation.Operator.TheVariants as operator
use Rattle.typed_tree.specs.declared.operation.Operation.{Operation}
use Rattle.typed_tree.specs.declared.operation.Operation.TheVariants as operation
use Rattle.run_state.specs.World.{Limits, enter}
use Rattle.source_meaning.specs.Tree.{Expr, Apply, Guarded, Exprs, None', One, Programs, functions_in, type_of}
use Rattle.source_meaning.specs.Operating.{operates, operates_to, of_one_value}
use Rattle.source_meaning.specs.Meaning.{State, Env, Out, Done, Meaning, bind, unless_null, operated, applied, expr_of}
use Rattle.code_meaning.specs.declared.word.Word.{Word}
use Rattle.code_meaning.specs.declared.word.Word.TheVariants.{R}
use Rattle.code_meaning.specs.Words.{unboxed}
use Rattle.code_meaning.specs.Machine.{Codes, Handlers, Next, depth_of, on_one, if_null, pushed}
use Rattle.compiler_relation.specs.Representation.{Representation, Unboxed, Boxed, Absent, representation_of, low}
use Rattle.compiler_relation.specs.Parts.{operator_code, typed_code, operator_takes, operator_gives, operation_code, without_null}
use Rattle.compiler_relation.specs.Stands.{Scope, AllAt, end_all, end_expr, end_exprs, representations, AllRepresented, HasCode, Asks, OperatorFits, Fitting, MemberFits, AreCompiled, ExprAt, ExprsAt, At}
use Rattle.compiler_relation.proofs.Locals.{Fits}
use Rattle.compiler_relation.proofs.Follows.{Ctx, frame, at, place, Sim, and_then, done, step_to}
use Rattle.compiler_relation.proofs.Refines.{push, Any, land_value, ExprRuns, Refines}
use Rattle.compiler_relation.proofs.Nodes.Dynamic.{one_runs}
use Rattle.compiler_relation.proofs.Nodes.Containers.{list_runs, map_runs, new_array_runs, array_runs, element_runs}
use Rattle.compiler_relation.proofs.Nodes.Accesses.{call_runs, name_runs, index_runs}
use Rattle.compiler_relation.proofs.Nodes.References.{unboxed_boxed, absent_boxed, operator_runs}
use Rattle.compiler_relation.proofs.Nodes.Casts.{ReadsBack, type_read, cast_runs}
use Rattle.compiler_relation.proofs.Nodes.Calls.{called_runs}
use Rattle.compiler_relation.proofs.Nodes.Members.{member_runs}

-- an operator of a node of a type, whose parts are represented as it takes them
module _ (funs : Programs) (codes : Codes) (limits : Limits) (reads : ReadsBack) (c : Ctx codes) (h : Handlers) (g : Scope) where
  abbrev TypedRuns : Operator → Type 0
  TypedRuns o =
      (of : Ty) (k : Representation) (ks : List Representation) (values : List Value) (q : ℕ) (s : State) (e : Env) (l st : List Word)
      → AllAt c.body h q (typed_code o of (length ks)) → AllRepresented (operator_takes o) ks → k ≡ operator_gives o → Asks o of (length ks)
      → length ks ≡ length values → Fits c.body g e l
      → Sim codes limits c h g (land_value funs codes limits c k (end_all q (typed_code o of (length ks))) st) Any
      (at codes limits c q l (push ks values st) s) (operated (operates_to o of values s.world.store) s e)

  -- what it gives is represented as it gives it
  gives_so : (k k' : Representation) (q : ℕ) (st : List Word) (n : Next) (o : Out Value) → k ≡ k'
      → Sim codes limits c h g (land_value funs codes limits c k' q st) Any n o → Sim codes limits c h g (land_value funs codes limits c k q st) Any n o
  gives_so k k' q st n o is d = subst (λ k. Sim codes limits c h g (land_value funs codes limits c k q st) Any n o) (sym is) d

  plain_runs : (o : Operator) → ((of : Ty) (n : ℕ) → typed_code o of n ≡ operator_code o) → ((of : Ty) (values : List Value) (store : Store) → operates_to o of values store ≡ operates o values store)
      → ((of : Ty) (n : ℕ) → Asks o of n → HasCode o) → TypedRuns o
  plain_runs o code does can of k ks values q s e l st a lie is asks same f =
      subst (λ code. Sim codes limits c h g (land_value funs codes limits c k (end_all q code) st) Any
      (at codes limits c q l (push ks values st) s) (operated (operates_to o of values s.world.store) s e)) (sym (code of (length ks)))
      (subst (λ x. Sim codes limits c h g (land_value funs codes limits c k (end_all q (operator_code o)) st) Any
      (at codes limits c q l (push ks values st) s) (operated x s e)) (sym (does of values s.world.store))
      (operator_runs funs codes limits c h g o ks values k q s e l st (subst (AllAt c.body h q) (code of (length ks)) a) lie (can of (length ks) asks) same is f))

  one_does : (does : Store → Value → Effect) (word : Value → Word) (k k' : Representation) → ((value : Value) → Some (word value) ≡ low k' value) → k ≡ k'
      → (i' : Instruction) (ks : List Representation) (values : List Value) (q : ℕ) (s : State) (e : Env) (l st : List Word)
      → At c.body h q i' → AllRepresented Boxed ks → length ks ≡ length values → Fits c.body g e l
      → Sim codes limits c h g (land_value funs codes limits c k (suc q) st) Any
      (on_one codes limits (does s.world.store) word (frame codes limits c q l (push ks values st) s) c.below s.world) (operated (of_one_value does values s.world.store) s e)
  one_does does word k k' given is i' ks values q s e l st a lie same f =
      gives_so k k' (suc q) st _ _ is (one_runs funs codes limits c h g does word k' given ks values q i' s e l st a f lie same)

  typed_does : (o : Operator) (of : Ty) (ks : List Representation) (values : List Value) (q : ℕ) (s : State) (e : Env) (l st : List Word)
      → AllAt c.body h q (typed_code o of (length ks)) → OperatorFits o ks of → length ks ≡ length values → Fits c.body g e l
      → Sim codes limits c h g (land_value funs codes limits c (representation_of of) (end_all q (typed_code o of (length ks))) st) Any
      (at codes limits c q l (push ks values st) s) (operated (operates_to o of values s.world.store) s e)
  typed_does (operator.Int o) of ks values q s e l st a fits same f = plain_runs (operator.Int o) (λ of n. refl) (λ of values store. refl) (λ of n can. can) of _ ks values q s e l st a fits.0 fits.1 fits.2 same f
  typed_does (operator.Long o) of ks values q s e l st a fits same f = plain_runs (operator.Long o) (λ of n. refl) (λ of values store. refl) (λ of n can. can) of _ ks values q s e l st a fits.0 fits.1 fits.2 same f
  typed_does (operator.Boolean o) of ks values q s e l st a fits same f = plain_runs (operator.Boolean o) (λ of n. refl) (λ of values store. refl) (λ of n can. can) of _ ks values q s e l st a fits.0 fits.1 fits.2 same f
  typed_does (operator.Def o) of ks values q s e l st a fits same f = plain_runs (operator.Def o) (λ of n. refl) (λ of values store. refl) (λ of n can. can) of _ ks values q s e l st a fits.0 fits.1 fits.2 same f
  typed_does operator.Equal of ks values q s e l st a fits same f = plain_runs operator.Equal (λ of n. refl) (λ of values store. refl) (λ of n can. can) of _ ks values q s e l st a fits.0 fits.1 fits.2 same f
  typed_does operator.NotEqual of ks values q s e l st a fits same f = plain_runs operator.NotEqual (λ of n. refl) (λ of values store. refl) (λ of n can. can) of _ ks values q s e l st a fits.0 fits.1 fits.2 same f
  typed_does operator.Same of ks values q s e l st a fits same f = plain_runs operator.Same (λ of n. refl) (λ of values store. refl) (λ of n can. can) of _ ks values q s e l st a fits.0 fits.1 fits.2 same f
  typed_does operator.NotSame of ks values q s e l st a fits same f = plain_runs operator.NotSame (λ of n. refl) (λ of values store. refl) (λ of n can. can) of _ ks values q s e l st a fits.0 fits.1 fits.2 same f
  typed_does operator.Concat of ks values q s e l st a fits same f = plain_runs operator.Concat (λ of n. refl) (λ of values store. refl) (λ of n can. can) of _ ks values q s e l st a fits.0 fits.1 fits.2 same f
  typed_does operator.List of ks values q s e l st a fits same f =
      gives_so _ Boxed _ st _ _ fits.1 (list_runs funs codes limits c h g ks values q s e l st a.0 fits.0 same f)
  typed_does operator.Map of ks values q s e l st a fits same f =
      gives_so _ Boxed _ st _ _ fits.1 (map_runs funs codes limits c h g (length ks / 2) ks values q s e l st a.0 fits.2 fits.0 same f)
  typed_does operator.NewArray of ks values q s e l st a fits same f =
      gives_so _ Boxed _ st _ _ fits.1 (new_array_runs funs codes limits reads c h g of ks values q s e l st a.0 fits.2 fits.0 same f)
  typed_does operator.ArrayOf of ks values q s e l st a fits same f =
      gives_so _ Boxed _ st _ _ fits.1 (array_runs funs codes limits reads c h g (element_of of) ks values q s e l st a.0 fits.2 fits.0 same f)
  typed_does operator.Element of ks values q s e l st a fits same f = element_runs funs codes limits reads c h g of ks values q s e l st a.0 fits.0 fits.1 same f
  typed_does operator.PutElement of ks values q s e l st a fits same f = absurd fits
  typed_does operator.Length of ks values q s e l st a fits same f =
      step_to codes limits l (push ks values st) s a.0 (one_does length_of unboxed _ Unboxed (λ value. refl) fits.1 _ ks values q s e l st a.0 fits.0 same f)
  typed_does operator.Iterate of ks values q s e l st a fits same f =
      step_to codes limits l (push ks values st) s a.0 (one_does iterated R _ Boxed (λ value. refl) fits.1 _ ks values q s e l st a.0 fits.0 same f)
  typed_does operator.HasNext of ks values q s e l st a fits same f =
      step_to codes limits l (push ks values st) s a.0 (one_does has_more unboxed _ Unboxed (λ value. refl) fits.1 _ ks values q s e l st a.0 fits.0 same f)
  typed_does operator.Next of ks values q s e l st a fits same f =
      step_to codes limits l (push ks values st) s a.0 (one_does next_element R _ Boxed (λ value. refl) fits.1 _ ks values q s e l st a.0 fits.0 same f)

-- what is found gives a reference
found_so : (funs : Programs) (codes : Codes) (limits : Limits) (c : Ctx codes) (g : Scope) (h : Handlers) (k : Representation) (q : ℕ) (st : List Word)
    (n : Next) (o : Out Value)
    → k ≡ Boxed → Sim codes limits c h g (land_value funs codes limits c Boxed q st) Any n o → Sim codes limits c h g (land_value funs codes limits c k q st) Any n o
found_so funs codes limits c g h k q st n o is d = subst (λ k. Sim codes limits c h g (land_value funs codes limits c k q st) Any n o) (sym is) d

module _ (funs : Programs) (codes : Codes) (limits : Limits) (m : Meaning) (ih : Refines funs codes limits m) (reads : ReadsBack)
    (texts : TextsName) where
  -- whether a value is of a type
  instance_runs : (is of : Ty) (c : Ctx codes) (h : Handlers) (g : Scope) (ks : List Representation) (values : List Value) (q : ℕ) (s : State) (e : Env)
      (l st : List Word)
      → AllAt c.body h q (operation_code (operation.InstanceOf is) of (length ks)) → Fitting (functions_in funs c.text) (operation.InstanceOf is) ks of → length ks ≡ length values
      → Fits c.body g e l
      → Sim codes limits c h g (land_value funs codes limits c (representation_of of) (suc q) st) Any (at codes limits c q l (push ks values st) s)
      (applied funs limits m (operation.InstanceOf is) (place codes limits c) s e of values)
  instance_runs is of c h g ks [] q s e l st a fitting count f = record { by = tt }
  instance_runs is of c h g [] (value ∷ []) q s e l st a fitting count f = absurd (omega arith)
  instance_runs is of c h g (Boxed ∷ []) (value ∷ []) q s e l st a fitting count f =
      subst (λ k. Sim codes limits c h g (land_value funs codes limits c k (suc q) st) Any (at codes limits c q l (R value ∷ st) s)
      (Done (v.Bool (is_instance s.world.store.objects value is)) s e)) (sym fitting.1)
      (step_to codes limits l (R value ∷ st) s a.0 (type_read funs codes limits reads c h g is _ fitting.2 (done codes limits f tt)))
  instance_runs is of c h g (Unboxed ∷ []) (value ∷ []) q s e l st a fitting count f = absurd (unboxed_boxed fitting.0.0)
  instance_runs is of c h g (Absent ∷ []) (value ∷ []) q s e l st a fitting count f = absurd (absent_boxed fitting.0.0)
  instance_runs is of c h g (k ∷ k' ∷ ks) (value ∷ []) q s e l st a fitting count f = absurd (omega arith)
  instance_runs is of c h g ks (value ∷ other ∷ values) q s e l st a fitting count f = record { by = tt }

  -- strict operations
  pub applied_runs : AreCompiled funs codes
      → (o : Operation) (of : Ty) (c : Ctx codes) (h : Handlers) (g : Scope) (ks : List Representation) (values : List Value) (q : ℕ) (s : State) (e : Env)
      (l st : List Word)
      → AllAt c.body h q (operation_code o of (length ks)) → Fitting (functions_in funs c.text) o ks of → length ks ≡ length values → Fits c.body g e l
      → Sim codes limits c h g (land_value funs codes limits c (representation_of of) (end_all q (operation_code o of (length ks))) st) Any
      (at codes limits c q l (push ks values st) s) (applied funs limits m o (place codes limits c) s e of values)
  applied_runs made (operation.Operator o) of c h g ks values q s e l st a fitting count f =
      typed_does funs codes limits reads c h g o of ks values q s e l st a fitting count f
  applied_runs made (operation.Cast x) of c h g ks [] q s e l st a fitting count f = record { by = tt }
  applied_runs made (operation.Cast x) of c h g [] (value ∷ []) q s e l st a fitting count f = absurd (omega arith)
  applied_runs made (operation.Cast x) of c h g (given ∷ []) (value ∷ []) q s e l st a fitting count f =
      cast_runs funs codes limits reads c h g x of given (representation_of of) fitting value q s e l st a f
  applied_runs made (operation.Cast x) of c h g (given ∷ other ∷ ks) (value ∷ []) q s e l st a fitting count f = absurd (omega arith)
  applied_runs made (operation.Cast x) of c h g ks (value ∷ other ∷ values) q s e l st a fitting count f = record { by = tt }
  applied_runs made (operation.Function number) of c h g ks values q s e l st a fitting count f =
      step_to codes limits l (push ks values st) s a.0
      (called_runs funs codes limits m ih made c h g q c.text number _ [] (representation_of of) ks s e l st values a.0 f count (enter limits (depth_of c.below) s.world) (slice_get (functions_in funs c.text) number) refl
      (λ fun is. let x = fitting fun is in (x.0, x.1, tt)))
  applied_runs made (operation.InstanceOf is) of c h g ks values q s e l st a fitting count f =
      instance_runs is of c h g ks values q s e l st a fitting count f
  applied_runs made (operation.Instance member) of c h g ks values q s e l st a fitting count f =
      step_to codes limits l (push ks values st) s a.0
      (member_runs texts funs codes limits m c h g kind.Instance member ks of fitting values q _ s e l st a.0 a.1 count f)
  applied_runs made (operation.Static member) of c h g ks values q s e l st a fitting count f =
      step_to codes limits l (push ks values st) s a.0
      (member_runs texts funs codes limits m c h g kind.Static member ks of fitting values q _ s e l st a.0 a.1 count f)
  applied_runs made (operation.Constructor member) of c h g ks values q s e l st a fitting count f =
      step_to codes limits l (push ks values st) s a.0
      (member_runs texts funs codes limits m c h g kind.Constructor member ks of fitting values q _ s e l st a.0 a.1 count f)
  applied_runs made (operation.Field member) of c h g ks values q s e l st a fitting count f =
      step_to codes limits l (push ks values st) s a.0
      (member_runs texts funs codes limits m c h g kind.Field member ks of fitting values q _ s e l st a.0 a.1 count f)
  applied_runs made (operation.Host member) of c h g ks values q s e l st a fitting count f = absurd fitting
  applied_runs made (operation.DefCall name) of c h g ks values q s e l st a fitting count f =
      found_so funs codes limits c g h (representation_of of) (suc q) st _ _ fitting.2
      (call_runs funs codes limits m c h g name ks values q s e l st a.0 fitting.0 fitting.1 count f)
  applied_runs made (operation.DefName name) of c h g ks values q s e l st a fitting count f =
      found_so funs codes limits c g h (representation_of of) (suc q) st _ _ fitting.1
      (name_runs funs codes limits m c h g name ks values q s e l st a.0 fitting.0 count f)
  applied_runs made (operation.PutDefName name) of c h g ks values q s e l st a fitting count f = absurd fitting
  applied_runs made operation.DefIndex of c h g ks values q s e l st a fitting count f =
      found_so funs codes limits c g h (representation_of of) (suc q) st _ _ fitting.1
      (index_runs funs codes limits m c h g ks values q s e l st a.0 fitting.0 count f)
  applied_runs made operation.PutDefIndex of c h g ks values q s e l st a fitting count f = absurd fitting

  pub apply_runs : AreCompiled funs codes → (at' : ℕ) (of : Ty) (o : Operation) (parts : Exprs)
      → ExprRuns funs codes limits (λ d s e. expr_of funs limits m d s e (Apply at' of o parts)) (Apply at' of o parts)
  apply_runs made at' of o parts c h g p s e l st stands f =
      and_then codes limits (ih.exprs parts c h g p s e l st stands.0 f) (λ values s e l f y.
      applied_runs made o of c h g (representations parts) values _ s e l st stands.1 stands.2 y.is f)

-- a call that a null receiver leaves out
module _ (funs : Programs) (codes : Codes) (limits : Limits) (m : Meaning) (ih : Refines funs codes limits m) (texts : TextsName) where
  -- null goes on to the second place, and lies there
  null_leaves : (c : Ctx codes) (h : Handlers) (g : Scope) (value : Value) (first : Next)
      (second : Value → Next) {land : Value → State → List Word → Next} {good : Value → Type 0} {o o' : Out Value}
      → Sim codes limits c h g land good first o → Sim codes limits c h g land good (second v.Null) o'
      → Sim codes limits c h g land good (if_null value (second value) first) (unless_null value o o')
  null_leaves c h g v.Null first second d d' = d'
  null_leaves c h g (v.Bool a) first second d d' = d
  null_leaves c h g (v.Byte a) first second d d' = d
  null_leaves c h g (v.Short a) first second d d' = d
  null_leaves c h g (v.Char a) first second d d' = d
  null_leaves c h g (v.Int a) first second d d' = d
  null_leaves c h g (v.Long a) first second d d' = d
  null_leaves c h g (v.Str a) first second d d' = d
  null_leaves c h g (v.Ref a) first second d d' = d

  -- null is what the call gives, and is dropped where that is nothing
  null_stays : (k : Representation) (c : Ctx codes) (h : Handlers) (g : Scope) (q : ℕ) (s : State) (e : Env) (l st : List Word) → k ≢ Unboxed
      → AllAt c.body h q (without_null k) → Fits c.body g e l
      → Sim codes limits c h g (land_value funs codes limits c k (end_all q (without_null k)) st) Any (at codes limits c q l (R v.Null ∷ st) s)
      (Done v.Null s e)
  null_stays Absent c h g q s e l st some a f = step_to codes limits l (R v.Null ∷ st) s a.0 (done codes limits f tt)
  null_stays Boxed c h g q s e l st some a f = done codes limits f tt
  null_stays Unboxed c h g q s e l st some a f = absurd (some refl)

  first_representation : (k k' : Representation) (ks ks' : List Representation) → (k ∷ ks) ≡ (k' ∷ ks') → k ≡ k'
  first_representation k k' ks ks' e = cc

  -- the rest of a call, from its arguments on, lies behind a receiver that is not null
  guarded_by : (of : Ty) (o : Operation) (a : Expr) (others : Exprs) (c : Ctx codes) (h : Handlers) (g : Scope) (p : ℕ) (s : State)
      (e : Env) (l st : List Word)
      → representation_of (type_of a) ≡ Boxed → representation_of of ≢ Unboxed
      → ExprAt (functions_in funs c.text) c.body h g p a
      → At c.body h (end_expr p a) (i.Plain plain.Dup)
      → At c.body h (suc (end_expr p a)) (i.Numbered numbered.IfNull (suc (end_exprs (suc (suc (end_expr p a))) others)))
      → ExprsAt (functions_in funs c.text) c.body h g (suc (suc (end_expr p a))) others
      → AllAt c.body h (suc (end_exprs (suc (suc (end_expr p a))) others)) (without_null (representation_of of))
      → ((value : Value) (values : List Value) (s : State) (e : Env) (l : List Word) → length (representations others) ≡ length values → Fits c.body g e l
      → Sim codes limits c h g
      (land_value funs codes limits c (representation_of of) (end_all (suc (end_exprs (suc (suc (end_expr p a))) others)) (without_null (representation_of of))) st) Any
      (at codes limits c (end_exprs (suc (suc (end_expr p a))) others) l (push (representations others) values (R value ∷ st)) s)
      (applied funs limits m o (place codes limits c) s e of (value ∷ values)))
      → Fits c.body g e l
      → Sim codes limits c h g
      (land_value funs codes limits c (representation_of of) (end_all (suc (end_exprs (suc (suc (end_expr p a))) others)) (without_null (representation_of of))) st) Any
      (at codes limits c p l st s)
      (bind (m.expr (place codes limits c) s e a) (λ value s e. unless_null value (bind (m.exprs (place codes limits c) s e others)
      (λ values s e. applied funs limits m o (place codes limits c) s e of (value ∷ values))) (Done v.Null s e)))
  guarded_by of o a others c h g p s e l st whole some receiver copied jumps arguments drops rest f =
      let here = end_expr p a in
      let q = end_exprs (suc (suc here)) others in
      and_then codes limits (ih.expr a c h g p s e l st receiver f) (λ value s e l f _.
      subst (λ k. Sim codes limits c h g (land_value funs codes limits c (representation_of of) (end_all (suc q) (without_null (representation_of of))) st) Any
      (at codes limits c here l (pushed (low k value) st) s)
      (unless_null value (bind (m.exprs (place codes limits c) s e others)
      (λ values s e. applied funs limits m o (place codes limits c) s e of (value ∷ values))) (Done v.Null s e))) (sym whole)
      (step_to codes limits l (R value ∷ st) s copied
      (step_to codes limits l (R value ∷ R value ∷ st) s jumps
      (null_leaves c h g value (at codes limits c (suc (suc here)) l (R value ∷ st) s) (λ value. at codes limits c (suc q) l (R value ∷ st) s)
      (and_then codes limits (ih.exprs others c h g _ s e l (R value ∷ st) arguments f) (λ values s e l f y. rest value values s e l y.is f))
      (null_stays (representation_of of) c h g (suc q) s e l st some drops f)))))

  -- where what is given is a reference, nothing is dropped
  found_rests : (of : Ty) (c : Ctx codes) (h : Handlers) (g : Scope) (q : ℕ) (st : List Word) (n : Next) (o : Out Value) → representation_of of ≡ Boxed
      → Sim codes limits c h g (land_value funs codes limits c Boxed (suc q) st) Any n o
      → Sim codes limits c h g (land_value funs codes limits c (representation_of of) (end_all (suc q) (without_null (representation_of of))) st) Any n o
  found_rests of c h g q st n o is d =
      subst (λ k. Sim codes limits c h g (land_value funs codes limits c k (end_all (suc q) (without_null k)) st) Any n o) (sym is) d

  pub guarded_runs : (at' : ℕ) (of : Ty) (o : Operation) (parts : Exprs)
      → ExprRuns funs codes limits (λ d s e. expr_of funs limits m d s e (Guarded at' of o parts)) (Guarded at' of o parts)
  guarded_runs at' of o None' c h g p s e l st stands f = record { by = tt }
  guarded_runs at' of (operation.Instance member) (One a others) c h g p s e l st stands f =
      let whole : representation_of (type_of a) ≡ Boxed = first_representation _ _ _ _ stands.6.fits.parts in
      let fits : MemberFits kind.Instance member (Boxed ∷ representations others) of = subst
      (λ k. MemberFits kind.Instance member (k ∷ representations others) of) whole stands.6.fits in
      guarded_by of (operation.Instance member) a others c h g p s e l st whole stands.6.whole stands.0 stands.1 stands.2 stands.3 stands.5 (λ value values s e l same f.
      step_to codes limits l (push (representations others) values (R value ∷ st)) s stands.4.0
      (member_runs texts funs codes limits m c h g kind.Instance member (Boxed ∷ representations others) of fits
      (value ∷ values) _ _ s e l st stands.4.0 stands.5 (ap suc same) f)) f
  guarded_runs at' of (operation.DefCall name) (One a others) c h g p s e l st stands f =
      let ks = representations others in
      guarded_by of (operation.DefCall name) a others c h g p s e l st stands.6.fits.1.0 stands.6.whole stands.0 stands.1 stands.2 stands.3 stands.5 (λ value values s e l same f.
      found_rests of c h g _ st _ _ stands.6.fits.2
      (call_runs funs codes limits m c h g name (Boxed ∷ ks) (value ∷ values) _ s e l st stands.4.0 tt (refl, stands.6.fits.1.1) (ap suc same) f)) f
  guarded_runs at' of (operation.DefName name) (One a others) c h g p s e l st stands f =
      let ks = representations others in
      guarded_by of (operation.DefName name) a others c h g p s e l st stands.6.fits.0.0 stands.6.whole stands.0 stands.1 stands.2 stands.3 stands.5 (λ value values s e l same f.
      found_rests of c h g _ st _ _ stands.6.fits.1
      (name_runs funs codes limits m c h g name (Boxed ∷ ks) (value ∷ values) _ s e l st stands.4.0 (refl, stands.6.fits.0.1) (ap suc same) f)) f
  guarded_runs at' of other (One a others) c h g p s e l st stands f = absurd stands.6.sort
