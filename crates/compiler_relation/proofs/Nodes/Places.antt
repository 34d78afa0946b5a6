-- Places: copies of their parts, and writes to them.
use Rattle.std.proofs.Common.{◌≡◌, ◌≢◌, ℕ, suc, true, List, [], ◌∷◌, ◌++◌, map, length, Option, Some, None, refl, sym, ap, ◌∙◌, subst, arith, length-append}
use Rattle.pl_types.specs.declared.ty.Ty.{Ty}
use Rattle.pl_types.specs.Texts.{is_known}
use Rattle.allowlist.specs.declared.member.MemberKind.{MemberKind}
use Rattle.allowlist.specs.declared.member.MemberKind.TheVariants as kind
use Rattle.member_names.specs.Names.{TextsName}
use Rattle.object_values.specs.declared.value.Value.{Value}
use Rattle.pl_code.specs.declared.kinds.Plain.TheVariants as plain
use Rattle.pl_code.specs.declared.code.Instruction.TheVariants as i
use Rattle.typed_tree.specs.declared.operation.Operation.{Operation}
use Rattle.typed_tree.specs.declared.operation.Operation.TheVariants as operation
use Rattle.typed_tree.specs.declared.operation.Operator.TheVariants as operator
use Rattle.typed_tree.specs.declared.operation.Member.{Member}
use Rattle.typed_tree.specs.declared.operation.Gives.{Gives}
use Rattle.typed_tree.specs.declared.operation.Gives.TheVariants as gives
use Rattle.run_state.specs.World.{Limits}
use Rattle.source_meaning.specs.Tree.{Programs}
use Rattle.source_meaning.specs.Operating.{written_at}
use Rattle.source_meaning.specs.Meaning.{State, Env, Out, Meaning, operated, applied}
use Rattle.code_meaning.specs.declared.word.Word.{Word}
use Rattle.code_meaning.specs.declared.word.Word.TheVariants.{R}
use Rattle.code_meaning.specs.Words.{unboxed}
use Rattle.code_meaning.specs.Machine.{Codes, Handlers, Next, pushed}
use Rattle.compiler_relation.specs.Representation.{Representation, Unboxed, Boxed, Absent, representation_of, low}
use Rattle.compiler_relation.specs.Parts.{without_null, write_code, kept_under, copies, kept_before, kept_behind}
use Rattle.compiler_relation.specs.Stands.{Scope, At, AllAt, end_all, with_receiver, ArePresent, MemberWrites, WriteFits, AreOneOrTwo, PlaceFits}
use Rattle.compiler_relation.proofs.Locals.{Fits}
use Rattle.compiler_relation.proofs.Follows.{Ctx, at, place, Sim, does_next, step_to, lands_on}
use Rattle.compiler_relation.proofs.Refines.{push, Any, land_value}
use Rattle.compiler_relation.proofs.Nodes.Calls.{low_is}
use Rattle.compiler_relation.proofs.Nodes.Exprs.{kept_old, kept_new}
use Rattle.compiler_relation.proofs.Nodes.Members.{params_present, member_runs}
use Rattle.compiler_relation.proofs.Nodes.Casts.{ReadsBack}
use Rattle.compiler_relation.proofs.Nodes.Containers.{alike_present, written_runs}
use Rattle.compiler_relation.proofs.Nodes.Accesses.{name_writes, index_writes}

-- ---- parts and values on a stack

-- a value on parts is the last of them
pub push_last : (ks : List Representation) (values : List Value) (k : Representation) (value : Value) (st : List Word) → length ks ≡ length values
    → push (ks ++ k ∷ []) (values ++ value ∷ []) st ≡ pushed (low k value) (push ks values st)
push_last [] [] k value st same = refl
push_last [] (x ∷ values) k value st same = absurd (omega arith)
push_last (j ∷ ks) [] k value st same = absurd (omega arith)
push_last (j ∷ ks) (x ∷ values) k value st same = push_last ks values k value (pushed (low j x) st) (omega arith)

low_some : (k : Representation) (value : Value) → k ≢ Absent → low k value ≢ None
low_some Unboxed value some = λ e. cc
low_some Boxed value some = λ e. cc
low_some Absent value some = absurd (some refl)

first_present : (ks js : List Representation) → ArePresent (ks ++ js) → ArePresent ks
first_present [] js present = tt
first_present (k ∷ ks) js present = (present.0, first_present ks js present.1)

boxed_present : Boxed ≢ Absent
boxed_present e = cc

unboxed_present : Unboxed ≢ Absent
unboxed_present e = cc

-- the parts of a place have values
writes_present : (write : Operation) (ks : List Representation) (of : Ty) → WriteFits write ks of → ArePresent ks
writes_present (operation.Operator operator.PutElement) ks of fits = subst ArePresent (sym fits.0) (boxed_present, (unboxed_present, tt))
writes_present (operation.Instance m) ks of fits =
    let t = fits.fits.member in
    first_present ks (representation_of of ∷ []) (subst ArePresent (sym fits.fits.parts)
    (subst (λ sort. ArePresent (with_receiver sort (map representation_of t.params))) fits.fits.sort
    (with_one t.kind (map representation_of t.params) (params_present m.number t fits.fits.is))))
  where
    with_one : (sort : MemberKind) (params : List Representation) → ArePresent params → ArePresent (with_receiver sort params)
    with_one kind.Instance params present = (boxed_present, present)
    with_one kind.Static params present = present
    with_one kind.Constructor params present = present
    with_one kind.Field params present = present
writes_present (operation.PutDefName name) ks of fits = alike_present Boxed ks boxed_present fits.0
writes_present operation.PutDefIndex ks of fits = alike_present Boxed ks boxed_present fits.0
writes_present other ks of fits = absurd fits

pub parts_present : (write : Operation) (ks : List Representation) (of : Ty) → PlaceFits write ks of → ArePresent ks
parts_present write ks of fits = writes_present write ks of fits.writes

module _ (funs : Programs) (codes : Codes) (limits : Limits) (c : Ctx codes) (h : Handlers) (g : Scope) where
  -- ---- copies

  one_under : (o o' : Option Word) (q : ℕ) (s : State) (l st : List Word) → o ≢ None → o' ≢ None → At c.body h q (i.Plain plain.DupX1)
      → {A : Type 0} {land : A → State → List Word → Next} {good : A → Type 0} {out : Out A}
      → Sim codes limits c h g land good (at codes limits c (suc q) l (pushed o (pushed o' (pushed o st))) s) out
      → Sim codes limits c h g land good (at codes limits c q l (pushed o (pushed o' st)) s) out
  one_under (Some word) (Some word') q s l st some some' a next = step_to codes limits l (word ∷ word' ∷ st) s a next
  one_under (Some word) None q s l st some some' a next = absurd (some' refl)
  one_under None o' q s l st some some' a next = absurd (some refl)

  two_under : (o o' o'' : Option Word) (q : ℕ) (s : State) (l st : List Word) → o ≢ None → o' ≢ None → o'' ≢ None → At c.body h q (i.Plain plain.DupX2)
      → {A : Type 0} {land : A → State → List Word → Next} {good : A → Type 0} {out : Out A}
      → Sim codes limits c h g land good (at codes limits c (suc q) l (pushed o (pushed o' (pushed o'' (pushed o st)))) s) out
      → Sim codes limits c h g land good (at codes limits c q l (pushed o (pushed o' (pushed o'' st))) s) out
  two_under (Some word) (Some word') (Some word'') q s l st some some' some'' a next = step_to codes limits l (word ∷ word' ∷ word'' ∷ st) s a next
  two_under (Some word) (Some word') None q s l st some some' some'' a next = absurd (some'' refl)
  two_under (Some word) None o'' q s l st some some' some'' a next = absurd (some' refl)
  two_under None o' o'' q s l st some some' some'' a next = absurd (some refl)

  -- a value is kept below the parts of its place
  pub under_runs : (ks : List Representation) (values : List Value) (k : Representation) (value : Value) (q : ℕ) (s : State) (l st : List Word)
      → AreOneOrTwo ks → ArePresent ks → length ks ≡ length values → k ≢ Absent → AllAt c.body h q (kept_under (length ks))
      → {A : Type 0} {land : A → State → List Word → Next} {good : A → Type 0} {out : Out A}
      → Sim codes limits c h g land good (at codes limits c (end_all q (kept_under (length ks))) l (pushed (low k value) (push ks values (pushed (low k value) st))) s) out
      → Sim codes limits c h g land good (at codes limits c q l (pushed (low k value) (push ks values st)) s) out
  under_runs [] values k value q s l st few present same some a next = absurd few
  under_runs (j ∷ []) (x ∷ []) k value q s l st few present same some a next =
      one_under (low k value) (low j x) q s l st (low_some k value some) (low_some j x present.0) a.0 next
  under_runs (j ∷ []) [] k value q s l st few present same some a next = absurd (omega arith)
  under_runs (j ∷ []) (x ∷ y ∷ values) k value q s l st few present same some a next = absurd (omega arith)
  under_runs (j ∷ j' ∷ []) (x ∷ y ∷ []) k value q s l st few present same some a next =
      two_under (low k value) (low j' y) (low j x) q s l st (low_some k value some) (low_some j' y present.1.0) (low_some j x present.0) a.0 next
  under_runs (j ∷ j' ∷ []) [] k value q s l st few present same some a next = absurd (omega arith)
  under_runs (j ∷ j' ∷ []) (x ∷ []) k value q s l st few present same some a next = absurd (omega arith)
  under_runs (j ∷ j' ∷ []) (x ∷ y ∷ z ∷ values) k value q s l st few present same some a next = absurd (omega arith)
  under_runs (j ∷ j' ∷ j'' ∷ ks) values k value q s l st few present same some a next = absurd few

  copy_one : (o : Option Word) (q : ℕ) (s : State) (l st : List Word) → o ≢ None → At c.body h q (i.Plain plain.Dup)
      → {A : Type 0} {land : A → State → List Word → Next} {good : A → Type 0} {out : Out A}
      → Sim codes limits c h g land good (at codes limits c (suc q) l (pushed o (pushed o st)) s) out
      → Sim codes limits c h g land good (at codes limits c q l (pushed o st) s) out
  copy_one (Some word) q s l st some a next = step_to codes limits l (word ∷ st) s a next
  copy_one None q s l st some a next = absurd (some refl)

  copy_two : (o o' : Option Word) (q : ℕ) (s : State) (l st : List Word) → o ≢ None → o' ≢ None → At c.body h q (i.Plain plain.Dup2)
      → {A : Type 0} {land : A → State → List Word → Next} {good : A → Type 0} {out : Out A}
      → Sim codes limits c h g land good (at codes limits c (suc q) l (pushed o (pushed o' (pushed o (pushed o' st)))) s) out
      → Sim codes limits c h g land good (at codes limits c q l (pushed o (pushed o' st)) s) out
  copy_two (Some word) (Some word') q s l st some some' a next = step_to codes limits l (word ∷ word' ∷ st) s a next
  copy_two (Some word) None q s l st some some' a next = absurd (some' refl)
  copy_two None o' q s l st some some' a next = absurd (some refl)

  -- the parts of a place are copied
  pub copies_run : (ks : List Representation) (values : List Value) (q : ℕ) (s : State) (l st : List Word)
      → AreOneOrTwo ks → ArePresent ks → length ks ≡ length values → AllAt c.body h q (copies (length ks))
      → {A : Type 0} {land : A → State → List Word → Next} {good : A → Type 0} {out : Out A}
      → Sim codes limits c h g land good (at codes limits c (end_all q (copies (length ks))) l (push ks values (push ks values st)) s) out
      → Sim codes limits c h g land good (at codes limits c q l (push ks values st) s) out
  copies_run [] values q s l st few present same a next = absurd few
  copies_run (j ∷ []) (x ∷ []) q s l st few present same a next = copy_one (low j x) q s l st (low_some j x present.0) a.0 next
  copies_run (j ∷ []) [] q s l st few present same a next = absurd (omega arith)
  copies_run (j ∷ []) (x ∷ y ∷ values) q s l st few present same a next = absurd (omega arith)
  copies_run (j ∷ j' ∷ []) (x ∷ y ∷ []) q s l st few present same a next =
      copy_two (low j' y) (low j x) q s l st (low_some j' y present.1.0) (low_some j x present.0) a.0 next
  copies_run (j ∷ j' ∷ []) [] q s l st few present same a next = absurd (omega arith)
  copies_run (j ∷ j' ∷ []) (x ∷ []) q s l st few present same a next = absurd (omega arith)
  copies_run (j ∷ j' ∷ []) (x ∷ y ∷ z ∷ values) q s l st few present same a next = absurd (omega arith)
  copies_run (j ∷ j' ∷ j'' ∷ ks) values q s l st few present same a next = absurd few

  -- the old value or the new one is kept below the parts of its place
  pub before_runs : (x : Gives) (ks : List Representation) (values : List Value) (k : Representation) (value : Value) (q : ℕ) (s : State) (l st : List Word)
      → AreOneOrTwo ks → ArePresent ks → length ks ≡ length values → k ≢ Absent → AllAt c.body h q (kept_before (length ks) x)
      → {A : Type 0} {land : A → State → List Word → Next} {good : A → Type 0} {out : Out A}
      → Sim codes limits c h g land good (at codes limits c (end_all q (kept_before (length ks) x)) l (pushed (low k value) (push ks values (kept_old k x value st))) s) out
      → Sim codes limits c h g land good (at codes limits c q l (pushed (low k value) (push ks values st)) s) out
  before_runs gives.Old ks values k value q s l st few present same some a next = under_runs ks values k value q s l st few present same some a next
  before_runs gives.New ks values k value q s l st few present same some a next = next

  pub behind_runs : (x : Gives) (ks : List Representation) (values : List Value) (k : Representation) (value : Value) (q : ℕ) (s : State) (l st : List Word)
      → AreOneOrTwo ks → ArePresent ks → length ks ≡ length values → k ≢ Absent → AllAt c.body h q (kept_behind (length ks) x)
      → {A : Type 0} {land : A → State → List Word → Next} {good : A → Type 0} {out : Out A}
      → Sim codes limits c h g land good (at codes limits c (end_all q (kept_behind (length ks) x)) l (pushed (low k value) (push ks values (kept_new k x value st))) s) out
      → Sim codes limits c h g land good (at codes limits c q l (pushed (low k value) (push ks values st)) s) out
  behind_runs gives.Old ks values k value q s l st few present same some a next = next
  behind_runs gives.New ks values k value q s l st few present same some a next = under_runs ks values k value q s l st few present same some a next

  -- ---- writes by members: what is given is dropped

  without_at : (k : Representation) (q : ℕ) → At c.body h q (i.Plain plain.Pop) → AllAt c.body h q (without_null k)
  without_at Absent q a = (a, tt)
  without_at Boxed q a = tt
  without_at Unboxed q a = tt

  given_drops : (k : Representation) (q : ℕ) (st : List Word) (n : Next) (o : Out Value) → At c.body h q (i.Plain plain.Pop)
      → Sim codes limits c h g (land_value funs codes limits c k (end_all q (without_null k)) st) Any n o
      → Sim codes limits c h g (λ dropped s l. at codes limits c (suc q) l st s) Any n o
  given_drops Absent q st n o a d = d
  given_drops Boxed q st n o a d = lands_on codes limits (λ value s l r _ k. does_next codes limits c h q _ l (R value ∷ st) s r a k) (λ value y. y) d
  given_drops Unboxed q st n o a d = lands_on codes limits (λ value s l r _ k. does_next codes limits c h q _ l (unboxed value ∷ st) s r a k) (λ value y. y) d

-- ---- writes

module _ (texts : TextsName) (funs : Programs) (codes : Codes) (limits : Limits) (m : Meaning) (reads : ReadsBack) (c : Ctx codes) (h : Handlers) (g : Scope) where
  abbrev Writes : Operation → Ty → List Representation → List Value → Value → ℕ → State → Env → List Word → List Word → Type 0
  Writes write of ks values new q s e l st =
      Sim codes limits c h g (λ dropped s l. at codes limits c (end_all q (write_code write of)) l st s) Any
      (at codes limits c q l (pushed (low (representation_of of) new) (push ks values st)) s) (applied funs limits m write (place codes limits c) s e of (values ++ new ∷ []))

  member_writes : (member : Member) (of : Ty) (ks : List Representation) (values : List Value) (new : Value) (q : ℕ) (s : State) (e : Env) (l st : List Word)
      → MemberWrites member ks of → AllAt c.body h q (write_code (operation.Instance member) of) → length ks ≡ length values → Fits c.body g e l
      → Writes (operation.Instance member) of ks values new q s e l st
  member_writes member of ks values new q s e l st fits a same f =
      let k = representation_of of in
      let many : length (ks ++ k ∷ []) ≡ length (values ++ new ∷ []) = omega (arith, length-append ks (k ∷ []), length-append values (new ∷ []), same) in
      subst (λ st'. Sim codes limits c h g (λ dropped s l. at codes limits c (suc (suc q)) l st s) Any
      (at codes limits c q l st' s) (applied funs limits m (operation.Instance member) (place codes limits c) s e of (values ++ new ∷ []))) (push_last ks values k new st same)
      (given_drops funs codes limits c h g (representation_of fits.given) (suc q) st _ _ a.1.0
      (step_to codes limits l (push (ks ++ k ∷ []) (values ++ new ∷ []) st) s a.0
      (member_runs texts funs codes limits m c h g kind.Instance member (ks ++ k ∷ []) fits.given fits.fits (values ++ new ∷ []) q _ s e l st a.0
      (without_at funs codes limits c h g (representation_of fits.given) (suc q) a.1.0) many f)))

  element_writes : (of : Ty) (values : List Value) (new : Value) (q : ℕ) (s : State) (e : Env) (l st : List Word)
      → AllAt c.body h q (write_code (operation.Operator operator.PutElement) of) → is_known of ≡ true → representation_of of ≢ Absent
      → 2 ≡ length values → Fits c.body g e l
      → Writes (operation.Operator operator.PutElement) of (Boxed ∷ Unboxed ∷ []) values new q s e l st
  element_writes of [] new q s e l st a known some same f = absurd (omega arith)
  element_writes of (array ∷ []) new q s e l st a known some same f = absurd (omega arith)
  element_writes of (array ∷ index ∷ []) new q s e l st a known some same f =
      subst (λ o. Sim codes limits c h g (λ dropped s l. at codes limits c (suc q) l st s) Any
      (at codes limits c q l (pushed o (unboxed index ∷ R array ∷ st)) s) (operated (written_at of (array ∷ index ∷ new ∷ []) s.world.store) s e))
      (sym (low_is (representation_of of) new some)) (written_runs funs codes limits reads c h g of array index new q s e l st a.0 known f)
  element_writes of (array ∷ index ∷ other ∷ values) new q s e l st a known some same f = absurd (omega arith)

  write_does : (write : Operation) (of : Ty) (ks : List Representation) (values : List Value) (new : Value) (q : ℕ) (s : State) (e : Env) (l st : List Word)
      → WriteFits write ks of → representation_of of ≢ Absent → AllAt c.body h q (write_code write of) → length ks ≡ length values → Fits c.body g e l
      → Writes write of ks values new q s e l st
  write_does (operation.Instance member) of ks values new q s e l st fits some a same f = member_writes member of ks values new q s e l st fits a same f
  write_does (operation.Operator operator.PutElement) of ks values new q s e l st fits some a same f =
      subst (λ ks. Writes (operation.Operator operator.PutElement) of ks values new q s e l st) (sym fits.0)
      (element_writes of values new q s e l st a fits.1 some (sym (ap length fits.0) ∙ same) f)
  write_does (operation.PutDefName name) of ks values new q s e l st fits some a same f =
      name_writes funs codes limits m c h g name of ks values new q s e l st a.0 fits.0 fits.1 same f
  write_does operation.PutDefIndex of ks values new q s e l st fits some a same f =
      index_writes funs codes limits m c h g of ks values new q s e l st a.0 fits.0 fits.1 same f
  write_does other of ks values new q s e l st fits some a same f = absurd fits

  -- a value that lies on the parts of its place is written there
  pub write_runs : (write : Operation) (of : Ty) (ks : List Representation) (values : List Value) (new : Value) (q : ℕ) (s : State) (e : Env) (l st : List Word)
      → PlaceFits write ks of → AllAt c.body h q (write_code write of) → length ks ≡ length values → Fits c.body g e l
      → Writes write of ks values new q s e l st
  write_runs write of ks values new q s e l st fits a same f = write_does write of ks values new q s e l st fits.writes fits.present a same f
