-- What is to be written for each kind of expression.
use Rattle.std.proofs.Common.{◌≡◌, ℕ, suc, List, [], ◌∷◌, sym, ◌∙◌, subst, Option, Some}
use Rattle.pl_types.specs.declared.ty.Ty.{Ty}
use Rattle.pl_code.specs.declared.kinds.Numbered.{Numbered}
use Rattle.pl_code.specs.declared.kinds.Numbered.TheVariants as numbered
use Rattle.pl_code.specs.declared.code.FunCode.{FunCode}
use Rattle.pl_code.specs.declared.code.Instruction.TheVariants as i
use Rattle.pl_code.specs.declared.kinds.Plain.TheVariants as plain
use Rattle.typed_tree.specs.declared.operation.Operation.{Operation}
use Rattle.typed_tree.specs.declared.operation.Operation.TheVariants as operation
use Rattle.typed_tree.specs.declared.operation.Logical.{Logical}
use Rattle.typed_tree.specs.declared.operation.Logical.TheVariants.{And, Or}
use Rattle.typed_tree.specs.declared.operation.Target.TheVariants as target
use Rattle.typed_tree.specs.declared.operation.Change.{Change}
use Rattle.typed_tree.specs.declared.operation.Gives.{Gives}
use Rattle.source_meaning.specs.Tree.{Name, Expr, Local, Logic, Conditional, Elvis, Assign, Modify, Apply, Guarded, Exprs, None', One, Program, type_of}
use Rattle.compiler_relation.specs.Representation.{representation_of, Representation, Unboxed, Boxed}
use Rattle.compiler_relation.specs.Parts.{operator_code, kept_under, copies, kept_before, kept_behind, without_null}
use Rattle.allowlist.specs.declared.member.MemberKind.TheVariants as kinds
use Rattle.typed_tree.specs.declared.operation.Member.{Member}
use Rattle.codegen.specs.Checks.{jump_of}
use Rattle.compiler_relation.specs.Stands.{Entry, Scope, IsEntry, At, end_expr, end_exprs, count, PlaceFits, GuardFits, settled, settles, Fitting, ChangeFits, representations, change_first, change_last, elvis_right}
use Rattle.compiler_relation.specs.Placed.{untrapped}
use Rattle.codegen.specs.Labels.{line_of}
use Rattle.codegen.specs.Called.{IsFound}
use Rattle.codegen.specs.Worklist.{Item, Value, Values, Put, Convert, Operate, Write, Call, Jump, Bind, Load, Store, Wanted, Wants, Taken, Back}
use Rattle.codegen.specs.declared.config.Config.{Config}
use Rattle.codegen.proofs.Back.{planned}

-- a jump to where a label is
pub goes_to : (f : FunCode) (p : ℕ) (kind : Numbered) (line to : ℕ) → line ≡ to → At f [] p (i.Numbered kind line) → At f [] p (i.Numbered kind to)
goes_to f p kind line to e a = subst (λ to. At f [] p (i.Numbered kind to)) e a

settles_so : (f : FunCode) (p : ℕ) (o : Logical) (to : ℕ) → At f [] p (i.Numbered (jump_of o) to) → At f [] p (settles o to)
settles_so f p And to a = a
settles_so f p Or to a = a

-- a name has one entry
same_entry : (g : Scope) (x : Name) (y z : Entry) → IsEntry g x y → IsEntry g x z → z ≡ y
same_entry g x y z a b = let h : Some z ≡ Some y = sym b.is ∙ a.is in cc

module _ (funs : Program) (todo : List Item) (c : Config) where
  pub local_plan : (at : ℕ) (of : Ty) (x : Name) (representation : Representation) → representation ≡ representation_of of → Back funs (Value (Local at of x) ∷ todo) c (Load x representation ∷ todo) c
  local_plan at of x representation e = planned funs (Value (Local at of x) ∷ todo) c (Load x representation ∷ todo) (λ f labels g n p flows whole s. ((s.0.0, s.0.1, sym e ∙ s.0.2, s.0.3), s.1))

  pub conditional_plan : (at : ℕ) (of : Ty) (a b d : Expr) (other end : ℕ) → representation_of (type_of a) ≡ Unboxed → representation_of (type_of b) ≡ representation_of of → representation_of (type_of d) ≡ representation_of of
      → Back funs (Value (Conditional at of a b d) ∷ todo) c
      (Value a ∷ Jump numbered.IfZero other ∷ Value b ∷ Jump numbered.Goto end ∷ Bind other ∷ Value d ∷ Bind end ∷ todo) c
  conditional_plan at of a b d other end ea eb ed =
      planned funs (Value (Conditional at of a b d) ∷ todo) c (Value a ∷ Jump numbered.IfZero other ∷ Value b ∷ Jump numbered.Goto end ∷ Bind other ∷ Value d ∷ Bind end ∷ todo)
      (λ f labels g n p flows whole s.
      let q = suc (end_expr p a) in
      let r = suc (end_expr q b) in (
        (
          s.0,
          goes_to (untrapped f) (end_expr p a) numbered.IfZero (line_of labels other) r s.1.1.1.1.0 s.1.0,
          s.1.1.0,
          goes_to (untrapped f) (end_expr q b) numbered.Goto (line_of labels end) (end_expr r d) s.1.1.1.1.1.1.0 s.1.1.1.0,
          s.1.1.1.1.1.0,
          ea,
          eb,
          ed,
        ),
        s.1.1.1.1.1.1.1,
      ))

  pub elvis_plan : (at : ℕ) (of : Ty) (a b : Expr) (other end : ℕ) → representation_of (type_of a) ≡ Boxed → representation_of (type_of b) ≡ Boxed → representation_of of ≡ Boxed
      → Back funs (Value (Elvis at of a b) ∷ todo) c
      (Value a ∷ Put (i.Plain plain.Dup ∷ []) ∷ Jump numbered.IfNull other ∷ Jump numbered.Goto end ∷ Bind other ∷ Put (i.Plain plain.Pop ∷ []) ∷ Value b ∷ Bind end ∷ todo) c
  elvis_plan at of a b other end ea eb e =
      planned funs (Value (Elvis at of a b) ∷ todo) c
      (Value a ∷ Put (i.Plain plain.Dup ∷ []) ∷ Jump numbered.IfNull other ∷ Jump numbered.Goto end ∷ Bind other ∷ Put (i.Plain plain.Pop ∷ []) ∷ Value b ∷ Bind end ∷ todo)
      (λ f labels g n p flows whole s.
      let q = end_expr p a in (
        (
          s.0,
          s.1.0.0,
          goes_to (untrapped f) (suc q) numbered.IfNull (line_of labels other) (suc (suc (suc q))) s.1.1.1.1.0 s.1.1.0,
          goes_to (untrapped f) (suc (suc q)) numbered.Goto (line_of labels end) (end_expr (elvis_right q) b) s.1.1.1.1.1.1.1.0 s.1.1.1.0,
          s.1.1.1.1.1.0.0,
          s.1.1.1.1.1.1.0,
          ea,
          eb,
          e,
        ),
        s.1.1.1.1.1.1.1.1,
      ))

  pub logical_plan : (at : ℕ) (of : Ty) (o : Logical) (a b : Expr) (other end : ℕ) → representation_of (type_of a) ≡ Unboxed → representation_of (type_of b) ≡ Unboxed → representation_of of ≡ Unboxed
      → Back funs (Value (Logic at of o a b) ∷ todo) c
      (Value a ∷ Jump (jump_of o) other ∷ Value b ∷ Jump numbered.Goto end ∷ Bind other ∷ Put (settled o ∷ []) ∷ Bind end ∷ todo) c
  logical_plan at of o a b other end ea eb e =
      planned funs (Value (Logic at of o a b) ∷ todo) c (Value a ∷ Jump (jump_of o) other ∷ Value b ∷ Jump numbered.Goto end ∷ Bind other ∷ Put (settled o ∷ []) ∷ Bind end ∷ todo)
      (λ f labels g n p flows whole s.
      let q = suc (end_expr p a) in
      let r = end_expr q b in (
        (
          s.0,
          settles_so (untrapped f) (end_expr p a) o (suc r) (goes_to (untrapped f) (end_expr p a) (jump_of o) (line_of labels other) (suc r) s.1.1.1.1.0 s.1.0),
          s.1.1.0,
          goes_to (untrapped f) r numbered.Goto (line_of labels end) (suc (suc r)) s.1.1.1.1.1.1.0 s.1.1.1.0,
          s.1.1.1.1.1.0.0,
          ea,
          eb,
          e,
        ),
        s.1.1.1.1.1.1.1,
      ))

  pub assign_plan : (at : ℕ) (of : Ty) (x : Name) (parts : Exprs) (a : Expr) (representation : Representation) → representation ≡ representation_of of → representation_of (type_of a) ≡ representation
      → Back funs (Value (Assign at of (target.Local x) parts a) ∷ todo) c (Value a ∷ Put (i.Plain plain.Dup ∷ []) ∷ Store x representation ∷ todo) c
  assign_plan at of x parts a representation e ea =
      planned funs (Value (Assign at of (target.Local x) parts a) ∷ todo) c (Value a ∷ Put (i.Plain plain.Dup ∷ []) ∷ Store x representation ∷ todo)
      (λ f labels g n p flows whole s. ((s.0, s.1.0.0, (s.1.1.0.0, s.1.1.0.1, ea ∙ s.1.1.0.2, sym e ∙ s.1.1.0.2, s.1.1.0.3)), s.1.1.1))

  pub modify_plan : (at : ℕ) (of : Ty) (x : Name) (parts : Exprs) (change : Change) (a : Expr) (gives : Gives) (representation : Representation) → representation ≡ representation_of of → ChangeFits change of (representation_of (type_of a))
      → Back funs (Value (Modify at of (target.Local x) parts change a gives) ∷ todo) c
      (Load x representation ∷ Put (kept_before 0 gives) ∷ Convert change.before of ∷ Value a ∷ Put (operator_code change.operator) ∷ Convert change.after of ∷ Put (kept_behind 0 gives) ∷ Store x representation ∷ todo) c
  modify_plan at of x parts change a gives representation e fits =
      planned funs (Value (Modify at of (target.Local x) parts change a gives) ∷ todo) c
      (Load x representation ∷ Put (kept_before 0 gives) ∷ Convert change.before of ∷ Value a ∷ Put (operator_code change.operator) ∷ Convert change.after of ∷ Put (kept_behind 0 gives) ∷ Store x representation ∷ todo)
      (λ f labels g n p flows whole s.
      let load = s.0 in
      let store = s.1.1.1.1.1.1.1.0 in (
        (
          load.0,
          load.1,
          sym load.2 ∙ e,
          load.3,
          s.1.0,
          s.1.1.0,
          s.1.1.1.0,
          s.1.1.1.1.0,
          s.1.1.1.1.1.0,
          s.1.1.1.1.1.1.0,
          subst (λ (y : Entry). At (untrapped f) [] (change_last 0 gives change of (end_expr (change_first 0 gives change of (suc p)) a)) (i.Numbered numbered.Store y.local)) (same_entry g x load.0 store.0 load.1 store.1) store.3,
          fits,
        ),
        s.1.1.1.1.1.1.1.1,
      ))

  pub apply_plan : (at : ℕ) (of : Ty) (o : Operation) (parts : Exprs) (wanted : Wanted) (n' : ℕ) → n' ≡ count parts → (Wants wanted (representations parts) → Fitting funs o (representations parts) of)
      → Back funs (Value (Apply at of o parts) ∷ todo) c (Values parts wanted ∷ Operate o of n' ∷ todo) c
  apply_plan at of o parts wanted n' many e =
      subst (λ n'. Back funs (Value (Apply at of o parts) ∷ todo) c (Values parts wanted ∷ Operate o of n' ∷ todo) c) (sym many)
      (planned funs (Value (Apply at of o parts) ∷ todo) c (Values parts wanted ∷ Operate o of (count parts) ∷ todo) (λ f labels g n p flows whole s. ((s.0.0, s.1.0, e s.0.1), s.1.1)))

  pub assign_place_plan : (at : ℕ) (of : Ty) (read : Option Operation) (write : Operation) (parts : Exprs) (a : Expr) (wanted : Wanted) (n' : ℕ) → n' ≡ count parts
      → (Wants wanted (representations parts) → PlaceFits write (representations parts) of) → representation_of (type_of a) ≡ representation_of of
      → Back funs (Value (Assign at of (target.Place read write) parts a) ∷ todo) c (Values parts wanted ∷ Value a ∷ Put (kept_under n') ∷ Write write of ∷ todo) c
  assign_place_plan at of read write parts a wanted n' many fits e =
      subst (λ n'. Back funs (Value (Assign at of (target.Place read write) parts a) ∷ todo) c (Values parts wanted ∷ Value a ∷ Put (kept_under n') ∷ Write write of ∷ todo) c) (sym many)
      (planned funs (Value (Assign at of (target.Place read write) parts a) ∷ todo) c (Values parts wanted ∷ Value a ∷ Put (kept_under (count parts)) ∷ Write write of ∷ todo)
      (λ f labels g n p flows whole s. ((s.0.0, s.1.0, s.1.1.0, s.1.1.1.0, e, fits s.0.1), s.1.1.1.1)))

  pub modify_place_plan : (at : ℕ) (of : Ty) (read write : Operation) (parts : Exprs) (change : Change) (a : Expr) (gives : Gives) (wanted : Wanted) (n' : ℕ) → n' ≡ count parts
      → (Wants wanted (representations parts) → PlaceFits write (representations parts) of) → Fitting funs read (representations parts) of → ChangeFits change of (representation_of (type_of a))
      → Back funs (Value (Modify at of (target.Place (Some read) write) parts change a gives) ∷ todo) c
      (Values parts wanted ∷ Put (copies n') ∷ Operate read of n' ∷ Put (kept_before n' gives) ∷ Convert change.before of ∷ Value a ∷ Put (operator_code change.operator) ∷ Convert change.after of
      ∷ Put (kept_behind n' gives) ∷ Write write of ∷ todo) c
  modify_place_plan at of read write parts change a gives wanted n' many fits reads changes =
      subst (λ n'. Back funs (Value (Modify at of (target.Place (Some read) write) parts change a gives) ∷ todo) c
      (Values parts wanted ∷ Put (copies n') ∷ Operate read of n' ∷ Put (kept_before n' gives) ∷ Convert change.before of ∷ Value a ∷ Put (operator_code change.operator) ∷ Convert change.after of
      ∷ Put (kept_behind n' gives) ∷ Write write of ∷ todo) c) (sym many)
      (planned funs (Value (Modify at of (target.Place (Some read) write) parts change a gives) ∷ todo) c
      (Values parts wanted ∷ Put (copies (count parts)) ∷ Operate read of (count parts) ∷ Put (kept_before (count parts) gives) ∷ Convert change.before of ∷ Value a ∷ Put (operator_code change.operator)
      ∷ Convert change.after of ∷ Put (kept_behind (count parts) gives) ∷ Write write of ∷ todo)
      (λ f labels g n p flows whole s. (
        (
          s.0.0,
          s.1.0,
          s.1.1.0,
          s.1.1.1.0,
          s.1.1.1.1.0,
          s.1.1.1.1.1.0,
          s.1.1.1.1.1.1.0,
          s.1.1.1.1.1.1.1.0,
          s.1.1.1.1.1.1.1.1.0,
          s.1.1.1.1.1.1.1.1.1.0,
          changes,
          reads,
          fits s.0.1,
        ),
        s.1.1.1.1.1.1.1.1.1.1,
      )))

  pub guarded_plan : (at : ℕ) (of : Ty) (m : Member) (a : Expr) (others : Exprs) (wanted : Wanted) (representation : Representation) (end : ℕ) → representation ≡ representation_of of
      → (Wants wanted (representations others) → GuardFits funs (operation.Instance m) (representation_of (type_of a) ∷ representations others) of)
      → Back funs (Value (Guarded at of (operation.Instance m) (One a others)) ∷ todo) c
      (Value a ∷ Put (i.Plain plain.Dup ∷ []) ∷ Jump numbered.IfNull end ∷ Values others wanted ∷ Call kinds.Instance m.text ∷ Bind end ∷ Put (without_null representation) ∷ todo) c
  guarded_plan at of m a others wanted representation end e fits =
      subst (λ (representation : Representation). Back funs (Value (Guarded at of (operation.Instance m) (One a others)) ∷ todo) c
      (Value a ∷ Put (i.Plain plain.Dup ∷ []) ∷ Jump numbered.IfNull end ∷ Values others wanted ∷ Call kinds.Instance m.text ∷ Bind end ∷ Put (without_null representation) ∷ todo) c) (sym e)
      (planned funs (Value (Guarded at of (operation.Instance m) (One a others)) ∷ todo) c
      (Value a ∷ Put (i.Plain plain.Dup ∷ []) ∷ Jump numbered.IfNull end ∷ Values others wanted ∷ Call kinds.Instance m.text ∷ Bind end ∷ Put (without_null (representation_of of)) ∷ todo)
      (λ f labels g n p flows whole s.
      let q = end_expr p a in
      let r = end_exprs (suc (suc q)) others in (
        (
          s.0,
          s.1.0.0,
          goes_to (untrapped f) (suc q) numbered.IfNull (line_of labels end) (suc r) s.1.1.1.1.1.0 s.1.1.0,
          s.1.1.1.0.0,
          (s.1.1.1.1.0, tt),
          s.1.1.1.1.1.1.0,
          fits s.1.1.1.0.1,
        ),
        s.1.1.1.1.1.1.1,
      )))

  -- of what is found when the code runs
  pub found_plan : (at : ℕ) (of : Ty) (does : Operation) (a : Expr) (others : Exprs) (wanted : Wanted) (representation : Representation) (end n' : ℕ) → IsFound does → representation ≡ representation_of of
      → n' ≡ suc (count others) → (Wants wanted (representations others) → GuardFits funs does (representation_of (type_of a) ∷ representations others) of)
      → Back funs (Value (Guarded at of does (One a others)) ∷ todo) c
      (Value a ∷ Put (i.Plain plain.Dup ∷ []) ∷ Jump numbered.IfNull end ∷ Values others wanted ∷ Operate does of n' ∷ Bind end ∷ Put (without_null representation) ∷ todo) c
  found_plan at of does a others wanted representation end n' found e many fits =
      subst (λ (representation : Representation). Back funs (Value (Guarded at of does (One a others)) ∷ todo) c
      (Value a ∷ Put (i.Plain plain.Dup ∷ []) ∷ Jump numbered.IfNull end ∷ Values others wanted ∷ Operate does of n' ∷ Bind end ∷ Put (without_null representation) ∷ todo) c) (sym e)
      (subst (λ n'. Back funs (Value (Guarded at of does (One a others)) ∷ todo) c
      (Value a ∷ Put (i.Plain plain.Dup ∷ []) ∷ Jump numbered.IfNull end ∷ Values others wanted ∷ Operate does of n' ∷ Bind end ∷ Put (without_null (representation_of of)) ∷ todo) c) (sym many)
      (by_sort does found fits))
    where
      by_sort : (does : Operation) → IsFound does → (Wants wanted (representations others) → GuardFits funs does (representation_of (type_of a) ∷ representations others) of)
          → Back funs (Value (Guarded at of does (One a others)) ∷ todo) c
          (Value a ∷ Put (i.Plain plain.Dup ∷ []) ∷ Jump numbered.IfNull end ∷ Values others wanted ∷ Operate does of (suc (count others)) ∷ Bind end ∷ Put (without_null (representation_of of)) ∷ todo) c
      by_sort (operation.DefCall name) found fits =
          planned funs (Value (Guarded at of (operation.DefCall name) (One a others)) ∷ todo) c
          (Value a ∷ Put (i.Plain plain.Dup ∷ []) ∷ Jump numbered.IfNull end ∷ Values others wanted ∷ Operate (operation.DefCall name) of (suc (count others)) ∷ Bind end ∷ Put (without_null (representation_of of)) ∷ todo)
          (λ f labels g n p flows whole s.
          let q = end_expr p a in
          let r = end_exprs (suc (suc q)) others in (
            (
              s.0,
              s.1.0.0,
              goes_to (untrapped f) (suc q) numbered.IfNull (line_of labels end) (suc r) s.1.1.1.1.1.0 s.1.1.0,
              s.1.1.1.0.0,
              s.1.1.1.1.0,
              s.1.1.1.1.1.1.0,
              fits s.1.1.1.0.1,
            ),
            s.1.1.1.1.1.1.1,
          ))
      by_sort (operation.DefName name) found fits =
          planned funs (Value (Guarded at of (operation.DefName name) (One a others)) ∷ todo) c
          (Value a ∷ Put (i.Plain plain.Dup ∷ []) ∷ Jump numbered.IfNull end ∷ Values others wanted ∷ Operate (operation.DefName name) of (suc (count others)) ∷ Bind end ∷ Put (without_null (representation_of of)) ∷ todo)
          (λ f labels g n p flows whole s.
          let q = end_expr p a in
          let r = end_exprs (suc (suc q)) others in (
            (
              s.0,
              s.1.0.0,
              goes_to (untrapped f) (suc q) numbered.IfNull (line_of labels end) (suc r) s.1.1.1.1.1.0 s.1.1.0,
              s.1.1.1.0.0,
              s.1.1.1.1.0,
              s.1.1.1.1.1.1.0,
              fits s.1.1.1.0.1,
            ),
            s.1.1.1.1.1.1.1,
          ))
      by_sort other found fits = absurd found

  pub values_end : (wanted : Wanted) → Wants wanted [] → Back funs (Values None' wanted ∷ todo) c todo c
  values_end wanted e = planned funs (Values None' wanted ∷ todo) c todo (λ f labels g n p flows whole s. ((tt, e), s))

  pub values_more : (a : Expr) (parts : Exprs) (wanted behind : Wanted) → Taken wanted behind (representation_of (type_of a)) → Back funs (Values (One a parts) wanted ∷ todo) c (Value a ∷ Values parts behind ∷ todo) c
  values_more a parts wanted behind e =
      planned funs (Values (One a parts) wanted ∷ todo) c (Value a ∷ Values parts behind ∷ todo) (λ f labels g n p flows whole s. (((s.0, s.1.0.0), e.by (representations parts) s.1.0.1), s.1.1))
