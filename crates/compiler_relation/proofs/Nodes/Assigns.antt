-- Assignments.
use Rattle.std.proofs.Common.{◌≡◌, ◌≢◌, ℕ, suc, Bool, true, false, List, [], ◌∷◌, length, Option, Some, None, refl, sym, ◌∙◌, subst}
use Rattle.std.specs.Prelude.{slice_get}
use Rattle.pl_types.specs.declared.ty.Ty.{Ty}
use Rattle.member_names.specs.Names.{TextsName}
use Rattle.object_values.specs.declared.value.Value.{Value}
use Rattle.typed_tree.specs.declared.operation.Operation.{Operation}
use Rattle.typed_tree.specs.declared.operation.Target.{Target}
use Rattle.typed_tree.specs.declared.operation.Target.TheVariants as target
use Rattle.typed_tree.specs.declared.operation.Change.{Change}
use Rattle.typed_tree.specs.declared.operation.Gives.{Gives}
use Rattle.run_state.specs.World.{Limits}
use Rattle.source_meaning.specs.Tree.{Name, Expr, Assign, Modify, Exprs, Programs, functions_in, type_of}
use Rattle.source_meaning.specs.Meaning.{State, Env, Done, Meaning, lookup, assigned, given_by, changed, written, modified_at, expr_of}
use Rattle.code_meaning.specs.declared.word.Word.{Word}
use Rattle.code_meaning.specs.Machine.{Codes, Handlers, pushed}
use Rattle.compiler_relation.specs.Representation.{Representation, Absent, representation_of, low}
use Rattle.compiler_relation.specs.Parts.{operator_takes, operator_gives, operator_code, cast_code, read_code, write_code, copies, kept_before, kept_behind}
use Rattle.compiler_relation.specs.Stands.{Entry, Scope, AllAt, entry_of, end_all, change_first, change_last, end_read, end_expr, end_exprs, representations, ReadFits, PlaceFits, ChangeFits, AreCompiled, ExprAt}
use Rattle.compiler_relation.proofs.Locals.{Agrees, Fits, reads as entry_reads}
use Rattle.compiler_relation.proofs.Follows.{Ctx, at, place, Sim, and_then, done, step_to}
use Rattle.compiler_relation.proofs.Refines.{push, Any, land_value, ExprRuns, Refines}
use Rattle.compiler_relation.proofs.Nodes.References.{operator_runs}
use Rattle.std.specs.Prelude.{if◌then◌else◌}
use Rattle.std.specs.Str.{bytes_eq}
use Rattle.compiler_relation.proofs.Nodes.Casts.{ReadsBack, cast_runs}
use Rattle.compiler_relation.proofs.Nodes.Applies.{applied_runs}
use Rattle.compiler_relation.proofs.Nodes.Places.{parts_present, under_runs, copies_run, before_runs, behind_runs, write_runs}
use Rattle.compiler_relation.proofs.Nodes.Exprs.{load_does, store_runs, double_runs, kept_old, kept_new, keeps_before, keeps_behind, old_and_new}

-- a name that is in sight has a value that is represented somehow
entry_present : (g : Scope) (e : Env) (l : List Word) (x : Name) (y : Entry) → entry_of g x ≡ Some y → Agrees g e l → representation_of y.of ≢ Absent
entry_present [] e l x y is a = cc
entry_present (z ∷ g) [] l x y is a = absurd a
entry_present (z ∷ g) (b ∷ e) l x y is a = pick (λ is. entry_present g e l x y is a.3) (bytes_eq x z.name) is
  where
    pick : (entry_of g x ≡ Some y → representation_of y.of ≢ Absent) → (t : Bool) → (if t then Some z else entry_of g x) ≡ Some y → representation_of y.of ≢ Absent
    pick older true is = let same : z ≡ y = cc in subst (λ (y : Entry). representation_of y.of ≢ Absent) same a.1
    pick older false is = older is

module _ (funs : Programs) (codes : Codes) (limits : Limits) (m : Meaning) (ih : Refines funs codes limits m) (reads : ReadsBack) (texts : TextsName)
    (made : AreCompiled funs codes) where
  -- a value that is represented as it should be
  relies : (c : Ctx codes) (h : Handlers) (g : Scope) (k k' : Representation) (value : Value) (q : ℕ) (s : State) (e : Env) (l st : List Word) → k ≡ k' → Fits c.body g e l
      → Sim codes limits c h g (land_value funs codes limits c k' q st) Any (at codes limits c q l (pushed (low k value) st) s) (Done value s e)
  relies c h g k k' value q s e l st same f =
      subst (λ k. Sim codes limits c h g (land_value funs codes limits c k' q st) Any (at codes limits c q l (pushed (low k value) st) s) (Done value s e)) (sym same) (done codes limits f tt)

  -- a value on the parts of its place is written there, and given by the assignment
  written_runs : (c : Ctx codes) (h : Handlers) (g : Scope) (write : Operation) (of : Ty) (ks : List Representation) (values : List Value) (new given : Value) (q : ℕ)
      (s : State) (e : Env) (l st : List Word)
      → PlaceFits write ks of → AllAt c.body h q (write_code write of) → length ks ≡ length values → Fits c.body g e l
      → Sim codes limits c h g (land_value funs codes limits c (representation_of of) (end_all q (write_code write of)) st) Any
      (at codes limits c q l (pushed (low (representation_of of) new) (push ks values (pushed (low (representation_of of) given) st))) s)
      (written funs limits m write (place codes limits c) s e of values new given)
  written_runs c h g write of ks values new given q s e l st fits a same f =
      and_then codes limits (write_runs texts funs codes limits m reads c h g write of ks values new q s e l (pushed (low (representation_of of) given) st) fits a same f)
      (λ dropped s e l f _. done codes limits f tt)

  -- a value that was read is cast and changed, and what that gives cast back
  changed_runs : (c : Ctx codes) (h : Handlers) (g : Scope) (of : Ty) (change : Change) (right : Expr) (old : Value) (q : ℕ) (s : State) (e : Env) (l st : List Word)
      → ChangeFits change of (representation_of (type_of right))
      → AllAt c.body h q (cast_code change.before of) → ExprAt (functions_in funs c.text) c.body h g (end_all q (cast_code change.before of)) right
      → AllAt c.body h (end_expr (end_all q (cast_code change.before of)) right) (operator_code change.operator)
      → AllAt c.body h (end_all (end_expr (end_all q (cast_code change.before of)) right) (operator_code change.operator)) (cast_code change.after of) → Fits c.body g e l
      → Sim codes limits c h g
      (land_value funs codes limits c (representation_of of)
      (end_all (end_all (end_expr (end_all q (cast_code change.before of)) right) (operator_code change.operator)) (cast_code change.after of)) st) Any
      (at codes limits c q l (pushed (low (representation_of of) old) st) s) (changed funs limits m of change (place codes limits c) s e right old)
  changed_runs c h g of change right old q s e l st fits before stands does after f =
      let k = representation_of of in
      let kr = representation_of (type_of right) in
      let takes = operator_takes change.operator in
      let gives = operator_gives change.operator in
      and_then codes limits (cast_runs funs codes limits reads c h g change.before of k takes fits.before old q s e l st before f) (λ left s e l f _.
      and_then codes limits (ih.expr right c h g _ s e l (pushed (low takes left) st) stands f) (λ value s e l f _.
      and_then codes limits (operator_runs funs codes limits c h g change.operator (takes ∷ kr ∷ []) (left ∷ value ∷ []) gives _ s e l st does (refl, (fits.right, tt)) fits.does refl refl f)
      (λ result s e l f _. cast_runs funs codes limits reads c h g change.after of gives k fits.after result _ s e l st after f)))

  pub assign_runs : (at' : ℕ) (of : Ty) (to : Target) (parts : Exprs) (value : Expr) → ExprRuns funs codes limits (λ d s e. expr_of funs limits m d s e (Assign at' of to parts value)) (Assign at' of to parts value)
  assign_runs at' of (target.Local x) parts value c h g p s e l st stands f =
      let y = stands.2.0 in
      let is = stands.2.1.is in
      let k = representation_of (type_of value) in
      and_then codes limits (ih.expr value c h g p s e l st stands.0 f) (λ value s e l f _.
      let some : k ≢ Absent = λ absent. entry_present g e l x y is f.names (sym stands.2.2 ∙ absent) in
      double_runs funs codes limits c h g k value _ s l st some stands.1
      (store_runs funs codes limits c h g x y k value _ s e l (pushed (low k value) st) is stands.2.2 some stands.2.4 f (λ l f.
      relies c h g k (representation_of of) value _ s _ l st (stands.2.2 ∙ sym stands.2.3) f)))
  assign_runs at' of (target.Place read write) parts value c h g p s e l st stands f =
      let ks = representations parts in
      let k = representation_of of in
      let fits = stands.5 in
      and_then codes limits (ih.exprs parts c h g p s e l st stands.0 f) (λ values s e l f y.
      and_then codes limits (ih.expr value c h g _ s e l (push ks values st) stands.1 f) (λ new s e l f _.
      subst (λ j. Sim codes limits c h g (land_value funs codes limits c k (end_expr p (Assign at' of (target.Place read write) parts value)) st) Any
      (at codes limits c (end_expr (end_exprs p parts) value) l (pushed (low j new) (push ks values st)) s)
      (written funs limits m write (place codes limits c) s e of values new new)) (sym stands.4)
      (under_runs funs codes limits c h g ks values k new _ s l st fits.few (parts_present write ks of fits) y.is fits.present stands.2
      (written_runs c h g write of ks values new new _ s e l st fits stands.3 y.is f))))

  -- a compound assignment to a place, whose parts lie on the stack
  place_modified : (c : Ctx codes) (h : Handlers) (g : Scope) (read : Option Operation) (write : Operation) (of : Ty) (change : Change) (right : Expr) (given : Gives)
      (ks : List Representation) (values : List Value) (q : ℕ) (s : State) (e : Env) (l st : List Word)
      → AllAt c.body h q (copies (length ks)) → AllAt c.body h (end_all q (copies (length ks))) (read_code read of (length ks))
      → AllAt c.body h (end_read (length ks) read of q) (kept_before (length ks) given)
      → AllAt c.body h (end_all (end_read (length ks) read of q) (kept_before (length ks) given)) (cast_code change.before of)
      → ExprAt (functions_in funs c.text) c.body h g (change_first (length ks) given change of (end_read (length ks) read of q)) right
      → AllAt c.body h (end_expr (change_first (length ks) given change of (end_read (length ks) read of q)) right) (operator_code change.operator)
      → AllAt c.body h (end_all (end_expr (change_first (length ks) given change of (end_read (length ks) read of q)) right) (operator_code change.operator)) (cast_code change.after of)
      → AllAt c.body h (end_all (end_all (end_expr (change_first (length ks) given change of (end_read (length ks) read of q)) right) (operator_code change.operator)) (cast_code change.after of))
      (kept_behind (length ks) given)
      → AllAt c.body h (change_last (length ks) given change of (end_expr (change_first (length ks) given change of (end_read (length ks) read of q)) right)) (write_code write of)
      → ChangeFits change of (representation_of (type_of right)) → ReadFits (functions_in funs c.text) read ks of → PlaceFits write ks of → length ks ≡ length values → Fits c.body g e l
      → Sim codes limits c h g
      (land_value funs codes limits c (representation_of of)
      (end_all (change_last (length ks) given change of (end_expr (change_first (length ks) given change of (end_read (length ks) read of q)) right)) (write_code write of)) st) Any
      (at codes limits c q l (push ks values st) s) (modified_at funs limits m read write of change (place codes limits c) s e values right given)
  place_modified c h g None write of change right given ks values q s e l st a0 a1 a2 a3 a4 a5 a6 a7 a8 fits reading writing same f = record { by = tt }
  place_modified c h g (Some read) write of change right given ks values q s e l st a0 a1 a2 a3 a4 a5 a6 a7 a8 fits reading writing same f =
      let k = representation_of of in
      let present = parts_present write ks of writing in
      let last = end_all (change_last (length ks) given change of (end_expr (change_first (length ks) given change of (end_read (length ks) (Some read) of q)) right)) (write_code write of) in
      copies_run funs codes limits c h g ks values q s l st writing.few present same a0
      (and_then codes limits (applied_runs funs codes limits m ih reads texts made read of c h g ks values _ s e l (push ks values st) a1 reading same f) (λ old s e l f _.
      before_runs funs codes limits c h g given ks values k old _ s l st writing.few present same writing.present a2
      (and_then codes limits (changed_runs c h g of change right old _ s e l (push ks values (kept_old k given old st)) fits a3 a4 a5 a6 f) (λ new s e l f _.
      behind_runs funs codes limits c h g given ks values k new _ s l (kept_old k given old st) writing.few present same writing.present a7
      (subst (λ st'. Sim codes limits c h g (land_value funs codes limits c k last st) Any
      (at codes limits c (change_last (length ks) given change of (end_expr (change_first (length ks) given change of (end_read (length ks) (Some read) of q)) right)) l
      (pushed (low k new) (push ks values st')) s) (written funs limits m write (place codes limits c) s e of values new (given_by given old new)))
      (sym (old_and_new funs codes limits c h g given k old new st))
      (written_runs c h g write of ks values new (given_by given old new) _ s e l st writing a8 same f))))))

  pub modify_runs : (at' : ℕ) (of : Ty) (to : Target) (parts : Exprs) (change : Change) (right : Expr) (given : Gives)
      → ExprRuns funs codes limits (λ d s e. expr_of funs limits m d s e (Modify at' of to parts change right given)) (Modify at' of to parts change right given)
  modify_runs at' of (target.Local x) parts change right given c h g p s e l st stands f =
      let y = stands.0 in
      let is = stands.1.is in
      let k = representation_of of in
      let fits = stands.11 in
      let last = suc (change_last 0 given change of (end_expr (change_first 0 given change of (suc p)) right)) in
      step_to codes limits l st s stands.3
      (and_then codes limits (load_does funs codes limits c h g k (representation_of y.of) (lookup e x) (slice_get l y.local) p s e l st st (sym stands.2) (entry_reads g e l x y is f.names) f) (λ old s e l f _.
      keeps_before funs codes limits c h g given k old (suc p) s l st fits.present stands.4
      (and_then codes limits (changed_runs c h g of change right old _ s e l (kept_old k given old st) fits stands.5 stands.6 stands.7 stands.8 f) (λ new s e l f _.
      keeps_behind funs codes limits c h g given k new _ s l (kept_old k given old st) fits.present stands.9
      (store_runs funs codes limits c h g x y k new _ s e l (kept_new k given new (kept_old k given old st)) is (sym stands.2) fits.present stands.10 f (λ l f.
      subst (λ st'. Sim codes limits c h g (land_value funs codes limits c k last st) Any (at codes limits c last l st' s) (Done (given_by given old new) s (assigned e x new)))
      (sym (old_and_new funs codes limits c h g given k old new st)) (done codes limits f tt)))))))
  modify_runs at' of (target.Place read write) parts change right given c h g p s e l st stands f =
      and_then codes limits (ih.exprs parts c h g p s e l st stands.0 f) (λ values s e l f y.
      place_modified c h g read write of change right given (representations parts) values _ s e l st stands.1 stands.2 stands.3 stands.4 stands.5 stands.6 stands.7 stands.8 stands.9
      stands.10 stands.11 stands.12 y.is f)
